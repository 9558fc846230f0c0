-- `records::Lent::check` meets its contract. Assumes nothing.
use native.Mathlib.Omega.{arith}
use lib.ListN.{length}
use borrow.Author.Tests.{eq-eqb, ne_eqb}
use Rattle.johikape.specs.Records.{width, lists_refusal}
use Rattle.johikape.proofs.Lists.{not_whole, not_so_many, so_many}
use Rattle.johikape.proofs.records.Lent.check.Goals as goal

pub returns-then-doubles-ne0 : goal.returns-then-doubles-ne0
unfolding lists_refusal
returns-then-doubles-ne0 c = rw (not_whole width (length c.args.self.now.doubles.now) (length c.args.self.now.flags.now) (omega arith) c.if-doubles-ne0.true)

pub returns-then-doubles-count : goal.returns-then-doubles-count
unfolding lists_refusal
returns-then-doubles-count c = rw (not_so_many width (length c.args.self.now.doubles.now) (length c.args.self.now.flags.now) (omega arith) c.if-doubles-count.true)

pub returns-then-totals-ne0 : goal.returns-then-totals-ne0
unfolding lists_refusal
returns-then-totals-ne0 c = rw (so_many width (length c.args.self.now.doubles.now) (length c.args.self.now.flags.now) (omega arith) c.if-doubles-ne0.false c.if-doubles-count.false, not_whole 7 (length c.args.self.now.totals.now) (length c.args.self.now.flags.now) (omega arith) c.if-totals-ne0.true)

pub returns-then-totals-count : goal.returns-then-totals-count
unfolding lists_refusal
returns-then-totals-count c = rw (so_many width (length c.args.self.now.doubles.now) (length c.args.self.now.flags.now) (omega arith) c.if-doubles-ne0.false c.if-doubles-count.false, not_so_many 7 (length c.args.self.now.totals.now) (length c.args.self.now.flags.now) (omega arith) c.if-totals-count.true)

pub returns-then-types-count : goal.returns-then-types-count
unfolding lists_refusal
returns-then-types-count c = rw (so_many width (length c.args.self.now.doubles.now) (length c.args.self.now.flags.now) (omega arith) c.if-doubles-ne0.false c.if-doubles-count.false, so_many 7 (length c.args.self.now.totals.now) (length c.args.self.now.flags.now) (omega arith) c.if-totals-ne0.false c.if-totals-count.false, ne_eqb _ _ c.if-types-count.true)

pub returns-then-are_all_good : goal.returns-then-are_all_good
unfolding lists_refusal
returns-then-are_all_good c = rw (so_many width (length c.args.self.now.doubles.now) (length c.args.self.now.flags.now) (omega arith) c.if-doubles-ne0.false c.if-doubles-count.false, so_many 7 (length c.args.self.now.totals.now) (length c.args.self.now.flags.now) (omega arith) c.if-totals-ne0.false c.if-totals-count.false, eq-eqb _ _ c.if-types-count.false, ← c.are_all_good.ensures, c.if-are_all_good.true)

pub returns-else-are_all_good : goal.returns-else-are_all_good
unfolding lists_refusal
returns-else-are_all_good c = rw (so_many width (length c.args.self.now.doubles.now) (length c.args.self.now.flags.now) (omega arith) c.if-doubles-ne0.false c.if-doubles-count.false, so_many 7 (length c.args.self.now.totals.now) (length c.args.self.now.flags.now) (omega arith) c.if-totals-ne0.false c.if-totals-count.false, eq-eqb _ _ c.if-types-count.false, ← c.are_all_good.ensures, c.if-are_all_good.false)
