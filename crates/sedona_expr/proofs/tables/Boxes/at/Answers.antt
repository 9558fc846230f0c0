-- `tables::Boxes::at` meets its contract. Assumes nothing.
use borrow.Author.Tests.{eq-eqb, ne_eqb, lt-ltb, le-ltb}
use native.Mathlib.Omega.{arith}
use lib.ListN.{get_or-eq_default}
use Rattle.sedona_expr.specs.Tables.{box_at}
use Rattle.sedona_expr.proofs.tables.Boxes.at.Goals as goal

pub returns-then-place-self : goal.returns-then-place-self
unfolding box_at
returns-then-place-self c = rw (le-ltb _ _ c.if-place-self.true)

pub returns-then-place-self-2 : goal.returns-then-place-self-2
unfolding box_at
returns-then-place-self-2 c = rw (lt-ltb _ _ c.if-place-self.false, get_or-eq_default c.args.self.now.flags.now 0 c.if-place-self-2.true)

pub box_with-requires : goal.box_with-requires
box_with-requires c = omega arith

pub returns-then-flag-eq1 : goal.returns-then-flag-eq1
unfolding box_at
returns-then-flag-eq1 c = rw (lt-ltb _ _ c.if-place-self.false, eq-eqb _ _ c.if-flag-eq1.true, c.box_with.ensures)

pub returns : goal.returns
unfolding box_at
returns c = rw (lt-ltb _ _ c.if-place-self.false, ne_eqb _ _ c.if-flag-eq1.false)
