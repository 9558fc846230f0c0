-- `tables::Records::types_at` meets its contract. Assumes nothing.
use borrow.Author.Tests.{eq-eqb, ne_eqb, lt-ltb, le-ltb}
use lib.ListN.{get_or-eq_default}
use Rattle.sedona_expr.specs.Tables.{types_at}
use Rattle.sedona_expr.proofs.tables.Records.types_at.Goals as goal

pub returns-then-place-self : goal.returns-then-place-self
unfolding types_at
returns-then-place-self c = rw (le-ltb _ _ c.if-place-self.true)

pub returns-then-place-self-2 : goal.returns-then-place-self-2
unfolding types_at
returns-then-place-self-2 c = rw (lt-ltb _ _ c.if-place-self.false, get_or-eq_default c.args.self.now.known.now 0 c.if-place-self-2.true)

pub returns-then-self-place-eq1 : goal.returns-then-self-place-eq1
unfolding types_at
returns-then-self-place-eq1 c = rw (lt-ltb _ _ c.if-place-self.false, eq-eqb _ _ c.if-self-place-eq1.true, c.from_bits.ensures)

pub returns : goal.returns
unfolding types_at
returns c = rw (lt-ltb _ _ c.if-place-self.false, ne_eqb _ _ c.if-self-place-eq1.false)
