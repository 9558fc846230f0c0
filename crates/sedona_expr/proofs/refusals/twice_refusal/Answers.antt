-- `refusals::twice_refusal` meets its contract. Assumes nothing.
use Rattle.sedona_expr.specs.Refusals.{twice_refusal}
use Rattle.sedona_expr.proofs.refusals.twice_refusal.Goals as goal

pub returns-in_default : goal.returns-in_default
unfolding twice_refusal
returns-in_default c = rw c.in_default.is

pub returns-then-has_twice : goal.returns-then-has_twice
unfolding twice_refusal
returns-then-has_twice c = rw (c.in-ByName.is, ← c.has_twice.ensures, c.if-has_twice.true)

pub returns-else-has_twice : goal.returns-else-has_twice
unfolding twice_refusal
returns-else-has_twice c = rw (c.in-ByName.is, ← c.has_twice.ensures, c.if-has_twice.false)
