-- `refusals::leaf_refusal` meets its contract. Assumes nothing.
use Rattle.sedona_expr.specs.Refusals.{leaf_refusal}
use Rattle.sedona_expr.proofs.refusals.leaf_refusal.Goals as goal

pub returns-then-is_lent : goal.returns-then-is_lent
unfolding leaf_refusal
returns-then-is_lent c = rw (c.column_refusal.ensures, ← c.word.ensures, ← c.is_lent.ensures, c.if-is_lent.true)

pub returns : goal.returns
unfolding leaf_refusal
returns c = rw (← c.word.ensures, ← c.is_lent.ensures, c.if-is_lent.false)
