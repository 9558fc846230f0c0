-- `refusals::column_refusal` meets its contract. Assumes nothing.
use Rattle.sedona_expr.specs.Refusals.{column_refusal}
use Rattle.sedona_expr.proofs.refusals.column_refusal.Goals as goal

pub returns-then-is_lent : goal.returns-then-is_lent
unfolding column_refusal
returns-then-is_lent c = rw (← c.word.ensures, ← c.is_lent.ensures, c.if-is_lent.true)

pub returns-else-is_lent : goal.returns-else-is_lent
unfolding column_refusal
returns-else-is_lent c = rw (← c.word.ensures, ← c.is_lent.ensures, c.if-is_lent.false)
