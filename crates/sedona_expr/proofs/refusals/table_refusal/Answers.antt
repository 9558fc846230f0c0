-- `refusals::table_refusal` meets its contract. Assumes nothing.
use Rattle.sedona_expr.specs.Refusals.{table_refusal}
use Rattle.sedona_expr.proofs.Passing.{stop, next}
use Rattle.sedona_expr.proofs.refusals.table_refusal.Goals as goal

pub returns-in_err-words_refusal : goal.returns-in_err-words_refusal
unfolding table_refusal
returns-in_err-words_refusal c = stop _ _ _ c.from_residual.ensures.1 c.in_err-words_refusal.ensures

pub returns : goal.returns
unfolding table_refusal
returns c = next c.in_ok-words_refusal.ensures c.literals_refusal.ensures
