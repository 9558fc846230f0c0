-- `refusals::records_refusal` meets its contract. Assumes nothing.
use Rattle.sedona_expr.specs.Refusals.{records_refusal}
use Rattle.sedona_expr.proofs.Passing.{stop, next}
use Rattle.sedona_expr.proofs.refusals.records_refusal.Goals as goal

pub returns-in_err-lengths_refusal : goal.returns-in_err-lengths_refusal
unfolding records_refusal
returns-in_err-lengths_refusal c = stop _ _ _ c.from_residual.ensures.1 c.in_err-lengths_refusal.ensures

pub returns-in_err-values_refusal : goal.returns-in_err-values_refusal
unfolding records_refusal
returns-in_err-values_refusal c =
    next c.in_ok-lengths_refusal.ensures (stop _ _ _ c.from_residual-in_err-values_refusal.ensures.1 c.in_err-values_refusal.ensures)

pub returns : goal.returns
unfolding records_refusal
returns c = next c.in_ok-lengths_refusal.ensures (next c.in_ok-values_refusal.ensures c.twice_refusal.ensures)
