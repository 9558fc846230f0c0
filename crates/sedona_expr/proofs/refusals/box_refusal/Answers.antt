-- `refusals::box_refusal` meets its contract. Assumes nothing.
use mathlib.Core.Path.{sym}
use Rattle.sedona_expr.specs.Spelled.{table}
use Rattle.sedona_expr.specs.Refusals.{box_refusal}
use Rattle.sedona_expr.proofs.Passing.{stop, next, table_pass}
use Rattle.sedona_expr.proofs.refusals.box_refusal.Goals as goal

pub returns-in_err-table_refusal : goal.returns-in_err-table_refusal
unfolding box_refusal
returns-in_err-table_refusal c = stop _ _ _ c.from_residual.ensures.1 c.in_err-table_refusal.ensures

pub tree_refusal-requires : goal.tree_refusal-requires
tree_refusal-requires c = table_pass (table c.args.table.now) (sym c.in_ok-table_refusal.ensures)

pub returns : goal.returns
unfolding box_refusal
returns c = next c.in_ok-table_refusal.ensures c.tree_refusal.ensures
