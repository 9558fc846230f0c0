-- `refusals::refusal` meets its contract. Assumes nothing.
use mathlib.Core.Path.{sym, ◌∙◌}
use Rattle.sedona_expr.specs.Spelled.{table, records, lookup}
use Rattle.sedona_expr.specs.Refusals.{records_refusal, refusal}
use Rattle.sedona_expr.proofs.Passing.{stop, next, table_pass}
use Rattle.sedona_expr.proofs.refusals.refusal.Goals as goal

pub returns-in_err-table_refusal : goal.returns-in_err-table_refusal
unfolding refusal
returns-in_err-table_refusal c = stop _ _ _ c.from_residual.ensures.1 c.in_err-table_refusal.ensures

pub returns-in_err-records_refusal : goal.returns-in_err-records_refusal
unfolding refusal
returns-in_err-records_refusal c =
    next c.in_ok-table_refusal.ensures (stop _ _ _ c.from_residual-in_err-records_refusal.ensures.1 c.in_err-records_refusal.ensures)

pub tree_refusal-requires : goal.tree_refusal-requires
tree_refusal-requires c = table_pass (table c.args.table.now) (sym c.in_ok-table_refusal.ensures)

pub returns : goal.returns
unfolding refusal
returns c =
    next c.in_ok-table_refusal.ensures
    (next {m = records_refusal (lookup c.args.lookup.now) (records c.args.records.now)}
    c.in_ok-records_refusal.ensures (c.tree_refusal.ensures ∙ rw c.columns_of.ensures))
