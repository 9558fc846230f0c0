-- `refusals::tree_refusal` meets its contract: nothing refuses the nodes so far, and the marks count their uses. Assumes nothing.
use mathlib.Core.Path.{◌≡◌}
use Rattle.sedona_expr.specs.Within.{Counted}
use Rattle.sedona_expr.specs.Refusals.{nodes_refusal, uses}
use Rattle.sedona_expr.proofs.refusals.tree_refusal.Given as goal

abbrev pub invariant-loop-node : goal.invariant-loop-node
invariant-loop-node l = (nodes_refusal l.table.nodes.now l.lent l.node ≡ 0) × Counted l.marks (uses l.table.nodes.now l.node)
