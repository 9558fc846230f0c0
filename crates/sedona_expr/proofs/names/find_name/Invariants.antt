-- `names::find_name` meets its contract: behind the names that are no hit, the search is as much further. Assumes nothing.
use mathlib.Core.Path.{◌≡◌}
use lib.ListN.{drop}
use Rattle.sedona_expr.specs.Within.{behind}
use Rattle.sedona_expr.specs.Names.{find_name}
use Rattle.sedona_expr.proofs.names.find_name.Given as goal

abbrev pub invariant-loop-i : goal.invariant-loop-i
invariant-loop-i l = find_name l.names l.name ≡ behind l.i (find_name (drop l.i l.names) l.name)
