-- `names::is_none_of` meets its contract: what is found so far, and the rest. Assumes nothing.
use mathlib.Core.Path.{◌≡◌}
use mathlib.Core.Bool.{◌&&◌}
use lib.ListN.{drop}
use Rattle.sedona_geometry.specs.Lists.{are_all}
use Rattle.sedona_expr.specs.Within.{is_other}
use Rattle.sedona_expr.proofs.names.is_none_of.Given as goal

abbrev pub invariant-loop-other : goal.invariant-loop-other
invariant-loop-other l = are_all (is_other l.name) l.names ≡ (l.none && are_all (is_other l.name) (drop l.other-index l.names))
