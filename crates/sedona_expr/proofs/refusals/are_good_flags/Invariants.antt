-- `refusals::are_good_flags` meets its contract: what is found so far, and the rest. Assumes nothing.
use mathlib.Core.Path.{◌≡◌}
use mathlib.Core.Bool.{◌&&◌}
use lib.ListN.{drop}
use Rattle.sedona_geometry.specs.Lists.{are_all}
use Rattle.sedona_expr.specs.Refusals.{good_flag}
use Rattle.sedona_expr.proofs.refusals.are_good_flags.Given as goal

abbrev pub invariant-loop-flag : goal.invariant-loop-flag
invariant-loop-flag l = are_all (good_flag l.none) l.flags ≡ (l.good && are_all (good_flag l.none) (drop l.flag-index l.flags))
