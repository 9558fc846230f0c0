-- `coordinates::read_parts` meets its contract: what is entered and what is left to read are all there is. Assumes nothing.
use mathlib.Core.Path.{◌≡◌}
use Prim.Native.Nat.{◌-◌}
use lib.ListN.{drop}
use Rattle.sedona_wkb.specs.Outcome.{Reads, entered}
use Rattle.sedona_wkb.specs.Reading.{several}
use Rattle.sedona_wkb.specs.Wkb.{counted}
use Rattle.sedona_wkb.proofs.coordinates.read_parts.Given as goal

abbrev pub invariant-loop-taken : goal.invariant-loop-taken
invariant-loop-taken g l =
    (part : _) → Reads l.bytes part (goal.R-post g l.read_part)
    → entered l.fn.e (counted l.fn.head part (drop l.at l.bytes)) ≡ entered l.entered (several (l.count - l.taken) part (drop l.end l.bytes))
