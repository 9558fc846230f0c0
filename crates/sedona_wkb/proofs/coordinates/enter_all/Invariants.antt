-- `coordinates::enter_all` meets its contract: what is entered and the coordinates that are left are all there is. Assumes nothing.
use mathlib.Core.Path.{◌≡◌}
use Prim.Native.Nat.{◌+◌, ◌*◌, ◌-◌, ◌≤◌}
use lib.ListN.{length}
use Rattle.sedona_wkb.specs.Extents.{enter_all}
use Rattle.sedona_wkb.specs.Places.{width, coordinates_at}
use Rattle.sedona_wkb.proofs.coordinates.enter_all.Given as goal

abbrev pub invariant-loop-taken : goal.invariant-loop-taken
invariant-loop-taken l =
    (l.place + (l.count - l.taken) * width l.head.dims ≤ length l.bytes) × (enter_all l.initial.entered (coordinates_at l.head l.bytes l.at l.count) ≡ enter_all l.entered (coordinates_at l.head l.bytes l.place (l.count - l.taken)))
