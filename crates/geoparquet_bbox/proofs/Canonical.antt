-- Request 6: no array and no box that a call gives has −0. Assumes nothing.
use Rattle.std.specs.Prelude.{Option, Some, None}
use mathlib.Core.Path.{refl}
use mathlib.Core.Bool.{Bool, true, false, cond}
use mathlib.Core.List.{List}
use Prim.Native.Nat.{ℕ}
use lib.Dec.{eqb}
use lib.ListN.{length}
use lib.Ieee.{Float}
use Rattle.sedona_geometry.specs.Interval as interval
use Rattle.sedona_geometry.specs.WraparoundInterval as wraparound
use Rattle.sedona_geometry.specs.BoundingBox.{WhereKnown, Canonical, plus_zero}
use Rattle.sedona_geometry.specs.declared.interval.Interval.{Interval}
use Rattle.sedona_geometry.specs.declared.bounding_box.BoundingBox.{BoundingBox}
use Rattle.sedona_geometry.proofs.Canonical.{xyzm_canonical, xy_canonical, numbered_canonical, accepted_canonical}
use Rattle.geoparquet_bbox.specs.Layout.{lows_then_highs, array_of, interval_at, box_of_four, box_of_six, box_of, array_refusal, box_refusal, given, refused, to_geoparquet, from_geoparquet, NoMinusZero}

-- ---- from an array
pub box_of_canonical : (vs : List Float) → Canonical (box_of vs)
unfolding box_of
box_of_canonical vs = go (eqb (length vs) 4)
  where
    go : (four : Bool) → Canonical (cond four (box_of_four vs) (box_of_six vs))
    go true = xy_canonical (wraparound.from_interval (interval_at vs 2 0)) (interval_at vs 2 1)
    go false = xyzm_canonical (wraparound.from_interval (interval_at vs 3 0)) (interval_at vs 3 1) (Some (interval_at vs 3 2)) None

pub from_geoparquet_canonical : (vs : List Float) → Canonical (from_geoparquet vs).bounds
unfolding from_geoparquet
from_geoparquet_canonical vs = numbered_canonical (array_refusal vs) (box_of vs)

-- ---- towards an array: its numbers in six places, with 0 behind them
given_canonical : (x y : Interval) (z : Option Interval) → interval.Canonical x → interval.Canonical y → WhereKnown interval.Canonical z → NoMinusZero (given (lows_then_highs x y z)).numbers
unfolding lows_then_highs
given_canonical x y None cx cy cz = (cx.lo, (cy.lo, (cx.hi, (cy.hi, (refl, (refl, tt))))))
given_canonical x y (Some z) cx cy cz = (cx.lo, (cy.lo, (cz.lo, (cx.hi, (cy.hi, (cz.hi, tt))))))

pub refused_canonical : (n : ℕ) → NoMinusZero (refused n).numbers
refused_canonical n = (refl, (refl, (refl, (refl, (refl, (refl, tt))))))

pub to_geoparquet_canonical : (b : BoundingBox) → NoMinusZero (to_geoparquet b).numbers
unfolding to_geoparquet
to_geoparquet_canonical b = go (eqb (box_refusal b) 0)
  where
    go : (passes : Bool) → NoMinusZero (cond passes (given (array_of b)) (refused (box_refusal b))).numbers
    go true = let c = accepted_canonical b in given_canonical (plus_zero b).x.inner (plus_zero b).y (plus_zero b).z c.x c.y c.z
    go false = refused_canonical (box_refusal b)
