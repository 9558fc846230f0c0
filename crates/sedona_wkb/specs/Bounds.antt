-- The box and the type of what some bytes spell, and what the theorems on them speak of.
use Rattle.std.specs.Prelude.{◌≡◌, false, List, ℕ, ◌+◌, ◌*◌, ◌^◌, Float, Some, None, Option, Result, Ok, Err}
use Rattle.std.specs.Float.Ieee.{is_nan}
use Rattle.sedona_geometry.specs.BoundingBox as bounding_box
use Rattle.sedona_geometry.specs.Interval as interval
use Rattle.sedona_geometry.specs.Types as types
use Rattle.sedona_geometry.specs.WraparoundInterval as wraparound
use Rattle.sedona_geometry.specs.declared.bounding_box.BoundingBox.{BoundingBox}
use Rattle.sedona_geometry.specs.declared.types.GeometryTypeAndDimensionsSet.{GeometryTypeAndDimensionsSet}
use Rattle.sedona_wkb.specs.Extents as extents
use Rattle.sedona_wkb.specs.Reading.{Reading, refused, found}
use Rattle.sedona_wkb.specs.Wkb.{Coordinate, Spelled, has_z, has_m, spelled}
use Rattle.sedona_wkb.specs.Error as error
use Rattle.sedona_wkb.specs.declared.bounds.WkbBounds as found_bounds
use Rattle.sedona_wkb.specs.declared.error.Refusal.{Refusal}
use Rattle.sedona_geometry.specs.BoundingBox.{NumberedBox}
use Rattle.sedona_wkb.specs.declared.coordinates.Extents.{Extents}
use Rattle.sedona_geometry.specs.declared.interval.Interval.{Interval}

-- The extents as a box, "x never wrapping".
unfoldable pub box_of : ℕ → Extents → BoundingBox
box_of d e = bounding_box.xyzm (wraparound.from_interval e.x) e.y (bounding_box.known_where (has_z d) e.z) (bounding_box.known_where (has_m d) e.m)

-- "a type set of one bit": the kind, and 8 more for Z, 16 for M, 24 for both.
unfoldable pub types_of : ℕ → ℕ → GeometryTypeAndDimensionsSet
types_of kind d = types.from_bits (2 ^ (kind + 8 * d))

-- A box with its number, and the set of one type; beside a number that refuses, the set of none.
pub record WkbBounds : Type 0 where
  pub numbered : NumberedBox
  pub types : GeometryTypeAndDimensionsSet

-- "a box beside it is `empty`", and "type set 0".
abbrev pub refusal : ℕ → WkbBounds
refusal n = record { numbered = bounding_box.refused n; types = types.new }

unfoldable pub answer : Reading Spelled → WkbBounds
answer (refused n) = refusal n
answer (found p rest) =
    record {
      numbered = bounding_box.accepted (box_of p.dims (extents.enter_all extents.empty p.coordinates));
      types = types_of p.kind p.dims;
    }

-- What the call answers, as a box with its number.
abbrev pub told : Result found_bounds.WkbBounds Refusal → WkbBounds
told (Ok a) = record { numbered = record { number = 0; bounds = a.bounds }; types = a.types }
told (Err e) = refusal (error.number e)

-- The call.
abbrev pub wkb_bounds : List ℕ → WkbBounds
wkb_bounds s = answer (spelled s)

-- ---- what the theorems speak of

abbrev pub box_from : List ℕ → BoundingBox
box_from s = (wkb_bounds s).numbered.bounds

-- A box's z or m is known, and accepts a coordinate's, where this is there and is not NaN.
abbrev pub AcceptsWhere : Option Interval → Option Float → Type 0
AcceptsWhere d None = Unit {0}
AcceptsWhere None (Some v) = ⊥
AcceptsWhere (Some i) (Some v) = is_nan v ≡ false → interval.Accepts i v

-- The box "accepts every coordinate that is not NaN", in x, y, and in z and m where the coordinate has them.
pub record AcceptsCoordinate (b : BoundingBox) (c : Coordinate) : Type 0 where
  pub x : is_nan c.x ≡ false → wraparound.Accepts b.x c.x
  pub y : is_nan c.y ≡ false → interval.Accepts b.y c.y
  pub z : AcceptsWhere b.z c.z
  pub m : AcceptsWhere b.m c.m
