-- The hypotheses of the laws can be met: by a box with z that crosses the antimeridian, by an array of four numbers, and by a box and an array
-- with −0. And the number that refuses each fault, and each two faults, computed. Assumes nothing.
use Rattle.std.specs.Prelude.{Option, Some, None}
use mathlib.Core.Path.{◌≡◌, refl}
use mathlib.Core.Bool.{true, false}
use mathlib.Core.List.{List, [], ◌∷◌, ◌++◌}
use mathlib.Core.Logic.{inl, inr}
use Prim.Native.Nat.{ℕ}
use lib.IntN.{pos, neg_ℤ}
use lib.ListN.{replicate}
use lib.Ieee.{Float, nan, inf, fin, binary64, of_int, round, lt, eq, le}
use Rattle.sedona_geometry.specs.Float as float
use Rattle.sedona_geometry.specs.Interval as interval
use Rattle.sedona_geometry.specs.WraparoundInterval as wraparound
use Rattle.sedona_geometry.specs.BoundingBox as bounding_box
use Rattle.sedona_geometry.specs.BoundingBox.{Canonical, xyzm}
use Rattle.sedona_geometry.specs.declared.interval.Interval.{Interval}
use Rattle.sedona_geometry.specs.declared.bounding_box.BoundingBox.{BoundingBox}
use Rattle.sedona_geometry.proofs.Canonical.{xyzm_canonical}
use Rattle.geoparquet_bbox.specs.Error as error
use Rattle.geoparquet_bbox.specs.declared.error.Refusal.TheVariants.{BboxLength, KnownM, BadNumbers}
use Rattle.geoparquet_bbox.specs.Layout.{lows_then_highs, is_finite, are_finite, is_rising, rises_where_known, numbers_refusal, box_refusal, array_refusal, box_of, given, refused, array, to_geoparquet, from_geoparquet, Publishable, PublishableArray, NoMinusZero, EqualNumbers}
use Rattle.geoparquet_bbox.proofs.Passing.{box_passes, array_passes}
use Rattle.geoparquet_bbox.proofs.ThereAndBack.{box_same_bits, array_same_bits, box_same_numbers, array_same_numbers}

abbrev plus : ℕ → Float
plus n = of_int binary64 (pos n)

abbrev minus : ℕ → Float
minus n = of_int binary64 (neg_ℤ (pos n))

-- ---- a box
abbrev strip : BoundingBox
strip = xyzm (wraparound.new (plus 170) (minus 170)) (interval.new (minus 10) (plus 10)) (Some (interval.new (minus 3) (minus 3))) None

strip_publishable : Publishable strip
unfolding is_finite le lt eq round of_int
strip_publishable = record {
  numbers = record {
    x = record { lo = refl; hi = refl };
    y = record { ends = record { lo = refl; hi = refl }; low_to_high = refl };
    z = record { ends = record { lo = refl; hi = refl }; low_to_high = refl };
    m = tt;
  };
  no_m = refl;
}

strip_canonical : Canonical strip
strip_canonical = xyzm_canonical (wraparound.new (plus 170) (minus 170)) (interval.new (minus 10) (plus 10)) (Some (interval.new (minus 3) (minus 3))) None

pub strip_there_and_back : (from_geoparquet (array (to_geoparquet strip))).bounds ≡ strip
strip_there_and_back = box_same_bits strip ((box_passes strip).1 strip_publishable) strip_canonical

-- ---- an array
abbrev four : List Float
four = plus 170 ∷ minus 10 ∷ minus 170 ∷ plus 10 ∷ []

four_publishable : PublishableArray four
unfolding box_of is_finite le lt eq round of_int
four_publishable = record {
  four_or_six = inl refl;
  bounds = record {
    numbers = record {
      x = record { lo = refl; hi = refl };
      y = record { ends = record { lo = refl; hi = refl }; low_to_high = refl };
      z = tt;
      m = tt;
    };
    no_m = refl;
  };
}

four_canonical : NoMinusZero four
unfolding round of_int
four_canonical = (refl, (refl, (refl, (refl, tt))))

pub four_there_and_back : array (to_geoparquet (from_geoparquet four).bounds) ≡ four
four_there_and_back = array_same_bits four ((array_passes four).1 four_publishable) four_canonical

-- ---- −0 at both ends of x, and at one of y and z: in a box whose fields were filled, and in an array
abbrev minus_zero : Float
minus_zero = fin true 0 (pos 0)

abbrev filled : BoundingBox
filled = record { x = record { inner = record { lo = minus_zero; hi = minus_zero } }; y = record { lo = minus_zero; hi = plus 10 }; z = Some (record { lo = minus 3; hi = minus_zero }); m = None }

filled_publishable : Publishable filled
unfolding is_finite le lt eq round of_int
filled_publishable = record {
  numbers = record {
    x = record { lo = refl; hi = refl };
    y = record { ends = record { lo = refl; hi = refl }; low_to_high = refl };
    z = record { ends = record { lo = refl; hi = refl }; low_to_high = refl };
    m = tt;
  };
  no_m = refl;
}

pub filled_same_numbers : bounding_box.EqualNumbers (from_geoparquet (array (to_geoparquet filled))).bounds filled
filled_same_numbers = box_same_numbers filled ((box_passes filled).1 filled_publishable)

abbrev signed : List Float
signed = minus_zero ∷ minus_zero ∷ minus 3 ∷ minus_zero ∷ plus 10 ∷ minus_zero ∷ []

-- the array has +0
pub filled_array : to_geoparquet filled ≡ given (float.zero ∷ float.zero ∷ minus 3 ∷ float.zero ∷ plus 10 ∷ float.zero ∷ [])
unfolding to_geoparquet box_refusal numbers_refusal rises_where_known is_rising are_finite is_finite lows_then_highs lt round of_int
filled_array = refl

signed_publishable : PublishableArray signed
unfolding box_of is_finite le lt eq round of_int
signed_publishable = record {
  four_or_six = inr refl;
  bounds = record {
    numbers = record {
      x = record { lo = refl; hi = refl };
      y = record { ends = record { lo = refl; hi = refl }; low_to_high = refl };
      z = record { ends = record { lo = refl; hi = refl }; low_to_high = refl };
      m = tt;
    };
    no_m = refl;
  };
}

pub signed_same_numbers : EqualNumbers (array (to_geoparquet (from_geoparquet signed).bounds)) signed
signed_same_numbers = array_same_numbers signed ((array_passes signed).1 signed_publishable)

-- and so has the box
pub signed_box : from_geoparquet signed ≡ from_geoparquet (float.zero ∷ float.zero ∷ minus 3 ∷ float.zero ∷ plus 10 ∷ float.zero ∷ [])
unfolding from_geoparquet array_refusal box_of round of_int
signed_box = refl

-- ---- what is refused: by which number, as 02 has it, and by which of two

-- so many numbers, all 0
abbrev zeros : ℕ → List Float
zeros n = replicate n float.zero

abbrev rising : Interval
rising = interval.new (plus 1) (plus 2)

abbrev falling : Interval
falling = interval.new (plus 2) (plus 1)

-- a box of x, y, z and m
abbrev boxed : Interval → Interval → Option Interval → Option Interval → BoundingBox
boxed x y z m = xyzm (wraparound.from_interval x) y z m

-- 12: an array of none, three, five and seven numbers
pub bad_lengths : (from_geoparquet [] ≡ bounding_box.refused 12)
    × (from_geoparquet (zeros 3) ≡ bounding_box.refused 12)
    × (from_geoparquet (zeros 5) ≡ bounding_box.refused 12)
    × (from_geoparquet (zeros 7) ≡ bounding_box.refused 12)
unfolding from_geoparquet array_refusal bounding_box.numbered
bad_lengths = (refl, refl, refl, refl)

-- beside a number stands an empty array
pub empty_beside : (array (refused 13) ≡ []) × ((refused 13).count ≡ 0)
empty_beside = (refl, refl)

-- each refusal's number
pub numbers : (error.number BboxLength ≡ 12) × (error.number KnownM ≡ 13) × (error.number BadNumbers ≡ 14)
numbers = (refl, refl, refl)

-- 13: a known m
pub known_m_lem : to_geoparquet (boxed rising rising None (Some rising)) ≡ refused 13
unfolding to_geoparquet box_refusal
known_m_lem = refl

-- 14, towards an array: NaN and an infinity in x, a y that falls, a z that falls
pub bad_boxes : (to_geoparquet (boxed (interval.new nan (plus 2)) rising None None) ≡ refused 14)
    × (to_geoparquet (boxed (interval.new (plus 1) (inf false)) rising None None) ≡ refused 14)
    × (to_geoparquet (boxed rising falling None None) ≡ refused 14)
    × (to_geoparquet (boxed rising rising (Some falling) None) ≡ refused 14)
unfolding to_geoparquet box_refusal numbers_refusal rises_where_known is_rising are_finite is_finite lt round of_int
bad_boxes = (refl, refl, refl, refl)

-- 14, from an array: NaN and an infinity in x, a y that falls, a z that falls
pub bad_arrays : (from_geoparquet (nan ∷ zeros 3) ≡ bounding_box.refused 14)
    × (from_geoparquet (zeros 2 ++ inf false ∷ zeros 1) ≡ bounding_box.refused 14)
    × (from_geoparquet (zeros 3 ++ minus 1 ∷ []) ≡ bounding_box.refused 14)
    × (from_geoparquet (zeros 5 ++ minus 1 ∷ []) ≡ bounding_box.refused 14)
unfolding from_geoparquet array_refusal box_of bounding_box.numbered numbers_refusal rises_where_known is_rising are_finite is_finite lt round of_int
bad_arrays = (refl, refl, refl, refl)

-- 13 before 14: a known m beside NaN in x, and beside a y that falls
pub known_m_first : (to_geoparquet (boxed (interval.new nan (plus 2)) rising None (Some rising)) ≡ refused 13)
    × (to_geoparquet (boxed rising falling None (Some rising)) ≡ refused 13)
unfolding to_geoparquet box_refusal
known_m_first = (refl, refl)

-- 12 before 14: five numbers, NaN and an infinity among them
pub length_first : (from_geoparquet (nan ∷ zeros 4) ≡ bounding_box.refused 12)
    × (from_geoparquet (zeros 4 ++ inf true ∷ []) ≡ bounding_box.refused 12)
unfolding from_geoparquet array_refusal bounding_box.numbered
length_first = (refl, refl)
