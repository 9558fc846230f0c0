-- GeoParquet's `bbox` array and a box, each turned into the other, after request 1 of 02.
use Rattle.std.specs.Prelude.{◌≡◌, Bool, true, false, not, ◌&&◌, ◌||◌, cond, List, [], ◌∷◌, ◌++◌, ◌⊎◌, ℕ, ◌+◌, eqb, length, get_or, take, replicate, Float, Option, Some, None, Result, Ok, Err}
use Rattle.std.specs.Float.{nan, inf, fin}
use Rattle.std.specs.Float.Ieee.{lt, le, eq}
use Rattle.sedona_geometry.specs.Float as float
use Rattle.sedona_geometry.specs.Interval as interval
use Rattle.sedona_geometry.specs.WraparoundInterval as wraparound
use Rattle.sedona_geometry.specs.BoundingBox as bounding_box
use Rattle.sedona_geometry.specs.declared.interval.Interval.{Interval}
use Rattle.sedona_geometry.specs.declared.bounding_box.BoundingBox.{BoundingBox}
use Rattle.sedona_geometry.specs.BoundingBox.{NumberedBox}
use Rattle.geoparquet_bbox.specs.Error as error
use Rattle.geoparquet_bbox.specs.declared.error.Refusal.{Refusal}
use Rattle.geoparquet_bbox.specs.declared.layout.BboxArray.{BboxArray}

-- ---- the two layouts

-- "(xmin, ymin, xmax, ymax), or six numbers with zmin and zmax third and sixth".
unfoldable pub lows_then_highs : Interval → Interval → Option Interval → List Float
lows_then_highs x y None = x.lo ∷ y.lo ∷ x.hi ∷ y.hi ∷ []
lows_then_highs x y (Some z) = x.lo ∷ y.lo ∷ z.lo ∷ x.hi ∷ y.hi ∷ z.hi ∷ []

-- Of a box handed on: request 6 asks +0 of an array too.
abbrev pub array_of : BoundingBox → List Float
array_of b = let c = bounding_box.plus_zero b in lows_then_highs c.x.inner c.y c.z

-- Dimension k of an array of n dimensions: its low is number k, its high number n + k.
abbrev pub interval_at : List Float → ℕ → ℕ → Interval
interval_at vs n k = interval.new (get_or vs k nan) (get_or vs (n + k) nan)

-- Of four numbers: x and y.
abbrev pub box_of_four : List Float → BoundingBox
box_of_four vs = bounding_box.xy (wraparound.from_interval (interval_at vs 2 0)) (interval_at vs 2 1)

-- Of six: x, y and z.
abbrev pub box_of_six : List Float → BoundingBox
box_of_six vs = bounding_box.xyzm (wraparound.from_interval (interval_at vs 3 0)) (interval_at vs 3 1) (Some (interval_at vs 3 2)) None

-- The box of an array. (One of another length is refused.)
unfoldable pub box_of : List Float → BoundingBox
box_of vs = cond (eqb (length vs) 4) (box_of_four vs) (box_of_six vs)

-- ---- what refuses them

-- Neither NaN nor an infinity.
unfoldable pub is_finite : Float → Bool
is_finite nan = false
is_finite (inf s) = false
is_finite (fin s m e) = true

unfoldable pub are_finite : Interval → Bool
are_finite i = is_finite i.lo && is_finite i.hi

-- Finite, and no "low above its high".
unfoldable pub is_rising : Interval → Bool
is_rising i = are_finite i && not (lt i.hi i.lo)

-- The same, where it is known.
unfoldable pub rises_where_known : Option Interval → Bool
rises_where_known None = true
rises_where_known (Some i) = is_rising i

-- 14: "a NaN or infinity in any known number, or a low above its high in y or z". It is asked only where m is missing.
unfoldable pub numbers_refusal : BoundingBox → ℕ
numbers_refusal b = cond (are_finite b.x.inner && is_rising b.y && rises_where_known b.z) 0 error.bad_numbers

abbrev pub is_known : Option Interval → Bool
is_known None = false
is_known (Some i) = true

-- Towards an array: "a known m is 13, before 14".
unfoldable pub box_refusal : BoundingBox → ℕ
box_refusal b = cond (is_known b.m) error.known_m (numbers_refusal b)

-- From an array: "length not 4 or 6 is 12, then" 14.
unfoldable pub array_refusal : List Float → ℕ
array_refusal vs = cond (eqb (length vs) 4 || eqb (length vs) 6) (numbers_refusal (box_of vs)) error.bbox_length

-- ---- the calls

-- An array with its number: 0, or the number that refuses it, with an empty array beside it.
pub record NumberedArray : Type 0 where
  pub number : ℕ
  pub count : ℕ
  pub numbers : List Float

abbrev pub numbered : ℕ → BboxArray → NumberedArray
numbered n a = record { number = n; count = a.count; numbers = a.numbers }

-- A number and a list beside it: how many it has, and its numbers in six places, with 0 behind them.
abbrev pub numbered_array : ℕ → List Float → NumberedArray
numbered_array n vs = record { number = n; count = length vs; numbers = take 6 (vs ++ replicate 6 float.zero) }

-- An array that nothing refuses.
abbrev pub given : List Float → NumberedArray
given vs = numbered_array 0 vs

-- A number alone: "a list beside one is empty".
abbrev pub refused : ℕ → NumberedArray
refused n = numbered_array n []

-- What a call answers, as an array with its number.
abbrev pub told : Result BboxArray Refusal → NumberedArray
told (Ok a) = numbered 0 a
told (Err e) = refused (error.number e)

-- The list that such an answer holds.
abbrev pub array : NumberedArray → List Float
array a = take a.count a.numbers

unfoldable pub to_geoparquet : BoundingBox → NumberedArray
to_geoparquet b = cond (eqb (box_refusal b) 0) (given (array_of b)) (refused (box_refusal b))

unfoldable pub from_geoparquet : List Float → NumberedBox
from_geoparquet vs = bounding_box.numbered (array_refusal vs) (box_of vs)

-- ---- what the laws speak of

-- Request 6: no number is −0.
abbrev pub NoMinusZero : List Float → Type 0
NoMinusZero [] = Unit {0}
NoMinusZero (v ∷ vs) = (float.is_minus_zero v ≡ false) × NoMinusZero vs

-- As many numbers, each equal to its like as a number.
abbrev pub EqualNumbers : List Float → List Float → Type 0
EqualNumbers [] [] = Unit {0}
EqualNumbers [] (w ∷ ws) = ⊥
EqualNumbers (v ∷ vs) [] = ⊥
EqualNumbers (v ∷ vs) (w ∷ ws) = (eq v w ≡ true) × EqualNumbers vs ws

-- Both ends are finite.
pub record Finite (i : Interval) : Type 0 where
  pub lo : is_finite i.lo ≡ true
  pub hi : is_finite i.hi ≡ true

-- And 01's "low to high".
pub record Rising (i : Interval) : Type 0 where
  pub ends : Finite i
  pub low_to_high : le i.lo i.hi ≡ true

-- A box that both layouts hold: x finite, either way round; y finite and low to high; z too, where it is known; m missing.
pub record Publishable (b : BoundingBox) : Type 0 where
  pub numbers : bounding_box.Every (λ x. Finite x.inner) Rising (bounding_box.WhereKnown Rising) b
  pub no_m : b.m ≡ None

-- An array that both layouts hold: four numbers or six, and the box that they are.
pub record PublishableArray (vs : List Float) : Type 0 where
  pub four_or_six : (length vs ≡ 4) ⊎ (length vs ≡ 6)
  pub bounds : Publishable (box_of vs)
