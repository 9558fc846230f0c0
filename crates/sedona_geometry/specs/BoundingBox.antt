-- `BoundingBox` of bounding_box.rs, method by method. z and m go through one definition a call.
use Rattle.std.specs.Prelude.{Bool, true, ◌&&◌, ◌||◌, cond, List, [], ◌∷◌, ◌++◌, ℕ, eqb, Float, Option, Some, None, Result, Ok, Err}
use Rattle.std.specs.Float.{binary64}
use Rattle.std.specs.Float.Ieee.{to_bits}
use Rattle.sedona_geometry.specs.Error as error
use Rattle.sedona_geometry.specs.Interval as interval
use Rattle.sedona_geometry.specs.WraparoundInterval as wraparound
use Rattle.sedona_geometry.specs.declared.interval.Interval.{Interval}
use Rattle.sedona_geometry.specs.declared.interval.WraparoundInterval.{WraparoundInterval}
use Rattle.sedona_geometry.specs.declared.error.Refusal.{Refusal}
use Rattle.sedona_geometry.specs.declared.bounding_box.BoundingBox.{BoundingBox}

-- A test of two intervals, where both are known; true where one is missing.
unfoldable pub test_known : (Interval → Interval → Bool) → Option Interval → Option Interval → Bool
test_known f None e = true
test_known f (Some i) None = true
test_known f (Some i) (Some j) = f i j

-- An interval made of two, where both are known; missing where one is.
unfoldable pub join_known : (Interval → Interval → Interval) → Option Interval → Option Interval → Option Interval
join_known f None e = None
join_known f (Some i) None = None
join_known f (Some i) (Some j) = Some (f i j)

abbrev pub dimensions_intersect : Option Interval → Option Interval → Bool
dimensions_intersect d e = test_known interval.intersects_interval d e

abbrev pub dimensions_contain : Option Interval → Option Interval → Bool
dimensions_contain d e = test_known interval.contains_interval d e

abbrev pub merge_dimensions : Option Interval → Option Interval → Option Interval
merge_dimensions d e = join_known interval.merge_interval d e

abbrev pub intersect_dimensions : Option Interval → Option Interval → Option Interval
intersect_dimensions d e = join_known interval.intersection d e

-- An interval, where it is known.
abbrev pub known_where : Bool → Interval → Option Interval
known_where known i = cond known (Some i) None

-- A dimension as a call hands it on.
abbrev pub plus_zero_where_known : Option Interval → Option Interval
plus_zero_where_known None = None
plus_zero_where_known (Some i) = Some (interval.plus_zero i)

abbrev pub xyzm : WraparoundInterval → Interval → Option Interval → Option Interval → BoundingBox
xyzm x y z m = record { x = wraparound.plus_zero x; y = interval.plus_zero y; z = plus_zero_where_known z; m = plus_zero_where_known m }

-- A box as a call hands it on.
abbrev pub plus_zero : BoundingBox → BoundingBox
plus_zero a = xyzm a.x a.y a.z a.m

abbrev pub xy : WraparoundInterval → Interval → BoundingBox
xy x y = xyzm x y None None

abbrev pub empty : BoundingBox
empty = xy wraparound.empty interval.empty

unfoldable pub is_empty : BoundingBox → Bool
is_empty a = wraparound.is_empty a.x || interval.is_empty a.y

unfoldable pub intersects : BoundingBox → BoundingBox → Bool
intersects a b =
    wraparound.intersects_interval a.x b.x
    && interval.intersects_interval a.y b.y
    && dimensions_intersect a.z b.z
    && dimensions_intersect a.m b.m

unfoldable pub contains : BoundingBox → BoundingBox → Bool
contains a b =
    wraparound.contains_interval a.x b.x
    && interval.contains_interval a.y b.y
    && dimensions_contain a.z b.z
    && dimensions_contain a.m b.m

unfoldable pub expand_by : BoundingBox → Float → BoundingBox
expand_by a d = xyzm (wraparound.expand_by a.x d) (interval.expand_by a.y d) a.z a.m

-- The Rust's `update_box`, by value.
unfoldable pub merge_box : BoundingBox → BoundingBox → BoundingBox
merge_box a b =
    xyzm (wraparound.merge_interval a.x b.x) (interval.merge_interval a.y b.y) (merge_dimensions a.z b.z) (merge_dimensions a.m b.m)

-- What the lent box holds after `update_box`.
abbrev pub update_box : BoundingBox → BoundingBox → BoundingBox
update_box a b = merge_box a b

-- A box with its number: 0, or the number that refuses it, with an empty box beside it.
pub record NumberedBox : Type 0 where
  pub number : ℕ
  pub bounds : BoundingBox

-- A number alone: the box beside it is empty.
abbrev pub refused : ℕ → NumberedBox
refused n = record { number = n; bounds = empty }

abbrev pub accepted : BoundingBox → NumberedBox
accepted a = record { number = 0; bounds = plus_zero a }

-- What a call answers, as a box with its number.
abbrev pub given : {E : Type 0} → (E → ℕ) → Result BoundingBox E → NumberedBox
given number (Ok a) = record { number = 0; bounds = a }
given number (Err e) = refused (number e)

-- The box where the number is 0, and else the number alone.
unfoldable pub numbered : ℕ → BoundingBox → NumberedBox
numbered n a = cond (eqb n 0) (accepted a) (refused n)

-- The box of an x's intersection: a refusal of x is the box's.
unfoldable pub with_x : Result WraparoundInterval Refusal → Interval → Option Interval → Option Interval → NumberedBox
with_x (Err e) y z m = refused (error.number e)
with_x (Ok x) y z m = accepted (xyzm x y z m)

unfoldable pub intersection : BoundingBox → BoundingBox → NumberedBox
intersection a b =
    with_x (wraparound.intersection a.x b.x) (interval.intersection a.y b.y) (intersect_dimensions a.z b.z) (intersect_dimensions a.m b.m)

-- ---- what the laws speak of

-- Of x, of y, and of each of z and m: the form of all that is said of one box. A further dimension is a line more in each of these two forms.
pub record Every (X : WraparoundInterval → Type 0) (Y : Interval → Type 0) (D : Option Interval → Type 0) (a : BoundingBox) : Type 0 where
  pub x : X a.x
  pub y : Y a.y
  pub z : D a.z
  pub m : D a.m

-- Of those of two boxes.
pub record Both (X : WraparoundInterval → WraparoundInterval → Type 0) (Y : Interval → Interval → Type 0) (D : Option Interval → Option Interval → Type 0) (a b : BoundingBox) : Type 0 where
  pub x : X a.x b.x
  pub y : Y a.y b.y
  pub z : D a.z b.z
  pub m : D a.m b.m

-- What is said of an interval, said of a dimension: where it is known.
abbrev pub WhereKnown : (Interval → Type 0) → Option Interval → Type 0
WhereKnown P None = Unit {0}
WhereKnown P (Some i) = P i

-- What is said of two intervals, said of two dimensions: where both are known.
abbrev pub WhereBothKnown : (Interval → Interval → Type 0) → Option Interval → Option Interval → Type 0
WhereBothKnown R None e = Unit {0}
WhereBothKnown R (Some i) None = Unit {0}
WhereBothKnown R (Some i) (Some j) = R i j

-- Both are missing, or both known and this is so of them.
abbrev pub KnownAlike : (Interval → Interval → Type 0) → Option Interval → Option Interval → Type 0
KnownAlike R None None = Unit {0}
KnownAlike R None (Some j) = ⊥
KnownAlike R (Some i) None = ⊥
KnownAlike R (Some i) (Some j) = R i j

-- The same of x's ends, of y, and of z and m where they are known.
abbrev pub Each : (Interval → Type 0) → BoundingBox → Type 0
Each P = Every (λ x. P x.inner) P (WhereKnown P)

-- All ends are doubles, as they are of every box in the code.
abbrev pub Doubles : BoundingBox → Type 0
Doubles = Each interval.Doubles

-- Request 6: no end is −0.
abbrev pub Canonical : BoundingBox → Type 0
Canonical = Each interval.Canonical

-- Request 6: "whose known dimensions are equal as numbers". So neither has NaN.
abbrev pub EqualNumbers : BoundingBox → BoundingBox → Type 0
EqualNumbers = Both (λ x y. interval.EqualNumbers x.inner y.inner) interval.EqualNumbers (KnownAlike interval.EqualNumbers)

-- Request 6: the "bytes" of a box, end by end; none of what is missing.
abbrev pub interval_bits : Interval → List ℕ
interval_bits i = to_bits binary64 i.lo ∷ to_bits binary64 i.hi ∷ []

abbrev pub bits_where_known : Option Interval → List ℕ
bits_where_known None = []
bits_where_known (Some i) = interval_bits i

abbrev pub bits : BoundingBox → List ℕ
bits a = interval_bits a.x.inner ++ interval_bits a.y ++ bits_where_known a.z ++ bits_where_known a.m

-- j accepts every number that i accepts.
abbrev pub AcceptsAllOf : Interval → Interval → Type 0
AcceptsAllOf j i = (v : Float) → interval.Accepts i v → interval.Accepts j v

-- The same of dimensions; and e is known only where d is.
abbrev pub AcceptsAllOfKnown : Option Interval → Option Interval → Type 0
AcceptsAllOfKnown None d = Unit {0}
AcceptsAllOfKnown (Some j) None = ⊥
AcceptsAllOfKnown (Some j) (Some i) = AcceptsAllOf j i

-- An x accepts every number that another does.
abbrev pub XAcceptsAllOf : WraparoundInterval → WraparoundInterval → Type 0
XAcceptsAllOf y x = (v : Float) → wraparound.Accepts x v → wraparound.Accepts y v

-- b accepts every number that a accepts, in x, y, and in z and m where b knows them, which it does only where a does.
abbrev pub NoLess : BoundingBox → BoundingBox → Type 0
NoLess = Both XAcceptsAllOf AcceptsAllOf AcceptsAllOfKnown

-- A common number in x, in y, and in z and m where both know them.
abbrev pub Common : BoundingBox → BoundingBox → Type 0
Common = Both wraparound.Common interval.Common (WhereBothKnown interval.Common)
