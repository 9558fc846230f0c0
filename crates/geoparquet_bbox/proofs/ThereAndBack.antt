-- There and back: a box that is not refused, turned into an array and back, has the same numbers, and is the same box where it has no −0; and so is
-- an array that is not refused, turned into a box and back. `box_passes` and `array_passes` of Passing say what is not refused. Assumes nothing.
use Rattle.std.specs.Prelude.{Option, Some, None}
use mathlib.Core.Path.{◌≡◌, refl, sym, ap, ap₂, subst, ◌∙◌}
use mathlib.Core.Bool.{true}
use mathlib.Core.List.{List, [], ◌∷◌, map}
use mathlib.Core.Logic.{◌⊎◌, inl, inr, ⊎_elim}
use Prim.Native.Nat.{ℕ, zero, suc, ◌+◌}
use native.Mathlib.Omega.{arith}
use lib.ListN.{length, get_or, drop}
use lib.Seq.{drop-cons, drop-length}
use lib.Ieee.{Float, nan}
use borrow.Author.Tests.{eq-eqb}
use Rattle.sedona_geometry.specs.Float as float
use Rattle.sedona_geometry.specs.Interval as interval
use Rattle.sedona_geometry.specs.BoundingBox as bounding_box
use Rattle.sedona_geometry.specs.BoundingBox.{WhereKnown, KnownAlike, Canonical, plus_zero_where_known, xyzm, plus_zero, accepted, numbered}
use Rattle.sedona_geometry.specs.declared.interval.Interval.{Interval}
use Rattle.sedona_geometry.specs.declared.bounding_box.BoundingBox.{BoundingBox}
use Rattle.sedona_geometry.proofs.Keys.{plus_equal, plus_equal_interval}
use Rattle.sedona_geometry.proofs.Order.{Number}
use Rattle.sedona_geometry.proofs.PlusZero.{stays, twice, alike_plus, le_alike}
use Rattle.sedona_geometry.proofs.Canonical.{stays_box, accepted_canonical, accepted_is}
use Rattle.geoparquet_bbox.specs.Layout.{is_finite, lows_then_highs, array_of, box_of, given, array, box_refusal, array_refusal, to_geoparquet, from_geoparquet, Finite, Rising, Publishable, NoMinusZero, EqualNumbers}
use Rattle.geoparquet_bbox.proofs.Canonical.{box_of_canonical}
use Rattle.geoparquet_bbox.proofs.Finite.{finite_number, finite_alike}
use Rattle.geoparquet_bbox.proofs.Passing.{to_number, from_number, box_passes, array_passes}

-- ---- a list by its places
abbrev places : List Float → ℕ → ℕ → List Float
places vs k zero = []
places vs k (suc n) = get_or vs k nan ∷ places vs (suc k) n

places_rest : (vs : List Float) (k n : ℕ) → length vs ≡ k + n → places vs k n ≡ drop k vs
places_rest vs k zero e = let h : k ≡ length vs = omega arith in rw (h, drop-length)
places_rest vs k (suc n) e = let h = places_rest vs (suc k) n (omega arith) in rw (h, drop-cons vs k nan (omega arith))

-- ---- one layout laid over the other
box_of_array : (b : BoundingBox) → b.m ≡ None → box_of (array_of b) ≡ plus_zero b
unfolding box_of lows_then_highs
box_of_array b e = go b.z ∙ ap (λ m. xyzm b.x b.y b.z m) (sym e)
  where
    go : (z : Option Interval) → box_of (array_of (record { x = b.x; y = b.y; z = z; m = b.m })) ≡ xyzm b.x b.y z None
    go None = simp twice
    go (Some i) = simp twice

array_of_box : (vs : List Float) → (length vs ≡ 4) ⊎ (length vs ≡ 6) → array_of (box_of vs) ≡ map float.plus_zero vs
unfolding box_of lows_then_highs
array_of_box vs (inl e) = rw e (simp twice (ap (map float.plus_zero) (places_rest vs 0 4 e)))
array_of_box vs (inr e) = rw e (simp twice (ap (map float.plus_zero) (places_rest vs 0 6 e)))

-- an array has four numbers or six, and all of them are given
array_given : (b : BoundingBox) → ((length (array_of b) ≡ 4) ⊎ (length (array_of b) ≡ 6)) × (array (given (array_of b)) ≡ array_of b)
unfolding lows_then_highs
array_given b = go (plus_zero b).x.inner (plus_zero b).y (plus_zero b).z
  where
    go : (x y : Interval) (z : Option Interval) → ((length (lows_then_highs x y z) ≡ 4) ⊎ (length (lows_then_highs x y z) ≡ 6)) × (array (given (lows_then_highs x y z)) ≡ lows_then_highs x y z)
    go x y None = (inl refl, refl)
    go x y (Some i) = (inr refl, refl)

-- ---- what is given where nothing is refused
to_given : (b : BoundingBox) → (to_geoparquet b).number ≡ 0 → to_geoparquet b ≡ given (array_of b)
unfolding to_geoparquet
to_given b e = rw (eq-eqb (box_refusal b) 0 (sym (to_number b) ∙ e))

from_given : (vs : List Float) → (from_geoparquet vs).number ≡ 0 → from_geoparquet vs ≡ accepted (box_of vs)
unfolding from_geoparquet numbered
from_given vs e = rw (eq-eqb (array_refusal vs) 0 (sym (from_number vs) ∙ e))

-- ---- a box handed on is publishable too
plus_finite : {i : Interval} → Finite i → Finite (interval.plus_zero i)
plus_finite {i} f = record { lo = finite_alike (alike_plus i.lo) ∙ f.lo; hi = finite_alike (alike_plus i.hi) ∙ f.hi }

plus_rising : {i : Interval} → Rising i → Rising (interval.plus_zero i)
plus_rising {i} r = record { ends = plus_finite r.ends; low_to_high = le_alike (alike_plus i.lo) (alike_plus i.hi) ∙ r.low_to_high }

plus_rising_where_known : (d : Option Interval) → WhereKnown Rising d → WhereKnown Rising (plus_zero_where_known d)
plus_rising_where_known None r = tt
plus_rising_where_known (Some i) r = plus_rising r

plus_publishable : {b : BoundingBox} → Publishable b → Publishable (plus_zero b)
plus_publishable {b} p = record {
  numbers = record {
    x = plus_finite p.numbers.x;
    y = plus_rising p.numbers.y;
    z = plus_rising_where_known b.z p.numbers.z;
    m = plus_rising_where_known b.m p.numbers.m;
  };
  no_m = ap plus_zero_where_known p.no_m;
}

-- ---- there and back
-- A box that is not refused, turned into an array and back, is handed on.
pub box_there_and_back : (b : BoundingBox) → (to_geoparquet b).number ≡ 0 → from_geoparquet (array (to_geoparquet b)) ≡ accepted b
box_there_and_back b e =
    let p = (box_passes b).0 e in
    let same = box_of_array b p.no_m in
    let passes = (array_passes (array_of b)).1 (record { four_or_six = (array_given b).0; bounds = subst Publishable (sym same) (plus_publishable p) }) in
    rw (to_given b e, (array_given b).1)
    (from_given (array_of b) passes ∙ ap accepted same ∙ accepted_is (accepted_canonical b))

-- An array that is not refused, turned into a box and back, is given with +0 for zero.
pub array_there_and_back : (vs : List Float) → (from_geoparquet vs).number ≡ 0
    → (to_geoparquet (from_geoparquet vs).bounds ≡ given (map float.plus_zero vs)) × (array (to_geoparquet (from_geoparquet vs).bounds) ≡ map float.plus_zero vs)
array_there_and_back vs e =
    let p = (array_passes vs).0 e in
    let there = to_given (box_of vs) ((box_passes (box_of vs)).1 p.bounds) in
    let same = array_of_box vs p.four_or_six in
    rw (from_given vs e, stays_box (box_of_canonical vs)) (there ∙ ap given same, ap array there ∙ (array_given (box_of vs)).1 ∙ same)

-- ---- "the same numbers"
finite_ends : {i : Interval} → Finite i → interval.EqualNumbers (interval.plus_zero i) i
finite_ends {i} f = plus_equal_interval (finite_number i.lo f.lo) (finite_number i.hi f.hi)

rising_where_known : (d : Option Interval) → WhereKnown Rising d → KnownAlike interval.EqualNumbers (plus_zero_where_known d) d
rising_where_known None r = tt
rising_where_known (Some i) r = finite_ends r.ends

pub box_same_numbers : (b : BoundingBox) → (to_geoparquet b).number ≡ 0 → bounding_box.EqualNumbers (from_geoparquet (array (to_geoparquet b))).bounds b
box_same_numbers b e =
    let p = (box_passes b).0 e in
    rw (box_there_and_back b e) (record {
      x = finite_ends p.numbers.x;
      y = finite_ends p.numbers.y.ends;
      z = rising_where_known b.z p.numbers.z;
      m = rising_where_known b.m p.numbers.m;
    })

-- a number of the box is finite where the array's is
of_plus : (v : Float) → is_finite (float.plus_zero v) ≡ true → Number v
of_plus v h = finite_number v (sym (finite_alike (alike_plus v)) ∙ h)

equal_numbers : (vs : List Float) → (length vs ≡ 4) ⊎ (length vs ≡ 6) → Publishable (box_of vs) → EqualNumbers (map float.plus_zero vs) vs
unfolding box_of
equal_numbers (a ∷ b ∷ c ∷ d ∷ []) l p =
    let x = simp twice at p.numbers.x in
    let y = simp twice at p.numbers.y.ends in (
      plus_equal (of_plus a x.lo),
      (plus_equal (of_plus b y.lo), (plus_equal (of_plus c x.hi), (plus_equal (of_plus d y.hi), tt))),
    )
equal_numbers (a ∷ b ∷ c ∷ d ∷ e ∷ f ∷ []) l p =
    let x = simp twice at p.numbers.x in
    let y = simp twice at p.numbers.y.ends in
    let z = simp twice at p.numbers.z.ends in (
      plus_equal (of_plus a x.lo),
      (
        plus_equal (of_plus b y.lo),
        (plus_equal (of_plus c z.lo), (plus_equal (of_plus d x.hi), (plus_equal (of_plus e y.hi), (plus_equal (of_plus f z.hi), tt)))),
      ),
    )
equal_numbers [] l p = absurd (⊎_elim (λ h. omega arith) (λ h. omega arith) l)
equal_numbers (a ∷ []) l p = absurd (⊎_elim (λ h. omega arith) (λ h. omega arith) l)
equal_numbers (a ∷ b ∷ []) l p = absurd (⊎_elim (λ h. omega arith) (λ h. omega arith) l)
equal_numbers (a ∷ b ∷ c ∷ []) l p = absurd (⊎_elim (λ h. omega arith) (λ h. omega arith) l)
equal_numbers (a ∷ b ∷ c ∷ d ∷ e ∷ []) l p = absurd (⊎_elim (λ h. omega arith) (λ h. omega arith) l)
equal_numbers (a ∷ b ∷ c ∷ d ∷ e ∷ f ∷ g ∷ vs) l p = absurd (⊎_elim (λ h. omega arith) (λ h. omega arith) l)

pub array_same_numbers : (vs : List Float) → (from_geoparquet vs).number ≡ 0 → EqualNumbers (array (to_geoparquet (from_geoparquet vs).bounds)) vs
array_same_numbers vs e = let p = (array_passes vs).0 e in rw (array_there_and_back vs e).1 (equal_numbers vs p.four_or_six p.bounds)

-- ---- the same bits, where the input has no −0
pub box_same_bits : (b : BoundingBox) → (to_geoparquet b).number ≡ 0 → Canonical b → (from_geoparquet (array (to_geoparquet b))).bounds ≡ b
box_same_bits b e c = rw (box_there_and_back b e) (stays_box c)

stay : (vs : List Float) → NoMinusZero vs → map float.plus_zero vs ≡ vs
stay [] c = refl
stay (v ∷ vs) c = ap₂ (λ (w : Float) (ws : List Float). w ∷ ws) (stays v c.0) (stay vs c.1)

pub array_same_bits : (vs : List Float) → (from_geoparquet vs).number ≡ 0 → NoMinusZero vs → array (to_geoparquet (from_geoparquet vs).bounds) ≡ vs
array_same_bits vs e c = (array_there_and_back vs e).1 ∙ stay vs c
