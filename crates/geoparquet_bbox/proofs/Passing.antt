-- When nothing is refused, in plain words: `box_passes` and `array_passes`. Assumes nothing.
use Rattle.std.specs.Prelude.{Option, Some, None, is_some}
use mathlib.Core.Path.{◌≡◌, refl, sym, ap, ◌∙◌}
use mathlib.Core.Bool.{Bool, true, false, not, ◌&&◌, cond, and-eq-true_iff}
use mathlib.Core.List.{List}
use mathlib.Core.Logic.{◌⊎◌, inl, inr, ◌↔◌}
use Prim.Native.Nat.{ℕ}
use native.Mathlib.Omega.{arith}
use lib.Dec.{eqb}
use lib.ListN.{length}
use lib.Ieee.{Float, lt, le}
use borrow.Author.Tests.{eqb-true, eq-eqb, not-true}
use Rattle.sedona_geometry.specs.BoundingBox.{numbered}
use Rattle.sedona_geometry.specs.BoundingBox as bounding_box
use Rattle.sedona_geometry.specs.declared.interval.Interval.{Interval}
use Rattle.sedona_geometry.specs.declared.bounding_box.BoundingBox.{BoundingBox}
use Rattle.sedona_geometry.specs.BoundingBox.{NumberedBox}
use Rattle.sedona_geometry.proofs.Booleans.{holds, fails, is_true, is_false}
use Rattle.sedona_geometry.proofs.Order.{le_of_not_lt, lt_not_le}
use Rattle.geoparquet_bbox.specs.Error as error
use Rattle.geoparquet_bbox.specs.Layout.{is_finite, are_finite, is_rising, rises_where_known, is_known, numbers_refusal, box_refusal, array_refusal, box_of_four, box_of_six, box_of, to_geoparquet, from_geoparquet, Finite, Rising, Publishable, PublishableArray}
use Rattle.geoparquet_bbox.specs.Layout.{NumberedArray}
use Rattle.geoparquet_bbox.proofs.Finite.{finite_number}

-- ---- an interval
are_finite_lem : (i : Interval) → (are_finite i ≡ true) ↔ Finite i
unfolding are_finite
are_finite_lem i =
    let both = and-eq-true_iff (is_finite i.lo) (is_finite i.hi) in
    (λ e. record { lo = (both.0 e).0; hi = (both.0 e).1 }, λ f. both.1 (f.lo, f.hi))

is_rising_lem : (i : Interval) → (is_rising i ≡ true) ↔ Rising i
unfolding is_rising
is_rising_lem i = (there, back)
  where
    both : ((are_finite i && not (lt i.hi i.lo)) ≡ true) ↔ ((are_finite i ≡ true) × (not (lt i.hi i.lo) ≡ true))
    both = and-eq-true_iff (are_finite i) (not (lt i.hi i.lo))

    there : (are_finite i && not (lt i.hi i.lo)) ≡ true → Rising i
    there e =
        let f = (are_finite_lem i).0 (both.0 e).0 in
        let l = le_of_not_lt (finite_number i.hi f.hi) (finite_number i.lo f.lo) (λ h. fails (not-true (lt i.hi i.lo) (both.0 e).1) h.test) in
        record { ends = f; low_to_high = is_true (le i.lo i.hi) l.test }

    back : Rising i → (are_finite i && not (lt i.hi i.lo)) ≡ true
    back r =
        let l = is_false (lt i.hi i.lo) (λ h. lt_not_le (record { test = h }) (record { test = holds r.low_to_high })) in
        both.1 ((are_finite_lem i).1 r.ends, rw l)

rises_where_known_lem : (d : Option Interval) → (rises_where_known d ≡ true) ↔ bounding_box.WhereKnown Rising d
unfolding rises_where_known
rises_where_known_lem None = (λ e. tt, λ h. refl)
rises_where_known_lem (Some i) = is_rising_lem i

-- ---- a box
passes_by : (t : Bool) (n : ℕ) → (n ≡ 0 → ⊥) → (cond t 0 n ≡ 0) ↔ (t ≡ true)
passes_by true n h = (λ e. refl, λ e. refl)
passes_by false n h = (λ e. absurd (h e), λ e. absurd (holds e))

numbers_pass : (b : BoundingBox) → b.m ≡ None → (numbers_refusal b ≡ 0) ↔ Publishable b
unfolding numbers_refusal
numbers_pass b no_m_lem =
    let x = are_finite b.x.inner in
    let y = is_rising b.y in
    let z = rises_where_known b.z in
    let pass = passes_by (x && y && z) error.bad_numbers (λ e. omega arith) in
    let all = and-eq-true_iff (x && y) z in
    let two = and-eq-true_iff x y in (
      λ e. let t = all.0 (pass.0 e) in record {
        numbers = record {
          x = (are_finite_lem b.x.inner).0 (two.0 t.0).0;
          y = (is_rising_lem b.y).0 (two.0 t.0).1;
          z = (rises_where_known_lem b.z).0 t.1;
          m = rw no_m_lem tt;
        };
        no_m = no_m_lem;
      },
      λ p. pass.1 (all.1 (two.1 ((are_finite_lem b.x.inner).1 p.numbers.x, (is_rising_lem b.y).1 p.numbers.y), (rises_where_known_lem b.z).1 p.numbers.z)),
    )

-- a known m refuses, and else the numbers do
pub by_m : (b : BoundingBox) {m : Option Interval} → b.m ≡ m → box_refusal b ≡ cond (is_known m) error.known_m (numbers_refusal b)
unfolding box_refusal
by_m b e = ap (λ (m : Option Interval). cond (is_known m) error.known_m (numbers_refusal b)) e

-- the number of an answer that is given where n is 0, and else refused by n
number_is : {A : Type 0} (number : A → ℕ) (n : ℕ) {given refused : A} → number given ≡ 0 → number refused ≡ n → number (cond (eqb n 0) given refused) ≡ n
number_is number n {given} {refused} e f = go (eqb n 0) refl
  where
    go : (t : Bool) → eqb n 0 ≡ t → number (cond t given refused) ≡ n
    go true h = e ∙ sym (eqb-true n 0 h)
    go false h = f

pub to_number : (b : BoundingBox) → (to_geoparquet b).number ≡ box_refusal b
unfolding to_geoparquet
to_number b = number_is (λ (a : NumberedArray). a.number) (box_refusal b) refl refl

-- Towards an array nothing refuses a box exactly where it is publishable.
pub box_passes : (b : BoundingBox) → ((to_geoparquet b).number ≡ 0) ↔ Publishable b
box_passes b = (
  λ e. there b.m refl (sym (to_number b) ∙ e),
  λ p. to_number b ∙ by_m b p.no_m ∙ (numbers_pass b p.no_m).1 p,
)
  where
    there : (m : Option Interval) → b.m ≡ m → box_refusal b ≡ 0 → Publishable b
    there None e h = (numbers_pass b e).0 (sym (by_m b e) ∙ h)
    there (Some i) e h = let k = sym (by_m b e) ∙ h in absurd (omega arith)

-- ---- an array
no_m_lem : (vs : List Float) → (box_of vs).m ≡ None
unfolding box_of
no_m_lem vs = go (eqb (length vs) 4)
  where
    go : (four : Bool) → (cond four (box_of_four vs) (box_of_six vs)).m ≡ None
    go true = refl
    go false = refl

-- of four numbers or six, the numbers refuse, and else the length does
four_or_six_lem : (vs : List Float) → (length vs ≡ 4) ⊎ (length vs ≡ 6) → array_refusal vs ≡ numbers_refusal (box_of vs)
unfolding array_refusal
four_or_six_lem vs (inl e) = rw (eq-eqb (length vs) 4 e)
four_or_six_lem vs (inr e) = rw e

neither : (vs : List Float) → eqb (length vs) 4 ≡ false → eqb (length vs) 6 ≡ false → array_refusal vs ≡ error.bbox_length
unfolding array_refusal
neither vs e f = rw (e, f)

pub from_number : (vs : List Float) → (from_geoparquet vs).number ≡ array_refusal vs
unfolding from_geoparquet numbered
from_number vs = number_is (λ (a : NumberedBox). a.number) (array_refusal vs) refl refl

-- From an array nothing refuses it exactly where it has four numbers or six, of a box that is publishable.
pub array_passes : (vs : List Float) → ((from_geoparquet vs).number ≡ 0) ↔ PublishableArray vs
array_passes vs = (
  λ e. there (eqb (length vs) 4) (eqb (length vs) 6) refl refl (sym (from_number vs) ∙ e),
  λ p. from_number vs ∙ four_or_six_lem vs p.four_or_six ∙ (numbers_pass (box_of vs) (no_m_lem vs)).1 p.bounds,
)
  where
    passed : (length vs ≡ 4) ⊎ (length vs ≡ 6) → array_refusal vs ≡ 0 → PublishableArray vs
    passed l h = record { four_or_six = l; bounds = (numbers_pass (box_of vs) (no_m_lem vs)).0 (sym (four_or_six_lem vs l) ∙ h) }

    there : (four six : Bool) → eqb (length vs) 4 ≡ four → eqb (length vs) 6 ≡ six → array_refusal vs ≡ 0 → PublishableArray vs
    there true six e f h = passed (inl (eqb-true (length vs) 4 e)) h
    there false true e f h = passed (inr (eqb-true (length vs) 6 f)) h
    there false false e f h = let k = sym (neither vs e f) ∙ h in absurd (omega arith)

pub known_is_some : (d : Option Interval) → is_known d ≡ is_some d
known_is_some None = refl
known_is_some (Some i) = refl
