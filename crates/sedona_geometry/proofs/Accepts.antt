-- What a plain interval contains and accepts: nothing is lost by merging, and an empty one accepts nothing. Assumes nothing.
use mathlib.Core.Path.{◌≡◌, sym, subst}
use mathlib.Core.Bool.{true, false}
use lib.Dec.{T}
use lib.Ieee.{Float, inf, binary64, le, eq, fits}
use lib.Ieee.Fits.{and_l, and_r, and_i}
use Rattle.sedona_geometry.specs.Float.{min_num, max_num}
use Rattle.sedona_geometry.specs.Interval.{Doubles, Accepts, new, plus_zero, width, intersects_value, intersects_interval, contains_interval, is_empty, merge_interval, merge_value}
use Rattle.sedona_geometry.specs.declared.interval.Interval.{Interval}
use Rattle.sedona_geometry.proofs.Booleans.{holds, fails, is_true}
use Rattle.sedona_geometry.proofs.Order.{Number, Le, le_refl, le_trans, le_number, eq_inf}
use Rattle.sedona_geometry.proofs.PlusZero.{plus_le, le_plus, of_plus_le, of_le_plus, plus_fits}
use Rattle.sedona_geometry.proofs.MinMax.{min_le_left, min_le_right, min_fits, max_ge_left, max_ge_right, max_fits}
use Rattle.sedona_geometry.proofs.Rounding.{sub_not_bottom, sub_wider}

-- ---- one inside the other
pub record Contains (i j : Interval) : Type 0 where
  pub holds : contains_interval i j ≡ true

pub inside : {i j : Interval} → Contains i j → Le i.lo j.lo × Le j.hi i.hi
unfolding contains_interval
inside {i} {j} h = (
  record { test = and_l (le i.lo j.lo) (le j.hi i.hi) (holds h.holds) },
  record { test = and_r (le i.lo j.lo) (le j.hi i.hi) (holds h.holds) },
)

pub contains : {i j : Interval} → Le i.lo j.lo → Le j.hi i.hi → Contains i j
unfolding contains_interval
contains {i} {j} h k =
    record { holds = is_true (contains_interval i j) (and_i (le i.lo j.lo) (le j.hi i.hi) h.test k.test) }

-- of an interval made of two ends
pub new_contains : {lo hi : Float} {j : Interval} → Le lo j.lo → Le j.hi hi → Contains (new lo hi) j
new_contains h k = contains (plus_le h) (le_plus k)

-- of an interval handed on
pub plus_contains : (i : Interval) {k : Interval} → Contains i k → Contains (plus_zero i) k
plus_contains i c = new_contains (inside c).0 (inside c).1

pub of_plus_contains : (i : Interval) {k : Interval} → Contains (plus_zero i) k → Contains i k
of_plus_contains i c = contains (of_plus_le (inside c).0) (of_le_plus (inside c).1)

-- neither has NaN
pub contained_numbers : {i j : Interval} → Contains i j → Number j.lo × Number j.hi
contained_numbers c = ((le_number (inside c).0).1, (le_number (inside c).1).0)

pub containing_numbers : {i j : Interval} → Contains i j → Number i.lo × Number i.hi
containing_numbers c = ((le_number (inside c).0).0, (le_number (inside c).1).1)

-- around what runs low to high, it runs low to high
pub contains_low_to_high : {i j : Interval} → Contains i j → Le j.lo j.hi → Le i.lo i.hi
contains_low_to_high c l = le_trans (inside c).0 (le_trans l (inside c).1)

pub contains_itself : {i : Interval} → Number i.lo → Number i.hi → Contains i i
contains_itself L H = contains (le_refl L) (le_refl H)

pub merge_contains_left : {i k : Interval} (j : Interval) → Contains i k → Contains (merge_interval i j) k
unfolding merge_interval
merge_contains_left j h = new_contains (min_le_left j.lo (inside h).0) (max_ge_left j.hi (inside h).1)

pub merge_contains_right : (i : Interval) {j k : Interval} → Contains j k → Contains (merge_interval i j) k
unfolding merge_interval
merge_contains_right i h = new_contains (min_le_right i.lo (inside h).0) (max_ge_right i.hi (inside h).1)

-- ---- between the ends
pub between : {i : Interval} {v : Float} → Accepts i v → Le i.lo v × Le v i.hi
unfolding intersects_value
between {i} {v} h = (record { test = and_l (le i.lo v) (le v i.hi) (holds h.holds) }, record { test = and_r (le i.lo v) (le v i.hi) (holds h.holds) })

pub accepts : {i : Interval} {v : Float} → Le i.lo v → Le v i.hi → Accepts i v
unfolding intersects_value
accepts {i} {v} h k = record { holds = is_true (intersects_value i v) (and_i (le i.lo v) (le v i.hi) h.test k.test) }

-- of an interval made of two ends
pub new_accepts : {lo hi v : Float} → Le lo v → Le v hi → Accepts (new lo hi) v
new_accepts h k = accepts (plus_le h) (le_plus k)

-- of an interval handed on
pub plus_accepts : (i : Interval) {v : Float} → Accepts i v → Accepts (plus_zero i) v
plus_accepts i h = new_accepts (between h).0 (between h).1

pub of_plus_accepts : (i : Interval) {v : Float} → Accepts (plus_zero i) v → Accepts i v
of_plus_accepts i h = accepts (of_plus_le (between h).0) (of_le_plus (between h).1)

-- a number is accepted where it lies inside by itself
pub point_inside : {i : Interval} {v : Float} → Accepts i v → Contains i (new v v)
point_inside h = contains (le_plus (between h).0) (plus_le (between h).1)

pub inside_accepts : {i : Interval} {v : Float} → Contains i (new v v) → Accepts i v
inside_accepts c = accepts (of_le_plus (inside c).0) (of_plus_le (inside c).1)

pub accepts_low_to_high : {i : Interval} {v : Float} → Accepts i v → Le i.lo i.hi
accepts_low_to_high h = le_trans (between h).0 (between h).1

pub accepts_number : {i : Interval} {v : Float} → Accepts i v → Number v
accepts_number h = (le_number (between h).1).0

-- ---- an empty interval accepts nothing
pub empty_not_low_to_high : {i : Interval} → Doubles i → is_empty i ≡ true → Le i.lo i.hi → ⊥
unfolding is_empty
empty_not_low_to_high {i} D e h = sub_not_bottom binary64 D.hi D.lo h (eq_inf (width i) true (holds e))

pub empty_accepts_nothing_lem : {i : Interval} {v : Float} → Doubles i → is_empty i ≡ true → Accepts i v → ⊥
empty_accepts_nothing_lem D e h = empty_not_low_to_high D e (accepts_low_to_high h)

-- ---- k lies inside no empty interval
pub record Solid (k : Interval) : Type 0 where
  pub outside : {i : Interval} → Doubles i → is_empty i ≡ true → Contains i k → ⊥

pub low_to_high_solid : {k : Interval} → Le k.lo k.hi → Solid k
low_to_high_solid l = record { outside = λ D e c. empty_not_low_to_high D e (contains_low_to_high c l) }

pub non_empty_solid : {k : Interval} → is_empty k ≡ false → Solid k
unfolding is_empty eq
non_empty_solid n = record {
  outside = λ {i} D e c.
      sub_wider binary64 (inside c).0 (inside c).1 (λ z. fails n (subst (λ (w : Float). T (eq w (inf true))) (sym z) tt)) (eq_inf (width i) true (holds e));
}

-- ---- merging loses nothing
pub merge_accepts_left : {i : Interval} {v : Float} (j : Interval) → Accepts i v → Accepts (merge_interval i j) v
merge_accepts_left j h = inside_accepts (merge_contains_left j (point_inside h))

pub merge_accepts_right : (i : Interval) {j : Interval} {v : Float} → Accepts j v → Accepts (merge_interval i j) v
merge_accepts_right i h = inside_accepts (merge_contains_right i (point_inside h))

pub merge_value_keeps : {i : Interval} {v : Float} (w : Float) → Accepts i v → Accepts (merge_value i w) v
unfolding merge_value
merge_value_keeps w h = new_accepts (min_le_left w (between h).0) (max_ge_left w (between h).1)

pub merge_value_accepts : (i : Interval) {v : Float} → Number v → Accepts (merge_value i v) v
unfolding merge_value
merge_value_accepts i N = new_accepts (min_le_right i.lo (le_refl N)) (max_ge_right i.hi (le_refl N))

pub new_doubles : (lo hi : Float) → T (fits binary64 lo) → T (fits binary64 hi) → Doubles (new lo hi)
new_doubles lo hi L H = record { lo = plus_fits binary64 lo L; hi = plus_fits binary64 hi H }

pub plus_doubles : {i : Interval} → Doubles i → Doubles (plus_zero i)
plus_doubles {i} D = new_doubles i.lo i.hi D.lo D.hi

pub merge_doubles : {i j : Interval} → Doubles i → Doubles j → Doubles (merge_interval i j)
unfolding merge_interval
merge_doubles {i} {j} D E =
    new_doubles (min_num i.lo j.lo) (max_num i.hi j.hi) (min_fits binary64 i.lo j.lo D.lo E.lo) (max_fits binary64 i.hi j.hi D.hi E.hi)

pub merge_value_doubles : {i : Interval} (v : Float) → Doubles i → T (fits binary64 v) → Doubles (merge_value i v)
unfolding merge_value
merge_value_doubles {i} v D F = new_doubles (min_num i.lo v) (max_num i.hi v) (min_fits binary64 i.lo v D.lo F) (max_fits binary64 i.hi v D.hi F)

-- ---- two that accept a common number intersect
pub common_intersect : {i j : Interval} {v : Float} → Accepts i v → Accepts j v → intersects_interval i j ≡ true
unfolding intersects_interval
common_intersect {i} {j} h k =
    is_true (intersects_interval i j) (and_i (le i.lo j.hi) (le j.lo i.hi) (le_trans (between h).0 (between k).1).test (le_trans (between k).0 (between h).1).test)
