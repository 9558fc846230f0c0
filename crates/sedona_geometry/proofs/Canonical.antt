-- Request 6: what a call gives has no −0, call by call; and where it is handed on it stays. Assumes nothing.
use Rattle.std.specs.Prelude.{Option, Some, None, Result, Ok, Err}
use mathlib.Core.Path.{◌≡◌, refl, ap, ap₂}
use mathlib.Core.Bool.{Bool, true, false, not, ◌||◌, cond}
use Prim.Native.Nat.{ℕ}
use lib.Dec.{eqb}
use lib.Ieee.{Float, inf, binary64, add, sub, lt, le, is_nan}
use Rattle.sedona_geometry.specs.Float as float
use Rattle.sedona_geometry.specs.Interval as interval
use Rattle.sedona_geometry.specs.Interval.{Canonical}
use Rattle.sedona_geometry.specs.WraparoundInterval as wraparound
use Rattle.sedona_geometry.specs.BoundingBox as bounding_box
use Rattle.sedona_geometry.specs.BoundingBox.{WhereKnown}
use Rattle.sedona_geometry.specs.declared.interval.Interval.{Interval}
use Rattle.sedona_geometry.specs.declared.interval.WraparoundInterval.{WraparoundInterval}
use Rattle.sedona_geometry.specs.declared.interval.Pieces.{Pieces}
use Rattle.sedona_geometry.specs.declared.error.Refusal.{Refusal}
use Rattle.sedona_geometry.specs.declared.bounding_box.BoundingBox.{BoundingBox}
use Rattle.sedona_geometry.proofs.Booleans.{of_cond}
use Rattle.sedona_geometry.proofs.PlusZero.{never_minus, stays}

-- ---- floats
pub min_canonical : (x y : Float) → float.is_minus_zero (float.min_num x y) ≡ false
unfolding float.min_num
min_canonical x y = never_minus (cond (is_nan x) y (cond (lt y x) y x))

pub max_canonical : (x y : Float) → float.is_minus_zero (float.max_num x y) ≡ false
unfolding float.max_num
max_canonical x y = never_minus (cond (is_nan x) y (cond (lt x y) y x))

-- ---- intervals
pub new_canonical : (lo hi : Float) → Canonical (interval.new lo hi)
new_canonical lo hi = record { lo = never_minus lo; hi = never_minus hi }

-- handed on, it stays
pub stays_interval : {i : Interval} → Canonical i → interval.plus_zero i ≡ i
stays_interval {i} c = ap₂ (λ (l h : Float). record { lo = l; hi = h }) (stays i.lo c.lo) (stays i.hi c.hi)

pub empty_canonical : Canonical interval.empty
empty_canonical = record { lo = refl; hi = refl }

pub full_canonical : Canonical interval.full
full_canonical = record { lo = refl; hi = refl }

pub merge_canonical : (i j : Interval) → Canonical (interval.merge_interval i j)
unfolding interval.merge_interval
merge_canonical i j = new_canonical (float.min_num i.lo j.lo) (float.max_num i.hi j.hi)

pub merge_value_canonical : (i : Interval) (v : Float) → Canonical (interval.merge_value i v)
unfolding interval.merge_value
merge_value_canonical i v = new_canonical (float.min_num i.lo v) (float.max_num i.hi v)

pub expand_canonical : (i : Interval) (d : Float) → Canonical (interval.expand_by i d)
unfolding interval.expand_by
expand_canonical i d = of_cond Canonical (interval.is_unmoved_by i d) (new_canonical i.lo i.hi) (new_canonical (sub binary64 i.lo d) (add binary64 i.hi d))

pub intersection_canonical : (i j : Interval) → Canonical (interval.intersection i j)
unfolding interval.intersection
intersection_canonical i j =
    let lo = float.max_num i.lo j.lo in
    let hi = float.min_num i.hi j.hi in
    of_cond Canonical (lt hi lo) empty_canonical (new_canonical lo hi)

-- ---- x
abbrev CanonicalX : WraparoundInterval → Type 0
CanonicalX x = Canonical x.inner

pub new_x_canonical : (lo hi : Float) → CanonicalX (wraparound.new lo hi)
new_x_canonical lo hi = new_canonical lo hi

pub from_interval_canonical : (i : Interval) → CanonicalX (wraparound.from_interval i)
from_interval_canonical i = new_canonical i.lo i.hi

pub stays_x : {x : WraparoundInterval} → CanonicalX x → wraparound.plus_zero x ≡ x
stays_x c = ap (λ (i : Interval). record { inner = i }) (stays_interval c)

pub empty_x_canonical : CanonicalX wraparound.empty
empty_x_canonical = empty_canonical

pub full_x_canonical : CanonicalX wraparound.full
full_x_canonical = full_canonical

-- a conversion's interval, where it is not refused
pub data CanonicalWherePlain : Result Interval Refusal → Type 0 where
  plain : {i : Interval} → Canonical i → CanonicalWherePlain (Ok i)
  no_plain : {e : Refusal} → CanonicalWherePlain (Err e)

pub try_into_interval_canonical : (x : WraparoundInterval) → CanonicalWherePlain (wraparound.try_into_interval x)
unfolding wraparound.try_into_interval
try_into_interval_canonical x = of_cond CanonicalWherePlain (wraparound.is_wraparound x) no_plain (plain (new_canonical x.inner.lo x.inner.hi))

pub split_canonical : (x : WraparoundInterval) → Canonical (wraparound.split x).left × Canonical (wraparound.split x).right
unfolding wraparound.split
split_canonical x = go (wraparound.is_wraparound x)
  where
    go : (b : Bool)
        → let p : Pieces = cond b (wraparound.wrapped_pieces x.inner) (record { left = interval.plus_zero x.inner; right = interval.empty }) in Canonical p.left × Canonical p.right
    go true = (new_canonical (inf true) x.inner.hi, new_canonical x.inner.lo (inf false))
    go false = (new_canonical x.inner.lo x.inner.hi, empty_canonical)

from_pieces_canonical : (l r : Interval) → CanonicalX (wraparound.from_pieces l r)
unfolding wraparound.from_pieces
from_pieces_canonical l r = of_cond CanonicalX (interval.intersects_interval l r) full_canonical (new_canonical r.lo l.hi)

merge_plain_canonical : (x y : WraparoundInterval) → CanonicalX (wraparound.merge_plain x y)
unfolding wraparound.merge_plain
merge_plain_canonical x y =
    of_cond CanonicalX (wraparound.nearer_left x y)
    (from_pieces_canonical (interval.merge_interval (wraparound.split x).left y.inner) (wraparound.split x).right)
    (from_pieces_canonical (wraparound.split x).left (interval.merge_interval (wraparound.split x).right y.inner))

merge_wrapped_canonical : (x y : WraparoundInterval) → CanonicalX (wraparound.merge_wrapped x y)
unfolding wraparound.merge_wrapped
merge_wrapped_canonical x y = from_pieces_canonical _ _

pub merge_x_canonical : (x y : WraparoundInterval) → CanonicalX (wraparound.merge_interval x y)
unfolding wraparound.merge_interval wraparound.merge_non_empty
merge_x_canonical x y =
    of_cond CanonicalX (wraparound.is_empty x) (from_interval_canonical y.inner)
    (of_cond CanonicalX (wraparound.is_empty y) (from_interval_canonical x.inner)
    (of_cond CanonicalX (wraparound.is_wraparound x)
    (of_cond CanonicalX (wraparound.is_wraparound y) (merge_wrapped_canonical x y) (merge_plain_canonical x y))
    (of_cond CanonicalX (wraparound.is_wraparound y) (merge_plain_canonical y x) (from_interval_canonical (interval.merge_interval x.inner y.inner)))))

pub merge_value_x_canonical : (x : WraparoundInterval) (v : Float) → CanonicalX (wraparound.merge_value x v)
unfolding wraparound.merge_value wraparound.move_end
merge_value_x_canonical x v =
    of_cond CanonicalX (wraparound.intersects_value x v || is_nan v) (from_interval_canonical x.inner)
    (of_cond CanonicalX (not (wraparound.is_wraparound x)) (from_interval_canonical (interval.merge_value x.inner v))
    (of_cond CanonicalX (lt (sub binary64 v x.inner.hi) (sub binary64 x.inner.lo v)) (new_canonical x.inner.lo v) (new_canonical v x.inner.hi)))

pub expand_x_canonical : (x : WraparoundInterval) (d : Float) → CanonicalX (wraparound.expand_by x d)
unfolding wraparound.expand_by wraparound.excluding
expand_x_canonical x d =
    of_cond CanonicalX (interval.is_unmoved_by x.inner d) (from_interval_canonical x.inner)
    (of_cond CanonicalX (not (wraparound.is_wraparound x)) (from_interval_canonical (interval.expand_by x.inner d))
    (of_cond CanonicalX (le (sub binary64 x.inner.lo d) (add binary64 x.inner.hi d)) full_canonical
    (new_canonical (sub binary64 x.inner.lo d) (add binary64 x.inner.hi d))))

-- an intersection's x, where it is not refused
pub data CanonicalWhereSingle : Result WraparoundInterval Refusal → Type 0 where
  single : {x : WraparoundInterval} → CanonicalX x → CanonicalWhereSingle (Ok x)
  no_single : {e : Refusal} → CanonicalWhereSingle (Err e)

intersect_plain_canonical : (x y : WraparoundInterval) → CanonicalWhereSingle (wraparound.intersect_plain x y)
unfolding wraparound.intersect_plain
intersect_plain_canonical x y =
    let p = wraparound.split y in
    let meets_left = interval.intersects_interval x.inner p.left in
    let meets_right = interval.intersects_interval x.inner p.right in
    of_cond CanonicalWhereSingle meets_left
    (of_cond CanonicalWhereSingle meets_right no_single (single (from_interval_canonical (interval.intersection x.inner p.left))))
    (of_cond CanonicalWhereSingle meets_right (single (from_interval_canonical (interval.intersection x.inner p.right))) (single empty_x_canonical))

pub intersection_x_canonical : (x y : WraparoundInterval) → CanonicalWhereSingle (wraparound.intersection x y)
unfolding wraparound.intersection wraparound.intersect_wrapped
intersection_x_canonical x y =
    let union = interval.merge_interval (wraparound.excluded x) (wraparound.excluded y) in
    of_cond CanonicalWhereSingle (wraparound.is_wraparound x)
    (of_cond CanonicalWhereSingle (wraparound.is_wraparound y)
    (of_cond CanonicalWhereSingle (interval.intersects_interval (wraparound.excluded x) (wraparound.excluded y)) (single (new_x_canonical union.hi union.lo)) no_single)
    (intersect_plain_canonical y x))
    (of_cond CanonicalWhereSingle (wraparound.is_wraparound y) (intersect_plain_canonical x y) (single (from_interval_canonical (interval.intersection x.inner y.inner))))

-- ---- dimensions
plus_zero_where_known_canonical : (d : Option Interval) → WhereKnown Canonical (bounding_box.plus_zero_where_known d)
plus_zero_where_known_canonical None = tt
plus_zero_where_known_canonical (Some i) = new_canonical i.lo i.hi

stays_where_known : (d : Option Interval) → WhereKnown Canonical d → bounding_box.plus_zero_where_known d ≡ d
stays_where_known None c = refl
stays_where_known (Some i) c = ap (λ (j : Interval). Some j) (stays_interval c)

join_canonical : (f : Interval → Interval → Interval) → ((i j : Interval) → Canonical (f i j)) → (d e : Option Interval) → WhereKnown Canonical (bounding_box.join_known f d e)
unfolding bounding_box.join_known
join_canonical f c None e = tt
join_canonical f c (Some i) None = tt
join_canonical f c (Some i) (Some j) = c i j

pub merge_dimensions_canonical : (d e : Option Interval) → WhereKnown Canonical (bounding_box.merge_dimensions d e)
merge_dimensions_canonical d e = join_canonical interval.merge_interval merge_canonical d e

pub intersect_dimensions_canonical : (d e : Option Interval) → WhereKnown Canonical (bounding_box.intersect_dimensions d e)
intersect_dimensions_canonical d e = join_canonical interval.intersection intersection_canonical d e

-- ---- boxes
pub xyzm_canonical : (x : WraparoundInterval) (y : Interval) (z m : Option Interval) → bounding_box.Canonical (bounding_box.xyzm x y z m)
xyzm_canonical x y z m = record {
  x = from_interval_canonical x.inner;
  y = new_canonical y.lo y.hi;
  z = plus_zero_where_known_canonical z;
  m = plus_zero_where_known_canonical m;
}

-- made of canonical parts, it is made of these
pub xyzm_is : (x : WraparoundInterval) (y : Interval) (z m : Option Interval) → CanonicalX x → Canonical y → WhereKnown Canonical z → WhereKnown Canonical m
    → bounding_box.xyzm x y z m ≡ record { x = x; y = y; z = z; m = m }
xyzm_is x y z m cx cy cz cm = rw (stays_x cx, stays_interval cy, stays_where_known z cz, stays_where_known m cm)

pub stays_box : {a : BoundingBox} → bounding_box.Canonical a → bounding_box.plus_zero a ≡ a
stays_box {a} c = xyzm_is a.x a.y a.z a.m c.x c.y c.z c.m

pub xy_canonical : (x : WraparoundInterval) (y : Interval) → bounding_box.Canonical (bounding_box.xy x y)
xy_canonical x y = xyzm_canonical x y None None

pub empty_box_canonical : bounding_box.Canonical bounding_box.empty
empty_box_canonical = xy_canonical wraparound.empty interval.empty

pub expand_box_canonical : (a : BoundingBox) (d : Float) → bounding_box.Canonical (bounding_box.expand_by a d)
unfolding bounding_box.expand_by
expand_box_canonical a d = xyzm_canonical (wraparound.expand_by a.x d) (interval.expand_by a.y d) a.z a.m

pub merge_box_canonical : (a b : BoundingBox) → bounding_box.Canonical (bounding_box.merge_box a b)
unfolding bounding_box.merge_box
merge_box_canonical a b =
    xyzm_canonical (wraparound.merge_interval a.x b.x) (interval.merge_interval a.y b.y) (bounding_box.merge_dimensions a.z b.z) (bounding_box.merge_dimensions a.m b.m)

pub update_box_canonical : (a b : BoundingBox) → bounding_box.Canonical (bounding_box.update_box a b)
update_box_canonical a b = merge_box_canonical a b

pub refused_canonical : (n : ℕ) → bounding_box.Canonical (bounding_box.refused n).bounds
refused_canonical n = empty_box_canonical

pub accepted_canonical : (a : BoundingBox) → bounding_box.Canonical (bounding_box.accepted a).bounds
accepted_canonical a = xyzm_canonical a.x a.y a.z a.m

pub accepted_is : {a : BoundingBox} → bounding_box.Canonical a → bounding_box.accepted a ≡ record { number = 0; bounds = a }
accepted_is c = ap (λ (a : BoundingBox). record { number = 0; bounds = a }) (stays_box c)

pub numbered_canonical : (n : ℕ) (a : BoundingBox) → bounding_box.Canonical (bounding_box.numbered n a).bounds
unfolding bounding_box.numbered
numbered_canonical n a = go (eqb n 0)
  where
    go : (b : Bool) → bounding_box.Canonical (cond b (bounding_box.accepted a) (bounding_box.refused n)).bounds
    go true = accepted_canonical a
    go false = empty_box_canonical

with_x_canonical : (i : Result WraparoundInterval Refusal) (y : Interval) (z m : Option Interval) → bounding_box.Canonical (bounding_box.with_x i y z m).bounds
unfolding bounding_box.with_x
with_x_canonical (Err e) y z m = empty_box_canonical
with_x_canonical (Ok x) y z m = accepted_canonical (bounding_box.xyzm x y z m)

pub intersection_box_canonical : (a b : BoundingBox) → bounding_box.Canonical (bounding_box.intersection a b).bounds
unfolding bounding_box.intersection
intersection_box_canonical a b =
    with_x_canonical (wraparound.intersection a.x b.x) (interval.intersection a.y b.y) (bounding_box.intersect_dimensions a.z b.z) (bounding_box.intersect_dimensions a.m b.m)
