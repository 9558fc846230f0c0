-- Laws of boxes: merging loses nothing, a common number means intersecting, merging and intersecting keep what is contained.
-- Each is said once for a dimension. Assumes nothing.
use Rattle.std.specs.Prelude.{Option, Some, None}
use mathlib.Core.Path.{◌≡◌, refl, sym, ap, ◌∙◌}
use mathlib.Core.Logic.{◌⊎◌, inl, inr, ⊎_elim}
use mathlib.Core.Bool.{true, false, ◌&&◌}
use lib.Ieee.Fits.{and_l, and_r}
use Rattle.sedona_geometry.specs.Interval as interval
use Rattle.sedona_geometry.specs.WraparoundInterval as wraparound
use Rattle.sedona_geometry.specs.BoundingBox.{test_known, join_known, dimensions_intersect, dimensions_contain, merge_dimensions, intersect_dimensions, intersects, contains, merge_box, with_x, intersection, accepted, plus_zero_where_known, plus_zero, WhereKnown, WhereBothKnown, Both, Each, Doubles, Canonical, AcceptsAllOfKnown, NoLess, Common}
use Rattle.sedona_geometry.specs.declared.interval.Interval.{Interval}
use Rattle.sedona_geometry.specs.declared.interval.WraparoundInterval.{WraparoundInterval}
use Rattle.sedona_geometry.specs.declared.bounding_box.BoundingBox.{BoundingBox}
use Rattle.sedona_geometry.proofs.Booleans.{holds, is_true, both_true}
use Rattle.sedona_geometry.proofs.Order.{Le}
use Rattle.sedona_geometry.proofs.PlusZero.{same}
use Rattle.sedona_geometry.proofs.Alike.{plus_same, x_accepts_alike, same_itself, plus_same_box, boxes_contain_alike}
use Rattle.sedona_geometry.proofs.Canonical as canonical
use Rattle.sedona_geometry.proofs.Canonical.{xyzm_is, stays_box, accepted_is}
use Rattle.sedona_geometry.proofs.Accepts as plain
use Rattle.sedona_geometry.proofs.Accepts.{Contains}
use Rattle.sedona_geometry.proofs.Wrapping as wrapping
use Rattle.sedona_geometry.proofs.Contains as containing
use Rattle.sedona_geometry.proofs.Contains.{Straight}

-- ---- what follows of an interval follows of a box
pub known_map : {P Q : Interval → Type 0} → ((i : Interval) → P i → Q i) → (d : Option Interval) → WhereKnown P d → WhereKnown Q d
known_map f None h = tt
known_map f (Some i) h = f i h

pub each_map : {P Q : Interval → Type 0} {b : BoundingBox} → ((i : Interval) → P i → Q i) → Each P b → Each Q b
each_map {b = b} f h = record {
  x = f b.x.inner h.x;
  y = f b.y h.y;
  z = known_map f b.z h.z;
  m = known_map f b.m h.m;
}

-- ---- what is merged is made of merged parts
pub merge_is : (a b : BoundingBox)
    → merge_box a b
    ≡ record { x = wraparound.merge_interval a.x b.x; y = interval.merge_interval a.y b.y; z = merge_dimensions a.z b.z; m = merge_dimensions a.m b.m }
unfolding merge_box
merge_is a b =
    xyzm_is (wraparound.merge_interval a.x b.x) (interval.merge_interval a.y b.y) (merge_dimensions a.z b.z) (merge_dimensions a.m b.m)
    (canonical.merge_x_canonical a.x b.x) (canonical.merge_canonical a.y b.y) (canonical.merge_dimensions_canonical a.z b.z) (canonical.merge_dimensions_canonical a.m b.m)

-- ---- merging loses nothing
merge_dimensions_left : (d e : Option Interval) → AcceptsAllOfKnown (merge_dimensions d e) d
unfolding join_known
merge_dimensions_left None e = tt
merge_dimensions_left (Some i) None = tt
merge_dimensions_left (Some i) (Some j) = λ v h. plain.merge_accepts_left j h

merge_dimensions_right : (d e : Option Interval) → AcceptsAllOfKnown (merge_dimensions d e) e
unfolding join_known
merge_dimensions_right None e = tt
merge_dimensions_right (Some i) None = tt
merge_dimensions_right (Some i) (Some j) = λ v h. plain.merge_accepts_right i h

pub merge_no_less_left : {a b : BoundingBox} → Doubles a → Doubles b → NoLess (merge_box a b) a
merge_no_less_left {a} {b} D E = rw (merge_is a b) (record {
  x = λ v h. wrapping.merge_accepts D.x E.x (inl h);
  y = λ v h. plain.merge_accepts_left b.y h;
  z = merge_dimensions_left a.z b.z;
  m = merge_dimensions_left a.m b.m;
})

pub merge_no_less_right : {a b : BoundingBox} → Doubles a → Doubles b → NoLess (merge_box a b) b
merge_no_less_right {a} {b} D E = rw (merge_is a b) (record {
  x = λ v h. wrapping.merge_accepts D.x E.x (inr h);
  y = λ v h. plain.merge_accepts_right a.y h;
  z = merge_dimensions_right a.z b.z;
  m = merge_dimensions_right a.m b.m;
})

-- ---- a box handed on
plus_known_no_less : (d : Option Interval) → AcceptsAllOfKnown (plus_zero_where_known d) d
plus_known_no_less None = tt
plus_known_no_less (Some i) = λ v h. plain.plus_accepts i h

pub plus_no_less : (a : BoundingBox) → NoLess (plus_zero a) a
plus_no_less a = record {
  x = λ v h. wrapping.plus_accepts h;
  y = λ v h. plain.plus_accepts a.y h;
  z = plus_known_no_less a.z;
  m = plus_known_no_less a.m;
}

-- and no more
of_plus_known : (d : Option Interval) → AcceptsAllOfKnown d (plus_zero_where_known d)
of_plus_known None = tt
of_plus_known (Some i) = λ v h. plain.of_plus_accepts i h

pub of_plus_no_less : (a : BoundingBox) → NoLess a (plus_zero a)
of_plus_no_less a = record {
  x = λ v h. record { holds = sym (x_accepts_alike (plus_same a.x.inner) (same {x = v})) ∙ h.holds };
  y = λ v h. plain.of_plus_accepts a.y h;
  z = of_plus_known a.z;
  m = of_plus_known a.m;
}

pub plus_known_doubles : (d : Option Interval) → WhereKnown interval.Doubles d → WhereKnown interval.Doubles (plus_zero_where_known d)
plus_known_doubles None D = tt
plus_known_doubles (Some i) D = plain.plus_doubles D

pub plus_doubles : {a : BoundingBox} → Doubles a → Doubles (plus_zero a)
plus_doubles {a} D = record {
  x = plain.plus_doubles D.x;
  y = plain.plus_doubles D.y;
  z = plus_known_doubles a.z D.z;
  m = plus_known_doubles a.m D.m;
}

-- ---- merged ends are doubles
merge_dimensions_doubles : (d e : Option Interval) → WhereKnown interval.Doubles d → WhereKnown interval.Doubles e → WhereKnown interval.Doubles (merge_dimensions d e)
unfolding join_known
merge_dimensions_doubles None e D E = tt
merge_dimensions_doubles (Some i) None D E = tt
merge_dimensions_doubles (Some i) (Some j) D E = plain.merge_doubles D E

pub merge_doubles : {a b : BoundingBox} → Doubles a → Doubles b → Doubles (merge_box a b)
merge_doubles {a} {b} D E = rw (merge_is a b) (record {
  x = wrapping.merge_doubles D.x E.x;
  y = plain.merge_doubles D.y E.y;
  z = merge_dimensions_doubles a.z b.z D.z E.z;
  m = merge_dimensions_doubles a.m b.m D.m E.m;
})

-- ---- accepting no less is a preorder
known_refl : (d : Option Interval) → AcceptsAllOfKnown d d
known_refl None = tt
known_refl (Some i) = λ v h. h

known_trans : (f e d : Option Interval) → AcceptsAllOfKnown f e → AcceptsAllOfKnown e d → AcceptsAllOfKnown f d
known_trans None e d p q = tt
known_trans (Some k) None d p q = absurd p
known_trans (Some k) (Some j) None p q = q
known_trans (Some k) (Some j) (Some i) p q = λ v h. p v (q v h)

pub no_less_refl : (a : BoundingBox) → NoLess a a
no_less_refl a = record { x = λ v h. h; y = λ v h. h; z = known_refl a.z; m = known_refl a.m }

pub no_less_trans : {c b a : BoundingBox} → NoLess c b → NoLess b a → NoLess c a
no_less_trans {c} {b} {a} p q = record {
  x = λ v h. p.x v (q.x v h);
  y = λ v h. p.y v (q.y v h);
  z = known_trans c.z b.z a.z p.z q.z;
  m = known_trans c.m b.m a.m p.m q.m;
}

-- ---- boxes with a common number intersect
dimensions_intersect_lem : (d e : Option Interval) → WhereBothKnown interval.Common d e → dimensions_intersect d e ≡ true
unfolding test_known
dimensions_intersect_lem None e c = refl
dimensions_intersect_lem (Some i) None c = refl
dimensions_intersect_lem (Some i) (Some j) c = plain.common_intersect c.left c.right

pub common_intersect : {a b : BoundingBox} → Common a b → intersects a b ≡ true
unfolding intersects
common_intersect {a} {b} c =
    both_true (both_true (both_true (wrapping.common_intersect c.x.left c.x.right) (plain.common_intersect c.y.left c.y.right))
    (dimensions_intersect_lem a.z b.z c.z)) (dimensions_intersect_lem a.m b.m c.m)

-- ---- what is contained, dimension by dimension
abbrev pub XContains : WraparoundInterval → WraparoundInterval → Type 0
XContains x y = wraparound.contains_interval x y ≡ true

abbrev pub KnownContains : Option Interval → Option Interval → Type 0
KnownContains d e = dimensions_contain d e ≡ true

abbrev pub Parts : BoundingBox → BoundingBox → Type 0
Parts = Both XContains Contains KnownContains

pub parts_of_contains : {a k : BoundingBox} → contains a k ≡ true → Parts a k
unfolding contains
parts_of_contains {a} {k} h =
    let p = wraparound.contains_interval a.x k.x in
    let q = interval.contains_interval a.y k.y in
    let r = dimensions_contain a.z k.z in
    let s = dimensions_contain a.m k.m in
    let pqr = and_l (p && q && r) s (holds h) in
    let pq = and_l (p && q) r pqr in
    record {
      x = is_true p (and_l p q pq);
      y = record { holds = is_true q (and_r p q pq) };
      z = is_true r (and_r (p && q) r pqr);
      m = is_true s (and_r (p && q && r) s (holds h));
    }

pub contains_of_parts : {a k : BoundingBox} → Parts a k → contains a k ≡ true
unfolding contains
contains_of_parts p = both_true (both_true (both_true p.x p.y.holds) p.z) p.m

-- ---- a box handed on contains what it contained
pub plus_contains : (a k : BoundingBox) → contains a k ≡ true → contains (plus_zero a) k ≡ true
plus_contains a k h = boxes_contain_alike (plus_same_box a) (same_itself k) ∙ h

pub of_plus_contains : (a k : BoundingBox) → contains (plus_zero a) k ≡ true → contains a k ≡ true
of_plus_contains a k h = sym (boxes_contain_alike (plus_same_box a) (same_itself k)) ∙ h

-- ---- where no x wraps and the other's is not empty, a box contains what it contains in the Rust
pub contains_as_the_rust : (a b : BoundingBox) → wraparound.is_wraparound a.x ≡ false → wraparound.is_wraparound b.x ≡ false → wraparound.is_empty b.x ≡ false
    → contains a b
    ≡ (wraparound.contains_one_by_one a.x b.x && interval.contains_interval a.y b.y && dimensions_contain a.z b.z && dimensions_contain a.m b.m)
unfolding contains
contains_as_the_rust a b w u n = rw (containing.contains_as_the_rust a.x b.x w u n)

-- ---- merging keeps what either contains
merge_dimensions_contain : (d e k : Option Interval) → (dimensions_contain d k ≡ true) ⊎ (dimensions_contain e k ≡ true) → dimensions_contain (merge_dimensions d e) k ≡ true
unfolding test_known join_known
merge_dimensions_contain None e k h = refl
merge_dimensions_contain (Some i) None k h = refl
merge_dimensions_contain (Some i) (Some j) None h = refl
merge_dimensions_contain (Some i) (Some j) (Some l) h =
    ⊎_elim (λ a. (plain.merge_contains_left j (record { holds = a })).holds) (λ b. (plain.merge_contains_right i (record { holds = b })).holds) h

pub merge_contains : {a b k : BoundingBox} → Doubles a → Doubles b → Parts a k ⊎ Parts b k → Parts (merge_box a b) k
merge_contains {a} {b} {k} D E h = rw (merge_is a b) (record {
  x = containing.merge_contains D.x E.x k.x (⊎_elim (λ p. inl p.x) (λ p. inr p.x) h);
  y = ⊎_elim (λ p. plain.merge_contains_left b.y p.y) (λ p. plain.merge_contains_right a.y p.y) h;
  z = merge_dimensions_contain a.z b.z k.z (⊎_elim (λ p. inl p.z) (λ p. inr p.z) h);
  m = merge_dimensions_contain a.m b.m k.m (⊎_elim (λ p. inl p.m) (λ p. inr p.m) h);
})

-- ---- an intersection keeps what both contain, where x runs straight and what is contained runs low to high
abbrev pub Rising : Interval → Type 0
Rising i = Le i.lo i.hi

abbrev pub LowToHigh : BoundingBox → Type 0
LowToHigh = Each Rising

intersect_dimensions_contain : (d e k : Option Interval) → WhereKnown Rising k → dimensions_contain d k ≡ true → dimensions_contain e k ≡ true → dimensions_contain (intersect_dimensions d e) k ≡ true
unfolding test_known join_known
intersect_dimensions_contain None e k l h g = refl
intersect_dimensions_contain (Some i) None k l h g = refl
intersect_dimensions_contain (Some i) (Some j) None l h g = refl
intersect_dimensions_contain (Some i) (Some j) (Some o) l h g = (containing.intersection_contains l (record { holds = h }) (record { holds = g })).holds

-- it is never refused
abbrev pub met : BoundingBox → BoundingBox → BoundingBox
met a b = record {
  x = wraparound.from_interval (interval.intersection a.x.inner b.x.inner);
  y = interval.intersection a.y b.y;
  z = intersect_dimensions a.z b.z;
  m = intersect_dimensions a.m b.m;
}

met_canonical : (a b : BoundingBox) → Canonical (met a b)
met_canonical a b = record {
  x = canonical.from_interval_canonical (interval.intersection a.x.inner b.x.inner);
  y = canonical.intersection_canonical a.y b.y;
  z = canonical.intersect_dimensions_canonical a.z b.z;
  m = canonical.intersect_dimensions_canonical a.m b.m;
}

pub intersection_accepted : {a b : BoundingBox} → Doubles a → Doubles b → Straight a.x → Straight b.x → intersection a b ≡ record { number = 0; bounds = met a b }
unfolding intersection with_x
intersection_accepted {a} {b} D E s t =
    rw (containing.intersection_plain a.x b.x (containing.straight_plain D.x s) (containing.straight_plain E.x t))
    (ap (λ (c : BoundingBox). accepted c) (stays_box (met_canonical a b)) ∙ accepted_is (met_canonical a b))

pub intersection_contains : {a b k : BoundingBox} → Doubles a → Doubles b → Doubles k → Straight a.x → Straight b.x → LowToHigh k → Parts a k → Parts b k → Parts (met a b) k
intersection_contains {a} {b} {k} D E F s t l p q = record {
  x = containing.x_intersection_contains D.x E.x F.x s t l.x p.x q.x;
  y = containing.intersection_contains l.y p.y q.y;
  z = intersect_dimensions_contain a.z b.z k.z l.z p.z q.z;
  m = intersect_dimensions_contain a.m b.m k.m l.m p.m q.m;
}
