-- A point, and what contains it: all there is, a literal that has a common number with it, and a literal that it contains. Assumes nothing.
use Rattle.std.specs.Prelude.{Option, Some, None}
use mathlib.Core.Path.{◌≡◌, refl, sym, ◌∙◌}
use mathlib.Core.Bool.{true, false}
use Rattle.sedona_geometry.specs.Interval as interval
use Rattle.sedona_geometry.specs.BoundingBox as bounding_box
use Rattle.sedona_geometry.specs.BoundingBox.{WhereKnown, WhereBothKnown, Both, Each, Doubles, test_known, dimensions_contain}
use Rattle.sedona_geometry.specs.declared.interval.Interval.{Interval}
use Rattle.sedona_geometry.specs.declared.bounding_box.BoundingBox.{BoundingBox}
use Rattle.sedona_geometry.proofs.Booleans.{holds}
use Rattle.sedona_geometry.proofs.Order.{infinite, Le, le_of_eq, le_back, le_trans, le_number, bottom, top}
use Rattle.sedona_geometry.proofs.Accepts as plain
use Rattle.sedona_geometry.proofs.Accepts.{Contains, inside, contains}
use Rattle.sedona_geometry.proofs.Wrapping.{low_to_high_plain, plain_of_accepts, infinite_doubles}
use Rattle.sedona_geometry.proofs.Contains.{contains_low_to_high}
use Rattle.sedona_geometry.proofs.Boxes.{Parts, LowToHigh, Rising, each_map}
use Rattle.sedona_expr.specs.SpatialFilter.{full}
use Rattle.sedona_expr.specs.Demand.{is_point, low_to_high}

-- ---- what a point is, and what runs low to high
pub record Point (i : Interval) : Type 0 where
  pub up : Le i.lo i.hi
  pub down : Le i.hi i.lo

pub point : (i : Interval) → is_point i → Point i
point i p = record { up = le_of_eq (holds p.0); down = le_back (holds p.0) }

pub ordered : (i : Interval) → low_to_high i ≡ true → Rising i
ordered i h = record { test = holds h }

pub point_low_to_high : {b : BoundingBox} → Each Point b → LowToHigh b
point_low_to_high {b} p = each_map {b = b} (λ i q. q.up) p

-- ---- all there is contains a point
full_contains : {i : Interval} → Point i → Contains interval.full i
full_contains p = contains (bottom (le_number p.up).0) (top (le_number p.up).1)

pub full_reaches : {b : BoundingBox} → Doubles b → Each Point b → Parts full b
unfolding test_known
full_reaches {b} D p = record {
  x = contains_low_to_high full.x b.x D.x (low_to_high_plain (infinite_doubles true false) (bottom infinite)) p.x.up ∙ (full_contains p.x).holds;
  y = full_contains p.y;
  z = refl;
  m = refl;
}

-- ---- what is said of two intervals, said of two boxes
abbrev Pair : (Interval → Interval → Type 0) → BoundingBox → BoundingBox → Type 0
Pair R = Both (λ x y. R x.inner y.inner) R (WhereBothKnown R)

-- where it turns a point's interval into one that is contained, it does so of boxes
module _ (R : Interval → Interval → Type 0) (turn : (i j : Interval) → Point i → Rising j → R i j → Contains j i) where
  dimension_reaches : (k d : Option Interval) → WhereKnown Rising k → WhereKnown Point d → WhereBothKnown R d k → dimensions_contain k d ≡ true
  unfolding test_known
  dimension_reaches None d l p r = refl
  dimension_reaches (Some j) None l p r = refl
  dimension_reaches (Some j) (Some i) l p r = (turn i j p l r).holds

  pair_reaches : {b k : BoundingBox} → Doubles b → Doubles k → Each Point b → Each Rising k → Pair R b k → Parts k b
  pair_reaches {b} {k} D E p l r = record {
    x = contains_low_to_high k.x b.x D.x (low_to_high_plain E.x l.x) p.x.up ∙ (turn b.x.inner k.x.inner p.x l.x r.x).holds;
    y = turn b.y k.y p.y l.y r.y;
    z = dimension_reaches k.z b.z l.z p.z r.z;
    m = dimension_reaches k.m b.m l.m p.m r.m;
  }

-- ---- a literal that has a common number with a point contains it
common_contains : (i j : Interval) → Point i → Rising j → interval.Common i j → Contains j i
common_contains i j p l c =
    let a = plain.between c.left in
    let b = plain.between c.right in
    contains (le_trans b.0 (le_trans a.1 p.down)) (le_trans p.down (le_trans a.0 b.1))

pub common_reaches : {b k : BoundingBox} → Doubles b → Doubles k → Each Point b → Each Rising k → bounding_box.Common b k → Parts k b
common_reaches {b} {k} D E p l c =
    pair_reaches interval.Common common_contains D E p l (record {
      x = record {
        number = c.x.number;
        double = c.x.double;
        left = plain_of_accepts (low_to_high_plain D.x p.x.up) c.x.left;
        right = plain_of_accepts (low_to_high_plain E.x l.x) c.x.right;
      };
      y = c.y;
      z = c.z;
      m = c.m;
    })

-- ---- a literal that a point contains contains it
contained_contains : (i j : Interval) → Point i → Rising j → Contains i j → Contains j i
contained_contains i j p l c =
    let h = inside c in
    contains (le_trans l (le_trans h.1 p.down)) (le_trans p.down (le_trans h.0 l))

known_contains : (d k : Option Interval) → dimensions_contain d k ≡ true → WhereBothKnown Contains d k
unfolding test_known
known_contains None k h = tt
known_contains (Some i) None h = tt
known_contains (Some i) (Some j) h = record { holds = h }

pub contained_reaches : {b k : BoundingBox} → Doubles b → Doubles k → Each Point b → Each Rising k → Parts b k → Parts k b
contained_reaches {b} {k} D E p l c =
    pair_reaches Contains contained_contains D E p l (record {
      x = record { holds = sym (contains_low_to_high b.x k.x E.x (low_to_high_plain D.x p.x.up) l.x) ∙ c.x };
      y = c.y;
      z = known_contains b.z k.z c.z;
      m = known_contains b.m k.m c.m;
    })
