-- Boxes whose x runs straight, empty or low to high: merging and intersecting keep them so, and an intersection contains what both contain.
-- Assumes nothing.
use Rattle.std.specs.Prelude.{Option, Some, None}
use mathlib.Core.Path.{◌≡◌, refl}
use mathlib.Core.Bool.{true, false}
use lib.Ieee.{eq, sub}
use Rattle.sedona_geometry.specs.Interval as interval
use Rattle.sedona_geometry.specs.BoundingBox as bounding_box
use Rattle.sedona_geometry.specs.BoundingBox.{Doubles, WhereKnown, join_known, intersect_dimensions, merge_box}
use Rattle.sedona_geometry.specs.declared.bounding_box.BoundingBox.{BoundingBox}
use Rattle.sedona_geometry.proofs.Order.{infinite, bottom}
use Rattle.sedona_geometry.proofs.Accepts as plain
use Rattle.sedona_geometry.proofs.Wrapping.{infinite_doubles}
use Rattle.sedona_geometry.proofs.Contains as containing
use Rattle.sedona_geometry.proofs.Contains.{Straight}
use Rattle.sedona_geometry.proofs.Boxes as boxes
use Rattle.sedona_geometry.proofs.Boxes.{Parts, met}
use Rattle.sedona_expr.specs.SpatialFilter.{full, or_full}
use Rattle.sedona_geometry.specs.declared.interval.Interval.{Interval}

pub record StraightBox (b : BoundingBox) : Type 0 where
  pub doubles : Doubles b
  pub x : Straight b.x

-- ---- which boxes are
pub empty_straight : StraightBox bounding_box.empty
unfolding interval.is_empty sub eq
empty_straight = record {
  doubles = record { x = infinite_doubles false true; y = infinite_doubles false true; z = tt; m = tt };
  x = Straight.empty refl;
}

pub full_straight : StraightBox full
full_straight = record {
  doubles = record { x = infinite_doubles true false; y = infinite_doubles true false; z = tt; m = tt };
  x = Straight.ordered (bottom infinite);
}

pub merge_straight : {a b : BoundingBox} → StraightBox a → StraightBox b → StraightBox (merge_box a b)
merge_straight {a} {b} s t = record {
  doubles = boxes.merge_doubles s.doubles t.doubles;
  x = rw (boxes.merge_is a b) (containing.merge_straight s.doubles.x t.doubles.x s.x t.x);
}

intersect_dimensions_doubles : (d e : Option Interval) → WhereKnown interval.Doubles d → WhereKnown interval.Doubles e → WhereKnown interval.Doubles (intersect_dimensions d e)
unfolding join_known
intersect_dimensions_doubles None e D E = tt
intersect_dimensions_doubles (Some i) None D E = tt
intersect_dimensions_doubles (Some i) (Some j) D E = containing.intersection_doubles D E

met_straight : {a b : BoundingBox} → StraightBox a → StraightBox b → StraightBox (met a b)
met_straight {a} {b} s t =
    let D = s.doubles in
    let E = t.doubles in
    let n = containing.straight_numbers s.x in
    record {
      doubles = record {
        x = plain.plus_doubles (containing.intersection_doubles D.x E.x);
        y = containing.intersection_doubles D.y E.y;
        z = intersect_dimensions_doubles a.z b.z D.z E.z;
        m = intersect_dimensions_doubles a.m b.m D.m E.m;
      };
      x = containing.intersection_straight b.x.inner n.0 n.1;
    }

-- an intersection of them is never refused
meets : {a b : BoundingBox} → StraightBox a → StraightBox b → or_full (bounding_box.intersection a b) ≡ met a b
unfolding or_full
meets s t = rw (boxes.intersection_accepted s.doubles t.doubles s.x t.x)

pub intersection_straight : {a b : BoundingBox} → StraightBox a → StraightBox b → StraightBox (or_full (bounding_box.intersection a b))
intersection_straight s t = rw (meets s t) (met_straight s t)

-- ---- what they contain
pub intersection_contains : {a b k : BoundingBox} → StraightBox a → StraightBox b → Doubles k → boxes.LowToHigh k → Parts a k → Parts b k
    → Parts (or_full (bounding_box.intersection a b)) k
intersection_contains s t F l p q = rw (meets s t) (boxes.intersection_contains s.doubles t.doubles F s.x t.x l p q)
