-- Request 6: no box that a call of records or filters gives has −0, call by call; a refused merge keeps its record. Assumes nothing.
use Rattle.std.specs.Prelude.{Option, Some, None}
use mathlib.Core.Path.{◌≡◌, refl, ap}
use mathlib.Core.Bool.{Bool, true, false, ◌&&◌, ◌||◌, cond}
use mathlib.Core.List.{List, [], ◌∷◌}
use Prim.Native.Nat.{ℕ, ◌/◌}
use lib.Dec.{eqb, ltb}
use lib.ListN.{length, get_or}
use borrow.Author.Tests.{eqb-true, eqb-false}
use Rattle.sedona_geometry.specs.WraparoundInterval as wraparound
use Rattle.sedona_geometry.specs.BoundingBox as bounding_box
use Rattle.sedona_geometry.specs.declared.bounding_box.BoundingBox.{BoundingBox}
use Rattle.sedona_geometry.proofs.Canonical as canonical
use Rattle.sedona_expr.specs.Calls.{filter_bbox}
use Rattle.sedona_expr.specs.Error as error
use Rattle.sedona_expr.specs.Refusals.{box_refusal}
use Rattle.sedona_expr.specs.SpatialFilter.{box_for}
use Rattle.sedona_expr.specs.Statistics.{plus_zero_where_known, merge_bboxes, unspecified, empty, plus_zero, refused, totals_overflow, counts_overflow, merge_parts, merge_value, merge_or_keep, merge, start, first, of_merged, stays, step, fold_from, fold, CanonicalWhereKnown}
use Rattle.sedona_expr.specs.Tables.{Boxes, has_box, knows_z, knows_m, interval_at, box_with, box_at, Table, root}
use Rattle.sedona_expr.specs.declared.statistics.GeoStatistics.{GeoStatistics}
use Rattle.sedona_expr.specs.Statistics.{Folded}

-- A record whose box is canonical.
abbrev pub CanonicalRecord : GeoStatistics → Type 0
CanonicalRecord a = CanonicalWhereKnown a.bbox

-- ---- handed on
plus_canonical : (b : Option BoundingBox) → CanonicalWhereKnown (plus_zero_where_known b)
plus_canonical None = tt
plus_canonical (Some a) = canonical.accepted_canonical a

stays_where_known : (b : Option BoundingBox) → CanonicalWhereKnown b → plus_zero_where_known b ≡ b
stays_where_known None c = refl
stays_where_known (Some a) c = ap (λ (d : BoundingBox). Some d) (canonical.stays_box c)

pub stays_record : {a : GeoStatistics} → CanonicalRecord a → plus_zero a ≡ a
stays_record {a} c = rw (stays_where_known a.bbox c)

-- ---- records
pub unspecified_canonical : CanonicalRecord unspecified
unspecified_canonical = tt

pub empty_canonical : CanonicalRecord empty
empty_canonical = canonical.empty_box_canonical

merge_bboxes_canonical : (a b : Option BoundingBox) → CanonicalWhereKnown (merge_bboxes a b)
unfolding merge_bboxes
merge_bboxes_canonical None b = plus_canonical b
merge_bboxes_canonical (Some a) None = canonical.accepted_canonical a
merge_bboxes_canonical (Some a) (Some b) = canonical.merge_box_canonical a b

pub merge_value_canonical : (a b : GeoStatistics) → CanonicalRecord (merge_value a b).rec
unfolding merge_value merge_parts
merge_value_canonical a b = go (totals_overflow a b || counts_overflow a b)
  where
    go : (over : Bool) → CanonicalRecord (cond over (refused error.overflow) (record { number = 0; rec = merge_parts a b })).rec
    go true = tt
    go false = merge_bboxes_canonical a.bbox b.bbox

-- What `merge` leaves: a canonical record; or, refused, the record that was lent.
pub merge_canonical : (a b : GeoStatistics) → (merge a b).number ≡ 0 → CanonicalRecord (merge a b).rec
unfolding merge_or_keep
merge_canonical a b = go (eqb (merge_value a b).number 0) refl
  where
    go : (z : Bool) → eqb (merge_value a b).number 0 ≡ z → (merge_value a b).number ≡ 0 → CanonicalRecord (cond z (merge_value a b).rec a)
    go true h e = merge_value_canonical a b
    go false h e = absurd (eqb-false (merge_value a b).number 0 h e)

pub refused_merge_keeps : (a b : GeoStatistics) → ((merge a b).number ≡ 0 → ⊥) → (merge a b).rec ≡ a
unfolding merge_or_keep
refused_merge_keeps a b = go (eqb (merge_value a b).number 0) refl
  where
    go : (z : Bool) → eqb (merge_value a b).number 0 ≡ z → ((merge_value a b).number ≡ 0 → ⊥) → cond z (merge_value a b).rec a ≡ a
    go true h n = absurd (n (eqb-true (merge_value a b).number 0 h))
    go false h n = refl

-- ---- folds
pub start_canonical : CanonicalRecord start.rec
start_canonical = tt

pub step_canonical : (f : Folded) (r : GeoStatistics) → CanonicalRecord (step f r).rec
unfolding step
step_canonical f r = go (eqb f.number 0) f.any
  where
    go : (z any : Bool) → CanonicalRecord (cond z (cond any (of_merged (merge_value f.rec r)) (first r)) (stays f)).rec
    go true true = merge_value_canonical f.rec r
    go true false = plus_canonical r.bbox
    go false any = plus_canonical f.rec.bbox

from_canonical : (f : Folded) (rs : List GeoStatistics) → CanonicalRecord f.rec → CanonicalRecord (fold_from f rs).rec
unfolding fold_from
from_canonical f [] c = c
from_canonical f (r ∷ rs) c = from_canonical (step f r) rs (step_canonical f r)

pub fold_canonical : (rs : List GeoStatistics) → CanonicalRecord (fold rs).rec
fold_canonical rs = from_canonical start rs start_canonical

-- ---- tables and filters
pub box_at_canonical : (b : Boxes) (i : ℕ) → CanonicalWhereKnown (box_at b i)
unfolding box_at box_with
box_at_canonical b i = go (ltb i (length b.doubles / 8) && has_box flag)
  where
    flag : ℕ
    flag = get_or b.flags i 0

    go : (has : Bool) → CanonicalWhereKnown (cond has (Some (box_with b.doubles i flag)) None)
    go true =
        canonical.xyzm_canonical (wraparound.from_interval (interval_at b.doubles i 0)) (interval_at b.doubles i 1)
        (bounding_box.known_where (knows_z flag) (interval_at b.doubles i 2)) (bounding_box.known_where (knows_m flag) (interval_at b.doubles i 3))
    go false = tt

pub filter_bbox_canonical : (t : Table) (name : ℕ) → bounding_box.Canonical (filter_bbox t name).bounds
filter_bbox_canonical t name = canonical.numbered_canonical (box_refusal t) (box_for name (root t))
