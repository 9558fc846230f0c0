-- HasZ: what a fold keeps of its records' types and of their z, and which records may have z. Assumes nothing.
use Rattle.std.specs.Prelude.{Option, None, Some}
use mathlib.Core.Path.{◌≡◌, refl, ◌∙◌}
use mathlib.Core.Logic.{◌⊎◌, inl, inr, ⊎_elim}
use mathlib.Core.Bool.{true, false, ◌&&◌, ◌||◌}
use mathlib.Core.List.{List}
use Prim.Native.Nat.{ℕ, ◌<◌}
use native.Mathlib.Omega.{arith}
use lib.Dec.{ltb}
use lib.Ieee.Fits.{and_r}
use borrow.Author.Tests.{ltb-true}
use Rattle.sedona_geometry.specs.Interval as interval
use Rattle.sedona_geometry.specs.BoundingBox.{WhereKnown, plus_zero_where_known, join_known, merge_dimensions}
use Rattle.sedona_geometry.specs.Types.{merge, has}
use Rattle.sedona_geometry.specs.declared.interval.Interval.{Interval}
use Rattle.sedona_geometry.specs.declared.types.GeometryTypeAndDimensionsSet.{GeometryTypeAndDimensionsSet}
use Rattle.sedona_geometry.proofs.Booleans.{holds, is_true, is_false, or_right, or_cases}
use Rattle.sedona_geometry.proofs.Order.{le_refl, le_number}
use Rattle.sedona_geometry.proofs.Accepts as plain
use Rattle.sedona_geometry.proofs.Bits.{merge_has}
use Rattle.sedona_geometry.proofs.Boxes as boxes
use Rattle.sedona_expr.specs.Statistics as statistics
use Rattle.sedona_expr.specs.Statistics.{merge_bboxes, merge_types, merge_parts, fold}
use Rattle.sedona_expr.specs.SpatialFilter.{is_z, has_z_type, may_be_z, is_known_empty, has_empty_z, may_have_z}
use Rattle.sedona_expr.specs.Demand.{HasBox, low_to_high, MissingOrRising, HasTypes, HasBit, Any}
use Rattle.sedona_expr.specs.declared.statistics.GeoStatistics.{GeoStatistics}
use Rattle.sedona_expr.specs.declared.tables.ColumnRecord.{ColumnRecord}
use Rattle.sedona_expr.proofs.Folds.{some_map, fold_keeps_any}
use Rattle.sedona_expr.proofs.WordBits.{any_of}
use Rattle.sedona_expr.proofs.Points.{ordered}
use Rattle.sedona_geometry.specs.declared.bounding_box.BoundingBox.{BoundingBox}

-- ---- types
-- what is so of a set stays so where another is merged in
module _ (Q : GeometryTypeAndDimensionsSet → Type 0) (keeps : (s t : GeometryTypeAndDimensionsSet) → Q s ⊎ Q t → Q (merge s t)) where
  merge_types_lem : (s t : Option GeometryTypeAndDimensionsSet) → HasTypes Q s ⊎ HasTypes Q t → HasTypes Q (merge_types s t)
  unfolding merge_types
  merge_types_lem None t h = ⊎_elim (λ p. absurd p) (λ q. q) h
  merge_types_lem (Some s) None h = ⊎_elim (λ p. p) (λ q. absurd q) h
  merge_types_lem (Some s) (Some t) h = keeps s t h

  fold_set : (rs : List GeoStatistics) → (fold rs).number ≡ 0 → Any (λ r. HasTypes Q r.geometry_types) rs → HasTypes Q (fold rs).rec.geometry_types
  unfolding merge_parts
  fold_set = fold_keeps_any (λ r. HasTypes Q r.geometry_types) (λ a b. merge_types_lem a.geometry_types b.geometry_types) (λ a p. p)

merge_bit : (k : ℕ) (s t : GeometryTypeAndDimensionsSet) → (has s k ≡ true) ⊎ (has t k ≡ true) → has (merge s t) k ≡ true
merge_bit k s t h = merge_has s t k ∙ ⊎_elim (λ p. rw p) (λ q. is_true (has s k || has t k) (or_right (has s k) (has t k) (holds q))) h

pub fold_bit : (k : ℕ) (rs : List GeoStatistics) → (fold rs).number ≡ 0 → Any (λ r. HasBit k r.geometry_types) rs → HasBit k (fold rs).rec.geometry_types
fold_bit k = fold_set (λ s. has s k ≡ true) (merge_bit k)

-- A fold's types are known and have every bit that a known set of its list has.
pub fold_types : (s : GeometryTypeAndDimensionsSet) (rs : List GeoStatistics) → (fold rs).number ≡ 0 → Any (λ r. r.geometry_types ≡ Some s) rs
    → HasTypes (λ t. (k : ℕ) → has s k ≡ true → has t k ≡ true) (fold rs).rec.geometry_types
fold_types s rs e h =
    let Q : GeometryTypeAndDimensionsSet → Type 0 = λ t. (k : ℕ) → has s k ≡ true → has t k ≡ true in
    fold_set Q (λ t u p k b. merge_bit k t u (⊎_elim (λ q. inl (q k b)) (λ q. inr (q k b)) p)) rs e
    (some_map (λ r. r.geometry_types ≡ Some s) (λ r. HasTypes Q r.geometry_types) rs (λ r q. rw q (λ k b. b)) h)

-- ---- z
abbrev Rising : Option Interval → Type 0
Rising = WhereKnown (λ i. low_to_high i ≡ true)

-- it runs low to high where it accepts something
lowest : (i : Interval) → low_to_high i ≡ true → interval.Accepts i i.lo
lowest i h = plain.accepts (le_refl (le_number (ordered i h)).0) (ordered i h)

rises : {i : Interval} {v : _} → interval.Accepts i v → low_to_high i ≡ true
rises {i} h = is_true (low_to_high i) (plain.accepts_low_to_high h).test

merge_rising : (d e : Option Interval) → Rising d ⊎ Rising e → Rising (merge_dimensions d e)
unfolding join_known
merge_rising None e h = tt
merge_rising (Some i) None h = tt
merge_rising (Some i) (Some j) h =
    ⊎_elim (λ p. rises (plain.merge_accepts_left j (lowest i p))) (λ q. rises (plain.merge_accepts_right i (lowest j q))) h

plus_rising : (d : Option Interval) → Rising d → Rising (plus_zero_where_known d)
plus_rising None h = tt
plus_rising (Some i) h = rises (plain.plus_accepts i (lowest i h))

of_plus_rising : (d : Option Interval) → Rising (plus_zero_where_known d) → Rising d
of_plus_rising None h = tt
of_plus_rising (Some i) h = rises (plain.of_plus_accepts i (lowest (interval.plus_zero i) h))

pub plus_z : (b : Option BoundingBox) → HasBox MissingOrRising b → HasBox MissingOrRising (statistics.plus_zero_where_known b)
plus_z None h = absurd h
plus_z (Some b) h = plus_rising b.z h

pub of_plus_z : (b : Option BoundingBox) → HasBox MissingOrRising (statistics.plus_zero_where_known b) → HasBox MissingOrRising b
of_plus_z None h = absurd h
of_plus_z (Some b) h = of_plus_rising b.z h

merge_z : (a b : Option BoundingBox) → HasBox MissingOrRising a ⊎ HasBox MissingOrRising b → HasBox MissingOrRising (merge_bboxes a b)
unfolding merge_bboxes
merge_z None b h = ⊎_elim (λ p. absurd p) (λ q. plus_z b q) h
merge_z (Some a) None h = ⊎_elim (λ p. plus_z (Some a) p) (λ q. absurd q) h
merge_z (Some a) (Some b) h = rw (boxes.merge_is a b) (merge_rising a.z b.z h)

-- A fold's z is missing or low to high where a record of the list has it so.
pub fold_z : (rs : List GeoStatistics) → (fold rs).number ≡ 0 → Any (λ s. HasBox MissingOrRising s.bbox) rs → HasBox MissingOrRising (fold rs).rec.bbox
unfolding merge_parts
fold_z = fold_keeps_any (λ s. HasBox MissingOrRising s.bbox) (λ a b. merge_z a.bbox b.bbox) (λ a. plus_z a.bbox)

-- ---- which records may have z
not_empty : (d : Option Interval) → WhereKnown interval.Doubles d → Rising d → is_known_empty d ≡ false
unfolding is_known_empty
not_empty None D h = refl
not_empty (Some i) D h = is_false (interval.is_empty i) (λ e. plain.empty_not_low_to_high D (is_true (interval.is_empty i) e) (ordered i h))

no_empty_z : (b : Option BoundingBox) → statistics.DoublesWhereKnown b → HasBox MissingOrRising b → has_empty_z b ≡ false
unfolding has_empty_z
no_empty_z None D h = refl
no_empty_z (Some b) D h = not_empty b.z D.z h

z_below : (k : ℕ) → is_z k ≡ true → k < 32
unfolding is_z
z_below k h =
    ⊎_elim (λ p. omega (arith, ltb-true k 16 (is_true (ltb k 16) (and_r (ltb 7 k) (ltb k 16) p)))) (λ q. ltb-true k 32 (is_true (ltb k 32) (and_r (ltb 23 k) (ltb k 32) q)))
    (or_cases (ltb 7 k && ltb k 16) (ltb 23 k && ltb k 32) (holds h))

may_be_z_lem : (k : ℕ) (t : Option GeometryTypeAndDimensionsSet) → is_z k ≡ true → HasBit k t → may_be_z t ≡ true
unfolding may_be_z has_z_type
may_be_z_lem k None z h = absurd h
may_be_z_lem k (Some s) z h = any_of (λ i. is_z i && has s i) 32 k (z_below k z) (rw (z, h))

pub may_have_z_lem : (k : ℕ) (r : ColumnRecord) → statistics.DoublesWhereKnown r.bbox → HasBox MissingOrRising r.bbox → is_z k ≡ true → HasBit k r.types → may_have_z r ≡ true
unfolding may_have_z
may_have_z_lem k r D h z b = rw (no_empty_z r.bbox D h) (may_be_z_lem k r.types z b)
