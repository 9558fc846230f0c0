-- The first half of demand 3: against the folds of its columns' records, the filter of a row of which it holds may match. Assumes nothing.
use Rattle.std.specs.Prelude.{Option, None, Some}
use mathlib.Core.Path.{◌≡◌, refl, sym, subst}
use mathlib.Core.Logic.{◌⊎◌, inl, inr, ⊎_elim}
use mathlib.Core.Bool.{true, ◌||◌}
use mathlib.Core.List.{List, [], ◌∷◌}
use Rattle.sedona_geometry.specs.Interval as interval
use Rattle.sedona_geometry.specs.BoundingBox as bounding_box
use Rattle.sedona_geometry.specs.declared.interval.Interval.{Interval}
use Rattle.sedona_geometry.specs.declared.bounding_box.BoundingBox.{BoundingBox}
use Rattle.sedona_geometry.proofs.Booleans.{holds, is_true, or_right}
use Rattle.sedona_geometry.proofs.Boxes as boxes
use Rattle.sedona_geometry.specs.Lists.{All}
use Rattle.sedona_expr.specs.Statistics.{DoublesWhereKnown, NoLess, plus_zero_where_known, merge_bboxes, merge_parts, fold}
use Rattle.sedona_expr.specs.SpatialFilter.{Column, Filter, intersects, covers, has_z, and, or, literal_false, unknown, may_intersect, may_cover, may_have_z, answer}
use Rattle.sedona_expr.specs.Demand.{Cell, HasBox, MissingOrRising, HoldsZ, Holds, Leaf, a_has_z, EachLeaf, Any, Folds, HasBit}
use Rattle.sedona_expr.specs.declared.statistics.GeoStatistics.{GeoStatistics}
use Rattle.sedona_expr.specs.declared.tables.ColumnRecord.{ColumnRecord}
use Rattle.sedona_expr.proofs.Folds.{some_map, fold_keeps}
use Rattle.sedona_expr.proofs.HasZ.{plus_z, of_plus_z, fold_bit, fold_z, may_have_z_lem}
use Rattle.sedona_expr.proofs.Theorems.{merge_doubles, no_box_shrinks}

-- ---- lists of records
-- the row's box is one of them, a zero's sign aside
abbrev Own : Option BoundingBox → GeoStatistics → Type 0
Own own s = plus_zero_where_known s.bbox ≡ plus_zero_where_known own

-- what does not depend on it
record Signless (P : Option BoundingBox → Type 0) : Type 0 where
  plus : (b : Option BoundingBox) → P b → P (plus_zero_where_known b)
  of_plus : (b : Option BoundingBox) → P (plus_zero_where_known b) → P b

signless : (P : Option BoundingBox → Type 0) → Signless P → {a b : Option BoundingBox} → plus_zero_where_known a ≡ plus_zero_where_known b → P a → P b
signless P S {a} {b} e h = S.of_plus b (subst P e (S.plus a h))

-- is so of the row's box where it is so of every record's
of_own : (P : Option BoundingBox → Type 0) → Signless P → (rs : List GeoStatistics) (own : Option BoundingBox) → All (λ s. P s.bbox) rs → Any (Own own) rs → P own
of_own P S [] own h a = absurd a
of_own P S (s ∷ rs) own h (inl e) = signless P S e h.0
of_own P S (s ∷ rs) own h (inr a) = of_own P S rs own h.1 a

-- and of some record's where it is so of the row's
some_own : (P : Option BoundingBox → Type 0) → Signless P → (rs : List GeoStatistics) (own : Option BoundingBox) → P own → Any (Own own) rs → Any (λ s. P s.bbox) rs
some_own P S rs own h = some_map (Own own) (λ s. P s.bbox) rs (λ s e. signless P S (sym e) h)

-- a list that has some record has one of any kind that all are of
some_of_all : (P Q : GeoStatistics → Type 0) (rs : List GeoStatistics) → All P rs → Any Q rs → Any P rs
some_of_all P Q [] h a = absurd a
some_of_all P Q (s ∷ rs) h a = inl h.0

-- ---- an Intersects: a common number with the row's box is one with the fold's
common_interval : {l i j : Interval} → bounding_box.AcceptsAllOf l i → interval.Common i j → interval.Common l j
common_interval n h = record { number = h.number; double = h.double; left = n h.number h.left; right = h.right }

common_dimensions : (c b k : Option Interval) → bounding_box.AcceptsAllOfKnown c b → bounding_box.WhereBothKnown interval.Common b k → bounding_box.WhereBothKnown interval.Common c k
common_dimensions None b k n h = tt
common_dimensions (Some l) None k n h = absurd n
common_dimensions (Some l) (Some i) None n h = tt
common_dimensions (Some l) (Some i) (Some j) n h = common_interval n h

common_no_less : {c b k : BoundingBox} → bounding_box.NoLess c b → bounding_box.Common b k → bounding_box.Common c k
common_no_less {c} {b} {k} n h = record {
  x = record { number = h.x.number; double = h.x.double; left = n.x h.x.number h.x.left; right = h.x.right };
  y = common_interval n.y h.y;
  z = common_dimensions c.z b.z k.z n.z h.z;
  m = common_dimensions c.m b.m k.m n.m h.m;
}

no_less_signless : (c : Option BoundingBox) → Signless (NoLess c)
no_less_signless c = record { plus = plus c; of_plus = of_plus c }
  where
    plus : (c b : Option BoundingBox) → NoLess c b → NoLess c (plus_zero_where_known b)
    plus c None n = tt
    plus None (Some b) n = absurd n
    plus (Some c) (Some b) n = boxes.no_less_trans n (boxes.of_plus_no_less b)

    of_plus : (c b : Option BoundingBox) → NoLess c (plus_zero_where_known b) → NoLess c b
    of_plus c None n = tt
    of_plus None (Some b) n = absurd n
    of_plus (Some c) (Some b) n = boxes.no_less_trans n (boxes.plus_no_less b)

may_intersect_lem : (lent own : Option BoundingBox) (k : BoundingBox) → NoLess lent own → HasBox (λ b. bounding_box.Common b k) own → may_intersect lent k ≡ true
unfolding may_intersect
may_intersect_lem None own k n h = refl
may_intersect_lem (Some c) None k n h = absurd h
may_intersect_lem (Some c) (Some b) k n h = boxes.common_intersect (common_no_less n h)

-- ---- a Covers: a literal that the row's box contains, the fold's box contains
abbrev Covering : BoundingBox → Option BoundingBox → Type 0
Covering k = HasBox (λ b. bounding_box.contains b k ≡ true)

plus_covering : (k : BoundingBox) (b : Option BoundingBox) → Covering k b → Covering k (plus_zero_where_known b)
plus_covering k None h = absurd h
plus_covering k (Some b) h = boxes.plus_contains b k h

covering_signless : (k : BoundingBox) → Signless (Covering k)
covering_signless k = record { plus = plus_covering k; of_plus = of_plus }
  where
    of_plus : (b : Option BoundingBox) → Covering k (plus_zero_where_known b) → Covering k b
    of_plus None h = absurd h
    of_plus (Some b) h = boxes.of_plus_contains b k h

merge_covering : (k : BoundingBox) (a b : Option BoundingBox) → DoublesWhereKnown a → DoublesWhereKnown b → Covering k a ⊎ Covering k b → Covering k (merge_bboxes a b)
unfolding merge_bboxes
merge_covering k None b D E h = ⊎_elim (λ p. absurd p) (λ q. plus_covering k b q) h
merge_covering k (Some a) None D E h = ⊎_elim (λ p. plus_covering k (Some a) p) (λ q. absurd q) h
merge_covering k (Some a) (Some b) D E h = boxes.contains_of_parts (boxes.merge_contains D E (⊎_elim (λ p. inl (boxes.parts_of_contains p)) (λ q. inr (boxes.parts_of_contains q)) h))

may_cover_lem : (o : Option BoundingBox) (k : BoundingBox) → Covering k o → may_cover o k ≡ true
unfolding may_cover
may_cover_lem None k h = refl
may_cover_lem (Some b) k h = h

-- ---- the leaves
module _ {f : Leaf} {rs : List GeoStatistics} {own : Cell} {lent : ColumnRecord} (F : Folds f rs own lent) where
  own_box : Any (Own own.bbox) rs
  own_box = some_map _ (Own own.bbox) rs (λ s a. a.0) F.among

  fold_no_less : NoLess lent.bbox own.bbox
  fold_no_less = rw F.folded (of_own (NoLess (fold rs).rec.bbox) (no_less_signless (fold rs).rec.bbox) rs own.bbox (no_box_shrinks rs F.doubles F.fit) own_box)

  -- what merging two boxes keeps, the fold keeps; a box is handed on as if merged with a missing one
  fold_keeps_box : (P : Option BoundingBox → Type 0) → ((a b : Option BoundingBox) → DoublesWhereKnown a → DoublesWhereKnown b → P a ⊎ P b → P (merge_bboxes a b)) → Any (λ s. P s.bbox) rs → P lent.bbox
  unfolding merge_parts merge_bboxes
  fold_keeps_box P keep h =
      rw F.folded
      (fold_keeps (λ s. DoublesWhereKnown s.bbox) (λ s. P s.bbox) (λ a b. merge_doubles a.bbox b.bbox) (λ a. merge_doubles None a.bbox tt)
      (λ a b. keep a.bbox b.bbox) (λ a D p. keep None a.bbox tt D (inr p)) rs F.doubles F.fit h)

  fold_doubles : DoublesWhereKnown lent.bbox
  fold_doubles = fold_keeps_box DoublesWhereKnown (λ a b D E h. merge_doubles a b D E) (some_of_all (λ s. DoublesWhereKnown s.bbox) (Own own.bbox) rs F.doubles own_box)

-- A row of which HasZ holds may match in any fold that has its record: its z and its type's bit stay there.
pub fold_has_z : {rs : List GeoStatistics} {own : Cell} {lent : ColumnRecord} → Folds a_has_z rs own lent → HoldsZ own → may_have_z lent ≡ true
fold_has_z {rs} {own} {lent} F h =
    let z : HasBox MissingOrRising lent.bbox = rw F.folded (fold_z rs F.fit (some_own (HasBox MissingOrRising) (record { plus = plus_z; of_plus = of_plus_z }) rs own.bbox h.z (own_box F))) in
    let t : HasBit own.bit lent.types = rw F.folded (fold_bit own.bit rs F.fit (some_map _ (λ s. HasBit own.bit s.geometry_types) rs (λ s a. a.1 h) F.among)) in
    may_have_z_lem own.bit lent (fold_doubles F) z h.type t

-- ---- the whole filter
module _ (own : Column → Cell) (lent : Column → ColumnRecord) (lists : Column → List GeoStatistics) where
  pub may_match : (f : Filter) → EachLeaf (λ l c. Folds l (lists c) (own c) (lent c)) f → Holds own f → answer lent f ≡ true
  may_match (intersects c k) F h = may_intersect_lem (lent c).bbox (own c).bbox k (fold_no_less F) h
  may_match (covers c k) F h = may_cover_lem (lent c).bbox k (fold_keeps_box F (Covering k) (merge_covering k) (some_own (Covering k) (covering_signless k) (lists c) (own c).bbox h (own_box F)))
  may_match (has_z c) F h = fold_has_z F h
  may_match (and f g) F h = rw (may_match f F.0 h.0, may_match g F.1 h.1)
  may_match (or f g) F (inl h) = rw (may_match f F.0 h)
  may_match (or f g) F (inr h) = is_true (answer lent f || answer lent g) (or_right (answer lent f) (answer lent g) (holds (may_match g F.1 h)))
  may_match literal_false F h = absurd h
  may_match unknown F h = refl
