-- What callers of the fold rely on: no box shrinks, merged totals are sums, totals that fit are never refused; and no box shrinks along any
-- tree of merges. Assumes nothing.
use Rattle.std.specs.Prelude.{Option, Some, None, Float}
use mathlib.Core.Logic.{◌⊎◌, inl}
use mathlib.Core.Path.{◌≡◌, refl, sym, subst, ap, ◌∙◌}
use mathlib.Core.Bool.{Bool, true, false, ◌||◌, cond}
use mathlib.Core.List.{List, [], ◌∷◌, ◌++◌, map}
use lib.IntN.{ℤ, pos, +ℤ_assoc, +ℤ_idr}
use borrow.Author.Tests.{eqb-true, eqb-false}
use lib.Dec.{eqb}
use Rattle.sedona_geometry.proofs.Boxes as boxes
use Rattle.sedona_geometry.specs.Lists.{All}
use Rattle.sedona_expr.specs.Within.{SumsStay}
use Rattle.sedona_expr.specs.Statistics.{plus_zero_where_known, merge_bboxes, add_extents, add_totals, sum_is_outside, totals_overflow, counts_overflow, merge_parts, plus_zero, refused, merge_value, fold_from, fold, DoublesWhereKnown, NoLess, Which, geometries, size_bytes, points, puntal, lineal, polygonal, collection, total, Side, width, height, extent, plus, sum, whole_sum, add_all, PrefixSumsFit, Tree, leaf, node, merge_answers, merge_tree, AllLeaves}
use Rattle.sedona_expr.specs.Error as error
use Rattle.sedona_expr.specs.declared.statistics.GeoStatistics.{GeoStatistics}
use Rattle.sedona_expr.specs.Statistics.{Folded}
use Rattle.sedona_expr.specs.Statistics.{Merged}
use Rattle.sedona_expr.proofs.Searches.{neither}
use Rattle.sedona_expr.proofs.Folds.{overflow, merge_all, Fits, fits_of_fold, fold_of_fits, fold_number, fold_first, three_not_zero}
use Rattle.sedona_geometry.specs.declared.bounding_box.BoundingBox.{BoundingBox}

-- ---- boxes
no_less_refl : (b : Option BoundingBox) → NoLess b b
no_less_refl None = tt
no_less_refl (Some a) = boxes.no_less_refl a

plus_no_less : (b : Option BoundingBox) → NoLess (plus_zero_where_known b) b
plus_no_less None = tt
plus_no_less (Some a) = boxes.plus_no_less a

plus_doubles : (b : Option BoundingBox) → DoublesWhereKnown b → DoublesWhereKnown (plus_zero_where_known b)
plus_doubles None D = tt
plus_doubles (Some a) D = boxes.plus_doubles D

no_less_trans : (c b a : Option BoundingBox) → NoLess c b → NoLess b a → NoLess c a
no_less_trans c b None p q = tt
no_less_trans c None (Some a) p q = absurd q
no_less_trans None (Some b) (Some a) p q = absurd p
no_less_trans (Some c) (Some b) (Some a) p q = boxes.no_less_trans p q

merge_no_less_left : (a b : Option BoundingBox) → DoublesWhereKnown a → DoublesWhereKnown b → NoLess (merge_bboxes a b) a
unfolding merge_bboxes
merge_no_less_left None b D E = tt
merge_no_less_left (Some a) None D E = boxes.plus_no_less a
merge_no_less_left (Some a) (Some b) D E = boxes.merge_no_less_left D E

merge_no_less_right : (a b : Option BoundingBox) → DoublesWhereKnown a → DoublesWhereKnown b → NoLess (merge_bboxes a b) b
unfolding merge_bboxes
merge_no_less_right None b D E = plus_no_less b
merge_no_less_right (Some a) None D E = tt
merge_no_less_right (Some a) (Some b) D E = boxes.merge_no_less_right D E

pub merge_doubles : (a b : Option BoundingBox) → DoublesWhereKnown a → DoublesWhereKnown b → DoublesWhereKnown (merge_bboxes a b)
unfolding merge_bboxes
merge_doubles None b D E = plus_doubles b E
merge_doubles (Some a) None D E = boxes.plus_doubles D
merge_doubles (Some a) (Some b) D E = boxes.merge_doubles D E

-- of the first record and of each that is merged in
merged_no_less : (a : GeoStatistics) (rs : List GeoStatistics) → DoublesWhereKnown a.bbox → All (λ r. DoublesWhereKnown r.bbox) rs
    → NoLess (merge_all a rs).bbox a.bbox × All (λ r. NoLess (merge_all a rs).bbox r.bbox) rs
unfolding merge_parts
merged_no_less a [] D E = (no_less_refl a.bbox, tt)
merged_no_less a (r ∷ rs) D E =
    let k = merged_no_less (merge_parts a r) rs (merge_doubles a.bbox r.bbox D E.0) E.1 in
    let m : (Option BoundingBox) = merge_bboxes a.bbox r.bbox in
    let c : (Option BoundingBox) = (merge_all (merge_parts a r) rs).bbox in (
      no_less_trans c m a.bbox k.0 (merge_no_less_left a.bbox r.bbox D E.0),
      (no_less_trans c m r.bbox k.0 (merge_no_less_right a.bbox r.bbox D E.0), k.1),
    )

-- No box shrinks: what any record's box in the list accepts, the fold's box accepts.
pub no_box_shrinks : (rs : List GeoStatistics) → All (λ r. DoublesWhereKnown r.bbox) rs → (fold rs).number ≡ 0 → All (λ r. NoLess (fold rs).rec.bbox r.bbox) rs
no_box_shrinks [] D e = tt
no_box_shrinks (r ∷ rs) D e =
    let a = plus_zero r in
    let f = fits_of_fold a rs (rw (fold_first r rs) at e) in
    let k = merged_no_less a rs (plus_doubles r.bbox D.0) D.1 in
    subst (λ (g : Folded). All (λ s. NoLess g.rec.bbox s.bbox) (r ∷ rs)) (sym (fold_first r rs ∙ fold_of_fits a rs f))
    (no_less_trans (merge_all a rs).bbox a.bbox r.bbox k.0 (plus_no_less r.bbox), k.1)

-- ---- totals
total_merged : (w : Which) (a b : GeoStatistics) → total w (merge_parts a b) ≡ add_totals (total w a) (total w b)
unfolding merge_parts
total_merged geometries a b = refl
total_merged size_bytes a b = refl
total_merged points a b = refl
total_merged puntal a b = refl
total_merged lineal a b = refl
total_merged polygonal a b = refl
total_merged collection a b = refl

-- a record handed on keeps its totals
total_plus : (w : Which) (a : GeoStatistics) → total w (plus_zero a) ≡ total w a
total_plus geometries a = refl
total_plus size_bytes a = refl
total_plus points a = refl
total_plus puntal a = refl
total_plus lineal a = refl
total_plus polygonal a = refl
total_plus collection a = refl

-- no total of the seven leaves the range exactly where the step does not overflow
pub sums_stay : (a b : GeoStatistics) → overflow a b ≡ false → SumsStay a b
unfolding totals_overflow counts_overflow
sums_stay a b e = go
  where
    l : Which → Bool
    l v = sum_is_outside (total v a) (total v b)

    both : (totals_overflow a b ≡ false) × (counts_overflow a b ≡ false)
    both = neither (totals_overflow a b) (counts_overflow a b) e

    three : ((l geometries || l size_bytes) ≡ false) × (l points ≡ false)
    three = neither (l geometries || l size_bytes) (l points) both.0

    four : ((l puntal || l lineal || l polygonal) ≡ false) × (l collection ≡ false)
    four = neither (l puntal || l lineal || l polygonal) (l collection) both.1

    last : ((l puntal || l lineal) ≡ false) × (l polygonal ≡ false)
    last = neither (l puntal || l lineal) (l polygonal) four.0

    go : (v : Which) → sum_is_outside (total v a) (total v b) ≡ false
    go geometries = (neither (l geometries) (l size_bytes) three.0).0
    go size_bytes = (neither (l geometries) (l size_bytes) three.0).1
    go points = three.1
    go puntal = (neither (l puntal) (l lineal) last.0).0
    go lineal = (neither (l puntal) (l lineal) last.0).1
    go polygonal = last.1
    go collection = four.1

overflows_not : (a b : GeoStatistics) → SumsStay a b → overflow a b ≡ false
unfolding totals_overflow counts_overflow
overflows_not a b h = rw (h geometries, h size_bytes, h points, h puntal, h lineal, h polygonal, h collection)

add_is_plus : (t u : Option ℤ) → sum_is_outside t u ≡ false → add_totals t u ≡ plus t u
unfolding sum_is_outside add_totals
add_is_plus None u e = refl
add_is_plus (Some m) None e = refl
add_is_plus (Some m) (Some n) e = rw e

plus_zero_lem : (t : Option ℤ) → plus t (Some (pos 0)) ≡ t
plus_zero_lem None = refl
plus_zero_lem (Some m) = ap Some (+ℤ_idr m)

plus_assoc : (t u v : Option ℤ) → plus (plus t u) v ≡ plus t (plus u v)
plus_assoc None u v = refl
plus_assoc (Some m) None v = refl
plus_assoc (Some m) (Some n) None = refl
plus_assoc (Some m) (Some n) (Some o) = ap Some (+ℤ_assoc m n o)

merged_total : (w : Which) (a : GeoStatistics) (rs : List GeoStatistics) → Fits a rs → total w (merge_all a rs) ≡ plus (total w a) (sum (map (total w) rs))
merged_total w a [] h = sym (plus_zero_lem (total w a))
merged_total w a (r ∷ rs) h =
    merged_total w (merge_parts a r) rs h.1
    ∙ ap (λ (t : Option ℤ). plus t (sum (map (total w) rs))) (total_merged w a r ∙ add_is_plus (total w a) (total w r) (sums_stay a r h.0 w))
    ∙ plus_assoc (total w a) (total w r) (sum (map (total w) rs))

-- Merged totals are sums: a fold's total is known exactly where every record's is, and is then their sum over the whole numbers.
pub totals_are_sums : (w : Which) (r : GeoStatistics) (rs : List GeoStatistics) → (fold (r ∷ rs)).number ≡ 0 → total w (fold (r ∷ rs)).rec ≡ sum (map (total w) (r ∷ rs))
totals_are_sums w r rs e =
    let f = fits_of_fold (plus_zero r) rs (rw (fold_first r rs) at e) in
    ap (λ (g : Folded). total w g.rec) (fold_first r rs ∙ fold_of_fits (plus_zero r) rs f)
    ∙ merged_total w (plus_zero r) rs f
    ∙ ap (λ (t : Option ℤ). plus t (sum (map (total w) rs))) (total_plus w r)

-- a sum is known exactly where each total is
pub sum_missing : (ts us : List (Option ℤ)) → sum (ts ++ (None ∷ us)) ≡ None
sum_missing [] us = refl
sum_missing (None ∷ ts) us = refl
sum_missing (Some m ∷ ts) us = rw (sum_missing ts us)

pub sum_known : (zs : List ℤ) → sum (map Some zs) ≡ Some (whole_sum zs)
sum_known [] = refl
sum_known (z ∷ zs) = rw (sum_known zs)

-- An f64 total is the sum in the list's order, each addition rounded.
extent_merged : (s : Side) (a b : GeoStatistics) → extent s (merge_parts a b) ≡ add_extents (extent s a) (extent s b)
unfolding merge_parts
extent_merged width a b = refl
extent_merged height a b = refl

extent_plus : (s : Side) (a : GeoStatistics) → extent s (plus_zero a) ≡ extent s a
extent_plus width a = refl
extent_plus height a = refl

merged_extent : (s : Side) (a : GeoStatistics) (rs : List GeoStatistics) → extent s (merge_all a rs) ≡ add_all (extent s a) (map (extent s) rs)
merged_extent s a [] = refl
merged_extent s a (r ∷ rs) = merged_extent s (merge_parts a r) rs ∙ ap (λ (e : Option Float). add_all e (map (extent s) rs)) (extent_merged s a r)

pub extents_are_sums : (s : Side) (r : GeoStatistics) (rs : List GeoStatistics) → (fold (r ∷ rs)).number ≡ 0 → extent s (fold (r ∷ rs)).rec ≡ add_all (extent s r) (map (extent s) rs)
extents_are_sums s r rs e =
    let f = fits_of_fold (plus_zero r) rs (rw (fold_first r rs) at e) in
    ap (λ (g : Folded). extent s g.rec) (fold_first r rs ∙ fold_of_fits (plus_zero r) rs f)
    ∙ merged_extent s (plus_zero r) rs
    ∙ ap (λ (t : Option Float). add_all t (map (extent s) rs)) (extent_plus s r)

-- ---- refusals
fits_of_prefixes : (a : GeoStatistics) (rs : List GeoStatistics) → ((w : Which) → PrefixSumsFit (total w a) (map (total w) rs)) → Fits a rs
fits_of_prefixes a [] h = tt
fits_of_prefixes a (r ∷ rs) h = (
  overflows_not a r (λ w. (h w).0),
  fits_of_prefixes (merge_parts a r) rs (λ w.
      subst (λ (t : Option ℤ). PrefixSumsFit t (map (total w) rs)) (sym (total_merged w a r ∙ add_is_plus (total w a) (total w r) (h w).0)) (h w).1),
)

prefixes_of_fits : (w : Which) (a : GeoStatistics) (rs : List GeoStatistics) → Fits a rs → PrefixSumsFit (total w a) (map (total w) rs)
prefixes_of_fits w a [] h = tt
prefixes_of_fits w a (r ∷ rs) h =
    let l = sums_stay a r h.0 w in
    (l, subst (λ (t : Option ℤ). PrefixSumsFit t (map (total w) rs)) (total_merged w a r ∙ add_is_plus (total w a) (total w r) l) (prefixes_of_fits w (merge_parts a r) rs h.1))

-- Totals that fit are never refused; and a fold is refused, with 3, exactly where some total has a prefix sum that leaves the range.
pub totals_that_fit : (r : GeoStatistics) (rs : List GeoStatistics) → ((w : Which) → PrefixSumsFit (total w r) (map (total w) rs)) → (fold (r ∷ rs)).number ≡ 0
totals_that_fit r rs h =
    let k : (w : Which) → PrefixSumsFit (total w (plus_zero r)) (map (total w) rs) = λ w. subst (λ (t : Option ℤ). PrefixSumsFit t (map (total w) rs)) (sym (total_plus w r)) (h w) in
    ap (λ (g : Folded). g.number) (fold_first r rs ∙ fold_of_fits (plus_zero r) rs (fits_of_prefixes (plus_zero r) rs k))

pub not_refused_fit : (r : GeoStatistics) (rs : List GeoStatistics) → (fold (r ∷ rs)).number ≡ 0 → (w : Which) → PrefixSumsFit (total w r) (map (total w) rs)
not_refused_fit r rs e w =
    subst (λ (t : Option ℤ). PrefixSumsFit t (map (total w) rs)) (total_plus w r)
    (prefixes_of_fits w (plus_zero r) rs (fits_of_fold (plus_zero r) rs (rw (fold_first r rs) at e)))

pub refused_with_three : (rs : List GeoStatistics) → ((fold rs).number ≡ 0) ⊎ ((fold rs).number ≡ error.overflow)
unfolding fold_from
refused_with_three [] = inl refl
refused_with_three (r ∷ rs) = rw (fold_first r rs) (fold_number (plus_zero r) rs)

-- ---- trees of merges
merge_accepted : (a b : GeoStatistics) → (merge_value a b).number ≡ 0 → (merge_value a b).rec ≡ merge_parts a b
unfolding merge_value
merge_accepted a b = go (overflow a b)
  where
    merged : Bool → Merged
    merged o = cond o (refused error.overflow) (record { number = 0; rec = merge_parts a b })

    go : (o : Bool) → (merged o).number ≡ 0 → (merged o).rec ≡ merge_parts a b
    go true e = absurd (three_not_zero e)
    go false e = refl

-- an answer that is not refused is made of two that are not
merges : (a b : Merged) → (merge_answers a b).number ≡ 0 → (a.number ≡ 0) × (b.number ≡ 0) × ((merge_answers a b).rec ≡ merge_parts a.rec b.rec)
unfolding merge_answers
merges a b = go (eqb a.number 0) (eqb b.number 0) refl refl
  where
    answer : Bool → Bool → Merged
    answer p q = cond p (cond q (merge_value a.rec b.rec) b) a

    go : (p q : Bool) → eqb a.number 0 ≡ p → eqb b.number 0 ≡ q → (answer p q).number ≡ 0
        → (a.number ≡ 0) × (b.number ≡ 0) × ((answer p q).rec ≡ merge_parts a.rec b.rec)
    go true true h k e = (eqb-true a.number 0 h, eqb-true b.number 0 k, merge_accepted a.rec b.rec e)
    go true false h k e = absurd (eqb-false b.number 0 k e)
    go false q h k e = absurd (eqb-false a.number 0 h e)

leaves_map : (P Q : GeoStatistics → Type 0) (t : Tree) → ((r : GeoStatistics) → P r → Q r) → AllLeaves P t → AllLeaves Q t
leaves_map P Q (leaf r) f h = f r h
leaves_map P Q (node s t) f h = (leaves_map P Q s f h.0, leaves_map P Q t f h.1)

tree_doubles : (t : Tree) → AllLeaves (λ r. DoublesWhereKnown r.bbox) t → (merge_tree t).number ≡ 0 → DoublesWhereKnown (merge_tree t).rec.bbox
unfolding merge_parts
tree_doubles (leaf r) D e = D
tree_doubles (node s t) D e =
    let m = merges (merge_tree s) (merge_tree t) e in
    subst (λ (r : GeoStatistics). DoublesWhereKnown r.bbox) (sym m.2)
    (merge_doubles (merge_tree s).rec.bbox (merge_tree t).rec.bbox (tree_doubles s D.0 m.0) (tree_doubles t D.1 m.1))

-- No box shrinks along any tree of merges.
pub no_box_shrinks_in_trees : (t : Tree) → AllLeaves (λ r. DoublesWhereKnown r.bbox) t → (merge_tree t).number ≡ 0 → AllLeaves (λ r. NoLess (merge_tree t).rec.bbox r.bbox) t
unfolding merge_parts
no_box_shrinks_in_trees (leaf r) D e = no_less_refl r.bbox
no_box_shrinks_in_trees (node s t) D e =
    let m = merges (merge_tree s) (merge_tree t) e in
    let a : (Option BoundingBox) = (merge_tree s).rec.bbox in
    let b : (Option BoundingBox) = (merge_tree t).rec.bbox in
    let A = tree_doubles s D.0 m.0 in
    let B = tree_doubles t D.1 m.1 in
    subst (λ (g : GeoStatistics). AllLeaves (λ r. NoLess g.bbox r.bbox) (node s t)) (sym m.2) (
      leaves_map (λ r. NoLess a r.bbox) (λ r. NoLess (merge_bboxes a b) r.bbox) s
          (λ r h. no_less_trans (merge_bboxes a b) a r.bbox (merge_no_less_left a b A B) h) (no_box_shrinks_in_trees s D.0 m.0),
      leaves_map (λ r. NoLess b r.bbox) (λ r. NoLess (merge_bboxes a b) r.bbox) t
          (λ r h. no_less_trans (merge_bboxes a b) b r.bbox (merge_no_less_right a b A B) h) (no_box_shrinks_in_trees t D.1 m.1),
    )
