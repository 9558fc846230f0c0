-- The hypotheses of the theorems can be met: by two records with boxes and totals, which fit, one of them with types; and a total that leaves its range is refused.
-- And what calls give of a record with −0 is computed. Assumes nothing.
use Rattle.std.specs.Prelude.{Option, Some, None}
use mathlib.Core.Path.{◌≡◌, refl}
use mathlib.Core.Logic.{inl}
use mathlib.Core.Bool.{true}
use mathlib.Core.List.{List, [], ◌∷◌, ◌++◌, map}
use Prim.Native.Nat.{ℕ, ◌^◌}
use lib.IntN.{ℤ, pos}
use lib.Ieee.{Float, binary64, neg, sum, sub, lt, le, eq, is_nan, round, of_int}
use Rattle.sedona_geometry.specs.Float.{min_num, max_num}
use Rattle.sedona_geometry.specs.Interval as interval
use Rattle.sedona_geometry.specs.WraparoundInterval as wraparound
use Rattle.sedona_geometry.specs.BoundingBox.{join_known, merge_box}
use Rattle.sedona_geometry.specs.Types.{from_bits, has}
use Rattle.sedona_geometry.specs.declared.types.GeometryTypeAndDimensionsSet.{GeometryTypeAndDimensionsSet}
use Rattle.sedona_geometry.proofs.Instances as boxes
use Rattle.sedona_geometry.specs.Lists.{All}
use Rattle.sedona_expr.specs.Statistics.{is_outside, most, sum_is_outside, totals_overflow, counts_overflow, merge_bboxes, merge_parts, merge_value, merge_or_keep, merge, step, fold_from, fold, DoublesWhereKnown, NoLess, Which, points, total, PrefixSumsFit, Tree, leaf, node, merge_tree, merge_answers, AllLeaves, empty}
use Rattle.sedona_expr.specs.Names.{place_of, has_twice}
use Rattle.sedona_expr.specs.Tables.{table, Lookup, by_position, by_name, are_below}
use Rattle.sedona_expr.specs.Tables as tables
use Rattle.sedona_expr.specs.Refusals.{or_else, words_refusal, good_flag, literals_refusal, wrong_names, lengths_refusal, values_refusal, twice_refusal, records_refusal, pair_refusal, is_lent, column_refusal, leaf_refusal, node_refusal, uses_by, uses_refusal, table_refusal, tree_refusal, refusal}
use Rattle.sedona_expr.specs.Demand.{HasBox, MissingOrRising, HasTypes}
use Rattle.sedona_expr.specs.declared.statistics.GeoStatistics.{GeoStatistics}
use Rattle.sedona_expr.proofs.HasZ.{fold_types, fold_z}
use Rattle.sedona_expr.proofs.Theorems as theorems
use Rattle.sedona_geometry.specs.declared.bounding_box.BoundingBox.{BoundingBox}

-- No geometries but in a box, of these types, and some points.
abbrev pub reading : Option BoundingBox → Option GeometryTypeAndDimensionsSet → ℤ → GeoStatistics
reading c t n = record {
  bbox = c;
  geometry_types = t;
  total_geometries = empty.total_geometries;
  total_size_bytes = empty.total_size_bytes;
  total_points = Some n;
  puntal_count = empty.puntal_count;
  lineal_count = empty.lineal_count;
  polygonal_count = empty.polygonal_count;
  collection_count = empty.collection_count;
  total_envelope_width = empty.total_envelope_width;
  total_envelope_height = empty.total_envelope_height;
}

-- The set of one type, a point with z.
abbrev pub point_z : GeometryTypeAndDimensionsSet
point_z = from_bits (2 ^ 9)

abbrev pub first : GeoStatistics
first = reading (Some boxes.a) (Some point_z) (pos 3)

abbrev pub second : GeoStatistics
second = reading (Some boxes.b) None (pos 4)

abbrev pub records : List GeoStatistics
records = first ∷ second ∷ []

fits : (fold records).number ≡ 0
unfolding is_outside sum_is_outside totals_overflow counts_overflow merge_value step fold_from
fits = refl

doubles : All (λ r. DoublesWhereKnown r.bbox) records
doubles = (boxes.a_doubles, (boxes.b_doubles, tt))

pub no_less : All (λ r. NoLess (fold records).rec.bbox r.bbox) records
no_less = theorems.no_box_shrinks records doubles fits

pub points_are_seven : total points (fold records).rec ≡ Some (pos 7)
points_are_seven = theorems.totals_are_sums points first (second ∷ []) fits

pub types_are_kept : HasTypes (λ t. (k : ℕ) → has point_z k ≡ true → has t k ≡ true) (fold records).rec.geometry_types
types_are_kept = fold_types point_z records fits (inl refl)

pub z_is_kept : HasBox MissingOrRising (fold records).rec.bbox
unfolding le round of_int
z_is_kept = fold_z records fits (inl refl)

pub points_fit : (w : Which) → PrefixSumsFit (total w first) (map (total w) (second ∷ []))
points_fit = theorems.not_refused_fit first (second ∷ []) fits

abbrev pub tree : Tree
tree = node (leaf first) (leaf second)

tree_fits : (merge_tree tree).number ≡ 0
unfolding is_outside sum_is_outside totals_overflow counts_overflow merge_value merge_answers
tree_fits = refl

pub no_less_in_tree : AllLeaves (λ r. NoLess (merge_tree tree).rec.bbox r.bbox) tree
no_less_in_tree = theorems.no_box_shrinks_in_trees tree (boxes.a_doubles, boxes.b_doubles) tree_fits

-- 2^63 − 1 plus 0 fits, plus 1 does not.
pub at_the_limit : (fold (reading None None most ∷ reading None None (pos 0) ∷ [])).number ≡ 0
unfolding is_outside sum_is_outside totals_overflow counts_overflow merge_value step fold_from
at_the_limit = refl

pub over_the_limit : (fold (reading None None most ∷ reading None None (pos 1) ∷ [])).number ≡ 3
unfolding is_outside sum_is_outside totals_overflow counts_overflow merge_value step fold_from
over_the_limit = refl

-- ---- request 6: a record whose box a caller filled with −0
abbrev signed : Option BoundingBox
signed = Some (record { x = boxes.signed_x; y = boxes.signed; z = Some boxes.signed; m = Some boxes.signed })

abbrev unsigned : Option BoundingBox
unsigned = Some (record { x = boxes.unsigned_x; y = boxes.unsigned; z = Some boxes.unsigned; m = Some boxes.unsigned })

abbrev with_zeros : Option BoundingBox → ℤ → GeoStatistics
with_zeros b n = reading b None n

-- merged with itself, kept by a missing box on either side, folded alone, and with a missing one: +0
pub plus_zeros : All (λ (c : Option BoundingBox × Option BoundingBox). c.0 ≡ c.1) (
    ((merge_value (with_zeros signed (pos 0)) (with_zeros signed (pos 0))).rec.bbox, unsigned) ∷
    ((merge_value (with_zeros signed (pos 0)) (with_zeros None (pos 0))).rec.bbox, unsigned) ∷
    ((merge_value (with_zeros None (pos 0)) (with_zeros signed (pos 0))).rec.bbox, unsigned) ∷
    ((merge (with_zeros signed (pos 0)) (with_zeros None (pos 0))).rec.bbox, unsigned) ∷
    ((fold (with_zeros signed (pos 0) ∷ [])).rec.bbox, unsigned) ∷
    ((fold (with_zeros None (pos 0) ∷ with_zeros signed (pos 0) ∷ [])).rec.bbox, unsigned) ∷
    [])
unfolding sub neg sum round lt eq is_nan min_num max_num interval.is_empty interval.merge_interval wraparound.is_wraparound wraparound.merge_non_empty wraparound.merge_interval join_known merge_box is_outside sum_is_outside totals_overflow counts_overflow merge_bboxes merge_parts merge_value merge_or_keep step fold_from
plus_zeros = (refl, (refl, (refl, (refl, (refl, (refl, tt))))))

-- a refused merge leaves the record as it was, −0 and all
pub refused_as_it_was : merge (with_zeros signed most) (with_zeros None (pos 1)) ≡ record { number = 3; rec = with_zeros signed most }
unfolding is_outside sum_is_outside totals_overflow counts_overflow merge_value merge_or_keep
refused_as_it_was = refl

-- ---- the numbers of a filter call, as numerals, and their order: 4, 8, 11, then node by node 5, 7, 9, 10, then 7 again
-- one box of zeros, as a literal and as a record
abbrev zeros : List Float
zeros = let z = of_int binary64 (pos 0) in z ∷ z ∷ z ∷ z ∷ z ∷ z ∷ z ∷ z ∷ []

-- what refuses a table of these nodes, with one literal of this flag, beside records of these flags and known bytes, by position or by name
abbrev number : Lookup → List ℕ → ℕ → List ℕ → List ℕ → ℕ
number l ns flag fs ks = refusal l (table ns zeros (flag ∷ [])) (tables.records zeros fs (0 ∷ []) ks)

abbrev intersects : List ℕ
intersects = 0 ∷ 0 ∷ 0 ∷ 0 ∷ []

pub refusals_are_numbered : All (λ (c : ℕ × ℕ). c.0 ≡ c.1) (
    -- nothing is refused: flags 1 and 7, and 0 for a record
    (number by_position intersects 7 (7 ∷ []) (1 ∷ []), 0) ∷
    (number by_position intersects 1 (0 ∷ []) (0 ∷ []), 0) ∷
    (number by_position intersects 1 (1 ∷ []) (0 ∷ []), 0) ∷
    -- 4: no words, a word too many; before a bad literal
    (number by_position [] 1 (1 ∷ []) (0 ∷ []), 4) ∷
    (number by_position (0 ∷ 0 ∷ 0 ∷ 0 ∷ 0 ∷ []) 2 (1 ∷ []) (0 ∷ []), 4) ∷
    -- 8: a literal without a box, flags past the limit, a record's flag, lengths, a known byte, names; before a kind over 6
    (number by_position intersects 0 (1 ∷ []) (0 ∷ []), 8) ∷
    (number by_position intersects 9 (1 ∷ []) (0 ∷ []), 8) ∷
    (number by_position intersects 1 (9 ∷ []) (0 ∷ []), 8) ∷
    (number by_position intersects 1 (6 ∷ []) (0 ∷ []), 8) ∷
    (number by_position intersects 1 (1 ∷ 1 ∷ []) (0 ∷ []), 8) ∷
    (number by_position intersects 1 (1 ∷ []) (2 ∷ []), 8) ∷
    (number (by_name []) intersects 1 (1 ∷ []) (0 ∷ []), 8) ∷
    (number by_position (7 ∷ 0 ∷ 0 ∷ 0 ∷ []) 1 (2 ∷ []) (0 ∷ []), 8) ∷
    -- 5: a kind over 6; before a child that is not below, in a node behind it
    (number by_position (7 ∷ 0 ∷ 0 ∷ 0 ∷ []) 1 (1 ∷ []) (0 ∷ []), 5) ∷
    (number by_position (7 ∷ 0 ∷ 0 ∷ 0 ∷ 3 ∷ 1 ∷ 1 ∷ 0 ∷ []) 1 (1 ∷ []) (0 ∷ []), 5) ∷
    -- 7: a child that is not below; before a literal that is not lent, in a node behind it
    (number by_position (3 ∷ 0 ∷ 0 ∷ 0 ∷ []) 1 (1 ∷ []) (0 ∷ []), 7) ∷
    (number by_position (3 ∷ 0 ∷ 0 ∷ 0 ∷ 0 ∷ 0 ∷ 0 ∷ 1 ∷ []) 1 (1 ∷ []) (0 ∷ []), 7) ∷
    -- 9: a literal that is not lent; before a column that is not
    (number by_position (0 ∷ 0 ∷ 0 ∷ 1 ∷ []) 1 (1 ∷ []) (0 ∷ []), 9) ∷
    (number by_position (0 ∷ 1 ∷ 0 ∷ 1 ∷ []) 1 (1 ∷ []) (0 ∷ []), 9) ∷
    -- 10: a column that is not lent; by name none is looked at; before a node that is not used
    (number by_position (0 ∷ 1 ∷ 0 ∷ 0 ∷ []) 1 (1 ∷ []) (0 ∷ []), 10) ∷
    (number by_position (2 ∷ 1 ∷ 0 ∷ 0 ∷ []) 1 (1 ∷ []) (0 ∷ []), 10) ∷
    (number (by_name (5 ∷ [])) (0 ∷ 1 ∷ 0 ∷ 0 ∷ []) 1 (1 ∷ []) (0 ∷ []), 0) ∷
    (number by_position (0 ∷ 1 ∷ 0 ∷ 0 ∷ 6 ∷ 0 ∷ 0 ∷ 0 ∷ []) 1 (1 ∷ []) (0 ∷ []), 10) ∷
    -- 7: a node but the root not used exactly once
    (number by_position (6 ∷ 0 ∷ 0 ∷ 0 ∷ 6 ∷ 0 ∷ 0 ∷ 0 ∷ []) 1 (1 ∷ []) (0 ∷ []), 7) ∷
    (number by_position (6 ∷ 0 ∷ 0 ∷ 0 ∷ 3 ∷ 0 ∷ 0 ∷ 0 ∷ []) 1 (1 ∷ []) (0 ∷ []), 7) ∷
    [])
unfolding or_else words_refusal good_flag literals_refusal lengths_refusal values_refusal wrong_names twice_refusal records_refusal are_below pair_refusal is_lent column_refusal leaf_refusal node_refusal uses_by uses_refusal table_refusal tree_refusal refusal has_twice place_of
refusals_are_numbered =
    (refl, (refl, (refl, (refl, (refl, (refl, (refl, (refl, (refl, (refl, (refl, (refl, (refl, (refl, (refl, (refl, (refl, (refl, (refl, (refl, (refl, (refl, (refl, (refl, (refl, tt)))))))))))))))))))))))))

-- 11: a name twice, of two records; behind 8 (a bad flag, names that are not so many) and before 5
abbrev two_number : List ℕ → List ℕ → List ℕ → ℕ
two_number names ns fs = refusal (by_name names) (table ns zeros (1 ∷ [])) (tables.records (zeros ++ zeros) fs (0 ∷ 0 ∷ []) (0 ∷ 0 ∷ []))

pub a_name_twice : All (λ (c : ℕ × ℕ). c.0 ≡ c.1) (
    (two_number (5 ∷ 5 ∷ []) intersects (1 ∷ 1 ∷ []), 11) ∷
    (two_number (5 ∷ 6 ∷ []) intersects (1 ∷ 1 ∷ []), 0) ∷
    (two_number (5 ∷ 5 ∷ []) intersects (1 ∷ 4 ∷ []), 8) ∷
    (two_number (5 ∷ 5 ∷ 5 ∷ []) intersects (1 ∷ 1 ∷ []), 8) ∷
    (two_number (5 ∷ 5 ∷ []) (7 ∷ 0 ∷ 0 ∷ 0 ∷ []) (1 ∷ 1 ∷ []), 11) ∷
    [])
unfolding or_else words_refusal good_flag literals_refusal lengths_refusal values_refusal wrong_names twice_refusal records_refusal are_below pair_refusal is_lent column_refusal leaf_refusal node_refusal uses_by uses_refusal table_refusal tree_refusal refusal has_twice place_of
a_name_twice = (refl, (refl, (refl, (refl, (refl, tt)))))
