-- The hypotheses of demand 3 can be met, for each call and for each half: And of (Or of an Intersects of column 0 and a LiteralFalse), of a Covers
-- of column 1 and of (Or of a HasZ of column 0, which holds, and one of column 1, which does not); a row that is a point in both, and in a third
-- column, for which no record is lent; for column 0 three records, one of them without a box and types and one wrapped; and for column 1 two
-- records without types. And for the first half alone a Covers whose literal wraps, of a row that wraps, beside a record with NaN. Assumes nothing.
use Rattle.std.specs.Prelude.{Option, Some, None}
use mathlib.Core.Path.{◌≡◌, refl, sym}
use mathlib.Core.Bool.{true}
use mathlib.Core.Logic.{inl, inr}
use mathlib.Core.List.{List, [], ◌∷◌}
use Prim.Native.Nat.{ℕ, zero, suc, ◌^◌}
use native.Mathlib.Omega.{arith}
use lib.IntN.{pos}
use lib.Ieee.{Float, nan, fin, binary64, fits, add, sub, div, neg, lt, le, eq, is_nan, round, of_int}
use Rattle.sedona_geometry.specs.Float.{min_num, max_num, abs}
use Rattle.sedona_geometry.specs.Interval as interval
use Rattle.sedona_geometry.specs.WraparoundInterval as wraparound
use Rattle.sedona_geometry.specs.BoundingBox as bounding_box
use Rattle.sedona_geometry.specs.Types.{from_bits}
use Rattle.sedona_geometry.specs.declared.bounding_box.BoundingBox.{BoundingBox}
use Rattle.sedona_geometry.proofs.Booleans.{fails}
use Rattle.sedona_expr.specs.Statistics as statistics
use Rattle.sedona_expr.specs.SpatialFilter.{is_z, may_have_z}
use Rattle.sedona_expr.specs.Names.{place_of, has_twice}
use Rattle.sedona_expr.specs.Tables as tables
use Rattle.sedona_expr.specs.Refusals as refusals
use Rattle.sedona_expr.specs.Tables.{Records, Table, Lookup, by_position, by_name}
use Rattle.sedona_expr.specs.Demand.{Row, WhereBox, Leaf, of_box, a_has_z, Beside, Folds, Wanted, is_point, Numbers, Pointed, MayMatch, Reaches}
use Rattle.sedona_expr.specs.declared.statistics.GeoStatistics.{GeoStatistics}
use Rattle.sedona_expr.proofs.Instances.{reading}
use Rattle.sedona_expr.proofs.MayMatch.{fold_has_z}
use Rattle.sedona_expr.proofs.Searches.{once_differ}
use Rattle.sedona_expr.proofs.Demand3.{demand-3}
use Rattle.sedona_geometry.specs.declared.types.GeometryTypeAndDimensionsSet.{GeometryTypeAndDimensionsSet}

abbrev plus : ℕ → Float
plus n = of_int binary64 (pos n)

abbrev minus_zero : Float
minus_zero = fin true 0 (pos 0)

-- A box of x and y.
abbrev flat : Float → Float → Float → Float → BoundingBox
flat a b c d = bounding_box.xy (wraparound.new a b) (interval.new c d)

-- A box of x, y and z.
abbrev deep : Float → Float → Float → Float → Float → Float → BoundingBox
deep a b c d e f = bounding_box.xyzm (wraparound.new a b) (interval.new c d) (Some (interval.new e f)) None

-- A known set of one type.
abbrev only : ℕ → Option GeometryTypeAndDimensionsSet
only n = Some (from_bits (2 ^ n))

-- ---- what is lent

abbrev nodes : List ℕ
nodes =
    -- 0: Intersects, index 0, name 7, literal 0
    0 ∷ 0 ∷ 7 ∷ 0
    -- 1: LiteralFalse
    ∷ 5 ∷ 0 ∷ 0 ∷ 0
    -- 2: Or of 0 and 1
    ∷ 4 ∷ 0 ∷ 1 ∷ 0
    -- 3: Covers, index 1, name 9, literal 1
    ∷ 1 ∷ 1 ∷ 9 ∷ 1
    -- 4: And of 2 and 3
    ∷ 3 ∷ 2 ∷ 3 ∷ 0
    -- 5: HasZ, index 0, name 7
    ∷ 2 ∷ 0 ∷ 7 ∷ 0
    -- 6: HasZ, index 1, name 9
    ∷ 2 ∷ 1 ∷ 9 ∷ 0
    -- 7: Or of 5 and 6
    ∷ 4 ∷ 5 ∷ 6 ∷ 0
    -- 8: And of 4 and 7
    ∷ 3 ∷ 4 ∷ 7 ∷ 0
    ∷ []

-- The doubles of a box of x, y and z, which may be unread.
abbrev ends : Float → Float → Float → Float → Float → Float → List Float → List Float
ends a b c d e f ds = a ∷ b ∷ c ∷ d ∷ e ∷ f ∷ plus 0 ∷ plus 0 ∷ ds

abbrev t : Table
t =
    tables.table nodes (ends (plus 0) (plus 10) (plus 0) (plus 10) (plus 0) (plus 0) (ends (plus 4) (plus 4) (plus 5) (plus 5) (plus 0) (plus 0) []))
    (1 ∷ 1 ∷ [])

abbrev r : Records
r =
    tables.records
    (ends (plus 2) (neg (plus 170)) (plus 1) (plus 9) (plus 0) (plus 3) (ends (plus 3) (plus 6) (plus 5) (plus 8) (plus 0) (plus 0) []))
    (3 ∷ 1 ∷ []) (0x202 ∷ 0 ∷ []) (1 ∷ 0 ∷ [])

-- By name.
abbrev lent : List ℕ
lent = 7 ∷ 9 ∷ []

-- A third column has a number, and no record is lent for it.
abbrev names : List ℕ
names = 7 ∷ 9 ∷ 4 ∷ []

-- ---- the row and the lists

-- A point with z, and a point without.
abbrev row : Row
row zero = record { bbox = Some (deep (plus 2) (plus 2) (plus 3) (plus 3) (plus 2) (plus 2)); bit = 9 }
row (suc n) = record { bbox = Some (flat (plus 4) (plus 4) (plus 5) (plus 5)); bit = 1 }

abbrev lists : ℕ → List GeoStatistics
lists zero =
    reading (row 0).bbox (only 9) (pos 1)
    ∷ reading None None (pos 2)
    ∷ reading (Some (deep (plus 170) (neg (plus 170)) (plus 1) (plus 9) (plus 0) (plus 3))) (only 1) (pos 3)
    ∷ []
lists (suc n) =
    reading (Some (flat (plus 3) (plus 6) (plus 6) (plus 8))) None (pos 4)
    ∷ reading (row 1).bbox None (pos 5)
    ∷ []

-- ---- each column's list, for any of its leaves
folds-0 : (f : Leaf) → Beside f (row 0) (only 9) → Folds f (lists 0) (row 0) (tables.record_at r 0)
unfolding fits add sub div neg lt le eq is_nan round of_int min_num max_num abs interval.intersects_interval interval.is_empty interval.merge_interval wraparound.is_wraparound wraparound.split wraparound.mid wraparound.from_pieces wraparound.merge_wrapped wraparound.nearer_left wraparound.merge_plain wraparound.merge_non_empty wraparound.merge_interval bounding_box.join_known bounding_box.merge_box statistics.is_outside statistics.sum_is_outside statistics.totals_overflow statistics.counts_overflow statistics.merge_bboxes statistics.merge_types statistics.merge_parts statistics.merge_value statistics.add_totals statistics.step statistics.fold_from tables.box_with tables.box_at tables.types_at
folds-0 f h = record {
  doubles = (
    record { x = record { lo = tt; hi = tt }; y = record { lo = tt; hi = tt }; z = record { lo = tt; hi = tt }; m = tt },
    (tt, (record { x = record { lo = tt; hi = tt }; y = record { lo = tt; hi = tt }; z = record { lo = tt; hi = tt }; m = tt }, tt)),
  );
  has = tt;
  among = inl (refl, h);
  fit = refl;
  folded = refl;
}

folds-1 : (f : Leaf) → Beside f (row 1) None → Folds f (lists 1) (row 1) (tables.record_at r 1)
unfolding fits add sub div neg lt le eq is_nan round of_int min_num max_num abs interval.intersects_interval interval.is_empty interval.merge_interval wraparound.is_wraparound wraparound.split wraparound.mid wraparound.from_pieces wraparound.merge_wrapped wraparound.nearer_left wraparound.merge_plain wraparound.merge_non_empty wraparound.merge_interval bounding_box.join_known bounding_box.merge_box statistics.is_outside statistics.sum_is_outside statistics.totals_overflow statistics.counts_overflow statistics.merge_bboxes statistics.merge_types statistics.merge_parts statistics.merge_value statistics.add_totals statistics.step statistics.fold_from tables.box_with tables.box_at tables.types_at
folds-1 f h = record {
  doubles = (
    record { x = record { lo = tt; hi = tt }; y = record { lo = tt; hi = tt }; z = tt; m = tt },
    (record { x = record { lo = tt; hi = tt }; y = record { lo = tt; hi = tt }; z = tt; m = tt }, tt),
  );
  has = tt;
  among = inr (inl (refl, h));
  fit = refl;
  folded = refl;
}

-- A HasZ of column 0 by itself: it holds of the row, and the fold has the row's record.
pub deep_row_stays : may_have_z (tables.record_at r 0) ≡ true
unfolding is_z le round of_int
deep_row_stays = fold_has_z (folds-0 a_has_z (λ h. refl)) (record { z = refl; type = refl })

-- ---- the row
row_doubles : (i : ℕ) → WhereBox bounding_box.Doubles (row i).bbox
unfolding fits round of_int
row_doubles zero = record { x = record { lo = tt; hi = tt }; y = record { lo = tt; hi = tt }; z = record { lo = tt; hi = tt }; m = tt }
row_doubles (suc i) = record { x = record { lo = tt; hi = tt }; y = record { lo = tt; hi = tt }; z = tt; m = tt }

row_point : (i : ℕ) → WhereBox (bounding_box.Each is_point) (row i).bbox
unfolding eq is_nan round of_int
row_point zero = record { x = (refl, refl); y = (refl, refl); z = (refl, refl); m = tt }
row_point (suc i) = record { x = (refl, refl); y = (refl, refl); z = tt; m = tt }

-- ---- the hypotheses, for any call that finds the two columns
module _ (l : Lookup) (well_formed : refusals.refusal l t r ≡ 0) (first : tables.place l (tables.column 0 7) ≡ 0) (second : tables.place l (tables.column 1 9) ≡ 1) where
  wanted : Wanted l t r row lists
  unfolding is_z fits sub neg lt le eq is_nan round of_int interval.intersects_value interval.contains_interval interval.is_empty wraparound.is_wraparound wraparound.split wraparound.intersects_value wraparound.pieces_contain wraparound.contains_interval bounding_box.test_known bounding_box.contains tables.box_with tables.box_at tables.or_empty tables.leaf_of tables.pair_of tables.are_below tables.has_children tables.leaf_at tables.alone tables.tree_of tables.tree_at
  wanted = record {
    well_formed = well_formed;
    exist = rw (first, second) (((omega arith, tt), omega arith), (omega arith, omega arith));
    holds = rw (first, second) (
      (
        inl (record {
          x = record { number = plus 2; double = tt; left = record { holds = refl }; right = record { holds = refl } };
          y = record { number = plus 3; double = tt; left = record { holds = refl }; right = record { holds = refl } };
          z = tt;
          m = tt;
        }),
        refl,
      ),
      inl (record { z = refl; type = refl }),
    );
    folds = rw (first, second) (((folds-0 _ tt, tt), folds-1 _ tt), (folds-0 _ (λ h. refl), folds-1 _ (λ h. fails (sym h.type) tt)));
  }

  pointed : Numbers l names → Pointed l t r row names
  unfolding place_of has_twice fits neg lt le eq is_nan round of_int tables.box_with tables.box_at tables.or_empty tables.leaf_of tables.pair_of tables.are_below tables.has_children tables.leaf_at tables.alone tables.tree_of tables.tree_at
  pointed numbers = record {
    numbers = numbers;
    columns = omega arith;
    literals = (tt, (tt, (tt, (tt, (tt, (tt, (tt, (tt, (tt, (tt, (tt, (tt, (tt, (tt, (tt, (tt, tt))))))))))))))));
    doubles = λ i h. row_doubles i;
    point = λ i h. row_point i;
    own_names = rw (first, second) (((refl, tt), refl), (tt, tt));
    differ = once_differ names refl;
    low_to_high = (
      ((record { x = refl; y = refl; z = tt; m = tt }, tt), record { x = refl; y = refl; z = tt; m = tt }),
      (tt, tt),
    );
  }

  pub both_halves : Numbers l names → MayMatch l t r × Reaches t row names
  both_halves numbers = let d = demand-3 l t r row lists wanted in (d.0, d.1 names (pointed numbers))

-- ---- each call
pub by_position_lem : MayMatch by_position t r × Reaches t row names
unfolding refusals.or_else refusals.words_refusal refusals.good_flag refusals.literals_refusal refusals.lengths_refusal refusals.values_refusal refusals.wrong_names refusals.twice_refusal refusals.records_refusal tables.are_below refusals.pair_refusal refusals.is_lent refusals.column_refusal refusals.leaf_refusal refusals.node_refusal refusals.uses_by refusals.uses_refusal refusals.table_refusal refusals.tree_refusal refusals.refusal tables.place
by_position_lem = both_halves by_position refl refl refl tt

lent_numbers : Numbers (by_name lent) names
lent_numbers zero h = refl
lent_numbers (suc zero) h = refl
lent_numbers (suc (suc i)) h = absurd (omega arith)

pub by_name_lem : MayMatch (by_name lent) t r × Reaches t row names
unfolding refusals.or_else refusals.words_refusal refusals.good_flag refusals.literals_refusal refusals.lengths_refusal refusals.values_refusal refusals.wrong_names place_of has_twice refusals.twice_refusal refusals.records_refusal tables.are_below refusals.pair_refusal refusals.is_lent refusals.column_refusal refusals.leaf_refusal refusals.node_refusal refusals.uses_by refusals.uses_refusal refusals.table_refusal refusals.tree_refusal refusals.refusal tables.place
by_name_lem = both_halves (by_name lent) refl refl refl lent_numbers

-- ---- a Covers whose literal wraps: of the row's own record, which wraps, and one with NaN
abbrev wrapped_table : Table
wrapped_table = tables.table (1 ∷ 0 ∷ 7 ∷ 0 ∷ []) (ends (plus 175) (neg (plus 175)) (plus 5) (plus 5) (plus 0) (plus 0) []) (1 ∷ [])

abbrev wrapped_fold : Records
wrapped_fold = tables.records (ends (plus 170) (neg (plus 170)) (plus 5) (plus 8) (plus 0) (plus 0) []) (1 ∷ []) (0 ∷ []) (0 ∷ [])

abbrev wrapped_row : Row
wrapped_row n = record { bbox = Some (flat (plus 170) (neg (plus 170)) (plus 5) (plus 5)); bit = 1 }

abbrev wrapped_lists : ℕ → List GeoStatistics
wrapped_lists n =
    reading (Some (flat nan (plus 3) (plus 6) (plus 8))) None (pos 1)
    ∷ reading (wrapped_row n).bbox None (pos 2)
    ∷ []

wrapped_folds : Folds (of_box (flat (plus 175) (neg (plus 175)) (plus 5) (plus 5))) (wrapped_lists 0) (wrapped_row 0) (tables.record_at wrapped_fold 0)
unfolding fits add sub div neg lt le eq is_nan round of_int min_num max_num abs interval.intersects_interval interval.is_empty interval.merge_interval wraparound.is_wraparound wraparound.split wraparound.mid wraparound.from_pieces wraparound.merge_wrapped wraparound.nearer_left wraparound.merge_plain wraparound.merge_non_empty wraparound.merge_interval bounding_box.join_known bounding_box.merge_box statistics.is_outside statistics.sum_is_outside statistics.totals_overflow statistics.counts_overflow statistics.merge_bboxes statistics.merge_types statistics.merge_parts statistics.merge_value statistics.add_totals statistics.step statistics.fold_from tables.box_with tables.box_at tables.types_at
wrapped_folds = record {
  doubles = (
    record { x = record { lo = tt; hi = tt }; y = record { lo = tt; hi = tt }; z = tt; m = tt },
    (record { x = record { lo = tt; hi = tt }; y = record { lo = tt; hi = tt }; z = tt; m = tt }, tt),
  );
  has = tt;
  among = inr (inl (refl, tt));
  fit = refl;
  folded = refl;
}

wrapped_wanted : Wanted by_position wrapped_table wrapped_fold wrapped_row wrapped_lists
unfolding sub neg lt le eq is_nan round of_int interval.contains_interval interval.is_empty wraparound.is_wraparound wraparound.split wraparound.pieces_contain wraparound.contains_interval bounding_box.test_known bounding_box.contains tables.box_with tables.box_at tables.or_empty tables.leaf_of tables.pair_of tables.are_below tables.has_children tables.leaf_at tables.alone tables.tree_of tables.tree_at refusals.or_else refusals.words_refusal refusals.good_flag refusals.literals_refusal refusals.lengths_refusal refusals.values_refusal refusals.wrong_names refusals.twice_refusal refusals.records_refusal refusals.pair_refusal refusals.is_lent refusals.column_refusal refusals.leaf_refusal refusals.node_refusal refusals.uses_by refusals.uses_refusal refusals.table_refusal refusals.tree_refusal refusals.refusal tables.place
wrapped_wanted = record { well_formed = refl; exist = omega arith; holds = refl; folds = wrapped_folds }

pub a_wrapped_literal : MayMatch by_position wrapped_table wrapped_fold
a_wrapped_literal = (demand-3 by_position wrapped_table wrapped_fold wrapped_row wrapped_lists wrapped_wanted).0

-- ---- a row that lies at −0. Its record comes to the list through a fold of its own, which gives +0
abbrev signed : Option BoundingBox
signed = Some (record { x = record { inner = record { lo = minus_zero; hi = minus_zero } }; y = record { lo = minus_zero; hi = minus_zero }; z = None; m = None })

abbrev signed_row : Row
signed_row n = record { bbox = signed; bit = 1 }

abbrev signed_lists : ℕ → List GeoStatistics
signed_lists n =
    (statistics.fold (reading signed None (pos 1) ∷ [])).rec
    ∷ reading (Some (flat (plus 3) (plus 6) (plus 6) (plus 8))) None (pos 2)
    ∷ []

abbrev signed_table : Table
signed_table = tables.table (1 ∷ 0 ∷ 7 ∷ 0 ∷ []) (ends (plus 0) (plus 0) (plus 0) (plus 0) (plus 0) (plus 0) []) (1 ∷ [])

abbrev signed_fold : Records
signed_fold = tables.records (ends (plus 0) (plus 6) (plus 0) (plus 8) (plus 0) (plus 0) []) (1 ∷ []) (0 ∷ []) (0 ∷ [])

signed_folds : Folds (of_box (flat (plus 0) (plus 0) (plus 0) (plus 0))) (signed_lists 0) (signed_row 0) (tables.record_at signed_fold 0)
unfolding fits add sub div neg lt le eq is_nan round of_int min_num max_num abs interval.intersects_interval interval.is_empty interval.merge_interval wraparound.is_wraparound wraparound.split wraparound.mid wraparound.from_pieces wraparound.merge_wrapped wraparound.nearer_left wraparound.merge_plain wraparound.merge_non_empty wraparound.merge_interval bounding_box.join_known bounding_box.merge_box statistics.is_outside statistics.sum_is_outside statistics.totals_overflow statistics.counts_overflow statistics.merge_bboxes statistics.merge_types statistics.merge_parts statistics.merge_value statistics.add_totals statistics.step statistics.fold_from tables.box_with tables.box_at tables.types_at
signed_folds = record {
  doubles = (
    record { x = record { lo = tt; hi = tt }; y = record { lo = tt; hi = tt }; z = tt; m = tt },
    (record { x = record { lo = tt; hi = tt }; y = record { lo = tt; hi = tt }; z = tt; m = tt }, tt),
  );
  has = tt;
  among = inl (refl, tt);
  fit = refl;
  folded = refl;
}

signed_wanted : Wanted by_position signed_table signed_fold signed_row signed_lists
unfolding sub neg lt le eq is_nan round of_int interval.contains_interval interval.is_empty wraparound.is_wraparound wraparound.split wraparound.pieces_contain wraparound.contains_interval bounding_box.test_known bounding_box.contains tables.box_with tables.box_at tables.or_empty tables.leaf_of tables.pair_of tables.are_below tables.has_children tables.leaf_at tables.alone tables.tree_of tables.tree_at refusals.or_else refusals.words_refusal refusals.good_flag refusals.literals_refusal refusals.lengths_refusal refusals.values_refusal refusals.wrong_names refusals.twice_refusal refusals.records_refusal refusals.pair_refusal refusals.is_lent refusals.column_refusal refusals.leaf_refusal refusals.node_refusal refusals.uses_by refusals.uses_refusal refusals.table_refusal refusals.tree_refusal refusals.refusal tables.place
signed_wanted = record { well_formed = refl; exist = omega arith; holds = refl; folds = signed_folds }

pub a_row_at_minus_zero : MayMatch by_position signed_table signed_fold
a_row_at_minus_zero = (demand-3 by_position signed_table signed_fold signed_row signed_lists signed_wanted).0
