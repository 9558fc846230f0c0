-- The marked readings hold: the table is computed, and P6's "accepts nothing" is the law of the empty interval. Assumes nothing.
use mathlib.Core.Path.{refl}
use lib.Ieee.{fits, add, sub, div, neg, lt, le, eq, is_nan, round, of_int, of_bits}
use Rattle.sedona_geometry.specs.Float.{min_num, max_num, abs}
use Rattle.sedona_geometry.specs.Interval as interval
use Rattle.sedona_geometry.specs.WraparoundInterval.{is_wraparound, split, intersects_value, pieces_intersect, intersects_interval, pieces_contain, contains_interval, mid, from_pieces, merge_wrapped, nearer_left, merge_plain, merge_non_empty, merge_interval, excluding, expand_by, intersect_plain, intersect_wrapped, intersection}
use Rattle.sedona_geometry.specs.BoundingBox as bounding_box
use Rattle.sedona_expr.specs.SpatialFilter as filter
use Rattle.sedona_expr.specs.Tables as tables
use Rattle.sedona_expr.specs.Refusals as refusals
use Rattle.sedona_expr.specs.Calls as calls
use Rattle.sedona_expr.specs.Marked.{AllHold, marked}
use Rattle.sedona_geometry.proofs.Wrapping.{empty_accepts_nothing_lem}

pub marked_hold : AllHold marked
unfolding fits add sub div neg lt le eq is_nan round of_int of_bits min_num max_num abs interval.intersects_value interval.intersects_interval interval.contains_interval interval.is_empty interval.merge_interval interval.is_unmoved_by interval.expand_by interval.intersection is_wraparound split intersects_value pieces_intersect intersects_interval pieces_contain contains_interval mid from_pieces merge_wrapped nearer_left merge_plain merge_non_empty merge_interval excluding expand_by intersect_plain intersect_wrapped intersection bounding_box.test_known bounding_box.join_known bounding_box.intersects bounding_box.with_x bounding_box.intersection refusals.or_else refusals.words_refusal refusals.good_flag refusals.literals_refusal refusals.lengths_refusal refusals.values_refusal refusals.wrong_names refusals.twice_refusal refusals.records_refusal tables.are_below refusals.pair_refusal refusals.is_lent refusals.column_refusal refusals.leaf_refusal refusals.node_refusal refusals.uses_by refusals.uses_refusal refusals.table_refusal refusals.tree_refusal refusals.refusal refusals.box_refusal tables.place tables.box_with tables.box_at tables.or_empty tables.leaf_of tables.pair_of tables.has_children tables.leaf_at tables.alone tables.tree_of tables.tree_at filter.may_intersect filter.or_full calls.outcome bounding_box.numbered
marked_hold = (refl, (refl, (refl, (refl, (refl, (refl, (refl, (refl, (refl, ((refl, λ v h. empty_accepts_nothing_lem (record { lo = tt; hi = tt }) refl h), (refl, (refl, (refl, (refl, ((refl, refl, refl), tt)))))))))))))))
