-- Why demand 3 asks what it asks: examples in which a hypothesis fails, and the conclusion with it. Assumes nothing.
use Rattle.std.specs.Prelude.{Option, Some, None}
use mathlib.Core.Path.{◌≡◌, refl}
use mathlib.Core.Bool.{true, false}
use mathlib.Core.Logic.{inl}
use Prim.Native.Nat.{ℕ, ◌^◌}
use lib.IntN.{pos}
use lib.Ieee.{Float, nan, inf, binary64, fits, add, sub, div, lt, le, eq, is_nan, round, of_int}
use Rattle.sedona_geometry.specs.Float.{min_num, max_num, abs}
use Rattle.sedona_geometry.specs.Interval as interval
use Rattle.sedona_geometry.specs.WraparoundInterval as wraparound
use Rattle.sedona_geometry.specs.BoundingBox.{xy, xyzm, test_known, join_known, contains, merge_box, with_x, intersection, Common}
use Rattle.sedona_geometry.specs.Types.{from_bits}
use Rattle.sedona_geometry.specs.declared.bounding_box.BoundingBox.{BoundingBox}
use Rattle.sedona_expr.specs.Statistics.{merge_bboxes, merge_types}
use Rattle.sedona_expr.specs.SpatialFilter.{Filter, intersects, covers, and, or, box_for, or_full, is_z, has_z_type, may_be_z, is_known_empty, has_empty_z, may_have_z}
use Rattle.sedona_expr.specs.Tables.{column}
use Rattle.sedona_expr.specs.Demand.{Holds}
use Rattle.sedona_expr.specs.declared.tables.ColumnRecord.{ColumnRecord}
use Rattle.sedona_geometry.specs.declared.types.GeometryTypeAndDimensionsSet.{GeometryTypeAndDimensionsSet}

abbrev plus : ℕ → Float
plus n = of_int binary64 (pos n)

-- A box with y (0, 1).
abbrev of_x : Float → Float → BoundingBox
of_x lo hi = xy (wraparound.new lo hi) (interval.new (plus 0) (plus 1))

-- A box with x (0, 1).
abbrev of_y : Float → Float → BoundingBox
of_y lo hi = xy (wraparound.new (plus 0) (plus 1)) (interval.new lo hi)

-- "all literals low to high": a point contains one that falls, which does not contain the point.
pub a_falling_literal : (contains (of_y (plus 4) (plus 4)) (of_y (plus 5) (plus 3)) ≡ true) × (contains (of_y (plus 5) (plus 3)) (of_y (plus 4) (plus 4)) ≡ false)
unfolding sub lt le eq is_nan round of_int interval.contains_interval interval.is_empty wraparound.is_wraparound wraparound.split wraparound.pieces_contain wraparound.contains_interval test_known contains
a_falling_literal = (refl, refl)

-- The same of x, where literals wrap: the filter holds of the point 10, and its box is (20, 0).
abbrev ten : BoundingBox
ten = of_x (plus 10) (plus 10)

abbrev ten_or : BoundingBox → Filter
ten_or k = or (intersects (column 0 0) ten) (covers (column 0 0) k)

abbrev two_that_wrap : Filter
two_that_wrap = and (ten_or (of_x (plus 20) (plus 5))) (ten_or (of_x (plus 15) (plus 0)))

ten_meets_itself : Common ten ten
unfolding fits sub lt le eq is_nan round of_int interval.intersects_value interval.is_empty wraparound.is_wraparound wraparound.split wraparound.intersects_value
ten_meets_itself = record {
  x = record { number = plus 10; double = tt; left = record { holds = refl }; right = record { holds = refl } };
  y = record { number = plus 0; double = tt; left = record { holds = refl }; right = record { holds = refl } };
  z = tt;
  m = tt;
}

pub wrapped_literals : Holds (λ c. record { bbox = Some ten; bit = 1 }) two_that_wrap × (box_for 0 two_that_wrap ≡ of_x (plus 20) (plus 0)) × (contains (of_x (plus 20) (plus 0)) ten ≡ false)
unfolding add sub div lt le eq is_nan round of_int min_num max_num abs interval.intersects_interval interval.contains_interval interval.is_empty interval.merge_interval interval.intersection wraparound.is_wraparound wraparound.split wraparound.mid wraparound.pieces_contain wraparound.contains_interval wraparound.from_pieces wraparound.nearer_left wraparound.merge_plain wraparound.merge_non_empty wraparound.merge_interval wraparound.intersect_wrapped wraparound.intersection test_known join_known contains merge_box with_x intersection or_full
wrapped_literals = ((inl ten_meets_itself, inl ten_meets_itself), refl, refl)

-- A box with z.
abbrev of_z : Float → Float → Option BoundingBox
of_z lo hi = Some (xyzm (wraparound.new (plus 0) (plus 1)) (interval.new (plus 0) (plus 1)) (Some (interval.new lo hi)) None)

abbrev a_record : Option BoundingBox → Option GeometryTypeAndDimensionsSet → ColumnRecord
a_record b t = record { bbox = b; types = t }

-- A known set of one type: a point's, or with z.
abbrev flat : Option GeometryTypeAndDimensionsSet
flat = Some (from_bits (2 ^ 1))

abbrev deep : Option GeometryTypeAndDimensionsSet
deep = Some (from_bits (2 ^ 9))

-- "z missing or running low to high": merged with the z (inf, 3), one that is NaN is empty.
pub a_nan_z : (may_have_z (a_record (of_z nan nan) deep) ≡ true) × (may_have_z (a_record (merge_bboxes (of_z nan nan) (of_z (inf false) (plus 3))) deep) ≡ false)
unfolding sub eq is_nan of_int min_num max_num interval.is_empty interval.merge_interval join_known merge_box merge_bboxes is_z has_z_type may_be_z is_known_empty has_empty_z may_have_z
a_nan_z = (refl, refl)

-- "beside a known type set with its type's bit": types that are missing yield to others, which lack it.
pub types_missing : (may_have_z (a_record (of_z (plus 2) (plus 2)) None) ≡ true)
    × (may_have_z (a_record (of_z (plus 2) (plus 2)) (merge_types None flat)) ≡ false)
unfolding sub eq of_int interval.is_empty merge_types is_z has_z_type may_be_z is_known_empty has_empty_z may_have_z
types_missing = (refl, refl)
