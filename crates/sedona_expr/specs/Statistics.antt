-- `GeoStatistics` of statistics.rs, method by method.
use Rattle.std.specs.Prelude.{◌≡◌, Bool, true, false, ◌||◌, cond, List, [], ◌∷◌, ℕ, ◌^◌, ◌-◌, eqb, ℤ, pos, negsuc, ◌+ℤ◌, Option, Some, None, Float, Result, Ok, Err}
use Rattle.std.specs.Int.Signed.{lt_z}
use Rattle.std.specs.Float.{binary64}
use Rattle.std.specs.Float.Ieee.{add}
use Rattle.sedona_geometry.specs.Float as float
use Rattle.sedona_geometry.specs.BoundingBox as bounding_box
use Rattle.sedona_geometry.specs.Types as types
use Rattle.sedona_expr.specs.Error as error
use Rattle.sedona_expr.specs.declared.statistics.GeoStatistics.{GeoStatistics}
use Rattle.sedona_expr.specs.declared.error.Refusal.{Refusal}
use Rattle.sedona_geometry.specs.declared.types.GeometryTypeAndDimensionsSet.{GeometryTypeAndDimensionsSet}
use Rattle.sedona_geometry.specs.declared.bounding_box.BoundingBox.{BoundingBox}

-- ---- the parts

-- A box as a call hands it on.
abbrev pub plus_zero_where_known : Option BoundingBox → Option BoundingBox
plus_zero_where_known None = None
plus_zero_where_known (Some a) = Some (bounding_box.plus_zero a)

-- Boxes merge; a missing one yields the other.
unfoldable pub merge_bboxes : Option BoundingBox → Option BoundingBox → Option BoundingBox
merge_bboxes None b = plus_zero_where_known b
merge_bboxes (Some a) None = Some (bounding_box.plus_zero a)
merge_bboxes (Some a) (Some b) = Some (bounding_box.merge_box a b)

-- Type sets are or-ed; a missing one yields the other.
unfoldable pub merge_types : Option GeometryTypeAndDimensionsSet → Option GeometryTypeAndDimensionsSet → Option GeometryTypeAndDimensionsSet
merge_types None t = t
merge_types (Some s) None = Some s
merge_types (Some s) (Some t) = Some (types.merge s t)

-- Lengths add where both are known.
unfoldable pub add_extents : Option Float → Option Float → Option Float
add_extents None e = None
add_extents (Some d) None = None
add_extents (Some d) (Some e) = Some (add binary64 d e)

-- The range of an i64: −2^63 to 2^63 − 1.
abbrev pub least : ℤ
least = negsuc (2 ^ 63 - 1)

abbrev pub most : ℤ
most = pos (2 ^ 63 - 1)

-- A whole number leaves the range.
unfoldable pub is_outside : ℤ → Bool
is_outside z = lt_z z least || lt_z most z

-- The sum of two totals leaves the range; not where one is missing.
unfoldable pub sum_is_outside : Option ℤ → Option ℤ → Bool
sum_is_outside None t = false
sum_is_outside (Some m) None = false
sum_is_outside (Some m) (Some n) = is_outside (m +ℤ n)

-- Totals add, over the whole numbers, where both are known. (A sum that leaves the range is missing here; `merge_value` refuses it.)
unfoldable pub add_totals : Option ℤ → Option ℤ → Option ℤ
add_totals None t = None
add_totals (Some m) None = None
add_totals (Some m) (Some n) = cond (is_outside (m +ℤ n)) None (Some (m +ℤ n))

-- ---- the record

abbrev pub unspecified : GeoStatistics
unspecified = record {
  bbox = None;
  geometry_types = None;
  total_geometries = None;
  total_size_bytes = None;
  total_points = None;
  puntal_count = None;
  lineal_count = None;
  polygonal_count = None;
  collection_count = None;
  total_envelope_width = None;
  total_envelope_height = None;
}

abbrev pub empty : GeoStatistics
empty = record {
  bbox = Some bounding_box.empty;
  geometry_types = Some types.new;
  total_geometries = Some (pos 0);
  total_size_bytes = Some (pos 0);
  total_points = Some (pos 0);
  puntal_count = Some (pos 0);
  lineal_count = Some (pos 0);
  polygonal_count = Some (pos 0);
  collection_count = Some (pos 0);
  total_envelope_width = Some float.zero;
  total_envelope_height = Some float.zero;
}

-- A record as a call hands it on. The two lengths are no intervals, and stay.
abbrev pub plus_zero : GeoStatistics → GeoStatistics
plus_zero a = record {
  bbox = plus_zero_where_known a.bbox;
  geometry_types = a.geometry_types;
  total_geometries = a.total_geometries;
  total_size_bytes = a.total_size_bytes;
  total_points = a.total_points;
  puntal_count = a.puntal_count;
  lineal_count = a.lineal_count;
  polygonal_count = a.polygonal_count;
  collection_count = a.collection_count;
  total_envelope_width = a.total_envelope_width;
  total_envelope_height = a.total_envelope_height;
}

-- The seven totals.
pub data Which : Type 0 where
  geometries size_bytes points puntal lineal polygonal collection : Which

abbrev pub total : Which → GeoStatistics → Option ℤ
total geometries a = a.total_geometries
total size_bytes a = a.total_size_bytes
total points a = a.total_points
total puntal a = a.puntal_count
total lineal a = a.lineal_count
total polygonal a = a.polygonal_count
total collection a = a.collection_count

-- A record with its number: 0, or the number that refuses it, with UNSPECIFIED beside it.
pub record Merged : Type 0 where
  pub number : ℕ
  pub rec : GeoStatistics

-- A number alone: the record beside it is UNSPECIFIED.
abbrev pub refused : ℕ → Merged
refused n = record { number = n; rec = unspecified }

-- What a call answers, as a record with its number.
abbrev pub given : Result GeoStatistics Refusal → Merged
given (Ok r) = record { number = 0; rec = r }
given (Err e) = refused (error.number e)

unfoldable pub totals_overflow : GeoStatistics → GeoStatistics → Bool
totals_overflow a b =
    sum_is_outside a.total_geometries b.total_geometries
    || sum_is_outside a.total_size_bytes b.total_size_bytes
    || sum_is_outside a.total_points b.total_points

unfoldable pub counts_overflow : GeoStatistics → GeoStatistics → Bool
counts_overflow a b =
    sum_is_outside a.puntal_count b.puntal_count
    || sum_is_outside a.lineal_count b.lineal_count
    || sum_is_outside a.polygonal_count b.polygonal_count
    || sum_is_outside a.collection_count b.collection_count

-- Each part merged with its like.
unfoldable pub merge_parts : GeoStatistics → GeoStatistics → GeoStatistics
merge_parts a b = record {
  bbox = merge_bboxes a.bbox b.bbox;
  geometry_types = merge_types a.geometry_types b.geometry_types;
  total_geometries = add_totals a.total_geometries b.total_geometries;
  total_size_bytes = add_totals a.total_size_bytes b.total_size_bytes;
  total_points = add_totals a.total_points b.total_points;
  puntal_count = add_totals a.puntal_count b.puntal_count;
  lineal_count = add_totals a.lineal_count b.lineal_count;
  polygonal_count = add_totals a.polygonal_count b.polygonal_count;
  collection_count = add_totals a.collection_count b.collection_count;
  total_envelope_width = add_extents a.total_envelope_width b.total_envelope_width;
  total_envelope_height = add_extents a.total_envelope_height b.total_envelope_height;
}

-- 3 where some i64 total leaves its range.
unfoldable pub merge_value : GeoStatistics → GeoStatistics → Merged
merge_value a b = cond (totals_overflow a b || counts_overflow a b) (refused error.overflow) (record { number = 0; rec = merge_parts a b })

-- ---- the lent record, and the fold

-- A merge by value that keeps the first record where it is refused.
unfoldable pub merge_or_keep : GeoStatistics → GeoStatistics → Merged
merge_or_keep a b = record { number = (merge_value a b).number; rec = cond (eqb (merge_value a b).number 0) (merge_value a b).rec a }

-- What `merge` answers, and what the lent record holds then.
abbrev pub merge : GeoStatistics → GeoStatistics → Merged
merge a b = merge_or_keep a b

-- The records of a list in one, with the number that refused a merge, or 0, and whether the list has a record.
pub record Folded : Type 0 where
  pub number : ℕ
  pub any : Bool
  pub rec : GeoStatistics

-- Of no records.
abbrev pub start : Folded
start = record { number = 0; any = false; rec = unspecified }

-- Of one record.
abbrev pub first : GeoStatistics → Folded
first r = record { number = 0; any = true; rec = plus_zero r }

abbrev pub of_merged : Merged → Folded
of_merged m = record { number = m.number; any = true; rec = m.rec }

-- What a fold answers.
abbrev pub folded : Result (Option GeoStatistics) Refusal → Folded
folded (Ok None) = start
folded (Ok (Some r)) = record { number = 0; any = true; rec = r }
folded (Err e) = of_merged (refused (error.number e))

-- A refusal, handed on.
abbrev pub stays : Folded → Folded
stays f = record { number = f.number; any = f.any; rec = plus_zero f.rec }

-- With a record more: a refusal stays, the first record is taken, a further one is merged.
unfoldable pub step : Folded → GeoStatistics → Folded
step f r = cond (eqb f.number 0) (cond f.any (of_merged (merge_value f.rec r)) (first r)) (stays f)

unfoldable pub fold_from : Folded → List GeoStatistics → Folded
fold_from f [] = f
fold_from f (r ∷ rs) = fold_from (step f r) rs

abbrev pub fold : List GeoStatistics → Folded
fold rs = fold_from start rs

-- ---- what the theorems speak of

-- The ends of a record's box, where it has one, are doubles, as they are in the code.
abbrev pub DoublesWhereKnown : Option BoundingBox → Type 0
DoublesWhereKnown None = Unit {0}
DoublesWhereKnown (Some a) = bounding_box.Doubles a

-- Request 6: no end of a record's box, where it has one, is −0.
abbrev pub CanonicalWhereKnown : Option BoundingBox → Type 0
CanonicalWhereKnown None = Unit {0}
CanonicalWhereKnown (Some a) = bounding_box.Canonical a

-- The box of c accepts every number that the box of b accepts, in x, y, and in z and m where c knows them, which it does only where b does.
abbrev pub NoLess : Option BoundingBox → Option BoundingBox → Type 0
NoLess c None = Unit {0}
NoLess None (Some b) = ⊥
NoLess (Some c) (Some b) = bounding_box.NoLess c b

-- The two lengths.
pub data Side : Type 0 where
  width height : Side

abbrev pub extent : Side → GeoStatistics → Option Float
extent width a = a.total_envelope_width
extent height a = a.total_envelope_height

-- Two totals added over the whole numbers, known where both are.
abbrev pub plus : Option ℤ → Option ℤ → Option ℤ
plus None t = None
plus (Some m) None = None
plus (Some m) (Some n) = Some (m +ℤ n)

-- The sum of a list of totals over the whole numbers, known where each is.
abbrev pub sum : List (Option ℤ) → Option ℤ
sum [] = Some (pos 0)
sum (t ∷ ts) = plus t (sum ts)

abbrev pub whole_sum : List ℤ → ℤ
whole_sum [] = pos 0
whole_sum (z ∷ zs) = z +ℤ whole_sum zs

-- The sum of a list of lengths in its order, each addition rounded.
abbrev pub add_all : Option Float → List (Option Float) → Option Float
add_all e [] = e
add_all e (d ∷ ds) = add_all (add_extents e d) ds

-- No sum of the first total and some that follow leaves the range.
abbrev pub PrefixSumsFit : Option ℤ → List (Option ℤ) → Type 0
PrefixSumsFit t [] = Unit {0}
PrefixSumsFit t (u ∷ us) = (sum_is_outside t u ≡ false) × PrefixSumsFit (plus t u) us

-- A tree of merges, as folds of folds make one.
pub data Tree : Type 0 where
  leaf : GeoStatistics → Tree
  node : Tree → Tree → Tree

-- Two answers merged: a refusal of either is the answer.
unfoldable pub merge_answers : Merged → Merged → Merged
merge_answers a b = cond (eqb a.number 0) (cond (eqb b.number 0) (merge_value a.rec b.rec) b) a

-- What the tree gives.
abbrev pub merge_tree : Tree → Merged
merge_tree (leaf r) = record { number = 0; rec = r }
merge_tree (node s t) = merge_answers (merge_tree s) (merge_tree t)

abbrev pub AllLeaves : (GeoStatistics → Type 0) → Tree → Type 0
AllLeaves P (leaf r) = P r
AllLeaves P (node s t) = AllLeaves P s × AllLeaves P t
