-- `SpatialFilter` of spatial_filter.rs: the filter as a tree, what it answers, and its box.
use Rattle.std.specs.Prelude.{Bool, true, false, ◌&&◌, ◌||◌, cond, ℕ, zero, suc, eqb, ltb, Option, Some, None}
use Rattle.sedona_geometry.specs.Interval as interval
use Rattle.sedona_geometry.specs.WraparoundInterval as wraparound
use Rattle.sedona_geometry.specs.BoundingBox as bounding_box
use Rattle.sedona_geometry.specs.Types as types
use Rattle.sedona_geometry.specs.declared.bounding_box.BoundingBox.{BoundingBox}
use Rattle.sedona_geometry.specs.BoundingBox.{NumberedBox}
use Rattle.sedona_geometry.specs.declared.types.GeometryTypeAndDimensionsSet.{GeometryTypeAndDimensionsSet}
use Rattle.sedona_expr.specs.declared.tables.ColumnRecord.{ColumnRecord}
use Rattle.sedona_geometry.specs.declared.interval.Interval.{Interval}

-- A column as a leaf names it: by an index and by the number of a name.
pub record Column : Type 0 where
  pub index : ℕ
  pub name : ℕ

pub data Filter : Type 0 where
  intersects covers : Column → BoundingBox → Filter
  has_z : Column → Filter
  and or : Filter → Filter → Filter
  literal_false unknown : Filter

-- The record's box intersects the literal; true where it has none.
unfoldable pub may_intersect : Option BoundingBox → BoundingBox → Bool
may_intersect None k = true
may_intersect (Some b) k = bounding_box.intersects b k

-- The record's box contains the literal; true where it has none.
unfoldable pub may_cover : Option BoundingBox → BoundingBox → Bool
may_cover None k = true
may_cover (Some b) k = bounding_box.contains b k

-- "8 to 15 or 24 to 31": the bits of the types with z alone, and with z and m.
unfoldable pub is_z : ℕ → Bool
is_z k = (ltb 7 k && ltb k 16) || (ltb 23 k && ltb k 32)

-- Of some number below n.
abbrev pub any_below : (ℕ → Bool) → ℕ → Bool
any_below p zero = false
any_below p (suc n) = any_below p n || p n

-- "a set bit is in 8 to 15 or 24 to 31"
unfoldable pub has_z_type : GeometryTypeAndDimensionsSet → Bool
has_z_type s = any_below (λ k. is_z k && types.has s k) 32

-- "with types known, true exactly if" that is so; "else true".
unfoldable pub may_be_z : Option GeometryTypeAndDimensionsSet → Bool
may_be_z None = true
may_be_z (Some s) = has_z_type s

-- A z is "known and empty".
unfoldable pub is_known_empty : Option Interval → Bool
is_known_empty None = false
is_known_empty (Some i) = interval.is_empty i

-- The record's z is. (It has none where it has no box.)
unfoldable pub has_empty_z : Option BoundingBox → Bool
has_empty_z None = false
has_empty_z (Some b) = is_known_empty b.z

-- "false where the record's z is known and empty; else" as the types say.
unfoldable pub may_have_z : ColumnRecord → Bool
may_have_z r = cond (has_empty_z r.bbox) false (may_be_z r.types)

-- The Rust's `evaluate`, given each column's record.
abbrev pub answer : (Column → ColumnRecord) → Filter → Bool
answer r (intersects c k) = may_intersect (r c).bbox k
answer r (covers c k) = may_cover (r c).bbox k
answer r (has_z c) = may_have_z (r c)
answer r (and f g) = answer r f && answer r g
answer r (or f g) = answer r f || answer r g
answer r literal_false = false
answer r unknown = true

-- All x and y, z and m missing.
abbrev pub full : BoundingBox
full = bounding_box.xy wraparound.full interval.full

-- The intersection, or all where it is refused.
unfoldable pub or_full : NumberedBox → BoundingBox
or_full i = cond (eqb i.number 0) i.bounds full

-- The Rust's `filter_bbox`, for the column of a name.
abbrev pub box_for : ℕ → Filter → BoundingBox
box_for n (intersects c k) = cond (eqb c.name n) k full
box_for n (covers c k) = cond (eqb c.name n) k full
box_for n (has_z c) = full
box_for n (and f g) = or_full (bounding_box.intersection (box_for n f) (box_for n g))
box_for n (or f g) = bounding_box.merge_box (box_for n f) (box_for n g)
box_for n literal_false = bounding_box.empty
box_for n unknown = full
