-- The words of demand 3 (01, "Words of demand 3"), over the definitions that the contracts of the calls cite.
-- A column is a place: those for which a record is lent come first, in the order of the records. A leaf's column is the place where its call
-- looks: `place`.
use Rattle.std.specs.Prelude.{◌⊎◌, ◌≡◌, Bool, true, false, List, [], ◌∷◌, ℕ, ◌≤◌, ◌<◌, T, length, get_or, Option, Some, None, Ok}
use Rattle.std.specs.Float.{binary64}
use Rattle.std.specs.Float.Ieee.{fits, le, eq}
use Rattle.sedona_geometry.specs.Lists.{All}
use Rattle.sedona_geometry.specs.Interval as interval
use Rattle.sedona_geometry.specs.BoundingBox as bounding_box
use Rattle.sedona_geometry.specs.Types as types
use Rattle.sedona_geometry.specs.declared.interval.Interval.{Interval}
use Rattle.sedona_geometry.specs.declared.bounding_box.BoundingBox.{BoundingBox}
use Rattle.sedona_geometry.specs.declared.types.GeometryTypeAndDimensionsSet.{GeometryTypeAndDimensionsSet}
use Rattle.sedona_expr.specs.Statistics.{fold}
use Rattle.sedona_expr.specs.Statistics as statistics
use Rattle.sedona_expr.specs.SpatialFilter.{Column, Filter, intersects, covers, has_z, and, or, literal_false, unknown, is_z}
use Rattle.sedona_expr.specs.Tables.{Records, record_at, Table, root, Lookup, by_position, by_name, place}
use Rattle.sedona_expr.specs.Refusals.{refusal}
use Rattle.sedona_expr.specs.Calls.{evaluate, filter_bbox}
use Rattle.sedona_expr.specs.declared.statistics.GeoStatistics.{GeoStatistics}
use Rattle.sedona_expr.specs.declared.tables.ColumnRecord.{ColumnRecord}
use Rattle.sedona_expr.specs.declared.spatial_filter.Evaluation.{Evaluation}

-- ---- rows and filters

-- "A row gives each named column a box, its own box there" .. "any other column has a box of it or none." Beside the box stands the bit of its type,
-- 0 to 31. (A number past them is no type's, and a HasZ does not hold of it.)
pub record Cell : Type 0 where
  pub bbox : Option BoundingBox
  pub bit : ℕ

abbrev pub Row : Type 0
Row = ℕ → Cell

-- What is said of a box, where there is one. ("A column where the row has no box is left out.")
abbrev pub WhereBox : (BoundingBox → Type 0) → Option BoundingBox → Type 0
WhereBox P None = Unit {0}
WhereBox P (Some b) = P b

-- There is a box, and this is so of it.
abbrev pub HasBox : (BoundingBox → Type 0) → Option BoundingBox → Type 0
HasBox P None = ⊥
HasBox P (Some b) = P b

abbrev pub low_to_high : Interval → Bool
low_to_high i = le i.lo i.hi

-- "z missing or running low to high"
abbrev pub MissingOrRising : BoundingBox → Type 0
MissingOrRising b = bounding_box.WhereKnown (λ i. low_to_high i ≡ true) b.z

-- "HasZ holds of a row with a box, a Z type, and z missing or running low to high"
pub record HoldsZ (own : Cell) : Type 0 where
  pub z : HasBox MissingOrRising own.bbox
  pub type : is_z own.bit ≡ true

-- A row of which the filter holds: Intersects where row box and literal have a common number in x, y, and in z and m where both have them; Covers
-- where `contains` is true of row box and literal; HasZ as said above; And both, Or either, Unknown always, LiteralFalse never.
abbrev pub Holds : (Column → Cell) → Filter → Type 0
Holds own (intersects c k) = HasBox (λ b. bounding_box.Common b k) (own c).bbox
Holds own (covers c k) = HasBox (λ b. bounding_box.contains b k ≡ true) (own c).bbox
Holds own (has_z c) = HoldsZ (own c)
Holds own (and f g) = Holds own f × Holds own g
Holds own (or f g) = Holds own f ⊎ Holds own g
Holds own literal_false = ⊥
Holds own unknown = Unit {0}

-- What a leaf is, but for its column: an Intersects or a Covers of a literal, or a HasZ.
pub data Leaf : Type 0 where
  of_box : BoundingBox → Leaf
  a_has_z : Leaf

-- Of every leaf and its column.
abbrev pub EachLeaf : (Leaf → Column → Type 0) → Filter → Type 0
EachLeaf P (intersects c k) = P (of_box k) c
EachLeaf P (covers c k) = P (of_box k) c
EachLeaf P (has_z c) = P a_has_z c
EachLeaf P (and f g) = EachLeaf P f × EachLeaf P g
EachLeaf P (or f g) = EachLeaf P f × EachLeaf P g
EachLeaf P literal_false = Unit {0}
EachLeaf P unknown = Unit {0}

-- Of a leaf's literal. A HasZ has none.
abbrev pub OfLiteral : (BoundingBox → Type 0) → Leaf → Type 0
OfLiteral P (of_box k) = P k
OfLiteral P a_has_z = Unit {0}

-- ---- lists of records

-- Some member of the list.
abbrev pub Any : {A : Type 0} → (A → Type 0) → List A → Type 0
Any P [] = ⊥
Any P (x ∷ xs) = P x ⊎ Any P xs

-- The types are known, and this is so of their set.
abbrev pub HasTypes : (GeometryTypeAndDimensionsSet → Type 0) → Option GeometryTypeAndDimensionsSet → Type 0
HasTypes P None = ⊥
HasTypes P (Some s) = P s

-- "a known type set with its type's bit"
abbrev pub HasBit : ℕ → Option GeometryTypeAndDimensionsSet → Type 0
HasBit k = HasTypes (λ s. types.has s k ≡ true)

-- What a record of the row has beside the row's box: "in a column where a HasZ leaf holds of the row, demand 3 asks this record of the list and
-- not the box alone".
abbrev pub Beside : Leaf → Cell → Option GeometryTypeAndDimensionsSet → Type 0
Beside (of_box k) own t = Unit {0}
Beside a_has_z own t = HoldsZ own → HasBit own.bit t

-- A record as a leaf sees it.
abbrev pub seen : GeoStatistics → ColumnRecord
seen s = record { bbox = s.bbox; types = s.geometry_types }

-- "Each named column has a list of its own, one record or more, repeats and missing boxes allowed."
pub record Folds (f : Leaf) (rs : List GeoStatistics) (own : Cell) (lent : ColumnRecord) : Type 0 where
  -- Their ends are doubles.
  pub doubles : All (λ s. statistics.DoublesWhereKnown s.bbox) rs
  -- The row's own box is among the records; it has one. The sign of a zero does not matter: a box that a call has handed on has +0.
  pub has : HasBox (λ b. Unit {0}) own.bbox
  pub among : Any (λ s. (statistics.plus_zero_where_known s.bbox ≡ statistics.plus_zero_where_known own.bbox) × Beside f own s.geometry_types) rs
  -- "Totals fit where no step meets number 3"
  pub fit : (fold rs).number ≡ 0
  -- "the record of each named column being its fold", its box and its types
  pub folded : lent ≡ seen (fold rs).rec

-- ---- the hypotheses

-- Of the first half. (The column of a leaf is `place l c`.)
pub record Wanted (l : Lookup) (t : Table) (r : Records) (row : Row) (lists : ℕ → List GeoStatistics) : Type 0 where
  -- "Tables are well formed where the lent inputs fit none of the numbers from 4 up"
  pub well_formed : refusal l t r ≡ 0
  -- each named column exists: "it exists where a record is lent for it"
  pub exist : EachLeaf (λ f c. place l c < length r.boxes.flags) (root t)
  -- the filter holds of the row
  pub holds : Holds (λ c. row (place l c)) (root t)
  -- whatever records each named column's list has, if the row's own box is among them and totals fit: "wrapped and NaN
  -- records included, and the literal's x may run any way"
  pub folds : EachLeaf (λ f c. Folds f (lists (place l c)) (row (place l c)) (record_at r (place l c))) (root t)

-- "A point has low equal to high in x, y and each of z and m that it knows"; "A NaN at either end counts as having NaN."
abbrev pub is_point : Interval → Type 0
is_point i = (eq i.lo i.hi ≡ true) × (interval.has_nan i ≡ false)

-- "Every column has a name number": by name, that of a lent record is the lent one.
abbrev pub Numbers : Lookup → List ℕ → Type 0
Numbers by_position names = Unit {0}
Numbers (by_name ns) names = (i : ℕ) → i < length ns → get_or names i 0 ≡ get_or ns i 0

-- Of the second half.
pub record Pointed (l : Lookup) (t : Table) (r : Records) (row : Row) (names : List ℕ) : Type 0 where
  pub numbers : Numbers l names
  -- every column is among them: those for which a record is lent, and others
  pub columns : length r.boxes.flags ≤ length names
  -- the ends are doubles
  pub literals : All (λ d. T (fits binary64 d)) t.literals.doubles
  pub doubles : (i : ℕ) → i < length names → WhereBox bounding_box.Doubles (row i).bbox
  -- the row is a point without NaN
  pub point : (i : ℕ) → i < length names → WhereBox (bounding_box.Each is_point) (row i).bbox
  -- each leaf names its own column (each that has a literal: a HasZ is as an Unknown here)
  pub own_names : EachLeaf (λ f c. OfLiteral (λ k. c.name ≡ get_or names (place l c) 0) f) (root t)
  -- "names differ": no two columns share a number
  pub differ : (i j : ℕ) → i < length names → j < length names → get_or names i 0 ≡ get_or names j 0 → i ≡ j
  -- "all literals low to high": every known dimension of every literal that a leaf names
  pub low_to_high : EachLeaf (λ f c. OfLiteral (bounding_box.Each (λ i. low_to_high i ≡ true)) f) (root t)

-- ---- the conclusions

-- then the filter, held against these folds, may match
abbrev pub MayMatch : Lookup → Table → Records → Type 0
MayMatch l t r = evaluate l t r ≡ Ok Evaluation.MayMatch

-- then `contains` is true of each column's filter box and the row's box there
abbrev pub Reaches : Table → Row → List ℕ → Type 0
Reaches t row names =
    (i : ℕ)
    → i < length names
    → WhereBox (λ b. ((filter_bbox t (get_or names i 0)).number ≡ 0) × (bounding_box.contains (filter_bbox t (get_or names i 0)).bounds b ≡ true)) (row i).bbox

-- Demand 3, undivided.
abbrev pub Demand3 : Type 0
Demand3 =
    (l : Lookup) (t : Table) (r : Records) (row : Row) (lists : ℕ → List GeoStatistics)
    → Wanted l t r row lists
    → MayMatch l t r × ((names : List ℕ) → Pointed l t r row names → Reaches t row names)
