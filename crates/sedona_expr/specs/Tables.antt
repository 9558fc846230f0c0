-- What the tables that are lent to a filter call spell: the boxes of literals and records, the records' types, the tree of the nodes, and which
-- record a leaf finds. Each is total: what lies past an end reads as 0, or as no box and no types. Such tables are refused before any answer (Refusals).
use Rattle.std.specs.Prelude.{Bool, ◌&&◌, ◌||◌, cond, List, ℕ, zero, suc, ◌+◌, ◌-◌, ◌*◌, ◌/◌, ◌%◌, eqb, ltb, length, get_or, Float, Option, Some, None}
use Rattle.std.specs.Float.{nan}
use Rattle.sedona_geometry.specs.Interval as interval
use Rattle.sedona_geometry.specs.WraparoundInterval as wraparound
use Rattle.sedona_geometry.specs.BoundingBox as bounding_box
use Rattle.sedona_geometry.specs.Types as types
use Rattle.sedona_geometry.specs.declared.interval.Interval.{Interval}
use Rattle.sedona_geometry.specs.declared.bounding_box.BoundingBox.{BoundingBox}
use Rattle.sedona_expr.specs.Names.{place_of}
use Rattle.sedona_expr.specs.SpatialFilter.{Column, Filter, intersects, covers, has_z, and, or, literal_false, unknown}
use Rattle.sedona_expr.specs.declared.tables.ColumnRecord.{ColumnRecord}
use Rattle.sedona_geometry.specs.declared.types.GeometryTypeAndDimensionsSet.{GeometryTypeAndDimensionsSet}

-- ---- boxes

-- So many doubles a box: low and high of x, y, z, m.
abbrev pub ends : ℕ
ends = 8

-- And a flag byte each, below this: 1 box, 2 z known, 4 m known.
abbrev pub flag_limit : ℕ
flag_limit = 8

pub record Boxes : Type 0 where
  pub doubles : List Float
  pub flags : List ℕ

abbrev pub boxes : List Float → List ℕ → Boxes
boxes ds fs = record { doubles = ds; flags = fs }

-- The bits of a flag.
abbrev pub has_box : ℕ → Bool
has_box flag = eqb (flag % 2) 1

abbrev pub knows_z : ℕ → Bool
knows_z flag = eqb (flag / 2 % 2) 1

abbrev pub knows_m : ℕ → Bool
knows_m flag = eqb (flag / 4 % 2) 1

-- Interval k of the box at a place.
abbrev pub interval_at : List Float → ℕ → ℕ → Interval
interval_at ds i k = interval.new (get_or ds (ends * i + 2 * k) nan) (get_or ds (ends * i + 2 * k + 1) nan)

-- The box at a place, with its flag.
unfoldable pub box_with : List Float → ℕ → ℕ → BoundingBox
box_with ds i flag =
    bounding_box.xyzm (wraparound.from_interval (interval_at ds i 0)) (interval_at ds i 1) (bounding_box.known_where (knows_z flag) (interval_at ds i 2)) (bounding_box.known_where (knows_m flag) (interval_at ds i 3))

-- The box at a place; none where the flag says so, and none past the end.
unfoldable pub box_at : Boxes → ℕ → Option BoundingBox
box_at b i =
    cond (ltb i (length b.doubles / ends) && has_box (get_or b.flags i 0)) (Some (box_with b.doubles i (get_or b.flags i 0))) None

-- A literal's box. (A literal that has none is refused.)
unfoldable pub or_empty : Option BoundingBox → BoundingBox
or_empty None = bounding_box.empty
or_empty (Some b) = b

-- ---- records

-- A box each; and types each, with a byte: 1 where they are known.
pub record Records : Type 0 where
  pub boxes : Boxes
  pub types : List ℕ
  pub known : List ℕ

abbrev pub records : List Float → List ℕ → List ℕ → List ℕ → Records
records ds fs ts ks = record { boxes = boxes ds fs; types = ts; known = ks }

-- The types at a place; none where the byte says so, and none past the end.
unfoldable pub types_at : List ℕ → List ℕ → ℕ → Option GeometryTypeAndDimensionsSet
types_at ts ks i = cond (ltb i (length ts) && eqb (get_or ks i 0) 1) (Some (types.from_bits (get_or ts i 0))) None

-- The record at a place, as a leaf sees it.
abbrev pub record_at : Records → ℕ → ColumnRecord
record_at r i = record { bbox = box_at r.boxes i; types = types_at r.types r.known i }

-- ---- nodes

-- Four words a node: its kind, and three more.
abbrev pub word : List ℕ → ℕ → ℕ → ℕ
word ns n k = get_or ns (4 * n + k) 0

abbrev pub kind : List ℕ → ℕ → ℕ
kind ns n = word ns n 0

-- The nodes' words, and the literals.
pub record Table : Type 0 where
  pub nodes : List ℕ
  pub literals : Boxes

abbrev pub table : List ℕ → List Float → List ℕ → Table
table ns ds fs = record { nodes = ns; literals = boxes ds fs }

abbrev pub column : ℕ → ℕ → Column
column i n = record { index = i; name = n }

-- Of an Intersects, a Covers or a HasZ.
abbrev pub column_of : List ℕ → ℕ → Column
column_of ns n = column (word ns n 1) (word ns n 2)

abbrev pub literal : Table → ℕ → BoundingBox
literal t n = or_empty (box_at t.literals (word t.nodes n 3))

-- How many nodes; the last is the root.
abbrev pub count : List ℕ → ℕ
count ns = length ns / 4

abbrev pub is_pair : ℕ → Bool
is_pair k = eqb k 3 || eqb k 4

abbrev pub is_leaf : ℕ → Bool
is_leaf k = eqb k 0 || eqb k 1

-- The one for an Intersects, the other for a Covers.
unfoldable pub leaf_of : {A : Type 0} → ℕ → A → A → A
leaf_of k a b = cond (eqb k 0) a b

-- The one for an And, the other for an Or.
unfoldable pub pair_of : {A : Type 0} → ℕ → A → A → A
pair_of k a b = cond (eqb k 3) a b

-- The children are below the node.
unfoldable pub are_below : List ℕ → ℕ → Bool
are_below ns n = ltb (word ns n 1) n && ltb (word ns n 2) n

-- An And or Or with both children below it.
unfoldable pub has_children : List ℕ → ℕ → Bool
has_children ns n = is_pair (kind ns n) && are_below ns n

-- An Intersects, a Covers or a HasZ.
unfoldable pub leaf_at : Table → ℕ → Filter
leaf_at t n =
    let k = kind t.nodes n in
    let c = column_of t.nodes n in
    cond (eqb k 2) (has_z c) (leaf_of k (intersects c (literal t n)) (covers c (literal t n)))

-- The tree of a node without children. (An And or Or with a child that is not below is refused; an Unknown stands for it here.)
unfoldable pub alone : Table → ℕ → Filter
alone t n = cond (ltb 2 (kind t.nodes n)) (cond (eqb (kind t.nodes n) 5) literal_false unknown) (leaf_at t n)

-- The tree of a node, given the trees of nodes below it.
unfoldable pub tree_of : Table → ℕ → (ℕ → Filter) → Filter
tree_of t n below =
    let l = below (word t.nodes n 1) in
    let r = below (word t.nodes n 2) in
    cond (has_children t.nodes n) (pair_of (kind t.nodes n) (and l r) (or l r)) (alone t n)

-- The trees of the nodes below n.
abbrev pub trees_below : Table → ℕ → ℕ → Filter
trees_below t zero m = unknown
trees_below t (suc n) m = cond (eqb m n) (tree_of t n (trees_below t n)) (trees_below t n m)

-- The tree that the table spells from a node on.
unfoldable pub tree_at : Table → ℕ → Filter
tree_at t n = tree_of t n (trees_below t n)

abbrev pub root : Table → Filter
root t = tree_at t (count t.nodes - 1)

-- ---- how a leaf finds its record

pub data Lookup : Type 0 where
  by_position : Lookup
  by_name : List ℕ → Lookup

abbrev pub lookup : Bool → List ℕ → Lookup
lookup is_by_name ns = cond is_by_name (by_name ns) by_position

unfoldable pub place : Lookup → Column → ℕ
place by_position c = c.index
place (by_name ns) c = place_of ns c.name

-- A column's record as a leaf sees it: without a box and types where its name is unknown.
abbrev pub record_of : Lookup → Records → Column → ColumnRecord
record_of l r c = record_at r (place l c)
