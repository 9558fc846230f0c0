-- What a list of bytes spells, after request 4 of 02: well-known binary as OGC 06-103r4 has it, with the ISO type codes.
use Rattle.std.specs.Prelude.{Bool, true, false, cond, ◌&&◌, ◌||◌, List, [], ◌∷◌, ℕ, zero, suc, ◌+◌, ◌/◌, ◌%◌, eqb, leb, ltb, Float, length, Option, Some, None}
use Rattle.std.specs.Float.{binary64}
use Rattle.std.specs.Float.Ieee.{of_bits}
use Rattle.sedona_wkb.specs.Error as error
use Rattle.sedona_wkb.specs.Reading.{Reading, Reader, refused, found, and_then, ◌>>=◌, give, refuse, number, several}
use Rattle.sedona_wkb.specs.declared.heads.Head.{Head}

-- ---- heads

-- A type code by its last digits, the kind, and its thousands, the dimensions: "plus 1000 for Z, 2000 for M, 3000 for both".
abbrev pub head_of : Bool → ℕ → Head
head_of low code = record { low = low; kind = code % 1000; dims = code / 1000 }

abbrev pub has_z : ℕ → Bool
has_z d = eqb (d % 2) 1

abbrev pub has_m : ℕ → Bool
has_m d = ltb 1 d

-- "ISO type codes 1 to 7": 1 Point, 2 LineString, 3 Polygon, 4 to 6 many of these, 7 GeometryCollection.
unfoldable pub is_type : Head → Bool
is_type h = ltb 0 h.kind && (leb h.kind 7 && ltb h.dims 4)

-- "Parts have their parent's dimensions and the member type the document requires"; those of a collection are of any type.
unfoldable pub is_part : Head → Head → Bool
is_part parent h = eqb h.dims parent.dims && (eqb parent.kind 7 || eqb (h.kind + 3) parent.kind)

-- A head that passes a test; else a "wrong type code".
unfoldable pub tested : Bool → Head → Reader Head
tested passes h = cond passes (give h) (refuse error.wkb_code)

-- The byte order, judged when it is read, and the type code in that order, judged when its four bytes are there.
unfoldable pub read_head : Reader Head
read_head = do
  order ← number true 1
  cond (ltb 1 order) (refuse error.wkb_code) (do
    code ← number (eqb order 1) 4
    tested (is_type (head_of (eqb order 1) code)) (head_of (eqb order 1) code))

-- The head of a part.
unfoldable pub read_part_head : Head → Reader Head
read_part_head parent = do
  h ← read_head
  tested (is_part parent h) h

-- ---- coordinates

-- x and y, and z and m where the type has them.
pub record Coordinate : Type 0 where
  pub x : Float
  pub y : Float
  pub z : Option Float
  pub m : Option Float

unfoldable pub read_double : Bool → Reader Float
read_double low = do
  bits ← number low 8
  give (of_bits binary64 bits)

-- A z or an m.
unfoldable pub read_where : Bool → Bool → Reader (Option Float)
read_where true low = do
  v ← read_double low
  give (Some v)
read_where false low = give None

unfoldable pub read_coordinate : Head → Reader Coordinate
read_coordinate h = do
  x ← read_double h.low
  y ← read_double h.low
  z ← read_where (has_z h.dims) h.low
  m ← read_where (has_m h.dims) h.low
  give (record { x = x; y = y; z = z; m = m })

-- ---- what follows a head: its coordinates, in their order

-- A count, and that many parts.
unfoldable pub counted : Head → Reader (List Coordinate) → Reader (List Coordinate)
counted h part = do
  n ← number h.low 4
  several n part

unfoldable pub read_point : Head → Reader (List Coordinate)
read_point h = do
  c ← read_coordinate h
  give (c ∷ [])

abbrev pub read_line : Head → Reader (List Coordinate)
read_line h = counted h (read_point h)

abbrev pub read_polygon : Head → Reader (List Coordinate)
read_polygon h = counted h (read_line h)

-- A Point, a LineString or a Polygon.
unfoldable pub read_one : Head → Reader (List Coordinate)
read_one h = cond (eqb h.kind 1) (read_point h) (cond (eqb h.kind 2) (read_line h) (read_polygon h))

-- A part of a geometry: its head, and what follows that.
unfoldable pub within : Head → (Head → Reader (List Coordinate)) → Reader (List Coordinate)
within parent follows = do
  h ← read_part_head parent
  follows h

abbrev pub read_member : Head → Reader (List Coordinate)
read_member parent = within parent read_one

abbrev pub read_many : Head → Reader (List Coordinate)
read_many h = counted h (read_member h)

-- What follows a head, by its kind, where a collection is read as given.
unfoldable pub by_kind : Reader (List Coordinate) → Head → Reader (List Coordinate)
by_kind collection h = cond (ltb h.kind 4) (read_one h) (cond (ltb h.kind 7) (read_many h) collection)

-- The same, where so many collections may still open: "a collection (type 7 alone) more than 32 deep 17". The head before it
-- was refused where it is wrong, so that "at one type code 16 comes before 17".
unfoldable pub read_body : ℕ → Head → Reader (List Coordinate)
read_body zero h = by_kind (refuse error.wkb_depth) h
read_body (suc room) h = by_kind (counted h (within h (read_body room))) h

abbrev pub read_part : ℕ → Head → Reader (List Coordinate)
read_part room parent = within parent (read_body room)

abbrev pub read_collection : ℕ → Head → Reader (List Coordinate)
read_collection room h = counted h (read_part room h)

-- ---- the whole

-- What is spelled: a type, and coordinates in their order.
pub record Spelled : Type 0 where
  pub kind : ℕ
  pub dims : ℕ
  pub coordinates : List Coordinate

-- Nothing may be "leftover".
unfoldable pub ended : {A : Type 0} → A → Reader A
ended a [] = found a []
ended a (b ∷ s) = refused error.wkb_length

-- What is behind the outermost head: "the outermost collection is 1 deep", and 32 may nest.
unfoldable pub read_rest : Head → Reader Spelled
read_rest h = do
  cs ← read_body 32 h
  ended (record { kind = h.kind; dims = h.dims; coordinates = cs })

-- "Over 64 KiB is looked at before any byte".
unfoldable pub spelled : List ℕ → Reading Spelled
spelled s = cond (ltb 65536 (length s)) (refused error.wkb_length) (and_then (read_head s) read_rest)
