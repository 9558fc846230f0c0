-- Geometries, apart from any bytes; and the bytes that spell them, with a byte order chosen for each part and bits for each NaN.
use Rattle.std.specs.Prelude.{◌≡◌, refl, Bool, true, false, cond, ℕ, suc, ◌+◌, ◌*◌, ◌^◌, ◌<◌, ◌≤◌, max, T, Float, length, Option, Some, None}
use mathlib.Core.List.{List, [], ◌∷◌, ◌++◌, flat_map}
use Rattle.std.proofs.Common.{arith}
use Rattle.std.specs.Float.{nan, binary64}
use Rattle.std.specs.Float.Ieee.{is_nan, of_bits, to_bits, fits}
use Rattle.sedona_geometry.specs.Lists.{All}
use Rattle.sedona_wkb.specs.Numbers.{bytes_of, ordered}
use Rattle.sedona_wkb.specs.Wkb.{Coordinate, has_z, has_m}

-- ---- geometries

pub data Shape : Type 0 where
  point : Shape
  line_string : Shape
  polygon : Shape

-- What a shape holds: a polygon its rings.
abbrev pub Content : Shape → Type 0
Content point = Coordinate
Content line_string = List Coordinate
Content polygon = List (List Coordinate)

-- One of a shape, many of it, or a collection of any.
mutual
  pub data Geometry : Type 0 where
    one : (shape : Shape) → Content shape → Geometry
    many : (shape : Shape) → List (Content shape) → Geometry
    collection : Geometries → Geometry

  pub data Geometries : Type 0 where
    nil : Geometries
    cons : Geometry → Geometries → Geometries

-- The last digit of the type code.
unfoldable pub kind_of_shape : Shape → ℕ
kind_of_shape point = 1
kind_of_shape line_string = 2
kind_of_shape polygon = 3

unfoldable pub kind_of : Geometry → ℕ
kind_of (one shape c) = kind_of_shape shape
kind_of (many shape cs) = 3 + kind_of_shape shape
kind_of (collection gs) = 7

-- The coordinates in their order.
unfoldable pub coordinates_of : (shape : Shape) → Content shape → List Coordinate
coordinates_of point c = c ∷ []
coordinates_of line_string cs = cs
coordinates_of polygon rings = flat_map (λ ring. ring) rings

unfoldable mutual
  pub coordinates : Geometry → List Coordinate
  coordinates (one shape c) = coordinates_of shape c
  coordinates (many shape cs) = flat_map (coordinates_of shape) cs
  coordinates (collection gs) = all_coordinates gs

  pub all_coordinates : Geometries → List Coordinate
  all_coordinates nil = []
  all_coordinates (cons g gs) = coordinates g ++ all_coordinates gs

-- How deep collections nest.
unfoldable mutual
  pub depth : Geometry → ℕ
  depth (one shape c) = 0
  depth (many shape cs) = 0
  depth (collection gs) = suc (deepest gs)

  pub deepest : Geometries → ℕ
  deepest nil = 0
  deepest (cons g gs) = max (depth g) (deepest gs)

unfoldable pub how_many : Geometries → ℕ
how_many nil = 0
how_many (cons g gs) = suc (how_many gs)

-- ---- their dimensions

-- A z or an m that is there where the dimensions have it, and is a double.
abbrev pub DoubleWhere : Bool → Option Float → Type 0
DoubleWhere true None = ⊥
DoubleWhere true (Some v) = T (fits binary64 v)
DoubleWhere false None = Unit {0}
DoubleWhere false (Some v) = ⊥

-- A coordinate of doubles in the dimensions d.
pub record OfDims (d : ℕ) (c : Coordinate) : Type 0 where
  pub x : T (fits binary64 c.x)
  pub y : T (fits binary64 c.y)
  pub z : DoubleWhere (has_z d) c.z
  pub m : DoubleWhere (has_m d) c.m

-- ---- the bytes

-- Where something is: the number of the outermost geometry's part that it is in, then of that one's, and so on down to itself. The
-- outermost geometry is at []. A polygon's parts are its rings, a line's its coordinates, a coordinate's its x, y, z and m (0 to 3).
abbrev pub Place : Type 0
Place = List ℕ

-- Bits of a NaN, in eight bytes.
pub record NanBits : Type 0 where
  pub bits : ℕ
  pub eight : bits < 256 ^ 8
  pub is : of_bits binary64 bits ≡ nan

-- What is free in writing: a part's byte order, true where the low byte is first; and a double's bits, where it is NaN.
pub record Choice : Type 0 where
  pub low : Bool
  pub nan : NanBits

-- A choice for each place.
abbrev pub Choices : Type 0
Choices = Place → Choice

-- Those of part k and of what is in it.
abbrev pub in_part : Choices → ℕ → Choices
in_part by k place = by (k ∷ place)

unfoldable pub encode_number : Bool → ℕ → ℕ → List ℕ
encode_number low n v = ordered low (bytes_of n v)

-- The bits of a double: of a NaN those that are chosen.
unfoldable pub bits_of : Choice → Float → ℕ
bits_of choice v = cond (is_nan v) choice.nan.bits (to_bits binary64 v)

unfoldable pub encode_double : Bool → Choice → Float → List ℕ
encode_double low choice v = encode_number low 8 (bits_of choice v)

unfoldable pub encode_where : Bool → Choice → Option Float → List ℕ
encode_where low choice None = []
encode_where low choice (Some v) = encode_double low choice v

unfoldable pub encode_coordinate : Bool → Choices → Coordinate → List ℕ
encode_coordinate low by c =
    encode_double low (by (0 ∷ [])) c.x ++ encode_double low (by (1 ∷ [])) c.y ++ encode_where low (by (2 ∷ [])) c.z ++ encode_where low (by (3 ∷ [])) c.m

-- Parts one after the other, from part k on.
unfoldable pub encode_from : {A : Type 0} → (ℕ → A → List ℕ) → ℕ → List A → List ℕ
encode_from f k [] = []
encode_from f k (x ∷ xs) = f k x ++ encode_from f (suc k) xs

-- A count, and parts.
unfoldable pub encode_counted : {A : Type 0} → Bool → (ℕ → A → List ℕ) → List A → List ℕ
encode_counted low f xs = encode_number low 4 (length xs) ++ encode_from f 0 xs

abbrev pub encode_line : Bool → Choices → List Coordinate → List ℕ
encode_line low by cs = encode_counted low (λ k. encode_coordinate low (in_part by k)) cs

unfoldable pub encode_content : Bool → Choices → (shape : Shape) → Content shape → List ℕ
encode_content low by point c = encode_coordinate low by c
encode_content low by line_string cs = encode_line low by cs
encode_content low by polygon rings = encode_counted low (λ k. encode_line low (in_part by k)) rings

-- A byte order, and a type code of a kind and dimensions.
unfoldable pub encode_head : Bool → ℕ → ℕ → List ℕ
encode_head low kind d = cond low 1 0 ∷ encode_number low 4 (1000 * d + kind)

unfoldable pub encode_one : Choices → ℕ → (shape : Shape) → Content shape → List ℕ
encode_one by d shape c = encode_head (by []).low (kind_of_shape shape) d ++ encode_content (by []).low by shape c

-- A geometry in the dimensions d.
unfoldable mutual
  pub encode : Choices → ℕ → Geometry → List ℕ
  encode by d (one shape c) = encode_one by d shape c
  encode by d (many shape cs) = encode_head (by []).low (3 + kind_of_shape shape) d ++ encode_counted (by []).low (λ k. encode_one (in_part by k) d shape) cs
  encode by d (collection gs) = encode_head (by []).low 7 d ++ (encode_number (by []).low 4 (how_many gs) ++ encode_all by d 0 gs)

  -- Those of a collection, from part k on.
  pub encode_all : Choices → ℕ → ℕ → Geometries → List ℕ
  encode_all by d k nil = []
  encode_all by d k (cons g gs) = encode (in_part by k) d g ++ encode_all by d (suc k) gs

-- The bits that `to_bits` has for NaN.
unfoldable pub quiet : NanBits
unfolding of_bits
quiet = record { bits = 0x7ff8000000000000; eight = omega arith; is = refl }

-- The low byte first, and these.
abbrev pub plain : Choices
plain place = record { low = true; nan = quiet }

-- A geometry that can be written and read.
pub record Writable (d : ℕ) (g : Geometry) : Type 0 where
  -- "plus 1000 for Z, 2000 for M, 3000 for both"
  pub dims : d < 4
  -- "Parts have their parent's dimensions": all coordinates have these, and are doubles
  pub each : All (OfDims d) (coordinates g)
  -- "Read up to 64 KiB": as written by one choice, and so by any
  pub size : length (encode plain d g) ≤ 65536
  -- no "collection (type 7 alone) more than 32 deep"
  pub nesting : depth g ≤ 32

-- Bytes that are what some choices write of such a geometry.
pub record Writing (s : List ℕ) : Type 0 where
  pub choices : Choices
  pub dims : ℕ
  pub geometry : Geometry
  pub writable : Writable dims geometry
  pub bytes : s ≡ encode choices dims geometry
