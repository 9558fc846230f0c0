-- There and back: reading what `encode` writes gives the geometry's coordinates and type, whatever the choices. Assumes nothing.
use mathlib.Core.Path.{◌≡◌, refl, sym, ap, ◌∙◌}
use mathlib.Core.Bool.{Bool, true, false}
use mathlib.Core.List.{List, [], ◌∷◌, ◌++◌, append_assoc, append-nil, flat_map}
use Prim.Native.Nat.{ℕ, suc, ◌+◌, ◌*◌, ◌%◌, ◌/◌, ◌-◌, ◌<◌, ◌≤◌}
use native.Mathlib.Nat.{le-max_left, le-max_right}
use native.Mathlib.Omega.{arith}
use lib.ListN.{length, length-append}
use borrow.Author.Tests.{eq-eqb, lt-ltb, le-leb}
use Rattle.sedona_geometry.specs.Lists.{All}
use Rattle.sedona_wkb.specs.Bounds.{answer, wkb_bounds, box_from, AcceptsCoordinate}
use Rattle.sedona_wkb.specs.Geometry.{Shape, point, line_string, polygon, Content, Geometry, one, many, collection, Geometries, nil, cons, kind_of_shape, kind_of, coordinates_of, coordinates, all_coordinates, depth, deepest, how_many, OfDims, Choices, in_part, encode_number, encode_coordinate, encode_counted, encode_line, encode_content, encode_head, encode_one, encode, encode_all, plain, Writable}
use Rattle.sedona_wkb.specs.Reading.{Reader, found, and_then, number, several}
use Rattle.sedona_wkb.specs.Wkb.{Coordinate, head_of, is_type, is_part, tested, read_head, read_part_head, counted, read_point, read_line, read_one, within, read_member, read_body, read_part, Spelled, ended, read_rest, spelled}
use Rattle.sedona_wkb.specs.declared.heads.Head.{Head}
use Rattle.sedona_wkb.proofs.Answers.{head_found}
use Rattle.sedona_wkb.proofs.Back.{length_number, length_double, number_back, point_back, all_front, all_behind, Back, counted_back}
use Rattle.sedona_wkb.proofs.Covering.{accepts_every_coordinate}
use Rattle.sedona_wkb.proofs.Lengths.{length_any}
use Rattle.sedona_wkb.proofs.Readers.{byte_there, body_one, body_many, body_collection}

-- ---- heads

abbrev pub head_for : Bool → ℕ → ℕ → Head
head_for low kind d = record { low = low; kind = kind; dims = d }

byte_back : (b : ℕ) (t : List ℕ) → number true 1 (b ∷ t) ≡ found b t
byte_back b t = byte_there (b ∷ t) 0 (omega arith)

module _ (kind d : ℕ) (least : 0 < kind) (most : kind ≤ 7) (dims : d < 4) (rest : List ℕ) where
  code_back : (low : Bool) → tested (is_type (head_of low (1000 * d + kind))) (head_of low (1000 * d + kind)) rest ≡ found (head_for low kind d) rest
  unfolding tested is_type
  code_back low =
      let q : (1000 * d + kind) % 1000 ≡ kind = omega arith in
      let r : (1000 * d + kind) / 1000 ≡ d = omega arith in
      rw (q, r, lt-ltb 0 kind least, le-leb kind 7 most, lt-ltb d 4 dims)

  head_back : (low : Bool) → read_head (encode_head low kind d ++ rest) ≡ found (head_for low kind d) rest
  unfolding read_head encode_head and_then
  head_back true = rw (byte_back 1 (encode_number true 4 (1000 * d + kind) ++ rest), number_back true 4 (1000 * d + kind) rest (omega arith)) (code_back true)
  head_back false = rw (byte_back 0 (encode_number false 4 (1000 * d + kind) ++ rest), number_back false 4 (1000 * d + kind) rest (omega arith)) (code_back false)

  -- Of a part, and what follows it.
  within_back : (parent : Head) (follows : Head → Reader (List Coordinate)) (low : Bool) → is_part parent (head_for low kind d) ≡ true
      → within parent follows (encode_head low kind d ++ rest) ≡ follows (head_for low kind d) rest
  unfolding within read_part_head and_then tested
  within_back parent follows low e = rw (head_back low, e)

-- ---- points, lines, polygons

pub single : (cs : List Coordinate) → flat_map (λ c. c ∷ []) cs ≡ cs
unfolding flat_map
single [] = refl
single (c ∷ cs) = ap {B = List Coordinate} (λ r. c ∷ r) (single cs)

filled_coordinate : (low : Bool) (by : Choices) (c : Coordinate) → 0 < length (encode_coordinate low by c)
unfolding encode_coordinate
filled_coordinate low by c = simp (length-append, length_double) (omega arith)

filled_line : (low : Bool) (by : Choices) (cs : List Coordinate) → 0 < length (encode_line low by cs)
unfolding encode_counted
filled_line low by cs = rw (length-append, length_number) (omega arith)

module _ (h : Head) where
  points_back : (by : Choices) → Back h.dims (read_line h) (λ k. encode_line h.low by) (flat_map (λ c. c ∷ []))
  points_back by =
      counted_back h.dims (read_point h) (λ k. encode_coordinate h.low (in_part by k)) (λ c. c ∷ []) (λ k c d n rest. point_back h (in_part by k) c rest d.0) (λ k. filled_coordinate h.low (in_part by k)) h

  line_back : (by : ℕ → Choices) → Back h.dims (read_line h) (λ k. encode_line h.low (by k)) (λ cs. cs)
  line_back by k cs d n rest = points_back (by k) k cs (rw (single cs) d) n rest ∙ ap (λ (xs : List Coordinate). found xs rest) (single cs)

  polygon_back : (by : Choices) → Back h.dims (counted h (read_line h)) (λ k. encode_counted h.low (λ j. encode_line h.low (in_part by j))) (flat_map (λ ring. ring))
  polygon_back by = counted_back h.dims (read_line h) (λ j. encode_line h.low (in_part by j)) (λ ring. ring) (line_back (in_part by)) (λ j. filled_line h.low (in_part by j)) h

content_back : (low : Bool) (by : Choices) (d : ℕ) (shape : Shape) → Back d (read_one (head_for low (kind_of_shape shape) d)) (λ k. encode_content low by shape) (coordinates_of shape)
unfolding read_one kind_of_shape encode_content coordinates_of
content_back low by d point = λ k c h n rest. point_back (head_for low 1 d) by c rest h.0
content_back low by d line_string = line_back (head_for low 2 d) (λ k. by)
content_back low by d polygon = polygon_back (head_for low 3 d) by

-- ---- many

least_kind : (shape : Shape) → 0 < kind_of_shape shape
unfolding kind_of_shape
least_kind point = omega arith
least_kind line_string = omega arith
least_kind polygon = omega arith

pub most_kind : (shape : Shape) → kind_of_shape shape ≤ 3
unfolding kind_of_shape
most_kind point = omega arith
most_kind line_string = omega arith
most_kind polygon = omega arith

is_member : (low low' : Bool) (shape : Shape) (d : ℕ) → is_part (head_for low (3 + kind_of_shape shape) d) (head_for low' (kind_of_shape shape) d) ≡ true
unfolding is_part kind_of_shape
is_member low low' point d = rw (eq-eqb d d refl)
is_member low low' line_string d = rw (eq-eqb d d refl)
is_member low low' polygon d = rw (eq-eqb d d refl)

module _ (by : Choices) (d : ℕ) (dims : d < 4) (shape : Shape) where
  member_back : Back d (read_member (head_for (by []).low (3 + kind_of_shape shape) d)) (λ k. encode_one (in_part by k) d shape) (coordinates_of shape)
  unfolding encode_one
  member_back k c h n rest =
      let low = (by (k ∷ [])).low in
      let front = encode_head low (kind_of_shape shape) d in
      let behind = encode_content low (in_part by k) shape c in
      let m : length front + length behind ≤ 65536 = rw (length-append front behind) at n in
      rw (append_assoc front behind rest)
      (within_back (kind_of_shape shape) d (least_kind shape) (omega (arith, most_kind shape)) dims (behind ++ rest) _ read_one low (is_member (by []).low low shape d)
      ∙ content_back low (in_part by k) d shape k c h (omega arith) rest)

  filled_member : (k : ℕ) (c : Content shape) → 0 < length (encode_one (in_part by k) d shape c)
  unfolding encode_one encode_head
  filled_member k c = rw (length-append) (omega arith)

  many_back : Back d (counted (head_for (by []).low (3 + kind_of_shape shape) d) (read_member (head_for (by []).low (3 + kind_of_shape shape) d))) (λ j. encode_counted (by []).low (λ k. encode_one (in_part by k) d shape)) (flat_map (coordinates_of shape))
  many_back = counted_back d _ (λ k. encode_one (in_part by k) d shape) (coordinates_of shape) member_back filled_member (head_for (by []).low (3 + kind_of_shape shape) d)

-- ---- geometries

-- What follows the head.
unfoldable body_bytes : Choices → ℕ → Geometry → List ℕ
body_bytes by d (one shape c) = encode_content (by []).low by shape c
body_bytes by d (many shape cs) = encode_counted (by []).low (λ k. encode_one (in_part by k) d shape) cs
body_bytes by d (collection gs) = encode_number (by []).low 4 (how_many gs) ++ encode_all by d 0 gs

encode_is : (by : Choices) (d : ℕ) (g : Geometry) → encode by d g ≡ encode_head (by []).low (kind_of g) d ++ body_bytes by d g
unfolding encode encode_one body_bytes kind_of
encode_is by d (one shape c) = refl
encode_is by d (many shape cs) = refl
encode_is by d (collection gs) = refl

length_encode : (by : Choices) (d : ℕ) (g : Geometry) → length (encode by d g) ≡ 5 + length (body_bytes by d g)
unfolding encode_head
length_encode by d g = rw (encode_is by d g) (simp (length-append, length_number) (omega arith))

least_kind_of : (g : Geometry) → 0 < kind_of g
unfolding kind_of
least_kind_of (one shape c) = least_kind shape
least_kind_of (many shape cs) = omega arith
least_kind_of (collection gs) = omega arith

most_kind_of : (g : Geometry) → kind_of g ≤ 7
unfolding kind_of
most_kind_of (one shape c) = omega (arith, most_kind shape)
most_kind_of (many shape cs) = omega (arith, most_kind shape)
most_kind_of (collection gs) = omega arith

count_all : (by : Choices) (d k : ℕ) (gs : Geometries) → how_many gs ≤ length (encode_all by d k gs)
unfolding how_many encode_all
count_all by d k nil = omega arith
count_all by d k (cons g gs) =
    rw (length-append (encode (in_part by k) d g) (encode_all by d (suc k) gs)) (omega (arith, length_encode (in_part by k) d g, count_all by d (suc k) gs))

in_collection : (low : Bool) (d : ℕ) (h : Head) → h.dims ≡ d → is_part (head_for low 7 d) h ≡ true
unfolding is_part
in_collection low d h e = rw (eq-eqb h.dims d e)

part_is_body : (by : Choices) (d : ℕ) (g : Geometry) → d < 4 → (low : Bool) (room : ℕ) (rest : List ℕ)
    → read_part room (head_for low 7 d) (encode by d g ++ rest) ≡ read_body room (head_for (by []).low (kind_of g) d) (body_bytes by d g ++ rest)
part_is_body by d g lt low room rest =
    rw (encode_is by d g, append_assoc (encode_head (by []).low (kind_of g) d) (body_bytes by d g) rest)
    (within_back (kind_of g) d (least_kind_of g) (most_kind_of g) lt (body_bytes by d g ++ rest) (head_for low 7 d) (read_body room) (by []).low (in_collection low d _ refl))

module _ (d : ℕ) (lt : d < 4) where
  mutual
    unfolding body_bytes kind_of coordinates depth how_many encode_all several counted and_then

    body_back : (by : Choices) (g : Geometry) → All (OfDims d) (coordinates g) → length (body_bytes by d g) ≤ 65536 → (room : ℕ) → depth g ≤ room → (rest : List ℕ)
        → read_body room (head_for (by []).low (kind_of g) d) (body_bytes by d g ++ rest) ≡ found (coordinates g) rest
    body_back by (one shape c) h n room r rest =
        body_one (head_for (by []).low (kind_of_shape shape) d) _ room (most_kind shape) ∙ content_back (by []).low by d shape 0 c h n rest
    body_back by (many shape cs) h n room r rest =
        body_many (head_for (by []).low (3 + kind_of_shape shape) d) _ (omega (arith, least_kind shape)) room (omega (arith, most_kind shape)) ∙ many_back by d lt shape 0 cs h n rest
    body_back by (collection gs) h n room r rest =
        let front = encode_number (by []).low 4 (how_many gs) in
        let m : length front + length (encode_all by d 0 gs) ≤ 65536 = rw (length-append front (encode_all by d 0 gs)) at n in
        body_collection (head_for (by []).low 7 d) _ (omega arith) room (omega arith) (omega arith)
        ∙ rw (append_assoc front (encode_all by d 0 gs) rest, number_back (by []).low 4 (how_many gs) (encode_all by d 0 gs ++ rest) (omega (arith, count_all by d 0 gs)))
        (parts_back by 0 gs h (omega arith) (by []).low (room - 1) (omega arith) rest)

    parts_back : (by : Choices) (k : ℕ) (gs : Geometries) → All (OfDims d) (all_coordinates gs) → length (encode_all by d k gs) ≤ 65536 → (low : Bool) (room : ℕ) → deepest gs ≤ room → (rest : List ℕ)
        → several (how_many gs) (read_part room (head_for low 7 d)) (encode_all by d k gs ++ rest) ≡ found (all_coordinates gs) rest
    parts_back by k nil h n low room r rest = refl
    parts_back by k (cons g gs) h n low room r rest =
        let front = encode (in_part by k) d g in
        let behind = encode_all by d (suc k) gs in
        let m : length front + length behind ≤ 65536 = rw (length-append front behind) at n in
        let first = body_back (in_part by k) g (all_front (OfDims d) (coordinates g) (all_coordinates gs) h) (omega (arith, length_encode (in_part by k) d g)) room (omega (arith, le-max_left (depth g) (deepest gs))) (behind ++ rest) in
        let others = parts_back by (suc k) gs (all_behind (OfDims d) (coordinates g) (all_coordinates gs) h) (omega arith) low room (omega (arith, le-max_right (depth g) (deepest gs))) rest in
        rw (append_assoc front behind rest, part_is_body (in_part by k) d g lt low room (behind ++ rest), first, others)

-- ---- the theorems

-- What a geometry is as something spelled: its type and its coordinates. No byte order is in it.
abbrev pub as_spelled : ℕ → Geometry → Spelled
as_spelled d g = record { kind = kind_of g; dims = d; coordinates = coordinates g }

-- Reading what `encode` writes gives the geometry's coordinates and type, whatever the choices.
pub there_and_back : (by : Choices) (d : ℕ) (g : Geometry) → Writable d g → spelled (encode by d g) ≡ found (as_spelled d g) []
unfolding read_rest and_then ended
there_and_back by d g w =
    let h = head_for (by []).low (kind_of g) d in
    let n : length (encode by d g) ≤ 65536 = rw (length_any d by plain g) w.size in
    let b : read_body 32 h (body_bytes by d g) ≡ found (coordinates g) []
    = rw (append-nil (body_bytes by d g)) at (body_back d w.dims by g w.each (omega (arith, n, length_encode by d g)) 32 w.nesting []) in
    head_found (encode by d g) n h (body_bytes by d g)
    (rw (encode_is by d g) (head_back (kind_of g) d (least_kind_of g) (most_kind_of g) w.dims (body_bytes by d g) (by []).low))
    ∙ rw b

-- "One geometry written in either byte order gives one box", and one type: by any two choices of a byte order for each part and of a NaN's bits.
pub either_order : (by by' : Choices) (d : ℕ) (g : Geometry) → Writable d g → wkb_bounds (encode by d g) ≡ wkb_bounds (encode by' d g)
either_order by by' d g w = ap answer (there_and_back by d g w ∙ sym (there_and_back by' d g w))

-- The box of what is written accepts every coordinate of the geometry that is not NaN.
pub accepts_every_written : (by : Choices) (d : ℕ) (g : Geometry) → Writable d g → All (AcceptsCoordinate (box_from (encode by d g))) (coordinates g)
accepts_every_written by d g w = accepts_every_coordinate (encode by d g) (as_spelled d g) [] (there_and_back by d g w)
