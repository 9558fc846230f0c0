-- Geometries that meet every hypothesis of the theorems, and bytes. Assumes nothing.
use Rattle.std.specs.Prelude.{Some, None}
use mathlib.Core.Path.{◌≡◌, refl, sym, ap, subst}
use mathlib.Core.Bool.{Bool, true, false, not, ◌&&◌, cond, and-eq-true_iff}
use mathlib.Core.List.{List, [], ◌∷◌, ◌++◌, flat_map}
use Prim.Native.Nat.{ℕ, ◌^◌, ◌<◌}
use native.Mathlib.Omega.{arith}
use lib.Dec.{T, eqb, ltb}
use lib.Ieee.{Float, nan, inf, fin, binary64, fits, is_nan, lt, of_bits, to_bits, of_fields, odd}
use lib.IntN.{pos}
use lib.ListN.{take, drop, get_or, replicate}
use borrow.Author.Tests.{ltb-true}
use Rattle.sedona_geometry.specs.Lists.{All}
use Rattle.sedona_geometry.specs.Float as float
use Rattle.sedona_geometry.specs.Interval as interval
use Rattle.sedona_geometry.specs.Types as types
use Rattle.sedona_wkb.specs.Extents.{merge_where, enter, enter_all}
use Rattle.sedona_wkb.specs.Bounds.{box_of, types_of, refusal, answer, wkb_bounds, box_from, AcceptsCoordinate}
use Rattle.sedona_wkb.specs.Geometry.{point, line_string, polygon, Geometry, one, many, collection, nil, cons, coordinates_of, coordinates, depth, kind_of_shape, kind_of, OfDims, Place, NanBits, Choices, encode_number, bits_of, encode_double, encode_where, encode_coordinate, encode_from, encode_counted, encode_content, encode_head, encode_one, encode, quiet, plain, Writable, Writing}
use Rattle.sedona_wkb.specs.Numbers.{value_of, bytes_of, ordered}
use Rattle.sedona_wkb.specs.Reading.{Reading, found, and_then, number, several}
use Rattle.sedona_wkb.specs.Wkb.{Coordinate, Spelled, is_type, is_part, tested, read_head, read_part_head, read_double, read_where, read_coordinate, counted, read_point, read_one, within, by_kind, read_body, ended, read_rest, spelled}
use Rattle.sedona_wkb.specs.Bounds.{WkbBounds}
use Rattle.sedona_wkb.proofs.Accepted.{accepted_exactly_where}
use Rattle.sedona_wkb.proofs.Encoded.{encode_bytes}
use Rattle.sedona_wkb.proofs.ThereAndBack.{as_spelled, there_and_back, either_order, accepts_every_written}

-- An odd number, as a double is written.
abbrev num : ℕ → Float
num n = fin false n (pos 0)

-- Each part has the other byte order than its parent; all have the high byte first.
unfoldable pub is_even : Place → Bool
is_even [] = true
is_even (k ∷ place) = not (is_even place)

unfoldable pub alternating : Choices
alternating place = record { low = is_even place; nan = quiet }

abbrev high_first : Choices
high_first place = record { low = false; nan = quiet }

-- ---- a collection with mixed byte orders: a Point, a MultiPoint of two, and a collection of a LineString

abbrev xy : ℕ → ℕ → Coordinate
xy x y = record { x = num x; y = num y; z = None; m = None }

of_xy : (x y : ℕ) → T (fits binary64 (num x)) → T (fits binary64 (num y)) → OfDims 0 (xy x y)
of_xy x y p q = record { x = p; y = q; z = tt; m = tt }

abbrev mixed : Geometry
mixed =
    collection
    (cons (one point (xy 1 3))
    (cons (many point (xy 5 7 ∷ xy 9 11 ∷ []))
    (cons (collection (cons (one line_string (xy 13 15 ∷ xy 17 19 ∷ [])) nil)) nil)))

mixed_writable : Writable 0 mixed
unfolding coordinates coordinates_of flat_map fits depth encode encode_one encode_head encode_number ordered bytes_of encode_content encode_coordinate encode_double encode_where encode_counted encode_from
mixed_writable =
    record {
      dims = omega arith;
      each = (of_xy 1 3 tt tt, (of_xy 5 7 tt tt, (of_xy 9 11 tt tt, (of_xy 13 15 tt tt, (of_xy 17 19 tt tt, tt)))));
      size = omega arith;
      nesting = omega arith;
    }

pub mixed_read : spelled (encode alternating 0 mixed) ≡ found (as_spelled 0 mixed) []
mixed_read = there_and_back alternating 0 mixed mixed_writable

pub mixed_in_either_order : wkb_bounds (encode alternating 0 mixed) ≡ wkb_bounds (encode plain 0 mixed)
mixed_in_either_order = either_order alternating plain 0 mixed mixed_writable

pub mixed_accepted : All (AcceptsCoordinate (box_from (encode alternating 0 mixed))) (coordinates mixed)
mixed_accepted = accepts_every_written alternating 0 mixed mixed_writable

-- ---- a MultiPolygon ZM, high byte first, of a polygon with two rings

abbrev xyzm : ℕ → ℕ → ℕ → ℕ → Coordinate
xyzm x y z m = record { x = num x; y = num y; z = Some (num z); m = Some (num m) }

abbrev polygons : Geometry
polygons = many polygon (((xyzm 1 3 5 7 ∷ xyzm 9 11 13 15 ∷ []) ∷ (xyzm 17 19 21 23 ∷ []) ∷ []) ∷ [])

polygons_writable : Writable 3 polygons
unfolding coordinates coordinates_of flat_map fits depth encode encode_one encode_head encode_number ordered bytes_of encode_content encode_coordinate encode_double encode_where encode_counted encode_from
polygons_writable =
    record {
      dims = omega arith;
      each = (record { x = tt; y = tt; z = tt; m = tt }, (record { x = tt; y = tt; z = tt; m = tt }, (record { x = tt; y = tt; z = tt; m = tt }, tt)));
      size = omega arith;
      nesting = omega arith;
    }

pub polygons_read : spelled (encode high_first 3 polygons) ≡ found (as_spelled 3 polygons) []
polygons_read = there_and_back high_first 3 polygons polygons_writable

pub polygons_accepted : All (AcceptsCoordinate (box_from (encode high_first 3 polygons))) (coordinates polygons)
polygons_accepted = accepts_every_written high_first 3 polygons polygons_writable

-- ---- bytes, computed

-- POINT (1 1), low byte first.
abbrev unit : List ℕ
unit = 1 ∷ 1 ∷ 0 ∷ 0 ∷ 0 ∷ 0 ∷ 0 ∷ 0 ∷ 0 ∷ 0 ∷ 0 ∷ 240 ∷ 63 ∷ 0 ∷ 0 ∷ 0 ∷ 0 ∷ 0 ∷ 0 ∷ 240 ∷ 63 ∷ []

pub unit_read : spelled unit ≡ found (as_spelled 0 (one point (xy 1 1))) []
unfolding spelled read_head read_rest ended read_body by_kind read_one read_point read_coordinate read_double read_where number ordered value_of and_then tested is_type of_bits of_fields odd coordinates coordinates_of kind_of kind_of_shape
unit_read = refl

-- POINT M (1 1 1), high byte first: 2001 is 7, 209.
abbrev probe : List ℕ
probe = 0 ∷ 0 ∷ 0 ∷ 7 ∷ 209 ∷ 63 ∷ 240 ∷ 0 ∷ 0 ∷ 0 ∷ 0 ∷ 0 ∷ 0 ∷ 63 ∷ 240 ∷ 0 ∷ 0 ∷ 0 ∷ 0 ∷ 0 ∷ 0 ∷ 63 ∷ 240 ∷ 0 ∷ 0 ∷ 0 ∷ 0 ∷ 0 ∷ 0 ∷ []

pub probe_read : spelled probe ≡ found (as_spelled 2 (one point (record { x = num 1; y = num 1; z = None; m = Some (num 1) }))) []
unfolding spelled read_head read_rest ended read_body by_kind read_one read_point read_coordinate read_double read_where number ordered value_of and_then tested is_type of_bits of_fields odd coordinates coordinates_of kind_of kind_of_shape
probe_read = refl

pub probe_type : (wkb_bounds probe).types ≡ types.from_bits (2 ^ 17)
unfolding answer types_of kind_of kind_of_shape
probe_type = rw probe_read

-- POINT (-0 1), low byte first: the box has +0.
abbrev signed : List ℕ
signed = 1 ∷ 1 ∷ 0 ∷ 0 ∷ 0 ∷ 0 ∷ 0 ∷ 0 ∷ 0 ∷ 0 ∷ 0 ∷ 0 ∷ 128 ∷ 0 ∷ 0 ∷ 0 ∷ 0 ∷ 0 ∷ 0 ∷ 240 ∷ 63 ∷ []

signed_read : spelled signed ≡ found (as_spelled 0 (one point (record { x = fin true 0 (pos 0); y = num 1; z = None; m = None }))) []
unfolding spelled read_head read_rest ended read_body by_kind read_one read_point read_coordinate read_double read_where number ordered value_of and_then tested is_type of_bits of_fields odd coordinates coordinates_of kind_of kind_of_shape
signed_read = refl

pub signed_box : box_from signed ≡ record {
  x = record { inner = record { lo = fin false 0 (pos 0); hi = fin false 0 (pos 0) } };
  y = record { lo = num 1; hi = num 1 };
  z = None;
  m = None;
}
unfolding answer box_of enter_all enter merge_where interval.merge_value float.min_num float.max_num is_nan lt coordinates coordinates_of
signed_box = ap (λ (r : Reading Spelled). (answer r).numbered.bounds) signed_read

-- POINT ZM (1 7 3 5), low byte first and high byte first: 3001 is 11, 185. Without these bytes code, definition and `encode` could
-- exchange z and m together.
abbrev low_zm : List ℕ
low_zm =
    1 ∷ 185 ∷ 11 ∷ 0 ∷ 0 ∷
    0 ∷ 0 ∷ 0 ∷ 0 ∷ 0 ∷ 0 ∷ 240 ∷ 63 ∷
    0 ∷ 0 ∷ 0 ∷ 0 ∷ 0 ∷ 0 ∷ 28 ∷ 64 ∷
    0 ∷ 0 ∷ 0 ∷ 0 ∷ 0 ∷ 0 ∷ 8 ∷ 64 ∷
    0 ∷ 0 ∷ 0 ∷ 0 ∷ 0 ∷ 0 ∷ 20 ∷ 64 ∷ []

abbrev high_zm : List ℕ
high_zm =
    0 ∷ 0 ∷ 0 ∷ 11 ∷ 185 ∷
    63 ∷ 240 ∷ 0 ∷ 0 ∷ 0 ∷ 0 ∷ 0 ∷ 0 ∷
    64 ∷ 28 ∷ 0 ∷ 0 ∷ 0 ∷ 0 ∷ 0 ∷ 0 ∷
    64 ∷ 8 ∷ 0 ∷ 0 ∷ 0 ∷ 0 ∷ 0 ∷ 0 ∷
    64 ∷ 20 ∷ 0 ∷ 0 ∷ 0 ∷ 0 ∷ 0 ∷ 0 ∷ []

abbrev zm : Coordinate
zm = record { x = num 1; y = num 7; z = Some (num 3); m = Some (num 5) }

pub zm_read : All (λ s. spelled s ≡ found (record { kind = 1; dims = 3; coordinates = zm ∷ [] }) []) (low_zm ∷ high_zm ∷ [])
unfolding spelled read_head read_rest ended read_body by_kind read_one read_point read_coordinate read_double read_where number ordered value_of and_then tested is_type of_bits of_fields odd
zm_read = (refl, (refl, tt))

pub zm_written : (encode plain 3 (one point zm) ≡ low_zm) × (encode high_first 3 (one point zm) ≡ high_zm)
unfolding encode encode_one encode_head encode_number ordered bytes_of encode_content encode_coordinate encode_double encode_where bits_of is_nan to_bits kind_of_shape
zm_written = (refl, refl)

pub zm_answer : All (λ s. wkb_bounds s ≡ record {
  numbered = record {
    number = 0;
    bounds = record {
      x = record { inner = record { lo = num 1; hi = num 1 } };
      y = record { lo = num 7; hi = num 7 };
      z = Some (record { lo = num 3; hi = num 3 });
      m = Some (record { lo = num 5; hi = num 5 });
    };
  };
  types = types.from_bits (2 ^ 25);
}) (low_zm ∷ high_zm ∷ [])
unfolding answer box_of types_of enter_all enter merge_where interval.merge_value float.min_num float.max_num is_nan lt
zm_answer = (ap answer zm_read.0, (ap answer zm_read.1.0, tt))

-- POINT EMPTY, low byte first: x is a NaN with a sign and a payload of 1, y the one that `to_bits` writes. The box is empty.
abbrev empty : List ℕ
empty = 1 ∷ 1 ∷ 0 ∷ 0 ∷ 0 ∷ 1 ∷ 0 ∷ 0 ∷ 0 ∷ 0 ∷ 0 ∷ 240 ∷ 255 ∷ 0 ∷ 0 ∷ 0 ∷ 0 ∷ 0 ∷ 0 ∷ 248 ∷ 127 ∷ []

empty_read : spelled empty ≡ found (record { kind = 1; dims = 0; coordinates = record { x = nan; y = nan; z = None; m = None } ∷ [] }) []
unfolding spelled read_head read_rest ended read_body by_kind read_one read_point read_coordinate read_double read_where number ordered value_of and_then tested is_type of_bits of_fields odd
empty_read = refl

pub empty_answer : wkb_bounds empty ≡ record {
  numbered = record {
    number = 0;
    bounds = record {
      x = record { inner = record { lo = inf false; hi = inf true } };
      y = record { lo = inf false; hi = inf true };
      z = None;
      m = None;
    };
  };
  types = types.from_bits (2 ^ 1);
}
unfolding answer box_of types_of enter_all enter merge_where interval.merge_value float.min_num float.max_num is_nan lt
empty_answer = ap answer empty_read

-- So many collections, each of one part, low byte first; and a MultiPoint of one.
abbrev nested : ℕ → List ℕ
nested n = flat_map (λ (collection : ℕ). 1 ∷ 7 ∷ 0 ∷ 0 ∷ 0 ∷ 1 ∷ 0 ∷ 0 ∷ 0 ∷ []) (replicate n 0)

abbrev multi_point : List ℕ
multi_point = 1 ∷ 4 ∷ 0 ∷ 0 ∷ 0 ∷ 1 ∷ 0 ∷ 0 ∷ 0 ∷ []

-- 32 collections, and a MultiPoint in the last, which is none: all is read.
pub deepest_read : spelled (nested 32 ++ multi_point ++ unit) ≡ found (record { kind = 7; dims = 0; coordinates = xy 1 1 ∷ [] }) []
unfolding flat_map spelled read_head read_part_head read_rest ended read_body by_kind counted several within read_one read_point read_coordinate read_double read_where number ordered value_of and_then tested is_type is_part of_bits of_fields odd
deepest_read = refl

-- Bytes, and what they are refused by.
abbrev pub refusals : List (List ℕ × ℕ)
refusals =
    -- no byte; a point short of one, and with one left over
    ([], 15) ∷
    (take 20 unit, 15) ∷
    (unit ++ 0 ∷ [], 15) ∷
    -- a byte order that is none; type 8; a LineString and a Point Z in a MultiPoint
    (2 ∷ [], 16) ∷
    (1 ∷ 8 ∷ 0 ∷ 0 ∷ 0 ∷ [], 16) ∷
    (multi_point ++ 1 ∷ 2 ∷ 0 ∷ 0 ∷ 0 ∷ [], 16) ∷
    (multi_point ++ 1 ∷ 233 ∷ 3 ∷ 0 ∷ 0 ∷ [], 16) ∷
    -- the 32nd collection is not, but for its part, which is not there; the 33rd is, and 16 comes before 17
    (nested 32, 15) ∷
    (nested 33, 17) ∷
    (nested 32 ++ 1 ∷ 239 ∷ 3 ∷ 0 ∷ 0 ∷ [], 16) ∷
    -- two faults, and the first from the front: a byte order that is none and a byte left over; type 8, but for its last byte; the
    -- 33rd collection without its count, and but for its type's last byte
    (2 ∷ drop 1 unit ++ 0 ∷ [], 16) ∷
    (1 ∷ 8 ∷ 0 ∷ 0 ∷ [], 15) ∷
    (nested 32 ++ 1 ∷ 7 ∷ 0 ∷ 0 ∷ 0 ∷ [], 17) ∷
    (nested 32 ++ 1 ∷ 7 ∷ 0 ∷ 0 ∷ [], 15) ∷
    -- 65,536 bytes are looked at, and of one more none
    (2 ∷ replicate 65535 0, 16) ∷
    (2 ∷ replicate 65536 0, 15) ∷
    []

pub refused_by : All (λ (c : List ℕ × ℕ). wkb_bounds c.0 ≡ refusal c.1) refusals
unfolding flat_map spelled read_head read_part_head read_rest ended read_body by_kind counted several within read_one read_point read_coordinate read_double read_where number ordered value_of and_then tested is_type is_part of_bits of_fields odd answer
refused_by = (refl, (refl, (refl, (refl, (refl, (refl, (refl, (refl, (refl, (refl, (refl, (refl, (refl, (refl, (refl, (refl, tt))))))))))))))))

-- ---- writings, and bytes that are none

are_bytes : List ℕ → Bool
are_bytes [] = true
are_bytes (b ∷ s) = ltb b 256 && are_bytes s

are_bytes_lem : (s : List ℕ) → are_bytes s ≡ true → All (λ b. b < 256) s
unfolding are_bytes
are_bytes_lem [] e = tt
are_bytes_lem (b ∷ s) e = let p = (and-eq-true_iff (ltb b 256) (are_bytes s)).0 e in (ltb-true b 256 p.0, are_bytes_lem s p.1)

-- The collection is a writing; and so it is accepted.
pub mixed_exactly : (wkb_bounds (encode alternating 0 mixed)).numbered.number ≡ 0
mixed_exactly =
    (accepted_exactly_where (encode alternating 0 mixed) (encode_bytes alternating 0 mixed)).1
    (record { choices = alternating; dims = 0; geometry = mixed; writable = mixed_writable; bytes = refl })

-- POINT EMPTY is accepted; and so it is a writing.
pub empty_exactly : Writing empty
unfolding are_bytes
empty_exactly = (accepted_exactly_where empty (are_bytes_lem empty refl)).0 (ap (λ (a : WkbBounds). a.numbered.number) empty_answer)

-- It is written so, with these bits for its NaNs.
unfoldable pub negative : NanBits
unfolding of_bits of_fields
negative = record { bits = 0xfff0000000000001; eight = omega arith; is = refl }

abbrev x_negative : Choices
x_negative place = record { low = true; nan = cond (eqb (get_or place 0 0) 0) negative quiet }

pub empty_written : encode x_negative 0 (one point (record { x = nan; y = nan; z = None; m = None })) ≡ empty
unfolding encode encode_one encode_head encode_number ordered bytes_of encode_content encode_coordinate encode_double encode_where bits_of is_nan kind_of_shape negative quiet
empty_written = refl

-- What is refused is no writing.
are_refusals : List (List ℕ × ℕ) → Bool
are_refusals [] = true
are_refusals (c ∷ cs) = (are_bytes c.0 && ltb 0 c.1) && are_refusals cs

no_writings : (cs : List (List ℕ × ℕ)) → are_refusals cs ≡ true → All (λ c. wkb_bounds c.0 ≡ refusal c.1) cs → All (λ c. Writing c.0 → ⊥) cs
unfolding are_refusals
no_writings [] t h = tt
no_writings (c ∷ cs) t h =
    let p = (and-eq-true_iff (are_bytes c.0 && ltb 0 c.1) (are_refusals cs)).0 t in
    let q = (and-eq-true_iff (are_bytes c.0) (ltb 0 c.1)).0 p.0 in
    let e = ap (λ (a : WkbBounds). a.numbered.number) h.0 in
    (λ w. let z = (accepted_exactly_where c.0 (are_bytes_lem c.0 q.0)).1 w in omega (arith, ltb-true 0 c.1 q.1), no_writings cs p.1 h.1)

pub refused_no_writing : All (λ (c : List ℕ × ℕ). Writing c.0 → ⊥) refusals
unfolding flat_map are_refusals are_bytes
refused_no_writing = no_writings refusals refl refused_by

-- Numbers that are no bytes may be accepted, and no writing: 256 is read as a carry.
abbrev carry : List ℕ
carry = 1 ∷ 1 ∷ 0 ∷ 0 ∷ 0 ∷ 256 ∷ 0 ∷ 0 ∷ 0 ∷ 0 ∷ 0 ∷ 240 ∷ 63 ∷ 0 ∷ 0 ∷ 0 ∷ 0 ∷ 0 ∷ 0 ∷ 240 ∷ 63 ∷ []

pub carry_accepted : (wkb_bounds carry).numbered.number ≡ 0
unfolding spelled read_head read_rest ended read_body by_kind read_one read_point read_coordinate read_double read_where number ordered value_of and_then tested is_type answer
carry_accepted = refl

pub carry_no_writing : Writing carry → ⊥
carry_no_writing w =
    let b : All (λ b. b < 256) carry = subst (All (λ b. b < 256)) (sym w.bytes) (encode_bytes w.choices w.dims w.geometry) in
    omega (arith, b.1.1.1.1.1.0)

-- ---- beside a number stands no type
no_type : (n : ℕ) → types.bits (refusal n).types ≡ 0
no_type n = refl
