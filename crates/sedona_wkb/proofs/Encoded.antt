-- What is written is bytes. Assumes nothing.
use Rattle.std.specs.Prelude.{Option, Some, None}
use mathlib.Core.Bool.{Bool, true, false, cond}
use mathlib.Core.List.{List, [], ◌∷◌, ◌++◌}
use Prim.Native.Nat.{ℕ, suc, ◌+◌, ◌*◌, ◌<◌}
use native.Mathlib.Omega.{arith}
use lib.Ieee.{Float}
use lib.ListN.{length}
use Rattle.sedona_geometry.specs.Lists.{All}
use Rattle.sedona_wkb.specs.Geometry.{Shape, point, line_string, polygon, Content, Geometry, one, many, collection, Geometries, nil, cons, kind_of_shape, how_many, Choice, Choices, in_part, bits_of, encode_number, encode_double, encode_where, encode_coordinate, encode_from, encode_counted, encode_line, encode_content, encode_head, encode_one, encode, encode_all}
use Rattle.sedona_wkb.specs.Wkb.{Coordinate}
use Rattle.sedona_wkb.proofs.Bytes.{bytes_ordered}
use Rattle.sedona_wkb.proofs.Only.{all_append}
use Rattle.sedona_wkb.proofs.Written.{Bytes}

record Are (s : List ℕ) : Type 0 where
  all : Bytes s

both : {s t : List ℕ} → Are s → Are t → Are (s ++ t)
both {s} {t} h g = record { all = all_append (λ (b : ℕ). b < 256) s t h.all g.all }

number_bytes : (low : Bool) (n v : ℕ) → Are (encode_number low n v)
unfolding encode_number
number_bytes low n v = record { all = bytes_ordered low n v }

double_bytes : (low : Bool) (a : Choice) (v : Float) → Are (encode_double low a v)
unfolding encode_double
double_bytes low a v = number_bytes low 8 (bits_of a v)

where_bytes : (low : Bool) (a : Choice) (o : Option Float) → Are (encode_where low a o)
unfolding encode_where
where_bytes low a None = record { all = tt }
where_bytes low a (Some v) = double_bytes low a v

coordinate_bytes : (low : Bool) (by : Choices) (c : Coordinate) → Are (encode_coordinate low by c)
unfolding encode_coordinate
coordinate_bytes low by c =
    both (both (both (double_bytes low (by (0 ∷ [])) c.x) (double_bytes low (by (1 ∷ [])) c.y)) (where_bytes low (by (2 ∷ [])) c.z)) (where_bytes low (by (3 ∷ [])) c.m)

module _ {A : Type 0} (f : ℕ → A → List ℕ) (part : (k : ℕ) (x : A) → Are (f k x)) where
  from_bytes : (k : ℕ) (xs : List A) → Are (encode_from f k xs)
  unfolding encode_from
  from_bytes k [] = record { all = tt }
  from_bytes k (x ∷ xs) = both (part k x) (from_bytes (suc k) xs)

  counted_bytes : (low : Bool) (xs : List A) → Are (encode_counted low f xs)
  unfolding encode_counted
  counted_bytes low xs = both (number_bytes low 4 (length xs)) (from_bytes 0 xs)

line_bytes : (low : Bool) (by : Choices) (cs : List Coordinate) → Are (encode_line low by cs)
line_bytes low by = counted_bytes _ (λ k. coordinate_bytes low (in_part by k)) low

content_bytes : (low : Bool) (by : Choices) (shape : Shape) (c : Content shape) → Are (encode_content low by shape c)
unfolding encode_content
content_bytes low by point c = coordinate_bytes low by c
content_bytes low by line_string cs = line_bytes low by cs
content_bytes low by polygon rings = counted_bytes _ (λ k. line_bytes low (in_part by k)) low rings

order_below : (low : Bool) → cond low 1 0 < 256
order_below true = omega arith
order_below false = omega arith

head_bytes : (low : Bool) (kind d : ℕ) → Are (encode_head low kind d)
unfolding encode_head
head_bytes low kind d = record { all = (order_below low, (number_bytes low 4 (1000 * d + kind)).all) }

one_bytes : (by : Choices) (d : ℕ) (shape : Shape) (c : Content shape) → Are (encode_one by d shape c)
unfolding encode_one
one_bytes by d shape c = both (head_bytes (by []).low (kind_of_shape shape) d) (content_bytes (by []).low by shape c)

module _ (d : ℕ) where
  mutual
    unfolding encode encode_all

    encode_are : (by : Choices) (g : Geometry) → Are (encode by d g)
    encode_are by (one shape c) = one_bytes by d shape c
    encode_are by (many shape cs) =
        both (head_bytes (by []).low (3 + kind_of_shape shape) d) (counted_bytes _ (λ k. one_bytes (in_part by k) d shape) (by []).low cs)
    encode_are by (collection gs) = both (head_bytes (by []).low 7 d) (both (number_bytes (by []).low 4 (how_many gs)) (all_bytes by 0 gs))

    all_bytes : (by : Choices) (k : ℕ) (gs : Geometries) → Are (encode_all by d k gs)
    all_bytes by k nil = record { all = tt }
    all_bytes by k (cons g gs) = both (encode_are (in_part by k) g) (all_bytes by (suc k) gs)

pub encode_bytes : (by : Choices) (d : ℕ) (g : Geometry) → All (λ b. b < 256) (encode by d g)
encode_bytes by d g = (encode_are d by g).all
