-- What is written of a geometry is as long by any choices. Assumes nothing.
use Rattle.std.specs.Prelude.{Option, Some, None}
use mathlib.Core.Path.{◌≡◌, refl, sym, ◌∙◌}
use mathlib.Core.Bool.{Bool}
use mathlib.Core.List.{List, [], ◌∷◌}
use Prim.Native.Nat.{ℕ, suc, ◌+◌, ◌*◌}
use lib.Ieee.{Float}
use lib.ListN.{length, length-append}
use Rattle.sedona_wkb.specs.Geometry.{Shape, point, line_string, polygon, Content, Geometry, one, many, collection, Geometries, nil, cons, Choice, Choices, in_part, encode_where, encode_coordinate, encode_from, encode_counted, encode_line, encode_content, encode_head, encode_one, encode, encode_all}
use Rattle.sedona_wkb.specs.Wkb.{Coordinate}
use Rattle.sedona_wkb.proofs.Back.{length_number, length_double}

length_where : (low low' : Bool) (a a' : Choice) (o : Option Float) → length (encode_where low a o) ≡ length (encode_where low' a' o)
unfolding encode_where
length_where low low' a a' None = refl
length_where low low' a a' (Some v) = length_double low a v ∙ sym (length_double low' a' v)

length_coordinate : (low low' : Bool) (by by' : Choices) (c : Coordinate) → length (encode_coordinate low by c) ≡ length (encode_coordinate low' by' c)
unfolding encode_coordinate
length_coordinate low low' by by' c =
    simp (length-append, length_double) (rw (length_where low low' (by (2 ∷ [])) (by' (2 ∷ [])) c.z, length_where low low' (by (3 ∷ [])) (by' (3 ∷ [])) c.m))

module _ {A : Type 0} (f f' : ℕ → A → List ℕ) (same : (k : ℕ) (x : A) → length (f k x) ≡ length (f' k x)) where
  length_from : (k : ℕ) (xs : List A) → length (encode_from f k xs) ≡ length (encode_from f' k xs)
  unfolding encode_from
  length_from k [] = refl
  length_from k (x ∷ xs) = rw (length-append (f k x) (encode_from f (suc k) xs), length-append (f' k x) (encode_from f' (suc k) xs), same k x, length_from (suc k) xs)

  length_counted : (low low' : Bool) (xs : List A) → length (encode_counted low f xs) ≡ length (encode_counted low' f' xs)
  unfolding encode_counted
  length_counted low low' xs = simp (length-append, length_number) (rw (length_from 0 xs))

length_line : (low low' : Bool) (by by' : Choices) (cs : List Coordinate) → length (encode_line low by cs) ≡ length (encode_line low' by' cs)
length_line low low' by by' cs = length_counted _ _ (λ k. length_coordinate low low' (in_part by k) (in_part by' k)) low low' cs

length_content : (low low' : Bool) (by by' : Choices) (shape : Shape) (c : Content shape) → length (encode_content low by shape c) ≡ length (encode_content low' by' shape c)
unfolding encode_content
length_content low low' by by' point c = length_coordinate low low' by by' c
length_content low low' by by' line_string cs = length_line low low' by by' cs
length_content low low' by by' polygon rings = length_counted _ _ (λ k. length_line low low' (in_part by k) (in_part by' k)) low low' rings

length_head : (low : Bool) (kind d : ℕ) → length (encode_head low kind d) ≡ 5
unfolding encode_head
length_head low kind d = rw (length_number low 4 (1000 * d + kind))

length_one : (by by' : Choices) (d : ℕ) (shape : Shape) (c : Content shape) → length (encode_one by d shape c) ≡ length (encode_one by' d shape c)
unfolding encode_one
length_one by by' d shape c = simp (length-append, length_head) (rw (length_content (by []).low (by' []).low by by' shape c))

module _ (d : ℕ) where
  mutual
    unfolding encode encode_all

    pub length_any : (by by' : Choices) (g : Geometry) → length (encode by d g) ≡ length (encode by' d g)
    length_any by by' (one shape c) = length_one by by' d shape c
    length_any by by' (many shape cs) =
        simp (length-append, length_head)
        (rw (length_counted (λ k. encode_one (in_part by k) d shape) (λ k. encode_one (in_part by' k) d shape) (λ k. length_one (in_part by k) (in_part by' k) d shape) (by []).low (by' []).low cs))
    length_any by by' (collection gs) = simp (length-append, length_head, length_number) (rw (length_all by by' 0 gs))

    length_all : (by by' : Choices) (k : ℕ) (gs : Geometries) → length (encode_all by d k gs) ≡ length (encode_all by' d k gs)
    length_all by by' k nil = refl
    length_all by by' k (cons g gs) = simp length-append (rw (length_any (in_part by k) (in_part by' k) g, length_all by by' (suc k) gs))
