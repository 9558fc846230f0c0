-- Reading what was written gives it back: numbers, coordinates, and parts behind a count. Assumes nothing.
use Rattle.std.specs.Prelude.{Option, Some, None}
use mathlib.Core.Path.{◌≡◌, refl}
use mathlib.Core.Bool.{Bool, true, false}
use mathlib.Core.List.{List, [], ◌∷◌, ◌++◌, append_assoc, flat_map}
use Prim.Native.Nat.{ℕ, suc, ◌+◌, ◌^◌, ◌<◌, ◌≤◌}
use native.Mathlib.Omega.{arith}
use lib.Dec.{T}
use lib.Ieee.{Float, nan, inf, fin, binary64, is_nan, of_bits, fits}
use lib.Ieee.Bits.{of_bits-to_bits, to_bits-lt}
use lib.ListN.{length, length-append}
use lib.Seq.{take_at, drop_at}
use borrow.Author.Tests.{le-ltb}
use Rattle.sedona_geometry.specs.Lists.{All}
use Rattle.sedona_wkb.specs.Geometry.{DoubleWhere, OfDims, Choice, Choices, bits_of, encode_number, encode_double, encode_where, encode_coordinate, encode_from, encode_counted}
use Rattle.sedona_wkb.specs.Reading.{Reader, found, and_then, number, several}
use Rattle.sedona_wkb.specs.Wkb.{Coordinate, has_z, has_m, read_double, read_where, read_coordinate, counted, read_point}
use Rattle.sedona_wkb.specs.declared.heads.Head.{Head}
use Rattle.sedona_wkb.proofs.Bytes.{length_ordered, value_ordered}

-- ---- numbers and doubles

-- The bits of a double are its own, whichever a NaN has.
bits_back : (a : Choice) (v : Float) → T (fits binary64 v) → of_bits binary64 (bits_of a v) ≡ v
unfolding bits_of is_nan
bits_back a nan h = a.nan.is
bits_back a (inf s) h = of_bits-to_bits binary64 (inf s) h
bits_back a (fin s m e) h = of_bits-to_bits binary64 (fin s m e) h

bits_lt : (a : Choice) (v : Float) → T (fits binary64 v) → bits_of a v < 256 ^ 8
unfolding bits_of is_nan
bits_lt a nan h = a.nan.eight
bits_lt a (inf s) h = to_bits-lt binary64 (inf s) h
bits_lt a (fin s m e) h = to_bits-lt binary64 (fin s m e) h

module _ (low : Bool) where
  pub length_number : (n v : ℕ) → length (encode_number low n v) ≡ n
  unfolding encode_number
  length_number n v = length_ordered low n v

  pub number_back : (n v : ℕ) (rest : List ℕ) → v < 256 ^ n → number low n (encode_number low n v ++ rest) ≡ found v rest
  unfolding number encode_number
  number_back n v rest h =
      let bs = encode_number low n v in
      let e : length bs ≡ n = length_number n v in
      let g : n ≤ length (bs ++ rest) = omega (arith, length-append bs rest) in
      rw (le-ltb (length (bs ++ rest)) n g, take_at bs rest n e, drop_at bs rest n e, value_ordered low n v h)

  double_back : (a : Choice) (v : Float) (rest : List ℕ) → T (fits binary64 v) → read_double low (encode_double low a v ++ rest) ≡ found v rest
  unfolding read_double encode_double and_then
  double_back a v rest h = rw (number_back 8 (bits_of a v) rest (bits_lt a v h), bits_back a v h)

  where_back : (a : Choice) (has : Bool) (o : Option Float) (rest : List ℕ) → DoubleWhere has o → read_where has low (encode_where low a o ++ rest) ≡ found o rest
  unfolding read_where encode_where and_then
  where_back a true None rest h = absurd h
  where_back a true (Some v) rest h = rw (double_back a v rest h)
  where_back a false None rest h = refl
  where_back a false (Some v) rest h = absurd h

  pub length_double : (a : Choice) (v : Float) → length (encode_double low a v) ≡ 8
  unfolding encode_double
  length_double a v = length_number 8 (bits_of a v)

module _ (h : Head) (by : Choices) (c : Coordinate) (rest : List ℕ) (d : OfDims h.dims c) where
  coordinate_back : read_coordinate h (encode_coordinate h.low by c ++ rest) ≡ found c rest
  unfolding read_coordinate encode_coordinate and_then
  coordinate_back =
      let low = h.low in
      let m = encode_where low (by (3 ∷ [])) c.m ++ rest in
      let z = encode_where low (by (2 ∷ [])) c.z ++ m in
      let y = encode_double low (by (1 ∷ [])) c.y ++ z in
      simp append_assoc (rw (
        double_back low (by (0 ∷ [])) c.x y d.x,
        double_back low (by (1 ∷ [])) c.y z d.y,
        where_back low (by (2 ∷ [])) (has_z h.dims) c.z m d.z,
        where_back low (by (3 ∷ [])) (has_m h.dims) c.m rest d.m,
      ))

  pub point_back : read_point h (encode_coordinate h.low by c ++ rest) ≡ found (c ∷ []) rest
  unfolding read_point and_then
  point_back = rw coordinate_back

-- ---- parts

pub all_front : {A : Type 0} (P : A → Type 0) (xs ys : List A) → All P (xs ++ ys) → All P xs
all_front P [] ys h = tt
all_front P (x ∷ xs) ys h = (h.0, all_front P xs ys h.1)

pub all_behind : {A : Type 0} (P : A → Type 0) (xs ys : List A) → All P (xs ++ ys) → All P ys
all_behind P [] ys h = h
all_behind P (x ∷ xs) ys h = all_behind P xs ys h.1

-- In the dimensions d, p gives back what f writes of part k, within 64 KiB: the coordinates that g names.
abbrev pub Back : {A : Type 0} → ℕ → Reader (List Coordinate) → (ℕ → A → List ℕ) → (A → List Coordinate) → Type 0
Back {A} d p f g = (k : ℕ) (x : A) → All (OfDims d) (g x) → length (f k x) ≤ 65536 → (rest : List ℕ) → p (f k x ++ rest) ≡ found (g x) rest

module _ {A : Type 0} (d : ℕ) (p : Reader (List Coordinate)) (f : ℕ → A → List ℕ) (g : A → List Coordinate) (b : Back d p f g) where
  several_back : (k : ℕ) (xs : List A) → All (OfDims d) (flat_map g xs) → length (encode_from f k xs) ≤ 65536 → (rest : List ℕ) → several (length xs) p (encode_from f k xs ++ rest) ≡ found (flat_map g xs) rest
  unfolding several encode_from flat_map and_then
  several_back k [] h n rest = refl
  several_back k (x ∷ xs) h n rest =
      let m : length (f k x) + length (encode_from f (suc k) xs) ≤ 65536 = rw (length-append (f k x) (encode_from f (suc k) xs)) at n in
      rw (
        append_assoc (f k x) (encode_from f (suc k) xs) rest,
        b k x (all_front (OfDims d) (g x) (flat_map g xs) h) (omega arith) (encode_from f (suc k) xs ++ rest),
        several_back (suc k) xs (all_behind (OfDims d) (g x) (flat_map g xs) h) (omega arith) rest,
      )

  -- Parts that are not empty are no more than their bytes.
  count_below : ((k : ℕ) (x : A) → 0 < length (f k x)) → (k : ℕ) (xs : List A) → length xs ≤ length (encode_from f k xs)
  unfolding encode_from
  count_below filled k [] = omega arith
  count_below filled k (x ∷ xs) = rw (length-append (f k x) (encode_from f (suc k) xs)) (omega (arith, filled k x, count_below filled (suc k) xs))

  pub counted_back : ((k : ℕ) (x : A) → 0 < length (f k x)) → (h : Head) → Back d (counted h p) (λ k. encode_counted h.low f) (flat_map g)
  unfolding counted encode_counted and_then
  counted_back filled h k xs c n rest =
      let count = encode_number h.low 4 (length xs) in
      let m : length count + length (encode_from f 0 xs) ≤ 65536 = rw (length-append count (encode_from f 0 xs)) at n in
      rw (append_assoc count (encode_from f 0 xs) rest, number_back h.low 4 (length xs) (encode_from f 0 xs ++ rest) (omega (arith, count_below filled 0 xs)))
      (several_back 0 xs c (omega arith) rest)
