-- What is found was written so: numbers, heads, coordinates, and parts behind a count. Assumes nothing.
use Rattle.std.specs.Prelude.{Option, Some, None}
use mathlib.Core.Path.{◌≡◌, refl, sym, ap, subst, ◌∙◌}
use mathlib.Core.Bool.{Bool, true, false, cond}
use mathlib.Core.List.{List, [], ◌∷◌, ◌++◌, append_assoc, append-nil, flat_map}
use Prim.Native.Nat.{ℕ, zero, suc, ◌+◌, ◌*◌, ◌%◌, ◌/◌, ◌^◌, ◌<◌, ◌≤◌}
use native.Mathlib.Omega.{arith}
use lib.Dec.{eqb, ltb}
use lib.Ieee.{Float, binary64, is_nan, of_bits, to_bits}
use lib.Ieee.Bits.{to_bits-of_bits}
use lib.ListN.{length, take, drop, take-append-drop}
use lib.Seq.{length-take-le}
use borrow.Author.Tests.{ltb-false}
use Rattle.sedona_geometry.specs.Lists.{All}
use Rattle.sedona_wkb.specs.Error as error
use Rattle.sedona_wkb.specs.Geometry.{Choice, Choices, plain, bits_of, encode_number, encode_double, encode_where, encode_coordinate, encode_from, encode_counted, encode_head, in_part}
use Rattle.sedona_wkb.specs.Numbers.{value_of, bytes_of, ordered}
use Rattle.sedona_wkb.specs.Reading.{Reading, Reader, refused, found, and_then, ◌>>=◌, give, refuse, number, several}
use Rattle.sedona_wkb.specs.Wkb.{Coordinate, head_of, has_z, has_m, is_type, is_part, tested, read_head, read_part_head, read_double, read_where, read_coordinate, counted, read_point, within}
use Rattle.sedona_wkb.specs.declared.heads.Head.{Head}
use Rattle.sedona_wkb.proofs.Back.{all_front, all_behind}
use Rattle.sedona_wkb.proofs.Bytes.{ordered_of_value, is_nan_lem}
use Rattle.sedona_wkb.proofs.Only.{Passes}

abbrev pub Bytes : List ℕ → Type 0
Bytes = All (λ b. b < 256)

-- From s a front is taken, which F says of a; and t is left.
pub record Taken {A : Type 0} (F : A → List ℕ → Type 0) (s : List ℕ) (a : A) (t : List ℕ) : Type 0 where
  pub front : List ℕ
  pub whole : s ≡ front ++ t
  pub left : Bytes t
  pub is : F a front

-- What is found was taken from the front of s; what is refused has a number.
abbrev pub FromFront : {A : Type 0} → (A → List ℕ → Type 0) → List ℕ → Reading A → Type 0
FromFront F s (refused n) = 0 < n
FromFront F s (found a t) = Taken F s a t

-- So it is of what a reader finds, whatever the bytes.
abbrev pub Reads : {A : Type 0} → Reader A → (A → List ℕ → Type 0) → Type 0
Reads p F = (s : List ℕ) → Bytes s → FromFront F s (p s)

module _ {B : Type 0} (G : B → List ℕ → Type 0) where
  -- What is taken behind a front.
  pub front_behind : (s front t : List ℕ) (r : Reading B) → s ≡ front ++ t → FromFront (λ b behind. G b (front ++ behind)) t r → FromFront G s r
  front_behind s front t (refused n) e h = h
  front_behind s front t (found b u) e h =
      record {
        front = front ++ h.front;
        whole = e ∙ ap (λ (l : List ℕ). front ++ l) h.whole ∙ sym (append_assoc front h.front u);
        left = h.left;
        is = h.is;
      }

  module _ {A : Type 0} (F : A → List ℕ → Type 0) where
    front_then : (s : List ℕ) (r : Reading A) (next : A → Reader B) → FromFront F s r
        → ((a : A) (front : List ℕ) → F a front → Reads (next a) (λ b behind. G b (front ++ behind))) → FromFront G s (and_then r next)
    unfolding and_then
    front_then s (refused n) next h f = h
    front_then s (found a t) next h f = front_behind s h.front t (next a t) h.whole (f a h.front h.is t h.left)

    reads_then : (p : Reader A) (next : A → Reader B) → Reads p F
        → ((a : A) (front : List ℕ) → F a front → Reads (next a) (λ b behind. G b (front ++ behind))) → Reads (◌>>=◌ p next) G
    reads_then p next h f s b = front_then s (p s) next (h s b) f

  -- Nothing more is taken.
  reads_none : (b : B) → G b [] → Reads (give b) G
  reads_none b g s h = record { front = []; whole = refl; left = h; is = g }

  reads_end : (b : B) (front : List ℕ) → G b front → Reads (give b) (λ c behind. G c (front ++ behind))
  reads_end b front g s h = record { front = []; whole = refl; left = h; is = rw (append-nil front) g }

  pub reads_either : (t : Bool) (p q : Reader B) → (t ≡ true → Reads p G) → (t ≡ false → Reads q G) → Reads (cond t p q) G
  reads_either true p q f g = f refl
  reads_either false p q f g = g refl

-- Where F says something of a front, G does.
module _ {A : Type 0} (F G : A → List ℕ → Type 0) where
  front_as : (s : List ℕ) (r : Reading A) → FromFront F s r → ((a : A) (front : List ℕ) → F a front → G a front) → FromFront G s r
  front_as s (refused n) h f = h
  front_as s (found a t) h f = record { front = h.front; whole = h.whole; left = h.left; is = f a h.front h.is }

  pub reads_as : (p : Reader A) → Reads p F → ((a : A) (front : List ℕ) → F a front → G a front) → Reads p G
  reads_as p h f s b = front_as s (p s) (h s b) f

-- ---- numbers

abbrev Number : Bool → ℕ → ℕ → List ℕ → Type 0
Number low n v front = (front ≡ encode_number low n v) × (v < 256 ^ n)

number_written : (low : Bool) (n : ℕ) → Reads (number low n) (Number low n)
unfolding number encode_number
number_written low n s b = go (ltb (length s) n) refl
  where
    go : (t : Bool) → ltb (length s) n ≡ t → FromFront (Number low n) s (cond t (refused error.wkb_length) (found (value_of (ordered low (take n s))) (drop n s)))
    go true e = omega arith
    go false e =
        let l : length (take n s) ≡ n = length-take-le n s (ltb-false (length s) n e) in
        let b' : Bytes (take n s ++ drop n s) = rw (take-append-drop n s) b in
        record {
          front = take n s;
          whole = sym (take-append-drop n s);
          left = all_behind (λ b. b < 256) (take n s) (drop n s) b';
          is = subst (λ (k : ℕ). (take n s ≡ ordered low (bytes_of k (value_of (ordered low (take n s))))) × (value_of (ordered low (take n s)) < 256 ^ k)) l
              (ordered_of_value low (take n s) (all_front (λ b. b < 256) (take n s) (drop n s) b'));
        }

-- ---- heads

abbrev pub HeadOf : (Head → Type 0) → Head → List ℕ → Type 0
HeadOf P h front = (front ≡ encode_head h.low h.kind h.dims) × P h

order_byte : (order : ℕ) → order ≤ 1 → encode_number true 1 order ≡ cond (eqb order 1) 1 0 ∷ []
unfolding encode_number ordered bytes_of
order_byte zero h = refl
order_byte (suc zero) h = refl
order_byte (suc (suc n)) h = absurd (omega arith)

tested_written : (G : Head → List ℕ → Type 0) (t : Bool) (h : Head) (front : List ℕ) → (t ≡ true → G h front) → Reads (tested t h) (λ k behind. G k (front ++ behind))
unfolding tested
tested_written G true h front g = reads_end G h front (g refl)
tested_written G false h front g = λ s b. omega arith

pub head_written : Reads read_head (HeadOf (Passes is_type))
unfolding read_head encode_head
head_written =
    reads_then (HeadOf (Passes is_type)) (Number true 1) (number true 1) _ (number_written true 1) (λ order f n.
    reads_either _ (ltb 1 order) (refuse error.wkb_code) _ (λ e s b. omega arith) (λ e.
    let low = eqb order 1 in
    reads_then _ (Number low 4) (number low 4) _ (number_written low 4) (λ code g m.
    let h = head_of low code in
    let c : 1000 * (code / 1000) + code % 1000 ≡ code = omega arith in
    tested_written (λ k behind. HeadOf (Passes is_type) k (f ++ behind)) (is_type h) h g (λ p. (rw (n.0, m.0, c, order_byte order (ltb-false 1 order e)), p)))))

-- The head of a part, and what follows it.
module _ (parent : Head) where
  abbrev pub PartHead : Head → Type 0
  PartHead h = (is_type h ≡ true) × (is_part parent h ≡ true)

  part_head_written : Reads (read_part_head parent) (HeadOf PartHead)
  unfolding read_part_head
  part_head_written =
      reads_then (HeadOf PartHead) (HeadOf (Passes is_type)) read_head _ head_written (λ h front i.
      tested_written (HeadOf PartHead) (is_part parent h) h front (λ e. (i.0, (i.1, e))))

  pub within_written : (G : List Coordinate → List ℕ → Type 0) (follows : Head → Reader (List Coordinate))
      → ((h : Head) → PartHead h → Reads (follows h) (λ cs behind. G cs (encode_head h.low h.kind h.dims ++ behind))) → Reads (within parent follows) G
  unfolding within
  within_written G follows f =
      reads_then G (HeadOf PartHead) (read_part_head parent) follows part_head_written (λ h front i.
      subst (λ (u : List ℕ). Reads (follows h) (λ cs behind. G cs (u ++ behind))) (sym i.0) (f h i.1))

-- ---- coordinates

-- Bits are a double's, with a choice where it is NaN.
bits_chosen : (n : ℕ) → n < 256 ^ 8 → (a : Choice) × (n ≡ bits_of a (of_bits binary64 n))
unfolding bits_of
bits_chosen n h = go (is_nan (of_bits binary64 n)) refl
  where
    go : (t : Bool) → is_nan (of_bits binary64 n) ≡ t → (a : Choice) × (n ≡ cond (is_nan (of_bits binary64 n)) a.nan.bits (to_bits binary64 (of_bits binary64 n)))
    go true e = (record { low = true; nan = record { bits = n; eight = h; is = is_nan_lem (of_bits binary64 n) e } }, rw e)
    go false e = (plain [], rw e (sym (to_bits-of_bits binary64 n h (rw e tt))))

abbrev Double : Bool → Float → List ℕ → Type 0
Double low v front = (a : Choice) × (front ≡ encode_double low a v)

double_written : (low : Bool) → Reads (read_double low) (Double low)
unfolding read_double encode_double
double_written low =
    reads_then (Double low) (Number low 8) (number low 8) _ (number_written low 8) (λ n front i.
    let c = bits_chosen n i.1 in
    reads_end (Double low) (of_bits binary64 n) front (c.0, i.0 ∙ ap (encode_number low 8) c.1))

abbrev Where : Bool → Option Float → List ℕ → Type 0
Where low o front = (a : Choice) × (front ≡ encode_where low a o)

where_written : (has low : Bool) → Reads (read_where has low) (Where low)
unfolding read_where encode_where
where_written true low = reads_then (Where low) (Double low) (read_double low) _ (double_written low) (λ v front i. reads_end (Where low) (Some v) front i)
where_written false low = reads_none (Where low) None (plain [], refl)

-- Choices by those of each part, and these by those of the first and of the others.
abbrev inside : (ℕ → Choices) → Choices
inside parts [] = plain []
inside parts (k ∷ place) = parts k place

abbrev first : Choices → (ℕ → Choices) → ℕ → Choices
first a others zero = a
first a others (suc k) = others k

module _ (h : Head) where
  abbrev At : Coordinate → List ℕ → Type 0
  At c front = (by : Choices) × (front ≡ encode_coordinate h.low by c)

  coordinate_written : Reads (read_coordinate h) At
  unfolding read_coordinate encode_coordinate
  coordinate_written =
      let low = h.low in
      let z = has_z h.dims in
      let m = has_m h.dims in
      reads_then At (Double low) (read_double low) _ (double_written low) (λ x f a.
      reads_then _ (Double low) (read_double low) _ (double_written low) (λ y g b.
      reads_then _ (Where low) (read_where z low) _ (where_written z low) (λ z i c.
      reads_then _ (Where low) (read_where m low) _ (where_written m low) (λ m j d.
      reads_end (λ k behind. At k (f ++ (g ++ (i ++ behind)))) (record { x = x; y = y; z = z; m = m }) j (
        inside (first (λ p. a.0) (first (λ p. b.0) (first (λ p. c.0) (λ k p. d.0)))),
        rw (a.1, b.1, c.1, d.1) (simp append_assoc),
      )))))

-- ---- parts

-- A front that f writes of something, whose coordinates g names.
pub record Written {A : Type 0} (f : Choices → A → List ℕ) (g : A → List Coordinate) (cs : List Coordinate) (front : List ℕ) : Type 0 where
  pub by : Choices
  pub it : A
  pub same : g it ≡ cs
  pub bytes : front ≡ f by it

pub point_written : (h : Head) → Reads (read_point h) (Written (encode_coordinate h.low) (λ c. c ∷ []))
unfolding read_point
point_written h =
    let W = Written (encode_coordinate h.low) (λ c. c ∷ []) in
    reads_then W (At h) (read_coordinate h) _ (coordinate_written h) (λ c front i.
    reads_end W (c ∷ []) front (record { by = i.0; it = c; same = refl; bytes = i.1 }))

from_next : {A : Type 0} (f : ℕ → A → List ℕ) (k : ℕ) (xs : List A) → encode_from (λ j. f (suc j)) k xs ≡ encode_from f (suc k) xs
unfolding encode_from
from_next f k [] = refl
from_next f k (x ∷ xs) = ap (λ (l : List ℕ). f (suc k) x ++ l) (from_next f (suc k) xs)

module _ {A : Type 0} (f : Choices → A → List ℕ) (g : A → List Coordinate) where
  -- So many of them, one after the other.
  record Several (n : ℕ) (cs : List Coordinate) (front : List ℕ) : Type 0 where
    by : ℕ → Choices
    all : List A
    count : length all ≡ n
    same : flat_map g all ≡ cs
    bytes : front ≡ encode_from (λ k. f (by k)) 0 all

  module _ (p : Reader (List Coordinate)) (part : Reads p (Written f g)) where
    several_written : (n : ℕ) → Reads (several n p) (Several n)
    unfolding several encode_from flat_map
    several_written zero = reads_none (Several 0) [] (record { by = λ k. plain; all = []; count = refl; same = refl; bytes = refl })
    several_written (suc n) =
        reads_then (Several (suc n)) (Written f g) p _ part (λ xs u x.
        reads_then _ (Several n) (several n p) _ (several_written n) (λ ys v o.
        let by = first x.by o.by in
        reads_end (λ cs behind. Several (suc n) cs (u ++ behind)) (xs ++ ys) v (record {
          by = by;
          all = x.it ∷ o.all;
          count = ap suc o.count;
          same = rw (x.same, o.same);
          bytes = rw (x.bytes, o.bytes, from_next (λ k. f (by k)) 0 o.all);
        })))

    pub counted_written : (h : Head) → Reads (counted h p) (Written (λ by. encode_counted h.low (λ k. f (in_part by k))) (flat_map g))
    unfolding counted encode_counted
    counted_written h =
        let W = Written (λ by. encode_counted h.low (λ k. f (in_part by k))) (flat_map g) in
        reads_then W (Number h.low 4) (number h.low 4) _ (number_written h.low 4) (λ n u i.
        reads_as (Several n) (λ cs behind. W cs (u ++ behind)) (several n p) (several_written n) (λ cs v o. record {
          by = inside o.by;
          it = o.all;
          same = o.same;
          bytes = rw (i.0, o.bytes, o.count);
        }))
