-- Numbers and doubles by their bytes. Assumes nothing.
use mathlib.Core.Path.{◌≡◌, refl, sym, ap, ◌∙◌}
use mathlib.Core.Bool.{Bool, true, false, cond, false≢true}
use mathlib.Core.List.{List, [], ◌∷◌, reverse_aux, reverse, reverse-reverse}
use Prim.Native.Nat.{ℕ, zero, suc, ◌+◌, ◌*◌, ◌%◌, ◌/◌, ◌^◌, ◌<◌, ◌≤◌}
use native.Mathlib.Nat.{add-zero, pow-succ'}
use native.Mathlib.Omega.{arith}
use lib.Ieee.{Float, nan, inf, fin, is_nan, binary64, of_bits}
use lib.Ieee.Bits.{nan_bits_is, nan_bits_above}
use lib.ListN.{length, take, drop, get_or, length-drop, length-reverse}
use lib.Seq.{get_or-drop, drop-drop, take-add, length-take-le}
use borrow.Author.Tests.{lt-ltb}
use Rattle.sedona_geometry.specs.Lists.{All}
use Rattle.sedona_wkb.specs.Geometry.{}
use Rattle.sedona_wkb.specs.Numbers.{value_of, bytes_of, ordered}
use Rattle.sedona_wkb.specs.Places.{number_at}

-- ---- four bytes, and eight

four_of : (l : List ℕ) → 4 ≤ length l → take 4 l ≡ get_or l 0 0 ∷ get_or l 1 0 ∷ get_or l 2 0 ∷ get_or l 3 0 ∷ []
four_of [] h = absurd (omega arith)
four_of (a ∷ []) h = absurd (omega arith)
four_of (a ∷ b ∷ []) h = absurd (omega arith)
four_of (a ∷ b ∷ c ∷ []) h = absurd (omega arith)
four_of (a ∷ b ∷ c ∷ d ∷ l) h = refl

four_at : (s : List ℕ) (at : ℕ) → at + 4 ≤ length s
    → take 4 (drop at s) ≡ get_or s at 0 ∷ get_or s (at + 1) 0 ∷ get_or s (at + 2) 0 ∷ get_or s (at + 3) 0 ∷ []
four_at s at h = four_of (drop at s) (simp length-drop (omega arith)) ∙ simp (get_or-drop, add-zero)

module _ (s : List ℕ) (at : ℕ) (h : at + 4 ≤ length s) (a b c d : ℕ)
    (p : a ≡ get_or s at 0) (q : b ≡ get_or s (at + 1) 0) (r : c ≡ get_or s (at + 2) 0) (t : d ≡ get_or s (at + 3) 0) where
  pub four_low : a + 256 * (b + 256 * (c + 256 * d)) ≡ number_at true 4 s at
  unfolding ordered value_of
  four_low = rw (four_at s at h, p, q, r, t) (omega arith)

  pub four_high : d + 256 * (c + 256 * (b + 256 * a)) ≡ number_at false 4 s at
  unfolding ordered value_of
  four_high = rw (four_at s at h, p, q, r, t) (omega arith)

-- Eight bytes are four and four.
module _ (s : List ℕ) (at : ℕ) (h : at + 8 ≤ length s) (u v : ℕ) where
  pub eight_low : u ≡ number_at true 4 s at → v ≡ number_at true 4 s (at + 4) → u + 4294967296 * v ≡ value_of (take 8 (drop at s))
  unfolding ordered value_of
  eight_low p q =
      rw (take-add 4 4 (drop at s), drop-drop 4 at s, p, q, four_at s at (omega arith), four_at s (at + 4) (omega arith)) (omega arith)

-- ---- the bytes of a number that was read

bytes_of_value : (bs : List ℕ) → All (λ b. b < 256) bs → bytes_of (length bs) (value_of bs) ≡ bs
unfolding bytes_of value_of
bytes_of_value [] h = refl
bytes_of_value (b ∷ bs) h =
    let p : (b + 256 * value_of bs) % 256 ≡ b = omega (arith, h.0) in
    let q : (b + 256 * value_of bs) / 256 ≡ value_of bs = omega (arith, h.0) in
    rw (p, q, bytes_of_value bs h.1)

value_below : (bs : List ℕ) → All (λ b. b < 256) bs → value_of bs < 256 ^ length bs
unfolding value_of
value_below [] h = omega arith
value_below (b ∷ bs) h = rw (pow-succ' 256 (length bs)) (omega (arith, h.0, value_below bs h.1))

all_reverse : {A : Type 0} (P : A → Type 0) (xs ys : List A) → All P xs → All P ys → All P (reverse_aux xs ys)
all_reverse P [] ys h g = g
all_reverse P (x ∷ xs) ys h g = all_reverse P xs (x ∷ ys) h.1 (h.0, g)

-- Bytes are those of their number, in either order; and this is below what so many can hold.
pub ordered_of_value : (low : Bool) (bs : List ℕ) → All (λ b. b < 256) bs → (bs ≡ ordered low (bytes_of (length bs) (value_of (ordered low bs)))) × (value_of (ordered low bs) < 256 ^ length bs)
unfolding ordered
ordered_of_value true bs h = (sym (bytes_of_value bs h), value_below bs h)
ordered_of_value false bs h =
    let g = all_reverse (λ (b : ℕ). b < 256) bs [] h tt in
    rw (← length-reverse bs) (rw (bytes_of_value (reverse bs) g, reverse-reverse bs), value_below (reverse bs) g)

all_bytes : (n : ℕ) (l : List ℕ) → ((i : ℕ) → get_or l i 0 < 256) → All (λ b. b < 256) (take n l)
all_bytes zero l h = tt
all_bytes (suc n) [] h = tt
all_bytes (suc n) (b ∷ l) h = (h 0, all_bytes n l (λ i. h (suc i)))

-- The number in the other order, of the number in this.
pub eight_swapped : (s : List ℕ) (at : ℕ) → at + 8 ≤ length s → ((i : ℕ) → get_or s i 0 < 256) → (v : ℕ) → v ≡ value_of (take 8 (drop at s))
    → value_of (reverse (bytes_of 8 v)) ≡ number_at false 8 s at
unfolding ordered
eight_swapped s at h f v p =
    let bs = take 8 (drop at s) in
    let n : length bs ≡ 8 = length-take-le 8 (drop at s) (rw (length-drop at s) (omega arith)) in
    let g : All (λ b. b < 256) bs = all_bytes 8 (drop at s) (λ i. rw (get_or-drop at s i 0) (f (at + i))) in
    let e : bytes_of 8 v ≡ bs = rw p (ap (λ (k : ℕ). bytes_of k (value_of bs)) (sym n) ∙ bytes_of_value bs g) in
    ap (λ (x : List ℕ). value_of (reverse x)) e

-- ---- the number of bytes that were written

length_bytes : (n v : ℕ) → length (bytes_of n v) ≡ n
unfolding bytes_of
length_bytes zero v = refl
length_bytes (suc n) v = ap suc (length_bytes n (v / 256))

value_of_bytes : (n v : ℕ) → v < 256 ^ n → value_of (bytes_of n v) ≡ v
unfolding bytes_of value_of
value_of_bytes zero v h = omega arith
value_of_bytes (suc n) v h =
    let g : v < 256 * 256 ^ n = rw (pow-succ' 256 n) at h in
    omega (arith, value_of_bytes n (v / 256) (omega arith))

below_bytes : (n v : ℕ) → All (λ b. b < 256) (bytes_of n v)
unfolding bytes_of
below_bytes zero v = tt
below_bytes (suc n) v = (omega arith, below_bytes n (v / 256))

pub length_ordered : (low : Bool) (n v : ℕ) → length (ordered low (bytes_of n v)) ≡ n
unfolding ordered
length_ordered true n v = length_bytes n v
length_ordered false n v = length-reverse (bytes_of n v) ∙ length_bytes n v

pub value_ordered : (low : Bool) (n v : ℕ) → v < 256 ^ n → value_of (ordered low (ordered low (bytes_of n v))) ≡ v
unfolding ordered
value_ordered true n v h = value_of_bytes n v h
value_ordered false n v h = rw (reverse-reverse (bytes_of n v)) (value_of_bytes n v h)

pub bytes_ordered : (low : Bool) (n v : ℕ) → All (λ b. b < 256) (ordered low (bytes_of n v))
unfolding ordered
bytes_ordered low n v = go low
  where
    go : (low : Bool) → All (λ b. b < 256) (cond low (bytes_of n v) (reverse (bytes_of n v)))
    go true = below_bytes n v
    go false = all_reverse (λ (b : ℕ). b < 256) (bytes_of n v) [] (below_bytes n v) tt

-- ---- the bits of a NaN

pub is_nan_lem : (v : Float) → is_nan v ≡ true → v ≡ nan
unfolding is_nan
is_nan_lem nan e = refl
is_nan_lem (inf s) e = absurd (false≢true e)
is_nan_lem (fin s m x) e = absurd (false≢true e)

pub nan_above : (n : ℕ) → 0x7ff0000000000000 < n % 0x8000000000000000 → nan ≡ of_bits binary64 n
nan_above n h = sym (is_nan_lem (of_bits binary64 n) (sym (nan_bits_is binary64 n) ∙ nan_bits_above binary64 n ∙ lt-ltb _ _ h))
