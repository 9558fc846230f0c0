-- Sizes that are billed, and the sum of a list as it is walked. Assumes nothing.
use Rattle.std.specs.Prelude.{Option, Some, None}
use mathlib.Core.Logic.{◌⊎◌, inl, inr}
use mathlib.Core.Path.{◌≡◌, refl, sym, ap, ap₂, subst, ◌∙◌}
use mathlib.Core.Bool.{Bool, true, false, not, ◌&&◌, ◌||◌, cond}
use mathlib.Core.List.{List, [], ◌∷◌}
use Prim.Native.Nat.{ℕ, ◌+◌, ◌≤◌, ◌<◌}
use native.Mathlib.Nat.{add-zero, zero-add, add_assoc}
use native.Mathlib.Omega.{arith}
use borrow.Author.Tests.{lt-ltb, ltb-true, leb-true, le-leb, le-ltb, lt-leb, eq-eqb, ne_eqb}
use lib.Dec.{T}
use lib.IntN.{ℤ, pos, negsuc, ◌+ℤ◌, nat_abs}
use lib.Signed.{lt_z, le_z, non_neg}
use lib.ListN.{length}
use mir.Syntax.{w64}
use mir.Val.{SFits}
use Rattle.sedona_geometry.specs.Lists.{are_all}
use Rattle.sedona_geometry.proofs.Booleans.{fails, holds}
use Rattle.sedona_geometry.proofs.Order.{ℕ_le_or_lt}
use Rattle.sedona_expr.specs.Statistics.{plus, sum}
use Rattle.sedona_expr.specs.Refusals.{or_else}
use Rattle.scan_tariff.specs.Error as error
use Rattle.scan_tariff.specs.Tariff.{most_bytes, is_billed, total_refusal, sizes_refusal, rates_refusal, refused, cents, fee, fee_of_total, fee_of_sizes}
use Rattle.scan_tariff.specs.Within.{billed, no_bytes, with_size, with_sizes}
use Rattle.scan_tariff.specs.declared.tariff.Rates.{Rates}

-- ---- totals apart
abbrev known_of : Option ℤ → ℤ
known_of None = pos 0
known_of (Some z) = z

abbrev IsMissing : Option ℤ → Type 0
IsMissing None = Unit {0}
IsMissing (Some z) = ⊥

missing_not_known : {z : ℤ} → Some z ≡ None → ⊥
missing_not_known e = subst IsMissing (sym e) tt

-- ---- a size

-- A size that is billed is a count of bytes, of at most 2^40.
record Size (t : Option ℤ) : Type 0 where
  count : ℕ
  is : t ≡ Some (pos count)
  most : count ≤ most_bytes

size : (t : Option ℤ) → is_billed t ≡ true → Size t
unfolding is_billed
size None e = absurd (holds e)
size (Some (negsuc n)) e = absurd (holds e)
size (Some (pos n)) e = record { count = n; is = refl; most = leb-true n most_bytes e }

count_billed : (n : ℕ) → n ≤ most_bytes → is_billed (Some (pos n)) ≡ true
unfolding is_billed
count_billed n l = le-leb n most_bytes l

-- as the code tests it
pub negative_not_billed : (z : ℤ) → lt_z z (pos 0) ≡ true → is_billed (Some z) ≡ false
unfolding is_billed
negative_not_billed (pos n) e = absurd (omega (arith, ltb-true n 0 e))
negative_not_billed (negsuc n) e = refl

pub billed_up_to : (z : ℤ) → lt_z z (pos 0) ≡ false → is_billed (Some z) ≡ le_z z (pos most_bytes)
unfolding is_billed
billed_up_to (pos n) e = refl
billed_up_to (negsuc n) e = absurd (fails e tt)

count_over : (n : ℕ) → most_bytes < n → is_billed (Some (pos n)) ≡ false
unfolding is_billed
count_over n l = lt-leb n most_bytes l

billed_count : (n : ℕ) → n ≤ most_bytes → billed (Some (pos n)) ≡ Some (pos n)
billed_count n l = rw (count_billed n l)

-- what `billed` gives
pub record Count (z : ℤ) : Type 0 where
  pub count : ℕ
  pub is : z ≡ pos count
  pub most : count ≤ most_bytes

pub counts : (t : Option ℤ) (z : ℤ) → billed t ≡ Some z → Count z
counts t z e = go (is_billed t) refl e
  where
    go : (b : Bool) → is_billed t ≡ b → cond b t None ≡ Some z → Count z
    go true f g = let k = size t f in record { count = k.count; is = ap known_of (sym g ∙ k.is); most = k.most }
    go false f g = absurd (missing_not_known (sym g))

counts_billed : (z : ℤ) → Count z → is_billed (Some z) ≡ true
counts_billed z k = ap (λ (y : ℤ). is_billed (Some y)) k.is ∙ count_billed k.count k.most

pub count_bytes : (z : ℤ) → Count z → T (non_neg z) × (nat_abs z ≤ most_bytes)
count_bytes z k = rw k.is (tt, k.most)

-- ---- a size more
pub missing_left : (s t : Option ℤ) → billed s ≡ None → with_size s t ≡ None
unfolding with_size is_billed
missing_left s t e = rw e

pub missing_right : (s t : Option ℤ) → billed t ≡ None → with_size s t ≡ None
unfolding with_size is_billed
missing_right s t e = rw e (go (billed s))
  where
    go : (u : Option ℤ) → billed (plus u None) ≡ None
    go None = refl
    go (Some z) = refl

pub both_known : (s t : Option ℤ) (a b : ℤ) → billed s ≡ Some a → billed t ≡ Some b → with_size s t ≡ billed (Some (a +ℤ b))
unfolding with_size
both_known s t a b e f = rw (e, f)

pub sum_fits : (a b : ℤ) → Count a → Count b → SFits w64 (a +ℤ b)
sum_fits a b k l = rw (k.is, l.is) (record { sfits = omega (arith, k.most, l.most) })

-- ---- the walk, from n bytes that are billed
missing_stays : (ts : List (Option ℤ)) → with_sizes None ts ≡ None
unfolding with_size is_billed
missing_stays [] = refl
missing_stays (t ∷ ts) = missing_stays ts

-- of a list that begins with a size
rest_bad : (t : Option ℤ) (ts : List (Option ℤ)) → is_billed t ≡ true → are_all is_billed (t ∷ ts) ≡ false → are_all is_billed ts ≡ false
rest_bad t ts e f = sym (ap (λ (b : Bool). b && are_all is_billed ts) e) ∙ f

first_good : (t : Option ℤ) (ts : List (Option ℤ)) → are_all is_billed (t ∷ ts) ≡ true → (is_billed t ≡ true) × (are_all is_billed ts ≡ true)
first_good t ts e = go (is_billed t) refl e
  where
    go : (b : Bool) → is_billed t ≡ b → (b && are_all is_billed ts) ≡ true → (is_billed t ≡ true) × (are_all is_billed ts ≡ true)
    go true f g = (f, g)
    go false f g = absurd (holds g)

-- where some size is not billed, the sum is missing in the end
walked_bad : (s : Option ℤ) (ts : List (Option ℤ)) → are_all is_billed ts ≡ false → with_sizes s ts ≡ None
walked_bad s [] e = absurd (fails e tt)
walked_bad s (t ∷ ts) e = go (is_billed t) refl (walked_bad (with_size s t) ts)
  where
    go : (b : Bool) → is_billed t ≡ b → (are_all is_billed ts ≡ false → with_sizes (with_size s t) ts ≡ None) → with_sizes (with_size s t) ts ≡ None
    go true f k = k (rest_bad t ts f e)
    go false f k = ap (λ (u : Option ℤ). with_sizes u ts) (missing_right s t (rw f)) ∙ missing_stays ts

-- where each is billed, the sum is a count of bytes
record Counted (ts : List (Option ℤ)) : Type 0 where
  count : ℕ
  is : sum ts ≡ Some (pos count)

counted : (ts : List (Option ℤ)) → are_all is_billed ts ≡ true → Counted ts
counted [] e = record { count = 0; is = refl }
counted (t ∷ ts) e =
    let g = first_good t ts e in
    let z = size t g.0 in
    let c = counted ts g.1 in
    record { count = z.count + c.count; is = ap₂ plus z.is c.is }

-- and the walk gives it, where it is billed
walked_good : (n : ℕ) (ts : List (Option ℤ)) → n ≤ most_bytes → (e : are_all is_billed ts ≡ true) → with_sizes (Some (pos n)) ts ≡ billed (Some (pos (n + (counted ts e).count)))
unfolding counted
walked_good n [] l e = sym (ap (λ (k : ℕ). billed (Some (pos k))) (add-zero n) ∙ billed_count n l)
walked_good n (t ∷ ts) l e = ap (λ (u : Option ℤ). with_sizes (with_size (Some (pos n)) u) ts) z.is ∙ ap (λ (u : Option ℤ). with_sizes u ts) (both_known (Some (pos n)) (Some (pos k)) (pos n) (pos k) (billed_count n l) (billed_count k z.most)) ∙ go (ℕ_le_or_lt (n + k) most_bytes) (λ m. walked_good (n + k) ts m (first_good t ts e).1)
  where
    z : Size t
    z = size t (first_good t ts e).0

    k : ℕ
    k = z.count

    s : ℕ
    s = (counted ts (first_good t ts e).1).count

    go : (n + k ≤ most_bytes) ⊎ (most_bytes < n + k) → (n + k ≤ most_bytes → with_sizes (Some (pos (n + k))) ts ≡ billed (Some (pos (n + k + s))))
        → with_sizes (billed (Some (pos (n + k)))) ts ≡ billed (Some (pos (n + (k + s))))
    go (inl m) h = rw (count_billed (n + k) m, ← add_assoc n k s) (h m)
    go (inr m) h = rw (count_over (n + k) m, count_over (n + (k + s)) (omega arith)) (missing_stays ts)

-- ---- the fee of what is walked

-- 18 leaves nothing of the rest
fee_bad : (t : Option ℤ) (r : Rates) → fee error.bad_size t r ≡ refused error.bad_size
unfolding fee or_else
fee_bad t r = refl

-- what is not billed costs what is missing: 18
fee_billed : (t : Option ℤ) (r : Rates) → fee_of_total (billed t) r ≡ fee_of_total t r
unfolding fee_of_total total_refusal is_billed
fee_billed t r = go (is_billed t) refl
  where
    go : (b : Bool) → is_billed t ≡ b → fee_of_total (cond b t None) r ≡ fee_of_total t r
    go true e = refl
    go false e = fee_bad None r ∙ sym (rw e (fee_bad t r))

fee_known : (t : Option ℤ) (z : ℤ) (r : Rates) → billed t ≡ Some z → fee_of_total t r ≡ fee 0 (Some z) r
unfolding fee_of_total total_refusal
fee_known t z r e = sym (fee_billed t r) ∙ ap (λ (u : Option ℤ). fee_of_total u r) e ∙ rw (counts_billed z (counts t z e))

pub fee_missing : (t : Option ℤ) (r : Rates) → billed t ≡ None → fee_of_total t r ≡ refused error.bad_size
unfolding fee_of_total total_refusal is_billed
fee_missing t r e = sym (fee_billed t r) ∙ ap (λ (u : Option ℤ). fee_of_total u r) e ∙ fee_bad None r

-- nothing refuses a size that is billed, but its rates may be refused
pub fee_rates : (t : Option ℤ) (z : ℤ) (r : Rates) → billed t ≡ Some z → (rates_refusal r ≡ 0 → ⊥) → fee_of_total t r ≡ refused (rates_refusal r)
unfolding fee or_else
fee_rates t z r e h = fee_known t z r e ∙ rw (ne_eqb (rates_refusal r) 0 h)

pub fee_given : (t : Option ℤ) (z : ℤ) (r : Rates) → billed t ≡ Some z → rates_refusal r ≡ 0 → fee_of_total t r ≡ record { number = 0; cents = cents (nat_abs z) r }
unfolding fee or_else
fee_given t z r e h = fee_known t z r e ∙ rw (eq-eqb (rates_refusal r) 0 h)

-- The fee of a list that is not too long is that of its sum as it is walked.
pub fee_walked : (ts : List (Option ℤ)) (r : Rates) → length ts ≤ 1000 → fee_of_total (with_sizes no_bytes ts) r ≡ fee_of_sizes ts r
unfolding fee_of_total fee_of_sizes total_refusal sizes_refusal is_billed
fee_walked ts r l = rw (le-ltb 1000 (length ts) l) (go (are_all is_billed ts) refl)
  where
    go : (b : Bool) → are_all is_billed ts ≡ b → fee_of_total (with_sizes no_bytes ts) r ≡ fee (cond (not b || not (is_billed (sum ts))) error.bad_size 0) (sum ts) r
    go false e = ap (λ (u : Option ℤ). fee_of_total u r) (walked_bad no_bytes ts e) ∙ fee_bad None r ∙ sym (fee_bad (sum ts) r)
    go true e =
        let c = counted ts e in
        ap (λ (u : Option ℤ). fee_of_total u r) (walked_good 0 ts (omega arith) e) ∙ fee_billed (Some (pos (0 + c.count))) r
        ∙ ap (λ (u : Option ℤ). fee_of_total u r) (ap (λ (n : ℕ). Some (pos n)) (zero-add c.count) ∙ sym c.is)

-- A longer list is refused.
pub fee_long : (ts : List (Option ℤ)) (r : Rates) → 1000 < length ts → refused error.bad_size ≡ fee_of_sizes ts r
unfolding fee_of_sizes sizes_refusal
fee_long ts r l = sym (rw (lt-ltb 1000 (length ts) l) (fee_bad (sum ts) r))
