-- Rates that pass, and rounding: the nearest cent is within half a cent, is the only such, and grows. Assumes nothing.
use mathlib.Core.Path.{◌≡◌, refl, sym}
use mathlib.Core.Bool.{Bool, true, false, not, ◌||◌, cond}
use Prim.Native.Nat.{ℕ, suc, ◌*◌, ◌/◌, ◌%◌, ◌≤◌, ◌<◌}
use native.Mathlib.Nat.{add-le-add, mul-le-mul, mul-le-mul_right, mod-lt, div-add-mod'}
use native.Mathlib.Omega.{arith}
use borrow.Author.Tests.{ltb-false}
use lib.Dec.{T, ltb, ltb→lt, nltb→le, lit<}
use Rattle.sedona_expr.specs.Refusals.{refuse_if}
use Rattle.scan_tariff.specs.Error as error
use Rattle.scan_tariff.specs.Tariff.{gib, most_bytes, rates_refusal, exact, nearest_cent, cents, Nearest}
use Rattle.scan_tariff.specs.declared.tariff.Rates.{Rates}

-- ---- bands

exact_grows : (m n : ℕ) (r : Rates) → m ≤ n → exact m r ≤ exact n r
unfolding exact
exact_grows m n r l = add-le-add (add-le-add (mul-le-mul_right r.first (omega arith)) (mul-le-mul_right r.second (omega arith))) (mul-le-mul_right r.third (omega arith))

-- rates that pass are at most 10,000
pub rates_pass : (r : Rates) → rates_refusal r ≡ 0 → (r.first ≤ 10000) × ((r.second ≤ 10000) × (r.third ≤ 10000))
unfolding rates_refusal
rates_pass r e = go (ltb 10000 r.first) (ltb 10000 r.second) (ltb 10000 r.third) refl refl refl e
  where
    go : (a b c : Bool) → ltb 10000 r.first ≡ a → ltb 10000 r.second ≡ b → ltb 10000 r.third ≡ c → refuse_if (a || b || c) error.bad_rate ≡ 0
        → (r.first ≤ 10000) × ((r.second ≤ 10000) × (r.third ≤ 10000))
    go false false false p q s z = (ltb-false 10000 r.first p, (ltb-false 10000 r.second q, ltb-false 10000 r.third s))
    go true b c p q s z = absurd (omega arith)
    go false true c p q s z = absurd (omega arith)
    go false false true p q s z = absurd (omega arith)

-- bytes of a band at its rate
pub band_most : (n r : ℕ) → n ≤ most_bytes → r ≤ 10000 → n * r ≤ most_bytes * 10000
band_most n r l m = mul-le-mul l m

-- ---- rounding

pub nearest : (e : ℕ) → Nearest e (nearest_cent e)
unfolding nearest_cent
nearest e = go (ltb (2 * (e % gib)) gib) (ltb→lt (2 * (e % gib)) gib) (nltb→le (2 * (e % gib)) gib)
  where
    go : (b : Bool) → (T b → 2 * (e % gib) < gib) → (T (not b) → gib ≤ 2 * (e % gib)) → Nearest e (cond b (e / gib) (suc (e / gib)))
    go true h k = let d = div-add-mod' e gib in let l = h tt in record { below = omega arith; above = omega arith }
    go false h k = let d = div-add-mod' e gib in let l = k tt in let m = mod-lt e {m = gib} (lit< tt) in record { below = omega arith; above = omega arith }

-- there is one alone
pub nearest_only : (e c : ℕ) → Nearest e c → c ≡ nearest_cent e
nearest_only e c n = let m = nearest e in omega arith

nearest_grows : (e f : ℕ) → e ≤ f → nearest_cent e ≤ nearest_cent f
nearest_grows e f l = let m = nearest e in let n = nearest f in omega arith

pub cents_grow : (m n : ℕ) (r : Rates) → m ≤ n → cents m r ≤ cents n r
cents_grow m n r l = nearest_grows (exact m r) (exact n r) (exact_grows m n r l)

-- a band of whole GiB costs whole cents
pub whole_band : (k r w : ℕ) → k ≡ w * gib → (k * r ≡ w * r * gib) × (nearest_cent (k * r) ≡ w * r)
whole_band k r w e = (whole, sym (nearest_only (k * r) (w * r) (record { below = omega (arith, whole); above = omega (arith, whole) })))
  where
    whole : k * r ≡ w * r * gib
    whole = rw e (omega arith)
