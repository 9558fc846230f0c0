-- Whole numbers as differences of natural ones, so that sums and tests of them are linear arithmetic; and which sums leave the range of
-- an i64. Assumes nothing.
use mathlib.Core.Path.{◌≡◌, refl, subst}
use Rattle.std.specs.Prelude.{Option, Some, None, SomeIff}
use mathlib.Core.Logic.{◌⊎◌, inl, inr, ◌↔◌}
use mathlib.Core.Bool.{Bool, true, false, not, cond}
use Prim.Native.Nat.{ℕ, zero, suc, ◌+◌, ◌-◌, ◌^◌, ◌≤◌, ◌<◌}
use native.Mathlib.Omega.{arith}
use lib.IntN.{ℤ, pos, negsuc, neg_ℤ, sub_ℕ, ◌+ℤ◌}
use lib.Dec.{T, ltb, ltb→lt, lt→ltb, nltb→le}
use lib.Signed.{lt_z}
use mir.Syntax.{w64}
use mir.Val.{SFits}
use Rattle.sedona_expr.specs.Statistics.{least, most, is_outside}
use Rattle.sedona_geometry.proofs.Booleans.{fails, is_false, or_left, or_right, or_cases}
use Rattle.sedona_geometry.proofs.Order.{ℕ_le_or_lt}

-- z is up z - down z
abbrev up : ℤ → ℕ
up (pos n) = n
up (negsuc n) = 0

abbrev down : ℤ → ℕ
down (pos n) = 0
down (negsuc n) = suc n

lt↔ : (a b : ℤ) → T (lt_z a b) ↔ (up a + down b < up b + down a)
lt↔ (pos a) (pos b) = (λ h. omega (arith, ltb→lt a b h), λ h. lt→ltb a b (omega arith))
lt↔ (pos a) (negsuc b) = (λ h. absurd h, λ h. absurd (omega arith))
lt↔ (negsuc a) (pos b) = (λ h. omega arith, λ h. tt)
lt↔ (negsuc a) (negsuc b) = (λ h. omega (arith, ltb→lt b a h), λ h. lt→ltb b a (omega arith))

sub_diff : (a b : ℕ) → up (sub_ℕ a b) + b ≡ down (sub_ℕ a b) + a
sub_diff a b = go (ltb a b) (ltb→lt a b) (nltb→le a b)
  where
    go : (t : Bool) → (T t → a < b) → (T (not t) → b ≤ a) → let z : ℤ = cond t (negsuc (b - suc a)) (pos (a - b)) in up z + b ≡ down z + a
    go true h k = let l = h tt in omega arith
    go false h k = let l = k tt in omega arith

add_diff : (a b : ℤ) → up (a +ℤ b) + (down a + down b) ≡ down (a +ℤ b) + (up a + up b)
add_diff (pos a) (pos b) = omega arith
add_diff (pos a) (negsuc b) = omega (arith, sub_diff a (suc b))
add_diff (negsuc a) (pos b) = omega (arith, sub_diff b (suc a))
add_diff (negsuc a) (negsuc b) = omega arith

neg_up : (b : ℤ) → (up (neg_ℤ b) ≡ down b) × (down (neg_ℤ b) ≡ up b)
neg_up (pos zero) = (refl, refl)
neg_up (pos (suc n)) = (refl, refl)
neg_up (negsuc n) = (refl, refl)

-- ---- the range of an i64
fits→ : (z : ℤ) → SFits w64 z → (up z < 2 ^ 63) × (down z ≤ 2 ^ 63)
fits→ (pos n) h = (h.sfits, omega arith)
fits→ (negsuc n) h = (omega arith, h.sfits)

→fits : (z : ℤ) → up z < 2 ^ 63 + down z → down z ≤ 2 ^ 63 + up z → SFits w64 z
→fits (pos n) h k = record { sfits = omega arith }
→fits (negsuc n) h k = record { sfits = omega arith }

same_test : (p q : Bool) → (T p → T q) → (T q → T p) → p ≡ q
same_test true true h k = refl
same_test true false h k = absurd (h tt)
same_test false true h k = absurd (k tt)
same_test false false h k = refl

outside→ : (z : ℤ) → T (is_outside z) → (2 ^ 63 + up z < down z) ⊎ (2 ^ 63 - 1 + down z < up z)
unfolding is_outside
outside→ z h =
    elim (or_cases (lt_z z least) (lt_z most z) h) [
      | inl a ↦ inl (omega (arith, (lt↔ z least).0 a))
      | inr b ↦ inr (omega (arith, (lt↔ most z).0 b))
    ]

→outside_down : (z : ℤ) → 2 ^ 63 + up z < down z → T (is_outside z)
unfolding is_outside
→outside_down z h = or_left (lt_z z least) (lt_z most z) ((lt↔ z least).1 (omega arith))

→outside_up : (z : ℤ) → 2 ^ 63 - 1 + down z < up z → T (is_outside z)
unfolding is_outside
→outside_up z h = or_right (lt_z z least) (lt_z most z) ((lt↔ most z).1 (omega arith))

not_below : (b : ℤ) → (T (lt_z b (pos 0)) → ⊥) → down b ≡ 0
not_below (pos n) h = refl
not_below (negsuc n) h = absurd (h tt)

ℕ_not_lt : (a b : ℕ) → (a < b → ⊥) → b ≤ a
ℕ_not_lt a b h = elim (ℕ_le_or_lt b a) [ inl k ↦ k | inr k ↦ absurd (h k) ]

not_down : (z : ℤ) → is_outside z ≡ false → down z ≤ 2 ^ 63 + up z
not_down z e = ℕ_not_lt (2 ^ 63 + up z) (down z) (λ h. fails e (→outside_down z h))

not_up : (z : ℤ) → is_outside z ≡ false → up z ≤ 2 ^ 63 - 1 + down z
not_up z e = ℕ_not_lt (2 ^ 63 - 1 + down z) (up z) (λ h. fails e (→outside_up z h))

pub stays_fits : (z : ℤ) → is_outside z ≡ false → SFits w64 z
stays_fits z e = →fits z (omega (arith, not_up z e)) (omega (arith, not_down z e))

pub fits_stays : (z : ℤ) → SFits w64 z → is_outside z ≡ false
fits_stays z f = let h = fits→ z f in is_false (is_outside z) (λ t. elim (outside→ z t) [ inl u ↦ absurd (omega arith) | inr u ↦ absurd (omega arith) ])

-- ---- a checked sum is there exactly where it stays
pub outside_if_none : (z : ℤ) {o : Option ℤ} → SomeIff o (SFits w64 z) z → o ≡ None → is_outside z ≡ true
outside_if_none z h e = go (is_outside z) refl
  where
    go : (t : Bool) → is_outside z ≡ t → is_outside z ≡ true
    go true p = p
    go false p = absurd (subst (λ o. SomeIff o (SFits w64 z) z) e h (stays_fits z p))

pub stays_if_some : (z : ℤ) {o : Option ℤ} {x : ℤ} → SomeIff o (SFits w64 z) z → o ≡ Some x → (is_outside z ≡ false) × (x ≡ z)
stays_if_some z h e = let k = subst (λ o. SomeIff o (SFits w64 z) z) e h in (fits_stays z k.0, k.1)
