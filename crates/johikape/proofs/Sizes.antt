-- Sizes in two lists: how many they are, and the walk, one size on. Assumes nothing.
use Rattle.std.specs.Prelude.{Option}
use mathlib.Core.Path.{◌≡◌, refl, sym, ap, ap₂, ◌∙◌}
use mathlib.Core.Bool.{Bool, true, false, not, ◌||◌}
use mathlib.Core.List.{List, [], ◌∷◌}
use Prim.Native.Nat.{ℕ, suc, ◌<◌, ◌+◌, ◌≤◌}
use native.Mathlib.Numerals.{add-one}
use native.Mathlib.Omega.{arith}
use borrow.Author.Tests.{eqb-true}
use lib.Dec.{eqb, ltb}
use lib.IntN.{ℤ, pos}
use lib.ListN.{length, get_or, drop, drop_of_length-le}
use lib.Seq.{drop-cons}
use Rattle.sedona_geometry.specs.Lists.{are_all}
use Rattle.sedona_expr.specs.Error as error
use Rattle.sedona_expr.specs.Refusals.{refuse_if}
use Rattle.scan_tariff.specs.Within.{with_size, with_sizes}
use Rattle.johikape.specs.Records.{total_of}
use Rattle.johikape.specs.Tariff.{sizes, sizes_refusal}

-- ---- lists that pass fit
pub sizes_pass : (zs : List ℤ) (ks : List ℕ) (n : ℕ) → n ≡ sizes_refusal zs ks → n ≡ 0 → length zs ≡ length ks
unfolding sizes_refusal
sizes_pass zs ks n is e = go (eqb (length zs) (length ks)) (are_all (λ b. ltb b 2) ks) refl (sym is ∙ e)
  where
    go : (a b : Bool) → eqb (length zs) (length ks) ≡ a → refuse_if (not a || not b) error.bad_lists ≡ 0 → length zs ≡ length ks
    go true b p z = eqb-true _ _ p
    go false b p z = absurd (omega arith)

pub sizes_length : (zs : List ℤ) (ks : List ℕ) → length zs ≡ length ks → length (sizes zs ks) ≡ length zs
sizes_length [] ks e = refl
sizes_length (z ∷ zs) [] e = absurd (omega (arith, e))
sizes_length (z ∷ zs) (k ∷ ks) e = ap suc (sizes_length zs ks (omega (arith, e)))

-- ---- the walk, one size on
pub sizes_next : (zs : List ℤ) (ks : List ℕ) (s : Option ℤ) (i : ℕ) → i < length zs → i < length ks
    → with_sizes s (sizes (drop i zs) (drop i ks)) ≡ with_sizes (with_size s (total_of (eqb (get_or ks i 0) 1) (get_or zs i (pos 0)))) (sizes (drop (i + 1) zs) (drop (i + 1) ks))
sizes_next zs ks s i l m = ap₂ (λ (ys : List ℤ) (js : List ℕ). with_sizes s (sizes ys js)) (drop-cons zs i (pos 0) l) (drop-cons ks i 0 m)
    ∙ ap (λ (j : ℕ). with_sizes (with_size s (total_of (eqb (get_or ks i 0) 1) (get_or zs i (pos 0)))) (sizes (drop j zs) (drop j ks))) (sym (add-one i))

pub sizes_done : (zs : List ℤ) (ks : List ℕ) (s : Option ℤ) (i : ℕ) → length zs ≤ i → with_sizes s (sizes (drop i zs) (drop i ks)) ≡ s
sizes_done zs ks s i l = ap (λ (ys : List ℤ). with_sizes s (sizes ys (drop i ks))) (drop_of_length-le zs l)
