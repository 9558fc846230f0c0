-- How often nodes are children, and the marks that count it. Assumes nothing.
use mathlib.Core.Path.{◌≡◌, refl, sym, subst, ap, ◌∙◌}
use mathlib.Core.Bool.{Bool, true, false, cond, and-true}
use mathlib.Core.List.{List, [], ◌∷◌}
use Prim.Native.Nat.{ℕ, zero, suc, ◌+◌, ◌-◌, ◌*◌, ◌≤◌, ◌<◌}
use native.Mathlib.Nat.{add-zero, le_antisymm}
use native.Mathlib.Numerals.{add-one}
use native.Mathlib.Omega.{arith}
use lib.Dec.{eqb}
use lib.ListN.{length, get_or, set, take, length-set}
use lib.Seq.{get_or-set_same, get_or-set_other, take-suc}
use borrow.Author.Tests.{eqb-true, eqb-false}
use Rattle.std.specs.List.{list_all}
use Rattle.std.proofs.lemmas.List.Folds.{list_all-append}
use Rattle.sedona_expr.specs.Within.{Counted, AtMost}
use Rattle.sedona_expr.specs.Tables.{word, kind, count, is_pair}
use Rattle.sedona_expr.specs.Refusals.{one, uses_by, uses, all_below}

-- ---- uses
one_le : (b : Bool) → one b ≤ 1
one_le true = omega arith
one_le false = omega arith

uses_by_le : (ns : List ℕ) (n m : ℕ) → uses_by ns n m ≤ 2
unfolding uses_by
uses_by_le ns n m = go (is_pair (get_or ns (4 * n + 0) 0))
  where
    l : Bool
    l = eqb (get_or ns (4 * n + 1) 0) m

    r : Bool
    r = eqb (get_or ns (4 * n + 2) 0) m

    go : (b : Bool) → cond b (one l + one r) 0 ≤ 2
    go true = omega (arith, one_le l, one_le r)
    go false = omega arith

pub uses_le : (ns : List ℕ) (n m : ℕ) → uses ns n m ≤ 2 * n
uses_le ns zero m = omega arith
uses_le ns (suc n) m = omega (arith, uses_le ns n m, uses_by_le ns n m)

-- one more mark at a place
pub mark_counts : (ms : List ℕ) (n : ℕ) → length ms ≡ 1024 → n < 1024 → Counted (set ms n (get_or ms n 0 + 1)) (λ m. get_or ms m 0 + one (eqb n m))
mark_counts ms n l h = (length-set ms n (get_or ms n 0 + 1) ∙ l, λ m k. go m (eqb n m) refl)
  where
    go : (m : ℕ) (b : Bool) → eqb n m ≡ b → get_or (set ms n (get_or ms n 0 + 1)) m 0 ≡ get_or ms m 0 + one b
    go m true e = subst (λ (i : ℕ). get_or (set ms n (get_or ms n 0 + 1)) i 0 ≡ get_or ms i 0 + 1) (eqb-true n m e) (get_or-set_same ms n (get_or ms n 0 + 1) 0 (omega (arith, l, h)))
    go m false e = get_or-set_other ms n m (get_or ms n 0 + 1) 0 (λ d. eqb-false n m e (sym d)) ∙ sym (add-zero (get_or ms m 0))

-- marks stay small
pub marks_rise : (ms ns : List ℕ) (n k : ℕ) → AtMost ms k → Counted ns (λ m. get_or ms m 0 + one (eqb n m)) → AtMost ns (k + 1)
marks_rise ms ns n k a c = (c.0, λ m h. omega (arith, a.1 m h, c.1 m h, one_le (eqb n m)))

pub marks_small : (ms ns : List ℕ) (n : ℕ) → n ≤ 1024 → Counted ms (uses ns n) → AtMost ms 65533
marks_small ms ns n h c = (c.0, λ m k. omega (arith, c.1 m k, uses_le ns n m))

-- the marks of a pair's two children, and of no pair
pub pair_counts : (ns ms ms₁ ms₂ : List ℕ) (n l r : ℕ) → is_pair (kind ns n) ≡ true → l ≡ word ns n 1 → r ≡ word ns n 2
    → Counted ms₁ (λ m. get_or ms m 0 + one (eqb l m)) → Counted ms₂ (λ m. get_or ms₁ m 0 + one (eqb r m)) → Counted ms₂ (λ m. get_or ms m 0 + uses_by ns n m)
unfolding uses_by
pair_counts ns ms ms₁ ms₂ n l r p e f c d = (d.0, λ m h. rw (p, ← e, ← f) (omega (arith, c.1 m h, d.1 m h)))

pub none_counts : (ns ms : List ℕ) (n : ℕ) → length ms ≡ 1024 → is_pair (kind ns n) ≡ false → Counted ms (λ m. get_or ms m 0 + uses_by ns n m)
unfolding uses_by
none_counts ns ms n l p = (l, λ m h. rw p (sym (add-zero (get_or ms m 0))))

-- what a test of a node's kind says of the node
pub pair_test : (ns : List ℕ) (n k : ℕ) (b v : Bool) → k ≡ kind ns n → b ≡ is_pair k → b ≡ v → is_pair (kind ns n) ≡ v
pair_test ns n k b v e f g = rw (← e, ← f) g

pub uses_next : (ns ms ms₁ : List ℕ) (n : ℕ) → Counted ms (uses ns n) → Counted ms₁ (λ m. get_or ms m 0 + uses_by ns n m) → Counted ms₁ (uses ns (n + 1))
uses_next ns ms ms₁ n c d = (d.0, λ m h. rw (add-one n) (d.1 m h ∙ ap (λ (k : ℕ). k + uses_by ns n m) (c.1 m h)))

-- ---- of all numbers below n, and of all first so many members of a list
pub all_first : (p : ℕ → Bool) (xs : List ℕ) (n d : ℕ) → n ≤ length xs → list_all p (take n xs) ≡ all_below (λ m. p (get_or xs m d)) n
all_first p xs zero d h = refl
all_first p xs (suc n) d h =
    rw (take-suc xs n d (omega arith), list_all-append p (take n xs) (get_or xs n d ∷ []), all_first p xs n d (omega arith), and-true (p (get_or xs n d)))

pub below_same : (p q : ℕ → Bool) (n : ℕ) → ((m : ℕ) → m < n → p m ≡ q m) → all_below p n ≡ all_below q n
below_same p q zero h = refl
below_same p q (suc n) h = rw (h n (omega arith), below_same p q n (λ m k. h m (omega arith)))

-- of the marks of all nodes, as of their uses
pub marks_count_uses : (ns ms : List ℕ) (n : ℕ) → n ≤ count ns → count ns ≤ n → length ns ≤ 4096 → Counted ms (uses ns n)
    → all_below (λ m. eqb (get_or ms m 0) 1) (count ns - 1) ≡ all_below (λ m. eqb (uses ns (count ns) m) 1) (count ns - 1)
marks_count_uses ns ms n h k l c =
    subst (λ (i : ℕ). all_below (λ m. eqb (get_or ms m 0) 1) (count ns - 1) ≡ all_below (λ m. eqb (uses ns i m) 1) (count ns - 1)) (le_antisymm h k)
    (below_same (λ m. eqb (get_or ms m 0) 1) (λ m. eqb (uses ns n m) 1) (count ns - 1) (λ m j. ap (λ (i : ℕ). eqb i 1) (c.1 m (omega arith))))
