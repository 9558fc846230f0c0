-- Whether a name comes twice, as a search before each name tells; names that ascend; and marks that tell that a name is new. Assumes nothing.
use mathlib.Core.Path.{◌≡◌, refl, sym, subst, ap, ◌∙◌}
use mathlib.Core.Bool.{Bool, true, false, ◌&&◌}
use mathlib.Core.List.{List, [], ◌∷◌}
use Prim.Native.Nat.{ℕ, zero, suc, ◌+◌, ◌-◌, ◌≤◌, ◌<◌}
use native.Mathlib.Omega.{arith}
use lib.Dec.{eqb, ltb}
use lib.ListN.{length, get_or, set, take, drop, length-drop}
use lib.Seq.{get_or-take, length-take-le, get_or-set_same, get_or-set_other}
use borrow.Author.Tests.{eqb-true, eqb-false, ltb-true, ltb-false, le-ltb}
use Rattle.sedona_geometry.proofs.Booleans.{fails}
use Rattle.sedona_geometry.specs.Bits.{has_bit, with_bit}
use Rattle.sedona_expr.specs.Within.{comes_before, ascends}
use Rattle.sedona_expr.specs.Names.{find_name, place_of, has_twice}
use Rattle.sedona_expr.proofs.Searches.{rest, place_holds, once_differ}
use Rattle.sedona_expr.proofs.NameSearches.{hit_is_first, no_hit}
use Rattle.sedona_expr.proofs.WordBits.{bit_is_set, bit_stays}

-- The name at a place is none of those before it.
abbrev pub New : List ℕ → ℕ → Type 0
New ns k = (i : ℕ) → i < k → get_or ns i 0 ≡ get_or ns k 0 → ⊥

-- The first so many names differ.
abbrev pub Differ : List ℕ → ℕ → Type 0
Differ ns k = (j : ℕ) → j < k → New ns j

pub differ_next : (ns : List ℕ) (k : ℕ) → Differ ns k → New ns k → Differ ns (k + 1)
differ_next ns k d n j h = go (eqb j k) refl
  where
    go : (b : Bool) → eqb j k ≡ b → New ns j
    go true e = subst (New ns) (sym (eqb-true j k e)) n
    go false e = d j (omega (arith, eqb-false j k e))

-- names that all differ
differ_once : (ns : List ℕ) → Differ ns (length ns) → has_twice ns ≡ false
unfolding has_twice
differ_once [] d = refl
differ_once (n ∷ ns) d = rw (le-ltb (place_of ns n) (length ns) (go (ltb (place_of ns n) (length ns)) refl), differ_once ns (λ j h i k. d (suc j) (omega arith) (suc i) (omega arith)))
  where
    go : (b : Bool) → ltb (place_of ns n) (length ns) ≡ b → length ns ≤ place_of ns n
    go true e = absurd (d (suc (place_of ns n)) (omega (arith, ltb-true (place_of ns n) (length ns) e)) 0 (omega arith) (sym (place_holds ns n (ltb-true (place_of ns n) (length ns) e))))
    go false e = ltb-false (place_of ns n) (length ns) e

pub differ_all : (ns : List ℕ) (k : ℕ) → length ns ≤ k → Differ ns k → has_twice ns ≡ false
differ_all ns k h d = differ_once ns (λ j l. d j (omega arith))

-- ---- names that ascend: a name at a time, and that all differ
pub ascends_next : (ns : List ℕ) (i : ℕ) → 1 ≤ i → i < length ns → ascends (drop (i - 1) ns) ≡ (ltb (get_or ns (i - 1) 0) (get_or ns i 0) && ascends (drop (i + 1 - 1) ns))
ascends_next ns i h l =
    let e : i - 1 + 1 ≡ i = omega arith in
    let f : i + 1 - 1 ≡ i = omega arith in
    rw f (rw e at (step (i - 1) (omega arith)))
  where
    step : (k : ℕ) → k + 1 < length ns → ascends (drop k ns) ≡ (ltb (get_or ns k 0) (get_or ns (k + 1) 0) && ascends (drop (k + 1) ns))
    step k h = rw (rest ns k 0 (omega arith), rest ns (k + 1) 0 h)

one_ascends : (ns : List ℕ) → length ns ≤ 1 → ascends ns ≡ true
one_ascends [] h = refl
one_ascends (n ∷ []) h = refl
one_ascends (n ∷ m ∷ ns) h = absurd (omega arith)

pub ascends_end : (ns : List ℕ) (i : ℕ) → length ns ≤ i + 1 → ascends (drop i ns) ≡ true
ascends_end ns i h = one_ascends (drop i ns) (omega (arith, length-drop i ns))

both : (a b : Bool) → (a && b) ≡ true → (a ≡ true) × (b ≡ true)
both true b e = (refl, e)
both false b e = absurd (fails (sym e) tt)

ascends_less : (ns : List ℕ) → ascends ns ≡ true → (i j : ℕ) → i < j → j < length ns → get_or ns i 0 < get_or ns j 0
ascends_less [] e i j h l = absurd (omega arith)
ascends_less (n ∷ []) e i j h l = absurd (omega arith)
ascends_less (n ∷ m ∷ ns) e i j h l = go (ltb-true n m (both (ltb n m) (ascends (m ∷ ns)) e).0) (ascends_less (m ∷ ns) (both (ltb n m) (ascends (m ∷ ns)) e).1) i j h l
  where
    go : n < m → ((i j : ℕ) → i < j → j < length (m ∷ ns) → get_or (m ∷ ns) i 0 < get_or (m ∷ ns) j 0) → (i j : ℕ) → i < j → j < length (n ∷ m ∷ ns)
        → get_or (n ∷ m ∷ ns) i 0 < get_or (n ∷ m ∷ ns) j 0
    go f g i zero h l = absurd (omega arith)
    go f g zero (suc zero) h l = f
    go f g zero (suc (suc j)) h l = omega (arith, g 0 (suc j) (omega arith) (omega arith))
    go f g (suc i) (suc j) h l = g i j (omega arith) (omega arith)

pub ascending_differ : (ns : List ℕ) → ascends ns ≡ true → has_twice ns ≡ false
ascending_differ ns e = differ_once ns (λ j h i l f. absurd (omega (arith, ascends_less ns e i j l h)))

-- ---- by a search among the names before
-- a hit is one of them
is_before : (ns : List ℕ) (k : ℕ) → k < length ns → comes_before ns k ≡ true → (i : ℕ) × ((i < k) × (get_or ns i 0 ≡ get_or ns k 0))
is_before ns k h e = (p, (before, sym (get_or-take k ns p 0 before) ∙ first.1.0))
  where
    p : ℕ
    p = (find_name (take k ns) (get_or ns k 0)).place

    first : (p < length (take k ns)) × ((get_or (take k ns) p 0 ≡ get_or ns k 0) × ((i : ℕ) → i < p → get_or (take k ns) i 0 ≡ get_or ns k 0 → ⊥))
    first = hit_is_first (take k ns) (get_or ns k 0) e

    before : p < k
    before = omega (arith, first.0, length-take-le k ns (omega arith))

pub hit_before : (ns : List ℕ) (k : ℕ) → k < length ns → comes_before ns k ≡ true → has_twice ns ≡ true
hit_before ns k h e = go (has_twice ns) refl (is_before ns k h e)
  where
    go : (b : Bool) → has_twice ns ≡ b → (i : ℕ) × ((i < k) × (get_or ns i 0 ≡ get_or ns k 0)) → b ≡ true
    go true o f = refl
    go false o f = absurd (omega (arith, f.1.0, once_differ ns o f.0 k (omega (arith, f.1.0)) h f.1.1))

pub none_before : (ns : List ℕ) (k : ℕ) → k < length ns → comes_before ns k ≡ false → New ns k
none_before ns k h e i l f = no_hit (take k ns) (get_or ns k 0) e i (omega (arith, length-take-le k ns (omega arith))) (get_or-take k ns i 0 l ∙ f)

-- ---- by marks: where a name's is, which word and which bit of it, is any function of the name
module _ (word bit : ℕ → ℕ) where
  -- The mark of a name is set.
  abbrev pub is_marked : List ℕ → ℕ → Bool
  is_marked ms n = has_bit (get_or ms (word n) 0) (bit n)

  -- Those of the first so many names are.
  abbrev pub Marked : List ℕ → List ℕ → ℕ → Type 0
  Marked ms ns k = (i : ℕ) → i < k → is_marked ms (get_or ns i 0) ≡ true

  -- a name whose mark is clear is new
  pub clear_is_new : (ms ns : List ℕ) (k : ℕ) → k < length ns → Marked ms ns k → is_marked ms (get_or ns k 0) ≡ false → comes_before ns k ≡ false
  clear_is_new ms ns k l m e = go (comes_before ns k) refl
    where
      go : (b : Bool) → comes_before ns k ≡ b → b ≡ false
      go true h = marked ∙ e
        where
          before : (i : ℕ) × ((i < k) × (get_or ns i 0 ≡ get_or ns k 0))
          before = is_before ns k l h

          marked : true ≡ is_marked ms (get_or ns k 0)
          marked = sym (subst (λ (n : ℕ). is_marked ms n ≡ true) before.1.1 (m before.0 before.1.0))
      go false h = refl

  -- its mark is set, and the others stay
  pub mark_next : (ms ns : List ℕ) (k : ℕ) → word (get_or ns k 0) < length ms → Marked ms ns k
      → Marked (set ms (word (get_or ns k 0)) (with_bit (get_or ms (word (get_or ns k 0)) 0) (bit (get_or ns k 0)))) ns (k + 1)
  mark_next ms ns k l m i h = go (eqb a j) refl (eqb i k) refl
    where
      j : ℕ
      j = word (get_or ns k 0)

      a : ℕ
      a = word (get_or ns i 0)

      v : ℕ
      v = with_bit (get_or ms j 0) (bit (get_or ns k 0))

      -- the word of the new mark, and another one
      here : eqb a j ≡ true → get_or (set ms j v) a 0 ≡ v
      here e = subst (λ (b : ℕ). get_or (set ms j v) b 0 ≡ v) (sym (eqb-true a j e)) (get_or-set_same ms j v 0 l)

      go : (b : Bool) → eqb a j ≡ b → (c : Bool) → eqb i k ≡ c → has_bit (get_or (set ms j v) a 0) (bit (get_or ns i 0)) ≡ true
      go true e true f = rw (here e, eqb-true i k f) (bit_is_set (get_or ms j 0) (bit (get_or ns k 0)))
      go true e false f =
          rw (here e)
          (bit_stays (get_or ms j 0) (bit (get_or ns k 0)) (bit (get_or ns i 0))
          (subst (λ (b : ℕ). has_bit (get_or ms b 0) (bit (get_or ns i 0)) ≡ true) (eqb-true a j e) (m i (omega (arith, h, eqb-false i k f)))))
      go false e true f = absurd (eqb-false a j e (ap (λ (b : ℕ). word (get_or ns b 0)) (eqb-true i k f)))
      go false e false f = rw (get_or-set_other ms j a v 0 (eqb-false a j e)) (m i (omega (arith, h, eqb-false i k f)))
