-- Searches and tests along a list of names or flags, one place at a time; names of which none comes twice differ. Assumes nothing.
use mathlib.Core.Path.{◌≡◌, refl, sym, ap, ◌∙◌}
use mathlib.Core.Bool.{Bool, true, false, not, ◌&&◌, ◌||◌, cond, and-true, and_assoc}
use mathlib.Core.List.{List, [], ◌∷◌, ◌++◌}
use Prim.Native.Nat.{ℕ, zero, suc, ◌+◌, ◌-◌, ◌≤◌, ◌<◌}
use native.Mathlib.Numerals.{add-one}
use native.Mathlib.Omega.{arith}
use lib.Dec.{eqb}
use lib.ListN.{length, get_or, take, drop, length-drop, length-append, drop_of_length-le}
use lib.Seq.{drop-cons, drop-drop}
use borrow.Author.Tests.{eqb-true, eqb-false, eq-eqb, ne_eqb, ltb-false}
use Rattle.std.proofs.lemmas.List.{take-append-drop, length-take-le}
use Rattle.sedona_geometry.proofs.Booleans.{fails}
use Rattle.sedona_geometry.specs.Lists.{are_all}
use Rattle.sedona_expr.specs.Within.{is_other, behind}
use Rattle.sedona_expr.specs.Names.{Search, hit_at_once, further, find_name, place_of, is_among, has_twice}

pub rest : {A : Type 0} (xs : List A) (i : ℕ) (d : A) → i < length xs → drop i xs ≡ get_or xs i d ∷ drop (i + 1) xs
rest xs i d h = rw (add-one i) (drop-cons xs i d h)

-- ---- the search for a name: one that begins behind so many names, a name at a time
pub same_search : {h : Bool} {p q c d : ℕ} → p ≡ q → c ≡ d → ◌≡◌ {A = Search} (record { hit = h; place = p; compared = c }) (record { hit = h; place = q; compared = d })
same_search e f = rw (e, f) refl

pub find_all : (ns : List ℕ) (n : ℕ) → find_name ns n ≡ behind 0 (find_name (drop 0 ns) n)
find_all ns n = same_search (omega arith) (omega arith)

pub find_hit : (ns : List ℕ) (i n : ℕ) → i < length ns → get_or ns i 0 ≡ n → behind i (find_name (drop i ns) n) ≡ record { hit = true; place = i; compared = i + 1 }
unfolding find_name
find_hit ns i n h e = rw (rest ns i 0 h, eq-eqb (get_or ns i 0) n e) (same_search (omega arith) (omega arith))

pub find_next : (ns : List ℕ) (i n : ℕ) → i < length ns → (get_or ns i 0 ≡ n → ⊥) → behind i (find_name (drop i ns) n) ≡ behind (i + 1) (find_name (drop (i + 1) ns) n)
unfolding find_name
find_next ns i n h e = rw (rest ns i 0 h, ne_eqb (get_or ns i 0) n e) (same_search (omega arith) (omega arith))

-- past names of which none is a hit
pass : (ms ns : List ℕ) (n : ℕ) → are_all (is_other n) ms ≡ true → find_name (ms ++ ns) n ≡ behind (length ms) (find_name ns n)
unfolding find_name
pass [] ns n e = find_all ns n
pass (m ∷ ms) ns n e = go (eqb m n) (pass ms ns n) e
  where
    go : (b : Bool) → (are_all (is_other n) ms ≡ true → find_name (ms ++ ns) n ≡ behind (length ms) (find_name ns n)) → (not b && are_all (is_other n) ms) ≡ true
        → cond b hit_at_once (further (find_name (ms ++ ns) n)) ≡ behind (suc (length ms)) (find_name ns n)
    go true f e = absurd (fails (sym e) tt)
    go false f e = ap further (f e) ∙ same_search (omega arith) (omega arith)

-- the same of the first so many of a list
pass_first : (ms : List ℕ) (k n : ℕ) → k ≤ length ms → are_all (is_other n) (take k ms) ≡ true → find_name ms n ≡ behind k (find_name (drop k ms) n)
pass_first ms k n h e =
    ap (λ xs. find_name xs n) (sym (take-append-drop k ms)) ∙ pass (take k ms) (drop k ms) n e ∙ ap (λ l. behind l (find_name (drop k ms) n)) (length-take-le k ms h)

-- a step of a search by its places: from one to a later one, past names of which none is a hit
pub find_past : (ns : List ℕ) (i j n : ℕ) → i ≤ j → j ≤ length ns → are_all (is_other n) (take (j - i) (drop i ns)) ≡ true
    → behind i (find_name (drop i ns) n) ≡ behind j (find_name (drop j ns) n)
find_past ns i j n h l e =
    let d : i + (j - i) ≡ j = omega arith in
    ap (behind i) (pass_first (drop i ns) (j - i) n (omega (arith, length-drop i ns)) e) ∙ rw (drop-drop (j - i) i ns, d) (same_search (omega arith) (omega arith))

-- The first so many names are no hit, and these are left.
pub record Passed (ns : List ℕ) (n i : ℕ) (left : List ℕ) : Type 0 where
  pub left_is : left ≡ drop i ns
  pub within : i ≤ length ns
  pub search : find_name ns n ≡ behind i (find_name left n)

pub pass_none : (ns : List ℕ) (n : ℕ) (left : List ℕ) → left ≡ ns → Passed ns n 0 left
pass_none ns n left e = record {
  left_is = e;
  within = omega arith;
  search = rw e (find_all ns n);
}

pub passed_search : (ns : List ℕ) (n i : ℕ) (left : List ℕ) → Passed ns n i left → (i ≤ length ns) × (find_name ns n ≡ behind i (find_name (drop i ns) n))
passed_search ns n i left p = (p.within, rw (← p.left_is) p.search)

pub pass_step : (ns : List ℕ) (n i k : ℕ) (left ms after : List ℕ) → Passed ns n i left → left ≡ ms ++ after → length ms ≡ k → are_all (is_other n) ms ≡ true → Passed ns n (i + k) after
pass_step ns n i k left ms after p e l o = record {
  left_is = sym (drop_back ms after) ∙ rw (l, ← e, p.left_is, drop-drop k i ns);
  within = omega (arith, length-drop i ns, ap (length {A = ℕ}) (sym p.left_is ∙ e), length-append ms after);
  search = p.search ∙ rw e (ap (behind i) (pass ms after n o) ∙ rw l (same_search (omega arith) (omega arith)));
}
  where
    drop_back : (xs ys : List ℕ) → drop (length xs) (xs ++ ys) ≡ ys
    drop_back [] ys = refl
    drop_back (x ∷ xs) ys = drop_back xs ys

pub find_end : (ns : List ℕ) (i n : ℕ) → length ns ≤ i → behind i (find_name (drop i ns) n) ≡ record { hit = false; place = i; compared = i }
unfolding find_name
find_end ns i n h = rw (drop_of_length-le ns h) (same_search (omega arith) (omega arith))

-- ---- tests along a list that have no way out before its end: what is known, and what is left
pub test_next : {whole left : Bool} (good p after : Bool) → whole ≡ (good && left) → left ≡ (p && after) → whole ≡ (good && p && after)
test_next good p after e f = e ∙ rw f (sym (and_assoc good p after))

pub test_end : {whole left : Bool} (good : Bool) → whole ≡ (good && left) → left ≡ true → good ≡ whole
test_end good e f = sym (e ∙ rw f (and-true good))

pub all_next : {A : Type 0} (p : A → Bool) (xs : List A) (i : ℕ) (d : A) → i < length xs → are_all p (drop i xs) ≡ (p (get_or xs i d) && are_all p (drop (i + 1) xs))
all_next p xs i d h = rw (rest xs i d h)

pub all_none : {A : Type 0} (p : A → Bool) (xs : List A) (i : ℕ) → length xs ≤ i → are_all p (drop i xs) ≡ true
all_none p xs i h = rw (drop_of_length-le xs h)

-- the same of a test that goes to the end
pub all_more : {A : Type 0} (p : A → Bool) (xs : List A) (i : ℕ) (d : A) (good : Bool) → i < length xs → are_all p xs ≡ (good && are_all p (drop i xs))
    → are_all p xs ≡ ((good && p (get_or xs i d)) && are_all p (drop (i + 1) xs))
all_more p xs i d good h e = test_next good (p (get_or xs i d)) (are_all p (drop (i + 1) xs)) e (all_next p xs i d h)

pub all_done : {A : Type 0} (p : A → Bool) (xs : List A) (i : ℕ) (good : Bool) → length xs ≤ i → are_all p xs ≡ (good && are_all p (drop i xs)) → good ≡ are_all p xs
all_done p xs i good h e = test_end good e (all_none p xs i h)

-- ---- the first place of a name
-- a name is there, and not before
pub place_holds : (ns : List ℕ) (n : ℕ) → place_of ns n < length ns → get_or ns (place_of ns n) 0 ≡ n
unfolding place_of
place_holds [] n = λ h. absurd (omega arith)
place_holds (m ∷ ms) n = go (eqb m n) refl (place_holds ms n)
  where
    go : (b : Bool) → eqb m n ≡ b → {p l : ℕ} → (p < l → get_or ms p 0 ≡ n) → cond b 0 (suc p) < suc l → get_or (m ∷ ms) (cond b 0 (suc p)) 0 ≡ n
    go true e f h = eqb-true m n e
    go false e f h = f (omega arith)

pub place_first : (ns : List ℕ) (n i : ℕ) → i < place_of ns n → get_or ns i 0 ≡ n → ⊥
unfolding place_of
place_first [] n i = λ h. absurd (omega arith)
place_first (m ∷ ms) n i = go (eqb m n) refl (place_first ms n) i
  where
    go : (b : Bool) → eqb m n ≡ b → {p : ℕ} → ((i : ℕ) → i < p → get_or ms i 0 ≡ n → ⊥) → (i : ℕ) → i < cond b 0 (suc p) → get_or (m ∷ ms) i 0 ≡ n → ⊥
    go true e f i h = absurd (omega arith)
    go false e f zero h = eqb-false m n e
    go false e f (suc i) h = f i (omega arith)

-- one that is among the names has its first place among them
pub place_below : (ns : List ℕ) (i : ℕ) → i < length ns → place_of ns (get_or ns i 0) < length ns
unfolding place_of
place_below [] i h = absurd (omega arith)
place_below (n ∷ ns) zero h = rw (eq-eqb n n refl) (omega arith)
place_below (n ∷ ns) (suc i) h = go (eqb n (get_or ns i 0)) (place_below ns i (omega arith))
  where
    go : (b : Bool) {p m : ℕ} → p < m → cond b 0 (suc p) < suc m
    go true h = omega arith
    go false h = omega arith

-- ---- names of which none comes twice differ
pub neither : (a b : Bool) → (a || b) ≡ false → (a ≡ false) × (b ≡ false)
neither true b h = absurd (fails h tt)
neither false b h = (refl, h)

pub once_differ : (ns : List ℕ) → has_twice ns ≡ false → (i j : ℕ) → i < length ns → j < length ns → get_or ns i 0 ≡ get_or ns j 0 → i ≡ j
unfolding has_twice
once_differ [] o = λ i j h k e. absurd (omega arith)
once_differ (n ∷ ns) o = go (once_differ ns rests.1)
  where
    rests : (is_among n ns ≡ false) × (has_twice ns ≡ false)
    rests = neither (is_among n ns) (has_twice ns) o

    -- the first is not among the others
    first : (j : ℕ) → j < length ns → get_or ns j 0 ≡ n → ⊥
    first j k e = absurd (omega (arith, place_below ns j k, ltb-false (place_of ns n) (length ns) rests.0, ap (place_of ns) e))

    go : ((i j : ℕ) → i < length ns → j < length ns → get_or ns i 0 ≡ get_or ns j 0 → i ≡ j) → (i j : ℕ) → i < suc (length ns) → j < suc (length ns)
        → get_or (n ∷ ns) i 0 ≡ get_or (n ∷ ns) j 0 → i ≡ j
    go others zero zero h k e = refl
    go others zero (suc j) h k e = absurd (first j (omega arith) (sym e))
    go others (suc i) zero h k e = absurd (first i (omega arith) e)
    go others (suc i) (suc j) h k e = ap suc (others i j (omega arith) (omega arith) e)
