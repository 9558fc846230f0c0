-- What a caller of `find_name` relies on, and that no caller of the filter notices it. Assumes nothing.
use mathlib.Core.Path.{◌≡◌, refl, ap}
use mathlib.Core.Bool.{Bool, true, false, cond}
use mathlib.Core.List.{List, [], ◌∷◌}
use Prim.Native.Nat.{ℕ, suc, ◌<◌}
use native.Mathlib.Omega.{arith}
use lib.Dec.{eqb, ltb}
use lib.ListN.{length, get_or}
use borrow.Author.Tests.{ltb-true, ltb-false, lt-ltb, le-ltb}
use Rattle.sedona_expr.specs.Names.{hit_at_once, further, find_name, first_at, place_of}
use Rattle.sedona_expr.specs.SpatialFilter.{Column, Filter, intersects, covers, has_z, and, or, literal_false, unknown, answer}
use Rattle.sedona_expr.specs.Tables.{Records, record_at, Table, root, by_name, place, record_of}
use Rattle.sedona_expr.specs.Refusals.{refusal}
use Rattle.sedona_expr.specs.Calls.{outcome, evaluate}
use Rattle.sedona_expr.specs.declared.tables.ColumnRecord.{ColumnRecord}
use Rattle.sedona_expr.proofs.Searches.{same_search, place_holds, place_first, place_below}

first_behind : (p l : ℕ) → further (first_at p l) ≡ first_at (suc p) (suc l)
first_behind p l = go (ltb p l) refl
  where
    go : (b : Bool) → ltb p l ≡ b → further (first_at p l) ≡ first_at (suc p) (suc l)
    go true e = rw (e, lt-ltb (suc p) (suc l) (omega (arith, ltb-true p l e))) (same_search refl (omega arith))
    go false e = rw (e, le-ltb (suc p) (suc l) (omega (arith, ltb-false p l e)))

-- the search as the places say it
pub find_counts : (ns : List ℕ) (n : ℕ) → find_name ns n ≡ first_at (place_of ns n) (length ns)
unfolding find_name place_of
find_counts [] n = refl
find_counts (m ∷ ms) n = rw (find_counts ms n) (go (eqb m n))
  where
    go : (b : Bool) → cond b hit_at_once (further (first_at (place_of ms n) (length ms))) ≡ first_at (cond b 0 (suc (place_of ms n))) (suc (length ms))
    go true = rw (lt-ltb 0 (suc (length ms)) (omega arith)) refl
    go false = first_behind (place_of ms n) (length ms)

-- a hit: the place is below the number of names, has the name, and no place before has it
pub hit_is_first : (ns : List ℕ) (n : ℕ) → (find_name ns n).hit ≡ true
    → ((find_name ns n).place < length ns) × ((get_or ns (find_name ns n).place 0 ≡ n) × ((i : ℕ) → i < (find_name ns n).place → get_or ns i 0 ≡ n → ⊥))
hit_is_first ns n = rw (find_counts ns n) (λ h. let l = ltb-true (place_of ns n) (length ns) h in (l, (place_holds ns n l, place_first ns n)))

-- none: no place has the name
pub no_hit : (ns : List ℕ) (n : ℕ) → (find_name ns n).hit ≡ false → (i : ℕ) → i < length ns → get_or ns i 0 ≡ n → ⊥
no_hit ns n = rw (find_counts ns n) (λ h i l e. absurd (omega (arith, ltb-false (place_of ns n) (length ns) h, place_below ns i l, ap (place_of ns) e)))

-- ---- the filter by name
answer_same : (r s : Column → ColumnRecord) → ((c : Column) → r c ≡ s c) → (f : Filter) → answer r f ≡ answer s f
answer_same r s e (intersects c k) = rw (e c)
answer_same r s e (covers c k) = rw (e c)
answer_same r s e (has_z c) = rw (e c)
answer_same r s e (and f g) = rw (answer_same r s e f, answer_same r s e g)
answer_same r s e (or f g) = rw (answer_same r s e f, answer_same r s e g)
answer_same r s e literal_false = refl
answer_same r s e unknown = refl

-- "no caller of the filter should notice": the definition by name, which is what it was, gives the answer of the leaves whose records are where the
-- search finds their names, numbers included.
pub no_caller_notices : (ns : List ℕ) (t : Table) (r : Records)
    → evaluate (by_name ns) t r ≡ outcome (refusal (by_name ns) t r) (answer (λ c. record_at r (find_name ns c.name).place) (root t))
unfolding place
no_caller_notices ns t r = ap (outcome (refusal (by_name ns) t r)) (answer_same (record_of (by_name ns) r) (λ c. record_at r (find_name ns c.name).place) found (root t))
  where
    found : (c : Column) → record_at r (place_of ns c.name) ≡ record_at r (find_name ns c.name).place
    found c = rw (find_counts ns c.name)

-- ---- the hypotheses can be met
-- 4 is at the second place of these, and 5 is at none.
abbrev names : List ℕ
names = 7 ∷ 4 ∷ 9 ∷ 4 ∷ []

pub four_is_second : (1 < length names) × ((get_or names 1 0 ≡ 4) × ((i : ℕ) → i < 1 → get_or names i 0 ≡ 4 → ⊥))
unfolding find_name
four_is_second = hit_is_first names 4 refl

pub five_is_none : (i : ℕ) → i < length names → get_or names i 0 ≡ 5 → ⊥
unfolding find_name
five_is_none = no_hit names 5 refl
