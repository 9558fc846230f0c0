-- What the refusals let pass: as many words as make 1 node to 1,024, so many doubles a flag; and `filter_bbox` refuses no table that a filter call takes.
-- Assumes nothing.
use Rattle.sedona_expr.specs.Error.{number_is_not_zero}
use mathlib.Core.Path.{◌≡◌, refl, sym, subst, ◌∙◌}
use mathlib.Core.Bool.{Bool, true, false, not, ◌&&◌, ◌||◌, cond}
use mathlib.Core.List.{List}
use Prim.Native.Nat.{ℕ, zero, suc, ◌+◌, ◌*◌, ◌/◌, ◌%◌, ◌≤◌, ◌<◌}
use native.Mathlib.Numerals.{add-one}
use native.Mathlib.Omega.{arith}
use lib.Dec.{eqb, ltb}
use lib.ListN.{length}
use borrow.Author.Tests.{eqb-true, eqb-false, eq-eqb, ne_eqb, ltb-true, ltb-false}
use Rattle.std.specs.Prelude.{Result, ⊤}
use Rattle.std.specs.Result.{IsErrAnd}
use Rattle.std.proofs.lemmas.Result.{err_from_is_err_and}
use Rattle.sedona_geometry.proofs.Booleans.{fails}
use Rattle.sedona_expr.specs.Within.{HaveMarks}
use Rattle.sedona_expr.specs.Error as error
use Rattle.sedona_expr.specs.Calls.{outcome}
use Rattle.sedona_expr.specs.declared.spatial_filter.Evaluation.{Evaluation}
use Rattle.sedona_expr.specs.Tables.{ends, Records, Table, Lookup, kind, word, count, is_pair, is_leaf, are_below}
use Rattle.sedona_expr.specs.declared.error.Refusal.{Refusal}
use Rattle.sedona_expr.specs.declared.refusals.Lent.{Lent}
use Rattle.sedona_expr.specs.Refusals.{or_else, refuse_if, words_refusal, any, columns_of, lent_to, is_lent, column_refusal, leaf_refusal, pair_refusal, node_refusal, nodes_refusal, uses_refusal, table_refusal, tree_refusal, records_refusal, refusal, box_refusal}

-- ---- so many doubles a flag, by quotient and remainder
pub not_in_boxes : (d f : ℕ) → (d % ends ≡ 0 → ⊥) → eqb d (ends * f) ≡ false
not_in_boxes d f h = ne_eqb d (ends * f) (λ e. h (omega arith))

pub in_boxes : (d f : ℕ) → d % ends ≡ 0 → eqb (d / ends) f ≡ eqb d (ends * f)
in_boxes d f h = go (eqb (d / ends) f) refl
  where
    go : (b : Bool) → eqb (d / ends) f ≡ b → b ≡ eqb d (ends * f)
    go true e = sym (eq-eqb d (ends * f) (omega (arith, eqb-true (d / ends) f e)))
    go false e =
        let n : (d / ends ≡ f → ⊥) = eqb-false (d / ends) f e in
        sym (ne_eqb d (ends * f) (λ k. n (omega arith)))

-- ---- the first of two numbers that is not 0
-- where a test of the first, n, was on the way
pub or_else_stop : {m n : ℕ} (k : ℕ) → n ≡ m → (n ≡ 0 → ⊥) → n ≡ or_else m k
unfolding or_else
or_else_stop {m} {n} k e h = rw (← e, ne_eqb n 0 h)

pub or_else_next : {m n k o : ℕ} → n ≡ m → n ≡ 0 → o ≡ k → o ≡ or_else m k
unfolding or_else
or_else_next e h f = rw (← e, h) f

-- where the check of the first refused, by e: r is what its `?` answers
pub stop : {m : ℕ} (r : Result ⊤ Refusal) (e : Refusal) (k : ℕ) → IsErrAnd r (λ y. y ≡ e) → error.number e ≡ m → error.number_of r ≡ or_else m k
stop r e k is h =
    let p = err_from_is_err_and r is in
    rw (p.1, p.2) (or_else_stop k h (number_is_not_zero e))

-- and so an answer is refused
pub refused : {n : ℕ} (r : Result Evaluation Refusal) (e : Refusal) (b : Bool) → IsErrAnd r (λ y. y ≡ e) → error.number e ≡ n → error.with_number r ≡ outcome n b
unfolding outcome
refused r e b is h =
    let p = err_from_is_err_and r is in
    rw (p.1, p.2, ← h, ne_eqb (error.number e) 0 (number_is_not_zero e))

-- where it let pass
pub next : {m k o : ℕ} → 0 ≡ m → o ≡ k → o ≡ or_else m k
next h f = or_else_next h refl f

-- it is 0 where both are
pub or_else_zero : (m n : ℕ) → or_else m n ≡ 0 → (m ≡ 0) × (n ≡ 0)
unfolding or_else
or_else_zero m n = go (eqb m 0) refl
  where
    go : (b : Bool) → eqb m 0 ≡ b → cond b n m ≡ 0 → (m ≡ 0) × (n ≡ 0)
    go true e z = (eqb-true m 0 e, z)
    go false e z = absurd (eqb-false m 0 e z)

or_else_last : (m : ℕ) → m ≡ or_else m 0
unfolding or_else
or_else_last m = go (eqb m 0) refl
  where
    go : (b : Bool) → eqb m 0 ≡ b → m ≡ cond b 0 m
    go true e = eqb-true m 0 e
    go false e = refl

-- ---- nodes upward, where nothing refuses those before n; k is what a test of n gave
module _ (ns : List ℕ) (lent : Lent) (n : ℕ) {k : ℕ} (z : nodes_refusal ns lent n ≡ 0) (e : k ≡ node_refusal ns lent n) where
  pub nodes_next : k ≡ 0 → nodes_refusal ns lent (n + 1) ≡ 0
  nodes_next h = rw (add-one n) (sym (or_else_next refl z (sym h ∙ e)))

  -- the first number that is not 0 is that of all
  pub nodes_stop : (c : ℕ) → n < c → (k ≡ 0 → ⊥) → k ≡ nodes_refusal ns lent c
  nodes_stop zero l d = absurd (omega arith)
  nodes_stop (suc c) l d = go (eqb n c) refl (nodes_stop c)
    where
      go : (b : Bool) → eqb n c ≡ b → (n < c → (k ≡ 0 → ⊥) → k ≡ nodes_refusal ns lent c) → k ≡ nodes_refusal ns lent (suc c)
      go true q f =
          let s : n ≡ c = eqb-true n c q in
          or_else_next refl (subst (λ (m : ℕ). nodes_refusal ns lent m ≡ 0) s z) (subst (λ (m : ℕ). k ≡ node_refusal ns lent m) s e)
      go false q f =
          let u : (n ≡ c → ⊥) = eqb-false n c q in
          or_else_stop (node_refusal ns lent c) (f (omega arith) d) d

-- the children of a node that passes have marks
pub children_marked : (ns : List ℕ) (lent : Lent) (n : ℕ) → n ≤ 1024 → node_refusal ns lent n ≡ 0 → HaveMarks ns n
unfolding node_refusal pair_refusal are_below
children_marked ns lent n h z p =
    let b = below (ltb (word ns n 1) n) (ltb (word ns n 2) n) (pair (ltb 6 (kind ns n)) (eqb (kind ns n) 2) refl (rw p at z)) in
    (omega (arith, ltb-true (word ns n 1) n b.0), omega (arith, ltb-true (word ns n 2) n b.1))
  where
    pair : (a b : Bool) → eqb (kind ns n) 2 ≡ b → cond a error.unknown_kind (cond b (column_refusal ns lent n) (pair_refusal ns n)) ≡ 0 → pair_refusal ns n ≡ 0
    pair true b e q = absurd (omega arith)
    pair false true e q = absurd (fails (sym (rw (eqb-true (kind ns n) 2 e) at p)) tt)
    pair false false e q = q

    below : (a b : Bool) → refuse_if (not (a && b)) error.bad_tree ≡ 0 → (a ≡ true) × (b ≡ true)
    below true true q = (refl, refl)
    below true false q = absurd (omega arith)
    below false b q = absurd (omega arith)

-- one node has no child to count
pub one_node : (ns : List ℕ) (lent : Lent) → count ns ≡ 1 → node_refusal ns lent 0 ≡ tree_refusal ns lent
unfolding tree_refusal uses_refusal
one_node ns lent e = rw e (or_else_next refl refl refl ∙ or_else_last _)

-- as many words as pass make 1 node to 1,024
words_pass : (ns : List ℕ) → words_refusal ns ≡ 0 → (1 ≤ count ns) × (length ns ≤ 4096)
unfolding words_refusal
words_pass ns = go (eqb (length ns) 0) (eqb (length ns % 4) 0) (ltb 4096 (length ns)) refl refl refl
  where
    go : (a b c : Bool) → eqb (length ns) 0 ≡ a → eqb (length ns % 4) 0 ≡ b → ltb 4096 (length ns) ≡ c → refuse_if (a || not b || c) error.words ≡ 0
        → (1 ≤ count ns) × (length ns ≤ 4096)
    go true b c e f g z = absurd (omega arith)
    go false false c e f g z = absurd (omega arith)
    go false true true e f g z = absurd (omega arith)
    go false true false e f g z =
        let d : (length ns ≡ 0 → ⊥) = eqb-false (length ns) 0 e in
        (omega (arith, eqb-true (length ns % 4) 0 f), ltb-false 4096 (length ns) g)

pub table_pass : (t : Table) → table_refusal t ≡ 0 → (1 ≤ count t.nodes) × (length t.nodes ≤ 4096)
unfolding table_refusal
table_pass t h = words_pass t.nodes (or_else_zero (words_refusal t.nodes) _ h).0

pub refusal_pass : (l : Lookup) (t : Table) (r : Records) → refusal l t r ≡ 0 → (1 ≤ count t.nodes) × (length t.nodes ≤ 4096)
unfolding refusal
refusal_pass l t r h = table_pass t (or_else_zero (table_refusal t) _ h).0

pub box_refusal_pass : (t : Table) → box_refusal t ≡ 0 → (1 ≤ count t.nodes) × (length t.nodes ≤ 4096)
unfolding box_refusal
box_refusal_pass t h = table_pass t (or_else_zero (table_refusal t) _ h).0

-- ---- which numbers are 0
or_else_none : {m n : ℕ} → m ≡ 0 → n ≡ 0 → or_else m n ≡ 0
unfolding or_else
or_else_none p q = rw (p, q)

cond_none : (b : Bool) {m n o p : ℕ} → (m ≡ 0 → o ≡ 0) → (n ≡ 0 → p ≡ 0) → cond b m n ≡ 0 → cond b o p ≡ 0
cond_none true f g h = f h
cond_none false f g h = g h

-- ---- node by node, where any column is taken as lent
module _ (ns : List ℕ) (literals columns : ℕ) where
  abbrev lent : Lent
  lent = record { literals = literals; columns = columns }

  abbrev free : Lent
  free = record { literals = literals; columns = any }

  column_none : (n : ℕ) → column_refusal ns free n ≡ 0
  unfolding column_refusal is_lent
  column_none n = refl

  leaf_none : (n : ℕ) → leaf_refusal ns lent n ≡ 0 → leaf_refusal ns free n ≡ 0
  unfolding leaf_refusal
  leaf_none n = cond_none (is_lent literals (word ns n 3)) (λ h. column_none n) (λ h. h)

  node_none : (n : ℕ) → node_refusal ns lent n ≡ 0 → node_refusal ns free n ≡ 0
  unfolding node_refusal
  node_none n =
      cond_none (ltb 6 (kind ns n)) (λ h. h)
      (cond_none (eqb (kind ns n) 2) (λ h. column_none n) (cond_none (is_pair (kind ns n)) (λ h. h) (cond_none (is_leaf (kind ns n)) (leaf_none n) (λ h. h))))

  nodes_none : (n : ℕ) → nodes_refusal ns lent n ≡ 0 → nodes_refusal ns free n ≡ 0
  nodes_none zero h = refl
  nodes_none (suc n) h =
      let b = or_else_zero (nodes_refusal ns lent n) (node_refusal ns lent n) h in
      or_else_none (nodes_none n b.0) (node_none n b.1)

  tree_none : tree_refusal ns lent ≡ 0 → tree_refusal ns free ≡ 0
  unfolding tree_refusal
  tree_none h =
      let b = or_else_zero (nodes_refusal ns lent (count ns)) (uses_refusal ns) h in
      or_else_none (nodes_none (count ns) b.0) b.1

-- ---- the whole table
pub box_not_refused : (l : Lookup) (t : Table) (r : Records) → refusal l t r ≡ 0 → box_refusal t ≡ 0
unfolding refusal box_refusal
box_not_refused l t r h =
    let columns = columns_of l (length r.boxes.flags) in
    let tree = tree_refusal t.nodes (lent_to t columns) in
    let a = or_else_zero (table_refusal t) (or_else (records_refusal l r) tree) h in
    let b = or_else_zero (records_refusal l r) tree a.1 in
    or_else_none a.0 (tree_none t.nodes (length t.literals.flags) columns b.1)
