-- The trees that a table spells: of a node with children and of one without, and what these say. Assumes nothing.
use mathlib.Core.Path.{◌≡◌, refl, sym, subst, ap, ◌∙◌}
use mathlib.Core.Bool.{Bool, true, false, ◌&&◌, cond}
use mathlib.Core.List.{List}
use Prim.Native.Nat.{ℕ, zero, suc, ◌≤◌, ◌<◌}
use native.Mathlib.Omega.{arith}
use lib.Dec.{eqb, ltb}
use borrow.Author.Tests.{eqb-true, eqb-false, eq-eqb, ne_eqb, lt-ltb, le-ltb, ltb-true}
use Rattle.std.specs.Prelude.{Option, Some, None}
use Rattle.sedona_geometry.specs.declared.bounding_box.BoundingBox.{BoundingBox}
use Rattle.sedona_expr.specs.SpatialFilter.{Column, Filter, intersects, covers, and, or, literal_false, unknown, may_intersect, may_cover, answer, full, box_for}
use Rattle.sedona_expr.specs.Tables.{Table, word, kind, is_pair, leaf_of, pair_of, are_below, has_children, leaf_at, alone, tree_of, trees_below, tree_at}
use Rattle.sedona_expr.specs.Within.{children_of}
use Rattle.sedona_expr.specs.declared.tables.ColumnRecord.{ColumnRecord}
use Rattle.sedona_expr.specs.declared.tables.Pair.{Pair}

pub trees_below_lem : (t : Table) (n m : ℕ) → m < n → trees_below t n m ≡ tree_at t m
unfolding tree_at
trees_below_lem t zero m h = absurd (omega arith)
trees_below_lem t (suc n) m h = go (eqb m n) refl (λ k. trees_below_lem t n m k)
  where
    go : (b : Bool) → eqb m n ≡ b → (m < n → trees_below t n m ≡ tree_at t m) → cond b (tree_of t n (trees_below t n)) (trees_below t n m) ≡ tree_of t m (trees_below t m)
    go true e k = subst (λ (i : ℕ). tree_of t n (trees_below t n) ≡ tree_of t i (trees_below t i)) (sym (eqb-true m n e)) refl
    go false e k =
        let d : (m ≡ n → ⊥) = eqb-false m n e in
        k (omega arith)

pair_map : {A B : Type 0} (f : A → B) (k : ℕ) (a b : A) → f (pair_of k a b) ≡ pair_of k (f a) (f b)
unfolding pair_of
pair_map f k a b = go (eqb k 3)
  where
    go : (c : Bool) → f (cond c a b) ≡ cond c (f a) (f b)
    go true = refl
    go false = refl

pub pair_and : {A : Type 0} (k : ℕ) (a b : A) → k ≡ 3 → pair_of k a b ≡ a
unfolding pair_of
pair_and k a b e = rw (eq-eqb k 3 e)

pub pair_or : {A : Type 0} (k : ℕ) (a b : A) → (k ≡ 3 → ⊥) → pair_of k a b ≡ b
unfolding pair_of
pair_or k a b e = rw (ne_eqb k 3 e)

-- ---- a node with children, as the search for them tells
no_children : {p : Pair} → Some p ≡ None → ⊥
no_children e = cc

pub record HasChildren (ns : List ℕ) (n : ℕ) (p : Pair) : Type 0 where
  pub has : has_children ns n ≡ true
  pub left : p.left ≡ word ns n 1
  pub right : p.right ≡ word ns n 2
  pub left_below : p.left < n
  pub right_below : p.right < n

pub found_children : (ns : List ℕ) (n : ℕ) (p : Pair) → Some p ≡ children_of ns n → HasChildren ns n p
unfolding children_of has_children are_below
found_children ns n p e = go (is_pair (kind ns n)) (ltb (word ns n 1) n) (ltb (word ns n 2) n) refl refl refl e
  where
    is : Option Pair → Pair
    is None = p
    is (Some q) = q

    go : (a b c : Bool) → is_pair (kind ns n) ≡ a → ltb (word ns n 1) n ≡ b → ltb (word ns n 2) n ≡ c
        → Some p ≡ cond (a && (b && c)) (Some (record { left = word ns n 1; right = word ns n 2 })) None → HasChildren ns n p
    go true true true q r s e =
        let same = ap is e in
        record {
          has = rw (q, r, s);
          left = ap (λ (o : Pair). o.left) same;
          right = ap (λ (o : Pair). o.right) same;
          left_below = omega (arith, ltb-true (word ns n 1) n r, ap (λ (o : Pair). o.left) same);
          right_below = omega (arith, ltb-true (word ns n 2) n s, ap (λ (o : Pair). o.right) same);
        }
    go true true false q r s e = absurd (no_children e)
    go true false c q r s e = absurd (no_children e)
    go false b c q r s e = absurd (no_children e)

found_none : (ns : List ℕ) (n : ℕ) → None ≡ children_of ns n → has_children ns n ≡ false
unfolding children_of
found_none ns n = go (has_children ns n)
  where
    go : (a : Bool) → ◌≡◌ {A = Option Pair} None (cond a (Some (record { left = word ns n 1; right = word ns n 2 })) None) → a ≡ false
    go true e = absurd (no_children (sym e))
    go false e = refl

-- ---- what is said of a node's tree, for anything that is said of trees
-- a leaf is no pair
leaf_no_pair : (k : ℕ) → k ≤ 2 → is_pair k ≡ false
leaf_no_pair k h = rw (ne_eqb k 3 (λ e. absurd (omega arith)), ne_eqb k 4 (λ e. absurd (omega arith)))

module _ {B : Type 0} (say : Filter → B) (t : Table) (n : ℕ) where
  pub says_leaf : kind t.nodes n ≤ 2 → say (tree_at t n) ≡ say (leaf_at t n)
  unfolding tree_at tree_of has_children alone
  says_leaf h = rw (leaf_no_pair (kind t.nodes n) h, le-ltb 2 (kind t.nodes n) h)

  -- no leaf, no LiteralFalse, and no children
  pub says_childless : 2 < kind t.nodes n → (kind t.nodes n ≡ 5 → ⊥) → None ≡ children_of t.nodes n → say (tree_at t n) ≡ say unknown
  unfolding tree_at tree_of alone
  says_childless h d e = rw (found_none t.nodes n e, lt-ltb 2 (kind t.nodes n) h, ne_eqb (kind t.nodes n) 5 d)

  pub says_false : kind t.nodes n ≡ 5 → say (tree_at t n) ≡ say literal_false
  unfolding tree_at tree_of has_children alone
  says_false h = rw h

  pub says_unknown : 5 < kind t.nodes n → say (tree_at t n) ≡ say unknown
  unfolding tree_at tree_of has_children alone
  says_unknown h =
      let k = kind t.nodes n in
      rw (ne_eqb k 3 (λ e. absurd (omega arith)), ne_eqb k 4 (λ e. absurd (omega arith)), lt-ltb 2 k (omega arith), ne_eqb k 5 (λ e. absurd (omega arith)))

  pair_tree : (p : Pair) → HasChildren t.nodes n p
      → tree_at t n ≡ pair_of (kind t.nodes n) (and (tree_at t p.left) (tree_at t p.right)) (or (tree_at t p.left) (tree_at t p.right))
  unfolding tree_at tree_of
  pair_tree p h = rw (h.has, ← h.left, ← h.right, trees_below_lem t n p.left h.left_below, trees_below_lem t n p.right h.right_below)

  pub says_pair : (p : Pair) → HasChildren t.nodes n p
      → say (tree_at t n)
      ≡ pair_of (kind t.nodes n) (say (and (tree_at t p.left) (tree_at t p.right))) (say (or (tree_at t p.left) (tree_at t p.right)))
  says_pair p h = ap say (pair_tree p h) ∙ pair_map say (kind t.nodes n) (and (tree_at t p.left) (tree_at t p.right)) (or (tree_at t p.left) (tree_at t p.right))

-- ---- what a leaf says
pub answer_of_leaf : (own : Column → ColumnRecord) (k : ℕ) (c : Column) (l : BoundingBox) → answer own (leaf_of k (intersects c l) (covers c l)) ≡ leaf_of k (may_intersect (own c).bbox l) (may_cover (own c).bbox l)
unfolding leaf_of
answer_of_leaf own k c l = go (eqb k 0)
  where
    go : (b : Bool) → answer own (cond b (intersects c l) (covers c l)) ≡ cond b (may_intersect (own c).bbox l) (may_cover (own c).bbox l)
    go true = refl
    go false = refl

pub box_of_leaf : (name k : ℕ) (c : Column) (l : BoundingBox) → box_for name (leaf_of k (intersects c l) (covers c l)) ≡ cond (eqb c.name name) l full
unfolding leaf_of
box_of_leaf name k c l = go (eqb k 0)
  where
    go : (b : Bool) → box_for name (cond b (intersects c l) (covers c l)) ≡ cond (eqb c.name name) l full
    go true = refl
    go false = refl
