-- The leaves of a filter, and the literals of those that a table spells. Assumes nothing.
use mathlib.Core.Bool.{◌&&◌}
use mathlib.Core.List.{List, [], ◌∷◌}
use Prim.Native.Nat.{ℕ, zero, suc, ◌/◌, ◌+◌, ◌*◌}
use lib.Dec.{T, eqb, ltb}
use lib.ListN.{length, get_or}
use lib.Ieee.{nan, binary64, fits}
use lib.Ieee.Fits.{nan-fits}
use Rattle.sedona_geometry.specs.Interval as interval
use Rattle.sedona_geometry.specs.BoundingBox.{Doubles, WhereKnown, known_where}
use Rattle.sedona_geometry.specs.declared.bounding_box.BoundingBox.{BoundingBox}
use Rattle.sedona_geometry.proofs.Accepts.{new_doubles, plus_doubles}
use Rattle.sedona_geometry.proofs.Boxes.{plus_known_doubles}
use Rattle.sedona_geometry.proofs.Booleans.{of_cond}
use Rattle.sedona_geometry.specs.Lists.{All}
use Rattle.sedona_expr.specs.SpatialFilter.{Column, Filter, intersects, covers, has_z, and, or, literal_false, unknown}
use Rattle.sedona_expr.specs.Tables.{Boxes, ends, has_box, interval_at, box_with, box_at, or_empty, Table, kind, word, leaf_of, pair_of, has_children, leaf_at, alone, tree_of, trees_below, tree_at, knows_z, knows_m}
use Rattle.sedona_expr.specs.Demand.{Leaf, of_box, a_has_z, EachLeaf, OfLiteral}
use Rattle.sedona_expr.proofs.StraightBoxes.{empty_straight}

-- ---- any of a list
of_get_d : {A : Type 0} (P : A → Type 0) (xs : List A) (i : ℕ) {d : A} → P d → All P xs → P (get_or xs i d)
of_get_d P [] i p h = p
of_get_d P (x ∷ xs) zero p h = h.0
of_get_d P (x ∷ xs) (suc i) p h = of_get_d P xs i p h.1

-- ---- what follows from two facts of a leaf
pub leaves_zip : (P Q R : Leaf → Column → Type 0) → ((l : Leaf) (c : Column) → P l c → Q l c → R l c) → (f : Filter) → EachLeaf P f → EachLeaf Q f → EachLeaf R f
leaves_zip P Q R g (intersects c k) p q = g (of_box k) c p q
leaves_zip P Q R g (covers c k) p q = g (of_box k) c p q
leaves_zip P Q R g (has_z c) p q = g a_has_z c p q
leaves_zip P Q R g (and f h) p q = (leaves_zip P Q R g f p.0 q.0, leaves_zip P Q R g h p.1 q.1)
leaves_zip P Q R g (or f h) p q = (leaves_zip P Q R g f p.0 q.0, leaves_zip P Q R g h p.1 q.1)
leaves_zip P Q R g literal_false p q = tt
leaves_zip P Q R g unknown p q = tt

pub literal_zip : (P Q R : BoundingBox → Type 0) → ((k : BoundingBox) → P k → Q k → R k) → (l : Leaf) → OfLiteral P l → OfLiteral Q l → OfLiteral R l
literal_zip P Q R g (of_box k) p q = g k p q
literal_zip P Q R g a_has_z p q = tt

pub literal_map : (P R : BoundingBox → Type 0) → ((k : BoundingBox) → P k → R k) → (l : Leaf) → OfLiteral P l → OfLiteral R l
literal_map P R g l p = literal_zip P P R (λ k a b. g k a) l p p

-- ---- what is so of every literal of a table is so of the leaves that it spells
module _ (t : Table) (P : BoundingBox → Type 0) (every : (i : ℕ) → P (or_empty (box_at t.literals i))) where
  abbrev Every : Filter → Type 0
  Every f = EachLeaf (λ l c. OfLiteral P l) f

  leaves_of_node : (n : ℕ) (below : ℕ → Filter) → ((m : ℕ) → Every (below m)) → Every (tree_of t n below)
  unfolding tree_of alone leaf_at leaf_of pair_of
  leaves_of_node n below h =
      let k = kind t.nodes n in
      let l = h (word t.nodes n 1) in
      let r = h (word t.nodes n 2) in
      let e = every (word t.nodes n 3) in
      of_cond Every (has_children t.nodes n) (of_cond Every (eqb k 3) (l, r) (l, r))
      (of_cond Every (ltb 2 k) (of_cond Every (eqb k 5) tt tt) (of_cond Every (eqb k 2) tt (of_cond Every (eqb k 0) e e)))

  leaves_below : (n m : ℕ) → Every (trees_below t n m)
  leaves_below zero m = tt
  leaves_below (suc n) m = of_cond Every (eqb m n) (leaves_of_node n (trees_below t n) (leaves_below n)) (leaves_below n m)

  pub leaves_of_table : (n : ℕ) → Every (tree_at t n)
  unfolding tree_at
  leaves_of_table n = leaves_of_node n (trees_below t n) (leaves_below n)

-- ---- the ends of the literals are doubles
module _ (b : Boxes) (h : All (λ d. T (fits binary64 d)) b.doubles) where
  end_fits : (i : ℕ) → T (fits binary64 (get_or b.doubles i nan))
  end_fits i = of_get_d (λ d. T (fits binary64 d)) b.doubles i (nan-fits binary64) h

  interval_doubles : (i k : ℕ) → interval.Doubles (interval_at b.doubles i k)
  interval_doubles i k =
      let at = ends * i + 2 * k in
      new_doubles (get_or b.doubles at nan) (get_or b.doubles (at + 1) nan) (end_fits at) (end_fits (at + 1))

  box_doubles_lem : (i flag : ℕ) → Doubles (box_with b.doubles i flag)
  unfolding box_with
  box_doubles_lem i flag = record {
    x = plus_doubles (plus_doubles (interval_doubles i 0));
    y = plus_doubles (interval_doubles i 1);
    z = plus_known_doubles (known_where (knows_z flag) (interval_at b.doubles i 2)) (of_cond (WhereKnown interval.Doubles) (knows_z flag) (interval_doubles i 2) tt);
    m = plus_known_doubles (known_where (knows_m flag) (interval_at b.doubles i 3)) (of_cond (WhereKnown interval.Doubles) (knows_m flag) (interval_doubles i 3) tt);
  }

  pub literal_doubles : (i : ℕ) → Doubles (or_empty (box_at b i))
  unfolding or_empty box_at
  literal_doubles i =
      of_cond (λ o. Doubles (or_empty o)) (ltb i (length b.doubles / ends) && has_box (get_or b.flags i 0)) (box_doubles_lem i (get_or b.flags i 0)) empty_straight.doubles
