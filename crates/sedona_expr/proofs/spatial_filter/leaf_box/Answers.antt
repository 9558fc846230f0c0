-- `spatial_filter::leaf_box` meets its contract. Assumes nothing.
use mathlib.Core.Path.{◌≡◌, refl, sym, ◌∙◌}
use mathlib.Core.Bool.{Bool, true, false, cond}
use native.Mathlib.Omega.{arith}
use Prim.Native.Nat.{ℕ}
use lib.Dec.{eqb}
use borrow.Author.Tests.{eq-eqb, ne_eqb}
use Rattle.sedona_expr.specs.SpatialFilter.{full, box_for, has_z, intersects, covers}
use Rattle.sedona_expr.specs.Tables.{Table, word, kind, column_of, literal, leaf_of, leaf_at}
use Rattle.sedona_expr.specs.declared.tables.Kind.{Kind}
use Rattle.sedona_expr.proofs.NodeKinds.{word_is, word_is_not}
use Rattle.sedona_expr.proofs.Trees.{box_of_leaf}
use Rattle.sedona_expr.proofs.spatial_filter.leaf_box.Goals as goal

-- Where the name is another, the box is full, whatever the kind.
other_name : (t : Table) (name n : ℕ) → (word t.nodes n 2 ≡ name → ⊥) → full ≡ box_for name (leaf_at t n)
unfolding leaf_at
other_name t name n d = go (eqb (kind t.nodes n) 2)
  where
    go : (b : Bool)
        → full ≡ box_for name (cond b (has_z (column_of t.nodes n)) (leaf_of (kind t.nodes n) (intersects (column_of t.nodes n) (literal t n)) (covers (column_of t.nodes n) (literal t n))))
    go true = refl
    go false = sym (box_of_leaf name (kind t.nodes n) (column_of t.nodes n) (literal t n) ∙ rw (ne_eqb (word t.nodes n 2) name d))

pub returns-then-word-name : goal.returns-then-word-name
returns-then-word-name c =
    rw c.full.ensures (other_name _ _ _ (λ e. c.if-word-name.true (c.word.ensures ∙ e)))

pub returns-in-HasZ : goal.returns-in-HasZ
unfolding leaf_at
returns-in-HasZ c = rw (c.full-in-HasZ.ensures, word_is 2 _ (omega arith) c.in-HasZ.ensures)

pub returns-in_default : goal.returns-in_default
unfolding leaf_at
returns-in_default c =
    rw (c.literal_of.ensures, ne_eqb _ 2 (word_is_not Kind.HasZ c.kind.result _ c.in_default.not-HasZ c.kind.ensures)) (sym (box_of_leaf _ _ _ _ ∙ rw (← c.word.ensures, eq-eqb _ _ c.if-word-name.false)))
