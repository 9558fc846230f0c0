-- `spatial_filter::box_for` meets its contract, by the kind of the node. Assumes nothing.
use mathlib.Core.Path.{sym, subst, ◌∙◌}
use native.Mathlib.Omega.{arith}
use Prim.Native.Nat.{ℕ, ◌<◌}
use Rattle.sedona_expr.specs.SpatialFilter.{box_for}
use Rattle.sedona_expr.specs.Spelled.{table}
use Rattle.sedona_expr.specs.declared.tables.Kind.{Kind}
use Rattle.sedona_expr.proofs.NodeKinds.{word_is, word_is_not, leaf_is, leaf_is_not}
use Rattle.sedona_expr.proofs.Trees.{HasChildren, found_children, says_leaf, says_childless, says_false, says_pair, pair_and, pair_or}
use Rattle.sedona_expr.proofs.spatial_filter.+box_for.Goals as goal

pub returns-in-Intersects : goal.returns-in-Intersects
returns-in-Intersects t c =
    let a = c.args in
    c.leaf_box.ensures ∙ sym (says_leaf (box_for a.name) (table a.table.now) a.node (leaf_is c.kind-kind.result _ c.kind-kind.ensures c.in-Intersects.is))

pub returns-in_default-children_of : goal.returns-in_default-children_of
returns-in_default-children_of t c =
    let a = c.args in
    let d = c.in_default in
    let k = c.kind-kind in
    c.full.ensures
    ∙ sym (says_childless (box_for a.name) (table a.table.now) a.node (leaf_is_not k.result _ k.ensures d.not-Intersects d.not-Covers d.not-HasZ) (word_is_not Kind.LiteralFalse k.result _ d.not-LiteralFalse k.ensures) c.in_default-children_of.ensures)

pub box_for-a-requires : goal.box_for-a-requires
box_for-a-requires t c =
    let a = c.args in
    let has : HasChildren a.table.now.nodes.now a.node c.in-Some.pair = found_children _ _ _ c.in-Some.ensures in
    (subst (λ (n : ℕ). c.in-Some.pair.left < n) c.decreases has.left_below, omega (arith, c.requires, has.left_below))

pub box_for-b-requires : goal.box_for-b-requires
box_for-b-requires t c =
    let a = c.args in
    let has : HasChildren a.table.now.nodes.now a.node c.in-Some.pair = found_children _ _ _ c.in-Some.ensures in
    (subst (λ (n : ℕ). c.in-Some.pair.right < n) c.decreases has.right_below, omega (arith, c.requires, has.right_below))

pub returns-in-And : goal.returns-in-And
returns-in-And t c =
    let a = c.args in
    let has : HasChildren a.table.now.nodes.now a.node c.in-Some.pair = found_children _ _ _ c.in-Some.ensures in
    rw (c.intersection_or_full.ensures, c.box_for-a.ensures, c.box_for-b.ensures) (sym (says_pair (box_for a.name) (table a.table.now) a.node c.in-Some.pair has ∙ pair_and _ _ _ (word_is 3 _ (omega arith) c.in-And.ensures)))

pub returns-in_default-kind : goal.returns-in_default-kind
returns-in_default-kind t c =
    let a = c.args in
    let has : HasChildren a.table.now.nodes.now a.node c.in-Some.pair = found_children _ _ _ c.in-Some.ensures in
    rw (c.merge_box.ensures, c.box_for-a.ensures, c.box_for-b.ensures) (sym (says_pair (box_for a.name) (table a.table.now) a.node c.in-Some.pair has ∙ pair_or _ _ _ (word_is_not Kind.And c.kind-kind.result _ c.in_default-kind.not-And c.kind-kind.ensures)))

pub returns-in-LiteralFalse : goal.returns-in-LiteralFalse
returns-in-LiteralFalse t c =
    let a = c.args in
    c.empty.ensures ∙ sym (says_false (box_for a.name) (table a.table.now) a.node (word_is 5 _ (omega arith) c.in-LiteralFalse.ensures))
