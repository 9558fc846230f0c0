-- `refusals::tree_refusal` meets its contract: nothing refuses the nodes so far, and the marks count their uses. Assumes nothing.
use mathlib.Core.Path.{◌≡◌, refl, sym, subst, ◌∙◌}
use mathlib.Core.Bool.{not}
use mathlib.Core.List.{List}
use Prim.Native.Nat.{ℕ, ◌≤◌, ◌-◌}
use native.Mathlib.Nat.{le_antisymm}
use native.Mathlib.Omega.{arith}
use lib.Dec.{eqb}
use lib.ListN.{length, get_or, get_or-replicate, length-replicate}
use Rattle.sedona_expr.specs.Within.{Counted}
use Rattle.sedona_expr.specs.Error as error
use Rattle.sedona_expr.specs.Tables.{count}
use Rattle.sedona_expr.specs.declared.refusals.Lent.{Lent}
use Rattle.sedona_expr.specs.Refusals.{refuse_if, nodes_refusal, uses, all_below, uses_refusal, tree_refusal}
use Rattle.sedona_expr.specs.Error.{number_is_not_zero}
use Rattle.sedona_expr.proofs.Passing.{or_else_next, stop, nodes_next, nodes_stop, one_node, children_marked}
use Rattle.sedona_expr.proofs.Marks.{marks_small, uses_next, marks_count_uses}
use Rattle.sedona_expr.proofs.refusals.tree_refusal.Goals as goal

-- where nothing refuses the nodes, the marks tell
marks_tell : (ns ms : List ℕ) (lent : Lent) (n : ℕ) → n ≤ count ns → count ns ≤ n → length ns ≤ 4096 → nodes_refusal ns lent n ≡ 0
    → Counted ms (uses ns n) → refuse_if (not (all_below (λ m. eqb (get_or ms m 0) 1) (count ns - 1))) error.bad_tree ≡ tree_refusal ns lent
unfolding tree_refusal uses_refusal
marks_tell ns ms lent n h k l z c = or_else_next refl (subst (λ (m : ℕ). nodes_refusal ns lent m ≡ 0) (le_antisymm h k) z) (rw (marks_count_uses ns ms n h k l c))

pub returns-then-count-eq1 : goal.returns-then-count-eq1
returns-then-count-eq1 c =
    let args = c.args in
    c.node_refusal.ensures ∙ one_node args.table.now.nodes.now args.lent (sym c.count-count.ensures ∙ c.if-count-eq1.true)

pub loop-node-init : goal.loop-node-init
loop-node-init c = (refl, (length-replicate {A = ℕ} 1024 0, λ m h. get_or-replicate 1024 m 0 0 h))

pub returns-in_err-node_refusal : goal.returns-in_err-node_refusal
unfolding tree_refusal
returns-in_err-node_refusal c =
    let args = c.args in
    let loop = c.loop-node in
    stop _ _ _ c.from_residual.ensures.1
    (nodes_stop args.table.now.nodes.now args.lent loop.node loop.invariant.0 c.in_err-node_refusal.ensures (count args.table.now.nodes.now) (omega arith) (number_is_not_zero _))

pub mark_children-requires : goal.mark_children-requires
mark_children-requires c =
    let loop = c.loop-node in (
      marks_small loop.marks c.args.table.now.nodes.now loop.node (omega (arith, c.requires.1)) loop.invariant.1,
      (omega arith, children_marked c.args.table.now.nodes.now c.args.lent loop.node (omega (arith, c.requires.1)) (sym c.in_ok-node_refusal.ensures)),
    )

pub loop-node-preserved : goal.loop-node-preserved
loop-node-preserved c =
    let args = c.args in
    let loop = c.loop-node in (
      nodes_next args.table.now.nodes.now args.lent loop.node loop.invariant.0 c.in_ok-node_refusal.ensures refl,
      uses_next args.table.now.nodes.now loop.marks c.mark_children.new.marks loop.node loop.invariant.1 c.mark_children.ensures,
    )

pub are_once-requires : goal.are_once-requires
are_once-requires c = omega (arith, c.requires.1)

pub returns-then-are_once : goal.returns-then-are_once
returns-then-are_once c =
    let loop = c.loop-node in
    rw (← c.count-count.ensures, ← c.are_once.ensures, c.if-are_once.true) at (marks_tell c.args.table.now.nodes.now loop.marks c.args.lent loop.node (omega arith) (omega arith) c.requires.1 loop.invariant.0 loop.invariant.1)

pub returns-else-are_once : goal.returns-else-are_once
returns-else-are_once c =
    let loop = c.loop-node in
    rw (← c.count-count.ensures, ← c.are_once.ensures, c.if-are_once.false) at (marks_tell c.args.table.now.nodes.now loop.marks c.args.lent loop.node (omega arith) (omega arith) c.requires.1 loop.invariant.0 loop.invariant.1)
