-- `spatial_filter::may_match` meets its contract, by the kind of the node. Assumes nothing.
use mathlib.Core.Path.{sym, subst, ap, ◌∙◌}
use mathlib.Core.Bool.{Bool}
use mathlib.Core.Logic.{⊎_elim}
use native.Mathlib.Omega.{arith}
use denote.Enum.Bare.{sameb}
use Rattle.sedona_expr.specs.contracts.tables.Kind.{the_type}
use Prim.Native.Nat.{ℕ, ◌<◌}
use Rattle.sedona_expr.specs.SpatialFilter.{Filter, answer}
use Rattle.sedona_expr.specs.Spelled as spelled
use Rattle.sedona_expr.specs.Spelled.{table, records, lookup}
use Rattle.sedona_expr.specs.Tables.{record_of}
use Rattle.sedona_expr.specs.declared.tables.Kind.{Kind}
use Rattle.sedona_expr.proofs.NodeKinds.{word_is, word_is_not, unknown_is, leaf_is, pair_is_two}
use Rattle.sedona_expr.proofs.Trees.{HasChildren, found_children, says_leaf, says_childless, says_false, says_unknown, says_pair, pair_and, pair_or}
use Rattle.sedona_expr.proofs.spatial_filter.+may_match.Goals as goal

is_unknown : Kind → Bool
is_unknown k = sameb the_type k Kind.Unknown

pub returns-in-Intersects : goal.returns-in-Intersects
returns-in-Intersects t c =
    let a = c.args in
    let says : Filter → Bool = answer (record_of (lookup a.lookup.now) (records a.records.now)) in
    c.leaf_may_match.ensures ∙ sym (says_leaf says (table a.table.now) a.node (leaf_is c.kind-kind.result _ c.kind-kind.ensures c.in-Intersects.is))

pub returns-in_default : goal.returns-in_default
returns-in_default t c =
    let a = c.args in
    let says : Filter → Bool = answer (record_of (lookup a.lookup.now) (records a.records.now)) in
    let two = pair_is_two c.kind-kind.result _ c.kind-kind.ensures c.in-And.is in
    let below = two.1 in
    sym (says_childless says (table a.table.now) a.node two.0 (λ e. absurd (omega (arith, below, e))) c.in_default.ensures)

pub may_match-a-requires : goal.may_match-a-requires
may_match-a-requires t c =
    let a = c.args in
    let has : HasChildren a.table.now.nodes.now a.node c.in-Some.pair = found_children _ _ _ c.in-Some.ensures in
    (subst (λ (n : ℕ). c.in-Some.pair.left < n) c.decreases has.left_below, omega (arith, c.requires, has.left_below))

pub may_match-b-requires : goal.may_match-b-requires
may_match-b-requires t c =
    let a = c.args in
    let has : HasChildren a.table.now.nodes.now a.node c.in-Some.pair = found_children _ _ _ c.in-Some.ensures in
    (subst (λ (n : ℕ). c.in-Some.pair.right < n) c.decreases has.right_below, omega (arith, c.requires, has.right_below))

pub returns-in-And-kind : goal.returns-in-And-kind
returns-in-And-kind t c =
    let a = c.args in
    let says : Filter → Bool = answer (record_of (lookup a.lookup.now) (records a.records.now)) in
    let has : HasChildren a.table.now.nodes.now a.node c.in-Some.pair = found_children _ _ _ c.in-Some.ensures in
    rw (c.may_match-a.ensures, c.may_match-b.ensures)
    (sym (says_pair says (table a.table.now) a.node c.in-Some.pair has ∙ (pair_and _ _ _ (word_is 3 _ (omega arith) c.in-And-kind.ensures))))

pub returns-in_default-kind : goal.returns-in_default-kind
returns-in_default-kind t c =
    let a = c.args in
    let says : Filter → Bool = answer (record_of (lookup a.lookup.now) (records a.records.now)) in
    let has : HasChildren a.table.now.nodes.now a.node c.in-Some.pair = found_children _ _ _ c.in-Some.ensures in
    rw (c.may_match-a.ensures, c.may_match-b.ensures)
    (sym (says_pair says (table a.table.now) a.node c.in-Some.pair has ∙ (pair_or _ _ _ (word_is_not Kind.And c.kind-kind.result _ c.in_default-kind.not-And c.kind-kind.ensures))))

pub returns-in-LiteralFalse : goal.returns-in-LiteralFalse
unfolding is_unknown
returns-in-LiteralFalse t c =
    let a = c.args in
    let says : Filter → Bool = answer (record_of (lookup a.lookup.now) (records a.records.now)) in
    ⊎_elim
    (λ e. c.eq.ensures ∙ (ap is_unknown e ∙ sym (says_false says (table a.table.now) a.node (word_is 5 _ (omega arith) (sym (ap spelled.kind e) ∙ c.kind-kind.ensures)))))
    (λ e. c.eq.ensures ∙ (ap is_unknown e ∙ sym (says_unknown says (table a.table.now) a.node (unknown_is _ (sym (ap spelled.kind e) ∙ c.kind-kind.ensures)))))
    c.in-LiteralFalse.is
