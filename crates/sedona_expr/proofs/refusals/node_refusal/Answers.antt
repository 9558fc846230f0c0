-- `refusals::node_refusal` meets its contract, by the kind of the node. Assumes nothing.
use mathlib.Core.Path.{◌∙◌}
use Rattle.sedona_expr.proofs.NodeKinds.{leaf_refused, column_refused, pair_refused, other_passes, unread_refused}
use Rattle.sedona_expr.proofs.refusals.node_refusal.Goals as goal

pub returns-in_err-try_from : goal.returns-in_err-try_from
returns-in_err-try_from c =
    let a = c.args in
    let e = c.in_err-try_from.ensures in
    unread_refused a.table.now.nodes.now a.lent a.node _ _ c.from_residual.ensures.1 (e.0, rw (← c.word.ensures) e.1)

pub returns-in-Intersects : goal.returns-in-Intersects
returns-in-Intersects c =
    let a = c.args in
    c.leaf_refusal.ensures ∙ leaf_refused a.table.now.nodes.now a.lent a.node _ (c.in_ok-try_from.ensures ∙ c.word.ensures) c.in-Intersects.is

pub returns-in-HasZ : goal.returns-in-HasZ
returns-in-HasZ c =
    let a = c.args in
    c.column_refusal.ensures ∙ column_refused a.table.now.nodes.now a.lent a.node _ (c.in_ok-try_from.ensures ∙ c.word.ensures) c.in-HasZ.is

pub returns-in-And : goal.returns-in-And
returns-in-And c =
    let a = c.args in
    c.pair_refusal.ensures ∙ pair_refused a.table.now.nodes.now a.lent a.node _ (c.in_ok-try_from.ensures ∙ c.word.ensures) c.in-And.is

pub returns-in-LiteralFalse : goal.returns-in-LiteralFalse
returns-in-LiteralFalse c =
    let a = c.args in
    other_passes a.table.now.nodes.now a.lent a.node _ (c.in_ok-try_from.ensures ∙ c.word.ensures) c.in-LiteralFalse.is
