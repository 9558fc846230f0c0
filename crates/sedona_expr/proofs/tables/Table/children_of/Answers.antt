-- `tables::Table::children_of` meets its contract. Assumes nothing.
use borrow.Author.Tests.{lt-ltb, le-ltb}
use Rattle.sedona_expr.specs.Tables.{are_below, has_children}
use Rattle.sedona_expr.specs.Within.{children_of}
use Rattle.sedona_expr.proofs.NodeKinds.{pair_is, pair_is_not}
use Rattle.sedona_expr.proofs.tables.Table.children_of.Goals as goal

-- a pair whose first child is not below it
pub returns-then-left-node : goal.returns-then-left-node
unfolding children_of has_children are_below
returns-then-left-node c =
    rw (pair_is c.kind.result _ c.kind.ensures c.in-And.is, ← c.word-left.ensures, le-ltb _ _ c.if-left-node.true)

pub returns-then-right-node : goal.returns-then-right-node
unfolding children_of has_children are_below
returns-then-right-node c =
    rw (pair_is c.kind.result _ c.kind.ensures c.in-And.is, ← c.word-left.ensures, lt-ltb _ _ c.if-left-node.false, ← c.word-right.ensures, le-ltb _ _ c.if-right-node.true)

pub returns-else-right-node : goal.returns-else-right-node
unfolding children_of has_children are_below
returns-else-right-node c =
    rw (pair_is c.kind.result _ c.kind.ensures c.in-And.is, ← c.word-left.ensures, lt-ltb _ _ c.if-left-node.false, ← c.word-right.ensures, lt-ltb _ _ c.if-right-node.false)

pub returns-in_default : goal.returns-in_default
unfolding children_of has_children are_below
returns-in_default c = rw (pair_is_not c.kind.result _ c.kind.ensures c.in_default.not-And c.in_default.not-Or)
