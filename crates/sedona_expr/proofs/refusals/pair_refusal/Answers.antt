-- `refusals::pair_refusal` meets its contract. Assumes nothing.
use borrow.Author.Tests.{lt-ltb, le-ltb}
use Rattle.sedona_expr.specs.Tables.{are_below}
use Rattle.sedona_expr.specs.Refusals.{pair_refusal}
use Rattle.sedona_expr.proofs.refusals.pair_refusal.Goals as goal

pub returns-then-left-node : goal.returns-then-left-node
unfolding are_below pair_refusal
returns-then-left-node c = rw (← c.word-left.ensures, le-ltb _ _ c.if-left-node.true)

pub returns-then-right-node : goal.returns-then-right-node
unfolding are_below pair_refusal
returns-then-right-node c = rw (← c.word-left.ensures, lt-ltb _ _ c.if-left-node.false, ← c.word-right.ensures, le-ltb _ _ c.if-right-node.true)

pub returns-else-right-node : goal.returns-else-right-node
unfolding are_below pair_refusal
returns-else-right-node c = rw (← c.word-left.ensures, lt-ltb _ _ c.if-left-node.false, ← c.word-right.ensures, lt-ltb _ _ c.if-right-node.false)
