-- `names::comes_again` meets its contract. Assumes nothing.
use mathlib.Core.Path.{sym}
use Rattle.sedona_expr.proofs.names.comes_again.Goals as goal

pub returns-then-is_marked : goal.returns-then-is_marked
returns-then-is_marked c = c.comes_before.ensures

pub returns : goal.returns
returns c = sym (c.requires.1 c.if-is_marked.false)
