-- `tables::or_empty` meets its contract. Assumes nothing.
use Rattle.sedona_expr.specs.Tables.{or_empty}
use borrow.Author.Rules.{rules}
use Rattle.sedona_expr.proofs.tables.or_empty.Goals as goal

pub returns-in_default : goal.returns-in_default
unfolding or_empty
returns-in_default c = search rules

pub returns : goal.returns
unfolding or_empty
returns c = search rules
