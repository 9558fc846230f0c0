-- `names::has_twice` meets its contract. Assumes nothing.
use mathlib.Core.Path.{sym, ◌∙◌}
use Rattle.sedona_expr.proofs.Twice.{ascending_differ}
use Rattle.sedona_expr.proofs.names.has_twice.Goals as goal

pub returns-then-are_ascending : goal.returns-then-are_ascending
returns-then-are_ascending c = sym (ascending_differ c.args.names.now (sym c.are_ascending.ensures ∙ c.if-are_ascending.true))
