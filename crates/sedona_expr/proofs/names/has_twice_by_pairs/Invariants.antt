-- `names::has_twice_by_pairs` meets its contract: the names so far differ. Assumes nothing.
use Rattle.sedona_expr.proofs.Twice.{Differ}
use Rattle.sedona_expr.proofs.names.has_twice_by_pairs.Given as goal

abbrev pub invariant-loop-i : goal.invariant-loop-i
invariant-loop-i l = Differ l.names l.i
