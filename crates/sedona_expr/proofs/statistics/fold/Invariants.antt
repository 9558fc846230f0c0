-- `statistics::fold` meets its contract: folding what is left from what is folded so far gives what is to be shown. Assumes nothing.
use Rattle.std.proofs.Common.{◌≡◌, drop, Ok}
use Rattle.sedona_expr.specs.Statistics as statistics
use Rattle.sedona_expr.proofs.statistics.fold.Given as goal

abbrev pub invariant-loop-next : goal.invariant-loop-next
invariant-loop-next l = statistics.fold_from (statistics.folded (Ok l.folded)) (drop l.next-index l.records) ≡ statistics.fold l.records
