-- `records::Lent::fold` meets its contract: the records so far are folded. Assumes nothing.
use Rattle.std.proofs.Common.{Ok}
use Rattle.sedona_expr.specs.Statistics.{folded}
use Rattle.johikape.specs.Within.{FoldedTo, lent}
use Rattle.johikape.proofs.records.Lent.fold.Given as goal

abbrev pub invariant-loop-i : goal.invariant-loop-i
invariant-loop-i l = FoldedTo (lent l.self) (folded (Ok l.folded)) l.i
