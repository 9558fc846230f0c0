-- `records::Lent::fold_whole` meets its contract: the records so far are folded. Assumes nothing.
use Rattle.std.proofs.Common.{Ok, Some}
use Rattle.sedona_expr.specs.Statistics.{folded}
use Rattle.johikape.specs.Within.{FoldedTo, lent}
use Rattle.johikape.proofs.records.Lent.fold_whole.Given as goal

abbrev pub invariant-loop-i : goal.invariant-loop-i
invariant-loop-i l = FoldedTo (lent l.self) (folded (Ok (Some l.folded))) l.i
