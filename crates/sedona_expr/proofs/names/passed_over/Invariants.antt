-- `names::passed_over` meets its contract: no name so far is a hit. Assumes nothing.
use mathlib.Core.Path.{◌≡◌}
use Rattle.std.specs.Slice.Iter.{chunks_exact_size, chunks_exact_rest}
use Rattle.sedona_expr.proofs.Searches.{Passed}
use Rattle.sedona_expr.proofs.names.passed_over.Given as goal

abbrev pub invariant-loop-step : goal.invariant-loop-step
invariant-loop-step l = (chunks_exact_size l.step-iterator ≡ 8) × Passed l.names l.name l.i (chunks_exact_rest l.step-iterator)
