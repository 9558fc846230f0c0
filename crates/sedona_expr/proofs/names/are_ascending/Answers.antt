-- `names::are_ascending` meets its contract: what is found so far, and the rest. Assumes nothing.
use Prim.Native.Nat.{◌-◌}
use native.Mathlib.Omega.{arith}
use Rattle.sedona_expr.proofs.Searches.{test_next, test_end}
use Rattle.sedona_expr.proofs.Twice.{ascends_next, ascends_end}
use Rattle.sedona_expr.proofs.names.are_ascending.Goals as goal

pub loop-i-preserved : goal.loop-i-preserved
loop-i-preserved c =
    let loop = c.loop-i in
    test_next loop.good _ _ loop.invariant (ascends_next c.args.names.now loop.i (omega arith) (omega arith))

pub returns : goal.returns
returns c =
    let loop = c.loop-i in
    test_end loop.good loop.invariant (ascends_end c.args.names.now (loop.i - 1) (omega arith))
