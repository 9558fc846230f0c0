-- `names::is_none_of` meets its contract: what is found so far, and the rest. Assumes nothing.
use native.Mathlib.Omega.{arith}
use Rattle.sedona_expr.specs.Within.{is_other}
use Rattle.sedona_expr.proofs.Searches.{all_more, all_done}
use Rattle.sedona_expr.proofs.names.is_none_of.Goals as goal

pub loop-other-preserved : goal.loop-other-preserved
loop-other-preserved c =
    let loop = c.loop-other in
    all_more (is_other c.args.name) c.args.names.now loop.other-index 0 loop.none (omega arith) loop.invariant

pub returns : goal.returns
returns c =
    let loop = c.loop-other in
    all_done (is_other c.args.name) c.args.names.now loop.other-index loop.none (omega arith) loop.invariant
