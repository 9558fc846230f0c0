-- `records::are_all_good` meets its contract: what is found so far, and the rest. Assumes nothing.
use native.Mathlib.Omega.{arith}
use Rattle.sedona_expr.proofs.Searches.{all_more, all_done}
use Rattle.johikape.specs.Records.{good_flags}
use Rattle.johikape.proofs.records.are_all_good.Goals as goal

pub loop-f-preserved : goal.loop-f-preserved
loop-f-preserved c =
    let loop = c.loop-f in
    rw c.are_good-good.ensures (all_more good_flags c.args.flags.now loop.f-index 0 loop.good (omega arith) loop.invariant)

pub returns : goal.returns
returns c =
    let loop = c.loop-f in
    all_done good_flags c.args.flags.now loop.f-index loop.good (omega arith) loop.invariant
