-- `refusals::are_zero_or_one` meets its contract: what is found so far, and the rest. Assumes nothing.
use native.Mathlib.Omega.{arith}
use Rattle.sedona_expr.proofs.Searches.{all_more, all_done}
use Rattle.sedona_expr.proofs.refusals.are_zero_or_one.Invariants.{good_byte}
use Rattle.sedona_expr.proofs.refusals.are_zero_or_one.Goals as goal

pub loop-byte-preserved : goal.loop-byte-preserved
loop-byte-preserved c =
    let loop = c.loop-byte in
    all_more good_byte c.args.bytes.now loop.byte-index 0 loop.good (omega arith) loop.invariant

pub returns : goal.returns
returns c =
    let loop = c.loop-byte in
    all_done good_byte c.args.bytes.now loop.byte-index loop.good (omega arith) loop.invariant
