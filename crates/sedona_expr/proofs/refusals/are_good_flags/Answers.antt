-- `refusals::are_good_flags` meets its contract: what is found so far, and the rest. Assumes nothing.
use native.Mathlib.Omega.{arith}
use Rattle.sedona_expr.specs.Refusals.{good_flag}
use Rattle.sedona_expr.proofs.Searches.{all_more, all_done}
use Rattle.sedona_expr.proofs.refusals.are_good_flags.Goals as goal

pub loop-flag-preserved : goal.loop-flag-preserved
loop-flag-preserved c =
    let loop = c.loop-flag in
    rw c.is_good_flag-good.ensures (all_more (good_flag c.args.none) c.args.flags.now loop.flag-index 0 loop.good (omega arith) loop.invariant)

pub returns : goal.returns
returns c =
    let loop = c.loop-flag in
    all_done (good_flag c.args.none) c.args.flags.now loop.flag-index loop.good (omega arith) loop.invariant
