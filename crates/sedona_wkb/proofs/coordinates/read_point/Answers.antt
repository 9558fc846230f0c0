-- `coordinates::read_point` meets its contract. Assumes nothing.
use Prim.Native.Nat.{◌+◌, ◌≤◌}
use native.Mathlib.Omega.{arith}
use lib.ListN.{length}
use borrow.Author.Rules.{rules}
use Rattle.sedona_wkb.specs.Outcome.{reached}
use Rattle.sedona_wkb.proofs.Readers.{point_there, point_short}
use Rattle.sedona_wkb.proofs.Short.{there, short}
use Rattle.sedona_wkb.proofs.coordinates.read_point.Goals as goal

pub returns-then-is_short : goal.returns-then-is_short
unfolding reached
returns-then-is_short c =
    let args = c.args in
    point_short args.head args.bytes.now args.at args.e (rw (← c.width-width.ensures.0) (short c.is_short.ensures c.if-is_short.true))

pub enter_all-requires : goal.enter_all-requires
enter_all-requires c = rw (← c.width-width.ensures.0) (omega (arith, (there c.is_short.ensures c.if-is_short.false)))

pub overflow_add-result : goal.overflow_add-result
overflow_add-result c = let g : c.args.at + c.width-width.result ≤ length c.args.bytes.now = there c.is_short.ensures c.if-is_short.false in search rules

pub returns : goal.returns
unfolding reached
returns c =
    let args = c.args in
    let w = c.width-width.ensures.0 in
    rw (c.enter_all.ensures, w) (point_there args.head args.bytes.now args.at args.e (rw (← w) (there c.is_short.ensures c.if-is_short.false)))
