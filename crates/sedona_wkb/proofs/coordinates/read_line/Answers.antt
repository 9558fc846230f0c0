-- `coordinates::read_line` meets its contract. Assumes nothing.
use Prim.Native.Nat.{◌+◌, ◌*◌, ◌≤◌}
use native.Mathlib.Omega.{arith}
use native.Mathlib.Nat.{mul-le-mul_left}
use lib.ListN.{length}
use borrow.Author.Rules.{rules}
use Rattle.sedona_wkb.specs.Outcome.{reached}
use Rattle.sedona_wkb.specs.Wkb.{read_point}
use Rattle.sedona_wkb.proofs.Readers.{counted_short, line_there, line_short}
use Rattle.sedona_wkb.proofs.Short.{there, short}
use Rattle.sedona_wkb.proofs.coordinates.read_line.Goals as goal

pub returns-then-is_short : goal.returns-then-is_short
unfolding reached
returns-then-is_short c =
    let args = c.args in
    counted_short args.head (read_point args.head) args.bytes.now args.at args.e (short c.is_short.ensures c.if-is_short.true)

pub overflow_add-first : goal.overflow_add-first
overflow_add-first c = let g : c.args.at + 4 ≤ length c.args.bytes.now = there c.is_short.ensures c.if-is_short.false in search rules

pub overflow_mul-length : goal.overflow_mul-length
overflow_mul-length c = omega (arith, c.word_at-count.type_inv, mul-le-mul_left c.word_at-count.result c.width.ensures.1)

pub returns-then-is_short-2 : goal.returns-then-is_short-2
unfolding reached
returns-then-is_short-2 c =
    let args = c.args in
    line_short args.head args.bytes.now args.at args.e _ (there c.is_short.ensures c.if-is_short.false) c.word_at-count.ensures (rw (← c.width.ensures.0) (short c.is_short-2.ensures c.if-is_short-2.true))

pub enter_all-requires : goal.enter_all-requires
enter_all-requires c = rw (← c.width.ensures.0) (there c.is_short-2.ensures c.if-is_short-2.false)

pub overflow_add-result : goal.overflow_add-result
overflow_add-result c = let g : c.args.at + 4 + c.word_at-count.result * c.width.result ≤ length c.args.bytes.now = there c.is_short-2.ensures c.if-is_short-2.false in search rules

pub returns : goal.returns
unfolding reached
returns c =
    let args = c.args in
    rw (c.enter_all.ensures, c.width.ensures.0) (line_there args.head args.bytes.now args.at args.e c.word_at-count.result (there c.is_short.ensures c.if-is_short.false) c.word_at-count.ensures (rw (← c.width.ensures.0) (there c.is_short-2.ensures c.if-is_short-2.false)))
