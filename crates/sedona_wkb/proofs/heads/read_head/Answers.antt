-- `heads::read_head` meets its contract. Assumes nothing.
use mathlib.Core.Path.{sym, ◌∙◌}
use Prim.Native.Nat.{◌+◌, ◌≤◌}
use native.Mathlib.Omega.{arith}
use lib.ListN.{length}
use borrow.Author.Rules.{rules}
use Rattle.sedona_wkb.specs.Outcome.{headed}
use Rattle.sedona_wkb.proofs.Readers.{head_short, head_order, head_cut, head_there, tested_passes, tested_fails}
use Rattle.sedona_wkb.proofs.Short.{there, short}
use Rattle.sedona_wkb.proofs.heads.read_head.Goals as goal

pub returns-then-is_short : goal.returns-then-is_short
unfolding headed
returns-then-is_short c =
    let args = c.args in
    head_short args.bytes.now args.at (short c.is_short.ensures c.if-is_short.true)

pub bounds-bytes-at : goal.bounds-bytes-at
bounds-bytes-at c = omega (arith, (there c.is_short.ensures c.if-is_short.false))

pub returns-then-order-gt1 : goal.returns-then-order-gt1
unfolding headed
returns-then-order-gt1 c =
    let args = c.args in
    head_order args.bytes.now args.at (there c.is_short.ensures c.if-is_short.false) c.if-order-gt1.true

pub overflow_add-at : goal.overflow_add-at
overflow_add-at c = let g : c.args.at + 1 ≤ length c.args.bytes.now = there c.is_short.ensures c.if-is_short.false in search rules

pub returns-then-is_short-2 : goal.returns-then-is_short-2
unfolding headed
returns-then-is_short-2 c =
    let args = c.args in
    head_cut args.bytes.now args.at (there c.is_short.ensures c.if-is_short.false) c.if-order-gt1.false (short c.is_short-2.ensures c.if-is_short-2.true)

pub overflow_add-at-2 : goal.overflow_add-at-2
overflow_add-at-2 c = let g : c.args.at + 1 + 4 ≤ length c.args.bytes.now = there c.is_short-2.ensures c.if-is_short-2.false in search rules

pub word_at-code-requires : goal.word_at-code-requires
word_at-code-requires c = there c.is_short-2.ensures c.if-is_short-2.false

pub overflow_add-result : goal.overflow_add-result
overflow_add-result c = let g : c.args.at + 1 + 4 ≤ length c.args.bytes.now = there c.is_short-2.ensures c.if-is_short-2.false in search rules

pub returns-then-is_type : goal.returns-then-is_type
unfolding headed
returns-then-is_type c =
    let args = c.args in
    rw c.word_at-code.ensures (head_there args.bytes.now args.at (there c.is_short.ensures c.if-is_short.false) c.if-order-gt1.false (there c.is_short-2.ensures c.if-is_short-2.false)
    ∙ tested_passes _ _ _ (rw c.word_at-code.ensures at (sym c.is_type.ensures ∙ c.if-is_type.true)))

pub returns : goal.returns
unfolding headed
returns c =
    let args = c.args in
    head_there args.bytes.now args.at (there c.is_short.ensures c.if-is_short.false) c.if-order-gt1.false (there c.is_short-2.ensures c.if-is_short-2.false)
    ∙ tested_fails _ _ _ (rw c.word_at-code.ensures at (sym c.is_type.ensures ∙ c.if-is_type.false))
