-- `coordinates::read_parts` meets its contract: what is entered and what is left to read are all there is. Assumes nothing.
use mathlib.Core.Path.{◌≡◌, refl, ◌∙◌}
use Prim.Native.Nat.{◌+◌, ◌-◌, ◌≤◌}
use native.Mathlib.Omega.{arith}
use lib.ListN.{length}
use Rattle.std.proofs.Common.{rules, ℕ, Result, Ok, Err}
use Rattle.sedona_wkb.specs.Outcome.{reached}
use Rattle.sedona_wkb.specs.declared.coordinates.Extents.{Extents}
use Rattle.sedona_wkb.specs.declared.error.Refusal.{Refusal}
use Rattle.sedona_wkb.proofs.Readers.{counted_there, counted_short, turn, turn_refused, no_turn}
use Rattle.sedona_wkb.proofs.Short.{there, short}
use Rattle.sedona_wkb.proofs.coordinates.read_parts.Goals as goal

pub returns-then-is_short : goal.returns-then-is_short
unfolding reached
returns-then-is_short g c part reads =
    let args = c.args in
    counted_short args.head part args.bytes.now args.at args.e (short c.is_short.ensures c.if-is_short.true)

pub word_at-count-requires : goal.word_at-count-requires
word_at-count-requires g c = there c.is_short.ensures c.if-is_short.false

pub overflow_add-end : goal.overflow_add-end
overflow_add-end g c =
    let args = c.args in
    let h : args.at + 4 ≤ length args.bytes.now = there c.is_short.ensures c.if-is_short.false in
    search rules

pub loop-taken-init : goal.loop-taken-init
loop-taken-init g c part reads =
    let args = c.args in
    let m : c.word_at-count.result - 0 ≡ c.word_at-count.result = omega arith in
    rw (m, c.word_at-count.ensures) (counted_there args.head part args.bytes.now args.at args.e (there c.is_short.ensures c.if-is_short.false))

pub returns-in_err-end : goal.returns-in_err-end
unfolding reached
returns-in_err-end g c part reads =
    let args = c.args in
    let loop = c.loop-taken in
    let r : Result (ℕ × Extents) Refusal = Err c.in_err-end.field-0.0 in
    let now = reads loop.end loop.entered r c.in_err-end.ensures in
    rw (loop.invariant part reads, turn_refused args.bytes.now part loop.end loop.entered r now c.word_at-count.result loop.taken c.loop-taken-test.true c.in_err-end.field-0.0 refl) (search rules)

pub loop-taken-preserved : goal.loop-taken-preserved
loop-taken-preserved g c part reads =
    let args = c.args in
    let loop = c.loop-taken in
    let to = c.in_ok-end.field-0-0 in
    let f = c.in_ok-end.field-0-1 in
    let now = reads loop.end loop.entered (Ok (to, f)) c.in_ok-end.ensures in
    rw (loop.invariant part reads, turn args.bytes.now part loop.end loop.entered (Ok (to, f)) now c.word_at-count.result loop.taken c.loop-taken-test.true f to refl)

pub returns : goal.returns
unfolding reached
returns g c part reads = c.loop-taken.invariant part reads ∙ no_turn _ _ _ _ _ c.loop-taken-test.false
