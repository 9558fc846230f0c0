-- `tariff::sum_of` meets its contract. Assumes nothing.
use mathlib.Core.Path.{sym, ◌∙◌}
use native.Mathlib.Omega.{arith}
use Rattle.johikape.proofs.Sizes.{sizes_next, sizes_done}
use Rattle.johikape.proofs.tariff.sum_of.Goals as goal

pub loop-i-init : goal.loop-i-init
loop-i-init c = rw c.no_bytes-sum.ensures

pub bounds-known-i : goal.bounds-known-i
bounds-known-i c = omega (arith, c.loop-i-test.true, c.requires)

pub total_at-requires : goal.total_at-requires
total_at-requires c = c.loop-i-test.true

pub loop-i-preserved : goal.loop-i-preserved
loop-i-preserved c =
    let l = c.loop-i in
    let m = c.loop-i-test.true in
    rw (c.with_size-sum.ensures, c.total_at.ensures) (sym (sizes_next c.args.sizes.now c.args.known.now l.sum l.i m (omega (arith, m, c.requires))) ∙ l.invariant)

pub returns : goal.returns
returns c =
    sym (sizes_done c.args.sizes.now c.args.known.now c.loop-i.sum c.loop-i.i c.loop-i-test.false) ∙ c.loop-i.invariant
