-- `tariff::sum_of` meets its contract: a size more, and the end. Assumes nothing.
use Rattle.std.specs.Prelude.{Option, ℤ}
use mathlib.Core.Path.{refl, ap}
use Rattle.sedona_expr.proofs.Turns.{one_more, at_end}
use Rattle.scan_tariff.specs.Within.{with_size, with_sizes}
use Rattle.scan_tariff.proofs.tariff.sum_of.Goals as goal

pub loop-size-init : goal.loop-size-init
loop-size-init c = ap (λ (u : Option ℤ). with_sizes u c.args.sizes.now) c.no_bytes-sum.ensures

pub loop-size-preserved : goal.loop-size-preserved
loop-size-preserved c =
    one_more with_size with_sizes (λ s t ts. refl) c.args.sizes.now c.loop-size.size-index _ c.loop-size.sum c.with_size-sum.result _ c.loop-size-test.true c.loop-size.invariant c.with_size-sum.ensures

pub returns : goal.returns
returns c = at_end with_sizes (λ s. refl) c.args.sizes.now c.loop-size.size-index c.loop-size.sum _ c.loop-size-test.false c.loop-size.invariant
