-- `tariff::sum_of` meets its contract: walking what is left from the sum so far gives what is to be shown. Assumes nothing.
use Rattle.std.proofs.Common.{◌≡◌, drop}
use Rattle.scan_tariff.specs.Within.{with_sizes, no_bytes}
use Rattle.scan_tariff.proofs.tariff.sum_of.Given as goal

abbrev pub invariant-loop-size : goal.invariant-loop-size
invariant-loop-size l = with_sizes l.sum (drop l.size-index l.sizes) ≡ with_sizes no_bytes l.sizes
