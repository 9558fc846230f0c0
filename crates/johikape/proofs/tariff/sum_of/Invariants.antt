-- `tariff::sum_of` meets its contract. Assumes nothing.
use Rattle.std.proofs.Common.{◌≡◌, drop}
use Rattle.scan_tariff.specs.Within.{no_bytes, with_sizes}
use Rattle.johikape.specs.Tariff as tariff
use Rattle.johikape.proofs.tariff.sum_of.Given as goal

abbrev pub invariant-loop-i : goal.invariant-loop-i
invariant-loop-i l = with_sizes l.sum (tariff.sizes (drop l.i l.sizes) (drop l.i l.known)) ≡ with_sizes no_bytes (tariff.sizes l.sizes l.known)
