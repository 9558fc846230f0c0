-- `tariff::exact` meets its contract: no product and no sum leaves the range. Assumes nothing.
use Prim.Native.Nat.{ℕ, ◌*◌, ◌≤◌}
use mathlib.Core.Path.{◌≡◌}
use native.Mathlib.Omega.{arith}
use Rattle.scan_tariff.specs.Tariff.{most_bytes, first_band, second_band, third_band, rates_refusal, exact}
use Rattle.scan_tariff.specs.declared.tariff.Rates.{Rates}
use Rattle.scan_tariff.proofs.Cents.{rates_pass, band_most}
use Rattle.scan_tariff.proofs.tariff.exact.Goals as goal

module _ (n : ℕ) (rates : Rates) (billed : n ≤ most_bytes) (good : rates_refusal rates ≡ 0) where
  first : first_band n * rates.first ≤ most_bytes * 10000
  first = band_most (first_band n) rates.first (omega (arith, billed)) (rates_pass rates good).0

  second : second_band n * rates.second ≤ most_bytes * 10000
  second = band_most (second_band n) rates.second (omega (arith, billed)) (rates_pass rates good).1.0

  third : third_band n * rates.third ≤ most_bytes * 10000
  third = band_most (third_band n) rates.third (omega (arith, billed)) (rates_pass rates good).1.1

pub overflow_mul-result : goal.overflow_mul-result
overflow_mul-result c = rw c.min-first.ensures (record { fits = omega (arith, first c.args.bytes c.args.rates c.requires.0 c.requires.1) })

pub overflow_mul-result-2 : goal.overflow_mul-result-2
overflow_mul-result-2 c =
    rw (c.min-first.ensures, c.min-both.ensures) (record { fits = omega (arith, second c.args.bytes c.args.rates c.requires.0 c.requires.1) })

pub overflow_add-result : goal.overflow_add-result
overflow_add-result c =
    rw (c.min-first.ensures, c.min-both.ensures)
    (record { fits = omega (arith, first c.args.bytes c.args.rates c.requires.0 c.requires.1, second c.args.bytes c.args.rates c.requires.0 c.requires.1) })

pub overflow_mul-result-3 : goal.overflow_mul-result-3
overflow_mul-result-3 c = rw c.min-both.ensures (record { fits = omega (arith, third c.args.bytes c.args.rates c.requires.0 c.requires.1) })

pub overflow_add-result-2 : goal.overflow_add-result-2
overflow_add-result-2 c =
    rw (c.min-first.ensures, c.min-both.ensures)
    (record { fits = omega (arith, first c.args.bytes c.args.rates c.requires.0 c.requires.1, second c.args.bytes c.args.rates c.requires.0 c.requires.1, third c.args.bytes c.args.rates c.requires.0 c.requires.1) })

pub returns : goal.returns
unfolding exact
returns c = rw (c.min-first.ensures, c.min-both.ensures)
