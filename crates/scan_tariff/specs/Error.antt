-- The numbers that a call refuses by.
use Rattle.std.specs.Prelude.{ℕ, Result, Ok, Err, ⊤, ◌≡◌, T, ltb}
use mathlib.Core.Path.{subst}
use Rattle.scan_tariff.specs.declared.error.Refusal.{Refusal}
use Rattle.scan_tariff.specs.declared.error.Refusal.TheVariants.{BadSize, BadRate}

abbrev pub bad_size : ℕ
bad_size = 18

abbrev pub bad_rate : ℕ
bad_rate = 19

abbrev pub number : Refusal → ℕ
number BadSize = bad_size
number BadRate = bad_rate

-- Of a check: 0 where nothing is refused.
abbrev pub number_of : Result ⊤ Refusal → ℕ
number_of (Ok u) = 0
number_of (Err e) = number e

-- None of them is 0.
pub number_is_not_zero : (e : Refusal) → number e ≡ 0 → ⊥
number_is_not_zero BadSize h = subst (λ n. T (ltb 0 n)) h tt
number_is_not_zero BadRate h = subst (λ n. T (ltb 0 n)) h tt
