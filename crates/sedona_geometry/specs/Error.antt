-- What refuses a call, by the number that stands for it.
use Rattle.std.specs.Prelude.{◌≡◌, ℕ, T, ltb}
use mathlib.Core.Path.{subst}
use Rattle.sedona_geometry.specs.declared.error.Refusal.{Refusal}
use Rattle.sedona_geometry.specs.declared.error.Refusal.TheVariants.{TwoParts, Wrapped}

abbrev pub two_parts : ℕ
two_parts = 1

abbrev pub wrapped : ℕ
wrapped = 2

abbrev pub number : Refusal → ℕ
number TwoParts = two_parts
number Wrapped = wrapped

-- None of them is 0.
pub number_is_not_zero : (e : Refusal) → number e ≡ 0 → ⊥
number_is_not_zero TwoParts h = subst (λ n. T (ltb 0 n)) h tt
number_is_not_zero Wrapped h = subst (λ n. T (ltb 0 n)) h tt
