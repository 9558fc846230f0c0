-- The numbers that a call refuses by.
use Rattle.std.specs.Prelude.{ℕ, ◌≡◌, T, ltb}
use mathlib.Core.Path.{subst}
use Rattle.sedona_wkb.specs.declared.error.Refusal.{Refusal}
use Rattle.sedona_wkb.specs.declared.error.Refusal.TheVariants.{Length, Code, Depth}

abbrev pub wkb_length : ℕ
wkb_length = 15

abbrev pub wkb_code : ℕ
wkb_code = 16

abbrev pub wkb_depth : ℕ
wkb_depth = 17

abbrev pub number : Refusal → ℕ
number Length = wkb_length
number Code = wkb_code
number Depth = wkb_depth

-- None of them is 0.
pub number_is_not_zero : (e : Refusal) → number e ≡ 0 → ⊥
number_is_not_zero Length h = subst (λ n. T (ltb 0 n)) h tt
number_is_not_zero Code h = subst (λ n. T (ltb 0 n)) h tt
number_is_not_zero Depth h = subst (λ n. T (ltb 0 n)) h tt
