-- The numbers that a call refuses by.
use Rattle.std.specs.Prelude.{ℕ, Result, Ok, Err, ⊤, ◌≡◌, T, ltb}
use mathlib.Core.Path.{subst}
use Rattle.geoparquet_bbox.specs.declared.error.Refusal.{Refusal}
use Rattle.geoparquet_bbox.specs.declared.error.Refusal.TheVariants.{BboxLength, KnownM, BadNumbers}

abbrev pub bbox_length : ℕ
bbox_length = 12

abbrev pub known_m : ℕ
known_m = 13

abbrev pub bad_numbers : ℕ
bad_numbers = 14

abbrev pub number : Refusal → ℕ
number BboxLength = bbox_length
number KnownM = known_m
number BadNumbers = bad_numbers

-- Of a check: 0 where nothing is refused.
abbrev pub number_of : Result ⊤ Refusal → ℕ
number_of (Ok u) = 0
number_of (Err e) = number e

-- None of them is 0.
pub number_is_not_zero : (e : Refusal) → number e ≡ 0 → ⊥
number_is_not_zero BboxLength h = subst (λ n. T (ltb 0 n)) h tt
number_is_not_zero KnownM h = subst (λ n. T (ltb 0 n)) h tt
number_is_not_zero BadNumbers h = subst (λ n. T (ltb 0 n)) h tt
