-- The scan tariff, after request 7 of 02, over whole numbers.
use Rattle.std.specs.Prelude.{Bool, false, not, ◌||◌, cond, List, ℕ, suc, ◌+◌, ◌-◌, ◌*◌, ◌/◌, ◌%◌, ◌^◌, ◌≤◌, ◌<◌, min, eqb, ltb, leb, pos, negsuc, nat_abs, length, Option, Some, None, ℤ, Result, Ok, Err}
use Rattle.sedona_geometry.specs.Lists.{are_all}
use Rattle.sedona_expr.specs.Statistics.{sum}
use Rattle.sedona_expr.specs.Refusals.{or_else, refuse_if}
use Rattle.sedona_expr.specs.declared.statistics.GeoStatistics.{GeoStatistics}
use Rattle.scan_tariff.specs.Error as error
use Rattle.scan_tariff.specs.declared.tariff.Rates.{Rates}
use Rattle.scan_tariff.specs.declared.error.Refusal.{Refusal}

-- ---- bytes and cents

-- "per GiB (2^30 bytes)".
abbrev pub gib : ℕ
gib = 2 ^ 30

-- The bytes "up to 64 GiB", those "above that to 512 GiB", and "the rest".
abbrev pub first_band : ℕ → ℕ
first_band n = min n (64 * gib)

abbrev pub second_band : ℕ → ℕ
second_band n = min n (512 * gib) - first_band n

abbrev pub third_band : ℕ → ℕ
third_band n = n - min n (512 * gib)

-- "Add the bands exactly": cents times 2^30.
unfoldable pub exact : ℕ → Rates → ℕ
exact n r = first_band n * r.first + second_band n * r.second + third_band n * r.third

-- "then round once to the cent, halves upward": the quotient by 2^30, and one more where twice what is left over is no less than 2^30.
unfoldable pub nearest_cent : ℕ → ℕ
nearest_cent e = cond (ltb (2 * (e % gib)) gib) (e / gib) (suc (e / gib))

abbrev pub cents : ℕ → Rates → ℕ
cents n r = nearest_cent (exact n r)

-- ---- what refuses

-- The most bytes of a size, or of a sum.
abbrev pub most_bytes : ℕ
most_bytes = 2 ^ 40

-- Not "missing, negative or over 2^40".
unfoldable pub is_billed : Option ℤ → Bool
is_billed None = false
is_billed (Some (negsuc n)) = false
is_billed (Some (pos n)) = leb n most_bytes

-- 18, of one size.
unfoldable pub total_refusal : Option ℤ → ℕ
total_refusal t = refuse_if (not (is_billed t)) error.bad_size

-- 18, of a list: "each size in turn and then the sum", "as is a longer list".
unfoldable pub sizes_refusal : List (Option ℤ) → ℕ
sizes_refusal ts = refuse_if (ltb 1000 (length ts) || not (are_all is_billed ts) || not (is_billed (sum ts))) error.bad_size

-- 19: "a rate over 10,000".
unfoldable pub rates_refusal : Rates → ℕ
rates_refusal r = refuse_if (ltb 10000 r.first || ltb 10000 r.second || ltb 10000 r.third) error.bad_rate

-- Their order: that of the sizes, "then" that of the rates.
abbrev pub refusal : ℕ → Rates → ℕ
refusal n r = or_else n (rates_refusal r)

-- ---- the calls

-- The bytes of a total. (They are asked only of one that is billed.)
abbrev pub bytes : Option ℤ → ℕ
bytes None = 0
bytes (Some z) = nat_abs z

-- A fee in cents with its number: 0, or the number that refuses it, with a fee of 0 beside it.
pub record Fee : Type 0 where
  pub number : ℕ
  pub cents : ℕ

-- A number alone: "a count, fee or type set 0".
abbrev pub refused : ℕ → Fee
refused n = record { number = n; cents = 0 }

-- What a call answers, as a fee with its number.
abbrev pub told : Result ℕ Refusal → Fee
told (Ok n) = record { number = 0; cents = n }
told (Err e) = refused (error.number e)

-- The fee of a total at rates, where neither a number for the sizes nor one for the rates refuses it.
unfoldable pub fee : ℕ → Option ℤ → Rates → Fee
fee n t r = cond (eqb (refusal n r) 0) (record { number = 0; cents = cents (bytes t) r }) (refused (refusal n r))

unfoldable pub fee_of_total : Option ℤ → Rates → Fee
fee_of_total t r = fee (total_refusal t) t r

-- "the fee for one folded record from its `total_size_bytes`".
abbrev pub fee_of_record : GeoStatistics → Rates → Fee
fee_of_record s r = fee_of_total s.total_size_bytes r

-- "for a lent list of at most 1,000 sizes as the fee of their sum".
unfoldable pub fee_of_sizes : List (Option ℤ) → Rates → Fee
fee_of_sizes ts r = fee (sizes_refusal ts) (sum ts) r

-- ---- what the theorems speak of

-- How far apart two whole numbers are.
abbrev pub difference : ℕ → ℕ → ℕ
difference m n = (m - n) + (n - m)

-- c is the nearest cent of e, cents times 2^30: e is no more than half a cent below c, and less than half a cent above.
pub record Nearest (e c : ℕ) : Type 0 where
  pub below : 2 * (c * gib) ≤ 2 * e + gib
  pub above : 2 * e < 2 * (c * gib) + gib
