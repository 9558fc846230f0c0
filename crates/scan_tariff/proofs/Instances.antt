-- The hypotheses of the theorems can be met; and what the definitions answer, computed. Assumes nothing.
use Rattle.std.specs.Prelude.{Option, Some, None, ℤ}
use mathlib.Core.Path.{◌≡◌, refl}
use mathlib.Core.List.{List, [], ◌∷◌, map}
use Prim.Native.Nat.{ℕ, ◌+◌, ◌-◌, ◌*◌, ◌^◌, ◌≤◌}
use lib.Dec.{lit≤}
use lib.IntN.{pos, negsuc}
use lib.ListN.{replicate}
use Rattle.sedona_expr.specs.Statistics.{sum_is_outside, is_outside, totals_overflow, counts_overflow, merge_value, step, fold_from, fold, unspecified, sum}
use Rattle.sedona_expr.specs.Refusals.{or_else}
use Rattle.sedona_expr.specs.declared.statistics.GeoStatistics.{GeoStatistics}
use Rattle.scan_tariff.specs.Tariff.{gib, exact, nearest_cent, is_billed, total_refusal, sizes_refusal, rates_refusal, refused, fee, fee_of_total, fee_of_record, fee_of_sizes, difference}
use Rattle.scan_tariff.specs.declared.tariff.Rates.{Rates}
use Rattle.scan_tariff.specs.Tariff.{Fee}
use Rattle.scan_tariff.proofs.Cents.{nearest_only}
use Rattle.scan_tariff.proofs.Theorems.{fee_of_list, fee_of_fold, record_fees_grow, list_fees_grow, record_half_a_cent, list_half_a_cent}

abbrev at : ℕ → ℕ → ℕ → Rates
at a b c = record { first = a; second = b; third = c }

abbrev costs : ℕ → Fee
costs n = record { number = 0; cents = n }

abbrev known : ℕ → Option ℤ
known n = Some (pos n)

-- a record that knows its bytes alone
abbrev file : Option ℤ → GeoStatistics
file t = record {
  bbox = unspecified.bbox;
  geometry_types = unspecified.geometry_types;
  total_geometries = None;
  total_size_bytes = t;
  total_points = None;
  puntal_count = None;
  lineal_count = None;
  polygonal_count = None;
  collection_count = None;
  total_envelope_width = unspecified.total_envelope_width;
  total_envelope_height = unspecified.total_envelope_height;
}

-- ---- what is answered

-- 0, 1, 2^29 − 1, 2^29, 2^29 + 1 and three times 2^29 bytes at 1 cent
pub halves : (fee_of_sizes (known 0 ∷ []) (at 1 0 0) ≡ costs 0)
    × (fee_of_sizes (known 1 ∷ []) (at 1 0 0) ≡ costs 0)
    × (fee_of_sizes (known (2 ^ 29 - 1) ∷ []) (at 1 0 0) ≡ costs 0)
    × (fee_of_sizes (known (2 ^ 29) ∷ []) (at 1 0 0) ≡ costs 1)
    × (fee_of_sizes (known (2 ^ 29 + 1) ∷ []) (at 1 0 0) ≡ costs 1)
    × (fee_of_sizes (known (3 * 2 ^ 29) ∷ []) (at 1 0 0) ≡ costs 2)
unfolding exact nearest_cent is_billed sizes_refusal rates_refusal or_else fee fee_of_sizes
halves = (refl, refl, refl, refl, refl, refl)

-- to the byte: at 10,000 cents 53,688 bytes cost one, and 53,687 none; so many below and above 64 GiB, and 512 GiB
pub edges : (fee_of_sizes (known (64 * gib - 53688) ∷ []) (at 10000 0 0) ≡ costs 639999)
    × (fee_of_sizes (known (64 * gib - 53687) ∷ []) (at 10000 0 0) ≡ costs 640000)
    × (fee_of_sizes (known (64 * gib + 53687) ∷ []) (at 0 10000 0) ≡ costs 0)
    × (fee_of_sizes (known (64 * gib + 53688) ∷ []) (at 0 10000 0) ≡ costs 1)
    × (fee_of_sizes (known (512 * gib - 53688) ∷ []) (at 0 10000 0) ≡ costs 4479999)
    × (fee_of_sizes (known (512 * gib - 53687) ∷ []) (at 0 10000 0) ≡ costs 4480000)
    × (fee_of_sizes (known (512 * gib + 53687) ∷ []) (at 0 0 10000) ≡ costs 0)
    × (fee_of_sizes (known (512 * gib + 53688) ∷ []) (at 0 0 10000) ≡ costs 1)
    × (fee_of_sizes (known (64 * gib) ∷ []) (at 3 50 700) ≡ costs 192)
    × (fee_of_sizes (known (512 * gib) ∷ []) (at 3 50 700) ≡ costs 22592)
    × (fee_of_sizes (known (768 * gib) ∷ []) (at 3 50 700) ≡ costs 201792)
unfolding exact nearest_cent is_billed sizes_refusal rates_refusal or_else fee fee_of_sizes
edges = (refl, refl, refl, refl, refl, refl, refl, refl, refl, refl, refl)

-- 2^40 bytes, and one more, which is 18; rates of 10,000, and of one more, which is 19; no sizes
pub limits : (fee_of_sizes (known (2 ^ 40) ∷ []) (at 10000 10000 10000) ≡ costs 10240000)
    × (fee_of_sizes (known (2 ^ 40 + 1) ∷ []) (at 1 2 3) ≡ refused 18)
    × (fee_of_sizes (known 0 ∷ []) (at 10001 2 3) ≡ refused 19)
    × (fee_of_sizes (known 0 ∷ []) (at 1 10001 3) ≡ refused 19)
    × (fee_of_sizes (known 0 ∷ []) (at 1 2 10001) ≡ refused 19)
    × (fee_of_sizes [] (at 1 2 3) ≡ costs 0)
unfolding exact nearest_cent is_billed sizes_refusal rates_refusal or_else fee fee_of_sizes
limits = (refl, refl, refl, refl, refl, refl)

-- 18: missing, negative, mended by another; a sum over 2^40 of sizes that are not
pub bad_sizes : (fee_of_sizes (None ∷ []) (at 1 2 3) ≡ refused 18)
    × (fee_of_sizes (Some (negsuc 0) ∷ []) (at 1 2 3) ≡ refused 18)
    × (fee_of_sizes (Some (negsuc 0) ∷ known 1 ∷ []) (at 1 2 3) ≡ refused 18)
    × (fee_of_sizes (known 5 ∷ None ∷ []) (at 1 2 3) ≡ refused 18)
    × (fee_of_sizes (known (2 ^ 40) ∷ known 1 ∷ []) (at 1 2 3) ≡ refused 18)
    × (fee_of_sizes (known (2 ^ 39) ∷ known (2 ^ 39) ∷ []) (at 1 2 3) ≡ costs 2496)
unfolding exact nearest_cent is_billed sizes_refusal rates_refusal or_else fee fee_of_sizes
bad_sizes = (refl, refl, refl, refl, refl, refl)

-- each size, then the sum: a bad size before and behind sizes whose sum, with it too, is over 2^40; both faults are 18
pub sizes_then_sum : (fee_of_sizes (Some (negsuc 0) ∷ known (2 ^ 40) ∷ known 2 ∷ []) (at 1 2 3) ≡ refused 18)
    × (fee_of_sizes (known (2 ^ 40) ∷ known 2 ∷ Some (negsuc 0) ∷ []) (at 1 2 3) ≡ refused 18)
    × (fee_of_sizes (known (2 ^ 40) ∷ known 2 ∷ None ∷ []) (at 1 2 3) ≡ refused 18)
unfolding exact nearest_cent is_billed sizes_refusal rates_refusal or_else fee fee_of_sizes
sizes_then_sum = (refl, refl, refl)

-- 18 before 19: each fault of a size, of the sum and of the list beside a rate that is too high
pub sizes_then_rates : (fee_of_sizes (None ∷ []) (at 10001 2 3) ≡ refused 18)
    × (fee_of_sizes (Some (negsuc 0) ∷ []) (at 1 10001 3) ≡ refused 18)
    × (fee_of_sizes (known (2 ^ 40 + 1) ∷ []) (at 1 2 10001) ≡ refused 18)
    × (fee_of_sizes (known (2 ^ 40) ∷ known 1 ∷ []) (at 1 2 10001) ≡ refused 18)
    × (fee_of_sizes (replicate 1001 (known 0)) (at 10001 2 3) ≡ refused 18)
unfolding exact nearest_cent is_billed sizes_refusal rates_refusal or_else fee fee_of_sizes
sizes_then_rates = (refl, refl, refl, refl, refl)

-- two halves of a cent are one, and a quarter and a quarter are a half
pub of_their_sum : (fee_of_sizes (known (2 ^ 29) ∷ known (2 ^ 29) ∷ []) (at 1 0 0) ≡ costs 1)
    × (fee_of_sizes (known (2 ^ 28) ∷ known (2 ^ 28) ∷ []) (at 1 0 0) ≡ costs 1)
unfolding exact nearest_cent is_billed sizes_refusal rates_refusal or_else fee fee_of_sizes
of_their_sum = (refl, refl)

-- 1,000 sizes, and one more, which is 18
pub most_sizes : (fee_of_sizes (replicate 1000 (known gib)) (at 1 2 3) ≡ costs 2424)
    × (fee_of_sizes (replicate 1001 (known 0)) (at 1 2 3) ≡ refused 18)
unfolding exact nearest_cent is_billed sizes_refusal rates_refusal or_else fee fee_of_sizes
most_sizes = (refl, refl)

-- of records: 18, 19, and 18 before 19
pub of_records : (fee_of_record (file (known (2 ^ 29))) (at 1 0 0) ≡ costs 1)
    × (fee_of_record (file None) (at 1 0 0) ≡ refused 18)
    × (fee_of_record (file (known 5)) (at 10001 0 0) ≡ refused 19)
    × (fee_of_record (file None) (at 10001 0 0) ≡ refused 18)
    × (fee_of_record (file (known (2 ^ 40 + 1))) (at 10001 0 0) ≡ refused 18)
unfolding exact nearest_cent is_billed total_refusal rates_refusal or_else fee fee_of_total
of_records = (refl, refl, refl, refl, refl)

-- ---- hypotheses that are met

-- two sizes in two bands, and more than them
abbrev two : List (Option ℤ)
two = known (2 ^ 29) ∷ known (64 * gib) ∷ []

abbrev more : List (Option ℤ)
more = known (2 ^ 29 + 1) ∷ two

pub two_are_their_sum : fee_of_sizes two (at 3 50 700) ≡ fee_of_total (sum two) (at 3 50 700)
unfolding is_billed
two_are_their_sum = fee_of_list two (at 3 50 700) (lit≤ tt) refl

pub two_folded : fee_of_record (fold (map file two)).rec (at 3 50 700) ≡ fee_of_sizes two (at 3 50 700)
unfolding is_billed fold_from step merge_value totals_overflow counts_overflow sum_is_outside is_outside
two_folded = fee_of_fold (file (known (2 ^ 29))) (file (known (64 * gib)) ∷ []) (at 3 50 700) refl (lit≤ tt) refl

pub more_cost_no_less : (fee_of_sizes two (at 3 50 700)).cents ≤ (fee_of_sizes more (at 3 50 700)).cents
unfolding exact nearest_cent is_billed sizes_refusal rates_refusal or_else fee fee_of_sizes
more_cost_no_less = list_fees_grow two more (at 3 50 700) (lit≤ tt) refl

pub a_larger_file : (fee_of_record (file (known (2 ^ 29))) (at 3 50 700)).cents ≤ (fee_of_record (file (known (2 ^ 30))) (at 3 50 700)).cents
unfolding exact nearest_cent is_billed total_refusal rates_refusal or_else fee fee_of_total
a_larger_file = record_fees_grow (file (known (2 ^ 29))) (file (known (2 ^ 30))) (at 3 50 700) (lit≤ tt) refl

-- exactly half a cent away, where no fee is further
pub half_away : 2 * difference ((fee_of_record (file (known (2 ^ 29))) (at 1 0 0)).cents * gib) (exact (2 ^ 29) (at 1 0 0)) ≤ gib
unfolding exact nearest_cent is_billed total_refusal rates_refusal or_else fee fee_of_total
half_away = record_half_a_cent (file (known (2 ^ 29))) (at 1 0 0) refl

pub two_half_away : 2 * difference ((fee_of_sizes two (at 3 1 700)).cents * gib) (exact (64 * gib + 2 ^ 29) (at 3 1 700)) ≤ gib
unfolding exact nearest_cent is_billed sizes_refusal rates_refusal or_else fee fee_of_sizes
two_half_away = list_half_a_cent two (at 3 1 700) refl

pub upward : ◌≡◌ {A = ℕ} 1 (nearest_cent (2 ^ 29))
upward = nearest_only (2 ^ 29) 1 (record { below = lit≤ tt; above = lit≤ tt })
