-- What a biller relies on. Assumes nothing.
use Rattle.std.specs.Prelude.{Option, Some, None, ℤ}
use mathlib.Core.Logic.{◌⊎◌, inl, inr}
use mathlib.Core.Path.{◌≡◌, refl, sym, ap, subst, ◌∙◌}
use mathlib.Core.Bool.{Bool, true, false, not, ◌||◌, ◌&&◌, cond}
use mathlib.Core.List.{List, [], ◌∷◌, map}
use Prim.Native.Nat.{ℕ, ◌+◌, ◌*◌, ◌≤◌, ◌<◌}
use native.Mathlib.Omega.{arith}
use borrow.Author.Tests.{eqb-false, le-ltb}
use lib.Dec.{eqb}
use lib.IntN.{+ℤ_idr}
use lib.ListN.{length, length-map}
use Rattle.sedona_geometry.specs.Lists.{are_all}
use Rattle.sedona_geometry.proofs.Order.{ℕ_le_or_lt}
use Rattle.sedona_expr.specs.Statistics.{fold, sum, total, size_bytes}
use Rattle.sedona_expr.specs.declared.statistics.GeoStatistics.{GeoStatistics}
use Rattle.sedona_expr.proofs.Theorems.{totals_are_sums}
use Rattle.scan_tariff.specs.Error as error
use Rattle.scan_tariff.specs.Tariff.{gib, first_band, second_band, third_band, exact, nearest_cent, cents, is_billed, total_refusal, sizes_refusal, refusal, bytes, refused, fee, fee_of_total, fee_of_record, fee_of_sizes, difference, Nearest}
use Rattle.scan_tariff.specs.declared.tariff.Rates.{Rates}
use Rattle.scan_tariff.specs.Tariff.{Fee}
use Rattle.scan_tariff.proofs.Cents.{nearest, nearest_only, whole_band, cents_grow}

-- ---- bands

-- The bands add up to the bytes.
pub bands_add_up : (n : ℕ) → first_band n + second_band n + third_band n ≡ n
bands_add_up n = omega arith

-- Each band rounded by itself gives the same cents, since a band that is full is a whole number of GiB.
module _ (n : ℕ) (r : Rates) where
  abbrev one : ℕ
  one = first_band n * r.first

  abbrev two : ℕ
  two = second_band n * r.second

  abbrev three : ℕ
  three = third_band n * r.third

  apart : (n ≤ 64 * gib) ⊎ (64 * gib < n) → (n ≤ 512 * gib) ⊎ (512 * gib < n) → Nearest (one + two + three) (nearest_cent one + nearest_cent two + nearest_cent three)
  apart (inl l) m =
      let a = nearest one in
      let b = whole_band (second_band n) r.second 0 (omega arith) in
      let c = whole_band (third_band n) r.third 0 (omega arith) in
      record { below = omega arith; above = omega arith }
  apart (inr l) (inl m) =
      let a = whole_band (first_band n) r.first 64 (omega arith) in
      let b = nearest two in
      let c = whole_band (third_band n) r.third 0 (omega arith) in
      record { below = omega arith; above = omega arith }
  apart (inr l) (inr m) =
      let a = whole_band (first_band n) r.first 64 (omega arith) in
      let b = whole_band (second_band n) r.second 448 (omega arith) in
      let c = nearest three in
      record { below = omega arith; above = omega arith }

  pub each_band_alone : cents n r ≡ nearest_cent one + nearest_cent two + nearest_cent three
  unfolding exact
  each_band_alone = sym (nearest_only (exact n r) (nearest_cent one + nearest_cent two + nearest_cent three) (apart (ℕ_le_or_lt n (64 * gib)) (ℕ_le_or_lt n (512 * gib))))

-- ---- lists and records

-- The fee of a list is the fee of its sum, be it a fee, 18 for a sum over 2^40, or 19.
--     l    the list is "of at most 1,000 sizes"
--     e    no size is "missing, negative or over 2^40"
pub fee_of_list : (ts : List (Option ℤ)) (r : Rates) → length ts ≤ 1000 → are_all is_billed ts ≡ true → fee_of_sizes ts r ≡ fee_of_total (sum ts) r
unfolding fee_of_sizes fee_of_total sizes_refusal total_refusal
fee_of_list ts r l e = rw (le-ltb 1000 (length ts) l, e)

of_one : (t : Option ℤ) (r : Rates) → fee_of_total t r ≡ fee_of_sizes (t ∷ []) r
unfolding fee_of_sizes fee_of_total sizes_refusal total_refusal is_billed
of_one None r = refl
of_one (Some z) r = rw (+ℤ_idr z) (go (is_billed (Some z)))
  where
    go : (b : Bool) → fee (cond (not b) error.bad_size 0) (Some z) r ≡ fee (cond (not (b && true) || not b) error.bad_size 0) (Some z) r
    go true = refl
    go false = refl

-- The fee of one record is that of a list of one.
pub fee_of_one : (s : GeoStatistics) (r : Rates) → fee_of_record s r ≡ fee_of_sizes (s.total_size_bytes ∷ []) r
fee_of_one s r = of_one s.total_size_bytes r

-- The fee of a folded record is that of the list of its records' sizes.
--     e    the fold is not refused: no total leaves its range
--     l, b    the list passes, as above. One that does not gets 18, where a record of more records than 1,000, or of sizes that mend each
--             other, may have a fee
pub fee_of_fold : (s : GeoStatistics) (ss : List GeoStatistics) (r : Rates) → (fold (s ∷ ss)).number ≡ 0 → length (s ∷ ss) ≤ 1000 → are_all is_billed (map (total size_bytes) (s ∷ ss)) ≡ true
    → fee_of_record (fold (s ∷ ss)).rec r ≡ fee_of_sizes (map (total size_bytes) (s ∷ ss)) r
fee_of_fold s ss r e l b = ap (λ (t : Option ℤ). fee_of_total t r) (totals_are_sums size_bytes s ss e) ∙ sym (fee_of_list (map (total size_bytes) (s ∷ ss)) r (subst (λ (n : ℕ). n ≤ 1000) (sym (length-map (s ∷ ss) (total size_bytes))) l) b)

-- ---- more bytes

-- an answer is refused, with no cents, or is the fee
given_or_none : (n : ℕ) (t : Option ℤ) (r : Rates) → (fee n t r ≡ record { number = 0; cents = cents (bytes t) r }) ⊎ ((fee n t r).cents ≡ 0)
unfolding fee
given_or_none n t r = go (eqb (refusal n r) 0)
  where
    go : (b : Bool) → let f : Fee = cond b (record { number = 0; cents = cents (bytes t) r }) (refused (refusal n r)) in
        (f ≡ record { number = 0; cents = cents (bytes t) r }) ⊎ (f.cents ≡ 0)
    go true = inl refl
    go false = inr refl

given : (n : ℕ) (t : Option ℤ) (r : Rates) → (fee n t r).number ≡ 0 → (fee n t r).cents ≡ cents (bytes t) r
unfolding fee
given n t r e = go (eqb (refusal n r) 0) refl e
  where
    go : (b : Bool) → eqb (refusal n r) 0 ≡ b → let f : Fee = cond b (record { number = 0; cents = cents (bytes t) r }) (refused (refusal n r)) in f.number ≡ 0 → f.cents ≡ cents (bytes t) r
    go true p q = refl
    go false p q = absurd (eqb-false (refusal n r) 0 p q)

grow : (m n : ℕ) (t u : Option ℤ) (r : Rates) → bytes t ≤ bytes u → (fee n u r).number ≡ 0 → (fee m t r).cents ≤ (fee n u r).cents
grow m n t u r l e = rw (given n u r e) (go (given_or_none m t r))
  where
    go : (fee m t r ≡ record { number = 0; cents = cents (bytes t) r }) ⊎ ((fee m t r).cents ≡ 0) → (fee m t r).cents ≤ cents (bytes u) r
    go (inl g) = rw g (cents_grow (bytes t) (bytes u) r l)
    go (inr g) = omega arith

-- More bytes at the same rates never cost less, of records and of lists. Each asks that there are no fewer bytes, and that those are not
-- refused; what is refused costs 0.
pub record_fees_grow : (a b : GeoStatistics) (r : Rates) → bytes a.total_size_bytes ≤ bytes b.total_size_bytes → (fee_of_record b r).number ≡ 0 → (fee_of_record a r).cents ≤ (fee_of_record b r).cents
unfolding fee_of_total
record_fees_grow a b r = grow (total_refusal a.total_size_bytes) (total_refusal b.total_size_bytes) a.total_size_bytes b.total_size_bytes r

pub list_fees_grow : (ts us : List (Option ℤ)) (r : Rates) → bytes (sum ts) ≤ bytes (sum us) → (fee_of_sizes us r).number ≡ 0 → (fee_of_sizes ts r).cents ≤ (fee_of_sizes us r).cents
unfolding fee_of_sizes
list_fees_grow ts us r = grow (sizes_refusal ts) (sizes_refusal us) (sum ts) (sum us) r

-- ---- rounding

-- The rounded fee, where one is given, is at most half a cent from the exact one, which is a number of cents times 2^30: twice their
-- difference, times 2^30, is at most 2^30.
within : (n : ℕ) (t : Option ℤ) (r : Rates) → (fee n t r).number ≡ 0 → 2 * difference ((fee n t r).cents * gib) (exact (bytes t) r) ≤ gib
within n t r e = let m = nearest (exact (bytes t) r) in rw (given n t r e) (omega arith)

pub record_half_a_cent : (s : GeoStatistics) (r : Rates) → (fee_of_record s r).number ≡ 0 → 2 * difference ((fee_of_record s r).cents * gib) (exact (bytes s.total_size_bytes) r) ≤ gib
unfolding fee_of_total
record_half_a_cent s r = within (total_refusal s.total_size_bytes) s.total_size_bytes r

pub list_half_a_cent : (ts : List (Option ℤ)) (r : Rates) → (fee_of_sizes ts r).number ≡ 0 → 2 * difference ((fee_of_sizes ts r).cents * gib) (exact (bytes (sum ts)) r) ≤ gib
unfolding fee_of_sizes
list_half_a_cent ts r = within (sizes_refusal ts) (sum ts) r
