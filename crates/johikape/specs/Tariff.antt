-- How fees cross: rates as three numbers, sizes as a list of whole numbers and a list of known bytes, and cents where they are left.
use Rattle.std.specs.Prelude.{◌≡◌, not, ◌||◌, cond, List, [], ◌∷◌, ℕ, eqb, ltb, ℤ, length, Option}
use Rattle.sedona_geometry.specs.Lists.{are_all}
use Rattle.sedona_expr.specs.Error as error
use Rattle.sedona_expr.specs.Refusals.{refuse_if}
use Rattle.scan_tariff.specs.Tariff as scan
use Rattle.scan_tariff.specs.declared.tariff.Rates.{Rates}
use Rattle.scan_tariff.specs.Tariff.{Fee}
use Rattle.johikape.specs.Boxes.{unless_refused}
use Rattle.johikape.specs.Records.{Parts, read_parts, good_flags, total_of}

abbrev pub rates : ℕ → ℕ → ℕ → Rates
rates a b c = record { first = a; second = b; third = c }

-- The number is answered, and the cents left where it is 0.
abbrev pub Gives : Fee → ℕ → ℕ → ℕ → Type 0
Gives a r old new = (r ≡ a.number) × (new ≡ unless_refused a.number a.cents old)

-- The fee of the record; or 8 alone, where its flags are bad.
unfoldable pub fee_of_record : Parts → Rates → Fee
fee_of_record p r = cond (good_flags p.flags) (scan.fee_of_record (read_parts p) r) (scan.refused error.bad_lists)

-- A size for each known byte: 1 where it is known.
abbrev pub sizes : List ℤ → List ℕ → List (Option ℤ)
sizes [] ks = []
sizes (z ∷ zs) [] = []
sizes (z ∷ zs) (k ∷ ks) = total_of (eqb k 1) z ∷ sizes zs ks

-- 8: the counts differ, or a known byte is not 0 or 1.
unfoldable pub sizes_refusal : List ℤ → List ℕ → ℕ
sizes_refusal zs ks = refuse_if (not (eqb (length zs) (length ks)) || not (are_all (λ b. ltb b 2) ks)) error.bad_lists

-- The fee of the sizes; or 8 alone.
unfoldable pub fee_of_sizes : List ℤ → List ℕ → Rates → Fee
fee_of_sizes zs ks r = cond (eqb (sizes_refusal zs ks) 0) (scan.fee_of_sizes (sizes zs ks) r) (scan.refused (sizes_refusal zs ks))
