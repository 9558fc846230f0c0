-- `tariff::fee_of_total` meets its contract. Assumes nothing.
use Rattle.std.specs.Prelude.{Option, Some}
use borrow.Author.Rules.{rules}
use mathlib.Core.Path.{◌≡◌, sym, ap, ◌∙◌}
use Prim.Native.Nat.{ℕ, ◌≤◌}
use lib.Dec.{T}
use lib.IntN.{ℤ, nat_abs}
use lib.Signed.{non_neg}
use native.Mathlib.Omega.{arith}
use mir.Syntax.{w64}
use mir.Val.{SFits}
use mir.Facts.{to_z-of_z}
use Rattle.scan_tariff.specs.Tariff.{most_bytes, nearest_cent}
use Rattle.scan_tariff.specs.Within.{billed}
use Rattle.scan_tariff.specs.Error.{number_is_not_zero}
use Rattle.scan_tariff.proofs.Sizes.{counts, count_bytes, fee_missing, fee_rates, fee_given}
use Rattle.scan_tariff.proofs.tariff.fee_of_total.Goals as goal

-- the bytes of a total that is billed
bytes : (t : Option ℤ) (z : ℤ) → billed t ≡ Some z → T (non_neg z) × (nat_abs z ≤ most_bytes)
bytes t z known = count_bytes z (counts t z known)

pub returns-in_err-bytes : goal.returns-in_err-bytes
returns-in_err-bytes c = rw (fee_missing c.args.total c.args.rates (sym c.billed.ensures ∙ c.in_err-bytes.ensures.ok_part)) (search rules)

pub returns-in_err-check_rates : goal.returns-in_err-check_rates
returns-in_err-check_rates c =
    let e = c.in_err-check_rates in
    rw (fee_rates c.args.total c.in_ok-bytes.bytes c.args.rates (sym c.billed.ensures ∙ c.in_ok-bytes.ensures.ok_part) (λ h. number_is_not_zero e.field-0.0 (e.ensures ∙ h)), ← e.ensures) (search rules)

pub overflow_cast-bytes : goal.overflow_cast-bytes
overflow_cast-bytes c =
    let Z : SFits w64 c.in_ok-bytes.bytes = search rules in
    let b = bytes c.args.total c.in_ok-bytes.bytes (sym c.billed.ensures ∙ c.in_ok-bytes.ensures.ok_part) in
    rw (to_z-of_z Z) (b.0, record { fits = omega (arith, b.1) })

pub exact-requires : goal.exact-requires
exact-requires c =
    let Z : SFits w64 c.in_ok-bytes.bytes = search rules in
    rw (to_z-of_z Z) ((bytes c.args.total c.in_ok-bytes.bytes (sym c.billed.ensures ∙ c.in_ok-bytes.ensures.ok_part)).1, sym c.in_ok-check_rates.ensures)

pub returns : goal.returns
returns c =
    let Z : SFits w64 c.in_ok-bytes.bytes = search rules in
    ap (λ (n : ℕ). record { number = 0; cents = n }) (c.nearest_cent.ensures ∙ ap nearest_cent (rw (to_z-of_z Z) at c.exact.ensures))
    ∙ sym (fee_given c.args.total c.in_ok-bytes.bytes c.args.rates (sym c.billed.ensures ∙ c.in_ok-bytes.ensures.ok_part) (sym c.in_ok-check_rates.ensures))
