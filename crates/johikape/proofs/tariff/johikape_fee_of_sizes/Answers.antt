-- `johikape_fee_of_sizes` meets its contract. Assumes nothing.
use mathlib.Core.Path.{refl, sym, subst}
use Prim.Native.Nat.{ℕ, ◌≤◌, ◌<◌}
use borrow.Author.Tests.{ne_eqb}
use Rattle.sedona_expr.specs.Error.{number, number_is_not_zero}
use Rattle.scan_tariff.proofs.Sizes.{fee_long, fee_walked}
use Rattle.johikape.specs.Boxes.{unless_refused}
use Rattle.johikape.specs.Tariff.{rates, sizes, fee_of_sizes}
use Rattle.johikape.proofs.Sizes.{sizes_pass, sizes_length}
use Rattle.johikape.proofs.tariff.johikape_fee_of_sizes.Goals as goal

pub returns-in-Err : goal.returns-in-Err
unfolding unless_refused fee_of_sizes
returns-in-Err c = rw (← c.in-Err.ensures, ne_eqb (number c.in-Err.e) 0 (number_is_not_zero c.in-Err.e)) (c.number.ensures, rw (ne_eqb (number c.in-Err.e) 0 (number_is_not_zero c.in-Err.e)))

pub returns-then-sizes-gt-MOST_SIZES : goal.returns-then-sizes-gt-MOST_SIZES
unfolding unless_refused fee_of_sizes
returns-then-sizes-gt-MOST_SIZES c =
    let a = c.args in
    let alike = sizes_pass a.sizes.now a.known.now 0 c.in_default.ensures refl in
    rw (
      ← c.in_default.ensures,
      ← fee_long (sizes a.sizes.now a.known.now) (rates a.first a.second a.third) (subst (λ (n : ℕ). 1000 < n) (sym (sizes_length a.sizes.now a.known.now alike)) c.if-sizes-gt-MOST_SIZES.true),
    )
    (c.number-then-sizes-gt-MOST_SIZES.ensures, refl)

pub sum_of-requires : goal.sum_of-requires
sum_of-requires c = sizes_pass c.args.sizes.now c.args.known.now 0 c.in_default.ensures refl

pub returns : goal.returns
unfolding fee_of_sizes
returns c =
    let a = c.args in
    let alike = sizes_pass a.sizes.now a.known.now 0 c.in_default.ensures refl in
    rw (
      ← c.in_default.ensures,
      ← fee_walked (sizes a.sizes.now a.known.now) (rates a.first a.second a.third) (subst (λ (n : ℕ). n ≤ 1000) (sym (sizes_length a.sizes.now a.known.now alike)) c.if-sizes-gt-MOST_SIZES.false),
      ← c.sum_of.ensures,
      ← c.fee_of_total.ensures,
    )
    c.put_fee.ensures
