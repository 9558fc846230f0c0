-- `tariff::with_size` meets its contract: two sizes that are billed have a sum that fits. Assumes nothing.
use Rattle.std.specs.Prelude.{Option, Some}
use borrow.Author.Rules.{rules}
use mathlib.Core.Path.{◌≡◌, sym, ◌∙◌}
use lib.IntN.{ℤ, ◌+ℤ◌}
use mir.Syntax.{w64}
use mir.Val.{SFits}
use mir.Facts.{to_z-of_z}
use Rattle.scan_tariff.specs.Within.{billed}
use Rattle.scan_tariff.proofs.Sizes.{counts, missing_left, missing_right, both_known, sum_fits}
use Rattle.scan_tariff.proofs.tariff.with_size.Goals as goal

-- where both are billed
fits : (s t : Option ℤ) (m n : ℤ) → billed s ≡ Some m → billed t ≡ Some n → SFits w64 (m +ℤ n)
fits s t m n left right = sum_fits m n (counts s m left) (counts t n right)

pub returns-in_err-so_far : goal.returns-in_err-so_far
returns-in_err-so_far c = c.from_residual.ensures ∙ sym (missing_left c.args.sum c.args.size (sym c.in_err-so_far.ensures))

pub returns-in_err-more : goal.returns-in_err-more
returns-in_err-more c = c.from_residual-in_err-more.ensures ∙ sym (missing_right c.args.sum c.args.size (sym c.in_err-more.ensures))

pub overflow_add-so_far : goal.overflow_add-so_far
overflow_add-so_far c =
    let a = c.in_ok-so_far.so_far in
    let b = c.in_ok-more.more in
    let M : SFits w64 a = search rules in
    let N : SFits w64 b = search rules in
    rw (to_z-of_z M, to_z-of_z N) (fits c.args.sum c.args.size a b (sym c.in_ok-so_far.ensures) (sym c.in_ok-more.ensures))

pub returns : goal.returns
returns c =
    let a = c.in_ok-so_far.so_far in
    let b = c.in_ok-more.more in
    let M : SFits w64 a = search rules in
    let N : SFits w64 b = search rules in
    let left = sym c.in_ok-so_far.ensures in
    let right = sym c.in_ok-more.ensures in
    rw (to_z-of_z M, to_z-of_z N, to_z-of_z (fits c.args.sum c.args.size a b left right)) at c.billed-3.ensures ∙ sym (both_known c.args.sum c.args.size a b left right)
