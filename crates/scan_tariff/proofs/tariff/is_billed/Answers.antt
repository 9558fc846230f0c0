-- `tariff::is_billed` meets its contract. Assumes nothing.
use borrow.Author.Rules.{rules}
use mathlib.Core.Path.{sym, ap, ◌∙◌}
use mir.Syntax.{w64}
use mir.Val.{SFits}
use mir.Facts.{to_z-of_z}
use Rattle.scan_tariff.specs.Tariff.{is_billed}
use Rattle.scan_tariff.proofs.Sizes.{negative_not_billed, billed_up_to}
use Rattle.scan_tariff.proofs.tariff.is_billed.Goals as goal

pub returns-in_default : goal.returns-in_default
unfolding is_billed
returns-in_default c = rw c.in_default.is

pub returns-then-bytes-lt0 : goal.returns-then-bytes-lt0
returns-then-bytes-lt0 c =
    let A : SFits w64 c.in-Some.bytes = search rules in
    sym (ap is_billed c.in-Some.is ∙ negative_not_billed c.in-Some.bytes (rw (to_z-of_z A) at c.if-bytes-lt0.true))

pub returns : goal.returns
returns c =
    let A : SFits w64 c.in-Some.bytes = search rules in
    rw (to_z-of_z A) (sym (ap is_billed c.in-Some.is ∙ billed_up_to c.in-Some.bytes (rw (to_z-of_z A) at c.if-bytes-lt0.false)))
