-- `records::Lent::fold_whole` meets its contract: the records so far are folded. Assumes nothing.
use Rattle.std.proofs.Common.{◌+◌, Ok, Some}
use Rattle.std.proofs.lemmas.Result.{err_from_is_err_and}
use mathlib.Core.Path.{sym, ap, subst, ◌∙◌}
use native.Mathlib.Omega.{arith}
use Rattle.sedona_expr.specs.Statistics.{Merged, start, step, folded, of_merged, merge_value}
use Rattle.johikape.specs.Within.{FoldedTo, lent}
use Rattle.johikape.proofs.Lists.{folded_none, folded_next, refused_all}
use Rattle.johikape.proofs.records.Lent.fold_whole.Goals as goal

pub loop-i-init : goal.loop-i-init
unfolding step
loop-i-init c =
    let ls = lent c.args.self.now in
    rw (c.plus_zero-folded.ensures, c.record_at.ensures) (folded_next ls start 0 (omega (arith, c.if-count-eq0.false)) c.if-self-ne-WHOLE.false (folded_none ls))

pub returns-in_err-folded : goal.returns-in_err-folded
unfolding step
returns-in_err-folded c =
    let ls = lent c.args.self.now in
    let loop = c.loop-i in
    let more = folded_next ls (folded (Ok (Some loop.folded))) loop.i c.loop-i-test.true c.if-self-i-ne-WHOLE.false loop.invariant in
    let e = c.in_err-folded.ensures ∙ ap (merge_value loop.folded) c.record_at-in-loop-i.ensures in
    let p = err_from_is_err_and c.from_residual.result c.from_residual.ensures.1 in
    rw (p.1, p.2) (refused_all ls c.in_err-folded.field-0.0 (loop.i + 1) (subst (λ (m : Merged). FoldedTo ls (of_merged m) (loop.i + 1)) (sym e) more))

pub loop-i-preserved : goal.loop-i-preserved
unfolding step
loop-i-preserved c =
    let ls = lent c.args.self.now in
    let loop = c.loop-i in
    let more = folded_next ls (folded (Ok (Some loop.folded))) loop.i c.loop-i-test.true c.if-self-i-ne-WHOLE.false loop.invariant in
    let e = c.in_ok-folded.ensures ∙ ap (merge_value loop.folded) c.record_at-in-loop-i.ensures in
    subst (λ (m : Merged). FoldedTo ls (of_merged m) (loop.i + 1)) (sym e) more
