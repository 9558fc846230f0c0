-- `records::Lent::fold` meets its contract: the records so far are folded. Assumes nothing.
use Rattle.std.proofs.Common.{rules, ◌+◌, Ok}
use mathlib.Core.Path.{refl, sym, ap, subst, ◌∙◌}
use Rattle.sedona_expr.specs.Statistics.{Folded, step, folded}
use Rattle.johikape.specs.Within.{FoldedTo, lent}
use Rattle.johikape.proofs.Lists.{folded_next, folded_all, refused_all}
use Rattle.johikape.proofs.records.Lent.fold.Goals as goal

pub returns-in_err-fold_step : goal.returns-in_err-fold_step
returns-in_err-fold_step c =
    let ls = lent c.args.self.now in
    let loop = c.loop-i in
    let more = folded_next ls (folded (Ok loop.folded)) loop.i c.loop-i-test.true refl loop.invariant in
    let e = c.in_err-fold_step.ensures ∙ ap (step (folded (Ok loop.folded))) c.record_at.ensures in
    rw (← refused_all ls c.in_err-fold_step.field-0.0 (loop.i + 1) (subst (λ (f : Folded). FoldedTo ls f (loop.i + 1)) (sym e) more)) (search rules)

pub loop-i-preserved : goal.loop-i-preserved
loop-i-preserved c =
    let ls = lent c.args.self.now in
    let loop = c.loop-i in
    let more = folded_next ls (folded (Ok loop.folded)) loop.i c.loop-i-test.true refl loop.invariant in
    let e = c.in_ok-fold_step.ensures ∙ ap (step (folded (Ok loop.folded))) c.record_at.ensures in
    subst (λ (f : Folded). FoldedTo ls f (loop.i + 1)) (sym e) more

pub returns : goal.returns
returns c = folded_all (lent c.args.self.now) (folded (Ok c.loop-i.folded)) c.loop-i.i c.loop-i-test.false c.loop-i.invariant
