-- `names::passed_over` meets its contract: no name so far is a hit. Assumes nothing.
use mathlib.Core.Path.{sym, ◌∙◌}
use native.Mathlib.Omega.{arith}
use Rattle.sedona_expr.proofs.Searches.{pass_none, pass_step, passed_search}
use Rattle.sedona_expr.proofs.names.passed_over.Goals as goal

pub loop-step-init : goal.loop-step-init
loop-step-init c =
    let chunks = c.chunks_exact-step-items.ensures in
    rw c.into_iter-step-iterator.ensures.into_iter_gives (chunks.size, pass_none c.args.names.now c.args.name _ chunks.rest)

pub returns-then-not-is_none_of : goal.returns-then-not-is_none_of
returns-then-not-is_none_of c = passed_search c.args.names.now c.args.name c.loop-step.i _ c.loop-step.invariant.1

pub overflow_add-i : goal.overflow_add-i
overflow_add-i c =
    let inv = c.loop-step.invariant in
    let step = c.in-Some.ensures.steps.1 in
    let next = pass_step c.args.names.now c.args.name c.loop-step.i 8 _ _ _ inv.1 step.0 (step.1 ∙ inv.0) (sym c.is_none_of.ensures ∙ c.if-not-is_none_of.false) in
    record { fits = omega (arith, next.within) }

pub loop-step-preserved : goal.loop-step-preserved
loop-step-preserved c =
    let inv = c.loop-step.invariant in
    let steps = c.in-Some.ensures.steps in
    (steps.0 ∙ inv.0, pass_step c.args.names.now c.args.name c.loop-step.i 8 _ _ _ inv.1 steps.1.0 (steps.1.1 ∙ inv.0) (sym c.is_none_of.ensures ∙ c.if-not-is_none_of.false))

pub returns : goal.returns
returns c = passed_search c.args.names.now c.args.name c.loop-step.i _ c.loop-step.invariant.1
