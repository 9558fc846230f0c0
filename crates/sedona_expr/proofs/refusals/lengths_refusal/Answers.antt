-- `refusals::lengths_refusal` meets its contract. Assumes nothing.
use borrow.Author.Tests.{eq-eqb, ne_eqb}
use Rattle.sedona_expr.specs.Refusals.{lengths_refusal}
use Rattle.sedona_expr.proofs.refusals.lengths_refusal.Goals as goal

pub returns-then-not-are_whole : goal.returns-then-not-are_whole
unfolding lengths_refusal
returns-then-not-are_whole c = rw (← c.are_whole.ensures, c.if-not-are_whole.true)

pub returns-then-records-count : goal.returns-then-records-count
unfolding lengths_refusal
returns-then-records-count c = rw (← c.are_whole.ensures, c.if-not-are_whole.false, ne_eqb _ _ c.if-records-count.true)

pub returns-then-records-count-2 : goal.returns-then-records-count-2
unfolding lengths_refusal
returns-then-records-count-2 c = rw (← c.are_whole.ensures, c.if-not-are_whole.false, eq-eqb _ _ c.if-records-count.false, ne_eqb _ _ c.if-records-count-2.true)

pub returns-then-are_wrong_names : goal.returns-then-are_wrong_names
unfolding lengths_refusal
returns-then-are_wrong_names c = rw (← c.are_whole.ensures, c.if-not-are_whole.false, eq-eqb _ _ c.if-records-count.false, eq-eqb _ _ c.if-records-count-2.false, ← c.are_wrong_names.ensures, c.if-are_wrong_names.true)

pub returns-else-are_wrong_names : goal.returns-else-are_wrong_names
unfolding lengths_refusal
returns-else-are_wrong_names c = rw (← c.are_whole.ensures, c.if-not-are_whole.false, eq-eqb _ _ c.if-records-count.false, eq-eqb _ _ c.if-records-count-2.false, ← c.are_wrong_names.ensures, c.if-are_wrong_names.false)
