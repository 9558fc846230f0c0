-- `tariff::check_sizes` meets its contract. Assumes nothing.
use borrow.Author.Tests.{eq-eqb, ne_eqb}
use Rattle.johikape.specs.Tariff.{sizes_refusal}
use Rattle.johikape.proofs.tariff.check_sizes.Goals as goal

pub returns-then-sizes-known : goal.returns-then-sizes-known
unfolding sizes_refusal
returns-then-sizes-known c = rw (ne_eqb _ _ c.if-sizes-known.true)

pub returns-then-are_zero_or_one : goal.returns-then-are_zero_or_one
unfolding sizes_refusal
returns-then-are_zero_or_one c = rw (eq-eqb _ _ c.if-sizes-known.false, ← c.are_zero_or_one.ensures, c.if-are_zero_or_one.true)

pub returns-else-are_zero_or_one : goal.returns-else-are_zero_or_one
unfolding sizes_refusal
returns-else-are_zero_or_one c = rw (eq-eqb _ _ c.if-sizes-known.false, ← c.are_zero_or_one.ensures, c.if-are_zero_or_one.false)
