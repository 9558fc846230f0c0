-- `tariff::check_rates` meets its contract. Assumes nothing.
use borrow.Author.Tests.{lt-ltb, le-ltb}
use Rattle.scan_tariff.specs.Tariff.{rates_refusal}
use Rattle.scan_tariff.proofs.tariff.check_rates.Goals as goal

pub returns-then-rates-gt-HIGHEST_RATE : goal.returns-then-rates-gt-HIGHEST_RATE
unfolding rates_refusal
returns-then-rates-gt-HIGHEST_RATE c = rw (lt-ltb _ _ c.if-rates-gt-HIGHEST_RATE.true)

pub returns-then-rates-gt-HIGHEST_RATE-2 : goal.returns-then-rates-gt-HIGHEST_RATE-2
unfolding rates_refusal
returns-then-rates-gt-HIGHEST_RATE-2 c = rw (le-ltb _ _ c.if-rates-gt-HIGHEST_RATE.false, lt-ltb _ _ c.if-rates-gt-HIGHEST_RATE-2.true)

pub returns-then-rates-gt-HIGHEST_RATE-3 : goal.returns-then-rates-gt-HIGHEST_RATE-3
unfolding rates_refusal
returns-then-rates-gt-HIGHEST_RATE-3 c = rw (le-ltb _ _ c.if-rates-gt-HIGHEST_RATE.false, le-ltb _ _ c.if-rates-gt-HIGHEST_RATE-2.false, lt-ltb _ _ c.if-rates-gt-HIGHEST_RATE-3.true)

pub returns : goal.returns
unfolding rates_refusal
returns c = rw (le-ltb _ _ c.if-rates-gt-HIGHEST_RATE.false, le-ltb _ _ c.if-rates-gt-HIGHEST_RATE-2.false, le-ltb _ _ c.if-rates-gt-HIGHEST_RATE-3.false)
