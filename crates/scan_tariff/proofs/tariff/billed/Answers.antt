-- `tariff::billed` meets its contract. Assumes nothing.
use Rattle.scan_tariff.proofs.tariff.billed.Goals as goal

pub returns-then-is_billed : goal.returns-then-is_billed
returns-then-is_billed c = rw (← c.is_billed.ensures, c.if-is_billed.true)

pub returns : goal.returns
returns c = rw (← c.is_billed.ensures, c.if-is_billed.false)
