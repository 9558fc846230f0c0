-- `tariff::fee_of_sizes` meets its contract. Assumes nothing.
use Rattle.scan_tariff.proofs.Sizes.{fee_long, fee_walked}
use Rattle.scan_tariff.proofs.tariff.fee_of_sizes.Goals as goal

pub returns-then-sizes-gt-MOST_SIZES : goal.returns-then-sizes-gt-MOST_SIZES
returns-then-sizes-gt-MOST_SIZES c = fee_long c.args.sizes.now c.args.rates c.if-sizes-gt-MOST_SIZES.true

pub returns : goal.returns
returns c = rw (c.fee_of_total.ensures, c.sum_of.ensures) (fee_walked c.args.sizes.now c.args.rates c.if-sizes-gt-MOST_SIZES.false)
