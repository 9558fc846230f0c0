-- `johikape_fee_of_record` meets its contract. Assumes nothing.
use mathlib.Core.Path.{refl}
use Rattle.johikape.specs.Boxes.{unless_refused}
use Rattle.johikape.specs.Tariff.{fee_of_record}
use Rattle.johikape.proofs.tariff.johikape_fee_of_record.Goals as goal

pub returns-then-not-are_good : goal.returns-then-not-are_good
unfolding unless_refused fee_of_record
returns-then-not-are_good c = rw (← c.are_good.ensures, c.if-not-are_good.true) (c.number.ensures, refl)

pub returns : goal.returns
unfolding fee_of_record
returns c = rw (← c.are_good.ensures, c.if-not-are_good.false, ← c.read-rec.ensures, ← c.fee_of_record.ensures) c.put_fee.ensures
