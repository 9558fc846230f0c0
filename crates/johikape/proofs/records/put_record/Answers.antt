-- `records::put_record` meets its contract. Assumes nothing.
use Rattle.johikape.proofs.records.put_record.Goals as goal

pub returns : goal.returns
returns c = rw (c.put_doubles.ensures, c.put_totals.ensures, c.bits.ensures, c.flags_of.ensures)
