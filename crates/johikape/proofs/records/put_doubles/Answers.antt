-- `records::put_doubles` meets its contract. Assumes nothing.
use Rattle.johikape.proofs.records.put_doubles.Goals as goal

pub returns : goal.returns
returns c = rw (c.low.ensures, c.high.ensures, c.low-2.ensures, c.high-2.ensures, c.unwrap_or.ensures, c.unwrap_or-2.ensures, c.or_zero-b.ensures)
