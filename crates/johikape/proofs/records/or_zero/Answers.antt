-- `records::or_zero` meets its contract. Assumes nothing.
use Rattle.johikape.proofs.records.or_zero.Goals as goal

pub returns-in-None : goal.returns-in-None
returns-in-None c = rw (c.in-None.is, c.xy.ensures, c.new.ensures, c.new-in-None.ensures)

pub returns-in-Some : goal.returns-in-Some
returns-in-Some c = rw c.in-Some.is
