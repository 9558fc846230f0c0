-- `boxes::read` meets its contract. Assumes nothing.
use Rattle.johikape.specs.Boxes.{read}
use Rattle.johikape.proofs.boxes.read.Goals as goal

pub returns-then-is_good_flag : goal.returns-then-is_good_flag
unfolding read
returns-then-is_good_flag c = rw (← c.is_good_flag.ensures, c.if-is_good_flag.true, c.at.ensures, c.new.ensures.0, c.new.ensures.1)

pub returns : goal.returns
unfolding read
returns c = rw (← c.is_good_flag.ensures, c.if-is_good_flag.false)
