-- `records::flags_of` meets its contract. Assumes nothing.
use Rattle.johikape.specs.Records.{flags}
use Rattle.johikape.proofs.records.flags_of.Goals as goal

pub returns : goal.returns
unfolding flags
returns c = rw (c.bbox_flag.ensures.0, c.parts_of.ensures.0)
