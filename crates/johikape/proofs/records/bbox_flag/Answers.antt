-- `records::bbox_flag` meets its contract. Assumes nothing.
use mathlib.Core.Path.{refl}
use native.Mathlib.Omega.{arith}
use Rattle.johikape.proofs.Flags.{known_flag}
use Rattle.johikape.proofs.records.bbox_flag.Goals as goal

pub returns-in-None : goal.returns-in-None
returns-in-None c = rw c.in-None.is (refl, omega arith)

pub returns-in-Some : goal.returns-in-Some
returns-in-Some c =
    (rw (c.in-Some.is, c.flag_of.ensures.0, c.flag_of-in-Some.ensures.0, known_flag, known_flag), omega (arith, c.flag_of.ensures.1, c.flag_of-in-Some.ensures.1))
