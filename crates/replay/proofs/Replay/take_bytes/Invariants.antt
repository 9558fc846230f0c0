-- Each line ends past the one before.
use Rattle.std.proofs.Common.{◌-◌, length}
use Rattle.replay.proofs.Replay.take_bytes.Given as goal

abbrev pub decreases-loop-from : goal.decreases-loop-from
decreases-loop-from l = length l.bytes - l.from
