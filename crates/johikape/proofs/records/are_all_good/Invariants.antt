-- `records::are_all_good` meets its contract: what is found so far, and the rest. Assumes nothing.
use Rattle.std.proofs.Common.{◌≡◌, ◌&&◌, drop}
use Rattle.sedona_geometry.specs.Lists.{are_all}
use Rattle.johikape.specs.Records.{good_flags}
use Rattle.johikape.proofs.records.are_all_good.Given as goal

abbrev pub invariant-loop-f : goal.invariant-loop-f
invariant-loop-f l = are_all good_flags l.flags ≡ (l.good && are_all good_flags (drop l.f-index l.flags))
