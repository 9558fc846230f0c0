-- `records::total_at` meets its contract. Assumes nothing.
use lib.IntN.{pos}
use lib.ListN.{get_or}
use mir.Syntax.{w64}
use mir.Val.{SFits}
use mir.Facts.{to_z-of_z}
use borrow.Author.Rules.{rules}
use Rattle.sedona_geometry.proofs.Options.{by_flag}
use Rattle.johikape.proofs.records.total_at.Goals as goal

pub returns : goal.returns
returns c = let A : SFits w64 (get_or c.args.totals.now c.args.at (pos 0)) = search rules in rw (c.then_some.ensures, by_flag, to_z-of_z A)
