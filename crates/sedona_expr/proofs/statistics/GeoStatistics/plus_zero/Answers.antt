-- `GeoStatistics::plus_zero` meets its contract. Assumes nothing.
use Rattle.sedona_expr.proofs.Parts.{handed_on}
use Rattle.sedona_expr.proofs.statistics.GeoStatistics.plus_zero.Goals as goal

pub returns : goal.returns
returns c = rw (handed_on c.args.self.bbox c.map.ensures.cases)
