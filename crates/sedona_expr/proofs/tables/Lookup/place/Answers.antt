-- `tables::Lookup::place` meets its contract. Assumes nothing.
use mathlib.Core.Path.{ap, ◌∙◌}
use Rattle.sedona_expr.specs.Names.{Search}
use Rattle.sedona_expr.specs.Tables.{place}
use Rattle.sedona_expr.proofs.NameSearches.{find_counts}
use Rattle.sedona_expr.proofs.tables.Lookup.place.Goals as goal

pub returns-in-ByPosition : goal.returns-in-ByPosition
unfolding place
returns-in-ByPosition c = rw c.in-ByPosition.is

pub returns-in-ByName : goal.returns-in-ByName
unfolding place
returns-in-ByName c =
    rw c.in-ByName.is (c.unwrap_or.ensures ∙ ap (λ (s : Search). s.place) (c.find_name.ensures ∙ find_counts c.in-ByName.names.now c.args.name))
