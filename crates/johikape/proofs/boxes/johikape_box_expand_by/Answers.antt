-- `johikape_box_expand_by` meets its contract. Assumes nothing.
use mathlib.Core.Path.{refl, sym, ◌∙◌}
use Rattle.sedona_geometry.proofs.Canonical.{stays_box, expand_box_canonical}
use Rattle.johikape.specs.Boxes.{expanded, unless_refused}
use Rattle.johikape.proofs.boxes.johikape_box_expand_by.Goals as goal

pub returns-in_default : goal.returns-in_default
unfolding expanded unless_refused
returns-in_default c = rw (← c.read.ensures, c.in_default.is) (c.number.ensures, (refl, refl))

pub returns : goal.returns
unfolding expanded unless_refused
returns c =
    let e = c.expand_by.ensures ∙ sym (stays_box (expand_box_canonical c.in-Some.first c.args.distance)) in
    rw (← c.read.ensures, c.in-Some.is) (refl, rw e at c.put.ensures)
