-- How the box and the type of a geometry cross: as a box does, and the set's bits.
use Rattle.std.specs.Prelude.{◌≡◌, List, ℕ, Float}
use Rattle.sedona_wkb.specs.Bounds.{WkbBounds}
use Rattle.johikape.specs.Boxes as boxes

-- The number is answered, and the box and the set left where it is 0: `ds`, `f` and `t` become `es`, `g` and `u`.
abbrev pub Gives : WkbBounds → ℕ → List Float → List Float → ℕ → ℕ → ℕ → ℕ → Type 0
Gives a r ds es f g t u = boxes.Gives a.numbered r ds es f g × (u ≡ boxes.unless_refused a.numbered.number a.types.types t)
