-- How a `bbox` array crosses: its numbers in six places, with 0 behind them, and how many they are.
use Rattle.std.specs.Prelude.{◌≡◌, List, ℕ, Float, Option, Some, None}
use Rattle.geoparquet_bbox.specs.Layout as layout
use Rattle.geoparquet_bbox.specs.Layout.{NumberedArray}
use Rattle.sedona_expr.specs.Error as error
use Rattle.johikape.specs.Boxes.{unless_refused}
use Rattle.sedona_geometry.specs.declared.bounding_box.BoundingBox.{BoundingBox}

-- The array of a box; or 8 alone, where its flag is bad.
unfoldable pub laid_out : Option BoundingBox → NumberedArray
laid_out None = layout.refused error.bad_lists
laid_out (Some b) = layout.to_geoparquet b

-- The number is answered, and the array left where it is 0: `vs` and `k` become `ws` and `l`.
abbrev pub Gives : NumberedArray → ℕ → List Float → List Float → ℕ → ℕ → Type 0
Gives a r vs ws k l = (r ≡ a.number) × ((ws ≡ unless_refused a.number a.numbers vs) × (l ≡ unless_refused a.number a.count k))
