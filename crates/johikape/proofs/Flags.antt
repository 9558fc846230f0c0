-- The flag of a z or an m. Assumes nothing.
use Rattle.std.specs.Prelude.{◌≡◌, refl, ℕ, cond, Option, Some, None, is_some}
use Rattle.sedona_geometry.specs.declared.interval.Interval.{Interval}
use Rattle.johikape.specs.Boxes.{known}

pub known_flag : (d : Option Interval) (n : ℕ) → cond (is_some d) n 0 ≡ known d n
known_flag None n = refl
known_flag (Some i) n = refl
