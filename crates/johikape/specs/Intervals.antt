-- How intervals cross: by their two ends.
use Rattle.std.specs.Prelude.{◌≡◌, ℕ, Float, Result, Ok, Err}
use Rattle.sedona_geometry.specs.Error as error
use Rattle.sedona_geometry.specs.Interval as interval
use Rattle.sedona_geometry.specs.WraparoundInterval as wraparound
use Rattle.sedona_geometry.specs.declared.interval.Interval.{Interval}
use Rattle.sedona_geometry.specs.declared.interval.WraparoundInterval.{WraparoundInterval}
use Rattle.sedona_geometry.specs.declared.error.Refusal.{Refusal}
use Rattle.johikape.specs.declared.intervals.JohikapeInterval.{JohikapeInterval}

unfoldable pub plain : JohikapeInterval → Interval
plain i = interval.new i.lo i.hi

unfoldable pub x : JohikapeInterval → WraparoundInterval
x i = wraparound.new i.lo i.hi

unfoldable pub ends : Interval → JohikapeInterval
ends i = record { lo = i.lo; hi = i.hi }

-- The ends of what both hold, into what was `lo` and `hi`; or the number, and these stay.
unfoldable pub Gives : Result WraparoundInterval Refusal → ℕ → Float → Float → Float → Float → Type 0
Gives (Err e) r lo lo' hi hi' = (r ≡ error.number e) × ((lo' ≡ lo) × (hi' ≡ hi))
Gives (Ok i) r lo lo' hi hi' = (r ≡ 0) × ((lo' ≡ i.inner.lo) × (hi' ≡ i.inner.hi))
