-- What contracts of private functions alone cite. Who reads the calls and the theorems need not read it: none of them rests on it.
use Rattle.std.specs.Prelude.{Bool, ◌&&◌}
use Rattle.std.specs.Float.Ieee.{le}
use Rattle.sedona_geometry.specs.declared.interval.WraparoundInterval.{WraparoundInterval}

-- Both run low to high: what most x do, and by which the code takes a shorter way.
unfoldable pub both_rise : WraparoundInterval → WraparoundInterval → Bool
both_rise x y = le x.inner.lo x.inner.hi && le y.inner.lo y.inner.hi
