-- Coordinates as intervals: each enters by `update_value`, "NaN passed over".
use Rattle.std.specs.Prelude.{List, [], ◌∷◌, Float, Option, Some, None}
use Rattle.sedona_geometry.specs.Interval as interval
use Rattle.sedona_geometry.specs.Interval.{merge_value}
use Rattle.sedona_geometry.specs.declared.interval.Interval.{Interval}
use Rattle.sedona_wkb.specs.Wkb.{Coordinate}
use Rattle.sedona_wkb.specs.declared.coordinates.Extents.{Extents}

abbrev pub empty : Extents
empty = record { x = interval.empty; y = interval.empty; z = interval.empty; m = interval.empty }

-- A z or an m, where there is one.
unfoldable pub merge_where : Interval → Option Float → Interval
merge_where i None = i
merge_where i (Some v) = merge_value i v

unfoldable pub enter : Extents → Coordinate → Extents
enter e c =
    record {
      x = merge_value e.x c.x;
      y = merge_value e.y c.y;
      z = merge_where e.z c.z;
      m = merge_where e.m c.m;
    }

unfoldable pub enter_all : Extents → List Coordinate → Extents
enter_all e [] = e
enter_all e (c ∷ cs) = enter_all (enter e c) cs
