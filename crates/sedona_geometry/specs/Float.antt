-- What Rust's `f64` methods give, over IEEE 754. The source leaves a zero's sign open: request 6 settles it.
use Rattle.std.specs.Prelude.{Bool, false, cond, pos, Float}
use Prim.Native.Nat as nat
use Rattle.std.specs.Float.{nan, inf, fin}
use Rattle.std.specs.Float.Ieee.{lt, is_nan}

abbrev pub zero : Float
zero = fin false 0 (pos 0)

abbrev pub two : Float
two = fin false 1 (pos 1)

-- Request 6: "holds +0 for zero". All else stays.
abbrev pub plus_zero : Float → Float
plus_zero nan = nan
plus_zero (inf s) = inf s
plus_zero (fin s nat.zero e) = fin false 0 e
plus_zero (fin s (nat.suc m) e) = fin s (nat.suc m) e

-- The number is −0.
abbrev pub is_minus_zero : Float → Bool
is_minus_zero nan = false
is_minus_zero (inf s) = false
is_minus_zero (fin s nat.zero e) = s
is_minus_zero (fin s (nat.suc m) e) = false

-- `f64::min`: the smaller number; a NaN only where both are.
unfoldable pub min_num : Float → Float → Float
min_num a b = plus_zero (cond (is_nan a) b (cond (lt b a) b a))

-- `f64::max`: the greater number; a NaN only where both are.
unfoldable pub max_num : Float → Float → Float
max_num a b = plus_zero (cond (is_nan a) b (cond (lt a b) b a))

-- `f64::abs`: the sign is cleared.
unfoldable pub abs : Float → Float
abs nan = nan
abs (inf s) = inf false
abs (fin s m e) = fin false m e
