-- What contracts of the steps of a sum alone cite. Who reads the fees and the theorems need not read it: none of them rests on it.
use Rattle.std.specs.Prelude.{cond, List, [], ◌∷◌, pos, Option, Some, None, ℤ}
use Rattle.sedona_expr.specs.Statistics.{plus}
use Rattle.scan_tariff.specs.Tariff.{is_billed}

-- ---- the sum as it is walked, which is missing from where a size, or the sum so far, is not billed

abbrev pub billed : Option ℤ → Option ℤ
billed t = cond (is_billed t) t None

abbrev pub no_bytes : Option ℤ
no_bytes = Some (pos 0)

unfoldable pub with_size : Option ℤ → Option ℤ → Option ℤ
with_size s t = billed (plus (billed s) (billed t))

abbrev pub with_sizes : Option ℤ → List (Option ℤ) → Option ℤ
with_sizes s [] = s
with_sizes s (t ∷ ts) = with_sizes (with_size s t) ts
