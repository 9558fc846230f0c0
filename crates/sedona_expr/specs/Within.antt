-- What contracts of private functions alone cite. Who reads the calls and the theorems need not read it: none of them rests on it.
use Rattle.std.specs.Prelude.{◌≡◌, Bool, true, false, not, ◌&&◌, cond, List, [], ◌∷◌, ℕ, ◌+◌, ◌*◌, ◌/◌, ◌%◌, ◌^◌, ◌≤◌, ◌<◌, eqb, ltb, length, get_or, take, Result, Ok, Err, Option, ℤ, Some, None}
use Rattle.sedona_expr.specs.Names.{find_name, Search}
use Rattle.sedona_expr.specs.Statistics.{sum_is_outside, add_totals, Which, total}
use Rattle.sedona_expr.specs.declared.error.Refusal.{Refusal}
use Rattle.sedona_expr.specs.declared.error.Refusal.TheVariants.{Overflow}
use Rattle.sedona_expr.specs.Tables.{word, kind, is_pair, has_children}
use Rattle.sedona_expr.specs.declared.statistics.GeoStatistics.{GeoStatistics}
use Rattle.sedona_expr.specs.declared.tables.Pair.{Pair}

-- ---- nodes

-- All four words of the node are there.
abbrev pub HasNode : List ℕ → ℕ → Type 0
HasNode ns n = 4 * n + 4 ≤ length ns

-- A word over 6 is read as 6.
unfoldable pub kind_or_unknown : ℕ → ℕ
kind_or_unknown k = cond (ltb 6 k) 6 k

-- The children of a node that has them.
unfoldable pub children_of : List ℕ → ℕ → Option Pair
children_of ns n = cond (has_children ns n) (Some (record { left = word ns n 1; right = word ns n 2 })) None

-- 1,024 marks, each of so many.
abbrev pub Counted : List ℕ → (ℕ → ℕ) → Type 0
Counted ms counts = (length ms ≡ 1024) × ((m : ℕ) → m < 1024 → get_or ms m 0 ≡ counts m)

abbrev pub AtMost : List ℕ → ℕ → Type 0
AtMost ms n = (length ms ≡ 1024) × ((m : ℕ) → m < 1024 → get_or ms m 0 ≤ n)

-- The children of an And or Or are among the 1,024.
abbrev pub HaveMarks : List ℕ → ℕ → Type 0
HaveMarks ns n = is_pair (kind ns n) ≡ true → (word ns n 1 < 1024) × (word ns n 2 < 1024)

-- ---- records

-- No sum of two records' totals leaves the range.
abbrev pub SumsStay : GeoStatistics → GeoStatistics → Type 0
SumsStay a b = (w : Which) → sum_is_outside (total w a) (total w b) ≡ false

-- Two totals added; refused where the sum leaves the range.
unfoldable pub checked_total : Option ℤ → Option ℤ → Result (Option ℤ) Refusal
checked_total a b = cond (sum_is_outside a b) (Err Overflow) (Ok (add_totals a b))

-- ---- names

-- A name that is no hit.
abbrev pub is_other : ℕ → ℕ → Bool
is_other n m = not (eqb m n)

-- The search behind so many names, none of them a hit.
abbrev pub behind : ℕ → Search → Search
behind k s = record { hit = s.hit; place = k + s.place; compared = k + s.compared }

-- The name at a place stands before it as well.
abbrev pub comes_before : List ℕ → ℕ → Bool
comes_before ns i = (find_name (take i ns) (get_or ns i 0)).hit

-- Each name is less than the next.
abbrev pub ascends : List ℕ → Bool
ascends [] = true
ascends (n ∷ []) = true
ascends (n ∷ m ∷ ns) = ltb n m && ascends (m ∷ ns)

-- The mark of a name, one of 32,768: the high bits of the low 32 of a product, which mixes the bits of the name.
abbrev pub mark_of : ℕ → ℕ
mark_of n = n * 3803279839 % 2 ^ 32 / 2 ^ 17
