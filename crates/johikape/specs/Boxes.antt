-- How a box crosses: as eight doubles, low and high of x, y, z, m, and a flag: 1 box, 2 z known, 4 m known. 0 stands for the ends of what is missing.
use Rattle.std.specs.Prelude.{◌≡◌, Bool, false, cond, List, [], ◌∷◌, ℕ, ◌+◌, eqb, Float, Option, Some, None}
use Rattle.std.specs.Float.{binary64}
use Rattle.std.specs.Float.Ieee.{of_bits}
use Rattle.sedona_geometry.specs.BoundingBox as bounding_box
use Rattle.sedona_geometry.specs.declared.bounding_box.BoundingBox.{BoundingBox}
use Rattle.sedona_geometry.specs.BoundingBox.{NumberedBox}
use Rattle.sedona_expr.specs.Error as error
use Rattle.sedona_expr.specs.Tables.{boxes, box_at}
use Rattle.sedona_expr.specs.Refusals.{good_flag}
use Rattle.sedona_geometry.specs.declared.interval.Interval.{Interval}

-- ---- from C

-- The box of eight doubles and a flag; none where the flag is bad.
unfoldable pub read : List Float → ℕ → Option BoundingBox
read ds flag = cond (good_flag false flag) (box_at (boxes ds (flag ∷ [])) 0) None

-- ---- to C

abbrev pub low : Option Interval → Float
low None = of_bits binary64 0
low (Some i) = i.lo

abbrev pub high : Option Interval → Float
high None = of_bits binary64 0
high (Some i) = i.hi

-- A flag, where it is known.
abbrev pub known : Option Interval → ℕ → ℕ
known None n = 0
known (Some i) n = n

abbrev pub doubles : BoundingBox → List Float
doubles b = b.x.inner.lo ∷ b.x.inner.hi ∷ b.y.lo ∷ b.y.hi ∷ low b.z ∷ high b.z ∷ low b.m ∷ high b.m ∷ []

abbrev pub flag : BoundingBox → ℕ
flag b = 1 + known b.z 2 + known b.m 4

-- ---- what a call answers, and what it leaves

-- What is new where the number is 0, and else what was there.
unfoldable pub unless_refused : {A : Type 0} → ℕ → A → A → A
unless_refused n new old = cond (eqb n 0) new old

-- The number is answered, and the box left where it is 0: `ds` and `f` become `es` and `g`.
abbrev pub Gives : NumberedBox → ℕ → List Float → List Float → ℕ → ℕ → Type 0
Gives a r ds es f g = (r ≡ a.number) × ((es ≡ unless_refused a.number (doubles a.bounds) ds) × (g ≡ unless_refused a.number (flag a.bounds) f))

abbrev pub yes : Bool → ℕ
yes b = cond b 1 0

-- A test of two boxes: 0 or 1; or 8, where a flag is bad.
unfoldable pub test : (BoundingBox → BoundingBox → Bool) → Option BoundingBox → Option BoundingBox → ℕ
test f None b = error.bad_lists
test f (Some a) None = error.bad_lists
test f (Some a) (Some b) = yes (f a b)

-- Both boxes are there, and this is so of them.
abbrev pub HasBoth : (BoundingBox → BoundingBox → Type 0) → Option BoundingBox → Option BoundingBox → Type 0
HasBoth R None b = ⊥
HasBoth R (Some a) None = ⊥
HasBoth R (Some a) (Some b) = R a b

-- A box made of two; or 8 alone, where a flag is bad.
unfoldable pub join : (BoundingBox → BoundingBox → NumberedBox) → Option BoundingBox → Option BoundingBox → NumberedBox
join f None b = bounding_box.refused error.bad_lists
join f (Some a) None = bounding_box.refused error.bad_lists
join f (Some a) (Some b) = f a b

abbrev pub merged : Option BoundingBox → Option BoundingBox → NumberedBox
merged a b = join (λ c d. bounding_box.accepted (bounding_box.merge_box c d)) a b

abbrev pub met : Option BoundingBox → Option BoundingBox → NumberedBox
met a b = join bounding_box.intersection a b

unfoldable pub expanded : Option BoundingBox → Float → NumberedBox
expanded None d = bounding_box.refused error.bad_lists
expanded (Some a) d = bounding_box.accepted (bounding_box.expand_by a d)
