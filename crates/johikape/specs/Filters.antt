-- How the answers of a filter and of a search cross.
use Rattle.std.specs.Prelude.{Bool, cond, ℕ, eqb, Result, Ok, Err}
use Rattle.sedona_expr.specs.Names.{Search}
use Rattle.sedona_expr.specs.declared.spatial_filter.Evaluation.{Evaluation}

-- 0 cannot match, 1 may match, else the number that refuses it: none is 0 or 1.
abbrev pub code : Result Evaluation ℕ → ℕ
code (Ok Evaluation.CannotMatch) = 0
code (Ok Evaluation.MayMatch) = 1
code (Err n) = n

-- What a caller reads in that number.
abbrev pub decode : ℕ → Result Evaluation ℕ
decode n = cond (eqb n 0) (Ok Evaluation.CannotMatch) (cond (eqb n 1) (Ok Evaluation.MayMatch) (Err n))

-- Whether it is a hit is answered; the place and the count are left in what is lent.
abbrev pub found : Bool → ℕ → ℕ → Search
found h p c = record { hit = h; place = p; compared = c }
