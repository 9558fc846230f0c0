-- What contracts of private functions alone cite. Who reads the calls and the theorems need not read it: none of them rests on it.
use Rattle.std.specs.Prelude.{◌≡◌, ℕ, ◌-◌, ◌*◌, ◌≤◌, length, Result, Ok, Err}
use Rattle.sedona_expr.specs.Statistics as statistics
use Rattle.sedona_expr.specs.Statistics.{Folded}
use Rattle.sedona_expr.specs.declared.error.Refusal.{Refusal}
use Rattle.johikape.specs.Records.{width, Lists, lists, from, records}
use Rattle.johikape.specs.declared.records.Lent.{Lent}
use Rattle.johikape.specs.declared.records.Begun.{Begun}

-- The lengths of a fold's lists fit.
pub record Fit (l : Lists) : Type 0 where
  pub doubles : length l.doubles ≡ length l.flags * width
  pub totals : length l.totals ≡ length l.flags * 7
  pub types : length l.types ≡ length l.flags

-- A fold of the first i records: with the rest folded in, it is that of all.
pub record FoldedTo (l : Lists) (f : Folded) (i : ℕ) : Type 0 where
  pub place : i ≤ length l.flags
  pub rest : statistics.fold_from f (from l i (length l.flags - i)) ≡ statistics.fold (records l)

-- The lists that are lent.
abbrev pub lent : Lent → Lists
lent l = lists l.doubles.now l.totals.now l.types.now l.flags.now

-- A fold that has begun: so many records are in it; or it is refused, and so is that of all.
abbrev pub BegunWell : Lists → Result Begun Refusal → Type 0
BegunWell l (Ok b) = FoldedTo l (statistics.folded (Ok b.folded)) b.count
BegunWell l (Err e) = statistics.folded (Err e) ≡ statistics.fold (records l)
