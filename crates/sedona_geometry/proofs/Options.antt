-- Tests of what may be missing, by what the code does with a value that is there. Assumes nothing.
use Rattle.std.specs.Prelude.{◌≡◌, refl, Bool, true, false, Option, Some, None, MatchOption, IsTrue, cond}
use Rattle.std.specs.Bool.{then_some}

-- A test that is true of what is missing, and one that is false of it.
pub none_or : {A : Type 0} (g : Option A → Bool) → g None ≡ true → {r : Bool} {P : A → Type 0} (a : Option A)
    → MatchOption a (IsTrue r) P → ((x : A) → P x → r ≡ g (Some x)) → r ≡ g a
none_or g e None h k = rw (h, e)
none_or g e (Some x) h k = k x h

pub some_and : {A : Type 0} (g : Option A → Bool) → g None ≡ false → {r : Bool} {P : A → Type 0} (a : Option A)
    → MatchOption a (r ≡ false) P → ((x : A) → P x → r ≡ g (Some x)) → r ≡ g a
some_and g e None h k = rw (h, e)
some_and g e (Some x) h k = k x h

-- What is there where a flag is set.
pub by_flag : {A : Type 0} (b : Bool) (x : A) → then_some b x ≡ cond b (Some x) None
by_flag true x = refl
by_flag false x = refl
