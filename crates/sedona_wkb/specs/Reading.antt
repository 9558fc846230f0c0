-- Reading a list of bytes from the front: what is found and the bytes behind it, or the number that refuses them.
use Rattle.std.specs.Prelude.{Bool, cond, List, [], ◌++◌, ℕ, zero, suc, ltb, length, take, drop}
use Rattle.sedona_wkb.specs.Error as error
use Rattle.sedona_wkb.specs.Numbers.{value_of, ordered}

pub data Reading (A : Type 0) : Type 0 where
  refused : ℕ → Reading A
  found : A → List ℕ → Reading A

abbrev pub Reader : Type 0 → Type 0
Reader A = List ℕ → Reading A

-- "the first fault from the front counts": what is refused is refused, whatever would follow.
unfoldable pub and_then : {A B : Type 0} → Reading A → (A → Reader B) → Reading B
and_then (refused n) next = refused n
and_then (found a rest) next = next a rest

-- What `do` stands for.
abbrev pub ◌>>=◌ : {A B : Type 0} → Reader A → (A → Reader B) → Reader B
◌>>=◌ p next s = and_then (p s) next

abbrev pub give : {A : Type 0} → A → Reader A
give a s = found a s

abbrev pub refuse : {A : Type 0} → ℕ → Reader A
refuse n s = refused n

-- A number of n bytes in a byte order; 15 where fewer are left.
unfoldable pub number : Bool → ℕ → Reader ℕ
number low n s = cond (ltb (length s) n) (refused error.wkb_length) (found (value_of (ordered low (take n s))) (drop n s))

-- n parts, one after the other, and what is found in all of them.
unfoldable pub several : {A : Type 0} → ℕ → Reader (List A) → Reader (List A)
several zero part s = found [] s
several (suc n) part s = and_then (part s) (λ xs. λ t. and_then (several n part t) (λ ys. give (xs ++ ys)))
