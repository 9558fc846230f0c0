-- What is said of every member of a list.
use Rattle.std.specs.Prelude.{Bool, true, ◌&&◌, List, [], ◌∷◌}

-- It holds of every member.
abbrev pub All : {A : Type 0} → (A → Type 0) → List A → Type 0
All P [] = Unit {0}
All P (x ∷ xs) = P x × All P xs

-- Every member passes the test.
abbrev pub are_all : {A : Type 0} → (A → Bool) → List A → Bool
are_all p [] = true
are_all p (x ∷ xs) = p x && are_all p xs
