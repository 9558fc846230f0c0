-- The search for a name among names: whether there is a hit, where, and how many names were compared. And whether one comes twice.
use Rattle.std.specs.Prelude.{Bool, true, false, ◌||◌, cond, List, [], ◌∷◌, ℕ, suc, ◌+◌, eqb, ltb, length}
use Rattle.std.specs.Option.{is_some, unwrap_or}
use Rattle.sedona_expr.specs.declared.names.NameSearch.{NameSearch}

-- Whether there is a hit; its place, counted from 0, or how many names there are; how many names were compared.
pub record Search : Type 0 where
  pub hit : Bool
  pub place : ℕ
  pub compared : ℕ

-- "end at the first hit": one name was compared.
abbrev pub hit_at_once : Search
hit_at_once = record { hit = true; place = 0; compared = 1 }

-- There is none to compare.
abbrev pub no_name : Search
no_name = record { hit = false; place = 0; compared = 0 }

-- Behind a name that was compared and is no hit.
abbrev pub further : Search → Search
further s = record { hit = s.hit; place = suc s.place; compared = suc s.compared }

-- From the first name on.
unfoldable pub find_name : List ℕ → ℕ → Search
find_name [] n = no_name
find_name (m ∷ ms) n = cond (eqb m n) hit_at_once (further (find_name ms n))

-- "the hit's place counted from 1, or all of them where there is none": of so many names, the first hit at a place, or none where it is their number.
abbrev pub first_at : ℕ → ℕ → Search
first_at p l = record { hit = ltb p l; place = p; compared = cond (ltb p l) (p + 1) l }

-- What an answer says of so many names.
abbrev pub search_of : ℕ → NameSearch → Search
search_of l s = record { hit = is_some s.place; place = unwrap_or s.place l; compared = s.compared }

-- ---- the first place alone; the list's length where there is none
unfoldable pub place_of : List ℕ → ℕ → ℕ
place_of [] n = 0
place_of (m ∷ ms) n = cond (eqb m n) 0 (suc (place_of ms n))

-- ---- a name twice
abbrev pub is_among : ℕ → List ℕ → Bool
is_among n ns = ltb (place_of ns n) (length ns)

unfoldable pub has_twice : List ℕ → Bool
has_twice [] = false
has_twice (n ∷ ns) = is_among n ns || has_twice ns
