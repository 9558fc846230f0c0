-- What the readers find from a place on, as the code asks for it: where the bytes are there, and where they are not. Assumes nothing.
use Rattle.std.specs.Prelude.{Some, None, Result, Ok, Err}
use mathlib.Core.Path.{◌≡◌, refl, sym, ap, ◌∙◌}
use mathlib.Core.Bool.{Bool, true, false}
use mathlib.Core.List.{List, [], ◌∷◌, ◌++◌}
use Prim.Native.Nat.{ℕ, zero, suc, ◌+◌, ◌*◌, ◌-◌, ◌<◌, ◌≤◌}
use native.Mathlib.Nat.{add-zero, zero-mul, suc-mul}
use native.Mathlib.Omega.{arith}
use lib.Dec.{eqb, ltb}
use lib.Ieee.{binary64, of_bits}
use lib.ListN.{length, drop, get_or, length-drop, drop_of_length-le}
use lib.Seq.{drop-cons, drop-drop, drop-length}
use borrow.Author.Tests.{lt-ltb, le-ltb, ltb-true, ltb-false}
use Rattle.sedona_wkb.specs.Error as error
use Rattle.sedona_wkb.specs.Extents.{enter, enter_all}
use Rattle.sedona_wkb.specs.Numbers.{value_of, ordered}
use Rattle.sedona_wkb.specs.Outcome.{entered, reached}
use Rattle.sedona_wkb.specs.Places.{number_at, double_at, double_where, width_where, width, coordinate_at, coordinates_at}
use Rattle.sedona_wkb.specs.Reading.{Reading, Reader, refused, found, and_then, ◌>>=◌, give, number, several}
use Rattle.sedona_wkb.specs.Wkb.{Coordinate, head_of, is_type, is_part, tested, read_head, read_part_head, has_z, has_m, read_double, read_where, read_coordinate, counted, read_point, read_line, read_one, within, read_many, by_kind, read_body, read_collection}
use Rattle.sedona_wkb.specs.declared.coordinates.Extents.{Extents}
use Rattle.sedona_wkb.specs.declared.error.Refusal.{Refusal}
use Rattle.sedona_wkb.specs.declared.heads.Head.{Head}

-- ---- readers that take as many bytes whatever these are

-- From a place on, p takes w bytes and gives v; or it is short.
record Takes {A : Type 0} (s : List ℕ) (at w : ℕ) (p : Reader A) (v : A) : Type 0 where
  there : at + w ≤ length s → p (drop at s) ≡ found v (drop (at + w) s)
  short : at ≤ length s → length s < at + w → p (drop at s) ≡ refused error.wkb_length

module _ (s : List ℕ) (at : ℕ) where
  takes_none : {A : Type 0} (v : A) → Takes s at 0 (give v) v
  takes_none v = record {
    there = λ h. rw (add-zero at);
    short = λ g h. absurd (omega arith);
  }

  pub number_there : (low : Bool) (n : ℕ) → at + n ≤ length s → number low n (drop at s) ≡ found (number_at low n s at) (drop (at + n) s)
  unfolding number
  number_there low n h = rw (length-drop at s, le-ltb (length s - at) n (omega arith), drop-drop n at s)

  pub number_short : (low : Bool) (n : ℕ) → 0 < n → length s < at + n → number low n (drop at s) ≡ refused error.wkb_length
  unfolding number
  number_short low n z h = rw (length-drop at s, lt-ltb (length s - at) n (omega arith))

-- One, and what is made of it.
takes_made : {A B : Type 0} (s : List ℕ) (at w : ℕ) (p : Reader A) (v : A) (make : A → B) → Takes s at w p v → Takes s at w (◌>>=◌ p (λ a. give (make a))) (make v)
unfolding and_then
takes_made s at w p v make a = record { there = λ h. rw (a.there h); short = λ g h. rw (a.short g h) }

-- One, and then another.
module _ {A B : Type 0} (s : List ℕ) (at w x : ℕ) (p : Reader A) (v : A) (next : A → Reader B) (u : B)
    (a : Takes s at w p v) (b : Takes s (at + w) x (next v) u) where
  then_short : (t : Bool) → ltb (length s) (at + w) ≡ t → at ≤ length s → length s < at + (w + x) → (◌>>=◌ p next) (drop at s) ≡ refused error.wkb_length
  unfolding and_then
  then_short true e g h = rw (a.short g (ltb-true _ _ e))
  then_short false e g h = let i = ltb-false (length s) (at + w) e in rw (a.there i) (b.short i (omega arith))

  takes_then : Takes s at (w + x) (◌>>=◌ p next) u
  unfolding and_then
  takes_then = record {
    there = λ h. let e : at + w + x ≡ at + (w + x) = omega arith in rw (a.there (omega arith)) (b.there (omega arith) ∙ rw e);
    short = then_short (ltb (length s) (at + w)) refl;
  }

double_taken : (low : Bool) (s : List ℕ) (at : ℕ) → Takes s at 8 (read_double low) (double_at low s at)
unfolding read_double
double_taken low s at =
    takes_made s at 8 (number low 8) (number_at low 8 s at) (of_bits binary64)
    (record { there = number_there s at low 8; short = λ g. number_short s at low 8 (omega arith) })

where_taken : (has low : Bool) (s : List ℕ) (at : ℕ) → Takes s at (width_where has) (read_where has low) (double_where has low s at)
unfolding read_where double_where width_where
where_taken true low s at = takes_made s at 8 (read_double low) (double_at low s at) Some (double_taken low s at)
where_taken false low s at = takes_none s at None

module _ (h : Head) (s : List ℕ) where
  coordinate_taken : (at : ℕ) → Takes s at (width h.dims) (read_coordinate h) (coordinate_at h s at)
  unfolding read_coordinate
  coordinate_taken at =
      let z = width_where (has_z h.dims) in
      takes_then s at 8 _ (read_double h.low) _ _ _ (double_taken h.low s at)
      (takes_then s (at + 8) 8 _ (read_double h.low) _ _ _ (double_taken h.low s (at + 8))
      (takes_then s (at + 8 + 8) z _ (read_where (has_z h.dims) h.low) _ _ _ (where_taken (has_z h.dims) h.low s (at + 8 + 8))
      (takes_made s (at + 8 + 8 + z) _ (read_where (has_m h.dims) h.low) _ _ (where_taken (has_m h.dims) h.low s (at + 8 + 8 + z)))))

  point_taken : (at : ℕ) → Takes s at (width h.dims) (read_point h) (coordinate_at h s at ∷ [])
  unfolding read_point
  point_taken at = takes_made s at _ (read_coordinate h) (coordinate_at h s at) _ (coordinate_taken at)

  points_taken : (n at : ℕ) → Takes s at (n * width h.dims) (several n (read_point h)) (coordinates_at h s at n)
  unfolding several coordinates_at
  points_taken zero at = rw (zero-mul (width h.dims)) (takes_none s at [])
  points_taken (suc n) at =
      let w = width h.dims in
      let m : suc n * w ≡ w + n * w = omega (arith, suc-mul n w) in
      rw m (takes_then s at w (n * w) (read_point h) _ _ _ (point_taken at)
      (takes_made s (at + w) (n * w) (several n (read_point h)) _ (λ ys. coordinate_at h s at ∷ ys) (points_taken n (at + w))))

  -- Behind the end there is as much as at the end: nothing.
  short_at : (at : ℕ) (t : Bool) → ltb (length s) at ≡ t → length s < at + width h.dims → read_point h (drop at s) ≡ refused error.wkb_length
  short_at at true e g =
      rw (drop_of_length-le s {i = at} (omega (arith, ltb-true (length s) at e)), ← drop-length s)
      ((point_taken (length s)).short (omega arith) (omega arith))
  short_at at false e g = (point_taken at).short (ltb-false _ _ e) g

-- ---- points, and a count of them

module _ (h : Head) (s : List ℕ) (at : ℕ) (e : Extents) where
  pub point_there : at + width h.dims ≤ length s → entered e (read_point h (drop at s)) ≡ found (enter_all e (coordinates_at h s at 1)) (drop (at + width h.dims) s)
  unfolding entered enter_all coordinates_at
  point_there g = rw ((point_taken h s at).there g)

  pub point_short : length s < at + width h.dims → entered e (read_point h (drop at s)) ≡ refused error.wkb_length
  unfolding entered
  point_short g = rw (short_at h s at (ltb (length s) at) refl g)

  -- A coordinate more of those that are left.
  pub enter_first : (n : ℕ) → 0 < n → enter_all e (coordinates_at h s at n) ≡ enter_all (enter e (coordinate_at h s at)) (coordinates_at h s (at + width h.dims) (n - 1))
  unfolding enter_all coordinates_at
  enter_first zero g = absurd (omega arith)
  enter_first (suc n) g = let m : suc n - 1 ≡ n = omega arith in rw m

  pub enter_none : (n : ℕ) → n ≤ 0 → enter_all e (coordinates_at h s at n) ≡ e
  unfolding enter_all coordinates_at
  enter_none zero g = refl
  enter_none (suc n) g = absurd (omega arith)

-- ---- counts, and as many parts

module _ (h : Head) (p : Reader (List Coordinate)) (s : List ℕ) (at : ℕ) (e : Extents) where
  pub counted_there : at + 4 ≤ length s → entered e (counted h p (drop at s)) ≡ entered e (several (number_at h.low 4 s at) p (drop (at + 4) s))
  unfolding counted and_then
  counted_there g = rw (number_there s at h.low 4 g)

  pub counted_short : length s < at + 4 → entered e (counted h p (drop at s)) ≡ refused error.wkb_length
  unfolding counted and_then entered
  counted_short g = rw (number_short s at h.low 4 (omega arith) g)

module _ (h : Head) (s : List ℕ) (at : ℕ) (e : Extents) (n : ℕ) (g : at + 4 ≤ length s) (c : n ≡ number_at h.low 4 s at) where
  pub line_there : at + 4 + n * width h.dims ≤ length s
      → entered e (read_line h (drop at s)) ≡ found (enter_all e (coordinates_at h s (at + 4) n)) (drop (at + 4 + n * width h.dims) s)
  unfolding entered
  line_there i = counted_there h (read_point h) s at e g ∙ rw (← c, (points_taken h s n (at + 4)).there i)

  pub line_short : length s < at + 4 + n * width h.dims → entered e (read_line h (drop at s)) ≡ refused error.wkb_length
  unfolding entered
  line_short i = counted_there h (read_point h) s at e g ∙ rw (← c, (points_taken h s n (at + 4)).short g i)

enter_append : (e : Extents) (xs ys : List Coordinate) → enter_all e (xs ++ ys) ≡ enter_all (enter_all e xs) ys
unfolding enter_all
enter_append e [] ys = refl
enter_append e (c ∷ xs) ys = enter_append (enter e c) xs ys

-- The first part is entered, and then the others.
enter_behind : (e : Extents) (xs : List Coordinate) (r : Reading (List Coordinate)) → entered e (and_then r (λ ys. give (xs ++ ys))) ≡ entered (enter_all e xs) r
unfolding entered and_then
enter_behind e xs (refused k) = refl
enter_behind e xs (found ys t) = ap (λ (x : Extents). found x t) (enter_append e xs ys)

module _ (p : Reader (List Coordinate)) (n : ℕ) (e : Extents) where
  part_found : (r : Reading (List Coordinate)) (f : Extents) (t : List ℕ) → entered e r ≡ found f t
      → entered e (and_then r (λ xs. λ u. and_then (several n p u) (λ ys. give (xs ++ ys)))) ≡ entered f (several n p t)
  unfolding entered and_then
  part_found (refused k) f t q = absurd (let z : ◌≡◌ {A = ℕ} 0 1 = cc in omega arith)
  part_found (found xs u) f t q =
      let a : enter_all e xs ≡ f = cc in
      let b : u ≡ t = cc in
      enter_behind e xs (several n p u) ∙ rw (a, b)

  part_refused : (r : Reading (List Coordinate)) (k : ℕ) → entered e r ≡ refused k
      → entered e (and_then r (λ xs. λ u. and_then (several n p u) (λ ys. give (xs ++ ys)))) ≡ refused k
  unfolding entered and_then
  part_refused (refused j) k q = q
  part_refused (found xs u) k q = absurd (let z : ◌≡◌ {A = ℕ} 0 1 = cc in omega arith)

-- A turn of a loop over parts: n are left, and the code reads the one at a place.
module _ (s : List ℕ) (p : Reader (List Coordinate)) (at : ℕ) (e : Extents) (r : Result (ℕ × Extents) Refusal) (q : entered e (p (drop at s)) ≡ reached s r) where
  taken : (n : ℕ) → 0 < n → (f : Extents) (to : ℕ) → r ≡ Ok (to, f) → entered e (several n p (drop at s)) ≡ entered f (several (n - 1) p (drop to s))
  unfolding several reached
  taken zero h f to g = absurd (omega arith)
  taken (suc n) h f to g =
      let m : suc n - 1 ≡ n = omega arith in
      rw m (part_found p n e (p (drop at s)) f (drop to s) (q ∙ ap (reached s) g))

  pub turn : (count part : ℕ) → part < count → (f : Extents) (to : ℕ) → r ≡ Ok (to, f) → entered e (several (count - part) p (drop at s)) ≡ entered f (several (count - (part + 1)) p (drop to s))
  turn count part h f to g =
      let m : count - (part + 1) ≡ count - part - 1 = omega arith in
      rw m (taken (count - part) (omega (arith, h)) f to g)

  taken_refused : (n : ℕ) → 0 < n → (k : Refusal) → r ≡ Err k → entered e (several n p (drop at s)) ≡ reached s r
  unfolding several reached
  taken_refused zero h k g = absurd (omega arith)
  taken_refused (suc n) h k g = part_refused p n e (p (drop at s)) (error.number k) (q ∙ ap (reached s) g) ∙ sym (ap (reached s) g)

  pub turn_refused : (count part : ℕ) → part < count → (k : Refusal) → r ≡ Err k → entered e (several (count - part) p (drop at s)) ≡ refused (error.number k)
  unfolding reached
  turn_refused count part h k g = taken_refused (count - part) (omega (arith, h)) k g ∙ ap (reached s) g

pub no_turn : (s : List ℕ) (p : Reader (List Coordinate)) (e : Extents) (count part : ℕ) → count ≤ part → entered e (several (count - part) p s) ≡ found e s
unfolding several entered enter_all
no_turn s p e count part h = let m : count - part ≡ 0 = omega arith in rw m

-- ---- heads

pub byte_there : (s : List ℕ) (at : ℕ) → at < length s → number true 1 (drop at s) ≡ found (get_or s at 0) (drop (at + 1) s)
unfolding ordered value_of
byte_there s at h =
    let e : number_at true 1 s at ≡ get_or s at 0 = rw (drop-cons s at 0 h) (omega arith) in
    number_there s at true 1 (omega arith) ∙ rw e

module _ (s : List ℕ) (at : ℕ) where
  pub head_short : length s < at + 1 → read_head (drop at s) ≡ refused error.wkb_length
  unfolding read_head and_then
  head_short h = rw (number_short s at true 1 (omega arith) h)

  module _ (h : at + 1 ≤ length s) where
    pub head_order : 1 < get_or s at 0 → read_head (drop at s) ≡ refused error.wkb_code
    unfolding read_head and_then
    head_order g = rw (byte_there s at (omega arith), lt-ltb _ _ g)

    module _ (g : get_or s at 0 ≤ 1) where
      pub head_cut : length s < at + 1 + 4 → read_head (drop at s) ≡ refused error.wkb_length
      unfolding read_head and_then
      head_cut i = rw (byte_there s at (omega arith), le-ltb _ _ g, number_short s (at + 1) (eqb (get_or s at 0) 1) 4 (omega arith) i)

      abbrev head_at : Head
      head_at = let low = eqb (get_or s at 0) 1 in head_of low (number_at low 4 s (at + 1))

      pub head_there : at + 1 + 4 ≤ length s → read_head (drop at s) ≡ tested (is_type head_at) head_at (drop (at + 5) s)
      unfolding read_head and_then
      head_there i =
          let e : at + 1 + 4 ≡ at + 5 = omega arith in
          rw (byte_there s at (omega arith), le-ltb _ _ g, number_there s (at + 1) (eqb (get_or s at 0) 1) 4 i, e)

module _ (h : Head) (t : List ℕ) (b : Bool) where
  pub tested_passes : b ≡ true → tested b h t ≡ found h t
  unfolding tested
  tested_passes e = rw e

  pub tested_fails : b ≡ false → tested b h t ≡ refused error.wkb_code
  unfolding tested
  tested_fails e = rw e

module _ (parent : Head) (t : List ℕ) where
  pub part_head_refused : (n : ℕ) → read_head t ≡ refused n → read_part_head parent t ≡ refused n
  unfolding read_part_head and_then
  part_head_refused n p = rw p

  pub part_head_found : (h : Head) (u : List ℕ) → read_head t ≡ found h u → read_part_head parent t ≡ tested (is_part parent h) h u
  unfolding read_part_head and_then
  part_head_found h u p = rw p

  module _ (follows : Head → Reader (List Coordinate)) (e : Extents) where
    pub within_refused : (n : ℕ) → read_part_head parent t ≡ refused n → entered e (within parent follows t) ≡ refused n
    unfolding within and_then entered
    within_refused n p = rw p

    pub within_found : (h : Head) (u : List ℕ) → read_part_head parent t ≡ found h u → entered e (within parent follows t) ≡ entered e (follows h u)
    unfolding within and_then
    within_found h u p = rw p

-- ---- what follows a head

module _ (h : Head) (t : List ℕ) where
  pub body_one : (room : ℕ) → h.kind ≤ 3 → read_body room h t ≡ read_one h t
  unfolding read_body by_kind
  body_one zero g = rw (lt-ltb h.kind 4 (omega arith))
  body_one (suc room) g = rw (lt-ltb h.kind 4 (omega arith))

  module _ (g : 3 < h.kind) where
    pub body_many : (room : ℕ) → h.kind < 7 → read_body room h t ≡ read_many h t
    unfolding read_body by_kind
    body_many zero i = rw (le-ltb h.kind 4 (omega arith), lt-ltb h.kind 7 i)
    body_many (suc room) i = rw (le-ltb h.kind 4 (omega arith), lt-ltb h.kind 7 i)

    pub body_deep : (room : ℕ) → 7 ≤ h.kind → room ≡ 0 → read_body room h t ≡ refused error.wkb_depth
    unfolding read_body by_kind
    body_deep room i e = rw (e, le-ltb h.kind 4 (omega arith), le-ltb h.kind 7 i)

    pub body_collection : (room : ℕ) → 7 ≤ h.kind → 0 < room → read_body room h t ≡ read_collection (room - 1) h t
    unfolding read_body by_kind
    body_collection zero i z = absurd (omega arith)
    body_collection (suc room) i z =
        let m : suc room - 1 ≡ room = omega arith in
        rw (m, le-ltb h.kind 4 (omega arith), le-ltb h.kind 7 i)
