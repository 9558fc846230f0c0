-- What holds of all that a reader finds: of heads, and of coordinates. Assumes nothing.
use mathlib.Core.Path.{◌≡◌, refl, subst}
use mathlib.Core.Bool.{Bool, true, false, cond, and-eq-true_iff}
use mathlib.Core.List.{List, [], ◌∷◌, ◌++◌}
use Prim.Native.Nat.{ℕ, zero, suc, ◌<◌}
use native.Mathlib.Omega.{arith}
use lib.Dec.{T, eqb, ltb, leb}
use lib.Ieee.{Float, binary64, fits}
use lib.Ieee.Bits.{of_bits-fits}
use lib.ListN.{length}
use borrow.Author.Tests.{eqb-true, ltb-true, leb-true}
use Rattle.sedona_geometry.specs.Lists.{All}
use Rattle.sedona_wkb.specs.Error as error
use Rattle.sedona_wkb.specs.Geometry.{DoubleWhere, OfDims}
use Rattle.sedona_wkb.specs.Reading.{Reading, Reader, refused, found, and_then, refuse, number, several}
use Rattle.sedona_wkb.specs.Wkb.{Coordinate, head_of, has_z, has_m, is_type, is_part, tested, read_head, read_part_head, read_double, read_where, read_coordinate, counted, read_point, read_line, read_polygon, read_one, within, read_member, read_many, by_kind, read_body, Spelled, ended, read_rest, spelled}
use Rattle.sedona_wkb.specs.declared.heads.Head.{Head}

-- What is found has P.
abbrev pub Only : {A : Type 0} → (A → Type 0) → Reading A → Type 0
Only P (refused n) = Unit {0}
Only P (found a t) = P a

abbrev Any : {A : Type 0} → A → Type 0
Any a = Unit {0}

anything : {A : Type 0} (r : Reading A) → Only Any r
anything (refused n) = tt
anything (found a t) = tt

only_then : {A B : Type 0} (P : A → Type 0) (Q : B → Type 0) (r : Reading A) (next : A → Reader B)
    → Only P r → ((a : A) (t : List ℕ) → P a → Only Q (next a t)) → Only Q (and_then r next)
unfolding and_then
only_then P Q (refused n) next h f = tt
only_then P Q (found a t) next h f = f a t h

only_either : {A : Type 0} (P : A → Type 0) (b : Bool) (p q : Reader A) → ((t : List ℕ) → Only P (p t)) → ((t : List ℕ) → Only P (q t)) → (t : List ℕ) → Only P (cond b p q t)
only_either P true p q f g t = f t
only_either P false p q f g t = g t

-- ---- heads

abbrev pub Passes : (Head → Bool) → Head → Type 0
Passes test h = test h ≡ true

tested_only : (test : Head → Bool) (h : Head) (t : List ℕ) (b : Bool) → test h ≡ b → Only (Passes test) (tested b h t)
unfolding tested
tested_only test h t true e = e
tested_only test h t false e = tt

head_only : (s : List ℕ) → Only (Passes is_type) (read_head s)
unfolding read_head
head_only s =
    only_then Any (Passes is_type) (number true 1 s) _ (anything (number true 1 s)) (λ order t a.
    only_either (Passes is_type) (ltb 1 order) (refuse error.wkb_code) _ (λ u. tt) (λ u.
    only_then Any (Passes is_type) (number (eqb order 1) 4 u) _ (anything (number (eqb order 1) 4 u)) (λ code v b.
    tested_only is_type (head_of (eqb order 1) code) v _ refl)) t)

-- The kind is one, and the dimensions are some.
pub known : (h : Head) → Passes is_type h → (0 < h.kind) × (h.kind < 8) × (h.dims < 4)
unfolding is_type
known h e =
    let o = (and-eq-true_iff (ltb 0 h.kind) _).0 e in
    let p = (and-eq-true_iff (leb h.kind 7) _).0 o.1 in
    (ltb-true 0 h.kind o.0, omega (arith, leb-true h.kind 7 p.0), ltb-true h.dims 4 p.1)

pub head_known : (s : List ℕ) (h : Head) (t : List ℕ) → read_head s ≡ found h t → (h.kind < 8) × (h.dims < 4)
head_known s h t e = let k = known h (rw e at (head_only s)) in (k.1, k.2)

-- A part has its parent's dimensions.
part_head_only : (parent : Head) (s : List ℕ) → Only (Passes (is_part parent)) (read_part_head parent s)
unfolding read_part_head
part_head_only parent s = only_then Any (Passes (is_part parent)) (read_head s) _ (anything (read_head s)) (λ h t a. tested_only (is_part parent) h t _ refl)

pub same_dims : (parent h : Head) → Passes (is_part parent) h → h.dims ≡ parent.dims
unfolding is_part
same_dims parent h e = eqb-true h.dims parent.dims ((and-eq-true_iff (eqb h.dims parent.dims) _).0 e).0

-- ---- coordinates

abbrev IsDouble : Float → Type 0
IsDouble v = T (fits binary64 v)

double_only : (low : Bool) (s : List ℕ) → Only IsDouble (read_double low s)
unfolding read_double
double_only low s = only_then Any IsDouble (number low 8 s) _ (anything (number low 8 s)) (λ bits t a. of_bits-fits binary64 bits)

where_only : (has low : Bool) (s : List ℕ) → Only (DoubleWhere has) (read_where has low s)
unfolding read_where
where_only true low s = only_then IsDouble (DoubleWhere true) (read_double low s) _ (double_only low s) (λ v t h. h)
where_only false low s = tt

coordinate_only : (h : Head) (s : List ℕ) → Only (OfDims h.dims) (read_coordinate h s)
unfolding read_coordinate
coordinate_only h s =
    let D = OfDims h.dims in
    only_then IsDouble D (read_double h.low s) _ (double_only h.low s) (λ x t p.
    only_then IsDouble D (read_double h.low t) _ (double_only h.low t) (λ y u q.
    only_then (DoubleWhere (has_z h.dims)) D (read_where (has_z h.dims) h.low u) _ (where_only (has_z h.dims) h.low u) (λ z v r.
    only_then (DoubleWhere (has_m h.dims)) D (read_where (has_m h.dims) h.low v) _ (where_only (has_m h.dims) h.low v) (λ m w o.
    record { x = p; y = q; z = r; m = o }))))

-- ---- lists of them

pub all_append : {A : Type 0} (P : A → Type 0) (xs ys : List A) → All P xs → All P ys → All P (xs ++ ys)
all_append P [] ys h g = g
all_append P (x ∷ xs) ys h g = (h.0, all_append P xs ys h.1 g)

-- All coordinates that are found are in the dimensions d.
abbrev OnlyOf : ℕ → Reader (List Coordinate) → Type 0
OnlyOf d p = (s : List ℕ) → Only (All (OfDims d)) (p s)

module _ (d : ℕ) where
  several_only : (p : Reader (List Coordinate)) → OnlyOf d p → (n : ℕ) → OnlyOf d (several n p)
  unfolding several
  several_only p f zero s = tt
  several_only p f (suc n) s =
      only_then (All (OfDims d)) (All (OfDims d)) (p s) _ (f s) (λ xs t h.
      only_then (All (OfDims d)) (All (OfDims d)) (several n p t) _ (several_only p f n t) (λ ys u g. all_append (OfDims d) xs ys h g))

  counted_only : (h : Head) (p : Reader (List Coordinate)) → OnlyOf d p → OnlyOf d (counted h p)
  unfolding counted
  counted_only h p f s = only_then Any (All (OfDims d)) (number h.low 4 s) _ (anything (number h.low 4 s)) (λ n t a. several_only p f n t)

point_only : (h : Head) → OnlyOf h.dims (read_point h)
unfolding read_point
point_only h s = only_then (OfDims h.dims) (All (OfDims h.dims)) (read_coordinate h s) _ (coordinate_only h s) (λ c t g. (g, tt))

line_only : (h : Head) → OnlyOf h.dims (read_line h)
line_only h = counted_only h.dims h (read_point h) (point_only h)

one_only : (h : Head) → OnlyOf h.dims (read_one h)
unfolding read_one
one_only h =
    let D = All (OfDims h.dims) in
    only_either D (eqb h.kind 1) (read_point h) (cond (eqb h.kind 2) (read_line h) (read_polygon h)) (point_only h)
    (only_either D (eqb h.kind 2) (read_line h) (read_polygon h) (line_only h) (counted_only h.dims h (read_line h) (line_only h)))

within_only : (parent : Head) (follows : Head → Reader (List Coordinate)) → ((h : Head) → OnlyOf h.dims (follows h)) → OnlyOf parent.dims (within parent follows)
unfolding within
within_only parent follows f s =
    only_then (Passes (is_part parent)) (All (OfDims parent.dims)) (read_part_head parent s) _ (part_head_only parent s) (λ h t p.
    subst (λ (d : ℕ). Only (All (OfDims d)) (follows h t)) (same_dims parent h p) (f h t))

kind_only : (p : Reader (List Coordinate)) (h : Head) → OnlyOf h.dims p → OnlyOf h.dims (by_kind p h)
unfolding by_kind
kind_only p h f =
    let D = All (OfDims h.dims) in
    only_either D (ltb h.kind 4) (read_one h) (cond (ltb h.kind 7) (read_many h) p) (one_only h)
    (only_either D (ltb h.kind 7) (read_many h) p (counted_only h.dims h (read_member h) (within_only h read_one one_only)) f)

body_only : (room : ℕ) (h : Head) → OnlyOf h.dims (read_body room h)
unfolding read_body
body_only zero h = kind_only (refuse error.wkb_depth) h (λ t. tt)
body_only (suc room) h = kind_only _ h (counted_only h.dims h _ (within_only h (read_body room) (body_only room)))

-- ---- what is spelled

-- All coordinates are doubles, and in the dimensions of the type.
abbrev pub SpelledWell : Spelled → Type 0
SpelledWell p = All (OfDims p.dims) p.coordinates

ended_only : {A : Type 0} (P : A → Type 0) (a : A) (s : List ℕ) → P a → Only P (ended a s)
unfolding ended
ended_only P a [] h = h
ended_only P a (b ∷ s) h = tt

rest_only : (h : Head) (s : List ℕ) → Only SpelledWell (read_rest h s)
unfolding read_rest
rest_only h s =
    only_then (All (OfDims h.dims)) SpelledWell (read_body 32 h s) _ (body_only 32 h s) (λ cs t g. ended_only SpelledWell _ t g)

unless : (b : Bool) (r : Reading Spelled) → Only SpelledWell r → Only SpelledWell (cond b (refused error.wkb_length) r)
unless true r h = tt
unless false r h = h

pub spelled_only : (s : List ℕ) → Only SpelledWell (spelled s)
unfolding spelled
spelled_only s =
    unless (ltb 65536 (length s)) (and_then (read_head s) read_rest) (only_then Any SpelledWell (read_head s) read_rest (anything (read_head s)) (λ h t a. rest_only h t))
