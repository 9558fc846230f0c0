-- The kinds of nodes: the word that each is read from, and what a node is refused by. Assumes nothing.
use mathlib.Core.Path.{◌≡◌, refl, sym, ap, ◌∙◌}
use mathlib.Core.Bool.{Bool, true, false, cond}
use mathlib.Core.List.{List}
use mathlib.Core.Logic.{◌⊎◌, inl, inr}
use Prim.Native.Nat.{ℕ, ◌≤◌, ◌<◌}
use native.Mathlib.Omega.{arith}
use lib.Dec.{eqb, ltb}
use borrow.Author.Tests.{ne_eqb, lt-ltb, le-ltb, ltb-true, ltb-false}
use Rattle.std.specs.Prelude.{Result, ⊤}
use Rattle.std.specs.Result.{IsErrAnd}
use Rattle.std.proofs.lemmas.Result.{err_from_is_err_and}
use Rattle.sedona_expr.specs.Error as error
use Rattle.sedona_expr.specs.Spelled as spelled
use Rattle.sedona_expr.specs.Tables.{kind, is_pair, leaf_of}
use Rattle.sedona_expr.specs.Refusals.{pair_refusal, column_refusal, leaf_refusal, node_refusal}
use Rattle.sedona_expr.specs.Within.{kind_or_unknown}
use Rattle.sedona_expr.specs.declared.error.Refusal.{Refusal}
use Rattle.sedona_expr.specs.declared.refusals.Lent.{Lent}
use Rattle.sedona_expr.specs.declared.tables.Kind.{Kind}

-- ---- the words
pub word_is : (n w : ℕ) → n < 6 → n ≡ kind_or_unknown w → w ≡ n
unfolding kind_or_unknown
word_is n w h = go (ltb 6 w)
  where
    go : (b : Bool) → n ≡ cond b 6 w → w ≡ n
    go true e = absurd (omega (arith, h, e))
    go false e = sym e

pub unknown_is : (w : ℕ) → 6 ≡ kind_or_unknown w → 5 < w
unfolding kind_or_unknown
unknown_is w = go (ltb 6 w) refl
  where
    go : (b : Bool) → ltb 6 w ≡ b → 6 ≡ cond b 6 w → 5 < w
    go true f e = omega (arith, ltb-true 6 w f)
    go false f e = omega (arith, e)

pub unknown_read : (w : ℕ) → 5 < w → 6 ≡ kind_or_unknown w
unfolding kind_or_unknown
unknown_read w h = go (ltb 6 w) refl
  where
    go : (b : Bool) → ltb 6 w ≡ b → 6 ≡ cond b 6 w
    go true f = refl
    go false f = omega (arith, h, ltb-false 6 w f)

pub same_word : (w : ℕ) → w ≤ 6 → kind_or_unknown w ≡ w
unfolding kind_or_unknown
same_word w h = rw (le-ltb 6 w h)

kind_most : (k : Kind) → spelled.kind k ≤ 6
kind_most Kind.Intersects = omega arith
kind_most Kind.Covers = omega arith
kind_most Kind.HasZ = omega arith
kind_most Kind.And = omega arith
kind_most Kind.Or = omega arith
kind_most Kind.LiteralFalse = omega arith
kind_most Kind.Unknown = omega arith

-- ---- one kind has one number
of_number : ℕ → Kind
of_number n =
    cond (eqb n 0) Kind.Intersects
    (cond (eqb n 1) Kind.Covers (cond (eqb n 2) Kind.HasZ (cond (eqb n 3) Kind.And (cond (eqb n 4) Kind.Or (cond (eqb n 5) Kind.LiteralFalse Kind.Unknown)))))

of_number_is : (k : Kind) → of_number (spelled.kind k) ≡ k
unfolding of_number
of_number_is Kind.Intersects = refl
of_number_is Kind.Covers = refl
of_number_is Kind.HasZ = refl
of_number_is Kind.And = refl
of_number_is Kind.Or = refl
of_number_is Kind.LiteralFalse = refl
of_number_is Kind.Unknown = refl

pub same_kind : (j k : Kind) → spelled.kind j ≡ spelled.kind k → j ≡ k
same_kind j k e = sym (of_number_is j) ∙ (ap of_number e ∙ of_number_is k)

-- what is read of a word where a kind j is not
pub word_is_not : (j k : Kind) (w : ℕ) → (k ≡ j → ⊥) → spelled.kind k ≡ kind_or_unknown w → w ≡ spelled.kind j → ⊥
word_is_not j k w d e f = d (same_kind k j (e ∙ (ap kind_or_unknown f ∙ same_word (spelled.kind j) (kind_most j))))

-- one over 6 is no Intersects
pub leaf_of_read : {A : Type 0} (k : Kind) (w : ℕ) → spelled.kind k ≡ kind_or_unknown w → (a b : A) → leaf_of (spelled.kind k) a b ≡ leaf_of w a b
unfolding leaf_of kind_or_unknown
leaf_of_read {A} k w e a b = go (ltb 6 w) refl e
  where
    go : (c : Bool) → ltb 6 w ≡ c → spelled.kind k ≡ cond c 6 w → cond (eqb (spelled.kind k) 0) a b ≡ cond (eqb w 0) a b
    go true f d = rw (d, ne_eqb w 0 (λ z. absurd (omega (arith, z, ltb-true 6 w f))))
    go false f d = rw d

-- ---- leaves and pairs
module _ (k : Kind) (w : ℕ) (e : spelled.kind k ≡ kind_or_unknown w) where
  pub leaf_is : (k ≡ Kind.Intersects) ⊎ (k ≡ Kind.Covers) ⊎ (k ≡ Kind.HasZ) → w ≤ 2
  leaf_is (inl d) = omega (arith, word_is 0 w (omega arith) (sym (ap spelled.kind d) ∙ e))
  leaf_is (inr (inl d)) = omega (arith, word_is 1 w (omega arith) (sym (ap spelled.kind d) ∙ e))
  leaf_is (inr (inr d)) = omega (arith, word_is 2 w (omega arith) (sym (ap spelled.kind d) ∙ e))

  pub leaf_is_not : (k ≡ Kind.Intersects → ⊥) → (k ≡ Kind.Covers → ⊥) → (k ≡ Kind.HasZ → ⊥) → 2 < w
  leaf_is_not p q r =
      let a : (w ≡ 0 → ⊥) = word_is_not Kind.Intersects k w p e in
      let b : (w ≡ 1 → ⊥) = word_is_not Kind.Covers k w q e in
      let c : (w ≡ 2 → ⊥) = word_is_not Kind.HasZ k w r e in
      omega arith

  pub pair_is : (k ≡ Kind.And) ⊎ (k ≡ Kind.Or) → is_pair w ≡ true
  pair_is (inl d) = rw (word_is 3 w (omega arith) (sym (ap spelled.kind d) ∙ e))
  pair_is (inr d) = rw (word_is 4 w (omega arith) (sym (ap spelled.kind d) ∙ e))

  pub pair_is_two : (k ≡ Kind.And) ⊎ (k ≡ Kind.Or) → (2 < w) × (w < 5)
  pair_is_two (inl d) = let f = word_is 3 w (omega arith) (sym (ap spelled.kind d) ∙ e) in (omega (arith, f), omega (arith, f))
  pair_is_two (inr d) = let f = word_is 4 w (omega arith) (sym (ap spelled.kind d) ∙ e) in (omega (arith, f), omega (arith, f))

  pub pair_is_not : (k ≡ Kind.And → ⊥) → (k ≡ Kind.Or → ⊥) → is_pair w ≡ false
  pair_is_not c d = rw (ne_eqb w 3 (word_is_not Kind.And k w c e), ne_eqb w 4 (word_is_not Kind.Or k w d e))

-- ---- what a node is refused by
module _ (ns : List ℕ) (lent : Lent) (n : ℕ) where
  by_kind : Kind → ℕ
  by_kind Kind.Intersects = leaf_refusal ns lent n
  by_kind Kind.Covers = leaf_refusal ns lent n
  by_kind Kind.HasZ = column_refusal ns lent n
  by_kind Kind.And = pair_refusal ns n
  by_kind Kind.Or = pair_refusal ns n
  by_kind Kind.LiteralFalse = 0
  by_kind Kind.Unknown = 0

  refused_by_kind : (k : Kind) → spelled.kind k ≡ kind ns n → by_kind k ≡ node_refusal ns lent n
  unfolding by_kind node_refusal
  refused_by_kind Kind.Intersects e = rw (← e)
  refused_by_kind Kind.Covers e = rw (← e)
  refused_by_kind Kind.HasZ e = rw (← e)
  refused_by_kind Kind.And e = rw (← e)
  refused_by_kind Kind.Or e = rw (← e)
  refused_by_kind Kind.LiteralFalse e = rw (← e)
  refused_by_kind Kind.Unknown e = rw (← e)

  pub leaf_refused : (k : Kind) → spelled.kind k ≡ kind ns n → (k ≡ Kind.Intersects) ⊎ (k ≡ Kind.Covers) → leaf_refusal ns lent n ≡ node_refusal ns lent n
  unfolding by_kind
  leaf_refused k e (inl d) = refused_by_kind Kind.Intersects (sym (ap spelled.kind d) ∙ e)
  leaf_refused k e (inr d) = refused_by_kind Kind.Covers (sym (ap spelled.kind d) ∙ e)

  pub column_refused : (k : Kind) → spelled.kind k ≡ kind ns n → k ≡ Kind.HasZ → column_refusal ns lent n ≡ node_refusal ns lent n
  unfolding by_kind
  column_refused k e d = refused_by_kind Kind.HasZ (sym (ap spelled.kind d) ∙ e)

  pub pair_refused : (k : Kind) → spelled.kind k ≡ kind ns n → (k ≡ Kind.And) ⊎ (k ≡ Kind.Or) → pair_refusal ns n ≡ node_refusal ns lent n
  unfolding by_kind
  pair_refused k e (inl d) = refused_by_kind Kind.And (sym (ap spelled.kind d) ∙ e)
  pair_refused k e (inr d) = refused_by_kind Kind.Or (sym (ap spelled.kind d) ∙ e)

  pub other_passes : (k : Kind) → spelled.kind k ≡ kind ns n → (k ≡ Kind.LiteralFalse) ⊎ (k ≡ Kind.Unknown) → 0 ≡ node_refusal ns lent n
  unfolding by_kind
  other_passes k e (inl d) = refused_by_kind Kind.LiteralFalse (sym (ap spelled.kind d) ∙ e)
  other_passes k e (inr d) = refused_by_kind Kind.Unknown (sym (ap spelled.kind d) ∙ e)

  pub unread_refused : (r : Result ⊤ Refusal) (e : Refusal) → IsErrAnd r (λ y. y ≡ e) → (e ≡ Refusal.UnknownKind) × (6 < kind ns n) → error.number_of r ≡ node_refusal ns lent n
  unfolding node_refusal
  unread_refused r e is h =
      let p = err_from_is_err_and r is in
      rw (p.1, p.2, h.0, lt-ltb 6 (kind ns n) h.1)
