-- `refusals::words_refusal` meets its contract. Assumes nothing.
use borrow.Author.Tests.{eq-eqb, ne_eqb, lt-ltb, le-ltb}
use Rattle.sedona_expr.specs.Refusals.{words_refusal}
use Rattle.sedona_expr.proofs.refusals.words_refusal.Goals as goal

pub returns-then-words-eq0 : goal.returns-then-words-eq0
unfolding words_refusal
returns-then-words-eq0 c = rw (eq-eqb _ _ c.if-words-eq0.true)

pub returns-then-words-ne0 : goal.returns-then-words-ne0
unfolding words_refusal
returns-then-words-ne0 c = rw (ne_eqb _ _ c.if-words-eq0.false, ne_eqb _ _ c.if-words-ne0.true)

pub returns-then-words-gt-MOST_WORDS : goal.returns-then-words-gt-MOST_WORDS
unfolding words_refusal
returns-then-words-gt-MOST_WORDS c = rw (ne_eqb _ _ c.if-words-eq0.false, eq-eqb _ _ c.if-words-ne0.false, lt-ltb _ _ c.if-words-gt-MOST_WORDS.true)

pub returns : goal.returns
unfolding words_refusal
returns c = rw (ne_eqb _ _ c.if-words-eq0.false, eq-eqb _ _ c.if-words-ne0.false, le-ltb _ _ c.if-words-gt-MOST_WORDS.false)
