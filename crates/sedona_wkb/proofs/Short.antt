-- Whether bytes are there, as the code asks it. Assumes nothing.
use mathlib.Core.Path.{◌≡◌, refl, sym, ◌∙◌}
use mathlib.Core.Bool.{Bool, true, false}
use Prim.Native.Nat.{ℕ, ◌+◌, ◌-◌, ◌<◌, ◌≤◌}
use native.Mathlib.Omega.{arith}
use lib.Dec.{ltb}
use borrow.Author.Tests.{lt-ltb, le-ltb, ltb-true, ltb-false}

module _ (len at n : ℕ) where
  pub short_before : len < n → ltb len n ≡ ltb len (at + n)
  short_before h = rw (lt-ltb len n h, lt-ltb len (at + n) (omega arith))

  same_test : (b : Bool) → n ≤ len → ltb (len - n) at ≡ b → b ≡ ltb len (at + n)
  same_test true h e = let g = ltb-true (len - n) at e in sym (lt-ltb len (at + n) (omega arith))
  same_test false h e = let g = ltb-false (len - n) at e in sym (le-ltb len (at + n) (omega arith))

  pub short_behind : n ≤ len → ltb (len - n) at ≡ ltb len (at + n)
  short_behind h = same_test (ltb (len - n) at) h refl

module _ {b : Bool} {len end : ℕ} (asked : b ≡ ltb len end) where
  pub short : b ≡ true → len < end
  short e = ltb-true len end (sym asked ∙ e)

  pub there : b ≡ false → end ≤ len
  there e = ltb-false len end (sym asked ∙ e)
