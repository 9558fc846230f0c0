-- `names::with_bit` meets its contract: no bit is shifted out. Assumes nothing.
use mathlib.Core.Path.{ap, ◌∙◌}
use Prim.Native.Nat.{ℕ, ◌%◌, ◌^◌}
use native.Mathlib.Nat.{one-mul, mod-eq_of_lt}
use lib.Bits.{bit_or}
use lib.Pow.{pow-lt}
use Rattle.sedona_expr.proofs.names.with_bit.Goals as goal

pub returns : goal.returns
returns c = ap (bit_or c.args.word) (ap (λ (n : ℕ). n % 2 ^ 64) (one-mul (2 ^ c.args.bit)) ∙ mod-eq_of_lt (pow-lt c.requires))
