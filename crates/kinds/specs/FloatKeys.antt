-- A float comes back from its key. Assumes nothing.
use Rattle.std.specs.Prelude.{◌≡◌, ℕ, ◌^◌, ◌<◌, T, from_bits, to_bits, Float}
use Rattle.std.proofs.Common.{ap, ◌∙◌, arith}
use Rattle.std.proofs.lemmas.Bool.Decides.{nat_tests}
use Rattle.std.specs.Float.{binary64}
use Rattle.std.specs.Float.Ieee.{fits}
use Rattle.std.specs.Float.Ieee.Bits.{of_bits-to_bits, to_bits-lt}
use Rattle.kinds.specs.Keys.{bits_key, key_bits, float_key, float_at}

pub bits_back : (b : ℕ) → b < 2 ^ 64 → key_bits (bits_key b) ≡ b
bits_back b h = grind (arith, nat_tests)

pub float_back : (v : Float) → T (fits binary64 v) → float_at (float_key v) ≡ v
float_back v h = ap (from_bits binary64) (bits_back (to_bits binary64 v) (to_bits-lt binary64 v h)) ∙ of_bits-to_bits binary64 v h
