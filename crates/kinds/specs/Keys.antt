-- The key of a value of each kind, and the value at a key (docs/RULES.md, section 3). Assumes nothing.
use Rattle.std.specs.Prelude.{◌≡◌, ℕ, suc, ◌+◌, ◌-◌, ◌^◌, min, Bool, false, cond, not, ◌&&◌, ◌||◌, T, ℤ, pos, negsuc, from_bits, is_nan, nat_lt, to_bits, Float}
use Rattle.std.proofs.Math.IntN.{sub_ℕ}
use Rattle.std.specs.Float.Ieee.{fits, lt, eq}
use Rattle.std.specs.Float.{is_sign_negative, float_zero, binary64}

-- A whole has value + 2^31; a key past the greatest counts as the greatest.
abbrev pub whole_key : ℤ → ℕ
whole_key (pos n) = n + 2 ^ 31
whole_key (negsuc n) = 2 ^ 31 - suc n

abbrev pub whole_at : ℕ → ℤ
whole_at k = sub_ℕ (min k (2 ^ 32 - 1)) (2 ^ 31)

-- A tick has itself.
abbrev pub tick_key : ℕ → ℕ
tick_key n = n

abbrev pub tick_at : ℕ → ℕ
tick_at k = min k (2 ^ 32 - 1)

-- A float has its bits + 2^63 without sign, else 2^64 - 1 - bits.
abbrev pub bits_key : ℕ → ℕ
bits_key b = cond (nat_lt b (2 ^ 63)) (b + 2 ^ 63) (2 ^ 64 - 1 - b)

abbrev pub key_bits : ℕ → ℕ
key_bits k = cond (nat_lt k (2 ^ 63)) (2 ^ 64 - 1 - k) (k - 2 ^ 63)

abbrev pub float_key : Float → ℕ
float_key x = bits_key (to_bits binary64 x)

abbrev pub float_at : ℕ → Float
float_at k = from_bits binary64 (key_bits k)

-- The order of floats: IEEE's `<`, with -0.0 before 0.0; behind all the numbers comes the one not-a-number.
abbrev pub float_before : Float → Float → Bool
float_before x y = not (is_nan x) && (is_nan y || (lt x y || (eq x y && (is_sign_negative x && not (is_sign_negative y)))))

abbrev pub both_zero : Float → Float → Bool
both_zero x y = eq x float_zero && eq y float_zero

-- Where neither is a not-a-number and they are not both zero, x and every other float order as `<` says.
abbrev pub AsLess : Float → Type 0
AsLess x = (y : Float) → T (fits binary64 y) → is_nan x ≡ false → is_nan y ≡ false → both_zero x y ≡ false → lt x y ≡ nat_lt (float_key x) (float_key y)
