-- Floats order as their keys. Assumes nothing.
use Rattle.std.specs.Prelude.{◌≡◌, ℕ, zero, suc, ◌+◌, ◌-◌, ◌*◌, ◌/◌, ◌%◌, ◌^◌, ◌<◌, ◌≤◌, Bool, true, false, cond, not, ◌&&◌, ◌||◌, T, ltb, ℤ, ◌==◌, ◌≢◌, nat_le, nat_lt, refl, Float}
use Rattle.std.proofs.Common.{sym, ap, ◌∙◌, subst, inl, inr, zero-mul, mul-le-mul_left, mul-le-mul_right, le_of_mul-le-mul_right, eq-or-lt_of_le, mul-lt-mul_of_pos_right, lt_of_not-le, arith, lt-ltb, le-ltb, ne_eqb, pow-add, pow_pos, pow_mono}
use Rattle.std.proofs.lemmas.Bool.Decides.{nat_tests}
use Rattle.std.specs.Float.Ieee.{up, down, below, level, to_bits, of_bits, of_fields, odd, fits, is_nan, lt, eq}
use Rattle.std.specs.Float.Ieee.Fits.{down_pos}
use Rattle.std.specs.Float.Ieee.Bits.{to_bits-lt, of_bits-to_bits}
use Rattle.std.specs.Float.Ieee.Exact.{HasValue, odd_sign}
use Rattle.std.specs.Float.Ieee.Order.{transfer}
use Rattle.std.specs.Float.{is_sign_negative, nan, inf, fin, binary64}
use Rattle.std.specs.Float.MulAdd.{units_of_bits}
use Rattle.kinds.specs.Keys.{float_key, bits_key, float_before, both_zero}

-- ---- a larger pattern is a larger number
steps_low : (b : ℕ) → b < 2 ^ 52 → units_of_bits b ≡ b
unfolding units_of_bits
steps_low b h = rw (lt-ltb b (2 ^ 52) h) refl

steps_high : (b : ℕ) → 2 ^ 52 ≤ b → units_of_bits b ≡ (2 ^ 52 + b % 2 ^ 52) * 2 ^ (b / 2 ^ 52 - 1)
unfolding units_of_bits
steps_high b h = rw (le-ltb b (2 ^ 52) h) refl

-- the same exponent, and a larger one
same_field : (r s k : ℕ) → r < s → (2 ^ 52 + r) * 2 ^ k < (2 ^ 52 + s) * 2 ^ k
same_field r s k h = mul-lt-mul_of_pos_right (omega arith) (pow_pos k)

next_field : (r s j k : ℕ) → r < 2 ^ 52 → j < k → (2 ^ 52 + r) * 2 ^ j < (2 ^ 52 + s) * 2 ^ k
next_field r s j k h l =
    let a : (2 ^ 52 + r) * 2 ^ j < 2 ^ 53 * 2 ^ j = mul-lt-mul_of_pos_right (omega arith) (pow_pos j) in
    let b : 2 ^ (53 + j) ≤ 2 ^ (52 + k) = pow_mono (omega arith) in
    let c = pow-add 2 53 j in
    let e = pow-add 2 52 k in
    let f : 2 ^ 52 * 2 ^ k ≤ (2 ^ 52 + s) * 2 ^ k = mul-le-mul_right (2 ^ k) (omega arith) in
    omega arith

at_least : (s k : ℕ) → 2 ^ 52 ≤ (2 ^ 52 + s) * 2 ^ k
at_least s k =
    let p : 1 ≤ 2 ^ k = pow_pos k in
    let f : 1 * 2 ^ 52 ≤ 2 ^ k * 2 ^ 52 = mul-le-mul_right (2 ^ 52) p in
    let g : 2 ^ 52 * 2 ^ k ≤ (2 ^ 52 + s) * 2 ^ k = mul-le-mul_right (2 ^ k) (omega arith) in
    omega arith

steps_mono : (a c : ℕ) → a < c → units_of_bits a < units_of_bits c
steps_mono a c h = go (nat_le (2 ^ 52) a) refl (nat_le (2 ^ 52) c) refl
  where
    go : (s : Bool) → nat_le (2 ^ 52) a ≡ s → (t : Bool) → nat_le (2 ^ 52) c ≡ t → units_of_bits a < units_of_bits c
    go false e false f = let x : a < 2 ^ 52 = grind (arith, nat_tests) in let y : c < 2 ^ 52 = grind (arith, nat_tests) in omega (arith, steps_low a x, steps_low c y)
    go false e true f = let x : a < 2 ^ 52 = grind (arith, nat_tests) in let y : 2 ^ 52 ≤ c = grind (arith, nat_tests) in omega (arith, steps_low a x, steps_high c y, at_least (c % 2 ^ 52) (c / 2 ^ 52 - 1))
    go true e false f = absurd (let x : 2 ^ 52 ≤ a = grind (arith, nat_tests) in let y : c < 2 ^ 52 = grind (arith, nat_tests) in omega arith)
    go true e true f =
        let x : 2 ^ 52 ≤ a = grind (arith, nat_tests) in
        let y : 2 ^ 52 ≤ c = grind (arith, nat_tests) in
        let fields : a / 2 ^ 52 ≤ c / 2 ^ 52 = omega arith in
        elim (eq-or-lt_of_le fields) [
          | inl q ↦
              let r : a % 2 ^ 52 < c % 2 ^ 52 = omega arith in
              let k : (2 ^ 52 + a % 2 ^ 52) * 2 ^ (c / 2 ^ 52 - 1) ≡ units_of_bits a = ap (λ z. (2 ^ 52 + a % 2 ^ 52) * 2 ^ (z - 1)) (sym q) ∙ sym (steps_high a x) in
              omega (arith, k, steps_high c y, same_field (a % 2 ^ 52) (c % 2 ^ 52) (c / 2 ^ 52 - 1) r)
          | inr q ↦ omega (arith, steps_high a x, steps_high c y, next_field (a % 2 ^ 52) (c % 2 ^ 52) (a / 2 ^ 52 - 1) (c / 2 ^ 52 - 1) (omega arith) (omega arith))
        ]

steps_le : (a c : ℕ) → a ≤ c → units_of_bits a ≤ units_of_bits c
steps_le a c h = elim (eq-or-lt_of_le h) [ inl e ↦ omega (arith, ap units_of_bits e) | inr l ↦ omega (arith, steps_mono a c l) ]

steps_back : (a c : ℕ) → units_of_bits a ≤ units_of_bits c → a ≤ c
steps_back a c h = let no : c < a → ⊥ = λ l. omega (arith, steps_mono c a l) in omega (arith, no)

-- ---- the number at a pattern
fields : (s : Bool) (x t b : ℕ) → x < 2047 → t < 2 ^ 52 → b ≡ x * 2 ^ 52 + t → HasValue (of_fields binary64 s x t) s (units_of_bits b) (2 ^ 1074)
unfolding of_fields
fields s zero t b X H e =
    let v : t * 2 ^ 0 ≡ units_of_bits b = omega (arith, steps_low b (omega arith)) in
    subst (λ (a : ℕ). HasValue (odd 53 s t 0 1074) s a (2 ^ 1074)) v (odd_sign 53 s t 0 1074)
fields s (suc j) t b X H e =
    let p : t ≡ b % 2 ^ 52 = omega arith in
    let q : j ≡ b / 2 ^ 52 - 1 = omega arith in
    let v : (2 ^ 52 + t) * 2 ^ j ≡ units_of_bits b = (λ i. (2 ^ 52 + p i) * 2 ^ q i) ∙ sym (steps_high b (omega arith)) in
    subst (λ (k : Bool). HasValue (cond k (cond (t == 0) (inf s) nan) (odd 53 s (2 ^ 52 + t) j 1074)) s (units_of_bits b) (2 ^ 1074)) (sym (ne_eqb (suc j) 2047 (omega arith)))
    (subst (λ (a : ℕ). HasValue (odd 53 s (2 ^ 52 + t) j 1074) s a (2 ^ 1074)) v (odd_sign 53 s (2 ^ 52 + t) j 1074))

read : (b : ℕ) → b % 2 ^ 63 < 2047 * 2 ^ 52 → HasValue (of_bits binary64 b) (nat_le (2 ^ 63) b) (units_of_bits (b % 2 ^ 63)) (2 ^ 1074)
unfolding of_bits
read b h = fields (nat_le (2 ^ 63) b) (b % 2 ^ 63 / 2 ^ 52) (b % 2 ^ 52) (b % 2 ^ 63) (omega arith) (omega arith) (omega arith)

high : (b : ℕ) (s : Bool) (m : ℕ) (e : ℤ) → 2047 * 2 ^ 52 ≤ b % 2 ^ 63 → of_bits binary64 b ≢ fin s m e
unfolding of_bits
high b s m e h p =
    let x : b % 2 ^ 63 / 2 ^ 52 ≡ 2047 = omega arith in
    go (b % 2 ^ 52 == 0) (ap (λ (k : ℕ). of_fields binary64 (nat_le (2 ^ 63) b) k (b % 2 ^ 52)) (sym x) ∙ p)
  where
    go : (t : Bool) → cond t (inf (nat_le (2 ^ 63) b)) nan ≢ fin s m e
    go true q = let z : ◌≡◌ {A = ℕ} 0 1 = cc in omega arith
    go false q = let z : ◌≡◌ {A = ℕ} 0 1 = cc in omega arith

-- b is the pattern of x, its sign and its size
abbrev Reads : Float → ℕ → Type 0
Reads nan b = b ≡ 2047 * 2 ^ 52 + 2 ^ 51
Reads (inf s) b = (s ≡ nat_le (2 ^ 63) b) × (b % 2 ^ 63 ≡ 2047 * 2 ^ 52)
Reads (fin s m e) b = (s ≡ nat_le (2 ^ 63) b) × (b % 2 ^ 63 < 2047 * 2 ^ 52) × (m * up e * 2 ^ 1074 ≡ units_of_bits (b % 2 ^ 63) * down e)

nan_bits : to_bits binary64 nan ≡ 2047 * 2 ^ 52 + 2 ^ 51
unfolding to_bits
nan_bits = refl

inf_bits : (s : Bool) → Reads (inf s) (to_bits binary64 (inf s))
unfolding to_bits
inf_bits true = (refl, refl)
inf_bits false = (refl, refl)

reads : (x : Float) → T (fits binary64 x) → Reads x (to_bits binary64 x)
reads nan f = nan_bits
reads (inf s) f = inf_bits s
reads (fin s m e) f =
    let b = to_bits binary64 (fin s m e) in
    let back = of_bits-to_bits binary64 (fin s m e) f in
    let l : b % 2 ^ 63 < 2047 * 2 ^ 52 = lt_of_not-le (λ (g : 2047 * 2 ^ 52 ≤ b % 2 ^ 63). high b s m e g back) in
    let v = subst (λ (y : Float). HasValue y (nat_le (2 ^ 63) b) (units_of_bits (b % 2 ^ 63)) (2 ^ 1074)) back (read b l) in
    (v.0, l, v.1)

-- ---- sizes, by their fractions
module _ (x y de dd a c : ℕ) (E : 0 < de) (D : 0 < dd) (p : x * 2 ^ 1074 ≡ units_of_bits a * de) (q : y * 2 ^ 1074 ≡ units_of_bits c * dd) where
  bits_le : x * dd ≤ y * de → a ≤ c
  bits_le h = steps_back a c (le_of_mul-le-mul_right (transfer (units_of_bits a) (units_of_bits c) (2 ^ 1074) (2 ^ 1074) x y de dd E D (sym p) (sym q) h) (pow_pos 1074))

  to_sizes : a ≤ c → x * dd ≤ y * de
  to_sizes h = transfer x y de dd (units_of_bits a) (units_of_bits c) (2 ^ 1074) (2 ^ 1074) (pow_pos 1074) (pow_pos 1074) p q (mul-le-mul_right (2 ^ 1074) (steps_le a c h))

-- ---- the key at a sign and a size
abbrev key_at : Bool → ℕ → ℕ
key_at s a = cond s (2 ^ 63 - 1 - a) (a + 2 ^ 63)

bits_key_by_sign : (s : Bool) (b : ℕ) → b < 2 ^ 64 → s ≡ nat_le (2 ^ 63) b → bits_key b ≡ key_at s (b % 2 ^ 63)
bits_key_by_sign true b h e = let l : 2 ^ 63 ≤ b = grind (arith, nat_tests) in let r : b % 2 ^ 63 ≡ b - 2 ^ 63 = omega arith in rw (le-ltb b (2 ^ 63) l) (omega arith)
bits_key_by_sign false b h e = let l : b < 2 ^ 63 = grind (arith, nat_tests) in let r : b % 2 ^ 63 ≡ b = omega arith in rw (lt-ltb b (2 ^ 63) l) (omega arith)

by_sizes : (s t : Bool) (A C a c : ℕ) → a < 2 ^ 63 → c < 2 ^ 63 → (A ≤ C → a ≤ c) → (a ≤ c → A ≤ C) → (C ≤ A → c ≤ a) → (c ≤ a → C ≤ A)
    → (below s A t C || (level s A t C && (s && not t))) ≡ nat_lt (key_at s a) (key_at t c)
by_sizes true true A C a c x y p q r u = grind (arith, nat_tests)
by_sizes true false A C a c x y p q r u = grind (arith, nat_tests)
by_sizes false true A C a c x y p q r u = grind (arith, nat_tests)
by_sizes false false A C a c x y p q r u = grind (arith, nat_tests)

-- ---- the order
abbrev Same : Float → Float → ℕ → ℕ → Type 0
Same x y b c = float_before x y ≡ nat_lt (bits_key b) (bits_key c)

by_bits : (x y : Float) (b c : ℕ) → b < 2 ^ 64 → c < 2 ^ 64 → Reads x b → Reads y c → Same x y b c
unfolding is_nan lt eq is_sign_negative
by_bits nan nan b c h k p q = grind (arith, nat_tests)
by_bits nan (inf t) b c h k p q = let e = bits_key_by_sign t c k q.0 in grind (arith, nat_tests)
by_bits nan (fin t n d) b c h k p q = let e = bits_key_by_sign t c k q.0 in grind (arith, nat_tests)
by_bits (inf s) nan b c h k p q = let e = bits_key_by_sign s b h p.0 in grind (arith, nat_tests)
by_bits (fin s m e) nan b c h k p q = let z = bits_key_by_sign s b h p.0 in grind (arith, nat_tests)
by_bits (inf s) (inf t) b c h k p q = let e = bits_key_by_sign s b h p.0 in let f = bits_key_by_sign t c k q.0 in grind (arith, nat_tests)
by_bits (inf s) (fin t n d) b c h k p q = let e = bits_key_by_sign s b h p.0 in let f = bits_key_by_sign t c k q.0 in grind (arith, nat_tests)
by_bits (fin s m e) (inf t) b c h k p q = let z = bits_key_by_sign s b h p.0 in let f = bits_key_by_sign t c k q.0 in grind (arith, nat_tests)
by_bits (fin s m e) (fin t n d) b c h k p q =
    let x = m * up e in
    let y = n * up d in
    let z = bits_key_by_sign s b h p.0 in
    let f = bits_key_by_sign t c k q.0 in
    let l : b % 2 ^ 63 < 2 ^ 63 = omega arith in
    let r : c % 2 ^ 63 < 2 ^ 63 = omega arith in
    by_sizes s t (x * down d) (y * down e) (b % 2 ^ 63) (c % 2 ^ 63) l r
    (bits_le x y (down e) (down d) (b % 2 ^ 63) (c % 2 ^ 63) (down_pos e) (down_pos d) p.2 q.2)
    (to_sizes x y (down e) (down d) (b % 2 ^ 63) (c % 2 ^ 63) (down_pos e) (down_pos d) p.2 q.2)
    (bits_le y x (down d) (down e) (c % 2 ^ 63) (b % 2 ^ 63) (down_pos d) (down_pos e) q.2 p.2)
    (to_sizes y x (down d) (down e) (c % 2 ^ 63) (b % 2 ^ 63) (down_pos d) (down_pos e) q.2 p.2)
    ∙ ap (λ u. ltb u (key_at t (c % 2 ^ 63))) (sym z) ∙ ap (λ u. ltb (bits_key b) u) (sym f)

pub floats_ordered : (x y : Float) → T (fits binary64 x) → T (fits binary64 y) → float_before x y ≡ nat_lt (float_key x) (float_key y)
floats_ordered x y f g = by_bits x y (to_bits binary64 x) (to_bits binary64 y) (to_bits-lt binary64 x f) (to_bits-lt binary64 y g) (reads x f) (reads y g)

-- ---- numbers that `==` does not tell apart and that differ in sign are both zero
apart : false ≡ true → ⊥
apart e = let z : ◌≡◌ {A = ℕ} 0 1 = cc in omega arith

vanishes : (a d : ℕ) → 0 < d → a * d ≡ 0 → a ≡ 0
vanishes a d h e = let l : a * 1 ≤ a * d = mul-le-mul_left a h in omega arith

opposite_zeros : (x y : Float) → eq x y ≡ true → is_sign_negative x ≡ true → is_sign_negative y ≡ false → both_zero x y ≡ true
unfolding eq is_sign_negative
opposite_zeros nan y e p q = absurd (apart e)
opposite_zeros (inf s) nan e p q = absurd (apart e)
opposite_zeros (inf true) (inf true) e p q = absurd (apart (sym q))
opposite_zeros (inf true) (inf false) e p q = absurd (apart e)
opposite_zeros (inf false) (inf t) e p q = absurd (apart p)
opposite_zeros (inf s) (fin t n d) e p q = absurd (apart e)
opposite_zeros (fin s m k) nan e p q = absurd (apart e)
opposite_zeros (fin s m k) (inf t) e p q = absurd (apart e)
opposite_zeros (fin false m k) (fin t n d) e p q = absurd (apart p)
opposite_zeros (fin true m k) (fin true n d) e p q = absurd (apart (sym q))
opposite_zeros (fin true m k) (fin false n d) e p q =
    let A = m * up k * down d in
    let C = n * up d * down k in
    let a : A ≡ 0 = grind (arith, nat_tests) in
    let c : C ≡ 0 = grind (arith, nat_tests) in
    let x = vanishes (m * up k) (down d) (down_pos d) a in
    let y = vanishes (n * up d) (down k) (down_pos k) c in
    let v = zero-mul (down k) in
    let w = zero-mul (down d) in
    grind (arith, nat_tests)

-- where neither is a NaN and they are not both zero, the keys are in the order of `<`
pub keys_by_less : (x y : Float) → T (fits binary64 x) → T (fits binary64 y) → is_nan x ≡ false → is_nan y ≡ false → both_zero x y ≡ false → lt x y ≡ nat_lt (float_key x) (float_key y)
keys_by_less x y f g p q r = go (eq x y) (is_sign_negative x) (is_sign_negative y) refl refl refl (floats_ordered x y f g)
  where
    go : (e s t : Bool) → eq x y ≡ e → is_sign_negative x ≡ s → is_sign_negative y ≡ t → float_before x y ≡ nat_lt (float_key x) (float_key y) → lt x y ≡ nat_lt (float_key x) (float_key y)
    go false s t u v w o = grind arith
    go true false t u v w o = grind arith
    go true true true u v w o = grind arith
    go true true false u v w o = absurd (apart (sym r ∙ opposite_zeros x y u v w))
