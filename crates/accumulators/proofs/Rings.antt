-- Rows in a ring of 64 places. Assumes nothing.
use Rattle.std.proofs.Common.{◌≡◌, ℕ, zero, suc, ◌+◌, ◌-◌, ◌%◌, ◌<◌, ◌≢◌, List, [], ◌∷◌, ◌++◌, length, get_or, drop, set, None, Option, sym, refl, ap, ◌∙◌, add-zero, add-one, arith, get_or-set_other, get_or-set_same}
use Rattle.accumulators.specs.Rings.{ring_rows}

pub ring_length : (r : List (Option ℕ)) (p n : ℕ) → length (ring_rows r p n) ≡ n
ring_length r p zero = refl
ring_length r p (suc n) = ap suc (ring_length r (suc p) n)

-- only the place within the ring counts
pub ring_same : (r : List (Option ℕ)) (p q n : ℕ) → p % 64 ≡ q % 64 → ring_rows r p n ≡ ring_rows r q n
ring_same r p q zero e = refl
ring_same r p q (suc n) e =
    let h = ap (λ k. get_or r k None) e in
    let t = ring_same r (suc p) (suc q) n (omega arith) in
    λ i. h i ∷ t i

pub ring_at : (r : List (Option ℕ)) (p n i : ℕ) → i < n → drop i (ring_rows r p n) ≡ get_or r ((p + i) % 64) None ∷ drop (suc i) (ring_rows r p n)
ring_at r p zero i h = absurd (omega arith)
ring_at r p (suc n) zero h = ap (λ k. get_or r (k % 64) None ∷ ring_rows r (suc p) n) (sym (add-zero p))
ring_at r p (suc n) (suc i) h = ring_at r (suc p) n i (omega arith) ∙ ap (λ k. get_or r (k % 64) None ∷ drop (suc i) (ring_rows r (suc p) n)) (omega arith)

pub ring_drop : (r : List (Option ℕ)) (p n k : ℕ) → drop k (ring_rows r p n) ≡ ring_rows r (p + k) (n - k)
ring_drop r p n zero = λ i. ring_rows r (sym (add-zero p) i) (whole i)
  where
    whole : n ≡ n - 0
    whole = omega arith
ring_drop r p zero (suc k) = ap (ring_rows r (p + suc k)) none
  where
    none : 0 ≡ 0 - suc k
    none = omega arith
ring_drop r p (suc n) (suc k) = ring_drop r (suc p) n k ∙ (λ i. ring_rows r (on i) (left i))
  where
    on : suc p + k ≡ p + suc k
    on = omega arith

    left : n - k ≡ suc n - suc k
    left = omega arith

ring_snoc : (r : List (Option ℕ)) (p n : ℕ) → ring_rows r p (suc n) ≡ ring_rows r p n ++ get_or r ((p + n) % 64) None ∷ []
ring_snoc r p zero = ap (λ k. get_or r (k % 64) None ∷ []) (sym (add-zero p))
ring_snoc r p (suc n) = ap (λ z. get_or r (p % 64) None ∷ z) (ring_snoc r (suc p) n ∙ ap (λ k. ring_rows r (suc p) n ++ get_or r (k % 64) None ∷ []) (omega arith))

-- a write to a place behind the rows leaves them
ring_set : (r : List (Option ℕ)) (x : Option ℕ) (p n k : ℕ) → n + k < 64 → ring_rows (set r ((p + n + k) % 64) x) p n ≡ ring_rows r p n
ring_set r x p zero k h = refl
ring_set r x p (suc n) k h =
    let apart : p % 64 ≢ (p + suc n + k) % 64 = omega arith in
    let here = get_or-set_other r ((p + suc n + k) % 64) (p % 64) x None apart in
    let on : p + suc n + k ≡ suc p + n + k = omega arith in
    let rest = ap (λ q. ring_rows (set r (q % 64) x) (suc p) n) on ∙ ring_set r x (suc p) n k (omega arith) in
    λ i. here i ∷ rest i

pub ring_push : (r : List (Option ℕ)) (x : Option ℕ) (p n : ℕ) → length r ≡ 64 → n < 64 → ring_rows (set r ((p + n) % 64) x) p (n + 1) ≡ ring_rows r p n ++ x ∷ []
ring_push r x p n l h =
    let there : (p + n) % 64 < length r = omega arith in
    let kept : ring_rows (set r ((p + n) % 64) x) p n ≡ ring_rows r p n = ap (λ q. ring_rows (set r (q % 64) x) p n) (sym (add-zero (p + n))) ∙ ring_set r x p n 0 (omega arith) in
    let new = get_or-set_same r ((p + n) % 64) x None there in
    ap (ring_rows (set r ((p + n) % 64) x) p) (add-one n) ∙ ring_snoc (set r ((p + n) % 64) x) p n ∙ (λ i. kept i ++ new i ∷ [])
