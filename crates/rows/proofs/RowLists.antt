-- Lists of rows, column by column. Assumes nothing.
use Rattle.std.proofs.Common.{◌≡◌, ℕ, zero, suc, ◌+◌, ◌-◌, ◌<◌, ◌≤◌, min, Bool, true, false, cond, not, eqb, List, [], ◌∷◌, length, get_or, take, drop, replicate, Some, None, Option, sym, refl, ap, ◌∙◌, subst, le_trans, arith, Bor, eq-eqb, ne_eqb}
use Rattle.std.proofs.lemmas.List.{take_min, drop_min, get_or-replicate, take-replicate, drop-replicate, drop-take, drop_all, take_all, length-take}
use Rattle.rows.specs.Rows.{Row, rows, optional, mask_bytes, kept}
use Rattle.rows.specs.Columns.{rows_of, Aligned}
use Rattle.rows.specs.declared.arguments.Arguments.TheInside.{Inside}

pub rows_length : {V : Type 0} (vs : List V) (ps ms : List ℕ) → length ps ≡ length vs → length ms ≡ length vs
    → length (rows vs ps ms) ≡ length vs
rows_length [] ps ms p m = refl
rows_length (v ∷ vs) [] ms p m = absurd (omega arith)
rows_length (v ∷ vs) (q ∷ ps) [] p m = absurd (omega arith)
rows_length (v ∷ vs) (q ∷ ps) (n ∷ ms) p m = ap suc (rows_length vs ps ms (omega arith) (omega arith))

-- there are no more rows than the shortest column has
pub rows_all : {V : Type 0} (vs : List V) (ps ms : List ℕ) (n : ℕ) → min (min (length vs) (length ps)) (length ms) ≤ n → take n (rows vs ps ms) ≡ rows vs ps ms
rows_all vs ps ms n h = take_all n (rows vs ps ms) (le_trans (few vs ps ms) h)
  where
    few : {V : Type 0} (vs : List V) (ps ms : List ℕ) → length (rows vs ps ms) ≤ min (min (length vs) (length ps)) (length ms)
    few [] ps ms = omega arith
    few (v ∷ vs) [] ms = omega arith
    few (v ∷ vs) (p ∷ ps) [] = omega arith
    few (v ∷ vs) (p ∷ ps) (m ∷ ms) = omega (arith, few vs ps ms)

-- the row at i, and those behind it
pub rows_at : {V : Type 0} (vs : List V) (ps ms : List ℕ) (i : ℕ) (v : V) → length ps ≡ length vs → length ms ≡ length vs → i < length vs
    → drop i (rows vs ps ms) ≡ record { argument = optional (get_or vs i v) (get_or ps i 0); kept = not (eqb (get_or ms i 0) 0) } ∷ drop (suc i) (rows vs ps ms)
rows_at [] ps ms i v p m h = absurd (omega arith)
rows_at (w ∷ vs) [] ms i v p m h = absurd (omega arith)
rows_at (w ∷ vs) (q ∷ ps) [] i v p m h = absurd (omega arith)
rows_at (w ∷ vs) (q ∷ ps) (n ∷ ms) zero v p m h = refl
rows_at (w ∷ vs) (q ∷ ps) (n ∷ ms) (suc i) v p m h = rows_at vs ps ms i v (omega arith) (omega arith) (omega arith)

pub rows_take : {V : Type 0} (n : ℕ) (vs : List V) (ps ms : List ℕ) → rows (take n vs) (take n ps) (take n ms) ≡ take n (rows vs ps ms)
rows_take zero vs ps ms = refl
rows_take (suc n) [] ps ms = refl
rows_take (suc n) (v ∷ vs) [] ms = refl
rows_take (suc n) (v ∷ vs) (p ∷ ps) [] = refl
rows_take (suc n) (v ∷ vs) (p ∷ ps) (m ∷ ms) = ap (λ z. record { argument = optional v p; kept = not (eqb m 0) } ∷ z) (rows_take n vs ps ms)

no_presence : {V : Type 0} (vs : List V) (ms : List ℕ) → rows vs [] ms ≡ []
no_presence [] ms = refl
no_presence (v ∷ vs) ms = refl

no_mask : {V : Type 0} (vs : List V) (ps : List ℕ) → rows vs ps [] ≡ []
no_mask [] ps = refl
no_mask (v ∷ vs) [] = refl
no_mask (v ∷ vs) (p ∷ ps) = refl

pub rows_drop : {V : Type 0} (n : ℕ) (vs : List V) (ps ms : List ℕ) → rows (drop n vs) (drop n ps) (drop n ms) ≡ drop n (rows vs ps ms)
rows_drop zero vs ps ms = refl
rows_drop (suc n) [] ps ms = refl
rows_drop (suc n) (v ∷ vs) [] ms = no_presence (drop n vs) (drop (suc n) ms)
rows_drop (suc n) (v ∷ vs) (p ∷ ps) [] = no_mask (drop n vs) (drop n ps)
rows_drop (suc n) (v ∷ vs) (p ∷ ps) (m ∷ ms) = rows_drop n vs ps ms

-- a part of the columns shows that part of the rows
pub rows_part : {V : Type 0} (n i : ℕ) (vs : List V) (ps ms : List ℕ) → rows (take n (drop i vs)) (take n (drop i ps)) (take n (drop i ms)) ≡ take n (drop i (rows vs ps ms))
rows_part n i vs ps ms = rows_take n (drop i vs) (drop i ps) (drop i ms) ∙ ap (take n) (rows_drop i vs ps ms)

pub no_mask_part : (s e n : ℕ) → s ≤ e → e ≤ n → replicate {A = ℕ} (e - s) 1 ≡ take (e - s) (drop s (replicate n 1))
no_mask_part s e n h l = sym (ap (take (e - s)) (drop-replicate s n 1) ∙ take-replicate (e - s) (n - s) 1 (omega arith))

-- from start on and before end, as many as there are
pub clipped : {A : Type 0} (xs : List A) (start end e s : ℕ) → e ≡ min end (length xs) → s ≡ min start e → take (e - s) (drop s xs) ≡ drop start (take end xs)
clipped xs start end e s ee es =
    let whole : s + (e - s) ≡ e = omega arith in
    sym (drop-take s (e - s) xs) ∙ ap (λ k. drop s (take k xs)) (whole ∙ ee) ∙ ap (drop s) (take_min end xs)
    ∙ ap (λ k. drop k (take end xs)) (es ∙ ap (min start) (ee ∙ sym (length-take end xs))) ∙ drop_min start (take end xs)

-- every byte of a mask that is not there is 1
pub ones_at : (n i : ℕ) → i < n → ◌≡◌ {A = ℕ} (get_or (replicate n 1) i 0) 0 → ⊥
ones_at n i h e = omega (arith, get_or-replicate {A = ℕ} n i 1 0 h)

-- a row that the mask keeps puts its argument into the batch, and any other nothing
module _ {V : Type 0} (a : Inside V) (one : Aligned a) (i : ℕ) (h : i < length a.values.now) where
  abbrev mask_at : Option (Bor (List ℕ)) → ℕ
  mask_at m = get_or (mask_bytes m (length a.values.now)) i 0

  pub row_kept : (v : V) (x : Option V) → v ≡ get_or a.values.now i v → x ≡ optional v (get_or a.presence.now i 0) → (mask_at a.mask ≡ 0 → ⊥)
      → kept (drop i (rows_of a)) ≡ x ∷ kept (drop (suc i) (rows_of a))
  row_kept v x e f n = rw (rows_at a.values.now a.presence.now (mask_bytes a.mask (length a.values.now)) i v one.0 one.1 h, ne_eqb (mask_at a.mask) 0 n, f, ← e)

  pub row_left_out : (v : V) → mask_at a.mask ≡ 0 → kept (drop i (rows_of a)) ≡ kept (drop (suc i) (rows_of a))
  row_left_out v e = rw (rows_at a.values.now a.presence.now (mask_bytes a.mask (length a.values.now)) i v one.0 one.1 h, eq-eqb (mask_at a.mask) 0 e)

  pub unmasked : a.mask ≡ None → mask_at a.mask ≡ 0 → ⊥
  unmasked e = subst (λ (m : Option (Bor (List ℕ))). mask_at m ≡ 0 → ⊥) (sym e) (ones_at (length a.values.now) i h)

  pub masked_by : (m : Bor (List ℕ)) → a.mask ≡ Some m → mask_at a.mask ≡ get_or m.now i 0
  masked_by m e = ap (λ (m : Option (Bor (List ℕ))). mask_at m) e

-- behind the rows there is nothing
pub past_the_rows : {V : Type 0} (a : Inside V) → Aligned a → (i : ℕ) → length a.values.now ≤ i → kept (drop i (rows_of a)) ≡ kept (drop (suc i) (rows_of a))
past_the_rows a one i h =
    let l = rows_length a.values.now a.presence.now (mask_bytes a.mask (length a.values.now)) one.0 one.1 in
    ap kept (drop_all i (rows_of a) (omega arith) ∙ sym (drop_all (suc i) (rows_of a) (omega arith)))

-- a batch has no more rows than there are
pub kept_few : {V : Type 0} (rs : List (Row V)) → length (kept rs) ≤ length rs
kept_few [] = omega arith
kept_few (r ∷ rs) = go r.kept (kept_few rs)
  where
    go : (b : Bool) → length (kept rs) ≤ length rs → length (cond b (r.argument ∷ kept rs) (kept rs)) ≤ suc (length rs)
    go true h = omega (arith, h)
    go false h = omega (arith, h)
