-- The sliding extremes keep the laws. Assumes nothing.
use Rattle.std.specs.Prelude.{◌≡◌, ℕ, zero, suc, ◌*◌, Bool, List, [], ◌∷◌, ◌++◌, map, length, drop, Some, None, Option, refl}
use Rattle.std.proofs.Math.Path.{sym, ap}
use Rattle.std.proofs.Common.{◌∙◌, arith, lt-ltb}
use Rattle.std.specs.Option.{option_map}
use Rattle.std.proofs.Math.Seq.{drop-append_seam}
use Rattle.std.proofs.lemmas.List.{map-append, length-map}
use Rattle.rows.specs.Rows.{non_null}
use Rattle.accumulators.specs.Figures.{Lawful, Retracting, Within, rows_held}
use Rattle.accumulators.specs.Extremes.{best, one_or_0, key_or_0}
use Rattle.accumulators.specs.SlidingExtremes.{sliding_extreme, oldest_dropped, pairs, keys_in}
use Rattle.accumulators.specs.Laws.{lawful_within, retracting_within}
use Rattle.accumulators.specs.CountsLemmas.{rows_more, rows_less, enough}

-- ---- pairs
pub pairs-append : (ks js : List (Option ℕ)) → pairs (ks ++ js) ≡ pairs ks ++ pairs js
pairs-append [] js = refl
pairs-append (k ∷ ks) js = ap (λ z. one_or_0 k ∷ key_or_0 k ∷ z) (pairs-append ks js)

pub pairs_length : (ks : List (Option ℕ)) → length (pairs ks) ≡ 2 * length ks
pairs_length [] = refl
pairs_length (k ∷ ks) = omega (arith, pairs_length ks)

two_more : (n : ℕ) → 2 * suc n ≡ suc (suc (2 * n))
two_more n = omega arith

pub pairs_drop : (n : ℕ) (ks : List (Option ℕ)) → drop (2 * n) (pairs ks) ≡ pairs (drop n ks)
pairs_drop zero ks = refl
pairs_drop (suc n) [] = ap (λ k. drop k []) (two_more n)
pairs_drop (suc n) (k ∷ ks) = ap (λ m. drop m (pairs (k ∷ ks))) (two_more n) ∙ pairs_drop n ks

pub keys_back : (ks : List (Option ℕ)) → keys_in (pairs ks) ≡ non_null ks
keys_back [] = refl
keys_back (None ∷ ks) = keys_back ks
keys_back (Some k ∷ ks) = ap (λ z. k ∷ z) (keys_back ks)

non_null_map : {V : Type 0} (f : V → ℕ) (xs : List (Option V)) → non_null (map (option_map f) xs) ≡ map f (non_null xs)
non_null_map f [] = refl
non_null_map f (None ∷ xs) = non_null_map f xs
non_null_map f (Some v ∷ xs) = ap (λ z. f v ∷ z) (non_null_map f xs)

-- ---- the laws
module _ {V : Type 0} (greatest : Bool) (keyed : V → ℕ) (valued : ℕ → V) where
  keys : List (Option V) → List (Option ℕ)
  keys xs = map (option_map keyed) xs

  pub sliding_lawful : Lawful (sliding_extreme greatest keyed valued) (Within (sliding_extreme greatest keyed valued))
  unfolding keys
  sliding_lawful = lawful_within (sliding_extreme greatest keyed valued)
      (λ xs ys h.
      let r = rows_more xs ys in
      let p = sym (ap pairs (map-append (option_map keyed) xs ys) ∙ pairs-append (keys xs) (keys ys)) in
      λ i. r i ∷ p i)
      (λ xs. refl)
      (λ xs h. ap (λ ks. option_map valued (best greatest None ks)) (keys_back (keys xs) ∙ non_null_map keyed xs))

  shrunk : (xs ys : List (Option V)) → drop (2 * length xs) (pairs (keys (xs ++ ys))) ≡ pairs (keys ys)
  unfolding keys
  shrunk xs ys =
      pairs_drop (length xs) (keys (xs ++ ys))
      ∙ ap (λ ks. pairs (drop (length xs) ks)) (map-append (option_map keyed) xs ys)
      ∙ ap (λ n. pairs (drop n (keys xs ++ keys ys))) (sym (length-map xs (option_map keyed)))
      ∙ ap pairs (drop-append_seam (keys xs) (keys ys))

  pub sliding_retracting : Retracting (sliding_extreme greatest keyed valued) (Within (sliding_extreme greatest keyed valued)) oldest_dropped
  unfolding keys
  sliding_retracting = retracting_within (sliding_extreme greatest keyed valued) oldest_dropped
      (λ xs ys h. rw (enough xs ys) (let r = rows_less xs ys in let p = shrunk xs ys in λ i. r i ∷ p i))
      (λ s xs l. rw (lt-ltb (rows_held s) (length xs) l))
