-- What the sliding extremes write of the rows that they hold, and what is left of them. Assumes nothing.
use Rattle.std.specs.Prelude.{◌≡◌, ℕ, suc, ◌+◌, ◌-◌, ◌*◌, ◌<◌, ◌≤◌, List, [], ◌∷◌, ◌++◌, length, take, drop, Option, slice_set}
use Rattle.std.proofs.Math.Path.{sym, ap}
use Rattle.std.proofs.Common.{get_or, ◌∙◌, append_assoc, inl, inr, arith, lt-ltb, le-ltb, length-append}
use Rattle.std.proofs.lemmas.Bool.{cases_lt}
use Rattle.std.proofs.Math.Seq.{set-append_seam}
use Rattle.std.proofs.lemmas.List.{drop_more, take_more, length-drop, length-take, drop_all}
use Rattle.accumulators.specs.Extremes.{one_or_0, key_or_0}
use Rattle.accumulators.specs.SlidingExtremes.{oldest_dropped, pairs}
use Rattle.accumulators.specs.Rings.{put_pair}
use Rattle.accumulators.specs.SlidingExtremesLemmas.{pairs-append, pairs_length, pairs_drop}

-- as many oldest rows dropped
pub dropped : {V : Type 0} (ks js : List (Option ℕ)) (n : ℕ) (ys : List (Option V)) → js ≡ drop n ks → n ≡ length ys
    → length js ∷ pairs js ≡ oldest_dropped (length ks ∷ pairs ks) ys
dropped ks js n ys e l = elim (cases_lt (length ks) (length ys)) [
  | inl h ↦ rw (lt-ltb (length ks) (length ys) h) (ap (λ zs. length zs ∷ pairs zs) (e ∙ drop_all n ks (omega arith)))
  | inr h ↦
      let r : length js ≡ length ks - length ys = omega (arith, ap length e, length-drop n ks) in
      let p = ap pairs e ∙ sym (pairs_drop n ks) ∙ ap (λ m. drop (2 * m) (pairs ks)) l in
      rw (le-ltb (length ks) (length ys) h) (λ i. r i ∷ p i)
]

-- the state goes out: the pairs of the rows so far stand behind the first number
abbrev pub Written : List (Option ℕ) → List ℕ → ℕ → List ℕ → Type 0
Written ks out i out' = out' ≡ take 1 out ++ (pairs (take i ks) ++ drop (1 + 2 * i) out)

pub written_more : (ks : List (Option ℕ)) (out : List ℕ) (i : ℕ) (k : Option ℕ) (out' : List ℕ) → i < length ks → 1 + 2 * length ks ≤ length out → drop i ks ≡ k ∷ drop (suc i) ks
    → Written ks out i out' → Written ks out (i + 1) (put_pair out' (1 + 2 * i) k)
written_more ks out i k out' h room e w =
    let n = 1 + 2 * i in
    let c = get_or out n 0 in
    let d = get_or out (n + 1) 0 in
    let front = take 1 out ++ pairs (take i ks) in
    let long : n ≡ length front = omega (arith, length-append (take 1 out) (pairs (take i ks)), pairs_length (take i ks), length-take 1 out, length-take i ks) in
    let a = one_or_0 k in
    let b = key_or_0 k in
    let rest = drop (n + 1 + 1) out in
    let two : drop n out ≡ c ∷ d ∷ rest = drop_more out n 0 (omega arith) ∙ ap (λ z. c ∷ z) (drop_more out (n + 1) 0 (omega arith)) in
    let before : out' ≡ front ++ c ∷ d ∷ rest = w ∙ sym (append_assoc (take 1 out) (pairs (take i ks)) (drop n out)) ∙ ap (λ z. front ++ z) two in
    let once : slice_set out' n a ≡ front ++ a ∷ d ∷ rest = ap (λ z. slice_set z n a) before ∙ ap (λ m. slice_set (front ++ c ∷ d ∷ rest) m a) long ∙ set-append_seam front c (d ∷ rest) a in
    let wide : suc n ≡ length (front ++ a ∷ []) = omega (arith, length-append front (a ∷ []), long) in
    let twice : slice_set (slice_set out' n a) (suc n) b ≡ front ++ a ∷ b ∷ rest =
    ap (λ z. slice_set z (suc n) b) (once ∙ sym (append_assoc front (a ∷ []) (d ∷ rest)))
    ∙ ap (λ m. slice_set ((front ++ a ∷ []) ++ d ∷ rest) m b) wide ∙ set-append_seam (front ++ a ∷ []) d rest b ∙ append_assoc front (a ∷ []) (b ∷ rest) in
    let here : get_or ks i k ≡ k = ap (λ z. get_or z 0 k) (sym (drop_more ks i k h) ∙ e) in
    let more : pairs (take (i + 1) ks) ≡ pairs (take i ks) ++ a ∷ b ∷ [] = ap pairs (take_more ks i k h ∙ ap (λ x. take i ks ++ x ∷ []) here) ∙ pairs-append (take i ks) (k ∷ []) in
    let on : n + 1 + 1 ≡ 1 + 2 * (i + 1) = omega arith in
    twice
    ∙ append_assoc (take 1 out) (pairs (take i ks)) (a ∷ b ∷ rest)
    ∙ ap (λ z. take 1 out ++ z) (sym (append_assoc (pairs (take i ks)) (a ∷ b ∷ []) rest) ∙ (λ j. sym more j ++ drop (on j) out))
