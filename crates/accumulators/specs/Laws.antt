-- The laws of numbers that stand for each list with this state, from equations over lists. Assumes nothing.
use Rattle.std.specs.Prelude.{◌≡◌, ℕ, ◌+◌, ◌<◌, ◌≤◌, List, [], ◌++◌, length, Option, refl}
use Rattle.std.proofs.Common.{ap, ◌∙◌, arith, length-append}
use Rattle.accumulators.specs.Figures.{Figure, Lawful, Retracting, Within, rows_held}

module _ {V Answer : Type 0} (F : Figure V Answer) where
  pub lawful_within :
      ((xs ys : List (Option V)) → length xs + length ys ≤ F.capacity → F.updated (F.state xs) ys ≡ F.state (xs ++ ys))
      → ((xs : List (Option V)) → rows_held (F.state xs) ≡ length xs)
      → ((xs : List (Option V)) → length xs ≤ F.capacity → F.answered (F.state xs) ≡ F.answer xs)
      → Lawful F (Within F)
  lawful_within grow hold answer = record {
    starts = (refl, omega arith);
    grows = λ s xs ys st l. (ap (λ z. F.updated z ys) st.0 ∙ grow xs ys l, omega (arith, length-append xs ys));
    holds = λ s xs st. ap rows_held st.0 ∙ hold xs;
    within = λ s xs st. st.1;
    tells = λ s xs st. st.0;
    answers = λ s xs st. ap F.answered st.0 ∙ answer xs st.1;
  }

  pub retracting_within : (retracted : List ℕ → List (Option V) → List ℕ)
      → ((xs ys : List (Option V)) → length xs + length ys ≤ F.capacity → retracted (F.state (xs ++ ys)) xs ≡ F.state ys)
      → ((s : List ℕ) (xs : List (Option V)) → rows_held s < length xs → retracted s xs ≡ F.state [])
      → Retracting F (Within F) retracted
  retracting_within retracted shrink empty = record {
    shrinks = λ s xs ys st. (ap (λ z. retracted z xs) st.0 ∙ shrink xs ys (omega (arith, length-append xs ys, st.1)), omega (arith, length-append xs ys, st.1));
    empties = empty;
  }
