-- The constant frame keeps the laws. Assumes nothing.
use Rattle.std.specs.Prelude.{ℕ, zero, suc, length, Option, refl}
use Rattle.std.proofs.Common.{⊎_elim, arith}
use Rattle.std.proofs.lemmas.List.{length_push}
use Rattle.std.proofs.lemmas.Bool.{false≢true}
use Rattle.std.proofs.lemmas.Bool.Decides.{nat_tests}
use Rattle.bounds.specs.declared.sort.SortOptions.{SortOptions}
use Rattle.frames.specs.Constant.{constant_rule}
use Rattle.frames.specs.Laws.{Lawful}
use Rattle.frames.specs.OrderLists.{coming}
use Rattle.frames.specs.Waiting.{sure}

module _ {O : Type 0} (keyed : O → ℕ) (order : Option SortOptions) where
  pub constant_lawful : Lawful keyed (constant_rule order)
  constant_lawful = record {
    made = λ P i p h. omega arith;
    within = λ P i p. omega arith;
    start_rises = λ P. elim [ zero ↦ omega arith | suc i ↦ omega arith ];
    end_rises = λ P. elim [ zero ↦ omega arith | suc i ↦ omega arith ];
    starts_first = λ e P i p. refl;
    end_alone = λ P i p q e. refl;
    whole = λ e P newest i h. (refl, refl, refl);
    standard = λ P i j h k r. grind (arith, nat_tests);
    complete = λ P rest newest i p h u v f w. absurd (⊎_elim (λ l. omega arith) (λ c. ⊎_elim (λ e. false≢true e) (λ e. false≢true e) c) (sure (constant_rule order) P newest i (record { start = 0; end = length P }) w));
    closed_before = λ P newest i h r e. e;
    waits_rightly = λ e P newest i h r w. let v = coming keyed P newest (omega arith) order r in (v.0, ((v.1.0, v.1.1), omega (arith, length_push P v.0)));
  }
