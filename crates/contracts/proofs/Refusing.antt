-- REFUSAL 3 IS EXACT: it is "given exactly when" the words are a writing of no well-formed state of the policy,
-- whatever the call. (Refusals 1 and 2 of `new`: proofs/ByRules.) Assumes nothing.
use mathlib.Core.Path.{◌≡◌, refl, sym, ap, ◌∙◌}
use mathlib.Core.Bool.{false≢true}
use mathlib.Core.List.{List}
use mathlib.Core.Option.{Option, some, none}
use Prim.Native.Nat.{ℕ}
use Rattle.rules.specs.Calls.{Call, Question, Answer, Refused}
use Rattle.contracts.specs.Policy.{Policy, reads}
use Rattle.contracts.specs.Outer.{Outcome, Told}
use Rattle.contracts.specs.Writing.{Exactly}
use Rattle.contracts.proofs.Accepting.{is3}
use Rattle.contracts.proofs.Exact.{Exact}
use Rattle.contracts.proofs.Reading.{none_sound, none_complete}
use Rattle.contracts.proofs.Outcomes.{outcome_is, outcome_refused, told_outcome}

module _ (P : Policy) (e : Exact P) (w : List ℕ) where
  -- whatever is answered: 3 where the words read as nothing, and something else where they read as a state
  pub exactly : (a : Answer)
      → (reads P w ≡ none → a ≡ Refused 3)
      → ((s : P.State) → reads P w ≡ some s → a ≡ Refused 3 → ⊥)
      → Exactly P w a
  exactly a refused answered =
      record {
        only = λ q. none_sound P e w (by (reads P w) refl q);
        always = λ words n. refused (none_complete P e w words n);
      }
    where
      by : (x : Option P.State) → reads P w ≡ x → a ≡ Refused 3 → reads P w ≡ none
      by none r q = r
      by (some s) r q = absurd (answered s r q)

  -- THE THEOREMS, of calls and of questions (of batches and of listings: crates batch and listing)
  pub refused_exactly : (k : Call) (v : List ℕ) (a : Answer) → Outcome P k w v a → Exactly P w a
  refused_exactly k v a o =
      exactly a (λ r. (outcome_refused P k w v a o r).0)
      (λ s r q. false≢true (sym (e.accepts k s) ∙ ap is3 (sym (outcome_is P k w v a s o r).0 ∙ q)))

  pub told_exactly : (q : Question) (a : Answer) → Told P q w a → Exactly P w a
  told_exactly q a t = refused_exactly _ w a (told_outcome P e q w a t)
