-- ANY TWO OUTCOMES THAT A CONTRACT ALLOWS ARE EQUAL: the code's own answers, what the areas read as, their lengths, the
-- words past the need of the cache, and after a refusal all words. Once over a map f from the code's answers to the
-- rules' that is one to one: crate answers, proofs/OneToOne. Assumes nothing.
use mathlib.Core.Path.{◌≡◌, sym, ap, ◌∙◌}
use mathlib.Core.List.{List}
use mathlib.Core.Option.{none}
use Prim.Native.Nat.{ℕ}
use Rattle.rules.specs.Calls.{Call, Question, Answer, Made}
use Rattle.rules.specs.Public.{words_needed}
use Rattle.area.specs.Area.{capacity_of}
use Rattle.contracts.specs.Policy.{Policy, reads}
use Rattle.contracts.specs.Outer.{Outcome, Told, Making}
use Rattle.contracts.specs.Equal.{Same}

module _ (P : Policy) {A : Type 0} (f : A → Answer) (one : (a b : A) → f a ≡ f b → a ≡ b) where
  pub outcomes_equal : (k : Call) (w u v : List ℕ) (a b : A) → Outcome P k w u (f a) → Outcome P k w v (f b)
      → Same P (words_needed (capacity_of w)) (reads P w ≡ none) u v a b
  outcomes_equal k w u v a b x y =
      let q = x.is ∙ sym y.is in
      record {
        answer = one a b (ap (λ d. d.answer) q);
        state = ap (λ d. d.state) q;
        size = x.size ∙ sym y.size;
        rest = x.rest ∙ sym y.rest;
        kept = λ n. x.refused n ∙ sym (y.refused n);
      }

  pub told_equal : (q : Question) (w : List ℕ) (a b : A) → Told P q w (f a) → Told P q w (f b) → a ≡ b
  told_equal q w a b x y = one a b (x.answer ∙ sym y.answer)

  pub makings_equal : (c : ℕ) (w u v : List ℕ) (a b : A) → Making P c w u (f a) → Making P c w v (f b)
      → Same P (words_needed c) (f a ≡ Made → ⊥) u v a b
  makings_equal c w u v a b x y =
      let q = x.is ∙ sym y.is in
      let e = ap (λ d. d.answer) q in
      record {
        answer = one a b e;
        state = ap (λ d. d.state) q;
        size = x.size ∙ sym y.size;
        rest = x.rest ∙ sym y.rest;
        kept = λ n. x.refused n ∙ sym (y.refused (λ m. n (e ∙ m)));
      }
