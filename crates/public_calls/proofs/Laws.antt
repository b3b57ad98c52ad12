-- What answers the needs of a public call, by the kind. Assumes nothing.
use mathlib.Core.Path.{◌≡◌, subst}
use mathlib.Core.List.{List}
use Prim.Native.Nat.{ℕ}
use Rattle.empty_cache.specs.Fresh.{New}
use Rattle.std.specs.Prelude.{⊤, Result, Err, IsErrAnd}
use Rattle.std.proofs.lemmas.Result.{err_from_is_err_and}
use Rattle.refusals.specs.declared.Refusal.{Refusal}
use Rattle.answers.specs.Answers.{told, made_is}
use Rattle.rules.specs.Calls.{Call, Question, Answer}
use Rattle.contracts.specs.Policy.{Policy, policy_of}
use Rattle.rules.specs.declared.Kind.{Kind}
use Rattle.contracts.specs.Outer.{Outcome, Told, Making}
use Rattle.contracts.proofs.Exact.{exact_of}
use Rattle.contracts.proofs.Passing.{making}
use Rattle.opening.specs.Opening.{Opens}
use Rattle.opening.proofs.Public.{refused_call, refused_told}

-- by the number of the kind
module _ (k : Kind) (n : ℕ) (q : n ≡ (policy_of k).kind) where
  pub making_of : (c : ℕ) (w v : List ℕ) (r : Result ⊤ Refusal) → New n c w v r → Making (policy_of k) c w v (told made_is r)
  making_of c w v r h = making (policy_of k) (exact_of k) c w v r (subst (λ (m : ℕ). New m c w v r) q h)

-- the error that a `?` hands on
module _ {A : Type 0} (is : A → Answer) (P : Policy) (o : Result ℕ Refusal) (w : List ℕ) (h : Opens P.kind w o) (e : Refusal) (q : o ≡ Err e) (r : Result A Refusal) (p : IsErrAnd r (λ d. d ≡ e)) where
  pub refuses_call : (k : Call) → Outcome P k w w (told is r)
  refuses_call k = let y = err_from_is_err_and r p in rw (y.1, y.2) (refused_call P o w h e q k)

  pub refuses_told : (k : Question) → Told P k w (told is r)
  refuses_told k = let y = err_from_is_err_and r p in rw (y.1, y.2) (refused_told P o w h e q k)
