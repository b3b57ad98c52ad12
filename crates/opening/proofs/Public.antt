-- What answers the needs of a public call: open the area, and make the inner call or refuse. Assumes nothing.
use mathlib.Core.Path.{◌≡◌, sym, subst}
use mathlib.Core.List.{List}
use Prim.Native.Nat.{ℕ}
use borrow.Author.Rules.{rules}
use Rattle.rules.specs.Calls as rules
use Rattle.rules.specs.Calls.{Call, Question, Answer}
use Rattle.contracts.specs.Policy.{Policy}
use Rattle.contracts.specs.Inner.{Good, Did, Says}
use Rattle.contracts.specs.Outer.{Outcome, Told}
use Rattle.contracts.proofs.Exact.{Exact, arc_exact, car_exact}
use Rattle.contracts.proofs.Reading.{good}
use Rattle.contracts.proofs.Passing.{call, call_refused, told, told_refused, making}
use Rattle.opening.specs.Opening.{Opens}
use Rattle.std.specs.Prelude.{Result, Ok, Err}
use Rattle.refusals.specs.declared.Refusal.{Refusal}
use Rattle.refusals.specs.Refusals.{number_of}

module _ (P : Policy) (r : Result ℕ Refusal) (w : List ℕ) (h : Opens P.kind w r) where
  pub opens_as : (a : Result ℕ Refusal) → r ≡ a → Opens P.kind w a
  opens_as a q = subst (λ (y : Result ℕ Refusal). Opens P.kind w y) q h

  -- ---- opened
  pub opened_good : Exact P → (c : ℕ) → r ≡ Ok c → Good P c w
  opened_good e c q = let o = opens_as (Ok c) q in subst (λ (n : ℕ). Good P n w) (sym o.capacity) (good P e w o.words o.test)

  pub opened_call : Exact P → (c : ℕ) → r ≡ Ok c → (k : Call) (v : List ℕ) (a : Answer) → Did P k c w v a → Outcome P k w v a
  opened_call e c q k v a d = call P e k c w v a (opened_good e c q) d

  pub opened_told : Exact P → (c : ℕ) → r ≡ Ok c → (k : Question) (a : Answer) → Says P k c w a → Told P k w a
  opened_told e c q k a s = told P e k c w a (opened_good e c q) s

  -- ---- refused
  pub refused_call : (e : Refusal) → r ≡ Err e → (k : Call) → Outcome P k w w (rules.Refused (number_of e))
  refused_call e q k = let o = opens_as (Err e) q in rw o.0 (call_refused P k w o.1)

  pub refused_told : (e : Refusal) → r ≡ Err e → (k : Question) → Told P k w (rules.Refused (number_of e))
  refused_told e q k = let o = opens_as (Err e) q in rw o.0 (told_refused P k w o.1)

pub ruleset laws = (opened_good, opened_call, opened_told, refused_call, refused_told, making, arc_exact, car_exact, rules)
