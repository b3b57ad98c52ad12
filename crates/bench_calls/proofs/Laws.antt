-- The answers are the definitions'. Assumes nothing.
use mathlib.Core.Path.{◌≡◌, refl, sym, ap, subst, ◌∙◌}
use mathlib.Core.Bool.{Bool, true, false}
use mathlib.Core.List.{List}
use Prim.Native.Nat.{ℕ, ◌+◌, ◌<◌}
use borrow.Author.Rules.{rules}
use Rattle.std.specs.Prelude.{⊤, Option, Some, None, Result, Ok, Err}
use borrow.Author.Tests.{lt-ltb}
use Rattle.rules.specs.Calls.{Answer, Get, Refused}
use Rattle.answers.specs.Answers.{told, got_is}
use Rattle.contracts.specs.Policy.{arc_policy}
use Rattle.contracts.specs.Outer.{Outcome}
use Rattle.refusals.specs.declared.Refusal.{Refusal}
use Rattle.refusals.specs.declared.Refusal.TheVariants as refusal
use Rattle.refusals.specs.Refusals.{number_of}
use Rattle.empty_cache.specs.Fresh.{New}
use Rattle.bench_calls.specs.Numbers.{passed, made_at, NewAt, got_at}

pub yes : (b t : Bool) → b ≡ true → b ≡ t → 1 ≡ passed t
yes b t y e = ap passed (sym y ∙ e)

pub no : (b t : Bool) → b ≡ false → b ≡ t → 0 ≡ passed t
no b t n e = ap passed (sym n ∙ e)

-- ---- `new`
numbered : (kind c : ℕ) (w v : List ℕ) (r : Result ⊤ Refusal) → New kind c w v r → NewAt kind c w v (made_at r)
numbered kind c w v r n = record { number = ap made_at n.answer; new = subst (λ (y : Result ⊤ Refusal). New kind c w v y) n.answer n }

pub made : (kind c : ℕ) (w v : List ℕ) (r : Result ⊤ Refusal) (u : ⊤) → r ≡ Ok u → New kind c w v r → NewAt kind c w v 0
made kind c w v r u e n = subst (λ (m : ℕ). NewAt kind c w v m) (ap made_at e) (numbered kind c w v r n)

pub refused : (kind c m : ℕ) (w v : List ℕ) (r : Result ⊤ Refusal) (f : Refusal) → r ≡ Err f → m ≡ number_of f → New kind c w v r → NewAt kind c w v m
refused kind c m w v r f e q n = subst (λ (k : ℕ). NewAt kind c w v k) (ap made_at e ∙ sym q) (numbered kind c w v r n)

-- ---- a get
told_as : (x : ℕ) (w v : List ℕ) (a b : Answer) → a ≡ b → Outcome arc_policy (Get x) w v a → Outcome arc_policy (Get x) w v b
told_as x w v a b e o = subst (λ (y : Answer). Outcome arc_policy (Get x) w v y) e o

module _ (x : ℕ) (w v : List ℕ) (g : Result (Option ℕ) Refusal) (o : Outcome arc_policy (Get x) w v (told got_is g)) where
  pub hit : (f : ℕ) → g ≡ Ok (Some f) → f < 4294967296 → Outcome arc_policy (Get x) w v (got_at f)
  hit f e l = told_as x w v (told got_is g) (got_at f) (ap (told got_is) e ∙ sym (rw (lt-ltb f 4294967296 l) refl)) o

  pub missed : g ≡ Ok None → Outcome arc_policy (Get x) w v (got_at 4294967296)
  missed e = told_as x w v (told got_is g) (got_at 4294967296) (ap (told got_is) e) o

  pub not_got : (r : Refusal) (m n : ℕ) → g ≡ Err r → m ≡ number_of r → n ≡ 4294967296 + m → Outcome arc_policy (Get x) w v (got_at n)
  not_got r m n e q s = told_as x w v (told got_is g) (got_at n) (ap (told got_is) e ∙ by_number r ∙ ap got_at (ap (λ (k : ℕ). 4294967296 + k) (sym q) ∙ sym s)) o
    where
      by_number : (r : Refusal) → Refused (number_of r) ≡ got_at (4294967296 + number_of r)
      by_number refusal.Capacity = refl
      by_number refusal.Area = refl
      by_number refusal.State = refl
      by_number refusal.Operation = refl
      by_number refusal.Number = refl
      by_number refusal.Room = refl

pub ruleset laws = (yes, no, made, refused, hit, missed, not_got, rules)
