-- ANY TWO OUTCOMES OF A LISTING ARE EQUAL, the records too: the maps from the code's answer and records to the rules'
-- are one to one. Assumes nothing.
use mathlib.Core.Path.{◌≡◌, refl, sym, ap, ◌∙◌}
use mathlib.Core.List.{List, [], ◌∷◌}
use Prim.Native.Nat.{ℕ, suc}
use native.Mathlib.Omega.{arith}
use lib.ListN.{length, get_or, drop}
use Rattle.std.specs.Prelude.{Result}
use Rattle.refusals.specs.declared.Refusal.{Refusal}
use Rattle.rules.specs.Calls as rules
use Rattle.answers.proofs.OneToOne.{counted_one}
use Rattle.contracts.specs.Policy.{Policy}
use Rattle.listing.specs.Outcome.{record_is, records_are, listed_is, ListingOutcome}
use Rattle.listing.specs.declared.Record.{Record}

pub record_one : (r q : Record) → record_is r ≡ record_is q → r ≡ q
record_one r q e =
    let a : r.page ≡ q.page = ap (λ (x : rules.Record). x.page) e in
    let b : r.frame ≡ q.frame = ap (λ (x : rules.Record). x.frame) e in
    rw (a, b) refl

pub records_one : (l m : List Record) → records_are l ≡ records_are m → l ≡ m
records_one [] [] e = refl
records_one [] (x ∷ m) e = absurd (let z : ◌≡◌ {A = ℕ} 0 (suc (length (records_are m))) = ap length e in omega arith)
records_one (x ∷ l) [] e = absurd (let z : ◌≡◌ {A = ℕ} (suc (length (records_are l))) 0 = ap length e in omega arith)
records_one (x ∷ l) (y ∷ m) e =
    let h = head_one (record_is x) (record_is y) (records_are l) (records_are m) e in
    rw (record_one x y h, records_one l m (ap (drop 1) e)) refl
  where
    head_one : (a b : rules.Record) (k n : List rules.Record) → a ∷ k ≡ b ∷ n → a ≡ b
    head_one a b k n e = ap (λ (o : List rules.Record). get_or o 0 a) e

pub listed_one : (a b : Result ℕ Refusal) → listed_is a ≡ listed_is b → a ≡ b
listed_one = counted_one

pub outcomes_equal : (P : Policy) (w : List ℕ) (lent l m : List Record) (a b : Result ℕ Refusal)
    → ListingOutcome P w lent l a
    → ListingOutcome P w lent m b
    → (a ≡ b) × (l ≡ m)
outcomes_equal P w lent l m a b x y =
    let e = x.is ∙ sym y.is in
    (listed_one a b (ap (λ d. d.answer) e), records_one l m (ap (λ d. d.records) e))
