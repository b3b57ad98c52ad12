-- REFUSAL 3 OF A LISTING IS EXACT: it is given exactly when the words are a writing of no well-formed state of the
-- policy, however many records are lent. Assumes nothing.
use mathlib.Core.Path.{◌≡◌, sym, ap, ◌∙◌}
use mathlib.Core.Bool.{false≢true}
use mathlib.Core.List.{List}
use Prim.Native.Nat.{ℕ}
use lib.ListN.{length}
use Rattle.std.specs.Prelude.{Result}
use Rattle.refusals.specs.declared.Refusal.{Refusal}
use Rattle.rules.specs.Calls as rules
use Rattle.rules.specs.Calls.{Ask, Listing, Answer}
use Rattle.contracts.specs.Policy.{Policy}
use Rattle.contracts.specs.Writing.{Exactly}
use Rattle.contracts.proofs.Accepting.{is3}
use Rattle.contracts.proofs.Exact.{Exact}
use Rattle.contracts.proofs.Refusing.{exactly}
use Rattle.listing.specs.Outcome.{listed_is, ListingOutcome}
use Rattle.listing.specs.declared.Record.{Record}
use Rattle.listing.proofs.ByRules.{listing_is, listing_refused}

-- what it answers, of that and its records
abbrev answer : Answer × List rules.Record → Answer
answer d = d.0

pub listing_refused_exactly : (P : Policy)
    → Exact P
    → (w : List ℕ) (lent left : List Record) (a : Result ℕ Refusal)
    → ListingOutcome P w lent left a
    → Exactly P w (listed_is a)
listing_refused_exactly P e w lent left a o =
    exactly P e w (listed_is a)
    (λ r. ap answer (listing_refused P lent w left a o r))
    (λ s r q.
    let k = Ask (Listing (length lent)) in
    let is : listed_is a ≡ (P.does k s).answer = ap answer (listing_is P lent w left a o s r) in
    false≢true (sym (e.accepts k s) ∙ ap is3 (sym is ∙ q)))
