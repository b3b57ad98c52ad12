-- What the rules say of a listing. Assumes nothing.
use Rattle.std.specs.Prelude.{List, ℕ, length, Result}
use Rattle.refusals.specs.declared.Refusal.{Refusal}
use Rattle.rules.specs.Calls as rules
use Rattle.rules.specs.Calls.{Ask, Listing, Answer, Refused}
use Rattle.rules.specs.Public.{written}
use Rattle.contracts.specs.Policy.{Policy}
use Rattle.contracts.specs.Writing.{ByRules}
use Rattle.listing.specs.Outcome.{records_are, listed_is}
use Rattle.listing.specs.declared.Record.{Record}

module _ (P : Policy) (lent : List Record) where
  -- how many residents there are and the record of each, over the records `lent`; or refusal 6, and all as it was
  abbrev pub gives : P.State → Answer × List rules.Record
  gives t = ((P.does (Ask (Listing (length lent))) t).answer, written (P.listing t) (records_are lent))

  -- on the words w, which it leaves, it answers a and leaves the records `left`
  abbrev pub ListingByRules : List ℕ → List Record → Result ℕ Refusal → Type 0
  ListingByRules w left a =
      let kept : Answer × List rules.Record = (Refused 3, records_are lent) in
      ByRules P gives (λ t. t) kept w w (listed_is a, records_are left)
