-- THE CONTRACT OF A LISTING IN THE RULES' WORDS. Assumes nothing.
use mathlib.Core.Path.{◌≡◌, refl, ap, ◌∙◌}
use mathlib.Core.List.{List}
use mathlib.Core.Option.{some, none}
use Prim.Native.Nat.{ℕ}
use lib.ListN.{length, length-map}
use Rattle.std.specs.Prelude.{Result}
use Rattle.refusals.specs.declared.Refusal.{Refusal}
use Rattle.rules.specs.Calls as rules
use Rattle.rules.specs.Calls.{Ask, Listing, Answer, Refused}
use Rattle.rules.specs.Public.{ListingDone, listed, written}
use Rattle.state_check.specs.Check.{Words}
use Rattle.contracts.specs.Policy.{Policy, reads}
use Rattle.contracts.proofs.Exact.{Exact}
use Rattle.contracts.proofs.ByRules.{by_rules}
use Rattle.listing.specs.Outcome.{record_is, records_are, listed_is, listing_done, ListingOutcome}
use Rattle.listing.specs.Writing.{gives, ListingByRules}
use Rattle.listing.specs.declared.Record.{Record}

-- its answer and its records
abbrev given : {S : Type 0} → ListingDone S → Answer × List rules.Record
given d = (d.answer, d.records)

module _ (P : Policy) (lent : List Record) (w : List ℕ) (left : List Record) (a : Result ℕ Refusal) where
  -- A LISTING OF A STATE answers and writes what the rules say
  pub listing_is : ListingOutcome P w lent left a
      → (t : P.State)
      → reads P w ≡ some t
      → ◌≡◌ {A = Answer × List rules.Record} (listed_is a, records_are left) (gives P lent t)
  unfolding listed
  listing_is o t r =
      let l = written (P.listing t) (records_are lent) in
      let d = P.does (Ask (Listing (length (records_are lent)))) t in
      let q : listing_done (listed_is a) (reads P w) (records_are left) ≡ listing_done d.answer (some d.state) l
      = o.is ∙ rw r refl in
      ap given q ∙ ap (λ (n : ℕ). ((P.does (Ask (Listing n)) t).answer, l)) (length-map lent record_is)

  -- A LISTING OF NO STATE is refused with 3 and changes nothing
  pub listing_refused : ListingOutcome P w lent left a
      → reads P w ≡ none
      → ◌≡◌ {A = Answer × List rules.Record} (listed_is a, records_are left) (Refused 3, records_are lent)
  unfolding listed
  listing_refused o r =
      let q : listing_done (listed_is a) (reads P w) (records_are left) ≡ listing_done (Refused 3) none (records_are lent)
      = o.is ∙ rw r refl in
      ap given q

  pub listing_by_rules : Exact P → Words w → ListingOutcome P w lent left a → ListingByRules P lent w left a
  listing_by_rules e words o =
      by_rules P e (gives P lent) (λ t. t) (Refused 3, records_are lent) w w (listed_is a, records_are left) words words
      (λ t r. (listing_is o t r, r))
      (λ r. (listing_refused o r, refl))
      refl
      refl
