-- The rules' number and values for each answer of a listing, and the contract of `list`. Assumes nothing.
use Rattle.std.specs.Prelude.{◌≡◌, List, map, ℕ, replicate, Result}
use Rattle.std.proofs.Math.Option.{Option}
use Rattle.refusals.specs.declared.Refusal.{Refusal}
use Rattle.rules.specs.Calls as rules
use Rattle.rules.specs.Calls.{Answer}
use Rattle.rules.specs.Public.{ListingDone, listed}
use Rattle.contracts.specs.Policy.{Policy, reads}
use Rattle.answers.specs.Answers.{told, counted_is}
use Rattle.listing.specs.declared.Record.{Record}

abbrev pub record_is : Record → rules.Record
record_is r = record { page = r.page; frame = r.frame }

abbrev pub records_are : List Record → List rules.Record
records_are l = map record_is l

-- how many residents there are, or a refusal
abbrev pub listed_is : Result ℕ Refusal → Answer
listed_is a = told counted_is a

abbrev pub listing_done : {S : Type 0} → Answer → Option S → List rules.Record → ListingDone S
listing_done a o l = record { answer = a; area = o; records = l }

-- records of zeros, as many as the largest cache has residents
abbrev pub blank : Record
blank = record { page = 0; frame = 0 }

unfoldable pub blanks : List Record
blanks = replicate 1024 blank

module _ (P : Policy) where
  -- THE CONTRACT of a listing of the words w, which it leaves, into the records `lent`: it answers a and leaves the records `left`
  pub record ListingOutcome (w : List ℕ) (lent left : List Record) (a : Result ℕ Refusal) : Type 0 where
    pub is : listing_done (listed_is a) (reads P w) (records_are left) ≡ listed P.does P.listing (records_are lent) (reads P w)
