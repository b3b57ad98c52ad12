-- The loop of a listing: after i turns the first i records are written, and the cursor stands where it is told to.
-- Assumes nothing.
use mathlib.Core.Path.{◌≡◌, sym, ap, ◌∙◌}
use mathlib.Core.List.{List, ◌++◌}
use Prim.Native.Nat.{ℕ, suc, ◌+◌, ◌<◌, ◌≤◌}
use native.Mathlib.Omega.{arith}
use lib.ListN.{length, take, drop, set}
use Rattle.std.specs.Prelude.{Result, Ok, Err}
use Rattle.refusals.specs.declared.Refusal.{Refusal}
use Rattle.contracts.specs.Policy.{policy_of}
use Rattle.rules.specs.declared.Kind.{Kind}
use Rattle.listing.specs.Steps.{records_in, plan_of, Stands, StepIs}
use Rattle.listing.specs.Outcome.{ListingOutcome}
use Rattle.listing.specs.declared.Record.{Record}
use Rattle.listing.specs.declared.Plan.{Plan}
use Rattle.listing.specs.declared.Step.{Step}
use Rattle.listing.proofs.Finish.{over, cursor, refuses, count_fits, length_part, stands, moves, writes, part_over, finishes}

-- zs are the records that are written, of the records ys that are lent
pub record Listing (kind : Kind) (w : List ℕ) (ys : List Record) (p : Plan) (zs : List Record) (at i : ℕ) : Type 0 where
  pub planned : Ok p ≡ plan_of kind w (length ys)
  pub inside : i ≤ p.count
  pub written : zs ≡ over i (records_in kind w) (take p.count ys)
  pub stands_at : at ≡ cursor kind w p i

-- what `prepare` tells, and what is made of it
module _ (kind : Kind) (w : List ℕ) (ys : List Record) (x : Result Plan Refusal) (e : x ≡ plan_of kind w (length ys)) where
  pub listing_refused : (r : Refusal) (a : Result ℕ Refusal) → x ≡ Err r → a ≡ Err r → ListingOutcome (policy_of kind) w ys ys a
  listing_refused r a q z = rw z (refuses kind w ys r (sym q ∙ e))

  pub listing_fits : (p : Plan) → x ≡ Ok p → p.count ≤ length ys
  listing_fits p q = count_fits kind w ys p (sym q ∙ e)

module _ (kind : Kind) (w : List ℕ) (ys : List Record) (p : Plan) (zs : List Record) (at i : ℕ) (t : Listing kind w ys p zs at i) where
  less : i < length (take p.count ys) → i < p.count
  less h = omega (arith, length_part kind w ys p t.planned)

  pub listing_stands : i < length (take p.count ys) → Stands kind w at
  listing_stands h = rw t.stands_at (stands kind w ys p t.planned i (less h))

  pub listing_goes_on : i < length (take p.count ys) → (r : Step) → StepIs kind w at r → Listing kind w ys p (set zs i r.resident) r.next (i + 1)
  listing_goes_on h r s =
      let next : i + 1 ≡ suc i = omega arith in
      let here : StepIs kind w (cursor kind w p i) r = rw t.stands_at at s in
      record {
        planned = t.planned;
        inside = omega (arith, less h);
        written = ap (λ (l : List Record). set l i r.resident) t.written ∙ writes kind w ys p t.planned i (less h) r here ∙ ap (λ (m : ℕ). over m (records_in kind w) (take p.count ys)) (sym next);
        stands_at = moves kind w ys p t.planned i (less h) r here ∙ ap (cursor kind w p) (sym next);
      }

  pub listing_ends : length (take p.count ys) ≤ i → ListingOutcome (policy_of kind) w ys (zs ++ drop p.count ys) (Ok p.count)
  listing_ends h =
      let z : i ≡ p.count = omega (arith, length_part kind w ys p t.planned, t.inside) in
      let all : zs ++ drop p.count ys ≡ over p.count (records_in kind w) ys =
      ap (λ (m : List Record). m ++ drop p.count ys) (t.written ∙ ap (λ (m : ℕ). over m (records_in kind w) (take p.count ys)) z) ∙ part_over p.count (records_in kind w) ys in
      rw all (finishes kind w ys p t.planned)
