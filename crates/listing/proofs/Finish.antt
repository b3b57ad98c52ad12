-- What a listing leaves is what the rules say. In order: records one after the other over a lent list; the outcome. Assumes nothing.
use mathlib.Core.Path.{◌≡◌, refl, sym, ap, ◌∙◌}
use mathlib.Core.Bool.{Bool, true, false, cond}
use mathlib.Core.List.{List, [], ◌∷◌, ◌++◌, map}
use Prim.Native.Nat.{ℕ, zero, suc, ◌<◌, ◌≤◌}
use native.Mathlib.Nat.{not-suc-le-zero, le_of_suc-le-suc}
use native.Mathlib.Omega.{arith}
use lib.Dec.{ltb}
use lib.Seq.{length-take-le}
use lib.ListN.{length, get_or, take, drop, set, length-map}
use borrow.Author.Tests.{ltb-false}
use Rattle.std.specs.Prelude.{Ok, Err}
use Rattle.refusals.specs.declared.Refusal.{Refusal}
use Rattle.refusals.specs.declared.Refusal.TheVariants.{State, Room}
use Rattle.rules.specs.Calls as rules
use Rattle.rules.specs.Calls.{Listing}
use Rattle.rules.specs.Public.{listed}
use Rattle.area_state.specs.Parts as parts
use Rattle.area.specs.Area.{capacity_of}
use Rattle.area.specs.Stored.{Stored, state_in}
use Rattle.state_check.specs.Check.{state_test}
use Rattle.state_check.proofs.State.{state_writes}
use Rattle.contracts.specs.Policy.{policy_of, state_of, reads}
use Rattle.rules.specs.declared.Kind.{Kind}
use Rattle.contracts.proofs.Exact.{exact_of}
use Rattle.listing.specs.Order.{past}
use Rattle.listing.specs.Steps.{order_in, record_at, records_in, accepted, plan_of, Stands, StepIs}
use Rattle.listing.specs.Outcome.{record_is, records_are, ListingOutcome}
use Rattle.listing.specs.declared.Record.{Record}
use Rattle.listing.specs.declared.Plan.{Plan}
use Rattle.listing.specs.declared.Step.{Step}
use Rattle.listing.proofs.Records.{listing_is, answer_is}

-- ---- the first i records of l over the lent list ys
abbrev pub over : ℕ → List Record → List Record → List Record
over i l ys = take i l ++ drop i ys

-- one more
pub set_over : (i : ℕ) (l ys : List Record) (d r : Record) → i < length l → i < length ys → r ≡ get_or l i d → set (over i l ys) i r ≡ over (suc i) l ys
set_over i [] ys d r h k q = absurd (not-suc-le-zero h)
set_over i (x ∷ l) [] d r h k q = absurd (not-suc-le-zero k)
set_over zero (x ∷ l) (y ∷ ys) d r h k q = ap (λ (z : Record). z ∷ ys) q
set_over (suc i) (x ∷ l) (y ∷ ys) d r h k q = ap (λ (m : List Record). x ∷ m) (set_over i l ys d r (le_of_suc-le-suc h) (le_of_suc-le-suc k) q)

-- all of them
over_all : (l ys : List Record) → over (length l) l ys ≡ l ++ drop (length l) ys
over_all l ys = ap (λ (m : List Record). m ++ drop (length l) ys) (take_all l)
  where
    take_all : (l : List Record) → take (length l) l ≡ l
    take_all [] = refl
    take_all (x ∷ l) = ap (λ (m : List Record). x ∷ m) (take_all l)

-- over the first n of a list, which are a part of it
part_length : (n : ℕ) (ys : List Record) → n ≤ length ys → length (take n ys) ≡ n
part_length n ys h = length-take-le n ys h

pub part_over : (n : ℕ) (l ys : List Record) → over n l (take n ys) ++ drop n ys ≡ over n l ys
part_over n l ys = ap (λ (m : List Record). take n l ++ m ++ drop n ys) (none_left n ys) ∙ ap (λ (m : List Record). m ++ drop n ys) (append_nil (take n l))
  where
    none_left : (n : ℕ) (ys : List Record) → drop n (take n ys) ≡ []
    none_left zero ys = refl
    none_left (suc n) [] = refl
    none_left (suc n) (y ∷ ys) = none_left n ys

    append_nil : (m : List Record) → m ++ [] ≡ m
    append_nil [] = refl
    append_nil (x ∷ m) = ap (λ (k : List Record). x ∷ k) (append_nil m)

-- as the rules' records
are_drop : (i : ℕ) (l : List Record) → records_are (drop i l) ≡ drop i (records_are l)
are_drop zero l = refl
are_drop (suc i) [] = refl
are_drop (suc i) (x ∷ l) = are_drop i l

are_append : (l m : List Record) → records_are (l ++ m) ≡ records_are l ++ records_are m
are_append [] m = refl
are_append (x ∷ l) m = ap (λ (k : List rules.Record). record_is x ∷ k) (are_append l m)

get_d_map : (f : ℕ → Record) (l : List ℕ) (i d : ℕ) (r : Record) → i < length l → get_or (map f l) i r ≡ f (get_or l i d)
get_d_map f [] i d r h = absurd (not-suc-le-zero h)
get_d_map f (x ∷ l) zero d r h = refl
get_d_map f (x ∷ l) (suc i) d r h = get_d_map f l i d r (le_of_suc-le-suc h)

get_d_any : (l : List ℕ) (i d e : ℕ) → i < length l → get_or l i d ≡ get_or l i e
get_d_any [] i d e h = absurd (not-suc-le-zero h)
get_d_any (x ∷ l) zero d e h = refl
get_d_any (x ∷ l) (suc i) d e h = get_d_any l i d e (le_of_suc-le-suc h)

-- where the cursor of a listing stands after i steps
abbrev pub cursor : Kind → List ℕ → Plan → ℕ → ℕ
cursor kind w p zero = p.first
cursor kind w p (suc i) = get_or (order_in kind (capacity_of w) w) (suc i) (past kind (capacity_of w))

-- ---- what a plan says
stored : (kind : Kind) (w : List ℕ) → state_test (policy_of kind).kind w ≡ true → Stored (capacity_of w) w
unfolding state_in parts.state_of
stored kind w q = (state_writes (policy_of kind).kind w q).stored

-- a listing that is accepted
record Planned (kind : Kind) (w : List ℕ) (room : ℕ) (p : Plan) : Type 0 where
  test : state_test (policy_of kind).kind w ≡ true
  fits : ltb room (length (order_in kind (capacity_of w) w)) ≡ false
  plan : p ≡ accepted (past kind (capacity_of w)) (order_in kind (capacity_of w) w)

module _ (kind : Kind) (w : List ℕ) (ys : List Record) where
  abbrev l : List Record
  l = map (record_at (state_in (capacity_of w) w)) (order_in kind (capacity_of w) w)

  n : length l ≡ length (order_in kind (capacity_of w) w)
  n = length-map (order_in kind (capacity_of w) w) (record_at (state_in (capacity_of w) w))

  planned : (p : Plan) → Ok p ≡ plan_of kind w (length ys) → Planned kind w (length ys) p
  unfolding plan_of
  planned p e = by (state_test (policy_of kind).kind w) (ltb (length ys) (length (order_in kind (capacity_of w) w))) refl refl e
    where
      by : (t b : Bool) → state_test (policy_of kind).kind w ≡ t → ltb (length ys) (length (order_in kind (capacity_of w) w)) ≡ b
          → Ok p ≡ cond t (cond b (Err Room) (Ok (accepted (past kind (capacity_of w)) (order_in kind (capacity_of w) w)))) (Err State)
          → Planned kind w (length ys) p
      by true true q z e = cc
      by true false q z e = record { test = q; fits = z; plan = cc }
      by false b q z e = cc

  -- ---- THE OUTCOME of a refusal
  pub refuses : (r : Refusal) → Err r ≡ plan_of kind w (length ys) → ListingOutcome (policy_of kind) w ys ys (Err r)
  unfolding plan_of reads listed
  refuses r e = by (state_test (policy_of kind).kind w) (ltb (length ys) (length (order_in kind (capacity_of w) w))) refl refl e
    where
      by : (t b : Bool) → state_test (policy_of kind).kind w ≡ t → ltb (length ys) (length (order_in kind (capacity_of w) w)) ≡ b
          → Err r ≡ cond t (cond b (Err Room) (Ok (accepted (past kind (capacity_of w)) (order_in kind (capacity_of w) w)))) (Err State)
          → ListingOutcome (policy_of kind) w ys ys (Err r)
      by true true q z e =
          let s = stored kind w q in
          let room : r ≡ Room = cc in
          record {
            is = rw (room, q, length-map ys record_is, answer_is (capacity_of w) w s kind (length ys), (exact_of kind).asks (Listing (length ys)) (state_of (policy_of kind) (capacity_of w) w), listing_is (capacity_of w) w s kind, length-map l record_is, n, z) refl;
          }
      by true false q z e = cc
      by false b q z e = let state : r ≡ State = cc in record { is = rw (state, q) refl }

module _ (kind : Kind) (w : List ℕ) (ys : List Record) (p : Plan) (e : Ok p ≡ plan_of kind w (length ys)) where
  -- no more records are written than there are, and than there is room for
  count_is : p.count ≡ length (order_in kind (capacity_of w) w)
  count_is = ap (λ (x : Plan). x.count) (planned kind w ys p e).plan

  pub count_fits : p.count ≤ length ys
  count_fits = omega (arith, count_is, ltb-false (length ys) (length (order_in kind (capacity_of w) w)) (planned kind w ys p e).fits)

  count_there : p.count ≤ length (records_in kind w)
  unfolding records_in
  count_there = omega (arith, count_is, n kind w ys)

  -- the records that are written are the first of those that there are
  abbrev pub part : List Record
  part = take p.count ys

  pub length_part : length part ≡ p.count
  length_part = length-take-le p.count ys count_fits

  -- the area is well formed, and the first one stands where the plan says
  starts : Stored (capacity_of w) w
  starts = stored kind w (planned kind w ys p e).test

  first_is : p.first ≡ get_or (order_in kind (capacity_of w) w) 0 (past kind (capacity_of w))
  first_is = ap (λ (x : Plan). x.first) (planned kind w ys p e).plan

  -- ---- the cursor after i steps
  at_cursor : (i : ℕ) → i < p.count → get_or (order_in kind (capacity_of w) w) i 0 ≡ cursor kind w p i
  at_cursor zero h = get_d_any (order_in kind (capacity_of w) w) 0 0 (past kind (capacity_of w)) (omega (arith, count_is)) ∙ sym first_is
  at_cursor (suc i) h = get_d_any (order_in kind (capacity_of w) w) (suc i) 0 (past kind (capacity_of w)) (omega (arith, count_is))

  module _ (i : ℕ) (h : i < p.count) where
    there : i < length (order_in kind (capacity_of w) w)
    there = omega (arith, count_is)

    pub stands : Stands kind w (cursor kind w p i)
    stands = record { stored = starts; place = i; less = there; at = at_cursor i h }

    module _ (r : Step) (s : StepIs kind w (cursor kind w p i) r) where
      pub moves : r.next ≡ cursor kind w p (suc i)
      moves = s.follows.next i there (at_cursor i h)

      pub writes : set (over i (records_in kind w) part) i r.resident ≡ over (suc i) (records_in kind w) part
      unfolding records_in
      writes =
          let b = length_part in
          set_over i (records_in kind w) part r.resident r.resident (let a = count_there in omega arith) (omega arith)
          (s.resident ∙ ap (record_at (state_in (capacity_of w) w)) (sym (at_cursor i h)) ∙ sym (get_d_map (record_at (state_in (capacity_of w) w)) (order_in kind (capacity_of w) w) i 0 r.resident there))

  -- THE OUTCOME
  pub finishes : ListingOutcome (policy_of kind) w ys (over p.count (records_in kind w) ys) (Ok p.count)
  unfolding reads listed records_in
  finishes =
      let s = starts in
      let all : records_are (over (length (order_in kind (capacity_of w) w)) (l kind w ys) ys) ≡ records_are (l kind w ys) ++ drop (length (order_in kind (capacity_of w) w)) (records_are ys) =
      rw (sym (n kind w ys)) (ap records_are (over_all (l kind w ys) ys) ∙ are_append (l kind w ys) (drop (length (l kind w ys)) ys) ∙ ap (λ (m : List rules.Record). records_are (l kind w ys) ++ m) (are_drop (length (l kind w ys)) ys)) in
      record {
        is = rw (count_is, (planned kind w ys p e).test, length-map ys record_is, answer_is (capacity_of w) w s kind (length ys), (exact_of kind).asks (Listing (length ys)) (state_of (policy_of kind) (capacity_of w) w), listing_is (capacity_of w) w s kind, length-map (l kind w ys) record_is, n kind w ys, (planned kind w ys p e).fits, all) refl;
      }
