-- What the stages of an insert ask and leave, over the policy. Assumes nothing.
use Rattle.std.specs.Prelude.{◌≡◌, Bool, false, List, ℕ, ◌<◌, length, drop}
use Rattle.std.proofs.Math.Option.{none}
use Rattle.rules.specs.State.{resident, seen}
use Rattle.rules.specs.declared.Side.{Side}
use Rattle.rules.specs.Calls.{Place, New, ghost, nowhere, Victim, out, Replaced, steps, Done, done}
use Rattle.rules.specs.Stages.{place_of, is_b2, goes_to}
use Rattle.rules.specs.Car.{Car}
use Rattle.area_state.specs.States.{resident_at, evicted_at}
use Rattle.area.specs.Area.{kind_of, end_at}
use Rattle.area.specs.Stored.{Stored, state_in, Left}
use Rattle.store.specs.Store.{HasSlot, HasGhost, FoundIs}
use Rattle.store.specs.declared.Found.TheVariants.{Resident}
use Rattle.answers.specs.Answers.{inserted_is}
use Rattle.answers.specs.declared.Inserted.{Inserted}
use Rattle.contracts.specs.Policy.{Policy, state_of}
use Rattle.stages.specs.Common.{HasResident}
use Rattle.stages.specs.declared.Victim as victim
use Rattle.stages.specs.declared.Way as way
use Rattle.stages.specs.declared.Way.TheVariants as ways

-- ---- what is asked
-- an area of a cache that can hold a page
pub record HasRoom (c : ℕ) (w : List ℕ) : Type 0 where
  pub stored : Stored c w
  pub some : 0 < c

-- a page that no list has may come, to T1 or T2
pub record CanCome (c : ℕ) (w : List ℕ) (x : ℕ) : Type 0 where
  pub can : HasRoom c w
  pub absent : seen x (state_in c w).lists ≡ 0

-- a page that is in the place p, and no resident's, may come
pub record Comes (c : ℕ) (w : List ℕ) (p : Place) (x : ℕ) : Type 0 where
  pub can : HasRoom c w
  pub fresh : resident x (state_in c w).lists ≡ none
  pub place : place_of x (state_in c w).lists ≡ p

-- a ghost hit: cell g of the ghost list of side i holds the page
pub record Hits (c : ℕ) (w : List ℕ) (i : Side) (g x : ℕ) : Type 0 where
  pub cell : HasGhost c w i g x
  pub comes : Comes c w (ghost i) x

-- a page takes the slot of one that is put out
pub record CanDisplace (c : ℕ) (w : List ℕ) (x : ℕ) : Type 0 where
  pub comes : CanCome c w x
  pub full : HasResident c w

-- whether a page's place is B2
abbrev pub of_b2 : Place → Bool
of_b2 (ghost i) = is_b2 i
of_b2 nowhere = false

-- the entry of a page after a replacement, by what puts the page in
abbrev pub entered : {S : Type 0} → (S → S) → Replaced S → Done S
entered put m = done (New m.victim (steps m)) (put m.state)

-- the resident of slot e of the list of side i as a victim
abbrev pub out_of : Side → ℕ → Car → Victim
out_of i e s = out (resident_at e s).page (resident_at e s).frame (ghost i)

-- ---- what a policy does, in stages
pub record Stages (P : Policy) : Type 0 where
  -- by the store: a hit of the resident of slot e; a new page with its bit
  pub touched : ℕ → Car → Car
  pub put : Side → ℕ → ℕ → Bool → Car → Car
  -- by the rules: what comes before "replace if full", that, and the replacement; the entry of a page; an update of the resident of slot e
  pub ready : Place → ℕ → P.State → P.State
  pub made : Bool → P.State → Replaced P.State
  pub replace : Bool → P.State → Replaced P.State
  pub admitted : Side → ℕ → ℕ → P.State → P.State
  pub updated : ℕ → ℕ → Car → Done P.State

module _ (P : Policy) where
  -- ---- what is left: an area that the policy reads as s, of the same kind and length, and with nothing past the area's need changed
  pub record Stage (c : ℕ) (w v : List ℕ) (s : P.State) : Type 0 where
    pub stored : Stored c v
    pub reads : state_of P c v ≡ s
    pub kind : kind_of v ≡ kind_of w
    pub size : length v ≡ length w
    pub rest : drop (end_at c) v ≡ drop (end_at c) w

  -- the state and the answer of d
  pub record Gives (d : Done P.State) (c : ℕ) (w v : List ℕ) (r : Inserted) : Type 0 where
    pub left : Stage c w v d.state
    pub answer : inserted_is r ≡ d.answer

  -- ---- how an insert goes on: the page comes from its place to the list of side j, after a hit in B2 or not; `ready` is what comes before
  module _ (ready : Place → ℕ → P.State → P.State) where
    pub record Ready (c : ℕ) (w v : List ℕ) (x : ℕ) (j : Side) (hit : Bool) : Type 0 where
      pub place : Place
      pub was : Comes c w place x
      pub list : j ≡ goes_to place
      pub frequent : hit ≡ of_b2 place
      pub left : Stage c w v (ready place x (state_of P c w))
      pub can : CanCome c v x

    abbrev pub WayIs : ℕ → List ℕ → List ℕ → ℕ → way.Way → Type 0
    WayIs c w v x (ways.Stays e) = (v ≡ w) × FoundIs c w x (Resident e)
    WayIs c w v x (ways.Comes j hit) = Ready c w v x j hit

  -- ---- a whole replacement but for the putting out: v is the area after its n steps, and slot e of the list of side i has the victim
  pub record Chosen (replace : Bool → P.State → Replaced P.State) (c : ℕ) (w v : List ℕ) (hit : Bool) (i : Side) (e n : ℕ) : Type 0 where
    pub left : Left c w v (state_in c v)
    pub slot : HasSlot c v i e
    pub victim : (replace hit (state_of P c w)).victim ≡ out_of i e (state_in c v)
    pub state : (replace hit (state_of P c w)).state ≡ P.view (evicted_at i e (state_in c v))
    pub steps : steps (replace hit (state_of P c w)) ≡ n

  abbrev pub Chooses : (replace : Bool → P.State → Replaced P.State) → ℕ → List ℕ → List ℕ → Bool → victim.Victim → Type 0
  Chooses replace c w v hit r = Chosen replace c w v hit r.side r.slot r.steps
