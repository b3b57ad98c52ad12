-- Six guests in one lent slice of words, and what their page faults do. Assumes nothing.
use Rattle.std.specs.Prelude.{◌≡◌, Bool, cond, true, false, List, ℕ, zero, suc, ◌+◌, ◌*◌, ◌<◌, ◌≤◌, eqb, ltb, length, get_or, drop, Result, Ok, Err}
use Rattle.std.proofs.Math.Option.{none}
use Rattle.rules.specs.Calls as rules
use Rattle.rules.specs.Calls.{Get, Insert, Answer, Done}
use Rattle.rules.specs.Counts.{counted}
use Rattle.rules.specs.Arc.{Arc, does}
use Rattle.rules.specs.Public.{words_needed}
use Rattle.area.specs.Area.{capacity_of}
use Rattle.area.specs.Part.{part}
use Rattle.answers.specs.Answers.{inserted_is}
use Rattle.contracts.specs.Policy.{arc_policy, state_of, reads}
use Rattle.contracts.specs.Inner.{Good}
use Rattle.contracts.specs.Outer.{Making}
use Rattle.guests.specs.declared.Served.{Served}
use Rattle.guests.specs.declared.Served.TheVariants as served
use Rattle.guests.specs.declared.RoundError.{RoundError}
use Rattle.guests.specs.declared.RoundError.TheVariants.{Refused, Misfit}

-- ---- one area
-- it is ready to be served: it holds a well-formed cache of ARC, of the capacity in its header
abbrev pub Ready : List ℕ → Type 0
Ready w = Good arc_policy (capacity_of w) w

-- the state that it holds
abbrev pub held : List ℕ → Arc
held w = state_of arc_policy (capacity_of w) w

-- its words past those that its cache needs
abbrev pub spare : List ℕ → List ℕ
spare w = drop (words_needed (capacity_of w)) w

-- how many hits an answer tells of: one or none
abbrev pub hits : Answer → ℕ
hits a = (counted a).get_hits

-- a page fault on the page x, by the rules: `get`, and where that is no hit, `insert` with the frame f
abbrev pub faulted : ℕ → ℕ → Arc → Done Arc
faulted x f s = let d = does (Get x) s in cond (eqb (hits d.answer) 0) (does (Insert x f) d.state) d

abbrev pub served_is : Served → Answer
served_is (served.Resident f) = rules.Hit f
served_is (served.Filled r) = inserted_is r

-- THE CONTRACT of a page fault on the area w: answer and state are the rules', and the spare words stay
pub record Faulted (x f : ℕ) (w v : List ℕ) (a : Answer) : Type 0 where
  pub ready : Ready v
  pub state : held v ≡ (faulted x f (held w)).state
  pub answer : a ≡ (faulted x f (held w)).answer
  pub spares : spare v ≡ spare w
  pub size : length v ≡ length w

-- ---- six areas of 1,600 words, one after the other: the words of the guest i
abbrev pub own : ℕ → List ℕ → List ℕ
own i w = part (i * 1600) (i * 1600 + 1600) w

pub record AllReady (w : List ℕ) : Type 0 where
  pub size : 9600 ≤ length w
  pub each : (i : ℕ) → i < 6 → Ready (own i w)

-- what the check of all says: it names the first guest whose words are no cache of ARC
pub record FirstBad (g : ℕ) (w : List ℕ) : Type 0 where
  pub guest : g < 6
  pub bad : reads arc_policy (own g w) ≡ none
  pub before : (i : ℕ) → i < g → Ready (own i w)

abbrev pub Checks : List ℕ → Result (Unit {0}) ℕ → Type 0
Checks w (Ok _) = AllReady w
Checks w (Err g) = FirstBad g w

-- what the check of one guest says
pub record Tells (g : ℕ) (w : List ℕ) (b : Bool) : Type 0 where
  pub ready : b ≡ true → Ready (own g w)
  pub bad : b ≡ false → reads arc_policy (own g w) ≡ none

-- no word changes but those of the guest g
pub record Only (g : ℕ) (w v : List ℕ) : Type 0 where
  pub others : (i : ℕ) → i < 6 → (i ≡ g → ⊥) → own i v ≡ own i w
  pub size : length v ≡ length w
  pub rest : drop 9600 v ≡ drop 9600 w

-- THE CONTRACT of a new cache of c frames for the guest g
pub record Started (g c : ℕ) (w v : List ℕ) (a : Answer) : Type 0 where
  pub made : Making arc_policy c (own g w) (own g v) a
  pub only : Only g w v

-- THE CONTRACT of one fault of the guest g: its own area does what the rules say, and no word of any other guest changes
pub record Alone (g x f : ℕ) (w v : List ℕ) (a : Answer) : Type 0 where
  pub served : Faulted x f (own g w) (own g v) a
  pub only : Only g w v

-- THE CONTRACT of one request: it moves the guest that it names, and counts as a hit or not; one that names none of the six does nothing
pub record Stepped (g x f : ℕ) (w v : List ℕ) (n : ℕ) : Type 0 where
  pub ready : AllReady v
  pub states : (i : ℕ) → i < 6 → held (own i v) ≡ cond (eqb g i) (faulted x f (held (own i w))).state (held (own i w))
  pub hits : n ≡ cond (ltb g 6) (hits (faulted x f (held (own g w))).answer) 0
  pub few : n ≤ 1
  pub spares : (i : ℕ) → i < 6 → spare (own i v) ≡ spare (own i w)
  pub size : length v ≡ length w
  pub rest : drop 9600 v ≡ drop 9600 w

-- ---- requests: the guests gs with the pages ps and the frames fs that were filled for them, as many of each
pub record Even (gs ps fs : List ℕ) : Type 0 where
  pub pages : length ps ≡ length gs
  pub frames : length fs ≡ length gs

module _ (gs ps fs w : List ℕ) where
  -- the state of the guest i after n requests: only its own ones move it
  unfoldable pub state_after : ℕ → ℕ → Arc
  state_after zero i = held (own i w)
  state_after (suc n) i = cond (eqb (get_or gs n 0) i) (faulted (get_or ps n 0) (get_or fs n 0) (state_after n i)).state (state_after n i)

  -- and how many of them were hits
  unfoldable pub hits_after : ℕ → ℕ
  hits_after zero = 0
  hits_after (suc n) = hits_after n + cond (ltb (get_or gs n 0) 6) (hits (faulted (get_or ps n 0) (get_or fs n 0) (state_after n (get_or gs n 0))).answer) 0

  -- THE CONTRACT of the loop
  pub record Ran (v : List ℕ) (n : ℕ) : Type 0 where
    pub ready : AllReady v
    pub states : (i : ℕ) → i < 6 → held (own i v) ≡ state_after (length gs) i
    pub hits : n ≡ hits_after (length gs)
    pub spares : (i : ℕ) → i < 6 → spare (own i v) ≡ spare (own i w)
    pub size : length v ≡ length w
    pub rest : drop 9600 v ≡ drop 9600 w

  -- there are six areas, and as many pages and frames as guests
  pub record Fits : Type 0 where
    pub areas : 9600 ≤ length w
    pub even : Even gs ps fs

  -- THE CONTRACT of a round on any words: it is run on six areas that were ready, or nothing changes
  abbrev pub Rounds : List ℕ → Result ℕ RoundError → Type 0
  Rounds v (Ok n) = Fits × AllReady w × Ran v n
  Rounds v (Err (Refused g)) = Fits × FirstBad g w × (v ≡ w)
  Rounds v (Err Misfit) = (Fits → ⊥) × (v ≡ w)
