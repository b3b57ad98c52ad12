-- The state of a cache as lists, and the state rules that hold for every policy (RULES 2). Assumes nothing.
--
-- T1 and T2 hold the residents: ARC's lists, newest first; CAR's recent and frequent clock, each from its hand. B1 and
-- B2 hold the ghosts, newest first. c is the capacity.
use Rattle.std.specs.Prelude.{ℕ, ◌+◌, ◌^◌, ◌<◌, ◌≤◌, List, [], ◌∷◌, ◌++◌, map, Bool, cond, leb, eqb, length}
use Rattle.std.proofs.Math.Option.{Option, some, none}
use Rattle.rules.specs.Lists.{times, Each}
pub use Rattle.rules.specs.declared.Side.{Side}
pub use Rattle.rules.specs.declared.Side.TheVariants.{First as first, Second as second}

-- ---- residents
-- a resident: its page and frame, and what its policy keeps of it besides
pub record Entry (X : Type 0) : Type 0 where
  pub page : ℕ
  pub frame : ℕ
  pub more : X

module _ {X : Type 0} where
  abbrev pub entry : ℕ → ℕ → X → Entry X
  entry p f m = record { page = p; frame = f; more = m }

  abbrev pub with_frame : ℕ → Entry X → Entry X
  with_frame f e = entry e.page f e.more

  abbrev pub pages : List (Entry X) → List ℕ
  pages l = map (λ e. e.page) l

  -- the entry of a page
  abbrev pub found : ℕ → List (Entry X) → Option (Entry X)
  found x [] = none
  found x (e ∷ l) = cond (eqb x e.page) (some e) (found x l)

  -- the entry of a page leaves a list
  abbrev pub without : ℕ → List (Entry X) → List (Entry X)
  without x [] = []
  without x (e ∷ l) = cond (eqb x e.page) (without x l) (e ∷ without x l)

  -- the entry of a page is changed where it stands
  abbrev pub changed : ℕ → (Entry X → Entry X) → List (Entry X) → List (Entry X)
  changed x g [] = []
  changed x g (e ∷ l) = cond (eqb x e.page) (g e) e ∷ changed x g l

-- ---- the four lists
pub record Lists (X : Type 0) : Type 0 where
  pub c : ℕ
  pub target : ℕ
  pub T1 : List (Entry X)
  pub T2 : List (Entry X)
  pub B1 : List ℕ
  pub B2 : List ℕ

-- T1 and B1, or T2 and B2: the code's own type, under the names of the rules
abbrev pub choose : {A : Type 0} → Side → A → A → A
choose first a b = a
choose second a b = b

module _ {X : Type 0} where
  abbrev pub list : Side → Lists X → List (Entry X)
  list i s = choose i s.T1 s.T2

  abbrev pub ghosts : Side → Lists X → List ℕ
  ghosts i s = choose i s.B1 s.B2

  abbrev pub set_target : ℕ → Lists X → Lists X
  set_target p s = record { c = s.c; target = p; T1 = s.T1; T2 = s.T2; B1 = s.B1; B2 = s.B2 }

  abbrev pub set_list : Side → List (Entry X) → Lists X → Lists X
  set_list i l s = record { c = s.c; target = s.target; T1 = choose i l s.T1; T2 = choose i s.T2 l; B1 = s.B1; B2 = s.B2 }

  abbrev pub set_ghosts : Side → List ℕ → Lists X → Lists X
  set_ghosts i b s = record { c = s.c; target = s.target; T1 = s.T1; T2 = s.T2; B1 = choose i b s.B1; B2 = choose i s.B2 b }

  -- how many are resident; how many pages the four lists have together
  abbrev pub residents : Lists X → ℕ
  residents s = length s.T1 + length s.T2

  abbrev pub in_all : Lists X → ℕ
  in_all s = residents s + length s.B1 + length s.B2

  -- residents >= c
  abbrev pub full : Lists X → Bool
  full s = leb s.c (residents s)

  -- the resident of a page
  abbrev pub resident : ℕ → Lists X → Option (Entry X)
  resident x s = found x (s.T1 ++ s.T2)

  -- a resident leaves the list that it stands in
  abbrev pub leaves : ℕ → Lists X → Lists X
  leaves x s = set_list first (without x s.T1) (set_list second (without x s.T2) s)

  -- a resident is changed where it stands
  abbrev pub changed_in : ℕ → (Entry X → Entry X) → Lists X → Lists X
  changed_in x g s = set_list first (changed x g s.T1) (set_list second (changed x g s.T2) s)

  -- ---- the state rules of every policy
  -- how often a page stands in the four lists together
  abbrev pub seen : ℕ → Lists X → ℕ
  seen x s = times x (pages s.T1) + times x (pages s.T2) + times x s.B1 + times x s.B2

  -- "all pages, resident and ghost, are distinct; residents <= c; each ghost list <= c; 0 <= target <= c" (RULES 2.6)
  pub record Sound (s : Lists X) : Type 0 where
    pub distinct : (x : ℕ) → seen x s ≤ 1
    pub room : residents s ≤ s.c
    pub ghosts1 : length s.B1 ≤ s.c
    pub ghosts2 : length s.B2 ≤ s.c
    pub aim : s.target ≤ s.c

-- "Page: any u64. Frame: any u32. Capacity c: 0 to 1,024" (RULES 1.1)
abbrev pub max_capacity : ℕ
max_capacity = 1024

abbrev pub IsPage : ℕ → Type 0
IsPage x = x < 2 ^ 64

abbrev pub IsFrame : ℕ → Type 0
IsFrame f = f < 2 ^ 32

module _ {X : Type 0} where
  abbrev pub Fits : Entry X → Type 0
  Fits e = IsPage e.page × IsFrame e.frame

  pub record Ranged (s : Lists X) : Type 0 where
    pub capacity : s.c ≤ max_capacity
    pub recent : Each Fits s.T1
    pub frequent : Each Fits s.T2
    pub ghosts1 : Each IsPage s.B1
    pub ghosts2 : Each IsPage s.B2
