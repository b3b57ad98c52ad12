-- The two sides: the ghost list of one is set and that of the other stays; the places of their cells. Assumes nothing.
use mathlib.Core.Path.{◌≡◌, refl}
use mathlib.Core.List.{List}
use Prim.Native.Nat.{ℕ, ◌*◌, ◌<◌, ◌≤◌}
use native.Mathlib.Omega.{arith}
use Rattle.rules.specs.declared.Side.{Side}
use Rattle.rules.specs.declared.Side.TheVariants.{First as first, Second as second}
use Rattle.area_state.specs.Parts.{Parts, ghosts_of, set_ghosts, number_of, ghost_place}

abbrev pub other : Side → Side
other first = second
other second = first

-- what holds of a side and of the other holds of each
pub each_side : (P : Side → Type 0) (i : Side) → P i → P (other i) → (j : Side) → P j
each_side P first a b first = a
each_side P first a b second = b
each_side P second a b first = b
each_side P second a b second = a

-- of each side its own
abbrev pub changed_at : {A : Type 0} → Side → A → (Side → A) → Side → A
changed_at first a f first = a
changed_at first a f second = f second
changed_at second a f first = f first
changed_at second a f second = a

pub changed_at_here : {A : Type 0} (i : Side) (a : A) (f : Side → A) → changed_at i a f i ≡ a
changed_at_here first a f = refl
changed_at_here second a f = refl

pub changed_at_other : {A : Type 0} (i : Side) (a : A) (f : Side → A) → changed_at i a f (other i) ≡ f (other i)
changed_at_other first a f = refl
changed_at_other second a f = refl

pub ghosts_here : (i : Side) (g : List ℕ) (p : Parts) → ghosts_of i (set_ghosts i g p) ≡ g
ghosts_here first g p = refl
ghosts_here second g p = refl

pub ghosts_other : (i : Side) (g : List ℕ) (p : Parts) → ghosts_of (other i) (set_ghosts i g p) ≡ ghosts_of (other i) p
ghosts_other first g p = refl
ghosts_other second g p = refl

-- ---- numbers of lists
pub number_below : (i : Side) → number_of i < 2
number_below first = omega arith
number_below second = omega arith

pub number_apart : (i : Side) → number_of (other i) ≡ number_of i → ⊥
number_apart first q = omega arith
number_apart second q = omega arith

-- ---- places
pub place_high : (i : Side) (c g : ℕ) → c ≤ ghost_place i c g
place_high first c g = omega arith
place_high second c g = omega arith

pub place_below : (i : Side) (c g : ℕ) → g < c → ghost_place i c g < 3 * c
place_below first c g h = omega arith
place_below second c g h = omega arith

pub place_one : (i : Side) (c g h : ℕ) → ghost_place i c g ≡ ghost_place i c h → g ≡ h
place_one first c g h q = omega arith
place_one second c g h q = omega arith

pub place_apart : (i : Side) (c g h : ℕ) → g < c → h < c → ghost_place (other i) c h ≡ ghost_place i c g → ⊥
place_apart first c g h a b q = omega arith
place_apart second c g h a b q = omega arith
