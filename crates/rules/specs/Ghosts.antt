-- The ghost list (RULES 4): newest first, at most c pages. Assumes nothing.
use Rattle.std.specs.Prelude.{ℕ, List, ◌∷◌, take}
use Rattle.rules.specs.Lists.{leave, drop_last}
use Rattle.rules.specs.State.{Lists, Side, ghosts, set_ghosts}
use Rattle.rules.specs.Calls.{Place, ghost, nowhere}

-- "Recording puts a page at the front; if the list held c, its oldest is dropped; with c = 0 nothing is kept."
-- (RULES 4.2)
abbrev pub recorded : ℕ → ℕ → List ℕ → List ℕ
recorded c x b = take c (x ∷ b)

module _ {X : Type 0} where
  -- a page is recorded in a place
  abbrev pub record_in : Place → ℕ → Lists X → Lists X
  record_in (ghost i) x s = set_ghosts i (recorded s.c x (ghosts i s)) s
  record_in nowhere x s = s

  -- "Removing an absent page .. [does] nothing."
  abbrev pub remove_ghost : Side → ℕ → Lists X → Lists X
  remove_ghost i x s = set_ghosts i (leave x (ghosts i s)) s

  -- ".. and dropping the oldest of an empty list do nothing." (RULES 4.3)
  abbrev pub drop_oldest : Side → Lists X → Lists X
  drop_oldest i s = set_ghosts i (drop_last (ghosts i s)) s
