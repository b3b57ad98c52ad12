-- What `new` answers and leaves (RULES 3). Assumes nothing.
use Rattle.std.specs.Prelude.{◌≡◌, cond, List, ℕ, ◌≤◌, ltb, length, set, drop, ⊤, Result, Ok, Err}
use Rattle.rules.specs.State.{max_capacity}
use Rattle.rules.specs.Public.{words_needed}
use Rattle.rules.specs.Car.{new}
use Rattle.lookup.specs.Buckets.{inverse_of, buckets_of}
use Rattle.area.specs.Area.{end_at}
use Rattle.area.specs.Stored.{Writes}
use Rattle.refusals.specs.declared.Refusal.{Refusal}
use Rattle.refusals.specs.declared.Refusal.TheVariants.{Capacity, Area}

-- an area with words for a cache of capacity c
pub record Fits (c : ℕ) (w : List ℕ) : Type 0 where
  pub small : c ≤ max_capacity
  pub size : end_at c ≤ length w

-- the words w with a kind and a capacity, and the hint for the lookup's buckets, which no state and no answer depends on
unfoldable pub headed : ℕ → ℕ → List ℕ → List ℕ
headed kind c w = set (set (set w 0 kind) 1 c) 3 (inverse_of (buckets_of c))

-- "1 CAPACITY: `new` with c > 1,024" (RULES 3.1), "2 AREA: `new` with fewer than 24c + 64 words" (RULES 3.2), 1 before
-- 2
unfoldable pub answer_of : ℕ → ℕ → Result ⊤ Refusal
answer_of c words = cond (ltb max_capacity c) (Err Capacity) (cond (ltb words (words_needed c)) (Err Area) (Ok tt))

-- the words v are a writing of the empty state of capacity c; nothing past the 24c + 64 words is another than in w
pub record Empty (kind c : ℕ) (w v : List ℕ) : Type 0 where
  pub writes : Writes kind v (new c)
  pub size : length v ≡ length w
  pub rest : drop (end_at c) v ≡ drop (end_at c) w

-- what the area w is after an answer: made, or unchanged
abbrev pub Leaves : Result ⊤ Refusal → ℕ → ℕ → List ℕ → List ℕ → Type 0
Leaves (Ok done) kind c w v = Empty kind c w v
Leaves (Err r) kind c w v = v ≡ w

-- THE CONTRACT of `new`: the answer r and the area v, for all words w
pub record New (kind c : ℕ) (w v : List ℕ) (r : Result ⊤ Refusal) : Type 0 where
  pub answer : r ≡ answer_of c (length w)
  pub area : Leaves r kind c w v
