-- How an area of capacity c is cut: a header of 43 words, then the residents, B1, B2 and the lookup (docs/LAYOUT.md). Assumes nothing.
use Rattle.std.specs.Prelude.{◌≡◌, cond, List, ℕ, ◌+◌, ◌*◌, ◌≤◌, eqb, length, get_or, drop}
use Rattle.std.specs.declared.ops.Range.{Range}
use Rattle.rules.specs.declared.Side.{Side}
use Rattle.rules.specs.declared.Side.TheVariants.{First as first, Second as second}
use Rattle.area_state.specs.Parts.{Parts}
use Rattle.area.specs.Part.{part}

-- ---- the header: the kind, the capacity and the target. Word 3 is a hint for the lookup's buckets, on which nothing depends but time; the others are kept for what is to come
abbrev pub kind_of : List ℕ → ℕ
kind_of w = get_or w 0 0

abbrev pub capacity_of : List ℕ → ℕ
capacity_of w = get_or w 1 0

abbrev pub target_of : List ℕ → ℕ
target_of w = get_or w 2 0

-- ---- where the parts start
abbrev pub residents_at : ℕ
residents_at = 43

abbrev pub ghosts_at : Side → ℕ → ℕ
ghosts_at first c = 5 * c + 52
ghosts_at second c = 7 * c + 57

abbrev pub lookup_at : ℕ → ℕ
lookup_at c = 9 * c + 62

abbrev pub end_at : ℕ → ℕ
end_at c = 24 * c + 64

-- a side by its number in the code: 0 for T1 and B1, 1 for T2 and B2
abbrev pub side_of : ℕ → Side
side_of i = cond (eqb i 0) first second

-- ---- the parts
unfoldable pub residents_in : ℕ → List ℕ → List ℕ
residents_in c w = part residents_at (ghosts_at first c) w

unfoldable pub ghosts_in : Side → ℕ → List ℕ → List ℕ
ghosts_in i c w = part (ghosts_at i c) (ghosts_at i c + 2 * c + 5) w

unfoldable pub lookup_in : ℕ → List ℕ → List ℕ
lookup_in c w = part (lookup_at c) (end_at c) w

-- the same as ranges, as the code cuts them
abbrev pub residents_words : ℕ → Range ℕ
residents_words c = record { start = residents_at; end = ghosts_at first c }

abbrev pub ghosts_words : Side → ℕ → Range ℕ
ghosts_words i c = record { start = ghosts_at i c; end = ghosts_at i c + 2 * c + 5 }

abbrev pub lookup_words : ℕ → Range ℕ
lookup_words c = record { start = lookup_at c; end = end_at c }

unfoldable pub parts_of : ℕ → List ℕ → Parts
parts_of c w = record {
  target = target_of w;
  residents = residents_in c w;
  ghosts1 = ghosts_in first c w;
  ghosts2 = ghosts_in second c w;
  lookup = lookup_in c w;
}

-- where a side's ghost list starts, and that it lies between the residents and the lookup
pub record Starts (c : ℕ) (i : Side) (r : ℕ) : Type 0 where
  pub at : r ≡ ghosts_at i c
  pub low : 5 * c + 52 ≤ r
  pub high : r ≤ 7 * c + 57

-- ---- what a call on an area asks: the words are there, and what the part's own call asks
pub record Fit (c : ℕ) (w : List ℕ) (A : Type 0) : Type 0 where
  pub small : c ≤ 1024
  pub size : end_at c ≤ length w
  pub can : A

-- what it leaves: the parts p, kind and capacity as they were, and nothing past the area's need changed
pub record Became (c : ℕ) (w v : List ℕ) (p : Parts) : Type 0 where
  pub size : length v ≡ length w
  pub parts : parts_of c v ≡ p
  pub kind : kind_of v ≡ kind_of w
  pub capacity : capacity_of v ≡ capacity_of w
  pub rest : drop (end_at c) v ≡ drop (end_at c) w

-- the same with a number that the call answers
pub record Answered (c : ℕ) (w v : List ℕ) (r n : ℕ) (p : Parts) : Type 0 where
  pub answer : r ≡ n
  pub became : Became c w v p
