-- The part as a count and links. In order: the count and the links of words that are made of both; the room. Assumes nothing.
use mathlib.Core.Path.{◌≡◌, ◌∙◌}
use mathlib.Core.List.{List}
use Prim.Native.Nat.{ℕ, ◌+◌, ◌-◌, ◌≤◌}
use native.Mathlib.Omega.{arith}
use lib.ListN.{length, length-set}
use lib.Seq.{get_or-set_same}
use Rattle.cells.specs.Cells.{In, words_of}
use Rattle.cells.proofs.Laws.{in_length, in_below, in_cells, cells_words}
use Rattle.tails.specs.Tails.{with_tail}
use Rattle.tails.proofs.Laws.{tail_with_tail, tail_set, length_tail, length_with_tail, same_length_with_tail}
use Rattle.ghosts.specs.Ghosts.{count_of, links_of, ghost_words, Room}

module _ (n : ℕ) (l w : List ℕ) (h : 1 ≤ length w) where
  pub count_words : count_of (ghost_words n l w) ≡ n
  unfolding count_of ghost_words
  count_words = let z : length (with_tail 1 l w) ≡ 1 + length l = length_with_tail 1 l w h in get_or-set_same (with_tail 1 l w) 0 n 0 (omega arith)

  pub links_words : links_of (ghost_words n l w) ≡ l
  unfolding ghost_words
  links_words = tail_set 1 0 n (with_tail 1 l w) (omega arith) ∙ tail_with_tail 1 l w h

  pub length_words : length l ≡ length (links_of w) → length (ghost_words n l w) ≡ length w
  unfolding ghost_words
  length_words q = length-set (with_tail 1 l w) 0 n ∙ same_length_with_tail 1 l w h q

  -- what takes the same words has the same room
  pub room_words : (c : ℕ) → length l ≡ length (links_of w) → Room w c → Room (ghost_words n l w) c
  room_words c q r =
      let z : length (ghost_words n l w) ≡ length w = length_words q in
      record { small = r.small; head = omega arith; links = rw links_words (in_length (links_of w) l (c + 1) q r.links) }

-- the room by the number of words
pub room : (w : List ℕ) (c : ℕ) → c ≤ 1024 → 1 + words_of (c + 2) ≤ length w → Room w c
room w c small h =
    let z : length (links_of w) ≡ length w - 1 = length_tail 1 w in
    record { small = small; head = omega arith; links = in_cells (links_of w) (c + 2) (c + 1) (cells_words (links_of w) (c + 2) (omega arith)) (omega arith) }

pub list_in : (w : List ℕ) (c : ℕ) → Room w c → In (links_of w) c
list_in w c r = in_below (links_of w) (c + 1) c r.links (omega arith)
