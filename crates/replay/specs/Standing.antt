-- What the turns of the program hand on, and what they did. Assumes nothing.
use Rattle.std.specs.Prelude.{◌≡◌, Bool, true, List, [], ◌++◌, ℕ, ◌≤◌, length, take}
use Rattle.lines.specs.Lines.{line_room}
use Rattle.replaying.specs.declared.Replay.{Replay}
use Rattle.replaying.specs.declared.Replay.TheVariants.{Start, Ended}
use Rattle.replaying.specs.Pending.{area_words, Ready}
use Rattle.replaying.specs.Feeding.{Turn, Turns, Chain}
use Rattle.replay.specs.declared.Standing.{Standing}

-- the replay can go on with the area; the bytes kept are there, and there is room for a line
pub record Stands (s : Standing) (area bytes out : List ℕ) : Type 0 where
  pub ready : Ready s.replay area
  pub kept : s.kept ≤ length bytes
  pub room : line_room ≤ length out

-- an area for the largest cache, and room for a line
pub record Holds (area out : List ℕ) : Type 0 where
  pub words : area_words ≤ length area
  pub room : line_room ≤ length out

-- what was read stands behind the bytes kept, up to n: these are as they were. What the bytes are that were read no contract can say.
pub record Refills (kept : ℕ) (before after : List ℕ) (n : ℕ) : Type 0 where
  pub front : take kept after ≡ take kept before
  pub behind : kept ≤ n
  pub inside : n ≤ length after

-- the program goes on only where the replay has not ended
abbrev pub Goes : Replay → Bool → Type 0
Goes r more = more ≡ true → r ≡ Ended → ⊥

-- one turn: some piece was read behind the bytes kept; the replay went on with them; its lines stand at the start of the buffer `out`; the bytes that it did not
-- use up are kept
pub record Turned (s : Standing) (area bytes : List ℕ) (t : Standing) (after left out : List ℕ) : Type 0 where
  pub piece : List ℕ
  pub written : ℕ
  pub turns : Turns (length bytes) s.replay area (take s.kept bytes ++ piece) t.replay after (take t.kept left) (take written out)
  pub goes : Goes t.replay t.more

-- where the program stands is where turns one after the other lead from the start, with a buffer of so many bytes
pub record Came (size : ℕ) (area : List ℕ) (s : Standing) (after left : List ℕ) : Type 0 where
  pub turns : List Turn
  pub chain : Chain size Start area [] turns s.replay after (take s.kept left)

-- THE CONTRACT of the loop: it came there by turns, and stops where it is not to go on, or where 2^64 - 1 turns were made. By `any_buffer` (crate replaying) the
-- lines of the turns are the program's output, where the replay has ended and reading did what is assumed of it.
pub record Replays (size : ℕ) (area : List ℕ) (s : Standing) (after left : List ℕ) : Type 0 where
  pub came : Came size area s after left
  pub stops : s.more ≡ true → length came.turns ≡ 18446744073709551615
