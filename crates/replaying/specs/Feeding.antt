-- What a feed does with a piece of the input, and feeds one after the other. Assumes nothing.
use Rattle.std.specs.Prelude.{◌≡◌, Bool, true, cond, List, [], ◌∷◌, ◌++◌, ℕ, ◌+◌, ◌^◌, ◌<◌, ◌≤◌, ltb, length, drop}
use Rattle.replaying.specs.declared.Replay.{Replay}
use Rattle.replaying.specs.declared.Replay.TheVariants.{Start, Running, Ended}
use Rattle.replaying.specs.Pending.{pending, Ready, cache_words, offset_of}

-- an operation has at most sixteen bytes: with so many at hand, or with all that are left of the input, one can be run
abbrev pub needed : Bool → ℕ
needed last = cond last 0 16

-- the words that a feed from r to s may change: those of the cache that it goes on with, or of the one that it makes
abbrev pub changeable : Replay → Replay → ℕ
changeable Start s = cache_words s
changeable (Running r) s = cache_words (Running r)
changeable Ended s = 0

-- THE CONTRACT of a feed. The replay r with the area w was given bytes of the input, after which no more follow where `last` is true; it is s with the area v
-- then, has used up some of the bytes, and has written.
pub record Feeds (r : Replay) (w bytes : List ℕ) (last : Bool) (s : Replay) (v : List ℕ) (used : ℕ) (written : List ℕ) : Type 0 where
  pub inside : used ≤ length bytes
  pub ready : Ready s v
  pub moved : offset_of s ≤ offset_of r + used
  -- the words past those of the cache are as they were
  pub rest : drop (changeable r s) v ≡ drop (changeable r s) w
  -- whatever follows the bytes, what was written is the start of what was still to be told, and what is still to be told is the rest of it; so for all of an
  -- input of fewer than 2^64 bytes, which is how far offsets count
  pub told : offset_of r + length bytes < 2 ^ 64 → (rest : List ℕ) → (last ≡ true → rest ≡ [])
      → pending r w (bytes ++ rest) ≡ written ++ pending s v (drop used bytes ++ rest)
  -- where an operation can be run, it ends or uses up a byte
  pub progress : needed last ≤ length bytes → (s ≡ Ended → ⊥) → 1 ≤ used

-- what was written is there, in a buffer as long as it was
pub record Wrote (written : ℕ) (before after : List ℕ) : Type 0 where
  pub there : written ≤ length after
  pub size : length after ≡ length before

-- THE CONTRACT of a turn with bytes of the input in a buffer of so many: they are fed, as the last where they do not fill the buffer, and those that are not
-- used up are kept
pub record Turns (size : ℕ) (r : Replay) (w bytes : List ℕ) (s : Replay) (v kept written : List ℕ) : Type 0 where
  pub used : ℕ
  pub feeds : Feeds r w bytes (ltb (length bytes) size) s v used written
  pub left : kept ≡ drop used bytes

-- one feed of a run: the piece that was read behind the bytes that were kept, whether it is the last, and what the feed made of them
pub record Turn : Type 0 where
  pub piece : List ℕ
  pub last : Bool
  pub replay : Replay
  pub area : List ℕ
  pub used : ℕ
  pub written : List ℕ

-- the pieces together, and the output together
abbrev pub pieces_of : List Turn → List ℕ
pieces_of [] = []
pieces_of (t ∷ ts) = t.piece ++ pieces_of ts

abbrev pub output_of : List Turn → List ℕ
output_of [] = []
output_of (t ∷ ts) = t.written ++ output_of ts

-- a feed of the bytes kept and a piece, `rest` being what is read after it or never: nothing, where it was the last
pub record TurnIs (r : Replay) (w kept : List ℕ) (t : Turn) (rest : List ℕ) : Type 0 where
  pub feeds : Feeds r w (kept ++ t.piece) t.last t.replay t.area t.used t.written
  pub end : t.last ≡ true → rest ≡ []

-- feeds one after the other, each with the bytes that the one before did not use up, until the replay has ended; `unread` is what of the input is not read then
abbrev pub Run : Replay → List ℕ → List ℕ → List Turn → List ℕ → Type 0
Run r w kept [] unread = r ≡ Ended
Run r w kept (t ∷ ts) unread = TurnIs r w kept t (pieces_of ts ++ unread) × Run t.replay t.area (drop t.used (kept ++ t.piece)) ts unread

-- ---- a program that reads into a buffer of so many bytes, behind those that it kept, feeds it and writes
-- one turn: the piece that came was fed behind the bytes kept, as the last where the buffer was not full
pub record LinkIs (size : ℕ) (r : Replay) (w kept : List ℕ) (t : Turn) : Type 0 where
  pub feeds : Feeds r w (kept ++ t.piece) t.last t.replay t.area t.used t.written
  pub last : t.last ≡ ltb (length (kept ++ t.piece)) size

-- turns one after the other, from the replay r with the area w to s with v, each with the bytes that the one before left
abbrev pub Chain : ℕ → Replay → List ℕ → List ℕ → List Turn → Replay → List ℕ → List ℕ → Type 0
Chain size r w kept [] s v left = (s ≡ r) × ((v ≡ w) × (left ≡ kept))
Chain size r w kept (t ∷ ts) s v left = LinkIs size r w kept t × Chain size t.replay t.area (drop t.used (kept ++ t.piece)) ts s v left

-- WHAT READING IS ASSUMED TO DO, which no contract can say: it fills the buffer as long as there is more of the input, of which `unread` is left after the turns
abbrev pub Fills : ℕ → List ℕ → List Turn → List ℕ → Type 0
Fills size kept [] unread = Unit {0}
Fills size kept (t ∷ ts) unread =
    (length (kept ++ t.piece) < size → pieces_of ts ++ unread ≡ []) × Fills size (drop t.used (kept ++ t.piece)) ts unread
