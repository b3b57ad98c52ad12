-- What a replay has still to tell, where it stands somewhere in the input. Assumes nothing.
use Rattle.std.specs.Prelude.{cond, List, [], ◌++◌, ℕ, ◌+◌, ◌≤◌, eqb, length}
use Rattle.rules.specs.Calls.{Answer, Finished, Stopped}
use Rattle.rules.specs.Batch.{Batched, batch}
use Rattle.rules.specs.Program.{text_of, texts_of, program, max_replayed}
use Rattle.rules.specs.Public.{words_needed}
use Rattle.contracts.specs.Policy.{policy_of, state_of}
use Rattle.contracts.specs.Inner.{Good}
use Rattle.replaying.specs.declared.Running as declared
use Rattle.replaying.specs.declared.Replay.{Replay}
use Rattle.replaying.specs.declared.Replay.TheVariants.{Start, Running, Ended}

-- the last line of a batch, where n operations were done before it
abbrev pub last_after : {S : Type 0} → ℕ → Batched S → Answer
last_after n b = cond (eqb b.refusal 0) (Finished (n + b.done)) (Stopped b.refusal b.offset)

-- its lines
unfoldable pub told_after : {S : Type 0} → ℕ → Batched S → List ℕ
told_after n b = texts_of b.answers ++ text_of (last_after n b)

-- the output still to come, where the area is w, for the input still to come: at the start all of the program's; then the lines of the operations
-- still to come on the state that the area is read as; after the last line nothing
unfoldable pub pending : Replay → List ℕ → List ℕ → List ℕ
pending Start w bs = program bs
pending (Running r) w bs = told_after r.done (batch (policy_of r.kind).does r.offset bs (state_of (policy_of r.kind) r.c w))
pending Ended w bs = []

-- the words of an area for the program's largest cache
abbrev pub area_words : ℕ
area_words = words_needed max_replayed

-- a replay of a kind and a capacity can go on: its area holds a well-formed state, and it has done no more operations than it has passed bytes
pub record Going (r : declared.Running) (w : List ℕ) : Type 0 where
  pub good : Good (policy_of r.kind) r.c w
  pub few : r.done ≤ r.offset

-- the area w is one that the replay can go on with
abbrev pub Ready : Replay → List ℕ → Type 0
Ready Start w = area_words ≤ length w
Ready (Running r) w = Going r w
Ready Ended w = Unit {0}

-- the words of the cache that a replay has: of none, before it is made and after the end
abbrev pub cache_words : Replay → ℕ
cache_words Start = 0
cache_words (Running r) = words_needed r.c
cache_words Ended = 0

-- the offset of the next byte, which counts until the replay has ended
abbrev pub offset_of : Replay → ℕ
offset_of Start = 0
offset_of (Running r) = r.offset
offset_of Ended = 0
