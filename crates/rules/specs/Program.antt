-- The program (RULES 9): input bytes to output bytes. Assumes nothing.
--
-- "The program reads a kind byte (1 ARC, 2 CAR), c (a number in a frame's form), then operations, from standard
-- input." (RULES 9.1)
use Rattle.std.specs.Prelude.{ℕ, ◌+◌, List, [], ◌∷◌, ◌++◌, Bool, true, false, cond, ltb, eqb, drop, Ok, Err}
use Prim.Native.Char.{code}
use Prim.Native.String.{String, [] as end, ◌∷◌ as ◌then◌}
use Rattle.std.proofs.Math.Option.{Option, some, none}
use Rattle.refusals.specs.Refusals.{number_of}
use Rattle.numbers.specs.Reading.{read_from, frame_of}
use Rattle.numbers.specs.Reading as numbers
use Rattle.trace.specs.Reading.{fault_refusal, fault_place}
use Rattle.rules.specs.declared.Kind.{Kind}
use Rattle.rules.specs.declared.Kind.TheVariants as kinds
use Rattle.rules.specs.State.{first, second}
use Rattle.rules.specs.Calls.{Place, ghost, nowhere, Victim, nobody, out, Answer, Hit, Miss, New, Old, None, Gone, Absent, Cleared, See, No, Holds, Number, Made, Finished, Stopped, Refused}
use Rattle.rules.specs.Batch.{Batched, run_from, batch, answer_of}
use Rattle.rules.specs.Decimal.{decimal}
use Rattle.rules.specs.Arc
use Rattle.rules.specs.Car

-- a text's bytes
abbrev pub bytes : String → List ℕ
bytes end = []
bytes (c then t) = code c ∷ bytes t

-- ---- "Lines, numbers in decimal, each ended by byte 0A" (RULES 9.2)
abbrev pub line : List ℕ → List ℕ
line t = t ++ 0x0A ∷ []

abbrev pub place_text : Place → List ℕ
place_text (ghost first) = bytes "b1"
place_text (ghost second) = bytes "b2"
place_text nowhere = bytes "--"

-- "`new out K F b1` (or `b2`)" (RULES 9.2)
abbrev pub victim_text : Victim → List ℕ
victim_text nobody = []
victim_text (out k f p) = bytes " out " ++ decimal k ++ bytes " " ++ decimal f ++ bytes " " ++ place_text p

-- "`hit F`, `miss`, `new`, `new out K F b1` (or `b2`), `old F`, `none`, `gone F`, `absent`, `clear`, `see F`, `no`
-- (peek); last `end N`, N the operations done, or `stop R at O`" (RULES 9.2). Answers that no operation gives have no
-- line.
unfoldable pub text_of : Answer → List ℕ
unfolding decimal
text_of (Hit f) = line (bytes "hit " ++ decimal f)
text_of Miss = line (bytes "miss")
text_of (New v n) = line (bytes "new" ++ victim_text v)
text_of (Old f) = line (bytes "old " ++ decimal f)
text_of None = line (bytes "none")
text_of (Gone f) = line (bytes "gone " ++ decimal f)
text_of Absent = line (bytes "absent")
text_of Cleared = line (bytes "clear")
text_of (See f) = line (bytes "see " ++ decimal f)
text_of No = line (bytes "no")
text_of (Finished n) = line (bytes "end " ++ decimal n)
text_of (Stopped r o) = line (bytes "stop " ++ decimal r ++ bytes " at " ++ decimal o)
text_of (Holds b) = []
text_of (Number n) = []
text_of Made = []
text_of (Refused r) = []

unfoldable pub texts_of : List Answer → List ℕ
unfolding text_of
texts_of [] = []
texts_of (a ∷ l) = text_of a ++ texts_of l

-- the lines of a batch
unfoldable pub told : {S : Type 0} → Batched S → List ℕ
unfolding texts_of
told b = texts_of b.answers ++ text_of (answer_of b)

-- ---- the kind byte, and c
-- "a kind byte (1 ARC, 2 CAR)" (RULES 9.1)
abbrev pub kind_of : ℕ → Option Kind
kind_of b = cond (eqb b 1) (some kinds.Arc) (cond (eqb b 2) (some kinds.Car) none)

-- "(the program: 0 to 256)" (RULES 1.1)
abbrev pub max_replayed : ℕ
max_replayed = 256

-- the operations, on a fresh cache; the first has the offset o ("O counted from byte 0 of the input" (RULES 9.2))
unfoldable pub replay : Kind → ℕ → ℕ → List ℕ → List ℕ
unfolding told run_from Arc.does Arc.new Car.does Car.new
replay kinds.Arc c o ops = told (batch Arc.does o ops (Arc.new c))
replay kinds.Car c o ops = told (batch Car.does o ops (Car.new c))

-- "1 CAPACITY .. (program: c > 256)" (RULES 3.1), "for a bad c, 1" (RULES 9.2)
unfoldable pub sized : Bool → Kind → ℕ → ℕ → List ℕ → List ℕ
unfolding replay text_of
sized true k c used bs = text_of (Stopped 1 1)
sized false k c used bs = replay k c (1 + used) (drop used bs)

unfoldable pub with_capacity : Kind → numbers.Number → List ℕ → List ℕ
unfolding sized text_of
with_capacity k (Ok c) bs = sized (ltb max_replayed c.value) k c.value c.used bs
with_capacity k (Err f) bs = text_of (Stopped (number_of (fault_refusal f)) (1 + fault_place 0 f))

-- "4 OPERATION .. program: kind byte not 1 or 2" (RULES 3.4)
unfoldable pub with_kind : Option Kind → List ℕ → List ℕ
unfolding with_capacity text_of read_from
with_kind none bs = text_of (Stopped 4 0)
with_kind (some k) bs = with_capacity k (frame_of bs) bs

-- "Empty input: `stop 5 at 0`." (RULES 9.3)
unfoldable pub program : List ℕ → List ℕ
unfolding with_kind text_of
program [] = text_of (Stopped 5 0)
program (b ∷ bs) = with_kind (kind_of b) bs
