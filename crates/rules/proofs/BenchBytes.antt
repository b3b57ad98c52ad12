-- Rows of RULES 3, 8 and 9: the numbers of the refusals, the worked examples of `numbers` and `trace`, the program's lines and its refusals. Assumes
-- nothing.
use mathlib.Core.List.{List, [], ◌∷◌, ◌++◌, map}
use mathlib.Core.Bool.{true}
use Prim.Native.Nat.{◌-◌, ◌^◌}
use Rattle.std.specs.Prelude.{Some, None}
use Rattle.refusals.specs.declared.Refusal.TheVariants as refusals
use Rattle.refusals.specs.Refusals.{number_of}
use Rattle.numbers.specs.Reading.{page_of, frame_of}
use Rattle.numbers.specs.Widths.{top}
use Rattle.numbers.proofs.Examples as numbers_examples
use Rattle.trace.specs.declared.Operation.TheVariants.{Get, Insert, Remove, Clear, Peek}
use Rattle.trace.specs.Reading.{reading_of, check_of, stop_number}
use Rattle.trace.specs.Steps.{step_of}
use Rattle.trace.proofs.Examples as trace_examples
use Rattle.rules.specs.Calls.{nowhere, Holds, Number, Made, Refused}
use Rattle.rules.specs.Program.{bytes, place_text, texts_of}
use Rattle.rules.specs.Decimal.{decimal}
use Rattle.rules.proofs.BenchShapes.{Row, ◌is◌, prints, reads, checks, operations, numbers, printed}

-- P9, and its neighbours: crates/numbers/proofs/Examples
abbrev pub number_rows : List Row
number_rows = map (λ e. reads (page_of e.bytes) (frame_of e.bytes) is reads e.page e.frame) numbers_examples.examples

-- the trace check and the cursor: crates/trace/proofs/Examples
abbrev pub trace_rows : List Row
trace_rows = map (λ e. checks (check_of e.bytes) (step_of e.at e.bytes) is checks e.checked e.step) trace_examples.examples

abbrev pub byte_rows : List Row
byte_rows =
    -- "Paragraph 3.N is refusal N" (RULES 3), and 0 for none
    (numbers (map number_of (refusals.Capacity ∷ refusals.Area ∷ refusals.State ∷ refusals.Operation ∷ refusals.Number ∷ refusals.Room ∷ [])) is
    numbers (1 ∷ 2 ∷ 3 ∷ 4 ∷ 5 ∷ 6 ∷ [])) ∷
    (numbers (map stop_number (None ∷ Some refusals.Room ∷ [])) is numbers (0 ∷ 6 ∷ [])) ∷
    -- "Codes: 1 get, 2 insert, 3 remove, 4 clear, 5 peek; then page (1, 2, 3, 5) and frame (2)" (RULES 8.1)
    (operations (reading_of (0x01 ∷ 0x05 ∷ 0x02 ∷ 0x06 ∷ 0x0B ∷ 0x03 ∷ 0x07 ∷ 0x04 ∷ 0x05 ∷ 0x08 ∷ [])).operations is
    operations (Get 5 ∷ Insert 6 11 ∷ Remove 7 ∷ Clear ∷ Peek 8 ∷ [])) ∷
    -- "A page has at most ten bytes, the tenth being 1; a frame at most five, the fifth at most 15" (RULES 8.3): so
    -- every page is below 2^64, every frame below 2^32
    (numbers (top 1 9 ∷ top 15 4 ∷ []) is numbers ((2 ^ 64) ∷ (2 ^ 32) ∷ [])) ∷
    -- "numbers in decimal" (RULES 9.2)
    (prints (decimal (2 ^ 64 - 1)) is prints (bytes "18446744073709551615")) ∷
    (prints (decimal 0 ++ decimal 9 ++ decimal 10 ++ decimal 100) is prints (0x30 ∷ 0x39 ∷ 0x31 ∷ 0x30 ∷ 0x31 ∷ 0x30 ∷ 0x30 ∷ [])) ∷
    -- a text's bytes
    (prints (bytes "hit 7\n") is prints (0x68 ∷ 0x69 ∷ 0x74 ∷ 0x20 ∷ 0x37 ∷ 0x0A ∷ [])) ∷
    -- "`hit F`, `miss`, `new`, `new out K F b1` (or `b2`), `old F`, `none`, `gone F`, `absent`, `clear`, `see F`, `no`
    -- (peek); last `end N`" (RULES 9.2): get 5, insert 5 10, get 5, peek 5, peek 6, insert 5 11, remove 5, remove 5,
    -- clear
    printed (0x02 ∷ 0x02 ∷ 0x01 ∷ 0x05 ∷ 0x02 ∷ 0x05 ∷ 0x0A ∷ 0x01 ∷ 0x05 ∷ 0x05 ∷ 0x05 ∷ 0x05 ∷ 0x06 ∷ 0x02 ∷ 0x05 ∷ 0x0B ∷ 0x03 ∷ 0x05 ∷ 0x03 ∷ 0x05 ∷ 0x04 ∷ [])
    (bytes "miss\nnew\nhit 10\nsee 10\nno\nold 10\ngone 11\nabsent\nclear\nend 9\n") ∷
    -- "a kind byte (1 ARC, 2 CAR)" (RULES 9.1): c 2, insert 5 9, insert 6 9, get 6, insert 7 9, of which each policy
    -- puts another page out
    printed (0x01 ∷ 0x02 ∷ 0x02 ∷ 0x05 ∷ 0x09 ∷ 0x02 ∷ 0x06 ∷ 0x09 ∷ 0x01 ∷ 0x06 ∷ 0x02 ∷ 0x07 ∷ 0x09 ∷ [])
    (bytes "new\nnew\nhit 9\nnew out 6 9 b2\nend 4\n") ∷
    printed (0x02 ∷ 0x02 ∷ 0x02 ∷ 0x05 ∷ 0x09 ∷ 0x02 ∷ 0x06 ∷ 0x09 ∷ 0x01 ∷ 0x06 ∷ 0x02 ∷ 0x07 ∷ 0x09 ∷ [])
    (bytes "new\nnew\nhit 9\nnew out 5 9 b1\nend 4\n") ∷
    -- answers that no operation gives have no line, and a victim is recorded nowhere by no rule
    (prints (texts_of (Holds true ∷ Number 1 ∷ Made ∷ Refused 1 ∷ [])) is prints []) ∷
    (prints (place_text nowhere) is prints (bytes "--")) ∷
    -- "or `stop R at O`, O counted from byte 0 of the input (for a bad c, 1). Empty input: `stop 5 at 0`."
    -- (RULES 9.2, 9.3)
    printed [] (bytes "stop 5 at 0\n") ∷
    printed (0x01 ∷ []) (bytes "stop 5 at 1\n") ∷
    printed (0x01 ∷ 0x80 ∷ 0x00 ∷ []) (bytes "stop 5 at 1\n") ∷
    printed (0x01 ∷ 0xFF ∷ 0xFF ∷ 0xFF ∷ 0xFF ∷ 0x10 ∷ []) (bytes "stop 5 at 1\n") ∷
    printed (0x01 ∷ 0x02 ∷ 0x02 ∷ 0x05 ∷ 0x0A ∷ 0x02 ∷ 0x05 ∷ []) (bytes "new\nstop 5 at 5\n") ∷
    printed (0x02 ∷ 0x02 ∷ 0x02 ∷ 0x05 ∷ 0x0A ∷ 0x06 ∷ 0x80 ∷ []) (bytes "new\nstop 4 at 5\n") ∷
    -- "4 OPERATION: .. program: kind byte not 1 or 2" (RULES 3.4), "1 CAPACITY: .. (program: c > 256)" (RULES 3.1)
    printed (0x00 ∷ 0x02 ∷ []) (bytes "stop 4 at 0\n") ∷
    printed (0x03 ∷ 0x02 ∷ []) (bytes "stop 4 at 0\n") ∷
    printed (0x01 ∷ 0x81 ∷ 0x02 ∷ []) (bytes "stop 1 at 1\n") ∷
    printed (0x01 ∷ 0x80 ∷ 0x02 ∷ 0x07 ∷ []) (bytes "stop 4 at 3\n") ∷
    printed (0x02 ∷ 0x80 ∷ 0x02 ∷ 0x07 ∷ []) (bytes "stop 4 at 3\n") ∷
    printed (0x02 ∷ 0x80 ∷ 0x02 ∷ []) (bytes "end 0\n") ∷
    []
