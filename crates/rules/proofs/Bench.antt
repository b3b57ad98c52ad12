-- The rules, clause by clause: one statement over one table of what the definitions give and what the rules say, which
-- antt computes. Here: the bench cases P1 to P9, and what the slips of RULES 11.11 would change. The rows of the rules'
-- other sections stand beside: BenchArc, BenchCar, BenchStates, BenchCalls, BenchBytes. A new row goes to its section,
-- under the sentence that it shows; `tools/rule_mutants --rows` shows a row that does not hold, and
-- `tools/rule_mutants` the changes of a definition that no row refuses. Assumes nothing.
use mathlib.Core.Path.{◌≡◌, refl}
use mathlib.Core.List.{List, [], ◌∷◌, ◌++◌, map}
use Prim.Native.Nat.{ℕ}
use Rattle.numbers.specs.Reading.{read_from}
use Rattle.numbers.specs.Widths.{top}
use Rattle.trace.specs.Reading as trace
use Rattle.trace.specs.Steps.{step_at}
use Rattle.rules.specs.State.{first, second}
use Rattle.rules.specs.Calls.{run, Call, Get, Insert, Remove, ghost, out, Hit, New, Gone}
use Rattle.rules.specs.Public.{made, called, listed, batched}
use Rattle.rules.specs.Program.{program, bytes}
use Rattle.rules.specs.Decimal.{decimal}
use Rattle.rules.specs.Check.{distinct, below, once_each, sound_test, ranged_test, arc_test, car_test}
use Rattle.rules.specs.Arc
use Rattle.rules.specs.Car
use Rattle.rules.proofs.BenchShapes.{Row, ◌is◌, answers, lists, arc_is, car_is, arc_pages, car_of, at, ref, arc_answers, arc_state, car_answers, car_state, printed, ins, new, to_b1, to_b2, rec}
use Rattle.rules.proofs.BenchArc.{ghost_rows, arc_rows}
use Rattle.rules.proofs.BenchCar.{car_rows}
use Rattle.rules.proofs.BenchStates.{state_rows}
use Rattle.rules.proofs.BenchCalls.{call_rows}
use Rattle.rules.proofs.BenchBytes.{number_rows, trace_rows, byte_rows}

-- P1's input without its kind byte, and its operations as calls
abbrev p1 : List ℕ
p1 = 0x02 ∷ 0x02 ∷ 0x05 ∷ 0x0A ∷ 0x02 ∷ 0x06 ∷ 0x0B ∷ 0x01 ∷ 0x05 ∷ 0x02 ∷ 0x07 ∷ 0x0C ∷ 0x02 ∷ 0x05 ∷ 0x0D ∷ []

abbrev p1_lines : List ℕ
p1_lines = bytes "new\nnew\nhit 10\nnew out 5 10 b2\nnew out 6 11 b1\nend 5\n"

abbrev p2 : List Call
p2 = Insert 5 10 ∷ Insert 6 11 ∷ Get 5 ∷ []

-- an insert and a get at capacity 0, after the kind byte
abbrev p8 : List ℕ
p8 = 0x00 ∷ 0x02 ∷ 0x01 ∷ 0x02 ∷ 0x01 ∷ 0x01 ∷ []

abbrev case_rows : List Row
case_rows =
    -- P1. Bytes 01 02 02 05 0A .. give exactly these lines
    printed (0x01 ∷ p1) p1_lines ∷
    -- P2. First byte 02: the same lines; steps 2, then 1. The first victim was referenced when the sweep began.
    printed (0x02 ∷ p1) p1_lines ∷
    (car_answers 2 (p2 ++ Insert 7 12 ∷ Insert 5 13 ∷ []) is
    answers (new ∷ new ∷ Hit 10 ∷ New (out 5 10 (ghost second)) 2 ∷ New (out 6 11 (ghost first)) 1 ∷ [])) ∷
    (car_state 2 p2 is car_is (car_of 2 1 (ref 5 10 0 ∷ at 6 11 1 ∷ []) [] [] [] [])) ∷
    -- P3. ARC c=1: insert 8, get 8, insert 9, insert 10: T1 10, B1 9, B2 8, total 3 = 2c+1.
    (arc_state 1 (ins 8 ∷ Get 8 ∷ ins 9 ∷ ins 10 ∷ []) is arc_is (arc_pages 1 0 (10 ∷ []) [] (9 ∷ []) (8 ∷ []))) ∷
    (arc_answers 1 (ins 8 ∷ Get 8 ∷ ins 9 ∷ ins 10 ∷ []) is answers (new ∷ Hit 0 ∷ to_b2 8 1 ∷ to_b1 9 1 ∷ [])) ∷
    -- P4. ARC c=2: insert 1, 2, 3: B1 is 1. Remove 2, insert 4: B1 is empty though a frame was free.
    (arc_state 2 (ins 1 ∷ ins 2 ∷ ins 3 ∷ []) is arc_is (arc_pages 2 1 (3 ∷ 2 ∷ []) [] (1 ∷ []) [])) ∷
    (arc_state 2 (ins 1 ∷ ins 2 ∷ ins 3 ∷ Remove 2 ∷ ins 4 ∷ []) is arc_is (arc_pages 2 1 (4 ∷ 3 ∷ []) [] [] [])) ∷
    (arc_answers 2 (ins 1 ∷ ins 2 ∷ ins 3 ∷ Remove 2 ∷ ins 4 ∷ []) is answers (new ∷ new ∷ to_b1 1 1 ∷ Gone 0 ∷ new ∷ [])) ∷
    -- P5. ARC c=2: insert 1, 2, 3, 1: target 2, victim 2 from T1 since T2 is empty.
    (arc_state 2 (ins 1 ∷ ins 2 ∷ ins 3 ∷ ins 1 ∷ []) is arc_is (arc_pages 2 2 (3 ∷ []) (1 ∷ []) (2 ∷ []) [])) ∷
    (arc_answers 2 (ins 1 ∷ ins 2 ∷ ins 3 ∷ ins 1 ∷ []) is answers (new ∷ new ∷ to_b1 1 1 ∷ to_b1 2 1 ∷ [])) ∷
    -- P6. CAR c=2: insert 1, 2, get 1, get 2, insert 3: two steps, 1 out to b2, 2 still referenced.
    (car_answers 2 (ins 1 ∷ ins 2 ∷ Get 1 ∷ Get 2 ∷ ins 3 ∷ []) is answers (new ∷ new ∷ Hit 0 ∷ Hit 0 ∷ to_b2 1 2 ∷ [])) ∷
    (car_state 2 (ins 1 ∷ ins 2 ∷ Get 1 ∷ Get 2 ∷ ins 3 ∷ []) is car_is (car_of 2 1 (ref 2 0 1 ∷ at 3 0 0 ∷ []) [] [] (1 ∷ []) [])) ∷
    -- P7. CAR c=3: insert 1, 2, 3, remove 2, insert 4: listing 1, 4, 3.
    (lists (Car.listing (run Car.does (ins 1 ∷ ins 2 ∷ ins 3 ∷ Remove 2 ∷ ins 4 ∷ []) (Car.new 3)).state) is lists (map rec ((1, 0) ∷ (4, 0) ∷ (3, 0) ∷ []))) ∷
    (car_state 3 (ins 1 ∷ ins 2 ∷ ins 3 ∷ Remove 2 ∷ ins 4 ∷ []) is car_is (car_of 3 1 (at 1 0 0 ∷ at 3 0 2 ∷ at 4 0 1 ∷ []) [] [] [] [])) ∷
    -- P8. c=0: insert `none`, get `miss`.
    printed (0x01 ∷ p8) (bytes "none\nmiss\nend 2\n") ∷
    printed (0x02 ∷ p8) (bytes "none\nmiss\nend 2\n") ∷
    -- Slips that P1 to P9 let pass. The step of the target is 1, and each ghost hit moves it before the replacement; the same answers of both policies
    (arc_answers 2 (ins 1 ∷ ins 2 ∷ ins 3 ∷ ins 1 ∷ ins 2 ∷ ins 1 ∷ []) is answers (new ∷ new ∷ to_b1 1 1 ∷ to_b1 2 1 ∷ to_b2 1 1 ∷ to_b1 3 1 ∷ [])) ∷
    (car_answers 2 (ins 1 ∷ ins 2 ∷ ins 3 ∷ ins 1 ∷ ins 2 ∷ ins 1 ∷ []) is answers (new ∷ new ∷ to_b1 1 1 ∷ to_b1 2 1 ∷ to_b2 1 1 ∷ to_b1 3 1 ∷ [])) ∷
    (arc_state 2 (ins 1 ∷ ins 1 ∷ ins 2 ∷ ins 3 ∷ ins 4 ∷ ins 2 ∷ ins 4 ∷ ins 5 ∷ []) is arc_is (arc_pages 2 2 (5 ∷ []) (4 ∷ []) (3 ∷ []) (2 ∷ []))) ∷
    printed (0x01 ∷ p1 ++ 0x02 ∷ 0x06 ∷ 0x0B ∷ []) (bytes "new\nnew\nhit 10\nnew out 5 10 b2\nnew out 6 11 b1\nnew out 5 13 b2\nend 6\n") ∷
    printed (0x02 ∷ p1 ++ 0x02 ∷ 0x06 ∷ 0x0B ∷ []) (bytes "new\nnew\nhit 10\nnew out 5 10 b2\nnew out 6 11 b1\nnew out 5 13 b2\nend 6\n") ∷
    -- T1 = target in a plain miss, and on a B2 hit
    (arc_answers 2 (ins 1 ∷ ins 2 ∷ Get 1 ∷ ins 3 ∷ []) is answers (new ∷ new ∷ Hit 0 ∷ to_b2 1 1 ∷ [])) ∷
    (arc_state 2 (ins 1 ∷ ins 2 ∷ Get 1 ∷ ins 3 ∷ ins 1 ∷ []) is arc_is (arc_pages 2 0 (3 ∷ []) (1 ∷ []) (2 ∷ []) [])) ∷
    -- a CAR page does not move on a hit, nor on an update; CAR's ghosts are not trimmed, and a ghost list holds at most c
    (car_state 3 (ins 1 ∷ ins 2 ∷ Insert 1 7 ∷ ins 3 ∷ Get 2 ∷ []) is car_is (car_of 3 1 (ref 1 7 0 ∷ ref 2 0 1 ∷ at 3 0 2 ∷ []) [] [] [] [])) ∷
    (car_state 2 (ins 1 ∷ ins 2 ∷ ins 3 ∷ Remove 2 ∷ ins 4 ∷ []) is car_is (car_of 2 1 (at 3 0 0 ∷ at 4 0 1 ∷ []) [] (1 ∷ []) [] [])) ∷
    (car_state 3 (ins 1 ∷ ins 2 ∷ ins 3 ∷ ins 4 ∷ ins 5 ∷ ins 6 ∷ ins 7 ∷ []) is car_is (car_of 3 1 (at 5 0 1 ∷ at 6 0 2 ∷ at 7 0 0 ∷ []) [] (4 ∷ 3 ∷ 2 ∷ []) [] [])) ∷
    []

-- ---- the table
unfoldable pub table : List Row
unfolding program run Arc.does Arc.new Car.does Car.new Car.listing read_from trace.read_from decimal made called listed batched top step_at arc_test car_test sound_test ranged_test distinct below once_each
table = case_rows ++ number_rows ++ state_rows ++ call_rows ++ ghost_rows ++ arc_rows ++ car_rows ++ trace_rows ++ byte_rows

pub all_right : map (λ r. r.given) table ≡ map (λ r. r.wanted) table
unfolding table
all_right = refl
