-- Rows of RULES 3 and 7: the questions, the public calls with what they leave, batches and their counts.
-- Assumes nothing.
use mathlib.Core.List.{List, [], ◌∷◌, ◌++◌, map}
use mathlib.Core.Bool.{true, false}
use mathlib.Core.Option.{Option, some, none}
use Prim.Native.Nat.{ℕ}
use Rattle.rules.specs.State.{first}
use Rattle.rules.specs.Calls.{Get, Insert, Remove, Clear, Ask, Question, Peek, Contains, Len, Capacity, Target, T1Len, T2Len, B1Len, B2Len, Listing, ghost, nobody, out, Answer, Hit, Miss, New, Old, None, Gone, Absent, Cleared, See, No, Holds, Number, Made, Finished, Stopped, Refused}
use Rattle.rules.specs.Counts.{Counts, counts, no_counts, plus, tally, hits}
use Rattle.rules.specs.Batch.{Batched, batch}
use Rattle.rules.specs.Public.{words_needed, made, called, listed, batched}
use Rattle.rules.specs.Arc.{Arc}
use Rattle.rules.specs.Arc
use Rattle.rules.specs.Car.{Car}
use Rattle.rules.specs.Car
use Rattle.rules.proofs.BenchShapes.{Shown, Row, ◌is◌, numbers, answers, counting, arc_made, car_made, arc_listed, car_listed, arc_batched, car_batched, arc_of, arc_pages, car_of, at, ref, new, rec, tallied}

-- every length, the target and the capacity differ
abbrev lengths : Arc
lengths = arc_of 9 7 ((21, 31) ∷ []) ((22, 32) ∷ (23, 33) ∷ (24, 34) ∷ (25, 35) ∷ []) (26 ∷ 27 ∷ []) (28 ∷ 29 ∷ 30 ∷ [])

abbrev clocks : Car
clocks = car_of 9 7 (at 21 31 4 ∷ []) (ref 22 32 0 ∷ at 23 33 6 ∷ at 24 34 2 ∷ ref 25 35 8 ∷ []) (26 ∷ 27 ∷ []) (28 ∷ 29 ∷ 30 ∷ []) (1 ∷ 3 ∷ 5 ∷ 7 ∷ [])

abbrev questions : List Question
questions =
    Peek 21 ∷ Peek 23 ∷ Peek 26 ∷ Peek 40 ∷ Contains 21 ∷ Contains 25 ∷ Contains 27 ∷ Contains 28 ∷ Contains 40 ∷
    Len ∷ Capacity ∷ Target ∷ T1Len ∷ T2Len ∷ B1Len ∷ B2Len ∷ Listing 4 ∷ Listing 5 ∷ Listing 6 ∷ []

abbrev answered : List Answer
answered =
    See 31 ∷ See 33 ∷ No ∷ No ∷ Holds true ∷ Holds true ∷ Holds false ∷ Holds false ∷ Holds false ∷
    Number 5 ∷ Number 9 ∷ Number 7 ∷ Number 1 ∷ Number 4 ∷ Number 2 ∷ Number 3 ∷ Refused 6 ∷ Number 5 ∷ Number 5 ∷ []

-- two residents, and three lent records
abbrev some2 : Arc
some2 = arc_of 2 1 ((1, 11) ∷ []) ((2, 12) ∷ []) [] []

abbrev lent : List (ℕ × ℕ)
lent = (7, 70) ∷ (8, 80) ∷ (9, 90) ∷ []

-- insert 5 10, get 5, get 6, insert 5 11, insert 6 11 (which evicts 5), remove 6, remove 6, insert 7 12, peek 7, remove 9
abbrev busy : List ℕ
busy = 2 ∷ 5 ∷ 10 ∷ 1 ∷ 5 ∷ 1 ∷ 6 ∷ 2 ∷ 5 ∷ 11 ∷ 2 ∷ 6 ∷ 11 ∷ 3 ∷ 6 ∷ 3 ∷ 6 ∷ 2 ∷ 7 ∷ 12 ∷ 5 ∷ 7 ∷ 3 ∷ 9 ∷ []

abbrev ran : List (Batched Arc)
ran = map (λ bs. batch Arc.does 3 bs some2) ([] ∷ (4 ∷ 1 ∷ 9 ∷ []) ∷ (4 ∷ 4 ∷ 7 ∷ 9 ∷ []) ∷ (1 ∷ 9 ∷ 2 ∷ 9 ∷ []) ∷ [])

-- what a public call answers and what the area then reads as; of a listing also the records, of a batch the counts
abbrev arc_left : Answer → Option Arc → Shown
arc_left a s = arc_made (record { answer = a; state = s })

abbrev car_left : Answer → Option Car → Shown
car_left a s = car_made (record { answer = a; state = s })

abbrev arc_records : Answer → Option Arc → List (ℕ × ℕ) → Shown
arc_records a s l = arc_listed (record { answer = a; area = s; records = map rec l })

abbrev car_records : Answer → Option Car → List (ℕ × ℕ) → Shown
car_records a s l = car_listed (record { answer = a; area = s; records = map rec l })

abbrev arc_ran : Answer → Option Arc → Counts → Shown
arc_ran a s n = arc_batched (record { answer = a; area = s; counts = n })

abbrev car_ran : Answer → Option Car → Counts → Shown
car_ran a s n = car_batched (record { answer = a; area = s; counts = n })

-- counts that were lent, and what they are set to where nothing was done
abbrev old : Counts
old = tallied 1 2 3 4 5 6 7

abbrev nothing : Counts
nothing = tallied 0 0 0 0 0 0 0

abbrev pub call_rows : List Row
call_rows =
    -- the questions; "6 ROOM: listing into fewer records than residents" (RULES 3.6)
    (answers (map (λ q. (Arc.does (Ask q) lengths).answer) questions) is answers answered) ∷
    (answers (map (λ q. (Car.does (Ask q) clocks).answer) questions) is answers answered) ∷
    -- "1 CAPACITY: `new` with c > 1,024" (RULES 3.1), "2 AREA: `new` with fewer than 24c + 64 words" (RULES 3.2),
    -- "area unchanged", "Order: 1 before 2" (RULES 3.21)
    (numbers (map words_needed (0 ∷ 1 ∷ 2 ∷ 1024 ∷ [])) is numbers (64 ∷ 88 ∷ 112 ∷ 24640 ∷ [])) ∷
    (arc_made (made Arc.new 1024 24640 none) is arc_left Made (some (arc_pages 1024 512 [] [] [] []))) ∷
    (arc_made (made Arc.new 1024 24639 none) is arc_left (Refused 2) none) ∷
    (arc_made (made Arc.new 1025 24664 none) is arc_left (Refused 1) none) ∷
    (arc_made (made Arc.new 1025 0 (some some2)) is arc_left (Refused 1) (some some2)) ∷
    (arc_made (made Arc.new 2 111 (some some2)) is arc_left (Refused 2) (some some2)) ∷
    (arc_made (made Arc.new 3 136 (some some2)) is arc_left Made (some (arc_pages 3 1 [] [] [] []))) ∷
    (car_made (made Car.new 3 137 none) is car_left Made (some (car_of 3 1 [] [] [] [] (0 ∷ 1 ∷ 2 ∷ [])))) ∷
    (car_made (made Car.new 0 64 none) is car_left Made (some (car_of 0 0 [] [] [] [] []))) ∷
    -- "3 STATE: any other call on an area not well formed for that policy" (RULES 3.3), "all unchanged" (RULES 3.3);
    -- else the call on what the area reads as
    (arc_made (called Arc.does (Get 1) none) is arc_left (Refused 3) none) ∷
    (answers (map (λ k. (called Car.does k none).answer) (Get 1 ∷ Insert 1 2 ∷ Remove 1 ∷ Clear ∷ Ask Len ∷ Ask (Listing 0) ∷ [])) is
    answers (Refused 3 ∷ Refused 3 ∷ Refused 3 ∷ Refused 3 ∷ Refused 3 ∷ Refused 3 ∷ [])) ∷
    (arc_made (called Arc.does (Remove 2) (some some2)) is arc_left (Gone 12) (some (arc_of 2 1 ((1, 11) ∷ []) [] [] []))) ∷
    (car_made (called Car.does (Insert 5 6) (some (car_of 1 0 [] [] [] [] (0 ∷ [])))) is
    car_left new (some (car_of 1 0 (at 5 6 0 ∷ []) [] [] [] []))) ∷
    -- "A listing writes residents into a lent slice of records, page and frame, and answers how many; records past
    -- them keep what they held." (RULES 7.1)
    (arc_listed (listed Arc.does Arc.listing (map rec lent) (some some2)) is
    arc_records (Number 2) (some some2) ((1, 11) ∷ (2, 12) ∷ (9, 90) ∷ [])) ∷
    (arc_listed (listed Arc.does Arc.listing (map rec ((7, 70) ∷ (8, 80) ∷ [])) (some some2)) is
    arc_records (Number 2) (some some2) ((1, 11) ∷ (2, 12) ∷ [])) ∷
    (arc_listed (listed Arc.does Arc.listing (map rec ((7, 70) ∷ [])) (some some2)) is
    arc_records (Refused 6) (some some2) ((7, 70) ∷ [])) ∷
    (arc_listed (listed Arc.does Arc.listing (map rec lent) none) is arc_records (Refused 3) none lent) ∷
    (car_listed (listed Car.does Car.listing (map rec lent) (some (car_of 2 1 (ref 1 11 1 ∷ at 2 12 0 ∷ []) [] [] [] []))) is
    car_records (Number 2) (some (car_of 2 1 (ref 1 11 1 ∷ at 2 12 0 ∷ []) [] [] [] [])) ((2, 12) ∷ (1, 11) ∷ (9, 90) ∷ [])) ∷
    -- "A batch runs a whole trace and answers the operations done, or the refusal. After it a record of counts that
    -- the caller lends is set to this batch's gets, get hits, updates, new pages, evictions, steps and removals that
    -- found their page" (RULES 7.4, 7.5)
    (car_batched (batched Car.does busy old (some (car_of 1 0 [] [] [] [] (0 ∷ [])))) is
    car_ran (Finished 10) (some (car_of 1 0 (at 7 12 0 ∷ []) [] [] (5 ∷ []) [])) (tallied 2 1 1 3 1 2 1)) ∷
    (arc_batched (batched Arc.does busy old (some (arc_pages 1 0 [] [] [] []))) is
    arc_ran (Finished 10) (some (arc_of 1 0 ((7, 12) ∷ []) [] [] (5 ∷ []))) (tallied 2 1 1 3 1 1 1)) ∷
    (arc_batched (batched Arc.does [] old (some some2)) is
    arc_ran (Finished 0) (some some2) nothing) ∷
    -- "(those before a refusal 4 or 5 counted)" (RULES 7.5), "state after the operations before it"
    (arc_batched (batched Arc.does (3 ∷ 2 ∷ 4 ∷ 7 ∷ 1 ∷ 1 ∷ []) old (some some2)) is
    arc_ran (Stopped 4 3) (some (arc_pages 2 1 [] [] [] [])) (tallied 0 0 0 0 0 0 1)) ∷
    (arc_batched (batched Arc.does (1 ∷ 9 ∷ 2 ∷ 1 ∷ []) old (some some2)) is
    arc_ran (Stopped 5 2) (some some2) (tallied 1 0 0 0 0 0 0)) ∷
    -- the operations done, the refusal (0 for none) and its offset (the end for none), of bytes whose first has the offset 3
    (numbers (map (λ b. b.done) ran ++ map (λ b. b.refusal) ran ++ map (λ b. b.offset) ran) is
    numbers (0 ∷ 2 ∷ 2 ∷ 1 ∷ 0 ∷ 0 ∷ 4 ∷ 5 ∷ 3 ∷ 6 ∷ 5 ∷ 5 ∷ [])) ∷
    -- "3 STATE .. all unchanged" (RULES 3.3)
    (arc_batched (batched Arc.does (4 ∷ []) old none) is arc_ran (Refused 3) none old) ∷
    -- what each answer counts
    (counting (tally (Hit 9 ∷ Miss ∷ Miss ∷ Old 9 ∷ New nobody 0 ∷ New (out 8 9 (ghost first)) 5 ∷ Gone 9 ∷ Gone 9 ∷ Gone 9 ∷ Gone 9 ∷ [])) is counting (tallied 3 1 1 2 1 5 4)) ∷
    (counting (tally (None ∷ Absent ∷ Cleared ∷ See 9 ∷ No ∷ Holds true ∷ Number 9 ∷ Made ∷ Finished 9 ∷ Stopped 9 9 ∷ Refused 9 ∷ [])) is counting nothing) ∷
    (counting (counts 1 2 3 4 5 6 7) is counting old) ∷
    (counting (plus old (tallied 10 20 30 40 50 60 70)) is counting (tallied 11 22 33 44 55 66 77)) ∷
    (counting no_counts is counting nothing) ∷
    (numbers (hits (tallied 1 2 4 8 16 32 64) ∷ []) is numbers (6 ∷ [])) ∷
    []
