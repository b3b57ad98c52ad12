-- Rows of RULES 6: one call on a state, with what it answers and leaves. Assumes nothing.
use mathlib.Core.List.{List, [], ◌∷◌, map}
use mathlib.Core.Bool.{true, false}
use Rattle.rules.specs.State.{first, second}
use Rattle.rules.specs.Calls.{Get, Insert, Remove, Clear, Ask, Peek, Contains, ghost, nobody, out, Hit, Miss, New, Old, None, Gone, Absent, Cleared, See, No, Holds}
use Rattle.rules.specs.Car.{Car, referenced, taken}
use Rattle.rules.specs.Car
use Rattle.rules.proofs.BenchShapes.{Row, ◌is◌, numbers, lists, car_is, car_out, car_of, at, ref, car, car_same, new, rec}

-- full, with ghosts and no bit set; with two slots free
abbrev quiet : Car
quiet = car_of 4 2 (at 1 11 2 ∷ at 2 12 0 ∷ []) (at 3 13 3 ∷ at 4 14 1 ∷ []) (5 ∷ []) (6 ∷ []) []

abbrev roomy : Car
roomy = car_of 5 3 (ref 1 11 2 ∷ at 2 12 0 ∷ []) (at 3 13 3 ∷ []) (5 ∷ 6 ∷ []) (7 ∷ 8 ∷ []) (4 ∷ 1 ∷ [])

abbrev pub car_rows : List Row
car_rows =
    -- "0, 1, 2 and so on after `new` and `clear`" (RULES 6.4)
    (car_is (Car.new 3) is car_is (car_of 3 1 [] [] [] [] (0 ∷ 1 ∷ 2 ∷ []))) ∷
    car roomy Clear Cleared (car_of 5 2 [] [] [] [] (0 ∷ 1 ∷ 2 ∷ 3 ∷ 4 ∷ [])) ∷
    -- "Insert, c = 0: not stored, as ARC." (RULES 6.2)
    car_same (car_of 0 0 [] [] [] [] []) (Insert 1 7) None ∷
    car_same (car_of 0 0 [] [] [] [] []) (Get 1) Miss ∷
    -- "Get or updating insert: set the bit; nothing moves; the update takes the new frame and returns the old one."
    -- (RULES 6.3)
    car quiet (Get 2) (Hit 12) (car_of 4 2 (at 1 11 2 ∷ ref 2 12 0 ∷ []) (at 3 13 3 ∷ at 4 14 1 ∷ []) (5 ∷ []) (6 ∷ []) []) ∷
    car quiet (Get 3) (Hit 13) (car_of 4 2 (at 1 11 2 ∷ at 2 12 0 ∷ []) (ref 3 13 3 ∷ at 4 14 1 ∷ []) (5 ∷ []) (6 ∷ []) []) ∷
    car_same roomy (Get 1) (Hit 11) ∷
    car quiet (Insert 1 7) (Old 11) (car_of 4 2 (ref 1 7 2 ∷ at 2 12 0 ∷ []) (at 3 13 3 ∷ at 4 14 1 ∷ []) (5 ∷ []) (6 ∷ []) []) ∷
    car quiet (Insert 4 7) (Old 14) (car_of 4 2 (at 1 11 2 ∷ at 2 12 0 ∷ []) (at 3 13 3 ∷ ref 4 7 1 ∷ []) (5 ∷ []) (6 ∷ []) []) ∷
    car_same quiet (Get 5) Miss ∷
    car_same quiet (Get 6) Miss ∷
    car_same quiet (Ask (Peek 4)) (See 14) ∷
    car_same quiet (Ask (Peek 5)) No ∷
    car_same quiet (Ask (Contains 1)) (Holds true) ∷
    car_same quiet (Ask (Contains 5)) (Holds false) ∷
    -- "A new page: bit clear, end of its clock, slot from the top of the free stack" (RULES 6.4)
    car roomy (Insert 9 7) new (car_of 5 3 (ref 1 11 2 ∷ at 2 12 0 ∷ at 9 7 4 ∷ []) (at 3 13 3 ∷ []) (5 ∷ 6 ∷ []) (7 ∷ 8 ∷ []) (1 ∷ [])) ∷
    -- "Ghost hits: as ARC's target rule, page removed from the ghost list, replace if full, page into the frequent
    -- clock." (RULES 6.5)
    car roomy (Insert 6 8) new (car_of 5 4 (ref 1 11 2 ∷ at 2 12 0 ∷ []) (at 3 13 3 ∷ at 6 8 4 ∷ []) (5 ∷ []) (7 ∷ 8 ∷ []) (1 ∷ [])) ∷
    car roomy (Insert 7 8) new (car_of 5 2 (ref 1 11 2 ∷ at 2 12 0 ∷ []) (at 3 13 3 ∷ at 7 8 4 ∷ []) (5 ∷ 6 ∷ []) (8 ∷ []) (1 ∷ [])) ∷
    car (car_of 3 2 (at 1 11 2 ∷ at 2 12 0 ∷ at 3 13 1 ∷ []) [] (5 ∷ 6 ∷ []) (7 ∷ []) []) (Insert 5 8) (New (out 1 11 (ghost first)) 1)
    (car_of 3 3 (at 2 12 0 ∷ at 3 13 1 ∷ []) (at 5 8 2 ∷ []) (1 ∷ 6 ∷ []) (7 ∷ []) []) ∷
    car (car_of 3 1 (at 1 11 2 ∷ at 2 12 0 ∷ []) (at 3 13 1 ∷ []) (5 ∷ 6 ∷ []) (7 ∷ []) []) (Insert 5 8) (New (out 3 13 (ghost second)) 1)
    (car_of 3 2 (at 1 11 2 ∷ at 2 12 0 ∷ []) (at 5 8 1 ∷ []) (6 ∷ []) (3 ∷ 7 ∷ []) []) ∷
    car (car_of 3 3 (at 1 11 2 ∷ at 2 12 0 ∷ []) (at 3 13 1 ∷ []) (5 ∷ []) (6 ∷ 7 ∷ []) []) (Insert 7 8) (New (out 1 11 (ghost first)) 1)
    (car_of 3 2 (at 2 12 0 ∷ []) (at 3 13 1 ∷ at 7 8 2 ∷ []) (1 ∷ 5 ∷ []) (6 ∷ []) []) ∷
    car (car_of 3 0 [] (at 1 11 2 ∷ at 2 12 0 ∷ at 3 13 1 ∷ []) (5 ∷ []) (6 ∷ 7 ∷ []) []) (Insert 7 8) (New (out 1 11 (ghost second)) 1)
    (car_of 3 0 [] (at 2 12 0 ∷ at 3 13 1 ∷ at 7 8 2 ∷ []) (5 ∷ []) (1 ∷ 6 ∷ []) []) ∷
    -- "The step of the target is always 1 .. CAR follows the same rule here."
    car (car_of 3 0 [] [] (5 ∷ []) (6 ∷ 7 ∷ 8 ∷ []) (2 ∷ 0 ∷ 1 ∷ [])) (Insert 5 8) new (car_of 3 1 [] (at 5 8 2 ∷ []) [] (6 ∷ 7 ∷ 8 ∷ []) (0 ∷ 1 ∷ [])) ∷
    car (car_of 3 3 [] [] (5 ∷ 6 ∷ 7 ∷ []) (8 ∷ []) (2 ∷ 0 ∷ 1 ∷ [])) (Insert 8 8) new (car_of 3 2 [] (at 8 8 2 ∷ []) (5 ∷ 6 ∷ 7 ∷ []) [] (0 ∷ 1 ∷ [])) ∷
    -- "Miss: replace if full, recent clock. No further ghost trimming." (RULES 6.6)
    car (car_of 3 1 (at 1 11 2 ∷ at 2 12 0 ∷ []) (at 3 13 1 ∷ []) (4 ∷ 5 ∷ []) (7 ∷ 8 ∷ []) []) (Insert 9 7) (New (out 1 11 (ghost first)) 1)
    (car_of 3 1 (at 2 12 0 ∷ at 9 7 2 ∷ []) (at 3 13 1 ∷ []) (1 ∷ 4 ∷ 5 ∷ []) (7 ∷ 8 ∷ []) []) ∷
    car (car_of 3 2 (at 1 11 2 ∷ at 2 12 0 ∷ []) (at 3 13 1 ∷ []) (4 ∷ 5 ∷ 6 ∷ []) (7 ∷ 8 ∷ 9 ∷ []) []) (Insert 10 7) (New (out 3 13 (ghost second)) 1)
    (car_of 3 2 (at 1 11 2 ∷ at 2 12 0 ∷ at 10 7 1 ∷ []) [] (4 ∷ 5 ∷ 6 ∷ []) (3 ∷ 7 ∷ 8 ∷ []) []) ∷
    -- "choose the clock by ARC's test, with recent as T1. Recent and referenced: clear the bit, move to the end of
    -- frequent. Frequent and referenced: clear, move to its own end. Unreferenced: evict, record the page in that
    -- clock's ghost list, done." (RULES 6.7, 6.8, 6.9)
    car (car_of 4 1 (ref 1 11 2 ∷ at 2 12 0 ∷ []) (ref 3 13 3 ∷ ref 4 14 1 ∷ []) [] [] []) (Insert 9 7) (New (out 1 11 (ghost second)) 4)
    (car_of 4 1 (at 2 12 0 ∷ at 9 7 2 ∷ []) (at 3 13 3 ∷ at 4 14 1 ∷ []) [] (1 ∷ []) []) ∷
    car (car_of 4 1 (ref 1 11 2 ∷ ref 2 12 0 ∷ []) (ref 3 13 3 ∷ at 4 14 1 ∷ []) [] [] []) (Insert 9 7) (New (out 4 14 (ghost second)) 3)
    (car_of 4 1 (ref 2 12 0 ∷ at 9 7 1 ∷ []) (at 1 11 2 ∷ at 3 13 3 ∷ []) [] (4 ∷ []) []) ∷
    car (car_of 3 0 (ref 1 11 2 ∷ ref 2 12 0 ∷ ref 3 13 1 ∷ []) [] [] [] []) (Insert 9 7) (New (out 1 11 (ghost second)) 4)
    (car_of 3 0 (at 9 7 2 ∷ []) (at 2 12 0 ∷ at 3 13 1 ∷ []) [] (1 ∷ []) []) ∷
    car (car_of 3 3 (ref 1 11 2 ∷ ref 2 12 0 ∷ []) (ref 3 13 1 ∷ []) (5 ∷ []) (6 ∷ []) []) (Insert 6 7) (New (out 1 11 (ghost second)) 3)
    (car_of 3 2 (ref 2 12 0 ∷ []) (at 3 13 1 ∷ at 6 7 2 ∷ []) (5 ∷ []) (1 ∷ []) []) ∷
    car (car_of 3 2 (ref 1 11 2 ∷ at 2 12 0 ∷ []) (at 3 13 1 ∷ []) (5 ∷ []) (6 ∷ []) []) (Insert 6 7) (New (out 2 12 (ghost first)) 2)
    (car_of 3 1 [] (at 3 13 1 ∷ at 1 11 2 ∷ at 6 7 0 ∷ []) (2 ∷ 5 ∷ []) [] []) ∷
    -- the clocks that the steps of such a sweep stand at; a freed slot goes on top
    (car_out (Car.replace false (car_of 5 1 (ref 1 11 2 ∷ at 2 12 0 ∷ []) (ref 3 13 3 ∷ at 4 14 1 ∷ []) [] [] (4 ∷ []))) is
    car_out (record { victim = out 4 14 (ghost second); trail = first ∷ second ∷ second ∷ []; state = car_of 5 1 (at 2 12 0 ∷ []) (at 1 11 2 ∷ at 3 13 3 ∷ []) [] (4 ∷ []) (1 ∷ 4 ∷ []) })) ∷
    (car_out (Car.replace false (car_of 4 1 (at 1 11 2 ∷ at 2 12 0 ∷ []) (ref 3 13 3 ∷ []) [] [] [])) is
    car_out (record { victim = out 1 11 (ghost first); trail = first ∷ []; state = car_of 4 1 (at 2 12 0 ∷ []) (ref 3 13 3 ∷ []) (1 ∷ []) [] (2 ∷ []) })) ∷
    (car_out (Car.replace true (car_of 1 0 [] [] [] [] (0 ∷ []))) is car_out (record { victim = nobody; trail = []; state = car_of 1 0 [] [] [] [] (0 ∷ []) })) ∷
    -- how many are referenced; how often a slot is taken
    (numbers (referenced (car_of 4 1 (ref 1 11 2 ∷ at 2 12 0 ∷ []) (ref 3 13 3 ∷ ref 4 14 1 ∷ []) [] [] []).lists ∷ []) is numbers (3 ∷ [])) ∷
    (numbers (map (λ k. taken k (car_of 4 1 (at 1 11 2 ∷ at 2 12 0 ∷ []) (at 3 13 2 ∷ at 4 14 2 ∷ at 5 15 1 ∷ []) [] [] (3 ∷ [])).lists) (0 ∷ 1 ∷ 2 ∷ 3 ∷ [])) is
    numbers (1 ∷ 1 ∷ 3 ∷ 0 ∷ [])) ∷
    -- "Remove and clear as ARC; remove pushes the slot." (RULES 6.11)
    car roomy (Remove 2) (Gone 12) (car_of 5 3 (ref 1 11 2 ∷ []) (at 3 13 3 ∷ []) (5 ∷ 6 ∷ []) (7 ∷ 8 ∷ []) (0 ∷ 4 ∷ 1 ∷ [])) ∷
    car roomy (Remove 3) (Gone 13) (car_of 5 3 (ref 1 11 2 ∷ at 2 12 0 ∷ []) [] (5 ∷ 6 ∷ []) (7 ∷ 8 ∷ []) (3 ∷ 4 ∷ 1 ∷ [])) ∷
    car_same roomy (Remove 5) Absent ∷
    car_same roomy (Remove 8) Absent ∷
    -- "CAR by rising slot" (RULES 7.2)
    (lists (Car.listing quiet) is lists (map rec ((2, 12) ∷ (4, 14) ∷ (1, 11) ∷ (3, 13) ∷ []))) ∷
    (lists (Car.listing roomy) is lists (map rec ((2, 12) ∷ (1, 11) ∷ (3, 13) ∷ []))) ∷
    []
