-- Rows of RULES 4 and 5: one call on a state, with what it answers and leaves. The states are written by hand, so that
-- each row stands on one side of a limit. Assumes nothing.
use mathlib.Core.List.{List, [], ◌∷◌, map}
use mathlib.Core.Bool.{true, false}
use Rattle.rules.specs.State.{first, second}
use Rattle.rules.specs.Calls.{Get, Insert, Remove, Clear, Ask, Peek, Contains, ghost, nobody, nowhere, out, Hit, Miss, New, Old, None, Gone, Absent, Cleared, See, No, Holds}
use Rattle.rules.specs.Ghosts.{recorded, record_in, remove_ghost, drop_oldest}
use Rattle.rules.specs.Arc.{Arc}
use Rattle.rules.specs.Arc
use Rattle.rules.proofs.BenchShapes.{Row, ◌is◌, numbers, lists, arc_is, arc_out, arc_of, arc_pages, arc, arc_same, answers, arc_answers, ins, new, to_b1, to_b2, rec}

-- full, with ghosts; T1 the longer, and T2 the longer
abbrev recent : Arc
recent = arc_of 4 2 ((1, 11) ∷ (2, 12) ∷ (3, 13) ∷ []) ((4, 14) ∷ []) (5 ∷ []) (6 ∷ [])

abbrev frequent : Arc
frequent = arc_of 4 2 ((1, 11) ∷ []) ((2, 12) ∷ (3, 13) ∷ (4, 14) ∷ []) (5 ∷ []) (6 ∷ [])

abbrev pub ghost_rows : List Row
ghost_rows =
    -- "Newest first, at most c pages. Recording puts a page at the front; if the list held c, its oldest is dropped;
    -- with c = 0 nothing is kept." (RULES 4.1, 4.2)
    (numbers (recorded 3 9 (5 ∷ 6 ∷ [])) is numbers (9 ∷ 5 ∷ 6 ∷ [])) ∷
    (numbers (recorded 2 9 (5 ∷ 6 ∷ [])) is numbers (9 ∷ 5 ∷ [])) ∷
    (numbers (recorded 0 9 []) is numbers []) ∷
    (arc_is (record_in (ghost first) 9 recent) is
    arc_is (arc_of 4 2 ((1, 11) ∷ (2, 12) ∷ (3, 13) ∷ []) ((4, 14) ∷ []) (9 ∷ 5 ∷ []) (6 ∷ []))) ∷
    (arc_is (record_in (ghost second) 9 recent) is
    arc_is (arc_of 4 2 ((1, 11) ∷ (2, 12) ∷ (3, 13) ∷ []) ((4, 14) ∷ []) (5 ∷ []) (9 ∷ 6 ∷ []))) ∷
    (arc_is (record_in nowhere 9 recent) is arc_is recent) ∷
    -- "Removing an absent page and dropping the oldest of an empty list do nothing." (RULES 4.3)
    (arc_is (remove_ghost first 6 recent) is arc_is recent) ∷
    (arc_is (remove_ghost second 5 recent) is arc_is recent) ∷
    (arc_is (remove_ghost first 6 (arc_pages 4 2 [] [] (5 ∷ 6 ∷ 7 ∷ []) (8 ∷ []))) is arc_is (arc_pages 4 2 [] [] (5 ∷ 7 ∷ []) (8 ∷ []))) ∷
    (arc_is (remove_ghost second 7 (arc_pages 4 2 [] [] (5 ∷ []) (6 ∷ 7 ∷ 8 ∷ []))) is arc_is (arc_pages 4 2 [] [] (5 ∷ []) (6 ∷ 8 ∷ []))) ∷
    (arc_is (remove_ghost first 5 (arc_pages 4 2 [] [] (5 ∷ 0 ∷ []) [])) is arc_is (arc_pages 4 2 [] [] (0 ∷ []) [])) ∷
    (arc_is (drop_oldest first (arc_pages 4 2 [] [] [] (6 ∷ 7 ∷ []))) is arc_is (arc_pages 4 2 [] [] [] (6 ∷ 7 ∷ []))) ∷
    (arc_is (drop_oldest second (arc_pages 4 2 [] [] (5 ∷ []) (6 ∷ 7 ∷ []))) is arc_is (arc_pages 4 2 [] [] (5 ∷ []) (6 ∷ []))) ∷
    []

abbrev pub arc_rows : List Row
arc_rows =
    -- "Lists T1, T2 newest first; ghosts B1, B2; target starts at c/2 rounded down." (RULES 5.1)
    (arc_is (Arc.new 5) is arc_is (arc_pages 5 2 [] [] [] [])) ∷
    -- "Get of a resident: it moves to the front of T2. A miss changes nothing. `peek` and `contains` change nothing."
    -- (RULES 5.2)
    arc recent (Get 2) (Hit 12) (arc_of 4 2 ((1, 11) ∷ (3, 13) ∷ []) ((2, 12) ∷ (4, 14) ∷ []) (5 ∷ []) (6 ∷ [])) ∷
    arc frequent (Get 3) (Hit 13) (arc_of 4 2 ((1, 11) ∷ []) ((3, 13) ∷ (2, 12) ∷ (4, 14) ∷ []) (5 ∷ []) (6 ∷ [])) ∷
    arc_same frequent (Get 5) Miss ∷
    arc_same frequent (Get 6) Miss ∷
    arc_same frequent (Get 9) Miss ∷
    arc_same frequent (Ask (Peek 3)) (See 13) ∷
    arc_same frequent (Ask (Peek 6)) No ∷
    arc_same frequent (Ask (Contains 3)) (Holds true) ∷
    arc_same frequent (Ask (Contains 6)) (Holds false) ∷
    -- "Insert, c = 0: not stored. Resident: new frame, old one returned, front of T2." (RULES 5.3)
    arc_same (arc_of 0 0 [] [] [] []) (Insert 1 7) None ∷
    arc_same (arc_of 0 0 [] [] [] []) (Get 1) Miss ∷
    arc recent (Insert 2 7) (Old 12) (arc_of 4 2 ((1, 11) ∷ (3, 13) ∷ []) ((2, 7) ∷ (4, 14) ∷ []) (5 ∷ []) (6 ∷ [])) ∷
    arc frequent (Insert 4 7) (Old 14) (arc_of 4 2 ((1, 11) ∷ []) ((4, 7) ∷ (2, 12) ∷ (3, 13) ∷ []) (5 ∷ []) (6 ∷ [])) ∷
    (arc_answers 1 (Insert 1 7 ∷ Insert 1 8 ∷ Get 1 ∷ Remove 1 ∷ Remove 1 ∷ []) is
    answers (new ∷ Old 7 ∷ Hit 8 ∷ Gone 8 ∷ Absent ∷ [])) ∷
    -- "In B1: target +1, at most c; the page leaves B1; if residents >= c, replace; the page goes to the front of T2."
    -- (RULES 5.4)
    arc (arc_of 5 2 ((1, 11) ∷ (2, 12) ∷ []) ((3, 13) ∷ (4, 14) ∷ []) (5 ∷ 6 ∷ []) (7 ∷ [])) (Insert 5 8) new
    (arc_of 5 3 ((1, 11) ∷ (2, 12) ∷ []) ((5, 8) ∷ (3, 13) ∷ (4, 14) ∷ []) (6 ∷ []) (7 ∷ [])) ∷
    arc (arc_of 4 2 ((1, 11) ∷ (2, 12) ∷ (3, 13) ∷ []) ((4, 14) ∷ []) (5 ∷ 6 ∷ []) (7 ∷ [])) (Insert 6 8) (New (out 4 14 (ghost second)) 1)
    (arc_of 4 3 ((1, 11) ∷ (2, 12) ∷ (3, 13) ∷ []) ((6, 8) ∷ []) (5 ∷ []) (4 ∷ 7 ∷ [])) ∷
    arc (arc_of 4 1 ((1, 11) ∷ (2, 12) ∷ (3, 13) ∷ []) ((4, 14) ∷ []) (5 ∷ 6 ∷ []) (7 ∷ [])) (Insert 5 8) (New (out 3 13 (ghost first)) 1)
    (arc_of 4 2 ((1, 11) ∷ (2, 12) ∷ []) ((5, 8) ∷ (4, 14) ∷ []) (3 ∷ 6 ∷ []) (7 ∷ [])) ∷
    arc (arc_pages 2 2 (1 ∷ []) (4 ∷ []) (5 ∷ []) []) (ins 5) (to_b2 4 1) (arc_pages 2 2 (1 ∷ []) (5 ∷ []) [] (4 ∷ [])) ∷
    -- "In B2: target -1, at least 0; then likewise, as a "B2 hit"." (RULES 5.5)
    arc (arc_of 5 2 ((1, 11) ∷ (2, 12) ∷ []) ((3, 13) ∷ (4, 14) ∷ []) (5 ∷ []) (6 ∷ 7 ∷ [])) (Insert 6 8) new
    (arc_of 5 1 ((1, 11) ∷ (2, 12) ∷ []) ((6, 8) ∷ (3, 13) ∷ (4, 14) ∷ []) (5 ∷ []) (7 ∷ [])) ∷
    arc (arc_of 4 3 ((1, 11) ∷ (2, 12) ∷ []) ((3, 13) ∷ (4, 14) ∷ []) (5 ∷ []) (6 ∷ 7 ∷ [])) (Insert 7 8) (New (out 2 12 (ghost first)) 1)
    (arc_of 4 2 ((1, 11) ∷ []) ((7, 8) ∷ (3, 13) ∷ (4, 14) ∷ []) (2 ∷ 5 ∷ []) (6 ∷ [])) ∷
    arc (arc_pages 4 4 (1 ∷ 2 ∷ []) (3 ∷ 4 ∷ []) (5 ∷ []) (6 ∷ 7 ∷ [])) (ins 6) (to_b2 4 1)
    (arc_pages 4 3 (1 ∷ 2 ∷ []) (6 ∷ 3 ∷ []) (5 ∷ []) (4 ∷ 7 ∷ [])) ∷
    arc (arc_pages 2 0 [] (1 ∷ 2 ∷ []) [] (6 ∷ 7 ∷ [])) (ins 7) (to_b2 2 1) (arc_pages 2 0 [] (7 ∷ 1 ∷ []) [] (2 ∷ 6 ∷ [])) ∷
    -- "The step of the target is always 1" (RULES 5.11): also where the other ghost list is the longer
    arc (arc_pages 6 2 (1 ∷ []) (2 ∷ []) (3 ∷ []) (4 ∷ 5 ∷ 6 ∷ [])) (ins 3) new (arc_pages 6 3 (1 ∷ []) (3 ∷ 2 ∷ []) [] (4 ∷ 5 ∷ 6 ∷ [])) ∷
    arc (arc_pages 6 4 (1 ∷ []) (2 ∷ []) (3 ∷ 4 ∷ 5 ∷ []) (6 ∷ [])) (ins 6) new (arc_pages 6 3 (1 ∷ []) (6 ∷ 2 ∷ []) (3 ∷ 4 ∷ 5 ∷ []) []) ∷
    -- "In neither: if T1+B1 >= c, drop B1's oldest if any" (RULES 5.6)
    arc (arc_pages 4 2 (1 ∷ 2 ∷ 3 ∷ []) (4 ∷ []) (5 ∷ 6 ∷ []) (7 ∷ [])) (ins 9) (to_b1 3 1)
    (arc_pages 4 2 (9 ∷ 1 ∷ 2 ∷ []) (4 ∷ []) (3 ∷ 5 ∷ []) (7 ∷ [])) ∷
    arc (arc_pages 4 1 (1 ∷ 2 ∷ []) (3 ∷ 4 ∷ []) (5 ∷ 6 ∷ []) (7 ∷ 8 ∷ [])) (ins 9) (to_b1 2 1)
    (arc_pages 4 1 (9 ∷ 1 ∷ []) (3 ∷ 4 ∷ []) (2 ∷ 5 ∷ []) (7 ∷ 8 ∷ [])) ∷
    arc (arc_pages 4 2 (1 ∷ 2 ∷ 3 ∷ 4 ∷ []) [] [] (5 ∷ 6 ∷ 7 ∷ 8 ∷ [])) (ins 9) (to_b1 4 1)
    (arc_pages 4 2 (9 ∷ 1 ∷ 2 ∷ 3 ∷ []) [] (4 ∷ []) (5 ∷ 6 ∷ 7 ∷ 8 ∷ [])) ∷
    arc (arc_pages 4 2 (1 ∷ 2 ∷ []) (3 ∷ []) (5 ∷ 6 ∷ []) []) (ins 9) new (arc_pages 4 2 (9 ∷ 1 ∷ 2 ∷ []) (3 ∷ []) (5 ∷ []) []) ∷
    -- "otherwise, if all four lists total >= 2c, drop B2's oldest" (RULES 5.6)
    arc (arc_pages 4 2 (1 ∷ 2 ∷ []) (3 ∷ 4 ∷ []) (5 ∷ []) (6 ∷ 7 ∷ 8 ∷ [])) (ins 9) (to_b2 4 1)
    (arc_pages 4 2 (9 ∷ 1 ∷ 2 ∷ []) (3 ∷ []) (5 ∷ []) (4 ∷ 6 ∷ 7 ∷ [])) ∷
    arc (arc_pages 4 2 (1 ∷ 2 ∷ []) (3 ∷ 4 ∷ []) (5 ∷ []) (6 ∷ 7 ∷ [])) (ins 9) (to_b2 4 1)
    (arc_pages 4 2 (9 ∷ 1 ∷ 2 ∷ []) (3 ∷ []) (5 ∷ []) (4 ∷ 6 ∷ 7 ∷ [])) ∷
    arc (arc_pages 4 2 (1 ∷ []) (2 ∷ 3 ∷ []) (4 ∷ 5 ∷ []) (6 ∷ 7 ∷ 8 ∷ [])) (ins 9) new
    (arc_pages 4 2 (9 ∷ 1 ∷ []) (2 ∷ 3 ∷ []) (4 ∷ 5 ∷ []) (6 ∷ 7 ∷ [])) ∷
    arc (arc_pages 3 1 [] (1 ∷ 2 ∷ []) (3 ∷ 4 ∷ []) (5 ∷ 6 ∷ 7 ∷ [])) (ins 9) new (arc_pages 3 1 (9 ∷ []) (1 ∷ 2 ∷ []) (3 ∷ 4 ∷ []) (5 ∷ 6 ∷ [])) ∷
    -- "Then, if residents >= c, replace. The page goes to the front of T1." (RULES 5.6)
    arc (arc_of 4 1 ((1, 11) ∷ (2, 12) ∷ []) ((3, 13) ∷ []) (5 ∷ []) (6 ∷ [])) (Insert 9 8) new
    (arc_of 4 1 ((9, 8) ∷ (1, 11) ∷ (2, 12) ∷ []) ((3, 13) ∷ []) (5 ∷ []) (6 ∷ [])) ∷
    arc (arc_of 4 1 ((1, 11) ∷ (2, 12) ∷ []) ((3, 13) ∷ (4, 14) ∷ []) (5 ∷ []) (6 ∷ [])) (Insert 9 8) (New (out 2 12 (ghost first)) 1)
    (arc_of 4 1 ((9, 8) ∷ (1, 11) ∷ []) ((3, 13) ∷ (4, 14) ∷ []) (2 ∷ 5 ∷ []) (6 ∷ [])) ∷
    -- "The oldest leaves and is recorded in B1 or B2. One step." (RULES 5.8)
    (arc_out (Arc.replace false recent) is
    arc_out (record { victim = out 3 13 (ghost first); trail = first ∷ []; state = arc_of 4 2 ((1, 11) ∷ (2, 12) ∷ []) ((4, 14) ∷ []) (3 ∷ 5 ∷ []) (6 ∷ []) })) ∷
    (arc_out (Arc.replace false frequent) is
    arc_out (record { victim = out 4 14 (ghost second); trail = second ∷ []; state = arc_of 4 2 ((1, 11) ∷ []) ((2, 12) ∷ (3, 13) ∷ []) (5 ∷ []) (4 ∷ 6 ∷ []) })) ∷
    (arc_out (Arc.replace true (arc_pages 4 2 [] [] [] (6 ∷ []))) is arc_out (record { victim = nobody; trail = []; state = arc_pages 4 2 [] [] [] (6 ∷ []) })) ∷
    -- "Remove: the resident leaves; no ghost is touched. Clear: all lists empty, target c/2." (RULES 5.9, 5.10)
    arc recent (Remove 2) (Gone 12) (arc_of 4 2 ((1, 11) ∷ (3, 13) ∷ []) ((4, 14) ∷ []) (5 ∷ []) (6 ∷ [])) ∷
    arc frequent (Remove 3) (Gone 13) (arc_of 4 2 ((1, 11) ∷ []) ((2, 12) ∷ (4, 14) ∷ []) (5 ∷ []) (6 ∷ [])) ∷
    arc (arc_pages 3 1 (5 ∷ 0 ∷ []) (6 ∷ []) [] []) (Remove 5) (Gone 0) (arc_pages 3 1 (0 ∷ []) (6 ∷ []) [] []) ∷
    arc_same frequent (Remove 5) Absent ∷
    arc_same frequent (Remove 6) Absent ∷
    arc_same frequent (Remove 9) Absent ∷
    arc (arc_of 5 4 ((1, 11) ∷ (2, 12) ∷ []) ((3, 13) ∷ []) (4 ∷ []) (5 ∷ [])) Clear Cleared (arc_pages 5 2 [] [] [] []) ∷
    -- "ARC lists T1 newest to oldest, then T2 the same way" (RULES 7.2)
    (lists (Arc.listing recent) is lists (map rec ((1, 11) ∷ (2, 12) ∷ (3, 13) ∷ (4, 14) ∷ []))) ∷
    (lists (Arc.listing frequent) is lists (map rec ((1, 11) ∷ (2, 12) ∷ (3, 13) ∷ (4, 14) ∷ []))) ∷
    []
