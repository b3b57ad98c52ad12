-- Rows of RULES 2: the tests of a state, on both sides of each limit. proofs/CheckLaws shows that each test is true of
-- the well-formed states and of no others, so that these rows hold the records Sound, Ranged, Obeys and WellFormed too.
-- Assumes nothing.
use mathlib.Core.List.{List, [], ◌∷◌, map}
use mathlib.Core.Bool.{true, false}
use Prim.Native.Nat.{ℕ, ◌-◌, ◌^◌}
use Rattle.rules.specs.State.{seen}
use Rattle.rules.specs.Arc.{Arc}
use Rattle.rules.specs.Car.{Car}
use Rattle.rules.specs.Check.{arc_test, car_test}
use Rattle.rules.proofs.BenchShapes.{Row, ◌is◌, numbers, tests, arc_of, arc_pages, car_of, at, ref}

-- the first is well formed, and the second is not
abbrev arc_limit : Arc → Arc → Row
arc_limit s t = tests (arc_test s ∷ arc_test t ∷ []) is tests (true ∷ false ∷ [])

abbrev car_limit : Car → Car → Row
car_limit s t = tests (car_test s ∷ car_test t ∷ []) is tests (true ∷ false ∷ [])

-- CAR's states with one resident in each clock, or with the clocks empty
abbrev two : ℕ → ℕ → ℕ → ℕ → List ℕ → List ℕ → List ℕ → Car
two x y k l b1 b2 free = car_of 4 2 (at x 0 k ∷ []) (ref y 0 l ∷ []) b1 b2 free

abbrev pub state_rows : List Row
state_rows =
    -- "all pages, resident and ghost, are distinct" (RULES 2.6)
    (tests (map (λ s. arc_test s)
    (arc_pages 4 2 (1 ∷ 2 ∷ []) (3 ∷ 4 ∷ []) (5 ∷ 6 ∷ []) (7 ∷ 8 ∷ []) ∷
    arc_pages 4 2 (1 ∷ 1 ∷ []) (3 ∷ 4 ∷ []) (5 ∷ 6 ∷ []) (7 ∷ 8 ∷ []) ∷
    arc_pages 4 2 (1 ∷ 2 ∷ []) (3 ∷ 3 ∷ []) (5 ∷ 6 ∷ []) (7 ∷ 8 ∷ []) ∷
    arc_pages 4 2 (1 ∷ 2 ∷ []) (3 ∷ 4 ∷ []) (5 ∷ 5 ∷ []) (7 ∷ 8 ∷ []) ∷
    arc_pages 4 2 (1 ∷ 2 ∷ []) (3 ∷ 4 ∷ []) (5 ∷ 6 ∷ []) (7 ∷ 7 ∷ []) ∷
    arc_pages 4 2 (1 ∷ 2 ∷ []) (1 ∷ 4 ∷ []) (5 ∷ 6 ∷ []) (7 ∷ 8 ∷ []) ∷
    arc_pages 4 2 (1 ∷ 2 ∷ []) (3 ∷ 4 ∷ []) (5 ∷ 2 ∷ []) (7 ∷ 8 ∷ []) ∷
    arc_pages 4 2 (1 ∷ 2 ∷ []) (3 ∷ 4 ∷ []) (5 ∷ 6 ∷ []) (1 ∷ 8 ∷ []) ∷
    arc_pages 4 2 (1 ∷ 2 ∷ []) (3 ∷ 4 ∷ []) (3 ∷ 6 ∷ []) (7 ∷ 8 ∷ []) ∷
    arc_pages 4 2 (1 ∷ 2 ∷ []) (3 ∷ 4 ∷ []) (5 ∷ 6 ∷ []) (7 ∷ 4 ∷ []) ∷
    arc_pages 4 2 (1 ∷ 2 ∷ []) (3 ∷ 4 ∷ []) (5 ∷ 6 ∷ []) (6 ∷ 8 ∷ []) ∷ [])) is
    tests (true ∷ false ∷ false ∷ false ∷ false ∷ false ∷ false ∷ false ∷ false ∷ false ∷ false ∷ [])) ∷
    car_limit (two 1 2 0 1 (3 ∷ []) (4 ∷ []) (2 ∷ 3 ∷ [])) (two 1 2 0 1 (3 ∷ []) (1 ∷ []) (2 ∷ 3 ∷ [])) ∷
    -- how often a page stands in the four lists together: 1 in T1, twice in T2 and three times in B1 and B2
    (numbers (map (λ x. seen x (arc_pages 9 2 (1 ∷ 2 ∷ []) (1 ∷ 3 ∷ 1 ∷ []) (1 ∷ 1 ∷ 4 ∷ 1 ∷ []) (5 ∷ 1 ∷ 1 ∷ 1 ∷ []))) (0 ∷ 1 ∷ 2 ∷ 3 ∷ 4 ∷ 5 ∷ [])) is
    numbers (0 ∷ 9 ∷ 1 ∷ 1 ∷ 1 ∷ 1 ∷ [])) ∷
    -- "residents <= c" (RULES 2.6)
    arc_limit (arc_pages 2 1 (1 ∷ []) (2 ∷ []) [] []) (arc_pages 2 1 (1 ∷ []) (2 ∷ 3 ∷ []) [] []) ∷
    arc_limit (arc_pages 2 1 (1 ∷ 2 ∷ []) [] [] []) (arc_pages 2 1 (1 ∷ 2 ∷ 3 ∷ []) [] [] []) ∷
    -- "each ghost list <= c" (RULES 2.6)
    arc_limit (arc_pages 2 1 [] [] (1 ∷ 2 ∷ []) []) (arc_pages 2 1 [] [] (1 ∷ 2 ∷ 3 ∷ []) []) ∷
    arc_limit (arc_pages 2 1 [] [] [] (1 ∷ 2 ∷ [])) (arc_pages 2 1 [] [] [] (1 ∷ 2 ∷ 3 ∷ [])) ∷
    car_limit (car_of 2 1 [] [] (1 ∷ 2 ∷ []) [] (0 ∷ 1 ∷ [])) (car_of 2 1 [] [] (1 ∷ 2 ∷ 3 ∷ []) [] (0 ∷ 1 ∷ [])) ∷
    -- "0 <= target <= c" (RULES 2.6)
    arc_limit (arc_pages 2 2 [] [] [] []) (arc_pages 2 3 [] [] [] []) ∷
    arc_limit (arc_pages 2 0 [] [] [] []) (arc_pages 0 1 [] [] [] []) ∷
    -- "for ARC also T1+B1 <= c+1" (RULES 2.7)
    arc_limit (arc_pages 2 1 (1 ∷ []) [] (2 ∷ 3 ∷ []) []) (arc_pages 2 1 (1 ∷ 2 ∷ []) [] (3 ∷ 4 ∷ []) []) ∷
    -- "and all four lists together <= 2c+1" (RULES 2.7)
    arc_limit (arc_pages 2 1 (1 ∷ []) (2 ∷ []) (3 ∷ 4 ∷ []) (5 ∷ [])) (arc_pages 2 1 (1 ∷ []) (2 ∷ []) (3 ∷ 4 ∷ []) (5 ∷ 6 ∷ [])) ∷
    (tests (car_test (car_of 2 1 (at 1 0 0 ∷ at 2 0 1 ∷ []) [] (3 ∷ 4 ∷ []) (5 ∷ 6 ∷ []) []) ∷ []) is tests (true ∷ [])) ∷
    -- "for CAR every resident has a slot below c of its own" (RULES 2.8)
    car_limit (two 1 2 3 1 [] [] (2 ∷ 0 ∷ [])) (two 1 2 4 1 [] [] (2 ∷ 0 ∷ [])) ∷
    car_limit (two 1 2 0 3 [] [] (2 ∷ 1 ∷ [])) (two 1 2 0 4 [] [] (2 ∷ 1 ∷ [])) ∷
    car_limit (two 1 2 0 3 [] [] (2 ∷ 1 ∷ [])) (two 1 2 3 3 [] [] (2 ∷ 1 ∷ [])) ∷
    -- "and the free slots are exactly the others, in a stated order" (RULES 2.8): one is missing, stands twice, is
    -- taken, is not below c
    car_limit (two 1 2 0 3 [] [] (1 ∷ 2 ∷ [])) (two 1 2 0 3 [] [] (1 ∷ [])) ∷
    car_limit (two 1 2 0 3 [] [] (1 ∷ 2 ∷ [])) (two 1 2 0 3 [] [] (1 ∷ 2 ∷ 1 ∷ [])) ∷
    car_limit (two 1 2 0 3 [] [] (1 ∷ 2 ∷ [])) (two 1 2 0 3 [] [] (1 ∷ 2 ∷ 0 ∷ [])) ∷
    car_limit (two 1 2 0 3 [] [] (1 ∷ 2 ∷ [])) (two 1 2 0 3 [] [] (1 ∷ 2 ∷ 4 ∷ [])) ∷
    -- "Page: any u64. Frame: any u32. Capacity c: 0 to 1,024" (RULES 1.1)
    arc_limit (arc_pages 2 1 ((2 ^ 64 - 1) ∷ []) [] [] []) (arc_pages 2 1 ((2 ^ 64) ∷ []) [] [] []) ∷
    arc_limit (arc_pages 2 1 [] ((2 ^ 64 - 1) ∷ []) [] []) (arc_pages 2 1 [] ((2 ^ 64) ∷ []) [] []) ∷
    arc_limit (arc_pages 2 1 [] [] ((2 ^ 64 - 1) ∷ []) []) (arc_pages 2 1 [] [] ((2 ^ 64) ∷ []) []) ∷
    arc_limit (arc_pages 2 1 [] [] [] ((2 ^ 64 - 1) ∷ [])) (arc_pages 2 1 [] [] [] ((2 ^ 64) ∷ [])) ∷
    arc_limit (arc_pages 2 1 (1 ∷ (2 ^ 64 - 1) ∷ []) [] [] []) (arc_pages 2 1 (1 ∷ (2 ^ 64) ∷ []) [] [] []) ∷
    arc_limit (arc_of 2 1 ((1, 2 ^ 32 - 1) ∷ []) [] [] []) (arc_of 2 1 ((1, 2 ^ 32) ∷ []) [] [] []) ∷
    arc_limit (arc_of 2 1 [] ((1, 2 ^ 32 - 1) ∷ []) [] []) (arc_of 2 1 [] ((1, 2 ^ 32) ∷ []) [] []) ∷
    car_limit (car_of 1 0 (at 1 (2 ^ 32 - 1) 0 ∷ []) [] [] [] []) (car_of 1 0 (at 1 (2 ^ 32) 0 ∷ []) [] [] [] []) ∷
    arc_limit (arc_pages 1024 512 [] [] [] []) (arc_pages 1025 512 [] [] [] []) ∷
    arc_limit (arc_pages 0 0 [] [] [] []) (arc_pages 0 0 [] [] (1 ∷ []) []) ∷
    []
