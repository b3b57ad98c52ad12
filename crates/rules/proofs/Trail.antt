-- The sweep step by step: the count of referenced residents that bounds its recursion does not show; it turns at most once.
-- Assumes nothing.
use mathlib.Core.Path.{◌≡◌, refl, ap, ◌∙◌}
use mathlib.Core.List.{List, [], ◌∷◌, ◌++◌}
use mathlib.Core.Bool.{Bool, true, false}
use Prim.Native.Nat.{ℕ, zero, suc}
use native.Mathlib.Omega.{arith}
use lib.ListN.{length, length-append, replicate}
use Rattle.rules.specs.Lists.{one}
use Rattle.rules.specs.State.{Side, first, second, list}
use Rattle.rules.specs.Calls.{Replaced}
use Rattle.rules.specs.Stages.{from_t1, side, turn}
use Rattle.rules.specs.Car.{Resident, with_bit, Car, referenced, at, hand_of, hand, passed, evicted, step_then, step_by, step, last_step, sweep, replace}
use Rattle.rules.specs.Demand3.{TurnsOnce}
use Rattle.rules.proofs.Sweep.{Passed, pass_law, none_marked}

-- ---- a replacement is one step at the hand and then, where that evicted nobody, a replacement
step_one : (b : Bool) (i : Side) (e : Resident) (rest : List Resident) (s : Car) (on : Car → Replaced Car) → one b ≡ 0 → evicted i e rest s ≡ step_by b i e rest on s
unfolding step_by
step_one true i e rest s on h = absurd (omega arith)
step_one false i e rest s on h = refl

last_is : (i : Side) (l : List Resident) (s : Car) (on : Car → Replaced Car) → list i s.lists ≡ l → referenced s.lists ≡ 0 → last_step (hand_of i l) s ≡ step (hand_of i l) on s
unfolding last_step step
last_is i [] s on h r = refl
last_is i (e ∷ rest) s on h r = step_one e.more.bit i e rest s on (none_marked i e rest s.lists h r)

by_is : (b : Bool) (i : Side) (e : Resident) (rest : List Resident) (s : Car) (f g : Car → Replaced Car) → (b ≡ true → f (passed i e rest s) ≡ g (passed i e rest s)) → step_by b i e rest f s ≡ step_by b i e rest g s
unfolding step_by
by_is false i e rest s f g h = refl
by_is true i e rest s f g h = ap (step_then i) (h refl)

step_is : (i : Side) (l : List Resident) (s : Car) (f g : Car → Replaced Car) → list i s.lists ≡ l
    → ((t : Car) → Passed s.lists t.lists → f t ≡ g t) → step (hand_of i l) f s ≡ step (hand_of i l) g s
unfolding step
step_is i [] s f g h k = refl
step_is i (e ∷ rest) s f g h k = by_is e.more.bit i e rest s f g (λ b. k (passed i e rest s) (pass_law i e rest s h b))

sweep_is : (r : ℕ) (hit : Bool) (s : Car) → referenced s.lists ≡ r → sweep r hit s ≡ step (hand hit s.lists) (λ t. replace hit t) s
unfolding sweep replace
sweep_is zero hit s h = last_is (turn hit s.lists) _ s _ refl h
sweep_is (suc r) hit s h =
    step_is (turn hit s.lists) _ s (λ t. sweep r hit t) (λ t. sweep (referenced t.lists) hit t) refl
    (λ t p. let q : r ≡ referenced t.lists = omega (arith, p.one_mark) in ap (λ n. sweep n hit t) q)

pub replace_is : (hit : Bool) (s : Car) → replace hit s ≡ step (hand hit s.lists) (λ t. replace hit t) s
unfolding replace
replace_is hit s = sweep_is (referenced s.lists) hit s refl

-- the two cases, for a loop: what stands at the hand is passed, and the replacement goes on; or it is evicted
pub replace_passes : (hit : Bool) (s : Car) (i : Side) (e : Resident) (rest : List Resident) → hand hit s.lists ≡ at i e rest → e.more.bit ≡ true
    → replace hit s ≡ step_then i (replace hit (passed i e rest s))
unfolding step step_by
replace_passes hit s i e rest h b =
    replace_is hit s ∙ (ap (λ a. step a (λ t. replace hit t) s) h ∙ ap (λ c. step_by c i e rest (λ t. replace hit t) s) b)

pub replace_evicts : (hit : Bool) (s : Car) (i : Side) (e : Resident) (rest : List Resident) → hand hit s.lists ≡ at i e rest → e.more.bit ≡ false
    → replace hit s ≡ evicted i e rest s
unfolding step step_by
replace_evicts hit s i e rest h b =
    replace_is hit s ∙ (ap (λ a. step a (λ t. replace hit t) s) h ∙ ap (λ c. step_by c i e rest (λ t. replace hit t) s) b)

-- ---- from the frequent clock the sweep does not go back
same_turn : (hit : Bool) (e : Resident) (rest : List Resident) (s : Car) → s.lists.T2 ≡ e ∷ rest → turn hit (passed second e rest s).lists ≡ turn hit s.lists
same_turn hit e rest s h =
    let n : length (rest ++ with_bit false e ∷ []) ≡ length s.lists.T2 = omega (arith, length-append rest (with_bit false e ∷ []), ap length h) in
    ap (λ k. side (from_t1 hit s.lists.target (length s.lists.T1) k)) n

-- a trail that stays at the frequent clock
abbrev AllSecond : List Side → Type 0
AllSecond l = l ≡ replicate (length l) second

second_by : (b : Bool) (e : Resident) (rest : List Resident) (s : Car) (on : Car → Replaced Car) → AllSecond (on (passed second e rest s)).trail → AllSecond (step_by b second e rest on s).trail
unfolding step_by
second_by false e rest s on k = refl
second_by true e rest s on k = ap (λ t. second ∷ t) k

second_hand : (i : Side) (l : List Resident) (hit : Bool) (s : Car) (on : Car → Replaced Car) → i ≡ second → list i s.lists ≡ l
    → ((t : Car) → turn hit t.lists ≡ turn hit s.lists → AllSecond (on t).trail) → AllSecond (step (hand_of i l) on s).trail
unfolding step
second_hand i [] hit s on is h k = refl
second_hand first (e ∷ rest) hit s on is h k = let z : ◌≡◌ {A = ℕ} 0 1 = cc in absurd (omega arith)
second_hand second (e ∷ rest) hit s on is h k = second_by e.more.bit e rest s on (k (passed second e rest s) (same_turn hit e rest s h))

second_last : (i : Side) (l : List Resident) (s : Car) → i ≡ second → AllSecond (last_step (hand_of i l) s).trail
unfolding last_step
second_last i [] s is = refl
second_last i (e ∷ rest) s is = ap (λ t. t ∷ []) is

trail_second : (r : ℕ) (hit : Bool) (s : Car) → turn hit s.lists ≡ second → AllSecond (sweep r hit s).trail
unfolding sweep
trail_second zero hit s h = second_last (turn hit s.lists) (list (turn hit s.lists) s.lists) s h
trail_second (suc r) hit s h = second_hand (turn hit s.lists) _ hit s (λ t. sweep r hit t) h refl (λ t q. trail_second r hit t (q ∙ h))

-- ---- at the recent clock: once more
once_by : (b : Bool) (e : Resident) (rest : List Resident) (s : Car) (on : Car → Replaced Car) → TurnsOnce (on (passed first e rest s)).trail → TurnsOnce (step_by b first e rest on s).trail
unfolding step_by
once_by false e rest s on k = (1, 0, refl)
once_by true e rest s on k = (suc k.0, k.1, ap (λ t. first ∷ t) k.2)

once_hand : (i : Side) (l : List Resident) (s : Car) (on : Car → Replaced Car) → ((t : Car) → TurnsOnce (on t).trail) → (i ≡ second → AllSecond (step (hand_of i l) on s).trail)
    → TurnsOnce (step (hand_of i l) on s).trail
unfolding step
once_hand i [] s on k f = (0, 0, refl)
once_hand first (e ∷ rest) s on k f = once_by e.more.bit e rest s on (k (passed first e rest s))
once_hand second (e ∷ rest) s on k f = (0, length (step (at second e rest) on s).trail, f refl)

once_last : (i : Side) (l : List Resident) (s : Car) → TurnsOnce (last_step (hand_of i l) s).trail
unfolding last_step
once_last i [] s = (0, 0, refl)
once_last first (e ∷ rest) s = (1, 0, refl)
once_last second (e ∷ rest) s = (0, 1, refl)

trail_once : (r : ℕ) (hit : Bool) (s : Car) → TurnsOnce (sweep r hit s).trail
unfolding sweep
trail_once zero hit s = once_last (turn hit s.lists) (list (turn hit s.lists) s.lists) s
trail_once (suc r) hit s =
    once_hand (turn hit s.lists) (list (turn hit s.lists) s.lists) s (λ t. sweep r hit t) (λ t. trail_once r hit t) (λ h. trail_second (suc r) hit s h)

-- the steps of a replacement stand first at the recent clock and then at the frequent one
pub turns_once : (hit : Bool) (s : Car) → TurnsOnce (replace hit s).trail
unfolding replace
turns_once hit s = trail_once (referenced s.lists) hit s
