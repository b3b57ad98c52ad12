-- The ghost lists before a plain miss: the lengths that are tested, the oldest of a list, the trim. Assumes nothing.
use mathlib.Core.Path.{◌≡◌, refl, sym, ◌∙◌}
use mathlib.Core.Bool.{Bool, true, false}
use mathlib.Core.List.{List, [], ◌∷◌}
use Prim.Native.Nat.{ℕ, ◌+◌, ◌*◌, ◌^◌, ◌<◌, ◌≤◌}
use native.Mathlib.Omega.{arith}
use lib.Dec.{leb}
use lib.ListN.{length, length-map}
use borrow.Author.Tests.{le-leb, lt-leb}
use Rattle.rules.specs.Lists.{drop_last}
use Rattle.rules.specs.State.{ghosts, residents, in_all}
use Rattle.rules.specs.declared.Side.{Side}
use Rattle.rules.specs.declared.Side.TheVariants.{First as first, Second as second}
use Rattle.rules.specs.Ghosts.{drop_oldest}
use Rattle.rules.specs.Arc.{trim_by, trimmed}
use Rattle.rules.specs.Car.{Car}
use Rattle.area_state.specs.Parts.{state_of}
use Rattle.area.specs.Stored.{Stored, state_in, Left, plainly, arc_of}
use Rattle.store.specs.Store.{dropped_at}
use Rattle.contracts.specs.Policy.{arc_policy}
use Rattle.stages.specs.Stages.{Stage}
use Rattle.stages.proofs.Finding.{state_c, obeys}
use Rattle.stages.proofs.Staging.{staged, stays, as_stage}
use Rattle.arc.specs.Insert.{arc_in}
use Rattle.arc.proofs.Plain.{dropped_plainly}

no_oldest : (l : List ℕ) → length l ≡ 0 → drop_last l ≡ l
no_oldest [] q = refl
no_oldest (x ∷ l) q = absurd (let z : ⊥ = omega arith in z)

none_dropped : (i : Side) (s : Car) → length (ghosts i s.lists) ≡ 0 → arc_of s ≡ drop_oldest i (arc_of s)
unfolding arc_of
none_dropped first s q = rw (no_oldest s.lists.B1 q) refl
none_dropped second s q = rw (no_oldest s.lists.B2 q) refl

module _ (c : ℕ) (w : List ℕ) (s : Stored c w) where
  -- ---- the lengths
  module _ (r t : ℕ) (p : r ≡ length (state_in c w).lists.T1) (q : t ≡ length (state_in c w).lists.B1) where
    pub l1_fits : r + t < 2 ^ 64
    l1_fits = omega (arith, (obeys c w s).sound.room, (obeys c w s).sound.ghosts1, state_c c w, s.holds.small)

    pub l1_is : r + t ≡ length (arc_in c w).T1 + length (arc_in c w).B1
    unfolding arc_of
    l1_is = rw (p, q, length-map (state_in c w).lists.T1 plainly) refl

  module _ (r t : ℕ) (p : r ≡ residents (state_in c w).lists) (q : t ≡ length (state_in c w).lists.B1) where
    pub total_fits_1 : r + t < 2 ^ 64
    total_fits_1 = omega (arith, (obeys c w s).sound.room, (obeys c w s).sound.ghosts1, state_c c w, s.holds.small)

    pub total_fits : (u : ℕ) → u ≡ length (state_in c w).lists.B2 → r + t + u < 2 ^ 64
    total_fits u z = omega (arith, (obeys c w s).sound.room, (obeys c w s).sound.ghosts1, (obeys c w s).sound.ghosts2, state_c c w, s.holds.small)

    pub total_is : (u : ℕ) → u ≡ length (state_in c w).lists.B2 → r + t + u ≡ in_all (arc_in c w)
    unfolding arc_of
    total_is u z = rw (p, q, z, length-map (state_in c w).lists.T1 plainly, length-map (state_in c w).lists.T2 plainly) refl

  -- ---- the oldest of a ghost list
  module _ (i : Side) (n : ℕ) (q : n ≡ length (ghosts i (state_in c w).lists)) where
    pub lru_none : n ≡ 0 → Stage arc_policy c w w (drop_oldest i (arc_in c w))
    lru_none z = stays arc_policy c w (drop_oldest i (arc_in c w)) s (none_dropped i (state_in c w) (sym q ∙ z))

  pub lru_gone : (i : Side) (v : List ℕ) → Left c w v (dropped_at i (state_in c w)) → Stage arc_policy c w v (drop_oldest i (arc_in c w))
  lru_gone i v l = staged arc_policy c w v (dropped_at i (state_in c w)) (drop_oldest i (arc_in c w)) l (dropped_plainly i (state_in c w))

  -- ---- the trim
  arc_capacity : (arc_in c w).c ≡ c
  unfolding arc_of state_in state_of
  arc_capacity = refl

  module _ (n : ℕ) (p : n ≡ length (arc_in c w).T1 + length (arc_in c w).B1) where
    trim_is : (a b : Bool) → leb c n ≡ a → leb (2 * c) (in_all (arc_in c w)) ≡ b → trimmed (arc_in c w) ≡ trim_by a b (arc_in c w)
    unfolding trimmed
    trim_is a b h k = rw (arc_capacity, sym p, h, k) refl

    pub trim_row : (v : List ℕ) → c ≤ n → Stage arc_policy c w v (drop_oldest first (arc_in c w)) → Stage arc_policy c w v (trimmed (arc_in c w))
    unfolding trim_by
    trim_row v h l = as_stage arc_policy c w v (drop_oldest first (arc_in c w)) (trimmed (arc_in c w)) l (sym (trim_is true (leb (2 * c) (in_all (arc_in c w))) (le-leb c n h) refl))

    module _ (m : ℕ) (q : m ≡ in_all (arc_in c w)) (k : n < c) where
      pub trim_all : (v : List ℕ) → 2 * c ≤ m → Stage arc_policy c w v (drop_oldest second (arc_in c w)) → Stage arc_policy c w v (trimmed (arc_in c w))
      unfolding trim_by
      trim_all v h l = as_stage arc_policy c w v (drop_oldest second (arc_in c w)) (trimmed (arc_in c w)) l (sym (trim_is false true (lt-leb c n k) (le-leb (2 * c) (in_all (arc_in c w)) (rw q at h))))

      pub trim_none : m < 2 * c → Stage arc_policy c w w (trimmed (arc_in c w))
      unfolding trim_by
      trim_none h = stays arc_policy c w (trimmed (arc_in c w)) s (sym (trim_is false false (lt-leb c n k) (lt-leb (2 * c) (in_all (arc_in c w)) (rw q at h))))
