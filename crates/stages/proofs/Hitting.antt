-- The ghost hit: the target moves, and the page leaves its ghost list. Assumes nothing.
use mathlib.Core.Path.{◌≡◌, refl, sym, ◌∙◌}
use mathlib.Core.List.{List}
use Prim.Native.Nat.{ℕ, ◌+◌, ◌-◌, ◌<◌, ◌≤◌, min}
use native.Mathlib.Omega.{arith}
use Rattle.rules.specs.declared.Side.{Side}
use Rattle.rules.specs.declared.Side.TheVariants.{First as first, Second as second}
use Rattle.area_state.specs.States.{aimed_at, forgot_at}
use Rattle.area.specs.Area.{target_of}
use Rattle.area.specs.Stored.{Stored, state_in, Left}
use Rattle.stages.specs.Common.{AimIs, hit_at}
use Rattle.stages.proofs.Finding.{state_c, state_target, obeys}
use Rattle.stages.proofs.Staging.{then_left}

aimed_recent : (c t : ℕ) → t < c → t + 1 ≡ min c (t + 1)
aimed_recent c t l = omega arith

aimed_most : (c t : ℕ) → c ≤ t → c ≡ min c (t + 1)
aimed_most c t l = omega arith

module _ (c : ℕ) (w : List ℕ) (s : Stored c w) (t : ℕ) (q : t ≡ target_of w) where
  target_is : (state_in c w).lists.target ≡ t
  target_is = state_target c w ∙ sym q

  low : t ≤ c
  low = omega (arith, (obeys c w s).sound.aim, state_c c w, target_is)

  pub aim_more : (i : Side) → i ≡ first → t < c → AimIs c w i (t + 1)
  aim_more i z l = rw z (record { is = rw (state_c c w, target_is) (aimed_recent c t l); low = omega arith })

  pub aim_most : (i : Side) → i ≡ first → c ≤ t → AimIs c w i c
  aim_most i z l = rw z (record { is = rw (state_c c w, target_is) (aimed_most c t l); low = omega arith })

  pub aim_none : (i : Side) → i ≡ second → t ≡ 0 → AimIs c w i 0
  aim_none i z k = rw z (record { is = rw (target_is, k) refl; low = omega arith })

  pub aim_less : (i : Side) → i ≡ second → (t ≡ 0 → ⊥) → AimIs c w i (t - 1)
  aim_less i z k = rw z (record { is = rw target_is refl; low = omega (arith, low) })

module _ (c : ℕ) (w : List ℕ) (i : Side) (x : ℕ) where
  module _ (t : ℕ) (a : AimIs c w i t) (v : List ℕ) (l : Left c w v (forgot_at i x (state_in c w))) where
    pub hit_left : (u : List ℕ) → Left c v u (aimed_at t (state_in c v)) → Left c w u (hit_at i x (state_in c w))
    unfolding aimed_at forgot_at
    hit_left u d = rw a.is at (then_left c w v u (forgot_at i x (state_in c w)) (aimed_at t) l d)
