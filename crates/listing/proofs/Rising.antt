-- The taken slots in rising order: the first, the one after a slot, and that each is taken. Assumes nothing.
use mathlib.Core.Path.{◌≡◌, refl, ◌∙◌}
use mathlib.Core.Bool.{Bool, true, false, cond}
use mathlib.Core.Logic.{inl, inr}
use mathlib.Core.List.{◌∷◌}
use Prim.Native.Nat.{ℕ, zero, suc, ◌+◌, ◌<◌}
use native.Mathlib.Nat.{not-suc-le-zero, le_of_suc-le-suc}
use native.Mathlib.Omega.{arith}
use lib.Dec.{ltb}
use lib.ListN.{length, get_or}
use Rattle.rules.specs.State.{Lists}
use Rattle.rules.specs.Car.{Clocked, taken}
use Rattle.rules.proofs.ListLaws.{by_test}
use Rattle.rings.specs.Members.{Mem}
use Rattle.listing.specs.Order.{rising_from, taken_from}

module _ (s : Lists Clocked) where
  pub rising_first : (k n d : ℕ) → d ≡ k + n → get_or (rising_from s k n) 0 d ≡ taken_from s k n
  rising_first k zero d q = omega arith
  rising_first k (suc n) d q = by_test (λ b. get_or (cond b (k ∷ rising_from s (suc k) n) (rising_from s (suc k) n)) 0 d ≡ cond b k (taken_from s (suc k) n)) (ltb 0 (taken k s)) (λ _. refl) (λ _. rising_first (suc k) n d (omega arith))

  -- d is past the last slot, and m the number of slots after e
  pub rising_next : (k n d j e m : ℕ) → d ≡ k + n → d ≡ suc e + m → j < length (rising_from s k n) → get_or (rising_from s k n) j 0 ≡ e → get_or (rising_from s k n) (suc j) d ≡ taken_from s (suc e) m
  rising_next k zero d j e m q z less at = absurd (not-suc-le-zero less)
  rising_next k (suc n) d j e m q z less at = go (ltb 0 (taken k s)) j (λ i h y. rising_next (suc k) n d i e m (omega arith) z h y) less at
    where
      go : (b : Bool) (j : ℕ) → ((i : ℕ) → i < length (rising_from s (suc k) n) → get_or (rising_from s (suc k) n) i 0 ≡ e → get_or (rising_from s (suc k) n) (suc i) d ≡ taken_from s (suc e) m)
          → j < length (cond b (k ∷ rising_from s (suc k) n) (rising_from s (suc k) n)) → get_or (cond b (k ∷ rising_from s (suc k) n) (rising_from s (suc k) n)) j 0 ≡ e
          → get_or (cond b (k ∷ rising_from s (suc k) n) (rising_from s (suc k) n)) (suc j) d ≡ taken_from s (suc e) m
      go true zero on less at = let y : n ≡ m = omega arith in rising_first (suc k) n d (omega arith) ∙ rw (y, at) refl
      go true (suc j) on less at = on j (le_of_suc-le-suc less) at
      go false j on less at = on j less at

  pub rising_taken : (k n e : ℕ) → Mem e (rising_from s k n) → ltb 0 (taken e s) ≡ true
  rising_taken k zero e m = elim m [ ]
  rising_taken k (suc n) e m = go (ltb 0 (taken k s)) refl (rising_taken (suc k) n e) m
    where
      go : (b : Bool) → ltb 0 (taken k s) ≡ b → (Mem e (rising_from s (suc k) n) → ltb 0 (taken e s) ≡ true) → Mem e (cond b (k ∷ rising_from s (suc k) n) (rising_from s (suc k) n)) → ltb 0 (taken e s) ≡ true
      go true y on (inl q) = rw q y
      go true y on (inr j) = on j
      go false y on j = on j
