-- EVERY WELL-FORMED STATE HAS A WRITING, reached by calls or not ("Every such state has a writing", RULES 2.10), and no
-- other state has. In order: the writing of a state; of a policy's state; that no other has. Assumes nothing.
use mathlib.Core.Path.{◌≡◌, refl, ap, ◌∙◌}
use mathlib.Core.Bool.{Bool, true, false}
use mathlib.Core.Option.{some}
use Prim.Native.Nat.{ℕ}
use native.Mathlib.Omega.{arith}
use Rattle.rules.specs.Arc as arc
use Rattle.rules.specs.Car as car
use Rattle.rules.specs.Car.{Car}
use Rattle.area.specs.Area.{capacity_of}
use Rattle.state_check.specs.Check.{state_test}
use Rattle.state_check.proofs.State.{writes_read}
use Rattle.contracts.specs.Policy.{Policy, policy_of, state_of}
use Rattle.rules.specs.declared.Kind.{Kind}
use Rattle.rules.specs.declared.Kind.TheVariants as kinds
use Rattle.contracts.proofs.Exact.{Exact, exact_of}
use Rattle.contracts.proofs.Reading.{reads_some, reads_none}
use Rattle.writings.specs.Writings.{Written, HasWriting}
use Rattle.writings.specs.Slotting.{car_of}
use Rattle.writings.proofs.Words.{word_at}
use Rattle.writings.proofs.Building.{kept}
use Rattle.writings.proofs.Laying.{kept_written}
use Rattle.writings.proofs.Slotting.{arc_view, slotted_formed}

-- CAR's states, and ARC's with slots
pub car_written : (s : Car) → car.WellFormed s → Written 2 s
car_written s w = kept_written 2 s (omega arith) (kept s w)

pub arc_written : (a : arc.Arc) → arc.WellFormed a → Written 1 (car_of a)
arc_written a w = kept_written 1 (car_of a) (omega arith) (kept (car_of a) (slotted_formed a w))

module _ (P : Policy) (exact : Exact P) (t : P.State) where
  -- the words read as the policy sees the state that they are a writing of
  seen_as : (s : Car) → P.view s ≡ t → (r : Written P.kind s) → state_of P (capacity_of r.area) r.area ≡ t
  seen_as s q r = ap P.view (writes_read P.kind r.area s r.writes) ∙ q

  written_reads : (s : Car) → P.view s ≡ t → P.WellFormed t → Written P.kind s → HasWriting P t
  written_reads s q w r =
      let pass = exact.complete r.area s r.writes (rw q w) in
      record { state = s; view = q; written = r; read = reads_some P r.area pass ∙ ap some (seen_as s q r) }

  reads_formed : HasWriting P t → P.WellFormed t
  reads_formed h = go (state_test P.kind h.written.area) refl
    where
      go : (b : Bool) → state_test P.kind h.written.area ≡ b → P.WellFormed t
      go true q =
          rw (seen_as h.state h.view h.written) at
          (exact.sound h.written.area (word_at h.written.words) q)
      go false q =
          let a = h.read in
          let b = reads_none P h.written.area q in
          absurd (let z : ◌≡◌ {A = ℕ} 0 1 = cc in let n : ⊥ = omega arith in n)

-- THE THEOREM, by the kind
pub has_writing : (k : Kind) (t : (policy_of k).State) → (policy_of k).WellFormed t → HasWriting (policy_of k) t
has_writing kinds.Arc a w =
    written_reads (policy_of kinds.Arc) (exact_of kinds.Arc) a (car_of a) (arc_view a) w (arc_written a w)
has_writing kinds.Car s w =
    written_reads (policy_of kinds.Car) (exact_of kinds.Car) s s refl w (car_written s w)

-- AND NO OTHER STATE HAS
pub writing_formed : (k : Kind) (t : (policy_of k).State) → HasWriting (policy_of k) t → (policy_of k).WellFormed t
writing_formed k t h = reads_formed (policy_of k) (exact_of k) t h
