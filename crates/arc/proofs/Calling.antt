-- ARC's rules obey the laws that both policies share. Assumes nothing.
use mathlib.Core.Path.{◌≡◌, refl, ap}
use mathlib.Core.Bool.{false}
use Prim.Native.Nat.{ℕ}
use native.Mathlib.Omega.{arith}
use borrow.Author.Tests.{eq-eqb, ne_eqb}
use Rattle.rules.specs.State.{seen}
use Rattle.rules.specs.Calls.{Place, ghost, nowhere, Old, done}
use Rattle.rules.specs.Stages.{goes_to}
use Rattle.rules.specs.Arc.{Arc, new, missed, room_for, admitted, insert_at, got, removed, inserted, does}
use Rattle.rules.specs.Car.{new as new_state}
use Rattle.rules.proofs.Closure.{arc_call}
use Rattle.area_state.specs.States.{resident_at}
use Rattle.area.specs.Stored.{arc_of}
use Rattle.contracts.specs.Policy.{arc_policy}
use Rattle.stages.specs.Stages.{of_b2, entered}
use Rattle.stages.proofs.Lawful.{Lawful}
use Rattle.arc.specs.Insert.{ready, made, stages}
use Rattle.arc.proofs.Plain.{here, away, residents_plainly, full_plainly, seen_plainly, asked_plainly, fronted_plainly, removed_plainly, entered_plainly, hit_plainly}
use Rattle.arc.proofs.Updating.{fronted_framed}
use Rattle.arc.proofs.Replacing.{replace_freed}

-- the rules' own stages
by_stages : (p : Place) (x f : ℕ) (s : Arc) → insert_at p x f s ≡ entered (admitted (goes_to p) x f) (made (of_b2 p) (ready p x s))
unfolding insert_at room_for missed
by_stages (ghost i) x f s = refl
by_stages nowhere x f s = refl

pub lawful : Lawful arc_policy stages
unfolding does got removed inserted new new_state arc_of
lawful = record {
  closed = arc_call;
  asks = asked_plainly;
  misses = λ x s q. rw (away x s q) refl;
  absent = λ x s q. rw (away x s q) refl;
  clears = λ s. refl;
  hits = λ x e s q. rw (here x s (resident_at e s) q, fronted_plainly e s) refl;
  removes = λ x e s q k. rw (here x s (resident_at e s) q, removed_plainly e s) refl;
  nothing = λ x f s q. rw (eq-eqb s.lists.c 0 q) refl;
  updates = λ x f e s n q. rw (ne_eqb s.lists.c 0 n, here x s (resident_at e s) q) refl;
  inserts = λ x f p s n q k. rw (ne_eqb s.lists.c 0 n, away x s q, k) (by_stages p x f (arc_of s));
  frames = λ e f s q. ap (λ (t : Arc). done (Old (resident_at e s).frame) t) (fronted_framed e f s q);
  returns = hit_plainly;
  makes = λ hit s. rw (full_plainly s) refl;
  frees = λ hit s t h q x. omega (arith, (replace_freed hit (arc_of s) (rw (residents_plainly s) h)).fewer x, ap (seen x) q, seen_plainly x s, seen_plainly x t);
  puts = λ i x f s. entered_plainly i x f false s;
}
