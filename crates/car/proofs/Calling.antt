-- CAR's rules obey the laws that both policies share. Assumes nothing.
use mathlib.Core.Path.{◌≡◌, refl, sym, ap}
use mathlib.Core.List.{◌++◌}
use Prim.Native.Nat.{ℕ}
use borrow.Author.Tests.{eq-eqb, ne_eqb}
use Rattle.rules.specs.Calls.{Place, ghost, nowhere, Old, done}
use Rattle.rules.specs.Stages.{goes_to}
use Rattle.rules.specs.Car.{Car, touched, missed, room_for, admitted, insert_at, got, removed, inserted, does}
use Rattle.rules.proofs.ListLaws.{found_page}
use Rattle.rules.proofs.Closure.{car_call}
use Rattle.rules.proofs.Sweep.{replace_swept}
use Rattle.area_state.specs.States.{resident_at, marked_at, removed_at, entered_at_end, new_resident}
use Rattle.contracts.specs.Policy.{car_policy}
use Rattle.stages.specs.Stages.{of_b2, entered}
use Rattle.stages.proofs.Lawful.{Lawful}
use Rattle.car.specs.Insert.{ready, made, stages}
use Rattle.car.proofs.Updating.{marked_framed}

-- the rules' own stages
by_stages : (p : Place) (x f : ℕ) (s : Car) → insert_at p x f s ≡ entered (admitted (goes_to p) x f) (made (of_b2 p) (ready p x s))
unfolding insert_at room_for missed
by_stages (ghost i) x f s = refl
by_stages nowhere x f s = refl

pub lawful : Lawful car_policy stages
unfolding does got removed inserted touched marked_at removed_at admitted entered_at_end new_resident
lawful = record {
  closed = car_call;
  asks = λ q s. refl;
  misses = λ x s q. rw q refl;
  absent = λ x s q. rw q refl;
  clears = λ s. refl;
  hits = λ x e s q. rw q refl;
  removes = λ x e s q k. rw (q, k) refl;
  nothing = λ x f s q. rw (eq-eqb s.lists.c 0 q) refl;
  updates = λ x f e s n q. rw (ne_eqb s.lists.c 0 n, q, sym (found_page x (s.lists.T1 ++ s.lists.T2) (resident_at e s) q)) refl;
  inserts = λ x f p s n q k. rw (ne_eqb s.lists.c 0 n, q, k) (by_stages p x f s);
  frames = λ e f s q. ap (λ (t : Car). done (Old (resident_at e s).frame) t) (marked_framed e f s q);
  returns = λ i x s. refl;
  makes = λ hit s. refl;
  frees = λ hit s t h q x. rw (sym q) ((replace_swept hit s h).fewer x);
  puts = λ i x f s. refl;
}
