-- A lookup that holds exactly the places xs, in any order, by counting. Assumes nothing.
use Rattle.std.proofs.Common.{◌≡◌, ℕ, ◌<◌, List, length}
use Rattle.rings.specs.Members.{Fresh, Distinct}
use Rattle.lookup.specs.Lookup.{Lookup, places_in, Dead, Exactly}
use Rattle.lookup.proofs.Counts.{held_live, live_held, held_count}

-- the others are dead, and as many are held
pub counted_exactly : (w : List ℕ) (m k : ℕ) (xs : List ℕ) → Lookup w m k → ((z : ℕ) → z < m → Fresh z xs → Dead w m z) → length (places_in w m k) ≡ length xs → Exactly w m k xs
counted_exactly w m k xs t dead q = record { table = t; held = live_held w m k t xs dead q; only = held_live w m k t xs dead; dead = dead }

pub exactly_count : (w : List ℕ) (m k : ℕ) (xs : List ℕ) → Exactly w m k xs → Distinct xs → length (places_in w m k) ≡ length xs
exactly_count w m k xs e d = held_count w m k e.table xs e.dead d e.held
