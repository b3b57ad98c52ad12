-- A feed wherever the replay stands. In order: offsets that cannot be counted; the cases. Assumes nothing.
use mathlib.Core.Path.{◌≡◌, refl, sym, subst}
use mathlib.Core.Bool.{Bool}
use mathlib.Core.List.{List, []}
use Prim.Native.Nat.{ℕ, ◌-◌, ◌^◌, ◌<◌, ◌≤◌}
use native.Mathlib.Omega.{arith}
use lib.ListN.{length}
use borrow.Author.Rules.{rules}
use Rattle.lines.specs.Lines.{line_room}
use Rattle.replaying.specs.declared.Running as declared
use Rattle.replaying.specs.declared.Replay.{Replay}
use Rattle.replaying.specs.declared.Replay.TheVariants.{Start, Running, Ended}
use Rattle.replaying.specs.Pending.{pending, Ready}
use Rattle.replaying.specs.Feeding.{Feeds}
use Rattle.replaying.specs.Asked.{Begins, Goes, Runs}
use Rattle.replaying.proofs.Beginning.{wrote_nothing}

-- ---- offsets that cannot be counted, and those that can
pub uncountable : (g : declared.Running) (w bytes : List ℕ) (last : Bool) → 18446744073709551615 - g.offset < length bytes → Feeds (Running g) w bytes last Ended w 0 []
uncountable g w bytes last h =
    record {
      inside = omega arith;
      ready = tt;
      moved = omega arith;
      rest = refl;
      told = λ fits rest end. absurd (omega arith);
      progress = λ _ s. absurd (s refl);
    }

pub countable : (g : declared.Running) (w bytes out : List ℕ) → Goes g w out → g.offset < 2 ^ 64 → length bytes ≤ 18446744073709551615 - g.offset → Runs g w bytes out
countable g w bytes out a small h = record { going = a.going; room = a.room; fits = omega arith }

-- ---- the cases
pub starts_asks : (r : Replay) (w out : List ℕ) → r ≡ Start → Ready r w → line_room ≤ length out → Begins w out
starts_asks r w out e ready room = record { words = subst (λ (s : Replay). Ready s w) e ready; room = room }

pub goes_asks : (r : Replay) (g : declared.Running) (w out : List ℕ) → r ≡ Running g → Ready r w → line_room ≤ length out → Goes g w out
goes_asks r g w out e ready room = record { going = subst (λ (s : Replay). Ready s w) e ready; room = room }

pub from_start : (r s : Replay) (w v bytes written : List ℕ) (last : Bool) (used : ℕ) → r ≡ Start → Feeds Start w bytes last s v used written → Feeds r w bytes last s v used written
from_start r s w v bytes written last used e f = subst (λ (q : Replay). Feeds q w bytes last s v used written) (sym e) f

pub from_running : (r s : Replay) (g : declared.Running) (w v bytes written : List ℕ) (last : Bool) (used : ℕ) → r ≡ Running g
    → Feeds (Running g) w bytes last s v used written → Feeds r w bytes last s v used written
from_running r s g w v bytes written last used e f = subst (λ (q : Replay). Feeds q w bytes last s v used written) (sym e) f

nothing_more : (w bytes : List ℕ) (last : Bool) → Feeds Ended w bytes last Ended w 0 []
unfolding pending
nothing_more w bytes last =
    record {
      inside = omega arith;
      ready = tt;
      moved = omega arith;
      rest = refl;
      told = λ fits rest end. refl;
      progress = λ _ s. absurd (s refl);
    }

pub from_ended : (r : Replay) (w bytes : List ℕ) (last : Bool) → r ≡ Ended → Feeds r w bytes last Ended w 0 []
from_ended r w bytes last e = subst (λ (q : Replay). Feeds q w bytes last Ended w 0 []) (sym e) (nothing_more w bytes last)

pub ruleset laws = (uncountable, countable, starts_asks, goes_asks, from_start, from_running, from_ended, wrote_nothing, rules)
