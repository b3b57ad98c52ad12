-- `lookup_check::check` meets its contract. The loop's invariant: the walks of the buckets below b leave so much of the budget. Assumes nothing.
use Rattle.lookup_check.proofs.Checking.{Checked}
use Rattle.lookup_check.proofs.check.Given as goal

abbrev pub invariant-loop-b : goal.invariant-loop-b
invariant-loop-b l = Checked l.w l.m l.k l.live l.rest l.b
