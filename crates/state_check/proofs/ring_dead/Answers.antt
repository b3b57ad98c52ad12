-- `state_check::ring_dead` meets its contract: a walk that asks of each member whether its place is dead. Assumes nothing.
use borrow.Author.Rules.{rules}
use Rattle.state_check.specs.Check.{dead_from, dead_at}
use Rattle.state_check.proofs.Walking.{deads_reach, deads_is}
use Rattle.state_check.proofs.ring_dead.Goals as goal

pub walk-requires-clause-asked : goal.walk-requires-clause-asked
walk-requires-clause-asked c e h = search (deads_reach, rules)

pub returns : goal.returns
unfolding dead_from dead_at
returns c = deads_is _ _ _ _ _ _ _ c.requires _ (c.walk.ensures (dead_from c.args.k.now c.args.c c.args.from) (λ e r h p. search rules))
