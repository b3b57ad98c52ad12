-- `rings::check` meets its contract: the test of each member is passed by all. Assumes nothing.
use borrow.Author.Rules.{rules}
use Rattle.rings.specs.Walks.{any, ring_test}
use Rattle.rings.proofs.check.Goals as goal

pub returns : goal.returns
unfolding ring_test
returns c = c.walk.ensures any (λ e r h p. search rules)
