-- `ghosts::count` meets its contract. The count is the first word. Assumes nothing.
use Rattle.ghosts.specs.Ghosts.{count_of}
use borrow.Author.Rules.{rules}
use Rattle.ghosts.proofs.count.Goals as goal

pub returns : goal.returns
unfolding count_of
returns c = search rules
