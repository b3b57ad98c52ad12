-- `residents::count` meets its contract. The counts are the first three words. Assumes nothing.
use Rattle.residents.specs.Residents.{count_of}
use borrow.Author.Rules.{rules}
use Rattle.residents.proofs.count.Goals as goal

pub returns : goal.returns
unfolding count_of
returns c = search rules
