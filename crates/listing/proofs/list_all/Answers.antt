use Rattle.listing.specs.Outcome.{blanks}
use Rattle.listing.proofs.list_all.Goals as goal

pub returns : goal.returns
unfolding blanks
returns c = c.list-answer.ensures
