use Rattle.lent.specs.Lent.{sevens}
use Rattle.lent.proofs.lent_list.Goals as goal

pub returns : goal.returns
unfolding sevens
returns c = c.list-answer.ensures
