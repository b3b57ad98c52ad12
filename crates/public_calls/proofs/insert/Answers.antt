-- `public_calls::insert` meets its contract. Assumes nothing.
use Rattle.answers.specs.Answers.{inserted_is}
use Rattle.contracts.proofs.Exact.{exact_of}
use Rattle.opening.proofs.Public.{opened_good, opened_call}
use Rattle.public_calls.proofs.Laws.{refuses_call}
use Rattle.public_calls.proofs.insert.Goals as goal

pub insert-requires : goal.insert-requires
insert-requires c = search (opened_good, exact_of, c.in_ok-c.was)

pub returns-in_err-c : goal.returns-in_err-c
returns-in_err-c c = refuses_call inserted_is _ _ _ c.open.ensures _ c.in_err-c.was _ c.from_residual.ensures.1 _

pub returns : goal.returns
returns c = search (opened_call, exact_of, c.in_ok-c.was)
