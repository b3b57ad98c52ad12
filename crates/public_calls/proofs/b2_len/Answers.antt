-- `public_calls::b2_len` meets its contract. Assumes nothing.
use Rattle.answers.specs.Answers.{counted_is}
use Rattle.contracts.proofs.Exact.{exact_of}
use Rattle.opening.proofs.Public.{opened_good, opened_told}
use Rattle.public_calls.proofs.Laws.{refuses_told}
use Rattle.public_calls.proofs.b2_len.Goals as goal

pub b2_len-requires : goal.b2_len-requires
b2_len-requires c = search (opened_good, exact_of, c.in_ok-c.was)

pub returns-in_err-c : goal.returns-in_err-c
returns-in_err-c c = refuses_told counted_is _ _ _ c.open.ensures _ c.in_err-c.was _ c.from_residual.ensures.1 _

pub returns : goal.returns
returns c = search (opened_told, exact_of, c.in_ok-c.was)
