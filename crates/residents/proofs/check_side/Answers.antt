-- `residents::check_side` meets its contract: a walk that puts each slot to its test. Assumes nothing.
use borrow.Author.Rules.{rules}
use Rattle.residents.specs.Tests.{slot_test}
use Rattle.residents.proofs.Checking.{side_asks, side_is}
use Rattle.residents.proofs.check_side.Goals as goal

pub walk-requires-clause-walk : goal.walk-requires-clause-walk
walk-requires-clause-walk c = side_asks _ _ _ c.requires.0

pub returns : goal.returns
returns c = side_is _ _ _ c.requires.0 _ (c.walk.ensures (slot_test c.args.w.now c.args.c c.args.i) (λ e r h p. search rules))
