use native.Mathlib.Omega.{arith}
use Rattle.replay.proofs.Laws.{laws, worn_out}
use Rattle.replay.proofs.replay_all.Goals as goal

pub loop-init : goal.loop-init
loop-init c = search laws

pub turn-s-requires : goal.turn-s-requires
turn-s-requires c = search laws

pub returns-then-not-s : goal.returns-then-not-s
returns-then-not-s c = search laws

pub loop-preserved : goal.loop-preserved
loop-preserved c = search laws

pub returns : goal.returns
returns c = worn_out _ _ _ _ _ _ _ _ c.loop.invariant (omega arith)
