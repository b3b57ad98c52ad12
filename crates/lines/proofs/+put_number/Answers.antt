use Rattle.std.proofs.Common.{arith}
use Rattle.lines.proofs.Laws.{laws}
use Rattle.lines.proofs.Numbering.{behind_fits}
use Rattle.lines.proofs.+put_number.Goals as goal

pub bounds-out-at : goal.bounds-out-at
bounds-out-at t c = search laws

pub returns-then-n-lt10 : goal.returns-then-n-lt10
returns-then-n-lt10 t c = search laws

pub put_number-place-requires : goal.put_number-place-requires
put_number-place-requires t c = search laws

pub bounds-out-place : goal.bounds-out-place
bounds-out-place t c = search laws

pub overflow_add-result-2 : goal.overflow_add-result-2
overflow_add-result-2 t c = behind_fits _ _ _ _ _ (omega arith) c.requires c.if-n-lt10.false c.put_number-place.ensures

pub returns : goal.returns
returns t c = search laws
