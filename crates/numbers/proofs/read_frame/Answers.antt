-- `numbers::read_frame` meets its contract: the reader of a width, at five bytes, the fifth at most 15, whose values fit 32 bits. Assumes nothing.
use mathlib.Core.Path.{sym, ◌∙◌}
use native.Mathlib.Omega.{arith}
use Rattle.numbers.specs.Widths.{top}
use Rattle.numbers.proofs.Loop.{frame_fits}
use Rattle.numbers.proofs.read_frame.Goals as goal

pub read_number-requires : goal.read_number-requires
unfolding top
read_number-requires c = record { three = omega arith; some = omega arith; fits = omega arith }

pub overflow_cast-result : goal.overflow_cast-result
overflow_cast-result c =
    let n = c.in_ok-n.n in
    frame_fits c.args.s.now n.value n.used (sym c.in_ok-n.was ∙ c.read_number.ensures)
