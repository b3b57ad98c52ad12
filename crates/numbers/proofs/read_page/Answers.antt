-- `numbers::read_page` meets its contract: it is the reader of a width, at ten bytes, the tenth at most 1. Assumes nothing.
use native.Mathlib.Omega.{arith}
use Rattle.numbers.specs.Widths.{top}
use Rattle.numbers.proofs.read_page.Goals as goal

pub read_number-requires : goal.read_number-requires
unfolding top
read_number-requires c = record { three = omega arith; some = omega arith; fits = omega arith }
