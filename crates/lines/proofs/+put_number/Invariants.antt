-- `lines::put_number` meets its contract. The measure is the number: a tenth of it is less. Assumes nothing.
use Rattle.lines.proofs.+put_number.Given as goal

abbrev pub decreases-put_number : goal.decreases-put_number
decreases-put_number l = l.n
