-- `arc::trim` meets its contract. Assumes nothing.
use Rattle.arc.proofs.Trimming.{trim_row, trim_all, trim_none}
use Rattle.arc.proofs.trim.Goals as goal

pub returns-then-c-l1 : goal.returns-then-c-l1
returns-then-c-l1 c = search trim_row

pub returns-then-d-all : goal.returns-then-d-all
returns-then-d-all c = search trim_all

pub returns : goal.returns
returns c = search trim_none
