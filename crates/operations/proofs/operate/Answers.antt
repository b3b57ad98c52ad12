-- `operations::operate` meets its contract: each operation is the call of its name. Assumes nothing.
use Rattle.operations.proofs.Laws.{did_get, did_insert, did_remove, did_clear, peeked}
use Rattle.operations.proofs.operate.Goals as goal

pub returns-in-Get : goal.returns-in-Get
returns-in-Get c = search did_get

pub returns-in-Insert : goal.returns-in-Insert
returns-in-Insert c = search did_insert

pub returns-in-Remove : goal.returns-in-Remove
returns-in-Remove c = search did_remove

pub returns-in-Clear : goal.returns-in-Clear
returns-in-Clear c = search did_clear

pub returns-in-Peek : goal.returns-in-Peek
returns-in-Peek c = search peeked
