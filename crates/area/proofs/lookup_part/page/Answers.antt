use Rattle.area.proofs.Laws.{lookup_cut, length_lookup}
use Rattle.std.proofs.Common.{arith}
use Rattle.area.proofs.lookup_part.page.Goals as goal

pub page_of-requires : goal.page_of-requires
page_of-requires c = let n = length_lookup c.args.c c.args.area.now c.requires.size in rw (lookup_cut _ _ _ c.words.ensures) (omega arith)

pub returns : goal.returns
returns c = rw (lookup_cut _ _ _ c.words.ensures) at c.page_of.ensures
