-- `replaying::make` meets its contract. Assumes nothing.
use borrow.Author.Rules.{rules}
use Rattle.replaying.proofs.Headers.{laws, made}
use Rattle.replaying.proofs.make.Goals as goal

pub number-number-requires : goal.number-number-requires
number-number-requires c = search laws

pub new-requires : goal.new-requires
new-requires c = search laws

pub returns : goal.returns
returns c = search laws

pub unwrap-requires : goal.unwrap-requires
unwrap-requires c = rw (made c.args.kind _ _ _ _ _ c.requires c.new.ensures) (search rules)
