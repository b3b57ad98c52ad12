-- The records that `lent` lends. Assumes nothing.
use Rattle.std.specs.Prelude.{List, replicate}
use Rattle.listing.specs.declared.Record.{Record}

abbrev pub seven : Record
seven = record { page = 7; frame = 7 }

unfoldable pub sevens : List Record
sevens = replicate 4 seven
