-- THE NUMBERS OF THE REFUSALS (RULES 3). "Paragraph 3.N is refusal N." Assumes nothing.
use Rattle.std.specs.Prelude.{ℕ}
use Rattle.refusals.specs.declared.Refusal.{Refusal}
use Rattle.refusals.specs.declared.Refusal.TheVariants.{Capacity, Area, State, Operation, Number, Room}

-- "1 CAPACITY", "2 AREA", "3 STATE", "4 OPERATION", "5 NUMBER", "6 ROOM"
abbrev pub number_of : Refusal → ℕ
number_of Capacity = 1
number_of Area = 2
number_of State = 3
number_of Operation = 4
number_of Number = 5
number_of Room = 6
