-- The rules' number and values for each case of the code's answers. Assumes nothing.
use Rattle.std.specs.Prelude.{cond, ℕ, eqb, Bool, ⊤, Option, Some, None, Result, Ok, Err}
use Rattle.rules.specs.declared.Side.TheVariants.{First as first, Second as second}
use Rattle.rules.specs.Calls as rules
use Rattle.rules.specs.Calls.{Answer, ghost, nobody, out}
use Rattle.refusals.specs.declared.Refusal.{Refusal}
use Rattle.refusals.specs.Refusals.{number_of}
use Rattle.answers.specs.declared.Place.{Place}
use Rattle.answers.specs.declared.Place.TheVariants as place
use Rattle.answers.specs.declared.Inserted.{Inserted}
use Rattle.answers.specs.declared.Inserted.TheVariants as inserted
use Rattle.answers.specs.declared.Reply.{Reply}
use Rattle.answers.specs.declared.Reply.TheVariants as reply

-- what a public call tells: what it gives, or a refusal, by its number
abbrev pub told : {A : Type 0} → (A → Answer) → Result A Refusal → Answer
told is (Ok a) = is a
told is (Err r) = rules.Refused (number_of r)

abbrev pub got_is : Option ℕ → Answer
got_is (Some f) = rules.Hit f
got_is None = rules.Miss

abbrev pub seen_is : Option ℕ → Answer
seen_is (Some f) = rules.See f
seen_is None = rules.No

abbrev pub held_is : Bool → Answer
held_is b = rules.Holds b

abbrev pub gone_is : Option ℕ → Answer
gone_is (Some f) = rules.Gone f
gone_is None = rules.Absent

abbrev pub cleared_is : ⊤ → Answer
cleared_is done = rules.Cleared

abbrev pub made_is : ⊤ → Answer
made_is done = rules.Made

abbrev pub counted_is : ℕ → Answer
counted_is n = rules.Number n

abbrev pub place_is : Place → rules.Place
place_is place.B1 = ghost first
place_is place.B2 = ghost second

abbrev pub inserted_is : Inserted → Answer
inserted_is inserted.New = rules.New nobody 0
inserted_is (inserted.Out p f l n) = rules.New (out p f (place_is l)) n
inserted_is (inserted.Old f) = rules.Old f
inserted_is inserted.None = rules.None

-- the ghost list of the victims of a list: 0 for T1, any other for T2
abbrev pub place_of_list : ℕ → rules.Place
place_of_list i = ghost (cond (eqb i 0) first second)

abbrev pub reply_is : Reply → Answer
reply_is (reply.Got r) = got_is r
reply_is (reply.Inserted r) = inserted_is r
reply_is (reply.Gone r) = gone_is r
reply_is reply.Cleared = rules.Cleared
reply_is (reply.Seen r) = seen_is r
