-- EACH MAP FROM AN ANSWER OF THE CODE TO THE RULES' ANSWERS IS ONE TO ONE (specs/Answers), refusals included: what settles
-- the rules' answer settles the code's. None of this is about `reply_is`, which puts the answers of all operations
-- together. Assumes nothing.
use mathlib.Core.Path.{◌≡◌, refl, sym, ap}
use Rattle.std.specs.Prelude.{ℕ, Bool, ⊤, Option, Some, None, Result, Ok, Err}
use Rattle.refusals.specs.declared.Refusal.{Refusal}
use Rattle.refusals.specs.Refusals.{number_of}
use Rattle.refusals.proofs.OneToOne.{number_one}
use Rattle.rules.specs.Calls as rules
use Rattle.rules.specs.Calls.{Answer}
use Rattle.answers.specs.Answers.{told, got_is, seen_is, held_is, gone_is, cleared_is, made_is, counted_is, place_is, inserted_is}
use Rattle.answers.specs.declared.Place.{Place}
use Rattle.answers.specs.declared.Place.TheVariants as place
use Rattle.answers.specs.declared.Inserted.{Inserted}
use Rattle.answers.specs.declared.Inserted.TheVariants as inserted

module _ {A : Type 0} (is : A → Answer) where
  -- no value is a refusal
  abbrev NoRefusal : Type 0
  NoRefusal = (a : A) (n : ℕ) → is a ≡ rules.Refused n → ⊥

  -- a call that gives one of them, or refuses
  told_one : ((a b : A) → is a ≡ is b → a ≡ b) → NoRefusal → (a b : Result A Refusal) → told is a ≡ told is b → a ≡ b
  told_one one never (Ok a) (Ok b) q = ap Ok (one a b q)
  told_one one never (Ok a) (Err r) q = absurd (never a (number_of r) q)
  told_one one never (Err r) (Ok b) q = absurd (never b (number_of r) (sym q))
  told_one one never (Err r) (Err p) q = ap Err (number_one r p cc)

-- ---- what a call gives
pub frame_one : (a b : Option ℕ) → got_is a ≡ got_is b → a ≡ b
frame_one (Some p) (Some o) q = cc
frame_one (Some p) None q = cc
frame_one None (Some o) q = cc
frame_one None None q = cc

pub see_one : (a b : Option ℕ) → seen_is a ≡ seen_is b → a ≡ b
see_one (Some p) (Some o) q = cc
see_one (Some p) None q = cc
see_one None (Some o) q = cc
see_one None None q = cc

pub leave_one : (a b : Option ℕ) → gone_is a ≡ gone_is b → a ≡ b
leave_one (Some p) (Some o) q = cc
leave_one (Some p) None q = cc
leave_one None (Some o) q = cc
leave_one None None q = cc

pub place_one : (a b : Place) → place_is a ≡ place_is b → a ≡ b
place_one place.B1 place.B1 q = cc
place_one place.B1 place.B2 q = cc
place_one place.B2 place.B1 q = cc
place_one place.B2 place.B2 q = cc

pub enter_one : (a b : Inserted) → inserted_is a ≡ inserted_is b → a ≡ b
enter_one inserted.New inserted.New q = cc
enter_one inserted.New (inserted.Out o g j m) q = cc
enter_one inserted.New (inserted.Old o) q = cc
enter_one inserted.New inserted.None q = cc
enter_one (inserted.Out p f l n) inserted.New q = cc
enter_one (inserted.Out p f l n) (inserted.Out o g j m) q = let e : l ≡ j = place_one l j cc in cc
enter_one (inserted.Out p f l n) (inserted.Old o) q = cc
enter_one (inserted.Out p f l n) inserted.None q = cc
enter_one (inserted.Old p) inserted.New q = cc
enter_one (inserted.Old p) (inserted.Out o g j m) q = cc
enter_one (inserted.Old p) (inserted.Old o) q = cc
enter_one (inserted.Old p) inserted.None q = cc
enter_one inserted.None inserted.New q = cc
enter_one inserted.None (inserted.Out o g j m) q = cc
enter_one inserted.None (inserted.Old o) q = cc
enter_one inserted.None inserted.None q = cc

-- ---- what a public call tells
pub got_one : (a b : Result (Option ℕ) Refusal) → told got_is a ≡ told got_is b → a ≡ b
got_one = told_one got_is frame_one never where
  never : NoRefusal got_is
  never (Some f) n q = cc
  never None n q = cc

pub seen_one : (a b : Result (Option ℕ) Refusal) → told seen_is a ≡ told seen_is b → a ≡ b
seen_one = told_one seen_is see_one never where
  never : NoRefusal seen_is
  never (Some f) n q = cc
  never None n q = cc

pub held_one : (a b : Result Bool Refusal) → told held_is a ≡ told held_is b → a ≡ b
held_one = told_one held_is (λ a b q. cc) (λ a n q. cc)

pub gone_one : (a b : Result (Option ℕ) Refusal) → told gone_is a ≡ told gone_is b → a ≡ b
gone_one = told_one gone_is leave_one never where
  never : NoRefusal gone_is
  never (Some f) n q = cc
  never None n q = cc

pub cleared_one : (a b : Result ⊤ Refusal) → told cleared_is a ≡ told cleared_is b → a ≡ b
cleared_one = told_one cleared_is (λ a b q. refl) (λ a n q. cc)

pub made_one : (a b : Result ⊤ Refusal) → told made_is a ≡ told made_is b → a ≡ b
made_one = told_one made_is (λ a b q. refl) (λ a n q. cc)

pub counted_one : (a b : Result ℕ Refusal) → told counted_is a ≡ told counted_is b → a ≡ b
counted_one = told_one counted_is (λ a b q. cc) (λ a n q. cc)

pub inserted_one : (a b : Result Inserted Refusal) → told inserted_is a ≡ told inserted_is b → a ≡ b
inserted_one = told_one inserted_is enter_one never where
  never : NoRefusal inserted_is
  never inserted.New n q = cc
  never (inserted.Out p f l m) n q = cc
  never (inserted.Old f) n q = cc
  never inserted.None n q = cc
