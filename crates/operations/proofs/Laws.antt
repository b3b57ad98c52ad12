-- An operation of a trace as a call, in the shapes of the code. Assumes nothing.
use mathlib.Core.Path.{◌≡◌, refl, sym, subst}
use mathlib.Core.List.{List}
use Rattle.std.specs.Prelude.{Option}
use Prim.Native.Nat.{ℕ}
use borrow.Author.Rules.{rules}
use Rattle.trace.specs.declared.Operation.{Operation}
use Rattle.trace.specs.declared.Operation.TheVariants as operation
use Rattle.rules.specs.Calls.{Call, Get, Insert, Remove, Clear, Ask, Peek, Answer, Cleared}
use Rattle.rules.specs.Batch.{call_of}
use Rattle.answers.specs.Answers.{got_is, seen_is, gone_is, inserted_is, reply_is}
use Rattle.answers.specs.declared.Inserted.{Inserted}
use Rattle.answers.specs.declared.Reply.TheVariants as reply
use Rattle.contracts.specs.Policy.{Policy, policy_of, state_of}
use Rattle.contracts.specs.Inner.{Good, Did, Says}
use Rattle.rules.specs.declared.Kind.{Kind}
use Rattle.contracts.proofs.Exact.{exact_of}

module _ (P : Policy) (c : ℕ) (w v : List ℕ) (op : Operation) where
  -- ---- the call that was made is the operation's
  made : (k : Call) (a : Answer) → call_of op ≡ k → Did P k c w v a → Did P (call_of op) c w v a
  made k a e d = subst (λ (j : Call). Did P j c w v a) (sym e) d

  pub did_get : (x : ℕ) (r : Option ℕ) → op ≡ operation.Get x → Did P (Get x) c w v (got_is r) → Did P (call_of op) c w v (reply_is (reply.Got r))
  did_get x r e d = made (Get x) (got_is r) (rw e refl) d

  pub did_insert : (x f : ℕ) (r : Inserted) → op ≡ operation.Insert x f → Did P (Insert x f) c w v (inserted_is r) → Did P (call_of op) c w v (reply_is (reply.Inserted r))
  did_insert x f r e d = made (Insert x f) (inserted_is r) (rw e refl) d

  pub did_remove : (x : ℕ) (r : Option ℕ) → op ≡ operation.Remove x → Did P (Remove x) c w v (gone_is r) → Did P (call_of op) c w v (reply_is (reply.Gone r))
  did_remove x r e d = made (Remove x) (gone_is r) (rw e refl) d

  pub did_clear : op ≡ operation.Clear → Did P Clear c w v Cleared → Did P (call_of op) c w v (reply_is reply.Cleared)
  did_clear e d = made Clear Cleared (rw e refl) d

-- ---- a peek leaves the area: a question changes nothing
pub peeked : (k : Kind) (c : ℕ) (w : List ℕ) (op : Operation) (x : ℕ) (r : Option ℕ) → op ≡ operation.Peek x → Good (policy_of k) c w → Says (policy_of k) (Peek x) c w (seen_is r)
    → Did (policy_of k) (call_of op) c w w (reply_is (reply.Seen r))
peeked k c w op x r e g s =
    let P : Policy = policy_of k in
    made P c w w op (Ask (Peek x)) (seen_is r) (rw e refl)
    (record { good = g; state = sym ((exact_of k).asks (Peek x) (state_of P c w)); answer = s.answer; size = refl; rest = refl })

pub ruleset laws = (did_get, did_insert, did_remove, did_clear, peeked, rules)
