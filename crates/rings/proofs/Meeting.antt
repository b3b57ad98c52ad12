-- The laws that answer the needs of a walk from both ends, in the shape in which the code leaves them. The walk has come to a from the front and to b from the
-- end, and `left` members are to come between them; `whole` is what the whole test tells. Assumes nothing.
use mathlib.Core.Path.{◌≡◌, refl, sym, ◌∙◌}
use mathlib.Core.Bool.{Bool, true, false, cond}
use mathlib.Core.List.{List}
use Prim.Native.Nat.{ℕ, suc, ◌+◌, ◌-◌, ◌*◌, ◌<◌, ◌≤◌}
use native.Mathlib.Omega.{arith}
use lib.Dec.{eqb}
use borrow.Author.Rules.{rules}
use borrow.Author.Tests.{eq-eqb, ne_eqb, lt-ltb, le-ltb}
use Rattle.cells.specs.Cells.{In, next_of, prev_of}
use Rattle.cells.proofs.Laws.{in_below}
use Rattle.rings.specs.Walks.{joined, ahead, behind, between, CanWalk, CanStep, Tells}
use Rattle.rings.proofs.Walks.{ahead_sound, behind_sound}

-- two cells
module _ (w : List ℕ) (a b x : ℕ) (q : x ≡ next_of w a) where
  pub joins_no : (x ≡ b → ⊥) → eqb x b ≡ joined w a b
  unfolding joined
  joins_no d = ne_eqb x b d ∙ rw (ne_eqb (next_of w a) b (rw q at d)) refl

  pub joins_back : (y : ℕ) → x ≡ b → y ≡ prev_of w b → eqb y a ≡ joined w a b
  unfolding joined
  joins_back y e p = rw (eq-eqb (next_of w a) b (rw q at e), p) refl

-- a step
pub walk_in : (w : List ℕ) (m s x : ℕ) → CanWalk w m s → x < m → In w x
walk_in w m s x can l = let h : m ≤ s = can.high in in_below w s x can.root (omega arith)

pub step_in : (w : List ℕ) (m s a x : ℕ) → CanStep w m s a → x < m → In w x
step_in w m s a x can h = walk_in w m s x can.walk h

module _ (w : List ℕ) (m : ℕ) (T : ℕ → Bool) (a x : ℕ) (q : x ≡ next_of w a) where
  pub leads_out : m ≤ x → false ≡ ahead w m T a
  unfolding ahead
  leads_out h = rw (le-ltb (next_of w a) m (rw q at h)) refl

  module _ (y : ℕ) (h : x < m) (p : y ≡ prev_of w x) where
    pub leads_astray : (y ≡ a → ⊥) → false ≡ ahead w m T a
    unfolding ahead
    leads_astray d = rw (lt-ltb (next_of w a) m (rw q at h), ne_eqb (prev_of w (next_of w a)) a (rw (p, q) at d)) refl

    pub leads_told : (t : Bool) → y ≡ a → t ≡ T x → t ≡ ahead w m T a
    unfolding ahead
    leads_told t e f = rw (lt-ltb (next_of w a) m (rw q at h), eq-eqb (prev_of w (next_of w a)) a (rw (p, q) at e)) (rw q at f)

module _ (w : List ℕ) (m : ℕ) (T : ℕ → Bool) (b y : ℕ) (q : y ≡ prev_of w b) where
  pub trails_out : m ≤ y → false ≡ behind w m T b
  unfolding behind
  trails_out h = rw (le-ltb (prev_of w b) m (rw q at h)) refl

  module _ (x : ℕ) (h : y < m) (p : x ≡ next_of w y) where
    pub trails_astray : (x ≡ b → ⊥) → false ≡ behind w m T b
    unfolding behind
    trails_astray d = rw (lt-ltb (prev_of w b) m (rw q at h), ne_eqb (next_of w (prev_of w b)) b (rw (p, q) at d)) refl

    pub trails_told : (t : Bool) → x ≡ b → t ≡ T y → t ≡ behind w m T b
    unfolding behind
    trails_told t e f = rw (lt-ltb (prev_of w b) m (rw q at h), eq-eqb (next_of w (prev_of w b)) b (rw (p, q) at e)) (rw q at f)

-- the walk
pub record Met (w : List ℕ) (m : ℕ) (T : ℕ → Bool) (whole : Bool) (left a b : ℕ) : Type 0 where
  pub same : between w m T left a b ≡ whole
  pub front : In w a
  pub end : In w b

turned : (w : List ℕ) (m : ℕ) (T : ℕ → Bool) (left rest a b : ℕ) → left ≡ suc (suc rest) → between w m T left a b ≡ cond (ahead w m T a) (cond (behind w m T b) (between w m T rest (next_of w a) (prev_of w b)) false) false
turned w m T left rest a b q = rw q refl

module _ (w : List ℕ) (m : ℕ) (T : ℕ → Bool) (whole : Bool) (left a b : ℕ) (k : Met w m T whole left a b) where
  turn : 1 < left → cond (ahead w m T a) (cond (behind w m T b) (between w m T (left - 2) (next_of w a) (prev_of w b)) false) false ≡ whole
  turn h = sym (turned w m T left (left - 2) a b (omega arith)) ∙ k.same

  pub met_front : (t : Bool) → 1 < left → t ≡ ahead w m T a → t ≡ false → false ≡ whole
  met_front t h q e = sym (rw (sym q ∙ e) refl) ∙ turn h

  pub met_end : (t u : Bool) → 1 < left → t ≡ ahead w m T a → t ≡ true → u ≡ behind w m T b → u ≡ false → false ≡ whole
  met_end t u h q e p f = sym (rw (sym q ∙ e, sym p ∙ f) refl) ∙ turn h

  pub met_turn : (s : ℕ) (t u : Bool) (x y : ℕ) → CanWalk w m s → 1 < left → t ≡ ahead w m T a → t ≡ true → u ≡ behind w m T b → u ≡ true → x ≡ next_of w a → y ≡ prev_of w b → Met w m T whole (left - 2) x y
  met_turn s t u x y can h q e p f v z =
      record {
        same = rw (v, z) (sym (rw (sym q ∙ e, sym p ∙ f) refl) ∙ turn h);
        front = rw v (walk_in w m s (next_of w a) can (ahead_sound w m T a (sym q ∙ e)).member);
        end = rw z (walk_in w m s (prev_of w b) can (behind_sound w m T b (sym p ∙ f)).0);
      }

  pub met_none : (r : Bool) → left ≤ 1 → left ≡ 0 → r ≡ joined w a b → r ≡ whole
  met_none r h e q = q ∙ go e ∙ k.same
    where
      go : left ≡ 0 → joined w a b ≡ between w m T left a b
      go z = rw z refl

  one : left ≤ 1 → (left ≡ 0 → ⊥) → cond (ahead w m T a) (joined w (next_of w a) b) false ≡ whole
  one h d = go (let z : left ≡ 1 = omega arith in z) ∙ k.same
    where
      go : left ≡ 1 → cond (ahead w m T a) (joined w (next_of w a) b) false ≡ between w m T left a b
      go z = rw z refl

  pub met_astray : (t : Bool) → left ≤ 1 → (left ≡ 0 → ⊥) → t ≡ ahead w m T a → t ≡ false → false ≡ whole
  met_astray t h d q e = sym (rw (sym q ∙ e) refl) ∙ one h d

  pub met_one : (t r : Bool) (x : ℕ) → left ≤ 1 → (left ≡ 0 → ⊥) → t ≡ ahead w m T a → t ≡ true → x ≡ next_of w a → r ≡ joined w x b → r ≡ whole
  met_one t r x h d q e v p = p ∙ (rw v (sym (rw (sym q ∙ e) refl))) ∙ one h d

  pub met_last : (s : ℕ) (t : Bool) (x : ℕ) → CanWalk w m s → t ≡ ahead w m T a → t ≡ true → x ≡ next_of w a → In w x
  met_last s t x can q e v = rw v (walk_in w m s (next_of w a) can (ahead_sound w m T a (sym q ∙ e)).member)

-- the walk with a closure, whose answers are P: what lies between a and b is tested as the whole is, by each test that tells what the closure tells
pub record Walked (P : ℕ → Bool → Type 0) (w : List ℕ) (m s n left a b : ℕ) : Type 0 where
  pub front : In w a
  pub end : In w b
  pub rest : (T : ℕ → Bool) → Tells P m T → between w m T left a b ≡ between w m T n s s

module _ (P : ℕ → Bool → Type 0) (w : List ℕ) (m s n left a b : ℕ) (k : Walked P w m s n left a b) where
  met : (T : ℕ → Bool) → Tells P m T → Met w m T (between w m T n s s) left a b
  met T t = record { same = k.rest T t; front = k.front; end = k.end }

  pub walk_none : (r : Bool) → left ≡ 0 → r ≡ joined w a b → (T : ℕ → Bool) → Tells P m T → r ≡ between w m T n s s
  walk_none r e q T t = met_none w m T _ left a b (met T t) r (omega arith) e q

  pub walk_astray : (r : Bool) → left ≡ 1 → r ≡ false → ((T : ℕ → Bool) → Tells P m T → r ≡ ahead w m T a) → (T : ℕ → Bool) → Tells P m T → false ≡ between w m T n s s
  walk_astray r h e f T t = met_astray w m T _ left a b (met T t) r (omega arith) (λ z. omega arith) (f T t) e

  pub walk_one : (r o : Bool) (x : ℕ) → left ≡ 1 → r ≡ true → ((T : ℕ → Bool) → Tells P m T → r ≡ ahead w m T a) → x ≡ next_of w a → o ≡ joined w x b → (T : ℕ → Bool) → Tells P m T → o ≡ between w m T n s s
  walk_one r o x h e f v p T t = met_one w m T _ left a b (met T t) r o x (omega arith) (λ z. omega arith) (f T t) e v p

  pub walk_front : (r : Bool) → 1 < left → r ≡ false → ((T : ℕ → Bool) → Tells P m T → r ≡ ahead w m T a) → (T : ℕ → Bool) → Tells P m T → false ≡ between w m T n s s
  walk_front r h e f T t = met_front w m T _ left a b (met T t) r h (f T t) e

  pub walk_end : (r u : Bool) → 1 < left → r ≡ true → u ≡ false → ((T : ℕ → Bool) → Tells P m T → r ≡ ahead w m T a) → ((T : ℕ → Bool) → Tells P m T → u ≡ behind w m T b) → (T : ℕ → Bool) → Tells P m T → false ≡ between w m T n s s
  walk_end r u h e k f g T t = met_end w m T _ left a b (met T t) r u h (f T t) e (g T t) k

  pub walk_turn : (r u : Bool) (x y : ℕ) → CanWalk w m s → 1 < left → r ≡ true → u ≡ true → next_of w a < m → prev_of w b < m → ((T : ℕ → Bool) → Tells P m T → r ≡ ahead w m T a) → ((T : ℕ → Bool) → Tells P m T → u ≡ behind w m T b) → x ≡ next_of w a → y ≡ prev_of w b → Walked P w m s n (left - 2) x y
  walk_turn r u x y can h e k i j f g v z =
      record {
        front = rw v (walk_in w m s (next_of w a) can i);
        end = rw z (walk_in w m s (prev_of w b) can j);
        rest = λ T t. (met_turn w m T _ left a b (met T t) s r u x y can h (f T t) e (g T t) k v z).same;
      }

-- the count of a loop that takes two members at a turn
pub walk_on : (P : ℕ → Bool → Type 0) (w : List ℕ) (m s n k a b : ℕ) → Walked P w m s n (n - 2 * k - 2) a b → Walked P w m s n (n - 2 * (k + 1)) a b
walk_on P w m s n k a b d = let e : n - 2 * k - 2 ≡ n - 2 * (k + 1) = omega arith in rw e at d

pub ruleset laws = (joins_no, joins_back, step_in, leads_out, leads_astray, leads_told, trails_out, trails_astray, trails_told, rules)
