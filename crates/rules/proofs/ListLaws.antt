-- Laws of the words on lists: how often a number stands in a list, and the list's length.
-- Assumes nothing.
use mathlib.Core.Path.{◌≡◌, refl, sym, subst, ap, ◌∙◌}
use mathlib.Core.List.{List, [], ◌∷◌, ◌++◌, map}
use mathlib.Core.Bool.{Bool, true, false, cond}
use mathlib.Core.Option.{some, none}
use Prim.Native.Nat.{ℕ, zero, suc, ◌+◌, ◌-◌, ◌≤◌}
use native.Mathlib.Omega.{arith}
use lib.Dec.{eqb}
use lib.ListN.{length, take, length-append}
use borrow.Author.Tests.{eqb-true, eqb-false, eq-eqb, ne_eqb}
use Rattle.rules.specs.Lists.{one, times, leave, drop_last, last}
use Rattle.rules.specs.State.{Entry, pages, found, without, changed}

pub by_test : (P : Bool → Type 0) (b : Bool) → (b ≡ true → P true) → (b ≡ false → P false) → P b
by_test P true f g = f refl
by_test P false f g = g refl

-- a number is x, or the test tells it from x
pub either : (P : ℕ → Type 0) (x : ℕ) → P x → ((y : ℕ) → eqb y x ≡ false → P y) → (y : ℕ) → P y
either P x at other y = go (eqb y x) refl
  where
    go : (b : Bool) → eqb y x ≡ b → P y
    go true e = subst P (sym (eqb-true y x e)) at
    go false e = other y e

pub eqb_self : (x : ℕ) → eqb x x ≡ true
eqb_self x = eq-eqb x x refl

pub one_self : (x : ℕ) → one (eqb x x) ≡ 1
one_self x = rw eqb_self

pub one_other : (x y : ℕ) → eqb x y ≡ false → one (eqb x y) ≡ 0
one_other x y e = rw e

pub one_le : (b : Bool) → one b ≤ 1
one_le true = omega arith
one_le false = omega arith

pub eqb_swap : (x y : ℕ) → eqb x y ≡ false → eqb y x ≡ false
eqb_swap x y e = ne_eqb y x (λ q. eqb-false x y e (sym q))

pub times_append : (x : ℕ) (l m : List ℕ) → times x (l ++ m) ≡ times x l + times x m
times_append x [] m = omega arith
times_append x (y ∷ l) m = omega (arith, times_append x l m)

pub times_take : (x n : ℕ) (l : List ℕ) → times x (take n l) ≤ times x l
times_take x zero l = omega arith
times_take x (suc n) [] = omega arith
times_take x (suc n) (y ∷ l) = omega (arith, times_take x n l)

pub times_leave_self : (x : ℕ) (l : List ℕ) → times x (leave x l) ≡ 0
times_leave_self x [] = refl
times_leave_self x (y ∷ l) =
    let h = times_leave_self x l in
    by_test (λ b. times x (cond b (leave x l) (y ∷ leave x l)) ≡ 0) (eqb x y) (λ e. h) (λ e. omega (arith, one_other x y e))

pub times_leave_other : (y x : ℕ) (l : List ℕ) → eqb y x ≡ false → times y (leave x l) ≡ times y l
times_leave_other y x [] n = refl
times_leave_other y x (z ∷ l) n =
    let h = times_leave_other y x l n in
    by_test (λ b. times y (cond b (leave x l) (z ∷ leave x l)) ≡ one (eqb y z) + times y l) (eqb x z)
    (λ e. omega (arith, one_other y z (subst (λ k. eqb y k ≡ false) (eqb-true x z e) n))) (λ e. omega arith)

pub length_leave : (x : ℕ) (l : List ℕ) → length (leave x l) + times x l ≡ length l
length_leave x [] = omega arith
length_leave x (y ∷ l) =
    let h = length_leave x l in
    by_test (λ b. length (cond b (leave x l) (y ∷ leave x l)) + (one b + times x l) ≡ suc (length l)) (eqb x y) (λ e. omega arith) (λ e. omega arith)

-- a list's first elements and its last
pub split_last : {A : Type 0} (l : List A) (e : A) → last l ≡ some e → l ≡ drop_last l ++ e ∷ []
split_last [] e h = let z : ◌≡◌ {A = ℕ} 0 1 = cc in absurd (omega arith)
split_last (x ∷ []) e h = cc
split_last (x ∷ y ∷ l) e h = ap (λ t. x ∷ t) (split_last (y ∷ l) e h)

pub no_last : {A : Type 0} (l : List A) → last l ≡ none → l ≡ []
no_last [] h = refl
no_last (x ∷ []) h = let z : ◌≡◌ {A = ℕ} 0 1 = cc in absurd (omega arith)
no_last (x ∷ y ∷ l) h = let q : y ∷ l ≡ [] = no_last (y ∷ l) h in let z : ◌≡◌ {A = ℕ} 0 1 = cc in absurd (omega arith)

pub length_drop_last : {A : Type 0} (l : List A) → length (drop_last l) ≡ length l - 1
length_drop_last [] = refl
length_drop_last (x ∷ []) = refl
length_drop_last (x ∷ y ∷ l) = omega (arith, length_drop_last (y ∷ l))

pub times_drop_last : (x : ℕ) (l : List ℕ) → times x (drop_last l) ≤ times x l
times_drop_last x [] = omega arith
times_drop_last x (y ∷ []) = omega arith
times_drop_last x (y ∷ z ∷ l) = omega (arith, times_drop_last x (z ∷ l))

module _ {X : Type 0} where
  pub length_pages : (l : List (Entry X)) → length (pages l) ≡ length l
  length_pages [] = refl
  length_pages (e ∷ l) = ap suc (length_pages l)

  pub pages_append : (l m : List (Entry X)) → pages (l ++ m) ≡ pages l ++ pages m
  pages_append [] m = refl
  pages_append (e ∷ l) m = ap (λ t. e.page ∷ t) (pages_append l m)

  pub times_pages_append : (x : ℕ) (l m : List (Entry X)) → times x (pages (l ++ m)) ≡ times x (pages l) + times x (pages m)
  times_pages_append x l m = rw pages_append (times_append x (pages l) (pages m))

  pub pages_without : (x : ℕ) (l : List (Entry X)) → pages (without x l) ≡ leave x (pages l)
  pages_without x [] = refl
  pages_without x (e ∷ l) =
      let h = pages_without x l in
      by_test (λ b. pages (cond b (without x l) (e ∷ without x l)) ≡ cond b (leave x (pages l)) (e.page ∷ leave x (pages l))) (eqb x e.page)
      (λ _. h) (λ _. ap (λ t. e.page ∷ t) h)

  pub length_without : (x : ℕ) (l : List (Entry X)) → length (without x l) + times x (pages l) ≡ length l
  length_without x l = omega (arith, length_leave x (pages l), length_pages l, ap length (pages_without x l), length_pages (without x l))

  pub without_self : (x : ℕ) (l : List (Entry X)) → times x (pages (without x l)) ≡ 0
  without_self x l = rw pages_without (times_leave_self x (pages l))

  pub without_other : (y x : ℕ) (l : List (Entry X)) → eqb y x ≡ false → times y (pages (without x l)) ≡ times y (pages l)
  without_other y x l n = rw pages_without (times_leave_other y x (pages l) n)

  -- a page that is found stands there, and one that is not does not
  pub found_page : (x : ℕ) (l : List (Entry X)) (e : Entry X) → found x l ≡ some e → x ≡ e.page
  found_page x [] e h = let z : ◌≡◌ {A = ℕ} 0 1 = cc in absurd (omega arith)
  found_page x (a ∷ l) e h = go (eqb x a.page) refl h (found_page x l e)
    where
      go : (b : Bool) → eqb x a.page ≡ b → cond b (some a) (found x l) ≡ some e → (found x l ≡ some e → x ≡ e.page) → x ≡ e.page
      go true q k ih = eqb-true x a.page q ∙ (let z : a ≡ e = cc in ap (λ t. t.page) z)
      go false q k ih = ih k

  pub found_times : (x : ℕ) (l : List (Entry X)) (e : Entry X) → found x l ≡ some e → 1 ≤ times x (pages l)
  found_times x [] e h = let z : ◌≡◌ {A = ℕ} 0 1 = cc in absurd (omega arith)
  found_times x (a ∷ l) e h = go (eqb x a.page) h (found_times x l e)
    where
      go : (b : Bool) → cond b (some a) (found x l) ≡ some e → (found x l ≡ some e → 1 ≤ times x (pages l)) → 1 ≤ one b + times x (pages l)
      go true k ih = omega arith
      go false k ih = omega (arith, ih k)

  pub found_none : (x : ℕ) (l : List (Entry X)) → found x l ≡ none → times x (pages l) ≡ 0
  found_none x [] h = refl
  found_none x (a ∷ l) h = go (eqb x a.page) h (found_none x l)
    where
      go : (b : Bool) → cond b (some a) (found x l) ≡ none → (found x l ≡ none → times x (pages l) ≡ 0) → one b + times x (pages l) ≡ 0
      go true k ih = let z : ◌≡◌ {A = ℕ} 0 1 = cc in absurd (omega arith)
      go false k ih = omega (arith, ih k)

  -- m is l with one entry more, of page p
  pub record Plus (p : ℕ) (l m : List (Entry X)) : Type 0 where
    pub longer : length m ≡ length l + 1
    pub more : (y : ℕ) → times y (pages m) ≡ times y (pages l) + one (eqb y p)

  pub cons_plus : (e : Entry X) (l : List (Entry X)) → Plus e.page l (e ∷ l)
  cons_plus e l = record { longer = omega arith; more = λ y. omega arith }

  pub snoc_plus : (l : List (Entry X)) (e : Entry X) → Plus e.page l (l ++ e ∷ [])
  snoc_plus l e = record { longer = omega (arith, length-append l (e ∷ [])); more = λ y. omega (arith, times_pages_append y l (e ∷ [])) }

  pub last_plus : (l : List (Entry X)) (e : Entry X) → last l ≡ some e → Plus e.page (drop_last l) l
  last_plus l e h = subst (λ m. Plus e.page (drop_last l) m) (sym (split_last l e h)) (snoc_plus (drop_last l) e)

  -- an entry is changed where it stands
  pub changed_length : (x : ℕ) (g : Entry X → Entry X) (l : List (Entry X)) → length (changed x g l) ≡ length l
  changed_length x g [] = refl
  changed_length x g (e ∷ l) = ap suc (changed_length x g l)

  pub without_append : (x : ℕ) (l m : List (Entry X)) → without x (l ++ m) ≡ without x l ++ without x m
  without_append x [] m = refl
  without_append x (e ∷ l) m =
      let h = without_append x l m in
      by_test (λ b. cond b (without x (l ++ m)) (e ∷ without x (l ++ m)) ≡ cond b (without x l) (e ∷ without x l) ++ without x m) (eqb x e.page)
      (λ _. h) (λ _. ap (λ t. e ∷ t) h)

  -- an absent page's leaving changes nothing
  pub without_none : (x : ℕ) (l : List (Entry X)) → times x (pages l) ≡ 0 → without x l ≡ l
  without_none x [] h = refl
  without_none x (e ∷ l) h = go (eqb x e.page) h (without_none x l)
    where
      go : (b : Bool) → one b + times x (pages l) ≡ 0 → (times x (pages l) ≡ 0 → without x l ≡ l) → cond b (without x l) (e ∷ without x l) ≡ e ∷ l
      go true k ih = absurd (omega arith)
      go false k ih = ap (λ t. e ∷ t) (ih (omega arith))

-- ---- for any number that an entry has: its page, its frame, its slot
module _ {X : Type 0} (key : Entry X → ℕ) where
  pub times_keys_append : (k : ℕ) (l m : List (Entry X)) → times k (map key (l ++ m)) ≡ times k (map key l) + times k (map key m)
  times_keys_append k [] m = omega arith
  times_keys_append k (e ∷ l) m = omega (arith, times_keys_append k l m)

  -- the entry that is found takes its number with it
  pub key_leaves : (k x : ℕ) (l : List (Entry X)) (e : Entry X) → found x l ≡ some e → times x (pages l) ≤ 1
      → times k (map key l) ≡ times k (map key (without x l)) + one (eqb k (key e))
  key_leaves k x [] e h d = let z : ◌≡◌ {A = ℕ} 0 1 = cc in absurd (omega arith)
  key_leaves k x (a ∷ l) e h d = go (eqb x a.page) h d (key_leaves k x l e)
    where
      go : (b : Bool) → cond b (some a) (found x l) ≡ some e → one b + times x (pages l) ≤ 1
          → (found x l ≡ some e → times x (pages l) ≤ 1 → times k (map key l) ≡ times k (map key (without x l)) + one (eqb k (key e)))
          → one (eqb k (key a)) + times k (map key l) ≡ times k (map key (cond b (without x l) (a ∷ without x l))) + one (eqb k (key e))
      go true q n ih =
          let same : a ≡ e = cc in
          let w = without_none x l (omega arith) in
          omega (arith, ap (λ t. times k (map key t)) w, ap (λ t. one (eqb k (key t))) same)
      go false q n ih = omega (arith, ih q (omega arith))

  pub keys_without : (k x : ℕ) (l : List (Entry X)) → times k (map key (without x l)) ≤ times k (map key l)
  keys_without k x [] = omega arith
  keys_without k x (e ∷ l) =
      let h = keys_without k x l in
      by_test (λ b. times k (map key (cond b (without x l) (e ∷ without x l))) ≤ one (eqb k (key e)) + times k (map key l)) (eqb x e.page) (λ _. omega arith) (λ _. omega arith)

  -- changed where they stand, with that number
  pub changed_keys : (x : ℕ) (g : Entry X → Entry X) (l : List (Entry X)) → ((e : Entry X) → key (g e) ≡ key e) → map key (changed x g l) ≡ map key l
  changed_keys x g [] h = refl
  changed_keys x g (e ∷ l) h =
      let ih = changed_keys x g l h in
      by_test (λ b. key (cond b (g e) e) ∷ map key (changed x g l) ≡ key e ∷ map key l) (eqb x e.page) (λ _. cc (h e)) (λ _. cc)
