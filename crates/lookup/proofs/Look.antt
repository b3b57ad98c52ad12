-- The lookup as a plain search: no answer shows a bucket. In order: the answer that `find` gives; what an answer says; the search of any list of the places held.
-- The answers after each change are in Answers.antt. Assumes nothing.
use Rattle.std.specs.Prelude.{Option, Some, None}
use Rattle.std.proofs.Common.{◌≡◌, ℕ, ◌<◌, ◌≤◌, Bool, true, false, cond, eqb, ltb, ◌⊎◌, List, [], ◌∷◌, get_or, sym, refl, ap, ◌∙◌, inl, inr, ⊎_elim, arith, rules, ltb-false, ltb-true, le-ltb, lt-ltb, eq-eqb, ne_eqb, eqb-true}
use borrow.Author.Tests.{eqb-false}
use Rattle.rings.specs.Members.{Mem}
use Rattle.rings.proofs.Members.{same_or_other}
use Rattle.lookup.specs.Buckets.{bucket_of}
use Rattle.lookup.specs.Part.{page_of}
use Rattle.lookup.specs.Lookup.{Lookup, bucket_in, Held, places_in, find_of, Place, at, none, place_at, look, answered, searched}
use Rattle.lookup.proofs.Table.{home, bucket_held, held_below, find_range, find_held}

-- f is what `find` gave: the answer is f where it is a place that has the page, and otherwise none
pub find_answers : (w : List ℕ) (m k p f : ℕ) → f ≡ find_of w m k p → look w m k p ≡ place_at w m p f
unfolding look
find_answers w m k p f q = ap (place_at w m p) (sym q)

module _ (w : List ℕ) (m k p : ℕ) where
  pub answer_past : (f : ℕ) → f ≡ find_of w m k p → m ≤ f → look w m k p ≡ none
  answer_past f q h = find_answers w m k p f q ∙ simp (le-ltb f m h)

  pub answer_differs : (f : ℕ) → f ≡ find_of w m k p → (page_of w f ≡ p → ⊥) → look w m k p ≡ none
  answer_differs f q n = find_answers w m k p f q ∙ go (ltb f m)
    where
      go : (t : Bool) → cond t (cond (eqb (page_of w f) p) (at f) none) none ≡ none
      go true = rw (ne_eqb (page_of w f) p n) refl
      go false = refl

  pub answer_is : (f : ℕ) → f ≡ find_of w m k p → f < m → page_of w f ≡ p → look w m k p ≡ at f
  answer_is f q h e = find_answers w m k p f q ∙ simp (lt-ltb f m h, eq-eqb (page_of w f) p e)

module _ (w : List ℕ) (m k : ℕ) (t : Lookup w m k) where
  -- WHAT AN ANSWER SAYS: where a held place has the page, the answer is that place; where none has it, none
  pub look_is : (p x : ℕ) → Held w m k x → page_of w x ≡ p → look w m k p ≡ at x
  look_is p x j q = answer_is w m k p x (sym (find_held w m k (bucket_in w m) t p x j q)) (held_below w m k (bucket_in w m) t x j) q

  pub look_none : (p : ℕ) → ((x : ℕ) → Held w m k x → page_of w x ≡ p → ⊥) → look w m k p ≡ none
  look_none p n = go (ltb (find_of w m k p) m) refl
    where
      range : find_of w m k p < m → Held w m k (find_of w m k p)
      range h = ⊎_elim (λ q. absurd (let z : ⊥ = omega arith in z)) (λ j. bucket_held w m k (bucket_in w m) t (bucket_of k p) (find_of w m k p) (home w m k (bucket_in w m) t p) j) (find_range w m k (bucket_in w m) t p (find_of w m k p) refl)

      go : (u : Bool) → ltb (find_of w m k p) m ≡ u → look w m k p ≡ none
      go true q = answer_differs w m k p (find_of w m k p) refl (n (find_of w m k p) (range (ltb-true (find_of w m k p) m q)))
      go false q = answer_past w m k p (find_of w m k p) refl (ltb-false (find_of w m k p) m q)

  -- and one of the two is so
  pub look_cases : (p : ℕ) → ((x : ℕ) × Held w m k x × (page_of w x ≡ p)) ⊎ ((x : ℕ) → Held w m k x → page_of w x ≡ p → ⊥)
  look_cases p = go (places_in w m k)
    where
      go : (xs : List ℕ) → ((x : ℕ) × Mem x xs × (page_of w x ≡ p)) ⊎ ((x : ℕ) → Mem x xs → page_of w x ≡ p → ⊥)
      go [] = inr (λ x j q. j)
      go (x ∷ xs) = one (same_or_other (page_of w x) p) (go xs)
        where
          one : (page_of w x ≡ p) ⊎ (page_of w x ≡ p → ⊥) → ((z : ℕ) × Mem z xs × (page_of w z ≡ p)) ⊎ ((z : ℕ) → Mem z xs → page_of w z ≡ p → ⊥) → ((z : ℕ) × Mem z (x ∷ xs) × (page_of w z ≡ p)) ⊎ ((z : ℕ) → Mem z (x ∷ xs) → page_of w z ≡ p → ⊥)
          one (inl q) r = inl (x, inl refl, q)
          one (inr d) (inl s) = inl (s.0, inr s.1, s.2)
          one (inr d) (inr n) = inr (λ z j q. ⊎_elim (λ e. d (ap (page_of w) (sym e) ∙ q)) (λ i. n z i q) j)

  look_both : (p x : ℕ) → look w m k p ≡ at x → Held w m k x × (page_of w x ≡ p)
  look_both p x e = ⊎_elim (λ s. let q : s.0 ≡ x = cc (look_is p s.0 s.1 s.2) in (rw q at s.1, rw q at s.2)) (λ n. absurd (let z : ◌≡◌ {A = ℕ} 0 1 = cc (look_none p n) in let b : ⊥ = omega arith in b)) (look_cases p)

  pub look_held : (p x : ℕ) → look w m k p ≡ at x → Held w m k x
  look_held p x e = (look_both p x e).0

  pub look_page : (p x : ℕ) → look w m k p ≡ at x → page_of w x ≡ p
  look_page p x e = (look_both p x e).1

  pub look_absent : (p : ℕ) → look w m k p ≡ none → (x : ℕ) → Held w m k x → page_of w x ≡ p → ⊥
  look_absent p e x j q = let z : ◌≡◌ {A = ℕ} 0 1 = cc (look_is p x j q) in omega arith

  -- A PLAIN SEARCH of any list of the places held gives the same
  pub look_searched : (xs : List ℕ) → ((x : ℕ) → Mem x xs → Held w m k x) → ((x : ℕ) → Held w m k x → Mem x xs) → (p : ℕ) → look w m k p ≡ searched w p xs
  look_searched xs all only p = go xs all (λ x j q. only x j)
    where
      go : (ys : List ℕ) → ((x : ℕ) → Mem x ys → Held w m k x) → ((x : ℕ) → Held w m k x → page_of w x ≡ p → Mem x ys) → look w m k p ≡ searched w p ys
      go [] held some = look_none p some
      go (y ∷ ys) held some = one (eqb (page_of w y) p) refl (λ n. go ys (λ x j. held x (inr j)) (λ x j q. ⊎_elim (λ e. absurd (n (ap (page_of w) (sym e) ∙ q))) (λ i. i) (some x j q)))
        where
          one : (u : Bool) → eqb (page_of w y) p ≡ u → ((page_of w y ≡ p → ⊥) → look w m k p ≡ searched w p ys) → look w m k p ≡ cond u (at y) (searched w p ys)
          one true q ih = look_is p y (held y (inl refl)) (eqb-true (page_of w y) p q)
          one false q ih = ih (eqb-false (page_of w y) p q)

  -- an answer as the code gives it, for a caller that asked `place_of`
  pub answer_some : (p : ℕ) (r : Option ℕ) (x : ℕ) → r ≡ answered (look w m k p) → r ≡ Some x → look w m k p ≡ at x
  answer_some p r x q e = go (look w m k p) refl
    where
      go : (a : Place) → look w m k p ≡ a → look w m k p ≡ at x
      go (at y) h = let z : y ≡ x = cc (ap answered h) in h ∙ ap at z
      go none h = absurd (let z : ⊥ = cc (ap answered h) in z)

  pub answer_none : (p : ℕ) (r : Option ℕ) → r ≡ answered (look w m k p) → r ≡ None → look w m k p ≡ none
  answer_none p r q e = go (look w m k p) refl
    where
      go : (a : Place) → look w m k p ≡ a → look w m k p ≡ none
      go (at y) h = absurd (let z : ⊥ = cc (ap answered h) in z)
      go none h = h

-- the needs of `place_of`
module _ (w : List ℕ) (m k p f : ℕ) (q : f ≡ find_of w m k p) where
  pub place_past : m ≤ f → None ≡ answered (look w m k p)
  place_past h = ap answered (sym (answer_past w m k p f q h))

  pub place_differs : (get_or w f 0 ≡ p → ⊥) → None ≡ answered (look w m k p)
  place_differs n = ap answered (sym (answer_differs w m k p f q n))

  pub place_there : f < m → get_or w f 0 ≡ p → Some f ≡ answered (look w m k p)
  place_there h e = ap answered (sym (answer_is w m k p f q h e))

pub ruleset laws = (place_past, place_differs, place_there, rules)
