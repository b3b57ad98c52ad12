-- One call after another on an area, and the parts that the second call meets. In order: the parts by their names; the parts after a call; a call on the lookup after a call.
-- Assumes nothing.
use mathlib.Core.Path.{◌≡◌, refl, ap, ◌∙◌}
use mathlib.Core.List.{List}
use Prim.Native.Nat.{ℕ}
use Rattle.rules.specs.declared.Side.{Side}
use Rattle.rules.specs.declared.Side.TheVariants.{First as first, Second as second}
use Rattle.area_state.specs.Parts.{Parts, ghosts_of, set_lookup}
use Rattle.area.specs.Area.{residents_in, ghosts_in, lookup_in, parts_of, Fit, Became}
use Rattle.area.specs.Stored.{Stored}

-- ---- the parts by their names
pub ghosts_in_lem : (i : Side) (c : ℕ) (w : List ℕ) → ghosts_of i (parts_of c w) ≡ ghosts_in i c w
unfolding parts_of
ghosts_in_lem first c w = refl
ghosts_in_lem second c w = refl

-- ---- after a call
module _ (c : ℕ) (w v : List ℕ) (q : Parts) (b : Became c w v q) where
  pub residents_after_lem : residents_in c v ≡ q.residents
  unfolding parts_of
  residents_after_lem = ap (λ (p : Parts). p.residents) b.parts

  pub lookup_after : lookup_in c v ≡ q.lookup
  unfolding parts_of
  lookup_after = ap (λ (p : Parts). p.lookup) b.parts

  pub fits_after : (A : Type 0) → Stored c w → A → Fit c v A
  fits_after A s a = record { small = s.holds.small; size = rw b.size s.size; can = a }

  pub became_as : (r : Parts) → q ≡ r → Became c w v r
  became_as r e = record { size = b.size; parts = b.parts ∙ e; kind = b.kind; capacity = b.capacity; rest = b.rest }

  pub then : (u : List ℕ) (r : Parts) → Became c v u r → Became c w u r
  then u r d = record { size = d.size ∙ b.size; parts = d.parts; kind = d.kind ∙ b.kind; capacity = d.capacity ∙ b.capacity; rest = d.rest ∙ b.rest }

  -- ---- a call on the lookup
  pub then_lookup : (u : List ℕ) (f : List ℕ → List ℕ) → Became c v u (set_lookup (f (lookup_in c v)) (parts_of c v)) → Became c w u (set_lookup (f q.lookup) q)
  unfolding parts_of
  then_lookup u f d =
      let e = then u (set_lookup (f (lookup_in c v)) (parts_of c v)) d in
      record { size = e.size; parts = e.parts ∙ ap (λ (p : Parts). set_lookup (f p.lookup) p) b.parts; kind = e.kind; capacity = e.capacity; rest = e.rest }
