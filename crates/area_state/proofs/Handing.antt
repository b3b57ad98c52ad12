-- The page of a slot goes over to the cell that a ghost list gives, once the page that this cell had has left. Assumes nothing.
use mathlib.Core.Path.{◌≡◌, refl, ◌∙◌}
use mathlib.Core.Bool.{Bool, true, false}
use mathlib.Core.List.{List}
use Prim.Native.Nat.{ℕ, ◌<◌}
use Rattle.lookup.specs.Part.{page_of}
use Rattle.lookup.specs.Lookup.{Lookup, Held, Dead, bucket_in}
use Rattle.lookup.specs.Changes.{renamed, CanRename}
use Rattle.lookup.proofs.Table.{held_below, dead_unheld}
use Rattle.lookup.proofs.Taking.{take_does}
use Rattle.lookup.proofs.Renaming.{can_rename, rename_does}
use Rattle.area_state.specs.Changes.{cleared_for}

-- u is w with the place y held by nobody
pub record Cleared (w u : List ℕ) (m k y : ℕ) : Type 0 where
  pub table : Lookup u m k
  pub gone : Held u m k y → ⊥
  pub stays : (z : ℕ) → (z ≡ y → ⊥) → Held w m k z → Held u m k z
  pub pages : (z : ℕ) → z < m → page_of u z ≡ page_of w z
  pub dead : (z : ℕ) → z < m → Dead w m z → Dead u m z

pub clears : (w : List ℕ) (m k y : ℕ) (t : Bool) → Lookup w m k → (t ≡ true → Held w m k y) → (t ≡ false → Dead w m y) → Cleared w (cleared_for t m y w) m k y
clears w m k y true l held dead = let r = take_does w m k (bucket_in w m) l y (held refl) in record { table = r.table; gone = r.gone; stays = r.stays; pages = r.pages; dead = r.dead }
clears w m k y false l held dead = record { table = l; gone = dead_unheld w m k (bucket_in w m) l y (dead refl); stays = λ z n j. j; pages = λ z h. refl; dead = λ z h d. d }

-- v is w with the page of e at the place y
pub record Handed (w v : List ℕ) (m k e y : ℕ) : Type 0 where
  pub table : Lookup v m k
  pub here : Held v m k y
  pub died : Dead v m e
  pub stays : (z : ℕ) → (z ≡ e → ⊥) → (z ≡ y → ⊥) → Held w m k z → Held v m k z
  pub dead : (z : ℕ) → z < m → (z ≡ y → ⊥) → Dead w m z → Dead v m z
  pub page : page_of v y ≡ page_of w e
  pub pages : (z : ℕ) → z < m → (z ≡ y → ⊥) → page_of v z ≡ page_of w z

module _ (w u : List ℕ) (m k e y : ℕ) (cl : Cleared w u m k y) (has : Held w m k e) (d : e ≡ y → ⊥) (l : y < m) where
  held : Held u m k e
  held = cl.stays e d has

  below : e < m
  below = held_below u m k (bucket_in u m) cl.table e held

  pub hand_asks : CanRename u m e y
  hand_asks = can_rename u m k (bucket_in u m) cl.table e y held l

  pub hands : Handed w (renamed m e y u) m k e y
  hands =
      let r = rename_does u m k (bucket_in u m) cl.table e y held l cl.gone in
      record {
        table = r.table;
        here = r.here;
        died = r.died;
        stays = λ z a b j. r.stays z a (cl.stays z b j);
        dead = λ z h n j. r.dead z h n (cl.dead z h j);
        page = r.page ∙ cl.pages e below;
        pages = λ z h n. r.pages z h n ∙ cl.pages z h;
      }
