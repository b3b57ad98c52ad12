-- The words of an area from its parts: the header, then the parts one after the other (docs/LAYOUT.md).
-- Assumes nothing.
use Rattle.std.specs.Prelude.{List, ◌∷◌, ◌++◌, ℕ, replicate}
use Rattle.area_state.specs.Parts.{Parts}

-- kind, capacity and target; the hint, on which no answer depends, and the words that are kept for later are 0
unfoldable pub header_of : ℕ → ℕ → ℕ → List ℕ
header_of k c t = k ∷ c ∷ t ∷ replicate 40 0

unfoldable pub laid : ℕ → ℕ → Parts → List ℕ
laid k c p = header_of k c p.target ++ (p.residents ++ (p.ghosts1 ++ (p.ghosts2 ++ p.lookup)))
