-- A part of an area, and the area with a part replaced. Assumes nothing.
use Rattle.std.specs.Prelude.{List, ◌++◌, ℕ, ◌-◌, take, drop}

-- the words a to b of w
unfoldable pub part : ℕ → ℕ → List ℕ → List ℕ
part a b w = take (b - a) (drop a w)

-- w with u in the place of the words a to b
unfoldable pub splice : ℕ → ℕ → List ℕ → List ℕ → List ℕ
splice a b u w = take a w ++ (u ++ drop (b - a) (drop a w))
