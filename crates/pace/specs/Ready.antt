-- What the pieces of a run hand on. Assumes nothing.
use Rattle.std.specs.Prelude.{ℕ, List}
use Rattle.rules.specs.declared.Kind.{Kind}
use Rattle.contracts.specs.Policy.{policy_of}
use Rattle.contracts.specs.Inner.{Good}

-- the words are a writing of a well-formed state of that kind, of capacity c
abbrev pub Ready : Kind → ℕ → List ℕ → Type 0
Ready k c w = Good (policy_of k) c w
