-- What the answers of a batch count (RULES 7). Assumes nothing.
use Rattle.std.specs.Prelude.{ℕ, ◌+◌, List, [], ◌∷◌}
use Rattle.rules.specs.Calls.{Victim, nobody, out, Answer, Hit, Miss, New, Old, None, Gone, Absent, Cleared, See, No, Holds, Number, Made, Finished, Stopped, Refused}

-- "gets, get hits, updates, new pages, evictions, steps and removals that found their page" (RULES 7.5)
pub record Counts : Type 0 where
  pub gets : ℕ
  pub get_hits : ℕ
  pub updates : ℕ
  pub new_pages : ℕ
  pub evictions : ℕ
  pub steps : ℕ
  pub removals : ℕ

abbrev pub counts : ℕ → ℕ → ℕ → ℕ → ℕ → ℕ → ℕ → Counts
counts g h u n e s r = record { gets = g; get_hits = h; updates = u; new_pages = n; evictions = e; steps = s; removals = r }

abbrev pub no_counts : Counts
no_counts = counts 0 0 0 0 0 0 0

-- how many pages went out
abbrev pub outs : Victim → ℕ
outs nobody = 0
outs (out page frame place) = 1

-- what one answer counts
abbrev pub counted : Answer → Counts
counted (Hit f) = counts 1 1 0 0 0 0 0
counted Miss = counts 1 0 0 0 0 0 0
counted (New v n) = counts 0 0 0 1 (outs v) n 0
counted (Old f) = counts 0 0 1 0 0 0 0
counted None = no_counts
counted (Gone f) = counts 0 0 0 0 0 0 1
counted Absent = no_counts
counted Cleared = no_counts
counted (See f) = no_counts
counted No = no_counts
counted (Holds b) = no_counts
counted (Number n) = no_counts
counted Made = no_counts
counted (Finished n) = no_counts
counted (Stopped r o) = no_counts
counted (Refused r) = no_counts

abbrev pub plus : Counts → Counts → Counts
plus a b = counts (a.gets + b.gets) (a.get_hits + b.get_hits) (a.updates + b.updates) (a.new_pages + b.new_pages) (a.evictions + b.evictions) (a.steps + b.steps) (a.removals + b.removals)

-- the counts of some answers
abbrev pub tally : List Answer → Counts
tally [] = no_counts
tally (a ∷ l) = plus (counted a) (tally l)

-- the hits of demand 3: gets and inserts that found their page resident
abbrev pub hits : Counts → ℕ
hits n = n.get_hits + n.updates
