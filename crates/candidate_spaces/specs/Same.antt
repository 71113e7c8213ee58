-- The candidates of combinations from one on, as they are compared.
use Rattle.std.specs.Prelude.{Vec, ℕ, zero, suc, ◌≡◌, List, [], ◌∷◌, ◌++◌, Option, MatchOption, cond, drop, length, map, nat_lt}
use Rattle.std.specs.declared.alloc.Global.{Global}
use Rattle.thread_runs.specs.declared.value.Value.{Value}
use Rattle.store_orders.specs.Lists.{lists_of}
use Rattle.store_orders.specs.Combinations.{pairs}
use Rattle.candidate_spaces.specs.Space.{candidates_in, Candidate, Shown, shown_of}
use Rattle.store_orders.specs.declared.combination.Combination.{Combination}
use Rattle.candidate_spaces.specs.declared.same.Candidates.{Candidates}
use Rattle.candidate_spaces.specs.declared.same.Chosen.{Chosen}

-- the pairs of two lists from these indices on; none where the second is past the end
abbrev pub pairs_from : List (List ℕ) → List (List ℕ) → ℕ → ℕ → List (List ℕ × List ℕ)
pairs_from [] ys i j = []
pairs_from (x ∷ xs) ys zero j = map (λ y. (x, y)) (drop j ys) ++ pairs xs ys
pairs_from (x ∷ xs) ys (suc i) j = pairs_from xs ys i j

abbrev pub pairs_left : List (List ℕ) → List (List ℕ) → ℕ → ℕ → List (List ℕ × List ℕ)
pairs_left xs ys i j = cond (nat_lt j (length ys)) (pairs_from xs ys i j) []

abbrev pub candidates_from : List Combination → ℕ → ℕ → List Candidate
candidates_from [] i j = []
candidates_from (c ∷ cs) i j =
    map (λ t. (c, t)) (pairs_left (lists_of c.reads_from.items) c.orders i j) ++ candidates_in cs

-- those that are left
abbrev pub left_in : Candidates → List Candidate
left_in c = candidates_from c.combinations.now c.source c.order

abbrev pub chosen : Chosen → Candidate
chosen c = (c.combination.now, (c.reads_from.now, c.coherence.now))

-- the next candidate is taken from those that are left
abbrev pub IsNextCandidate : Candidates → Candidates → Option Chosen → Type 0
IsNextCandidate old new o =
    MatchOption o (left_in old ≡ []) (λ c. left_in old ≡ chosen c ∷ left_in new)

-- what they show
abbrev pub shown_left : List (Vec (List Value) Global) → Candidates → List Shown
shown_left threads c = map (shown_of threads) (left_in c)
