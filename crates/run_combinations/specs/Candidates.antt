-- The candidates of all combinations of runs, and when there are too many or one holds a fault.
use Rattle.std.specs.Prelude.{ℕ, ◌≡◌, ◌<◌, ◌≤◌, ◌+◌, ◌*◌, ◌⊎◌, List, [], ◌∷◌, length, true}
use Rattle.run_combinations.specs.ReadChoices.{AreReadChoices}
use Rattle.run_combinations.specs.Search.{PrefixLists}
use Rattle.store_orders.specs.Combinations.{CombinationLists, ordered}

-- each combination of runs that has a read choice, with its read choices and orders of the stores
pub data AreCombinations (n : ℕ) : List PrefixLists → List CombinationLists → Type 0 where
  nothing_left : AreCombinations n [] []
  with_read_choices : {b : PrefixLists} {bs : List PrefixLists} {cs : List CombinationLists}
      {reads_from : List ℕ} {read_choices : List (List ℕ)}
      → AreReadChoices b.combination.events b.needs (reads_from ∷ read_choices)
      → AreCombinations n bs cs
      → AreCombinations n (b ∷ bs)
      (ordered n (record b.combination { reads_from = reads_from ∷ read_choices }) ∷ cs)
  without : {b : PrefixLists} {bs : List PrefixLists} {cs : List CombinationLists}
      → AreReadChoices b.combination.events b.needs [] → AreCombinations n bs cs
      → AreCombinations n (b ∷ bs) cs

-- how many candidates they have: each read choice with each order is one
abbrev pub candidate_total : List CombinationLists → ℕ
candidate_total [] = 0
candidate_total (c ∷ cs) = length c.reads_from * length c.orders + candidate_total cs

-- some candidate holds a run that stopped at a fault
abbrev pub HasFaultedCandidate : List PrefixLists → Type 0
HasFaultedCandidate [] = ⊥
HasFaultedCandidate (b ∷ bs) =
    ((b.faulted ≡ true) × (reads_from : List ℕ) × (read_choices : List (List ℕ))
    × AreReadChoices b.combination.events b.needs (reads_from ∷ read_choices))
    ⊎ HasFaultedCandidate bs

-- all candidates: at most 16,384, of which none holds a fault
pub record AreCandidates (n : ℕ) (bs : List PrefixLists) (cs : List CombinationLists) : Type 0 where
  pub combinations : AreCombinations n bs cs
  pub few : candidate_total cs ≤ 16384
  pub sound : HasFaultedCandidate bs → ⊥

-- there are more
abbrev pub AreTooMany : ℕ → List PrefixLists → Type 0
AreTooMany n bs =
    (cs : List CombinationLists) → AreCombinations n bs cs → 16384 < candidate_total cs

-- there are no more, and one of them holds a fault
pub record AreFaulted (n : ℕ) (bs : List PrefixLists) : Type 0 where
  pub all : List CombinationLists
  pub combinations : AreCombinations n bs all
  pub few : candidate_total all ≤ 16384
  pub fault : HasFaultedCandidate bs

-- no combination has over 128 events
abbrev pub AreSmall : List PrefixLists → Type 0
AreSmall [] = Unit {0}
AreSmall (b ∷ bs) = (length b.combination.events ≤ 128) × AreSmall bs
