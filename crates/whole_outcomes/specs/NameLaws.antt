-- What a predefined name has in a candidate can be told. Read `Candidate` of base_names first. Read
-- next: Values.
use Rattle.std.specs.Prelude.{ℕ, ◌⊎◌, List}
use Rattle.predefined_names.specs.declared.predefined.Predefined.{Predefined}
use Rattle.store_orders.specs.declared.combination.Combination.{Combination}
use Rattle.base_names.specs.Candidate.{SetIn, RelationIn}

-- the fact holds, or it does not
abbrev pub Told : Type 0 → Type 0
Told P = P ⊎ (P → ⊥)

-- Of each event it can be told whether a predefined name has it, and of each pair of events, in a
-- candidate whose loads read so and whose stores are ordered so.
abbrev pub NamesAreTold : Combination → Type 0
NamesAreTold c =
    (n : ℕ) (reads_from coherence : List ℕ) (name : Predefined)
    → ((a : ℕ) → Told (SetIn c n name a))
    × ((a b : ℕ) → Told (RelationIn name n c reads_from coherence a b))
