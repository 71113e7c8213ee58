-- The predefined names of each candidate.
use Rattle.std.specs.Prelude.{◌≡◌, Bool, IsTrue, false, List, [], ◌∷◌, Contains}
use Rattle.predefined_names.specs.declared.predefined.Predefined.{Predefined}
use Rattle.predefined_names.specs.PredefinedNames.{is_set}
use Rattle.store_orders.specs.declared.combination.Combination.{Combination}
use Rattle.base_names.specs.Known.{Known, IsConsistent, set_names}
use Rattle.base_names.specs.Candidate.{IsEntered, HasReadsFrom, HasCoherence, SuppliesName}
use Rattle.candidate_spaces.specs.Space.{Candidate}

-- what these names need is held: the sets among them, and what the relations among them are made of
pub record AreNamesHeld (names : List Predefined) (base : Known) : Type 0 where
  pub sets : (name : Predefined) → Contains names name → IsTrue (is_set name)
      → Contains (set_names base.sets) name
  pub relations : (name : Predefined) → Contains names name → is_set name ≡ false → SuppliesName base name

-- these names are held, and what is held is that of the combination where this fixes it
pub record IsBaseReady (names : List Predefined) (base : Known) (c : Combination) : Type 0 where
  pub known : IsConsistent base
  pub held : AreNamesHeld names base
  pub entered : IsEntered base c

-- what is held is that of the candidate: these names, what its combination fixes, and where they
-- are needed what its loads read and how its stores are ordered
pub record IsWorld (names : List Predefined) (reads orders : Bool) (base : Known) (one : Candidate)
    : Type 0 where
  pub ready : IsBaseReady names base one.0
  pub reading : IsTrue reads → HasReadsFrom base one.0 one.1.0
  pub ordered : IsTrue orders → HasCoherence base one.0 one.1.1

-- one for each candidate, in order
abbrev pub AreWorlds : List Predefined → Bool → Bool → List Known → List Candidate → Type 0
AreWorlds names reads orders [] [] = Unit {0}
AreWorlds names reads orders [] (c ∷ cs) = ⊥
AreWorlds names reads orders (b ∷ bs) [] = ⊥
AreWorlds names reads orders (b ∷ bs) (c ∷ cs) =
    IsWorld names reads orders b c × AreWorlds names reads orders bs cs
