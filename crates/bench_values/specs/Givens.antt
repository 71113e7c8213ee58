-- What a node is given of the texts, as plain data: contracts see a `Given` so.
use Rattle.std.specs.Prelude.{ℕ, List, [], Option}
use Rattle.text_values.specs.declared.test.Condition.{Condition}
use Rattle.text_values.specs.declared.test.Place.{Place}
use Rattle.text_values.specs.declared.test.Quantifier.{Quantifier}
use Rattle.text_values.specs.TestValue.{Formula, formula_of}
use Rattle.binding_kinds.specs.declared.fault.ModelFault.{ModelFault}
use Rattle.bench_items.specs.Items.{RoleContent}
use Rattle.bench_values.specs.Parts.{SpacePartsContent}

-- a condition, the observables that are shown beside its own, and for each check and flag of the
-- model, in the order of the text, the name of the flag
pub record VerdictPartsContent : Type 0 where
  pub kind : Quantifier
  pub proposition : Formula
  pub observed : List Place
  pub flags : List (Option (List ℕ))

-- a condition, and the fault of the model
pub record FaultPartsContent : Type 0 where
  pub kind : Quantifier
  pub proposition : Formula
  pub fault : ModelFault

-- what a verdict is given with a condition
abbrev pub asked : Condition → List Place → List (Option (List ℕ)) → VerdictPartsContent
asked condition observed flags =
    record {
      kind = condition.quantifier;
      proposition = formula_of condition.proposition;
      observed = observed;
      flags = flags;
    }

abbrev pub faulted : Condition → ModelFault → FaultPartsContent
faulted condition fault =
    record {
      kind = condition.quantifier;
      proposition = formula_of condition.proposition;
      fault = fault;
    }

-- An item is given as its shape, wherever it stands among the items, and with the numbers by which
-- its outputs go: the kinds of the names that it uses are those of their values.
pub data GivenContent : Type 0 where
  ForSpace : (parts : SpacePartsContent) → GivenContent
  ForItem : (shape : RoleContent) (numbers : List ℕ) → GivenContent
  ForVerdict : (parts : VerdictPartsContent) → GivenContent
  ForFault : (parts : FaultPartsContent) → GivenContent

-- which checks a verdict is told to be flags
abbrev pub given_flags : GivenContent → List (Option (List ℕ))
given_flags (ForSpace parts) = []
given_flags (ForItem shape numbers) = []
given_flags (ForVerdict parts) = parts.flags
given_flags (ForFault parts) = []
