-- Candidates that differ from the one before in coherence alone.
use Rattle.std.specs.Prelude.{◌≡◌, List}
use Rattle.bit_rows.specs.Relation.{Relation, Events}
use Rattle.predefined_names.specs.declared.predefined.Predefined.{Predefined}
use Rattle.predefined_names.specs.PredefinedNames.{is_set}
use Rattle.base_names.specs.Known.{Known}
use Rattle.cat_machine.specs.Steady.{HasAsLast}
use Rattle.cat_eval.specs.Tables.{IsHeld}

-- the second is the first but for the order of the stores
pub record IsReordered (first second : Known) : Type 0 where
  pub count : second.count ≡ first.count
  pub sets : second.sets ≡ first.sets
  pub shared : second.shared ≡ first.shared
  pub reads_from : second.reads_from ≡ first.reads_from

-- the base is the last of them but for the order of the stores
abbrev pub EndsReordered : List Known → Known → Type 0
EndsReordered bases base = (last : Known) × HasAsLast bases last × IsReordered last base

-- what is held under the name in the first is held under it in the second
abbrev pub HoldsSame : Predefined → Known → Known → Type 0
HoldsSame name first second =
    (s : Events) (r : Relation) → IsHeld (is_set name) name first s r
    → IsHeld (is_set name) name second s r
