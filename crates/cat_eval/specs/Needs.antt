-- What the names among some change with.
use Rattle.std.specs.Prelude.{Bool, IsTrue, List, Contains, ◌||◌}
use Rattle.predefined_names.specs.declared.predefined.Predefined.{Predefined}
use Rattle.cat_eval.specs.Needed.{changes_with_reads, changes_with_orders}

-- where one of the names changes with reads-from, or with coherence, it is said so
pub record AreSuited (names : List Predefined) (reads orders : Bool) : Type 0 where
  pub read : (name : Predefined) → Contains names name → IsTrue (changes_with_reads name)
      → IsTrue reads
  pub ordered : (name : Predefined) → Contains names name → IsTrue (changes_with_orders name)
      → IsTrue orders

abbrev pub is_changing_name : Predefined → Bool
is_changing_name name = changes_with_reads name || changes_with_orders name
