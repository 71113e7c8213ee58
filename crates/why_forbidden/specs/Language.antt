-- The values of the names of the language.
use Rattle.std.specs.Prelude.{◌≡◌, Bool, not, List, [], ◌∷◌, filter, map}
use Rattle.binding_kinds.specs.declared.kinds.Kind.TheVariants as kinds
use Rattle.binding_graph.specs.declared.resolved.Code.{Code}
use Rattle.binding_graph.specs.declared.resolved.Source.TheVariants as sources
use Rattle.binding_graph.specs.declared.resolved.Step.TheVariants as steps
use Rattle.predefined_names.specs.PredefinedNames.{is_set}
use Rattle.predefined_names.specs.declared.predefined.Predefined.{Predefined}
use Rattle.candidate_spaces.specs.declared.candidate.Space.{Space}
use Rattle.why_witness.specs.Values.{AreValues}
use Rattle.why_labels.specs.declared.label.PredefinedValue.{PredefinedValue}

-- the values are those of the expression that is the name alone
pub record IsOfLanguage (space : Space) (v : PredefinedValue) : Type 0 where
  pub code : Code
  pub kind : code.kind ≡ kinds.OfRelation
  pub steps : code.steps.items ≡ steps.PushRelation (sources.Predefined v.name) ∷ []
  pub values : AreValues code [] space v.column

-- of these names those that stand for relations
abbrev pub is_relation_name : Predefined → Bool
is_relation_name name = not (is_set name)

abbrev pub relation_names : List Predefined → List Predefined
relation_names names = filter is_relation_name names

abbrev pub valued_names : List PredefinedValue → List Predefined
valued_names values = map (λ v. v.name) values
