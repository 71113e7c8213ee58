-- The values of the factors of an expression.
use Rattle.std.specs.Prelude.{ℕ, ◌≡◌, ◌<◌, ◌↔◌, List, [], Some, length, slice_get, slice_index_or, map}
use Rattle.std.specs.List.{All}
use denote.Ref.{Bor}
use Rattle.bit_rows.specs.Relation.{Relation, Has, IsRegular}
use Rattle.binding_graph.specs.declared.resolved.Code.{Code}
use Rattle.binding_kinds.specs.declared.kinds.Kind.TheVariants as kinds
use Rattle.binding_graph.specs.Trees.{RelTree, rel_code}
use Rattle.candidate_spaces.specs.declared.candidate.Space.{Space}
use Rattle.cat_machine.specs.declared.column.Column.{Column}
use Rattle.cat_machine.specs.declared.column.Column.TheVariants as columns
use Rattle.why_witness.specs.Pairs.{HasPair}
use Rattle.why_witness.specs.Values.{AreValues}
use Rattle.why_walks.specs.declared.run.Link.{Link}
use Rattle.why_walks.specs.declared.value.FactorValues.{FactorValues}
use Rattle.why_walks.specs.Factors.{FactorSteps, factors_of, tree_part}

abbrev pub value_part : FactorValues → FactorSteps
value_part v = record { repeats = v.repeats; steps = v.code.steps.items }

-- its expression is of a relation, and it has the values of that in the candidates of the space
pub record HasFactorColumn (inputs : List (Bor Column)) (space : Space) (factor : FactorValues)
    : Type 0 where
  pub kind : factor.code.kind ≡ kinds.OfRelation
  pub values : AreValues factor.code inputs space factor.values

-- the factors of an expression, with their values in the candidates of a space
pub record AreFactorValues (code : Code) (inputs : List (Bor Column)) (space : Space)
    (factors : List FactorValues) : Type 0 where
  pub parts : (t : RelTree) → code.steps.items ≡ rel_code t []
      → map value_part factors ≡ map tree_part (factors_of t)
  pub values : All (HasFactorColumn inputs space) factors

-- the column has a relation on n events in the candidate of number k
abbrev pub IsOn : ℕ → ℕ → Column → Type 0
IsOn k n (columns.Sets values) = ⊥
IsOn k n (columns.Relations values) = (r : Relation) × (slice_get values k ≡ Some r) × (r.count ≡ n)

-- the link has the factor's pairs in the candidate of number k, and is on its events
pub record IsLinkAt (k : ℕ) (factor : FactorValues) (link : Link) : Type 0 where
  pub repeats : link.repeats ≡ factor.repeats
  pub pairs : (a b : ℕ) → Has link.relation a b ↔ HasPair factor.values k a b
  pub regular : IsRegular link.relation
  pub count : (n : ℕ) → IsOn k n factor.values → link.relation.count ≡ n

pub record AreLinksAt (k : ℕ) (factors : List FactorValues) (links : List Link) : Type 0 where
  pub as_many : length links ≡ length factors
  pub each : (j : ℕ) → j < length factors → (f : FactorValues) (l : Link)
      → IsLinkAt k (slice_index_or factors j f) (slice_index_or links j l)
