-- How columns are stored: a list of runs, and for relations a list of words.
use Rattle.std.specs.Prelude.{ℕ, List, map}
use Rattle.bit_rows.specs.Relation.{Relation}
use Rattle.bit_relations.specs.Packing.{ArePacked, unpacked}
use Rattle.relation_columns.specs.declared.spans.Span.{Span}
use Rattle.relation_columns.specs.declared.runs.Run.{Run}

-- where runs end, and their values
abbrev pub run_ends : {V : Type 0} → List (Run V) → List ℕ
run_ends runs = map (λ r. r.end) runs

abbrev pub run_values : {V : Type 0} → List (Run V) → List V
run_values runs = map (λ r. r.value) runs

-- the relations at spans of a list of words
abbrev pub relations_at : List Span → List ℕ → List Relation
relations_at spans words = unpacked (map (λ p. p.count) spans) words

-- the spans are those of relations whose words stand one after another
abbrev pub AreRelationsAt : List Span → List ℕ → Type 0
AreRelationsAt spans words =
    ArePacked (map (λ p. p.count) spans) (map (λ p. p.start) spans) words
    (relations_at spans words)
