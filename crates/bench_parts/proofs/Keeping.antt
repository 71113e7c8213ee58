-- States keep the laws of `Texts`.
use Rattle.std.proofs.Common.{ℕ, ◌≡◌, inl, inr, List, [], ◌∷◌, Some, refl, ap, ◌∙◌}
use Rattle.std.specs.List.{zip, AllByRecursion as Each}
use Rattle.memo_core.specs.declared.keys.Key.{Key}
use Rattle.memo_core.specs.declared.keys.Key.TheVariants.{Part, Output}
use Rattle.memo_core.specs.declared.keys.Node.{Node}
use Rattle.memo_core.specs.Graph.{lookup, input_nodes}
use Rattle.memo_core.specs.Right.{HasOutputValue, IsSoundNet}
use Rattle.memo_core.specs.Step.{Has}
use Rattle.bench_values.specs.Givens.{GivenContent}
use Rattle.bench_values.specs.Makes.{Makes, output_names}
use Rattle.bench_values.specs.Values.{NodeContent}
use Rattle.bench_values.proofs.Counting.{makes_many}
use Rattle.bench_nodes.specs.Nodes.{used, inputs}
use Rattle.bench_nodes.proofs.Laws.{used_is_closed}
use Rattle.bench_parts.specs.Contents.{PartsState}
use Rattle.bench_parts.specs.States.{given_to_node, is_given, net_in, makes, HasOutput, IsValidState, IsUsedNode}
use Rattle.bench_parts.proofs.Numbering.{value_there}
use Rattle.bench_parts.proofs.Equality.{given_is}

-- ---- each output among inputs gets a value

values_there : (x : ℕ) (g : GivenContent) (vs : List NodeContent) (os : List (ℕ × NodeContent))
    → Has (output_names g) x
    → ((outs : List NodeContent) × Makes g vs outs × (os ≡ zip (output_names g) outs))
    → (v : NodeContent) × (lookup x os ≡ Some v)
values_there x g vs os there h =
    let found = value_there (output_names g) h.0 x (makes_many g vs h.0 h.1) there in
    (found.0, ap (λ (l : List (ℕ × NodeContent)). lookup x l) h.2 ∙ found.1)

each_has_value : (s : PartsState) (ks : List Key) → Each (HasOutput s) ks
    → Each (HasOutputValue makes (net_in s)) ks
each_has_value s [] h = tt
each_has_value s (Part part of ∷ ks) h = (tt, each_has_value s ks h.1)
each_has_value s (Output n x ∷ ks) h = (
  (λ g vs os gives made. values_there x g vs os (h.0 g (given_is (given_to_node s n) g gives)) made),
  each_has_value s ks h.1,
)

each_there : (s : PartsState) (ns : List Node) → IsValidState s → Each (Has (used s.parts.table)) ns
    → Each (IsUsedNode s) ns
each_there s [] valid h = tt
each_there s (n ∷ ns) valid h = (record { valid = valid; is_used = h.0 }, each_there s ns valid h.1)

pub states_are_sound : (s : PartsState) → IsValidState s → IsSoundNet makes (net_in s) (IsUsedNode s)
states_are_sound s valid = record {
  has_values = λ n there. each_has_value s (inputs s.parts.table n) (valid.outputs n there.is_used);
  inputs_there =
      λ n there. each_there s (input_nodes (inputs s.parts.table n)) valid
      (used_is_closed s.parts.table (λ m g. is_given (given_to_node s m) g) valid.ordered n there.is_used);
}

-- ---- used nodes are there

all_used : (all ns : List Node) → ((n : Node) → Has ns n → Has all n) → Each (Has all) ns
all_used all [] h = tt
all_used all (n ∷ ns) h = (h n (inl refl), all_used all ns (λ m i. h m (inr i)))

pub used_are_there : (s : PartsState) → IsValidState s → Each (IsUsedNode s) (used s.parts.table)
used_are_there s valid =
    each_there s (used s.parts.table) valid (all_used (used s.parts.table) (used s.parts.table)
    (λ n h. h))
