-- The names of the bindings of a group, the latest first.
use Rattle.std.specs.Prelude.{ℕ, List, map, reverse}
use Rattle.text_values.specs.declared.model.Binding.{Binding}

abbrev pub let_names : List Binding → List (List ℕ)
let_names bs = reverse (map (λ b. b.name) bs)
