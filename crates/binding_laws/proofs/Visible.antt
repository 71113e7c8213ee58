-- All that an item of a sound model uses is seen by other items.
use Rattle.std.proofs.Common.{ℕ, List, [], ◌∷◌, ap}
use Rattle.std.specs.Prelude.{option_map}
use Rattle.std.specs.List.{AllByRecursion as Each}
use Rattle.predefined_names.specs.declared.predefined.Predefined.{Predefined}
use Rattle.binding_kinds.specs.declared.scope.Input.{Input}
use Rattle.binding_kinds.specs.Value.{bare_item}
use Rattle.binding_laws.specs.Reread.{ReadModel, outer_namings, IsReadModel, IsSeenInput, IsSeenFunction, UsesAreSeen}
use Rattle.binding_laws.proofs.Lists.{each_to}
use Rattle.binding_laws.proofs.Placed.{IsNameOfGroup}
use Rattle.binding_laws.proofs.Whole.{IsKeptFunction}
use Rattle.binding_laws.proofs.Uses.{item_inputs, item_kept, item_functions}
use Rattle.binding_laws.proofs.Seen.{beside, outer_names, input_seen, resolved_at}

pub each_unit : {X : Type 0} (xs : List X) → Each (λ x. Unit {0}) xs
each_unit [] = tt
each_unit (x ∷ xs) = (tt, each_unit xs)

module _ (ps : List Predefined) (m : ReadModel) (sound : IsReadModel (outer_namings ps) m) where
  abbrev Anything : Input → Type 0
  Anything i = Unit {0}

  abbrev Anywhere : ℕ → Type 0
  Anywhere f = Unit {0}

  input_visible : (k : ℕ) (i : Input) → IsNameOfGroup (outer_namings ps) m.items k i → IsSeenInput m i
  input_visible k i h =
      let is = input_seen ps m sound i h.name h.kind h.input in
      record { number = is.number; name = h.name; seen = λ d. (is.has_number d, is.seen d) }

  function_visible : (f : ℕ)
      → IsKeptFunction (outer_namings ps) m.items (outer_names ps) Anything Anywhere f
      → IsSeenFunction m f
  function_visible f h =
      let number = beside m.items m.numbers f h.item sound.numbered h.there in
      let text = ap (option_map bare_item) h.there in
      record { number = number.0; text = bare_item h.item; seen = λ d. (number.1 d, text d) }

pub uses_seen : UsesAreSeen
uses_seen ps m number k x r sound at =
    let resolved = resolved_at ps m sound k x r at.text at.item in
    let names = item_inputs (outer_namings ps) m.items (outer_names ps) k (bare_item x) r resolved in
    let kept = item_kept (outer_namings ps) m.items (outer_names ps) k (Anything ps m sound) (Anywhere ps m sound) (bare_item x) r resolved (each_unit r.inputs.items) (each_unit r.functions.items) in
    let functions = item_functions (outer_namings ps) m.items (outer_names ps) k (Anything ps m sound) (Anywhere ps m sound) (bare_item x) r resolved kept in (
      each_to (IsNameOfGroup (outer_namings ps) m.items k) (IsSeenInput m) (input_visible ps m sound k)
          r.inputs.items names,
      each_to
          (IsKeptFunction (outer_namings ps) m.items (outer_names ps) (Anything ps m sound)
          (Anywhere ps m sound))
          (IsSeenFunction m)
          (function_visible ps m sound) r.functions.items functions,
    )
