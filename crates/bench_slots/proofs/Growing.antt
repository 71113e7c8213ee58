-- Where no item is at an index, nothing is added.
use Rattle.std.proofs.Common.{ℕ, ◌≡◌, List, [], ◌∷◌, ◌++◌, Option, None, ap, sym, ◌∙◌}
use Rattle.std.proofs.lemmas.List.{append-nil}
use Rattle.binding_graph.specs.declared.resolved.ResolvedItem.{ResolvedItem}
use Rattle.binding_graph.specs.declared.resolved.Role.{Role}
use Rattle.std.specs.List.{slice_get}
use Rattle.bench_nodes.specs.declared.table.SlotKey.{SlotKey}
use Rattle.bench_items.specs.Naming.{SeenName}
use Rattle.bench_slots.specs.Slots.{PlainSlot, number_at, item_slots, used_slots, key_by, keys_by}

pub no_slot : (histories : ℕ → List SeenName) (numbers : List ℕ) (items : List ResolvedItem) (i : ℕ)
    (old : List PlainSlot) → slice_get items i ≡ None
    → old ≡ old ++ used_slots histories numbers items (i ∷ [])
no_slot histories numbers items i old none =
    sym (append-nil old)
    ∙ ap
    (λ (o : Option ResolvedItem). old
    ++ (item_slots histories numbers items (number_at numbers i) o ++ []))
    (sym none)

pub no_key : (f : Role → ℕ → List SlotKey) (numbers : List ℕ) (items : List ResolvedItem) (i : ℕ)
    (old : List SlotKey) → slice_get items i ≡ None
    → old ≡ old ++ keys_by f numbers items (i ∷ [])
no_key f numbers items i old none =
    sym (append-nil old)
    ∙ ap (λ (o : Option ResolvedItem). old ++ (key_by f (number_at numbers i) o ++ [])) (sym none)
