-- After edits of its model an item does what it did, kinds left out, by its keys and by the texts
-- among them: the law `roles_stay`. Read it after Slots of bench_slots and Reread of binding_laws.
use Rattle.std.specs.Prelude.{◌≡◌, ℕ, List, ◌++◌, slice_get, Some}
use Rattle.text_values.specs.declared.model.Item.{Item}
use Rattle.predefined_names.specs.declared.predefined.Predefined.{Predefined}
use Rattle.memo_core.specs.declared.keys.Key.{Key}
use Rattle.memo_core.specs.declared.keys.Key.TheVariants.{Part}
use Rattle.memo_core.specs.Step.{Has}
use Rattle.binding_graph.specs.declared.resolved.ResolvedItem.{ResolvedItem}
use Rattle.binding_laws.specs.ItemLaws.{SayTheSame}
use Rattle.binding_laws.specs.Reread.{ReadModel, HasNumber, outer_namings, IsReadModel, AreInOneOrder, IsItemOf}
use Rattle.binding_shapes.specs.Shapes.{role_shape}
use Rattle.bench_items.specs.Items.{role_content}
use Rattle.bench_items.specs.Naming.{SeenName, AreInHistory, item_outputs}
use Rattle.bench_nodes.specs.Nodes.{keys_at}
use Rattle.bench_slots.specs.Slots.{number_at, item_keys}

-- ---- models before and after edits

-- the histories hold the names of what the items of the model do
abbrev pub HoldNames : (ℕ → List SeenName) → ReadModel → Type 0
HoldNames histories m =
    (index : ℕ) (r : ResolvedItem) → slice_get m.resolved index ≡ Some r
    → AreInHistory (histories (number_at m.numbers index)) (role_content r.role)

-- the history of an item that both models have grew at its end alone
abbrev pub GrewAtEnd : ReadModel → ReadModel → (histories later : ℕ → List SeenName) → Type 0
GrewAtEnd m w histories later =
    (number i j : ℕ) → HasNumber m i number → HasNumber w j number
    → (more : List SeenName) × (later number ≡ histories number ++ more)

-- a model as it is read before edits and after them, with the histories of its items
pub record AreBeforeAndAfter (ps : List Predefined) (m w : ReadModel)
    (histories later : ℕ → List SeenName) : Type 0 where
  pub sound : IsReadModel (outer_namings ps) m
  pub still : IsReadModel (outer_namings ps) w
  pub order : AreInOneOrder m w
  pub named : HoldNames histories m
  pub grown : GrewAtEnd m w histories later

-- ---- an item in both

-- the keys of an item of a model, for a test
abbrev pub keys_in : (ℕ → List SeenName) → ReadModel → ℕ → ResolvedItem → ℕ → List Key
keys_in histories m number r test = keys_at test (item_keys histories m.numbers m.resolved number r)

-- the item of that number says the same in both models
abbrev pub IsSaidAgain : ReadModel → ReadModel → ℕ → Type 0
IsSaidAgain m w number =
    (i j : ℕ) (x y : Item) → HasNumber m i number → slice_get m.items i ≡ Some x
    → HasNumber w j number → slice_get w.items j ≡ Some y → SayTheSame x y

-- and so does each text among these keys
abbrev pub AreSaidAgain : ReadModel → ReadModel → List Key → Type 0
AreSaidAgain m w keys = (number : ℕ) → Has keys (Part 0 number) → IsSaidAgain m w number

-- an item with the keys that it had does what it did, kinds left out, and its outputs go by the
-- numbers by which they went, where each text among the keys says what it said
abbrev pub RolesStay : Type 0
RolesStay =
    (ps : List Predefined) (m w : ReadModel) (histories later : ℕ → List SeenName)
    → AreBeforeAndAfter ps m w histories later
    → (number k l : ℕ) (x y : Item) (r q : ResolvedItem) → IsItemOf m number k x r
    → IsItemOf w number l y q
    → (test : ℕ) → keys_in later w number q test ≡ keys_in histories m number r test
    → AreSaidAgain m w (keys_in histories m number r test)
    → (role_shape (role_content q.role) ≡ role_shape (role_content r.role))
    × (item_outputs (role_content q.role) (later number)
    ≡ item_outputs (role_content r.role) (histories number))
