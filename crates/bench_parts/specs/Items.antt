-- The rows of items after an edit. Read it after Contents and Stamps.
use Rattle.std.specs.Prelude.{◌≡◌, ⊤, ℕ, ◌==◌, if◌then◌else◌, List, [], ◌∷◌, length, map, get_or, slice_get, option_map, option_and_then, Option, Some, None}
use denote.Ref.{Bor}
use Rattle.std.specs.Arc.{arc_value}
use Rattle.std.specs.declared.alloc.Global.{Global}
use Rattle.std.specs.declared.sync.Arc.{Arc}
use Rattle.std.specs.List.{range_with_len}
use Rattle.memo_core.specs.declared.keys.Kind.{Kind}
use Rattle.text_values.specs.declared.model.Item.{Item}
use Rattle.text_values.specs.ModelValues.{clause_of}
use Rattle.binding_graph.specs.declared.resolved.Resolved.{Resolved}
use Rattle.binding_graph.specs.declared.resolved.ResolvedItem.{ResolvedItem}
use Rattle.bench_items.specs.declared.items.SharedItem.{SharedItem}
use Rattle.bench_items.specs.Items.{RoleContent, role_content}
use Rattle.bench_items.specs.Naming.{with_role_names}
use Rattle.bench_nodes.specs.declared.table.ItemRow.{ItemRow}
use Rattle.bench_nodes.specs.Nodes.{item_stamp}
use Rattle.bench_slots.specs.Kinds.{node_kind}
use Rattle.bench_parts.specs.Contents.{PartContent, OfText, OfRole, role_part, item_content, part_history}
use Rattle.bench_parts.specs.declared.parts.Parts.{Parts}
use Rattle.bench_parts.specs.Stamps.{IsStampOf, raised}
use Rattle.bench_parts.specs.declared.items.ItemLists.{ItemLists}
use Rattle.bench_parts.specs.declared.items.ModelItems.{ModelItems}

-- ---- what is known of an item

-- what an item says, as a part
abbrev pub text_part : Option Item → Option PartContent
text_part item = option_map (λ x. OfText (clause_of x)) item

-- of an item: its number, what it says, its kind by its text, and what it does where its model has
-- no fault
pub record ItemFact : Type 0 where
  pub number : ℕ
  pub text : Option PartContent
  pub kind : Option Kind
  pub role : Option RoleContent

abbrev pub kind_at : List Item → ℕ → Option Kind
kind_at items index = option_and_then (λ i. node_kind (clause_of i)) (slice_get items index)

-- of items that are resolved, where there is no fault
abbrev pub read_role : Option (List ResolvedItem) → ℕ → Option RoleContent
read_role None index = None
read_role (Some items) index = option_map (λ r. role_content r.role) (slice_get items index)

abbrev pub fact_at : List ℕ → List Item → Option (List ResolvedItem) → ℕ → ItemFact
fact_at numbers items resolved index =
    record {
      number = get_or numbers index 0;
      text = text_part (slice_get items index);
      kind = kind_at items index;
      role = read_role resolved index;
    }

-- of the items of a model, in their order
abbrev pub item_facts : List ℕ → List Item → Option (List ResolvedItem) → List ItemFact
item_facts numbers items resolved =
    map (fact_at numbers items resolved) (range_with_len 0 (length numbers))

-- the same, as the code holds them
abbrev pub resolved_items : ModelItems → Option (List ResolvedItem)
resolved_items m =
    option_map (λ (r : Bor (Arc Resolved Global)). (arc_value r.now).items.items) m.resolved

abbrev pub facts_of : ModelItems → List ItemFact
facts_of m = item_facts m.numbers.now m.items.now (resolved_items m)

-- the text of the first of that number
abbrev pub fact_text : List ItemFact → ℕ → Option PartContent
fact_text [] number = None
fact_text (f ∷ fs) number = if f.number == number then f.text else fact_text fs number

-- ---- rows

-- what the item does, with the names that it has now behind those that it has had; under a fault
-- what it did before
abbrev pub part_after : Option RoleContent → Option PartContent → Option PartContent
part_after None before = before
part_after (Some role) before = Some (OfRole role (with_role_names (part_history before) role))

-- the row of an item, over the rows, roles and texts before the edit: it goes by the text, the role
-- by what is read
pub record IsItemMade (fresh : ℕ) (rows : List ItemRow) (roles : List (Option SharedItem))
    (texts : ℕ → Option PartContent) (fact : ItemFact) (row : ItemRow) (role : Option SharedItem)
    : Type 0 where
  pub number_is : row.number ≡ fact.number
  pub role_is : role_part role ≡ part_after fact.role (item_content rows roles fact.number)
  pub stamp : IsStampOf fresh (texts fact.number) (item_stamp rows fact.number) fact.text row.stamp

-- a row, a role and a kind for each item
abbrev pub AreItemsMade : (fresh : ℕ) → List ItemRow → List (Option SharedItem)
    → (ℕ → Option PartContent) → List ItemFact → List ItemRow → List (Option SharedItem)
    → List (Option Kind) → Type 0
AreItemsMade fresh rows roles texts [] [] [] [] = ⊤
AreItemsMade fresh rows roles texts (f ∷ fs) (i ∷ is) (r ∷ rs) (k ∷ ks) =
    IsItemMade fresh rows roles texts f i r × (k ≡ f.kind)
    × AreItemsMade fresh rows roles texts fs is rs ks
AreItemsMade fresh rows roles texts _ _ _ _ = ⊥

-- the lists that hold them, over the parts and texts before the edit
abbrev pub AreListsOf : (fresh : ℕ) → Parts → (ℕ → Option PartContent) → List ItemFact → ItemLists
    → Type 0
AreListsOf fresh p texts facts lists =
    AreItemsMade fresh p.table.items.items p.roles.items texts facts lists.rows.items
    lists.roles.items lists.kinds.items

-- the row under the number of the edit
abbrev pub raised_item : (last number : ℕ) → ItemRow → ItemRow
raised_item last number row = record { number = row.number; stamp = raised last number row.stamp }
