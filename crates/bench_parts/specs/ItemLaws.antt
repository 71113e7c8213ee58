-- LAWS of the rows of items after an edit: what `item_laws` states.
use Rattle.std.specs.Prelude.{◌≡◌, true, ◌≢◌, ⊤, ℕ, ◌≤◌, List, [], ◌∷◌, ◌++◌, length, map, get_or, slice_get, Option, Some, None}
use Rattle.std.specs.List.{AllZip, AllByRecursion as Each}
use Rattle.memo_core.specs.declared.keys.Kind.{Kind}
use Rattle.memo_core.specs.declared.keys.Kind.TheVariants as kinds
use Rattle.text_values.specs.declared.model.Item.{Item}
use Rattle.binding_kinds.specs.Value.{Naming, bare_item as outline_of}
use Rattle.binding_graph.specs.declared.resolved.ResolvedItem.{ResolvedItem}
use Rattle.binding_graph.specs.declared.resolved.Role.{Role}
use Rattle.binding_graph.specs.declared.resolved.Role.TheVariants as resolved_roles
use Rattle.binding_graph.specs.Resolved.{AreResolved}
use Rattle.bench_items.specs.declared.items.SharedItem.{SharedItem}
use Rattle.bench_items.specs.Items.{RoleContent, role_content}
use Rattle.bench_items.specs.Naming.{SeenName}
use Rattle.bench_nodes.specs.declared.table.ItemRow.{ItemRow}
use Rattle.bench_nodes.specs.Nodes.{item_stamp}
use Rattle.bench_parts.specs.Contents.{PartContent, OfRole, item_content}
use Rattle.bench_parts.specs.Built.{IsItemRow}
use Rattle.bench_parts.specs.States.{has_kind}
use Rattle.bench_parts.specs.Written.{WrittenState, IsPartAfter, item_text}
use Rattle.bench_parts.specs.Stamps.{IsLaterNumber, IsPartNow, next_number}
use Rattle.bench_parts.specs.Items.{ItemFact, kind_at, item_facts, fact_text, AreItemsMade, raised_item}

-- the item says something
abbrev pub HasFactText : ItemFact → Type 0
HasFactText fact = (held : PartContent) × (fact.text ≡ Some held)

-- the rows, roles and texts before the edit, and those that are made of the facts under its number
pub record AreItemsAfter (last number : ℕ) (rows : List ItemRow) (roles : List (Option SharedItem))
    (texts : ℕ → Option PartContent) (facts : List ItemFact) (new : List ItemRow)
    (does : List (Option SharedItem)) (kinds : List (Option Kind)) : Type 0 where
  pub later : IsLaterNumber last number
  pub was : AllZip (IsItemRow last) rows roles
  pub gone : (of : ℕ) → item_stamp rows of ≡ 0 → texts of ≡ None
  pub before : List ItemRow
  pub written : Each HasFactText facts
  pub made : AreItemsMade (next_number last) rows roles texts facts before does kinds
  pub raised : new ≡ map (raised_item last number) before

-- what an item says is as it was, under the stamp that it had, or has the number of the edit, or
-- the item is gone
abbrev pub ItemPartsGoOn : Type 0
ItemPartsGoOn =
    (last number : ℕ) (rows new : List ItemRow) (roles does : List (Option SharedItem))
    (texts : ℕ → Option PartContent) (kinds : List (Option Kind)) (facts : List ItemFact)
    → AreItemsAfter last number rows roles texts facts new does kinds
    → (of : ℕ)
    → IsPartNow (texts of) (item_stamp rows of) number (fact_text facts of) (item_stamp new of)

-- so each item is a part of the later state as an edit of that number leaves it
abbrev pub ItemsArePartsAfter : Type 0
ItemsArePartsAfter =
    (w v : WrittenState) (number : ℕ) (facts : List ItemFact)
    → AreItemsAfter w.state.parts.last number w.state.parts.table.items.items
    w.state.parts.roles.items (item_text w.models) facts v.state.parts.table.items.items
    v.state.parts.roles.items v.state.parts.kinds.items
    → ((of : ℕ) → item_text v.models of ≡ fact_text facts of) → (of : ℕ)
    → IsPartAfter w number v 0 of

-- an item that has no stamp is not there
abbrev pub ItemsWithoutStampAreGone : Type 0
ItemsWithoutStampAreGone =
    (last number : ℕ) (rows new : List ItemRow) (roles does : List (Option SharedItem))
    (texts : ℕ → Option PartContent) (kinds : List (Option Kind)) (facts : List ItemFact)
    → AreItemsAfter last number rows roles texts facts new does kinds
    → (of : ℕ) → item_stamp new of ≡ 0 → fact_text facts of ≡ None

-- an item that says what it said keeps its stamp
abbrev pub EqualItemsKeepStamps : Type 0
EqualItemsKeepStamps =
    (last number : ℕ) (rows new : List ItemRow) (roles does : List (Option SharedItem))
    (texts : ℕ → Option PartContent) (kinds : List (Option Kind)) (facts : List ItemFact)
    → AreItemsAfter last number rows roles texts facts new does kinds
    → (of : ℕ) (held : PartContent) → texts of ≡ Some held → fact_text facts of ≡ Some held
    → item_stamp new of ≡ item_stamp rows of

-- what an item does goes on with its history, at the end of which alone names are added
pub record GoesOn (before now : Option PartContent) : Type 0 where
  pub grows : (role other : RoleContent) (history names : List SeenName)
      → before ≡ Some (OfRole role history) → now ≡ Some (OfRole other names)
      → (more : List SeenName) × (names ≡ history ++ more)
  pub same : (role : RoleContent) (history names : List SeenName)
      → before ≡ Some (OfRole role history) → now ≡ Some (OfRole role names) → names ≡ history

-- each name keeps its number, and an item that does what it did has no new name
abbrev pub HistoriesGoOn : Type 0
HistoriesGoOn =
    (last number : ℕ) (rows new : List ItemRow) (roles does : List (Option SharedItem))
    (texts : ℕ → Option PartContent) (kinds : List (Option Kind)) (facts : List ItemFact)
    → AreItemsAfter last number rows roles texts facts new does kinds
    → (of : ℕ) → GoesOn (item_content rows roles of) (item_content new does of)

-- no two of the items have one number
abbrev pub AreFactsApart : List ItemFact → Type 0
AreFactsApart [] = ⊤
AreFactsApart (f ∷ fs) = Each (λ g. f.number ≢ g.number) fs × AreFactsApart fs

-- it is known that the item does this, with some history
abbrev pub HoldsRole : Option PartContent → RoleContent → Type 0
HoldsRole part role = (history : List SeenName) × (part ≡ Some (OfRole role history))

-- the item does what is read of it
abbrev pub DoesWhatIsRead : List ItemRow → List (Option SharedItem) → ItemFact → Type 0
DoesWhatIsRead rows roles fact =
    (role : RoleContent) → fact.role ≡ Some role
    → HoldsRole (item_content rows roles fact.number) role

abbrev pub ItemsDoWhatIsRead : Type 0
ItemsDoWhatIsRead =
    (last number : ℕ) (rows new : List ItemRow) (roles does : List (Option SharedItem))
    (texts : ℕ → Option PartContent) (kinds : List (Option Kind)) (facts : List ItemFact)
    → AreItemsAfter last number rows roles texts facts new does kinds
    → AreFactsApart facts → Each (DoesWhatIsRead new does) facts

abbrev pub ItemRowsAreStamped : Type 0
ItemRowsAreStamped =
    (last number : ℕ) (rows new : List ItemRow) (roles does : List (Option SharedItem))
    (texts : ℕ → Option PartContent) (kinds : List (Option Kind)) (facts : List ItemFact)
    → AreItemsAfter last number rows roles texts facts new does kinds
    → AllZip (IsItemRow number) new does

-- the rows are those of the items in their order, each with its number, and beside each its kind
abbrev pub ItemsStayInOrder : Type 0
ItemsStayInOrder =
    (last number : ℕ) (rows new : List ItemRow) (roles does : List (Option SharedItem))
    (texts : ℕ → Option PartContent) (kinds : List (Option Kind)) (facts : List ItemFact)
    → AreItemsAfter last number rows roles texts facts new does kinds
    → (map (λ r. r.number) new ≡ map (λ f. f.number) facts) × (kinds ≡ map (λ f. f.kind) facts)

-- each item does what it is resolved to
abbrev pub AreItemsHeld : List ItemRow → List (Option SharedItem) → List ℕ → List ResolvedItem
    → Type 0
AreItemsHeld rows roles numbers items =
    (index : ℕ) (r : ResolvedItem) → slice_get items index ≡ Some r
    → HoldsRole (item_content rows roles (get_or numbers index 0)) (role_content r.role)

abbrev pub ReadItemsAreHeld : Type 0
ReadItemsAreHeld =
    (rows : List ItemRow) (roles : List (Option SharedItem)) (numbers : List ℕ) (items : List Item)
    (resolved : List ResolvedItem) → length resolved ≤ length numbers
    → Each (DoesWhatIsRead rows roles) (item_facts numbers items (Some resolved))
    → AreItemsHeld rows roles numbers resolved

-- ---- kinds of nodes

-- an item that is a node by its text is one of that kind
abbrev pub IsOfItsKind : List ItemRow → List (Option Kind) → ItemFact → Type 0
IsOfItsKind rows kinds fact =
    (kind : Kind) → fact.kind ≡ Some kind → has_kind rows kinds kind fact.number ≡ true

abbrev pub ItemsHaveTheirKinds : Type 0
ItemsHaveTheirKinds =
    (last number : ℕ) (rows new : List ItemRow) (roles does : List (Option SharedItem))
    (texts : ℕ → Option PartContent) (kinds : List (Option Kind)) (facts : List ItemFact)
    → AreItemsAfter last number rows roles texts facts new does kinds
    → AreFactsApart facts → Each (IsOfItsKind new kinds) facts

-- the kind of node that an item is by what it does
abbrev pub role_kind : Role → Option Kind
role_kind (resolved_roles.Group recursive bodies) = Some kinds.Group
role_kind (resolved_roles.Check check) = Some kinds.Check
role_kind resolved_roles.Silent = None

abbrev pub KindsFollowRoles : Type 0
KindsFollowRoles =
    (names : List Naming) (items : List Item) (resolved : List ResolvedItem)
    → AreResolved [] [] names 0 (map outline_of items) resolved
    → (index : ℕ) (r : ResolvedItem) (kind : Kind) → slice_get resolved index ≡ Some r
    → role_kind r.role ≡ Some kind → kind_at items index ≡ Some kind
