-- What the items of a model are resolved to.
use Rattle.std.specs.Prelude.{◌≡◌, ℕ, ◌+◌, List, [], ◌∷◌, length, reverse, Bool, true, false, Option, Some, None}
use Rattle.std.specs.List.{AllZip}
use Rattle.text_values.specs.declared.model.CheckWord.{CheckWord}
use Rattle.text_values.specs.declared.model.Item as code_item
use Rattle.text_values.specs.declared.model.Item.TheVariants as items
use Rattle.binding_kinds.specs.declared.scope.Used.{Used}
use Rattle.text_values.specs.ModelValue.{Term}
use Rattle.binding_kinds.specs.Value.{Naming, Bound, BareItem, Group, Check, Mute, Defined}
use Rattle.binding_kinds.specs.Senses.{Sense}
use Rattle.binding_kinds.specs.Faults.{names_after, senses_after}
use Rattle.binding_graph.specs.declared.resolved.Body.{Body}
use Rattle.binding_graph.specs.declared.resolved.Role.{Role}
use Rattle.binding_graph.specs.declared.resolved.Role.TheVariants as roles
use Rattle.binding_graph.specs.declared.resolved.ResolvedItem.{ResolvedItem}
use Rattle.binding_graph.specs.Inputs.{inputs_of}
use Rattle.binding_graph.specs.Usages.{Usage, with_values, with_functions, with_all_values, with_all_functions, usages_after}
use Rattle.binding_graph.specs.Meaning.{IsCode}

-- The bodies are those of the bindings, each with its steps. Indexes of inputs are counted as
-- the inputs are first used, in the order of the text.
abbrev pub AreBodies : List Sense → List Usage → List Naming → ℕ → List Used → List Bound
    → List Body → Type 0
AreBodies ss us names from vs [] [] = Unit {0}
AreBodies ss us names from vs [] (r ∷ rs) = ⊥
AreBodies ss us names from vs (b ∷ bs) [] = ⊥
AreBodies ss us names from vs (b ∷ bs) (r ∷ rs) =
    let used = with_values us names [] from b.body vs in
    (r.name ≡ b.name) × IsCode ss names used from b.body r.code
    × AreBodies ss us names from used bs rs

abbrev pub IsGroupRole : List Sense → List Usage → List Naming → ℕ → Bool → List Bound → Role
    → Type 0
IsGroupRole ss us names from recursive bs (roles.Group r bodies) =
    (r ≡ recursive) × AreBodies ss us names from [] bs bodies.items
IsGroupRole ss us names from recursive bs (roles.Check c) = ⊥
IsGroupRole ss us names from recursive bs roles.Silent = ⊥

abbrev pub IsCheckRole : List Sense → List Usage → List Naming → ℕ → CheckWord → Term → Role
    → Type 0
IsCheckRole ss us names from w e (roles.Group r bodies) = ⊥
IsCheckRole ss us names from w e (roles.Check c) =
    (c.word ≡ w) × IsCode ss names (with_values us names [] from e []) from e c.code
IsCheckRole ss us names from w e roles.Silent = ⊥

-- it uses these names, and applies these functions, the latest first
pub record HasUses (r : ResolvedItem) (vs : List Used) (fs : List ℕ) : Type 0 where
  pub inputs : r.inputs.items ≡ inputs_of vs
  pub functions : r.functions.items ≡ reverse fs

-- an item, whose bodies see those names, where the names of the item itself have the slot `from`
-- and those behind it
abbrev pub IsGroup : List Sense → List Usage → List Naming → ℕ → Bool → List Bound → ResolvedItem
    → Type 0
IsGroup ss us names from recursive bs r =
    IsGroupRole ss us names from recursive bs r.role
    × HasUses r (with_all_values us names from bs []) (with_all_functions us names bs [])

abbrev pub IsCheck : List Sense → List Usage → List Naming → ℕ → CheckWord → Term → ResolvedItem
    → Type 0
IsCheck ss us names from w e r =
    IsCheckRole ss us names from w e r.role
    × HasUses r (with_values us names [] from e []) (with_functions us names [] e [])

-- what a function's body uses and applies, which sees the names before the item
abbrev pub IsFunction : List Usage → List Naming → ℕ → List (List ℕ) → Term → ResolvedItem → Type 0
IsFunction us names from ps body r =
    (r.role ≡ roles.Silent)
    × HasUses r (with_values us names ps from body []) (with_functions us names ps body [])

-- The bodies of a recursive group see its names, and other bodies the names before the item.
abbrev pub IsResolvedIn : List Sense → List Usage → List Naming → List Naming → ℕ → BareItem
    → ResolvedItem → Type 0
IsResolvedIn ss us names own from (Group true bs) r = IsGroup ss us own from true bs r
IsResolvedIn ss us names own from (Group false bs) r = IsGroup ss us names from false bs r
IsResolvedIn ss us names own from (Check w e) r = IsCheck ss us names from w e r
IsResolvedIn ss us names own from Mute r = (r.role ≡ roles.Silent) × HasUses r [] []
IsResolvedIn ss us names own from (Defined n ps b) r = IsFunction us names from ps b r

-- each item after those names, of which the first has the number `at`, is resolved
abbrev pub AreResolved : List Sense → List Usage → List Naming → ℕ → List BareItem
    → List ResolvedItem → Type 0
AreResolved ss us names at [] [] = Unit {0}
AreResolved ss us names at [] (r ∷ rs) = ⊥
AreResolved ss us names at (c ∷ cs) [] = ⊥
AreResolved ss us names at (c ∷ cs) (r ∷ rs) =
    IsResolvedIn ss us names (names_after ss names at c) (length names) c r
    × AreResolved (senses_after ss names c) (usages_after us names at c) (names_after ss names at c)
    (at + 1) cs rs

-- this is a check or a flag: negated or not, and with that name where it is a flag
abbrev pub IsLabelled : Bool → Option (List ℕ) → Role → Type 0
IsLabelled negated flag (roles.Group r bodies) = ⊥
IsLabelled negated flag (roles.Check c) = (c.negated ≡ negated) × (c.flag ≡ flag)
IsLabelled negated flag roles.Silent = ⊥

-- what an item is resolved to is negated where a check or a flag is, and has the name of a flag
abbrev pub IsLabelledAs : code_item.Item → ResolvedItem → Type 0
IsLabelledAs (items.Let r g) x = Unit {0}
IsLabelledAs (items.Function n ps b) x = Unit {0}
IsLabelledAs (items.Check c l) x = IsLabelled c.negated None x.role
IsLabelledAs (items.Flag c l) x = IsLabelled c.negated (Some l) x.role
IsLabelledAs (items.Show h s) x = Unit {0}
IsLabelledAs (items.Include n) x = Unit {0}

abbrev pub AreLabelledAs : List code_item.Item → List ResolvedItem → Type 0
AreLabelledAs xs rs = AllZip IsLabelledAs xs rs
