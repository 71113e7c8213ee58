-- The kinds of nodes that items are.
use Rattle.std.proofs.Common.{ℕ, zero, suc, ◌+◌, ◌≡◌, ◌≢◌, Bool, true, false, List, [], ◌∷◌, length, map, Option, Some, None, slice_get, refl, sym, ap, ◌∙◌, subst, ne_eqb, eq-eqb}
use Rattle.std.specs.List.{AllByRecursion as Each}
use Rattle.std.proofs.lemmas.Option.{same_Some}
use Rattle.memo_core.specs.declared.keys.Kind.{Kind}
use Rattle.memo_core.specs.declared.keys.Kind.TheVariants as kinds
use Rattle.memo_core.specs.Names.{kind_number}
use Rattle.text_values.specs.declared.model.Item as code_item
use Rattle.text_values.specs.declared.model.Item.TheVariants as items
use Rattle.text_values.specs.declared.model.CheckWord.{CheckWord}
use Rattle.text_values.specs.ModelValue.{Term}
use Rattle.text_values.specs.ModelValues.{clause_of, term_of}
use Rattle.binding_kinds.specs.Faults.{names_after, senses_after}
use Rattle.binding_kinds.specs.Senses.{Sense}
use Rattle.binding_kinds.specs.Value.{Naming, Bound, bound_value_of, bare_item as outline_of}
use Rattle.binding_graph.specs.declared.resolved.ResolvedItem.{ResolvedItem}
use Rattle.binding_graph.specs.declared.resolved.Role.{Role}
use Rattle.binding_graph.specs.declared.resolved.Role.TheVariants as roles
use Rattle.binding_graph.specs.Usages.{Usage, usages_after}
use Rattle.binding_graph.specs.Resolved.{IsGroupRole, IsCheckRole, IsResolvedIn, AreResolved}
use Rattle.bench_items.specs.declared.items.SharedItem.{SharedItem}
use Rattle.bench_nodes.specs.declared.table.ItemRow.{ItemRow}
use Rattle.bench_parts.specs.Contents.{PartContent}
use Rattle.bench_parts.specs.States.{is_kind}
use Rattle.bench_parts.specs.Stamps.{next_number}
use Rattle.bench_slots.specs.Kinds.{node_kind}
use Rattle.bench_parts.specs.Items.{ItemFact, kind_at, AreItemsMade, raised_item}
use Rattle.bench_parts.specs.ItemLaws.{AreItemsAfter, AreFactsApart, IsOfItsKind, role_kind}

-- ---- by their texts

-- an item of another number stands in front
behind : (row : ItemRow) (own : Option Kind) (rows : List ItemRow) (ks : List (Option Kind))
    (fs : List ItemFact) → Each (λ g. row.number ≢ g.number) fs → Each (IsOfItsKind rows ks) fs
    → Each (IsOfItsKind (row ∷ rows) (own ∷ ks)) fs
behind row own rows ks [] apart h = tt
behind row own rows ks (f ∷ fs) apart h = (
  (λ k e. rw (ne_eqb row.number f.number apart.0) (h.0 k e)),
  behind row own rows ks fs apart.1 h.1,
)

apart_by : (m n : ℕ) (fs : List ItemFact) → m ≡ n → Each (λ g. m ≢ g.number) fs
    → Each (λ g. n ≢ g.number) fs
apart_by m n fs e h = subst (λ (k : ℕ). Each (λ (g : ItemFact). k ≢ g.number) fs) e h

all_kinds : (last number fresh : ℕ) (rows : List ItemRow) (does_before : List (Option SharedItem))
    (texts : ℕ → Option PartContent) (facts : List ItemFact) (before : List ItemRow)
    (does : List (Option SharedItem)) (ks : List (Option Kind))
    → AreItemsMade fresh rows does_before texts facts before does ks
    → AreFactsApart facts → Each (IsOfItsKind (map (raised_item last number) before) ks) facts
all_kinds last number fresh rows does_before texts [] before does ks h apart = tt
all_kinds last number fresh rows does_before texts (f ∷ fs) [] rs ks h apart = absurd h
all_kinds last number fresh rows does_before texts (f ∷ fs) (i ∷ is) [] ks h apart = absurd h
all_kinds last number fresh rows does_before texts (f ∷ fs) (i ∷ is) (r ∷ rs) [] h apart = absurd h
all_kinds last number fresh rows does_before texts (f ∷ fs) (i ∷ is) (r ∷ rs) (k ∷ ks) h apart = (
  (λ kind e. rw (eq-eqb i.number f.number h.0.number_is) (ap (is_kind kind) (h.1 ∙ e)
      ∙ eq-eqb (kind_number kind) (kind_number kind) refl)),
  behind (raised_item last number i) k (map (raised_item last number) is) ks fs
      (apart_by f.number i.number fs (sym h.0.number_is) apart.0) (all_kinds last number fresh rows
      does_before texts fs is rs ks h.2 apart.1),
)

pub have_kinds : (last number : ℕ) (rows new : List ItemRow)
    (does_before does : List (Option SharedItem)) (texts : ℕ → Option PartContent)
    (ks : List (Option Kind)) (facts : List ItemFact)
    → AreItemsAfter last number rows does_before texts facts new does ks
    → AreFactsApart facts → Each (IsOfItsKind new ks) facts
have_kinds last number rows new does_before does texts ks facts a apart =
    subst (λ (n : List ItemRow). Each (IsOfItsKind n ks) facts) (sym a.raised) (all_kinds last
    number (next_number last) rows does_before texts facts a.before does ks a.made apart)

-- ---- by what they do

silent_kind : {P : Type 0} (role : Role) (kind : Kind) → role ≡ roles.Silent
    → role_kind role ≡ Some kind → P
silent_kind role kind s e = absurd (let f : None ≡ Some kind = sym (ap role_kind s) ∙ e in cc)

module _ (ss : List Sense) (us : List Usage) (names own : List Naming) (from : ℕ) (kind : Kind)
  where
    group_kind : (recursive : Bool) (inner : List Naming) (bs : List Bound) (role : Role)
        → IsGroupRole ss us inner from recursive bs role → role_kind role ≡ Some kind
        → Some kinds.Group ≡ Some kind
    group_kind recursive inner bs (roles.Group r bodies) h e = e
    group_kind recursive inner bs (roles.Check c) h e = absurd h
    group_kind recursive inner bs roles.Silent h e = absurd h

    check_kind : (word : CheckWord) (body : Term) (role : Role)
        → IsCheckRole ss us names from word body role → role_kind role ≡ Some kind
        → Some kinds.Check ≡ Some kind
    check_kind word body (roles.Group r bodies) h e = absurd h
    check_kind word body (roles.Check c) h e = e
    check_kind word body roles.Silent h e = absurd h

    one_kind : (x : code_item.Item) (r : ResolvedItem)
        → IsResolvedIn ss us names own from (outline_of x) r → role_kind r.role ≡ Some kind
        → node_kind (clause_of x) ≡ Some kind
    one_kind (items.Let true group) r h e =
        group_kind true own (map bound_value_of group.items) r.role h.0 e
    one_kind (items.Let false group) r h e =
        group_kind false names (map bound_value_of group.items) r.role h.0 e
    one_kind (items.Function n ps b) r h e = silent_kind r.role kind h.0 e
    one_kind (items.Check c l) r h e = check_kind c.word (term_of c.body) r.role h.0 e
    one_kind (items.Flag c l) r h e = check_kind c.word (term_of c.body) r.role h.0 e
    one_kind (items.Show hidden shown) r h e = silent_kind r.role kind h.0 e
    one_kind (items.Include n) r h e = silent_kind r.role kind h.0 e

pub kinds_of_roles : (ss : List Sense) (us : List Usage) (names : List Naming) (at : ℕ)
    (xs : List code_item.Item) (resolved : List ResolvedItem)
    → AreResolved ss us names at (map outline_of xs) resolved
    → (index : ℕ) (r : ResolvedItem) (kind : Kind) → slice_get resolved index ≡ Some r
    → role_kind r.role ≡ Some kind → kind_at xs index ≡ Some kind
kinds_of_roles ss us names at [] [] h index r kind found e =
    absurd (let f : None ≡ Some r = found in cc)
kinds_of_roles ss us names at [] (q ∷ rs) h index r kind found e = absurd h
kinds_of_roles ss us names at (x ∷ xs) [] h index r kind found e = absurd h
kinds_of_roles ss us names at (x ∷ xs) (q ∷ rs) h zero r kind found e =
    one_kind ss us names (names_after ss names at (outline_of x)) (length names) kind x q h.0
    (ap (λ (p : ResolvedItem). role_kind p.role) (same_Some q r found) ∙ e)
kinds_of_roles ss us names at (x ∷ xs) (q ∷ rs) h (suc index) r kind found e =
    kinds_of_roles (senses_after ss names (outline_of x)) (usages_after us names at (outline_of x))
    (names_after ss names at (outline_of x)) (at + 1) xs rs h.1 index r kind found e
