-- What is known of the names, the functions and what they use that an item sees.
use Rattle.std.proofs.Common.{ℕ, zero, suc, ◌≡◌, ◌<◌, ◌+◌, ◌⊎◌, inl, inr, List, [], ◌∷◌, ◌++◌, length, reverse, Some, refl, sym, ap, ◌∙◌, subst, arith}
use Rattle.std.specs.Prelude.{slice_get}
use Rattle.std.proofs.lemmas.Option.{none-some, same_Some}
use Rattle.text_values.specs.declared.model.Item.{Item}
use Rattle.text_values.specs.ModelValue.{Term}
use Rattle.binding_kinds.specs.declared.kinds.Kind.TheVariants.{OfAny}
use Rattle.binding_kinds.specs.declared.scope.Binder.TheVariants as binders
use Rattle.binding_kinds.specs.declared.scope.Input.{Input}
use Rattle.binding_kinds.specs.declared.scope.Used.{Used}
use Rattle.binding_kinds.specs.Faults.{names_after, senses_after}
use Rattle.binding_kinds.specs.Functions.{formula_in, sense_of_function}
use Rattle.binding_kinds.specs.Senses.{Sense}
use Rattle.binding_kinds.specs.Value.{Naming, BareItem, Group, Check, Mute, Defined, bare_item}
use Rattle.binding_graph.specs.Usages.{Usage, with_values, usage_of_function, usages_after}
use Rattle.from_scratch.proofs.Ordered.{all_reverse}
use Rattle.meaning_items.specs.Formulas.{HasNames}
use Rattle.meaning_items.proofs.Slots.{names_more, names_both}
use Rattle.meaning_items.proofs.Growing.{Grows, senses_grown, usages_grown, named_grown, used_grown}
use Rattle.meaning_items.proofs.Naming.{naming_below, naming_more, IsNamed, AreNamedSenses, IsUsedName, AreUsedNames, AreNamedUsages, formula_named, values_named}
use Rattle.meaning_items.proofs.Used.{HasSlot, IsCovered, Covers, AllCover, used_slot, slot_reversed, covered}
use Rattle.binding_laws.specs.ItemLaws.{Scope, scope_after, scope_at}
use Rattle.binding_laws.proofs.Added.{extended_under}
use Rattle.binding_laws.proofs.Before.{get_kept, get_last, one_longer}
use Rattle.shape_laws.proofs.Told.{under_grows}

pub record IsNamedScope (s : Scope) : Type 0 where
  pub senses : AreNamedSenses s.names s.senses
  pub covers : AllCover s.usages s.senses
  pub named : AreNamedUsages s.names s.usages
  pub as_many : length s.usages ≡ length s.senses

last_or_before : {X : Type 0} (xs : List X) (x : X) (f : ℕ) (y : X)
    → slice_get (xs ++ x ∷ []) f ≡ Some y
    → (slice_get xs f ≡ Some y) ⊎ ((f ≡ length xs) × (x ≡ y))
last_or_before [] x zero y e = inr (refl, same_Some x y e)
last_or_before [] x (suc f) y e = absurd (none-some y e)
last_or_before (z ∷ xs) x zero y e = inl e
last_or_before (z ∷ xs) x (suc f) y e = elim (last_or_before xs x f y e) [
  | inl h ↦ inl h
  | inr h ↦ inr (ap suc h.0, h.1)
]

-- ---- one function more

module _ (s : Scope) (known : IsNamedScope s) (item : ℕ) (n : List ℕ) (ps : List (List ℕ)) (t : Term)
  where
    abbrev sense : Sense
    sense = sense_of_function s.senses s.names ps t

    abbrev usage : Usage
    usage = usage_of_function s.usages s.names item ps t

    abbrev used : List Used
    used = with_values s.usages s.names ps (length s.names) t []

    abbrev more : List Naming
    more = record { name = n; kind = OfAny; binder = binders.Applicable (length s.senses) } ∷ s.names

    grow : Grows s.names more
    grow slot m h =
        naming_more s.names
        (record { name = n; kind = OfAny; binder = binders.Applicable (length s.senses) }) slot m h

    formula_is : HasNames (IsNamed s.names) (formula_in s.senses s.names ps t)
    formula_is = formula_named s.senses s.names ps known.senses t

    function_covers : Covers usage sense
    function_covers = record {
      arity = refl;
      names = names_more (λ g. IsCovered (length s.names) used g × (g.slot < length s.names))
          (λ g. (i : Input) → g.binder ≡ binders.Bound i → HasSlot (reverse used) g.slot)
          (λ g h i is. slot_reversed used g.slot (used_slot used g.slot (h.0 i is h.1)))
          (formula_in s.senses s.names ps t)
          (names_both (IsCovered (length s.names) used) (λ g. g.slot < length s.names)
          (formula_in s.senses s.names ps t)
          (covered s.usages s.senses s.names ps (length s.names) known.covers t [])
          (names_more (IsNamed s.names) (λ g. g.slot < length s.names)
          (λ g h. naming_below s.names g.slot h.naming h.there) (formula_in s.senses s.names ps t)
          formula_is));
    }

    all_cover : AllCover (s.usages ++ usage ∷ []) (s.senses ++ sense ∷ [])
    all_cover f a e = elim (last_or_before s.senses sense f a e) [
      | inl h ↦ (
          let before = known.covers f a h in
          (before.0, get_kept s.usages (usage ∷ []) f before.0 before.1, before.2))
      | inr h ↦ (
        usage,
        subst (λ (k : ℕ). slice_get (s.usages ++ usage ∷ []) k ≡ Some usage)
            (known.as_many ∙ sym h.0) (get_last s.usages usage),
        subst (λ (q : Sense). Covers usage q) h.1 function_covers,
      )
    ]

    senses_named : AreNamedSenses more (s.senses ++ sense ∷ [])
    senses_named f a e = elim (last_or_before s.senses sense f a e) [
      | inl h ↦ senses_grown s.names more grow s.senses known.senses f a h
      | inr h ↦ subst (λ (q : Sense). HasNames (IsNamed more) q.formula) h.1
          (names_more (IsNamed s.names) (IsNamed more) (named_grown s.names more grow)
          (formula_in s.senses s.names ps t) formula_is)
    ]

    usages_named : AreNamedUsages more (s.usages ++ usage ∷ [])
    usages_named f u e = elim (last_or_before s.usages usage f u e) [
      | inl h ↦ usages_grown s.names more grow s.usages known.named f u h
      | inr h ↦ subst (λ (v : Usage). AreUsedNames more v.values) h.1
          (used_grown s.names more grow (reverse used)
          (all_reverse (IsUsedName s.names) used
          (values_named s.usages s.names ps (length s.names) known.named t [] tt)))
    ]

    many : length (s.usages ++ usage ∷ []) ≡ length (s.senses ++ sense ∷ [])
    many =
        let left = one_longer s.usages usage in
        let right = one_longer s.senses sense in
        let same = known.as_many in omega (arith, left, right, same)

-- ---- items

grown_scope : (s : Scope) (at : ℕ) (c : BareItem) → IsNamedScope s
    → senses_after s.senses s.names c ≡ s.senses → usages_after s.usages s.names at c ≡ s.usages
    → IsNamedScope (record {
      senses = senses_after s.senses s.names c;
      usages = usages_after s.usages s.names at c;
      names = names_after s.senses s.names at c;
    })
grown_scope s at c known senses usages =
    let grow = under_grows s.names (names_after s.senses s.names at c) (extended_under s.senses s.names at c) in
    record {
      senses =
          subst (AreNamedSenses (names_after s.senses s.names at c)) (sym senses)
          (senses_grown s.names (names_after s.senses s.names at c) grow s.senses known.senses);
      covers =
          subst (λ (us : List Usage). AllCover us (senses_after s.senses s.names c)) (sym usages)
          (subst (AllCover s.usages) (sym senses) known.covers);
      named =
          subst (AreNamedUsages (names_after s.senses s.names at c)) (sym usages)
          (usages_grown s.names (names_after s.senses s.names at c) grow s.usages known.named);
      as_many =
          ap (λ (us : List Usage). length us) usages
          ∙ (known.as_many ∙ sym (ap (λ (ss : List Sense). length ss) senses));
    }

next_scope : (s : Scope) (at : ℕ) (c : BareItem) → IsNamedScope s
    → IsNamedScope (record {
      senses = senses_after s.senses s.names c;
      usages = usages_after s.usages s.names at c;
      names = names_after s.senses s.names at c;
    })
next_scope s at (Group r bs) known = grown_scope s at (Group r bs) known refl refl
next_scope s at (Check w e) known = grown_scope s at (Check w e) known refl refl
next_scope s at Mute known = grown_scope s at Mute known refl refl
next_scope s at (Defined n ps b) known = record {
  senses = senses_named s known at n ps b;
  covers = all_cover s known at n ps b;
  named = usages_named s known at n ps b;
  as_many = many s known at n ps b;
}

pub named_at : (s : Scope) (at : ℕ) (xs : List Item) (k : ℕ) → IsNamedScope s
    → IsNamedScope (scope_at s at xs k)
named_at s at [] k known = known
named_at s at (x ∷ xs) zero known = known
named_at s at (x ∷ xs) (suc k) known =
    named_at (scope_after s at x) (at + 1) xs k (next_scope s at (bare_item x) known)
