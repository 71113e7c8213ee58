-- A name of an expression is read by its kind.
use Rattle.std.proofs.Common.{ℕ, zero, suc, ◌≡◌, ◌<◌, ◌≤◌, ◌-◌, List, [], ◌∷◌, Bool, true, false, nat_le, Option, Some, get_or, refl, sym, ap, ◌∙◌, subst}
use Rattle.std.specs.Prelude.{if◌then◌else◌, slice_get, unwrap_or}
use Rattle.std.specs.List.{AllZip}
use Rattle.std.proofs.lemmas.Bool.{leb-true, leb-false}
use Rattle.std.proofs.lemmas.Option.{none-some, same_Some, get_or_from_slice_get}
use Rattle.binding_kinds.specs.declared.kinds.Kind.{Kind}
use Rattle.binding_kinds.specs.declared.kinds.Kind.TheVariants.{OfRelation}
use Rattle.binding_kinds.specs.declared.scope.Binder.{Binder}
use Rattle.binding_kinds.specs.declared.scope.Binder.TheVariants as binders
use Rattle.binding_kinds.specs.declared.scope.Found.{Found}
use Rattle.binding_kinds.specs.declared.scope.Input.{Input}
use Rattle.binding_kinds.specs.declared.scope.Used.{Used}
use Rattle.binding_kinds.specs.Fits.{IsKnown, IsValue, IsTyped}
use Rattle.binding_kinds.specs.Formula.{Formula, Value, Parameter, Everything, NoPairs, NoEvents, Joined, Marked, Complement, Identity}
use Rattle.binding_kinds.specs.Outermost.{kind_of_predefined}
use Rattle.binding_kinds.specs.Value.{Naming}
use Rattle.binding_graph.specs.declared.resolved.ResolvedItem.{ResolvedItem}
use Rattle.binding_graph.specs.declared.resolved.Source.TheVariants as sources
use Rattle.binding_graph.specs.Inputs.{index_of, inputs_of}
use Rattle.binding_graph.specs.Lowering.{known}
use Rattle.binding_graph.specs.Meaning.{source_of, source_of_binder}
use Rattle.binding_shapes.specs.Shapes.{source_kind}
use Rattle.binding_shapes.proofs.Typed.{HasReadKinds, known_same}
use Rattle.meaning_items.specs.Formulas.{HasNames}
use Rattle.meaning_items.specs.Slots.{naming_in}
use Rattle.meaning_items.proofs.Naming.{IsNamed, IsUsedName, AreUsedNames, input_at}
use Rattle.meaning_items.proofs.Used.{Extends, IsUsed, IsCovered}
use Rattle.binding_laws.proofs.Placed.{same_input}
use Rattle.shape_laws.specs.Laws.{HasKind}

-- what holds of the element at that position of the first list, and of one of the second
zip_at : {X Y : Type 0} (R : X → Y → Type 0) (xs : List X) (ys : List Y) → AllZip R xs ys
    → (i : ℕ) (x : X) → slice_get xs i ≡ Some x → (y : Y) × (slice_get ys i ≡ Some y) × R x y
zip_at R [] [] h i x e = absurd (none-some x e)
zip_at R [] (y ∷ ys) h i x e = absurd h
zip_at R (w ∷ xs) [] h i x e = absurd h
zip_at R (w ∷ xs) (y ∷ ys) h zero x e = (y, refl, subst (λ v. R v y) (same_Some w x e) h.0)
zip_at R (w ∷ xs) (y ∷ ys) h (suc i) x e = zip_at R xs ys h.1 i x e

-- the kind of a naming by what it stands for: that of the predefined name, or that of each body that
-- is the input
abbrev pub IsKindOf : List ResolvedItem → Kind → Binder → Type 0
IsKindOf items kind (binders.Predefined p) = kind_of_predefined p ≡ kind
IsKindOf items kind (binders.Bound i) = (k : Kind) → HasKind items i k → k ≡ known kind
IsKindOf items kind (binders.Applicable f) = Unit {0}

-- names before the item are of their kinds, and those of the item itself are relations
pub record AreOfKinds (items : List ResolvedItem) (from : ℕ) (names : List Naming) : Type 0 where
  pub outer : (slot : ℕ) (n : Naming) → naming_in names slot ≡ Some n → slot < from
      → IsKindOf items n.kind n.binder
  pub own : (slot : ℕ) (n : Naming) → naming_in names slot ≡ Some n → from ≤ slot
      → n.kind ≡ OfRelation

module _ (items : List ResolvedItem) (from : ℕ) (names : List Naming)
    (of_kinds : AreOfKinds items from names) (us : List Used) (named : AreUsedNames names us)
    (kinds : List Kind) (given : AllZip (HasKind items) (inputs_of us) kinds) where
  input_kind : (vs : List Used) → Extends vs us → (g : Found) (i : Input) (n : Naming)
      → naming_in names g.slot ≡ Some n → n.binder ≡ binders.Bound i → IsUsed vs g.slot
      → g.slot < from
      → get_or kinds (unwrap_or (index_of vs g.slot) 0) OfRelation ≡ known n.kind
  input_kind vs more g i n there bound used lt =
      ap (λ (o : Option ℕ). get_or kinds (unwrap_or o 0) OfRelation) used.1
      ∙ (get_or_from_slice_get kinds used.0 kind.0 OfRelation kind.1 ∙ is kind.0 kind.2)
    where
      at : (u : Used) × (u.slot ≡ g.slot) × IsUsedName names u
          × (slice_get (inputs_of us) used.0 ≡ Some u.input)
      at = input_at names us named g.slot used.0 (more g.slot used.0 used.1)

      same_naming : at.2.0 ≡ n
      same_naming =
          same_Some at.2.0 n (sym at.2.1 ∙ (ap (naming_in names) at.1 ∙ there))

      same : at.0.input ≡ i
      same =
          same_input at.0.input i (sym at.2.2
          ∙ (ap (λ (m : Naming). m.binder) same_naming ∙ bound))

      kind : (k : Kind) × (slice_get kinds used.0 ≡ Some k) × HasKind items i k
      kind =
          zip_at (HasKind items) (inputs_of us) kinds given used.0 i
          (at.3 ∙ ap (λ (j : Input). Some j) same)

      is : (k : Kind) → HasKind items i k → k ≡ known n.kind
      is = subst (IsKindOf items n.kind) bound (of_kinds.outer g.slot n there lt)

  pub leaf_kind : (vs : List Used) → Extends vs us → (g : Found) → IsNamed names g
      → IsCovered from vs g → IsKnown g.kind → source_kind kinds (source_of vs from g) ≡ g.kind
  leaf_kind vs more g is covers fits =
      at_test (nat_le from g.slot) (leb-true from g.slot) (leb-false from g.slot)
    where
      at_binder : g.slot < from → (b : Binder) → g.binder ≡ b → IsValue b
          → source_kind kinds (source_of_binder vs g.slot b) ≡ g.kind
      at_binder lt (binders.Predefined p) e v =
          subst (IsKindOf items is.naming.kind) (sym is.binder ∙ e)
          (of_kinds.outer g.slot is.naming is.there lt) ∙ sym is.kind
      at_binder lt (binders.Bound i) e v =
          input_kind vs more g i is.naming is.there (sym is.binder ∙ e) (covers i e lt) lt
          ∙ (ap known (sym is.kind) ∙ known_same g.kind fits)
      at_binder lt (binders.Applicable f) e v = absurd v

      at_test : (t : Bool) → (t ≡ true → from ≤ g.slot) → (t ≡ false → g.slot < from)
          → source_kind kinds (if t then sources.Own (g.slot - from)
          else source_of_binder vs g.slot g.binder) ≡ g.kind
      at_test true le lt = sym (is.kind ∙ of_kinds.own g.slot is.naming is.there (le refl))
      at_test false le lt = at_binder (lt refl) g.binder refl is.value

  pub formula_kinds : (vs : List Used) → Extends vs us → (f : Formula) → IsTyped [] f
      → HasNames (IsNamed names) f → HasNames (IsCovered from vs) f → HasReadKinds kinds vs from f
  formula_kinds vs more (Value g) typed is covers = leaf_kind vs more g is covers typed
  formula_kinds vs more (Parameter i) typed is covers = tt
  formula_kinds vs more Everything typed is covers = tt
  formula_kinds vs more NoPairs typed is covers = tt
  formula_kinds vs more NoEvents typed is covers = tt
  formula_kinds vs more (Joined op a b) typed is covers = (
    formula_kinds vs more a typed.0 is.0 covers.0,
    formula_kinds vs more b typed.1 is.1 covers.1,
  )
  formula_kinds vs more (Marked op a) typed is covers = formula_kinds vs more a typed.0 is covers
  formula_kinds vs more (Complement a) typed is covers = formula_kinds vs more a typed is covers
  formula_kinds vs more (Identity a) typed is covers = formula_kinds vs more a typed.0 is covers
