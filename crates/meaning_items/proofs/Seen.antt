-- An expression of an item means, in a candidate, what its tree means over the columns.
use Rattle.std.proofs.Common.{ℕ, zero, suc, ◌≡◌, ◌<◌, ◌≤◌, ◌↔◌, List, [], ◌∷◌, length, Bool, true, false, nat_le, Option, Some, None, refl, ap, sym, ◌∙◌, subst, arith}
use Rattle.std.specs.Prelude.{◌-◌, if◌then◌else◌, slice_get, unwrap_or}
use Rattle.std.specs.List.{AllZip}
use Rattle.std.proofs.lemmas.Bool.{leb-true}
use denote.Ref.{Bor}
use Rattle.text_values.specs.ModelValue.{Term}
use Rattle.bit_rows.specs.Relation.{Relation, Events, IsEvents, IsRelation}
use Rattle.binding_kinds.specs.declared.kinds.Kind.{Kind}
use Rattle.binding_kinds.specs.declared.kinds.Kind.TheVariants as kinds
use Rattle.binding_kinds.specs.declared.scope.Binder.{Binder}
use Rattle.binding_kinds.specs.declared.scope.Binder.TheVariants as binders
use Rattle.binding_kinds.specs.declared.scope.Found.{Found}
use Rattle.binding_kinds.specs.declared.scope.Input.{Input}
use Rattle.binding_kinds.specs.declared.scope.Used.{Used}
use Rattle.binding_kinds.specs.Value.{Naming}
use Rattle.binding_kinds.specs.Fits.{IsKnown, IsValue}
use Rattle.binding_kinds.specs.Formula.{Formula}
use Rattle.binding_kinds.specs.Functions.{formula_in}
use Rattle.binding_kinds.specs.Senses.{Sense, kind_in, term_fault}
use Rattle.binding_graph.specs.declared.resolved.ResolvedItem.{ResolvedItem}
use Rattle.binding_graph.specs.declared.resolved.Source.{Source}
use Rattle.binding_graph.specs.declared.resolved.Source.TheVariants as sources
use Rattle.binding_graph.specs.Inputs.{inputs_of}
use Rattle.binding_graph.specs.Meaning.{source_of, source_of_binder, set_tree, rel_tree, steps_of}
use Rattle.binding_graph.specs.Trees.{SetTree, RelTree}
use Rattle.candidate_spaces.specs.declared.candidate.Space.{Space}
use Rattle.candidate_spaces.specs.Space.{Candidate}
use Rattle.cat_machine.specs.declared.column.Column.{Column}
use Rattle.cat_machine.specs.declared.column.Column.TheVariants as columns
use Rattle.cat_machine.specs.Columns.{HasColumnValue}
use Rattle.cat_machine.specs.Executions.{events_of, EventsAt, PairsAt}
use Rattle.cat_machine.specs.Meaning.{MeansSet, MeansRelation}
use Rattle.base_names.specs.Known.{EventsFound}
use Rattle.cat_machine.specs.Named.{PairsFound, ColumnEvents, ColumnPairs, InputEvents, InputPairs, OwnPairs, WithOwn}
use Rattle.cat_machine.specs.Values.{IsFor, IsMeaning}
use Rattle.from_scratch.specs.Answers.{AreItemColumns, IsNamed as IsNamedColumn, AreNamed as AreNamedColumns}
use Rattle.meaning.specs.Cat.{Meaning, ASet, ARelation, Nothing, Names, meaning_of}
use Rattle.meaning_items.specs.Formulas.{HasNames}
use Rattle.meaning_items.specs.Bound.{value_at}
use Rattle.meaning_items.proofs.Items.{AreSound}
use Rattle.meaning_items.proofs.Slots.{names_more, names_both, formula_below}
use Rattle.meaning_items.specs.Alike.{IsAs, HasSource}
use Rattle.meaning_items.proofs.Own.{outer_pairs}
use Rattle.meaning_items.proofs.Terms.{term_as}
use Rattle.meaning_items.specs.Slots.{naming_in, IsInputMeant, IsSlotMeant, AreSlotsMeant}
use Rattle.meaning_items.proofs.Naming.{IsNamed, IsUsedName, AreUsedNames, input_at}
use Rattle.meaning_items.proofs.Used.{Extends, IsUsed, IsCovered}

zip_at : {X Y : Type 0} (R : X → Y → Type 0) (xs : List X) (ys : List Y) → AllZip R xs ys
    → (i : ℕ) (x : X) → slice_get xs i ≡ Some x → (y : Y) × (slice_get ys i ≡ Some y) × R x y
zip_at R [] [] h i x e = absurd (let f : None ≡ Some x = e in cc)
zip_at R [] (y ∷ ys) h i x e = absurd h
zip_at R (w ∷ xs) [] h i x e = absurd h
zip_at R (w ∷ xs) (y ∷ ys) h zero x e =
    let same : w ≡ x = let f : Some w ≡ Some x = e in cc in
    (y, refl, subst (λ v. R v y) same h.0)
zip_at R (w ∷ xs) (y ∷ ys) h (suc i) x e = zip_at R xs ys h.1 i x e

bound_one : (i j : Input) → binders.Bound i ≡ binders.Bound j → i ≡ j
bound_one i j e = cc

module _ (space : Space) (rs : List ResolvedItem) (k : ℕ) (one : Candidate)
    (names : List Naming) (value : ℕ → Meaning ℕ) (from : ℕ)
    (meant : (slot : ℕ) (n : Naming) → slot < from → naming_in names slot ≡ Some n
    → IsSlotMeant space rs k one n.kind (value slot) n.binder)
    (us : List Used) (named : AreUsedNames names us) (inputs : List (Bor Column))
    (given : AreNamedColumns (λ j ds. AreItemColumns space rs j ds) (inputs_of us) inputs) where
  outer_source : (vs : List Used) (g : Found) → g.slot < from
      → source_of vs from g ≡ source_of_binder vs g.slot g.binder
  outer_source vs g lt = at_test (nat_le from g.slot) (leb-true from g.slot)
    where
      at_test : (t : Bool) → (t ≡ true → from ≤ g.slot)
          → (if t then sources.Own (g.slot - from) else source_of_binder vs g.slot g.binder)
          ≡ source_of_binder vs g.slot g.binder
      at_test true le = let past = le refl in absurd (omega (arith, past, lt))
      at_test false le = refl

  -- a name of another item has the value of its column
  input_source : (vs : List Used) → Extends vs us → (g : Found) (i : Input) (n : Naming)
      → naming_in names g.slot ≡ Some n → n.binder ≡ binders.Bound i → IsUsed vs g.slot
      → IsInputMeant space rs k one g.kind (value g.slot) i
      → IsAs g.kind (value g.slot)
      (EventsAt (events_of one) one inputs k (source_of_binder vs g.slot (binders.Bound i)))
      (PairsAt (events_of one) one inputs k (source_of_binder vs g.slot (binders.Bound i)))
  input_source vs more g i n there bound used is =
      subst
      (λ (o : Option ℕ). IsAs g.kind (value g.slot)
      (EventsAt (events_of one) one inputs k (sources.Input (unwrap_or o 0)))
      (PairsAt (events_of one) one inputs k (sources.Input (unwrap_or o 0)))) (sym used.1)
      (subst
      (λ (o : Option (Bor Column)). IsAs g.kind (value g.slot) (InputEvents o k (events_of one))
      (InputPairs o k (events_of one))) (sym column.1)
      (is column.2.0 column.0.now column.2.1 column.2.2))
    where
      at : (u : Used) × (u.slot ≡ g.slot) × IsUsedName names u
          × (slice_get (inputs_of us) used.0 ≡ Some u.input)
      at = input_at names us named g.slot used.0 (more g.slot used.0 used.1)

      same_naming : at.2.0 ≡ n
      same_naming =
          let e : Some at.2.0 ≡ Some n = sym at.2.1
          ∙ (ap (naming_in names) at.1 ∙ there) in cc

      same_input : at.0.input ≡ i
      same_input =
          bound_one at.0.input i (sym at.2.2 ∙ (ap (λ (m : Naming). m.binder) same_naming ∙ bound))

      column : (c : Bor Column) × (slice_get inputs used.0 ≡ Some c)
          × IsNamedColumn (λ j ds. AreItemColumns space rs j ds) i c
      column =
          zip_at (IsNamedColumn (λ j ds. AreItemColumns space rs j ds)) (inputs_of us) inputs given
          used.0 i (at.3 ∙ ap (λ (j : Input). Some j) same_input)

  pub source_meant : (vs : List Used) → Extends vs us → (g : Found) → IsNamed names g
      → IsCovered from vs g → g.slot < from
      → HasSource value (EventsAt (events_of one) one inputs k)
      (PairsAt (events_of one) one inputs k) vs from g
  source_meant vs more g is covers lt =
      subst
      (λ (s : Source). IsAs g.kind (value g.slot) (EventsAt (events_of one) one inputs k s)
      (PairsAt (events_of one) one inputs k s)) (sym (outer_source vs g lt))
      (at_binder g.binder refl is.value)
    where
      here : IsSlotMeant space rs k one g.kind (value g.slot) g.binder
      here =
          subst (λ (b : Binder). IsSlotMeant space rs k one g.kind (value g.slot) b) (sym is.binder)
          (subst (λ (kind : Kind). IsSlotMeant space rs k one kind (value g.slot) is.naming.binder)
          (sym is.kind) (meant g.slot is.naming lt is.there))

      at_binder : (b : Binder) → g.binder ≡ b → IsValue b
          → IsAs g.kind (value g.slot)
          (EventsAt (events_of one) one inputs k (source_of_binder vs g.slot b))
          (PairsAt (events_of one) one inputs k (source_of_binder vs g.slot b))
      at_binder (binders.Predefined p) e v =
          subst (λ (b : Binder). IsSlotMeant space rs k one g.kind (value g.slot) b) e here
      at_binder (binders.Bound i) e v =
          input_source vs more g i is.naming is.there (sym is.binder ∙ e) (covers i e lt)
          (subst (λ (b : Binder). IsSlotMeant space rs k one g.kind (value g.slot) b) e here).1
      at_binder (binders.Applicable f) e v = absurd v

-- ---- values of columns

set_as : (m : Meaning ℕ) (T X : ℕ → Type 0) (R Y : ℕ → ℕ → Type 0) → ((a : ℕ) → T a ↔ X a)
    → IsAs kinds.OfSet m T R → IsAs kinds.OfSet m X Y
set_as (ASet S) T X R Y t h = λ a. (λ s. (t a).0 ((h a).0 s), λ x. (h a).1 ((t a).1 x))
set_as (ARelation Q) T X R Y t h = absurd h
set_as Nothing T X R Y t h = absurd h

relation_as : (m : Meaning ℕ) (T X : ℕ → Type 0) (R Y : ℕ → ℕ → Type 0)
    → ((a b : ℕ) → R a b ↔ Y a b) → IsAs kinds.OfRelation m T R → IsAs kinds.OfRelation m X Y
relation_as (ASet S) T X R Y t h = absurd h
relation_as (ARelation Q) T X R Y t h =
    λ a b. (λ s. (t a b).0 ((h a b).0 s), λ x. (h a b).1 ((t a b).1 x))
relation_as Nothing T X R Y t h = absurd h

-- what a column has is what the code means
pub column_as : (K : Kind) → IsKnown K → (col : Column) → IsFor K col → (k n : ℕ) (s : Events)
    (r : Relation) → HasColumnValue col k s r → (sets : Source → ℕ → Type 0)
    (outer : Source → ℕ → ℕ → Type 0) (S : SetTree) (R : RelTree)
    → IsMeaning K (steps_of K S R) n sets outer s r → (m : Meaning ℕ)
    → IsAs K m (MeansSet n sets S) (MeansRelation n sets (WithOwn outer (OwnPairs n [])) R)
    → IsAs K m (ColumnEvents col k n) (ColumnPairs col k n)
column_as kinds.OfSet known (columns.Sets values) suits k n s r there sets outer S R means m h =
    let e : IsEvents s n (MeansSet n sets S) = means S refl in
    set_as m (MeansSet n sets S) (ColumnEvents (columns.Sets values) k n) _ _
    (λ a. subst (λ o. MeansSet n sets S a ↔ EventsFound o n a) (sym there)
    (λ x. (e.count, (e.members a).1 x), λ x. (e.members a).0 x.1)) h
column_as kinds.OfSet known (columns.Relations values) suits k n s r there sets outer S R means m h =
    absurd suits
column_as kinds.OfRelation known (columns.Sets values) suits k n s r there sets outer S R means m h =
    absurd suits
column_as kinds.OfRelation known (columns.Relations values) suits k n s r there sets outer S R means m h =
    let e : IsRelation r n (MeansRelation n sets (WithOwn outer (OwnPairs n [])) R) = means R refl in
    relation_as m _ _ (MeansRelation n sets (WithOwn outer (OwnPairs n [])) R)
    (ColumnPairs (columns.Relations values) k n)
    (λ a b. subst
    (λ o. MeansRelation n sets (WithOwn outer (OwnPairs n [])) R a b ↔ PairsFound o n a b)
    (sym there) (λ x. (e.count, (e.pairs a b).1 x), λ x. (e.pairs a b).0 x.1)) h
column_as kinds.OfAny known col suits k n s r there sets outer S R means m h = absurd known

-- ---- an expression of an item that is not recursive

module _ (space : Space) (rs : List ResolvedItem) (k : ℕ) (one : Candidate) (ss : List Sense)
    (names : List Naming) (N : Names ℕ)
    (sound : AreSound (λ a. a < events_of one) ss names N)
    (meant : AreSlotsMeant space rs k one names N)
    (us : List Used) (named : AreUsedNames names us) (inputs : List (Bor Column))
    (given : AreNamedColumns (λ j ds. AreItemColumns space rs j ds) (inputs_of us) inputs) where
  source_with : (vs : List Used) → Extends vs us → (g : Found)
      → (IsNamed names g × IsCovered (length names) vs g) × (g.slot < length names)
      → HasSource (value_at N) (EventsAt (events_of one) one inputs k)
      (WithOwn (PairsAt (events_of one) one inputs k) (OwnPairs (events_of one) [])) vs
      (length names) g
  source_with vs more g h =
      subst
      (λ (Q : ℕ → ℕ → Type 0). IsAs g.kind (value_at N g.slot)
      (EventsAt (events_of one) one inputs k (source_of vs (length names) g)) Q)
      (sym (outer_pairs (PairsAt (events_of one) one inputs k) (OwnPairs (events_of one) []) vs
      (length names) g h.1))
      (source_meant space rs k one names (value_at N) (length names)
      (λ slot n lt there. meant slot n there) us named inputs given vs more g h.0.0 h.0.1 h.1)

  pub seen_as : (t : Term) → term_fault ss names (length names) false t ≡ None → (vs : List Used)
      → Extends vs us → HasNames (IsNamed names) (formula_in ss names [] t)
      → HasNames (IsCovered (length names) vs) (formula_in ss names [] t)
      → IsAs (kind_in ss names t) (meaning_of (λ a. a < events_of one) N t)
      (MeansSet (events_of one) (EventsAt (events_of one) one inputs k)
      (set_tree vs (length names) (formula_in ss names [] t)))
      (MeansRelation (events_of one) (EventsAt (events_of one) one inputs k)
      (WithOwn (PairsAt (events_of one) one inputs k) (OwnPairs (events_of one) []))
      (rel_tree vs (length names) (formula_in ss names [] t)))
  seen_as t none vs more is covers =
      let f : Formula = formula_in ss names [] t in
      term_as (events_of one) ss names N sound (length names) t none
      (EventsAt (events_of one) one inputs k)
      (WithOwn (PairsAt (events_of one) one inputs k) (OwnPairs (events_of one) [])) vs
      (length names)
      (names_more
      (λ g. (IsNamed names g × IsCovered (length names) vs g) × (g.slot < length names))
      (HasSource (value_at N) (EventsAt (events_of one) one inputs k)
      (WithOwn (PairsAt (events_of one) one inputs k) (OwnPairs (events_of one) [])) vs
      (length names)) (source_with vs more) f
      (names_both (λ g. IsNamed names g × IsCovered (length names) vs g)
      (λ g. g.slot < length names) f
      (names_both (IsNamed names) (IsCovered (length names) vs) f is covers)
      (formula_below (λ a. a < events_of one) ss (value_at N) names N sound.same.1 [] t)))
