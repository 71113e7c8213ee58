-- One candidate more.
use Rattle.std.proofs.Common.{ℕ, ◌≡◌, ◌<◌, ◌+◌, ◌↔◌, ◌⊎◌, ◌∙◌, ◌++◌, inl, inr, zero, suc, sym, ap, refl, arith, List, [], ◌∷◌, length, length-append, Bool, true, false, IsTrue}
use Rattle.std.specs.Prelude.{Some, slice_get, not}
use mathlib.Core.Bool.{beq}
use Rattle.std.proofs.lemmas.Bool.{false≢true}
use Rattle.std.proofs.lemmas.Option.{none-some, same_Some}
use Rattle.bit_rows.specs.Relation.{Relation, Has, IsRelation, Events, IsMember, IsEvents}
use Rattle.binding_kinds.specs.declared.kinds.Kind.{Kind}
use Rattle.binding_kinds.specs.declared.kinds.Kind.TheVariants as kinds
use Rattle.binding_graph.specs.Trees.{SetTree, RelTree, set_code, rel_code}
use Rattle.cat_machine.specs.Meaning.{MeansSet, MeansRelation}
use Rattle.cat_machine.specs.Named.{EventsIn, PairsOutside, WithOwn, OwnPairs}
use denote.Ref.{Bor}
use Rattle.text_values.specs.declared.model.CheckWord.{CheckWord}
use Rattle.text_values.specs.declared.model.CheckWord.TheVariants as words
use Rattle.binding_graph.specs.declared.resolved.CheckCode.{CheckCode}
use Rattle.cat_machine.specs.Seen.{NamedValues}
use Rattle.cat_machine.specs.declared.column.Column.{Column}
use Rattle.cat_machine.specs.Checks.{Holds, IsEmptySet}
use Rattle.cat_eval.specs.OverNames.{IsAnswerOver, AreAnswersOver}
use Rattle.cat_machine.specs.Values.{Unless}
use Rattle.cat_machine.proofs.Same.{Same, SameSet}
use Rattle.bit_rows.proofs.Closing.{Plus-map}

pub get_more : {X : Type 0} (xs : List X) (x y : X) (k : ℕ) → slice_get (xs ++ x ∷ []) k ≡ Some y
    → (slice_get xs k ≡ Some y) ⊎ ((k ≡ length xs) × (x ≡ y))
get_more [] x y zero e = inr (refl, same_Some x y e)
get_more [] x y (suc k) e = absurd (none-some y e)
get_more (z ∷ zs) x y zero e = inl e
get_more (z ∷ zs) x y (suc k) e =
    elim (get_more zs x y k e) [ inl old ↦ inl old | inr t ↦ inr (omega (arith, t.0), t.1) ]

pub get_within : {X : Type 0} (xs : List X) (y : X) (k : ℕ) → slice_get xs k ≡ Some y
    → k < length xs
get_within [] y k e = absurd (none-some y e)
get_within (z ∷ zs) y zero e = omega arith
get_within (z ∷ zs) y (suc k) e = let lt : k < length zs = get_within zs y k e in omega (arith, lt)

pub answers_more : (check : CheckCode) (inputs : List (Bor Column)) (bases : List NamedValues)
    (answers : List Bool) (base : NamedValues) (answer : Bool)
    → AreAnswersOver check inputs bases answers
    → IsAnswerOver check inputs base (length answers) check.code.kind answer
    → AreAnswersOver check inputs (bases ++ base ∷ []) (answers ++ answer ∷ [])
answers_more check inputs bases answers base answer before now = (
  length-append answers (answer ∷ []) ∙ ap (λ (n : ℕ). n + 1) before.0
      ∙ sym (length-append bases (base ∷ [])),
  (λ k b a at_b at_a. elim (get_more bases base b k at_b) [
    | inl old_b ↦ elim (get_more answers answer a k at_a) [
      | inl old_a ↦ before.1 k b a old_b old_a
      | inr t ↦ absurd (apart k (get_within bases b k old_b) t.0)
    ]
    | inr new_b ↦ elim (get_more answers answer a k at_a) [
      | inl old_a ↦ absurd (apart_too k (get_within answers a k old_a) new_b.0)
      | inr t ↦ rw (t.0, ← new_b.1, ← t.1) now
    ]
  ]),
)
  where
    apart : (k : ℕ) → k < length bases → k ≡ length answers → ⊥
    apart k lt e = omega (arith, lt, e, before.0)

    apart_too : (k : ℕ) → k < length answers → k ≡ length bases → ⊥
    apart_too k lt e = omega (arith, lt, e, before.0)

pub holds_same : (word : CheckWord) (R S : ℕ → ℕ → Type 0) → Same R S → Holds word R ↔ Holds word S
holds_same words.Acyclic R S s = (
  (λ h a p. h a (Plus-map S R (λ x y. (s x y).1) a a p)),
  (λ h a p. h a (Plus-map R S (λ x y. (s x y).0) a a p)),
)
holds_same words.Irreflexive R S s = ((λ h a p. h a ((s a a).1 p)), (λ h a p. h a ((s a a).0 p)))
holds_same words.Empty R S s = ((λ h a b p. h a b ((s a b).1 p)), (λ h a b p. h a b ((s a b).0 p)))

pub empty_same : (S T : ℕ → Type 0) → SameSet S T → IsEmptySet S ↔ IsEmptySet T
empty_same S T s = ((λ h a p. h a ((s a).1 p)), (λ h a p. h a ((s a).0 p)))

-- a test and whether it is turned round
pub turned_if : (met negated : Bool) (P : Type 0) → IsTrue met ↔ P
    → IsTrue (not (beq met negated)) ↔ Unless negated P
turned_if true true P h = ((λ e. absurd (false≢true e)), (λ other. absurd (other (h.0 refl))))
turned_if true false P h = ((λ _. h.0 refl), (λ _. refl))
turned_if false true P h = ((λ _ p. false≢true (h.1 p)), (λ _. refl))
turned_if false false P h = ((λ e. absurd (false≢true e)), h.1)

abbrev is_of_set : Kind → Bool
is_of_set kinds.OfSet = true
is_of_set kinds.OfRelation = false
is_of_set kinds.OfAny = false

module _ (check : CheckCode) (inputs : List (Bor Column)) (base : NamedValues) (k : ℕ) (met : Bool)
    (us : List Events) (vs : List Relation) where
  -- what the steps leave, asked as the check's word says
  pub answer_is : ((t : SetTree) → check.code.steps.items ≡ set_code t []
      → (v : Events) × (us ≡ v ∷ [])
      × IsEvents v base.count (MeansSet base.count (EventsIn base inputs k) t))
      → ((t : RelTree) → check.code.steps.items ≡ rel_code t []
      → (v : Relation) × (vs ≡ v ∷ [])
      × IsRelation v base.count (MeansRelation base.count (EventsIn base inputs k)
      (WithOwn (PairsOutside base inputs k) (OwnPairs base.count [])) t))
      → ((s : Events) (rest : List Events) → check.code.kind ≡ kinds.OfSet → us ≡ s ∷ rest
      → IsTrue met ↔ IsEmptySet (IsMember s))
      → ((r : Relation) (rest : List Relation) → (check.code.kind ≡ kinds.OfSet → ⊥) → vs ≡ r ∷ rest
      → IsTrue met ↔ Holds check.word (Has r))
      → (kind : Kind) → check.code.kind ≡ kind
      → IsAnswerOver check inputs base k kind (not (beq met check.negated))
  answer_is sets rels set_met rel_met kinds.OfSet is = λ t code.
      let made = sets t code in
      let same = set_met made.0 [] is made.1 in
      let other = empty_same (IsMember made.0) (MeansSet base.count (EventsIn base inputs k) t) made.2.members in
      turned_if met check.negated _ ((λ h. other.0 (same.0 h)), (λ h. same.1 (other.1 h)))
  answer_is sets rels set_met rel_met kinds.OfRelation is = λ t code.
      let made = rels t code in
      let same = rel_met made.0 [] (λ e. false≢true (ap is_of_set (sym is ∙ e))) made.1 in
      let other = holds_same check.word (Has made.0) (MeansRelation base.count (EventsIn base inputs k) (WithOwn (PairsOutside base inputs k) (OwnPairs base.count [])) t) made.2.pairs in
      turned_if met check.negated _ ((λ h. other.0 (same.0 h)), (λ h. same.1 (other.1 h)))
  answer_is sets rels set_met rel_met kinds.OfAny is = λ t code.
      let made = rels t code in
      let same = rel_met made.0 [] (λ e. false≢true (ap is_of_set (sym is ∙ e))) made.1 in
      let other = holds_same check.word (Has made.0) (MeansRelation base.count (EventsIn base inputs k) (WithOwn (PairsOutside base inputs k) (OwnPairs base.count [])) t) made.2.pairs in
      turned_if met check.negated _ ((λ h. other.0 (same.0 h)), (λ h. same.1 (other.1 h)))

-- before the first candidate
pub no_answers : (check : CheckCode) (inputs : List (Bor Column))
    → AreAnswersOver check inputs [] []
no_answers check inputs = (refl, (λ k base answer at_b at_a. absurd (none k base at_b)))
  where
    none : (k : ℕ) (base : NamedValues) → slice_get [] k ≡ Some base → ⊥
    none k base e = absurd (omega (arith, get_within [] base k e))
