-- Whether the checks and the flags of a model without faults are met is decided.
use Rattle.std.proofs.Common.{◌≡◌, inl, ℕ, zero, suc, Bool, true, false, List, [], ◌∷◌, length, Contains}
use Rattle.text_values.specs.declared.model.CheckWord.{CheckWord}
use Rattle.text_values.specs.declared.model.CheckWord.TheVariants.{Acyclic, Irreflexive, Empty}
use Rattle.text_values.specs.ModelValue.{Checked, Clause, Binding, Function, Checking, Flagging, Showing, Including}
use Rattle.meaning.specs.Sets.{IsIrreflexive, IsEmpty}
use Rattle.meaning.specs.Cat.{Meaning, ASet, ARelation, Names, ToFunction, meaning_of, with_arguments, Least, names_after, HasProperty, NegatedIf, IsMet, IsItemMet, AreMet, IsFlagMet}
use Rattle.meaning.specs.Faults.{Scope, known_after, faults_of_item, faults_from, outermost_scope}
use Rattle.meaning.specs.Evaluates.{outermost}
use Rattle.meaning_laws.proofs.Growing.{AreKnown, no_parts, group_grows, known_behind, outermost_known}
use Rattle.meanings_exist.proofs.Decisions.{Decided, decided_as, none_decided, not_decided, both_decided}
use Rattle.meanings_exist.proofs.Finite.{finite_list, each_decided}
use Rattle.meanings_exist.proofs.Paths.{acyclic_decided}
use Rattle.meanings_exist.specs.ModelLaws.{ChecksAreDecided, FlagsAreDecided}
use Rattle.meanings_exist.proofs.Tame.{IsTameSet, IsTameRelation, Frame}
use Rattle.meanings_exist.proofs.Operators.{IsTame}
use Rattle.meanings_exist.proofs.Expressions.{TameNames, more, a_function, meaning_tame, arguments_tame, group_tame, bodies_tame}
use Rattle.meanings_exist.proofs.Least.{least_tame}
use Rattle.meanings_exist.proofs.Predefined.{frame, outermost_tame}

-- ---- checks

module _ {E : Type 0} (F : Frame E) where
  irreflexive_or_not : (R : E → E → Type 0) → IsTameRelation F.things R
      → Decided (IsIrreflexive R)
  irreflexive_or_not R r =
      decided_as (λ h a loop. h a (r.from a a loop) loop) (λ h a there loop. h a loop)
      (each_decided (λ a. Contains F.things a) (λ a. R a a → ⊥) (finite_list F.things)
      (λ a there. not_decided (r.decided a a)))

  empty_or_not : (R : E → E → Type 0) → IsTameRelation F.things R → Decided (IsEmpty R)
  empty_or_not R r =
      decided_as (λ h a b pair. h a (r.from a b pair) b (r.into a b pair) pair)
      (λ h a first b second pair. h a b pair)
      (each_decided (λ a. Contains F.things a)
      (λ a. (b : E) → Contains F.things b → R a b → ⊥) (finite_list F.things)
      (λ a first. each_decided (λ b. Contains F.things b) (λ b. R a b → ⊥)
      (finite_list F.things) (λ b second. not_decided (r.decided a b))))

  no_member_or_not : (S : E → Type 0) → IsTameSet F.things S → Decided ((a : E) → S a → ⊥)
  no_member_or_not S s =
      decided_as (λ h a is. h a (s.inside a is) is) (λ h a there is. h a is)
      (each_decided (λ a. Contains F.things a) (λ a. S a → ⊥) (finite_list F.things)
      (λ a there. not_decided (s.decided a)))

  property_or_not : (word : CheckWord) (m : Meaning E) → IsTame F.things m
      → Decided (HasProperty word m)
  property_or_not Acyclic (ARelation R) h = acyclic_decided R F.things h.into h.decided
  property_or_not Irreflexive (ARelation R) h = irreflexive_or_not R h
  property_or_not Empty (ARelation R) h = empty_or_not R h
  property_or_not Empty (ASet S) h = no_member_or_not S h
  property_or_not word m h = none_decided

  negated_or_not : (b : Bool) (P : Type 0) → Decided P → Decided (NegatedIf b P)
  negated_or_not false P d = d
  negated_or_not true P d = not_decided d

  met_or_not : (N : Names E) → TameNames F.things N → (check : Checked)
      → Decided (IsMet F.all N check)
  met_or_not N names check =
      negated_or_not check.negated (HasProperty check.word (meaning_of F.all N check.body))
      (property_or_not check.word (meaning_of F.all N check.body)
      (meaning_tame F N names check.body))

  -- ---- the names behind an item

  tame_behind : (S : Scope) (N : Names E) → AreKnown S N → TameNames F.things N → (c : Clause)
      → faults_of_item S c ≡ [] → TameNames F.things (names_after F.all N c)
  tame_behind S N known names (Binding true group) e =
      group_tame F.things (Least F.all N group)
      (least_tame F N names group (group_grows F.all S N known.rise group e)) group N names
  tame_behind S N known names (Binding false group) e = bodies_tame F N names group N names
  tame_behind S N known names (Function n ps body) e =
      more n
      (ToFunction (length ps) (λ ms. meaning_of F.all (with_arguments ps ms N) body)) N
      (a_function (length ps) (λ ms. meaning_of F.all (with_arguments ps ms N) body)
      (λ ms all. meaning_tame F (with_arguments ps ms N)
      (arguments_tame F.things ps ms N all names) body))
      names
  tame_behind S N known names (Checking check label) e = names
  tame_behind S N known names (Flagging check label) e = names
  tame_behind S N known names (Showing hidden shown) e = names
  tame_behind S N known names (Including path) e = names

  item_or_not : (N : Names E) → TameNames F.things N → (c : Clause)
      → Decided (IsItemMet F.all N c)
  item_or_not N names (Checking check label) = met_or_not N names check
  item_or_not N names (Binding recursive group) = inl tt
  item_or_not N names (Function n ps body) = inl tt
  item_or_not N names (Flagging check label) = inl tt
  item_or_not N names (Showing hidden shown) = inl tt
  item_or_not N names (Including path) = inl tt

  -- ---- all items

  all_or_not : (S : Scope) (N : Names E) → AreKnown S N → TameNames F.things N
      → (cs : List Clause) → faults_from S cs ≡ [] → Decided (AreMet F.all N cs)
  all_or_not S N known names [] e = inl tt
  all_or_not S N known names (c ∷ cs) e =
      let parts : (faults_of_item S c ≡ []) × (faults_from (known_after S c) cs ≡ []) =
      no_parts (faults_of_item S c) (faults_from (known_after S c) cs) e in
      both_decided (item_or_not N names c)
      (all_or_not (known_after S c) (names_after F.all N c) (known_behind F.all S N known c)
      (tame_behind S N known names c parts.0) cs parts.1)

  flag_or_not : (S : Scope) (N : Names E) → AreKnown S N → TameNames F.things N
      → (cs : List Clause) → faults_from S cs ≡ [] → (i : ℕ)
      → Decided (IsFlagMet F.all N cs i)
  flag_or_not S N known names [] e i = none_decided
  flag_or_not S N known names (Flagging check name ∷ cs) e zero = met_or_not N names check
  flag_or_not S N known names (Checking check name ∷ cs) e zero = none_decided
  flag_or_not S N known names (Binding recursive group ∷ cs) e zero = none_decided
  flag_or_not S N known names (Function n ps body ∷ cs) e zero = none_decided
  flag_or_not S N known names (Showing hidden shown ∷ cs) e zero = none_decided
  flag_or_not S N known names (Including path ∷ cs) e zero = none_decided
  flag_or_not S N known names (c ∷ cs) e (suc i) =
      let parts : (faults_of_item S c ≡ []) × (faults_from (known_after S c) cs ≡ []) =
      no_parts (faults_of_item S c) (faults_from (known_after S c) cs) e in
      flag_or_not (known_after S c) (names_after F.all N c) (known_behind F.all S N known c)
      (tame_behind S N known names c parts.0) cs parts.1 i

-- ---- of an execution

pub checks_decided : ChecksAreDecided
checks_decided t x items e =
    all_or_not (frame t x) outermost_scope (outermost t x) (outermost_known t x)
    (outermost_tame t x) items e

pub flags_decided : FlagsAreDecided
flags_decided t x items i e =
    flag_or_not (frame t x) outermost_scope (outermost t x) (outermost_known t x)
    (outermost_tame t x) items e i
