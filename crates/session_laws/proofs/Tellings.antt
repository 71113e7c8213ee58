-- What is told of a file is one.
use Rattle.std.proofs.Common.{◌≡◌, ℕ, ◌<◌, ◌⊎◌, inl, inr, List, [], ◌∷◌, map, Some, refl, sym, ap, ◌∙◌, subst, arith}
use Rattle.std.specs.Prelude.{slice_get, slice_index_or, option_map}
use Rattle.std.proofs.lemmas.Option.{slice_get-map}
use Rattle.binding_kinds.specs.declared.fault.ModelFault.{ModelFault}
use Rattle.binding_kinds.specs.Value as kinds
use Rattle.binding_kinds.specs.Faults.{HasNoFault, FirstFault}
use Rattle.fault_texts.specs.declared.place.ItemFault.{ItemFault}
use Rattle.fault_texts.specs.Found.{IsItemFault}
use Rattle.binding_kinds.specs.Outermost.{outermost_names}
use Rattle.fault_texts.specs.Signs.{signs_of_item}
use Rattle.command_answers.specs.declared.file.TextFile.{TextFile}
use Rattle.command_answers.specs.Reports.{IsModelTold, IsTestTold, IsToldOf}
use Rattle.command_answers.specs.Told.{IsFaultTold, IsRead, IsUnread}
use Rattle.from_scratch.proofs.Sole.{one_fault}
use Rattle.fault_texts.specs.Told.{item_number, fault_told, IsModelFaultText, IsFaultless, IsFaulty}
use Rattle.text_values.specs.declared.model.Item.{Item}
use Rattle.text_values.specs.ModelValue.{Clause}
use Rattle.text_values.specs.ModelValues.{clause_of, clauses_of}
use Rattle.session_laws.specs.Answers.{path_and_text, HasOneTelling, HasOneTellingOfBoth}
use Rattle.session_laws.proofs.Models.{equal_clauses}
use Rattle.session_laws.proofs.ReadFiles.{one_path, one_model_read, read_or_refused, refused_or_read, model_added, test_added}

-- ---- files that are refused

pub one_model_told : HasOneTelling IsModelTold
one_model_told file other lines more same h g =
    (model_added file other same [] [] h.0 g.0 [] [] lines more
    (record { said = refl; told = refl }) h.1 g.1).told

pub one_test_told : HasOneTelling (λ (file : TextFile). IsTestTold file [])
one_test_told file other lines more same h g =
    (test_added file other same [] [] h.0 g.0 [] [] lines more
    (record { said = refl; told = refl }) h.1 g.1).told

test_told_behind : (file other : TextFile) (faults also lines more : List ℕ)
    → path_and_text file ≡ path_and_text other → faults ≡ also → IsTestTold file faults lines
    → IsTestTold other also more → lines ≡ more
test_told_behind file other [] [] lines more same e h g =
    one_test_told file other lines more same h g
test_told_behind file other [] (c ∷ cs) lines more same e h g = absurd cc
test_told_behind file other (b ∷ bs) [] lines more same e h g = absurd cc
test_told_behind file other (b ∷ bs) (c ∷ cs) lines more same e h g = h ∙ e ∙ sym g

pub one_told_of_both : HasOneTellingOfBoth IsToldOf
one_told_of_both model same_model test same_test lines more same alike h g =
    test_told_behind test same_test h.faults g.faults lines more alike
    (one_model_told model same_model h.faults g.faults same (h.models, h.of_model)
    (g.models, g.of_model)) h.of_test g.of_test

-- ---- where the first fault of a model stands

-- the item and the index in it
record IsOnePlace (i j p q : ℕ) : Type 0 where
  items : i ≡ j
  indexes : p ≡ q

both_first : (i j p q : ℕ) (A B : Type 0) → (i < j) ⊎ ((i ≡ j) × ((p < q) ⊎ ((p ≡ q) × A)))
    → (j < i) ⊎ ((j ≡ i) × ((q < p) ⊎ ((q ≡ p) × B))) → IsOnePlace i j p q
both_first i j p q A B (inl x) (inl y) = absurd (omega (arith, x, y))
both_first i j p q A B (inl x) (inr y) = absurd (let e = y.0 in omega (arith, x, e))
both_first i j p q A B (inr x) (inl y) = absurd (let e = x.0 in omega (arith, e, y))
both_first i j p q A B (inr x) (inr y) = record { items = x.0; indexes = at_index x.1 y.1 }
  where
    at_index : (p < q) ⊎ ((p ≡ q) × A) → (q < p) ⊎ ((q ≡ p) × B) → p ≡ q
    at_index (inl u) (inl v) = absurd (omega (arith, u, v))
    at_index (inl u) (inr v) = sym v.0
    at_index (inr u) v = u.0

one_first : (clauses : List kinds.BareItem) (k l : ModelFault)
    (h : FirstFault [] outermost_names 0 clauses k) (g : FirstFault [] outermost_names 0 clauses l)
    → IsOnePlace h.item g.item h.index g.index
one_first clauses k l h g =
    both_first h.item g.item h.index g.index _ _ (h.none_before g.item g.index l g.there)
    (g.none_before h.item h.index k h.there)

text_is : (x y : List ℕ) → Some x ≡ Some y → x ≡ y
text_is x y e = cc

clause_is : (x y : Clause) → Some x ≡ Some y → x ≡ y
clause_is x y e = cc

-- the item, the fault and the sign
record IsOneFault (a b : ItemFault) : Type 0 where
  items : a.item ≡ b.item
  faults : a.fault ≡ b.fault
  signs : a.sign.now ≡ b.sign.now

one_place : (clauses : List kinds.BareItem) (a b : ItemFault) → IsItemFault clauses a → IsItemFault clauses b
    → IsOneFault a b
one_place clauses a b h g =
    let place = one_first clauses a.fault b.fault h.first g.first in
    record {
      items = sym h.item_is ∙ place.items ∙ g.item_is;
      faults = one_fault [] outermost_names 0 clauses a.fault b.fault h.first g.first;
      signs =
          text_is a.sign.now b.sign.now (sym h.sign_is
          ∙ (λ i. slice_get
          (signs_of_item (slice_index_or clauses (place.items i) kinds.Mute)) (place.indexes i))
          ∙ g.sign_is);
    }

-- ---- the lines of a fault

one_item : (items others : List Item) (k n : ℕ) (x y : Item) → clauses_of items ≡ clauses_of others
    → k ≡ n → slice_get items k ≡ Some x → slice_get others n ≡ Some y → clause_of x ≡ clause_of y
one_item items others k n x y same at_one h g =
    clause_is (clause_of x) (clause_of y)
    (sym (ap (option_map clause_of) h) ∙ sym (slice_get-map clause_of items k)
    ∙ (λ i. slice_get (same i) (at_one i))
    ∙ slice_get-map clause_of others n ∙ ap (option_map clause_of) g)

module _ (name other : List ℕ) (items others : List Item) (named : name ≡ other)
    (same : clauses_of items ≡ clauses_of others) where
  moved : (b : ItemFault) → IsItemFault (map kinds.bare_item others) b
      → IsItemFault (map kinds.bare_item items) b
  moved b g =
      subst (λ (cs : List kinds.BareItem). IsItemFault cs b) (sym (equal_clauses items others same)) g

  none_here : HasNoFault [] outermost_names 0 (map kinds.bare_item others)
      → HasNoFault [] outermost_names 0 (map kinds.bare_item items)
  none_here g =
      subst (λ (cs : List kinds.BareItem). HasNoFault [] outermost_names 0 cs)
      (sym (equal_clauses items others same)) g

  fault_or_none : (clauses : List kinds.BareItem) (a : ItemFault)
      → HasNoFault [] outermost_names 0 clauses → IsItemFault clauses a → ⊥
  fault_or_none clauses a none h = none h.first.item h.first.index a.fault h.first.there

  one_fault_text : (text more : List ℕ) → IsModelFaultText name [] items text → IsModelFaultText other [] others more
      → text ≡ more
  one_fault_text text more (IsFaultless none e) (IsFaultless also f) = e ∙ sym f
  one_fault_text text more (IsFaultless none e) (IsFaulty b stands y there f) =
      absurd (fault_or_none (map kinds.bare_item items) b none (moved b stands))
  one_fault_text text more (IsFaulty a stands x here e) (IsFaultless none f) =
      absurd (fault_or_none (map kinds.bare_item items) a (none_here none) stands)
  one_fault_text text more (IsFaulty a stands x here e) (IsFaulty b also y there f) =
      let one = one_place (map kinds.bare_item items) a b stands (moved b also) in
      let item = one_item items others a.item b.item x y same one.items here there in
      e
      ∙ (λ i. fault_told (named i) (item_number [] (one.items i)) (one.faults i) (one.signs i)
      (item i)) ∙ sym f

pub one_fault_told : HasOneTelling IsFaultTold
one_fault_told file other lines more same (IsRead m read told) (IsRead n known also) =
    one_fault_text file.path.now other.path.now m.items.items n.items.items
    (one_path file other same)
    (one_model_read file other same (clauses_of m.items.items) (clauses_of n.items.items) read
    known)
    lines more told also
one_fault_told file other lines more same (IsRead m read told) (IsUnread rule offset refused e) =
    absurd (read_or_refused file other same (clauses_of m.items.items) rule offset read refused)
one_fault_told file other lines more same (IsUnread rule offset refused e) (IsRead n known also) =
    absurd (refused_or_read file other same (clauses_of n.items.items) rule offset refused known)
one_fault_told file other lines more same (IsUnread rule offset refused e)
    (IsUnread again place blamed f) = e ∙ sym f
