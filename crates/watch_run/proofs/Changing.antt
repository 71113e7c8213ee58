-- Which edits a version makes: changes of items, and parts of tests.
use Rattle.std.proofs.Common.{◌≡◌, ℕ, ◌<◌, List, [], ◌∷◌, length, map, get_or, Bool, true, false, not, Option, Some, None, Result, Ok, Err, refl, sym, ap, subst, ◌∙◌, arith}
use Rattle.std.specs.Prelude.{◌↔◌, ◌==◌, slice_get, is_some, All, Vec, vec_len, IsTrue, IfOk, IfSome}
use Rattle.std.specs.declared.alloc.AllocError.{AllocError}
use Rattle.std.specs.declared.alloc.Global.{Global}
use Rattle.std.proofs.lemmas.Bool.Decides.{Decides-eqb}
use Rattle.std.proofs.lemmas.List.{length-map}
use Rattle.std.proofs.lemmas.List.Elements.{All-head}
use Rattle.std.proofs.lemmas.List.Folds.{list_any_at}
use Rattle.std.proofs.lemmas.Option.{same_Some}
use Rattle.text_values.specs.declared.model.Item.{Item}
use Rattle.text_values.specs.declared.test.Test.{Test}
use Rattle.text_values.specs.TestValue.{Content, content_of}
use Rattle.text_values.specs.ModelValue.{Clause}
use Rattle.text_values.specs.ModelValues.{clause_of, clauses_of}
use Rattle.litmus_grammar.specs.Texts.{ReadsTest}
use Rattle.bench_texts.specs.declared.fault.EditFault.{EditFault}
use Rattle.bench_texts.specs.BenchTexts.{BenchTexts, changed_at, items_with_numbers}
use Rattle.bench_texts.specs.Edits.{Edit}
use Rattle.bench_texts.specs.declared.model.NamedModel.{NamedModel}
use Rattle.bench_texts.specs.Held.{plain_model}
use Rattle.session_answers.specs.Cells.{test_named, model_named}
use Rattle.session_answers.proofs.Named.{clauses_of-items}
use Rattle.watch_edits.specs.Changes.{with_changes, IsCommonEnd, IsBeforeEnd, IsNeededChange}
use Rattle.watch_edits.specs.Parts.{with_parts, Differs, HasSameShape}
use Rattle.watch_edits.specs.Edits.{IsPartEdit, item_edit}
use Rattle.watch_edits.specs.declared.items.ItemChange.{ItemChange}
use Rattle.watch_edits.specs.declared.items.ItemChange.TheVariants as changes
use Rattle.watch_edits.specs.declared.parts.TestPart.{TestPart}
use Rattle.watch_edits.specs.declared.parts.TestPart.TheVariants as parts
use Rattle.watch_run.specs.Holding.{HoldsItems, IsSameButModel, held_name, holds_name}
use Rattle.watch_run.specs.Edits.{IsEditTried, IsModelEdit, clauses_in, AreChanges, IsChangeEdit, IsChangeTried, AreTestParts, HasNoParts, IsPartTried, IsStillHeld, IsFullBeside}
use Rattle.watch_run.proofs.Lists.{nothing_of, got_there, changed_there}
use Rattle.watch_run.proofs.Taking.{model_name_there, model_alone, bytes_same}

none_in : {A : Type 0} (v : Vec A Global) → (vec_len v == 0) ≡ true → v.items ≡ []
none_in v e =
    let none : vec_len v ≡ 0 = (Decides-eqb (vec_len v) 0).0 e in
    nothing_of v.items (omega (arith, none, v.ok.0))

in_none : {A : Type 0} (v : Vec A Global) → v.items ≡ [] → (vec_len v == 0) ≡ true
in_none {A = A} v e =
    let none : length v.items ≡ 0 = ap (λ (l : List A). length l) e in
    (Decides-eqb (vec_len v) 0).1 (omega (arith, none, v.ok.0))

not_there : {A : Type 0} (x : A) → ◌≡◌ {A = Option A} None (Some x) → ⊥
not_there x e = cc

-- ---- changes of items

long_model : (m : NamedModel) → length m.numbers.items ≡ length m.text.items.items
long_model m = omega (arith, m.paired, m.numbers.ok.0, m.text.items.ok.0)

pub changes_of : (name : List ℕ) (t : BenchTexts) (m : NamedModel) (new : List Item)
    (cs : List ItemChange) → Some (plain_model m) ≡ model_named t name
    → with_changes (clauses_of new) cs (clauses_of m.text.items.items) ≡ clauses_of new
    → ((s : ℕ) → IsCommonEnd (clauses_of m.text.items.items) (clauses_of new) s
    → All (IsBeforeEnd (length m.text.items.items) (length new) s) cs)
    → All (IsNeededChange (clauses_of m.text.items.items) (clauses_of new)) cs
    → AreChanges name t (clauses_of new) cs
changes_of name t m new cs there applied before needed =
    let olds : List Item = m.text.items.items in
    let same : clauses_of olds ≡ clauses_in (plain_model m) = clauses_of-items m.numbers.items olds (long_model m) in
    let ends : length olds ≡ length (clauses_in (plain_model m)) = sym (length-map olds clause_of) ∙ ap (λ (l : List Clause). length l) same in
    record {
      model = plain_model m;
      there = sym there;
      applied =
          subst (λ (l : List Clause). with_changes (clauses_of new) cs l ≡ clauses_of new) same
          applied;
      before = λ count common.
          subst
          (λ (n : ℕ). All (IsBeforeEnd n (length (clauses_of new)) count) cs) ends
          (subst (λ (n : ℕ). All (IsBeforeEnd (length olds) n count) cs)
          (sym (length-map new clause_of))
          (before count
          (subst (λ (l : List Clause). IsCommonEnd l (clauses_of new) count) (sym same) common)));
      needed =
          subst (λ (l : List Clause). All (IsNeededChange l (clauses_of new)) cs) same needed;
    }

-- versions that are equal have no changes
unneeded : (n : ℕ) (c : ItemChange) → IsBeforeEnd n n n c → ⊥
unneeded n (changes.Set i) before = absurd (omega (arith, before.0))
unneeded n (changes.Insert i) before = absurd (omega (arith, before))
unneeded n (changes.Remove i) before = absurd (omega (arith, before))

none_before : (n : ℕ) (cs : List ItemChange) → All (IsBeforeEnd n n n) cs → cs ≡ []
none_before n [] all = refl
none_before n (c ∷ cs) all = absurd (unneeded n c (All-head (IsBeforeEnd n n n) c cs all))

whole_end : (xs : List Clause) → IsCommonEnd xs xs (length xs)
whole_end xs = record { old_length = omega arith; new_length = omega arith; same = refl }

no_changes : (name : List ℕ) (t : BenchTexts) (new : List Clause) (cs : List ItemChange)
    → AreChanges name t new cs → HoldsItems name new t → cs ≡ []
no_changes name t new cs lead holds =
    let same : lead.model ≡ holds.model = same_Some lead.model holds.model (sym lead.there ∙ holds.there) in
    let are : clauses_in lead.model ≡ new = ap clauses_in same ∙ holds.are in
    let end : IsCommonEnd (clauses_in lead.model) new (length new) = subst (λ (l : List Clause). IsCommonEnd l new (length new)) (sym are) (whole_end new) in
    none_before (length new) cs
    (subst (λ (n : ℕ). All (IsBeforeEnd n (length new) (length new)) cs)
    (ap (λ (l : List Clause). length l) are) (lead.before (length new) end))

pub changes_none : (name : List ℕ) (t : BenchTexts) (new : List Clause) (cs ds : List ItemChange)
    (i : ℕ) → AreChanges name t new cs → HoldsItems name new t → ds ≡ cs → i < length ds → ⊥
changes_none name t new cs ds i lead holds same lt =
    let none : length ds ≡ 0 = ap (λ (l : List ItemChange). length l) (same ∙ no_changes name t new cs lead holds) in
    absurd (omega (arith, lt, none))

pub items_held : (name : List ℕ) (t : BenchTexts) (new : List Clause) (v : Vec ItemChange Global)
    (is : Bool) → AreChanges name t new v.items → is ≡ (vec_len v == 0)
    → (IsTrue is) ↔ (HoldsItems name new t)
items_held name t new v is lead empty = (
  λ so. record {
    model = lead.model;
    there = lead.there;
    are =
        subst (λ (cs : List ItemChange). with_changes new cs (clauses_in lead.model) ≡ new)
        (none_in v (sym empty ∙ so)) lead.applied;
  },
  λ holds. empty ∙ in_none v (no_changes name t new v.items lead holds),
)

-- items are held under equal names, of equal texts
pub holds_so : (name other : List ℕ) (new items : List Clause) (t u : BenchTexts) → name ≡ other
    → new ≡ items → t ≡ u → HoldsItems other items u → HoldsItems name new t
holds_so name other new items t u named same texts holds = record {
  model = holds.model;
  there =
      ap (λ (x : BenchTexts). model_named x name) texts
      ∙ ap (λ (n : List ℕ). model_named u n) named ∙ holds.there;
  are = holds.are ∙ sym same;
}

pub none_held : (name : List ℕ) (t : BenchTexts) (new : List Clause) → model_named t name ≡ None
    → (IsTrue false) ↔ (HoldsItems name new t)
none_held name t new none = (
  λ so. absurd cc,
  λ holds. absurd (not_there holds.model (sym none ∙ holds.there)),
)

-- ---- edits of items

numbers_of-items : (ns : List ℕ) (is : List Item) → length ns ≡ length is
    → ns ≡ map (λ i. i.number) (items_with_numbers ns is)
numbers_of-items [] [] e = refl
numbers_of-items [] (i ∷ is) e = absurd (omega (arith, e))
numbers_of-items (n ∷ ns) [] e = absurd (omega (arith, e))
numbers_of-items (n ∷ ns) (i ∷ is) e =
    ap (λ (l : List ℕ). n ∷ l) (numbers_of-items ns is (omega (arith, e)))

pub change_edit : (name : List ℕ) (t : BenchTexts) (m : NamedModel) (e : Edit) (new : List Clause)
    (change : ItemChange) → Some (plain_model m) ≡ model_named t name
    → e ≡ item_edit (plain_model m).name m.numbers.items new change
    → IsChangeEdit name t new change e
change_edit name t m e new change there is = record {
  model = plain_model m;
  there = sym there;
  is =
      is
      ∙ ap (λ (n : List ℕ). item_edit n m.numbers.items new change)
      (model_name_there name t.models (plain_model m) (sym there))
      ∙ ap (λ (ns : List ℕ). item_edit name ns new change)
      (numbers_of-items m.numbers.items m.text.items.items (long_model m));
}

of_model : (name : List ℕ) (t : BenchTexts) (new : List Clause) (change : ItemChange) (e : Edit)
    → IsChangeEdit name t new change e → IsModelEdit name e
of_model name t new (changes.Set i) e edit =
    subst (λ (x : Edit). IsModelEdit name x) (sym edit.is) refl
of_model name t new (changes.Insert i) e edit =
    subst (λ (x : Edit). IsModelEdit name x) (sym edit.is) refl
of_model name t new (changes.Remove i) e edit =
    subst (λ (x : Edit). IsModelEdit name x) (sym edit.is) refl

pub change_alone : (name : List ℕ) (t : BenchTexts) (new : List Clause) (change : ItemChange)
    (e : Edit) (o : Option EditFault) (now : BenchTexts) → IsChangeEdit name t new change e
    → IsEditTried t e o now → IsSameButModel name t now
change_alone name t new change e o now edit made =
    model_alone name t e (of_model name t new change e edit) o now made

pub change_tried : (name : List ℕ) (t : BenchTexts) (new : List Clause) (change : ItemChange)
    (e : Edit) (o : Option EditFault) (is : Bool) (now : BenchTexts)
    → IsChangeEdit name t new change e → is_some o ≡ not is → IsEditTried t e o now
    → IsChangeTried name new change is t now
change_tried name t new change e None true now edit said made = (e, edit, made)
change_tried name t new change e None false now edit said made = absurd cc
change_tried name t new change e (Some fault) true now edit said made = absurd cc
change_tried name t new change e (Some fault) false now edit said made = made.2

-- ---- parts of tests

pub parts_of : (t : BenchTexts) (old : Test) (new : Content) (ps : List TestPart)
    → Some (content_of old) ≡ test_named t new.name → with_parts new ps (content_of old) ≡ new
    → All (Differs (content_of old) new) ps → AreTestParts t new ps
parts_of t old new ps there put differ =
    record { test = content_of old; there = sym there; put = put; differ = differ }

pub no_parts_of : (t : BenchTexts) (old : Test) (new : Content)
    → Some (content_of old) ≡ test_named t new.name
    → (HasSameShape (content_of old) new → ⊥) → HasNoParts t new
no_parts_of t old new there other = λ test is shape.
    other
    (subst (λ (c : Content). HasSameShape c new)
    (same_Some test (content_of old) (sym is ∙ sym there)) shape)

pub no_test : (t : BenchTexts) (new : Content) → None ≡ test_named t new.name → HasNoParts t new
no_test t new none = λ test is shape. absurd (not_there test (none ∙ is))

same_differs : (c : Content) (p : TestPart) → Differs c c p → ⊥
same_differs c parts.Init differs = differs refl
same_differs c (parts.Thread k) differs = differs refl
same_differs c parts.Condition differs = differs refl refl
same_differs c parts.Locations differs = differs refl

none_differ : (c : Content) (ps : List TestPart) → All (Differs c c) ps → ps ≡ []
none_differ c [] all = refl
none_differ c (p ∷ ps) all = absurd (same_differs c p (All-head (Differs c c) p ps all))

no_parts : (t : BenchTexts) (new : Content) (ps : List TestPart) → AreTestParts t new ps
    → test_named t new.name ≡ Some new → ps ≡ []
no_parts t new ps lead held =
    let same : lead.test ≡ new = same_Some lead.test new (sym lead.there ∙ held) in
    none_differ new ps (subst (λ (c : Content). All (Differs c new) ps) same lead.differ)

pub parts_none : (t : BenchTexts) (new : Content) (ps qs : List TestPart) (i : ℕ)
    → AreTestParts t new ps → test_named t new.name ≡ Some new → qs ≡ ps → i < length qs → ⊥
parts_none t new ps qs i lead held same lt =
    let none : length qs ≡ 0 = ap (λ (l : List TestPart). length l) (same ∙ no_parts t new ps lead held) in
    absurd (omega (arith, lt, none))

pub test_held : (t : BenchTexts) (new : Content) (v : Vec TestPart Global) (is : Bool)
    → AreTestParts t new v.items → is ≡ (vec_len v == 0)
    → (IsTrue is) ↔ (test_named t new.name ≡ Some new)
test_held t new v is lead empty = (
  λ so.
      let same : lead.test ≡ new = subst (λ (ps : List TestPart). with_parts new ps lead.test ≡ new) (none_in v (sym empty ∙ so)) lead.put in
      lead.there ∙ ap (λ (c : Content). Some c) same,
  λ held. empty ∙ in_none v (no_parts t new v.items lead held),
)

pub no_test_held : (t : BenchTexts) (new : Content) → HasNoParts t new
    → (IsTrue false) ↔ (test_named t new.name ≡ Some new)
no_test_held t new none = (
  λ so. absurd cc,
  λ held. absurd (none new held (record { name = refl; threads = refl })),
)

pub part_tried : (name : List ℕ) (t : BenchTexts) (e : Edit) (o : Option EditFault) (is : Bool)
    (now : BenchTexts) → IsPartEdit name e → is_some o ≡ not is → IsEditTried t e o now
    → IsPartTried name is t now
part_tried name t e None true now edit said made = (e, edit, made)
part_tried name t e None false now edit said made = absurd cc
part_tried name t e (Some fault) true now edit said made = absurd cc
part_tried name t e (Some fault) false now edit said made = made.2

-- ---- a test that a file holds

still_held : (name : List ℕ) (i : ℕ) (names : List (Option (List ℕ)))
    → slice_get names i ≡ Some (Some name)
    → IsStillHeld (held_name i names) (changed_at i (λ old. Some name) names)
still_held name i names there =
    let held : held_name i names ≡ Some name = got_there i (Some name) None names there in
    let there_still : i < length (changed_at i (λ old. Some name) names) × (get_or (changed_at i (λ old. Some name) names) i None ≡ Some name) = changed_there i (Some name) None names there in
    subst (λ (h : Option (List ℕ)). IsStillHeld h (changed_at i (λ old. Some name) names)) (sym held)
    (list_any_at (holds_name name) (changed_at i (λ old. Some name) names) i None there_still.0
    (ap (holds_name name) there_still.1 ∙ bytes_same name name refl))

-- the file at that index holds the test of this name from now on, as it did
pub stays_held : (name : List ℕ) (i : ℕ) (names now : List (Option (List ℕ)))
    (held : Option (List ℕ)) → slice_get names i ≡ Some (Some name) → held ≡ held_name i names
    → now ≡ changed_at i (λ old. Some name) names → IsStillHeld held now
stays_held name i names now held there is changed =
    subst (λ (h : Option (List ℕ)). IsStillHeld h now) (sym is)
    (subst (λ (l : List (Option (List ℕ))). IsStillHeld (held_name i names) l) (sym changed)
    (still_held name i names there))

-- a text that no test has
pub full_of_none : (index : ℕ) (text : List ℕ) (names : List (Option (List ℕ)))
    (r : Result (Option EditFault) AllocError)
    → ((test : Content) → ReadsTest text test → ⊥)
    → IfOk r (λ o. IfSome o (IsFullBeside index text names))
full_of_none index text names (Ok (Some fault)) none = λ test reads full. absurd (none test reads)
full_of_none index text names (Ok None) none = tt
full_of_none index text names (Err error) none = tt
