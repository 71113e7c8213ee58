-- All edits of a version, one after another.
use Rattle.std.proofs.Common.{◌≡◌, ℕ, zero, suc, ◌+◌, ◌<◌, ◌≤◌, List, [], ◌∷◌, ◌++◌, length, take, get_or, Bool, true, false, Option, Some, None, Result, Ok, Err, refl, sym, ap, subst, ◌∙◌, arith}
use Rattle.std.specs.Prelude.{is_none, IfOk, IsSome, Vec}
use Rattle.std.specs.declared.alloc.AllocError.{AllocError}
use Rattle.std.specs.declared.alloc.Global.{Global}
use Rattle.std.specs.List.{list_any}
use Rattle.text_values.specs.ModelValue.{Clause}
use Rattle.text_values.specs.TestValue.{Content}
use Rattle.bench_texts.specs.BenchTexts.{BenchTexts}
use Rattle.litmus_grammar.specs.Texts.{ReadsTest}
use Rattle.cat_grammar.specs.declared.form.Form.TheVariants as forms
use Rattle.cat_grammar.specs.Reads.{ReadsClauses}
use Rattle.bench_texts.specs.Edits.{Edit, PutTest, DropTest, PutModel, Applies}
use Rattle.bench_texts.specs.declared.fault.EditFault.{EditFault}
use Rattle.bench_texts.specs.declared.fault.EditFault.TheVariants as faults
use Rattle.session_answers.specs.Cells.{test_named, model_named}
use Rattle.watch_edits.specs.declared.items.ItemChange.{ItemChange}
use Rattle.watch_edits.specs.declared.parts.TestPart.{TestPart}
use Rattle.watch_run.specs.declared.author.Counts.{Counts}
use Rattle.watch_run.specs.Counts.{HasEdits, HasEditsFor, IsEditCounted}
use Rattle.watch_run.specs.Holding.{Holding, bench_model_name, HoldsItems, holds_name, held_name}
use Rattle.watch_run.specs.Edits.{IsEditTried, AreChanges, IsChangeTried, AreTestParts, HasNoParts, IsPartTried}
use Rattle.watch_run.specs.Edited.{AreChangesMade, OneChange, AreItemsChanged, NoItems, SomeItems, IsModelPut, PutByItems, PutWhole, IsModelEdited, ArePartsPut, ArePartsChanged, NoParts, SomeParts, IsTestPut, PutByParts, PutAsWhole, IsTestDropped, IsAway, IsDropped, IsTestEdited}

-- ---- what is counted

pub none_counted : (counts : Counts) → HasEdits 0 counts counts
none_counted counts = record { made = omega arith; last = λ none. refl; jobs = refl }

pub one_counted : (edits : ℕ) (old middle new : Counts) → HasEdits edits old middle
    → IsEditCounted true middle new → HasEdits (edits + 1) old new
one_counted edits old middle new before counted = record {
  made = omega (arith, before.made, ap (λ (k : Counts). k.made) counted);
  last = λ none. absurd (omega (arith, none));
  jobs = ap (λ (k : Counts). k.jobs) counted ∙ before.jobs;
}

pub same_counted : (edits : ℕ) (old middle new : Counts) → HasEdits edits old middle
    → IsEditCounted false middle new → HasEdits edits old new
same_counted edits old middle new before counted =
    subst (λ (k : Counts). HasEdits edits old k) (sym counted) before

-- ---- changes of items

take_more : (cs : List ItemChange) (i : ℕ) (d : ItemChange) → i < length cs
    → take (suc i) cs ≡ take i cs ++ get_or cs i d ∷ []
take_more [] i d lt = absurd (omega (arith, lt))
take_more (c ∷ cs) zero d lt = refl
take_more (c ∷ cs) (suc i) d lt =
    ap (λ (l : List ItemChange). c ∷ l) (take_more cs i d (omega (arith, lt)))

pub change_made : (name : List ℕ) (new : List Clause) (cs : List ItemChange) (i : ℕ)
    (d : ItemChange) (old middle now : BenchTexts) → i < length cs
    → AreChangesMade name new (take i cs) old middle
    → IsChangeTried name new (get_or cs i d) true middle now
    → AreChangesMade name new (take (i + 1) cs) old now
change_made name new cs i d old middle now lt before tried =
    let one : suc i ≡ i + 1 = omega arith in
    let more : take i cs ++ get_or cs i d ∷ [] ≡ take (i + 1) cs = sym (take_more cs i d lt) ∙ ap (λ (n : ℕ). take n cs) one in
    subst (λ (l : List ItemChange). AreChangesMade name new l old now) more
    (OneChange (take i cs) (get_or cs i d) old middle now before tried)

-- these are the changes that make the new items
lead_so : (name : List ℕ) (new : List Clause) (t : BenchTexts) (cs ds : List ItemChange)
    → AreChanges name t new cs → ds ≡ cs → AreChanges name t new ds
lead_so name new t cs ds lead all =
    subst (λ (l : List ItemChange). AreChanges name t new l) (sym all) lead

-- the changes up to one that is refused
pub changes_end : (name : List ℕ) (new : List Clause) (cs ds : List ItemChange) (i : ℕ)
    (old middle now : BenchTexts) (a b d : Counts)
    → AreChanges name old new cs → ds ≡ cs → i ≤ length ds
    → AreChangesMade name new (take i ds) old middle → HasEdits i a b
    → now ≡ middle → IsEditCounted false b d
    → HasEditsFor (AreItemsChanged name new old now) a d
changes_end name new cs ds i old middle now a b d lead all few made counted same none = (
  i,
  SomeItems ds (lead_so name new old cs ds lead all) few
      (subst (λ (t : BenchTexts). AreChangesMade name new (take i ds) old t) (sym same) made),
  same_counted i a b d counted none,
)

-- or all of them
pub changes_all : (name : List ℕ) (new : List Clause) (cs ds : List ItemChange) (i : ℕ)
    (old now : BenchTexts) (a b : Counts) → AreChanges name old new cs → ds ≡ cs → i ≤ length ds
    → AreChangesMade name new (take i ds) old now → HasEdits i a b
    → HasEditsFor (AreItemsChanged name new old now) a b
changes_all name new cs ds i old now a b lead all few made counted =
    (i, SomeItems ds (lead_so name new old cs ds lead all) few made, counted)

pub no_items : (name : List ℕ) (new : List Clause) (t : BenchTexts) (a : Counts)
    → model_named t name ≡ None → HasEditsFor (AreItemsChanged name new t t) a a
no_items name new t a none = (0, NoItems none refl refl, none_counted a)

-- ---- a model

pub put_by_items : (name : List ℕ) (new : List Clause) (whole : Edit) (old now : BenchTexts)
    (a b : Counts) → HasEditsFor (AreItemsChanged name new old now) a b → HoldsItems name new now
    → HasEditsFor (IsModelPut name new whole old now) a b
put_by_items name new whole old now a b changed holds =
    (changed.0, PutByItems changed.1 holds, changed.2)

pub put_as_whole : (name : List ℕ) (new : List Clause) (whole : Edit) (old middle now : BenchTexts)
    (o : Option EditFault) (a b d : Counts) → HasEditsFor (AreItemsChanged name new old middle) a b
    → (HoldsItems name new middle → ⊥) → IsEditTried middle whole o now
    → IsEditCounted (is_none o) b d → HoldsItems name new now
    → HasEditsFor (IsModelPut name new whole old now) a d
put_as_whole name new whole old middle now None a b d changed lacks made counted holds = (
  changed.0 + 1,
  PutWhole changed.0 middle changed.1 lacks made refl,
  one_counted changed.0 a b d changed.2 counted,
)
put_as_whole name new whole old middle now (Some fault) a b d changed lacks made counted holds =
    absurd (lacks (subst (λ (t : BenchTexts). HoldsItems name new t) made.2 holds))

-- a version of the file of a model
pub model_edited : (index : ℕ) (text name model read : List ℕ) (items : List Clause)
    (old middle now : BenchTexts) (a b d : Counts) → name ≡ bench_model_name index
    → model ≡ bench_model_name index → read ≡ text → ReadsClauses forms.Model text items
    → middle ≡ old → b ≡ a
    → HasEditsFor (IsModelPut name items (PutModel model read) middle now) b d
    → HasEditsFor (IsModelEdited index text None old now) a d
model_edited index text name model read items old middle now a b d named put_so read_so reads same
    counted put =
    let whole : PutModel model read ≡ PutModel (bench_model_name index) text = ap (λ (m : List ℕ). PutModel m read) put_so ∙ ap (λ (t : List ℕ). PutModel (bench_model_name index) t) read_so in (
      put.0,
      (
        items,
        reads,
        subst
            (λ (n : List ℕ).
            IsModelPut n items (PutModel (bench_model_name index) text) old now put.0) named
            (subst (λ (e : Edit). IsModelPut name items e old now put.0) whole
            (subst (λ (t : BenchTexts). IsModelPut name items (PutModel model read) t now put.0) same
            put.1)),
      ),
      subst (λ (k : Counts). HasEdits put.0 k d) counted put.2,
    )

-- ---- a test

-- the parts up to one that is refused
pub parts_end : (new : Content) (ps qs : List TestPart) (i : ℕ) (old middle now : BenchTexts)
    (a b d : Counts) → AreTestParts old new ps → qs ≡ ps → i ≤ length qs
    → ArePartsPut new.name i old middle → HasEdits i a b → IsPartTried new.name false middle now
    → IsEditCounted false b d → HasEditsFor (ArePartsChanged new old now) a d
parts_end new ps qs i old middle now a b d lead all few made counted same none = (
  i,
  SomeParts ps lead (subst (λ (l : List TestPart). i ≤ length l) all few)
      (subst (λ (t : BenchTexts). ArePartsPut new.name i old t) (sym same) made),
  same_counted i a b d counted none,
)

-- or all of them
pub parts_all : (new : Content) (ps qs : List TestPart) (i : ℕ) (old now : BenchTexts)
    (a b : Counts) → AreTestParts old new ps → qs ≡ ps → i ≤ length qs
    → ArePartsPut new.name i old now → HasEdits i a b
    → HasEditsFor (ArePartsChanged new old now) a b
parts_all new ps qs i old now a b lead all few made counted =
    (i, SomeParts ps lead (subst (λ (l : List TestPart). i ≤ length l) all few) made, counted)

pub no_parts_changed : (new : Content) (t : BenchTexts) (a : Counts) → HasNoParts t new
    → HasEditsFor (ArePartsChanged new t t) a a
no_parts_changed new t a none = (0, NoParts none refl refl, none_counted a)

pub put_by_parts : (new : Content) (text : List ℕ) (old now : BenchTexts) (a b : Counts)
    → HasEditsFor (ArePartsChanged new old now) a b → test_named now new.name ≡ Some new
    → HasEditsFor (IsTestPut new text old now) a b
put_by_parts new text old now a b changed held = (changed.0, PutByParts changed.1 held, changed.2)

pub put_as_test : (new : Content) (text : List ℕ) (old middle now : BenchTexts) (a b d : Counts)
    → HasEditsFor (ArePartsChanged new old middle) a b
    → (test_named middle new.name ≡ Some new → ⊥) → Applies middle false (PutTest text) now
    → IsEditCounted true b d → HasEditsFor (IsTestPut new text old now) a d
put_as_test new text old middle now a b d changed lacks made counted = (
  changed.0 + 1,
  PutAsWhole changed.0 middle changed.1 lacks made refl,
  one_counted changed.0 a b d changed.2 counted,
)

-- edits, and then others
pub edits_again : (m n : ℕ) (a b d : Counts) → HasEdits m a b → HasEdits n b d
    → HasEdits (m + n) a d
edits_again m n a b d first then = record {
  made = omega (arith, first.made, then.made);
  last = λ none. then.last (omega (arith, none)) ∙ first.last (omega (arith, none));
  jobs = then.jobs ∙ first.jobs;
}

-- the test that a file held is not there, or is dropped
pub dropped_away : (held : Option (List ℕ)) (name test : List ℕ)
    (names : List (Option (List ℕ))) (old now : BenchTexts) (a b : Counts) → held ≡ Some name
    → test ≡ name → IsEditTried old (DropTest test) (Some faults.NoTest) now
    → IsEditCounted false a b → HasEditsFor (IsTestDropped held names old now) a b
dropped_away held name test names old now a b is same tried counted = (
  0,
  IsAway test (is ∙ ap (λ (n : List ℕ). Some n) (sym same)) tried.1 tried.2 refl,
  same_counted 0 a a b (none_counted a) counted,
)

pub dropped_one : (held : Option (List ℕ)) (name test : List ℕ)
    (names all : List (Option (List ℕ))) (there : Bool) (old now : BenchTexts) (a b : Counts)
    → held ≡ Some name → test ≡ name → all ≡ names → there ≡ list_any (holds_name name) all
    → there ≡ false → Applies old false (DropTest test) now → IsEditCounted true a b
    → HasEditsFor (IsTestDropped held names old now) a b
dropped_one held name test names all there old now a b is same are said not_so made counted =
    let unheld : list_any (holds_name test) names ≡ false =
    ap (λ (n : List ℕ). list_any (holds_name n) names) same
    ∙ ap (λ (l : List (Option (List ℕ))). list_any (holds_name name) l) (sym are)
    ∙ sym said ∙ not_so in (
      1,
      IsDropped test (is ∙ ap (λ (n : List ℕ). Some n) (sym same)) unheld made refl,
      one_counted 0 a a b (none_counted a) counted,
    )

-- a version of the file of a test
pub test_edited : (index : ℕ) (text : List ℕ) (old : Holding) (names : List (Option (List ℕ)))
    (middle now : BenchTexts) (test : Content) (held : Option (List ℕ)) (a b d : Counts)
    → ReadsTest text test → held ≡ held_name index old.names
    → HasEditsFor (IsTestDropped held names old.texts middle) a b
    → HasEditsFor (IsTestPut test text middle now) b d
    → HasEditsFor (IsTestEdited index text None old (record { texts = now; names = names })) a d
test_edited index text old names middle now test held a b d reads is dropped put = (
  dropped.0 + put.0,
  (
    test,
    reads,
    (
      dropped.0,
      put.0,
      middle,
      subst (λ (h : Option (List ℕ)). IsTestDropped h names old.texts middle dropped.0) is
          dropped.1,
      put.1,
      refl,
    ),
  ),
  edits_again dropped.0 put.0 a b d dropped.2 put.2,
)

-- the same, where what is held before is named otherwise
abbrev held_of : BenchTexts → Vec (Option (List ℕ)) Global → Holding
held_of t names = record { texts = t; names = names.items }

pub test_edited_so : (index : ℕ) (text : List ℕ) (t u : BenchTexts)
    (v w : Vec (Option (List ℕ)) Global) (now : Holding) (a b d : Counts) → u ≡ t → w ≡ v → b ≡ a
    → HasEditsFor (IsTestEdited index text None (held_of u w) now) b d
    → HasEditsFor (IsTestEdited index text None (held_of t v) now) a d
test_edited_so index text t u v w now a b d same kept counted edits =
    let held : held_of u w ≡ held_of t v =
    ap (λ (x : BenchTexts). held_of x w) same
    ∙ ap (λ (x : Vec (Option (List ℕ)) Global). held_of t x) kept in (
      edits.0,
      subst (λ (h : Holding). IsTestEdited index text None h now edits.0) held edits.1,
      subst (λ (k : Counts). HasEdits edits.0 k d) counted edits.2,
    )

-- it is refused
pub test_unedited : (index : ℕ) (text : List ℕ) (old now : Holding) (a b : Counts)
    (r : Result (Option EditFault) AllocError) → b ≡ a → IfOk r IsSome
    → IfOk r (λ o. HasEditsFor (IsTestEdited index text o old now) a b)
test_unedited index text old now a b (Ok (Some fault)) same some =
    (0, refl, subst (λ (k : Counts). HasEdits 0 a k) (sym same) (none_counted a))
test_unedited index text old now a b (Ok None) same some = absurd cc
test_unedited index text old now a b (Err error) same some = tt
