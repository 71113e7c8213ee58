-- What edits and versions make of the texts.
use Rattle.std.proofs.Common.{◌≡◌, ℕ, suc, ◌+◌, ◌<◌, List, [], ◌∷◌, length, Bool, true, false, nat_lt, Option, Some, None, inl, inr, refl, sym, ap, subst, ◌∙◌, arith}
use Rattle.std.specs.Prelude.{◌≢◌, slice_get, insert, remove, bytes_eq}
use Rattle.std.specs.List.{position_or_len}
use Rattle.std.proofs.lemmas.Bool.{cases_Bool, ltb-true}
use Rattle.std.proofs.lemmas.Option.{same_Some}
use Rattle.std.proofs.lemmas.Slice.Eq.{bytes_eq-Decides}
use Rattle.text_values.specs.TestValue.{Content}
use Rattle.litmus_grammar.specs.Texts.{ReadsTest}
use Rattle.bench_texts.specs.declared.fault.EditFault.{EditFault}
use Rattle.bench_texts.specs.declared.fault.EditFault.TheVariants as faults
use Rattle.bench_texts.specs.BenchTexts.{BenchTexts, PlainModel, test_index, model_index, put_at, changed_at, with_init, with_thread, with_condition, with_observed, with_items, with_models, numbered_items}
use Rattle.bench_texts.specs.Edits.{Edit, PutTest, DropTest, SetInit, SetThread, SetCond, SetLocations, PutModel, DropModel, SetItem, InsertItem, RemoveItem, Applies, has_test, thread_count, index_in, index_before, unless}
use Rattle.session_answers.specs.Cells.{model_named}
use Rattle.watch_edits.specs.Edits.{IsPartEdit}
use Rattle.watch_edits.specs.declared.items.ItemChange.TheVariants as changes
use Rattle.watch_run.specs.Holding.{Holding, held_name, without_unheld, tests_left, IsSameButModel, IsTestTaken}
use Rattle.watch_run.specs.Edits.{IsEditTried, IsModelEdit, AreSameBut}
use Rattle.watch_run.proofs.Lists.{put_same, put_twice, IsPut, changed_is_put, index_put, found_beside, found_unchanged}

-- ---- bytes

same_bytes : (a b : List ℕ) → bytes_eq a b ≡ true → a ≡ b
same_bytes a b e = (bytes_eq-Decides a b).0 e

pub bytes_same : (a b : List ℕ) → a ≡ b → bytes_eq a b ≡ true
bytes_same a b e = (bytes_eq-Decides a b).1 e

-- ---- what an edit names is there

pub is_there : (b : Bool) (f : EditFault) (later : Option EditFault) → unless b f later ≡ None
    → b ≡ true
is_there true f later e = refl
is_there false f later e = absurd cc

test_inside : (t : BenchTexts) (test : List ℕ) (later : Option EditFault)
    → unless (has_test t test) faults.NoTest later ≡ None → test_index test t.tests < length t.tests
test_inside t test later e =
    ltb-true (test_index test t.tests) (length t.tests)
    (is_there (has_test t test) faults.NoTest later e)

-- ---- edits of models

unlike : (name other : List ℕ) (m : PlainModel) → other ≢ name → bytes_eq m.name name ≡ true
    → bytes_eq m.name other ≡ false
unlike name other m differ is = elim (cases_Bool (bytes_eq m.name other)) [
  | inl t ↦ absurd (differ (sym (same_bytes m.name other t) ∙ same_bytes m.name name is))
  | inr f ↦ f
]

pub alone_same : (name : List ℕ) (t new : BenchTexts) → new ≡ t → IsSameButModel name t new
alone_same name t new same = record {
  tests = ap (λ (x : BenchTexts). x.tests) same;
  models = λ other differ. ap (λ (x : BenchTexts). model_named x other) same;
}

alone_put : (name model : List ℕ) (t new : BenchTexts) (m : PlainModel) (next : ℕ) → model ≡ name
    → m.name ≡ model → new ≡ with_models (put_at (model_index model t.models) m) next t
    → IsSameButModel name t new
alone_put name model t new m next of named is = record {
  tests = ap (λ (x : BenchTexts). x.tests) is;
  models = λ other differ.
      let apart : other ≢ model = λ e. differ (e ∙ of) in
      ap (λ (x : BenchTexts). model_named x other) is
      ∙ found_beside (λ x. bytes_eq x.name model) (λ x. bytes_eq x.name other) m t.models
      (unlike model other m apart (bytes_same m.name model named))
      (λ x there. unlike model other x apart there);
}

alone_changed : (f : PlainModel → PlainModel) → ((m : PlainModel) → (f m).name ≡ m.name)
    → (name model : List ℕ) (t new : BenchTexts) (next : ℕ) → model ≡ name
    → new ≡ with_models (changed_at (model_index model t.models) f) next t
    → IsSameButModel name t new
alone_changed f keeps name model t new next of is = record {
  tests = ap (λ (x : BenchTexts). x.tests) is;
  models = λ other differ.
      let apart : other ≢ model = λ e. differ (e ∙ of) in
      ap (λ (x : BenchTexts). model_named x other) is
      ∙ found_unchanged (λ x. bytes_eq x.name model) (λ x. bytes_eq x.name other) f t.models
      (λ x. ap (λ (n : List ℕ). bytes_eq n other) (keeps x))
      (λ x there. unlike model other x apart there);
}

pub model_alone : (name : List ℕ) (t : BenchTexts) (e : Edit) → IsModelEdit name e
    → (o : Option EditFault) (new : BenchTexts) → IsEditTried t e o new → IsSameButModel name t new
model_alone name t (PutTest text) of o new made = absurd of
model_alone name t (DropTest test) of o new made = absurd of
model_alone name t (SetInit test text) of o new made = absurd of
model_alone name t (SetThread test thread text) of o new made = absurd of
model_alone name t (SetCond test text) of o new made = absurd of
model_alone name t (SetLocations test text) of o new made = absurd of
model_alone name t (DropModel model) of o new made = absurd of
model_alone name t (PutModel model text) of (Some f) new made = alone_same name t new made.2
model_alone name t (PutModel model text) of None new made =
    alone_put name model t new
    (record { name = model; items = numbered_items t.next made.makes.0 })
    (t.next + length made.makes.0) of refl made.makes.2
model_alone name t (SetItem model item text) of (Some f) new made = alone_same name t new made.2
model_alone name t (SetItem model item text) of None new made =
    alone_changed (with_items (put_at (index_in t model item)
    (record { number = item; clause = made.makes.0 }))) (λ m. refl) name model t new t.next of
    made.makes.2
model_alone name t (InsertItem model before text) of (Some f) new made =
    alone_same name t new made.2
model_alone name t (InsertItem model before text) of None new made =
    alone_changed (with_items (λ is. insert is (index_before t model before)
    (record { number = t.next; clause = made.makes.0 }))) (λ m. refl) name model t new (t.next + 1)
    of made.makes.3
model_alone name t (RemoveItem model item) of (Some f) new made = alone_same name t new made.2
model_alone name t (RemoveItem model item) of None new made =
    alone_changed (with_items (λ is. remove is (index_in t model item))) (λ m. refl) name model t
    new t.next of made.makes

-- one after another
pub alone_again : (name : List ℕ) (a b c : BenchTexts) → IsSameButModel name a b
    → IsSameButModel name b c → IsSameButModel name a c
alone_again name a b c first then = record {
  tests = then.tests ∙ first.tests;
  models = λ other differ. then.models other differ ∙ first.models other differ;
}

-- ---- edits of a test

one_more : (n : ℕ) → 1 + n ≡ suc n
one_more n = omega arith

passes_there : {A : Type 0} (p : A → Bool) (xs : List A) (x : A)
    → slice_get xs (position_or_len p xs) ≡ Some x → p x ≡ true
passes_there p [] x e = absurd cc
passes_there p (y ∷ ys) x e = elim (cases_Bool (p y)) [
  | inl t ↦ (let here : slice_get (y ∷ ys) 0 ≡ Some x = rw t at e in
      ap p (sym (same_Some y x here)) ∙ t)
  | inr t ↦ (let there : slice_get (y ∷ ys) (1 + position_or_len p ys) ≡ Some x = rw t at e in
      passes_there p ys x (rw (one_more (position_or_len p ys)) at there))
]

-- the name of the test at the index that a name has
name_there : (name : List ℕ) (ts : List Content) (c : Content)
    → slice_get ts (test_index name ts) ≡ Some c → c.name ≡ name
name_there name ts c e = same_bytes c.name name (passes_there (λ t. bytes_eq t.name name) ts c e)

changed_but : (f : Content → Content) → ((c : Content) → (f c).name ≡ c.name)
    → (name test : List ℕ) (ts : List Content) → test ≡ name
    → test_index test ts < length ts → AreSameBut name ts (changed_at (test_index test ts) f ts)
changed_but f keeps name test ts same lt =
    let put : IsPut f (test_index test ts) ts = changed_is_put f (test_index test ts) ts lt in
    let named : (f put.old).name ≡ test = keeps put.old ∙ name_there test ts put.old put.there in
    subst (λ (n : List ℕ). AreSameBut n ts (changed_at (test_index test ts) f ts)) same
    (inr (f put.old, named, lt, put.is))

-- the other tests stay, and so do the models
pub record IsOneTest (name : List ℕ) (t new : BenchTexts) : Type 0 where
  pub tests : AreSameBut name t.tests new.tests
  pub models : new.models ≡ t.models

one_refused : (name : List ℕ) (t new : BenchTexts) → new ≡ t → IsOneTest name t new
one_refused name t new same =
    record {
      tests = inl (ap (λ (x : BenchTexts). x.tests) same);
      models = ap (λ (x : BenchTexts). x.models) same;
    }

one_changed : (f : Content → Content) → ((c : Content) → (f c).name ≡ c.name)
    → (name test : List ℕ) (t new : BenchTexts) (later : Option EditFault) → test ≡ name
    → unless (has_test t test) faults.NoTest later ≡ None
    → new ≡ record {
      tests = changed_at (test_index test t.tests) f t.tests;
      models = t.models;
      next = t.next;
    } → IsOneTest name t new
one_changed f keeps name test t new later same there is = record {
  tests =
      subst (λ (ts : List Content). AreSameBut name t.tests ts)
      (sym (ap (λ (x : BenchTexts). x.tests) is)) (changed_but f keeps name test t.tests same
      (test_inside t test later there));
  models = ap (λ (x : BenchTexts). x.models) is;
}

pub part_keeps : (t : BenchTexts) (e : Edit) (name : List ℕ) → IsPartEdit name e
    → (o : Option EditFault) (new : BenchTexts) → IsEditTried t e o new → IsOneTest name t new
part_keeps t (PutTest text) name of o new made = absurd of
part_keeps t (DropTest test) name of o new made = absurd of
part_keeps t (PutModel model text) name of o new made = absurd of
part_keeps t (DropModel model) name of o new made = absurd of
part_keeps t (SetItem model item text) name of o new made = absurd of
part_keeps t (InsertItem model before text) name of o new made = absurd of
part_keeps t (RemoveItem model item) name of o new made = absurd of
part_keeps t (SetInit test text) name of (Some f) new made = one_refused name t new made.2
part_keeps t (SetInit test text) name of None new made =
    one_changed (with_init made.makes.0) (λ c. refl) name test t new None of made.all_there
    made.makes.2
part_keeps t (SetThread test thread text) name of (Some f) new made = one_refused name t new made.2
part_keeps t (SetThread test thread text) name of None new made =
    one_changed (with_thread thread made.makes.0) (λ c. refl) name test t new
    (unless (nat_lt thread (thread_count t test)) faults.NoThread None) of made.all_there
    made.makes.2
part_keeps t (SetCond test text) name of (Some f) new made = one_refused name t new made.2
part_keeps t (SetCond test text) name of None new made =
    one_changed (with_condition made.makes.0) (λ c. refl) name test t new None of made.all_there
    made.makes.2
part_keeps t (SetLocations test text) name of (Some f) new made = one_refused name t new made.2
part_keeps t (SetLocations test text) name of None new made =
    one_changed (with_observed made.makes.0) (λ c. refl) name test t new None of made.all_there
    made.makes.2

-- ---- one edit after another

index_stays : (name : List ℕ) (c : Content) (ts : List Content) → c.name ≡ name
    → test_index name ts < length ts
    → test_index name (put_at (test_index name ts) c ts) ≡ test_index name ts
index_stays name c ts same lt =
    index_put (λ t. bytes_eq t.name name) c ts (bytes_same c.name name same) lt

pub but_again : (name : List ℕ) (a b c : List Content) → AreSameBut name a b → AreSameBut name b c
    → AreSameBut name a c
but_again name a b c (inl same) more = subst (λ (l : List Content). AreSameBut name l c) same more
but_again name a b c (inr put) (inl same) = inr (put.0, put.1, put.2, same ∙ put.3)
but_again name a b c (inr put) (inr again) =
    let i = test_index name a in
    let lt : i < length a = put.2 in
    let at_i : test_index name b ≡ i = ap (λ (l : List Content). test_index name l) put.3 ∙ index_stays name put.0 a put.1 lt in
    inr (
      again.0,
      again.1,
      lt,
      again.3 ∙ ap (λ (n : ℕ). put_at n again.0 b) at_i
          ∙ ap (λ (l : List Content). put_at i again.0 l) put.3 ∙ put_twice i put.0 again.0 a lt,
    )

-- a test of the name is put in the place of the first of it
pub put_after : (name : List ℕ) (a b : List Content) (c : Content) → AreSameBut name a b
    → put_at (test_index name b) c b ≡ put_at (test_index name a) c a
put_after name a b c (inl same) = ap (λ (l : List Content). put_at (test_index name l) c l) same
put_after name a b c (inr put) =
    let i = test_index name a in
    let lt : i < length a = put.2 in
    let at_i : test_index name b ≡ i = ap (λ (l : List Content). test_index name l) put.3 ∙ index_stays name put.0 a put.1 lt in
    ap (λ (n : ℕ). put_at n c b) at_i ∙ ap (λ (l : List Content). put_at i c l) put.3
    ∙ put_twice i put.0 c a lt

-- it is there already
pub put_held : (name : List ℕ) (a b : List Content) (c : Content) → AreSameBut name a b
    → slice_get b (test_index name b) ≡ Some c → b ≡ put_at (test_index name a) c a
put_held name a b c but held =
    sym (put_same (test_index name b) c b held) ∙ put_after name a b c but

-- a whole test is put
pub put_whole : (a t new : BenchTexts) (text : List ℕ) (c : Content)
    → ((d : Content) → ReadsTest text d → c ≡ d) → AreSameBut c.name a.tests t.tests
    → Applies t false (PutTest text) new → new.tests ≡ put_at (test_index c.name a.tests) c a.tests
put_whole a t new text c only but made =
    let read : Content = made.makes.0 in
    let same : read ≡ c = sym (only read made.makes.1) in
    let is : new.tests ≡ put_at (test_index read.name t.tests) read t.tests = ap (λ (x : BenchTexts). x.tests) made.makes.2 in
    is ∙ ap (λ (d : Content). put_at (test_index d.name t.tests) d t.tests) same
    ∙ put_after c.name a.tests t.tests c but

-- the name of the model at the index that a name has
pub model_name_there : (name : List ℕ) (ms : List PlainModel) (m : PlainModel)
    → slice_get ms (model_index name ms) ≡ Some m → m.name ≡ name
model_name_there name ms m e =
    same_bytes m.name name (passes_there (λ x. bytes_eq x.name name) ms m e)

pub part_tests : (t : BenchTexts) (e : Edit) (name : List ℕ) → IsPartEdit name e
    → (o : Option EditFault) (new : BenchTexts) → IsEditTried t e o new
    → AreSameBut name t.tests new.tests
part_tests t e name of o new made = (part_keeps t e name of o new made).tests

pub part_models : (t : BenchTexts) (e : Edit) (name : List ℕ) → IsPartEdit name e
    → (o : Option EditFault) (new : BenchTexts) → IsEditTried t e o new → new.models ≡ t.models
part_models t e name of o new made = (part_keeps t e name of o new made).models

-- ---- a version of a test's file is taken

pub test_taken : (index : ℕ) (text name : List ℕ) (old : Holding) (held : Option (List ℕ))
    (names : List (Option (List ℕ))) (middle new : BenchTexts) (c : Content)
    → ReadsTest text c → name ≡ c.name → names ≡ changed_at index (λ o. Some name) old.names
    → held ≡ held_name index old.names
    → middle.tests ≡ without_unheld held names old.texts.tests → middle.models ≡ old.texts.models
    → new.tests ≡ put_at (test_index c.name middle.tests) c middle.tests
    → new.models ≡ middle.models
    → IsTestTaken index text old (record { texts = new; names = names })
test_taken index text name old held names middle new c reads name_is named held_is left kept put
    models =
    let changed : names ≡ changed_at index (λ o. Some c.name) old.names = named ∙ ap (λ (n : List ℕ). changed_at index (λ o. Some n) old.names) name_is in
    let stays : middle.tests ≡ tests_left index c.name old =
    left ∙ ap (λ (h : Option (List ℕ)). without_unheld h names old.texts.tests) held_is
    ∙ ap
    (λ (ns : List (Option (List ℕ))).
    without_unheld (held_name index old.names) ns old.texts.tests) changed in
    record { test = c; reads = reads; names = changed; tests = put ∙ ap (λ (ts : List Content). put_at (test_index c.name ts) c ts) stays; models = models ∙ kept }
