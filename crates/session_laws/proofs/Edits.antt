-- An edit that is accepted makes one thing of the texts.
use Rattle.std.proofs.Common.{◌≡◌, ℕ, zero, suc, ◌+◌, ◌<◌, List, [], ◌∷◌, ◌++◌, length, map, take, drop, Bool, true, false, Some, None, refl, sym, ap, ◌∙◌, subst, arith, length-append, length-take, length-drop}
use Rattle.std.specs.Prelude.{slice_index, nat_lt}
use Rattle.std.specs.List.{AllByRecursion, insert}
use Rattle.std.proofs.lemmas.Bool.{ltb-true}
use Rattle.text_values.specs.declared.test.InitEntry.{InitEntry}
use Rattle.text_values.specs.declared.test.Place.{Place}
use Rattle.text_values.specs.declared.test.Step.{Step}
use Rattle.text_values.specs.declared.test.Quantifier.{Quantifier}
use Rattle.text_values.specs.TestValue.{Content, Formula}
use Rattle.cat_grammar.specs.declared.form.Form.TheVariants as forms
use Rattle.text_values.specs.ModelValue.{Clause}
use Rattle.bench_texts.specs.declared.fault.EditFault.{EditFault}
use Rattle.bench_texts.specs.declared.fault.EditFault.TheVariants as faults
use Rattle.bench_texts.specs.BenchTexts.{BenchTexts, NumberedItem, test_index, model_index, put_at, changed_at, with_init, with_thread, with_condition, with_observed, with_items, with_tests, with_models, numbered_items}
use Rattle.bench_texts.specs.Edits.{Edit, PutTest, DropTest, SetInit, SetThread, SetCond, SetLocations, PutModel, DropModel, SetItem, InsertItem, RemoveItem, EditMakes, missing_fault, unless, has_test, thread_count, index_in, index_before}
use Rattle.session_laws.specs.Laws.{AreFew}
use Rattle.text_reading_laws.proofs.Meanings.{one_test, one_init, one_thread, one_condition, one_list, one_model, few_threads}

-- ---- tests have few threads

pub few_at : (cs : List Content) (i : ℕ) → AreFew cs
    → slice_index (map (λ (c : Content). length c.threads) cs) i < 18446744073709551616
few_at [] i h = omega arith
few_at (c ∷ cs) zero h = h.0
few_at (c ∷ cs) (suc i) h = few_at cs i h.1

few_append : (cs ds : List Content) → AreFew cs → AreFew ds → AreFew (cs ++ ds)
few_append [] ds h g = g
few_append (c ∷ cs) ds h g = (h.0, few_append cs ds h.1 g)

few_take : (i : ℕ) (cs : List Content) → AreFew cs → AreFew (take i cs)
few_take zero cs h = tt
few_take (suc i) [] h = tt
few_take (suc i) (c ∷ cs) h = (h.0, few_take i cs h.1)

few_drop : (i : ℕ) (cs : List Content) → AreFew cs → AreFew (drop i cs)
few_drop zero cs h = h
few_drop (suc i) [] h = tt
few_drop (suc i) (c ∷ cs) h = few_drop i cs h.1

few_put : (i : ℕ) (c : Content) (cs : List Content) → length c.threads < 18446744073709551616
    → AreFew cs → AreFew (put_at i c cs)
few_put i c cs lt h =
    few_append (take i cs) (c ∷ drop (suc i) cs) (few_take i cs h) (lt, few_drop (suc i) cs h)

few_changed : (i : ℕ) (f : Content → Content) (cs : List Content)
    → ((c : Content) → length c.threads ≡ slice_index (map (λ (d : Content). length d.threads) cs) i
    → length (f c).threads ≡ length c.threads) → AreFew cs → AreFew (changed_at i f cs)
few_changed i f [] same h = tt
few_changed zero f (c ∷ cs) same h =
    (let e = same c refl in let lt = h.0 in omega (arith, e, lt), h.1)
few_changed (suc i) f (c ∷ cs) same h = (h.0, few_changed i f cs same h.1)

-- a thread in the place of another
long_put : (k : ℕ) (s : List Step) (ts : List (List Step)) → k < length ts
    → length (put_at k s ts) ≡ length ts
long_put k s ts lt =
    let a = length-append (take k ts) (s ∷ drop (suc k) ts) in
    let b = length-take k ts in
    let c = length-drop (suc k) ts in
    omega (arith, lt, a, b, c)

second_there : (a b : Bool) (f g : EditFault) → unless a f (unless b g None) ≡ None → b ≡ true
second_there true true f g e = refl
second_there true false f g e = absurd (let h : Some g ≡ None = e in cc)
second_there false b f g e = absurd (let h : Some f ≡ None = e in cc)

thread_there : (t : BenchTexts) (test text : List ℕ) (thread : ℕ)
    → missing_fault t (SetThread test thread text) ≡ None → thread < thread_count t test
thread_there t test text thread e =
    ltb-true thread (thread_count t test) (second_there (has_test t test)
    (nat_lt thread (thread_count t test)) faults.NoTest faults.NoThread e)

-- ---- an edit

pub few_made : (t : BenchTexts) (e : Edit) (new : BenchTexts) → missing_fault t e ≡ None → AreFew t.tests
    → EditMakes t e new → AreFew new.tests
few_made t (PutTest text) new there few h =
    subst (λ (u : BenchTexts). AreFew u.tests) (sym h.2) (few_put (test_index h.0.name t.tests) h.0
    t.tests (few_threads text h.0 h.1) few)
few_made t (DropTest test) new there few h =
    subst (λ (u : BenchTexts). AreFew u.tests) (sym h) (few_append
    (take (test_index test t.tests) t.tests) (drop (suc (test_index test t.tests)) t.tests)
    (few_take (test_index test t.tests) t.tests few)
    (few_drop (suc (test_index test t.tests)) t.tests few))
few_made t (SetInit test text) new there few h =
    subst (λ (u : BenchTexts). AreFew u.tests) (sym h.2) (few_changed (test_index test t.tests)
    (with_init h.0) t.tests (λ c e. refl) few)
few_made t (SetThread test thread text) new there few h =
    let lt = thread_there t test text thread there in
    subst (λ (u : BenchTexts). AreFew u.tests) (sym h.2) (few_changed (test_index test t.tests)
    (with_thread thread h.0) t.tests
    (λ c e. long_put thread h.0 c.threads (omega (arith, lt, e))) few)
few_made t (SetCond test text) new there few h =
    subst (λ (u : BenchTexts). AreFew u.tests) (sym h.2) (few_changed (test_index test t.tests)
    (with_condition h.0) t.tests (λ c e. refl) few)
few_made t (SetLocations test text) new there few h =
    subst (λ (u : BenchTexts). AreFew u.tests) (sym h.2) (few_changed (test_index test t.tests)
    (with_observed h.0) t.tests (λ c e. refl) few)
few_made t (PutModel model text) new there few h =
    subst (λ (u : BenchTexts). AreFew u.tests) (sym h.2) few
few_made t (DropModel model) new there few h =
    subst (λ (u : BenchTexts). AreFew u.tests) (sym h) few
few_made t (SetItem model item text) new there few h =
    subst (λ (u : BenchTexts). AreFew u.tests) (sym h.2) few
few_made t (InsertItem model before text) new there few h =
    subst (λ (u : BenchTexts). AreFew u.tests) (sym h.3) few
few_made t (RemoveItem model item) new there few h =
    subst (λ (u : BenchTexts). AreFew u.tests) (sym h) few

alone : (c d : Clause) → (c ∷ []) ≡ (d ∷ []) → c ≡ d
alone c d e = cc

pub one_made : (t : BenchTexts) (e : Edit) (new other : BenchTexts) → AreFew t.tests → EditMakes t e new
    → EditMakes t e other → new ≡ other
one_made t (PutTest text) new other few h g =
    h.2 ∙ (ap (λ (c : Content). with_tests (put_at (test_index c.name t.tests) c) t)
    (one_test text h.0 g.0 h.1 g.1) ∙ sym g.2)
one_made t (DropTest test) new other few h g = h ∙ sym g
one_made t (SetInit test text) new other few h g =
    h.2 ∙ (ap
    (λ (v : List InitEntry).
    with_tests (changed_at (test_index test t.tests) (with_init v)) t)
    (one_init (thread_count t test) (few_at t.tests (test_index test t.tests) few) text h.0
    g.0 h.1 g.1) ∙ sym g.2)
one_made t (SetThread test thread text) new other few h g =
    h.2 ∙ (ap
    (λ (v : List Step).
    with_tests (changed_at (test_index test t.tests) (with_thread thread v)) t)
    (one_thread text h.0 g.0 h.1 g.1) ∙ sym g.2)
one_made t (SetCond test text) new other few h g =
    h.2 ∙ (ap
    (λ (v : Quantifier × Formula).
    with_tests (changed_at (test_index test t.tests) (with_condition v)) t)
    (one_condition (thread_count t test) (few_at t.tests (test_index test t.tests) few) text
    h.0 g.0 h.1 g.1) ∙ sym g.2)
one_made t (SetLocations test text) new other few h g =
    h.2 ∙ (ap
    (λ (v : List Place).
    with_tests (changed_at (test_index test t.tests) (with_observed v)) t)
    (one_list (thread_count t test) (few_at t.tests (test_index test t.tests) few) text h.0
    g.0 h.1 g.1) ∙ sym g.2)
one_made t (PutModel model text) new other few h g =
    h.2 ∙ (ap
    (λ (cs : List Clause). with_models
    (put_at (model_index model t.models)
    (record { name = model; items = numbered_items t.next cs }))
    (t.next + length cs) t)
    (one_model forms.Model text h.0 g.0 h.1 g.1) ∙ sym g.2)
one_made t (DropModel model) new other few h g = h ∙ sym g
one_made t (SetItem model item text) new other few h g =
    h.2 ∙ (ap
    (λ (c : Clause). with_models
    (changed_at (model_index model t.models) (with_items (put_at (index_in t model item)
    (record { number = item; clause = c })))) t.next t)
    (alone h.0 g.0 (one_model forms.Item text (h.0 ∷ []) (g.0 ∷ []) h.1 g.1)) ∙ sym g.2)
one_made t (InsertItem model before text) new other few h g =
    h.3 ∙ (ap
    (λ (c : Clause). with_models
    (changed_at (model_index model t.models) (with_items (λ (is : List NumberedItem). insert
    is (index_before t model before)
    (record { number = t.next; clause = c }))))
    (t.next + 1) t)
    (alone h.0 g.0 (one_model forms.Item text (h.0 ∷ []) (g.0 ∷ []) h.1 g.1)) ∙ sym g.3)
one_made t (RemoveItem model item) new other few h g = h ∙ sym g
