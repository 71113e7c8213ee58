-- An edit that is refused is refused for one reason, and is not accepted.
use Rattle.std.proofs.Common.{◌≡◌, ℕ, ◌<◌, List, [], ◌∷◌, false, Some, None, inl, inr, refl, sym, ap, ◌∙◌, arith}
use Rattle.litmus_tokens.specs.declared.rule.LitmusRule.{LitmusRule}
use Rattle.litmus_ppc.specs.declared.fault.LitmusFault.TheVariants as litmus
use Rattle.cat_tokens.specs.declared.rule.CatRule.{CatRule}
use Rattle.cat_grammar.specs.declared.form.Form.TheVariants as forms
use Rattle.cat_syntax.specs.declared.fault.CatFault.TheVariants as cat
use Rattle.bench_texts.specs.declared.fault.EditFault.{EditFault}
use Rattle.bench_texts.specs.declared.fault.EditFault.TheVariants as faults
use Rattle.bench_texts.specs.BenchTexts.{BenchTexts, test_index}
use Rattle.bench_texts.specs.Edits.{Edit, PutTest, DropTest, SetInit, SetThread, SetCond, SetLocations, PutModel, DropModel, SetItem, InsertItem, RemoveItem, EditMakes, missing_fault, thread_count, limit_fault, IsTestEditRefused, IsModelEditRefused, IsOverLimit, Applies, RefusesEdit}
use Rattle.session_edits.specs.Faults.{HasFaultLine}
use Rattle.text_reading_laws.proofs.Faults.{one_test_fault, test_apart, one_thread_fault, thread_apart, one_init_fault, init_apart, one_condition_fault, condition_apart, one_locations_fault, locations_apart, one_model_fault, model_apart}
use Rattle.session_laws.specs.Laws.{AreFew, HasOneVerdict}
use Rattle.session_laws.proofs.Edits.{few_at, one_made}

some_is : (f g : EditFault) → Some f ≡ Some g → f ≡ g
some_is f g e = cc

none_is_not : (f : EditFault) → None ≡ Some f → ⊥
none_is_not f e = absurd cc

module _ (t : BenchTexts) (few : AreFew t.tests) where
  few_in : (test : List ℕ) → thread_count t test < 18446744073709551616
  few_in test = few_at t.tests (test_index test t.tests) few

  -- ---- a refused text has one fault

  test_fault_one : (e : Edit) (rule other : LitmusRule) (offset again : ℕ)
      → IsTestEditRefused t e rule offset → IsTestEditRefused t e other again
      → (rule ≡ other) × (offset ≡ again)
  test_fault_one (PutTest text) rule other offset again h g =
      one_test_fault text rule other offset again h g
  test_fault_one (SetInit test text) rule other offset again h g =
      one_init_fault (thread_count t test) text (few_in test) rule other offset again h g
  test_fault_one (SetThread test thread text) rule other offset again h g =
      one_thread_fault text rule other offset again h g
  test_fault_one (SetCond test text) rule other offset again h g =
      one_condition_fault (thread_count t test) text rule other offset again h g
  test_fault_one (SetLocations test text) rule other offset again h g =
      one_locations_fault (thread_count t test) text rule other offset again h g
  test_fault_one (DropTest test) rule other offset again h g = absurd h
  test_fault_one (PutModel model text) rule other offset again h g = absurd h
  test_fault_one (DropModel model) rule other offset again h g = absurd h
  test_fault_one (SetItem model item text) rule other offset again h g = absurd h
  test_fault_one (InsertItem model before text) rule other offset again h g = absurd h
  test_fault_one (RemoveItem model item) rule other offset again h g = absurd h

  model_fault_one : (e : Edit) (rule other : CatRule) (offset again : ℕ)
      → IsModelEditRefused t e rule offset → IsModelEditRefused t e other again
      → (rule ≡ other) × (offset ≡ again)
  model_fault_one (PutModel model text) rule other offset again h g =
      one_model_fault forms.Model text rule other offset again h g
  model_fault_one (SetItem model item text) rule other offset again h g =
      one_model_fault forms.Item text rule other offset again h g
  model_fault_one (InsertItem model before text) rule other offset again (inl h) (inl g) =
      one_model_fault forms.Item text rule other offset again h g
  model_fault_one (InsertItem model before text) rule other offset again (inl h) (inr g) =
      absurd (model_apart forms.Item text (g.item ∷ []) rule offset g.reads h)
  model_fault_one (InsertItem model before text) rule other offset again (inr h) (inl g) =
      absurd (model_apart forms.Item text (h.item ∷ []) other again h.reads g)
  model_fault_one (InsertItem model before text) rule other offset again (inr h) (inr g) =
      (h.rule_is ∙ sym g.rule_is, h.offset_is ∙ sym g.offset_is)
  model_fault_one (PutTest text) rule other offset again h g = absurd h
  model_fault_one (DropTest test) rule other offset again h g = absurd h
  model_fault_one (SetInit test text) rule other offset again h g = absurd h
  model_fault_one (SetThread test thread text) rule other offset again h g = absurd h
  model_fault_one (SetCond test text) rule other offset again h g = absurd h
  model_fault_one (SetLocations test text) rule other offset again h g = absurd h
  model_fault_one (DropModel model) rule other offset again h g = absurd h
  model_fault_one (RemoveItem model item) rule other offset again h g = absurd h

  -- a text is one of a test, or one of a model
  not_both_kinds : (e : Edit) (rule : LitmusRule) (other : CatRule) (offset again : ℕ)
      → IsTestEditRefused t e rule offset → IsModelEditRefused t e other again → ⊥
  not_both_kinds (PutTest text) rule other offset again h g = g
  not_both_kinds (SetInit test text) rule other offset again h g = g
  not_both_kinds (SetThread test thread text) rule other offset again h g = g
  not_both_kinds (SetCond test text) rule other offset again h g = g
  not_both_kinds (SetLocations test text) rule other offset again h g = g
  not_both_kinds (DropTest test) rule other offset again h g = h
  not_both_kinds (PutModel model text) rule other offset again h g = h
  not_both_kinds (DropModel model) rule other offset again h g = h
  not_both_kinds (SetItem model item text) rule other offset again h g = h
  not_both_kinds (InsertItem model before text) rule other offset again h g = h
  not_both_kinds (RemoveItem model item) rule other offset again h g = h

  -- ---- nothing is made of a refused text

  test_not_made : (e : Edit) (new : BenchTexts) (rule : LitmusRule) (offset : ℕ) → EditMakes t e new
      → IsTestEditRefused t e rule offset → ⊥
  test_not_made (PutTest text) new rule offset h g = test_apart text h.0 rule offset h.1 g
  test_not_made (SetInit test text) new rule offset h g =
      init_apart (thread_count t test) text (few_in test) h.0 rule offset h.1 g
  test_not_made (SetThread test thread text) new rule offset h g =
      thread_apart text h.0 rule offset h.1 g
  test_not_made (SetCond test text) new rule offset h g =
      condition_apart (thread_count t test) text h.0 rule offset h.1 g
  test_not_made (SetLocations test text) new rule offset h g =
      locations_apart (thread_count t test) text h.0 rule offset h.1 g
  test_not_made (DropTest test) new rule offset h g = g
  test_not_made (PutModel model text) new rule offset h g = g
  test_not_made (DropModel model) new rule offset h g = g
  test_not_made (SetItem model item text) new rule offset h g = g
  test_not_made (InsertItem model before text) new rule offset h g = g
  test_not_made (RemoveItem model item) new rule offset h g = g

  model_not_made : (e : Edit) (new : BenchTexts) (rule : CatRule) (offset : ℕ) → EditMakes t e new
      → IsModelEditRefused t e rule offset → ⊥
  model_not_made (PutModel model text) new rule offset h g =
      model_apart forms.Model text h.0 rule offset h.1 g
  model_not_made (SetItem model item text) new rule offset h g =
      model_apart forms.Item text (h.0 ∷ []) rule offset h.1 g
  model_not_made (InsertItem model before text) new rule offset h (inl g) =
      model_apart forms.Item text (h.0 ∷ []) rule offset h.1 g
  model_not_made (InsertItem model before text) new rule offset h (inr g) =
      let some = h.2 in
      let many = g.many in
      omega (arith, some, many)
  model_not_made (PutTest text) new rule offset h g = g
  model_not_made (DropTest test) new rule offset h g = g
  model_not_made (SetInit test text) new rule offset h g = g
  model_not_made (SetThread test thread text) new rule offset h g = g
  model_not_made (SetCond test text) new rule offset h g = g
  model_not_made (SetLocations test text) new rule offset h g = g
  model_not_made (DropModel model) new rule offset h g = g
  model_not_made (RemoveItem model item) new rule offset h g = g

  -- ---- why an edit is refused

  -- what it names is not there, its text is refused, or it is over a limit
  data Reason (e : Edit) (f : EditFault) : Type 0 where
    Absent : missing_fault t e ≡ Some f → Reason e f
    OfTest : (rule : LitmusRule) (offset : ℕ) → f ≡ faults.Test (litmus.Refused rule offset)
        → missing_fault t e ≡ None → IsTestEditRefused t e rule offset → Reason e f
    OfModel : (rule : CatRule) (offset : ℕ) → f ≡ faults.Model (cat.Refused rule offset)
        → missing_fault t e ≡ None → IsModelEditRefused t e rule offset → Reason e f
    OverLimit : missing_fault t e ≡ None → IsOverLimit t false e f → Reason e f

  reason : (e : Edit) (f : EditFault) → HasFaultLine f → RefusesEdit t false e f → Reason e f
  reason e (faults.Test (litmus.Refused rule offset)) is h = OfTest rule offset refl h.0 h.1
  reason e (faults.Test (litmus.OutOfMemory x)) is h = absurd is
  reason e (faults.Model (cat.Refused rule offset)) is h = OfModel rule offset refl h.0 h.1
  reason e (faults.Model (cat.OutOfMemory x)) is h = absurd is
  reason e faults.Full is h = OverLimit h.0 h.1
  reason e faults.Spent is h = OverLimit h.0 h.1
  reason e (faults.OutOfMemory x) is h = absurd is
  reason e faults.NoTest is h = Absent h
  reason e faults.NoModel is h = Absent h
  reason e faults.NoThread is h = Absent h
  reason e faults.NoItem is h = Absent h

  absent_first : (e : Edit) (f : EditFault) → missing_fault t e ≡ Some f → missing_fault t e ≡ None → ⊥
  absent_first e f a b = none_is_not f (sym b ∙ a)

  limit_one : (e : Edit) (f g : EditFault) → IsOverLimit t false e f → IsOverLimit t false e g
      → f ≡ g
  limit_one e f g h k =
      some_is f g (sym h.limit ∙ ap (limit_fault t false)
      (one_made t e h.new k.new few h.makes k.makes) ∙ k.limit)

  reason_one : (e : Edit) (f g : EditFault) → Reason e f → Reason e g → f ≡ g
  reason_one e f g (Absent a) (Absent b) = some_is f g (sym a ∙ b)
  reason_one e f g (Absent a) (OfTest rule offset is there h) = absurd (absent_first e f a there)
  reason_one e f g (Absent a) (OfModel rule offset is there h) = absurd (absent_first e f a there)
  reason_one e f g (Absent a) (OverLimit there h) = absurd (absent_first e f a there)
  reason_one e f g (OfTest rule offset is there h) (Absent b) = absurd (absent_first e g b there)
  reason_one e f g (OfTest rule offset is there h) (OfTest other again so also k) =
      let one = test_fault_one e rule other offset again h k in
      is ∙ (λ i. faults.Test (litmus.Refused (one.0 i) (one.1 i))) ∙ sym so
  reason_one e f g (OfTest rule offset is there h) (OfModel other again so also k) =
      absurd (not_both_kinds e rule other offset again h k)
  reason_one e f g (OfTest rule offset is there h) (OverLimit also k) =
      absurd (test_not_made e k.new rule offset k.makes h)
  reason_one e f g (OfModel rule offset is there h) (Absent b) = absurd (absent_first e g b there)
  reason_one e f g (OfModel rule offset is there h) (OfTest other again so also k) =
      absurd (not_both_kinds e other rule again offset k h)
  reason_one e f g (OfModel rule offset is there h) (OfModel other again so also k) =
      let one = model_fault_one e rule other offset again h k in
      is ∙ (λ i. faults.Model (cat.Refused (one.0 i) (one.1 i))) ∙ sym so
  reason_one e f g (OfModel rule offset is there h) (OverLimit also k) =
      absurd (model_not_made e k.new rule offset k.makes h)
  reason_one e f g (OverLimit there h) (Absent b) = absurd (absent_first e g b there)
  reason_one e f g (OverLimit there h) (OfTest rule offset is also k) =
      absurd (test_not_made e h.new rule offset h.makes k)
  reason_one e f g (OverLimit there h) (OfModel rule offset is also k) =
      absurd (model_not_made e h.new rule offset h.makes k)
  reason_one e f g (OverLimit there h) (OverLimit also k) = limit_one e f g h k

  not_accepted : (e : Edit) (new : BenchTexts) (f : EditFault) → Applies t false e new → Reason e f
      → ⊥
  not_accepted e new f a (Absent b) = absent_first e f b a.all_there
  not_accepted e new f a (OfTest rule offset is there h) = test_not_made e new rule offset a.makes h
  not_accepted e new f a (OfModel rule offset is there h) =
      model_not_made e new rule offset a.makes h
  not_accepted e new f a (OverLimit there h) =
      none_is_not f (sym a.within ∙ ap (limit_fault t false)
      (one_made t e new h.new few a.makes h.makes) ∙ h.limit)

  pub one_refusal : (e : Edit) (f g : EditFault) → HasFaultLine f → HasFaultLine g → RefusesEdit t false e f
      → RefusesEdit t false e g → f ≡ g
  one_refusal e f g is so h k = reason_one e f g (reason e f is h) (reason e g so k)

  pub not_both : (e : Edit) (new : BenchTexts) (f : EditFault) → HasFaultLine f → Applies t false e new
      → RefusesEdit t false e f → ⊥
  not_both e new f is a h = not_accepted e new f a (reason e f is h)

pub one_verdict : (t : BenchTexts) (e : Edit) → AreFew t.tests → HasOneVerdict t e
one_verdict t e few = record {
  one_result = λ new other h k. one_made t e new other few h.makes k.makes;
  one_refusal = one_refusal t few e;
  not_both = not_both t few e;
}
