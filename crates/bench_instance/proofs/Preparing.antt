-- Texts that are the same after an edit is prepared, wherever they lie in memory.
use Rattle.std.proofs.Common.{◌≡◌, ℕ, Bool, true, false, ◌&&◌, ◌||◌, if◌then◌else◌, Option, Some, None, List, length, map, refl, subst, sym, ap, ◌∙◌}
use Rattle.std.specs.List.{AllZip, AllByRecursion as Each}
use Rattle.text_values.specs.declared.test.Test.{Test}
use Rattle.ppc_lowering.specs.Lowering.{AreNamesOf, test_names}
use Rattle.bench_texts.specs.BenchTexts.{BenchTexts}
use Rattle.bench_texts.specs.declared.model.NamedModel.{NamedModel}
use Rattle.bench_texts.specs.declared.fault.EditFault.TheVariants as faults
use Rattle.bench_texts.specs.Edits.{Edit, Applies, IsWanting, has_text, missing_fault}
use Rattle.bench_texts.proofs.Refusing.{is_wanting}
use Rattle.bench_texts.specs.Limits.{is_full, is_spent}
use Rattle.memo_core.specs.declared.keys.Kind.{Kind}
use Rattle.memo_core.specs.declared.keys.Kind.TheVariants as kinds
use Rattle.memo_core.specs.declared.keys.Node.{Node}
use Rattle.bench_nodes.specs.declared.table.ItemRow.{ItemRow}
use Rattle.bench_nodes.specs.declared.table.ModelRow.{ModelRow}
use Rattle.bench_nodes.specs.declared.table.TestRow.{TestRow}
use Rattle.bench_nodes.specs.Nodes.{has_test_row}
use Rattle.bench_parts.specs.declared.parts.Parts.{Parts}
use Rattle.bench_parts.specs.Built.{IsBuilt}
use Rattle.bench_parts.specs.Contents as contents
use Rattle.bench_parts.specs.States.{IsSamePartsState, has_kind, has_model, has_own, keeps}
use Rattle.bench_parts.proofs.Same as states
use Rattle.bench_parts.proofs.SameWritten as written
use Rattle.bench_parts.specs.Written.{IsSameWritten}
use Rattle.bench_parts.specs.ItemLaws.{IsOfItsKind}
use Rattle.bench_edits.specs.Edited.{AreTestsSame, AreModelsSame}
use Rattle.bench_edits.specs.Owed.{AreRowsNumbered, ArePartsOf}
use Rattle.bench_edits.specs.Readings.{readings_of, all_facts, written_models}
use Rattle.bench_edits.specs.Left.{AreKindsOf}
use Rattle.bench_text_laws.specs.Orderly.{IsOrderly}
use Rattle.bench_instance.specs.declared.stamped_texts.StampedTexts.{StampedTexts}
use Rattle.bench_instance.specs.StampedTexts.{stamped_state, written_of, stamped_net, AreSoundTexts, AreTextsSince}
use Rattle.bench_instance.specs.Edited.{AreSameTexts}

-- ---- the numbers are not spent

within_unspent : (full spent is : Bool)
    → (if full then Some faults.Full else (if spent || is then Some faults.Spent else None)) ≡ None
    → spent ≡ false
within_unspent true spent is e = cc
within_unspent false true is e = cc
within_unspent false false is e = refl

pub is_unspent : (t new : BenchTexts) (spent : Bool) (e : Edit) → Applies t spent e new
    → spent ≡ false
is_unspent t new spent e h = within_unspent (is_full new) spent (is_spent t) h.within

pub applies_unspent : (t new : BenchTexts) (spent : Bool) (e : Edit) → Applies t spent e new
    → Applies t false e new
applies_unspent t new spent e h =
    subst (λ (b : Bool). Applies t b e new) (is_unspent t new spent e h) h

-- ---- want of memory

pub is_all_there : (t new : BenchTexts) (spent : Bool) (e : Edit) → Applies t spent e new
    → missing_fault t e ≡ None
is_all_there t new spent e a = a.all_there

pub is_wanted : (t new : BenchTexts) (spent : Bool) (e : Edit) → Applies t spent e new
    → IsWanting t spent e (has_text e)
is_wanted t new spent e a = is_wanting t new spent e a

-- ---- states that are the same

pub same_state : (p q : Parts) (ts us : List Test) → us ≡ ts → AreTestsSame p q → AreModelsSame p q
    → q.last ≡ p.last → IsSamePartsState (contents.parts_state p ts) (contents.parts_state q us)
same_state p q ts us e t m l = record {
  tests = e;
  test_rows = t.rows;
  locations = t.locations;
  model_rows = m.rows;
  faults = m.faults;
  item_rows = m.items;
  roles = m.roles;
  kinds = m.kinds;
  slots = m.slots;
  last = l;
}

module _ (p q : Parts) (ts us : List Test) (ms : List NamedModel)
    (same : IsSamePartsState (contents.parts_state p ts) (contents.parts_state q us)) where
  numbered_is : AreRowsNumbered p.last p.table.tests.items p.table.models.items
      → AreRowsNumbered q.last q.table.tests.items q.table.models.items
  numbered_is h =
      subst (λ (l : ℕ). AreRowsNumbered l q.table.tests.items q.table.models.items) (sym same.last)
      (subst (λ (rs : List TestRow). AreRowsNumbered p.last rs q.table.models.items)
      (sym same.test_rows)
      (subst (λ (rs : List ModelRow). AreRowsNumbered p.last p.table.tests.items rs)
      (sym same.model_rows) h))

  pub parts_are_same : ArePartsOf p ts ms → ArePartsOf q us ms
  parts_are_same h = record {
    built =
        subst (λ (rows : List ModelRow). IsBuilt (contents.parts_state q us) (readings_of rows ms))
        (sym same.model_rows) (states.built_is (contents.parts_state p ts) (contents.parts_state q us)
        same (readings_of p.table.models.items ms) h.built);
    each_model = ap length same.model_rows ∙ h.each_model;
    each_item = ap (map (λ i. i.number)) same.item_rows ∙ h.each_item;
    numbered = numbered_is h.numbered;
    locations =
        subst (λ ls. AllZip (λ c l. AreNamesOf (test_names c) l.items) us ls) (sym same.locations)
        (subst
        (λ (cs : List Test).
        AllZip (λ c l. AreNamesOf (test_names c) l.items) cs p.locations.items)
        (sym same.tests) h.locations);
  }

  pub kinds_are_same : AreKindsOf p ms → AreKindsOf q ms
  kinds_are_same h =
      subst (λ (ks : List (Option Kind)). Each (IsOfItsKind q.table.items.items ks) (all_facts ms))
      (sym same.kinds)
      (subst (λ (is : List ItemRow). Each (IsOfItsKind is p.kinds.items) (all_facts ms))
      (sym same.item_rows) h)

module _ (t u : StampedTexts) (same : AreSameTexts t u) where
  pub sound_is : AreSoundTexts t → AreSoundTexts u
  sound_is s = record {
    read = same.read s.read;
    parts_are =
        subst (λ (ms : List NamedModel). ArePartsOf u.parts u.texts.tests.items ms)
        (sym same.models) (parts_are_same t.parts u.parts t.texts.tests.items u.texts.tests.items
        t.texts.models.items same.state s.parts_are);
    orderly = subst IsOrderly (sym same.texts) s.orderly;
    kinds =
        subst (λ (ms : List NamedModel). AreKindsOf u.parts ms) (sym same.models)
        (kinds_are_same t.parts u.parts t.texts.tests.items u.texts.tests.items t.texts.models.items
        same.state s.kinds);
  }

  kind_is : (kind : Kind) (of : ℕ)
      → has_kind u.parts.table.items.items u.parts.kinds.items kind of
      ≡ has_kind t.parts.table.items.items t.parts.kinds.items kind of
  kind_is kind of =
      ap (λ (is : List ItemRow). has_kind is u.parts.kinds.items kind of) same.state.item_rows
      ∙ ap (λ (ks : List (Option Kind)). has_kind t.parts.table.items.items ks kind of)
      same.state.kinds

  own_is : (kind : Kind) (of : ℕ) → has_own u.parts kind of ≡ has_own t.parts kind of
  own_is kinds.Space of = refl
  own_is kinds.Group of = kind_is kinds.Group of
  own_is kinds.Check of = kind_is kinds.Check of
  own_is kinds.Verdict of = ap (λ (ms : List ModelRow). has_model ms of) same.state.model_rows

  pub same_keeps : (n : Node) → keeps u.parts n ≡ keeps t.parts n
  same_keeps n =
      ap (λ (ts : List TestRow). has_test_row ts n.test && has_own u.parts n.kind n.of)
      same.state.test_rows
      ∙ ap (λ (own : Bool). has_test_row t.parts.table.tests.items n.test && own)
      (own_is n.kind n.of)

  pub net_is : stamped_net u ≡ stamped_net t
  net_is = states.net_is (stamped_state t) (stamped_state u) same.state

  models_are : (written_of u).models ≡ (written_of t).models
  models_are =
      ap (λ (rows : List ModelRow). written_models rows u.texts.models.items) same.state.model_rows
      ∙ ap (written_models t.parts.table.models.items) same.models

  same_written : IsSameWritten (written_of t) (written_of u)
  same_written =
      record {
        state = same.state;
        models = models_are;
        next = ap (λ (b : BenchTexts). b.next) same.texts;
      }

  pub since_is : (r : StampedTexts) → AreTextsSince r t → AreTextsSince r u
  since_is r since = record {
    sound = sound_is since.sound;
    since = written.since_is (written_of t) (written_of u) same_written (written_of r) since.since;
    same = λ e. (
        let h = since.same (sym same.state.last ∙ e) in
        record { texts = same.texts ∙ h.texts; tests = same.state.tests ∙ h.tests; models = same.models ∙ h.models });
    same_rows = λ e. (
        let h = since.same_rows (sym same.state.last ∙ e) in
        record { tests = same.state.test_rows ∙ h.tests; models = same.state.model_rows ∙ h.models });
  }
