-- Where no memo has to go with an edit, each that may stay may stay after it.
use Rattle.std.proofs.Common.{◌≡◌, inl, inr, ℕ, zero, suc, Bool, true, false, not, ◌==◌, ◌||◌, List, [], ◌∷◌, map, Option, Some, None, slice_get, Vec, if◌then◌else◌, refl, ap, sym, subst, ◌∙◌, eqb-true}
use Rattle.std.specs.declared.alloc.Global.{Global}
use Rattle.std.proofs.lemmas.Bool.{cases_Bool}
use Rattle.text_values.specs.declared.test.Test.{Test}
use Rattle.memo_core.specs.declared.keys.Kind.{Kind}
use Rattle.memo_core.specs.declared.keys.Kind.TheVariants as kinds
use Rattle.memo_core.specs.declared.keys.Node.{Node}
use Rattle.memo_core.specs.Names.{kind_number}
use Rattle.memo_core.specs.Lemmas.Equality.{and_true, kind_exact}
use Rattle.bench_texts.specs.BenchTexts.{put_at}
use Rattle.bench_texts.specs.declared.model.NamedModel.{NamedModel}
use Rattle.bench_texts.specs.declared.replacement.Replacement.{Replacement}
use Rattle.bench_texts.specs.declared.replacement.Replacement.TheVariants as made
use Rattle.bench_nodes.specs.declared.table.ItemRow.{ItemRow}
use Rattle.bench_nodes.specs.declared.table.ModelRow.{ModelRow}
use Rattle.bench_nodes.specs.declared.table.TestRow.{TestRow}
use Rattle.bench_nodes.specs.Nodes.{has_test_row}
use Rattle.bench_parts.specs.Items.{raised_item}
use Rattle.bench_parts.specs.Models.{raised_model}
use Rattle.bench_parts.specs.States.{is_kind, has_kind, has_model, has_own, keeps, keeps_kind, keep_kinds, keep_models}
use Rattle.bench_parts.specs.declared.parts.Parts.{Parts}
use Rattle.bench_edits.specs.declared.edited.EditedParts.{EditedParts}
use Rattle.bench_edits.specs.declared.edited.EditedParts.TheVariants as edited
use Rattle.bench_edits.specs.declared.edited.ModelParts.{ModelParts}
use Rattle.bench_edits.specs.Edited.{AreTestsSame, AreModelsSame, PutsTest, PutsModels, IsTestMade, ArePartsMade}
use Rattle.bench_edits.specs.Laws.{IsEdit}
use Rattle.bench_edits.specs.Gone.{keep_owners, may_drop}
use Rattle.bench_edits.proofs.Touching.{new_id}

-- ---- items and models among those made

kind_kept : (is : List ItemRow) (ks : List (Option Kind)) (js : List ItemRow) (ls : List (Option Kind))
    (kind : Kind) (n : ℕ) → keep_kinds is ks js ls ≡ true → has_kind is ks kind n ≡ true
    → has_kind js ls kind n ≡ true
kind_kept [] ks js ls kind n h has = cc
kind_kept (i ∷ is) [] js ls kind n h has = cc
kind_kept (i ∷ is) (k ∷ ks) js ls kind n h has =
    let p = and_true (keeps_kind js ls k i.number) (keep_kinds is ks js ls) h in
    elim (cases_Bool (i.number == n)) [
      | inl e ↦ here k p.0 (rw e at has) (eqb-true i.number n e)
      | inr f ↦ kind_kept is ks js ls kind n p.1 (rw f at has)
    ]
  where
    here : (k : Option Kind) → keeps_kind js ls k i.number ≡ true → is_kind kind k ≡ true
        → i.number ≡ n → has_kind js ls kind n ≡ true
    here None keeps is e = cc
    here (Some own) keeps is e =
        subst (λ (m : ℕ). has_kind js ls kind m ≡ true) e
        (subst (λ (x : Kind). has_kind js ls x i.number ≡ true)
        (sym (kind_exact kind own (eqb-true (kind_number kind) (kind_number own) is))) keeps)

model_kept : (ms ns : List ModelRow) (id : ℕ) → keep_models ms ns ≡ true → has_model ms id ≡ true
    → has_model ns id ≡ true
model_kept [] ns id h has = cc
model_kept (m ∷ ms) ns id h has =
    let p = and_true (has_model ns m.id) (keep_models ms ns) h in
    elim (cases_Bool (id == m.id)) [
      | inl e ↦ subst (λ (x : ℕ). has_model ns x ≡ true) (sym (eqb-true id m.id e)) p.0
      | inr f ↦ model_kept ms ns id p.1 (rw f at has)
    ]

kinds_raised : (last number : ℕ) (is : List ItemRow) (ks : List (Option Kind)) (kind : Kind) (n : ℕ)
    → has_kind (map (raised_item last number) is) ks kind n ≡ has_kind is ks kind n
kinds_raised last number [] ks kind n = refl
kinds_raised last number (i ∷ is) [] kind n = refl
kinds_raised last number (i ∷ is) (k ∷ ks) kind n =
    ap (λ (b : Bool). if i.number == n then is_kind kind k else b)
    (kinds_raised last number is ks kind n)

models_raised : (last number : ℕ) (ms : List ModelRow) (id : ℕ)
    → has_model (map (raised_model last number) ms) id ≡ has_model ms id
models_raised last number [] id = refl
models_raised last number (m ∷ ms) id =
    ap (λ (b : Bool). (id == m.id) || b) (models_raised last number ms id)

-- ---- rows of tests

row_put : (ts : List TestRow) (at m : ℕ) (new : TestRow)
    → ((a : TestRow) → slice_get ts at ≡ Some a → a.id ≡ new.id) → has_test_row ts m ≡ true
    → has_test_row (put_at at new ts) m ≡ true
row_put [] zero m new same h = cc
row_put [] (suc at) m new same h = cc
row_put (t ∷ ts) zero m new same h =
    subst (λ (i : ℕ). ((m == i) || has_test_row ts m) ≡ true) (same t refl) h
row_put (t ∷ ts) (suc at) m new same h = elim (cases_Bool (m == t.id)) [
  | inl e ↦ rw e refl
  | inr f ↦ rw f (row_put ts at m new same (rw f at h))
]

-- ---- the edit

module _ (p q : Parts) where
  own_same : AreModelsSame p q → (kind : Kind) (of : ℕ) → has_own q kind of ≡ has_own p kind of
  own_same m kinds.Space of = refl
  own_same m kinds.Group of = rw (m.items, m.kinds) refl
  own_same m kinds.Check of = rw (m.items, m.kinds) refl
  own_same m kinds.Verdict of = rw m.rows refl

  module _ (number : ℕ) (m : ModelParts) (c : PutsModels p number m q) (keep : keep_owners p m ≡ true)
    where
      item_left : (kind : Kind) (of : ℕ) → has_kind p.table.items.items p.kinds.items kind of ≡ true
          → has_kind q.table.items.items q.kinds.items kind of ≡ true
      item_left kind of has =
          let k = and_true (keep_kinds p.table.items.items p.kinds.items m.items.rows.items m.items.kinds.items) (keep_models p.table.models.items m.rows.items) keep in
          ap (λ (is : List ItemRow). has_kind is q.kinds.items kind of) c.items
          ∙ ap (λ (ks : List (Option Kind)). has_kind (map (raised_item p.last number) m.items.rows.items) ks kind of) c.kinds
          ∙ kinds_raised p.last number m.items.rows.items m.items.kinds.items kind of
          ∙ kind_kept p.table.items.items p.kinds.items m.items.rows.items m.items.kinds.items kind
          of k.0 has

      own_left : (kind : Kind) (of : ℕ) → has_own p kind of ≡ true → has_own q kind of ≡ true
      own_left kinds.Space of has = refl
      own_left kinds.Group of has = item_left kinds.Group of has
      own_left kinds.Check of has = item_left kinds.Check of has
      own_left kinds.Verdict of has =
          let k = and_true (keep_kinds p.table.items.items p.kinds.items m.items.rows.items m.items.kinds.items) (keep_models p.table.models.items m.rows.items) keep in
          ap (λ (ms : List ModelRow). has_model ms of) c.rows
          ∙ models_raised p.last number m.rows.items of
          ∙ model_kept p.table.models.items m.rows.items of k.1 has

  left : (n : Node) → (has_test_row p.table.tests.items n.test ≡ true
      → has_test_row q.table.tests.items n.test ≡ true)
      → (has_own p n.kind n.of ≡ true → has_own q n.kind n.of ≡ true) → keeps p n ≡ true
      → keeps q n ≡ true
  left n test own h =
      let k = and_true (has_test_row p.table.tests.items n.test) (has_own p n.kind n.of) h in
      rw (test k.0, own k.1) refl

module _ (p q : Parts) (tests : List Test) (models : List NamedModel) (r : Replacement) (number : ℕ)
  where
    abbrev Keeps : Type 0
    Keeps = (n : Node) → keeps p n ≡ true → keeps q n ≡ true

    put_keeps : (to at : ℕ) (test : Test) (row : TestRow) (locations : Vec (List ℕ) Global)
        → IsEdit p tests models r number (edited.PutTest to row locations) q
        → IsTestMade p tests to test row locations.items → Keeps
    put_keeps to at test row locations edit is_made n h =
        let c : PutsTest p number to row locations q = edit.committed.changes in
        left p q n
        (λ there. subst (λ (ts : List TestRow). has_test_row ts n.test ≡ true) (sym c.rows)
        (row_put p.table.tests.items to n.test c.new
        (new_id {G = Bool} p q tests models r number (λ m g. false) (λ m g. false) to at test row locations
        edit is_made) there))
        (λ own. own_same p q c.models n.kind n.of ∙ own) h

    pub keeps_all : (e : EditedParts) → IsEdit p tests models r number e q → may_drop p e ≡ false
        → Keeps
    keeps_all (edited.PutTest to row locations) edit none = put_by r edit.is_made
      where
        put_by : (r : Replacement) → ArePartsMade p tests models r (edited.PutTest to row locations)
            → Keeps
        put_by (made.PutTest at test) m =
            put_keeps to at test row locations edit
            (subst (λ (i : ℕ). IsTestMade p tests i test row locations.items) (sym m.0) m.1)
        put_by (made.DropTest at) m = absurd m
        put_by (made.PutModel at model next) m = absurd m
        put_by (made.DropModel at) m = absurd m
    keeps_all (edited.DropTest to) edit none = cc
    keeps_all (edited.Models m) edit none = λ n h.
        let c : PutsModels p number m q = edit.committed.changes in
        left p q n (λ there. ap (λ (ts : List TestRow). has_test_row ts n.test) c.tests.rows ∙ there)
        (own_left p q number m c (is_true (keep_owners p m) none) n.kind n.of) h
      where
        is_true : (b : Bool) → not b ≡ false → b ≡ true
        is_true true h = refl
        is_true false h = cc

-- parts that are the same drop alike
pub same_drop : (p q : Parts) (e : EditedParts) → AreTestsSame p q → AreModelsSame p q
    → may_drop q e ≡ may_drop p e
same_drop p q (edited.PutTest at row locations) t m = refl
same_drop p q (edited.DropTest at) t m = refl
same_drop p q (edited.Models made) t m = rw (m.items, m.kinds, m.rows) refl
