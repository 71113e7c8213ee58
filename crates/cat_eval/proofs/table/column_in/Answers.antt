use Rattle.std.proofs.Common.{◌≡◌, ◌∙◌, inl, inr, get_or, Contains, ap, sym, subst, arith}
use Rattle.std.proofs.lemmas.Bool.{cases_eq}
use Rattle.std.proofs.lemmas.List.{get_or_default}
use Rattle.predefined_names.specs.declared.predefined.Predefined.{Predefined}
use Rattle.cat_eval.specs.declared.table.Entry.{Entry}
use Rattle.cat_eval.specs.Tables.{IsColumnOf, entry_names}
use Rattle.cat_eval.proofs.Blocks.{some_of}
use Rattle.cat_eval.proofs.Filling.{entry_at, entry_there}
use Rattle.cat_machine.proofs.Naming.{equal_names, unequal_names}
use Rattle.cat_eval.proofs.table.column_in.Goals as goal

pub loop-entry-preserved : goal.loop-entry-preserved
loop-entry-preserved c = λ j lt d is. elim (cases_eq j c.loop-entry.entry-index) [
  | inl same ↦
      let entries = c.args.entries.now in
      let index = c.loop-entry.entry-index in
      let item = c.entry-item.result in
      let there : get_or entries index d ≡ item = get_or_default entries index d item c.loop-entry-test.true ∙ sym c.entry-item.is in
      let named : item.name ≡ c.args.name = sym (ap (λ (x : Entry). x.name) there) ∙ (rw same at is) in
      absurd (unequal_names item.name c.args.name c.eq.result c.eq.ensures c.if-eq.false named)
  | inr other ↦ c.loop-entry.invariant j (omega (arith, lt, other)) d is
]

pub returns-then-eq : goal.returns-then-eq
returns-then-eq c =
    let entries = c.args.entries.now in
    let index = c.loop-entry.entry-index in
    let item = c.entry-item.result in
    let same : item.name ≡ c.args.name = equal_names item.name c.args.name c.eq.result c.eq.ensures c.if-eq.true in
    let there : Contains (entry_names entries) item.name = subst (λ (x : Entry). Contains (entry_names entries) x.name) (sym c.entry-item.is) (entry_there entries index c.loop-entry-test.true item) in (
      subst (λ (n : Predefined). Contains (entry_names entries) n) same there,
      (λ candidates right. subst (λ (n : Predefined). IsColumnOf item.column n candidates) same
          (subst (λ (x : Entry). IsColumnOf x.column x.name candidates) (sym c.entry-item.is)
          (right index c.loop-entry-test.true item))),
    )

pub returns : goal.returns
returns c = λ inside.
    let (k, lt, is) = entry_at c.args.entries.now c.args.name inside in
    let d : Entry = some_of c.args.entries.now k lt in
    c.loop-entry.invariant k (omega (arith, lt, c.loop-entry-test.false)) d (is d)
