use Rattle.std.proofs.Common.{◌≡◌, ◌∙◌, inl, inr, Vec, Global, get_or, Contains, sym, subst, arith}
use Rattle.std.proofs.lemmas.Bool.{cases_eq}
use Rattle.std.proofs.lemmas.List.{get_or_default}
use Rattle.cat_eval.specs.declared.table.Entry.{Entry}
use Rattle.cat_eval.specs.Tables.{IsBlock, entry_names}
use Rattle.cat_eval.proofs.Blocks.{no_name}
use Rattle.cat_eval.proofs.table.Table.column.Goals as goal

pub loop-block-preserved : goal.loop-block-preserved
loop-block-preserved c = λ b lt d inside. elim (cases_eq b c.loop-block.block-index) [
  | inl same ↦
      let blocks = c.args.self.now.blocks.items in
      let index = c.loop-block.block-index in
      let item = c.block-item.result in
      let less = rw c.deref-block-items.ensures.value at c.loop-block-test.true in
      let is = rw c.deref-block-items.ensures.value at c.block-item.is in
      let there : get_or blocks index d ≡ item = get_or_default blocks index d item less ∙ sym is in
      let here : Contains (entry_names item.items) c.args.name = subst (λ (v : Vec Entry Global). Contains (entry_names v.items) c.args.name) there (rw same at inside) in
      absurd (c.in_default.ensures (rw c.deref.ensures.value here))
  | inr other ↦ c.loop-block.invariant b (omega (arith, lt, other)) d inside
]

pub returns-in-Some : goal.returns-in-Some
returns-in-Some c =
    let blocks = c.args.self.now.blocks.items in
    let index = c.loop-block.block-index in
    let item = c.block-item.result in
    let less = rw c.deref-block-items.ensures.value at c.loop-block-test.true in
    let is = rw c.deref-block-items.ensures.value at c.block-item.is in
    let found = rw c.deref.ensures.value at c.in-Some.ensures in (
      (
        index,
        less,
        (λ d. subst (λ (v : Vec Entry Global). Contains (entry_names v.items) c.args.name)
            (is ∙ get_or_default blocks index item d less) found.0),
      ),
      (λ candidates right. found.1 candidates (subst
          (λ (v : Vec Entry Global). IsBlock v.items candidates) (sym is)
          (right index less item))),
    )

pub returns : goal.returns
returns c = λ inside.
    let blocks = c.args.self.now.blocks.items in
    no_name blocks c.args.name
    (λ b lt d here. c.loop-block.invariant b
    (omega (arith, lt, c.loop-block-test.false, c.deref-block-items.ensures.len)) d here)
    inside
