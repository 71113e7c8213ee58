use Rattle.std.proofs.Common.{◌∙◌, ◌++◌, ◌∷◌, [], inl, inr, ap, refl, sym, subst, arith}
use Rattle.std.proofs.lemmas.Bool.{cases_eq}
use Rattle.std.specs.Prelude.{slice_index_or}
use Rattle.cat_eval.specs.declared.table.Entry.{Entry}
use Rattle.cat_eval.specs.Tables.{IsEntryFilled}
use Rattle.cat_eval.proofs.Filling.{names_same}
use Rattle.cat_eval.proofs.table.NameRunEnter.enter.Goals as goal

pub loop-index-init : goal.loop-index-init
loop-index-init c = (
  refl,
  (λ j d. refl),
  (λ j ge d. refl),
  (λ bases ends reordered filled j lt d. absurd (omega (arith, lt))),
)

pub loop-index-preserved : goal.loop-index-preserved
loop-index-preserved c =
    let at = c.loop-index.index in
    let before = c.loop-index.invariant in
    let base = c.args.base.now in (
      c.fill_at.ensures.long ∙ before.0,
      (λ j d. elim (cases_eq j at) [
        | inl same ↦ rw same (c.fill_at.ensures.name d ∙ before.1 at d)
        | inr other ↦ ap (λ (x : Entry). x.name) (c.fill_at.ensures.others j other d) ∙ before.1 j d
      ]),
      (λ j ge d. c.fill_at.ensures.others j (λ e. omega (arith, e, ge)) d
          ∙ before.2 j (omega (arith, ge)) d),
      (λ bases ends reordered filled j lt d. elim (cases_eq j at) [
        | inl same ↦
            let old : IsEntryFilled (slice_index_or c.loop-index.self.entries.items at d) bases = subst (λ (x : Entry). IsEntryFilled x bases) (sym (before.2 at (omega arith) d)) (filled at (omega (arith, c.loop-index-test.true)) d) in
            rw same (c.in_ok-fill_at.ensures.filled bases ends reordered d old)
        | inr other ↦ subst (λ (x : Entry). IsEntryFilled x (bases ++ base ∷ []))
            (sym (c.fill_at.ensures.others j other d)) (before.3 bases ends reordered filled j
            (omega (arith, lt, other)) d)
      ]),
    )

pub returns : goal.returns
returns c = λ first bases ends reordered given.
    let before = c.loop-index.invariant in (
      names_same c.loop-index.self.entries.items c.args.self.now.entries.items before.0 before.1
          ∙ given.0,
      (λ i lt d. before.3 bases ends reordered given.1 i
          (omega (arith, lt, before.0, c.loop-index-test.false)) d),
    )
