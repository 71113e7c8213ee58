use Rattle.std.proofs.Common.{inl, inr}
use Rattle.std.proofs.lemmas.Result.{on_ok_weaker}
use Rattle.cat_eval.proofs.Reordering.{holds_same}
use Rattle.cat_eval.proofs.table.fill.Goals as goal

pub returns-then-is_kept-clause-filled : goal.returns-then-is_kept-clause-filled
returns-then-is_kept-clause-filled c = on_ok_weaker c.push_again.result
    (λ made bases ends reordered before. elim (c.is_kept.ensures c.if-is_kept.true) [
      | inl again ↦ made bases c.args.base.now c.args.base.now (ends again) (λ s r held. held)
          before
      | inr (is, fixed) ↦
          let (last, at_end, same) = reordered is in
          made bases last c.args.base.now at_end
          (holds_same last c.args.base.now same c.args.entry.now.name fixed) before
    ])
    c.push_again.ensures.filled
