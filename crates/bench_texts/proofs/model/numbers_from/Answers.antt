use Rattle.std.proofs.Common.{ℕ, ◌+◌, List, [], ◌∷◌, ◌++◌, ap, sym, ◌∙◌}
use Rattle.bench_texts.proofs.Numbered.{range-more}
use Rattle.bench_texts.proofs.model.numbers_from.Goals as goal

pub loop-index-preserved : goal.loop-index-preserved
loop-index-preserved c =
    c.in_ok-push.ensures.items
    ∙ ap (λ (l : List ℕ). l ++ (c.args.first + c.loop-index.index) ∷ []) c.loop-index.invariant
    ∙ sym (range-more c.args.first c.loop-index.index)
