use Rattle.std.proofs.Common.{◌∷◌, ◌++◌, [], append_assoc, ap, ◌∙◌}
use Rattle.std.proofs.lemmas.List.{replicate_more}
use Rattle.std.specs.Prelude.{replicate}
use Rattle.outcome_texts.proofs.table.put_spaces.Goals as goal

pub loop-space-preserved : goal.loop-space-preserved
loop-space-preserved c =
    let first = c.args.text.now.items in
    let count = c.loop-space._space in
    c.in_ok-push.ensures.items ∙ ap (λ t. t ++ 32 ∷ []) c.loop-space.invariant
    ∙ append_assoc first (replicate count 32) (32 ∷ [])
    ∙ ap (λ r. first ++ r) (replicate_more count 32)
