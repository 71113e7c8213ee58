use Rattle.std.proofs.Common.{ℕ, List, Vec, [], ◌∷◌, ◌++◌, ap, ◌∙◌}
use Rattle.std.specs.declared.alloc.Global.{Global}
use Rattle.plain_events.specs.Choices.{lists_as}
use Rattle.plain_events.proofs.Choosing.{chosen_none}
use Rattle.plain_events.proofs.choice.one_choice.Goals as goal

pub returns : goal.returns
returns c =
    chosen_none (lists_as c.push.new.self.items)
    (ap (λ (l : List (Vec ℕ Global)). lists_as l) c.in_ok-push.ensures.items
    ∙ ap (λ (l : List (Vec ℕ Global)). lists_as (l ++ c.new.result ∷ [])) c.new-all.ensures.items
    ∙ ap (λ (ks : List ℕ). ks ∷ []) c.new.ensures.items)
