use Rattle.std.proofs.Common.{inl, List, Vec, [], ◌∷◌, ◌++◌, map, ap, ◌∙◌}
use Rattle.std.specs.declared.alloc.Global.{Global}
use Rattle.std.proofs.lemmas.List.{map-append}
use Rattle.plain_events.specs.declared.event.Event as code
use Rattle.plain_events.specs.Events.{event_as}
use Rattle.plain_executions.specs.Executions.{event_lists_as}
use Rattle.plain_executions.proofs.reading.put_if_sound.Goals as goal

pub returns-then-is : goal.returns-then-is
returns-then-is c =
    inl (
      c.in_ok-is.ensures.0 c.if-is.true,
      ap (λ (l : List (Vec code.Event Global)). event_lists_as l) c.in_ok-push.ensures.items
          ∙ map-append (λ (v : Vec code.Event Global). map event_as v.items) c.args.kept.now.items (c.in_ok-copy.copy ∷ [])
          ∙ ap (λ (l : List code.Event). event_lists_as c.args.kept.now.items ++ map event_as l ∷ []) c.in_ok-copy.ensures.items,
    )
