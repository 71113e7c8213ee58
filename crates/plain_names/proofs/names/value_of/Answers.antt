use Rattle.std.proofs.Common.{List, sym, subst, ◌∙◌}
use Rattle.meaning_plain.specs.Lists.{HasMembers}
use Rattle.plain_executions.specs.Executions.{execution_as}
use Rattle.plain_names.specs.declared.seen.Seen.{Seen}
use Rattle.plain_names.specs.Seen.{seen_events, AreSeen}
use Rattle.plain_names.specs.Members.{IsMemberAt}
use Rattle.plain_names.proofs.names.value_of.Goals as goal

pub returns-then-is_set : goal.returns-then-is_set
returns-then-is_set c t are =
    let x = execution_as c.args.execution.now in (
      sym c.is_set.ensures ∙ c.if-is_set.true,
      subst (λ (l : List Seen). HasMembers (IsMemberAt t x c.args.name (seen_events l)) c.in_ok-events.events.items)
          c.deref.ensures.value
          (c.in_ok-events.ensures t x (subst (λ (l : List Seen). AreSeen t x l) (sym c.deref.ensures.value) are)),
    )

pub returns : goal.returns
returns c t are = (sym c.is_set.ensures ∙ c.if-is_set.false, c.in_ok-pairs.ensures t are)
