use Rattle.std.proofs.Common.{List, sym, subst, ◌∙◌}
use Rattle.meaning.specs.Names.{Name}
use Rattle.plain_models.specs.Groups.{AreApart}
use Rattle.plain_models.proofs.Stepping.{group_names}
use Rattle.plain_models.proofs.group.solved.Goals as goal

pub rounds-requires-clause-apart : goal.rounds-requires-clause-apart
rounds-requires-clause-apart c =
    subst (λ (l : List Name). AreApart l)
    (group_names c.args.group.now ∙ (sym c.in_ok-names.ensures ∙ sym c.deref.ensures.value))
    c.requires.apart
