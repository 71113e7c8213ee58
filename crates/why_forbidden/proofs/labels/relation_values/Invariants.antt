use Rattle.std.proofs.Common.{◌≡◌, take}
use Rattle.std.specs.List.{All}
use Rattle.why_forbidden.specs.Language.{IsOfLanguage, valued_names, relation_names}
use Rattle.why_forbidden.proofs.labels.relation_values.Given as goal

abbrev pub invariant-loop-index : goal.invariant-loop-index
invariant-loop-index l =
    All (IsOfLanguage l.space) l.values.items
    × (valued_names l.values.items ≡ relation_names (take l.index l.names))
