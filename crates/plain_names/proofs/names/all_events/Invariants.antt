use Rattle.std.proofs.Common.{◌<◌}
use Rattle.meaning_plain.specs.Lists.{HasMembers}
use Rattle.plain_names.proofs.names.all_events.Given as goal

abbrev pub invariant-loop-index : goal.invariant-loop-index
invariant-loop-index l = HasMembers (λ n. n < l.index) l.all.items
