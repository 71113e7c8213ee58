use Rattle.std.proofs.Common.{◌<◌}
use Rattle.meaning_plain.specs.Lists.{HasMembers}
use Rattle.plain_names.specs.Members.{IsMemberSeen}
use Rattle.plain_names.proofs.sets.members_by.Given as goal

abbrev pub invariant-loop-index : goal.invariant-loop-index
invariant-loop-index l =
    HasMembers (λ n. (n < l.index) × IsMemberSeen l.name l.seen n) l.members.items
