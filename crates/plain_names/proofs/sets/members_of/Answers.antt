use Rattle.plain_names.proofs.Belonging.{members_meant}
use Rattle.plain_names.proofs.sets.members_of.Goals as goal

pub returns : goal.returns
returns c t x shown =
    members_meant c.args.seen.now t x c.args.name c.in_ok-members.members.items c.in_ok-members.ensures
    shown
