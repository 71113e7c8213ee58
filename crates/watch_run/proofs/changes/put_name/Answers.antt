use Rattle.std.proofs.Common.{Some, rules}
use Rattle.watch_run.proofs.Lists.{changed_past}
use Rattle.watch_run.proofs.changes.put_name.Goals as goal

pub returns-else-index-len-clause-names : goal.returns-else-index-len-clause-names
returns-else-index-len-clause-names c =
    changed_past c.args.index (Some c.args.name) c.args.names.now.items (search rules)
