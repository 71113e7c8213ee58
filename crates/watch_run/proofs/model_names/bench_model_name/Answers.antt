use Rattle.std.proofs.Common.{rules, arith}
use Rattle.watch_run.proofs.Names.{apart}
use Rattle.watch_run.proofs.model_names.bench_model_name.Goals as goal

pub returns-clause-apart : goal.returns-clause-apart
returns-clause-apart c =
    apart c.args.index c.put_decimal.new.text.items (omega arith) (search rules)
