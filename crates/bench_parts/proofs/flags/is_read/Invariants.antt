use Rattle.std.proofs.Common.{◌≡◌, drop}
use Rattle.bench_parts.proofs.Among.{read_from}
use Rattle.bench_parts.proofs.flags.is_read.Given as goal

abbrev pub invariant-loop-key : goal.invariant-loop-key
invariant-loop-key l =
    read_from l.test (drop l.key-index l.keys) l.item ≡ read_from l.test l.keys l.item
