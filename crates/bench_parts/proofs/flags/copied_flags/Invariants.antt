use Rattle.std.proofs.Common.{◌≡◌, ◌++◌, drop}
use Rattle.bench_parts.specs.Contents.{parts_state}
use Rattle.bench_parts.proofs.Among.{flags_of}
use Rattle.bench_parts.proofs.flags.copied_flags.Given as goal

abbrev pub invariant-loop-key : goal.invariant-loop-key
invariant-loop-key l =
    l.flags.items ++ flags_of (parts_state l.parts l.tests) l.test l.keys (drop l.key-index l.keys)
    ≡ flags_of (parts_state l.parts l.tests) l.test l.keys l.keys
