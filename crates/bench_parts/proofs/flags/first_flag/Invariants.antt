use Rattle.std.proofs.Common.{◌≡◌, drop}
use Rattle.bench_parts.specs.Contents.{parts_state}
use Rattle.bench_parts.proofs.Among.{flags_of}
use Rattle.bench_parts.proofs.flags.first_flag.Given as goal

abbrev pub invariant-loop-index : goal.invariant-loop-index
invariant-loop-index l =
    flags_of (parts_state l.parts l.tests) l.test l.keys (drop l.index l.rest)
    ≡ flags_of (parts_state l.parts l.tests) l.test l.keys l.rest
