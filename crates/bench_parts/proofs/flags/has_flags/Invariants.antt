use Rattle.std.proofs.Common.{◌≡◌, ◌↔◌, drop}
use Rattle.bench_parts.specs.Contents.{parts_state}
use Rattle.bench_parts.proofs.Among.{flags_of}
use Rattle.bench_parts.proofs.flags.has_flags.Given as goal

abbrev pub invariant-loop-flag : goal.invariant-loop-flag
invariant-loop-flag l =
    (flags_of (parts_state l.parts l.tests) l.test l.keys l.rest ≡ drop l.flag-index l.flags)
    ↔ (flags_of (parts_state l.parts l.tests) l.test l.keys l.keys ≡ l.flags)
