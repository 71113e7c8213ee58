use Rattle.std.proofs.Common.{◌≡◌, ◌&&◌, nat_lt, drop}
use Rattle.std.specs.List.{list_all}
use Rattle.bench_texts.proofs.prepare_models.are_printable.Given as goal

abbrev pub invariant-loop-index : goal.invariant-loop-index
invariant-loop-index l =
    list_all (λ b. nat_lt 32 b && nat_lt b 127) l.bytes
    ≡ list_all (λ b. nat_lt 32 b && nat_lt b 127) (drop l.index l.bytes)
