use Rattle.std.proofs.Common.{◌≡◌, false, take}
use Rattle.std.specs.List.{list_any}
use Rattle.outcome_states.specs.Names.{is_name}
use Rattle.verdict.proofs.judgement.is_among.Given as goal

abbrev pub invariant-loop-known : goal.invariant-loop-known
invariant-loop-known l = list_any (is_name l.name) (take l.known-index l.names) ≡ false
