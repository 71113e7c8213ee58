use Rattle.std.proofs.Common.{◌≡◌, take}
use Rattle.binding_kinds.specs.GroupNames.{let_names}
use Rattle.binding_kinds.specs.Verdict.{is_seen}
use Rattle.binding_kinds.proofs.judging.is_seen.Given as goal

abbrev pub invariant-loop-binding : goal.invariant-loop-binding
invariant-loop-binding l = l.is_found ≡ is_seen (let_names (take l.binding-index l.before)) l.name
