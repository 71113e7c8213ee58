use Rattle.std.proofs.Common.{◌≡◌, ◌-◌, ◌^◌, min, take}
use Rattle.verdict.specs.Judgement.{is_same_truth, total_of}
use Rattle.verdict.proofs.judgement.total.Given as goal

abbrev pub invariant-loop-state : goal.invariant-loop-state
invariant-loop-state l =
    l.all ≡ min (total_of (λ s. is_same_truth s.holds l.holds) (take l.state-index l.states)) (2 ^ 64 - 1)
