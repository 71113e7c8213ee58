use Rattle.std.proofs.Common.{◌≡◌, ◌≤◌, take, length}
use Rattle.outcome_states.specs.Ends.{final_word}
use Rattle.outcome_states.proofs.final_states.final_word.Given as goal

abbrev pub invariant-stores : goal.invariant-stores
invariant-stores l =
    (l.index ≤ length l.coherence)
    × (final_word l.combination l.coherence l.location
    ≡ final_word l.combination (take l.index l.coherence) l.location)

abbrev pub decreases-stores : goal.decreases-stores
decreases-stores l = l.index
