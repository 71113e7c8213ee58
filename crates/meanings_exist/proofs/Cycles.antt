-- Whether the pairs of a list of events make a cycle is decided.
use Rattle.std.proofs.Common.{map, Contains}
use Rattle.meaning.specs.Executions.{Event}
use Rattle.plain_runs.proofs.Listing.{there_mapped}
use Rattle.meanings_exist.specs.CycleLaws.{CyclesAreDecided}
use Rattle.meanings_exist.proofs.Decisions.{same_event, same_pair}
use Rattle.meanings_exist.proofs.Finite.{finite_list, member_or_not}
use Rattle.meanings_exist.proofs.Paths.{acyclic_decided}

pub cycles_decided : CyclesAreDecided
cycles_decided pairs =
    acyclic_decided (λ a b. Contains pairs (a, b)) (map (λ (p : Event × Event). p.1) pairs)
    (λ a b there. there_mapped (λ (p : Event × Event). p.1) pairs (a, b) there)
    (λ a b. member_or_not (λ p. Contains pairs p) (same_pair same_event same_event)
    (finite_list pairs) (a, b))
