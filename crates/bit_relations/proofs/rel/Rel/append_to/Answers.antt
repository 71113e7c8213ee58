use Rattle.bit_relations.proofs.Packing.{put_behind}
use Rattle.bit_relations.proofs.rel.Rel.append_to.Goals as goal

pub returns-clause-added : goal.returns-clause-added
returns-clause-added c =
    rw (← c.self.view_is) (put_behind _ _ _ _ c.self.invariant c.end_of_high.ensures.none
    c.end_of_high.ensures.all c.reserve.ensures.items c.first-low.ensures c.first-high.ensures
    c.in_ok-extend_from_slice.ensures.items c.in_ok-extend_from_slice-2.ensures.items)
