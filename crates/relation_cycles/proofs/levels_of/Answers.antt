use Rattle.std.proofs.Common.{sym, ◌∙◌}
use Rattle.std.proofs.lemmas.Bool.{false≢true}
use Rattle.relation_cycles.proofs.Steps.{level_count, all_there, less_room, grown}
use Rattle.relation_cycles.proofs.levels_of.Goals as goal

pub next_level-next-requires : goal.next_level-next-requires
next_level-next-requires c =
    level_count c.args.relation.now c.growing.level c.growing.levels.items c.growing.invariant

pub returns-then-is_same-clause-whole : goal.returns-then-is_same-clause-whole
returns-then-is_same-clause-whole c =
    all_there c.args.relation.now c.growing.level c.growing.levels.items c.growing.invariant
    c.next_level-next.result c.next_level-next.ensures (c.is_same.ensures.0 c.if-is_same.true)

pub growing-smaller : goal.growing-smaller
growing-smaller c =
    less_room c.args.relation.now c.growing.level c.growing.levels.items c.growing.invariant
    c.next_level-next.result c.next_level-next.ensures (λ same.
    absurd (false≢true (sym c.if-is_same.false ∙ c.is_same.ensures.1 same)))

pub growing-preserved : goal.growing-preserved
growing-preserved c =
    rw c.in_ok-push-2.ensures.items (grown c.args.relation.now c.growing.level
    c.growing.levels.items c.growing.invariant c.next_level-next.result
    c.next_level-next.ensures)
