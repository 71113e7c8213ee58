use Rattle.std.proofs.Common.{◌∙◌, refl}
use Rattle.cat_eval.proofs.Entering.{held_of}
use Rattle.cat_eval.proofs.Filling.{block_right}
use Rattle.cat_eval.proofs.table.made_columns.Goals as goal

pub enter_space-requires-clause-held : goal.enter_space-requires-clause-held
enter_space-requires-clause-held c =
    held_of c.hold.new.self c.args.needs.now.names.items
    (rw c.deref.ensures.value at c.in_ok-hold.ensures.sets)
    (rw c.deref.ensures.value at c.in_ok-hold.ensures.relations)

pub returns-clause-columns : goal.returns-clause-columns
returns-clause-columns c =
    let needs = c.args.needs.now in
    let made = c.in_ok-run in
    let (bases, worlds, given) = c.in_ok-enter_space.ensures (refl, made.ensures.empty) in
    rw c.replace.ensures.value (block_right needs.names.items needs.reads needs.orders c.requires
    bases _ worlds c.enter_space.new.visitor.entries.items
    (given.0 ∙ rw c.deref-2.ensures.value at made.ensures.names) given.1)

pub returns-clause-names : goal.returns-clause-names
returns-clause-names c =
    let made = c.in_ok-run in
    let (bases, worlds, given) = c.in_ok-enter_space.ensures (refl, made.ensures.empty) in
    rw c.replace.ensures.value (given.0 ∙ rw c.deref-2.ensures.value at made.ensures.names)
