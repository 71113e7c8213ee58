use Rattle.std.proofs.Common.{refl}
use Rattle.predefined_names.specs.PredefinedNames.{is_set}
use Rattle.cat_eval.proofs.Filling.{filled_more, held_one}
use Rattle.cat_eval.proofs.table.push_value.Goals as goal

pub returns-clause-filled : goal.returns-clause-filled
returns-clause-filled c = λ bases before.
    let entry = c.args.entry.now in
    let base = c.args.base.now in
    filled_more entry _ bases base c.set-set.result c.write_relation.new.target refl
    c.in_ok-push.ensures
    (held_one (is_set entry.name) entry.name base c.set-set.result c.write_relation.new.target
    c.set-set.ensures.held c.write_relation.ensures.held) before
