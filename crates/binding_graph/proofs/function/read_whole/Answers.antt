use Rattle.std.proofs.Common.{ℕ, map, reverse, ap, ◌∙◌, subst, refl, false}
use Rattle.text_values.specs.ModelValues.{term_of}
use Rattle.binding_kinds.specs.Value.{entry_of}
use Rattle.binding_functions.specs.Parts.{IsBodyPart}
use Rattle.binding_functions.proofs.Filling.{whole_template, large_whole, some_pieces}
use Rattle.binding_graph.proofs.Declared.{usage_made}
use Rattle.binding_graph.proofs.function.read_whole.Goals as goal

pub returns-clause-usage : goal.returns-clause-usage
returns-clause-usage c = λ at.
    let new = c.new-uses.ensures in
    let lists = c.into_lists-values.ensures in
    let noted = c.in_ok-part.ensures.uses in
    let given = c.in_ok-function_of.ensures.given in
    usage_made _ _ c.in_ok-function_of.field-0 c.args.item c.args.sight.now.parameters.now
    (term_of c.args.body.now) c.args.sight.now.from c.read_inside.new.uses.values.items
    c.read_inside.new.uses.functions.items at given.0 given.1
    (ap (λ v. v.items) (given.2 ∙ lists.values)) (ap (λ v. v.items) (given.3 ∙ lists.functions))
    (rw new.values at (noted.values new.indexed))
    (rw new.functions at (noted.functions new.listed))

pub returns-clause-kept : goal.returns-clause-kept
returns-clause-kept c = λ ss kept few.
    let names = reverse (map entry_of c.args.sight.now.entries.now) in
    let ps = c.args.sight.now.parameters.now in
    let term = term_of c.args.body.now in
    let whole = whole_template c.new-template.result c.read_inside.new.template _ _ c.new-template.ensures.pieces c.new-template.ensures.is_oversized (large_whole ss names ps term) (some_pieces ss names ps term) (c.in_ok-part.ensures.template ss kept) in
    let part = subst (λ (n : ℕ). IsBodyPart ss names ps n false term c.in_ok-part.part) (c.weight-rows.ensures.power few) (c.in_ok-part.ensures.part ss kept) in
    c.in_ok-function_of.ensures.kept ss names ps term refl few whole part
