use Rattle.std.proofs.Common.{map, ap, ◌∙◌, arith}
use Rattle.std.proofs.lemmas.List.{take_all}
use Rattle.text_values.specs.declared.model.Binding as code_binding
use Rattle.plain_models.specs.Groups.{name_of}
use Rattle.plain_models.proofs.Stepping.{names_next}
use Rattle.plain_models.proofs.group.group_names.Goals as goal

pub loop-binding-preserved : goal.loop-binding-preserved
loop-binding-preserved c =
    names_next c.args.group.now c.loop-binding.binding-index c.binding-item.result
    c.loop-binding.names.items c.push.new.self.items c.in_ok-name.name (omega arith)
    c.loop-binding.invariant
    (c.in_ok-name.ensures ∙ ap (λ (b : code_binding.Binding). b.name) c.binding-item.is)
    c.in_ok-push.ensures.items

pub returns : goal.returns
returns c =
    c.loop-binding.invariant
    ∙ ap (map name_of) (take_all c.loop-binding.binding-index c.args.group.now (omega arith))
