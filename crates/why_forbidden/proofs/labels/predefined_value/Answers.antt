use Rattle.std.proofs.Common.{List, [], ◌∷◌, ◌++◌, ◌∙◌, refl, ap}
use Rattle.binding_kinds.specs.declared.kinds.Kind.TheVariants as kinds
use Rattle.binding_graph.specs.declared.resolved.Source.TheVariants as sources
use Rattle.binding_graph.specs.declared.resolved.Step.{Step}
use Rattle.binding_graph.specs.declared.resolved.Step.TheVariants as steps
use Rattle.why_forbidden.proofs.labels.predefined_value.Goals as goal

pub returns : goal.returns
returns c =
    let name : Step = steps.PushRelation (sources.Predefined c.args.name) in
    record {
      value = record {
        code = record { kind = kinds.OfRelation; steps = c.push.new.self };
        kind = refl;
        steps =
            c.in_ok-push.ensures.items
            ∙ ap (λ (xs : List Step). xs ++ name ∷ []) c.new-steps.ensures.items;
        values = c.in_ok-column.ensures;
      };
      name = refl;
    }
