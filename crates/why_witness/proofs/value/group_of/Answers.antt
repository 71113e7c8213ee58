use Rattle.std.proofs.Common.{List, [], ◌∷◌, ◌++◌, ◌∙◌, refl, ap}
use Rattle.binding_graph.specs.declared.resolved.Body.{Body}
use Rattle.why_witness.proofs.value.group_of.Goals as goal

pub returns : goal.returns
returns c =
    let body : Body = record { name = c.in_ok-name.name; code = record { kind = c.args.code.now.kind; steps = c.in_ok-steps.steps } } in
    record {
      bodies = c.push.new.self;
      group = refl;
      body = body;
      alone =
          c.in_ok-push.ensures.items
          ∙ ap (λ (xs : List Body). xs ++ body ∷ []) c.new-bodies.ensures.items;
      kind = refl;
      steps = c.in_ok-steps.ensures.items ∙ c.deref.ensures.value;
    }
