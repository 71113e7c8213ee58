use Rattle.cat_machine.proofs.stack.is_as_asked.Goals as goal

pub returns-in-Acyclic : goal.returns-in-Acyclic
returns-in-Acyclic c =
    let pairs = c.close.ensures.pairs in
    rw c.in-Acyclic.is (
      (λ t a p. c.is_irreflexive.ensures.0 t a ((pairs a a).1 p)),
      (λ none. c.is_irreflexive.ensures.1 (λ a h. none a ((pairs a a).0 h))),
    )
