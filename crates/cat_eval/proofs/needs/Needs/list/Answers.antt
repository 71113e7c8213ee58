use Rattle.std.proofs.Common.{[], ◌∷◌}
use Rattle.std.proofs.lemmas.List.Elements.{Contains-append_left}
use Rattle.cat_eval.proofs.Listed.{listed_with}
use Rattle.cat_eval.proofs.needs.Needs.list.Goals as goal

pub returns-then-is_listed-clause-listed : goal.returns-then-is_listed-clause-listed
returns-then-is_listed-clause-listed c =
    listed_with c.args.self.now.names.items c.args.name (rw c.deref.ensures.value at
    (c.is_listed.ensures c.if-is_listed.true))

pub returns-then-is_listed-clause-within : goal.returns-then-is_listed-clause-within
returns-then-is_listed-clause-within c =
    λ x inside. Contains-append_left c.args.self.now.names.items (c.args.name ∷ []) x inside
