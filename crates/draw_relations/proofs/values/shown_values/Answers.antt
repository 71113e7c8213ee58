use Rattle.std.proofs.Common.{◌≡◌, List, length, subst}
use Rattle.std.proofs.lemmas.Result.{IfOk-weaker}
use Rattle.text_values.specs.ModelValues.{clauses_of}
use Rattle.draw_relations.specs.declared.names.ShownName.{ShownName}
use Rattle.draw_relations.specs.Shown.{names_shown}
use Rattle.draw_relations.specs.Values.{AreValuesBefore}
use Rattle.draw_relations.proofs.values.shown_values.Goals as goal

pub returns : goal.returns
returns c =
    let space = c.args.space.now in
    let clauses = clauses_of c.args.model.now.items.items in
    let same : c.in_ok-names.names.items ≡ names_shown clauses = rw c.deref.ensures.value at c.in_ok-names.ensures in
    let found = rw (c.deref-2.ensures.value, c.deref-3.ensures.value) at c.found_values.ensures.all in
    record {
      all =
          IfOk-weaker c.found_values.result _ _
          (λ v h.
          subst (λ (xs : List ShownName). AreValuesBefore space clauses xs (length xs) v.items) same h)
          found;
      sized = c.found_values.ensures.sized;
    }
