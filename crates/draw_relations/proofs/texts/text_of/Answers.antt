use Rattle.std.proofs.Common.{◌≡◌, List, sym, subst}
use Rattle.text_values.specs.declared.model.Item.{Item}
use Rattle.text_values.specs.ModelValues.{clauses_of, term_of}
use Rattle.draw_relations.specs.Shown.{clauses_for}
use Rattle.draw_relations.proofs.Bound.{clauses_are}
use Rattle.draw_relations.proofs.texts.text_of.Goals as goal

pub returns : goal.returns
returns c =
    let items = c.args.items.now in
    let x = c.args.shown.now in
    let body = c.in-Some.body in
    let bound = c.in_ok-items.ensures in (
      term_of body,
      sym (rw c.in-Some.is at c.in_ok-body.ensures),
      subst (λ (is : List Item). clauses_of is ≡ clauses_for (clauses_of items) x (term_of body))
          (sym {A = List Item} c.in_ok-push.ensures.items)
          (clauses_are items c.in_ok-items.items.items x (term_of body) c.check_on.result bound
          c.check_on.ensures),
    )
