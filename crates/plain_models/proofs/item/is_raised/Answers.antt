use Rattle.std.proofs.Common.{◌↔◌, [], ◌∷◌, IsTrue, Bool, IfOk, sym, subst}
use Rattle.text_values.specs.declared.model.Item.{Item}
use Rattle.text_values.specs.ModelValues.{clause_of}
use Rattle.meaning.specs.Cat.{IsFlagMet}
use Rattle.meaning_plain.specs.Lists.{SetOf}
use Rattle.plain_models.specs.Scopes.{with_named}
use Rattle.plain_models.proofs.item.is_raised.Goals as goal

pub returns-in-Flag : goal.returns-in-Flag
returns-in-Flag c =
    let s = c.args.scope.now in
    let all = SetOf s.all.now in
    subst
    (λ (i : Item). IfOk c.is_met.result (λ (b : Bool). IsTrue b ↔ IsFlagMet all (with_named all s.items.now s.outer.now []) (clause_of i ∷ []) 0))
    (sym c.in-Flag.is) c.is_met.ensures
