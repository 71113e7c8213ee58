use Rattle.std.proofs.Common.{ℕ, [], subst}
use Rattle.text_values.specs.ModelValues.{term_of, check_of}
use Rattle.meaning.specs.Cat.{Names, meaning_of}
use Rattle.meaning_plain.specs.Lists.{SetOf}
use Rattle.plain_models.specs.Values.{IsEvaluatedTo}
use Rattle.plain_models.specs.Scopes.{with_named}
use Rattle.plain_models.proofs.Checking.{no_names, met_from}
use Rattle.plain_models.proofs.item.is_met.Goals as goal

pub returns : goal.returns
returns c =
    let s = c.args.scope.now in
    let all = SetOf s.all.now in
    let check = c.args.check.now in
    met_from (check_of check)
    (meaning_of all (with_named all s.items.now s.outer.now []) (term_of check.body)) c.in_ok-value.value
    c.in_ok-holds.holds c.negated_if-met.result
    (subst (λ (N : Names ℕ). IsEvaluatedTo (meaning_of all N (term_of check.body)) c.in_ok-value.value)
    (no_names all s.items.now s.outer.now s.names.now s.values.now c.requires.names)
    c.in_ok-value.ensures)
    c.in_ok-holds.ensures c.negated_if-met.ensures
