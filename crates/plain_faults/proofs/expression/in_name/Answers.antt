use Rattle.std.proofs.Common.{◌≡◌, [], ◌∷◌, ap, sym, ◌∙◌, Some}
use Rattle.std.proofs.lemmas.Result.{IfOk-weaker}
use Rattle.meaning.specs.Faults as definition
use Rattle.meaning.specs.Faults.{OfAny, Arity, Unbound, AsValue, finding_of, in_name}
use Rattle.plain_faults.specs.declared.finding.Finding.{Finding}
use Rattle.plain_faults.specs.declared.scope.Known.TheVariants as knowns
use Rattle.plain_faults.specs.Found.{IsSameFinding, IsSameKnown, IsFoundInName, from_name}
use Rattle.plain_faults.proofs.Applying.{name_value, name_function, name_nowhere, none_left}
use Rattle.plain_faults.proofs.expression.in_name.Goals as goal

pub returns-in-Value : goal.returns-in-Value
returns-in-Value c =
    let names = c.args.names.now in
    let n = c.args.name.now in
    let first = c.in-Some.first.now in
    let rest = c.in-Some.field-0-1.now in
    let at : from_name c.args.names.now c.args.name.now ≡ c.in-Some.first.now ∷ c.in-Some.field-0-1.now = let a = c.from_name.ensures in let b = c.as_bytes.ensures in let d = c.in-Some.ensures.cases.0 in cc in
    IfOk-weaker c.in_value.result
    (λ (f : Finding). (v : definition.KnownName) → IsSameKnown c.in-Value.value v → IsSameFinding f (in_name c.args.falling (Some (AsValue v))))
    (λ (f : Finding). IsFoundInName c.args.names.now c.args.falling c.args.name.now f)
    (λ f h. name_value names c.args.falling n first rest c.in-Value.value f at c.in-Value.is h)
    c.in_value.ensures

pub returns-in-Function : goal.returns-in-Function
returns-in-Function c =
    let names = c.args.names.now in
    let n = c.args.name.now in
    let first = c.in-Some.first.now in
    let rest = c.in-Some.field-0-1.now in
    let at : from_name c.args.names.now c.args.name.now ≡ c.in-Some.first.now ∷ c.in-Some.field-0-1.now = let a = c.from_name.ensures in let b = c.as_bytes.ensures in let d = c.in-Some.ensures.cases.0 in cc in
    IfOk-weaker c.wrong.result (λ (f : Finding). IsSameFinding f (finding_of OfAny 1 (Arity ∷ [])))
    (λ (f : Finding). IsFoundInName c.args.names.now c.args.falling c.args.name.now f)
    (λ f h. name_function names c.args.falling n first rest (knowns.Function c.in-Function.field-0 c.in-Function.field-1) f at c.in-Function.is
    (λ T o k. (_, _, k)) h)
    c.wrong.ensures

pub returns-in-None : goal.returns-in-None
returns-in-None c =
    let names = c.args.names.now in
    let n = c.args.name.now in
    let at : from_name c.args.names.now c.args.name.now ≡ [] = sym (c.from_name.ensures ∙ ap (from_name c.args.names.now) c.as_bytes.ensures) ∙ none_left c.from_name.result.now c.in-None.ensures.cases in
    IfOk-weaker c.wrong-in-None.result (λ (f : Finding). IsSameFinding f (finding_of OfAny 1 (Unbound ∷ [])))
    (λ (f : Finding). IsFoundInName c.args.names.now c.args.falling c.args.name.now f)
    (λ f h. name_nowhere names c.args.falling n f at h)
    c.wrong-in-None.ensures
