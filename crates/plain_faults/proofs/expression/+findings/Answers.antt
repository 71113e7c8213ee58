use Rattle.std.proofs.Common.{ℕ, ◌≡◌, ◌+◌, ◌≤◌, List, [], ◌∷◌, length, length-append, map, Bool, ◌||◌, false, suc, ap, sym, subst, ◌∙◌, arith}
use Rattle.std.specs.Prelude.{replicate}
use Rattle.std.specs.List.{AllZip}
use Rattle.std.proofs.lemmas.Result.{IfOk-weaker}
use Rattle.text_values.specs.declared.model.Expression.{Expression}
use Rattle.text_values.specs.ModelValue.{Term, Apply}
use Rattle.text_values.specs.ModelValues.{term_of}
use Rattle.text_values.proofs.Arguments.{applied_term}
use Rattle.meaning.specs.Faults as definition
use Rattle.meaning.specs.Faults.{Scope, OfAny, Arity, Unbound, finding_of, faults_in, in_body, in_term, is_falling_parameter}
use Rattle.plain_faults.specs.declared.finding.KnownName.{KnownName}
use Rattle.plain_faults.specs.declared.finding.Finding.{Finding}
use Rattle.plain_faults.specs.declared.scope.Known.TheVariants as knowns
use Rattle.plain_faults.specs.Found.{IsSameFinding, IsSameKnown, AreFlags, IsFoundIn, AreFoundIn, ArePlainIn, IsFoundInUse, IsFoundInFunction, AreFallingIn, arguments_as, from_name, known_weight, names_weight, term_weight}
use Rattle.plain_faults.proofs.Applying.{applied, filled, next_flag, none_left, plain_flags, use_function, use_nowhere, use_value, use_wrong, weight_there}
use Rattle.plain_faults.proofs.expression.+findings.Goals as goal

-- ---- which parameters must not grow

pub falling_parameters-loop-index-init : goal.falling_parameters-loop-index-init
falling_parameters-loop-index-init t c =
    let none = c.new-all.ensures.items in (
      ap length none,
      λ S names. subst
          (λ (l : List Bool). AreFlags (λ i. c.args.falling || is_falling_parameter (in_body S c.args.parameters.now (term_of c.args.body.now)) i) 0 l)
          (sym none) tt,
    )

pub falling_parameters-loop-index-preserved : goal.falling_parameters-loop-index-preserved
falling_parameters-loop-index-preserved t c =
    let bs = c.loop-index.all.items in
    let new = c.push.new.self.items in
    let n = c.loop-index.index in
    let more = c.in_ok-push.ensures.items in (
      ap length more ∙ length-append bs (c.either-is.result ∷ []) ∙ ap (λ (k : ℕ). k + 1) c.loop-index.invariant.0,
      λ S names. next_flag (λ i. c.args.falling || is_falling_parameter (in_body S c.args.parameters.now (term_of c.args.body.now)) i)
          bs new c.either-is.result n c.loop-index.invariant.0 (c.loop-index.invariant.1 S names)
          (c.either-is.ensures ∙ ap (λ (b : Bool). c.args.falling || b) (c.in_ok-here.ensures S names)) more,
    )

pub falling_parameters-returns-clause-length : goal.falling_parameters-returns-clause-length
falling_parameters-returns-clause-length t c =
    let e : c.loop-index.index ≡ c.args.count = omega arith in
    c.loop-index.invariant.0 ∙ e

pub falling_parameters-returns-clause-are : goal.falling_parameters-returns-clause-are
falling_parameters-returns-clause-are t c = c.loop-index.invariant.1

-- ---- applications

pub in_plain_terms-returns : goal.in_plain_terms-returns
in_plain_terms-returns t c =
    let es = c.args.arguments.now in
    let same : c.deref.result.now ≡ replicate (length c.args.arguments.now) c.args.falling = c.deref.ensures.value ∙ filled (length es) _ c.args.falling c.new-flags.result.items c.resize.new.self.items c.new-flags.ensures.items (omega (arith, c.new-flags.ensures.len)) c.in_ok-resize.ensures.items in
    IfOk-weaker c.in_terms.result
    (λ v. AreFoundIn c.args.inside c.args.names.now c.deref.result.now c.args.arguments.now v.items)
    (λ v. ArePlainIn c.args.inside c.args.names.now c.args.falling c.args.arguments.now v.items)
    (λ v h S names. h S names (λ i. c.args.falling || false) 0
    (subst (λ (l : List Bool). AreFlags (λ i. c.args.falling || false) 0 l) (sym same) (plain_flags (length es) c.args.falling 0)))
    c.in_terms.ensures

pub in_function-returns : goal.in_function-returns
in_function-returns t c =
    let all = c.deref-3.result.now in
    IfOk-weaker c.in_application.result
    (λ (f : Finding). (b : definition.Finding) → IsSameFinding c.in_ok-inner.inner b → (fs : List definition.Finding) → AllZip IsSameFinding c.deref-3.result.now fs → IsSameFinding f (definition.in_application c.args.inside b fs))
    (λ (f : Finding). IsFoundInFunction c.args.inside c.args.names.now c.args.falling c.args.outer.now c.args.parameters.now c.args.body.now c.args.arguments.now c.args.found.now f)
    (λ f h. applied c.args.inside c.args.names.now c.args.falling c.args.outer.now c.args.parameters.now c.args.body.now
    c.args.arguments.now c.args.found.now c.deref.result.now c.in_ok-inner.inner c.deref-2.result.now all f
    (subst (λ (l : List KnownName). (fs : List definition.Finding) → AllZip IsSameFinding c.args.found.now fs → AllZip IsSameKnown l (map (λ a. definition.value_with a.kind a.size false) fs)) (sym c.deref.ensures.value) c.in_ok-values.ensures)
    c.in_ok-inner.ensures
    (subst (λ (l : List Bool). AreFallingIn c.args.outer.now c.args.parameters.now c.args.body.now c.args.falling l) (sym c.deref-2.ensures.value) c.in_ok-flags.ensures.are)
    (subst (λ (l : List Finding). AreFoundIn c.args.inside c.args.names.now c.deref-2.result.now c.args.arguments.now l) (sym c.deref-3.ensures.value) c.in_ok-all.ensures)
    h)
    c.in_application.ensures

pub in_use-returns-in-Value : goal.in_use-returns-in-Value
in_use-returns-in-Value t c =
    let at : from_name c.args.names.now c.args.name.now ≡ c.in-Some.first.now ∷ c.in-Some.outer.now = let a = c.from_name.ensures in let b = c.as_bytes.ensures in let d = c.in-Some.ensures.cases.0 in cc in
    IfOk-weaker c.in_wrong_application.result
    (λ (f : Finding). (fs : List definition.Finding) → AllZip IsSameFinding c.deref.result.now fs → IsSameFinding f (finding_of OfAny 1 (Arity ∷ faults_in fs)))
    (λ (f : Finding). IsFoundInUse c.args.inside c.args.names.now c.args.falling c.args.name.now c.args.arguments.now f)
    (λ f h. use_value c.args.inside c.args.names.now c.args.falling c.args.name.now c.args.arguments.now
    c.in-Some.first.now c.in-Some.outer.now c.in-Value.field-0 c.deref.result.now f at c.in-Value.is
    (subst (λ (l : List Finding). ArePlainIn c.args.inside c.args.names.now c.args.falling c.args.arguments.now l) (sym c.deref.ensures.value) c.in_ok-found.ensures)
    h)
    c.in_wrong_application.ensures

pub in_use-in_function-requires : goal.in_use-in_function-requires
in_use-in_function-requires t c =
    let at : from_name c.args.names.now c.args.name.now ≡ c.in-Some.first.now ∷ c.in-Some.outer.now = let a = c.from_name.ensures in let b = c.as_bytes.ensures in let d = c.in-Some.ensures.cases.0 in cc in
    let weighs : known_weight c.in-Some.first.now.known ≡ suc (term_weight (term_of c.in-Function.body.now)) = ap known_weight c.in-Function.is in
    let less : known_weight c.in-Some.first.now.known + names_weight c.in-Some.outer.now ≤ names_weight c.args.names.now = weight_there c.args.names.now c.args.name.now c.in-Some.first.now c.in-Some.outer.now at in
    (omega (arith, c.decreases, weighs, less), omega (arith, weighs, less))

pub in_use-returns-then-parameters-arguments : goal.in_use-returns-then-parameters-arguments
in_use-returns-then-parameters-arguments t c =
    let at : from_name c.args.names.now c.args.name.now ≡ c.in-Some.first.now ∷ c.in-Some.outer.now = let a = c.from_name.ensures in let b = c.as_bytes.ensures in let d = c.in-Some.ensures.cases.0 in cc in
    IfOk-weaker c.in_function.result
    (λ (f : Finding). IsFoundInFunction c.args.inside c.args.names.now c.args.falling c.in-Some.outer.now c.in-Function.parameters.now c.in-Function.body.now c.args.arguments.now c.deref-then-parameters-arguments.result.now f)
    (λ (f : Finding). IsFoundInUse c.args.inside c.args.names.now c.args.falling c.args.name.now c.args.arguments.now f)
    (λ f h. use_function c.args.inside c.args.names.now c.args.falling c.args.name.now c.args.arguments.now
    c.in-Some.first.now c.in-Some.outer.now c.in-Function.parameters.now c.in-Function.body.now
    (knowns.Function c.in-Function.parameters c.in-Function.body) c.deref-then-parameters-arguments.result.now f at c.in-Function.is (λ T o k. k)
    (omega arith)
    (subst (λ (l : List Finding). ArePlainIn c.args.inside c.args.names.now c.args.falling c.args.arguments.now l) (sym c.deref-then-parameters-arguments.ensures.value) c.in_ok-found.ensures)
    h)
    c.in_function.ensures

pub in_use-returns-in-Some : goal.in_use-returns-in-Some
in_use-returns-in-Some t c =
    let at : from_name c.args.names.now c.args.name.now ≡ c.in-Some.first.now ∷ c.in-Some.outer.now = let a = c.from_name.ensures in let b = c.as_bytes.ensures in let d = c.in-Some.ensures.cases.0 in cc in
    let differ : length c.in-Function.parameters.now ≡ length c.args.arguments.now → ⊥ = λ e. let wrong : ⊥ = omega (arith, e, c.if-parameters-arguments.false) in wrong in
    IfOk-weaker c.in_wrong_application-else-parameters-arguments.result
    (λ (f : Finding). (fs : List definition.Finding) → AllZip IsSameFinding c.deref-else-parameters-arguments.result.now fs → IsSameFinding f (finding_of OfAny 1 (Arity ∷ faults_in fs)))
    (λ (f : Finding). IsFoundInUse c.args.inside c.args.names.now c.args.falling c.args.name.now c.args.arguments.now f)
    (λ f h. use_wrong c.args.inside c.args.names.now c.args.falling c.args.name.now c.args.arguments.now
    c.in-Some.first.now c.in-Some.outer.now c.in-Function.parameters.now c.in-Function.body.now
    (knowns.Function c.in-Function.parameters c.in-Function.body) c.deref-else-parameters-arguments.result.now f at
    c.in-Function.is (λ T o k. k) differ
    (subst (λ (l : List Finding). ArePlainIn c.args.inside c.args.names.now c.args.falling c.args.arguments.now l) (sym c.deref-else-parameters-arguments.ensures.value) c.in_ok-found.ensures)
    h)
    c.in_wrong_application-else-parameters-arguments.ensures

pub in_use-returns : goal.in_use-returns
in_use-returns t c =
    let at : from_name c.args.names.now c.args.name.now ≡ [] = sym (c.from_name.ensures ∙ ap (from_name c.args.names.now) c.as_bytes.ensures) ∙ none_left c.from_name.result.now c.in-None.ensures.cases in
    IfOk-weaker c.in_wrong_application-in-None.result
    (λ (f : Finding). (fs : List definition.Finding) → AllZip IsSameFinding c.deref-in-None.result.now fs → IsSameFinding f (finding_of OfAny 1 (Unbound ∷ faults_in fs)))
    (λ (f : Finding). IsFoundInUse c.args.inside c.args.names.now c.args.falling c.args.name.now c.args.arguments.now f)
    (λ f h. use_nowhere c.args.inside c.args.names.now c.args.falling c.args.name.now c.args.arguments.now
    c.deref-in-None.result.now f at
    (subst (λ (l : List Finding). ArePlainIn c.args.inside c.args.names.now c.args.falling c.args.arguments.now l) (sym c.deref-in-None.ensures.value) c.in_ok-found.ensures)
    h)
    c.in_wrong_application-in-None.ensures

-- ---- an application

pub in_term-in_use-requires : goal.in_term-in_use-requires
in_term-in_use-requires t c =
    let is : term_of c.args.expression.now ≡ Apply c.in-Applied.name (arguments_as c.deref-in-Applied.result.now) =
    ap term_of c.in-Applied.is
    ∙ (applied_term c.in-Applied.name c.in-Applied.arguments
    ∙ ap (λ (l : List Expression). Apply c.in-Applied.name (arguments_as l))
    (sym c.deref-in-Applied.ensures.value)) in
    omega (arith, c.decreases, ap term_weight is)

pub in_term-returns-in-Applied : goal.in_term-returns-in-Applied
in_term-returns-in-Applied t c =
    let is : term_of c.args.expression.now ≡ Apply c.in-Applied.name (arguments_as c.deref-in-Applied.result.now) =
    ap term_of c.in-Applied.is
    ∙ (applied_term c.in-Applied.name c.in-Applied.arguments
    ∙ ap (λ (l : List Expression). Apply c.in-Applied.name (arguments_as l))
    (sym c.deref-in-Applied.ensures.value)) in
    IfOk-weaker c.in_use.result
    (λ (f : Finding). IsFoundInUse c.args.inside c.args.names.now c.args.falling c.in-Applied.name c.deref-in-Applied.result.now f)
    (λ (f : Finding). IsFoundIn c.args.inside c.args.names.now c.args.falling c.args.expression.now f)
    (λ f h S names. subst (λ (e : Term). IsSameFinding f (in_term c.args.inside S c.args.falling e)) (sym is) (h S names))
    c.in_use.ensures
