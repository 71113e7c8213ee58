use Rattle.std.proofs.Common.{sym, ◌∙◌, refl}
use Rattle.std.proofs.lemmas.Option.{slice_get_past, slice_get_read}
use Rattle.std.proofs.lemmas.Bool.{ltb-true, ltb-false}
use Rattle.binding_kinds.proofs.Applications.{is_function, another_arity, no_function}
use Rattle.binding_kinds.proofs.judging.function_of.Goals as goal

pub returns-in-None : goal.returns-in-None
returns-in-None c =
    λ ss kept. no_function c.args.functions.now ss c.args.count c.in-Applicable.function _
    c.in-Some.found kept (sym c.find.ensures ∙ c.in-Some.is) c.in-Applicable.is
    (slice_get_past c.args.functions.now c.in-Applicable.function (ltb-false
    c.in-Applicable.function _ (sym c.in-None.ensures.lookup.0)))

pub returns-then-one-count : goal.returns-then-one-count
returns-then-one-count c =
    λ ss kept. is_function c.args.functions.now ss c.args.count c.in-Applicable.function _
    c.in-Some.found c.in-Some-get.one.now kept (sym c.find.ensures ∙ c.in-Some.is)
    c.in-Applicable.is
    (slice_get_read c.args.functions.now _ c.in-Applicable.function c.in-Some-get.one.now refl
    (ltb-true c.in-Applicable.function _ (sym c.in-Some-get.ensures.lookup.0))
    c.in-Some-get.ensures.lookup.1) c.if-one-count.true

pub returns-else-one-count : goal.returns-else-one-count
returns-else-one-count c =
    λ ss kept. another_arity c.args.functions.now ss c.args.count c.in-Applicable.function _
    c.in-Some.found c.in-Some-get.one.now kept (sym c.find.ensures ∙ c.in-Some.is)
    c.in-Applicable.is
    (slice_get_read c.args.functions.now _ c.in-Applicable.function c.in-Some-get.one.now refl
    (ltb-true c.in-Applicable.function _ (sym c.in-Some-get.ensures.lookup.0))
    c.in-Some-get.ensures.lookup.1) c.if-one-count.false
