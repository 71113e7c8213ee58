use Rattle.std.proofs.Common.{◌≡◌, ◌<◌, List, [], ◌∷◌, ◌++◌, length, map, take, reverse, ap, sym, ◌∙◌, subst, arith, ◌||◌, Bool, length-take}
use Rattle.std.proofs.lemmas.List.{take_more, take_all}
use Rattle.std.proofs.lemmas.Result.{IfOk-weaker}
use Rattle.text_values.specs.declared.model.Expression.{Expression}
use Rattle.text_values.specs.ModelValues.{term_of}
use Rattle.text_values.specs.ModelValue.{AllEvents, EmptyRelation, EmptySet, Join, Mark, Not, On, Apply, gathered}
use Rattle.text_values.proofs.Arguments.{applied_term}
use Rattle.binding_kinds.specs.Value.{entry_of}
use Rattle.binding_functions.proofs.Filling.{grown_as, more_arguments, whole_template, large_whole, some_pieces, unfit_pieces, all_arguments}
use Rattle.binding_functions.specs.Parts.{IsBodyPart, AreBodyParts}
use Rattle.binding_graph.proofs.Meant.{on_ok}
use Rattle.binding_graph.proofs.Walks.{noted_then, noted_more, noted_all, noted_applied, noted_unapplied, grown_infix, grown_postfix, grown_complement, grown_identity}
use Rattle.binding_graph.proofs.inside.+inside.Goals as goal

-- ---- the arguments of a function

pub inside_arguments-loop-index-init : goal.inside_arguments-loop-index-init
inside_arguments-loop-index-init t c = record {
  body = λ ss s kept one long. c.in_ok-body.ensures ss _ _ _ s.is_under;
  templates = λ ss kept. rw c.new-templates.ensures.items tt;
  uses = λ later h. h;
}

pub inside_arguments-loop-index-preserved : goal.inside_arguments-loop-index-preserved
inside_arguments-loop-index-preserved t c =
    let xs = c.args.arguments.now in
    let i = c.loop-index.index in
    let e = c.index-arguments-index.result in
    let is = c.index-arguments-index.is in
    let lt : i < length xs = omega (arith, c.loop-index-test.true) in
    let m = c.loop-index.invariant in
    let one = c.in_ok-part.ensures in record {
      body = λ ss s kept kept_one long.
          let ps = c.args.sight.now.parameters.now in
          let names = reverse (map entry_of c.args.sight.now.entries.now) in
          let inner_is = c.either-inner.ensures ∙ ap (λ (b : Bool). c.args.under || b) (c.is_under.ensures ∙ kept_one.under i (omega (arith, lt, long))) in
          let prefix = length-take i xs in
          let few = kept_one.few in
          let part = subst (λ (b : Bool). IsBodyPart ss names ps c.args.columns.rows b (term_of e) c.in_ok-part.part) inner_is (one.part ss kept) in
          let more = c.in_ok-body-2.ensures ss names ps c.args.columns.rows c.args.under s.is_under (take i xs) e (omega (arith, prefix, lt)) (omega (arith, lt, long, few)) part (m.body ss s kept kept_one long) in
          subst
          (λ (l : List Expression). AreBodyParts ss names ps c.args.columns.rows c.args.under
          s.is_under l c.in_ok-body-2.body)
          (sym (take_more xs i e lt ∙ ap (λ (x : Expression). take i xs ++ x ∷ []) (sym is)))
          more;
      templates = λ ss kept.
          let term = term_of e in
          more_arguments ss _ _ xs i e c.loop-index.templates.items c.push.new.self.items
          c.read_inside.new.template lt is c.in_ok-push.ensures.items (m.templates ss kept)
          (whole_template c.new-template.result c.read_inside.new.template _ _
          c.new-template.ensures.pieces c.new-template.ensures.is_oversized
          (large_whole ss _ _ term) (some_pieces ss _ _ term) (one.template ss kept));
      uses = noted_more _ _ _ _ xs i e _ _ _ lt is one.uses m.uses;
    }

pub inside_arguments-returns-clause-body : goal.inside_arguments-returns-clause-body
inside_arguments-returns-clause-body t c = λ ss s kept one long.
    let names = reverse (map entry_of c.args.sight.now.entries.now) in
    let ps = c.args.sight.now.parameters.now in
    let all = take_all c.loop-index.index c.args.arguments.now (omega (arith, c.loop-index-test.false)) in
    subst
    (λ (l : List Expression). AreBodyParts ss names ps c.args.columns.rows c.args.under
    s.is_under l c.loop-index.body) all
    (c.loop-index.invariant.body ss s kept one long)

pub inside_arguments-returns-clause-templates : goal.inside_arguments-returns-clause-templates
inside_arguments-returns-clause-templates t c =
    λ ss kept. all_arguments ss _ _ c.args.arguments.now c.loop-index.index
    c.loop-index.templates.items (omega (arith, c.loop-index-test.false))
    (c.loop-index.invariant.templates ss kept)

pub inside_arguments-returns-clause-uses : goal.inside_arguments-returns-clause-uses
inside_arguments-returns-clause-uses t c =
    noted_all _ _ _ _ c.args.arguments.now c.loop-index.index _ _
    (omega (arith, c.loop-index-test.false)) c.loop-index.invariant.uses

-- ---- applications

pub inside_applied-returns-in_ok-put-in-Err-clause-part : goal.inside_applied-returns-in_ok-put-in-Err-clause-part
inside_applied-returns-in_ok-put-in-Err-clause-part t c =
    λ ss kept. c.refused.ensures ss _ _ c.args.under c.args.name.now c.args.arguments.now
    (c.in-Err.ensures.sense ss kept).0 (c.in-Err.ensures.fault ss kept)

pub inside_applied-returns-in_ok-put-in-Err-clause-template : goal.inside_applied-returns-in_ok-put-in-Err-clause-template
inside_applied-returns-in_ok-put-in-Err-clause-template t c = λ ss kept.
    let names = reverse (map entry_of c.args.sight.now.entries.now) in
    let ps = c.args.sight.now.parameters.now in
    on_ok c.refused.result (grown_as _ _ _ _ _ _
    (unfit_pieces ss names ps c.args.name.now c.args.arguments.now
    (c.in-Err.ensures.sense ss kept).0)
    (λ bad. absurd bad) c.in_ok-put-in-Err.ensures)

pub inside_applied-returns-in_ok-put-in-Err-clause-uses : goal.inside_applied-returns-in_ok-put-in-Err-clause-uses
inside_applied-returns-in_ok-put-in-Err-clause-uses t c =
    on_ok c.refused.result (noted_unapplied _ _ _ _ c.args.name.now c.args.arguments.now _ _
    c.in-Err.ensures.usage c.in_ok-read_unapplied-in-Err.ensures)

pub inside_applied-returns-in_ok-given-in-Ok-clause-part : goal.inside_applied-returns-in_ok-given-in-Ok-clause-part
inside_applied-returns-in_ok-given-in-Ok-clause-part t c = λ ss kept.
    let h = c.in-Ok.ensures.sense ss kept in
    let long : length c.args.arguments.now ≡ h.0.arity = sym h.2 in
    c.applied-in-Ok.ensures.part ss _ _ c.args.columns.rows c.args.under c.args.name.now
    c.args.arguments.now h.0 h.3 long h.1 (c.in-Ok.ensures.fault ss kept)
    (c.in_ok-given-in-Ok.ensures.body ss h.0 kept h.3 long)

pub inside_applied-returns-in_ok-given-in-Ok-clause-template : goal.inside_applied-returns-in_ok-given-in-Ok-clause-template
inside_applied-returns-in_ok-given-in-Ok-clause-template t c = λ ss kept.
    let names = reverse (map entry_of c.args.sight.now.entries.now) in
    let ps = c.args.sight.now.parameters.now in
    let h = c.in-Ok.ensures.sense ss kept in
    c.applied-in-Ok.ensures.template ss names ps c.args.name.now c.args.arguments.now h.0 h.3 h.1
    (c.in_ok-given-in-Ok.ensures.templates ss kept)

pub inside_applied-returns-in_ok-given-in-Ok-clause-uses : goal.inside_applied-returns-in_ok-given-in-Ok-clause-uses
inside_applied-returns-in_ok-given-in-Ok-clause-uses t c =
    let first = c.in_ok-add_function-in-Ok.ensures in
    on_ok c.applied-in-Ok.result
    (noted_applied _ _ _ _ c.args.name.now c.args.arguments.now c.in-Ok.function.now _ _ _
    c.in-Ok.ensures.usage
    (record {
      indexed = first.indexed;
      listed = first.listed;
      values = first.values;
      functions = first.functions;
    }) c.in_ok-given-in-Ok.ensures.uses)

-- ---- expressions

pub read_inside-returns-in-Everything-clause-part : goal.read_inside-returns-in-Everything-clause-part
read_inside-returns-in-Everything-clause-part t c = λ ss kept.
    let is : term_of c.args.term.now ≡ AllEvents = ap term_of c.in-Everything.is in
    rw is (IfOk-weaker c.inside_sign.result _ _
    (λ p h. record { fault = h.fault; marks = h.marks; column = λ few. h.column })
    (c.inside_sign.ensures.part (length c.args.sight.now.parameters.now)))

pub read_inside-returns-in-NoPairs-clause-part : goal.read_inside-returns-in-NoPairs-clause-part
read_inside-returns-in-NoPairs-clause-part t c = λ ss kept.
    let is : term_of c.args.term.now ≡ EmptyRelation = ap term_of c.in-NoPairs.is in
    rw is (IfOk-weaker c.inside_sign-in-NoPairs.result _ _
    (λ p h. record { fault = h.fault; marks = h.marks; column = λ few. h.column })
    (c.inside_sign-in-NoPairs.ensures.part (length c.args.sight.now.parameters.now)))

pub read_inside-returns-in-NoEvents-clause-part : goal.read_inside-returns-in-NoEvents-clause-part
read_inside-returns-in-NoEvents-clause-part t c = λ ss kept.
    let is : term_of c.args.term.now ≡ EmptySet = ap term_of c.in-NoEvents.is in
    rw is (IfOk-weaker c.inside_sign-in-NoEvents.result _ _
    (λ p h. record { fault = h.fault; marks = h.marks; column = λ few. h.column })
    (c.inside_sign-in-NoEvents.ensures.part (length c.args.sight.now.parameters.now)))

pub read_inside-returns-in-Applied-clause-part : goal.read_inside-returns-in-Applied-clause-part
read_inside-returns-in-Applied-clause-part t c = λ ss kept.
    let is : term_of c.args.term.now ≡ Apply c.in-Applied.name (gathered (map term_of c.deref-in-Applied.result.now)) =
    ap term_of c.in-Applied.is
    ∙ (applied_term c.in-Applied.name c.in-Applied.arguments
    ∙ ap (λ (l : List Expression). Apply c.in-Applied.name (gathered (map term_of l)))
    (sym c.deref-in-Applied.ensures.value)) in
    rw is (c.inside_applied.ensures.part ss kept)

pub read_inside-returns-in-Applied-clause-template : goal.read_inside-returns-in-Applied-clause-template
read_inside-returns-in-Applied-clause-template t c = λ ss kept.
    let is : term_of c.args.term.now ≡ Apply c.in-Applied.name (gathered (map term_of c.deref-in-Applied.result.now)) =
    ap term_of c.in-Applied.is
    ∙ (applied_term c.in-Applied.name c.in-Applied.arguments
    ∙ ap (λ (l : List Expression). Apply c.in-Applied.name (gathered (map term_of l)))
    (sym c.deref-in-Applied.ensures.value)) in
    rw is (c.inside_applied.ensures.template ss kept)

pub read_inside-returns-in-Applied-clause-uses : goal.read_inside-returns-in-Applied-clause-uses
read_inside-returns-in-Applied-clause-uses t c =
    let is : term_of c.args.term.now ≡ Apply c.in-Applied.name (gathered (map term_of c.deref-in-Applied.result.now)) =
    ap term_of c.in-Applied.is
    ∙ (applied_term c.in-Applied.name c.in-Applied.arguments
    ∙ ap (λ (l : List Expression). Apply c.in-Applied.name (gathered (map term_of l)))
    (sym c.deref-in-Applied.ensures.value)) in
    rw is c.inside_applied.ensures.uses

pub read_inside-returns-in_ok-put-in-Joined-clause-part : goal.read_inside-returns-in_ok-put-in-Joined-clause-part
read_inside-returns-in_ok-put-in-Joined-clause-part t c = λ ss kept.
    let is : term_of c.args.term.now ≡ Join c.in-Joined.op (term_of c.deref.result.now) (term_of c.deref-in-Joined.result.now) = let h = ap term_of c.in-Joined.is in let d = c.deref.ensures in let k = c.deref-in-Joined.ensures in cc in
    rw is (c.infix.ensures ss _ _ c.args.columns.rows c.args.under _ _
    (c.in_ok-first-in-Joined.ensures.part ss kept) (rw c.is_turned-turned.ensures at
    (c.in_ok-second-in-Joined.ensures.part ss kept)))

pub read_inside-returns-in_ok-put-in-Joined-clause-template : goal.read_inside-returns-in_ok-put-in-Joined-clause-template
read_inside-returns-in_ok-put-in-Joined-clause-template t c = λ ss kept.
    let names = reverse (map entry_of c.args.sight.now.entries.now) in
    let ps = c.args.sight.now.parameters.now in
    let is : term_of c.args.term.now ≡ Join c.in-Joined.op (term_of c.deref.result.now) (term_of c.deref-in-Joined.result.now) = let h = ap term_of c.in-Joined.is in let d = c.deref.ensures in let k = c.deref-in-Joined.ensures in cc in
    rw is (on_ok c.infix.result (grown_infix ss names ps c.in-Joined.op (term_of c.deref.result.now)
    (term_of c.deref-in-Joined.result.now) _ _ _ _
    (c.in_ok-first-in-Joined.ensures.template ss kept)
    (c.in_ok-second-in-Joined.ensures.template ss kept) c.in_ok-put-in-Joined.ensures))

pub read_inside-returns-in_ok-put-in-Joined-clause-uses : goal.read_inside-returns-in_ok-put-in-Joined-clause-uses
read_inside-returns-in_ok-put-in-Joined-clause-uses t c =
    let is : term_of c.args.term.now ≡ Join c.in-Joined.op (term_of c.deref.result.now) (term_of c.deref-in-Joined.result.now) = let h = ap term_of c.in-Joined.is in let d = c.deref.ensures in let k = c.deref-in-Joined.ensures in cc in
    rw is (on_ok c.infix.result (noted_then _ _ _ _ _ _ _ c.in_ok-first-in-Joined.ensures.uses
    c.in_ok-second-in-Joined.ensures.uses))

pub read_inside-returns-in_ok-put-in-Marked-clause-part : goal.read_inside-returns-in_ok-put-in-Marked-clause-part
read_inside-returns-in_ok-put-in-Marked-clause-part t c = λ ss kept.
    let is : term_of c.args.term.now ≡ Mark c.in-Marked.op (term_of c.deref-in-Marked.result.now) = let h = ap term_of c.in-Marked.is in let d = c.deref-in-Marked.ensures in cc in
    rw is (c.postfix.ensures ss _ _ c.args.columns.rows c.args.under c.in-Marked.op _
    (c.in_ok-inner-in-Marked.ensures.part ss kept))

pub read_inside-returns-in_ok-put-in-Marked-clause-template : goal.read_inside-returns-in_ok-put-in-Marked-clause-template
read_inside-returns-in_ok-put-in-Marked-clause-template t c = λ ss kept.
    let names = reverse (map entry_of c.args.sight.now.entries.now) in
    let ps = c.args.sight.now.parameters.now in
    let is : term_of c.args.term.now ≡ Mark c.in-Marked.op (term_of c.deref-in-Marked.result.now) = let h = ap term_of c.in-Marked.is in let d = c.deref-in-Marked.ensures in cc in
    rw is (on_ok c.postfix.result (grown_postfix ss names ps c.in-Marked.op
    (term_of c.deref-in-Marked.result.now) _ _ _
    (c.in_ok-inner-in-Marked.ensures.template ss kept) c.in_ok-put-in-Marked.ensures))

pub read_inside-returns-in_ok-put-in-Marked-clause-uses : goal.read_inside-returns-in_ok-put-in-Marked-clause-uses
read_inside-returns-in_ok-put-in-Marked-clause-uses t c =
    let is : term_of c.args.term.now ≡ Mark c.in-Marked.op (term_of c.deref-in-Marked.result.now) = let h = ap term_of c.in-Marked.is in let d = c.deref-in-Marked.ensures in cc in
    rw is (on_ok c.postfix.result c.in_ok-inner-in-Marked.ensures.uses)

pub read_inside-returns-in_ok-put-in-Complement-clause-part : goal.read_inside-returns-in_ok-put-in-Complement-clause-part
read_inside-returns-in_ok-put-in-Complement-clause-part t c = λ ss kept.
    let is : term_of c.args.term.now ≡ Not (term_of c.deref-in-Complement.result.now) = let h = ap term_of c.in-Complement.is in let d = c.deref-in-Complement.ensures in cc in
    let inner = c.in_ok-inner-in-Complement.ensures.part ss kept in
    rw is (record { fault = inner.fault; marks = inner.marks; column = inner.column })

pub read_inside-returns-in_ok-put-in-Complement-clause-template : goal.read_inside-returns-in_ok-put-in-Complement-clause-template
read_inside-returns-in_ok-put-in-Complement-clause-template t c = λ ss kept.
    let names = reverse (map entry_of c.args.sight.now.entries.now) in
    let ps = c.args.sight.now.parameters.now in
    let is : term_of c.args.term.now ≡ Not (term_of c.deref-in-Complement.result.now) = let h = ap term_of c.in-Complement.is in let d = c.deref-in-Complement.ensures in cc in
    rw is (grown_complement ss names ps (term_of c.deref-in-Complement.result.now) _ _ _
    (c.in_ok-inner-in-Complement.ensures.template ss kept)
    c.in_ok-put-in-Complement.ensures)

pub read_inside-returns-in_ok-put-in-Complement-clause-uses : goal.read_inside-returns-in_ok-put-in-Complement-clause-uses
read_inside-returns-in_ok-put-in-Complement-clause-uses t c =
    let is : term_of c.args.term.now ≡ Not (term_of c.deref-in-Complement.result.now) = let h = ap term_of c.in-Complement.is in let d = c.deref-in-Complement.ensures in cc in
    rw is c.in_ok-inner-in-Complement.ensures.uses

pub read_inside-returns-in_ok-put-in-Identity-clause-part : goal.read_inside-returns-in_ok-put-in-Identity-clause-part
read_inside-returns-in_ok-put-in-Identity-clause-part t c = λ ss kept.
    let is : term_of c.args.term.now ≡ On (term_of c.deref-in-Identity.result.now) = let h = ap term_of c.in-Identity.is in let d = c.deref-in-Identity.ensures in cc in
    rw is (c.identity.ensures ss _ _ c.args.columns.rows c.args.under _
    (c.in_ok-inner-in-Identity.ensures.part ss kept))

pub read_inside-returns-in_ok-put-in-Identity-clause-template : goal.read_inside-returns-in_ok-put-in-Identity-clause-template
read_inside-returns-in_ok-put-in-Identity-clause-template t c = λ ss kept.
    let names = reverse (map entry_of c.args.sight.now.entries.now) in
    let ps = c.args.sight.now.parameters.now in
    let is : term_of c.args.term.now ≡ On (term_of c.deref-in-Identity.result.now) = let h = ap term_of c.in-Identity.is in let d = c.deref-in-Identity.ensures in cc in
    rw is (on_ok c.identity.result (grown_identity ss names ps
    (term_of c.deref-in-Identity.result.now) _ _ _
    (c.in_ok-inner-in-Identity.ensures.template ss kept)
    c.in_ok-put-in-Identity.ensures))

pub read_inside-returns-in_ok-put-in-Identity-clause-uses : goal.read_inside-returns-in_ok-put-in-Identity-clause-uses
read_inside-returns-in_ok-put-in-Identity-clause-uses t c =
    let is : term_of c.args.term.now ≡ On (term_of c.deref-in-Identity.result.now) = let h = ap term_of c.in-Identity.is in let d = c.deref-in-Identity.ensures in cc in
    rw is (on_ok c.identity.result c.in_ok-inner-in-Identity.ensures.uses)
