use Rattle.std.proofs.Common.{ℕ, ◌≡◌, ◌<◌, List, length, map, reverse, min, ap, sym, ◌∙◌, arith, ◌||◌, Bool}
use Rattle.std.proofs.lemmas.Result.{IfOk-weaker}
use Rattle.text_values.specs.declared.model.Expression.{Expression}
use Rattle.text_values.specs.ModelValues.{term_of}
use Rattle.text_values.specs.ModelValue.{Atom, Join, Mark, Not, On, Apply, gathered}
use Rattle.text_values.proofs.Arguments.{applied_term}
use Rattle.binding_kinds.specs.Value.{entry_of}
use Rattle.binding_functions.proofs.Filling.{grown_as, more_arguments, whole_template, large_whole, some_pieces, unfit_pieces, all_arguments, on_ok_as}
use Rattle.binding_graph.proofs.Meant.{if_same, on_ok}
use Rattle.binding_graph.proofs.Walks.{verdict_infix, verdict_postfix, verdict_complement, verdict_identity, judged_none, judged_more, judged_all, verdict_applied, verdict_unfit, noted_then, noted_more, noted_all, noted_applied, noted_unapplied, grown_infix, grown_postfix, grown_complement, grown_identity}
use Rattle.binding_graph.proofs.Sights.{seen_plainly}
use Rattle.binding_graph.proofs.reading.+reading.Goals as goal

-- ---- the arguments of no function

pub read_unapplied-loop-argument-init : goal.read_unapplied-loop-argument-init
read_unapplied-loop-argument-init t c = λ later h. h

pub read_unapplied-loop-argument-preserved : goal.read_unapplied-loop-argument-preserved
read_unapplied-loop-argument-preserved t c =
    let lt : c.loop-argument.argument-index < length c.args.arguments.now = omega (arith, c.loop-argument-test.true) in
    noted_more _ _ _ _ c.args.arguments.now c.loop-argument.argument-index c.argument-item.result _
    _ _ lt c.argument-item.is c.in_ok-read_term.ensures.uses c.loop-argument.invariant

pub read_unapplied-returns : goal.read_unapplied-returns
read_unapplied-returns t c =
    noted_all _ _ _ _ c.args.arguments.now c.loop-argument.argument-index _ _
    (omega (arith, c.loop-argument-test.false)) c.loop-argument.invariant

-- ---- the arguments of a function

pub read_arguments-loop-index-init : goal.read_arguments-loop-index-init
read_arguments-loop-index-init t c = record {
  judged =
      λ ss s kept none one long. judged_none ss _ _ _ c.args.function.now s c.args.arguments.now _
      one c.of-known.ensures.combination c.of-known.ensures.size c.of-known.ensures.fault;
  templates = λ ss kept. rw c.new-templates.ensures.items tt;
  uses = λ later h. h;
}

pub read_arguments-loop-index-preserved : goal.read_arguments-loop-index-preserved
read_arguments-loop-index-preserved t c =
    let xs = c.args.arguments.now in
    let i = c.loop-index.index in
    let e = c.index-arguments-index.result in
    let is = c.index-arguments-index.is in
    let lt : i < length xs = omega (arith, c.loop-index-test.true) in
    let m = c.loop-index.invariant in
    let one = c.in_ok-judged.ensures in record {
      judged = λ ss s kept none kept_one long.
          judged_more ss _ _ c.args.under c.args.function.now s xs i e c.loop-index.known
          c.with-known.result c.in_ok-judged.judged c.either-inner.result kept_one long lt is
          (c.either-inner.ensures ∙ ap (λ (b : Bool). c.args.under || b) c.is_under.ensures)
          (one.judged ss kept none)
          c.with-known.ensures.combination c.with-known.ensures.size c.with-known.ensures.fault
          (m.judged ss s kept none kept_one long);
      templates = λ ss kept.
          let term = term_of e in
          more_arguments ss _ _ xs i e c.loop-index.templates.items c.push.new.self.items
          c.read_term.new.template lt is c.in_ok-push.ensures.items (m.templates ss kept)
          (whole_template c.new-template.result c.read_term.new.template _ _
          c.new-template.ensures.pieces c.new-template.ensures.is_oversized
          (large_whole ss _ _ term) (some_pieces ss _ _ term) (one.template ss kept));
      uses = noted_more _ _ _ _ xs i e _ _ _ lt is one.uses m.uses;
    }

pub read_arguments-returns-clause-judged : goal.read_arguments-returns-clause-judged
read_arguments-returns-clause-judged t c = λ ss s kept none one long.
    judged_all ss _ _ c.args.under c.args.function.now s c.args.arguments.now c.loop-index.index
    c.loop-index.known (omega (arith, c.loop-index-test.false))
    (c.loop-index.invariant.judged ss s kept none one long)

pub read_arguments-returns-clause-templates : goal.read_arguments-returns-clause-templates
read_arguments-returns-clause-templates t c =
    λ ss kept. all_arguments ss _ _ c.args.arguments.now c.loop-index.index
    c.loop-index.templates.items (omega (arith, c.loop-index-test.false))
    (c.loop-index.invariant.templates ss kept)

pub read_arguments-returns-clause-uses : goal.read_arguments-returns-clause-uses
read_arguments-returns-clause-uses t c =
    noted_all _ _ _ _ c.args.arguments.now c.loop-index.index _ _
    (omega (arith, c.loop-index-test.false)) c.loop-index.invariant.uses

-- ---- applications

pub read_applied-returns-in_ok-read_unapplied-in-Err-clause-judged : goal.read_applied-returns-in_ok-read_unapplied-in-Err-clause-judged
read_applied-returns-in_ok-read_unapplied-in-Err-clause-judged t c = λ ss kept none.
    let made = c.judged_faulty.ensures in
    if_same c.put_judged.result c.judged_faulty.result _
    (verdict_unfit ss _ _ c.args.under c.args.name.now c.args.arguments.now c.in-Err.fault
    c.judged_faulty.result ((c.in-Err.ensures.sense ss kept).1 none) made.kind made.size
    made.fault) c.put_judged.ensures.judged

pub read_applied-returns-in_ok-read_unapplied-in-Err-clause-template : goal.read_applied-returns-in_ok-read_unapplied-in-Err-clause-template
read_applied-returns-in_ok-read_unapplied-in-Err-clause-template t c = λ ss kept.
    let names = reverse (map entry_of c.args.sight.now.entries.now) in
    let ps = c.args.sight.now.parameters.now in
    on_ok_as c.put_judged.result _ _
    (grown_as _ _ _ _ _ _
    (unfit_pieces ss names ps c.args.name.now c.args.arguments.now
    (c.in-Err.ensures.sense ss kept).0)
    (λ bad. absurd bad)) c.put_judged.ensures.template

pub read_applied-returns-in_ok-read_unapplied-in-Err-clause-uses : goal.read_applied-returns-in_ok-read_unapplied-in-Err-clause-uses
read_applied-returns-in_ok-read_unapplied-in-Err-clause-uses t c =
    on_ok c.put_judged.result (noted_unapplied _ _ _ _ c.args.name.now c.args.arguments.now _ _
    c.in-Err.ensures.usage c.in_ok-read_unapplied-in-Err.ensures)

pub read_applied-returns-in_ok-known-in-Ok-clause-judged : goal.read_applied-returns-in_ok-known-in-Ok-clause-judged
read_applied-returns-in_ok-known-in-Ok-clause-judged t c = λ ss kept none.
    let h = c.in-Ok.ensures.sense ss kept in
    let there = seen_plainly ss _ _ _ c.args.name.now h.0 none h.1 in
    let long : length c.args.arguments.now ≡ h.0.arity = sym h.2 in
    let made = c.applied-in-Ok.ensures in
    if_same c.put_application.result c.applied-in-Ok.result _
    (verdict_applied c.args.sight.now.functions.now ss _ _ c.args.under c.args.name.now
    c.args.arguments.now c.in-Ok.function.now h.0 _ c.applied-in-Ok.result kept h.3 there long
    (c.in_ok-known-in-Ok.ensures.judged ss h.0 kept none h.3 long) made.oversized made.large
    made.small) c.put_application.ensures.judged

pub read_applied-returns-in_ok-known-in-Ok-clause-template : goal.read_applied-returns-in_ok-known-in-Ok-clause-template
read_applied-returns-in_ok-known-in-Ok-clause-template t c = λ ss kept.
    let names = reverse (map entry_of c.args.sight.now.entries.now) in
    let ps = c.args.sight.now.parameters.now in
    let h = c.in-Ok.ensures.sense ss kept in
    c.put_application.ensures.template ss names ps c.args.name.now c.args.arguments.now h.0 h.3 h.1
    (c.in_ok-known-in-Ok.ensures.templates ss kept)

pub read_applied-returns-in_ok-known-in-Ok-clause-uses : goal.read_applied-returns-in_ok-known-in-Ok-clause-uses
read_applied-returns-in_ok-known-in-Ok-clause-uses t c =
    let first = c.in_ok-add_function-in-Ok.ensures in
    on_ok c.put_application.result
    (noted_applied _ _ _ _ c.args.name.now c.args.arguments.now c.in-Ok.function.now _ _ _
    c.in-Ok.ensures.usage
    (record {
      indexed = first.indexed;
      listed = first.listed;
      values = first.values;
      functions = first.functions;
    }) c.in_ok-known-in-Ok.ensures.uses)

-- ---- expressions

pub read_term-returns-in-Named-clause-judged : goal.read_term-returns-in-Named-clause-judged
read_term-returns-in-Named-clause-judged t c = λ ss kept none.
    let is : term_of c.args.term.now ≡ Atom c.in-Named.name = ap term_of c.in-Named.is in
    rw is (IfOk-weaker c.read_name.result _ _
    (λ j h. record { kind = h.0; size = ap (λ (n : ℕ). min n 4097) h.1; fault = h.2 })
    (c.read_name.ensures.judged none))

pub read_term-returns-in-Applied-clause-judged : goal.read_term-returns-in-Applied-clause-judged
read_term-returns-in-Applied-clause-judged t c = λ ss kept none.
    let is : term_of c.args.term.now ≡ Apply c.in-Applied.name (gathered (map term_of c.deref-in-Applied.result.now)) =
    ap term_of c.in-Applied.is
    ∙ (applied_term c.in-Applied.name c.in-Applied.arguments
    ∙ ap (λ (l : List Expression). Apply c.in-Applied.name (gathered (map term_of l)))
    (sym c.deref-in-Applied.ensures.value)) in
    rw is (c.read_applied.ensures.judged ss kept none)

pub read_term-returns-in-Applied-clause-template : goal.read_term-returns-in-Applied-clause-template
read_term-returns-in-Applied-clause-template t c = λ ss kept.
    let is : term_of c.args.term.now ≡ Apply c.in-Applied.name (gathered (map term_of c.deref-in-Applied.result.now)) =
    ap term_of c.in-Applied.is
    ∙ (applied_term c.in-Applied.name c.in-Applied.arguments
    ∙ ap (λ (l : List Expression). Apply c.in-Applied.name (gathered (map term_of l)))
    (sym c.deref-in-Applied.ensures.value)) in
    rw is (c.read_applied.ensures.template ss kept)

pub read_term-returns-in-Applied-clause-uses : goal.read_term-returns-in-Applied-clause-uses
read_term-returns-in-Applied-clause-uses t c =
    let is : term_of c.args.term.now ≡ Apply c.in-Applied.name (gathered (map term_of c.deref-in-Applied.result.now)) =
    ap term_of c.in-Applied.is
    ∙ (applied_term c.in-Applied.name c.in-Applied.arguments
    ∙ ap (λ (l : List Expression). Apply c.in-Applied.name (gathered (map term_of l)))
    (sym c.deref-in-Applied.ensures.value)) in
    rw is c.read_applied.ensures.uses

pub read_term-returns-in_ok-second-in-Joined-clause-judged : goal.read_term-returns-in_ok-second-in-Joined-clause-judged
read_term-returns-in_ok-second-in-Joined-clause-judged t c = λ ss kept none.
    let is : term_of c.args.term.now ≡ Join c.in-Joined.op (term_of c.deref.result.now) (term_of c.deref-in-Joined.result.now) = let h = ap term_of c.in-Joined.is in let d = c.deref.ensures in let k = c.deref-in-Joined.ensures in cc in
    let made = c.judged_infix.ensures in
    rw is (if_same c.put_judged.result c.judged_infix.result _
    (verdict_infix ss _ _ c.args.under c.in-Joined.op _ _ c.in_ok-first-in-Joined.first
    c.in_ok-second-in-Joined.second c.judged_infix.result
    (c.in_ok-first-in-Joined.ensures.judged ss kept none)
    (rw c.is_turned-turned.ensures at
    (c.in_ok-second-in-Joined.ensures.judged ss kept none)) made.size made.kind
    made.fault) c.put_judged.ensures.judged)

pub read_term-returns-in_ok-second-in-Joined-clause-template : goal.read_term-returns-in_ok-second-in-Joined-clause-template
read_term-returns-in_ok-second-in-Joined-clause-template t c = λ ss kept.
    let names = reverse (map entry_of c.args.sight.now.entries.now) in
    let ps = c.args.sight.now.parameters.now in
    let is : term_of c.args.term.now ≡ Join c.in-Joined.op (term_of c.deref.result.now) (term_of c.deref-in-Joined.result.now) = let h = ap term_of c.in-Joined.is in let d = c.deref.ensures in let k = c.deref-in-Joined.ensures in cc in
    rw is (on_ok_as c.put_judged.result _ _
    (grown_infix ss names ps c.in-Joined.op (term_of c.deref.result.now)
    (term_of c.deref-in-Joined.result.now) _ _ _ _
    (c.in_ok-first-in-Joined.ensures.template ss kept)
    (c.in_ok-second-in-Joined.ensures.template ss kept)) c.put_judged.ensures.template)

pub read_term-returns-in_ok-second-in-Joined-clause-uses : goal.read_term-returns-in_ok-second-in-Joined-clause-uses
read_term-returns-in_ok-second-in-Joined-clause-uses t c =
    let is : term_of c.args.term.now ≡ Join c.in-Joined.op (term_of c.deref.result.now) (term_of c.deref-in-Joined.result.now) = let h = ap term_of c.in-Joined.is in let d = c.deref.ensures in let k = c.deref-in-Joined.ensures in cc in
    rw is (on_ok c.put_judged.result (noted_then _ _ _ _ _ _ _ c.in_ok-first-in-Joined.ensures.uses
    c.in_ok-second-in-Joined.ensures.uses))

pub read_term-returns-in_ok-inner-in-Marked-clause-judged : goal.read_term-returns-in_ok-inner-in-Marked-clause-judged
read_term-returns-in_ok-inner-in-Marked-clause-judged t c = λ ss kept none.
    let is : term_of c.args.term.now ≡ Mark c.in-Marked.op (term_of c.deref-in-Marked.result.now) = let h = ap term_of c.in-Marked.is in let d = c.deref-in-Marked.ensures in cc in
    let made = c.judged_postfix.ensures in
    rw is (if_same c.put_judged-in-Marked.result c.judged_postfix.result _
    (verdict_postfix ss _ _ c.args.under c.in-Marked.op _ c.in_ok-inner-in-Marked.inner
    c.judged_postfix.result (c.in_ok-inner-in-Marked.ensures.judged ss kept none)
    made.size made.kind made.fault) c.put_judged-in-Marked.ensures.judged)

pub read_term-returns-in_ok-inner-in-Marked-clause-template : goal.read_term-returns-in_ok-inner-in-Marked-clause-template
read_term-returns-in_ok-inner-in-Marked-clause-template t c = λ ss kept.
    let names = reverse (map entry_of c.args.sight.now.entries.now) in
    let ps = c.args.sight.now.parameters.now in
    let is : term_of c.args.term.now ≡ Mark c.in-Marked.op (term_of c.deref-in-Marked.result.now) = let h = ap term_of c.in-Marked.is in let d = c.deref-in-Marked.ensures in cc in
    rw is (on_ok_as c.put_judged-in-Marked.result _ _
    (grown_postfix ss names ps c.in-Marked.op (term_of c.deref-in-Marked.result.now) _ _ _
    (c.in_ok-inner-in-Marked.ensures.template ss kept))
    c.put_judged-in-Marked.ensures.template)

pub read_term-returns-in_ok-inner-in-Marked-clause-uses : goal.read_term-returns-in_ok-inner-in-Marked-clause-uses
read_term-returns-in_ok-inner-in-Marked-clause-uses t c =
    let is : term_of c.args.term.now ≡ Mark c.in-Marked.op (term_of c.deref-in-Marked.result.now) = let h = ap term_of c.in-Marked.is in let d = c.deref-in-Marked.ensures in cc in
    rw is (on_ok c.put_judged-in-Marked.result c.in_ok-inner-in-Marked.ensures.uses)

pub read_term-returns-in_ok-inner-in-Complement-clause-judged : goal.read_term-returns-in_ok-inner-in-Complement-clause-judged
read_term-returns-in_ok-inner-in-Complement-clause-judged t c = λ ss kept none.
    let is : term_of c.args.term.now ≡ Not (term_of c.deref-in-Complement.result.now) = let h = ap term_of c.in-Complement.is in let d = c.deref-in-Complement.ensures in cc in
    let made = c.judged_complement.ensures in
    rw is (if_same c.put_judged-in-Complement.result c.judged_complement.result _
    (verdict_complement ss _ _ c.args.under _ c.in_ok-inner-in-Complement.inner
    c.judged_complement.result (c.in_ok-inner-in-Complement.ensures.judged ss kept none)
    made.size made.kind made.fault) c.put_judged-in-Complement.ensures.judged)

pub read_term-returns-in_ok-inner-in-Complement-clause-template : goal.read_term-returns-in_ok-inner-in-Complement-clause-template
read_term-returns-in_ok-inner-in-Complement-clause-template t c = λ ss kept.
    let names = reverse (map entry_of c.args.sight.now.entries.now) in
    let ps = c.args.sight.now.parameters.now in
    let is : term_of c.args.term.now ≡ Not (term_of c.deref-in-Complement.result.now) = let h = ap term_of c.in-Complement.is in let d = c.deref-in-Complement.ensures in cc in
    rw is (on_ok_as c.put_judged-in-Complement.result _ _
    (grown_complement ss names ps (term_of c.deref-in-Complement.result.now) _ _ _
    (c.in_ok-inner-in-Complement.ensures.template ss kept))
    c.put_judged-in-Complement.ensures.template)

pub read_term-returns-in_ok-inner-in-Complement-clause-uses : goal.read_term-returns-in_ok-inner-in-Complement-clause-uses
read_term-returns-in_ok-inner-in-Complement-clause-uses t c =
    let is : term_of c.args.term.now ≡ Not (term_of c.deref-in-Complement.result.now) = let h = ap term_of c.in-Complement.is in let d = c.deref-in-Complement.ensures in cc in
    rw is (on_ok c.put_judged-in-Complement.result c.in_ok-inner-in-Complement.ensures.uses)

pub read_term-returns-in_ok-inner-in-Identity-clause-judged : goal.read_term-returns-in_ok-inner-in-Identity-clause-judged
read_term-returns-in_ok-inner-in-Identity-clause-judged t c = λ ss kept none.
    let is : term_of c.args.term.now ≡ On (term_of c.deref-in-Identity.result.now) = let h = ap term_of c.in-Identity.is in let d = c.deref-in-Identity.ensures in cc in
    let made = c.judged_identity.ensures in
    rw is (if_same c.put_judged-in-Identity.result c.judged_identity.result _
    (verdict_identity ss _ _ c.args.under _ c.in_ok-inner-in-Identity.inner
    c.judged_identity.result (c.in_ok-inner-in-Identity.ensures.judged ss kept none)
    made.size made.kind made.fault) c.put_judged-in-Identity.ensures.judged)

pub read_term-returns-in_ok-inner-in-Identity-clause-template : goal.read_term-returns-in_ok-inner-in-Identity-clause-template
read_term-returns-in_ok-inner-in-Identity-clause-template t c = λ ss kept.
    let names = reverse (map entry_of c.args.sight.now.entries.now) in
    let ps = c.args.sight.now.parameters.now in
    let is : term_of c.args.term.now ≡ On (term_of c.deref-in-Identity.result.now) = let h = ap term_of c.in-Identity.is in let d = c.deref-in-Identity.ensures in cc in
    rw is (on_ok_as c.put_judged-in-Identity.result _ _
    (grown_identity ss names ps (term_of c.deref-in-Identity.result.now) _ _ _
    (c.in_ok-inner-in-Identity.ensures.template ss kept))
    c.put_judged-in-Identity.ensures.template)

pub read_term-returns-in_ok-inner-in-Identity-clause-uses : goal.read_term-returns-in_ok-inner-in-Identity-clause-uses
read_term-returns-in_ok-inner-in-Identity-clause-uses t c =
    let is : term_of c.args.term.now ≡ On (term_of c.deref-in-Identity.result.now) = let h = ap term_of c.in-Identity.is in let d = c.deref-in-Identity.ensures in cc in
    rw is (on_ok c.put_judged-in-Identity.result c.in_ok-inner-in-Identity.ensures.uses)
