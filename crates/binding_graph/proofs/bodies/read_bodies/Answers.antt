use Rattle.std.proofs.Common.{◌≡◌, ◌<◌, length, arith, refl, sym, ◌∙◌, None}
use Rattle.text_values.specs.ModelValues.{term_of}
use Rattle.binding_kinds.specs.Verdict.{or_else}
use Rattle.binding_kinds.proofs.Fitting.{none_later}
use Rattle.binding_kinds.proofs.Fitted.{fit}
use Rattle.binding_graph.proofs.Groups.{faultless_more, faulty, faultless_all, named_more, named_all, made_more, used_more, all_made, all_used}
use Rattle.binding_graph.proofs.bodies.read_bodies.Goals as goal

pub loop-index-init : goal.loop-index-init
loop-index-init c = record {
  faults = λ ss kept none. refl;
  named = λ ss kept none. rw c.in_ok-bodies.ensures.items tt;
  bodies = λ ss kept sound known none ix. λ rs h. rw c.in_ok-bodies.ensures.items h;
  uses = λ none. λ later h. h;
  indexed = λ ix. ix;
}

pub loop-index-preserved : goal.loop-index-preserved
loop-index-preserved c =
    let g = c.args.group.now in
    let i = c.loop-index.index in
    let d = c.index-group-index.result in
    let is = c.index-group-index.is in
    let lt : i < length g = omega arith in
    let m = c.loop-index.invariant in
    let one = c.in_ok-judged.ensures in
    let own = c.binding_fault-own.result in
    let clear : or_else own c.in_ok-judged.field-0.judged.fault ≡ None = sym c.or_else.ensures ∙ c.in_default.is in
    record {
      faults = λ ss kept none.
          let v = one.judged ss kept none in
          faultless_more ss _ _ c.args.recursive g i d own c.in_ok-judged.field-0.judged.fault lt
          (m.faults ss kept none) (rw (← is) (c.binding_fault-own.ensures ss _ v.kind))
          (rw (← is) v.fault) clear;
      named = λ ss kept none.
          named_more ss _ g i d c.loop-index.bodies.items _
          (record { name = d.name; code = c.in_ok-judged.field-0.code }) lt
          (m.named ss kept none) c.in_ok-push_body.ensures (rw (← is) refl)
          (rw (← is) (one.kind ∙ (one.judged ss kept none).kind));
      bodies = λ ss kept sound known none ix.
          let v = one.judged ss kept none in
          let indexed = m.indexed ix in
          let fits = fit ss _ _ _ (term_of d.body) known (sym v.fault ∙ none_later own _ clear) in
          made_more ss _ _ _ c.args.work.now.uses c.loop-index.work.uses c.read_code.new.work.uses g
          i d _ _ (record { name = d.name; code = c.in_ok-judged.field-0.code }) lt
          (m.bodies ss kept sound known none ix)
          c.in_ok-push_body.ensures (rw (← is) refl)
          (rw (← is) (one.code ss kept sound none indexed fits))
          (rw (← is) (rw none at (one.uses.values indexed)));
      uses =
          λ none. used_more _ _ _ c.args.work.now.uses c.loop-index.work.uses
          c.read_code.new.work.uses g i d lt (m.uses none) (rw (← is) (rw none at one.uses));
      indexed = λ ix. one.uses.indexed (m.indexed ix);
    }

pub returns-in-Some-clause-fault : goal.returns-in-Some-clause-fault
returns-in-Some-clause-fault c = λ ss kept none.
    let g = c.args.group.now in
    let i = c.loop-index.index in
    let d = c.index-group-index.result in
    let is = c.index-group-index.is in
    let lt : i < length g = omega arith in
    let v = c.in_ok-judged.ensures.judged ss kept none in
    faulty ss _ _ c.args.recursive g i d c.binding_fault-own.result
    c.in_ok-judged.field-0.judged.fault c.in-Some.fault lt
    (c.loop-index.invariant.faults ss kept none)
    (rw (← is) (c.binding_fault-own.ensures ss _ v.kind)) (rw (← is) v.fault)
    (sym c.or_else.ensures ∙ c.in-Some.is)

pub returns-clause-fault : goal.returns-clause-fault
returns-clause-fault c =
    λ ss kept none. faultless_all ss _ _ c.args.recursive c.args.group.now c.loop-index.index
    (omega arith) (c.loop-index.invariant.faults ss kept none)

pub returns-clause-named : goal.returns-clause-named
returns-clause-named c =
    λ ss kept none. named_all ss _ c.args.group.now c.loop-index.index c.loop-index.bodies.items
    (omega arith) (c.loop-index.invariant.named ss kept none)

pub returns-clause-bodies : goal.returns-clause-bodies
returns-clause-bodies c = λ ss kept sound known none ix.
    all_made ss _ _ _ c.args.work.now.uses c.loop-index.work.uses c.args.group.now
    c.loop-index.index c.loop-index.bodies.items
    (c.loop-index.invariant.bodies ss kept sound known none ix) (omega arith)

pub returns-clause-uses : goal.returns-clause-uses
returns-clause-uses c =
    λ none. all_used _ _ _ c.args.work.now.uses c.loop-index.work.uses c.args.group.now
    c.loop-index.index (c.loop-index.invariant.uses none) (omega arith)
