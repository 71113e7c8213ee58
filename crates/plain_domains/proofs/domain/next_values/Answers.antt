use Rattle.std.proofs.Common.{List, map, subst, sym, arith}
use Rattle.text_values.specs.TestValue.{content_of}
use Rattle.meaning.specs.Domain.{FreeRun}
use Rattle.meaning_plain.specs.Lists.{Given}
use Rattle.plain_machine.specs.declared.value.Value.{Value}
use Rattle.plain_runs.specs.Runs.{ValuesOf}
use Rattle.plain_runs.specs.declared.free.FreeRun as code
use Rattle.plain_runs.specs.Frees.{free_run_as}
use Rattle.plain_domains.specs.Domains.{Adds, IsStoredIn}
use Rattle.plain_domains.proofs.Rounds.{StoredBelow, begin_stored, begin_few, stored_more, few_more, few_runs, over_runs, many_runs, next_listed}
use Rattle.plain_domains.proofs.domain.next_values.Goals as goal

pub loop-thread-init : goal.loop-thread-init
loop-thread-init c =
    let t = content_of c.args.test.now in
    let V = ValuesOf c.args.values.now in
    record {
      adds = subst (λ (l : List Value). Adds (StoredBelow t V 0) c.args.values.now l) (sym c.in_ok-next.ensures.items) (begin_stored t V c.args.values.now);
      few = begin_few t V;
    }

pub loop-thread-preserved : goal.loop-thread-preserved
loop-thread-preserved c =
    let t = content_of c.args.test.now in
    let V = ValuesOf c.args.values.now in
    let k = c.loop-thread.thread in
    let fs = c.in_ok-runs.runs.items in
    let old = c.loop-thread.next.items in
    let new = c.put_runs.new.values.items in
    record {
      adds = stored_more t V k c.args.values.now old new (map free_run_as fs) c.loop-thread.invariant.adds c.in_ok-runs.ensures (subst (λ (l : List code.FreeRun). Adds (Given (λ (f : FreeRun). IsStoredIn f.run) (map free_run_as l)) old new) c.deref-in-loop-thread.ensures.value c.in_ok-put_runs.ensures);
      few = few_more t V k (map free_run_as fs) c.loop-thread.invariant.few c.in_ok-runs.ensures (few_runs fs c.deref.result.now c.has_many.result c.deref.ensures.value c.has_many.ensures.1 c.if-has_many.false);
    }

pub returns-then-has_many : goal.returns-then-has_many
returns-then-has_many c =
    let fs = c.in_ok-runs.runs.items in
    many_runs (content_of c.args.test.now) (ValuesOf c.args.values.now) c.loop-thread.thread
    (map free_run_as fs) (omega (arith, c.loop-thread-test.true, c.thread_count-thread-end.ensures))
    c.in_ok-runs.ensures
    (over_runs fs c.deref.result.now c.deref.ensures.value (c.has_many.ensures.0 c.if-has_many.true))

pub returns : goal.returns
returns c =
    next_listed (content_of c.args.test.now) c.args.values.now c.loop-thread.next.items
    c.loop-thread.thread c.requires
    (omega (arith, c.loop-thread-test.false, c.thread_count-thread-end.ensures))
    (omega (arith, c.loop-thread.auto.thread-end, c.thread_count-thread-end.ensures))
    c.loop-thread.invariant.few c.loop-thread.invariant.adds
