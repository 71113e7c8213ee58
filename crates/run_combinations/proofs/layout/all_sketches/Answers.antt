use Rattle.std.proofs.Common.{List, Vec, arith, subst}
use Rattle.std.specs.declared.alloc.Global.{Global}
use Rattle.thread_runs.specs.declared.value.Value.{Value}
use Rattle.thread_runs.specs.declared.run.Run.{Run}
use Rattle.run_combinations.specs.Parts.{AreSketches}
use Rattle.run_combinations.specs.declared.part.Sketch.{Sketch}
use Rattle.run_combinations.proofs.Laying.{each_more}
use Rattle.run_combinations.proofs.layout.all_sketches.Goals as goal

pub loop-thread-preserved : goal.loop-thread-preserved
loop-thread-preserved c =
    each_more
    (λ (r : Vec Run Global) (s : Vec Sketch Global).
    AreSketches c.args.domain.now.values.items r.items s.items) c.args.runs.now
    c.loop-thread.thread-index c.thread-item.result c.loop-thread.threads.items
    c.push.new.self.items c.in_ok-sketches.field-0
    (omega arith) c.thread-item.is c.in_ok-push.ensures.items
    (subst
    (λ (l : List Value).
    AreSketches l c.thread-item.result.items c.in_ok-sketches.field-0.items)
    c.deref.ensures.value
    (subst
    (λ (l : List Run). AreSketches c.deref.result.now l c.in_ok-sketches.field-0.items)
    c.deref-in-loop-thread.ensures.value c.in_ok-sketches.ensures))
    c.loop-thread.invariant
