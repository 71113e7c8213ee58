use Rattle.std.proofs.Common.{ℕ, List, Vec, ◌≡◌, take, length, arith, ap, sym, subst, ◌∙◌}
use Rattle.std.proofs.Math.Seq.{take-length}
use Rattle.std.specs.declared.alloc.Global.{Global}
use Rattle.thread_runs.specs.declared.run.Run.{Run}
use Rattle.run_combinations.specs.Parts.{NamesRuns, AreBelow, HasStoresOf, IsMade, AreThreadParts}
use Rattle.std.specs.List.{AllZip}
use Rattle.run_combinations.specs.declared.part.Sketch.{Sketch}
use Rattle.run_combinations.proofs.Parting.{each_length, named_at, threads_more}
use Rattle.run_combinations.proofs.layout.all_parts.Goals as goal

pub bounds-sketches-thread : goal.bounds-sketches-thread
bounds-sketches-thread c =
    let e : length c.args.runs.now ≡ length c.args.sketches.now =
    each_length NamesRuns c.args.runs.now c.args.sketches.now c.requires in
    omega arith

pub thread_parts-requires : goal.thread_parts-requires
thread_parts-requires c =
    subst (λ (l : List Run). AreBelow (length l) c.deref-in-loop-thread.result.now)
    (sym c.deref.ensures.value) (subst
    (λ (l : List Sketch). AreBelow (length c.index-runs-thread.result.items) l)
    (sym c.deref-in-loop-thread.ensures.value) (named_at c.args.runs.now c.args.sketches.now
    c.loop-thread.thread c.index-runs-thread.result c.index-sketches-thread.result
    c.requires (omega arith) c.index-runs-thread.is c.index-sketches-thread.is))

pub loop-thread-preserved : goal.loop-thread-preserved
loop-thread-preserved c =
    let e : length c.args.runs.now ≡ length c.args.sketches.now = each_length NamesRuns c.args.runs.now c.args.sketches.now c.requires in
    threads_more c.args.runs.now c.args.sketches.now c.loop-thread.thread
    c.loop-thread.threads.items c.push.new.self.items c.index-runs-thread.result
    c.index-sketches-thread.result c.in_ok-thread_parts.field-0 (omega arith) (omega arith)
    c.index-runs-thread.is c.index-sketches-thread.is c.in_ok-push.ensures.items
    (subst (λ (l : List Sketch). HasStoresOf c.in_ok-thread_parts.field-0.stores l)
    c.deref-in-loop-thread.ensures.value c.in_ok-thread_parts.ensures.stores)
    (subst
    (λ (l : List Run). AllZip (IsMade c.loop-thread.thread l)
    c.index-sketches-thread.result.items c.in_ok-thread_parts.field-0.parts.items)
    c.deref.ensures.value
    (subst
    (λ (l : List Sketch). AllZip (IsMade c.loop-thread.thread c.deref.result.now) l
    c.in_ok-thread_parts.field-0.parts.items) c.deref-in-loop-thread.ensures.value
    c.in_ok-thread_parts.ensures.parts))
    c.loop-thread.invariant

pub returns : goal.returns
returns c =
    let e : length c.args.runs.now ≡ length c.args.sketches.now = each_length NamesRuns c.args.runs.now c.args.sketches.now c.requires in
    let n : c.loop-thread.thread ≡ length c.args.runs.now = omega arith in
    subst
    (λ (l : List (Vec Run Global)).
    AreThreadParts 0 l c.args.sketches.now c.loop-thread.threads.items)
    (ap (λ (k : ℕ). take k c.args.runs.now) n ∙ take-length c.args.runs.now)
    (subst
    (λ (l : List (Vec Sketch Global)). AreThreadParts 0
    (take c.loop-thread.thread c.args.runs.now) l c.loop-thread.threads.items)
    (ap (λ (k : ℕ). take k c.args.sketches.now) (n ∙ e) ∙ take-length c.args.sketches.now)
    c.loop-thread.invariant)
