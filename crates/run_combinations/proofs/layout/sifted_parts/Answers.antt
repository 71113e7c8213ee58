use Rattle.std.proofs.Common.{List, Vec, ◌≡◌, length, subst, sym, ◌∙◌}
use Rattle.std.specs.declared.alloc.Global.{Global}
use Rattle.thread_runs.specs.declared.run.Run.{Run}
use Rattle.run_combinations.specs.Parts.{AreSome, NamesRuns, AreThreadParts}
use Rattle.std.specs.List.{AllZip}
use Rattle.run_combinations.specs.declared.part.Sketch.{Sketch}
use Rattle.run_combinations.proofs.Parting.{each_length}
use Rattle.run_combinations.proofs.Laying.{front_is, AllSketches, AllFacts, all_facts, all_named}
use Rattle.run_combinations.proofs.layout.sifted_parts.Goals as goal

pub all_parts-requires : goal.all_parts-requires
all_parts-requires c =
    let e1 : c.deref.result.now ≡ c.in_ok-runs.runs.items = c.deref.ensures.value in
    let e2 : c.deref-2.result.now ≡ c.in_ok-runs.runs.items = c.deref-2.ensures.value in
    let long : length c.deref_mut.result.now ≡ length c.sift.new.threads = each_length (λ (v w : Vec Sketch Global). AreSome v.items w.items) c.deref_mut.result.now c.sift.new.threads c.sift.ensures.some in
    let e3 : c.deref-3.result.now ≡ c.sift.new.threads = c.deref-3.ensures.value ∙ front_is c.sift.new.threads _ c.in_ok-sketches.sketches.len (sym c.deref_mut.ensures.len ∙ long) in
    let em : c.deref_mut.result.now ≡ c.in_ok-sketches.sketches.items = c.deref_mut.ensures.value in
    let made : AllSketches c.args.domain.now.values.items c.deref.result.now c.in_ok-sketches.sketches.items = c.in_ok-sketches.ensures in
    let sketched : AllSketches c.args.domain.now.values.items c.in_ok-runs.runs.items c.deref_mut.result.now =
    subst
    (λ (l : List (Vec Sketch Global)).
    AllSketches c.args.domain.now.values.items c.in_ok-runs.runs.items l)
    (sym em)
    (subst
    (λ (l : List (Vec Run Global)).
    AllSketches c.args.domain.now.values.items l c.in_ok-sketches.sketches.items) e1
    made) in
    let facts : AllFacts c.args.domain.now.values.items c.in_ok-runs.runs.items c.sift.new.threads = all_facts c.args.domain.now.values.items c.in_ok-runs.runs.items c.deref_mut.result.now c.sift.new.threads sketched c.sift.ensures.some in
    subst (λ (l : List (Vec Run Global)). AllZip NamesRuns l c.deref-3.result.now) (sym e2)
    (subst (λ (l : List (Vec Sketch Global)). AllZip NamesRuns c.in_ok-runs.runs.items l)
    (sym e3) (all_named c.args.domain.now.values.items c.in_ok-runs.runs.items
    c.sift.new.threads facts))

pub returns : goal.returns
returns c =
    let e1 : c.deref.result.now ≡ c.in_ok-runs.runs.items = c.deref.ensures.value in
    let e2 : c.deref-2.result.now ≡ c.in_ok-runs.runs.items = c.deref-2.ensures.value in
    let long : length c.deref_mut.result.now ≡ length c.sift.new.threads = each_length (λ (v w : Vec Sketch Global). AreSome v.items w.items) c.deref_mut.result.now c.sift.new.threads c.sift.ensures.some in
    let e3 : c.deref-3.result.now ≡ c.sift.new.threads = c.deref-3.ensures.value ∙ front_is c.sift.new.threads _ c.in_ok-sketches.sketches.len (sym c.deref_mut.ensures.len ∙ long) in
    let em : c.deref_mut.result.now ≡ c.in_ok-sketches.sketches.items = c.deref_mut.ensures.value in
    let made : AllSketches c.args.domain.now.values.items c.deref.result.now c.in_ok-sketches.sketches.items = c.in_ok-sketches.ensures in
    let sketched : AllSketches c.args.domain.now.values.items c.in_ok-runs.runs.items c.deref_mut.result.now =
    subst
    (λ (l : List (Vec Sketch Global)).
    AllSketches c.args.domain.now.values.items c.in_ok-runs.runs.items l)
    (sym em)
    (subst
    (λ (l : List (Vec Run Global)).
    AllSketches c.args.domain.now.values.items l c.in_ok-sketches.sketches.items) e1
    made) in
    let parts : AreThreadParts 0 c.deref-2.result.now c.deref-3.result.now c.in_ok-threads.threads.items = c.in_ok-threads.ensures in
    let threads : AreThreadParts 0 c.in_ok-runs.runs.items c.sift.new.threads c.in_ok-threads.threads.items = subst (λ (l : List (Vec Run Global)). AreThreadParts 0 l c.sift.new.threads c.in_ok-threads.threads.items) e2 (subst (λ (l : List (Vec Sketch Global)). AreThreadParts 0 c.deref-2.result.now l c.in_ok-threads.threads.items) e3 parts) in (
      c.in_ok-runs.runs.items,
      c.in_ok-runs.ensures,
      record {
        all = c.deref_mut.result.now;
        left = c.sift.new.threads;
        sketched = sketched;
        sifted = c.sift.ensures;
        made = threads;
      },
    )
