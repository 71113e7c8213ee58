use Rattle.std.proofs.Common.{List, Vec, Contains, map, sym, subst}
use Rattle.std.specs.declared.alloc.Global.{Global}
use Rattle.text_values.specs.TestValue.{content_of}
use Rattle.meaning.specs.Sets.{IsOnce, IsListOf, IsAcyclic}
use Rattle.meaning.specs.Executions.{Event}
use Rattle.plain_runs.specs.Runs.{run_as}
use Rattle.plain_events.specs.declared.event.Event as code
use Rattle.plain_executions.specs.Executions.{event_lists_as, AreSources, NeedOrReadsOf}
use Rattle.plain_executions.proofs.Sources.{sources_listed, all_among, reads_listed}
use Rattle.plain_executions.proofs.reading.all_reads_from.Goals as goal

pub sound_among-requires-clause-distinct : goal.sound_among-requires-clause-distinct
sound_among-requires-clause-distinct c =
    let t = content_of c.args.test.now in
    let runs = map run_as c.args.runs.now in
    let listed : IsListOf (AreSources t runs) (event_lists_as c.in_ok-all.all.items) =
    sources_listed t runs c.in_ok-reading.reading.items c.deref.result.now c.in_ok-lists.lists.items c.deref-2.result.now
    c.in_ok-all.all.items c.in_ok-reading.ensures c.deref.ensures.value c.in_ok-lists.ensures c.deref-2.ensures.value
    c.in_ok-all.ensures in
    subst (λ (l : List (Vec code.Event Global)). IsOnce (event_lists_as l)) (sym c.deref-5.ensures.value)
    listed.once

pub sound_among-requires-clause-among : goal.sound_among-requires-clause-among
sound_among-requires-clause-among c =
    let t = content_of c.args.test.now in
    let runs = map run_as c.args.runs.now in
    let listed : IsListOf (AreSources t runs) (event_lists_as c.in_ok-all.all.items) =
    sources_listed t runs c.in_ok-reading.reading.items c.deref.result.now c.in_ok-lists.lists.items c.deref-2.result.now
    c.in_ok-all.all.items c.in_ok-reading.ensures c.deref.ensures.value c.in_ok-lists.ensures c.deref-2.ensures.value
    c.in_ok-all.ensures in
    all_among t runs c.args.locations.now c.in_ok-events.events.items c.deref-3.result.now c.in_ok-all.all.items
    c.deref-5.result.now c.requires.locations c.in_ok-events.ensures c.deref-3.ensures.value
    c.deref-5.ensures.value listed

pub returns : goal.returns
returns c =
    let t = content_of c.args.test.now in
    let runs = map run_as c.args.runs.now in
    let listed : IsListOf (AreSources t runs) (event_lists_as c.in_ok-all.all.items) =
    sources_listed t runs c.in_ok-reading.reading.items c.deref.result.now c.in_ok-lists.lists.items c.deref-2.result.now
    c.in_ok-all.all.items c.in_ok-reading.ensures c.deref.ensures.value c.in_ok-lists.ensures c.deref-2.ensures.value
    c.in_ok-all.ensures in
    reads_listed t runs (event_lists_as c.in_ok-all.all.items) (event_lists_as c.in_ok-kept.kept.items) listed
    (subst
    (λ (l : List (Vec code.Event Global)). IsListOf (λ (es : List Event). Contains (event_lists_as l) es × IsAcyclic (NeedOrReadsOf runs es)) (event_lists_as c.in_ok-kept.kept.items))
    c.deref-5.ensures.value c.in_ok-kept.ensures)
