use Rattle.std.proofs.Common.{List, Vec, map, ap, sym, subst, ◌∙◌}
use Rattle.std.specs.declared.alloc.Global.{Global}
use Rattle.plain_runs.specs.Keeping.{PutsIf}
use Rattle.plain_runs.proofs.Counting.{kept_step, kept_end}
use Rattle.plain_events.specs.declared.event.Event as code
use Rattle.plain_events.specs.Events.{event_as}
use Rattle.plain_executions.specs.Executions.{event_lists_as, IsAmong, NeedOrReadsOf}
use Rattle.meaning.specs.Sets.{IsAcyclic}
use Rattle.meaning.specs.Executions.{Event}
use Rattle.plain_runs.specs.Runs.{run_as}
use Rattle.plain_executions.proofs.Pairing.{all_at}
use Rattle.plain_executions.proofs.reading.sound_among.Goals as goal

pub put_if_sound-requires-clause-among : goal.put_if_sound-requires-clause-among
put_if_sound-requires-clause-among c =
    let runs = map run_as c.args.runs.now in
    let nodes = map event_as c.args.nodes.now in
    subst (λ (l : List code.Event). IsAmong nodes (NeedOrReadsOf runs (map event_as l)))
    (sym (c.deref.ensures.value ∙ ap (λ (v : Vec code.Event Global). v.items) c.reads_from-item.is))
    (all_at (λ (es : List Event). IsAmong nodes (NeedOrReadsOf runs es)) (λ (v : Vec code.Event Global). map event_as v.items)
    c.args.all.now c.loop-reads_from.reads_from-index c.reads_from-item.result c.loop-reads_from-test.true
    c.requires.among)

pub loop-reads_from-preserved : goal.loop-reads_from-preserved
loop-reads_from-preserved c =
    kept_step (λ (v : Vec code.Event Global). map event_as v.items) (λ (es : List Event). IsAcyclic (NeedOrReadsOf (map run_as c.args.runs.now) es))
    c.args.all.now c.loop-reads_from.reads_from-index c.reads_from-item.result c.loop-reads_from.kept.items
    c.put_if_sound.new.kept.items c.loop-reads_from-test.true c.requires.distinct
    c.loop-reads_from.invariant
    (subst
    (λ (l : List code.Event). PutsIf (IsAcyclic (NeedOrReadsOf (map run_as c.args.runs.now) (map event_as l))) (map event_as l) (event_lists_as c.loop-reads_from.kept.items) (event_lists_as c.put_if_sound.new.kept.items))
    (c.deref.ensures.value ∙ ap (λ (v : Vec code.Event Global). v.items) c.reads_from-item.is)
    c.in_ok-put_if_sound.ensures)

pub returns : goal.returns
returns c =
    kept_end (λ (v : Vec code.Event Global). map event_as v.items) (λ (es : List Event). IsAcyclic (NeedOrReadsOf (map run_as c.args.runs.now) es))
    c.args.all.now c.loop-reads_from.reads_from-index (event_lists_as c.loop-reads_from.kept.items)
    c.loop-reads_from-test.false c.loop-reads_from.invariant
