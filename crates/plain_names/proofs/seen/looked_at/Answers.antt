use Rattle.std.proofs.Common.{List, map, subst}
use Rattle.text_values.specs.TestValue.{content_of}
use Rattle.meaning.specs.Sets.{IsListOf}
use Rattle.meaning.specs.Names.{Name}
use Rattle.plain_runs.specs.Runs.{run_as}
use Rattle.plain_events.specs.declared.event.Event as code
use Rattle.plain_events.specs.Events.{event_as, of_runs, IsNode}
use Rattle.plain_names.specs.Seen.{AreSeenAmong}
use Rattle.plain_names.proofs.Seeing.{all_seen}
use Rattle.plain_names.proofs.seen.looked_at.Goals as goal

pub returns : goal.returns
returns c =
    let t = content_of c.args.test.now in
    let runs = map run_as c.args.runs.now in
    let nodes = map event_as c.in_ok-all.all.items in
    record {
      seen = all_seen t (of_runs runs) nodes
          (subst (λ (ns : List Name). IsListOf (IsNode ns runs) nodes) c.requires.locations c.in_ok-all.ensures)
          c.in_ok-seen.seen.items
          (subst (λ (l : List code.Event). AreSeenAmong (map event_as l) t (of_runs runs) c.in_ok-seen.seen.items)
          c.deref.ensures.value c.in_ok-seen.ensures);
      loads = c.in_ok-loads.ensures;
    }
