use Rattle.std.proofs.Common.{◌+◌, List, [], ◌∷◌, Vec, map, ap, sym, subst, ◌∙◌}
use Rattle.std.specs.declared.alloc.Global.{Global}
use Rattle.std.proofs.lemmas.List.{map-append}
use Rattle.text_values.specs.TestValue.{content_of}
use Rattle.meaning.specs.Runs.{Run}
use Rattle.plain_runs.specs.declared.run.Run as code
use Rattle.plain_runs.specs.Runs.{run_as}
use Rattle.plain_events.specs.Combinations.{run_lists_as, AreRunLists}
use Rattle.plain_events.proofs.Combining.{lists_more}
use Rattle.plain_events.proofs.combination.runs_by_thread.Goals as goal

pub loop-thread-preserved : goal.loop-thread-preserved
loop-thread-preserved c =
    let t = content_of c.args.test.now in
    let k = c.loop-thread.thread in
    subst (λ (l : List (List Run)). AreRunLists t (k + 1) l)
    (sym (ap (λ (l : List (Vec code.Run Global)). run_lists_as l) c.in_ok-push.ensures.items
    ∙ map-append (λ (v : Vec code.Run Global). map run_as v.items) c.loop-thread.lists.items (c.in_ok-runs.runs ∷ [])))
    (lists_more t k (run_lists_as c.loop-thread.lists.items) (map run_as c.in_ok-runs.runs.items)
    c.loop-thread.invariant c.in_ok-runs.ensures)
