use Rattle.std.proofs.Common.{List, [], ◌∷◌, ◌++◌, map, ap, sym, ◌∙◌}
use Rattle.std.proofs.lemmas.List.{map-append, append-nil}
use Rattle.meaning.specs.Runs.{Run}
use Rattle.plain_runs.specs.declared.run.Run as code
use Rattle.plain_runs.specs.Runs.{run_as}
use Rattle.plain_events.proofs.Combining.{got_none, got_some}
use Rattle.plain_events.proofs.picked.put_run.Goals as goal

pub returns-then-index-list : goal.returns-then-index-list
returns-then-index-list c =
    let old = map run_as c.args.picked.now.items in
    sym (ap (λ (l : List Run). old ++ l) (got_none run_as c.args.list.now c.args.index c.if-index-list.true) ∙ append-nil old)

pub returns : goal.returns
returns c =
    let old = map run_as c.args.picked.now.items in
    ap (λ (l : List code.Run). map run_as l) c.in_ok-push.ensures.items
    ∙ map-append run_as c.args.picked.now.items (c.in_ok-run.run' ∷ [])
    ∙ ap (λ (r : Run). old ++ r ∷ []) (c.in_ok-run.ensures ∙ ap run_as c.index-list-index.is)
    ∙ ap (λ (l : List Run). old ++ l) (sym (got_some run_as c.args.list.now c.args.index c.index-list-index.result c.if-index-list.false))
