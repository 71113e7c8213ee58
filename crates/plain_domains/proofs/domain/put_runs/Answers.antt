use Rattle.std.proofs.Common.{List, [], ◌∷◌, ◌++◌, map, take, ap, sym, subst, ◌∙◌}
use Rattle.meaning_plain.specs.Lists.{Given}
use Rattle.meaning.specs.Domain.{FreeRun}
use Rattle.plain_runs.specs.declared.free.FreeRun as code
use Rattle.plain_runs.specs.Frees.{free_run_as}
use Rattle.plain_domains.specs.Domains.{Adds, IsStoredIn}
use Rattle.plain_domains.proofs.Storing.{adds_begin, adds_more}
use Rattle.plain_runs.proofs.Mapping.{mapped_more, mapped_all}
use Rattle.plain_domains.proofs.domain.put_runs.Goals as goal

pub loop-free-init : goal.loop-free-init
loop-free-init c = adds_begin (λ (f : FreeRun). IsStoredIn f.run) c.args.values.now.items

pub loop-free-preserved : goal.loop-free-preserved
loop-free-preserved c =
    let k = c.loop-free.free-index in
    let fs = c.args.runs.now in
    adds_more (λ (f : FreeRun). IsStoredIn f.run) (take k (map free_run_as fs)) _
    (free_run_as c.free-item.result) c.args.values.now.items c.loop-free.values.items
    c.put_all_stored.new.values.items
    (mapped_more free_run_as fs k c.free-item.result c.loop-free-test.true
    ∙ ap (λ (f : code.FreeRun). take k (map free_run_as fs) ++ free_run_as f ∷ []) (sym c.free-item.is))
    c.loop-free.invariant c.in_ok-put_all_stored.ensures

pub returns : goal.returns
returns c =
    subst (λ (l : List FreeRun). Adds (Given (λ (f : FreeRun). IsStoredIn f.run) l) c.args.values.now.items c.loop-free.values.items)
    (mapped_all free_run_as c.args.runs.now c.loop-free.free-index c.loop-free-test.false) c.loop-free.invariant
