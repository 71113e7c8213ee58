use Rattle.std.proofs.Common.{List, [], ◌∷◌, ◌++◌, map, take, ap, sym, subst, ◌∙◌}
use Rattle.meaning.specs.Runs.{Instance}
use Rattle.meaning_plain.specs.Lists.{Given}
use Rattle.plain_runs.specs.declared.run.Instance as code
use Rattle.plain_runs.specs.Runs.{instance_as}
use Rattle.plain_domains.specs.Domains.{Adds, IsStoredBy}
use Rattle.plain_domains.proofs.Storing.{adds_begin, adds_more}
use Rattle.plain_runs.proofs.Mapping.{mapped_more, mapped_all}
use Rattle.plain_domains.proofs.domain.put_instances.Goals as goal

pub loop-instance-init : goal.loop-instance-init
loop-instance-init c = adds_begin IsStoredBy c.args.values.now.items

pub loop-instance-preserved : goal.loop-instance-preserved
loop-instance-preserved c =
    let k = c.loop-instance.instance-index in
    let is = c.args.instances.now in
    adds_more IsStoredBy (take k (map instance_as is)) _ (instance_as c.instance-item.result)
    c.args.values.now.items c.loop-instance.values.items c.put_stored.new.values.items
    (mapped_more instance_as is k c.instance-item.result c.loop-instance-test.true
    ∙ ap (λ (i : code.Instance). take k (map instance_as is) ++ instance_as i ∷ []) (sym c.instance-item.is))
    c.loop-instance.invariant c.in_ok-put_stored.ensures

pub returns : goal.returns
returns c =
    subst (λ (l : List Instance). Adds (Given IsStoredBy l) c.args.values.now.items c.loop-instance.values.items)
    (mapped_all instance_as c.args.instances.now c.loop-instance.instance-index c.loop-instance-test.false)
    c.loop-instance.invariant
