use Rattle.std.proofs.Common.{map, sym}
use Rattle.bench_nodes.specs.Places.{slot_name, slot_names}
use Rattle.bench_nodes.proofs.UserLists.{none_used}
use Rattle.bench_nodes.proofs.places.put_user.Goals as goal

pub loop-index-init : goal.loop-index-init
loop-index-init c =
    sym (none_used (slot_name c.args.user.now) c.args.slots.now (map slot_names c.args.lists.now.items))
