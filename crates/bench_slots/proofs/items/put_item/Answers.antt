use Rattle.std.proofs.Common.{map}
use Rattle.std.proofs.lemmas.Option.{slice_get_past}
use Rattle.bench_slots.specs.Slots.{plain, histories_in}
use Rattle.bench_slots.proofs.Growing.{no_slot}
use Rattle.bench_slots.proofs.items.put_item.Goals as goal

pub returns-in-None : goal.returns-in-None
returns-in-None c =
    no_slot (histories_in c.args.histories.now) c.args.numbers.now c.args.items.now c.args.index
    (map plain c.args.slots.now.items) (slice_get_past c.args.items.now c.args.index
    c.in-None.ensures.lookup.3)
