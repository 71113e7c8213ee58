use Rattle.std.proofs.lemmas.Option.{slice_get_past}
use Rattle.bench_slots.specs.Slots.{flag_key}
use Rattle.bench_slots.proofs.Growing.{no_key}
use Rattle.bench_slots.proofs.model.put_flag_at.Goals as goal

pub returns-in-None : goal.returns-in-None
returns-in-None c =
    no_key flag_key c.args.numbers.now c.args.items.now c.args.index c.args.keys.now.items
    (slice_get_past c.args.items.now c.args.index c.in-None.ensures.lookup.3)
