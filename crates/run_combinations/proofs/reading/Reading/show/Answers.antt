use Rattle.std.proofs.Common.{refl}
use Rattle.run_combinations.proofs.Gathering.{shown_reading, fronted}
use Rattle.run_combinations.proofs.reading.Reading.show.Goals as goal

pub returns : goal.returns
returns c =
    λ few. shown_reading c.args.events.now _ c.args.need_pairs.now _
    (fronted c.args.events.now _ c.min.result c.min.ensures refl few) few refl
    c.in_ok-find_loads.ensures c.in_ok-find_stores.ensures
