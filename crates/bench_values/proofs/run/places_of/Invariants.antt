use Rattle.std.proofs.Common.{◌≡◌, map, take}
use Rattle.text_values.specs.declared.test.Place.TheVariants.{Location}
use Rattle.bench_values.proofs.run.places_of.Given as goal

abbrev pub invariant-loop-name : goal.invariant-loop-name
invariant-loop-name l = l.places.items ≡ map Location (take l.name-index l.names)
