use Rattle.std.proofs.Common.{length}
use Rattle.plain_runs.proofs.locations.+put_places.Given as goal

abbrev pub decreases-put_places : goal.decreases-put_places
decreases-put_places l = length l.places.now
