use Rattle.draw_scene.proofs.Meaning.{place_is}
use Rattle.draw_scene.proofs.laws.places_are_of_events.Goals as goal

pub returns : goal.returns
returns c = place_is
