use Rattle.std.proofs.Common.{◌≡◌, drop}
use Rattle.draw_scene.specs.Lines.{index_of}
use Rattle.draw_scene.proofs.places.index_of.Given as goal

-- it is not among those before
abbrev pub invariant-loop-index : goal.invariant-loop-index
invariant-loop-index l =
    index_of l.number l.index (drop l.index l.events) ≡ index_of l.number 0 l.events
