use Rattle.std.proofs.Common.{◌≡◌, drop}
use Rattle.draw_scene.specs.Lines.{label_of}
use Rattle.draw_scene.proofs.links.label_of.Given as goal

-- no step before goes by the pair
abbrev pub invariant-loop-link : goal.invariant-loop-link
invariant-loop-link l =
    label_of (drop l.link-index l.links) l.name l.ink l.pair
    ≡ label_of l.links l.name l.ink l.pair
