use Rattle.std.proofs.Common.{◌≡◌, false, take}
use Rattle.std.specs.List.{list_any}
use Rattle.draw_scene.specs.Lines.{is_link_by}
use Rattle.draw_scene.proofs.links.is_edge.Given as goal

abbrev pub invariant-loop-pair : goal.invariant-loop-pair
invariant-loop-pair l =
    list_any (λ p. is_link_by l.edges.name.items l.edges.ink p l.link)
    (take l.pair-index l.edges.pairs.items) ≡ false
