use Rattle.std.proofs.Common.{◌≡◌, ◌≤◌, take}
use Rattle.draw_layout.specs.Ends.{most_ports_of}
use Rattle.draw_layout.proofs.ports.most_ports.Given as goal

abbrev pub invariant-loop-end : goal.invariant-loop-end
invariant-loop-end l =
    (l.most ≡ most_ports_of l.ends l.lower (take l.end-index l.ends)) × (l.most ≤ 1024)
