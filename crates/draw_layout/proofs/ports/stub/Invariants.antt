use Rattle.std.proofs.Common.{◌≡◌, take}
use Rattle.draw_layout.specs.Ends.{stub}
use Rattle.draw_layout.proofs.ports.stub.Given as goal

abbrev pub invariant-loop-end : goal.invariant-loop-end
invariant-loop-end l = l.most ≡ stub (take l.end-index l.ends) l.column l.side
