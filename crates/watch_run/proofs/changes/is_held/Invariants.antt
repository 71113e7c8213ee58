use Rattle.std.proofs.Common.{◌≡◌, take, false}
use Rattle.std.specs.List.{list_any}
use Rattle.watch_run.specs.Holding.{holds_name}
use Rattle.watch_run.proofs.changes.is_held.Given as goal

-- no file so far holds it
abbrev pub invariant-loop-held : goal.invariant-loop-held
invariant-loop-held l = list_any (holds_name l.name) (take l.held-index l.names) ≡ false
