use Rattle.std.proofs.Common.{◌≡◌, take}
use Rattle.std.specs.Prelude.{filter}
use Rattle.draw_relations.specs.Shown.{is_other}
use Rattle.draw_relations.proofs.names.others.Given as goal

abbrev pub invariant-loop-one : goal.invariant-loop-one
invariant-loop-one l = l.kept.items ≡ filter (is_other l.name) (take l.one-index l.shown)
