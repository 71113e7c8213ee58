-- What an item did before an edit, as the code holds it.
use Rattle.std.specs.Prelude.{Option, option_map}
use Rattle.bench_parts.specs.Contents.{PartContent, role_part}
use Rattle.bench_parts.specs.declared.held.HeldItem.{HeldItem}

abbrev pub held_part : HeldItem → Option PartContent
held_part h = role_part (option_map (λ r. r.now) h.role)
