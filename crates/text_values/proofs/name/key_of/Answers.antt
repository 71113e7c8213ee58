use Rattle.std.proofs.Common.{rules}
use Rattle.text_values.specs.Names.{key_of, key_bytes}
use Rattle.text_values.proofs.name.key_of.Goals as goal

pub returns : goal.returns
unfolding key_of key_bytes
returns c = search rules
