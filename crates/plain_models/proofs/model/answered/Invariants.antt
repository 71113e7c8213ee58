use Rattle.std.proofs.Common.{[]}
use Rattle.meaning_plain.specs.Lists.{SetOf}
use Rattle.plain_models.specs.Scopes.{with_named}
use Rattle.plain_models.proofs.Binding.{IsReadTo}
use Rattle.plain_models.proofs.model.answered.Given as goal

abbrev pub invariant-loop-index : goal.invariant-loop-index
invariant-loop-index l =
    IsReadTo (SetOf l.all) l.items (with_named (SetOf l.all) l.items l.fn.predefined.items []) l.index
    l.outer.items l.is_kept l.flags.items
