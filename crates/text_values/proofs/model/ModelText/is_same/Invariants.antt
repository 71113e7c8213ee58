use Rattle.std.proofs.Common.{◌≡◌, ◌↔◌, length, drop}
use Rattle.text_values.specs.ModelValues.{clauses_of}
use Rattle.text_values.proofs.model.ModelText.is_same.Given as goal

abbrev pub invariant-loop-this : goal.invariant-loop-this
invariant-loop-this l =
    (clauses_of l.self.items.items ≡ clauses_of l.other.items.items)
    ↔ (clauses_of (drop (length l.yielded) l.self.items.items)
    ≡ clauses_of (drop (length l.yielded) l.other.items.items))
