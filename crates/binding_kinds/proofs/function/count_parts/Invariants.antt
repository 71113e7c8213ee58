use Rattle.std.proofs.Common.{ℕ, ◌≡◌, ◌<◌, length, get_or}
use Rattle.std.specs.List.{count_by}
use Rattle.binding_kinds.specs.Applicable.{is_parameter_at}
use Rattle.binding_kinds.proofs.function.count_parts.Given as goal

abbrev pub invariant-loop-index : goal.invariant-loop-index
invariant-loop-index l = record {
  long : length l.factors ≡ 8;
  counted : (index : ℕ) → index < l.index
      → get_or l.factors index 0 ≡ count_by (is_parameter_at index) l.template;
}
