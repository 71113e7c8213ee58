use Rattle.std.proofs.Common.{◌≡◌, ℕ, drop, length, map}
use Rattle.std.specs.Option.{option_or}
use Rattle.bench_parts.specs.Written.{text_in}
use Rattle.bench_edits.specs.Readings.{named_text}
use Rattle.bench_edits.proofs.texts.texts_of.Given as goal

abbrev pub invariant-loop-model : goal.invariant-loop-model
invariant-loop-model l = record {
  even : length (map (λ r. r.number) l.rows.items) ≡ length (map (λ x. x.now) l.texts.items);
  said : (number : ℕ)
      → option_or
      (text_in (map (λ r. r.number) l.rows.items) (map (λ x. x.now) l.texts.items) number)
      (named_text (drop l.model-index l.models) number) ≡ named_text l.models number;
}
