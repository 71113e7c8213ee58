-- What the items of models say, where they are listed with their numbers. Read it after Readings.
use Rattle.std.specs.Prelude.{ℕ, map, Option}
use Rattle.bench_parts.specs.Contents.{PartContent}
use Rattle.bench_parts.specs.Written.{text_in}
use Rattle.bench_edits.specs.declared.item_texts.ItemTexts.{ItemTexts}

-- what the first item of that number says
abbrev pub text_by_number : ItemTexts → ℕ → Option PartContent
text_by_number s number =
    text_in (map (λ r. r.number) s.rows.items) (map (λ x. x.now) s.texts.items) number
