-- What an edit makes of texts is one.
use Rattle.std.specs.Prelude.{◌≡◌, false}
use Rattle.bench_texts.specs.BenchTexts.{BenchTexts}
use Rattle.bench_texts.specs.Edits.{Edit, Applies}

-- the edit is accepted on these texts with one result at most
abbrev pub HasOneEditResult : BenchTexts → Edit → Type 0
HasOneEditResult t e =
    (new other : BenchTexts) → Applies t false e new → Applies t false e other → new ≡ other
