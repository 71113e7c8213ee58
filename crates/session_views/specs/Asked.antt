-- Models that a question asks for, with their indexes.
use Rattle.std.specs.Prelude.{◌≡◌, ℕ, Some, slice_get}
use Rattle.bench_texts.specs.BenchTexts.{PlainModel}
use Rattle.bench_texts.specs.declared.texts.Texts.{Texts}
use Rattle.bench_texts.specs.Held.{plain_model, texts_of}
use Rattle.session_views.specs.declared.find.AskedModel.{AskedModel}

abbrev pub asked_model : AskedModel → PlainModel
asked_model asked = plain_model asked.model.now

abbrev pub asked_index : AskedModel → ℕ
asked_index asked = asked.index

-- the model is that of the index
abbrev pub IsModelAt : Texts → AskedModel → Type 0
IsModelAt texts asked = slice_get (texts_of texts).models asked.index ≡ Some (asked_model asked)
