-- What the values of the code hold.
use Rattle.std.specs.Prelude.{map, All}
use Rattle.text_values.specs.TestValue.{content_of}
use Rattle.bench_texts.specs.declared.model.NamedModel.{NamedModel}
use Rattle.bench_texts.specs.declared.texts.Texts.{Texts}
use Rattle.bench_texts.specs.BenchTexts.{PlainModel, BenchTexts, items_with_numbers}
use Rattle.bench_texts.specs.Readings.{IsModelReading}

abbrev pub plain_model : NamedModel → PlainModel
plain_model m =
    record { name = m.name; items = items_with_numbers m.numbers.items m.text.items.items }

abbrev pub texts_of : Texts → BenchTexts
texts_of t =
    record {
      tests = map content_of t.tests.items;
      models = map plain_model t.models.items;
      next = t.next;
    }

-- a model holds what its items are resolved to, or their first fault
abbrev pub IsModelRead : NamedModel → Type 0
IsModelRead m = IsModelReading m.text.items.items m.reading

abbrev pub AreModelsRead : Texts → Type 0
AreModelsRead t = All IsModelRead t.models.items
