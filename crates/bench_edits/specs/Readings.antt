-- Read this first: models of the bench as the parts of the bench take them.
use Rattle.std.specs.Prelude.{ℕ, List, [], ◌∷◌, Option, Some, None}
use Rattle.std.specs.Arc.{arc_value}
use Rattle.std.specs.Option.{option_or}
use Rattle.std.specs.List.{flat_map}
use Rattle.text_values.specs.declared.test.Test.{Test}
use Rattle.binding_kinds.specs.declared.fault.ModelFault.{ModelFault}
use Rattle.binding_graph.specs.declared.resolved.ResolvedItem.{ResolvedItem}
use Rattle.bench_texts.specs.declared.model.NamedModel.{NamedModel}
use Rattle.bench_texts.specs.declared.reading.Reading.{Reading}
use Rattle.bench_texts.specs.declared.reading.Reading.TheVariants as readings
use Rattle.bench_nodes.specs.declared.table.ModelRow.{ModelRow}
use Rattle.bench_slots.specs.Tables.{ModelReading, Sound, Faulty}
use Rattle.bench_parts.specs.Contents.{PartContent, parts_state}
use Rattle.bench_parts.specs.Items.{ItemFact, item_facts}
use Rattle.bench_parts.specs.Written.{WrittenModel, WrittenState, text_in}
use Rattle.bench_parts.specs.declared.parts.Parts.{Parts}

-- the fault of a model, if it has one
abbrev pub fault_in : Reading → Option ModelFault
fault_in (readings.Sound resolved used) = None
fault_in (readings.Faulty fault) = Some fault

-- what its items are resolved to, if it has none
abbrev pub resolved_in : Reading → Option (List ResolvedItem)
resolved_in (readings.Sound resolved used) = Some (arc_value resolved).items.items
resolved_in (readings.Faulty fault) = None

abbrev pub reading_by : ℕ → List ℕ → Reading → ModelReading
reading_by id numbers (readings.Sound resolved used) =
    Sound id numbers (arc_value resolved).items.items used.items
reading_by id numbers (readings.Faulty fault) = Faulty id fault

-- a model by its number, as it is read
abbrev pub reading_of : ModelRow → NamedModel → ModelReading
reading_of row m = reading_by row.id m.numbers.items m.reading

abbrev pub readings_of : List ModelRow → List NamedModel → List ModelReading
readings_of [] ms = []
readings_of (r ∷ rs) [] = []
readings_of (r ∷ rs) (m ∷ ms) = reading_of r m ∷ readings_of rs ms

-- a model as it is written, with how it is read
abbrev pub written_model : ModelRow → NamedModel → WrittenModel
written_model row m =
    record { numbers = m.numbers.items; items = m.text.items.items; reading = reading_of row m }

abbrev pub written_models : List ModelRow → List NamedModel → List WrittenModel
written_models [] ms = []
written_models (r ∷ rs) [] = []
written_models (r ∷ rs) (m ∷ ms) = written_model r m ∷ written_models rs ms

-- the state of these parts, tests and models, where the next new item is given that number
abbrev pub written_state : Parts → List Test → List NamedModel → ℕ → WrittenState
written_state p tests models next =
    record {
      state = parts_state p tests;
      models = written_models p.table.models.items models;
      next = next;
    }

-- what the item of that number says
abbrev pub named_text : List NamedModel → ℕ → Option PartContent
named_text [] number = None
named_text (m ∷ ms) number =
    option_or (text_in m.numbers.items m.text.items.items number) (named_text ms number)

-- what is known of the items of a model, and of all models
abbrev pub facts_in : NamedModel → List ItemFact
facts_in m = item_facts m.numbers.items m.text.items.items (resolved_in m.reading)

abbrev pub all_facts : List NamedModel → List ItemFact
all_facts models = flat_map facts_in models
