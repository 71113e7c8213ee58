-- How much the bench holds.
use Rattle.std.specs.Prelude.{ℕ, ◌+◌, ◌*◌, List, length, Bool, ◌||◌, nat_lt, nat_le, ◌&&◌, ◌^◌}
use Rattle.std.specs.List.{sum_by, list_all}
use Rattle.text_values.specs.ModelValue.{Clause, Binding, Function, Checking, Flagging, Showing, Including}
use Rattle.bench_texts.specs.BenchTexts.{NumberedItem, PlainModel, BenchTexts}

-- the bound names of an item, or the check or flag that it is
abbrev pub clause_outputs : Clause → ℕ
clause_outputs (Binding recursive group) = length group
clause_outputs (Function name parameters body) = 0
clause_outputs (Checking check label) = 1
clause_outputs (Flagging check label) = 1
clause_outputs (Showing hidden shown) = 0
clause_outputs (Including path) = 0

abbrev pub items_outputs : List NumberedItem → ℕ
items_outputs items = sum_by (λ i. clause_outputs i.clause) items

-- of the models: with the outcome of a test under each
abbrev pub models_outputs : List PlainModel → ℕ
models_outputs models = sum_by (λ m. items_outputs m.items + 1) models

-- Over 512 tests, 16 models or 524,288 outputs: so many tests and models, and outputs of each test.
-- A test has one output for its executions, and those of the models.
abbrev pub are_over : ℕ → ℕ → ℕ → Bool
are_over tests models each = nat_lt 512 tests || nat_lt 16 models || nat_lt 524288 (tests * each)

abbrev pub is_full : BenchTexts → Bool
is_full t = are_over (length t.tests) (length t.models) (1 + models_outputs t.models)

-- 2^63 item numbers were given
abbrev pub is_spent : BenchTexts → Bool
is_spent t = nat_lt (2 ^ 63) t.next

-- a name that a model may have: 1 to 64 printable ASCII bytes, none of them a space
abbrev pub is_model_name : List ℕ → Bool
is_model_name name =
    nat_lt 0 (length name) && nat_le (length name) 64
    && list_all (λ b. nat_lt 32 b && nat_lt b 127) name
