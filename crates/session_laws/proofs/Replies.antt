-- A question has one answer.
use Rattle.std.proofs.Common.{◌≡◌, ℕ, List, [], ◌∷◌, map, Option, Some, None, refl, sym, ap, ◌∙◌}
use Rattle.std.specs.List.{AllZip}
use Rattle.text_values.specs.TestValue.{Content}
use Rattle.outcome_states.specs.declared.answer.Outcome.{Outcome}
use Rattle.outcome_texts.specs.Cells.{Cell, NoCell, Open, Settled, cell_log, cell_counts}
use Rattle.outcome_texts.specs.Columns.{Row, table_of}
use Rattle.outcome_texts.specs.Differences.{differences_printed}
use Rattle.bench_texts.specs.BenchTexts.{BenchTexts, PlainModel}
use Rattle.session_edits.specs.Answer.{SessionAnswer, plain_answer}
use Rattle.session_edits.specs.declared.request.Question.{Question}
use Rattle.session_edits.specs.declared.request.Question.TheVariants as questions
use Rattle.session_answers.specs.Cells.{test_named, model_named, models_named, IsPlainCell, IsPlainRow}
use Rattle.session_answers.specs.Questions.{IsItemsReply, IsLogReply, IsCountsReply, ArePlainRows, IsTableReply, IsDifferenceReply}
use Rattle.session_answers.specs.Rows.{pair_in}
use Rattle.session_laws.specs.Laws.{HasOneReply}
use Rattle.session_laws.proofs.Models.{one_outcome_said}

-- ---- a cell, a row and all rows

one_cell : (test : Content) (model : PlainModel) (c d : Cell) → IsPlainCell test model c
    → IsPlainCell test model d → c ≡ d
one_cell test model NoCell d h g = absurd h
one_cell test model Open d h g = absurd h
one_cell test model (Settled o) NoCell h g = absurd g
one_cell test model (Settled o) Open h g = absurd g
one_cell test model (Settled o) (Settled p) h g = ap Settled (one_outcome_said test model o p h g)

-- lists of which each element is determined by another list
one_each : {A B : Type 0} (R : A → B → Type 0) → ((x : A) (y z : B) → R x y → R x z → y ≡ z)
    → (xs : List A) (ys zs : List B) → AllZip R xs ys → AllZip R xs zs → ys ≡ zs
one_each R one [] [] [] h g = refl
one_each R one [] [] (z ∷ zs) h g = absurd g
one_each R one [] (y ∷ ys) zs h g = absurd h
one_each R one (x ∷ xs) [] zs h g = absurd h
one_each R one (x ∷ xs) (y ∷ ys) [] h g = absurd g
one_each R one (x ∷ xs) (y ∷ ys) (z ∷ zs) h g =
    let first = one x y z h.0 g.0 in
    let rest = one_each R one xs ys zs h.1 g.1 in
    λ k. first k ∷ rest k

one_row : (models : List PlainModel) (test : Content) (r q : Row) → IsPlainRow models test r
    → IsPlainRow models test q → r ≡ q
one_row models test r q h g =
    let name : r.name ≡ q.name = h.name ∙ sym g.name in
    let cells : r.cells ≡ q.cells = one_each (IsPlainCell test) (one_cell test) models r.cells q.cells h.cells g.cells in
    λ k. record { name = name k; cells = cells k }

all_rows : (t : BenchTexts) (models : List PlainModel) (rs qs : List Row) → ArePlainRows t models rs
    → ArePlainRows t models qs → rs ≡ qs
all_rows t models rs qs h g = one_each (IsPlainRow models) (one_row models) t.tests rs qs h g

-- ---- answers

one_items : (model : Option PlainModel) (a b : SessionAnswer) → IsItemsReply model a → IsItemsReply model b → a ≡ b
one_items None a b h g = h ∙ sym g
one_items (Some m) a b h g = h ∙ sym g

one_log : (test : Option Content) (model : Option PlainModel) (a b : SessionAnswer) → IsLogReply test model a
    → IsLogReply test model b → a ≡ b
one_log None model a b h g = h ∙ sym g
one_log (Some t) None a b h g = h ∙ sym g
one_log (Some t) (Some m) a b h g =
    h.2 ∙ (ap (λ (o : Outcome). plain_answer (cell_log t.name (Settled o)))
    (one_outcome_said t m h.0 g.0 h.1 g.1) ∙ sym g.2)

one_counts : (test : Option Content) (model : Option PlainModel) (a b : SessionAnswer)
    → IsCountsReply test model a → IsCountsReply test model b → a ≡ b
one_counts None model a b h g = h ∙ sym g
one_counts (Some t) None a b h g = h ∙ sym g
one_counts (Some t) (Some m) a b h g =
    h.2 ∙ (ap (λ (o : Outcome). plain_answer (cell_counts (Settled o)))
    (one_outcome_said t m h.0 g.0 h.1 g.1) ∙ sym g.2)

one_table : (t : BenchTexts) (names : List (List ℕ)) (models : Option (List PlainModel))
    (a b : SessionAnswer) → IsTableReply t names models a → IsTableReply t names models b → a ≡ b
one_table t names None a b h g = h ∙ sym g
one_table t names (Some ms) a b h g =
    h.2 ∙ (ap (λ (rows : List Row). plain_answer (table_of names rows)) (all_rows t ms h.0 g.0 h.1 g.1) ∙
    sym g.2)

one_difference : (t : BenchTexts) (models : Option (List PlainModel)) (a b : SessionAnswer)
    → IsDifferenceReply t models a → IsDifferenceReply t models b → a ≡ b
one_difference t None a b h g = h ∙ sym g
one_difference t (Some ms) a b h g =
    h.2 ∙ (ap (λ (rows : List Row). plain_answer (differences_printed (map pair_in rows)))
    (all_rows t ms h.0 g.0 h.1 g.1) ∙ sym g.2)

pub one_reply : (t : BenchTexts) (question : Question) → HasOneReply t question
one_reply t (questions.Items model) a b h g = one_items (model_named t model) a b h g
one_reply t (questions.Show test model) a b h g =
    one_log (test_named t test) (model_named t model) a b h g
one_reply t (questions.Counts test model) a b h g =
    one_counts (test_named t test) (model_named t model) a b h g
one_reply t (questions.Table names) a b h g = one_table t names (models_named t names) a b h g
one_reply t (questions.Difference first second) a b h g =
    one_difference t (models_named t (first ∷ second ∷ [])) a b h g
