-- Tables and differences of the same files are one.
use Rattle.std.proofs.Common.{◌≡◌, ℕ, List, [], ◌∷◌, map, refl, sym, ap, ◌∙◌}
use Rattle.std.proofs.lemmas.Simd.{map-map}
use Rattle.std.specs.List.{AllZip}
use Rattle.outcome_texts.specs.Cells.{Cell, NoCell, Open, Settled}
use Rattle.outcome_texts.specs.Columns.{Row, table_of}
use Rattle.outcome_texts.specs.Differences.{differences_printed}
use Rattle.command_answers.specs.declared.file.TextFile.{TextFile}
use Rattle.command_answers.specs.declared.reading.NamedModel.{NamedModel}
use Rattle.command_answers.specs.Reports.{IsCellUnder, IsReportRow, AreFilesRead, model_names, IsTableReport, difference_under, IsDifferenceReport}
use Rattle.session_answers.specs.Rows.{pair_in}
use Rattle.text_values.specs.declared.test.Test.{Test}
use Rattle.text_values.specs.ModelValue.{Clause}
use Rattle.text_values.specs.TestValue.{Content, content_of}
use Rattle.session_laws.specs.Answers.{AreSameFiles, HasOneReport}
use Rattle.session_laws.proofs.Lists.{one_by_images}
use Rattle.session_laws.proofs.Models.{one_outcome_alike}
use Rattle.session_laws.proofs.ReadFiles.{said_of, AreModelsAlike, AreTestsAlike, all_models, all_tests}

-- ---- cells and rows

one_cell : (test other : Test) → content_of test ≡ content_of other → (m n : NamedModel)
    (c d : Cell) → said_of m ≡ said_of n → IsCellUnder test m c → IsCellUnder other n d → c ≡ d
one_cell test other same m n NoCell d e h g = absurd h
one_cell test other same m n Open d e h g = absurd h
one_cell test other same m n (Settled o) NoCell e h g = absurd g
one_cell test other same m n (Settled o) Open e h g = absurd g
one_cell test other same m n (Settled o) (Settled p) e h g =
    ap Settled (one_outcome_alike test other m.model n.model same
    (ap (λ (x : List ℕ × List Clause). x.1) e) o p h g)

one_cells : (models others : List NamedModel) → map said_of models ≡ map said_of others
    → (test other : Test) (cells also : List Cell) → content_of test ≡ content_of other
    → AllZip (IsCellUnder test) models cells → AllZip (IsCellUnder other) others also
    → cells ≡ also
one_cells models others e test other cells also same h g =
    one_by_images said_of (IsCellUnder test) (IsCellUnder other) (one_cell test other same) models
    others cells also e h g

one_row : (models others : List NamedModel) → map said_of models ≡ map said_of others
    → (test other : Test) (r q : Row) → content_of test ≡ content_of other → IsReportRow models test r
    → IsReportRow others other q → r ≡ q
one_row models others e test other r q same h g =
    let name : r.name ≡ q.name = h.name ∙ ap (λ (c : Content). c.name) same ∙ sym g.name in
    let cells = one_cells models others e test other r.cells q.cells same h.cells g.cells in
    λ k. record { name = name k; cells = cells k }

-- ---- what the files hold

record AreReadAlike (models others : List NamedModel) (rows also : List Row)
    (faults lines : List ℕ) : Type 0 where
  said : map said_of models ≡ map said_of others
  one_rows : rows ≡ also
  told : faults ≡ lines

module _ {models same_models tests same_tests : List TextFile} {known others : List NamedModel}
    {rows also : List Row} {faults lines : List ℕ} (same : AreSameFiles models same_models)
    (alike : AreSameFiles tests same_tests) (h : AreFilesRead models tests known rows faults)
    (g : AreFilesRead same_models same_tests others also lines) where
  of_models : AreModelsAlike known others h.model_faults g.model_faults
  of_models =
      all_models models known h.model_faults h.models_read same_models others g.model_faults
      g.models_read same

  of_tests : AreTestsAlike h.tests g.tests faults lines
  of_tests =
      all_tests h.model_faults g.model_faults of_models.told tests h.tests faults h.tests_read
      same_tests g.tests lines g.tests_read alike

  one_reading : AreReadAlike known others rows also faults lines
  one_reading = record {
    said = of_models.said;
    one_rows =
        one_by_images content_of (IsReportRow known) (IsReportRow others) (one_row known others of_models.said)
        h.tests g.tests rows also of_tests.said h.rows_said g.rows_said;
    told = of_tests.told;
  }

-- ---- tables

one_names : (models others : List NamedModel) → map said_of models ≡ map said_of others
    → model_names models ≡ model_names others
one_names models others e =
    sym (map-map (λ (x : List ℕ × List Clause). x.0) said_of models)
    ∙ (ap (map (λ (x : List ℕ × List Clause). x.0)) e
    ∙ map-map (λ (x : List ℕ × List Clause). x.0) said_of others)

pub one_table : HasOneReport IsTableReport
one_table models same_models tests same_tests text other faults lines same alike h g =
    let read = one_reading same alike h.read g.read in
    let names = one_names h.models g.models read.said in
    (h.text_is ∙ (λ i. table_of (names i) (read.one_rows i)) ∙ sym g.text_is, read.told)

-- ---- differences

-- what differs, from what the models say
abbrev difference_by : List (List ℕ × List Clause) → List Row → List ℕ
difference_by [] rows = []
difference_by (m ∷ []) rows = []
difference_by (m ∷ n ∷ []) rows = differences_printed (map pair_in rows)
difference_by (m ∷ n ∷ o ∷ ms) rows = []

same_difference : (models : List NamedModel) (rows : List Row)
    → difference_under models rows ≡ difference_by (map said_of models) rows
same_difference [] rows = refl
same_difference (m ∷ []) rows = refl
same_difference (m ∷ n ∷ []) rows = refl
same_difference (m ∷ n ∷ o ∷ ms) rows = refl

pub one_difference : HasOneReport IsDifferenceReport
one_difference models same_models tests same_tests text other faults lines same alike h g =
    let read = one_reading same alike h.read g.read in
    let here = h.text_is ∙ same_difference h.models h.rows in
    let there = g.text_is ∙ same_difference g.models g.rows in
    (here ∙ (λ i. difference_by (read.said i) (read.one_rows i)) ∙ sym there, read.told)
