-- The lines of files as a board shows them, and what a viewer knows of its texts. Read after Runs.
use Rattle.std.specs.Prelude.{◌≡◌, ◌≢◌, ℕ, Bool, List, [], map, length, Option, Some, None, Vec, Contains}
use Rattle.std.specs.declared.alloc.Global.{Global}
use Rattle.std.specs.List.{AllByRecursion as Each}
use Rattle.outcome_texts.specs.Cells.{Cell, Open}
use Rattle.bench_texts.specs.Held.{texts_of}
use Rattle.bench_texts.specs.declared.texts.Texts.{Texts}
use Rattle.board.specs.declared.operation.BoardOp.{BoardOp}
use Rattle.board.specs.Contents.{cell_named}
use Rattle.board.specs.Operations.{board_after}
use Rattle.board.specs.Legal.{IsLegal}
use Rattle.board.specs.Results.{ShowsRightCells}
use Rattle.board.specs.Edits.{edit_count}
use Rattle.desk_ledger.specs.Boards.{AreSettled}
use Rattle.bench_instance.specs.Cells.{board_cells}
use Rattle.session_views.specs.Knowing.{KnowsTexts}
use Rattle.watch_run.specs.Holding.{Holding}
use Rattle.watch_run.specs.Lines.{test_table, behind_line}
use Rattle.watch_run.specs.Edits.{holding_of}
use Rattle.watch_run.specs.Runs.{Standing}
use Rattle.watch_run.specs.declared.author.Counts.{Counts}
use Rattle.watch_run.specs.declared.watched.Watched.{Watched}
use Rattle.watch_run.specs.declared.answers.Run.{Run}

-- the cells of a test under these models on the board after these operations
abbrev pub shown_cells : List BoardOp → (name : List ℕ) → (models : List (List ℕ)) → List Cell
shown_cells ops name models = map (cell_named (board_after ops) name) models

-- each of them is settled, or there is none
abbrev pub AreCellsClosed : List BoardOp → (name : List ℕ) → (models : List (List ℕ)) → Type 0
AreCellsClosed ops name models = Each (λ m. cell_named (board_after ops) name m ≢ Open) models

-- one of them is open
abbrev pub HasOpenCell : List BoardOp → (name : List ℕ) → (models : List (List ℕ)) → Type 0
HasOpenCell ops name models =
    (m : List ℕ) × Contains models m × (cell_named (board_after ops) name m ≡ Open)

-- the line of a test on that board
abbrev pub shown_line : List BoardOp → (models : List (List ℕ)) → (name : List ℕ) → List ℕ
shown_line ops models name = behind_line (test_table models name (shown_cells ops name models))

-- the same of the test that a file holds
abbrev pub shown_line_of : List BoardOp → (models : List (List ℕ)) → Option (List ℕ) → List ℕ
shown_line_of ops models None = []
shown_line_of ops models (Some name) = shown_line ops models name

abbrev pub IsClosedBy : List BoardOp → (models : List (List ℕ)) → Option (List ℕ) → Type 0
IsClosedBy ops models None = Unit {0}
IsClosedBy ops models (Some name) = AreCellsClosed ops name models

abbrev pub IsOpenBy : List BoardOp → (models : List (List ℕ)) → Option (List ℕ) → Type 0
IsOpenBy ops models None = ⊥
IsOpenBy ops models (Some name) = HasOpenCell ops name models

-- the lines of all files on the board after these operations
abbrev pub shown_lines : List BoardOp → (models : List (List ℕ)) → List (Option (List ℕ))
    → List (List ℕ)
shown_lines ops models names = map (shown_line_of ops models) names

-- the line of one of the files has an open cell
abbrev pub HasOpenLine : List BoardOp → (models : List (List ℕ)) → List (Option (List ℕ)) → Type 0
HasOpenLine ops models names = (n : Option (List ℕ)) × Contains names n × IsOpenBy ops models n

-- These are the lines of the files on the board after these operations, whose cells are closed, and
-- right for its texts.
pub record AreBoardLines (ops : List BoardOp) (models : List (List ℕ))
    (names : List (Option (List ℕ))) (lines : List (List ℕ)) : Type 0 where
  pub are : lines ≡ shown_lines ops models names
  pub closed : Each (IsClosedBy ops models) names
  pub right : ShowsRightCells ops
  pub legal : IsLegal ops

-- So it is, and the board counts so many edits.
pub record AreOwnLines (ops : List BoardOp) (made : ℕ) (models : List (List ℕ))
    (names : List (Option (List ℕ))) (lines : List (List ℕ)) : Type 0 where
  pub shown : AreBoardLines ops models names lines
  pub counted : edit_count ops ≡ made

-- each cell of the board after these operations is settled, if there are fewer than 2 ^ 64
abbrev pub IsSettledWhole : List BoardOp → Type 0
IsSettledWhole ops = AreSettled (board_cells (board_after ops))

-- the lists in vectors
abbrev pub lists_of : List (Vec ℕ Global) → List (List ℕ)
lists_of lines = map (λ v. v.items) lines

-- how things stand with so many models, these texts and names, the lines that were last written,
-- whether a text was refused, and so many jobs
abbrev pub standing_of : (models : ℕ) → Texts → Vec (Option (List ℕ)) Global
    → Vec (Vec ℕ Global) Global → Bool → (jobs : ℕ) → Standing
standing_of models texts names lines refused jobs = record {
  models = models;
  held = holding_of texts names;
  lines = lists_of lines.items;
  refused = refused;
  jobs = jobs;
}

-- ---- an author with its texts, and a run

-- the author knows by what it saw, and by how many edits it counts, that these are its texts
abbrev pub KnowsItsTexts : {A : Type 0} → (seen : A → List BoardOp) → (counts : A → Counts)
    → Watched A → Type 0
KnowsItsTexts seen counts watched =
    KnowsTexts (seen watched.author) (counts watched.author).made (texts_of watched.texts)

-- no edit was made: the texts are the same, and so is what the author counts
pub record IsUnedited {A : Type 0} (counts : A → Counts) (old new : Watched A) : Type 0 where
  pub texts : texts_of new.texts ≡ texts_of old.texts
  pub counted : counts new.author ≡ counts old.author

-- what is held of its files
abbrev pub holding : {A : Type 0} → Watched A → Holding
holding watched = holding_of watched.texts watched.names

-- how things stand for a run, whose author counts its jobs
abbrev pub standing : {A : Type 0} → (counts : A → Counts) → Run A → Standing
standing counts run =
    standing_of (length run.paths.models.now) run.watched.texts run.watched.names run.lines
    run.is_refused (counts run.watched.author).jobs
