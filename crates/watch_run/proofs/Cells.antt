-- The lines that a board shows are right for the texts that it shows.
use Rattle.std.proofs.Common.{◌≡◌, ◌⊎◌, ℕ, ◌<◌, ◌≤◌, ◌-◌, ◌^◌, min, suc, false, map, List, [], ◌∷◌, ◌++◌, length, Option, Some, None, Result, Ok, Err, IfOk, IfSome, refl, sym, ap, subst, ◌∙◌, inl, inr, arith}
use Rattle.std.proofs.lemmas.Bool.{cases_lt}
use Rattle.std.specs.Prelude.{◌≢◌, slice_get, option_map, bytes_eq, Vec}
use Rattle.std.specs.Borrow.{Bor}
use Rattle.std.specs.List.{AllByRecursion as Each, AllZip}
use Rattle.std.specs.declared.alloc.AllocError.{AllocError}
use Rattle.std.specs.declared.alloc.Global.{Global}
use mathlib.Core.List.{IsPrefix}
use Rattle.text_values.specs.TestValue.{Content, content_of}
use Rattle.outcome_texts.specs.Cells.{Cell, NoCell, Open, Settled}
use Rattle.bench_texts.specs.BenchTexts.{BenchTexts, PlainModel, test_index, model_index, no_texts}
use Rattle.bench_texts.specs.Held.{plain_model, texts_of}
use Rattle.bench_texts.specs.declared.texts.Texts.{Texts}
use Rattle.board.specs.declared.operation.BoardOp.{BoardOp}
use Rattle.board.specs.Contents.{cell_named}
use Rattle.board.specs.Operations.{board_after}
use Rattle.board.specs.Legal.{IsLegal, texts_after}
use Rattle.board.specs.Edits.{edits_in, edit_count}
use Rattle.board.specs.Histories.{contents_after}
use Rattle.board.specs.Results as board
use Rattle.board.specs.Results.{IsRightCell, ShowsRightCells}
use Rattle.board.proofs.Histories.{contents_are_those}
use Rattle.session_answers.specs.Cells.{test_named, model_named}
use Rattle.session_answers.proofs.Named.{clauses_of-items}
use Rattle.session_views.proofs.Counts.{knows_later, knows_nothing}
use Rattle.session_views.specs.Knowing.{KnowsOwn, KnowsTexts}
use Rattle.watch_run.specs.declared.author.Counts.{Counts}
use Rattle.watch_run.specs.Counts.{no_counts}
use Rattle.watch_run.specs.Holding.{no_names}
use Rattle.watch_run.specs.Lines.{IsTestCell, AreLinesOf}
use Rattle.watch_run.specs.Boards.{shown_cells, AreCellsClosed, shown_lines, IsClosedBy, AreOwnLines, lists_of, standing_of}
use Rattle.watch_run.specs.Runs.{at_first}
use Rattle.watch_run.proofs.Lists.{found_mapped}

test_there : (ops : List BoardOp) (t : BenchTexts) → contents_after ops ≡ t → (name : List ℕ)
    → test_named t name ≡ option_map content_of (board.test_by_name (texts_after ops) name)
test_there ops t same name =
    let plain = contents_are_those ops in
    ap (λ (x : BenchTexts). slice_get x.tests (test_index name x.tests)) (sym same)
    ∙ ap (λ (l : List Content). slice_get l (test_index name l)) plain.tests
    ∙ found_mapped content_of (λ c. bytes_eq c.name name) (texts_after ops).tests

model_there : (ops : List BoardOp) (t : BenchTexts) → contents_after ops ≡ t → (name : List ℕ)
    → model_named t name ≡ option_map plain_model (board.model_by_name (texts_after ops) name)
model_there ops t same name =
    let plain = contents_are_those ops in
    ap (λ (x : BenchTexts). slice_get x.models (model_index name x.models)) (sym same)
    ∙ ap (λ (l : List PlainModel). slice_get l (model_index name l)) plain.models
    ∙ found_mapped plain_model (λ m. bytes_eq m.name name) (texts_after ops).models

cell_right : (ops : List BoardOp) (t : BenchTexts) → contents_after ops ≡ t
    → (name under : List ℕ) (cell : Cell)
    → cell ≢ Open → IsRightCell (texts_after ops) name under cell → IsTestCell t name under cell
cell_right ops t same name under NoCell closed lacks = elim lacks [
  | inl none ↦ inl (test_there ops t same name ∙ ap (λ o. option_map content_of o) none)
  | inr none ↦ inr (model_there ops t same under ∙ ap (λ o. option_map plain_model o) none)
]
cell_right ops t same name under Open closed both = absurd (closed refl)
cell_right ops t same name under (Settled outcome) closed r =
    let long : length r.under.numbers.items ≡ length r.under.text.items.items = omega (arith, r.under.paired, r.under.numbers.ok.0, r.under.text.items.ok.0) in
    record {
      test = content_of r.content;
      model = plain_model r.under;
      test_is = test_there ops t same name ∙ ap (λ o. option_map content_of o) r.test_is;
      model_is = model_there ops t same under ∙ ap (λ o. option_map plain_model o) r.model_is;
      right = record {
        test = r.content;
        model = r.under.text;
        test_is = refl;
        model_is = clauses_of-items r.under.numbers.items r.under.text.items.items long;
        said = r.right;
      };
    }

cells_right : (ops : List BoardOp) (t : BenchTexts) → contents_after ops ≡ t → ShowsRightCells ops
    → (name : List ℕ) (models : List (List ℕ)) → AreCellsClosed ops name models
    → AllZip (IsTestCell t name) models (shown_cells ops name models)
cells_right ops t same right name [] closed = tt
cells_right ops t same right name (under ∷ models) closed = (
  cell_right ops t same name under (cell_named (board_after ops) name under) closed.0
      (right name under),
  cells_right ops t same right name models closed.1,
)

lines_right : (ops : List BoardOp) (t : BenchTexts) → contents_after ops ≡ t → ShowsRightCells ops
    → (models : List (List ℕ)) (names : List (Option (List ℕ)))
    → Each (IsClosedBy ops models) names → AreLinesOf models t names (shown_lines ops models names)
lines_right ops t same right models [] closed = tt
lines_right ops t same right models (None ∷ names) closed =
    (refl, lines_right ops t same right models names closed.1)
lines_right ops t same right models (Some name ∷ names) closed = (
  record {
    cells = shown_cells ops name models;
    right = cells_right ops t same right name models closed.0;
    is = refl;
  },
  lines_right ops t same right models names closed.1,
)

-- the viewer goes on from what it saw
knows_on : (seen later : List BoardOp) (made : ℕ) (t : BenchTexts) → IsPrefix seen later
    → KnowsTexts seen made t → KnowsTexts later made t
knows_on seen later made t more knows = (knows.0, knows_later seen later made t more knows.1)

-- and counts what it counted
pub knows_still : (seen later : List BoardOp) (old new : Counts) (t : BenchTexts)
    → IsPrefix seen later → new ≡ old → KnowsTexts seen old.made t → KnowsTexts later new.made t
knows_still seen later old new t more same knows =
    subst (λ (k : Counts). KnowsTexts later k.made t) (sym same)
    (knows_on seen later old.made t more knows)

append_none : (ops : List BoardOp) → ops ++ [] ≡ ops
append_none [] = refl
append_none (op ∷ ops) = ap (λ (l : List BoardOp). op ∷ l) (append_none ops)

-- a count that stops at the greatest number is right below it
all_counted : (n made : ℕ) → (2 ^ 64 - 1 < n) ⊎ (n ≤ 2 ^ 64 - 1) → min n (2 ^ 64 - 1) ≡ made
    → made < 2 ^ 64 - 1 → n ≡ made
all_counted n made (inl more) e lt = absurd (omega (arith, more, e, lt))
all_counted n made (inr few) e lt = omega (arith, few, e, lt)

-- who has seen and counted nothing knows that there are no texts
pub knows_start : (seen : List BoardOp) (counts : Counts) (t : BenchTexts) → seen ≡ []
    → counts ≡ no_counts → t ≡ no_texts → KnowsTexts seen counts.made t
knows_start seen counts t nothing none_made none =
    let knows = subst (λ (l : List BoardOp). KnowsOwn l 0 t) (sym nothing) (subst (λ (x : BenchTexts). KnowsOwn [] 0 x) (sym none) knows_nothing) in
    let below : 0 < 2 ^ 64 - 1 = omega arith in
    subst (λ (k : Counts). KnowsTexts seen k.made t) (sym none_made) (below, knows)

as_many : (tests : List (Bor (List ℕ))) → length (map (λ t. t.now) tests) ≡ length tests
as_many [] = refl
as_many (t ∷ tests) = ap suc (as_many tests)

-- nothing is held at the start, no line was written, no text refused, and no job done
pub stands_first : (texts : Texts) (names : Vec (Option (List ℕ)) Global)
    (lines : Vec (Vec ℕ Global) Global) (counts : Counts) (models tests : List (Bor (List ℕ)))
    (count : ℕ)
    → texts_of texts ≡ no_texts → names.items ≡ no_names count → count ≡ length tests
    → lines.items ≡ [] → counts ≡ no_counts
    → standing_of (length models) texts names lines false counts.jobs
    ≡ at_first (length (map (λ m. m.now) models)) (length (map (λ t. t.now) tests))
    (lists_of lines.items)
stands_first texts names lines counts models tests count none empty long first none_done =
    let named : names.items ≡ no_names (length (map (λ t. t.now) tests)) = empty ∙ ap no_names (long ∙ sym (as_many tests)) in
    ap (λ (k : Counts). standing_of (length models) texts names lines false k.jobs) none_done
    ∙ ap
    (λ (t : BenchTexts). record {
      models = length models;
      held = record { texts = t; names = names.items };
      lines = lists_of lines.items;
      refused = false;
      jobs = 0;
    }) none
    ∙ ap
    (λ (l : List (Option (List ℕ))). record {
      models = length models;
      held = record { texts = no_texts; names = l };
      lines = lists_of lines.items;
      refused = false;
      jobs = 0;
    }) named
    ∙ ap
    (λ (n : ℕ). at_first n (length (map (λ t. t.now) tests)) (lists_of lines.items))
    (sym (as_many models))

-- lines of a board that counts no edits but the own are those of the own texts
pub own_lines : (ops : List BoardOp) (made : ℕ) (t : BenchTexts) (models : List (List ℕ))
    (names : List (Option (List ℕ))) (lines : List (List ℕ))
    → KnowsTexts ops made t → AreOwnLines ops made models names lines
    → AreLinesOf models t names lines
own_lines ops made t models names lines knows own =
    let none : ops ++ [] ≡ ops = append_none ops in
    let count : edits_in ops ≡ made = all_counted (edits_in ops) made (cases_lt (2 ^ 64 - 1) (edits_in ops)) own.counted knows.0 in
    let texts : contents_after ops ≡ t = ap contents_after (sym none) ∙ knows.1.alone [] (ap edits_in none ∙ count) in
    subst (λ (l : List (List ℕ)). AreLinesOf models t names l) (sym own.shown.are)
    (lines_right ops t texts own.shown.right models names own.shown.closed)

-- so it is where there are lines
pub lines_of_own : (ops : List BoardOp) (made : ℕ) (t : BenchTexts) (models : List (List ℕ))
    (names : List (Option (List ℕ))) (r : Result (Option (Vec (Vec ℕ Global) Global)) AllocError)
    → KnowsTexts ops made t
    → IfOk r (λ o. IfSome o (λ v. AreOwnLines ops made models names (lists_of v.items)))
    → IfOk r (λ o. IfSome o (λ v. AreLinesOf models t names (lists_of v.items)))
lines_of_own ops made t models names (Ok (Some v)) knows own =
    own_lines ops made t models names (lists_of v.items) knows own
lines_of_own ops made t models names (Ok None) knows own = tt
lines_of_own ops made t models names (Err fault) knows own = tt

-- lines that are those of a view
pub view_lines : (ops view : List BoardOp) (made : ℕ) (models : List (List ℕ))
    (names : List (Option (List ℕ))) (r : Result (Option (Vec (Vec ℕ Global) Global)) AllocError)
    → ops ≡ view → ShowsRightCells view → IsLegal view → edit_count view ≡ made
    → IfOk r (λ o. IfSome o (λ v. lists_of v.items ≡ shown_lines view models names))
    → IfOk r (λ o. IfSome o (λ v. Each (IsClosedBy view models) names))
    → IfOk r (λ o. IfSome o (λ v. AreOwnLines ops made models names (lists_of v.items)))
view_lines ops view made models names (Ok (Some v)) same right legal counted lines closed =
    subst (λ (l : List BoardOp). AreOwnLines l made models names (lists_of v.items)) (sym same)
    (record {
      shown = record { are = lines; closed = closed; right = right; legal = legal };
      counted = counted;
    })
view_lines ops view made models names (Ok None) same right legal counted lines closed = tt
view_lines ops view made models names (Err fault) same right legal counted lines closed = tt
