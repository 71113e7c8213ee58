-- Tests, as they are read.
use Rattle.std.proofs.Common.{◌≤◌, ◌≡◌, ℕ, ◌+◌, ◌<◌, true, false, List, [], ◌∷◌, ◌++◌, length, refl, sym, ap, ◌∙◌, subst, arith, append_assoc}
use Rattle.std.specs.Prelude.{◌==◌, map, slice_index, codes, Option, None}
use Rattle.litmus_tokens.specs.declared.stage.Stage.TheVariants.{Magic, Header, CellBegins, Tail}
use Rattle.litmus_tokens.specs.declared.token.Token.{Token}
use Rattle.litmus_tokens.specs.declared.token.Token.TheVariants as tokens
use Rattle.litmus_tokens.specs.declared.token.Mark.TheVariants as marks
use Rattle.litmus_tokens.specs.Lexer.{first_lexeme}
use Rattle.litmus_tokens.specs.Texts.{test_tokens_of, test_lexing, tokens_from}
use Rattle.text_values.specs.declared.test.Place.{Place}
use Rattle.text_values.specs.declared.test.InitEntry.{InitEntry}
use Rattle.text_values.specs.declared.test.Step.{Step}
use Rattle.text_values.specs.declared.test.Quantifier.{Quantifier}
use Rattle.text_values.specs.declared.test.Quantifier.TheVariants.{Exists, NotExists, Forall}
use Rattle.text_values.specs.TestValue.{Formula, Content}
use Rattle.litmus_tokens.specs.Conditions as conditions
use Rattle.litmus_tokens.specs.Conditions.{Limits, condition_limits, Group, place_meaning, spelled_place, spelled, spelled_quantifier}
use Rattle.litmus_table.specs.Grammar.{spelled_header, spelled_rows}
use Rattle.litmus_table.specs.Late.{Late, or_else, late_columns}
use Rattle.litmus_grammar.specs.Grammar as grammar
use Rattle.litmus_grammar.specs.Grammar.{members, spelled_others, spelled_listed, spelled_entry, spelled_observed, spelled_condition, spelled_test, TestTree, ArePlaceTrees, test_meaning, entry_meaning}
use Rattle.litmus_grammar.specs.Texts.{ReadsTest, late_entries, late_test, before_entries, before_rows}
use Rattle.litmus_printing.specs.Printing.{line, all_of, entry_line, place_text, item_text, observed_text, formula_text, condition_text, names, row_text, rows_text, table_text, longest, printed}
use Rattle.text_values.specs.Joined.{joined}
use Rattle.litmus_laws.specs.Written.{ArePlaces, IsFormula, AreThreads, IsTest, IsTextOfTest, nesting, joins, IsFormulaWithinLimits}
use Rattle.litmus_laws.proofs.Read.{Condition, read, free, inner}
use Rattle.litmus_laws.proofs.Numbers.{word}
use Rattle.litmus_laws.proofs.Places.{open_square, close_square, place_tree, square_place, place_back, place_fine, place_there}
use Rattle.litmus_laws.proofs.Conditions.{is_word, blank, line_end, no_bytes, tree_of, first_byte, group_back, condition_back, meaning_back, enough, fine}
use Rattle.litmus_laws.proofs.Instructions.{NoColon, cell_word}
use Rattle.litmus_laws.proofs.Rows.{AreAllSteps, rows_of, rows_back, rows_fine, rows_mean, row_parts}
use Rattle.litmus_laws.proofs.Labels.{AreAllLabelled, table_in_time}
use Rattle.litmus_laws.proofs.Entries.{listed, members_listed, semicolon, entry_tree, entries_back, entries_mean, entries_fine, entries_in_time, block_ends, names_back}
use Rattle.litmus_laws.proofs.Head.{head_back}
use Rattle.text_laws.proofs.Runs.{other}

-- ---- behind the table

cell_tilde : (bs : List ℕ)
    → read CellBegins (126 ∷ bs) ≡ tokens.Mark marks.Tilde ∷ inner Condition bs
unfolding tokens_from first_lexeme
cell_tilde bs = ap (λ (ts : List Token). tokens.Mark marks.Tilde ∷ ts) (free Tail _ 0 1 bs refl)

module _ (threads : ℕ) (few : threads < 18446744073709551616) where
  group_first : (f : Formula) (bs : List ℕ) → IsFormula threads f
      → NoColon (40 ∷ ((formula_text f ++ 41 ∷ []) ++ bs))
  group_first f bs h = record {
    no_space = refl;
    no_comment =
        ap (λ (l : List ℕ). slice_index l 0 == 42) (append_assoc (formula_text f) (41 ∷ []) bs)
        ∙ other (slice_index (formula_text f ++ 41 ∷ bs) 0) 42
        (first_byte threads few f (41 ∷ bs) h);
    no_colon = λ e. absurd (omega arith);
  }

  cell_condition : (q : Quantifier) (f : Formula) (bs : List ℕ) → IsFormula threads f
      → read CellBegins (condition_text q f ++ bs)
      ≡ spelled_quantifier q (spelled (Group (tree_of f)) (inner Condition bs))
  cell_condition Exists f bs h =
      cell_word (codes "exists") (40 ∷ ((formula_text f ++ 41 ∷ []) ++ bs))
      (is_word (codes "exists") refl refl) (group_first f bs h)
      ∙ ap (λ (ts : List Token). tokens.Word (codes "exists") ∷ ts) (group_back threads few f bs h)
  cell_condition NotExists f bs h =
      cell_tilde (codes "exists" ++ (32 ∷ 40 ∷ ((formula_text f ++ 41 ∷ []) ++ bs)))
      ∙ ap (λ (ts : List Token). tokens.Mark marks.Tilde ∷ ts) (word Condition (codes "exists")
      (32 ∷ 40 ∷ ((formula_text f ++ 41 ∷ []) ++ bs)) (is_word (codes "exists") refl refl) refl
      ∙ ap (λ (ts : List Token). tokens.Word (codes "exists") ∷ ts) (group_back threads few f bs h))
  cell_condition Forall f bs h =
      cell_word (codes "forall") (40 ∷ ((formula_text f ++ 41 ∷ []) ++ bs))
      (is_word (codes "forall") refl refl) (group_first f bs h)
      ∙ ap (λ (ts : List Token). tokens.Word (codes "forall") ∷ ts) (group_back threads few f bs h)

  items_back : (p : Place) (ps : List Place) (bs : List ℕ) → ArePlaces threads (p ∷ ps)
      → inner Condition (joined (codes " ") (map item_text (p ∷ ps)) ++ bs)
      ≡ spelled_place (place_tree true p) (spelled_others spelled_place true
      (map (place_tree true) ps) (inner Condition bs))
  items_back p [] bs h =
      ap (inner Condition) (append_assoc (place_text p) (59 ∷ []) bs)
      ∙ square_place threads few p (59 ∷ bs) h.0 refl
      ∙ ap (spelled_place (place_tree true p)) (semicolon bs)
  items_back p (q ∷ qs) bs h =
      let J = joined (codes " ") (map item_text (q ∷ qs)) in
      ap (inner Condition) (append_assoc (item_text p) (32 ∷ J) bs
      ∙ append_assoc (place_text p) (59 ∷ []) (32 ∷ (J ++ bs)))
      ∙ square_place threads few p (59 ∷ 32 ∷ (J ++ bs)) h.0 refl
      ∙ ap (spelled_place (place_tree true p)) (semicolon (32 ∷ (J ++ bs))
      ∙ ap (λ (ts : List Token). tokens.Mark marks.Semicolon ∷ ts)
      (blank Condition (J ++ bs) ∙ items_back q qs bs h.1))

  items_fine : (ps : List Place) → ArePlaces threads ps
      → ArePlaceTrees threads (map (place_tree true) ps)
  items_fine [] h = tt
  items_fine (p ∷ ps) h =
      (place_fine threads few true p h.0, place_there threads few true p h.0, items_fine ps h.1)

  items_mean : (ps : List Place) → ArePlaces threads ps
      → map place_meaning (map (place_tree true) ps) ≡ ps
  items_mean [] h = refl
  items_mean (p ∷ ps) h =
      ap (λ (x : Place). x ∷ map place_meaning (map (place_tree true) ps))
      (place_back threads few true p h.0)
      ∙ ap (λ (xs : List Place). p ∷ xs) (items_mean ps h.1)

  last_line : (q : Quantifier) (f : Formula)
      → spelled_quantifier q (spelled (Group (tree_of f)) (inner Condition (10 ∷ [])))
      ≡ spelled_condition q (Group (tree_of f))
  last_line q f =
      ap (λ (ts : List Token). spelled_quantifier q (spelled (Group (tree_of f)) ts))
      (line_end Condition [] ∙ no_bytes)

  tail_back : (ps : List Place) (q : Quantifier) (f : Formula) → ArePlaces threads ps
      → IsFormula threads f
      → read CellBegins (observed_text ps ++ line (condition_text q f))
      ≡ spelled_observed (listed (map (place_tree true) ps))
      (spelled_condition q (Group (tree_of f)))
  tail_back [] q f h c = cell_condition q f (10 ∷ []) c ∙ last_line q f
  tail_back (p ∷ ps) q f h c =
      let J = joined (codes " ") (map item_text (p ∷ ps)) in
      let C = line (condition_text q f) in
      ap (λ (l : List ℕ). read CellBegins (codes "locations [" ++ l)) (append_assoc (J ++ 93 ∷ [])
      (10 ∷ []) C ∙ append_assoc J (93 ∷ []) (10 ∷ C))
      ∙ cell_word (codes "locations") (91 ∷ (J ++ 93 ∷ 10 ∷ C))
      (is_word (codes "locations") refl refl) (record {
        no_space = refl;
        no_comment = refl;
        no_colon = λ e. absurd (omega arith);
      })
      ∙ ap (λ (ts : List Token). tokens.Word (codes "locations") ∷ ts) (blank Condition
      (91 ∷ (J ++ 93 ∷ 10 ∷ C)) ∙ open_square (J ++ 93 ∷ 10 ∷ C)
      ∙ ap (λ (ts : List Token). tokens.Mark marks.OpenBracket ∷ ts) (items_back p ps (93 ∷ 10 ∷ C)
      h
      ∙ ap
      (λ (ts : List Token). spelled_place (place_tree true p) (spelled_others spelled_place true
      (map (place_tree true) ps) ts)) (close_square
      (10 ∷ C)
      ∙ ap (λ (ts : List Token). tokens.Mark marks.CloseBracket ∷ ts) (line_end Condition C
      ∙ condition_back threads few q f (10 ∷ []) c ∙ last_line q f))))

-- ---- the whole

all_steps : (ts : List (List Step)) → AreThreads ts → AreAllSteps ts
all_steps [] h = tt
all_steps (t ∷ ts) h = (h.0, all_steps ts h.2)

all_labelled : (ts : List (List Step)) → AreThreads ts → AreAllLabelled ts
all_labelled [] h = tt
all_labelled (t ∷ ts) h = (h.1, all_labelled ts h.2)

abbrev content : List ℕ → List InitEntry → List (List Step) → List Place → Quantifier → Formula
    → Content
content n es ts ps q f =
    record { name = n; init = es; threads = ts; observed = ps; quantifier = q; condition = f }

module _ (n : List ℕ) (es : List InitEntry) (t : List Step) (ts : List (List Step))
    (ps : List Place) (q : Quantifier) (f : Formula) (h : IsTest (content n es (t ∷ ts) ps q f))
  where
    few : length (t ∷ ts) < 18446744073709551616
    few = let x = h.few in omega arith

    steps : AreAllSteps (t ∷ ts)
    steps = all_steps (t ∷ ts) h.threads

    abbrev tree : TestTree
    tree = record {
      name = n;
      text = false;
      keylines = 0;
      init = listed (map entry_tree es);
      others = length ts;
      rows = rows_of t ts steps 0 (longest (t ∷ ts));
      observed = listed (map (place_tree true) ps);
      quantifier = q;
      condition = Group (tree_of f);
    }

    table_back : (bs : List ℕ)
        → read (Header 8) (table_text (t ∷ ts) ++ bs)
        ≡ spelled_header (length ts) (spelled_rows (rows_of t ts steps 0 (longest (t ∷ ts)))
        (read CellBegins bs))
    table_back bs =
        let R = rows_text 0 (longest (t ∷ ts)) (t ∷ ts) in
        let N = names 0 (length (t ∷ ts)) in
        let x = h.few in
        ap (read (Header 8)) (append_assoc (row_text N) R bs ∙ row_parts N (R ++ bs))
        ∙ names_back (length ts) 0 8 (R ++ bs) (omega arith) (omega arith)
        ∙ ap (spelled_header (length ts)) (rows_back t ts steps 0 (longest (t ∷ ts)) bs)

    bytes_are : printed (content n es (t ∷ ts) ps q f)
        ≡ codes "PPC " ++ (n
        ++ 10 ∷ 123 ∷ 10 ∷ (all_of (map entry_line es)
        ++ 125 ∷ 10
        ∷ (table_text (t ∷ ts) ++ (observed_text ps ++ line (condition_text q f)))))
    bytes_are =
        ap (λ (l : List ℕ). codes "PPC " ++ l) (append_assoc n (10 ∷ []) (123 ∷ 10 ∷ (all_of
        (map entry_line es)
        ++ 125 ∷ 10 ∷ (table_text (t ∷ ts)
        ++ (observed_text ps ++ line (condition_text q f))))))

    tokens_are : test_tokens_of (test_lexing Magic (printed (content n es (t ∷ ts) ps q f)))
        ≡ spelled_test tree
    tokens_are =
        let O = observed_text ps ++ line (condition_text q f) in
        let T = table_text (t ∷ ts) ++ O in
        ap (λ (l : List ℕ). test_tokens_of (test_lexing Magic l)) bytes_are
        ∙ head_back n (all_of (map entry_line es) ++ 125 ∷ 10 ∷ T) h.name h.no_comment
        ∙ ap
        (λ (us : List Token). tokens.Word (codes "PPC") ∷ tokens.Word n ∷ tokens.LineEnd
        ∷ tokens.Mark marks.OpenBrace ∷ us) (entries_back
        (length (t ∷ ts)) few es
        (125 ∷ 10 ∷ T) [] h.init
        ∙ ap (spelled_listed spelled_entry (listed (map entry_tree es))) (block_ends T
        ∙ ap (λ (us : List Token). tokens.Mark marks.CloseBrace ∷ us) (table_back O
        ∙ ap
        (λ (us : List Token). spelled_header (length ts)
        (spelled_rows (rows_of t ts steps 0 (longest (t ∷ ts))) us))
        (tail_back (length (t ∷ ts)) few ps q f h.observed h.condition))))

    count : length (t ∷ ts) ≡ length ts + 1
    count = omega arith

    tree_fine : (most : Limits) → nesting f + 1 ≤ most.nesting → joins f ≤ most.operators
        → grammar.IsTestTree most tree
    tree_fine most deep many = record {
      name = h.name;
      init =
          subst (grammar.AreEntryTrees []) (sym (members_listed (map entry_tree es)))
          (entries_fine (length (t ∷ ts)) few es [] tt h.init);
      rows = rows_fine t ts steps 0 (longest (t ∷ ts));
      observed =
          subst (ArePlaceTrees (length ts + 1)) (sym (members_listed (map (place_tree true) ps)))
          (subst (λ (k : ℕ). ArePlaceTrees k (map (place_tree true) ps)) count
          (items_fine (length (t ∷ ts)) few ps h.observed));
      condition =
          subst (λ (k : ℕ). conditions.IsFormulaTree most k (Group (tree_of f))) count
          (fine (length (t ∷ ts)) few most f h.condition deep many);
    }

    tree_in_time : late_test tree ≡ None
    tree_in_time =
        let first : late_entries (length ts + 1) (before_entries tree) (members (listed (map entry_tree es))) ≡ None =
        ap (late_entries (length ts + 1) (before_entries tree)) (members_listed (map entry_tree es))
        ∙ ap (λ (k : ℕ). late_entries k (before_entries tree) (map entry_tree es)) (sym count)
        ∙ entries_in_time (length (t ∷ ts)) few es [] (before_entries tree) h.init in
        ap
        (λ (o : Option Late).
        or_else o (late_columns 0 (length ts + 1) (before_rows tree) tree.rows)) first
        ∙ table_in_time t ts steps (before_rows tree) (all_labelled (t ∷ ts) h.threads)

    tree_means : test_meaning tree ≡ content n es (t ∷ ts) ps q f
    tree_means =
        let cs = grammar.test_meaning tree in
        ap (λ (x : List InitEntry). content n x cs.threads cs.observed q cs.condition)
        (ap (map entry_meaning) (members_listed (map entry_tree es))
        ∙ entries_mean (length (t ∷ ts)) few es [] h.init)
        ∙ ap (λ (x : List (List Step)). content n es x cs.observed q cs.condition)
        (rows_mean t ts steps)
        ∙ ap (λ (x : List Place). content n es (t ∷ ts) x q cs.condition) (ap (map place_meaning)
        (members_listed (map (place_tree true) ps))
        ∙ items_mean (length (t ∷ ts)) few ps h.observed)
        ∙ ap (content n es (t ∷ ts) ps q) (meaning_back (length (t ∷ ts)) few f h.condition)

    is_read : IsTextOfTest (printed (content n es (t ∷ ts) ps q f)) (content n es (t ∷ ts) ps q f)
    is_read = record {
      most = enough (length (t ∷ ts)) few f;
      text =
          record {
            tree = tree;
            fine = tree_fine (enough (length (t ∷ ts)) few f) (omega arith) (omega arith);
            whole = tokens_are;
          };
      in_time = tree_in_time;
      meant = tree_means;
    }

    is_within : IsFormulaWithinLimits (printed (content n es (t ∷ ts) ps q f)) f
        → ReadsTest (printed (content n es (t ∷ ts) ps q f)) (content n es (t ∷ ts) ps q f)
    is_within w = record {
      short = w.short;
      text = record { tree = tree; fine = tree_fine condition_limits w.shallow w.few; whole = tokens_are };
      in_time = tree_in_time;
      meant = tree_means;
    }

by_threads : (n : List ℕ) (es : List InitEntry) (ts : List (List Step)) (ps : List Place)
    (q : Quantifier) (f : Formula) → IsTest (content n es ts ps q f)
    → IsTextOfTest (printed (content n es ts ps q f)) (content n es ts ps q f)
by_threads n es [] ps q f h = let x = h.some in absurd (omega arith)
by_threads n es (t ∷ ts) ps q f h = is_read n es t ts ps q f h

within_threads : (n : List ℕ) (es : List InitEntry) (ts : List (List Step)) (ps : List Place)
    (q : Quantifier) (f : Formula) → IsTest (content n es ts ps q f)
    → IsFormulaWithinLimits (printed (content n es ts ps q f)) f
    → ReadsTest (printed (content n es ts ps q f)) (content n es ts ps q f)
within_threads n es [] ps q f h w = let x = h.some in absurd (omega arith)
within_threads n es (t ∷ ts) ps q f h w = is_within n es t ts ps q f h w

pub test_is_read : (v : Content) → IsTest v → IsTextOfTest (printed v) v
test_is_read v h = by_threads v.name v.init v.threads v.observed v.quantifier v.condition h

pub test_reads : (v : Content) → IsTest v → IsFormulaWithinLimits (printed v) v.condition
    → ReadsTest (printed v) v
test_reads v h w = within_threads v.name v.init v.threads v.observed v.quantifier v.condition h w
