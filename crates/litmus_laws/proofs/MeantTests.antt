-- What the text of a test means can be printed.
use Rattle.std.proofs.Common.{◌≡◌, ℕ, zero, suc, ◌+◌, ◌-◌, ◌<◌, ◌≤◌, ◌^◌, Bool, true, false, List, [], ◌∷◌, ◌++◌, length, refl, sym, ap, ◌∙◌, subst, arith}
use Rattle.std.specs.Prelude.{if◌then◌else◌, map, codes, Option, Some, None}
use Rattle.std.specs.Str.{bytes_eq}
use Rattle.std.specs.Fmt.{decimal}
use Rattle.std.proofs.lemmas.Bool.{ltb-true}
use Rattle.std.proofs.lemmas.Fmt.{decimal_digit, decimal-digits_value}
use Rattle.litmus_tokens.specs.declared.rule.LitmusRule.TheVariants as rules
use Rattle.litmus_tokens.specs.declared.stage.Stage.TheVariants.{Magic, Head, Init, Header}
use Rattle.litmus_tokens.specs.declared.token.Token.{Token}
use Rattle.litmus_tokens.specs.declared.token.Token.TheVariants as tokens
use Rattle.litmus_tokens.specs.declared.token.Mark.TheVariants.{CloseBrace, CloseBracket, Semicolon, Equals}
use Rattle.litmus_tokens.specs.Words as words
use Rattle.litmus_tokens.specs.Words.{column_name}
use Rattle.litmus_tokens.specs.Lexer.{significant}
use Rattle.text_values.specs.declared.test.Place.{Place}
use Rattle.text_values.specs.declared.test.Place.TheVariants as places
use Rattle.text_values.specs.TestValue.{Content}
use Rattle.litmus_tokens.specs.declared.place.WrittenPlace.{WrittenPlace}
use Rattle.litmus_tokens.specs.declared.place.WrittenPlace.TheVariants as written
use Rattle.litmus_tokens.specs.Conditions.{Limits, condition_limits, PlaceTree, Location, Register, ValueTree, Number, Address, spelled_place, spelled_value, place_meaning, HasThread, written_place}
use Rattle.litmus_table.specs.Grammar.{spelled_names, spelled_header, spelled_rows, columns_meaning}
use Rattle.litmus_table.specs.Late.{late_columns}
use Rattle.litmus_grammar.specs.Grammar as grammar
use Rattle.litmus_grammar.specs.Grammar.{Listed, spelled_others, spelled_listed, members, EntryTree, spelled_entry, entry_meaning, spelled_init, spelled_observed, ArePlaceTrees, TestTree, spelled_text, spelled_keylines, spelled_condition, spelled_test, test_meaning}
use Rattle.litmus_grammar.specs.Texts.{ReadsTest, names_thread, late_entries, late_test, before_entries, before_rows}
use Rattle.litmus_laws.specs.Written.{IsFormula, Lacks, AreEntries, ArePlaces, IsTest, IsTextOfTest}
use Rattle.litmus_laws.proofs.Numbers.{own}
use Rattle.litmus_laws.proofs.Tokens.{AreDigits, AreFine, AllFine, tokens_fine, all_fine}
use Rattle.litmus_laws.proofs.Meant.{place_meant, value_meant, formula_meant, behind_quantifier}
use Rattle.litmus_laws.proofs.MeantRows.{in_second, in_both, rows_meant, columns_written}
use Rattle.litmus_grammar.proofs.Bodies.{length-meaning}
use Rattle.text_laws.proofs.Runs.{other}

-- ---- places as they are written

canon : (ds : List ℕ) → AreDigits ds → words.decimal ds < 2 ^ 64
    → significant (decimal (words.decimal ds)) ≡ ds
canon [] h small = ap significant (decimal_digit 0 (omega arith))
canon (d ∷ ds) h small =
    ap significant (decimal-digits_value own (d ∷ ds) h.digits (omega arith)
    (λ e. absurd (h.no_zero e)) small)
    ∙ ap (λ (b : Bool). if b then significant ds else d ∷ ds) (other d 48 h.no_zero)

abbrev rewritten : Place → WrittenPlace
rewritten (places.Location n) = written.Location n
rewritten (places.Register t r) = written.Register (significant (decimal t)) r

abbrev IsCanon : PlaceTree → Type 0
IsCanon p = rewritten (place_meaning p) ≡ written_place p

abbrev AreCanon : List PlaceTree → Type 0
AreCanon [] = Unit {0}
AreCanon (p ∷ ps) = IsCanon p × AreCanon ps

lacks_meant : (before : List PlaceTree) (p : PlaceTree) → AreCanon before → IsCanon p
    → grammar.LacksPlace (map written_place before) (written_place p)
    → Lacks (map place_meaning before) (place_meaning p)
lacks_meant [] p all h l = tt
lacks_meant (q ∷ qs) p all h l =
    (λ e. l.0 (sym all.0 ∙ ap rewritten e ∙ h), lacks_meant qs p all.1 h l.1)

-- ---- entries

module _ (threads : ℕ) (few : threads ≤ 8) where
  has_thread : (p : PlaceTree) → names_thread threads p ≡ true → HasThread threads p
  has_thread (Location b n) e = tt
  has_thread (Register t r) e = ltb-true (words.decimal t) threads e

  is_canon : (p : PlaceTree) (rest : List Token) → HasThread threads p
      → AllFine (spelled_place p rest) → IsCanon p
  is_canon (Location b n) rest h a = refl
  is_canon (Register t r) rest h a =
      ap (λ (ds : List ℕ). written.Register ds (words.or_zero (words.register_of r)))
      (canon t a.0 (omega arith))

  others_written : (closed : Bool) (es : List EntryTree) (rest ts : List Token)
      (before : List PlaceTree) → AreCanon before
      → AllFine (spelled_others spelled_entry closed es rest)
      → grammar.AreEntryTrees (map written_place before) es → late_entries threads ts es ≡ None
      → AreEntries threads (map place_meaning before) (map entry_meaning es) × AllFine rest
  others_written true [] rest ts before all a h late = (tt, a.1)
  others_written false [] rest ts before all a h late = (tt, a)
  others_written closed (e ∷ es) rest ts before all a h late =
      let behind = ts ++ spelled_entry e (tokens.Mark Semicolon ∷ []) in
      let there = in_second (names_thread threads e.place) (record { rule = rules.Init; before = ts }) (late_entries threads behind es) late in
      let thread = has_thread e.place there.0 in
      let one = place_meant threads e.place _ h.0 thread a.1 in
      let two = value_meant threads e.value _ h.1 one.1.1 in
      let same = is_canon e.place _ thread a.1 in
      let more = others_written closed es rest behind (e.place ∷ before) (same, all) two.1 h.3 there.1 in
      ((one.0, two.0, lacks_meant before e.place all same h.2, more.0), more.1)

  entries_written : (o : Option (Listed EntryTree)) (rest ts : List Token)
      → AllFine (spelled_listed spelled_entry o rest) → grammar.AreEntryTrees [] (members o)
      → late_entries threads ts (members o) ≡ None
      → AreEntries threads [] (map entry_meaning (members o)) × AllFine rest
  entries_written None rest ts a h late = (tt, a)
  entries_written (Some l) rest ts a h late =
      others_written l.closed (l.first ∷ l.others) rest ts [] tt (tt, a) h late

  places_written : (closed : Bool) (ps : List PlaceTree) (rest : List Token) → ArePlaceTrees threads ps
      → AllFine (spelled_others spelled_place closed ps rest)
      → ArePlaces threads (map place_meaning ps) × AllFine rest
  places_written true [] rest h a = (tt, a.1)
  places_written false [] rest h a = (tt, a)
  places_written closed (p ∷ ps) rest h a =
      let one = place_meant threads p _ h.0 h.1 a.1 in
      let more = places_written closed ps rest h.2 one.1 in
      ((one.0, more.0), more.1)

  observed_written : (o : Option (Listed PlaceTree)) (rest : List Token)
      → ArePlaceTrees threads (members o) → AllFine (spelled_observed o rest)
      → ArePlaces threads (map place_meaning (members o)) × AllFine rest
  observed_written None rest h a = (tt, a)
  observed_written (Some l) rest h a =
      let all = places_written l.closed (l.first ∷ l.others) (tokens.Mark CloseBracket ∷ rest) h (tt, a.1.1) in
      (all.0, all.1.1)

-- ---- how many threads

behind_place : (w : Bool) (p : PlaceTree) (rest : List Token)
    → AreFine (Init false w) (spelled_place p rest) → (u : Bool) × AreFine (Init false u) rest
behind_place w (Location false n) rest a = (true, a.1)
behind_place w (Location true n) rest a = (false, a.1.1.1)
behind_place w (Register t r) rest a = (true, a.1.1.1)

behind_value : (w : Bool) (v : ValueTree) (rest : List Token)
    → AreFine (Init false w) (spelled_value v rest) → (u : Bool) × AreFine (Init false u) rest
behind_value w (Number negative ds) rest a = (false, a.1)
behind_value w (Address n) rest a = (true, a.1)

behind_entry : (w : Bool) (e : EntryTree) (rest : List Token)
    → AreFine (Init false w) (spelled_entry e rest) → (u : Bool) × AreFine (Init false u) rest
behind_entry w e rest a =
    let one = behind_place w e.place (tokens.Mark Equals ∷ spelled_value e.value rest) a in
    behind_value false e.value rest one.1.1

behind_others : (w closed : Bool) (es : List EntryTree) (rest : List Token)
    → AreFine (Init false w) (spelled_others spelled_entry closed es rest)
    → (u : Bool) × AreFine (Init false u) rest
behind_others w true [] rest a = (false, a.1)
behind_others w false [] rest a = (w, a)
behind_others w closed (e ∷ es) rest a =
    let one = behind_entry false e (spelled_others spelled_entry closed es rest) a.1 in
    behind_others one.0 closed es rest one.1

behind_listed : (o : Option (Listed EntryTree)) (rest : List Token)
    → AreFine (Init false false) (spelled_listed spelled_entry o rest)
    → (u : Bool) × AreFine (Init false u) rest
behind_listed None rest a = (false, a)
behind_listed (Some l) rest a =
    let one = behind_entry false l.first (spelled_others spelled_entry l.closed l.others rest) a in
    behind_others one.0 l.closed l.others rest one.1

-- the ninth name is no word
names_few : (n k left : ℕ) (rest : List Token) → k + left ≡ 9 → 0 < left
    → AreFine (Header left) (spelled_names k n rest) → n < left
names_few n k zero rest e some a = absurd (omega arith)
names_few zero k left rest e some a = some
names_few (suc n) k (suc zero) rest e some a =
    let none : 1 - 1 ≡ 0 = omega arith in
    let eight : k ≡ 8 = omega arith in
    let all : AreFine (Header 0) (tokens.Word (column_name k) ∷ spelled_names (k + 1) n rest) = subst (λ (m : ℕ). AreFine (Header m) (tokens.Word (column_name k) ∷ spelled_names (k + 1) n rest)) none a.1 in
    let other : bytes_eq (column_name 8) (codes "P8") ≡ false = subst (λ (m : ℕ). bytes_eq (column_name m) (codes "P8") ≡ false) eight all.0.1 in
    absurd cc
names_few (suc n) k (suc (suc m)) rest e some a =
    let less : suc (suc m) - 1 ≡ suc m = omega arith in
    let all : AreFine (Header (suc m)) (tokens.Word (column_name k) ∷ spelled_names (k + 1) n rest) = subst (λ (j : ℕ). AreFine (Header j) (tokens.Word (column_name k) ∷ spelled_names (k + 1) n rest)) less a.1 in
    let more = names_few n (k + 1) (suc m) rest (omega arith) (omega arith) all.1 in
    omega arith

header_few : (n : ℕ) (rest : List Token) → AreFine (Header 8) (spelled_header n rest) → n < 8
header_few n rest a = names_few n 1 8 rest (omega arith) (omega arith) a.1

behind_names : (k n : ℕ) (rest : List Token) → AllFine (spelled_names k n rest) → AllFine rest
behind_names k zero rest a = a.1
behind_names k (suc n) rest a = behind_names (k + 1) n rest a.1.1

-- ---- tests

behind_text : (b : Bool) (rest : List Token) → AreFine Head (spelled_text b rest)
    → AreFine Head rest
behind_text true rest a = a.1
behind_text false rest a = a

behind_keylines : (n : ℕ) (rest : List Token) → AreFine Head (spelled_keylines n rest)
    → AreFine Head rest
behind_keylines zero rest a = a
behind_keylines (suc n) rest a = behind_keylines n rest a.1

test_written : (most : Limits) (t : TestTree) → grammar.IsTestTree most t
    → AreFine Magic (spelled_test t) → late_test t ≡ None → IsTest (test_meaning t)
test_written most t h a late =
    let Tail = spelled_observed t.observed (spelled_condition t.quantifier t.condition) in
    let Rows = spelled_rows t.rows Tail in
    let Table = spelled_header t.others Rows in
    let Block = tokens.Mark CloseBrace ∷ Table in
    let inside = (behind_keylines t.keylines (spelled_init t.init Table) (behind_text t.text (spelled_keylines t.keylines (spelled_init t.init Table)) a.1.1.1)).1 in
    let block = behind_listed t.init Block inside in
    let some = header_few t.others Rows block.1.1 in
    let few : t.others + 1 ≤ 8 = omega arith in
    let checks = in_both (late_entries (t.others + 1) (before_entries t) (members t.init)) (late_columns 0 (t.others + 1) (before_rows t) t.rows) late in
    let entries = entries_written (t.others + 1) few t.init Block (before_entries t) (all_fine (Init false false) (spelled_listed spelled_entry t.init Block) refl inside) h.init checks.0 in
    let rows = rows_meant t.others t.rows Tail h.rows (behind_names 1 t.others Rows entries.1.1.1) in
    let observed = observed_written (t.others + 1) few t.observed (spelled_condition t.quantifier t.condition) h.observed rows.1 in
    let condition = formula_meant (t.others + 1) t.condition _ h.condition.atoms (behind_quantifier (t.others + 1) t.quantifier _ observed.1) in
    let count : t.others + 1 ≡ length (columns_meaning 0 (t.others + 1) t.rows) = sym (length-meaning 0 (t.others + 1) t.rows) in
    record {
      name = h.name;
      no_comment = a.1.0;
      some = subst (λ (k : ℕ). 0 < k) count (omega arith);
      few = subst (λ (k : ℕ). k ≤ 8) count few;
      init =
          subst (λ (k : ℕ). AreEntries k [] (map entry_meaning (members t.init))) count entries.0;
      threads =
          columns_written 0 (t.others + 1) t.others t.rows (before_rows t) h.rows rows.0 checks.1;
      observed =
          subst (λ (k : ℕ). ArePlaces k (map place_meaning (members t.observed))) count observed.0;
      condition = subst (λ (k : ℕ). IsFormula k (test_meaning t).condition) count condition.0;
    }

pub test_is_written : (bytes : List ℕ) (v : Content) → IsTextOfTest bytes v → IsTest v
test_is_written bytes v h =
    subst IsTest h.meant (test_written h.most h.text.tree h.text.fine
    (subst (AreFine Magic) h.text.whole (tokens_fine Magic false 0 0 bytes)) h.in_time)

pub test_reads_written : (bytes : List ℕ) (v : Content) → ReadsTest bytes v → IsTest v
test_reads_written bytes v h =
    test_is_written bytes v (record {
      most = condition_limits;
      text = h.text;
      in_time = h.in_time;
      meant = h.meant;
    })
