-- The init block and the names of the columns, as they are read.
use Rattle.std.proofs.Common.{◌≡◌, ℕ, zero, suc, ◌+◌, ◌-◌, ◌<◌, Bool, true, false, List, [], ◌∷◌, ◌++◌, refl, sym, ap, ◌∙◌, arith, append_assoc}
use Rattle.std.specs.Prelude.{if◌then◌else◌, ◌&&◌, map, slice_index, codes, nat_lt, Option, Some, None}
use Rattle.std.specs.Fmt.{decimal}
use Rattle.std.proofs.lemmas.Bool.{lt-ltb}
use Rattle.std.proofs.lemmas.Bool.Decides.{nat_tests}
use Rattle.std.proofs.lemmas.Fmt.{decimal_digit}
use Rattle.litmus_tokens.specs.declared.rule.LitmusRule.TheVariants as rules
use Rattle.litmus_tokens.specs.declared.stage.Stage.TheVariants.{Init, Header, CellBegins, Tail}
use Rattle.litmus_tokens.specs.declared.token.Token.{Token}
use Rattle.litmus_tokens.specs.declared.token.Token.TheVariants as tokens
use Rattle.litmus_tokens.specs.declared.token.Mark.TheVariants as marks
use Rattle.litmus_tokens.specs.Words as words
use Rattle.litmus_tokens.specs.Words.{register_of, or_zero, column_name}
use Rattle.litmus_tokens.specs.Lexer.{is_word_byte, ends_word, first_lexeme}
use Rattle.litmus_tokens.specs.Texts.{tokens_from}
use Rattle.text_values.specs.declared.test.Place.{Place}
use Rattle.text_values.specs.declared.test.Place.TheVariants as places
use Rattle.text_values.specs.declared.test.Value as declared_value
use Rattle.text_values.specs.declared.test.InitEntry.{InitEntry}
use Rattle.litmus_tokens.specs.declared.place.WrittenPlace.{WrittenPlace}
use Rattle.litmus_tokens.specs.declared.place.WrittenPlace.TheVariants as written
use Rattle.litmus_tokens.specs.Conditions.{spelled_place, spelled_value, value_meaning, written_place}
use Rattle.litmus_table.specs.Grammar.{spelled_names}
use Rattle.litmus_grammar.specs.Grammar as grammar
use Rattle.litmus_grammar.specs.Grammar.{Listed, spelled_others, spelled_listed, members, EntryTree, spelled_entry, entry_meaning}
use Rattle.litmus_grammar.specs.Texts.{names_thread, late_entries}
use Rattle.litmus_printing.specs.Printing.{register_text, bare_text, value_text, all_of, entry_text, entry_line, names}
use Rattle.text_values.specs.Joined.{joined}
use Rattle.litmus_laws.specs.Written.{IsWord, IsPlace, Lacks, AreEntries}
use Rattle.litmus_laws.proofs.Read.{Entries, Condition, read, free, turn, inner}
use Rattle.litmus_laws.proofs.Numbers.{number_back, register_back, word_here}
use Rattle.litmus_laws.proofs.Places.{equals, value, value_tree, value_back, value_fine, value_first, place_tree, bare_place, place_back, place_fine}
use Rattle.litmus_laws.proofs.Conditions.{is_word}

-- a list with a semicolon behind each of its elements
abbrev pub listed : {A : Type 0} → List A → Option (Listed A)
listed [] = None
listed (x ∷ xs) = Some (record { first = x; others = xs; closed = true })

pub members_listed : {A : Type 0} (xs : List A) → members (listed xs) ≡ xs
members_listed [] = refl
members_listed (x ∷ xs) = refl

pub semicolon : (bs : List ℕ)
    → inner Condition (59 ∷ bs) ≡ tokens.Mark marks.Semicolon ∷ inner Condition bs
unfolding tokens_from first_lexeme
semicolon bs = ap (λ (ts : List Token). tokens.Mark marks.Semicolon ∷ ts) (free Tail _ 0 1 bs refl)

entry_ends : (bs : List ℕ)
    → inner Entries (59 ∷ 10 ∷ bs) ≡ tokens.Mark marks.Semicolon ∷ inner Entries bs
unfolding tokens_from first_lexeme
entry_ends bs =
    ap (λ (ts : List Token). tokens.Mark marks.Semicolon ∷ ts)
    (free (Init false false) _ 0 2 bs refl)

-- ---- entries

abbrev pub entry_tree : InitEntry → EntryTree
entry_tree e = record { place = place_tree false e.place; value = value_tree e.value }

-- a place as it is written, back
abbrev unwritten : WrittenPlace → Place
unwritten (written.Location n) = places.Location n
unwritten (written.Register t r) = places.Register (words.decimal t) r

abbrev written_as : Place → WrittenPlace
written_as p = written_place (place_tree false p)

abbrev entry_as : InitEntry → Place → declared_value.Value → InitEntry
entry_as e p v = record { place = p; value = v }

module _ (threads : ℕ) (few : threads < 18446744073709551616) where
  entry_back : (e : InitEntry) (bs : List ℕ) (before : List Place) (es : List InitEntry)
      → AreEntries threads before (e ∷ es)
      → inner Entries (entry_line e ++ bs)
      ≡ spelled_entry (entry_tree e) (tokens.Mark marks.Semicolon ∷ inner Entries bs)
  entry_back e bs before es h =
      let B = bare_text e.place in
      let V = value_text e.value in
      ap (inner Entries) (append_assoc (entry_text e) (10 ∷ []) bs
      ∙ append_assoc B (61 ∷ (V ++ 59 ∷ [])) (10 ∷ bs)
      ∙ ap (λ (l : List ℕ). B ++ 61 ∷ l) (append_assoc V (59 ∷ []) (10 ∷ bs)))
      ∙ bare_place threads few e.place (61 ∷ (V ++ 59 ∷ 10 ∷ bs)) h.0 refl
      ∙ ap (spelled_place (place_tree false e.place)) (equals Entries (V ++ 59 ∷ 10 ∷ bs)
      (value_first e.value (59 ∷ 10 ∷ bs) h.1)
      ∙ ap (λ (ts : List Token). tokens.Mark marks.Equals ∷ ts) (value Entries e.value
      (59 ∷ 10 ∷ bs) h.1 (record { no_word = refl; no_digits = refl })
      ∙ ap (spelled_value (value_tree e.value)) (entry_ends bs)))

  others_back : (es : List InitEntry) (bs : List ℕ) (before : List Place)
      → AreEntries threads before es
      → tokens.Mark marks.Semicolon ∷ inner Entries (all_of (map entry_line es) ++ bs)
      ≡ spelled_others spelled_entry true (map entry_tree es) (inner Entries bs)
  others_back [] bs before h = refl
  others_back (e ∷ es) bs before h =
      ap (λ (l : List ℕ). tokens.Mark marks.Semicolon ∷ inner Entries l)
      (append_assoc (entry_line e) (all_of (map entry_line es)) bs)
      ∙ ap (λ (ts : List Token). tokens.Mark marks.Semicolon ∷ ts) (entry_back e
      (all_of (map entry_line es) ++ bs) before es h
      ∙ ap (spelled_entry (entry_tree e)) (others_back es bs (e.place ∷ before) h.3))

  pub entries_back : (es : List InitEntry) (bs : List ℕ) (before : List Place)
      → AreEntries threads before es
      → inner Entries (all_of (map entry_line es) ++ bs)
      ≡ spelled_listed spelled_entry (listed (map entry_tree es)) (inner Entries bs)
  entries_back [] bs before h = refl
  entries_back (e ∷ es) bs before h =
      ap (inner Entries) (append_assoc (entry_line e) (all_of (map entry_line es)) bs)
      ∙ entry_back e (all_of (map entry_line es) ++ bs) before es h
      ∙ ap (spelled_entry (entry_tree e)) (others_back es bs (e.place ∷ before) h.3)

  pub entries_mean : (es : List InitEntry) (before : List Place) → AreEntries threads before es
      → map entry_meaning (map entry_tree es) ≡ es
  entries_mean [] before h = refl
  entries_mean (e ∷ es) before h =
      ap
      (λ (x : Place). entry_as e x (value_meaning (value_tree e.value))
      ∷ map entry_meaning (map entry_tree es))
      (place_back threads few false e.place h.0)
      ∙ ap
      (λ (x : declared_value.Value). entry_as e e.place x
      ∷ map entry_meaning (map entry_tree es))
      (value_back e.value h.1)
      ∙ ap (λ (xs : List InitEntry). e ∷ xs) (entries_mean es (e.place ∷ before) h.3)

  back_again : (p : Place) → IsPlace threads p → unwritten (written_as p) ≡ p
  back_again (places.Location x) h = refl
  back_again (places.Register t r) h =
      let x = h.0 in
      ap (λ (n : ℕ). places.Register n (or_zero (register_of (register_text r))))
      (number_back t (omega arith))
      ∙ ap (λ (o : Option ℕ). places.Register t (or_zero o)) (register_back r h.1)

  abbrev AreAll : List Place → Type 0
  AreAll [] = Unit {0}
  AreAll (p ∷ ps) = IsPlace threads p × AreAll ps

  lacks_back : (before : List Place) (p : Place) → AreAll before → IsPlace threads p
      → Lacks before p → grammar.LacksPlace (map written_as before) (written_as p)
  lacks_back [] p all h l = tt
  lacks_back (q ∷ qs) p all h l = (
    λ e. l.0 (sym (back_again q all.0) ∙ ap unwritten e ∙ back_again p h),
    lacks_back qs p all.1 h l.1,
  )

  pub entries_fine : (es : List InitEntry) (before : List Place) → AreAll before
      → AreEntries threads before es
      → grammar.AreEntryTrees (map written_as before) (map entry_tree es)
  entries_fine [] before all h = tt
  entries_fine (e ∷ es) before all h = (
    place_fine threads few false e.place h.0,
    value_fine e.value h.1,
    lacks_back before e.place all h.0 h.2,
    entries_fine es (e.place ∷ before) (h.0, all) h.3,
  )

  there : (p : Place) → IsPlace threads p → names_thread threads (place_tree false p) ≡ true
  there (places.Location x) h = refl
  there (places.Register t r) h =
      let x = h.0 in
      ap (λ (n : ℕ). nat_lt n threads) (number_back t (omega arith)) ∙ lt-ltb t threads x

  pub entries_in_time : (es : List InitEntry) (before : List Place) (ts : List Token)
      → AreEntries threads before es → late_entries threads ts (map entry_tree es) ≡ None
  entries_in_time [] before ts h = refl
  entries_in_time (e ∷ es) before ts h =
      ap
      (λ (b : Bool). if b then late_entries threads
      (ts ++ spelled_entry (entry_tree e) (tokens.Mark marks.Semicolon ∷ []))
      (map entry_tree es)
      else Some (record { rule = rules.Init; before = ts }))
      (there e.place h.0)
      ∙ entries_in_time es (e.place ∷ before)
      (ts ++ spelled_entry (entry_tree e) (tokens.Mark marks.Semicolon ∷ [])) h.3

-- ---- the names of columns

pub block_ends : (bs : List ℕ)
    → inner Entries (125 ∷ 10 ∷ bs) ≡ tokens.Mark marks.CloseBrace ∷ read (Header 8) bs
unfolding tokens_from first_lexeme
block_ends bs =
    ap (λ (ts : List Token). tokens.Mark marks.CloseBrace ∷ ts) (free (Header 8) _ 0 2 bs refl)

header_lexeme : (n : ℕ) (bs : List ℕ) → first_lexeme (Header (suc n)) false bs ≡ first_lexeme Tail false bs
unfolding first_lexeme
header_lexeme n bs = refl

digit_byte : (k : ℕ) → k < 10 → is_word_byte (48 + k) ≡ true
digit_byte k h = grind (arith, nat_tests)

column_word : (k : ℕ) → k < 10 → IsWord (column_name k)
column_word k h = is_word (column_name k) refl (ap (λ (b : Bool). b && true) (digit_byte k h))

column : (n k : ℕ) (bs : List ℕ) → k < 10 → ends_word (slice_index bs 0) ≡ true
    → read (Header (suc n)) ((80 ∷ decimal k) ++ bs)
    ≡ tokens.Word (column_name k) ∷ read (Header (suc n)) bs
column n k bs h e =
    ap (λ (l : List ℕ). read (Header (suc n)) ((80 ∷ l) ++ bs)) (decimal_digit k h)
    ∙ turn (Header (suc n)) 80 ((48 + k) ∷ []) bs (tokens.Word (column_name k)) refl
    (header_lexeme n (80 ∷ (48 + k) ∷ bs) ∙ word_here 80 ((48 + k) ∷ []) bs (column_word k h) e)

header_bar : (n : ℕ) (bs : List ℕ)
    → read (Header (suc n)) (32 ∷ 124 ∷ 32 ∷ bs) ≡ tokens.Mark marks.Bar ∷ read (Header n) bs
unfolding tokens_from first_lexeme
header_bar n bs =
    let less : suc n - 1 ≡ n = omega arith in
    ap (λ (ts : List Token). tokens.Mark marks.Bar ∷ ts) (free (Header (suc n - 1)) _ 0 3 bs refl)
    ∙ ap (λ (m : ℕ). tokens.Mark marks.Bar ∷ read (Header m) bs) less

header_ends : (n : ℕ) (bs : List ℕ)
    → read (Header n) (32 ∷ 59 ∷ 10 ∷ bs) ≡ tokens.Mark marks.Semicolon ∷ read CellBegins bs
unfolding tokens_from first_lexeme
header_ends n bs =
    ap (λ (ts : List Token). tokens.Mark marks.Semicolon ∷ ts) (free CellBegins _ 0 3 bs refl)

-- a name, so many more, and the end of the line
pub names_back : (n k left : ℕ) (bs : List ℕ) → n < left → k + n < 10
    → read (Header left) (joined (codes " | ") (names k (suc n)) ++ 32 ∷ 59 ∷ 10 ∷ bs)
    ≡ tokens.Word (column_name k) ∷ spelled_names (k + 1) n (read CellBegins bs)
names_back n k zero bs lt few = absurd (omega arith)
names_back zero k (suc left) bs lt few =
    column left k (32 ∷ 59 ∷ 10 ∷ bs) (omega arith) refl
    ∙ ap (λ (ts : List Token). tokens.Word (column_name k) ∷ ts) (header_ends (suc left) bs)
names_back (suc n) k (suc left) bs lt few =
    let J = joined (codes " | ") (names (k + 1) (suc n)) in
    let X = 32 ∷ 59 ∷ 10 ∷ bs in
    ap (read (Header (suc left))) (append_assoc (80 ∷ decimal k) (codes " | " ++ J) X)
    ∙ column left k (32 ∷ 124 ∷ 32 ∷ (J ++ X)) (omega arith) refl
    ∙ ap (λ (ts : List Token). tokens.Word (column_name k) ∷ ts) (header_bar left (J ++ X)
    ∙ ap (λ (ts : List Token). tokens.Mark marks.Bar ∷ ts)
    (names_back n (k + 1) left bs (omega arith) (omega arith)))
