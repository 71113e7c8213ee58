-- The grammar of tests, on whole lists of tokens: a text is what some tree spells. A tree is a text
-- as it is written; what it spells goes before the rest.
use Rattle.std.specs.Prelude.{◌≡◌, ℕ, zero, suc, ◌+◌, List, [], ◌∷◌, map, Bool, true, false, Option, Some, None, codes}
use Rattle.litmus_tokens.specs.declared.token.Token.{Token}
use Rattle.litmus_tokens.specs.declared.token.Token.TheVariants as tokens
use Rattle.litmus_tokens.specs.declared.token.Mark.TheVariants.{OpenBrace, CloseBrace, OpenBracket, CloseBracket, Semicolon, Equals}
use Rattle.litmus_tokens.specs.Words.{is_test_name}
use Rattle.text_values.specs.declared.test.InitEntry.{InitEntry}
use Rattle.text_values.specs.declared.test.Quantifier.{Quantifier}
use Rattle.text_values.specs.TestValue.{Content}
use Rattle.litmus_tokens.specs.declared.place.WrittenPlace.{WrittenPlace}
use Rattle.litmus_tokens.specs.Conditions.{PlaceTree, ValueTree, spelled_place, spelled_value, place_meaning, value_meaning, IsPlaceTree, HasThread, IsValueTree, FormulaTree, spelled, tree_formula, Limits, IsFormulaTree, spelled_quantifier, written_place}
use Rattle.litmus_table.specs.Grammar.{RowTree, ThreadTree, AreCells, AreRowTrees, spelled_header, spelled_rows, spelled_thread, columns_meaning}

-- ---- lists with semicolons between, and one behind the last or none

pub record Listed (A : Type 0) : Type 0 where
  pub first : A
  pub others : List A
  pub closed : Bool

abbrev pub spelled_end : Bool → List Token → List Token
spelled_end true rest = tokens.Mark Semicolon ∷ rest
spelled_end false rest = rest

abbrev pub spelled_others : {A : Type 0} → (A → List Token → List Token) → Bool → List A
    → List Token → List Token
spelled_others f closed [] rest = spelled_end closed rest
spelled_others f closed (x ∷ xs) rest =
    tokens.Mark Semicolon ∷ f x (spelled_others f closed xs rest)

abbrev pub spelled_listed : {A : Type 0} → (A → List Token → List Token) → Option (Listed A)
    → List Token → List Token
spelled_listed f None rest = rest
spelled_listed f (Some l) rest = f l.first (spelled_others f l.closed l.others rest)

abbrev pub members : {A : Type 0} → Option (Listed A) → List A
members None = []
members (Some l) = l.first ∷ l.others

-- ---- the init block

pub record EntryTree : Type 0 where
  pub place : PlaceTree
  pub value : ValueTree

abbrev pub spelled_entry : EntryTree → List Token → List Token
spelled_entry e rest = spelled_place e.place (tokens.Mark Equals ∷ spelled_value e.value rest)

abbrev pub entry_meaning : EntryTree → InitEntry
entry_meaning e = record { place = place_meaning e.place; value = value_meaning e.value }

abbrev pub spelled_init : Option (Listed EntryTree) → List Token → List Token
spelled_init es rest =
    tokens.Mark OpenBrace ∷ spelled_listed spelled_entry es (tokens.Mark CloseBrace ∷ rest)

abbrev pub LacksPlace : List WrittenPlace → WrittenPlace → Type 0
LacksPlace [] p = Unit {0}
LacksPlace (q ∷ qs) p = (q ≡ p → ⊥) × LacksPlace qs p

-- Each entry is one, for a place that no entry before it has. Its thread need not be there yet.
abbrev pub AreEntryTrees : List WrittenPlace → List EntryTree → Type 0
AreEntryTrees before [] = Unit {0}
AreEntryTrees before (e ∷ es) =
    IsPlaceTree e.place × IsValueTree e.value × LacksPlace before (written_place e.place)
    × AreEntryTrees (written_place e.place ∷ before) es

-- ---- `locations`

abbrev pub spelled_items : Listed PlaceTree → List Token → List Token
spelled_items l rest =
    tokens.Word (codes "locations") ∷ tokens.Mark OpenBracket
    ∷ spelled_place l.first (spelled_others spelled_place l.closed l.others
    (tokens.Mark CloseBracket ∷ rest))

-- the list, or nothing
abbrev pub spelled_observed : Option (Listed PlaceTree) → List Token → List Token
spelled_observed None rest = rest
spelled_observed (Some l) rest = spelled_items l rest

abbrev pub ArePlaceTrees : ℕ → List PlaceTree → Type 0
ArePlaceTrees threads [] = Unit {0}
ArePlaceTrees threads (p ∷ ps) = IsPlaceTree p × HasThread threads p × ArePlaceTrees threads ps

-- ---- tests

pub record TestTree : Type 0 where
  pub name : List ℕ
  pub text : Bool
  pub keylines : ℕ
  pub init : Option (Listed EntryTree)
  pub others : ℕ
  pub rows : List RowTree
  pub observed : Option (Listed PlaceTree)
  pub quantifier : Quantifier
  pub condition : FormulaTree

abbrev pub spelled_text : Bool → List Token → List Token
spelled_text true rest = tokens.Text ∷ rest
spelled_text false rest = rest

abbrev pub spelled_keylines : ℕ → List Token → List Token
spelled_keylines zero rest = rest
spelled_keylines (suc n) rest = tokens.Keyline ∷ spelled_keylines n rest

-- what stands before the init block
abbrev pub spelled_head : TestTree → List Token → List Token
spelled_head t rest =
    tokens.Word (codes "PPC") ∷ tokens.Word t.name ∷ tokens.LineEnd
    ∷ spelled_text t.text (spelled_keylines t.keylines rest)

abbrev pub spelled_condition : Quantifier → FormulaTree → List Token
spelled_condition q t = spelled_quantifier q (spelled t (tokens.End ∷ []))

abbrev pub spelled_test : TestTree → List Token
spelled_test t =
    spelled_head t (spelled_init t.init (spelled_header t.others (spelled_rows t.rows (
    spelled_observed t.observed (spelled_condition t.quantifier t.condition)))))

-- a test has at most eight threads: the name of the ninth is no word
pub record IsTestTree (most : Limits) (t : TestTree) : Type 0 where
  pub name : is_test_name t.name ≡ true
  pub init : AreEntryTrees [] (members t.init)
  pub rows : AreRowTrees t.others t.rows
  pub observed : ArePlaceTrees (t.others + 1) (members t.observed)
  pub condition : IsFormulaTree most (t.others + 1) t.condition

abbrev pub test_meaning : TestTree → Content
test_meaning t = record {
  name = t.name;
  init = map entry_meaning (members t.init);
  threads = columns_meaning 0 (t.others + 1) t.rows;
  observed = map place_meaning (members t.observed);
  quantifier = t.quantifier;
  condition = tree_formula t.condition;
}

-- ---- what is a text

pub record IsTestText (most : Limits) (ts : List Token) : Type 0 where
  pub tree : TestTree
  pub fine : IsTestTree most tree
  pub whole : ts ≡ spelled_test tree

-- the text of an init block alone
pub record IsInitText (ts : List Token) : Type 0 where
  pub entries : Option (Listed EntryTree)
  pub fine : AreEntryTrees [] (members entries)
  pub whole : ts ≡ spelled_init entries (tokens.End ∷ [])

-- the text of a thread alone
pub record IsThreadText (ts : List Token) : Type 0 where
  pub tree : ThreadTree
  pub fine : AreCells (tree.first ∷ tree.others)
  pub whole : ts ≡ spelled_thread tree (tokens.End ∷ [])

-- the text of `locations` alone, which may be empty
pub record IsLocationsText (threads : ℕ) (ts : List Token) : Type 0 where
  pub items : Option (Listed PlaceTree)
  pub fine : ArePlaceTrees threads (members items)
  pub whole : ts ≡ spelled_observed items (tokens.End ∷ [])
