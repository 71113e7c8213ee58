-- What the machine keeps of a text, in terms of the grammar.
use Rattle.std.specs.Prelude.{◌≡◌, ℕ, ◌+◌, List, [], ◌∷◌, ◌++◌, map, Ok}
use Rattle.litmus_tokens.specs.declared.token.Token.{Token}
use Rattle.litmus_tokens.specs.declared.token.Token.TheVariants as tokens
use Rattle.litmus_tokens.specs.declared.token.Mark.TheVariants.{Semicolon}
use Rattle.litmus_tokens.specs.Texts.{TokenAt, StandsAt}
use Rattle.text_values.specs.declared.test.InitEntry.{InitEntry}
use Rattle.text_values.specs.declared.test.Place.{Place}
use Rattle.text_values.specs.declared.test.Quantifier.{Quantifier}
use Rattle.text_values.specs.TestValue.{Formula}
use Rattle.litmus_tokens.specs.Conditions.{place_meaning, value_meaning, tree_formula, written_place}
use Rattle.litmus_tokens.specs.PlaceMachine.{place_of}
use Rattle.litmus_table.specs.Grammar.{ThreadTree, columns_meaning, thread_meaning}
use Rattle.litmus_table.specs.Late.{thread_notes, columns_notes}
use Rattle.litmus_table.specs.Laws.{steps_of, AreNoted}
use Rattle.litmus_grammar.specs.declared.parts.TextKind.{TextKind}
use Rattle.litmus_grammar.specs.Grammar.{EntryTree, spelled_entry, members, TestTree}
use Rattle.litmus_grammar.specs.TextMachine.{Draft, TextState, text_start, run_parts}
use Rattle.litmus_grammar.specs.Texts.{before_entries, before_rows}

-- The machine takes these tokens, and what it holds then is this.
pub record TakesTokens (kind : TextKind) (threads : ℕ) (ps : List TokenAt) (Holds : Draft → Type 0)
    : Type 0 where
  pub after : TextState
  pub by : run_parts (text_start kind threads) ps ≡ Ok after
  pub holds : Holds after.draft

-- ---- what the draft says

-- an entry, for a thread that may not be there
abbrev pub entry_kept : EntryTree → InitEntry
entry_kept e = record { place = place_of (written_place e.place); value = value_meaning e.value }

-- where the entries begin that stand behind these tokens
abbrev pub AreEntryStarts : List TokenAt → List Token → List EntryTree → List ℕ → Type 0
AreEntryStarts all before [] [] = Unit {0}
AreEntryStarts all before (e ∷ es) (s ∷ ss) =
    StandsAt all before s
    × AreEntryStarts all (before ++ spelled_entry e (tokens.Mark Semicolon ∷ [])) es ss
AreEntryStarts all before es ss = ⊥

-- a condition,
pub record HoldsCondition (quantifier : Quantifier) (formula : Formula) (h : Draft) : Type 0 where
  pub quantifier_is : h.quantifier ≡ quantifier
  pub formula_is : h.formula ≡ formula

-- a list of places,
abbrev pub HoldsPlaces : List Place → Draft → Type 0
HoldsPlaces ps h = h.observed ≡ ps

-- the entries of an init block, with the byte that each begins at,
pub record HoldsEntries (ps : List TokenAt) (before : List Token) (es : List EntryTree) (h : Draft)
    : Type 0 where
  pub entries : h.init.entries ≡ map entry_kept es
  pub stand : AreEntryStarts ps before es h.init.starts

-- a thread, with the bytes of its labels,
pub record HoldsThread (ps : List TokenAt) (t : ThreadTree) (h : Draft) : Type 0 where
  pub meant : steps_of h.table.threads ≡ thread_meaning t ∷ []
  pub noted : AreNoted ps (thread_notes [] (t.first ∷ t.others) ∷ []) h.table.threads

-- and a test.
pub record HoldsTest (ps : List TokenAt) (t : TestTree) (h : Draft) : Type 0 where
  pub name : h.name ≡ t.name
  pub init : HoldsEntries ps (before_entries t) (members t.init) h
  pub meant : steps_of h.table.threads ≡ columns_meaning 0 (t.others + 1) t.rows
  pub noted : AreNoted ps (columns_notes 0 (t.others + 1) (before_rows t) t.rows) h.table.threads
  pub observed : HoldsPlaces (map place_meaning (members t.observed)) h
  pub condition : HoldsCondition t.quantifier (tree_formula t.condition) h
