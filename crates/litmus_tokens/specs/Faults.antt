-- The fault of a list of tokens that is no text of some grammar: where it stands, and the rule that
-- it breaks.
use Rattle.std.specs.Prelude.{◌≡◌, ℕ, ◌⊎◌, List, [], ◌∷◌, ◌++◌, true, false, codes, if◌then◌else◌}
use Rattle.std.specs.Str.{bytes_eq}
use Rattle.litmus_tokens.specs.declared.rule.LitmusRule.{LitmusRule}
use Rattle.litmus_tokens.specs.declared.rule.LitmusRule.TheVariants as rules
use Rattle.litmus_tokens.specs.declared.stage.Stage.{Stage}
use Rattle.litmus_tokens.specs.declared.stage.Stage.TheVariants.{Init, CellBegins, InCell, Tail}
use Rattle.litmus_tokens.specs.declared.token.Token.{Token}
use Rattle.litmus_tokens.specs.declared.token.Token.TheVariants as tokens
use Rattle.litmus_tokens.specs.declared.token.Mark.TheVariants.{Semicolon, Bar}
use Rattle.litmus_tokens.specs.Stage.{part_rule}
use Rattle.litmus_tokens.specs.Texts.{TokenAt, test_tokens_of, stage_after}
use Rattle.litmus_tokens.specs.Words.{is_filter, is_int}

-- some text begins with these tokens
pub record Begins (IsText : List Token → Type 0) (ts : List Token) : Type 0 where
  pub rest : List Token
  pub text : IsText (ts ++ rest)

-- some text begins with these tokens and this one
abbrev pub CanFollow : (List Token → Type 0) → List Token → Token → Type 0
CanFollow IsText ts t = Begins IsText (ts ++ t ∷ [])

-- the rule that a token breaks which cannot stand: one of its own, or one that it breaks only where
-- another token could stand in its place, and else that of the part
pub data Ruling : Type 0 where
  Always : (rule : LitmusRule) → Ruling
  Where : (other : Token) (rule : LitmusRule) → Ruling

-- what could stand in place of a separator, a zero register, an offset, or a word that herd7 knows
abbrev pub cell_ruling : Stage → Token → Ruling
cell_ruling s (tokens.Mark Semicolon) = Where (tokens.Mark Bar) rules.Columns
cell_ruling s (tokens.Mark Bar) = Where (tokens.Mark Semicolon) rules.Columns
cell_ruling s (tokens.Word w) =
    if bytes_eq w (codes "r0") then Where (tokens.Word (codes "r1")) rules.ZeroBase else (
    if is_filter w then Where (tokens.Word (codes "exists")) rules.Filter else Always (part_rule s))
cell_ruling s (tokens.Number negative ds) =
    if is_int negative ds then Where (tokens.Number false []) rules.Offset else Always (part_rule s)
cell_ruling s t = Always (part_rule s)

-- a word behind a word in the init block, and `filter` or `final` behind the table
abbrev pub word_ruling : Stage → List ℕ → Ruling
word_ruling (Init alone true) w = Always rules.TypedDeclaration
word_ruling Tail w = if is_filter w then Always rules.Filter else Always rules.Condition
word_ruling s w = Always (part_rule s)

abbrev pub part_ruling : Stage → Token → Ruling
part_ruling CellBegins t = cell_ruling CellBegins t
part_ruling InCell t = cell_ruling InCell t
part_ruling s (tokens.Word w) = word_ruling s w
part_ruling s t = Always (part_rule s)

abbrev pub ruling : Stage → Token → Ruling
ruling s (tokens.Broken rule) = Always rule
ruling s t = part_ruling s t

-- what a ruling says, where these tokens can stand
abbrev pub RulingSays : (Token → Type 0) → Stage → Ruling → LitmusRule → Type 0
RulingSays CanStand s (Always n) k = k ≡ n
RulingSays CanStand s (Where other n) k =
    (CanStand other × (k ≡ n)) ⊎ ((CanStand other → ⊥) × (k ≡ part_rule s))

-- The tokens before the offset begin some text, and with the token at the offset they begin none.
pub record IsFault (IsText : List Token → Type 0) (start : Stage) (ps : List TokenAt)
    (rule : LitmusRule) (offset : ℕ) : Type 0 where
  pub before : List TokenAt
  pub here : TokenAt
  pub behind : List TokenAt
  pub split : ps ≡ before ++ here ∷ behind
  pub begins : Begins IsText (test_tokens_of before)
  pub ends : CanFollow IsText (test_tokens_of before) here.token → ⊥
  pub at_place : here.offset ≡ offset
  pub number :
      let s = stage_after start (test_tokens_of before) in
      RulingSays (CanFollow IsText (test_tokens_of before)) s (ruling s here.token) rule
