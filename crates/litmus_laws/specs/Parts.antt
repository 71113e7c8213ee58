-- The parts of a text, and the rule that each gives to what cannot stand in it.
use Rattle.std.specs.Prelude.{◌≡◌, ℕ, List, [], ◌∷◌, ◌++◌, Bool, true, false, codes, take, drop}
use Rattle.litmus_tokens.specs.declared.rule.LitmusRule.{LitmusRule}
use Rattle.litmus_tokens.specs.declared.rule.LitmusRule.TheVariants as rules
use Rattle.litmus_tokens.specs.declared.token.Token.{Token}
use Rattle.litmus_tokens.specs.declared.token.Token.TheVariants as tokens
use Rattle.litmus_tokens.specs.Faults.{IsFault}
use Rattle.litmus_tokens.specs.Texts.{TokenAt, test_tokens_of}
use Rattle.litmus_tokens.specs.declared.stage.Stage.{Stage}
use Rattle.litmus_tokens.specs.declared.stage.Stage.TheVariants.{Magic}
use Rattle.litmus_tokens.specs.Conditions.{condition_limits}
use Rattle.litmus_table.specs.Grammar.{spelled_header, spelled_rows}
use Rattle.litmus_grammar.specs.Grammar.{TestTree, spelled_text, spelled_keylines, spelled_init, spelled_observed, spelled_condition, IsTestText}
use Rattle.litmus_grammar.specs.Texts.{IsStart}

-- tokens, and the rule that is broken by what cannot stand among them, where no other rule is named
pub record RulePart : Type 0 where
  pub rule : LitmusRule
  pub tokens : List Token

abbrev pub part : LitmusRule → List Token → RulePart
part r ts = record { rule = r; tokens = ts }

abbrev pub tokens_in : List RulePart → List Token
tokens_in [] = []
tokens_in (p ∷ ps) = p.tokens ++ tokens_in ps

-- what stands behind the table
abbrev pub tail_of : TestTree → List Token
tail_of t = spelled_observed t.observed (spelled_condition t.quantifier t.condition)

-- The parts of a test. The token that begins what stands behind the table ends the table.
abbrev pub test_parts : TestTree → List RulePart
test_parts t =
    part rules.NotPpc (tokens.Word (codes "PPC") ∷ [])
    ∷ part rules.Name (tokens.Word t.name ∷ tokens.LineEnd ∷ [])
    ∷ part rules.Init (spelled_text t.text (spelled_keylines t.keylines (spelled_init t.init [])))
    ∷ part rules.Header (spelled_header t.others [])
    ∷ part rules.Instruction (spelled_rows t.rows (take 1 (tail_of t)))
    ∷ part rules.Condition (drop 1 (tail_of t))
    ∷ []

-- this token stands in a part with this rule, behind these tokens of the whole text
pub record StandsIn (ps : List RulePart) (before : List Token) (here : Token) (rule : LitmusRule)
    : Type 0 where
  pub earlier : List RulePart
  pub its : RulePart
  pub later : List RulePart
  pub inner : List Token
  pub others : List Token
  pub split : ps ≡ earlier ++ its ∷ later
  pub inside : its.tokens ≡ inner ++ here ∷ others
  pub behind : before ≡ tokens_in earlier ++ inner
  pub rule_is : its.rule ≡ rule

-- a rule that tokens break by what they are
abbrev pub is_named : LitmusRule → Bool
is_named rules.TypedDeclaration = true
is_named rules.Columns = true
is_named rules.ZeroBase = true
is_named rules.Offset = true
is_named rules.Filter = true
is_named rule = false

-- the rule that this token breaks in a part: one that is named for it, or the part's
pub data IsRuleOfToken (here : Token) (of_part rule : LitmusRule) : Type 0 where
  OfToken : here ≡ tokens.Broken rule → IsRuleOfToken here of_part rule
  Named : is_named rule ≡ true → IsRuleOfToken here of_part rule
  OfPart : rule ≡ of_part → IsRuleOfToken here of_part rule

-- the fault of a test, as its reader looks for it
abbrev pub IsTestTokenFault : List TokenAt → LitmusRule → ℕ → Type 0
IsTestTokenFault ps rule offset = IsFault (IsStart (IsTestText condition_limits) Magic) Magic ps rule offset

-- it is numbered by the part of this test in which the refused token would stand, behind the tokens
-- before it
abbrev pub IsOfItsPart : (ps : List TokenAt) (rule : LitmusRule) (offset : ℕ)
    → IsTestTokenFault ps rule offset → TestTree → Type 0
IsOfItsPart ps rule offset f t =
    (there : Token) (of_part : LitmusRule)
    → StandsIn (test_parts t) (test_tokens_of f.before) there of_part
    → IsRuleOfToken f.here.token of_part rule

-- ---- parts that are read alone: each token that they name no rule for has the part's

abbrev pub IsOfPart : {IsText : List Token → Type 0} {start : Stage} {ps : List TokenAt}
    {rule : LitmusRule} {offset : ℕ}
    → LitmusRule → IsFault IsText start ps rule offset → Type 0
IsOfPart {IsText} {start} {ps} {rule} {offset} of_part f = IsRuleOfToken f.here.token of_part rule
