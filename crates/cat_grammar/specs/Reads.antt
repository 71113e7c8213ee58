-- What a text reads as, and where it is at fault.
use Rattle.std.specs.Prelude.{◌≡◌, ℕ, ◌<◌, ◌≤◌, List, length}
use Rattle.cat_tokens.specs.declared.rule.CatRule.{CatRule}
use Rattle.cat_tokens.specs.declared.rule.CatRule.TheVariants.{TooLong}
use Rattle.cat_grammar.specs.declared.form.Form.{Form}
use Rattle.text_values.specs.ModelValue.{Clause}
use Rattle.cat_grammar.specs.Grammar.{model_limits, Means, IsFormFault}
use Rattle.cat_tokens.specs.Tokens.{model_tokens_of}
use Rattle.cat_tokens.specs.Lexer.{model_lexing}

-- no text is longer than 65,536 bytes, and its tokens mean these items
pub record ReadsClauses (form : Form) (bytes : List ℕ) (v : List Clause) : Type 0 where
  pub short : length bytes ≤ 65536
  pub means : Means model_limits form (model_tokens_of (model_lexing bytes)) v

-- the length is looked at first, and then the tokens
pub data FaultAt (form : Form) (bytes : List ℕ) (rule : CatRule) (offset : ℕ) : Type 0 where
  IsLong : 65536 < length bytes → rule ≡ TooLong → offset ≡ 65536 → FaultAt form bytes rule offset
  InText : length bytes ≤ 65536 → IsFormFault model_limits form (model_lexing bytes) rule offset
      → FaultAt form bytes rule offset
