-- What is told of a model's file whose text reads and that has a fault.
use Rattle.std.specs.Prelude.{◌≡◌, ℕ, List, []}
use Rattle.cat_grammar.specs.declared.form.Form.TheVariants.{Model}
use Rattle.cat_grammar.specs.Reads.{ReadsClauses}
use Rattle.cat_tokens.specs.declared.rule.CatRule.{CatRule}
use Rattle.text_values.specs.ModelValues.{clauses_of}
use Rattle.text_values.specs.declared.model.ModelText.{ModelText}
use Rattle.command_answers.specs.Answer.{IsModelRefused}
use Rattle.command_answers.specs.declared.file.TextFile.{TextFile}
use Rattle.fault_texts.specs.Told.{IsModelFaultText}

-- the lines of its first fault, where it has one; a text that is refused is told elsewhere
pub data IsFaultTold (file : TextFile) (lines : List ℕ) : Type 0 where
  IsRead : (m : ModelText) → ReadsClauses Model file.text.items (clauses_of m.items.items)
      → IsModelFaultText file.path.now [] m.items.items lines → IsFaultTold file lines
  IsUnread : (rule : CatRule) → (offset : ℕ) → IsModelRefused file.text.items rule offset
      → lines ≡ [] → IsFaultTold file lines
