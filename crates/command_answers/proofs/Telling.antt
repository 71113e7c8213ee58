-- What is told of a model that was read.
use Rattle.std.proofs.Common.{◌≡◌, ℕ, List, [], Result, Ok, Err, IfOk, subst}
use Rattle.std.specs.declared.alloc.Global.{Global}
use Rattle.std.specs.declared.alloc.AllocError.{AllocError}
use Rattle.std.specs.declared.vec.Vec.{Vec}
use Rattle.cat_grammar.specs.declared.form.Form.TheVariants.{Model}
use Rattle.cat_grammar.specs.Reads.{ReadsClauses}
use Rattle.text_values.specs.ModelValues.{clauses_of}
use Rattle.text_values.specs.declared.model.ModelText.{ModelText}
use Rattle.text_values.specs.declared.model.Item.{Item}
use Rattle.command_answers.specs.Told.{IsFaultTold, IsRead}
use Rattle.command_answers.specs.declared.file.TextFile.{TextFile}
use Rattle.fault_texts.specs.Told.{IsModelFaultText}

-- the lines of the model that the file's text means
pub fault_told_of : (r : Result (Vec ℕ Global) AllocError) (file : TextFile) (m : ModelText)
    (text name : List ℕ) (items : List Item)
    → ReadsClauses Model text (clauses_of m.items.items) → text ≡ file.text.items → name ≡ file.path.now
    → items ≡ m.items.items
    → IfOk r (λ v. IsModelFaultText name [] items v.items) → IfOk r (λ v. IsFaultTold file v.items)
fault_told_of (Ok v) file m text name items reads same_text same_name same_items told =
    IsRead m (subst (λ (l : List ℕ). ReadsClauses Model l (clauses_of m.items.items)) same_text reads)
    (subst (λ (n : List ℕ). IsModelFaultText n [] m.items.items v.items) same_name
    (subst (λ (l : List Item). IsModelFaultText name [] l v.items) same_items told))
fault_told_of (Err e) file m text name items reads same_text same_name same_items told = tt
