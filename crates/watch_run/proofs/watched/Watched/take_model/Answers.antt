use Rattle.std.proofs.Common.{◌≡◌, List, ℕ, ◌∙◌, ap, subst, sym}
use Rattle.text_values.specs.ModelValues.{clauses_of}
use Rattle.cat_grammar.specs.declared.form.Form.TheVariants as forms
use Rattle.cat_grammar.specs.Reads.{ReadsClauses}
use Rattle.watch_run.proofs.Changing.{holds_so}
use Rattle.watch_run.proofs.Edited.{model_edited}
use Rattle.watch_run.proofs.watched.Watched.take_model.Goals as goal

pub returns-clause-kept : goal.returns-clause-kept
returns-clause-kept g c = λ held.
    let same : clauses_of c.in-Ok.new.items.items ≡ held.0 =
    c.in-Ok.ensures.only held.0
    (subst (λ (l : List ℕ). ReadsClauses forms.Model l held.0) (sym c.deref-3.ensures.value) held.1) in
    let put = c.in_ok-put_items.ensures.kept
    (holds_so _ _ _ _ _ _ (c.deref-4.ensures.value ∙ c.in_ok-name.ensures.name) same
    c.refusal.ensures.texts held.2) in
    record {
      texts = put.texts ∙ c.refusal.ensures.texts;
      counted = put.counted ∙ ap g.A.Author.counts c.refusal.ensures.author;
    }

pub returns-clause-edits : goal.returns-clause-edits
returns-clause-edits g c =
    model_edited c.args.index c.args.text.items _ _ _ _ _ _ _ _ _ _
    (c.deref-4.ensures.value ∙ c.in_ok-name.ensures.name)
    (c.in_ok-from_slice.ensures.items ∙ c.deref.ensures.value ∙ c.in_ok-name.ensures.name)
    (c.in_ok-from_slice-2.ensures.items ∙ c.deref-2.ensures.value)
    (subst (λ (l : List ℕ). ReadsClauses forms.Model l (clauses_of c.in-Ok.new.items.items))
    c.deref-3.ensures.value c.in-Ok.ensures.found)
    c.refusal.ensures.texts (ap g.A.Author.counts c.refusal.ensures.author)
    c.in_ok-put_items.ensures.edits
