-- What a run over the tokens of a text gives is what the grammar says.
use Rattle.std.proofs.Common.{◌≡◌, ℕ, ◌+◌, Bool, true, false, List, [], ◌∷◌, ◌++◌, Result, Ok, Err, length, refl, sym, ap, ◌∙◌, subst, arith, append_assoc}
use Rattle.std.specs.Prelude.{◌==◌, if◌then◌else◌}
use Rattle.cat_tokens.specs.declared.rule.CatRule.{CatRule}
use Rattle.cat_tokens.specs.declared.rule.CatRule.TheVariants as rules
use Rattle.text_values.specs.declared.model.Postfix.TheVariants as postfix
use Rattle.cat_grammar.specs.declared.form.Form.{Form}
use Rattle.cat_grammar.specs.declared.form.Form.TheVariants as forms
use Rattle.cat_tokens.specs.declared.token.Token.{Token}
use Rattle.cat_tokens.specs.declared.token.Token.TheVariants as tokens
use Rattle.text_values.specs.ModelValue.{Term, Clause, Atom, Mark}
use Rattle.cat_grammar.specs.Grammar.{Limits, model_limits, Means, BeginsText, IsFormFault}
use Rattle.cat_tokens.specs.Tokens.{TokenAt, model_tokens_of}
use Rattle.cat_grammar.specs.Machine.{TermFrame, TermExpectation, Wants, HasBrace, HasName, Has, HasStar, HasStarTilde, fold_to, term_ended, expression_step}
use Rattle.cat_grammar.specs.ItemMachine as items
use Rattle.cat_grammar.specs.ItemMachine.{Keyword, Named, And, Parameter, AfterParameter, Parameters, Head, Part, Start, InLet, AfterFlag, AfterTilde, Body, Label, ShowLabel, AfterShowLabel, AfterInclude, Done, Fault, Here, ItemState, end_of, item_or_end, finished, shown_clause, at, added, goes_on, step_part, clause_step, clause_start}
use Rattle.cat_grammar.specs.Running.{ItemsResult, run_items, items_of}
use Rattle.cat_grammar.proofs.Runs.{◌>>=◌, run_over}
use Rattle.cat_grammar.proofs.SoundItems.{sound}
use Rattle.cat_grammar.proofs.CompleteItems.{complete}
use Rattle.cat_grammar.proofs.Faults.{Outcome, outcome, tokens_of-append}

-- ---- the end of the text is taken last

abbrev IsDone : Result ItemState Fault → Type 0
IsDone (Ok s) = s.part ≡ Done
IsDone (Err e) = Unit {0}

end_done : (form : Form) (cs : List Clause) (n : ℕ) → IsDone (at cs (end_of form n))
end_done forms.Model cs n = refl
end_done forms.Item cs n = choose (n == 0)
  where
    choose : (b : Bool) → IsDone (at cs (if b then Err (Here rules.Syntax) else Ok Done))
    choose true = tt
    choose false = refl

added_done : (most : Limits) (form : Form) (cs : List Clause) (x : Result Clause Fault)
    → IsDone (added cs x (λ n. item_or_end most form n tokens.End))
added_done most form cs (Ok c) = end_done form (cs ++ c ∷ []) (length cs + 1)
added_done most form cs (Err e) = tt

ended_done : (most : Limits) (form : Form) (cs : List Clause) (h : Head) (fs : List TermFrame)
    (v : Term) → IsDone (goes_on most form cs h tokens.End (term_ended tokens.End (fs, v)))
ended_done most form cs h [] v = added_done most form cs (finished h v rules.Syntax)
ended_done most form cs h (f ∷ fs) v = tt

folded_done : (most : Limits) (form : Form) (cs : List Clause) (h : Head) (p : List TermFrame × Term)
    → IsDone (goes_on most form cs h tokens.End (term_ended tokens.End p))
folded_done most form cs h (fs, v) = ended_done most form cs h fs v

body_done : (most : Limits) (form : Form) (cs : List Clause) (h : Head) (fs : List TermFrame) (used : ℕ)
    (expected : TermExpectation)
    → IsDone (goes_on most form cs h tokens.End (expression_step most fs used expected tokens.End))
body_done most form cs h fs used Wants = tt
body_done most form cs h fs used HasBrace = tt
body_done most form cs h fs used (HasName n) = folded_done most form cs h (fold_to 0 fs (Atom n))
body_done most form cs h fs used (Has v) = folded_done most form cs h (fold_to 0 fs v)
body_done most form cs h fs used (HasStar v) =
    folded_done most form cs h (fold_to 0 fs (Mark postfix.Closure v))
body_done most form cs h fs used (HasStarTilde v) = tt

let_done : (most : Limits) (cs : List Clause) (q : items.LetPart)
    → IsDone (at cs (items.after_let most q tokens.End))
let_done most cs Keyword = tt
let_done most cs (Named n) = tt
let_done most cs (And g) = tt
let_done most cs (items.Bound g n) = tt
let_done most cs (Parameter n ps) = tt
let_done most cs (AfterParameter n ps) = tt
let_done most cs (Parameters n ps) = tt

part_done : (most : Limits) (form : Form) (cs : List Clause) (p : Part)
    → IsDone (step_part most form cs p tokens.End)
part_done most form cs items.Title = end_done form cs (length cs)
part_done most form cs Start = end_done form cs (length cs)
part_done most form cs (InLet q) = let_done most cs q
part_done most form cs AfterFlag = tt
part_done most form cs (AfterTilde flagged) = tt
part_done most form cs (Body h fs used expected) = body_done most form cs h fs used expected
part_done most form cs (Label h v) = tt
part_done most form cs (ShowLabel s v) = tt
part_done most form cs (AfterShowLabel s) = added_done most form cs (Ok (shown_clause s))
part_done most form cs AfterInclude = tt
part_done most form cs Done = tt

abbrev part_in : Result ItemState Fault → Part
part_in (Ok y) = y.part
part_in (Err k) = Done

run_over_done : (most : Limits) (form : Form) (s : ItemState) (ts : List Token) (s' : ItemState)
    → run_over most form s (ts ++ tokens.End ∷ []) ≡ Ok s' → s'.part ≡ Done
run_over_done most form s [] s' e =
    by_end (clause_step most form s tokens.End) (part_done most form s.items s.part) e
  where
    by_end : (r : Result ItemState Fault) → IsDone r → (r >>= λ x. Ok x) ≡ Ok s' → s'.part ≡ Done
    by_end (Ok x) d h = sym (ap part_in h) ∙ d
    by_end (Err k) d h = absurd cc
run_over_done most form s (t ∷ ts) s' e =
    by_step (clause_step most form s t) e (λ x k. run_over_done most form x ts s' k)
  where
    by_step : (r : Result ItemState Fault)
        → (r >>= λ x. run_over most form x (ts ++ tokens.End ∷ [])) ≡ Ok s'
        → ((x : ItemState) → run_over most form x (ts ++ tokens.End ∷ []) ≡ Ok s' → s'.part ≡ Done)
        → s'.part ≡ Done
    by_step (Ok x) k f = f x k
    by_step (Err d) k f = absurd cc

-- ---- what is read

abbrev pub kept : List Clause → Result (List Clause) (CatRule × ℕ)
kept cs = Ok cs

abbrev pub refused : CatRule × ℕ → Result (List Clause) (CatRule × ℕ)
refused e = Err e

kept_is : (a b : List Clause) → kept a ≡ kept b → a ≡ b
kept_is a b e = cc

pub refused_is : (a b : CatRule × ℕ) → refused a ≡ refused b → a ≡ b
refused_is a b e = cc

pub not_both : (e : CatRule × ℕ) (cs : List Clause) → refused e ≡ kept cs → ⊥
not_both e cs h = absurd cc

-- a text that means some items has no fault
pub no_fault : (form : Form) (ps : List TokenAt) (v : List Clause) (r : CatRule) (n : ℕ)
    → Means model_limits form (model_tokens_of ps) v → IsFormFault model_limits form ps r n → ⊥
no_fault form ps v r n m f =
    let e : model_tokens_of ps ≡ (model_tokens_of f.before ++ f.here.token ∷ []) ++ model_tokens_of f.after = ap model_tokens_of f.split ∙ tokens_of-append f.before (f.here ∷ f.after) ∙ sym (append_assoc (model_tokens_of f.before) (f.here.token ∷ []) (model_tokens_of f.after)) in
    f.ends (BeginsText (record {
      rest = model_tokens_of f.after;
      items = v;
      text = subst (λ ts. Means model_limits form ts v) e m;
    }))

module _ (form : Form) (ps : List TokenAt) where
  abbrev made : ItemsResult
  made = run_items model_limits form 0 (clause_start form) ps

  is_outcome : (r : ItemsResult) → made ≡ r → Outcome model_limits form ps r
  is_outcome r e =
      subst (Outcome model_limits form ps) e (outcome model_limits form ps (omega arith) (omega arith)
      (omega arith))

  pub fault_found : (r : CatRule) (n : ℕ) → items_of made ≡ Err (r, n) → IsFormFault model_limits form ps r n
  fault_found r n e = by_run made refl e
    where
      by_run : (x : ItemsResult) → made ≡ x → items_of x ≡ Err (r, n) → IsFormFault model_limits form ps r n
      by_run (Ok s) q h = absurd (not_both (r, n) s.items (sym h))
      by_run (Err d) q h =
          subst (λ (x : CatRule × ℕ). IsFormFault model_limits form ps x.0 x.1) (refused_is d (r, n) h)
          (is_outcome (Err d) q)

  module _ (ts : List Token) (ends : model_tokens_of ps ≡ ts ++ tokens.End ∷ []) where
    pub items_found : (cs : List Clause) → items_of made ≡ Ok cs
        → Means model_limits form (model_tokens_of ps) cs
    items_found cs e = by_run made refl e
      where
        by_run : (x : ItemsResult) → made ≡ x → items_of x ≡ Ok cs → Means model_limits form (model_tokens_of ps) cs
        by_run (Ok s) q h =
            let all = is_outcome (Ok s) q in
            let last : s.part ≡ Done = run_over_done model_limits form (clause_start form) ts s (ap (run_over model_limits form (clause_start form)) (sym ends) ∙ all) in
            let whole : run_over model_limits form (clause_start form) (model_tokens_of ps) ≡ Ok (record { items = cs; part = Done }) = all ∙ ap (λ (p : Part). Ok (record { items = s.items; part = p })) last ∙ ap (λ (x : List Clause). Ok (record { items = x; part = Done })) (kept_is s.items cs h) in
            sound model_limits form (model_tokens_of ps) cs (omega arith) (omega arith) whole
        by_run (Err d) q h = absurd (not_both d cs h)

  abbrev items_in : Result ItemState Fault → List Clause
  items_in (Ok s) = s.items
  items_in (Err e) = []

  pub items_only : (cs v : List Clause) → items_of made ≡ Ok cs → Means model_limits form (model_tokens_of ps) v
      → cs ≡ v
  items_only cs v e m = by_run made refl e
    where
      by_run : (x : ItemsResult) → made ≡ x → items_of x ≡ Ok cs → cs ≡ v
      by_run (Ok s) q h =
          sym (kept_is s.items cs h)
          ∙ ap items_in (sym (is_outcome (Ok s) q) ∙ complete model_limits form (model_tokens_of ps) v m)
      by_run (Err d) q h = absurd (not_both d cs h)
