-- A text of a model, or of an item, has one fault.
use Rattle.std.proofs.Common.{◌≡◌, ℕ, ◌<◌, List, [], ◌∷◌, ◌++◌, Some, None, ◌⊎◌, inl, inr, sym, ap, ◌∙◌, subst, arith, append_assoc, append-nil}
use Rattle.cat_tokens.specs.declared.rule.CatRule.{CatRule}
use Rattle.cat_tokens.specs.declared.token.Token.{Token}
use Rattle.cat_tokens.specs.declared.token.Token.TheVariants as tokens
use Rattle.cat_tokens.specs.Tokens.{TokenAt, model_tokens_of}
use Rattle.cat_tokens.specs.Lexer.{model_lexing}
use Rattle.cat_grammar.specs.declared.form.Form.{Form}
use Rattle.cat_grammar.specs.Grammar.{Limits, model_limits, Means, BeginsForm, CanStand, BeginsText, BeforeAName, broken_rule, BreaksRule, Nowhere, TooMany, TooDeep, Plain, IsFormFault}
use Rattle.cat_grammar.proofs.Faults.{tokens_of-append}
use Rattle.cat_grammar.specs.Reads.{FaultAt, IsLong, InText}
use Rattle.text_reading_laws.proofs.Lists.{Cut, Same, Before, Behind, cut, last_cut}
use Rattle.text_reading_laws.proofs.CatRuns.{broken_nowhere, stands_by_both}

is_broken : (t : Token) (r : CatRule) → broken_rule t ≡ Some r → t ≡ tokens.Broken r
is_broken (tokens.Broken k) r e = let h : k ≡ r = cc in ap tokens.Broken h
is_broken _ r e = absurd cc

module _ (most : Limits) (form : Form) (some : 0 < most.nesting) (one : 0 < most.names)
    (two : 0 < most.parameters) where
  -- ---- the rule of a token that cannot stand

  module _ (before : List TokenAt) (here : TokenAt)
      (ends : CanStand most form (model_tokens_of before ++ here.token ∷ []) → ⊥) where
    abbrev all : List Token
    all = model_tokens_of before ++ here.token ∷ []

    nowhere : (r : CatRule) → broken_rule here.token ≡ Some r → (wider : Limits)
        → BeginsForm wider form all → ⊥
    nowhere r e wider b =
        broken_nowhere form wider (model_tokens_of before) r (subst
        (λ (t : Token). BeginsForm wider form (model_tokens_of before ++ t ∷ []))
        (is_broken here.token r e) b)

    own_rule : (r k : CatRule) → broken_rule here.token ≡ Some r → broken_rule here.token ≡ Some k
        → r ≡ k
    own_rule r k e h = let same : Some r ≡ Some k = sym e ∙ h in cc

    not_own : (r : CatRule) → broken_rule here.token ≡ Some r → broken_rule here.token ≡ None → ⊥
    not_own r e h = let same : Some r ≡ None = sym e ∙ h in absurd cc

    rule_one : (r k : CatRule) (n m : ℕ) → BreaksRule most form before here r n
        → BreaksRule most form before here k m → (r ≡ k) × (n ≡ m)
    rule_one r k n m (Nowhere e a) (Nowhere h b) = (own_rule r k e h, a ∙ sym b)
    rule_one r k n m (Nowhere e a) (TooMany wider depths text h b) = absurd (nowhere r e wider text)
    rule_one r k n m (Nowhere e a) (TooDeep wider counts text h b) = absurd (nowhere r e wider text)
    rule_one r k n m (Nowhere e a) (Plain none own h b) = absurd (not_own r e own)
    rule_one r k n m (TooMany wider depths text e a) (Nowhere h b) = absurd (nowhere k h wider text)
    rule_one r k n m (TooMany wider depths text e a) (TooMany other same also h b) =
        (e ∙ sym h, a ∙ sym b)
    rule_one r k n m (TooMany wider depths text e a) (TooDeep other counts also h b) =
        absurd (ends (stands_by_both most form (model_tokens_of before) here.token wider other some one
        two depths counts text also))
    rule_one r k n m (TooMany wider depths text e a) (Plain none own h b) = absurd (none wider text)
    rule_one r k n m (TooDeep wider counts text e a) (Nowhere h b) = absurd (nowhere k h wider text)
    rule_one r k n m (TooDeep wider counts text e a) (TooMany other depths also h b) =
        absurd (ends (stands_by_both most form (model_tokens_of before) here.token other wider some one
        two depths counts also text))
    rule_one r k n m (TooDeep wider counts text e a) (TooDeep other same also h b) =
        (e ∙ sym h, a ∙ sym b)
    rule_one r k n m (TooDeep wider counts text e a) (Plain none own h b) = absurd (none wider text)
    rule_one r k n m (Plain none own e a) (Nowhere h b) = absurd (not_own k h own)
    rule_one r k n m (Plain none own e a) (TooMany wider depths text h b) = absurd (none wider text)
    rule_one r k n m (Plain none own e a) (TooDeep wider counts text h b) = absurd (none wider text)
    rule_one r k n m (Plain none own e a) (Plain also mine h b) = (e ∙ sym h, a ∙ sym b)

  -- ---- the first token that cannot stand

  begins_prefix : (ts us : List Token) → BeginsForm most form (ts ++ us) → BeginsForm most form ts
  begins_prefix ts us b =
      record {
        rest = us ++ b.rest;
        items = b.items;
        text =
            subst (λ (xs : List Token). Means most form xs b.items) (append_assoc ts us b.rest)
            b.text;
      }

  stands_prefix : (ts us : List Token) → CanStand most form (ts ++ us) → CanStand most form ts
  stands_prefix ts us (BeginsText b) = BeginsText (begins_prefix ts us b)
  stands_prefix ts us (BeforeAName a) = by_cut (last_cut ts us a.earlier a.separator a.split)
    where
      by_cut : (us ≡ []) ⊎ ((rest : List Token) × (a.earlier ≡ ts ++ rest)) → CanStand most form ts
      by_cut (inl none) =
          subst (CanStand most form) (ap (λ (xs : List Token). ts ++ xs) none ∙ append-nil ts)
          (BeforeAName a)
      by_cut (inr more) =
          BeginsText (begins_prefix ts more.0 (subst (BeginsForm most form) more.1 a.begins))

  stands_before : (first second middle : List TokenAt) (here : TokenAt)
      → second ≡ first ++ here ∷ middle → CanStand most form (model_tokens_of second)
      → CanStand most form (model_tokens_of first ++ here.token ∷ [])
  stands_before first second middle here e b =
      let are : model_tokens_of second ≡ (model_tokens_of first ++ here.token ∷ []) ++ model_tokens_of middle = ap model_tokens_of e ∙ tokens_of-append first (here ∷ middle) ∙ sym (append_assoc (model_tokens_of first) (here.token ∷ []) (model_tokens_of middle)) in
      stands_prefix (model_tokens_of first ++ here.token ∷ []) (model_tokens_of middle)
      (subst (CanStand most form) are b)

  first_one : (ps : List TokenAt) (r k : CatRule) (n m : ℕ) → IsFormFault most form ps r n
      → IsFormFault most form ps k m → (r ≡ k) × (n ≡ m)
  first_one ps r k n m f g =
      by_cut (cut f.before g.before f.here g.here f.after g.after (sym f.split ∙ g.split))
    where
      by_cut : Cut f.before g.before f.here g.here → (r ≡ k) × (n ≡ m)
      by_cut (Same prefixes here) =
          let moved : BreaksRule most form f.before f.here k m = subst (λ (p : TokenAt). BreaksRule most form f.before p k m) (sym here) (subst (λ (qs : List TokenAt). BreaksRule most form qs g.here k m) (sym prefixes) g.refusal) in
          rule_one f.before f.here f.ends r k n m f.refusal moved
      by_cut (Before middle e) =
          absurd (f.ends (stands_before f.before g.before middle f.here e g.stand))
      by_cut (Behind middle e) =
          absurd (g.ends (stands_before g.before f.before middle g.here e f.stand))

-- ---- the fault of bytes

pub one_fault : (form : Form) (bytes : List ℕ) (rule other : CatRule) (offset again : ℕ)
    → FaultAt form bytes rule offset → FaultAt form bytes other again
    → (rule ≡ other) × (offset ≡ again)
one_fault form bytes rule other offset again (IsLong more r n) (IsLong also q m) =
    (r ∙ sym q, n ∙ sym m)
one_fault form bytes rule other offset again (IsLong more r n) (InText le g) = absurd (omega arith)
one_fault form bytes rule other offset again (InText le f) (IsLong more r n) = absurd (omega arith)
one_fault form bytes rule other offset again (InText le f) (InText also g) =
    first_one model_limits form (omega arith) (omega arith) (omega arith) (model_lexing bytes) rule other offset
    again f g
