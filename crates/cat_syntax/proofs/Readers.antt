-- What the reader answers is what the grammar says.
use Rattle.std.proofs.Common.{◌≡◌, ℕ, zero, suc, ◌+◌, ◌-◌, ◌<◌, ◌≤◌, List, [], ◌∷◌, ◌++◌, length, Result, Ok, Err, refl, sym, ap, ◌∙◌, subst, arith, inl, inr, ◌⊎◌}
use Rattle.std.specs.Prelude.{IfOk, IfErr, MatchResult}
use Rattle.std.proofs.lemmas.Bool.{cases_lt}
use Rattle.std.specs.declared.vec.Vec.{Vec}
use Rattle.std.specs.declared.alloc.Global.{Global}
use Rattle.cat_tokens.specs.declared.rule.CatRule.{CatRule}
use Rattle.cat_tokens.specs.declared.rule.CatRule.TheVariants.{TooLong}
use Rattle.cat_syntax.specs.declared.fault.CatFault.{CatFault}
use Rattle.cat_syntax.specs.declared.fault.CatFault.TheVariants as faults
use Rattle.cat_tokens.specs.declared.lexer.NextLexeme.{NextLexeme}
use Rattle.cat_tokens.specs.declared.lexer.NextLexeme.TheVariants.{Layout, Lexeme}
use Rattle.text_values.specs.declared.model.Item.{Item}
use Rattle.cat_grammar.specs.declared.form.Form.{Form}
use Rattle.cat_grammar.specs.declared.form.Form.TheVariants as forms
use Rattle.cat_tokens.specs.declared.token.Token.{Token}
use Rattle.cat_tokens.specs.declared.token.Token.TheVariants.{End}
use Rattle.text_values.specs.ModelValue.{Clause}
use Rattle.cat_tokens.specs.Tokens.{model_tokens_of}
use Rattle.cat_tokens.specs.Lexer.{first_model_lexeme, after_lexeme, tokens_from, model_lexing}
use Rattle.cat_syntax.specs.Faults.{IsCatMemory, IsCatFaultOf}
use Rattle.text_values.specs.ModelValues.{clause_of, clauses_of}
use Rattle.cat_syntax.specs.ReadingTexts.{reading, ReadsTo}
use Rattle.cat_grammar.specs.Reads.{ReadsClauses, FaultAt, IsLong, InText}
use Rattle.cat_syntax.proofs.Texts.{too_long, fits}
use Rattle.cat_grammar.proofs.Groups.{length-items_meaning}
use Rattle.cat_grammar.proofs.Outcomes.{no_fault, fault_found, items_found, items_only, refused_is, not_both}

-- the last token of a text is its end
ends_last : (skip offset : ℕ) (bytes : List ℕ)
    → (ts : List Token) × (model_tokens_of (tokens_from skip offset bytes) ≡ ts ++ End ∷ [])
unfolding tokens_from
ends_last skip offset [] = ([], refl)
ends_last (suc skip) offset (b ∷ bs) = ends_last skip (offset + 1) bs
ends_last zero offset (b ∷ bs) = by_lexeme (first_model_lexeme (b ∷ bs)) (λ skip. ends_last skip (offset + 1) bs)
  where
    by_lexeme : (f : NextLexeme)
        → ((skip : ℕ)
        → (ts : List Token)
        × (model_tokens_of (tokens_from skip (offset + 1) bs) ≡ ts ++ End ∷ []))
        → (ts : List Token)
        × (model_tokens_of (after_lexeme offset f (λ skip. tokens_from skip (offset + 1) bs))
        ≡ ts ++ End ∷ [])
    by_lexeme (Layout n) k = k (n - 1)
    by_lexeme (Lexeme t n) k = let r = k (n - 1) in (t ∷ r.0, ap (λ (us : List Token). t ∷ us) r.1)

module _ (form : Form) (bytes : List ℕ) where
  pub found : (r : Result (Vec Item Global) CatFault) → ReadsTo r (reading form bytes)
      → IfOk r (λ v. ReadsClauses form bytes (clauses_of v.items))
  found (Ok v) h = by_length (cases_lt 65536 (length bytes))
    where
      by_length : (65536 < length bytes) ⊎ (length bytes ≤ 65536)
          → ReadsClauses form bytes (clauses_of v.items)
      by_length (inl long) =
          absurd (not_both (TooLong, 65536) (clauses_of v.items)
          (sym (too_long form bytes long) ∙ h))
      by_length (inr le) =
          let e = ends_last 0 0 bytes in
          record { short = le; means = items_found form (model_lexing bytes) e.0 e.1 (clauses_of v.items) (sym (fits form bytes le) ∙ h) }
  found (Err e) h = tt

  pub only : (r : Result (Vec Item Global) CatFault) → ReadsTo r (reading form bytes)
      → (v : List Clause) → ReadsClauses form bytes v
      → MatchResult r (λ w. clauses_of w.items ≡ v) IsCatMemory
  only (Ok w) h v m =
      items_only form (model_lexing bytes) (clauses_of w.items) v (sym (fits form bytes m.short) ∙ h)
      m.means
  only (Err (faults.OutOfMemory e)) h v m = tt
  only (Err (faults.Refused rule offset)) h v m =
      no_fault form (model_lexing bytes) v rule offset m.means (fault_found form (model_lexing bytes) rule offset
      (sym (fits form bytes m.short) ∙ h))

  pub fault : (r : Result (Vec Item Global) CatFault) → ReadsTo r (reading form bytes)
      → IfErr r (IsCatFaultOf form bytes)
  fault (Ok v) h = tt
  fault (Err (faults.OutOfMemory e)) h = tt
  fault (Err (faults.Refused rule offset)) h = by_length (cases_lt 65536 (length bytes))
    where
      by_length : (65536 < length bytes) ⊎ (length bytes ≤ 65536) → FaultAt form bytes rule offset
      by_length (inl long) =
          let e : (rule, offset) ≡ (TooLong, 65536) = refused_is (rule, offset) (TooLong, 65536) (sym h ∙ too_long form bytes long) in
          IsLong long (ap (λ (p : CatRule × ℕ). p.0) e) (ap (λ (p : CatRule × ℕ). p.1) e)
      by_length (inr le) =
          InText le (fault_found form (model_lexing bytes) rule offset (sym (fits form bytes le) ∙ h))

-- ---- one item

many-pushed : (xs : List Item) (x : Item) → length (clauses_of (xs ++ x ∷ [])) ≡ length xs + 1
many-pushed [] x = refl
many-pushed (y ∷ xs) x = let i = many-pushed xs x in omega arith

is_one : (bytes : List ℕ) (v : List Clause) → ReadsClauses forms.Item bytes v → length v ≡ 1
is_one bytes v r =
    sym (ap length r.means.meant) ∙ length-items_meaning r.means.items ∙ r.means.form_is.1

-- the item that a text is, alone
pub the_one : (bytes : List ℕ) (all rest : List Item) (x : Item)
    → ReadsClauses forms.Item bytes (clauses_of all) → all ≡ rest ++ x ∷ []
    → clauses_of all ≡ clause_of x ∷ []
the_one bytes all [] x r e = ap clauses_of e
the_one bytes all (y ∷ rest) x r e =
    let m = many-pushed (y ∷ rest) x in
    let n : length (clauses_of ((y ∷ rest) ++ x ∷ [])) ≡ 1 = ap (λ (is : List Item). length (clauses_of is)) (sym e) ∙ is_one bytes (clauses_of all) r in
    absurd (omega arith)

pub item_found : (bytes : List ℕ) (all rest : List Item) (x : Item)
    → ReadsClauses forms.Item bytes (clauses_of all) → all ≡ rest ++ x ∷ []
    → ReadsClauses forms.Item bytes (clause_of x ∷ [])
item_found bytes all rest x r e = subst (ReadsClauses forms.Item bytes) (the_one bytes all rest x r e) r

abbrev first : Clause → List Clause → Clause
first d [] = d
first d (c ∷ cs) = c

pub item_only : (bytes : List ℕ) (all rest : List Item) (x : Item)
    → ReadsClauses forms.Item bytes (clauses_of all) → all ≡ rest ++ x ∷ []
    → ((v : List Clause) → ReadsClauses forms.Item bytes v → clauses_of all ≡ v) → (v : Clause)
    → ReadsClauses forms.Item bytes (v ∷ []) → clause_of x ≡ v
item_only bytes all rest x r e h v m =
    ap (first v) (sym (the_one bytes all rest x r e) ∙ h (v ∷ []) m)

many-clauses : (all : List Item) → length (clauses_of all) ≡ length all
many-clauses [] = refl
many-clauses (y ∷ all) = let i = many-clauses all in omega arith

pub some_item : (bytes : List ℕ) (all : List Item) → ReadsClauses forms.Item bytes (clauses_of all)
    → length all ≡ 0 → ⊥
some_item bytes all r e =
    let n = is_one bytes (clauses_of all) r in
    let m = many-clauses all in
    absurd (omega arith)
