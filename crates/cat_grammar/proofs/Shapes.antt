-- What one step does: the limits bear on it in one place alone, and its fault is that of the
-- grammar.
use Rattle.std.proofs.Common.{◌≡◌, ℕ, ◌+◌, Bool, true, false, List, [], ◌∷◌, ◌++◌, Option, Some, None, Result, Ok, Err, length, refl, sym, ap, ◌∙◌, subst, ◌⊎◌, inl, inr}
use Rattle.std.specs.Prelude.{nat_lt, ◌==◌, ◌&&◌, if◌then◌else◌}
use Rattle.cat_tokens.specs.declared.rule.CatRule.{CatRule}
use Rattle.cat_tokens.specs.declared.rule.CatRule.TheVariants as rules
use Rattle.text_values.specs.declared.model.CheckWord.{CheckWord}
use Rattle.text_values.specs.declared.model.Infix.TheVariants.{Product}
use Rattle.text_values.specs.declared.model.Postfix.TheVariants as postfix
use Rattle.cat_grammar.specs.declared.form.Form.{Form}
use Rattle.cat_grammar.specs.declared.form.Form.TheVariants as forms
use Rattle.cat_grammar.specs.declared.form.CheckHead.{CheckHead}
use Rattle.cat_tokens.specs.declared.token.Token.{Token}
use Rattle.cat_tokens.specs.declared.token.Token.TheVariants as tokens
use Rattle.text_values.specs.ModelValue.{Term, Clause, Atom, AllEvents, EmptyRelation, Mark, Checking, Including}
use Rattle.cat_grammar.specs.Grammar.{Limits, IsSeparator, broken_rule, is_include, is_name, is_rec_or_and, is_tilde, is_check, plain_rule, has_no_effect}
use Rattle.cat_grammar.specs.Machine.{TermFrame, InGroup, InSquare, InPrefix, LeftOf, InArguments, TermExpectation, Wants, HasBrace, HasName, Has, HasStar, HasStarTilde, TermStep, Goes, Ends, EndsTilde, Refuses, open_count, fold_to, is_outermost, operand, after_brace, infix_at, term_ended, term_closed, square_closed, comma_read, operand_after, after_name, star_tilde, star_then, after_star, after_star_tilde, expression_step}
use Rattle.cat_tokens.specs.Tokens.{rule_of, begins_operand, infix_of, postfix_of}
use Rattle.cat_grammar.specs.ItemMachine as items
use Rattle.cat_grammar.specs.ItemMachine.{Group, Keyword, Named, And, Parameter, AfterParameter, Parameters, Head, BoundHead, FunctionHead, CheckedHead, ShownHead, Part, Start, InLet, AfterFlag, AfterTilde, Body, Label, ShowLabel, AfterShowLabel, AfterInclude, Done, Fault, Here, Before, ItemState, begin_body, begin_check, begin_show, begin_item, excess, unless, unless_before, end_of, item_or_end, after_title, after_tilde, after_flag, fresh, extended, after_keyword, bound_name, parameter_read, after_parameter, after_let_name, after_bound, after_parameters, after_let, checked, shown_also, shown_clause, finished, at, added, clause_ended, and_read, label_start, shown_on, after_body, labelled, after_as, after_show_as, after_show_label, after_include, goes_on, step_part, clause_step}
use Rattle.cat_grammar.proofs.Finishes.{has_offset}

-- ---- what the last two tokens say of the state

-- no other file and no function's parenthesis can follow
abbrev pub Quiet : Token × Token → Type 0
Quiet p = (is_include p.1 ≡ false) × ((is_name p.1 && is_rec_or_and p.0) ≡ false)

abbrev pub Settled : Token × Token → Type 0
Settled p = Quiet p × (is_rec_or_and p.1 ≡ false)

abbrev pub Calm : Token × Token → Type 0
Calm p = Settled p × (is_tilde p.1 ≡ false)

abbrev KnowsExpectation : Token × Token → TermExpectation → Type 0
KnowsExpectation p Wants = Settled p
KnowsExpectation p HasBrace = Calm p
KnowsExpectation p (HasName n) = Calm p
KnowsExpectation p (Has v) = Calm p
KnowsExpectation p (HasStar v) = Calm p
KnowsExpectation p (HasStarTilde v) = p.1 ≡ tokens.Tilde

abbrev KnowsLet : Token × Token → items.LetPart → Type 0
KnowsLet p (And g) =
    ((is_include p.1 ≡ false) × (is_name p.1 ≡ false)) × (is_rec_or_and p.1 ≡ true)
    × (IsSeparator p.1 ⊎ (length g.bindings ≡ 0))
KnowsLet p (items.Bound g n) = (p.1 ≡ tokens.Name n) × (is_rec_or_and p.0 ≡ true)
KnowsLet p (Parameter n ps) = Calm p × (IsSeparator p.1 ⊎ (length ps ≡ 0))
KnowsLet p Keyword = Calm p
KnowsLet p (Named n) = Calm p
KnowsLet p (AfterParameter n ps) = Calm p
KnowsLet p (Parameters n ps) = Calm p

abbrev pub KnowsPart : Token × Token → Part → Type 0
KnowsPart p items.Title = Calm p
KnowsPart p Start = Calm p
KnowsPart p (InLet q) = KnowsLet p q
KnowsPart p AfterFlag = Calm p
KnowsPart p (AfterTilde flagged) = Settled p
KnowsPart p (Body h fs used expected) = KnowsExpectation p expected
KnowsPart p (Label h v) = Calm p
KnowsPart p (ShowLabel s v) = Calm p
KnowsPart p (AfterShowLabel s) = Calm p
KnowsPart p AfterInclude = p.1 ≡ tokens.Include
KnowsPart p Done = Calm p

-- a name after what is settled
calm_name : (p : Token × Token) (n : List ℕ) → is_rec_or_and p.1 ≡ false → Calm (p.1, tokens.Name n)
calm_name p n h = (((refl, h), refl), refl)

tilde_settled : (p : Token × Token) → p.1 ≡ tokens.Tilde → Settled p
tilde_settled p e =
    ((ap is_include e, ap (λ (t : Token). is_name t && is_rec_or_and p.0) e), ap is_rec_or_and e)

-- ---- which rule a token breaks that can stand under no limits

pub data RuleIs (p : Token × Token) (t : Token) (k : CatRule) : Type 0 where
  Broke : broken_rule t ≡ Some k → RuleIs p t k
  Plainly : broken_rule t ≡ None → k ≡ plain_rule p t → RuleIs p t k

-- where nothing else is known, it is the token's own
plainly : (p : Token × Token) (t : Token) → Quiet p → RuleIs p t (rule_of t)
plainly p (tokens.Broken j) q = Broke refl
plainly p (tokens.Quoted path) q =
    Plainly refl (sym (ap (λ (b : Bool). if b then rules.Include else rules.Syntax) q.0))
plainly p tokens.Open q =
    Plainly refl (sym (ap (λ (b : Bool). if b then rules.Unsupported else rules.Syntax) q.1))
plainly p _ q = Plainly refl refl

-- ---- the limits

pub data Gate : Type 0 where
  Nest : (n : ℕ) → Gate
  Operate : (n : ℕ) → Gate
  Count : (n : ℕ) → Gate
  Names : (n : ℕ) → Gate
  Takes : (n : ℕ) → Gate

abbrev pub passes : Gate → Limits → Bool
passes (Nest n) most = nat_lt n most.nesting
passes (Operate n) most = nat_lt n most.operators
passes (Count n) most = nat_lt n most.items
passes (Names n) most = nat_lt n most.names
passes (Takes n) most = nat_lt n most.parameters

-- the first token of what is too many is at fault
abbrev pub many_fault : Bool → Fault
many_fault true = Before rules.TooMany
many_fault false = Here rules.TooMany

abbrev pub gate_fault : Gate → Bool → Fault
gate_fault (Nest n) b = Here rules.TooDeep
gate_fault (Operate n) b = Here rules.TooDeep
gate_fault (Count n) b = many_fault b
gate_fault (Names n) b = many_fault b
gate_fault (Takes n) b = many_fault b

-- a token of the grammar that is no separator, and to which the limits are put
pub record IsGated (t : Token) : Type 0 where
  pub own : broken_rule t ≡ None
  pub no_separator : IsSeparator t → ⊥

abbrev IsPlainResult : Token × Token → Token → Result ItemState Fault → Type 0
IsPlainResult p t (Ok s) = KnowsPart (p.1, t) s.part
IsPlainResult p t (Err (Here k)) = RuleIs p t k
IsPlainResult p t (Err (Before k)) = ⊥

-- what a token does is the same under all limits, or a limit decides whether it goes on
pub data StepShape (p : Token × Token) (t : Token) (f : Limits → Result ItemState Fault) : Type 0 where
  Always : (r : Result ItemState Fault) → ((b : Limits) → f b ≡ r) → IsPlainResult p t r
      → StepShape p t f
  Where : (g : Gate) (s : ItemState)
      → ((b : Limits)
      → f b
      ≡ (if passes g b then Ok s else Err (gate_fault g (is_check t && is_tilde p.1))))
      → IsGated t → KnowsPart (p.1, t) s.part → ((b : Limits) → has_offset b s.part ≡ true)
      → StepShape p t f

-- ---- within an expression

abbrev IsPlain : Token × Token → Token → TermStep → Type 0
IsPlain p t (Goes fs used expected) = KnowsExpectation (p.1, t) expected
IsPlain p t (Ends v) = Calm p
IsPlain p t (EndsTilde v) = p.1 ≡ tokens.Tilde
IsPlain p t (Refuses k) = k ≡ rule_of t

data ResultShape (p : Token × Token) (t : Token) (f : Limits → TermStep) : Type 0 where
  Plain : (x : TermStep) → ((b : Limits) → f b ≡ x) → IsPlain p t x → ResultShape p t f
  Gated : (g : Gate) (fs : List TermFrame) (used : ℕ) (expected : TermExpectation)
      → gate_fault g (is_check t && is_tilde p.1) ≡ Here rules.TooDeep
      → ((b : Limits) → f b ≡ (if passes g b then Goes fs used expected else Refuses rules.TooDeep))
      → IsGated t → KnowsExpectation (p.1, t) expected → ResultShape p t f

module _ (p : Token × Token) where
  operand_shape : (fs : List TermFrame) (used : ℕ) (t : Token) → Settled p
      → ResultShape p t (λ b. operand b fs used t)
  operand_shape fs used (tokens.Name n) k =
      Plain (Goes fs used (HasName n)) (λ b. refl) (calm_name p n k.1)
  operand_shape fs used tokens.Underscore k =
      Plain (Goes fs used (Has AllEvents)) (λ b. refl) (((refl, refl), refl), refl)
  operand_shape fs used tokens.Zero k =
      Plain (Goes fs used (Has EmptyRelation)) (λ b. refl) (((refl, refl), refl), refl)
  operand_shape fs used tokens.OpenBrace k =
      Plain (Goes fs used HasBrace) (λ b. refl) (((refl, refl), refl), refl)
  operand_shape fs used tokens.Tilde k =
      Gated (Nest (open_count fs)) (InPrefix ∷ fs) used Wants refl (λ b. refl)
      (record { own = refl; no_separator = λ x. absurd x }) ((refl, refl), refl)
  operand_shape fs used tokens.Open k =
      Gated (Nest (open_count fs)) (InGroup ∷ fs) used Wants refl (λ b. refl)
      (record { own = refl; no_separator = λ x. absurd x }) ((refl, refl), refl)
  operand_shape fs used tokens.OpenSquare k =
      Gated (Nest (open_count fs)) (InSquare ∷ fs) used Wants refl (λ b. refl)
      (record { own = refl; no_separator = λ x. absurd x }) ((refl, refl), refl)
  operand_shape fs used t k = Plain (Refuses (rule_of t)) (λ b. refl) refl

  brace_shape : (fs : List TermFrame) (used : ℕ) (t : Token)
      → ResultShape p t (λ b. after_brace fs used t)
  brace_shape fs used tokens.CloseBrace =
      Plain (after_brace fs used tokens.CloseBrace) (λ b. refl) (((refl, refl), refl), refl)
  brace_shape fs used t = Plain (Refuses (rule_of t)) (λ b. refl) refl

  closed_plain : (used : ℕ) (fs : List TermFrame) (v : Term) → Calm p
      → IsPlain p tokens.Close (term_closed used (fs, v))
  closed_plain used [] v k = k
  closed_plain used (InGroup ∷ fs) v k = (((refl, refl), refl), refl)
  closed_plain used (InArguments n args ∷ fs) v k = (((refl, refl), refl), refl)
  closed_plain used (InSquare ∷ fs) v k = refl
  closed_plain used (InPrefix ∷ fs) v k = refl
  closed_plain used (LeftOf op a ∷ fs) v k = refl

  square_plain : (used : ℕ) (fs : List TermFrame) (v : Term) → Calm p
      → IsPlain p tokens.CloseSquare (square_closed used (fs, v))
  square_plain used [] v k = k
  square_plain used (InSquare ∷ fs) v k = (((refl, refl), refl), refl)
  square_plain used (InGroup ∷ fs) v k = refl
  square_plain used (InArguments n args ∷ fs) v k = refl
  square_plain used (InPrefix ∷ fs) v k = refl
  square_plain used (LeftOf op a ∷ fs) v k = refl

  comma_plain : (used : ℕ) (fs : List TermFrame) (v : Term) → Calm p
      → IsPlain p tokens.Comma (comma_read used (fs, v))
  comma_plain used [] v k = k
  comma_plain used (InArguments n args ∷ fs) v k = ((refl, refl), refl)
  comma_plain used (InSquare ∷ fs) v k = refl
  comma_plain used (InGroup ∷ fs) v k = refl
  comma_plain used (InPrefix ∷ fs) v k = refl
  comma_plain used (LeftOf op a ∷ fs) v k = refl

  ended_plain : (t : Token) (fs : List TermFrame) (v : Term) → Calm p → IsPlain p t (term_ended t (fs, v))
  ended_plain t [] v k = k
  ended_plain t (f ∷ fs) v k = refl

  ended_shape : (fs : List TermFrame) (v : Term) (t : Token) → Calm p
      → ResultShape p t (λ b. term_ended t (fold_to 0 fs v))
  ended_shape fs v t k =
      let q = fold_to 0 fs v in Plain (term_ended t q) (λ b. refl) (ended_plain t q.0 q.1 k)

  after_shape : (fs : List TermFrame) (used : ℕ) (v : Term) (t : Token) → Calm p
      → ResultShape p t (λ b. operand_after b fs used v t)
  after_shape fs used v (tokens.Sign s) k =
      Gated (Operate used) (infix_at (infix_of s) fs v) (used + 1) Wants refl (λ b. refl)
      (record { own = refl; no_separator = λ x. absurd x }) ((refl, refl), refl)
  after_shape fs used v (tokens.Mark m) k =
      Gated (Operate used) fs (used + 1) (Has (Mark (postfix_of m) v)) refl (λ b. refl)
      (record { own = refl; no_separator = λ x. absurd x }) (((refl, refl), refl), refl)
  after_shape fs used v tokens.Star k =
      Gated (Operate used) fs (used + 1) (HasStar v) refl (λ b. refl)
      (record { own = refl; no_separator = λ x. absurd x }) (((refl, refl), refl), refl)
  after_shape fs used v tokens.Close k =
      let q = fold_to 0 fs v in Plain (term_closed used q) (λ b. refl) (closed_plain used q.0 q.1 k)
  after_shape fs used v tokens.CloseSquare k =
      let q = fold_to 0 fs v in
      Plain (square_closed used q) (λ b. refl) (square_plain used q.0 q.1 k)
  after_shape fs used v tokens.Comma k =
      let q = fold_to 0 fs v in Plain (comma_read used q) (λ b. refl) (comma_plain used q.0 q.1 k)
  after_shape fs used v t k = ended_shape fs v t k

  name_shape : (fs : List TermFrame) (used : ℕ) (n : List ℕ) (t : Token) → Calm p
      → ResultShape p t (λ b. after_name b fs used n t)
  name_shape fs used n tokens.Open k =
      Gated (Nest (open_count fs)) (InArguments n [] ∷ fs) used Wants refl (λ b. refl)
      (record { own = refl; no_separator = λ x. absurd x }) ((refl, refl), refl)
  name_shape fs used n t k = after_shape fs used (Atom n) t k

  star_tilde_shape : (fs : List TermFrame) (used : ℕ) (v : Term) (x : Bool) → Calm p
      → ResultShape p tokens.Tilde (λ b. star_tilde b fs used v x)
  star_tilde_shape fs used v true k = Plain (Goes fs used (HasStarTilde v)) (λ b. refl) refl
  star_tilde_shape fs used v false k = operand_shape (infix_at Product fs v) used tokens.Tilde k.0

  star_then_shape : (fs : List TermFrame) (used : ℕ) (v : Term) (t : Token) (x : Bool) → Calm p
      → ResultShape p t (λ b. star_then b fs used v t x)
  star_then_shape fs used v t true k = operand_shape (infix_at Product fs v) used t k.0
  star_then_shape fs used v t false k = after_shape fs used (Mark postfix.Closure v) t k

  star_shape : (fs : List TermFrame) (used : ℕ) (v : Term) (t : Token) → Calm p
      → ResultShape p t (λ b. after_star b fs used v t)
  star_shape fs used v tokens.Tilde k = star_tilde_shape fs used v (is_outermost fs) k
  star_shape fs used v t k = star_then_shape fs used v t (begins_operand t) k

  tilde_shape : (fs : List TermFrame) (used : ℕ) (v : Term) (t : Token) → p.1 ≡ tokens.Tilde
      → ResultShape p t (λ b. after_star_tilde b fs used v t)
  tilde_shape fs used v (tokens.Check w) k =
      Plain (EndsTilde ((fold_to 0 fs (Mark postfix.Closure v)).1)) (λ b. refl) k
  tilde_shape fs used v t k =
      operand_shape (InPrefix ∷ infix_at Product fs v) used t (tilde_settled p k)

  expression_shape : (fs : List TermFrame) (used : ℕ) (expected : TermExpectation) (t : Token)
      → KnowsExpectation p expected → ResultShape p t (λ b. expression_step b fs used expected t)
  expression_shape fs used Wants t k = operand_shape fs used t k
  expression_shape fs used HasBrace t k = brace_shape fs used t
  expression_shape fs used (HasName n) t k = name_shape fs used n t k
  expression_shape fs used (Has v) t k = after_shape fs used v t k
  expression_shape fs used (HasStar v) t k = star_shape fs used v t k
  expression_shape fs used (HasStarTilde v) t k = tilde_shape fs used v t k

-- ---- items

module _ (form : Form) (p : Token × Token) where
  abbrev unless_of : List Clause → ℕ → Part → Form → Limits → Result ItemState Fault
  unless_of cs n x f b = at cs (unless (excess b f n) (Ok x))

  -- the first token of an item
  opens_shape : (cs : List Clause) (n : ℕ) (t : Token) (x : Part) → IsGated t
      → rule_of t ≡ rules.Syntax → plain_rule p t ≡ rules.Syntax
      → (is_check t && is_tilde p.1) ≡ false → KnowsPart (p.1, t) x
      → ((b : Limits) → has_offset b x ≡ true)
      → StepShape p t (λ b. at cs (unless (excess b form n) (Ok x)))
  opens_shape cs n t x gated rule plain first knows offset = by_form form
    where
      by_form : (f : Form) → StepShape p t (unless_of cs n x f)
      by_form forms.Model =
          Where (Count n) (record { items = cs; part = x })
          (λ b. choose (nat_lt n b.items)
          ∙ ap
          (λ (z : Bool). if nat_lt n b.items then Ok (record { items = cs; part = x })
          else Err (many_fault z))
          (sym first)) gated knows offset
        where
          choose : (y : Bool)
              → at cs (unless (if y then None else Some rules.TooMany) (Ok x))
              ≡ (if y then Ok (record { items = cs; part = x }) else Err (Here rules.TooMany))
          choose true = refl
          choose false = refl
      by_form forms.Item = choose (nat_lt n 1) (λ b. refl)
        where
          choose : (y : Bool)
              → ((b : Limits)
              → unless_of cs n x forms.Item b
              ≡ at cs (unless (if y then None else Some rules.Syntax) (Ok x)))
              → StepShape p t (unless_of cs n x forms.Item)
          choose true e = Always (Ok (record { items = cs; part = x })) e knows
          choose false e = Always (Err (Here rules.Syntax)) e (Plainly gated.own (sym plain))

  refused_shape : (cs : List Clause) (n : ℕ) (t : Token) → RuleIs p t (rule_of t)
      → StepShape p t (λ b. at cs (unless (excess b form n) (Err (Here (rule_of t)))))
  refused_shape cs n t h = Always (Err (Here (rule_of t))) (λ b. either (excess b form n)) h
    where
      either : (o : Option CatRule)
          → at cs (unless o (Err (Here (rule_of t)))) ≡ Err (Here (rule_of t))
      either None = refl
      either (Some r) = refl

  item_shape : (cs : List Clause) (n : ℕ) (t : Token) → Calm p
      → StepShape p t (λ b. at cs (unless (excess b form n) (begin_item t)))
  item_shape cs n tokens.Let k =
      opens_shape cs n tokens.Let (InLet Keyword)
      (record { own = refl; no_separator = λ x. absurd x }) refl refl refl
      (((refl, refl), refl), refl) (λ b. refl)
  item_shape cs n tokens.Flag k =
      opens_shape cs n tokens.Flag AfterFlag (record { own = refl; no_separator = λ x. absurd x })
      refl refl refl (((refl, refl), refl), refl) (λ b. refl)
  item_shape cs n tokens.Tilde k =
      opens_shape cs n tokens.Tilde (AfterTilde false)
      (record { own = refl; no_separator = λ x. absurd x }) refl refl refl ((refl, refl), refl)
      (λ b. refl)
  item_shape cs n (tokens.Check w) k =
      opens_shape cs n (tokens.Check w) (begin_check false false w)
      (record { own = refl; no_separator = λ x. absurd x }) refl refl k.1 ((refl, refl), refl)
      (λ b. refl)
  item_shape cs n tokens.Show k =
      opens_shape cs n tokens.Show (begin_show false)
      (record { own = refl; no_separator = λ x. absurd x }) refl refl refl ((refl, refl), refl)
      (λ b. refl)
  item_shape cs n tokens.Unshow k =
      opens_shape cs n tokens.Unshow (begin_show true)
      (record { own = refl; no_separator = λ x. absurd x }) refl refl refl ((refl, refl), refl)
      (λ b. refl)
  item_shape cs n tokens.Include k =
      opens_shape cs n tokens.Include AfterInclude
      (record { own = refl; no_separator = λ x. absurd x }) refl refl refl refl (λ b. refl)
  item_shape cs n t k = refused_shape cs n t (plainly p t k.0.0)

  end_shape : (cs : List Clause) (n : ℕ) → StepShape p tokens.End (λ b. at cs (end_of form n))
  end_shape cs n = by_form form
    where
      by_form : (f : Form) → StepShape p tokens.End (λ b. at cs (end_of f n))
      by_form forms.Model =
          Always (Ok (record { items = cs; part = Done })) (λ b. refl) (((refl, refl), refl), refl)
      by_form forms.Item = choose (n == 0) (λ b. refl)
        where
          choose : (y : Bool)
              → ((b : Limits)
              → at cs (end_of forms.Item n)
              ≡ at cs (if y then Err (Here rules.Syntax) else Ok Done))
              → StepShape p tokens.End (λ b. at cs (end_of forms.Item n))
          choose true e = Always (Err (Here rules.Syntax)) e (Plainly refl refl)
          choose false e =
              Always (Ok (record { items = cs; part = Done })) e (((refl, refl), refl), refl)

  item_or_end_shape : (cs : List Clause) (n : ℕ) (t : Token) → Calm p
      → StepShape p t (λ b. at cs (item_or_end b form n t))
  item_or_end_shape cs n tokens.End k = end_shape cs n
  item_or_end_shape cs n t k = item_shape cs n t k

  title_shape : (cs : List Clause) (n : ℕ) (t : Token) → Calm p
      → StepShape p t (λ b. at cs (after_title b form n t))
  title_shape cs n (tokens.Name m) k =
      Always (Ok (record { items = cs; part = Start })) (λ b. refl) (calm_name p m k.0.1)
  title_shape cs n (tokens.Quoted m) k =
      Always (Ok (record { items = cs; part = Start })) (λ b. refl) (((refl, refl), refl), refl)
  title_shape cs n t k = item_or_end_shape cs n t k

  -- a step that no limit bears on
  ok_shape : (cs : List Clause) (t : Token) (x : Part) → KnowsPart (p.1, t) x
      → StepShape p t (λ b. Ok (record { items = cs; part = x }))
  ok_shape cs t x k = Always (Ok (record { items = cs; part = x })) (λ b. refl) k

  err_shape : (t : Token) → RuleIs p t (rule_of t) → StepShape p t (λ b. Err (Here (rule_of t)))
  err_shape t h = Always (Err (Here (rule_of t))) (λ b. refl) h

  tilde_then_shape : (cs : List Clause) (flagged : Bool) (t : Token) → Settled p
      → StepShape p t (λ b. at cs (after_tilde flagged t))
  tilde_then_shape cs flagged (tokens.Check w) k =
      ok_shape cs (tokens.Check w) (begin_check flagged true w) ((refl, refl), refl)
  tilde_then_shape cs flagged t k = err_shape t (plainly p t k.0)

  flag_shape : (cs : List Clause) (t : Token) → Calm p → StepShape p t (λ b. at cs (after_flag t))
  flag_shape cs tokens.Tilde k = ok_shape cs tokens.Tilde (AfterTilde true) ((refl, refl), refl)
  flag_shape cs (tokens.Check w) k =
      ok_shape cs (tokens.Check w) (begin_check true false w) ((refl, refl), refl)
  flag_shape cs t k = err_shape t (plainly p t k.0.0)

  keyword_shape : (cs : List Clause) (t : Token) → Calm p
      → StepShape p t (λ b. at cs (after_keyword t))
  keyword_shape cs tokens.Rec k =
      ok_shape cs tokens.Rec (InLet (And (fresh true))) ((refl, refl), refl, inr refl)
  keyword_shape cs (tokens.Name n) k =
      ok_shape cs (tokens.Name n) (InLet (Named n)) (calm_name p n k.0.1)
  keyword_shape cs t k = err_shape t (plainly p t k.0.0)

  bound_shape : (cs : List Clause) (g : Group) (t : Token) → KnowsLet p (And g)
      → StepShape p t (λ b. at cs (bound_name b g t))
  bound_shape cs g (tokens.Name n) k =
      Where (Names (length g.bindings)) (record { items = cs; part = InLet (items.Bound g n) })
      (λ b. choose (nat_lt (length g.bindings) b.names))
      (record { own = refl; no_separator = λ x. absurd x }) (refl, k.1) (λ b. refl)
    where
      choose : (y : Bool)
          → at cs (if y then Ok (InLet (items.Bound g n)) else Err (Here rules.TooMany))
          ≡ (if y then Ok
          (record { items = cs; part = InLet (items.Bound g n) })
          else Err (Here rules.TooMany))
      choose true = refl
      choose false = refl
  bound_shape cs g t k =
      err_shape t (plainly p t (k.0.0, ap (λ (b : Bool). b && is_rec_or_and p.0) k.0.1))

  named_shape : (cs : List Clause) (n : List ℕ) (t : Token) → Calm p
      → StepShape p t (λ b. at cs (after_let_name n t))
  named_shape cs n tokens.Equals k =
      ok_shape cs tokens.Equals (begin_body (BoundHead (fresh false) n)) ((refl, refl), refl)
  named_shape cs n tokens.Open k =
      ok_shape cs tokens.Open (InLet (Parameter n [])) ((((refl, refl), refl), refl), inr refl)
  named_shape cs n t k = err_shape t (plainly p t k.0.0)

  -- a name that is no function's
  after_bound_shape : (cs : List Clause) (g : Group) (n : List ℕ) (t : Token) → p.1 ≡ tokens.Name n
      → is_rec_or_and p.0 ≡ true → StepShape p t (λ b. at cs (after_bound g n t))
  after_bound_shape cs g n tokens.Equals e j =
      ok_shape cs tokens.Equals (begin_body (BoundHead g n)) ((refl, refl), refl)
  after_bound_shape cs g n tokens.Open e j =
      Always (Err (Here rules.Unsupported)) (λ b. refl) (Plainly refl (sym (ap
      (λ (t : Token). if is_name t && is_rec_or_and p.0 then rules.Unsupported
      else rules.Syntax) e
      ∙ ap (λ (b : Bool). if b then rules.Unsupported else rules.Syntax) j)))
  after_bound_shape cs g n (tokens.Quoted path) e j =
      Always (Err (Here rules.Syntax)) (λ b. refl) (Plainly refl (sym (ap
      (λ (t : Token). if is_include t then rules.Include else rules.Syntax) e)))
  after_bound_shape cs g n (tokens.Broken r) e j = Always (Err (Here r)) (λ b. refl) (Broke refl)
  after_bound_shape cs g n t e j = Always (Err (Here rules.Syntax)) (λ b. refl) (Plainly refl refl)

  parameter_shape : (cs : List Clause) (n : List ℕ) (ps : List (List ℕ)) (t : Token) → Calm p
      → StepShape p t (λ b. at cs (parameter_read b n ps t))
  parameter_shape cs n ps (tokens.Name m) k =
      Where (Takes (length ps))
      (record { items = cs; part = InLet (AfterParameter n (ps ++ m ∷ [])) })
      (λ b. choose (nat_lt (length ps) b.parameters))
      (record { own = refl; no_separator = λ x. absurd x }) (calm_name p m k.0.1) (λ b. refl)
    where
      choose : (y : Bool)
          → at cs (if y then Ok (InLet (AfterParameter n (ps ++ m ∷ [])))
          else Err (Here rules.TooMany)) ≡ (if y then Ok (record {
            items = cs;
            part = InLet (AfterParameter n (ps ++ m ∷ []));
          })
          else Err (Here rules.TooMany))
      choose true = refl
      choose false = refl
  parameter_shape cs n ps t k = err_shape t (plainly p t k.0.0)

  after_parameter_shape : (cs : List Clause) (n : List ℕ) (ps : List (List ℕ)) (t : Token) → Calm p
      → StepShape p t (λ b. at cs (after_parameter n ps t))
  after_parameter_shape cs n ps tokens.Comma k =
      ok_shape cs tokens.Comma (InLet (Parameter n ps)) ((((refl, refl), refl), refl), inl tt)
  after_parameter_shape cs n ps tokens.Close k =
      ok_shape cs tokens.Close (InLet (Parameters n ps)) (((refl, refl), refl), refl)
  after_parameter_shape cs n ps t k = err_shape t (plainly p t k.0.0)

  parameters_shape : (cs : List Clause) (n : List ℕ) (ps : List (List ℕ)) (t : Token) → Calm p
      → StepShape p t (λ b. at cs (after_parameters n ps t))
  parameters_shape cs n ps tokens.Equals k =
      ok_shape cs tokens.Equals (begin_body (FunctionHead n ps)) ((refl, refl), refl)
  parameters_shape cs n ps t k = err_shape t (plainly p t k.0.0)

  let_shape : (cs : List Clause) (q : items.LetPart) (t : Token) → KnowsLet p q
      → StepShape p t (λ b. at cs (after_let b q t))
  let_shape cs Keyword t k = keyword_shape cs t k
  let_shape cs (Named n) t k = named_shape cs n t k
  let_shape cs (And g) t k = bound_shape cs g t k
  let_shape cs (items.Bound g n) t k = after_bound_shape cs g n t k.0 k.1
  let_shape cs (Parameter n ps) t k = parameter_shape cs n ps t k.0
  let_shape cs (AfterParameter n ps) t k = after_parameter_shape cs n ps t k
  let_shape cs (Parameters n ps) t k = parameters_shape cs n ps t k

  -- ---- after an expression

  abbrev IsFinished : CatRule → Result Clause Fault → Type 0
  IsFinished r (Ok c) = Unit {0}
  IsFinished r (Err e) = e ≡ Here r

  is_finished : (h : Head) (v : Term) (r : CatRule) → IsFinished r (finished h v r)
  is_finished (BoundHead g n) v r = tt
  is_finished (FunctionHead n ps) v r = tt
  is_finished (CheckedHead h) v r = choose h.flagged
    where
      choose : (b : Bool)
          → IsFinished r (if b then Err (Here r) else Ok (Checking (checked h v) None))
      choose true = refl
      choose false = tt
  is_finished (ShownHead s) v r = tt

  added_shape : (cs : List Clause) (t : Token) (x : Result Clause Fault) → IsFinished (rule_of t) x
      → Calm p → StepShape p t (λ b. added cs x (λ n. item_or_end b form n t))
  added_shape cs t (Ok c) h k = item_or_end_shape (cs ++ c ∷ []) (length cs + 1) t k
  added_shape cs t (Err e) h k =
      Always (Err (Here (rule_of t))) (λ b. ap (λ (d : Fault). Err d) h) (plainly p t k.0.0)

  ended_item_shape : (cs : List Clause) (h : Head) (v : Term) (t : Token) → Calm p
      → StepShape p t (λ b. clause_ended b form cs h v t)
  ended_item_shape cs h v t k =
      added_shape cs t (finished h v (rule_of t)) (is_finished h v (rule_of t)) k

  abbrev next_check : List Clause → Clause → CheckWord → ItemState
  next_check cs c w = record { items = cs ++ c ∷ []; part = begin_check false true w }

  abbrev check_made : List Clause → Clause → CheckWord → Option CatRule → Result ItemState Fault
  check_made cs c w o = at (cs ++ c ∷ []) (unless_before o (begin_check false true w))

  -- the tilde of the next item, and this check word
  tilde_added_shape : (cs : List Clause) (w : CheckWord) (x : Result Clause Fault)
      → IsFinished rules.Syntax x → p.1 ≡ tokens.Tilde
      → StepShape p (tokens.Check w) (λ b.
      added cs x (λ n. unless_before (excess b form n) (begin_check false true w)))
  tilde_added_shape cs w (Err e) h k =
      Always (Err (Here rules.Syntax)) (λ b. ap (λ (d : Fault). Err d) h) (Plainly refl refl)
  tilde_added_shape cs w (Ok c) h k = by_form form
    where
      by_form : (f : Form)
          → StepShape p (tokens.Check w) (λ b. check_made cs c w (excess b f (length cs + 1)))
      by_form forms.Model =
          Where (Count (length cs + 1)) (next_check cs c w)
          (λ b. choose (nat_lt (length cs + 1) b.items)
          ∙ ap
          (λ (z : Bool). if nat_lt (length cs + 1) b.items then Ok (next_check cs c w)
          else Err (many_fault z))
          (sym (ap is_tilde k)))
          (record { own = refl; no_separator = λ x. absurd x })
          ((refl, refl), refl)
          (λ b. refl)
        where
          choose : (y : Bool)
              → check_made cs c w (if y then None else Some rules.TooMany)
              ≡ (if y then Ok (next_check cs c w) else Err (Before rules.TooMany))
          choose true = refl
          choose false = refl
      by_form forms.Item = choose (nat_lt (length cs + 1) 1) (λ b. refl)
        where
          choose : (y : Bool)
              → ((b : Limits)
              → check_made cs c w (excess b forms.Item (length cs + 1))
              ≡ check_made cs c w (if y then None else Some rules.Syntax))
              → StepShape p (tokens.Check w) (λ b.
              check_made cs c w (excess b forms.Item (length cs + 1)))
          choose true e = Always (Ok (next_check cs c w)) e ((refl, refl), refl)
          choose false e = Always (Err (Here rules.Syntax)) e (Plainly refl refl)

  and_shape : (cs : List Clause) (h : Head) (v : Term)
      → StepShape p tokens.And (λ b. at cs (and_read h v))
  and_shape cs (BoundHead g n) v =
      ok_shape cs tokens.And (InLet (And (extended g n v))) ((refl, refl), refl, inl tt)
  and_shape cs (FunctionHead n ps) v =
      Always (Err (Here rules.Syntax)) (λ b. refl) (Plainly refl refl)
  and_shape cs (CheckedHead h) v = Always (Err (Here rules.Syntax)) (λ b. refl) (Plainly refl refl)
  and_shape cs (ShownHead s) v = Always (Err (Here rules.Syntax)) (λ b. refl) (Plainly refl refl)

  label_shape : (cs : List Clause) (h : Head) (v : Term)
      → StepShape p tokens.As (λ b. at cs (label_start h v))
  label_shape cs (BoundHead g n) v =
      Always (Err (Here rules.Syntax)) (λ b. refl) (Plainly refl refl)
  label_shape cs (FunctionHead n ps) v =
      Always (Err (Here rules.Syntax)) (λ b. refl) (Plainly refl refl)
  label_shape cs (CheckedHead h) v = ok_shape cs tokens.As (Label h v) (((refl, refl), refl), refl)
  label_shape cs (ShownHead s) v =
      ok_shape cs tokens.As (ShowLabel s v) (((refl, refl), refl), refl)

  comma_shape : (cs : List Clause) (h : Head) (v : Term)
      → StepShape p tokens.Comma (λ b. at cs (shown_on h v))
  comma_shape cs (BoundHead g n) v =
      Always (Err (Here rules.Syntax)) (λ b. refl) (Plainly refl refl)
  comma_shape cs (FunctionHead n ps) v =
      Always (Err (Here rules.Syntax)) (λ b. refl) (Plainly refl refl)
  comma_shape cs (CheckedHead h) v =
      Always (Err (Here rules.Syntax)) (λ b. refl) (Plainly refl refl)
  comma_shape cs (ShownHead s) v =
      ok_shape cs tokens.Comma (begin_body (ShownHead (shown_also s v None))) ((refl, refl), refl)

  after_body_shape : (cs : List Clause) (h : Head) (v : Term) (t : Token) → Calm p
      → StepShape p t (λ b. after_body b form cs h v t)
  after_body_shape cs h v tokens.And k = and_shape cs h v
  after_body_shape cs h v tokens.As k = label_shape cs h v
  after_body_shape cs h v tokens.Comma k = comma_shape cs h v
  after_body_shape cs h v t k = ended_item_shape cs h v t k

  tilde_ended_shape : (cs : List Clause) (h : Head) (v : Term) (t : Token) → p.1 ≡ tokens.Tilde
      → StepShape p t (λ b. goes_on b form cs h t (EndsTilde v))
  tilde_ended_shape cs h v (tokens.Check w) k =
      tilde_added_shape cs w (finished h v rules.Syntax) (is_finished h v rules.Syntax) k
  tilde_ended_shape cs h v t k = err_shape t (plainly p t (tilde_settled p k).0)

  result_shape : (cs : List Clause) (h : Head) (t : Token) (x : TermStep) → Quiet p
      → IsPlain p t x → StepShape p t (λ b. goes_on b form cs h t x)
  result_shape cs h t (Goes fs used expected) q k = ok_shape cs t (Body h fs used expected) k
  result_shape cs h t (Ends v) q k = after_body_shape cs h v t k
  result_shape cs h t (EndsTilde v) q k = tilde_ended_shape cs h v t k
  result_shape cs h t (Refuses r) q k =
      Always (Err (Here r)) (λ b. refl) (subst (RuleIs p t) (sym k) (plainly p t q))

  -- the same step
  same_shape : (t : Token) (f g : Limits → Result ItemState Fault) → ((b : Limits) → f b ≡ g b)
      → StepShape p t g → StepShape p t f
  same_shape t f g e (Always r q k) = Always r (λ b. e b ∙ q b) k
  same_shape t f g e (Where gate s q own k offset) = Where gate s (λ b. e b ∙ q b) own k offset

  body_shape : (cs : List Clause) (h : Head) (t : Token) (f : Limits → TermStep) → Quiet p
      → ResultShape p t f → StepShape p t (λ b. goes_on b form cs h t (f b))
  body_shape cs h t f q (Plain x e k) =
      same_shape t (λ b. goes_on b form cs h t (f b)) (λ b. goes_on b form cs h t x)
      (λ b. ap (goes_on b form cs h t) (e b)) (result_shape cs h t x q k)
  body_shape cs h t f q (Gated g fs used expected deep e own k) =
      Where g (record { items = cs; part = Body h fs used expected })
      (λ b. ap (goes_on b form cs h t) (e b) ∙ choose b (passes g b)
      ∙ ap
      (λ (d : Fault). if passes g b then Ok
      (record { items = cs; part = Body h fs used expected })
      else Err d)
      (sym deep)) own k
      (λ b. refl)
    where
      choose : (b : Limits) (y : Bool)
          → goes_on b form cs h t (if y then Goes fs used expected else Refuses rules.TooDeep)
          ≡ (if y then Ok (record { items = cs; part = Body h fs used expected })
          else Err (Here rules.TooDeep))
      choose b true = refl
      choose b false = refl

  expectation_quiet : (expected : TermExpectation) → KnowsExpectation p expected → Quiet p
  expectation_quiet Wants k = k.0
  expectation_quiet HasBrace k = k.0.0
  expectation_quiet (HasName n) k = k.0.0
  expectation_quiet (Has v) k = k.0.0
  expectation_quiet (HasStar v) k = k.0.0
  expectation_quiet (HasStarTilde v) k = (tilde_settled p k).0

  as_shape : (cs : List Clause) (h : CheckHead) (v : Term) (t : Token) → Calm p
      → StepShape p t (λ b. after_as cs h v t)
  as_shape cs h v (tokens.Name n) k =
      ok_shape (cs ++ labelled h v n ∷ []) (tokens.Name n) Start (calm_name p n k.0.1)
  as_shape cs h v t k = err_shape t (plainly p t k.0.0)

  show_as_shape : (cs : List Clause) (s : items.ShownPart) (v : Term) (t : Token) → Calm p
      → StepShape p t (λ b. at cs (after_show_as s v t))
  show_as_shape cs s v (tokens.Name n) k =
      ok_shape cs (tokens.Name n) (AfterShowLabel (shown_also s v (Some n))) (calm_name p n k.0.1)
  show_as_shape cs s v t k = err_shape t (plainly p t k.0.0)

  show_label_shape : (cs : List Clause) (s : items.ShownPart) (t : Token) → Calm p
      → StepShape p t (λ b. after_show_label b form cs s t)
  show_label_shape cs s tokens.Comma k =
      ok_shape cs tokens.Comma (begin_body (ShownHead s)) ((refl, refl), refl)
  show_label_shape cs s t k = item_or_end_shape (cs ++ shown_clause s ∷ []) (length cs + 1) t k

  include_shape : (cs : List Clause) (t : Token) → p.1 ≡ tokens.Include
      → StepShape p t (λ b. after_include cs t)
  include_shape cs (tokens.Quoted path) k = choose (has_no_effect path) (λ b. refl)
    where
      choose : (y : Bool)
          → ((b : Limits)
          → after_include cs (tokens.Quoted path) ≡ (if y then Ok
          (record { items = cs ++ Including path ∷ []; part = Start })
          else Err (Here rules.Include)))
          → StepShape p (tokens.Quoted path) (λ b. after_include cs (tokens.Quoted path))
      choose true e =
          Always (Ok (record { items = cs ++ Including path ∷ []; part = Start })) e
          (((refl, refl), refl), refl)
      choose false e =
          Always (Err (Here rules.Include)) e (Plainly refl (sym (ap
          (λ (t : Token). if is_include t then rules.Include else rules.Syntax) k)))
  include_shape cs tokens.Open k =
      Always (Err (Here rules.Syntax)) (λ b. refl) (Plainly refl (sym (ap
      (λ (t : Token). if is_name t && is_rec_or_and p.0 then rules.Unsupported
      else rules.Syntax) k)))
  include_shape cs (tokens.Broken r) k = Always (Err (Here r)) (λ b. refl) (Broke refl)
  include_shape cs t k = Always (Err (Here rules.Syntax)) (λ b. refl) (Plainly refl refl)

  part_shape : (cs : List Clause) (q : Part) (t : Token) → KnowsPart p q
      → StepShape p t (λ b. step_part b form cs q t)
  part_shape cs items.Title t k = title_shape cs (length cs) t k
  part_shape cs Start t k = item_or_end_shape cs (length cs) t k
  part_shape cs (InLet q) t k = let_shape cs q t k
  part_shape cs AfterFlag t k = flag_shape cs t k
  part_shape cs (AfterTilde flagged) t k = tilde_then_shape cs flagged t k
  part_shape cs (Body h fs used expected) t k =
      body_shape cs h t (λ b. expression_step b fs used expected t) (expectation_quiet expected k)
      (expression_shape p fs used expected t k)
  part_shape cs (Label h v) t k = as_shape cs h v t k
  part_shape cs (ShowLabel s v) t k = show_as_shape cs s v t k
  part_shape cs (AfterShowLabel s) t k = show_label_shape cs s t k
  part_shape cs AfterInclude t k = include_shape cs t k
  part_shape cs Done t k = err_shape t (plainly p t k.0.0)

  pub step_shape : (s : ItemState) (t : Token) → KnowsPart p s.part
      → StepShape p t (λ b. clause_step b form s t)
  step_shape s t k = part_shape s.items s.part t k
