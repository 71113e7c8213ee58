-- Every state can be finished, but where a name too many would have to follow.
use Rattle.std.proofs.Common.{◌≡◌, ℕ, ◌+◌, ◌<◌, Bool, true, false, List, [], ◌∷◌, ◌++◌, Option, Some, None, Result, Ok, Err, length, refl, ap, ◌∙◌, arith}
use Rattle.std.specs.Prelude.{nat_lt, ◌==◌, codes, if◌then◌else◌}
use Rattle.std.proofs.lemmas.Bool.Decides.{nat_tests}
use Rattle.std.proofs.lemmas.Bool.{le-leb}
use Rattle.cat_tokens.specs.declared.rule.CatRule.{CatRule}
use Rattle.cat_tokens.specs.declared.rule.CatRule.TheVariants as rules
use Rattle.text_values.specs.declared.model.CheckWord.TheVariants as checks
use Rattle.text_values.specs.declared.model.Infix.TheVariants.{Product}
use Rattle.text_values.specs.declared.model.Postfix.TheVariants as postfix
use Rattle.cat_grammar.specs.declared.form.Form.{Form}
use Rattle.cat_grammar.specs.declared.form.Form.TheVariants as forms
use Rattle.cat_tokens.specs.declared.token.Token.{Token}
use Rattle.cat_tokens.specs.declared.token.Token.TheVariants as tokens
use Rattle.text_values.specs.ModelValue.{Term, Clause, Atom, EmptySet, Join, Mark, Not, On, Apply, Function, Including, gathered}
use Rattle.cat_grammar.specs.Grammar.{infix_level, Limits, BeginsForm}
use Rattle.cat_grammar.specs.Machine.{TermFrame, InGroup, InSquare, InPrefix, LeftOf, InArguments, TermExpectation, Wants, HasBrace, HasName, Has, HasStar, HasStarTilde, fold_to, infix_at, term_ended, term_closed, square_closed}
use Rattle.cat_grammar.specs.ItemMachine as items
use Rattle.cat_grammar.specs.ItemMachine.{Keyword, Named, And, Parameter, AfterParameter, Parameters, Head, BoundHead, FunctionHead, CheckedHead, ShownHead, Part, Start, InLet, AfterFlag, AfterTilde, Body, Label, ShowLabel, AfterShowLabel, AfterInclude, Done, Fault, Here, ItemState, begin_check, excess, unless, end_of, fresh, extended, group_clause, shown_clause, shown_also, labelled, at, clause_start}
use Rattle.cat_grammar.proofs.Runs.{◌>>=◌, run_over, run_over-append}
use Rattle.cat_grammar.proofs.Groups.{length-push}
use Rattle.cat_grammar.proofs.SoundItems.{sound}
use Rattle.cat_grammar.proofs.Complete.{body, from}
use Rattle.cat_grammar.proofs.CompleteItems.{complete}

-- the names of what is added
abbrev pub x : List ℕ
x = 120 ∷ []

-- the name that is wanted here may stand
abbrev pub has_offset : Limits → Part → Bool
has_offset most (InLet (And g)) = nat_lt (length g.bindings) most.names
has_offset most (InLet (Parameter n ps)) = nat_lt (length ps) most.parameters
has_offset most _ = true

-- what ends an item after its expression
abbrev ending : Head → List Token
ending (BoundHead g n) = tokens.End ∷ []
ending (FunctionHead n ps) = tokens.End ∷ []
ending (CheckedHead h) = tokens.As ∷ tokens.Name x ∷ tokens.End ∷ []
ending (ShownHead s) = tokens.End ∷ []

-- the brackets that are open are closed, and the text ends
abbrev closers : Head → List TermFrame → List Token
closers h [] = ending h
closers h (InGroup ∷ fs) = tokens.Close ∷ closers h fs
closers h (InSquare ∷ fs) = tokens.CloseSquare ∷ closers h fs
closers h (InPrefix ∷ fs) = closers h fs
closers h (LeftOf op a ∷ fs) = closers h fs
closers h (InArguments n args ∷ fs) = tokens.Close ∷ closers h fs

abbrev Closes : List Token → Type 0
Closes (tokens.End ∷ ts) = Unit {0}
Closes (tokens.As ∷ ts) = Unit {0}
Closes (tokens.Close ∷ ts) = Unit {0}
Closes (tokens.CloseSquare ∷ ts) = Unit {0}
Closes _ = ⊥

ending_closes : (h : Head) → Closes (ending h)
ending_closes (BoundHead g n) = tt
ending_closes (FunctionHead n ps) = tt
ending_closes (CheckedHead h) = tt
ending_closes (ShownHead s) = tt

closers_close : (h : Head) (fs : List TermFrame) → Closes (closers h fs)
closers_close h [] = ending_closes h
closers_close h (InGroup ∷ fs) = tt
closers_close h (InSquare ∷ fs) = tt
closers_close h (InPrefix ∷ fs) = closers_close h fs
closers_close h (LeftOf op a ∷ fs) = closers_close h fs
closers_close h (InArguments n args ∷ fs) = tt

more_is_some : (n : ℕ) → (n + 1 == 0) ≡ false
more_is_some n = grind (arith, nat_tests)

none_is_less : (n : ℕ) → (n == 0) ≡ true → nat_lt n 1 ≡ true
none_is_less n e = grind (arith, nat_tests)

abbrev ending_of : Bool → Result Part Fault
ending_of b = if b then Err (Here rules.Syntax) else Ok Done

-- a text may end after an item
end_after : (form : Form) (n : ℕ) → end_of form (n + 1) ≡ Ok Done
end_after forms.Model n = refl
end_after forms.Item n = ap ending_of (more_is_some n)

module _ (most : Limits) (form : Form) where
  -- this state leads to the end of a text
  pub record Finishes (s : ItemState) : Type 0 where
    pub rest : List Token
    pub items : List Clause
    pub by : run_over most form s rest ≡ Ok (record { items = items; part = Done })

  abbrev done : List Clause → Result ItemState Fault
  done cs = Ok (record { items = cs; part = Done })

  abbrev run_from : List Token → ItemState → Result ItemState Fault
  run_from ts s = run_over most form s ts

  -- a text that ends after one more item
  ends_after : (cs : List Clause) (c : Clause)
      → (at (cs ++ c ∷ []) (end_of form (length cs + 1)) >>= run_from []) ≡ done (cs ++ c ∷ [])
  ends_after cs c =
      ap (λ (r : Result Part Fault). at (cs ++ c ∷ []) r >>= run_from [])
      (end_after form (length cs))

  ends_at : (cs : List Clause) (c : Clause)
      → run_over most form (record { items = cs ++ c ∷ []; part = Start }) (tokens.End ∷ [])
      ≡ done (cs ++ c ∷ [])
  ends_at cs c =
      ap (λ (n : ℕ). at (cs ++ c ∷ []) (end_of form n) >>= run_from []) (length-push cs c)
      ∙ ends_after cs c

  module _ (cs : List Clause) (h : Head) where
    same_end : (fs gs : List TermFrame) (used : ℕ) (v w : Term) (ts : List Token) → Closes ts
        → fold_to 0 gs v ≡ fold_to 0 fs w
        → run_over most form (body most form cs h gs used (Has v)) ts
        ≡ run_over most form (body most form cs h fs used (Has w)) ts
    same_end fs gs used v w (tokens.End ∷ ts) c e =
        ap (λ (p : List TermFrame × Term). from most form cs h (term_ended tokens.End p) tokens.End ts) e
    same_end fs gs used v w (tokens.As ∷ ts) c e =
        ap (λ (p : List TermFrame × Term). from most form cs h (term_ended tokens.As p) tokens.As ts) e
    same_end fs gs used v w (tokens.Close ∷ ts) c e =
        ap (λ (p : List TermFrame × Term). from most form cs h (term_closed used p) tokens.Close ts) e
    same_end fs gs used v w (tokens.CloseSquare ∷ ts) c e =
        ap
        (λ (p : List TermFrame × Term).
        from most form cs h (square_closed used p) tokens.CloseSquare ts) e
    same_end fs gs used v w [] c e = absurd c
    same_end fs gs used v w (_ ∷ ts) c e = absurd c

    same_star : (fs : List TermFrame) (used : ℕ) (v : Term) (ts : List Token) → Closes ts
        → run_over most form (body most form cs h fs used (HasStar v)) ts
        ≡ run_over most form (body most form cs h fs used (Has (Mark postfix.Closure v))) ts
    same_star fs used v (tokens.End ∷ ts) c = refl
    same_star fs used v (tokens.As ∷ ts) c = refl
    same_star fs used v (tokens.Close ∷ ts) c = refl
    same_star fs used v (tokens.CloseSquare ∷ ts) c = refl
    same_star fs used v [] c = absurd c
    same_star fs used v (_ ∷ ts) c = absurd c

    same_name : (fs : List TermFrame) (used : ℕ) (n : List ℕ) (ts : List Token) → Closes ts
        → run_over most form (body most form cs h fs used (HasName n)) ts
        ≡ run_over most form (body most form cs h fs used (Has (Atom n))) ts
    same_name fs used n (tokens.End ∷ ts) c = refl
    same_name fs used n (tokens.As ∷ ts) c = refl
    same_name fs used n (tokens.Close ∷ ts) c = refl
    same_name fs used n (tokens.CloseSquare ∷ ts) c = refl
    same_name fs used n [] c = absurd c
    same_name fs used n (_ ∷ ts) c = absurd c

  head_finishes : (cs : List Clause) (h : Head) (used : ℕ) (v : Term)
      → (items : List Clause)
      × (run_over most form (body most form cs h [] used (Has v)) (ending h) ≡ done items)
  head_finishes cs (BoundHead g n) used v =
      let c = group_clause (extended g n v) in (cs ++ c ∷ [], ends_after cs c)
  head_finishes cs (FunctionHead n ps) used v =
      let c = Function n ps v in (cs ++ c ∷ [], ends_after cs c)
  head_finishes cs (CheckedHead k) used v = let c = labelled k v x in (cs ++ c ∷ [], ends_at cs c)
  head_finishes cs (ShownHead s) used v =
      let c = shown_clause (shown_also s v None) in (cs ++ c ∷ [], ends_after cs c)

  has_finishes : (cs : List Clause) (h : Head) (fs : List TermFrame) (used : ℕ) (v : Term)
      → (items : List Clause)
      × (run_over most form (body most form cs h fs used (Has v)) (closers h fs) ≡ done items)
  has_finishes cs h [] used v = head_finishes cs h used v
  has_finishes cs h (InGroup ∷ fs) used v = has_finishes cs h fs used v
  has_finishes cs h (InSquare ∷ fs) used v = has_finishes cs h fs used (On v)
  has_finishes cs h (InArguments n args ∷ fs) used v =
      has_finishes cs h fs used (Apply n (gathered (args ++ v ∷ [])))
  has_finishes cs h (InPrefix ∷ fs) used v =
      let r = has_finishes cs h fs used (Not v) in (r.0, same_end cs h fs (InPrefix ∷ fs) used v (Not v) (closers h fs) (closers_close h fs) refl ∙ r.1)
  has_finishes cs h (LeftOf op a ∷ fs) used v =
      let r = has_finishes cs h fs used (Join op a v) in (
        r.0,
        same_end cs h fs (LeftOf op a ∷ fs) used v (Join op a v) (closers h fs)
            (closers_close h fs) (ap
            (λ (b : Bool).
            if b then fold_to 0 fs (Join op a v) else (LeftOf op a ∷ fs, v))
            (le-leb 0 (infix_level op) (omega arith))) ∙ r.1,
      )

  name_finishes : (cs : List Clause) (h : Head) (fs : List TermFrame) (used : ℕ) (n : List ℕ)
      → Finishes (body most form cs h fs used (HasName n))
  name_finishes cs h fs used n =
      let r = has_finishes cs h fs used (Atom n) in record { rest = closers h fs; items = r.0; by = same_name cs h fs used n (closers h fs) (closers_close h fs) ∙ r.1 }

  body_finishes : (cs : List Clause) (h : Head) (fs : List TermFrame) (used : ℕ)
      (expected : TermExpectation) → Finishes (body most form cs h fs used expected)
  body_finishes cs h fs used Wants =
      let r = name_finishes cs h fs used x in
      record { rest = tokens.Name x ∷ r.rest; items = r.items; by = r.by }
  body_finishes cs h fs used HasBrace =
      let r = has_finishes cs h fs used EmptySet in
      record { rest = tokens.CloseBrace ∷ closers h fs; items = r.0; by = r.1 }
  body_finishes cs h fs used (HasName n) = name_finishes cs h fs used n
  body_finishes cs h fs used (Has v) =
      let r = has_finishes cs h fs used v in record { rest = closers h fs; items = r.0; by = r.1 }
  body_finishes cs h fs used (HasStar v) =
      let r = has_finishes cs h fs used (Mark postfix.Closure v) in record { rest = closers h fs; items = r.0; by = same_star cs h fs used v (closers h fs) (closers_close h fs) ∙ r.1 }
  body_finishes cs h fs used (HasStarTilde v) =
      let r = name_finishes cs h (InPrefix ∷ infix_at Product fs v) used x in record { rest = tokens.Name x ∷ r.rest; items = r.items; by = r.by }

  fresh_body_finishes : (cs : List Clause) (h : Head) → Finishes (body most form cs h [] 0 Wants)
  fresh_body_finishes cs h = body_finishes cs h [] 0 Wants

  -- where an item may begin
  start_finishes : (cs : List Clause)
      → (rest : List Token) × (made : List Clause)
      × (run_over most form (record { items = cs; part = Start }) rest ≡ done made)
      × (run_over most form (record { items = cs; part = items.Title }) rest ≡ done made)
  start_finishes cs = by_form form refl
    where
      by_form : (f : Form) → form ≡ f
          → (rest : List Token) × (made : List Clause)
          × (run_over most form (record { items = cs; part = Start }) rest ≡ done made)
          × (run_over most form (record { items = cs; part = items.Title }) rest ≡ done made)
      by_form forms.Model e =
          let q : (at cs (end_of form (length cs)) >>= run_from []) ≡ done cs = ap (λ (f : Form). at cs (end_of f (length cs)) >>= run_from []) e in
          (tokens.End ∷ [], cs, q, q)
      by_form forms.Item e = choose (length cs == 0) refl
        where
          choose : (b : Bool) → (length cs == 0) ≡ b
              → (rest : List Token) × (made : List Clause)
              × (run_over most form (record { items = cs; part = Start }) rest ≡ done made)
              × (run_over most form (record { items = cs; part = items.Title }) rest
              ≡ done made)
          choose true q =
              let r = fresh_body_finishes cs (CheckedHead (record { flagged = false; negated = false; word = checks.Acyclic })) in
              let room : excess most form (length cs) ≡ None = ap (λ (f : Form). excess most f (length cs)) e ∙ ap (λ (b : Bool). if b then None else Some rules.Syntax) (none_is_less (length cs) q) in
              let one : (at cs (unless (excess most form (length cs)) (Ok (begin_check false false checks.Acyclic))) >>= run_from r.rest) ≡ done r.items = ap (λ (o : Option CatRule). at cs (unless o (Ok (begin_check false false checks.Acyclic))) >>= run_from r.rest) room ∙ r.by in
              (tokens.Check checks.Acyclic ∷ r.rest, r.items, one, one)
          choose false q =
              let one : (at cs (end_of form (length cs)) >>= run_from []) ≡ done cs = ap (λ (f : Form). at cs (end_of f (length cs)) >>= run_from []) e ∙ ap (λ (b : Bool). at cs (if b then Err (Here rules.Syntax) else Ok Done) >>= run_from []) q in
              (tokens.End ∷ [], cs, one, one)

  let_finishes : (cs : List Clause) (p : items.LetPart) → has_offset most (InLet p) ≡ true
      → Finishes (record { items = cs; part = InLet p })
  let_finishes cs Keyword e =
      let r = fresh_body_finishes cs (BoundHead (fresh false) x) in
      record { rest = tokens.Name x ∷ tokens.Equals ∷ r.rest; items = r.items; by = r.by }
  let_finishes cs (Named n) e =
      let r = fresh_body_finishes cs (BoundHead (fresh false) n) in
      record { rest = tokens.Equals ∷ r.rest; items = r.items; by = r.by }
  let_finishes cs (And g) e =
      let r = fresh_body_finishes cs (BoundHead g x) in
      record { rest = tokens.Name x ∷ tokens.Equals ∷ r.rest; items = r.items; by = ap (λ (b : Bool). at cs (if b then Ok (InLet (items.Bound g x)) else Err (Here rules.TooMany)) >>= run_from (tokens.Equals ∷ r.rest)) e ∙ r.by }
  let_finishes cs (items.Bound g n) e =
      let r = fresh_body_finishes cs (BoundHead g n) in
      record { rest = tokens.Equals ∷ r.rest; items = r.items; by = r.by }
  let_finishes cs (Parameter n ps) e =
      let r = fresh_body_finishes cs (FunctionHead n (ps ++ x ∷ [])) in
      record { rest = tokens.Name x ∷ tokens.Close ∷ tokens.Equals ∷ r.rest; items = r.items; by = ap (λ (b : Bool). at cs (if b then Ok (InLet (AfterParameter n (ps ++ x ∷ []))) else Err (Here rules.TooMany)) >>= run_from (tokens.Close ∷ tokens.Equals ∷ r.rest)) e ∙ r.by }
  let_finishes cs (AfterParameter n ps) e =
      let r = fresh_body_finishes cs (FunctionHead n ps) in
      record { rest = tokens.Close ∷ tokens.Equals ∷ r.rest; items = r.items; by = r.by }
  let_finishes cs (Parameters n ps) e =
      let r = fresh_body_finishes cs (FunctionHead n ps) in
      record { rest = tokens.Equals ∷ r.rest; items = r.items; by = r.by }

  pub part_finishes : (cs : List Clause) (p : Part) → has_offset most p ≡ true
      → Finishes (record { items = cs; part = p })
  part_finishes cs items.Title e =
      let r = start_finishes cs in record { rest = r.0; items = r.1; by = r.3 }
  part_finishes cs Start e =
      let r = start_finishes cs in record { rest = r.0; items = r.1; by = r.2 }
  part_finishes cs (InLet p) e = let_finishes cs p e
  part_finishes cs AfterFlag e =
      let r =
      fresh_body_finishes cs (CheckedHead (record {
        flagged = true;
        negated = false;
        word = checks.Acyclic;
      })) in
      record { rest = tokens.Check checks.Acyclic ∷ r.rest; items = r.items; by = r.by }
  part_finishes cs (AfterTilde flagged) e =
      let r =
      fresh_body_finishes cs (CheckedHead (record {
        flagged = flagged;
        negated = true;
        word = checks.Acyclic;
      })) in
      record { rest = tokens.Check checks.Acyclic ∷ r.rest; items = r.items; by = r.by }
  part_finishes cs (Body h fs used expected) e = body_finishes cs h fs used expected
  part_finishes cs (Label h v) e =
      let c = labelled h v x in
      record { rest = tokens.Name x ∷ tokens.End ∷ []; items = cs ++ c ∷ []; by = ends_at cs c }
  part_finishes cs (ShowLabel s v) e =
      let c = shown_clause (shown_also s v (Some x)) in
      record { rest = tokens.Name x ∷ tokens.End ∷ []; items = cs ++ c ∷ []; by = ends_after cs c }
  part_finishes cs (AfterShowLabel s) e =
      record {
        rest = tokens.End ∷ [];
        items = cs ++ shown_clause s ∷ [];
        by = ends_after cs (shown_clause s);
      }
  part_finishes cs AfterInclude e =
      let c = Including (codes "cos.cat") in
      record {
        rest = tokens.Quoted (codes "cos.cat") ∷ tokens.End ∷ [];
        items = cs ++ c ∷ [];
        by = ends_at cs c;
      }
  part_finishes cs Done e = record { rest = []; items = cs; by = refl }

  -- what the machine takes begins a text
  pub begins : (ts : List Token) (s : ItemState) → 0 < most.nesting → 0 < most.names
      → run_over most form (clause_start form) ts ≡ Ok s → has_offset most s.part ≡ true
      → BeginsForm most form ts
  begins ts s some one e offset =
      let f = part_finishes s.items s.part offset in
      record { rest = f.rest; items = f.items; text = sound most form (ts ++ f.rest) f.items some one (run_over-append most form (clause_start form) s ts f.rest e ∙ f.by) }

  -- what begins a text, the machine takes
  pub takes : (ts : List Token) → BeginsForm most form ts
      → (s : ItemState) × (run_over most form (clause_start form) ts ≡ Ok s)
  takes ts b =
      by_prefix (clause_start form) ts b.rest (record { items = b.items; part = Done })
      (complete most form (ts ++ b.rest) b.items b.text)
    where
      by_prefix : (s : ItemState) (ts us : List Token) (end : ItemState)
          → run_over most form s (ts ++ us) ≡ Ok end
          → (s' : ItemState) × (run_over most form s ts ≡ Ok s')
      by_prefix s [] us end e = (s, refl)
      by_prefix s (t ∷ ts) us end e =
          by_step (items.clause_step most form s t) e (λ x k. by_prefix x ts us end k)
        where
          by_step : (r : Result ItemState Fault) → (r >>= λ x. run_over most form x (ts ++ us)) ≡ Ok end
              → ((x : ItemState) → run_over most form x (ts ++ us) ≡ Ok end
              → (s' : ItemState) × (run_over most form x ts ≡ Ok s'))
              → (s' : ItemState) × ((r >>= λ x. run_over most form x ts) ≡ Ok s')
          by_step (Ok x) k f = f x k
          by_step (Err d) k f = absurd cc
