-- Where the machine stops, there is the fault.
use Rattle.std.proofs.Common.{◌≡◌, ℕ, ◌+◌, ◌<◌, ◌≤◌, Bool, true, false, List, [], ◌∷◌, ◌++◌, Result, Ok, Err, length, refl, sym, ap, ◌∙◌, subst, arith, append_assoc, ◌⊎◌, inl, inr}
use Rattle.std.proofs.lemmas.List.{append-nil}
use Rattle.std.specs.Prelude.{nat_lt, ◌&&◌, if◌then◌else◌}
use Rattle.std.proofs.lemmas.Bool.{ltb-true, ltb-false, lt-ltb}
use Rattle.cat_tokens.specs.declared.rule.CatRule.{CatRule}
use Rattle.cat_tokens.specs.declared.rule.CatRule.TheVariants as rules
use Rattle.cat_grammar.specs.declared.form.Form.{Form}
use Rattle.cat_grammar.specs.declared.form.Form.TheVariants as forms
use Rattle.cat_tokens.specs.declared.token.Token.{Token}
use Rattle.cat_tokens.specs.declared.token.Token.TheVariants as tokens
use Rattle.text_values.specs.ModelValue.{Clause}
use Rattle.cat_grammar.specs.Grammar.{Limits, BeginsForm, SameCounts, SameDepths, IsSeparator, CanStand, BeginsText, BeforeAName, last_two, last_offset, is_tilde, is_check, BreaksRule, Nowhere, TooMany, TooDeep, Plain, IsFormFault}
use Rattle.cat_tokens.specs.Tokens.{TokenAt, model_tokens_of}
use Rattle.cat_grammar.specs.ItemMachine as items
use Rattle.cat_grammar.specs.ItemMachine.{And, Parameter, Part, InLet, Fault, Here, Before, ItemState, clause_step, clause_start}
use Rattle.cat_grammar.specs.Running.{ItemsResult, with_offset, and_then, run_items}
use Rattle.cat_grammar.proofs.Runs.{◌>>=◌, run_over, run_over-append}
use Rattle.cat_grammar.proofs.Finishes.{has_offset, begins, takes}
use Rattle.cat_grammar.proofs.Shapes.{KnowsPart, Broke, Plainly, Gate, Nest, Operate, Count, Names, Takes, passes, many_fault, gate_fault, StepShape, Always, Where, step_shape}

-- ---- wider limits

-- a is no wider than b
record Wider (a b : Limits) : Type 0 where
  nesting : a.nesting ≤ b.nesting
  operators : a.operators ≤ b.operators
  items : a.items ≤ b.items
  names : a.names ≤ b.names
  parameters : a.parameters ≤ b.parameters

test_wider : (n a b : ℕ) → a ≤ b → nat_lt n a ≡ true → nat_lt n b ≡ true
test_wider n a b w e = let h = ltb-true n a e in lt-ltb n b (omega arith)

passes_wider : (g : Gate) (a b : Limits) → Wider a b → passes g a ≡ true → passes g b ≡ true
passes_wider (Nest n) a b w e = test_wider n a.nesting b.nesting w.nesting e
passes_wider (Operate n) a b w e = test_wider n a.operators b.operators w.operators e
passes_wider (Count n) a b w e = test_wider n a.items b.items w.items e
passes_wider (Names n) a b w e = test_wider n a.names b.names w.names e
passes_wider (Takes n) a b w e = test_wider n a.parameters b.parameters w.parameters e

-- what a gate makes of a step
abbrev gated : Bool → ItemState → Fault → Result ItemState Fault
gated b s e = if b then Ok s else Err e

-- limits that hold what both hold
abbrev joined : Limits → Limits → Limits
joined a b =
    record {
      nesting = a.nesting + b.nesting;
      operators = a.operators + b.operators;
      items = a.items + b.items;
      names = a.names + b.names;
      parameters = a.parameters + b.parameters;
    }

wider_left : (a b : Limits) → Wider a (joined a b)
wider_left a b =
    record {
      nesting = omega arith;
      operators = omega arith;
      items = omega arith;
      names = omega arith;
      parameters = omega arith;
    }

wider_right : (a b : Limits) → Wider b (joined a b)
wider_right a b =
    record {
      nesting = omega arith;
      operators = omega arith;
      items = omega arith;
      names = omega arith;
      parameters = omega arith;
    }

abbrev gate_limits : Gate → Limits
gate_limits (Nest n) =
    record { nesting = n + 1; operators = 0; items = 0; names = 0; parameters = 0 }
gate_limits (Operate n) =
    record { nesting = 0; operators = n + 1; items = 0; names = 0; parameters = 0 }
gate_limits (Count n) =
    record { nesting = 0; operators = 0; items = n + 1; names = 0; parameters = 0 }
gate_limits (Names n) =
    record { nesting = 0; operators = 0; items = 0; names = n + 1; parameters = 0 }
gate_limits (Takes n) =
    record { nesting = 0; operators = 0; items = 0; names = 0; parameters = n + 1 }

gate_passes : (most : Limits) (g : Gate) → passes g (joined most (gate_limits g)) ≡ true
gate_passes most (Nest n) = lt-ltb _ _ (omega arith)
gate_passes most (Operate n) = lt-ltb _ _ (omega arith)
gate_passes most (Count n) = lt-ltb _ _ (omega arith)
gate_passes most (Names n) = lt-ltb _ _ (omega arith)
gate_passes most (Takes n) = lt-ltb _ _ (omega arith)

-- the limits under which the name that is wanted here may stand
abbrev wide_part : Part → Limits
wide_part (InLet (And g)) =
    record { nesting = 0; operators = 0; items = 0; names = length g.bindings + 1; parameters = 0 }
wide_part (InLet (Parameter n ps)) =
    record { nesting = 0; operators = 0; items = 0; names = 0; parameters = length ps + 1 }
wide_part _ = record { nesting = 0; operators = 0; items = 0; names = 0; parameters = 0 }

wide_has_offset : (most : Limits) (p : Part) → has_offset (joined most (wide_part p)) p ≡ true
wide_has_offset most (InLet (And g)) = lt-ltb _ _ (omega arith)
wide_has_offset most (InLet (Parameter n ps)) = lt-ltb _ _ (omega arith)
wide_has_offset most _ = refl

wide_depths : (most : Limits) (p : Part) → SameDepths most (joined most (wide_part p))
wide_depths most (InLet (And g)) = (omega arith, omega arith)
wide_depths most (InLet (Parameter n ps)) = (omega arith, omega arith)
wide_depths most _ = (omega arith, omega arith)

-- a state without a place for its name takes no token
offset_before : (most : Limits) (form : Form) (cs : List Clause) (p : Part) (t : Token) (s : ItemState)
    → items.step_part most form cs p t ≡ Ok s → has_offset most p ≡ true
offset_before most form cs (InLet (And g)) (tokens.Name n) s e =
    choose (nat_lt (length g.bindings) most.names) e
  where
    choose : (b : Bool)
        → items.at cs (if b then Ok (InLet (items.Bound g n)) else Err (Here rules.TooMany)) ≡ Ok s
        → b ≡ true
    choose true e = refl
    choose false e = absurd cc
offset_before most form cs (InLet (And g)) _ s e = absurd cc
offset_before most form cs (InLet (Parameter n ps)) (tokens.Name m) s e =
    choose (nat_lt (length ps) most.parameters) e
  where
    choose : (b : Bool)
        → items.at cs (if b then Ok (InLet (items.AfterParameter n (ps ++ m ∷ [])))
        else Err (Here rules.TooMany)) ≡ Ok s → b ≡ true
    choose true e = refl
    choose false e = absurd cc
offset_before most form cs (InLet (Parameter n ps)) _ s e = absurd cc
offset_before most form cs _ t s e = refl

-- what such a state comes after
separated : (most : Limits) (p : Token × Token) (q : Part) → 0 < most.names → 0 < most.parameters
    → KnowsPart p q → has_offset most q ≡ false → IsSeparator p.1
separated most p (InLet (And g)) one two k e = choose k.2
  where
    choose : IsSeparator p.1 ⊎ (length g.bindings ≡ 0) → IsSeparator p.1
    choose (inl h) = h
    choose (inr h) = let low = ltb-false _ _ e in absurd (omega arith)
separated most p (InLet (Parameter n ps)) one two k e = choose k.1
  where
    choose : IsSeparator p.1 ⊎ (length ps ≡ 0) → IsSeparator p.1
    choose (inl h) = h
    choose (inr h) = let low = ltb-false _ _ e in absurd (omega arith)
separated most p _ one two k e = absurd cc

last_two-push : (a b : Token) (ts : List Token) (t : Token)
    → last_two a b (ts ++ t ∷ []) ≡ ((last_two a b ts).1, t)
last_two-push a b [] t = refl
last_two-push a b (u ∷ ts) t = last_two-push b u ts t

last_offset-push : (n : ℕ) (ps : List TokenAt) (p : TokenAt)
    → last_offset n (ps ++ p ∷ []) ≡ p.offset
last_offset-push n [] p = refl
last_offset-push n (q ∷ ps) p = last_offset-push q.offset ps p

pub tokens_of-append : (ps qs : List TokenAt) → model_tokens_of (ps ++ qs) ≡ model_tokens_of ps ++ model_tokens_of qs
tokens_of-append [] qs = refl
tokens_of-append (p ∷ ps) qs = ap (λ (ts : List Token). p.token ∷ ts) (tokens_of-append ps qs)

abbrev kept : ItemState → Result ItemState Fault
kept s = Ok s

kept_is : (s s' : ItemState) → kept s ≡ kept s' → s ≡ s'
kept_is s s' e = cc

abbrev fails : Fault → Result ItemState Fault
fails d = Err d

not_both : (d : Fault) (s : ItemState) → Err d ≡ kept s → ⊥
not_both d s e = absurd cc

module _ (form : Form) where
  start_knows : KnowsPart (tokens.End, tokens.End) (clause_start form).part
  start_knows = by_form form
    where
      by_form : (f : Form) → KnowsPart (tokens.End, tokens.End) (clause_start f).part
      by_form forms.Model = (((refl, refl), refl), refl)
      by_form forms.Item = (((refl, refl), refl), refl)

  start_has_offset : (most : Limits) → has_offset most (clause_start form).part ≡ true
  start_has_offset most = by_form form
    where
      by_form : (f : Form) → has_offset most (clause_start f).part ≡ true
      by_form forms.Model = refl
      by_form forms.Item = refl

  -- a step under wider limits, and what is known after it
  step_wider : (a b : Limits) (p : Token × Token) (s : ItemState) (t : Token) (s' : ItemState)
      → KnowsPart p s.part → Wider a b → clause_step a form s t ≡ Ok s'
      → (clause_step b form s t ≡ Ok s') × KnowsPart (p.1, t) s'.part
  step_wider a b p s t s' k w e = by_shape (step_shape form p s t k)
    where
      by_result : (r : Result ItemState Fault) → ((x : Limits) → clause_step x form s t ≡ r)
          → ((x : ItemState) → r ≡ Ok x → KnowsPart (p.1, t) x.part)
          → (clause_step b form s t ≡ Ok s') × KnowsPart (p.1, t) s'.part
      by_result r q known = (q b ∙ sym (q a) ∙ e, known s' (sym (q a) ∙ e))

      by_shape : StepShape p t (λ x. clause_step x form s t)
          → (clause_step b form s t ≡ Ok s') × KnowsPart (p.1, t) s'.part
      by_shape (Always (Ok x) q known) =
          by_result (Ok x) q (λ y h.
          subst (λ (z : ItemState). KnowsPart (p.1, t) z.part) (kept_is x y h) known)
      by_shape (Always (Err d) q known) = by_result (Err d) q (λ y h. absurd (not_both d y h))
      by_shape (Where g x q own known offset) = by_test (passes g a) refl
        where
          by_test : (y : Bool) → passes g a ≡ y
              → (clause_step b form s t ≡ Ok s') × KnowsPart (p.1, t) s'.part
          by_test true h =
              let same : kept x ≡ kept s' = sym (ap (λ (z : Bool). gated z x (gate_fault g (is_check t && is_tilde p.1))) h) ∙ sym (q a) ∙ e in (
                q b
                    ∙ ap (λ (z : Bool). gated z x (gate_fault g (is_check t && is_tilde p.1)))
                    (passes_wider g a b w h) ∙ same,
                subst (λ (z : ItemState). KnowsPart (p.1, t) z.part) (kept_is x s' same) known,
              )
          by_test false h =
              absurd (not_both (gate_fault g (is_check t && is_tilde p.1)) s' (sym
              (ap (λ (z : Bool). gated z x (gate_fault g (is_check t && is_tilde p.1)))
              h) ∙ sym (q a) ∙ e))

  taken_wider : (a b : Limits) (p : Token × Token) (s : ItemState) (ts : List Token) (s' : ItemState)
      → KnowsPart p s.part → Wider a b → run_over a form s ts ≡ Ok s'
      → (run_over b form s ts ≡ Ok s') × KnowsPart (last_two p.0 p.1 ts) s'.part
  taken_wider a b p s [] s' k w e =
      (e, subst (λ (z : ItemState). KnowsPart p z.part) (kept_is s s' e) k)
  taken_wider a b p s (t ∷ ts) s' k w e =
      by_step (clause_step a form s t) refl e (λ x j h. taken_wider a b (p.1, t) x ts s' j w h)
    where
      by_step : (r : Result ItemState Fault) → clause_step a form s t ≡ r
          → (r >>= λ x. run_over a form x ts) ≡ Ok s'
          → ((x : ItemState) → KnowsPart (p.1, t) x.part → run_over a form x ts ≡ Ok s'
          → (run_over b form x ts ≡ Ok s') × KnowsPart (last_two p.1 t ts) s'.part)
          → ((clause_step b form s t >>= λ x. run_over b form x ts) ≡ Ok s')
          × KnowsPart (last_two p.1 t ts) s'.part
      by_step (Ok x) q h f =
          let n = step_wider a b p s t x k w q in
          let r = f x n.1 h in
          (ap (λ (z : Result ItemState Fault). z >>= λ y. run_over b form y ts) n.0 ∙ r.0, r.1)
      by_step (Err d) q h f = absurd (not_both d s' h)

  -- tokens that were taken
  module _ (most : Limits) (ts : List Token) (s : ItemState)
      (reached : run_over most form (clause_start form) ts ≡ Ok s) where
    abbrev ends : Token × Token
    ends = last_two tokens.End tokens.End ts

    under : (b : Limits) → Wider most b → run_over b form (clause_start form) ts ≡ Ok s
    under b w =
        (taken_wider most b (tokens.End, tokens.End) (clause_start form) ts s start_knows w reached).0

    known : KnowsPart ends s.part
    known =
        (taken_wider most most (tokens.End, tokens.End) (clause_start form) ts s start_knows
        (record {
          nesting = omega arith;
          operators = omega arith;
          items = omega arith;
          names = omega arith;
          parameters = omega arith;
        }) reached).1

    pushed : (b : Limits) (t : Token) → Wider most b
        → run_over b form (clause_start form) (ts ++ t ∷ []) ≡ (clause_step b form s t >>= λ x. Ok x)
    pushed b t w = run_over-append b form (clause_start form) s ts (t ∷ []) (under b w)

    same_limits : Wider most most
    same_limits =
        record {
          nesting = omega arith;
          operators = omega arith;
          items = omega arith;
          names = omega arith;
          parameters = omega arith;
        }

    module _ (some : 0 < most.nesting) (one : 0 < most.names) (two : 0 < most.parameters)
        (t : Token) where
      -- a token that is taken can stand
      stands : (s' : ItemState) → clause_step most form s t ≡ Ok s'
          → (run_over most form (clause_start form) (ts ++ t ∷ []) ≡ Ok s')
          × CanStand most form (ts ++ t ∷ [])
      stands s' e = (all, choose (has_offset most s'.part) refl)
        where
          all : run_over most form (clause_start form) (ts ++ t ∷ []) ≡ Ok s'
          all = pushed most t same_limits ∙ ap (λ (r : Result ItemState Fault). r >>= λ x. Ok x) e

          after : KnowsPart (ends.1, t) s'.part
          after = (step_wider most most ends s t s' known same_limits e).1

          choose : (b : Bool) → has_offset most s'.part ≡ b → CanStand most form (ts ++ t ∷ [])
          choose true offset = BeginsText (begins most form (ts ++ t ∷ []) s' some one all offset)
          choose false offset =
              let wide = joined most (wide_part s'.part) in
              let w = wider_left most (wide_part s'.part) in
              let now : run_over wide form (clause_start form) (ts ++ t ∷ []) ≡ Ok s' = pushed wide t w ∙ ap (λ (r : Result ItemState Fault). r >>= λ x. Ok x) (step_wider most wide ends s t s' known w e).0 in
              BeforeAName (record {
                earlier = ts;
                separator = t;
                is_one = separated most (ends.1, t) s'.part one two after offset;
                split = refl;
                begins =
                    begins most form ts s some one reached
                    (offset_before most form s.items s.part t s' e);
                wider = wide;
                same = wide_depths most s'.part;
                more =
                    begins wide form (ts ++ t ∷ []) s' (let h = w.nesting in omega arith)
                    (let h = w.names in omega arith) now (wide_has_offset most s'.part);
              })

      -- where no limits help, no text begins so
      no_wider : (d : Fault) → ((b : Limits) → clause_step b form s t ≡ Err d) → (wider : Limits)
          → BeginsForm wider form (ts ++ t ∷ []) → ⊥
      no_wider d e wider b =
          let c = joined most wider in
          let r = takes wider form (ts ++ t ∷ []) b in
          let up = (taken_wider wider c (tokens.End, tokens.End) (clause_start form) (ts ++ t ∷ []) r.0 start_knows (wider_right most wider) r.1).0 in
          let q : (clause_step c form s t >>= λ x. Ok x) ≡ kept r.0 = sym (pushed c t (wider_left most wider)) ∙ up in
          not_both d r.0 (ap (λ (y : Result ItemState Fault). y >>= λ x. Ok x) (sym (e c)) ∙ q)

      no_text : (d : Fault) → clause_step most form s t ≡ Err d → BeginsForm most form (ts ++ t ∷ []) → ⊥
      no_text d e b =
          let r = takes most form (ts ++ t ∷ []) b in
          let q : (clause_step most form s t >>= λ x. Ok x) ≡ kept r.0 = sym (pushed most t same_limits) ∙ r.1 in
          not_both d r.0 (ap (λ (y : Result ItemState Fault). y >>= λ x. Ok x) (sym e) ∙ q)

      -- wider limits help where a limit refused
      wider_text : (g : Gate) (x : ItemState) (d : Fault)
          → ((b : Limits) → clause_step b form s t ≡ gated (passes g b) x d)
          → ((b : Limits) → has_offset b x.part ≡ true)
          → BeginsForm (joined most (gate_limits g)) form (ts ++ t ∷ [])
      wider_text g x d q offset =
          let c = joined most (gate_limits g) in
          let w = wider_left most (gate_limits g) in
          let e : run_over c form (clause_start form) (ts ++ t ∷ []) ≡ Ok x = pushed c t w ∙ ap (λ (y : Result ItemState Fault). y >>= λ z. Ok z) (q c ∙ ap (λ (y : Bool). gated y x d) (gate_passes most g)) in
          begins c form (ts ++ t ∷ []) x (let h = w.nesting in omega arith)
          (let h = w.names in omega arith) e (offset c)

      -- a token that is refused cannot stand
      cannot_stand : (d : Fault) → clause_step most form s t ≡ Err d → CanStand most form (ts ++ t ∷ [])
          → ⊥
      cannot_stand d e (BeginsText b) = no_text d e b
      cannot_stand d e (BeforeAName a) = by_shape (step_shape form ends s t known)
        where
          same : t ≡ a.separator
          same =
              sym (ap (λ (p : Token × Token). p.1) (last_two-push tokens.End tokens.End ts t))
              ∙ ap (λ (us : List Token). (last_two tokens.End tokens.End us).1) a.split
              ∙ ap (λ (p : Token × Token). p.1)
              (last_two-push tokens.End tokens.End a.earlier a.separator)

          by_shape : StepShape ends t (λ b. clause_step b form s t) → ⊥
          by_shape (Always (Ok x) q k) = not_both d x (sym e ∙ q most)
          by_shape (Always (Err f) q k) = no_wider f q a.wider a.more
          by_shape (Where g x q own k offset) =
              own.no_separator (subst IsSeparator (sym same) a.is_one)

-- ---- the first fault

-- what a step's fault says of the token at an offset, after these
abbrev pub RefusedAs : Limits → Form → List TokenAt → TokenAt → Fault → Type 0
RefusedAs most form before here (Here r) = BreaksRule most form before here r here.offset
RefusedAs most form before here (Before r) =
    BreaksRule most form before here r (last_offset 0 before)

module _ (most : Limits) (form : Form) (some : 0 < most.nesting) (one : 0 < most.names)
    (two : 0 < most.parameters) (before : List TokenAt) (s : ItemState)
    (reached : run_over most form (clause_start form) (model_tokens_of before) ≡ Ok s) (here : TokenAt) where
  abbrev two_before : Token × Token
  two_before = last_two tokens.End tokens.End (model_tokens_of before)

  too_many : (wider : Limits) → SameDepths most wider
      → BeginsForm wider form (model_tokens_of before ++ here.token ∷ []) → (b : Bool)
      → (is_check here.token && is_tilde two_before.1) ≡ b
      → RefusedAs most form before here (many_fault b)
  too_many wider same text true e =
      TooMany wider same text refl (sym (ap
      (λ (b : Bool). if b then last_offset 0 before else here.offset) e))
  too_many wider same text false e =
      TooMany wider same text refl (sym (ap
      (λ (b : Bool). if b then last_offset 0 before else here.offset) e))

  too_deep : (wider : Limits) → SameCounts most wider
      → BeginsForm wider form (model_tokens_of before ++ here.token ∷ [])
      → RefusedAs most form before here (Here rules.TooDeep)
  too_deep wider same text = TooDeep wider same text refl refl

  gate_refusal : (g : Gate)
      → BeginsForm (joined most (gate_limits g)) form (model_tokens_of before ++ here.token ∷ [])
      → RefusedAs most form before here (gate_fault g
      (is_check here.token && is_tilde two_before.1))
  gate_refusal (Nest n) text =
      too_deep (joined most (gate_limits (Nest n))) (omega arith, omega arith, omega arith) text
  gate_refusal (Operate n) text =
      too_deep (joined most (gate_limits (Operate n))) (omega arith, omega arith, omega arith) text
  gate_refusal (Count n) text =
      too_many (joined most (gate_limits (Count n))) (omega arith, omega arith) text
      (is_check here.token && is_tilde two_before.1) refl
  gate_refusal (Names n) text =
      too_many (joined most (gate_limits (Names n))) (omega arith, omega arith) text
      (is_check here.token && is_tilde two_before.1) refl
  gate_refusal (Takes n) text =
      too_many (joined most (gate_limits (Takes n))) (omega arith, omega arith) text
      (is_check here.token && is_tilde two_before.1) refl

  refusal : (d : Fault) → clause_step most form s here.token ≡ Err d → RefusedAs most form before here d
  refusal d e =
      by_shape (step_shape form two_before s here.token
      (known form most (model_tokens_of before) s reached))
    where
      same_fault : (a b : Fault) → fails a ≡ fails b → a ≡ b
      same_fault a b h = cc

      by_shape : StepShape two_before here.token (λ b. clause_step b form s here.token)
          → RefusedAs most form before here d
      by_shape (Always (Ok x) q k) = absurd (not_both d x (sym e ∙ q most))
      by_shape (Always (Err (Before r)) q k) = absurd k
      by_shape (Always (Err (Here r)) q (Broke b)) =
          subst (RefusedAs most form before here) (same_fault (Here r) d (sym (q most) ∙ e))
          (Nowhere b refl)
      by_shape (Always (Err (Here r)) q (Plainly own b)) =
          subst (RefusedAs most form before here) (same_fault (Here r) d (sym (q most) ∙ e))
          (Plain
          (no_wider form most (model_tokens_of before) s reached some one two here.token (Here r)
          q) own b refl)
      by_shape (Where g x q own k offset) = by_test (passes g most) refl
        where
          by_test : (y : Bool) → passes g most ≡ y → RefusedAs most form before here d
          by_test true h =
              absurd (not_both d x (sym e ∙ q most
              ∙ ap
              (λ (z : Bool). gated z x (gate_fault g
              (is_check here.token && is_tilde two_before.1))) h))
          by_test false h =
              subst (RefusedAs most form before here) (same_fault
              (gate_fault g (is_check here.token && is_tilde two_before.1)) d
              (sym (ap
              (λ (z : Bool). gated z x (gate_fault g
              (is_check here.token && is_tilde two_before.1))) h)
              ∙ sym (q most) ∙ e))
              (gate_refusal g (wider_text form most (model_tokens_of before) s reached some one two
              here.token g x
              (gate_fault g (is_check here.token && is_tilde two_before.1)) q offset))

-- the text that was taken, or the fault
abbrev pub Outcome : Limits → Form → List TokenAt → ItemsResult → Type 0
Outcome most form ps (Ok s) = run_over most form (clause_start form) (model_tokens_of ps) ≡ Ok s
Outcome most form ps (Err e) = IsFormFault most form ps e.0 e.1

pub outcome : (most : Limits) (form : Form) (ps : List TokenAt) → 0 < most.nesting → 0 < most.names
    → 0 < most.parameters → Outcome most form ps (run_items most form 0 (clause_start form) ps)
outcome most form ps some one two =
    go [] 0 refl (clause_start form) ps refl (BeginsText (begins most form [] (clause_start form) some one refl
    (start_has_offset form most)))
  where
    go : (before : List TokenAt) (n : ℕ) → last_offset 0 before ≡ n
        → (s : ItemState) (rest : List TokenAt)
        → run_over most form (clause_start form) (model_tokens_of before) ≡ Ok s
        → CanStand most form (model_tokens_of before)
        → Outcome most form (before ++ rest) (run_items most form n s rest)
    go before n at_n s [] reached stand = rw append-nil reached
    go before n at_n s (p ∷ rest) reached stand =
        by_step (clause_step most form s p.token) refl
        (λ x h. rw (← append_assoc before (p ∷ []) rest) (go (before ++ p ∷ []) p.offset
        (last_offset-push 0 before p) x rest (rw (tokens_of-append before (p ∷ [])) h.0)
        (rw (tokens_of-append before (p ∷ [])) h.1)))
      where
        fault : (r : CatRule) (offset : ℕ) → (d : Fault) → clause_step most form s p.token ≡ Err d
            → BreaksRule most form before p r offset
            → IsFormFault most form (before ++ p ∷ rest) r offset
        fault r offset d e h =
            record { before = before; here = p; after = rest; split = refl; stand = stand; ends = cannot_stand form most (model_tokens_of before) s reached some one two p.token d e; refusal = h }

        by_step : (r : Result ItemState Fault) → clause_step most form s p.token ≡ r
            → ((x : ItemState)
            → (run_over most form (clause_start form) (model_tokens_of before ++ p.token ∷ []) ≡ Ok x)
            × CanStand most form (model_tokens_of before ++ p.token ∷ [])
            → Outcome most form (before ++ p ∷ rest) (run_items most form p.offset x rest))
            → Outcome most form (before ++ p ∷ rest) (and_then (with_offset n p.offset r)
            (λ x. run_items most form p.offset x rest))
        by_step (Ok x) e f =
            f x (stands form most (model_tokens_of before) s reached some one two p.token x e)
        by_step (Err (Here r)) e f =
            fault r p.offset (Here r) e (refusal most form some one two before s reached p (Here r)
            e)
        by_step (Err (Before r)) e f =
            fault r n (Before r) e (subst (BreaksRule most form before p r) at_n
            (refusal most form some one two before s reached p (Before r) e))
