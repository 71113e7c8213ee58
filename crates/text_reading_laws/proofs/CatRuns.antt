-- What begins a text under more counts, and under more depth, the machine takes under the limits
-- themselves.
use Rattle.std.proofs.Common.{◌≡◌, ℕ, ◌+◌, ◌<◌, Bool, true, false, List, [], ◌∷◌, ◌++◌, Option, Some, None, Result, Ok, Err, length, ◌⊎◌, inl, inr, refl, sym, ap, ◌∙◌, subst, arith}
use Rattle.std.specs.Prelude.{nat_lt, ◌&&◌, if◌then◌else◌}
use Rattle.std.proofs.lemmas.Bool.{ltb-false}
use Rattle.cat_tokens.specs.declared.rule.CatRule.{CatRule}
use Rattle.cat_tokens.specs.declared.rule.CatRule.TheVariants as rules
use Rattle.cat_tokens.specs.declared.token.Token.{Token}
use Rattle.cat_tokens.specs.declared.token.Token.TheVariants as tokens
use Rattle.text_values.specs.declared.model.Postfix.TheVariants as postfix
use Rattle.text_values.specs.ModelValue.{Term, Clause, Atom, Mark}
use Rattle.cat_grammar.specs.declared.form.Form.{Form}
use Rattle.cat_grammar.specs.declared.form.Form.TheVariants as forms
use Rattle.cat_grammar.specs.Grammar.{Limits, BeginsForm, SameCounts, SameDepths, IsSeparator, CanStand, BeginsText, BeforeAName, last_two, is_tilde, is_check}
use Rattle.cat_grammar.specs.Machine.{TermFrame, TermExpectation, Wants, HasBrace, HasName, Has, HasStar, HasStarTilde, fold_to, term_ended, expression_step}
use Rattle.cat_grammar.specs.ItemMachine as items
use Rattle.cat_grammar.specs.ItemMachine.{Keyword, Named, And, Parameter, AfterParameter, Parameters, Head, Part, Start, InLet, AfterFlag, AfterTilde, Body, Label, ShowLabel, AfterShowLabel, AfterInclude, Done, Fault, Here, ItemState, excess, unless, item_or_end, finished, shown_clause, at, added, goes_on, step_part, clause_step, clause_start}
use Rattle.cat_grammar.proofs.Runs.{◌>>=◌, run_over}
use Rattle.cat_grammar.proofs.Finishes.{has_offset, begins, takes}
use Rattle.cat_grammar.proofs.Shapes.{KnowsPart, Gate, Nest, Operate, Count, Names, Takes, passes, gate_fault, StepShape, Always, Where, step_shape}

-- ---- a token that stands nowhere is refused

abbrev IsRefused : Result ItemState Fault → Type 0
IsRefused (Ok s) = ⊥
IsRefused (Err e) = Unit {0}

module _ (r : CatRule) (most : Limits) (form : Form) (cs : List Clause) where
  unless_refused : (is : List Clause) (o : Option CatRule) (e : Fault)
      → IsRefused (at is (unless o (Err e)))
  unless_refused is None e = tt
  unless_refused is (Some k) e = tt

  added_refused : (x : Result Clause Fault)
      → IsRefused (added cs x (λ n. item_or_end most form n (tokens.Broken r)))
  added_refused (Ok c) = unless_refused (cs ++ c ∷ []) (excess most form (length cs + 1)) (Here r)
  added_refused (Err e) = tt

  ended_refused : (h : Head) (fs : List TermFrame) (v : Term)
      → IsRefused (goes_on most form cs h (tokens.Broken r) (term_ended (tokens.Broken r) (fs, v)))
  ended_refused h [] v = added_refused (finished h v r)
  ended_refused h (f ∷ fs) v = tt

  folded_refused : (h : Head) (p : List TermFrame × Term)
      → IsRefused (goes_on most form cs h (tokens.Broken r) (term_ended (tokens.Broken r) p))
  folded_refused h (fs, v) = ended_refused h fs v

  body_refused : (h : Head) (fs : List TermFrame) (used : ℕ) (expected : TermExpectation)
      → IsRefused (goes_on most form cs h (tokens.Broken r)
      (expression_step most fs used expected (tokens.Broken r)))
  body_refused h fs used Wants = tt
  body_refused h fs used HasBrace = tt
  body_refused h fs used (HasName n) = folded_refused h (fold_to 0 fs (Atom n))
  body_refused h fs used (Has v) = folded_refused h (fold_to 0 fs v)
  body_refused h fs used (HasStar v) = folded_refused h (fold_to 0 fs (Mark postfix.Closure v))
  body_refused h fs used (HasStarTilde v) = tt

  let_refused : (q : items.LetPart) → IsRefused (at cs (items.after_let most q (tokens.Broken r)))
  let_refused Keyword = tt
  let_refused (Named n) = tt
  let_refused (And g) = tt
  let_refused (items.Bound g n) = tt
  let_refused (Parameter n ps) = tt
  let_refused (AfterParameter n ps) = tt
  let_refused (Parameters n ps) = tt

  part_refused : (p : Part) → IsRefused (step_part most form cs p (tokens.Broken r))
  part_refused items.Title = unless_refused cs (excess most form (length cs)) (Here r)
  part_refused Start = unless_refused cs (excess most form (length cs)) (Here r)
  part_refused (InLet q) = let_refused q
  part_refused AfterFlag = tt
  part_refused (AfterTilde flagged) = tt
  part_refused (Body h fs used expected) = body_refused h fs used expected
  part_refused (Label h v) = tt
  part_refused (ShowLabel s v) = tt
  part_refused (AfterShowLabel s) = added_refused (Ok (shown_clause s))
  part_refused AfterInclude = tt
  part_refused Done = tt

-- ---- runs

abbrev kept : ItemState → Result ItemState Fault
kept s = Ok s

kept_is : (s u : ItemState) → kept s ≡ kept u → s ≡ u
kept_is s u e = cc

not_both : (d : Fault) (s : ItemState) → Err d ≡ kept s → ⊥
not_both d s e = absurd cc

abbrev gated : Bool → ItemState → Fault → Result ItemState Fault
gated b s d = if b then Ok s else Err d

record Stepped (r : Result ItemState Fault) (next : ItemState → Result ItemState Fault) (end : ItemState)
    : Type 0 where
  state : ItemState
  by : r ≡ Ok state
  on : next state ≡ Ok end

first_step : (r : Result ItemState Fault) (next : ItemState → Result ItemState Fault) (end : ItemState)
    → (r >>= next) ≡ Ok end → Stepped r next end
first_step (Ok s) next end e = record { state = s; by = refl; on = e }
first_step (Err d) next end e = absurd cc

module _ (form : Form) where
  -- the state before the last token
  last_step : (most : Limits) (s : ItemState) (ts : List Token) (t : Token) (end : ItemState)
      → run_over most form s (ts ++ t ∷ []) ≡ Ok end
      → (u : ItemState) × (run_over most form s ts ≡ Ok u) × (clause_step most form u t ≡ Ok end)
  last_step most s [] t end e =
      let f = first_step (clause_step most form s t) (λ x. Ok x) end e in
      (s, refl, f.by ∙ f.on)
  last_step most s (x ∷ ts) t end e =
      let f = first_step (clause_step most form s x) (λ y. run_over most form y (ts ++ t ∷ [])) end e in
      let r = last_step most f.state ts t end f.on in
      (r.0, ap (λ (y : Result ItemState Fault). y >>= λ z. run_over most form z ts) f.by ∙ r.1, r.2)

  -- no text holds a token that stands nowhere
  pub broken_nowhere : (most : Limits) (ts : List Token) (r : CatRule)
      → BeginsForm most form (ts ++ tokens.Broken r ∷ []) → ⊥
  broken_nowhere most ts r b =
      let taken = takes most form (ts ++ tokens.Broken r ∷ []) b in
      let l = last_step most (clause_start form) ts (tokens.Broken r) taken.0 taken.1 in
      subst IsRefused l.2 (part_refused r most form l.0.items l.0.part)

  start_knows : KnowsPart (tokens.End, tokens.End) (clause_start form).part
  start_knows = by_form form
    where
      by_form : (f : Form) → KnowsPart (tokens.End, tokens.End) (clause_start f).part
      by_form forms.Model = (((refl, refl), refl), refl)
      by_form forms.Item = (((refl, refl), refl), refl)

  -- ---- limits that are those of depth of one, and those of number of another

  module _ (most a b : Limits) (depths : SameDepths most a) (counts : SameCounts most b) where
    passes_both : (g : Gate) → passes g a ≡ true → passes g b ≡ true → passes g most ≡ true
    passes_both (Nest n) x y = ap (nat_lt n) depths.0 ∙ x
    passes_both (Operate n) x y = ap (nat_lt n) depths.1 ∙ x
    passes_both (Count n) x y = ap (nat_lt n) counts.0 ∙ y
    passes_both (Names n) x y = ap (nat_lt n) counts.1 ∙ y
    passes_both (Takes n) x y = ap (nat_lt n) counts.2 ∙ y

    record Both (p : Token × Token) (t : Token) (s x y : ItemState) : Type 0 where
      taken : clause_step most form s t ≡ Ok x
      same : y ≡ x
      known : KnowsPart (p.1, t) x.part

    step_both : (p : Token × Token) (s : ItemState) (t : Token) (x y : ItemState) → KnowsPart p s.part
        → clause_step a form s t ≡ Ok x → clause_step b form s t ≡ Ok y → Both p t s x y
    step_both p s t x y k e h = by_shape (step_shape form p s t k)
      where
        by_state : (z : ItemState) → clause_step most form s t ≡ Ok z → clause_step a form s t ≡ Ok z
            → clause_step b form s t ≡ Ok z → KnowsPart (p.1, t) z.part → Both p t s x y
        by_state z m f g known =
            let first = kept_is z x (sym f ∙ e) in
            let second = kept_is z y (sym g ∙ h) in
            record { taken = m ∙ ap kept first; same = sym second ∙ first; known = subst (λ (w : ItemState). KnowsPart (p.1, t) w.part) first known }

        by_gate : (g : Gate) (z : ItemState) (d : Fault)
            → ((c : Limits) → clause_step c form s t ≡ gated (passes g c) z d) → KnowsPart (p.1, t) z.part
            → Both p t s x y
        by_gate g z d q known = by_tests (passes g a) (passes g b) refl refl
          where
            at_test : (c : Limits) (v : Bool) → passes g c ≡ v → clause_step c form s t ≡ gated v z d
            at_test c v i = q c ∙ ap (λ (w : Bool). gated w z d) i

            by_tests : (v w : Bool) → passes g a ≡ v → passes g b ≡ w → Both p t s x y
            by_tests true true i j =
                by_state z (at_test most true (passes_both g i j)) (at_test a true i)
                (at_test b true j) known
            by_tests false w i j = absurd (not_both d x (sym (at_test a false i) ∙ e))
            by_tests true false i j = absurd (not_both d y (sym (at_test b false j) ∙ h))

        by_shape : StepShape p t (λ c. clause_step c form s t) → Both p t s x y
        by_shape (Always (Ok z) q known) = by_state z (q most) (q a) (q b) known
        by_shape (Always (Err d) q known) = absurd (not_both d x (sym (q a) ∙ e))
        by_shape (Where g z q own known offset) =
            by_gate g z (gate_fault g (is_check t && is_tilde p.1)) q known

    run_both : (p : Token × Token) (s : ItemState) (ts : List Token) (x y : ItemState) → KnowsPart p s.part
        → run_over a form s ts ≡ Ok x → run_over b form s ts ≡ Ok y
        → (run_over most form s ts ≡ Ok x) × KnowsPart (last_two p.0 p.1 ts) x.part
    run_both p s [] x y k e h = (e, subst (λ (z : ItemState). KnowsPart p z.part) (kept_is s x e) k)
    run_both p s (t ∷ ts) x y k e h =
        let f = first_step (clause_step a form s t) (λ z. run_over a form z ts) x e in
        let g = first_step (clause_step b form s t) (λ z. run_over b form z ts) y h in
        let n = step_both p s t f.state g.state k f.by g.by in
        let r = run_both (p.1, t) f.state ts x y n.known f.on (subst (λ (z : ItemState). run_over b form z ts ≡ Ok y) n.same g.on) in
        (ap (λ (z : Result ItemState Fault). z >>= λ w. run_over most form w ts) n.taken ∙ r.0, r.1)

-- ---- what can stand

-- a state without a place for its name takes no token
offset_before : (most : Limits) (form : Form) (cs : List Clause) (p : Part) (t : Token) (s : ItemState)
    → step_part most form cs p t ≡ Ok s → has_offset most p ≡ true
offset_before most form cs (InLet (And g)) (tokens.Name n) s e =
    choose (nat_lt (length g.bindings) most.names) e
  where
    choose : (b : Bool)
        → at cs (if b then Ok (InLet (items.Bound g n)) else Err (Here rules.TooMany)) ≡ Ok s
        → b ≡ true
    choose true e = refl
    choose false e = absurd cc
offset_before most form cs (InLet (And g)) _ s e = absurd cc
offset_before most form cs (InLet (Parameter n ps)) (tokens.Name m) s e =
    choose (nat_lt (length ps) most.parameters) e
  where
    choose : (b : Bool)
        → at cs (if b then Ok (InLet (AfterParameter n (ps ++ m ∷ [])))
        else Err (Here rules.TooMany)) ≡ Ok s → b ≡ true
    choose true e = refl
    choose false e = absurd cc
offset_before most form cs (InLet (Parameter n ps)) _ s e = absurd cc
offset_before most form cs _ t s e = refl

-- what such a state comes after
separated : (most : Limits) (p : Token × Token) (q : Part) → 0 < most.names → 0 < most.parameters
    → KnowsPart p q → has_offset most q ≡ false → IsSeparator p.1
separated most p (InLet (And g)) one two k e = choose k.2
  where
    choose : IsSeparator p.1 ⊎ (length g.bindings ≡ 0) → IsSeparator p.1
    choose (inl h) = h
    choose (inr h) = let low = ltb-false _ _ e in absurd (omega arith)
separated most p (InLet (Parameter n ps)) one two k e = choose k.1
  where
    choose : IsSeparator p.1 ⊎ (length ps ≡ 0) → IsSeparator p.1
    choose (inl h) = h
    choose (inr h) = let low = ltb-false _ _ e in absurd (omega arith)
separated most p _ one two k e = absurd cc

last_is : (a b : Token) (ts : List Token) (t : Token) → (last_two a b (ts ++ t ∷ [])).1 ≡ t
last_is a b [] t = refl
last_is a b (u ∷ ts) t = last_is b u ts t

-- a token that can stand if more may be counted, and if more may be open, can stand
pub stands_by_both : (most : Limits) (form : Form) (ts : List Token) (t : Token) (a b : Limits)
    → 0 < most.nesting → 0 < most.names → 0 < most.parameters → SameDepths most a
    → SameCounts most b → BeginsForm a form (ts ++ t ∷ []) → BeginsForm b form (ts ++ t ∷ [])
    → CanStand most form (ts ++ t ∷ [])
stands_by_both most form ts t a b some one two depths counts more deeper =
    let x = takes a form (ts ++ t ∷ []) more in
    let y = takes b form (ts ++ t ∷ []) deeper in
    let both = run_both form most a b depths counts (tokens.End, tokens.End) (clause_start form) (ts ++ t ∷ []) x.0 y.0 (start_knows form) x.1 y.1 in
    choose x.0 both.0 both.1 (has_offset most x.0.part) refl
  where
    choose : (x : ItemState) → run_over most form (clause_start form) (ts ++ t ∷ []) ≡ Ok x
        → KnowsPart (last_two tokens.End tokens.End (ts ++ t ∷ [])) x.part → (v : Bool)
        → has_offset most x.part ≡ v → CanStand most form (ts ++ t ∷ [])
    choose x all known true offset =
        BeginsText (begins most form (ts ++ t ∷ []) x some one all offset)
    choose x all known false offset =
        let l = last_step form most (clause_start form) ts t x all in
        BeforeAName (record {
          earlier = ts;
          separator = t;
          is_one =
              subst IsSeparator (last_is tokens.End tokens.End ts t) (separated most
              (last_two tokens.End tokens.End (ts ++ t ∷ [])) x.part one two known offset);
          split = refl;
          begins =
              begins most form ts l.0 some one l.1
              (offset_before most form l.0.items l.0.part t x l.2);
          wider = a;
          same = depths;
          more = more;
        })
