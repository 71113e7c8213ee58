-- The machine takes the texts of conditions and nothing else.
use Rattle.std.proofs.Common.{◌≡◌, ℕ, ◌<◌, Bool, true, false, List, [], ◌∷◌, ◌++◌, Some, None, Ok, Err, refl, sym, ap, ◌∙◌, subst}
use Rattle.std.specs.Prelude.{codes, if◌then◌else◌}
use Rattle.std.specs.Str.{bytes_eq}
use Rattle.std.proofs.lemmas.Slice.Eq.{bytes_eq-Decides}
use Rattle.std.proofs.lemmas.Bool.{false≢true}
use Rattle.std.proofs.lemmas.Option.{none-some, same_Some}
use Rattle.litmus_tokens.specs.declared.rule.LitmusRule.TheVariants as rules
use Rattle.litmus_tokens.specs.declared.stage.Stage.{Stage}
use Rattle.litmus_tokens.specs.declared.stage.Stage.TheVariants.{Tail}
use Rattle.litmus_tokens.specs.declared.token.Token.{Token}
use Rattle.litmus_tokens.specs.declared.token.Token.TheVariants as tokens
use Rattle.litmus_tokens.specs.declared.token.Mark.TheVariants as marks
use Rattle.litmus_tokens.specs.Stage.{next_stage}
use Rattle.litmus_tokens.specs.Texts.{TokenAt, test_tokens_of, stage_after, are_none}
use Rattle.litmus_tokens.specs.Words.{is_filter}
use Rattle.litmus_tokens.specs.Faults.{Begins, CanFollow, Always, ruling, RulingSays}
use Rattle.text_values.specs.declared.test.Quantifier.{Quantifier}
use Rattle.text_values.specs.declared.test.Quantifier.TheVariants.{Exists, NotExists, Forall}
use Rattle.text_values.specs.TestValue.{Formula}
use Rattle.litmus_tokens.specs.Conditions.{condition_limits, tree_formula, spelled, spelled_quantifier, IsConditionText}
use Rattle.litmus_tokens.specs.ConditionMachine.{ConditionFrame, ConditionExpectation, Wants, ConditionStepResult, Goes, Ends, Refuses, proposition_step, whole_at, go_on, proposition}
use Rattle.litmus_tokens.specs.ConditionLaws.{takes_on, takes_tokens, IsPropositionText}
use Rattle.litmus_tokens.proofs.Sound.{sound}
use Rattle.litmus_tokens.proofs.Complete.{complete}
use Rattle.litmus_tokens.proofs.Beginnings.{takes_beginnings}
use Rattle.litmus_words.specs.Machine as table
use Rattle.litmus_grammar.specs.declared.parts.TextKind.{TextKind}
use Rattle.litmus_grammar.specs.declared.parts.TextKind.TheVariants as kinds
use Rattle.litmus_grammar.specs.TextMachine as text
use Rattle.litmus_grammar.specs.TextMachine.{Part, Draft, TextState, TextResult, with_offset, and_then, stepped, proposition_result, with_condition, nothing, text_start, run_parts, text_rule_at}
use Rattle.litmus_grammar.proofs.Equations.{no_first, same_first, same_others}
use Rattle.litmus_grammar.proofs.Runs.{follows}
use Rattle.litmus_grammar.proofs.Outcomes.{Reading, not_both}

-- ---- the part behind the table is one to its end

pub tail_stays : (ts : List Token) → stage_after Tail ts ≡ Tail
tail_stays [] = refl
tail_stays (t ∷ ts) = tail_stays ts

pub tail_says : (C : Token → Type 0) (kind : TextKind) (rows : table.TableState) (t : Token)
    → RulingSays C Tail (ruling Tail t) (text_rule_at kind rows Tail t)
tail_says C kind rows (tokens.Broken rule) = refl
tail_says C kind rows (tokens.Word w) = choose (is_filter w)
  where
    choose : (b : Bool)
        → RulingSays C Tail (if b then Always rules.Filter else Always rules.Condition)
        (if b then rules.Filter else rules.Condition)
    choose true = refl
    choose false = refl
tail_says C kind rows t = refl

module _ (threads : ℕ) (few : threads < 18446744073709551616) where
  abbrev standing : Stage → Part → Draft → TextState
  standing g p h =
      record { kind = kinds.Condition; threads = threads; stage = g; part = p; draft = h }

  abbrev went_on : Stage → Quantifier → Draft → Token → ℕ → ConditionStepResult → TextResult
  went_on g q h t n f =
      with_offset n (stepped (standing g text.Done h) t (proposition_result h q f))

  -- ---- the proposition

  done_takes : (g : Stage) (h : Draft) (ps : List TokenAt) (s : TextState)
      → run_parts (standing g text.Done h) ps ≡ Ok s → are_none (test_tokens_of ps) ≡ true
  done_takes g h [] s e = refl
  done_takes g h (p ∷ ps) s e = absurd (not_both _ _ e)

  prop_takes : (ps : List TokenAt) (g : Stage) (q : Quantifier) (fs : List ConditionFrame) (used : ℕ)
      (expected : ConditionExpectation) (h : Draft) (s : TextState)
      → run_parts (standing g (text.Proposition q fs used expected) h) ps ≡ Ok s
      → takes_tokens condition_limits threads fs used expected (test_tokens_of ps) ≡ true
  prop_takes [] g q fs used expected h s e = refl
  prop_takes (p ∷ ps) g q fs used expected h s e =
      by_result (proposition_step condition_limits threads fs used expected p.token) e
      (λ gs u o k. prop_takes ps (next_stage g p.token) q gs u o h s k)
    where
      by_result : (f : ConditionStepResult)
          → and_then (went_on g q h p.token p.offset f) (λ x. run_parts x ps) ≡ Ok s
          → ((gs : List ConditionFrame) (u : ℕ) (o : ConditionExpectation)
          → run_parts (standing (next_stage g p.token) (text.Proposition q gs u o) h) ps ≡ Ok s
          → takes_tokens condition_limits threads gs u o (test_tokens_of ps) ≡ true)
          → takes_on (λ gs u o. takes_tokens condition_limits threads gs u o (test_tokens_of ps)) (test_tokens_of ps) f ≡ true
      by_result (Goes gs u o) k later = later gs u o k
      by_result (Ends v) k later = done_takes (next_stage g p.token) (with_condition h q v) ps s k
      by_result Refuses k later = absurd (not_both _ _ k)

  done_ends : (g : Stage) (h : Draft) (ps : List TokenAt) (s : TextState) (v : Formula)
      → run_parts (standing g text.Done h) ps ≡ Ok s → whole_at v (test_tokens_of ps) ≡ Some v
  done_ends g h [] s v e = refl
  done_ends g h (p ∷ ps) s v e = absurd (not_both _ _ e)

  abbrev is_done : Part → Bool
  is_done text.Done = true
  is_done p = false

  abbrev done_in : TextResult → Bool
  done_in (Ok s) = is_done s.part
  done_in (Err e) = false

  prop_ends : (ps : List TokenAt) (g : Stage) (q : Quantifier) (fs : List ConditionFrame) (used : ℕ)
      (expected : ConditionExpectation) (h : Draft) (s : TextState)
      → run_parts (standing g (text.Proposition q fs used expected) h) ps ≡ Ok s → s.part ≡ text.Done
      → (v : Formula) × (proposition condition_limits threads fs used expected (test_tokens_of ps) ≡ Some v)
  prop_ends [] g q fs used expected h s e d =
      absurd (false≢true (ap done_in e ∙ ap is_done d))
  prop_ends (p ∷ ps) g q fs used expected h s e d =
      by_result (proposition_step condition_limits threads fs used expected p.token) e
      (λ gs u o k. prop_ends ps (next_stage g p.token) q gs u o h s k d)
    where
      by_result : (f : ConditionStepResult)
          → and_then (went_on g q h p.token p.offset f) (λ x. run_parts x ps) ≡ Ok s
          → ((gs : List ConditionFrame) (u : ℕ) (o : ConditionExpectation)
          → run_parts (standing (next_stage g p.token) (text.Proposition q gs u o) h) ps ≡ Ok s
          → (v : Formula) × (proposition condition_limits threads gs u o (test_tokens_of ps) ≡ Some v))
          → (v : Formula)
          × (go_on (λ gs u o. proposition condition_limits threads gs u o (test_tokens_of ps)) (test_tokens_of ps) f
          ≡ Some v)
      by_result (Goes gs u o) k later = later gs u o k
      by_result (Ends v) k later = (v, done_ends (next_stage g p.token) (with_condition h q v) ps s v k)
      by_result Refuses k later = absurd (not_both _ _ k)

  record IsAccepted (from : TextState) (ps : List TokenAt) (q : Quantifier) (v : Formula) : Type 0 where
    state : TextState
    by : run_parts from ps ≡ Ok state
    quantifier : state.draft.quantifier ≡ q
    formula : state.draft.formula ≡ v

  prop_runs : (ps : List TokenAt) (g : Stage) (q : Quantifier) (fs : List ConditionFrame) (used : ℕ)
      (expected : ConditionExpectation) (h : Draft) (v : Formula)
      → proposition condition_limits threads fs used expected (test_tokens_of ps) ≡ Some v
      → IsAccepted (standing g (text.Proposition q fs used expected) h) ps q v
  prop_runs [] g q fs used expected h v e = absurd (none-some v e)
  prop_runs (p ∷ ps) g q fs used expected h v e =
      let r = by_result (proposition_step condition_limits threads fs used expected p.token) e (λ gs u o k. let t = prop_runs ps (next_stage g p.token) q gs u o h v k in (t.state, t.by, t.quantifier, t.formula)) in
      record { state = r.0; by = r.1; quantifier = r.2; formula = r.3 }
    where
      by_end : (w : Formula) (qs : List TokenAt) → whole_at w (test_tokens_of qs) ≡ Some v
          → (s : TextState)
          × (run_parts (standing (next_stage g p.token) text.Done (with_condition h q w)) qs ≡ Ok s)
          × (s.draft.quantifier ≡ q) × (s.draft.formula ≡ v)
      by_end w [] k =
          (standing (next_stage g p.token) text.Done (with_condition h q w), refl, refl, same_Some w v k)
      by_end w (x ∷ qs) k = absurd (none-some v k)

      by_result : (f : ConditionStepResult)
          → go_on (λ gs u o. proposition condition_limits threads gs u o (test_tokens_of ps)) (test_tokens_of ps) f
          ≡ Some v
          → ((gs : List ConditionFrame) (u : ℕ) (o : ConditionExpectation)
          → proposition condition_limits threads gs u o (test_tokens_of ps) ≡ Some v
          → (s : TextState)
          × (run_parts (standing (next_stage g p.token) (text.Proposition q gs u o) h) ps ≡ Ok s)
          × (s.draft.quantifier ≡ q) × (s.draft.formula ≡ v))
          → (s : TextState) × (and_then (went_on g q h p.token p.offset f) (λ x. run_parts x ps) ≡ Ok s)
          × (s.draft.quantifier ≡ q) × (s.draft.formula ≡ v)
      by_result (Goes gs u o) k later = later gs u o k
      by_result (Ends w) k later = by_end w ps k
      by_result Refuses k later = absurd (none-some v k)

  -- ---- the quantifier

  abbrev IsText : List Token → Type 0
  IsText = IsConditionText condition_limits threads

  to_text : (q : Quantifier) (ts : List Token) → IsPropositionText condition_limits threads ts
      → IsText (spelled_quantifier q ts)
  to_text q ts p =
      record {
        quantifier = q;
        condition = p.text.tree;
        fine = p.text.fine;
        whole = ap (spelled_quantifier q) p.text.whole;
      }

  abbrev nothing_yet : Draft
  nothing_yet = nothing kinds.Condition

  -- where a text that is taken so far stands
  data Standing (ps : List TokenAt) (s : TextState) : Type 0 where
    Before : test_tokens_of ps ≡ [] → s.part ≡ text.WantsQuantifier → Standing ps s
    AfterTilde : test_tokens_of ps ≡ tokens.Mark marks.Tilde ∷ [] → s.part ≡ text.AfterTilde
        → Standing ps s
    Behind : (q : Quantifier) (g : Stage) (qs : List TokenAt)
        → test_tokens_of ps ≡ spelled_quantifier q (test_tokens_of qs)
        → run_parts (standing g (text.proposition_part q) nothing_yet) qs ≡ Ok s → Standing ps s

  same_word : (w v : List ℕ) → bytes_eq w v ≡ true → w ≡ v
  same_word w v e = (bytes_eq-Decides w v).0 e

  abbrev part_in : TextResult → Part
  part_in (Ok s) = s.part
  part_in (Err e) = text.Magic

  word_stands : (g : Stage) (w : List ℕ) (n : ℕ) (ps : List TokenAt) (s : TextState) (a b : Bool)
      → bytes_eq w (codes "exists") ≡ a → bytes_eq w (codes "forall") ≡ b
      → and_then
      (with_offset n (stepped (standing g text.WantsQuantifier nothing_yet) (tokens.Word w)
      (text.next_at nothing_yet (if a then Some (text.proposition_part Exists)
      else (if b then Some (text.proposition_part Forall) else None)))))
      (λ x. run_parts x ps) ≡ Ok s
      → Standing (record { token = tokens.Word w; offset = n } ∷ ps) s
  word_stands g w n ps s true b ea eb e =
      Behind Exists (next_stage g (tokens.Word w)) ps
      (ap (λ (x : List ℕ). tokens.Word x ∷ test_tokens_of ps) (same_word w (codes "exists") ea)) e
  word_stands g w n ps s false true ea eb e =
      Behind Forall (next_stage g (tokens.Word w)) ps
      (ap (λ (x : List ℕ). tokens.Word x ∷ test_tokens_of ps) (same_word w (codes "forall") eb)) e
  word_stands g w n ps s false false ea eb e = absurd (not_both _ _ e)

  exists_stands : (g : Stage) (m n : ℕ) (w : List ℕ) (ps : List TokenAt) (s : TextState) (a : Bool)
      → bytes_eq w (codes "exists") ≡ a
      → and_then
      (with_offset n (stepped (standing g text.AfterTilde nothing_yet) (tokens.Word w)
      (text.next_at nothing_yet
      (if a then Some (text.proposition_part NotExists) else None))))
      (λ x. run_parts x ps) ≡ Ok s
      → Standing
      (record { token = tokens.Mark marks.Tilde; offset = m }
      ∷ record { token = tokens.Word w; offset = n } ∷ ps) s
  exists_stands g m n w ps s true ea e =
      Behind NotExists (next_stage g (tokens.Word w)) ps
      (ap (λ (x : List ℕ). tokens.Mark marks.Tilde ∷ tokens.Word x ∷ test_tokens_of ps)
      (same_word w (codes "exists") ea)) e
  exists_stands g m n w ps s false ea e = absurd (not_both _ _ e)

  tilde_stands : (g : Stage) (m : ℕ) (ps : List TokenAt) (s : TextState)
      → run_parts (standing g text.AfterTilde nothing_yet) ps ≡ Ok s
      → Standing (record { token = tokens.Mark marks.Tilde; offset = m } ∷ ps) s
  tilde_stands g m [] s e = AfterTilde refl (sym (ap part_in e))
  tilde_stands g m (p ∷ ps) s e = by_token p.token p.offset e
    where
      by_token : (t : Token) (n : ℕ)
          → run_parts (standing g text.AfterTilde nothing_yet) (record { token = t; offset = n } ∷ ps)
          ≡ Ok s
          → Standing
          (record { token = tokens.Mark marks.Tilde; offset = m }
          ∷ record { token = t; offset = n } ∷ ps) s
      by_token (tokens.Word w) n k = exists_stands g m n w ps s (bytes_eq w (codes "exists")) refl k
      by_token t n k = absurd (not_both _ _ k)

  stands : (g : Stage) (ps : List TokenAt) (s : TextState)
      → run_parts (standing g text.WantsQuantifier nothing_yet) ps ≡ Ok s → Standing ps s
  stands g [] s e = Before refl (sym (ap part_in e))
  stands g (p ∷ ps) s e = by_token p.token p.offset e
    where
      by_token : (t : Token) (n : ℕ)
          → run_parts (standing g text.WantsQuantifier nothing_yet)
          (record { token = t; offset = n } ∷ ps) ≡ Ok s
          → Standing (record { token = t; offset = n } ∷ ps) s
      by_token (tokens.Mark marks.Tilde) n k =
          tilde_stands (next_stage g (tokens.Mark marks.Tilde)) n ps s k
      by_token (tokens.Word w) n k =
          word_stands g w n ps s (bytes_eq w (codes "exists")) (bytes_eq w (codes "forall")) refl
          refl k
      by_token t n k = absurd (not_both _ _ k)

  -- ---- what is taken begins a text

  spelled_more : (q : Quantifier) (ts us : List Token)
      → spelled_quantifier q ts ++ us ≡ spelled_quantifier q (ts ++ us)
  spelled_more Exists ts us = refl
  spelled_more NotExists ts us = refl
  spelled_more Forall ts us = refl

  begins_by : (ps : List TokenAt) (s : TextState) → Standing ps s → Begins IsText (test_tokens_of ps)
  begins_by ps s (Before e at_part) =
      let b = (takes_beginnings condition_limits threads few []).0 refl in
      record { rest = tokens.Word (codes "exists") ∷ b.rest; text = subst (λ ts. IsText (ts ++ tokens.Word (codes "exists") ∷ b.rest)) (sym e) (to_text Exists b.rest b.text) }
  begins_by ps s (AfterTilde e at_part) =
      let b = (takes_beginnings condition_limits threads few []).0 refl in
      record { rest = tokens.Word (codes "exists") ∷ b.rest; text = subst (λ ts. IsText (ts ++ tokens.Word (codes "exists") ∷ b.rest)) (sym e) (to_text NotExists b.rest b.text) }
  begins_by ps s (Behind q g qs e r) =
      let b = (takes_beginnings condition_limits threads few (test_tokens_of qs)).0 (prop_takes qs g q [] 0 Wants nothing_yet s r) in
      record { rest = b.rest; text = subst IsText (sym (ap (λ ts. ts ++ b.rest) e ∙ spelled_more q (test_tokens_of qs) b.rest)) (to_text q (test_tokens_of qs ++ b.rest) b.text) }

  -- and with its end it is one
  whole_by : (ps : List TokenAt) (s : TextState) → Standing ps s → s.part ≡ text.Done
      → IsText (test_tokens_of ps)
  whole_by ps s (Before e at_part) d = absurd (false≢true (ap is_done (sym at_part ∙ d)))
  whole_by ps s (AfterTilde e at_part) d = absurd (false≢true (ap is_done (sym at_part ∙ d)))
  whole_by ps s (Behind q g qs e r) d =
      let w = prop_ends qs g q [] 0 Wants nothing_yet s r d in
      subst IsText (sym e) (to_text q (test_tokens_of qs) (record {
        value = w.0;
        text = sound condition_limits threads few (test_tokens_of qs) w.0 w.1;
      }))

  pub condition_whole : (ps : List TokenAt) (s : TextState)
      → run_parts (text_start kinds.Condition threads) ps ≡ Ok s → s.part ≡ text.Done → IsText (test_tokens_of ps)
  condition_whole ps s e d = whole_by ps s (stands Tail ps s e) d

  -- ---- each text is taken

  abbrev first_draft : Quantifier → Stage → TextState
  first_draft q g = standing g (text.proposition_part q) nothing_yet

  quantifier_runs : (q : Quantifier) (ps : List TokenAt) (ts : List Token)
      → test_tokens_of ps ≡ spelled_quantifier q ts
      → (g : Stage) × (qs : List TokenAt) × (test_tokens_of qs ≡ ts)
      × (run_parts (text_start kinds.Condition threads) ps ≡ run_parts (first_draft q g) qs)
  quantifier_runs Exists [] ts e = absurd (no_first e)
  quantifier_runs Exists (p ∷ ps) ts e =
      let t : p.token ≡ tokens.Word (codes "exists") = same_first e in (
        next_stage Tail (tokens.Word (codes "exists")),
        ps,
        same_others e,
        ap
            (λ (x : Token). run_parts (standing Tail text.WantsQuantifier nothing_yet)
            (record { token = x; offset = p.offset } ∷ ps)) t,
      )
  quantifier_runs Forall [] ts e = absurd (no_first e)
  quantifier_runs Forall (p ∷ ps) ts e =
      let t : p.token ≡ tokens.Word (codes "forall") = same_first e in (
        next_stage Tail (tokens.Word (codes "forall")),
        ps,
        same_others e,
        ap
            (λ (x : Token). run_parts (standing Tail text.WantsQuantifier nothing_yet)
            (record { token = x; offset = p.offset } ∷ ps)) t,
      )
  quantifier_runs NotExists [] ts e = absurd (no_first e)
  quantifier_runs NotExists (p ∷ []) ts e = absurd (no_first (same_others e))
  quantifier_runs NotExists (p ∷ r ∷ ps) ts e =
      let t : p.token ≡ tokens.Mark marks.Tilde = same_first e in
      let u : r.token ≡ tokens.Word (codes "exists") = same_first (same_others e) in (
        Tail,
        ps,
        same_others (same_others e),
        ap
            (λ (x : Token). run_parts (standing Tail text.WantsQuantifier nothing_yet)
            (record { token = x; offset = p.offset } ∷ r ∷ ps)) t
            ∙ ap
            (λ (x : Token). run_parts (standing Tail text.AfterTilde nothing_yet)
            (record { token = x; offset = r.offset } ∷ ps)) u,
      )

  pub condition_taken : (ps : List TokenAt) (x : IsText (test_tokens_of ps))
      → (s : TextState) × (run_parts (text_start kinds.Condition threads) ps ≡ Ok s)
      × (s.draft.quantifier ≡ x.quantifier) × (s.draft.formula ≡ tree_formula x.condition)
  condition_taken ps x =
      let b = quantifier_runs x.quantifier ps (spelled x.condition (tokens.End ∷ [])) x.whole in
      let m = complete condition_limits threads few (test_tokens_of b.1) (tree_formula x.condition) (record { tree = x.condition; fine = x.fine; whole = b.2; meant = refl }) in
      let r = prop_runs b.1 b.0 x.quantifier [] 0 Wants nothing_yet (tree_formula x.condition) m in
      (r.state, b.3 ∙ r.by, r.quantifier, r.formula)

  pub condition_reading : Reading IsText kinds.Condition threads
  condition_reading = record {
    begins = λ ps s e. begins_by ps s (stands Tail ps s e);
    takes = λ ps x. let r = condition_taken ps x in (r.0, r.1);
    says = λ ps s t offset e none.
        let f = follows (text_start kinds.Condition threads) s ps e in
        let stage : s.stage ≡ Tail = f.stage ∙ tail_stays (test_tokens_of ps) in
        let C = CanFollow IsText (test_tokens_of ps) in
        subst (λ (g : Stage). RulingSays C g (ruling g t) (text_rule_at s.kind s.draft.table s.stage t))
        (sym (tail_stays (test_tokens_of ps))) (subst
        (λ (g : Stage). RulingSays C Tail (ruling Tail t) (text_rule_at s.kind s.draft.table g t))
        (sym stage) (tail_says C s.kind s.draft.table t));
  }
