-- Where the machine stops, there is the fault.
use Rattle.std.proofs.Common.{◌≡◌, ℕ, List, [], ◌∷◌, ◌++◌, Option, Some, None, Ok, Err, refl, sym, ap, ◌∙◌, subst, append_assoc}
use Rattle.litmus_tokens.specs.declared.rule.LitmusRule.{LitmusRule}
use Rattle.litmus_tokens.specs.declared.token.Token.{Token}
use Rattle.litmus_tokens.specs.Texts.{TokenAt, test_tokens_of, stage_after}
use Rattle.litmus_tokens.specs.Faults.{Begins, CanFollow, ruling, RulingSays, IsFault}
use Rattle.litmus_grammar.specs.declared.parts.TextKind.{TextKind}
use Rattle.litmus_grammar.specs.TextMachine.{Next, TextState, TextResult, stepped, with_offset, and_then, part_step, run_parts, text_rule_at, text_start, first_stage}
use Rattle.litmus_grammar.proofs.Runs.{tokens_of-append, anywhere, tokens_of-anywhere, went, run-append, run_one}

-- what is known of a machine and a grammar
pub record Reading (IsText : List Token → Type 0) (kind : TextKind) (threads : ℕ) : Type 0 where
  -- what it takes begins a text
  pub begins : (ps : List TokenAt) (s : TextState) → run_parts (text_start kind threads) ps ≡ Ok s
      → Begins IsText (test_tokens_of ps)
  -- it takes each text
  pub takes : (ps : List TokenAt) → IsText (test_tokens_of ps)
      → (s : TextState) × (run_parts (text_start kind threads) ps ≡ Ok s)
  -- and names the rule that another token breaks
  pub says : (ps : List TokenAt) (s : TextState) (t : Token) (offset : ℕ)
      → run_parts (text_start kind threads) ps ≡ Ok s
      → part_step s.kind s.threads s.draft s.part t offset ≡ None
      → RulingSays (CanFollow IsText (test_tokens_of ps)) (stage_after (first_stage kind) (test_tokens_of ps))
      (ruling (stage_after (first_stage kind) (test_tokens_of ps)) t)
      (text_rule_at s.kind s.draft.table s.stage t)

-- the same, where the rule is known behind some tokens alone
pub record ReadingWhere (Fine : List Token → Type 0) (IsText : List Token → Type 0)
    (kind : TextKind) (threads : ℕ) : Type 0 where
  pub begins : (ps : List TokenAt) (s : TextState) → run_parts (text_start kind threads) ps ≡ Ok s
      → Begins IsText (test_tokens_of ps)
  pub takes : (ps : List TokenAt) → IsText (test_tokens_of ps)
      → (s : TextState) × (run_parts (text_start kind threads) ps ≡ Ok s)
  pub says : (ps : List TokenAt) (s : TextState) (t : Token) (offset : ℕ) → Fine (test_tokens_of ps)
      → run_parts (text_start kind threads) ps ≡ Ok s
      → part_step s.kind s.threads s.draft s.part t offset ≡ None
      → RulingSays (CanFollow IsText (test_tokens_of ps)) (stage_after (first_stage kind) (test_tokens_of ps))
      (ruling (stage_after (first_stage kind) (test_tokens_of ps)) t)
      (text_rule_at s.kind s.draft.table s.stage t)

abbrev anywhere_at_all : List Token → Type 0
anywhere_at_all ts = Unit {0}

in_general : (IsText : List Token → Type 0) (kind : TextKind) (threads : ℕ)
    → Reading IsText kind threads → ReadingWhere anywhere_at_all IsText kind threads
in_general IsText kind threads known =
    record {
      begins = known.begins;
      takes = known.takes;
      says = λ ps s t offset fine e none. known.says ps s t offset e none;
    }

abbrev pub stopped : LitmusRule × ℕ → TextResult
stopped e = Err e

pub stopped_is : (a b : LitmusRule × ℕ) → stopped a ≡ stopped b → a ≡ b
stopped_is a b e = cc

pub not_both : (e : LitmusRule × ℕ) (s : TextState) → stopped e ≡ Ok s → ⊥
not_both e s h = absurd cc

-- a token that is refused cannot follow
pub refused : (IsText : List Token → Type 0) (kind : TextKind) (threads : ℕ)
    (takes : (ps : List TokenAt) → IsText (test_tokens_of ps)
    → (s : TextState) × (run_parts (text_start kind threads) ps ≡ Ok s))
    (before : List TokenAt)
    (s : TextState)
    (p : TokenAt)
    → run_parts (text_start kind threads) before ≡ Ok s
    → part_step s.kind s.threads s.draft s.part p.token p.offset ≡ None
    → CanFollow IsText (test_tokens_of before) p.token → ⊥
refused IsText kind threads takes before s p reached none c =
    let qs = before ++ p ∷ anywhere c.rest in
    let same : test_tokens_of qs ≡ (test_tokens_of before ++ p.token ∷ []) ++ c.rest =
    tokens_of-append before (p ∷ anywhere c.rest)
    ∙ ap (λ (ts : List Token). test_tokens_of before ++ p.token ∷ ts) (tokens_of-anywhere c.rest)
    ∙ sym (append_assoc (test_tokens_of before) (p.token ∷ []) c.rest) in
    let r = takes qs (subst IsText (sym same) c.text) in
    let stops : run_parts s (p ∷ anywhere c.rest) ≡ stopped (text_rule_at s.kind s.draft.table s.stage p.token, p.offset) =
    ap
    (λ (o : Option Next).
    and_then (with_offset p.offset (stepped s p.token o)) (λ x. run_parts x (anywhere c.rest)))
    none in
    not_both (text_rule_at s.kind s.draft.table s.stage p.token, p.offset) r.0 (sym stops
    ∙ sym (run-append (text_start kind threads) s before (p ∷ anywhere c.rest) reached) ∙ r.1)

module _ (Fine : List Token → Type 0) (IsText : List Token → Type 0) (kind : TextKind) (threads : ℕ)
    (known : ReadingWhere Fine IsText kind threads) (ps : List TokenAt)
    (fine : (before : List TokenAt) (p : TokenAt) (behind : List TokenAt)
    → ps ≡ before ++ p ∷ behind → Fine (test_tokens_of before)) where
  go : (before : List TokenAt) (s : TextState) (rest : List TokenAt) (r : LitmusRule) (n : ℕ)
      → ps ≡ before ++ rest → run_parts (text_start kind threads) before ≡ Ok s → run_parts s rest ≡ Err (r, n)
      → IsFault IsText (first_stage kind) (before ++ rest) r n
  go before s [] r n whole reached e = absurd (not_both (r, n) s (sym e))
  go before s (p ∷ rest) r n whole reached e =
      by_next (part_step s.kind s.threads s.draft s.part p.token p.offset) refl e
      (λ x q h. rw (← append_assoc before (p ∷ []) rest) (go (before ++ p ∷ []) x rest r n
      (whole ∙ sym (append_assoc before (p ∷ []) rest)) q h))
    where
      by_next : (o : Option Next) → part_step s.kind s.threads s.draft s.part p.token p.offset ≡ o
          → and_then (with_offset p.offset (stepped s p.token o)) (λ x. run_parts x rest) ≡ Err (r, n)
          → ((x : TextState) → run_parts (text_start kind threads) (before ++ p ∷ []) ≡ Ok x
          → run_parts x rest ≡ Err (r, n)
          → IsFault IsText (first_stage kind) (before ++ p ∷ rest) r n)
          → IsFault IsText (first_stage kind) (before ++ p ∷ rest) r n
      by_next (Some x) q h f =
          f (went s p.token x) (run_one (text_start kind threads) s before p x reached q) h
      by_next None q h f =
          let same : (text_rule_at s.kind s.draft.table s.stage p.token, p.offset) ≡ (r, n) = stopped_is _ _ h in
          let stage = stage_after (first_stage kind) (test_tokens_of before) in
          record {
            before = before;
            here = p;
            behind = rest;
            split = refl;
            begins = known.begins before s reached;
            ends = refused IsText kind threads known.takes before s p reached q;
            at_place = ap (λ (x : LitmusRule × ℕ). x.1) same;
            number =
                subst (RulingSays (CanFollow IsText (test_tokens_of before)) stage (ruling stage p.token))
                (ap (λ (x : LitmusRule × ℕ). x.0) same) (known.says before s p.token p.offset
                (fine before p rest whole) reached q);
          }

  pub fault_where : (r : LitmusRule) (n : ℕ) → run_parts (text_start kind threads) ps ≡ Err (r, n)
      → IsFault IsText (first_stage kind) ps r n
  fault_where r n e = go [] (text_start kind threads) ps r n refl refl e

  -- a text has no fault
  pub no_fault_where : (r : LitmusRule) (n : ℕ) → IsText (test_tokens_of ps)
      → run_parts (text_start kind threads) ps ≡ Err (r, n) → ⊥
  no_fault_where r n text e = let t = known.takes ps text in not_both (r, n) t.0 (sym e ∙ t.1)

module _ (IsText : List Token → Type 0) (kind : TextKind) (threads : ℕ)
    (known : Reading IsText kind threads) where
  pub fault_found : (ps : List TokenAt) (r : LitmusRule) (n : ℕ)
      → run_parts (text_start kind threads) ps ≡ Err (r, n) → IsFault IsText (first_stage kind) ps r n
  fault_found ps r n e =
      fault_where anywhere_at_all IsText kind threads (in_general IsText kind threads known) ps
      (λ before p behind k. tt) r n e

  pub no_fault : (ps : List TokenAt) (r : LitmusRule) (n : ℕ) → IsText (test_tokens_of ps)
      → run_parts (text_start kind threads) ps ≡ Err (r, n) → ⊥
  no_fault ps r n text e =
      no_fault_where anywhere_at_all IsText kind threads (in_general IsText kind threads known) ps
      (λ before p behind k. tt) r n text e
