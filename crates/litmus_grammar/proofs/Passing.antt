-- A part of a test that is a text of its own too: what the machine does in the one is what it does
-- in the other.
use Rattle.std.proofs.Common.{◌≡◌, ℕ, ◌⊎◌, inl, inr, Bool, true, false, true≢false, List, [], ◌∷◌, ◌++◌, Option, Some, None, Ok, refl, sym, ap, ◌∙◌}
use Rattle.litmus_tokens.specs.declared.stage.Stage.{Stage}
use Rattle.litmus_tokens.specs.declared.token.Token.{Token}
use Rattle.litmus_tokens.specs.Stage.{next_stage}
use Rattle.litmus_tokens.specs.Texts.{TokenAt, test_tokens_of, stage_after}
use Rattle.litmus_grammar.specs.declared.parts.TextKind.{TextKind}
use Rattle.litmus_grammar.specs.declared.parts.TextKind.TheVariants as kinds
use Rattle.litmus_grammar.specs.TextMachine.{Part, Draft, Next, TextState, TextResult, with_offset, and_then, stepped, part_step, run_parts}
use Rattle.litmus_grammar.proofs.Outcomes.{not_both}
use Rattle.litmus_grammar.proofs.Runs.{same_state}

abbrev pub test_at : Stage → Part → Draft → TextState
test_at g p h = record { kind = kinds.Test; threads = 0; stage = g; part = p; draft = h }

abbrev pub text_at : TextKind → ℕ → Stage → Part → Draft → TextState
text_at kind threads g p h =
    record { kind = kind; threads = threads; stage = g; part = p; draft = h }

-- What a token does in the text of the part alone, and in the test: the part is read on, or it
-- ends.
abbrev pub Alike : (Draft → Draft) → Part → Part → (Part → Bool) → Option Next → Option Next
    → Type 0
Alike lift exit next is_inside None None = Unit {0}
Alike lift exit next is_inside (Some n) (Some m) =
    (m.draft ≡ lift n.draft)
    × (((is_inside n.part ≡ true) × (m.part ≡ n.part)) ⊎ ((n.part ≡ exit) × (m.part ≡ next)))
Alike lift exit next is_inside a b = ⊥

module _ (kind : TextKind) (threads : ℕ) (lift : Draft → Draft) (exit next : Part)
    (is_inside : Part → Bool)
    (alike : (p : Part) (h : Draft) (t : Token) (offset : ℕ) → is_inside p ≡ true
    → Alike lift exit next is_inside (part_step kind threads h p t offset)
    (part_step kinds.Test 0 (lift h) p t offset)) where
  abbrev alone : Stage → Part → Draft → TextState
  alone g p h = text_at kind threads g p h

  -- the test is still within the part
  pub record Stays (f g : Stage) (p : Part) (h : Draft) (ps : List TokenAt) (s : TextState)
      : Type 0 where
    pub part : Part
    pub draft : Draft
    pub inside : is_inside part ≡ true
    pub by : run_parts (alone f p h) ps ≡ Ok (alone (stage_after f (test_tokens_of ps)) part draft)
    pub same : s ≡ test_at (stage_after g (test_tokens_of ps)) part (lift draft)

  -- the part has ended behind some tokens
  pub record Leaves (f g : Stage) (p : Part) (h : Draft) (ps : List TokenAt) (s : TextState)
      : Type 0 where
    pub before : List TokenAt
    pub behind : List TokenAt
    pub draft : Draft
    pub whole : ps ≡ before ++ behind
    pub by : run_parts (alone f p h) before ≡ Ok (alone (stage_after f (test_tokens_of before)) exit draft)
    pub on : run_parts (test_at (stage_after g (test_tokens_of before)) next (lift draft)) behind ≡ Ok s

  abbrev one_step : Stage → Part → Draft → TokenAt → List TokenAt → Option Next → TextResult
  one_step g p h q ps o =
      and_then (with_offset q.offset (stepped (alone g p h) q.token o)) (λ x. run_parts x ps)

  abbrev test_step : Stage → Part → Draft → TokenAt → List TokenAt → Option Next → TextResult
  test_step g p h q ps o =
      and_then (with_offset q.offset (stepped (test_at g p h) q.token o)) (λ x. run_parts x ps)

  stays_on : (f g : Stage) (p : Part) (h : Draft) (q : TokenAt) (ps : List TokenAt) (s : TextState)
      (n : Next) → part_step kind threads h p q.token q.offset ≡ Some n
      → Stays (next_stage f q.token) (next_stage g q.token) n.part n.draft ps s → Stays f g p h (q ∷ ps) s
  stays_on f g p h q ps s n e r =
      record {
        part = r.part;
        draft = r.draft;
        inside = r.inside;
        by = ap (one_step f p h q ps) e ∙ r.by;
        same = r.same;
      }

  leaves_on : (f g : Stage) (p : Part) (h : Draft) (q : TokenAt) (ps : List TokenAt) (s : TextState)
      (n : Next) → part_step kind threads h p q.token q.offset ≡ Some n
      → Leaves (next_stage f q.token) (next_stage g q.token) n.part n.draft ps s → Leaves f g p h (q ∷ ps) s
  leaves_on f g p h q ps s n e r =
      record {
        before = q ∷ r.before;
        behind = r.behind;
        draft = r.draft;
        whole = ap (λ (l : List TokenAt). q ∷ l) r.whole;
        by = ap (one_step f p h q r.before) e ∙ r.by;
        on = r.on;
      }

  leaves_here : (f g : Stage) (p : Part) (h : Draft) (q : TokenAt) (ps : List TokenAt) (s : TextState)
      (n m : Next) → part_step kind threads h p q.token q.offset ≡ Some n → n.part ≡ exit
      → m.draft ≡ lift n.draft → m.part ≡ next
      → run_parts (test_at (next_stage g q.token) m.part m.draft) ps ≡ Ok s → Leaves f g p h (q ∷ ps) s
  leaves_here f g p h q ps s n m e out draft part k =
      record {
        before = q ∷ [];
        behind = ps;
        draft = n.draft;
        whole = refl;
        by =
            ap (one_step f p h q []) e
            ∙ ap (λ (x : Part). Ok (alone (next_stage f q.token) x n.draft)) out;
        on =
            ap (λ (x : Part). run_parts (test_at (next_stage g q.token) x (lift n.draft)) ps) (sym part)
            ∙ ap (λ (x : Draft). run_parts (test_at (next_stage g q.token) m.part x) ps) (sym draft) ∙ k;
      }

  pub passes : (ps : List TokenAt) (f g : Stage) (p : Part) (h : Draft) (s : TextState)
      → is_inside p ≡ true → run_parts (test_at g p (lift h)) ps ≡ Ok s
      → Stays f g p h ps s ⊎ Leaves f g p h ps s
  passes [] f g p h s i e =
      let same : test_at g p (lift h) ≡ s = same_state _ _ e in
      inl (record { part = p; draft = h; inside = i; by = refl; same = sym same })
  passes (q ∷ ps) f g p h s i e =
      by_step (part_step kind threads h p q.token q.offset)
      (part_step kinds.Test 0 (lift h) p q.token q.offset) refl (alike p h q.token q.offset i) e
      (λ n j k. passes ps (next_stage f q.token) (next_stage g q.token) n.part n.draft s j k)
    where
      onward : (n : Next) → part_step kind threads h p q.token q.offset ≡ Some n
          → Stays (next_stage f q.token) (next_stage g q.token) n.part n.draft ps s
          ⊎ Leaves (next_stage f q.token) (next_stage g q.token) n.part n.draft ps s
          → Stays f g p h (q ∷ ps) s ⊎ Leaves f g p h (q ∷ ps) s
      onward n c (inl r) = inl (stays_on f g p h q ps s n c r)
      onward n c (inr r) = inr (leaves_on f g p h q ps s n c r)

      by_step : (a b : Option Next) → part_step kind threads h p q.token q.offset ≡ a
          → Alike lift exit next is_inside a b → test_step g p (lift h) q ps b ≡ Ok s
          → ((n : Next) → is_inside n.part ≡ true
          → run_parts (test_at (next_stage g q.token) n.part (lift n.draft)) ps ≡ Ok s
          → Stays (next_stage f q.token) (next_stage g q.token) n.part n.draft ps s
          ⊎ Leaves (next_stage f q.token) (next_stage g q.token) n.part n.draft ps s)
          → Stays f g p h (q ∷ ps) s ⊎ Leaves f g p h (q ∷ ps) s
      by_step None None c l k later = absurd (not_both _ _ k)
      by_step (Some n) None c l k later = absurd l
      by_step None (Some m) c l k later = absurd l
      by_step (Some n) (Some m) c (draft, inl in_part) k later =
          onward n c (later n in_part.0 (ap
          (λ (x : Part). run_parts (test_at (next_stage g q.token) x (lift n.draft)) ps)
          (sym in_part.1)
          ∙ ap (λ (x : Draft). run_parts (test_at (next_stage g q.token) m.part x) ps) (sym draft)
          ∙ k))
      by_step (Some n) (Some m) c (draft, inr out) k later =
          inr (leaves_here f g p h q ps s n m c out.0 draft out.1 k)

  -- ---- the text of the part alone, within the test

  -- what is read of the part alone, behind it what is left
  pub record Ends (f : Stage) (p : Part) (h : Draft) (ps : List TokenAt) (s : TextState) : Type 0 where
    pub before : List TokenAt
    pub behind : List TokenAt
    pub draft : Draft
    pub whole : ps ≡ before ++ behind
    pub by : run_parts (alone (stage_after f (test_tokens_of before)) exit draft) behind ≡ Ok s
    pub led : (g : Stage)
        → run_parts (test_at g p (lift h)) before
        ≡ Ok (test_at (stage_after g (test_tokens_of before)) next (lift draft))

  pub ends : (ps : List TokenAt) (f : Stage) (p : Part) (h : Draft) (s : TextState) → is_inside p ≡ true
      → run_parts (alone f p h) ps ≡ Ok s → is_inside s.part ≡ false → Ends f p h ps s
  ends [] f p h s i e o =
      let same : alone f p h ≡ s = same_state _ _ e in
      absurd (true≢false (sym i ∙ ap (λ (x : TextState). is_inside x.part) same ∙ o))
  ends (q ∷ ps) f p h s i e o =
      by_step (part_step kind threads h p q.token q.offset)
      (part_step kinds.Test 0 (lift h) p q.token q.offset) refl (alike p h q.token q.offset i) e
      (λ n j k. ends ps (next_stage f q.token) n.part n.draft s j k o)
    where
      by_step : (a b : Option Next) → part_step kinds.Test 0 (lift h) p q.token q.offset ≡ b
          → Alike lift exit next is_inside a b → one_step f p h q ps a ≡ Ok s
          → ((n : Next) → is_inside n.part ≡ true
          → run_parts (alone (next_stage f q.token) n.part n.draft) ps ≡ Ok s
          → Ends (next_stage f q.token) n.part n.draft ps s)
          → Ends f p h (q ∷ ps) s
      by_step None None c l k later = absurd (not_both _ _ k)
      by_step (Some n) None c l k later = absurd l
      by_step None (Some m) c l k later = absurd l
      by_step (Some n) (Some m) c (draft, inl in_part) k later =
          let r = later n in_part.0 k in
          record {
            before = q ∷ r.before;
            behind = r.behind;
            draft = r.draft;
            whole = ap (λ (l : List TokenAt). q ∷ l) r.whole;
            by = r.by;
            led = λ g.
                ap (test_step g p (lift h) q r.before) c
                ∙ ap (λ (x : Part). run_parts (test_at (next_stage g q.token) x m.draft) r.before) in_part.1
                ∙ ap (λ (x : Draft). run_parts (test_at (next_stage g q.token) n.part x) r.before) draft
                ∙ r.led (next_stage g q.token);
          }
      by_step (Some n) (Some m) c (draft, inr out) k later =
          record {
            before = q ∷ [];
            behind = ps;
            draft = n.draft;
            whole = refl;
            by = ap (λ (x : Part). run_parts (alone (next_stage f q.token) x n.draft) ps) (sym out.0) ∙ k;
            led = λ g.
                ap (test_step g p (lift h) q []) c
                ∙ ap (λ (x : Part). Ok (test_at (next_stage g q.token) x m.draft)) out.1
                ∙ ap (λ (x : Draft). Ok (test_at (next_stage g q.token) next x)) draft;
          }
