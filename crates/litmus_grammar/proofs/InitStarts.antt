-- What the machine takes is what an init block may begin with.
use Rattle.std.proofs.Common.{◌≡◌, ℕ, Bool, true, false, List, [], ◌∷◌, ◌++◌, Option, Some, None, Ok, Err, refl, sym, ap, ◌∙◌, subst, append_assoc}
use Rattle.std.specs.Prelude.{if◌then◌else◌}
use Rattle.std.proofs.lemmas.List.{append-nil}
use Rattle.litmus_tokens.specs.declared.stage.Stage.{Stage}
use Rattle.litmus_tokens.specs.declared.stage.Stage.TheVariants as stages
use Rattle.litmus_tokens.specs.declared.token.Token.{Token}
use Rattle.litmus_tokens.specs.declared.token.Token.TheVariants as tokens
use Rattle.litmus_tokens.specs.declared.token.Mark.TheVariants as marks
use Rattle.litmus_tokens.specs.Faults.{Begins, CanFollow, ruling, RulingSays}
use Rattle.litmus_tokens.specs.Stage.{next_stage}
use Rattle.litmus_tokens.specs.Texts.{TokenAt, test_tokens_of, stage_after}
use Rattle.litmus_tokens.specs.Words.{signed, decimal, is_int, register_of}
use Rattle.text_values.specs.declared.test.Place.{Place}
use Rattle.text_values.specs.declared.test.Value.TheVariants as values
use Rattle.litmus_tokens.specs.declared.place.PlaceExpectation.{PlaceExpectation}
use Rattle.litmus_tokens.specs.declared.place.PlaceExpectation.TheVariants as places
use Rattle.litmus_tokens.specs.declared.place.PlaceStep.{PlaceStep}
use Rattle.litmus_tokens.specs.declared.place.WrittenPlace.{WrittenPlace}
use Rattle.litmus_tokens.specs.declared.place.WrittenPlace.TheVariants as written
use Rattle.litmus_tokens.specs.PlaceMachine.{place_step, register_ends, number_read}
use Rattle.litmus_words.specs.Machine as table
use Rattle.litmus_grammar.specs.declared.parts.InitExpectation.{InitExpectation}
use Rattle.litmus_grammar.specs.declared.parts.InitExpectation.TheVariants as expectations
use Rattle.litmus_grammar.specs.declared.parts.TextKind.{TextKind}
use Rattle.litmus_grammar.specs.declared.parts.TextKind.TheVariants as kinds
use Rattle.litmus_grammar.specs.Grammar.{IsInitText}
use Rattle.litmus_grammar.specs.InitMachine as init
use Rattle.litmus_grammar.specs.InitMachine.{Block, has_key, with_key, with_start, with_entry, place_result, and_place, valued}
use Rattle.litmus_grammar.specs.Texts.{spelled_colon, is_init, IsBrokenOff, IsStart, IsWhole, BreaksOff}
use Rattle.litmus_grammar.specs.TextMachine as text
use Rattle.litmus_grammar.specs.TextMachine.{Part, Draft, Next, TextState, TextResult, with_offset, and_then, stepped, part_step, text_start, run_parts, text_rule_at, init_result}
use Rattle.litmus_grammar.proofs.Equations.{no_first, same_first, same_others}
use Rattle.litmus_grammar.proofs.InitKeys.{key_of, Keeps, keeps_none, keeps_more, added_new, fresh, lacks_fresh}
use Rattle.litmus_grammar.proofs.InitLeft.{closing, draft, standing, init_whole}
use Rattle.litmus_grammar.proofs.InitAcceptance.{init_taken}
use Rattle.litmus_grammar.proofs.Outcomes.{Reading, not_both}
use Rattle.litmus_grammar.proofs.Runs.{anywhere, tokens_of-append, tokens_of-anywhere, run-split, run-append, run_one, follows, same_state}

abbrev first_stage : Stage
first_stage = text.first_stage kinds.Init

abbrev pub bracket : Token
bracket = tokens.Mark marks.OpenBracket

-- ---- where the machine stands behind the tokens so far

abbrev PlaceOpen : List Token → PlaceExpectation → Type 0
PlaceOpen ts places.Begins = ⊥
PlaceOpen ts places.WantsName = Unit {0}
PlaceOpen ts (places.WantsBracket n) = Unit {0}
PlaceOpen ts (places.WantsColon d) =
    (before : List Token) × CanFollow IsInitText before bracket
    × (ts ≡ before ++ tokens.Number false d ∷ [])
PlaceOpen ts (places.WantsRegister d) =
    (before : List Token) × CanFollow IsInitText before bracket
    × (ts ≡ before ++ tokens.Number false d ∷ tokens.Mark marks.Colon ∷ [])

abbrev ExpectationOpen : List Token → InitExpectation → Type 0
ExpectationOpen ts (expectations.InPlace expected) = PlaceOpen ts expected
ExpectationOpen ts expected = Unit {0}

abbrev Open : List Token → Part → Type 0
Open ts (text.Init expected) = ExpectationOpen ts expected
Open ts text.WantsEnd = Unit {0}
Open ts text.Done = Unit {0}
Open ts p = ⊥

record Known (ts : List Token) (p : Part) (b : Block) : Type 0 where
  named : List WrittenPlace
  keeps : Keeps b.named named
  open_so : Open ts p

abbrev NextKnown : List Token → Option Next → Type 0
NextKnown ts None = Unit {0}
NextKnown ts (Some n) = (c : Block) × (n.draft ≡ draft c) × Known ts n.part c

module _ (threads : ℕ) where
  -- ---- the part is the init block to its end

  stays : (x : Bool) (ts : List Token)
      → (y : Bool) × (stage_after (stages.Init true x) ts ≡ stages.Init true y)
  stays x [] = (x, refl)
  stays x (t ∷ ts) = by_token t (λ z. stays z ts)
    where
      by_token : (u : Token)
          → ((z : Bool) → (y : Bool) × (stage_after (stages.Init true z) ts ≡ stages.Init true y))
          → (y : Bool) × (stage_after (next_stage (stages.Init true x) u) ts ≡ stages.Init true y)
      by_token (tokens.Mark marks.CloseBrace) later = later false
      by_token (tokens.Word w) later = later true
      by_token u later = later false

  -- ---- what goes on to the end

  record Ended (s : TextState) : Type 0 where
    rest : List Token
    state : TextState
    by : run_parts s (anywhere rest) ≡ Ok state
    done : state.part ≡ text.Done

  abbrev behind_name : List Token
  behind_name = tokens.Mark marks.CloseBracket ∷ tokens.Mark marks.Equals ∷ tokens.Word [] ∷ closing

  name_ended : (g : Stage) (b : Block) (ws : List WrittenPlace) → Keeps b.named ws
      → Ended (standing threads g (text.Init (expectations.InPlace places.WantsName)) b)
  name_ended g b ws keeps =
      let name = fresh ws in
      let key = key_of (written.Location name) in
      let new : has_key b.named key ≡ false = (keeps (written.Location name)).1 (lacks_fresh ws) in
      record {
        rest = tokens.Word name ∷ behind_name;
        state = _;
        by =
            ap
            (λ (o : Option Block). and_then
            (with_offset 0 (stepped
            (standing threads g (text.Init (expectations.InPlace places.WantsName)) b)
            (tokens.Word name) (init_result kinds.Init (draft b)
            (and_place o (place_step places.WantsName (tokens.Word name))))))
            (λ x. run_parts x (anywhere behind_name)))
            (added_new b key new);
        done = refl;
      }

  can_begin : (before : List TokenAt) (g : Stage) (b : Block) (ws : List WrittenPlace)
      → Keeps b.named ws
      → run_parts (text_start kinds.Init threads) before
      ≡ Ok (standing threads g (text.Init expectations.WantsEntry) b)
      → CanFollow IsInitText (test_tokens_of before) bracket
  can_begin before g b ws keeps reached =
      let e = name_ended (next_stage g bracket) (with_start b 0) ws keeps in
      let us = bracket ∷ e.rest in
      let all : run_parts (text_start kinds.Init threads) (before ++ anywhere us) ≡ Ok e.state = run-append (text_start kinds.Init threads) (standing threads g (text.Init expectations.WantsEntry) b) before (anywhere us) reached ∙ e.by in
      let same : test_tokens_of (before ++ anywhere us) ≡ (test_tokens_of before ++ bracket ∷ []) ++ e.rest
      =
      tokens_of-append before (anywhere us)
      ∙ ap (λ (ts : List Token). test_tokens_of before ++ ts) (tokens_of-anywhere us)
      ∙ sym (append_assoc (test_tokens_of before) (bracket ∷ []) e.rest) in
      record { rest = e.rest; text = subst IsInitText same (init_whole threads (before ++ anywhere us) e.state all e.done) }

  -- ---- each token keeps what is known

  module _ (before : List TokenAt) (g : Stage) (b : Block) (ws : List WrittenPlace)
      (keeps : Keeps b.named ws) where
    abbrev so_far : Token → List Token
    so_far t = test_tokens_of before ++ t ∷ []

    -- a place that is named here
    key_known : (t : Token) (c : Block) (w : WrittenPlace) (expected : InitExpectation)
        (o : Option PlaceStep) → c.named ≡ b.named → ExpectationOpen (so_far t) expected
        → ((d : Block) → place_result d o ≡ init.goes d expected) → (x : Bool)
        → NextKnown (so_far t) (init_result kinds.Init (draft b) (and_place
        (if x then None else Some (with_key c (key_of w))) o))
    key_known t c w expected o same open_so goes true = tt
    key_known t c w expected o same open_so goes false =
        let d = with_key c (key_of w) in
        let more : Keeps d.named (w ∷ ws) = keeps_more c.named ws w (subst (λ (ks : List (List ℕ)). Keeps ks ws) (sym same) keeps) in
        subst (λ (x : Option init.Did). NextKnown (so_far t) (init_result kinds.Init (draft b) x))
        (sym (goes d)) (d, refl, record { named = w ∷ ws; keeps = more; open_so = open_so })

    entry_known : (t : Token) (n : ℕ)
        → run_parts (text_start kinds.Init threads) before
        ≡ Ok (standing threads g (text.Init expectations.WantsEntry) b)
        → NextKnown (so_far t) (init_result kinds.Init (draft b) (init.entry_read b t n))
    entry_known (tokens.Mark marks.CloseBrace) n reached =
        (b, refl, record { named = ws; keeps = keeps; open_so = tt })
    entry_known (tokens.Word w) n reached =
        key_known (tokens.Word w) (with_start b n) (written.Location w) _
        (place_step places.Begins (tokens.Word w)) refl tt (λ d. refl)
        (has_key b.named (key_of (written.Location w)))
    entry_known (tokens.Mark marks.OpenBracket) n reached =
        (with_start b n, refl, record { named = ws; keeps = keeps; open_so = tt })
    entry_known (tokens.Number false d) n reached = (
      with_start b n,
      refl,
      record {
        named = ws;
        keeps = keeps;
        open_so = (test_tokens_of before, can_begin before g b ws keeps reached, refl);
      },
    )
    entry_known t n reached = tt

    register_known : (d w : List ℕ) (o : Option ℕ)
        → NextKnown (so_far (tokens.Word w)) (init_result kinds.Init (draft b)
        (and_place (init.added_if b (init.known_key d o)) (register_ends d o)))
    register_known d w (Some r) =
        key_known (tokens.Word w) b (written.Register d r) _ (register_ends d (Some r)) refl tt
        (λ c. refl) (has_key b.named (key_of (written.Register d r)))
    register_known d w None = tt

    within_known : (expected : PlaceExpectation) (t : Token) → PlaceOpen (test_tokens_of before) expected
        → NextKnown (so_far t) (init_result kinds.Init (draft b) (init.place_read b expected t))
    within_known places.Begins t o = absurd o
    within_known places.WantsName (tokens.Word w) o =
        key_known (tokens.Word w) b (written.Location w)
        (expectations.InPlace (places.WantsBracket w))
        (place_step places.WantsName (tokens.Word w)) refl tt (λ d. refl)
        (has_key b.named (key_of (written.Location w)))
    within_known places.WantsName t o = tt
    within_known (places.WantsBracket w) (tokens.Mark marks.CloseBracket) o =
        (b, refl, record { named = ws; keeps = keeps; open_so = tt })
    within_known (places.WantsBracket w) t o = tt
    within_known (places.WantsColon d) (tokens.Mark marks.Colon) o =
        let same : so_far (tokens.Mark marks.Colon) ≡ o.0 ++ tokens.Number false d ∷ tokens.Mark marks.Colon ∷ []
        =
        ap (λ (ts : List Token). ts ++ tokens.Mark marks.Colon ∷ []) o.2
        ∙ append_assoc o.0 (tokens.Number false d ∷ []) (tokens.Mark marks.Colon ∷ []) in
        (b, refl, record { named = ws; keeps = keeps; open_so = (o.0, o.1, same) })
    within_known (places.WantsColon d) t o = tt
    within_known (places.WantsRegister d) (tokens.Word w) o = register_known d w (register_of w)
    within_known (places.WantsRegister d) t o = tt

    open_known : (t : Token)
        → NextKnown (so_far t) (init_result kinds.Init (draft b) (init.open_read b t))
    open_known (tokens.Mark marks.OpenBrace) =
        (b, refl, record { named = ws; keeps = keeps; open_so = tt })
    open_known t = tt

    equals_known : (p : Place) (t : Token)
        → NextKnown (so_far t) (init_result kinds.Init (draft b) (init.equals_read b p t))
    equals_known p (tokens.Mark marks.Equals) =
        (b, refl, record { named = ws; keeps = keeps; open_so = tt })
    equals_known p t = tt

    number_known : (p : Place) (negative : Bool) (ds : List ℕ) (x : Bool)
        → NextKnown (so_far (tokens.Number negative ds)) (init_result kinds.Init (draft b)
        (valued b p (number_read
        (if x then Some (signed negative (decimal ds)) else None))))
    number_known p negative ds true = (
      with_entry b p (values.Number (signed negative (decimal ds))),
      refl,
      record { named = ws; keeps = keeps; open_so = tt },
    )
    number_known p negative ds false = tt

    value_known : (p : Place) (t : Token) (n : ℕ)
        → NextKnown (so_far t) (init_result kinds.Init (draft b)
        (init.init_step b (expectations.WantsValue p) t n))
    value_known p (tokens.Word w) n = (
      with_entry b p (values.Address w),
      refl,
      record { named = ws; keeps = keeps; open_so = tt },
    )
    value_known p (tokens.Number negative ds) n = number_known p negative ds (is_int negative ds)
    value_known p t n = tt

    behind_known : (t : Token)
        → NextKnown (so_far t) (init_result kinds.Init (draft b) (init.entry_behind b t))
    behind_known (tokens.Mark marks.Semicolon) =
        (b, refl, record { named = ws; keeps = keeps; open_so = tt })
    behind_known (tokens.Mark marks.CloseBrace) =
        (b, refl, record { named = ws; keeps = keeps; open_so = tt })
    behind_known t = tt

    end_known : (t : Token) → NextKnown (so_far t) (text.next_at (draft b) (text.end_read t))
    end_known tokens.End = (b, refl, record { named = ws; keeps = keeps; open_so = tt })
    end_known t = tt

    step_known : (p : Part) (t : Token) (n : ℕ) → Open (test_tokens_of before) p
        → run_parts (text_start kinds.Init threads) before ≡ Ok (standing threads g p b)
        → NextKnown (so_far t) (part_step kinds.Init threads (draft b) p t n)
    step_known (text.Init expectations.WantsOpen) t n o reached = open_known t
    step_known (text.Init expectations.WantsEntry) t n o reached = entry_known t n reached
    step_known (text.Init (expectations.InPlace expected)) t n o reached = within_known expected t o
    step_known (text.Init (expectations.WantsEquals p)) t n o reached = equals_known p t
    step_known (text.Init (expectations.WantsValue p)) t n o reached = value_known p t n
    step_known (text.Init expectations.HasEntry) t n o reached = behind_known t
    step_known text.WantsEnd t n o reached = end_known t
    step_known text.Done t n o reached = tt
    step_known p t n o reached = absurd o

  record Reached (ts : List Token) (s : TextState) : Type 0 where
    stage : Stage
    part : Part
    block : Block
    is : s ≡ standing threads stage part block
    known : Known ts part block

  walk : (before rest : List TokenAt) (g : Stage) (p : Part) (b : Block) (s : TextState)
      → run_parts (text_start kinds.Init threads) before ≡ Ok (standing threads g p b)
      → Known (test_tokens_of before) p b → run_parts (standing threads g p b) rest ≡ Ok s
      → Reached (test_tokens_of (before ++ rest)) s
  walk before [] g p b s reached k e =
      let same : s ≡ standing threads g p b = sym (same_state _ _ e) in
      record { stage = g; part = p; block = b; is = same; known = subst (λ (ps : List TokenAt). Known (test_tokens_of ps) p b) (sym (append-nil before)) k }
  walk before (q ∷ rest) g p b s reached k e =
      by_next (part_step kinds.Init threads (draft b) p q.token q.offset) refl
      (step_known before g b k.named k.keeps p q.token q.offset k.open_so reached) e
      (λ c r h i j. rw (← append_assoc before (q ∷ []) rest)
      (walk (before ++ q ∷ []) rest (next_stage g q.token) r c s h i j))
    where
      by_next : (o : Option Next) → part_step kinds.Init threads (draft b) p q.token q.offset ≡ o
          → NextKnown (test_tokens_of before ++ q.token ∷ []) o
          → and_then (with_offset q.offset (stepped (standing threads g p b) q.token o))
          (λ x. run_parts x rest) ≡ Ok s
          → ((c : Block) (r : Part)
          → run_parts (text_start kinds.Init threads) (before ++ q ∷ [])
          ≡ Ok (standing threads (next_stage g q.token) r c)
          → Known (test_tokens_of (before ++ q ∷ [])) r c
          → run_parts (standing threads (next_stage g q.token) r c) rest ≡ Ok s
          → Reached (test_tokens_of (before ++ q ∷ rest)) s)
          → Reached (test_tokens_of (before ++ q ∷ rest)) s
      by_next (Some n) step known h later =
          let here = run_one (text_start kinds.Init threads) (standing threads g p b) before q n reached step in
          let at_draft : (x : Draft) → TextState = λ (x : Draft). record { kind = kinds.Init; threads = threads; stage = next_stage g q.token; part = n.part; draft = x } in
          later known.0 n.part (here ∙ ap (λ (x : Draft). Ok (at_draft x)) known.1)
          (subst (λ (ts : List Token). Known ts n.part known.0)
          (sym (tokens_of-append before (q ∷ []))) known.2)
          (ap (λ (x : Draft). run_parts (at_draft x) rest) (sym known.1) ∙ h)
      by_next None step known h later = absurd (not_both _ _ h)

  reach : (ps : List TokenAt) (s : TextState) → run_parts (text_start kinds.Init threads) ps ≡ Ok s
      → Reached (test_tokens_of ps) s
  reach ps s e =
      walk [] ps first_stage (text.Init expectations.WantsOpen) init.init_start s refl
      (record { named = []; keeps = keeps_none; open_so = tt }) e

  -- ---- what is taken begins a text, or breaks one off

  data CanEnd (ts : List Token) (s : TextState) : Type 0 where
    Ends : Ended s → CanEnd ts s
    Breaks : IsBrokenOff IsInitText first_stage ts → CanEnd ts s

  place_ends : (ts : List Token) (g : Stage) (b : Block) (expected : PlaceExpectation)
      → Known ts (text.Init (expectations.InPlace expected)) b
      → CanEnd ts (standing threads g (text.Init (expectations.InPlace expected)) b)
  place_ends ts g b places.Begins k = absurd k.open_so
  place_ends ts g b places.WantsName k = Ends (name_ended g b k.named k.keeps)
  place_ends ts g b (places.WantsBracket n) k =
      Ends (record { rest = behind_name; state = _; by = refl; done = refl })
  place_ends ts g b (places.WantsColon d) k =
      Breaks (record {
        before = k.open_so.0;
        in_init = ap is_init (stays false k.open_so.0).1;
        entry = k.open_so.1;
        thread = d;
        colon = false;
        whole = k.open_so.2;
      })
  place_ends ts g b (places.WantsRegister d) k =
      Breaks (record {
        before = k.open_so.0;
        in_init = ap is_init (stays false k.open_so.0).1;
        entry = k.open_so.1;
        thread = d;
        colon = true;
        whole = k.open_so.2;
      })

  ends : (ts : List Token) (g : Stage) (p : Part) (b : Block) → Known ts p b
      → CanEnd ts (standing threads g p b)
  ends ts g (text.Init expectations.WantsOpen) b k =
      Ends (record {
        rest = tokens.Mark marks.OpenBrace ∷ closing;
        state = _;
        by = refl;
        done = refl;
      })
  ends ts g (text.Init expectations.WantsEntry) b k =
      Ends (record { rest = closing; state = _; by = refl; done = refl })
  ends ts g (text.Init (expectations.InPlace expected)) b k = place_ends ts g b expected k
  ends ts g (text.Init (expectations.WantsEquals p)) b k =
      Ends (record {
        rest = tokens.Mark marks.Equals ∷ tokens.Word [] ∷ closing;
        state = _;
        by = refl;
        done = refl;
      })
  ends ts g (text.Init (expectations.WantsValue p)) b k =
      Ends (record { rest = tokens.Word [] ∷ closing; state = _; by = refl; done = refl })
  ends ts g (text.Init expectations.HasEntry) b k =
      Ends (record { rest = closing; state = _; by = refl; done = refl })
  ends ts g text.WantsEnd b k =
      Ends (record { rest = tokens.End ∷ []; state = _; by = refl; done = refl })
  ends ts g text.Done b k = Ends (record { rest = []; state = _; by = refl; done = refl })
  ends ts g p b k = absurd k.open_so

  begins_by : (ps : List TokenAt) (s : TextState) → run_parts (text_start kinds.Init threads) ps ≡ Ok s
      → CanEnd (test_tokens_of ps) s → Begins (IsStart IsInitText first_stage) (test_tokens_of ps)
  begins_by ps s e (Ends x) =
      let same : test_tokens_of (ps ++ anywhere x.rest) ≡ test_tokens_of ps ++ x.rest = tokens_of-append ps (anywhere x.rest) ∙ ap (λ (ts : List Token). test_tokens_of ps ++ ts) (tokens_of-anywhere x.rest) in
      record { rest = x.rest; text = IsWhole (subst IsInitText same (init_whole threads (ps ++ anywhere x.rest) x.state (run-append (text_start kinds.Init threads) s ps (anywhere x.rest) e ∙ x.by) x.done)) }
  begins_by ps s e (Breaks x) =
      record {
        rest = [];
        text =
            BreaksOff (subst (IsBrokenOff IsInitText first_stage)
            (sym (append-nil (test_tokens_of ps))) x);
      }

  init_begins : (ps : List TokenAt) (s : TextState) → run_parts (text_start kinds.Init threads) ps ≡ Ok s
      → Begins (IsStart IsInitText first_stage) (test_tokens_of ps)
  init_begins ps s e =
      let r = reach ps s e in
      begins_by ps s e (subst (CanEnd (test_tokens_of ps)) (sym r.is)
      (ends (test_tokens_of ps) r.stage r.part r.block r.known))

  -- ---- each is taken

  record Split (ps : List TokenAt) (us vs : List Token) : Type 0 where
    prefix : List TokenAt
    back : List TokenAt
    split : ps ≡ prefix ++ back
    prefix_is : test_tokens_of prefix ≡ us
    back_is : test_tokens_of back ≡ vs

  split_at : (ps : List TokenAt) (us vs : List Token) → test_tokens_of ps ≡ us ++ vs → Split ps us vs
  split_at ps [] vs e = record { prefix = []; back = ps; split = refl; prefix_is = refl; back_is = e }
  split_at [] (u ∷ us) vs e = absurd (no_first e)
  split_at (p ∷ ps) (u ∷ us) vs e =
      let same : p.token ≡ u = same_first e in
      let s = split_at ps us vs (same_others e) in
      record { prefix = p ∷ s.prefix; back = s.back; split = ap (λ (x : List TokenAt). p ∷ x) s.split; prefix_is = ap (λ (x : Token). x ∷ test_tokens_of s.prefix) same ∙ ap (λ (x : List Token). u ∷ x) s.prefix_is; back_is = s.back_is }

  at_entry : (ts : List Token) (g : Stage) (p : Part) (b : Block) (rest : List TokenAt) (s : TextState)
      → Known ts p b
      → run_parts (standing threads g p b) (record { token = bracket; offset = 0 } ∷ rest) ≡ Ok s
      → p ≡ text.Init expectations.WantsEntry
  at_entry ts g (text.Init expectations.WantsOpen) b rest s k e = absurd (not_both _ _ e)
  at_entry ts g (text.Init expectations.WantsEntry) b rest s k e = refl
  at_entry ts g (text.Init (expectations.InPlace expected)) b rest s k e = by_place expected k e
    where
      by_place : (expected : PlaceExpectation)
          → Known ts (text.Init (expectations.InPlace expected)) b
          → run_parts (standing threads g (text.Init (expectations.InPlace expected)) b)
          (record { token = bracket; offset = 0 } ∷ rest) ≡ Ok s
          → text.Init (expectations.InPlace expected) ≡ text.Init expectations.WantsEntry
      by_place places.Begins j h = absurd j.open_so
      by_place places.WantsName j h = absurd (not_both _ _ h)
      by_place (places.WantsBracket n) j h = absurd (not_both _ _ h)
      by_place (places.WantsColon d) j h = absurd (not_both _ _ h)
      by_place (places.WantsRegister d) j h = absurd (not_both _ _ h)
  at_entry ts g (text.Init (expectations.WantsEquals p)) b rest s k e = absurd (not_both _ _ e)
  at_entry ts g (text.Init (expectations.WantsValue p)) b rest s k e = absurd (not_both _ _ e)
  at_entry ts g (text.Init expectations.HasEntry) b rest s k e = absurd (not_both _ _ e)
  at_entry ts g text.WantsEnd b rest s k e = absurd (not_both _ _ e)
  at_entry ts g text.Done b rest s k e = absurd (not_both _ _ e)
  at_entry ts g p b rest s k e = absurd k.open_so

  number_taken : (g : Stage) (b : Block) (d : List ℕ) (colon : Bool) (ps : List TokenAt)
      → test_tokens_of ps ≡ tokens.Number false d ∷ spelled_colon colon
      → (s : TextState) × (run_parts (standing threads g (text.Init expectations.WantsEntry) b) ps ≡ Ok s)
  number_taken g b d colon [] e = absurd (no_first e)
  number_taken g b d colon (p ∷ ps) e =
      let same : p.token ≡ tokens.Number false d = same_first e in
      let rest : test_tokens_of ps ≡ spelled_colon colon = same_others e in
      let r = colon_taken (next_stage g (tokens.Number false d)) (with_start b p.offset) colon ps rest in (
        r.0,
        ap
            (λ (x : Token). run_parts (standing threads g (text.Init expectations.WantsEntry) b)
            (record { token = x; offset = p.offset } ∷ ps)) same ∙ r.1,
      )
    where
      colon_taken : (h : Stage) (c : Block) (x : Bool) (qs : List TokenAt)
          → test_tokens_of qs ≡ spelled_colon x
          → (s : TextState)
          × (run_parts (standing threads h (text.Init (expectations.InPlace (places.WantsColon d))) c)
          qs ≡ Ok s)
      colon_taken h c false [] k = (_, refl)
      colon_taken h c false (q ∷ qs) k = absurd (no_first (sym k))
      colon_taken h c true [] k = absurd (no_first k)
      colon_taken h c true (q ∷ []) k =
          let same : q.token ≡ tokens.Mark marks.Colon = same_first k in (
            _,
            ap
                (λ (x : Token). run_parts
                (standing threads h
                (text.Init (expectations.InPlace (places.WantsColon d))) c)
                (record { token = x; offset = q.offset } ∷ [])) same,
          )
      colon_taken h c true (q ∷ r ∷ qs) k = absurd (no_first (sym (same_others k)))

  part_run : (prefix : List TokenAt) (rest : List TokenAt) (s : TextState)
      → run_parts (text_start kinds.Init threads) (prefix ++ rest) ≡ Ok s
      → (x : TextState) × (run_parts (text_start kinds.Init threads) prefix ≡ Ok x) × (run_parts x rest ≡ Ok s)
  part_run prefix rest s e =
      by_run (run_parts (text_start kinds.Init threads) prefix) refl
      (sym (run-split (text_start kinds.Init threads) prefix rest) ∙ e)
    where
      by_run : (r : TextResult) → run_parts (text_start kinds.Init threads) prefix ≡ r
          → and_then r (λ x. run_parts x rest) ≡ Ok s
          → (x : TextState) × (run_parts (text_start kinds.Init threads) prefix ≡ Ok x) × (run_parts x rest ≡ Ok s)
      by_run (Ok x) k h = (x, k, h)
      by_run (Err d) k h = absurd (not_both _ _ h)

  with_bracket : (prefix : List TokenAt) (before us : List Token) → test_tokens_of prefix ≡ before
      → test_tokens_of (prefix ++ anywhere (bracket ∷ us)) ≡ (before ++ bracket ∷ []) ++ us
  with_bracket prefix before us e =
      tokens_of-append prefix (anywhere (bracket ∷ us))
      ∙ ap (λ (ts : List Token). ts ++ test_tokens_of (anywhere (bracket ∷ us))) e
      ∙ ap (λ (ts : List Token). before ++ ts) (tokens_of-anywhere (bracket ∷ us))
      ∙ sym (append_assoc before (bracket ∷ []) us)

  broken_taken : (ps : List TokenAt) → IsBrokenOff IsInitText first_stage (test_tokens_of ps)
      → (s : TextState) × (run_parts (text_start kinds.Init threads) ps ≡ Ok s)
  broken_taken ps x =
      let c = split_at ps x.before (tokens.Number false x.thread ∷ spelled_colon x.colon) x.whole in
      let us = bracket ∷ x.entry.rest in
      let whole_is = with_bracket c.prefix x.before x.entry.rest c.prefix_is in
      let t = x.entry.text in
      let all = init_taken threads t.entries (c.prefix ++ anywhere us) t.fine (whole_is ∙ t.whole) in
      let p = part_run c.prefix (anywhere us) all.state all.by in
      let r = reach c.prefix p.0 p.1 in
      let there : run_parts (standing threads r.stage r.part r.block) (anywhere us) ≡ Ok all.state = ap (λ (y : TextState). run_parts y (anywhere us)) (sym r.is) ∙ p.2 in
      let entry : r.part ≡ text.Init expectations.WantsEntry = at_entry (test_tokens_of c.prefix) r.stage r.part r.block (anywhere x.entry.rest) all.state r.known there in
      let n = number_taken r.stage r.block x.thread x.colon c.back c.back_is in
      let at_wants : p.0 ≡ standing threads r.stage (text.Init expectations.WantsEntry) r.block = r.is ∙ ap (λ (q : Part). standing threads r.stage q r.block) entry in (
        n.0,
        ap (run_parts (text_start kinds.Init threads)) c.split
            ∙ run-append (text_start kinds.Init threads) p.0 c.prefix c.back p.1
            ∙ ap (λ (y : TextState). run_parts y c.back) at_wants ∙ n.1,
      )

  init_takes : (ps : List TokenAt) → IsStart IsInitText first_stage (test_tokens_of ps)
      → (s : TextState) × (run_parts (text_start kinds.Init threads) ps ≡ Ok s)
  init_takes ps (IsWhole x) =
      let r = init_taken threads x.entries ps x.fine x.whole in (r.state, r.by)
  init_takes ps (BreaksOff x) = broken_taken ps x

  init_says : (C : Token → Type 0) (kind : TextKind) (rows : table.TableState) (x : Bool) (t : Token)
      → RulingSays C (stages.Init true x) (ruling (stages.Init true x) t)
      (text_rule_at kind rows (stages.Init true x) t)
  init_says C kind rows x (tokens.Broken rule) = refl
  init_says C kind rows true t = refl
  init_says C kind rows false t = refl

  pub init_reading : Reading (IsStart IsInitText first_stage) kinds.Init threads
  init_reading = record {
    begins = init_begins;
    takes = init_takes;
    says = λ ps s t offset e none.
        let f = follows (text_start kinds.Init threads) s ps e in
        let y = stays false (test_tokens_of ps) in
        let C = CanFollow (IsStart IsInitText first_stage) (test_tokens_of ps) in
        subst (λ (g : Stage). RulingSays C g (ruling g t) (text_rule_at s.kind s.draft.table s.stage t))
        (sym y.1) (subst
        (λ (g : Stage). RulingSays C (stages.Init true y.0) (ruling (stages.Init true y.0) t)
        (text_rule_at s.kind s.draft.table g t))
        (sym (f.stage ∙ y.1))
        (init_says C s.kind s.draft.table y.0 t));
  }
