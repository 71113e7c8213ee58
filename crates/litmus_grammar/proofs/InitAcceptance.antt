-- Each text of an init block is taken, and where its entries begin is kept.
use Rattle.std.proofs.Common.{◌≡◌, ℕ, Bool, true, false, List, [], ◌∷◌, ◌++◌, map, Option, Some, None, Ok, refl, sym, ap, ◌∙◌, subst, append_assoc}
use Rattle.std.specs.Prelude.{if◌then◌else◌}
use Rattle.std.proofs.lemmas.List.{append-nil}
use Rattle.std.proofs.lemmas.Bool.{false≢true}
use Rattle.litmus_tokens.specs.declared.stage.Stage.{Stage}
use Rattle.litmus_tokens.specs.declared.token.Token.{Token}
use Rattle.litmus_tokens.specs.declared.token.Token.TheVariants as tokens
use Rattle.litmus_tokens.specs.declared.token.Mark.TheVariants as marks
use Rattle.litmus_tokens.specs.Stage.{next_stage}
use Rattle.litmus_tokens.specs.Texts.{TokenAt, test_tokens_of}
use Rattle.litmus_tokens.specs.Words.{signed, decimal, register_of, is_known, or_zero}
use Rattle.text_values.specs.declared.test.Place.{Place}
use Rattle.litmus_tokens.specs.declared.place.PlaceExpectation.TheVariants as places
use Rattle.litmus_tokens.specs.declared.place.WrittenPlace.{WrittenPlace}
use Rattle.litmus_tokens.specs.declared.place.WrittenPlace.TheVariants as written
use Rattle.litmus_tokens.specs.Conditions.{PlaceTree, Location, Register, ValueTree, Number, Address, spelled_place, spelled_value, value_meaning, IsPlaceTree, IsValueTree, written_place}
use Rattle.litmus_tokens.specs.PlaceMachine.{place_step, place_of, register_ends, number_read}
use Rattle.litmus_grammar.specs.declared.parts.InitExpectation.{InitExpectation}
use Rattle.litmus_grammar.specs.declared.parts.InitExpectation.TheVariants as expectations
use Rattle.litmus_grammar.specs.declared.parts.TextKind.TheVariants as kinds
use Rattle.litmus_grammar.specs.Grammar.{Listed, EntryTree, spelled_entry, spelled_others, spelled_init, members, LacksPlace, AreEntryTrees}
use Rattle.litmus_grammar.specs.InitMachine as init
use Rattle.litmus_grammar.specs.InitMachine.{Block, has_key, with_key, with_start, with_entry, and_place, valued}
use Rattle.litmus_grammar.specs.Laws.{entry_kept, AreEntryStarts}
use Rattle.litmus_grammar.specs.TextMachine as text
use Rattle.litmus_grammar.specs.TextMachine.{Part, Next, TextState, with_offset, and_then, stepped, part_step, text_start, run_parts, init_result}
use Rattle.litmus_grammar.proofs.Equations.{no_first, same_first, same_others}
use Rattle.litmus_grammar.proofs.InitKeys.{key_of, Keeps, keeps_none, keeps_more, added_new}
use Rattle.litmus_grammar.proofs.InitLeft.{closing, draft, standing}
use Rattle.litmus_grammar.proofs.Runs.{tokens_of-append}

abbrev pub semicolon : List Token
semicolon = tokens.Mark marks.Semicolon ∷ []

place_more : (p : PlaceTree) (us : List Token) → spelled_place p [] ++ us ≡ spelled_place p us
place_more (Location false n) us = refl
place_more (Location true n) us = refl
place_more (Register t r) us = refl

value_more : (v : ValueTree) (us : List Token) → spelled_value v [] ++ us ≡ spelled_value v us
value_more (Number negative ds) us = refl
value_more (Address n) us = refl

equals_more : (p : PlaceTree) (ts us vs : List Token) → ts ++ us ≡ vs
    → spelled_place p ts ++ us ≡ spelled_place p vs
equals_more (Location false n) ts us vs e = ap (λ (x : List Token). tokens.Word n ∷ x) e
equals_more (Location true n) ts us vs e =
    ap
    (λ (x : List Token). tokens.Mark marks.OpenBracket ∷ tokens.Word n
    ∷ tokens.Mark marks.CloseBracket ∷ x) e
equals_more (Register t r) ts us vs e =
    ap (λ (x : List Token). tokens.Number false t ∷ tokens.Mark marks.Colon ∷ tokens.Word r ∷ x) e

entry_more : (e : EntryTree) (us : List Token) → spelled_entry e [] ++ us ≡ spelled_entry e us
entry_more e us =
    equals_more e.place (tokens.Mark marks.Equals ∷ spelled_value e.value []) us
    (tokens.Mark marks.Equals ∷ spelled_value e.value us) (ap
    (λ (x : List Token). tokens.Mark marks.Equals ∷ x) (value_more e.value us))

no_place : (p : PlaceTree) (ts : List Token) → [] ≡ spelled_place p ts → ⊥
no_place (Location false n) ts e = absurd (no_first e)
no_place (Location true n) ts e = absurd (no_first e)
no_place (Register t r) ts e = absurd (no_first e)

module _ (threads : ℕ) where
  -- the reader goes on from there, with this left
  record Leads (g : Stage) (p : Part) (b : Block) (ps : List TokenAt) (q : Part) (c : Block)
      (us ts : List Token) : Type 0 where
    stage : Stage
    prefix : List TokenAt
    behind : List TokenAt
    split : ps ≡ prefix ++ behind
    are : test_tokens_of prefix ≡ us
    rest : test_tokens_of behind ≡ ts
    by : run_parts (standing threads g p b) ps ≡ run_parts (standing threads stage q c) behind

  leads_on : (g : Stage) (p q r : Part) (b c d : Block) (ps : List TokenAt)
      (us ts vs ws : List Token) → Leads g p b ps q c us ts
      → ((h : Stage) (qs : List TokenAt) → test_tokens_of qs ≡ ts → Leads h q c qs r d vs ws)
      → Leads g p b ps r d (us ++ vs) ws
  leads_on g p q r b c d ps us ts vs ws l f =
      let m = f l.stage l.behind l.rest in
      record {
        stage = m.stage;
        prefix = l.prefix ++ m.prefix;
        behind = m.behind;
        split =
            l.split ∙ ap (λ (x : List TokenAt). l.prefix ++ x) m.split
            ∙ sym (append_assoc l.prefix m.prefix m.behind);
        are =
            tokens_of-append l.prefix m.prefix ∙ ap (λ (x : List Token). x ++ test_tokens_of m.prefix) l.are
            ∙ ap (λ (x : List Token). us ++ x) m.are;
        rest = m.rest;
        by = l.by ∙ m.by;
      }

  -- a token that is taken
  first : (g : Stage) (p q : Part) (b c : Block) (x : TokenAt) (t : Token) (ps : List TokenAt)
      (ts : List Token)
      → part_step kinds.Init threads (draft b) p t x.offset
      ≡ Some (record { part = q; draft = draft c }) → x.token ∷ test_tokens_of ps ≡ t ∷ ts
      → Leads g p b (x ∷ ps) q c (t ∷ []) ts
  first g p q b c x t ps ts step e =
      let same : x.token ≡ t = same_first e in
      record {
        stage = next_stage g t;
        prefix = x ∷ [];
        behind = ps;
        split = refl;
        are = ap (λ (u : Token). u ∷ []) same;
        rest = same_others e;
        by =
            ap
            (λ (u : Token).
            run_parts (standing threads g p b) (record { token = u; offset = x.offset } ∷ ps)) same
            ∙ ap
            (λ (o : Option Next). and_then
            (with_offset x.offset (stepped (standing threads g p b) t o)) (λ y. run_parts y ps))
            step;
      }

  one : (g : Stage) (p q : Part) (b c : Block) (t : Token) (ps : List TokenAt) (ts : List Token)
      → ((n : ℕ)
      → part_step kinds.Init threads (draft b) p t n
      ≡ Some (record { part = q; draft = draft c })) → test_tokens_of ps ≡ t ∷ ts
      → Leads g p b ps q c (t ∷ []) ts
  one g p q b c t [] ts step e = absurd (no_first e)
  one g p q b c t (x ∷ ps) ts step e = first g p q b c x t ps ts (step x.offset) e

  -- ---- an entry

  register_step : (d w : List ℕ) (b : Block) (n : ℕ) (o : Option ℕ) → register_of w ≡ o
      → is_known o ≡ true
      → has_key b.named (key_of (written.Register d (or_zero (register_of w)))) ≡ false
      → part_step kinds.Init threads (draft b)
      (text.Init (expectations.InPlace (places.WantsRegister d))) (tokens.Word w) n
      ≡ text.at (draft (with_key b (key_of (written.Register d (or_zero (register_of w))))))
      (text.Init (expectations.WantsEquals
      (place_of (written.Register d (or_zero (register_of w))))))
  register_step d w b n (Some r) e k new =
      let place = written.Register d r in
      let fresh : has_key b.named (key_of place) ≡ false = ap (λ (x : Option ℕ). has_key b.named (key_of (written.Register d (or_zero x)))) (sym e) ∙ new in
      ap
      (λ (x : Option ℕ). init_result kinds.Init (draft b) (and_place
      (init.added_if b (init.known_key d x)) (register_ends d x))) e
      ∙ ap
      (λ (x : Option Block).
      init_result kinds.Init (draft b) (and_place x (register_ends d (Some r))))
      (added_new b (key_of place) fresh)
      ∙ ap
      (λ (x : Option ℕ). text.at (draft (with_key b (key_of (written.Register d (or_zero x)))))
      (text.Init (expectations.WantsEquals (place_of (written.Register d (or_zero x))))))
      (sym e)
  register_step d w b n None e k new = absurd (false≢true k)

  abbrev equals_of : PlaceTree → Part
  equals_of p = text.Init (expectations.WantsEquals (place_of (written_place p)))

  abbrev named_at : Block → ℕ → PlaceTree → Block
  named_at b n p = with_key (with_start b n) (key_of (written_place p))

  place_taken : (g : Stage) (b : Block) (p : PlaceTree) (x : TokenAt) (ps : List TokenAt)
      (ts : List Token) → has_key b.named (key_of (written_place p)) ≡ false → IsPlaceTree p
      → x.token ∷ test_tokens_of ps ≡ spelled_place p ts
      → Leads g (text.Init expectations.WantsEntry) b (x ∷ ps) (equals_of p) (named_at b x.offset p)
      (spelled_place p []) ts
  place_taken g b (Location false w) x ps ts new fine e =
      first g (text.Init expectations.WantsEntry) (equals_of (Location false w)) b
      (named_at b x.offset (Location false w)) x (tokens.Word w) ps ts
      (ap
      (λ (o : Option Block). init_result kinds.Init (draft b)
      (and_place o (place_step places.Begins (tokens.Word w))))
      (added_new (with_start b x.offset) (key_of (written.Location w)) new)) e
  place_taken g b (Location true w) x ps ts new fine e =
      let c = with_start b x.offset in
      let d = named_at b x.offset (Location true w) in
      let closed = tokens.Mark marks.CloseBracket ∷ ts in
      let name = text.Init (expectations.InPlace places.WantsName) in
      let bracket = text.Init (expectations.InPlace (places.WantsBracket w)) in
      leads_on g (text.Init expectations.WantsEntry) name (equals_of (Location true w)) b c d
      (x ∷ ps) (tokens.Mark marks.OpenBracket ∷ []) (tokens.Word w ∷ closed)
      (tokens.Word w ∷ tokens.Mark marks.CloseBracket ∷ []) ts
      (first g (text.Init expectations.WantsEntry) name b c x (tokens.Mark marks.OpenBracket) ps
      (tokens.Word w ∷ closed) refl e)
      (λ h qs k. leads_on h name bracket (equals_of (Location true w)) c d d qs (tokens.Word w ∷ [])
      closed (tokens.Mark marks.CloseBracket ∷ []) ts
      (one h name bracket c d (tokens.Word w) qs closed
      (λ n. ap
      (λ (o : Option Block). init_result kinds.Init (draft c)
      (and_place o (place_step places.WantsName (tokens.Word w))))
      (added_new c (key_of (written.Location w)) new)) k)
      (λ i rs j. one i bracket (equals_of (Location true w)) d d (tokens.Mark marks.CloseBracket) rs
      ts (λ n. refl) j))
  place_taken g b (Register t w) x ps ts new fine e =
      let c = with_start b x.offset in
      let d = named_at b x.offset (Register t w) in
      let word = tokens.Word w ∷ ts in
      let colon = text.Init (expectations.InPlace (places.WantsColon t)) in
      let register = text.Init (expectations.InPlace (places.WantsRegister t)) in
      leads_on g (text.Init expectations.WantsEntry) colon (equals_of (Register t w)) b c d (x ∷ ps)
      (tokens.Number false t ∷ []) (tokens.Mark marks.Colon ∷ word)
      (tokens.Mark marks.Colon ∷ tokens.Word w ∷ []) ts
      (first g (text.Init expectations.WantsEntry) colon b c x (tokens.Number false t) ps
      (tokens.Mark marks.Colon ∷ word) refl e)
      (λ h qs k. leads_on h colon register (equals_of (Register t w)) c c d qs
      (tokens.Mark marks.Colon ∷ []) word (tokens.Word w ∷ []) ts
      (one h colon register c c (tokens.Mark marks.Colon) qs word (λ n. refl) k)
      (λ i rs j. one i register (equals_of (Register t w)) c d (tokens.Word w) rs ts
      (λ n. register_step t w c n (register_of w) refl fine new) j))

  value_step : (q : Place) (b : Block) (negative : Bool) (ds : List ℕ) (n : ℕ)
      → IsValueTree (Number negative ds)
      → part_step kinds.Init threads (draft b) (text.Init (expectations.WantsValue q))
      (tokens.Number negative ds) n
      ≡ text.at (draft (with_entry b q (value_meaning (Number negative ds))))
      (text.Init expectations.HasEntry)
  value_step q b negative ds n fine =
      ap
      (λ (x : Bool). init_result kinds.Init (draft b) (valued b q (number_read
      (if x then Some (signed negative (decimal ds)) else None)))) fine

  value_taken : (g : Stage) (q : Place) (b : Block) (v : ValueTree) (ps : List TokenAt)
      (ts : List Token) → IsValueTree v → test_tokens_of ps ≡ spelled_value v ts
      → Leads g (text.Init (expectations.WantsValue q)) b ps (text.Init expectations.HasEntry)
      (with_entry b q (value_meaning v)) (spelled_value v []) ts
  value_taken g q b (Number negative ds) ps ts fine e =
      one g (text.Init (expectations.WantsValue q)) (text.Init expectations.HasEntry) b
      (with_entry b q (value_meaning (Number negative ds))) (tokens.Number negative ds) ps ts
      (λ n. value_step q b negative ds n fine) e
  value_taken g q b (Address w) ps ts fine e =
      one g (text.Init (expectations.WantsValue q)) (text.Init expectations.HasEntry) b
      (with_entry b q (value_meaning (Address w))) (tokens.Word w) ps ts (λ n. refl) e

  abbrev entered : Block → ℕ → EntryTree → Block
  entered b n e =
      with_entry (with_key (with_start b n) (key_of (written_place e.place)))
      (place_of (written_place e.place)) (value_meaning e.value)

  entry_taken : (g : Stage) (b : Block) (before : List WrittenPlace) (e : EntryTree) (x : TokenAt)
      (ps : List TokenAt) (ts : List Token) → Keeps b.named before → IsPlaceTree e.place
      → IsValueTree e.value → LacksPlace before (written_place e.place)
      → x.token ∷ test_tokens_of ps ≡ spelled_entry e ts
      → Leads g (text.Init expectations.WantsEntry) b (x ∷ ps) (text.Init expectations.HasEntry)
      (entered b x.offset e) (spelled_entry e []) ts
  entry_taken g b before e x ps ts keeps place value once k =
      let q = place_of (written_place e.place) in
      let c = with_key (with_start b x.offset) (key_of (written_place e.place)) in
      let valued_ts = spelled_value e.value ts in
      let us = tokens.Mark marks.Equals ∷ spelled_value e.value [] in
      subst
      (λ (vs : List Token). Leads g (text.Init expectations.WantsEntry) b (x ∷ ps)
      (text.Init expectations.HasEntry) (entered b x.offset e) vs ts)
      (place_more e.place us)
      (leads_on g (text.Init expectations.WantsEntry) (text.Init (expectations.WantsEquals q))
      (text.Init expectations.HasEntry) b c (entered b x.offset e) (x ∷ ps)
      (spelled_place e.place []) (tokens.Mark marks.Equals ∷ valued_ts) us ts
      (place_taken g b e.place x ps (tokens.Mark marks.Equals ∷ valued_ts)
      ((keeps (written_place e.place)).1 once) place k)
      (λ h qs i. leads_on h (text.Init (expectations.WantsEquals q))
      (text.Init (expectations.WantsValue q)) (text.Init expectations.HasEntry) c c
      (entered b x.offset e) qs (tokens.Mark marks.Equals ∷ []) valued_ts
      (spelled_value e.value []) ts
      (one h (text.Init (expectations.WantsEquals q)) (text.Init (expectations.WantsValue q)) c c
      (tokens.Mark marks.Equals) qs valued_ts (λ n. refl) i)
      (λ j rs m. value_taken j q c e.value rs ts value m)))

  -- ---- the block

  record IsAccepted (all : List TokenAt) (so_far : List Token) (g : Stage) (p : Part) (b : Block)
      (ps : List TokenAt) (es : List EntryTree) : Type 0 where
    state : TextState
    by : run_parts (standing threads g p b) ps ≡ Ok state
    entries : state.draft.init.entries ≡ b.entries ++ map entry_kept es
    starts : List ℕ
    starts_are : state.draft.init.starts ≡ b.starts ++ starts
    stand : AreEntryStarts all so_far es starts

  close_taken : (expected : InitExpectation) (all : List TokenAt) (so_far : List Token) (g : Stage)
      (b : Block) (ps : List TokenAt)
      → ((n : ℕ)
      → part_step kinds.Init threads (draft b) (text.Init expected)
      (tokens.Mark marks.CloseBrace) n ≡ text.at (draft b) text.WantsEnd)
      → test_tokens_of ps ≡ closing → IsAccepted all so_far g (text.Init expected) b ps []
  close_taken expected all so_far g b ps step e =
      let l = one g (text.Init expected) text.WantsEnd b b (tokens.Mark marks.CloseBrace) ps (tokens.End ∷ []) step e in
      let m = one l.stage text.WantsEnd text.Done b b tokens.End l.behind [] (λ n. refl) l.rest in
      record {
        state = standing threads m.stage text.Done b;
        by = l.by ∙ m.by ∙ done_run m.stage b m.behind m.rest;
        entries = sym (append-nil b.entries);
        starts = [];
        starts_are = sym (append-nil b.starts);
        stand = tt;
      }
    where
      done_run : (h : Stage) (c : Block) (qs : List TokenAt) → test_tokens_of qs ≡ []
          → run_parts (standing threads h text.Done c) qs ≡ Ok (standing threads h text.Done c)
      done_run h c [] k = refl
      done_run h c (x ∷ qs) k = absurd (no_first (sym k))

  abbrev OthersTaken : List EntryTree → Bool → Type 0
  OthersTaken os closed =
      (g : Stage) (b : Block) (before : List WrittenPlace) (qs ps : List TokenAt)
      → Keeps b.named before → AreEntryTrees before os
      → test_tokens_of ps ≡ spelled_others spelled_entry closed os closing
      → IsAccepted (qs ++ ps) (test_tokens_of qs ++ semicolon) g (text.Init expectations.HasEntry) b ps
      os

  entry_then : (e : EntryTree) (os : List EntryTree) (closed : Bool) → OthersTaken os closed
      → (g : Stage) (b : Block) (before : List WrittenPlace) (qs ps : List TokenAt)
      → Keeps b.named before → AreEntryTrees before (e ∷ os)
      → test_tokens_of ps ≡ spelled_entry e (spelled_others spelled_entry closed os closing)
      → IsAccepted (qs ++ ps) (test_tokens_of qs) g (text.Init expectations.WantsEntry) b ps (e ∷ os)
  entry_then e os closed others g b before qs [] keeps fine k = absurd (no_place e.place _ k)
  entry_then e os closed others g b before qs (x ∷ ps) keeps fine k =
      let l = entry_taken g b before e x ps (spelled_others spelled_entry closed os closing) keeps fine.0 fine.1 fine.2 k in
      let rs = qs ++ l.prefix in
      let c = entered b x.offset e in
      let r = others l.stage c (written_place e.place ∷ before) rs l.behind (keeps_more b.named before (written_place e.place) keeps) fine.3 l.rest in
      let all_is : rs ++ l.behind ≡ qs ++ x ∷ ps = append_assoc qs l.prefix l.behind ∙ ap (λ (y : List TokenAt). qs ++ y) (sym l.split) in
      let far_is : test_tokens_of rs ++ semicolon ≡ test_tokens_of qs ++ spelled_entry e semicolon
      =
      ap (λ (y : List Token). y ++ semicolon) (tokens_of-append qs l.prefix
      ∙ ap (λ (y : List Token). test_tokens_of qs ++ y) l.are)
      ∙ append_assoc (test_tokens_of qs) (spelled_entry e []) semicolon
      ∙ ap (λ (y : List Token). test_tokens_of qs ++ y) (entry_more e semicolon) in
      record {
        state = r.state;
        by = l.by ∙ r.by;
        entries = r.entries ∙ append_assoc b.entries (entry_kept e ∷ []) (map entry_kept os);
        starts = x.offset ∷ r.starts;
        starts_are = r.starts_are ∙ append_assoc b.starts (x.offset ∷ []) r.starts;
        stand = (
          record { before = qs; here = x; behind = ps; split = refl; same = refl; at_place = refl },
          subst
              (λ (y : List TokenAt).
              AreEntryStarts y (test_tokens_of qs ++ spelled_entry e semicolon) os r.starts) all_is
              (subst (λ (y : List Token). AreEntryStarts (rs ++ l.behind) y os r.starts) far_is r.stand),
        );
      }

  others_taken : (os : List EntryTree) (closed : Bool) → OthersTaken os closed
  others_taken [] false g b before qs ps keeps fine k =
      close_taken expectations.HasEntry (qs ++ ps) (test_tokens_of qs ++ semicolon) g b ps (λ n. refl) k
  others_taken [] true g b before qs ps keeps fine k =
      let l = one g (text.Init expectations.HasEntry) (text.Init expectations.WantsEntry) b b (tokens.Mark marks.Semicolon) ps closing (λ n. refl) k in
      let r = close_taken expectations.WantsEntry (qs ++ ps) (test_tokens_of qs ++ semicolon) l.stage b l.behind (λ n. refl) l.rest in
      record { state = r.state; by = l.by ∙ r.by; entries = r.entries; starts = r.starts; starts_are = r.starts_are; stand = r.stand }
  others_taken (o ∷ os) closed g b before qs ps keeps fine k =
      let l = one g (text.Init expectations.HasEntry) (text.Init expectations.WantsEntry) b b (tokens.Mark marks.Semicolon) ps (spelled_entry o (spelled_others spelled_entry closed os closing)) (λ n. refl) k in
      let rs = qs ++ l.prefix in
      let r = entry_then o os closed (others_taken os closed) l.stage b before rs l.behind keeps fine l.rest in
      let all_is : rs ++ l.behind ≡ qs ++ ps = append_assoc qs l.prefix l.behind ∙ ap (λ (y : List TokenAt). qs ++ y) (sym l.split) in
      let far_is : test_tokens_of rs ≡ test_tokens_of qs ++ semicolon = tokens_of-append qs l.prefix ∙ ap (λ (y : List Token). test_tokens_of qs ++ y) l.are in
      record {
        state = r.state;
        by = l.by ∙ r.by;
        entries = r.entries;
        starts = r.starts;
        starts_are = r.starts_are;
        stand =
            subst (λ (y : List TokenAt). AreEntryStarts y (test_tokens_of qs ++ semicolon) (o ∷ os) r.starts)
            all_is (subst (λ (y : List Token). AreEntryStarts (rs ++ l.behind) y (o ∷ os) r.starts)
            far_is r.stand);
      }

  abbrev brace : List Token
  brace = tokens.Mark marks.OpenBrace ∷ []

  -- a whole text
  pub record InitTaken (ps : List TokenAt) (es : List EntryTree) : Type 0 where
    pub state : TextState
    pub by : run_parts (text_start kinds.Init threads) ps ≡ Ok state
    pub entries : state.draft.init.entries ≡ map entry_kept es
    pub stand : AreEntryStarts ps (tokens.Mark marks.OpenBrace ∷ []) es state.draft.init.starts

  pub init_taken : (es : Option (Listed EntryTree)) (ps : List TokenAt) → AreEntryTrees [] (members es)
      → test_tokens_of ps ≡ spelled_init es (tokens.End ∷ []) → InitTaken ps (members es)
  init_taken None ps fine k =
      let l = one (text.first_stage kinds.Init) (text.Init expectations.WantsOpen) (text.Init expectations.WantsEntry) init.init_start init.init_start (tokens.Mark marks.OpenBrace) ps closing (λ n. refl) k in
      let r = close_taken expectations.WantsEntry ps brace l.stage init.init_start l.behind (λ n. refl) l.rest in
      record { state = r.state; by = l.by ∙ r.by; entries = r.entries; stand = subst (AreEntryStarts ps brace []) (sym r.starts_are) r.stand }
  init_taken (Some x) ps fine k =
      let l = one (text.first_stage kinds.Init) (text.Init expectations.WantsOpen) (text.Init expectations.WantsEntry) init.init_start init.init_start (tokens.Mark marks.OpenBrace) ps (spelled_entry x.first (spelled_others spelled_entry x.closed x.others closing)) (λ n. refl) k in
      let r = entry_then x.first x.others x.closed (others_taken x.others x.closed) l.stage init.init_start [] l.prefix l.behind keeps_none fine l.rest in
      record {
        state = r.state;
        by = l.by ∙ r.by;
        entries = r.entries;
        stand =
            subst (AreEntryStarts ps brace (x.first ∷ x.others)) (sym r.starts_are) (subst
            (λ (y : List TokenAt). AreEntryStarts y brace (x.first ∷ x.others) r.starts)
            (sym l.split) (subst
            (λ (y : List Token).
            AreEntryStarts (l.prefix ++ l.behind) y (x.first ∷ x.others) r.starts) l.are
            r.stand));
      }
