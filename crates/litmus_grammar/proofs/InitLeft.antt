-- What the machine takes to its end is the text of an init block.
use Rattle.std.proofs.Common.{◌≡◌, ℕ, Bool, true, false, List, [], ◌∷◌, Option, Some, None, Ok, refl, sym, ap, ◌∙◌, subst}
use Rattle.std.specs.Prelude.{IsTrue, if◌then◌else◌}
use Rattle.std.proofs.lemmas.Bool.{false≢true}
use Rattle.litmus_tokens.specs.declared.stage.Stage.{Stage}
use Rattle.litmus_tokens.specs.declared.token.Token.{Token}
use Rattle.litmus_tokens.specs.declared.token.Token.TheVariants as tokens
use Rattle.litmus_tokens.specs.declared.token.Mark.TheVariants as marks
use Rattle.litmus_tokens.specs.Stage.{next_stage}
use Rattle.litmus_tokens.specs.Texts.{TokenAt, test_tokens_of}
use Rattle.litmus_tokens.specs.Words.{signed, decimal, is_int, register_of, is_register, is_known, or_zero}
use Rattle.text_values.specs.declared.test.Place.{Place}
use Rattle.text_values.specs.declared.test.Value.TheVariants as values
use Rattle.litmus_tokens.specs.declared.place.PlaceExpectation.{PlaceExpectation}
use Rattle.litmus_tokens.specs.declared.place.PlaceExpectation.TheVariants as places
use Rattle.litmus_tokens.specs.declared.place.PlaceStep.{PlaceStep}
use Rattle.litmus_tokens.specs.declared.place.WrittenPlace.{WrittenPlace}
use Rattle.litmus_tokens.specs.declared.place.WrittenPlace.TheVariants as written
use Rattle.litmus_tokens.specs.Conditions.{PlaceTree, Location, Register, ValueTree, Number, Address, spelled_place, spelled_value, IsPlaceTree, IsValueTree, written_place}
use Rattle.litmus_tokens.specs.PlaceMachine.{place_step, place_of, register_ends, number_read}
use Rattle.litmus_grammar.specs.declared.parts.InitExpectation.{InitExpectation}
use Rattle.litmus_grammar.specs.declared.parts.InitExpectation.TheVariants as expectations
use Rattle.litmus_grammar.specs.declared.parts.TextKind.TheVariants as kinds
use Rattle.litmus_grammar.specs.Grammar.{EntryTree, spelled_entry, spelled_others, LacksPlace, AreEntryTrees, IsInitText}
use Rattle.litmus_grammar.specs.InitMachine as init
use Rattle.litmus_grammar.specs.InitMachine.{Block, Did, has_key, with_key, with_start, with_entry, place_result, and_place, valued}
use Rattle.litmus_grammar.specs.TextMachine as text
use Rattle.litmus_grammar.specs.TextMachine.{Part, Draft, TextState, TextResult, with_offset, and_then, stepped, with_init, nothing, text_start, run_parts, init_result}
use Rattle.litmus_grammar.proofs.InitKeys.{key_of, Keeps, keeps_none, keeps_more}
use Rattle.litmus_grammar.proofs.Outcomes.{not_both}

abbrev pub closing : List Token
closing = tokens.Mark marks.CloseBrace ∷ tokens.End ∷ []

abbrev pub is_done : Part → Bool
is_done text.Done = true
is_done p = false

abbrev done_in : TextResult → Bool
done_in (Ok s) = is_done s.part
done_in r = false

abbrev pub draft : Block → Draft
draft b = with_init (nothing kinds.Init) b

abbrev pub standing : ℕ → Stage → Part → Block → TextState
standing threads g p b =
    record { kind = kinds.Init; threads = threads; stage = g; part = p; draft = draft b }

pub more : (t : Token) (ts us : List Token) → ts ≡ us → t ∷ ts ≡ t ∷ us
more t ts us e = ap (λ (xs : List Token). t ∷ xs) e

-- ---- what is left to be read, in the grammar's terms, where these places were named

record Behind (before : List WrittenPlace) (ts : List Token) : Type 0 where
  others : List EntryTree
  closed : Bool
  fine : AreEntryTrees before others
  whole : ts ≡ spelled_others spelled_entry closed others closing

record Following (before : List WrittenPlace) (ts : List Token) : Type 0 where
  first : EntryTree
  others : List EntryTree
  closed : Bool
  fine : AreEntryTrees before (first ∷ others)
  whole : ts ≡ spelled_entry first (spelled_others spelled_entry closed others closing)

data EntryLeft (before : List WrittenPlace) (ts : List Token) : Type 0 where
  Closes : ts ≡ closing → EntryLeft before ts
  Another : Following before ts → EntryLeft before ts

record ValueLeft (before : List WrittenPlace) (ts : List Token) : Type 0 where
  value : ValueTree
  rest : List Token
  fine : IsValueTree value
  whole : ts ≡ spelled_value value rest
  behind : Behind before rest

record EqualsLeft (before : List WrittenPlace) (ts : List Token) : Type 0 where
  rest : List Token
  whole : ts ≡ tokens.Mark marks.Equals ∷ rest
  value : ValueLeft before rest

record PlaceLeft (before : List WrittenPlace) (ts : List Token) : Type 0 where
  place : PlaceTree
  rest : List Token
  fine : IsPlaceTree place
  whole : ts ≡ spelled_place place rest
  once : LacksPlace before (written_place place)
  equals : EqualsLeft (written_place place ∷ before) rest

record NameLeft (before : List WrittenPlace) (ts : List Token) : Type 0 where
  name : List ℕ
  rest : List Token
  whole : ts ≡ tokens.Word name ∷ tokens.Mark marks.CloseBracket ∷ rest
  once : LacksPlace before (written.Location name)
  equals : EqualsLeft (written.Location name ∷ before) rest

record BracketLeft (before : List WrittenPlace) (ts : List Token) : Type 0 where
  rest : List Token
  whole : ts ≡ tokens.Mark marks.CloseBracket ∷ rest
  equals : EqualsLeft before rest

record RegisterLeft (before : List WrittenPlace) (d : List ℕ) (ts : List Token) : Type 0 where
  word : List ℕ
  rest : List Token
  fine : IsTrue (is_register word)
  whole : ts ≡ tokens.Word word ∷ rest
  once : LacksPlace before (written.Register d (or_zero (register_of word)))
  equals : EqualsLeft (written.Register d (or_zero (register_of word)) ∷ before) rest

record ColonLeft (before : List WrittenPlace) (d : List ℕ) (ts : List Token) : Type 0 where
  rest : List Token
  whole : ts ≡ tokens.Mark marks.Colon ∷ rest
  register : RegisterLeft before d rest

record OpenLeft (before : List WrittenPlace) (ts : List Token) : Type 0 where
  rest : List Token
  whole : ts ≡ tokens.Mark marks.OpenBrace ∷ rest
  entries : EntryLeft before rest

abbrev WithinLeft : List WrittenPlace → PlaceExpectation → List Token → Type 0
WithinLeft before places.Begins ts = PlaceLeft before ts
WithinLeft before places.WantsName ts = NameLeft before ts
WithinLeft before (places.WantsBracket n) ts = BracketLeft before ts
WithinLeft before (places.WantsColon d) ts = ColonLeft before d ts
WithinLeft before (places.WantsRegister d) ts = RegisterLeft before d ts

abbrev Left : List WrittenPlace → InitExpectation → List Token → Type 0
Left before expectations.WantsOpen ts = OpenLeft before ts
Left before expectations.WantsEntry ts = EntryLeft before ts
Left before (expectations.InPlace expected) ts = WithinLeft before expected ts
Left before (expectations.WantsEquals p) ts = EqualsLeft before ts
Left before (expectations.WantsValue p) ts = ValueLeft before ts
Left before expectations.HasEntry ts = Behind before ts

another : (before : List WrittenPlace) (ts : List Token) → PlaceLeft before ts → Following before ts
another before ts l =
    let v = l.equals.value in
    let b = v.behind in
    record {
      first = record { place = l.place; value = v.value };
      others = b.others;
      closed = b.closed;
      fine = (l.fine, v.fine, l.once, b.fine);
      whole =
          l.whole
          ∙ ap (spelled_place l.place) (l.equals.whole
          ∙ ap (λ (us : List Token). tokens.Mark marks.Equals ∷ us)
          (v.whole ∙ ap (spelled_value v.value) b.whole));
    }

after_semicolon : (before : List WrittenPlace) (ts : List Token) → EntryLeft before ts
    → Behind before (tokens.Mark marks.Semicolon ∷ ts)
after_semicolon before ts (Closes e) =
    record {
      others = [];
      closed = true;
      fine = tt;
      whole = more (tokens.Mark marks.Semicolon) ts _ e;
    }
after_semicolon before ts (Another f) =
    record {
      others = f.first ∷ f.others;
      closed = f.closed;
      fine = f.fine;
      whole = more (tokens.Mark marks.Semicolon) ts _ f.whole;
    }

module _ (threads : ℕ) where
  only_end : (ps : List TokenAt) (g : Stage) (b : Block) (s : TextState)
      → run_parts (standing threads g text.Done b) ps ≡ Ok s → test_tokens_of ps ≡ []
  only_end [] g b s e = refl
  only_end (p ∷ ps) g b s e = absurd (not_both _ _ e)

  end_left : (ps : List TokenAt) (g : Stage) (b : Block) (s : TextState)
      → run_parts (standing threads g text.WantsEnd b) ps ≡ Ok s → s.part ≡ text.Done
      → test_tokens_of ps ≡ tokens.End ∷ []
  end_left [] g b s e d = absurd (false≢true (ap done_in e ∙ ap is_done d))
  end_left (p ∷ ps) g b s e d = by_token p.token p.offset e
    where
      by_token : (t : Token) (n : ℕ)
          → run_parts (standing threads g text.WantsEnd b) (record { token = t; offset = n } ∷ ps) ≡ Ok s
          → t ∷ test_tokens_of ps ≡ tokens.End ∷ []
      by_token tokens.End n k =
          more tokens.End (test_tokens_of ps) [] (only_end ps (next_stage g tokens.End) b s k)
      by_token t n k = absurd (not_both _ _ k)

  -- with what is left behind the token
  module _ (ps : List TokenAt) (s : TextState) (d : s.part ≡ text.Done)
      (again : (expected : InitExpectation) (g : Stage) (b : Block) (before : List WrittenPlace)
      → Keeps b.named before → run_parts (standing threads g (text.Init expected) b) ps ≡ Ok s
      → Left before expected (test_tokens_of ps)) where
    abbrev went_on : Stage → InitExpectation → Block → Token → ℕ → Option Did → TextResult
    went_on g expected b t n o =
        and_then
        (with_offset n (stepped (standing threads g (text.Init expected) b) t
        (init_result kinds.Init (draft b) o)))
        (λ x. run_parts x ps)

    -- a place that is named here was not named before
    once : (g : Stage) (expected : InitExpectation) (c b : Block) (t : Token) (n : ℕ) (k : List ℕ)
        (o : Option PlaceStep) (x : Bool) → has_key b.named k ≡ x
        → went_on g expected c t n (and_place (if x then None else Some (with_key b k)) o) ≡ Ok s
        → (has_key b.named k ≡ false)
        × (went_on g expected c t n (place_result (with_key b k) o) ≡ Ok s)
    once g expected c b t n k o true e h = absurd (not_both _ _ h)
    once g expected c b t n k o false e h = (e, h)

    -- the equals sign behind a place that was named
    named : (g : Stage) (b : Block) (before : List WrittenPlace) (w : WrittenPlace) (p : Place)
        → Keeps b.named before → has_key b.named (key_of w) ≡ false
        → run_parts (standing threads g (text.Init (expectations.WantsEquals p)) (with_key b (key_of w)))
        ps ≡ Ok s → LacksPlace before w × EqualsLeft (w ∷ before) (test_tokens_of ps)
    named g b before w p keeps e h = (
      (keeps w).0 e,
      again (expectations.WantsEquals p) g (with_key b (key_of w)) (w ∷ before)
          (keeps_more b.named before w keeps) h,
    )

    register_left : (g : Stage) (expected : InitExpectation) (b : Block)
        (before : List WrittenPlace) (d w : List ℕ) (n : ℕ) (o : Option ℕ) → register_of w ≡ o
        → Keeps b.named before
        → went_on g expected b (tokens.Word w) n (and_place (init.added_if b (init.known_key d o))
        (register_ends d o)) ≡ Ok s
        → RegisterLeft before d (tokens.Word w ∷ test_tokens_of ps)
    register_left g expected b before d w n (Some r) e keeps h =
        let place = written.Register d r in
        let o = once g expected b b (tokens.Word w) n (key_of place) (register_ends d (Some r)) (has_key b.named (key_of place)) refl h in
        let k = named (next_stage g (tokens.Word w)) b before place (place_of place) keeps o.0 o.1 in
        let same : written.Register d r ≡ written.Register d (or_zero (register_of w)) = ap (λ (x : Option ℕ). written.Register d (or_zero x)) (sym e) in
        record {
          word = w;
          rest = test_tokens_of ps;
          fine = ap is_known e;
          whole = refl;
          once = subst (LacksPlace before) same k.0;
          equals = subst (λ (x : WrittenPlace). EqualsLeft (x ∷ before) (test_tokens_of ps)) same k.1;
        }
    register_left g expected b before d w n None e keeps h = absurd (not_both _ _ h)

    first_draft : (g : Stage) (expected : InitExpectation) (c b : Block)
        (before : List WrittenPlace) (t : Token) (n : ℕ) → Keeps b.named before
        → went_on g expected c t n (init.place_read b places.Begins t) ≡ Ok s
        → PlaceLeft before (t ∷ test_tokens_of ps)
    first_draft g expected c b before (tokens.Word w) n keeps h =
        let place = written.Location w in
        let o = once g expected c b (tokens.Word w) n (key_of place) (place_step places.Begins (tokens.Word w)) (has_key b.named (key_of place)) refl h in
        let k = named (next_stage g (tokens.Word w)) b before place (place_of place) keeps o.0 o.1 in
        record { place = Location false w; rest = test_tokens_of ps; fine = tt; whole = refl; once = k.0; equals = k.1 }
    first_draft g expected c b before (tokens.Mark marks.OpenBracket) n keeps h =
        let l = again (expectations.InPlace places.WantsName) (next_stage g (tokens.Mark marks.OpenBracket)) b before keeps h in
        record { place = Location true l.name; rest = l.rest; fine = tt; whole = more (tokens.Mark marks.OpenBracket) (test_tokens_of ps) _ l.whole; once = l.once; equals = l.equals }
    first_draft g expected c b before (tokens.Number false d) n keeps h =
        let l = again (expectations.InPlace (places.WantsColon d)) (next_stage g (tokens.Number false d)) b before keeps h in
        let r = l.register in
        record { place = Register d r.word; rest = r.rest; fine = r.fine; whole = more (tokens.Number false d) (test_tokens_of ps) _ (l.whole ∙ more (tokens.Mark marks.Colon) l.rest _ r.whole); once = r.once; equals = r.equals }
    first_draft g expected c b before t n keeps h = absurd (not_both _ _ h)

    within_left : (g : Stage) (expected : PlaceExpectation) (b : Block) (before : List WrittenPlace)
        (t : Token) (n : ℕ) → Keeps b.named before
        → went_on g (expectations.InPlace expected) b t n (init.place_read b expected t) ≡ Ok s
        → WithinLeft before expected (t ∷ test_tokens_of ps)
    within_left g places.Begins b before t n keeps h =
        first_draft g (expectations.InPlace places.Begins) b b before t n keeps h
    within_left g places.WantsName b before (tokens.Word w) n keeps h =
        let place = written.Location w in
        let o = once g (expectations.InPlace places.WantsName) b b (tokens.Word w) n (key_of place) (place_step places.WantsName (tokens.Word w)) (has_key b.named (key_of place)) refl h in
        let l = again (expectations.InPlace (places.WantsBracket w)) (next_stage g (tokens.Word w)) (with_key b (key_of place)) (place ∷ before) (keeps_more b.named before place keeps) o.1 in
        record { name = w; rest = l.rest; whole = more (tokens.Word w) (test_tokens_of ps) _ l.whole; once = (keeps place).0 o.0; equals = l.equals }
    within_left g places.WantsName b before t n keeps h = absurd (not_both _ _ h)
    within_left g (places.WantsBracket w) b before (tokens.Mark marks.CloseBracket) n keeps h =
        record { rest = test_tokens_of ps; whole = refl; equals = again (expectations.WantsEquals (place_of (written.Location w))) (next_stage g (tokens.Mark marks.CloseBracket)) b before keeps h }
    within_left g (places.WantsBracket w) b before t n keeps h = absurd (not_both _ _ h)
    within_left g (places.WantsColon d) b before (tokens.Mark marks.Colon) n keeps h =
        record { rest = test_tokens_of ps; whole = refl; register = again (expectations.InPlace (places.WantsRegister d)) (next_stage g (tokens.Mark marks.Colon)) b before keeps h }
    within_left g (places.WantsColon d) b before t n keeps h = absurd (not_both _ _ h)
    within_left g (places.WantsRegister d) b before (tokens.Word w) n keeps h =
        register_left g (expectations.InPlace (places.WantsRegister d)) b before d w n
        (register_of w) refl keeps h
    within_left g (places.WantsRegister d) b before t n keeps h = absurd (not_both _ _ h)

    entry_left : (g : Stage) (b : Block) (before : List WrittenPlace) (t : Token) (n : ℕ)
        → Keeps b.named before
        → went_on g expectations.WantsEntry b t n (init.entry_read b t n) ≡ Ok s
        → EntryLeft before (t ∷ test_tokens_of ps)
    entry_left g b before (tokens.Mark marks.CloseBrace) n keeps h =
        Closes (more (tokens.Mark marks.CloseBrace) (test_tokens_of ps) _ (end_left ps
        (next_stage g (tokens.Mark marks.CloseBrace)) b s h d))
    entry_left g b before t n keeps h =
        Another (another before (t ∷ test_tokens_of ps) (first_draft g expectations.WantsEntry b
        (with_start b n) before t n keeps h))

    open_left : (g : Stage) (b : Block) (before : List WrittenPlace) (t : Token) (n : ℕ)
        → Keeps b.named before → went_on g expectations.WantsOpen b t n (init.open_read b t) ≡ Ok s
        → OpenLeft before (t ∷ test_tokens_of ps)
    open_left g b before (tokens.Mark marks.OpenBrace) n keeps h =
        record {
          rest = test_tokens_of ps;
          whole = refl;
          entries =
              again expectations.WantsEntry (next_stage g (tokens.Mark marks.OpenBrace)) b before keeps
              h;
        }
    open_left g b before t n keeps h = absurd (not_both _ _ h)

    equals_left : (g : Stage) (p : Place) (b : Block) (before : List WrittenPlace) (t : Token)
        (n : ℕ) → Keeps b.named before
        → went_on g (expectations.WantsEquals p) b t n (init.equals_read b p t) ≡ Ok s
        → EqualsLeft before (t ∷ test_tokens_of ps)
    equals_left g p b before (tokens.Mark marks.Equals) n keeps h =
        record {
          rest = test_tokens_of ps;
          whole = refl;
          value =
              again (expectations.WantsValue p) (next_stage g (tokens.Mark marks.Equals)) b before
              keeps h;
        }
    equals_left g p b before t n keeps h = absurd (not_both _ _ h)

    number_left : (g : Stage) (p : Place) (b : Block) (before : List WrittenPlace) (negative : Bool)
        (ds : List ℕ) (n : ℕ) (x : Bool) → is_int negative ds ≡ x → Keeps b.named before
        → went_on g (expectations.WantsValue p) b (tokens.Number negative ds) n
        (valued b p (number_read
        (if x then Some (signed negative (decimal ds)) else None))) ≡ Ok s
        → ValueLeft before (tokens.Number negative ds ∷ test_tokens_of ps)
    number_left g p b before negative ds n true e keeps h =
        record { value = Number negative ds; rest = test_tokens_of ps; fine = e; whole = refl; behind = again expectations.HasEntry (next_stage g (tokens.Number negative ds)) (with_entry b p (values.Number (signed negative (decimal ds)))) before keeps h }
    number_left g p b before negative ds n false e keeps h = absurd (not_both _ _ h)

    value_left : (g : Stage) (p : Place) (b : Block) (before : List WrittenPlace) (t : Token)
        (n : ℕ) → Keeps b.named before
        → went_on g (expectations.WantsValue p) b t n (init.init_step b (expectations.WantsValue p) t n)
        ≡ Ok s → ValueLeft before (t ∷ test_tokens_of ps)
    value_left g p b before (tokens.Word w) n keeps h =
        record { value = Address w; rest = test_tokens_of ps; fine = tt; whole = refl; behind = again expectations.HasEntry (next_stage g (tokens.Word w)) (with_entry b p (values.Address w)) before keeps h }
    value_left g p b before (tokens.Number negative ds) n keeps h =
        number_left g p b before negative ds n (is_int negative ds) refl keeps h
    value_left g p b before t n keeps h = absurd (not_both _ _ h)

    behind_left : (g : Stage) (b : Block) (before : List WrittenPlace) (t : Token) (n : ℕ)
        → Keeps b.named before → went_on g expectations.HasEntry b t n (init.entry_behind b t) ≡ Ok s
        → Behind before (t ∷ test_tokens_of ps)
    behind_left g b before (tokens.Mark marks.Semicolon) n keeps h =
        after_semicolon before (test_tokens_of ps) (again expectations.WantsEntry
        (next_stage g (tokens.Mark marks.Semicolon)) b before keeps h)
    behind_left g b before (tokens.Mark marks.CloseBrace) n keeps h =
        record { others = []; closed = false; fine = tt; whole = more (tokens.Mark marks.CloseBrace) (test_tokens_of ps) _ (end_left ps (next_stage g (tokens.Mark marks.CloseBrace)) b s h d) }
    behind_left g b before t n keeps h = absurd (not_both _ _ h)

    by_expectation : (expected : InitExpectation) (g : Stage) (b : Block)
        (before : List WrittenPlace) (t : Token) (n : ℕ) → Keeps b.named before
        → run_parts (standing threads g (text.Init expected) b) (record { token = t; offset = n } ∷ ps)
        ≡ Ok s → Left before expected (t ∷ test_tokens_of ps)
    by_expectation expectations.WantsOpen g b before t n keeps h = open_left g b before t n keeps h
    by_expectation expectations.WantsEntry g b before t n keeps h =
        entry_left g b before t n keeps h
    by_expectation (expectations.InPlace expected) g b before t n keeps h =
        within_left g expected b before t n keeps h
    by_expectation (expectations.WantsEquals p) g b before t n keeps h =
        equals_left g p b before t n keeps h
    by_expectation (expectations.WantsValue p) g b before t n keeps h =
        value_left g p b before t n keeps h
    by_expectation expectations.HasEntry g b before t n keeps h = behind_left g b before t n keeps h

  left : (ps : List TokenAt) (expected : InitExpectation) (g : Stage) (b : Block)
      (before : List WrittenPlace) (s : TextState) → Keeps b.named before
      → run_parts (standing threads g (text.Init expected) b) ps ≡ Ok s → s.part ≡ text.Done
      → Left before expected (test_tokens_of ps)
  left [] expected g b before s keeps e d = absurd (false≢true (ap done_in e ∙ ap is_done d))
  left (p ∷ ps) expected g b before s keeps e d =
      by_expectation ps s d (λ o f c more_places k i. left ps o f c more_places s k i d) expected g
      b before p.token p.offset keeps e

  to_text : (ts us : List Token) → ts ≡ tokens.Mark marks.OpenBrace ∷ us → EntryLeft [] us
      → IsInitText ts
  to_text ts us e (Closes k) =
      record { entries = None; fine = tt; whole = e ∙ more (tokens.Mark marks.OpenBrace) us _ k }
  to_text ts us e (Another f) =
      record { entries = Some (record { first = f.first; others = f.others; closed = f.closed }); fine = f.fine; whole = e ∙ more (tokens.Mark marks.OpenBrace) us _ f.whole }

  pub init_whole : (ps : List TokenAt) (s : TextState) → run_parts (text_start kinds.Init threads) ps ≡ Ok s
      → s.part ≡ text.Done → IsInitText (test_tokens_of ps)
  init_whole ps s e d =
      let l = left ps expectations.WantsOpen (text.first_stage kinds.Init) init.init_start [] s keeps_none e d in
      to_text (test_tokens_of ps) l.rest l.whole l.entries
