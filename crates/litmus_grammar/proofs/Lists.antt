-- The machine takes the texts of lists of places and nothing else.
use Rattle.std.proofs.Common.{◌≡◌, ℕ, ◌<◌, Bool, true, false, List, [], ◌∷◌, Option, Some, None, Ok, Err, refl, ap, ◌∙◌, arith}
use Rattle.std.specs.Prelude.{codes, nat_lt, IsTrue, if◌then◌else◌}
use Rattle.std.specs.Str.{bytes_eq}
use Rattle.std.proofs.lemmas.Slice.Eq.{bytes_eq-Decides}
use Rattle.std.proofs.lemmas.Bool.Decides.{nat_tests}
use Rattle.std.proofs.lemmas.Bool.{false≢true}
use Rattle.litmus_tokens.specs.declared.stage.Stage.{Stage}
use Rattle.litmus_tokens.specs.declared.token.Token.{Token}
use Rattle.litmus_tokens.specs.declared.token.Token.TheVariants as tokens
use Rattle.litmus_tokens.specs.declared.token.Mark.TheVariants as marks
use Rattle.litmus_tokens.specs.Stage.{next_stage}
use Rattle.litmus_tokens.specs.Texts.{TokenAt, test_tokens_of}
use Rattle.litmus_tokens.specs.Words.{decimal, register_of, is_register, is_known}
use Rattle.litmus_tokens.specs.declared.place.PlaceExpectation.{PlaceExpectation}
use Rattle.litmus_tokens.specs.declared.place.PlaceExpectation.TheVariants as places
use Rattle.litmus_tokens.specs.declared.place.PlaceStep.{PlaceStep}
use Rattle.litmus_tokens.specs.declared.place.PlaceStep.TheVariants as place_steps
use Rattle.litmus_tokens.specs.Conditions.{PlaceTree, Location, Register, spelled_place, IsPlaceTree, HasThread}
use Rattle.litmus_tokens.specs.PlaceMachine.{place_step, place_of, register_ends, has_thread}
use Rattle.litmus_grammar.specs.declared.parts.ItemExpectation.{ItemExpectation}
use Rattle.litmus_grammar.specs.declared.parts.ItemExpectation.TheVariants as items
use Rattle.litmus_grammar.specs.declared.parts.TextKind.TheVariants as kinds
use Rattle.litmus_grammar.specs.Grammar.{spelled_others, ArePlaceTrees, IsLocationsText}
use Rattle.litmus_grammar.specs.TextMachine as text
use Rattle.litmus_grammar.specs.TextMachine.{Part, Draft, TextState, TextResult, with_offset, and_then, stepped, with_place, run_parts, item_result}
use Rattle.litmus_grammar.proofs.InitLeft.{is_done}
use Rattle.litmus_grammar.proofs.Outcomes.{not_both}

abbrev pub closing : List Token
closing = tokens.Mark marks.CloseBracket ∷ tokens.End ∷ []

abbrev done_in : TextResult → Bool
done_in (Ok s) = is_done s.part
done_in (Err e) = false

module _ (threads : ℕ) where
  abbrev standing : Stage → Part → Draft → TextState
  standing g p h =
      record { kind = kinds.Locations; threads = threads; stage = g; part = p; draft = h }

  -- ---- what is left to be read, in the grammar's terms

  -- behind a place of the list
  record Behind (ts : List Token) : Type 0 where
    others : List PlaceTree
    closed : Bool
    fine : ArePlaceTrees threads others
    whole : ts ≡ spelled_others spelled_place closed others closing

  record Following (ts : List Token) : Type 0 where
    first : PlaceTree
    others : List PlaceTree
    closed : Bool
    is_place : IsPlaceTree first
    there : HasThread threads first
    fine : ArePlaceTrees threads others
    whole : ts ≡ spelled_place first (spelled_others spelled_place closed others closing)

  data AfterSemicolon (ts : List Token) : Type 0 where
    Closes : ts ≡ closing → AfterSemicolon ts
    Another : Following ts → AfterSemicolon ts

  abbrev PlaceLeft : PlaceExpectation → List Token → Type 0
  PlaceLeft places.Begins ts =
      (p : PlaceTree) × (rest : List Token) × IsPlaceTree p × (ts ≡ spelled_place p rest) × Behind rest
  PlaceLeft places.WantsName ts =
      (n : List ℕ) × (rest : List Token)
      × (ts ≡ tokens.Word n ∷ tokens.Mark marks.CloseBracket ∷ rest) × Behind rest
  PlaceLeft (places.WantsBracket n) ts =
      (rest : List Token) × (ts ≡ tokens.Mark marks.CloseBracket ∷ rest) × Behind rest
  PlaceLeft (places.WantsColon d) ts =
      (w : List ℕ) × (rest : List Token) × (ts ≡ tokens.Mark marks.Colon ∷ tokens.Word w ∷ rest)
      × IsTrue (is_register w) × Behind rest
  PlaceLeft (places.WantsRegister d) ts =
      (w : List ℕ) × (rest : List Token) × (ts ≡ tokens.Word w ∷ rest) × IsTrue (is_register w)
      × Behind rest

  abbrev StepLeft : Option PlaceStep → List Token → Type 0
  StepLeft None ts = ⊥
  StepLeft (Some (place_steps.Goes expected)) ts = PlaceLeft expected ts
  StepLeft (Some (place_steps.Ends w)) ts = Behind ts

  abbrev Left : ItemExpectation → List Token → Type 0
  Left items.WantsFirst ts = Following ts
  Left items.WantsNext ts = AfterSemicolon ts
  Left (items.InItem expected) ts = PlaceLeft expected ts
  Left items.HasItem ts = Behind ts

  more : (t : Token) (ts us : List Token) → ts ≡ us → t ∷ ts ≡ t ∷ us
  more t ts us e = ap (λ (xs : List Token). t ∷ xs) e

  known_register : (d w : List ℕ) (ts : List Token) (o : Option ℕ) → register_of w ≡ o
      → StepLeft (register_ends d o) ts → PlaceLeft (places.WantsRegister d) (tokens.Word w ∷ ts)
  known_register d w ts (Some r) e b = (w, ts, refl, ap is_known e, b)
  known_register d w ts None e b = absurd b

  back : (expected : PlaceExpectation) (t : Token) (ts : List Token)
      → StepLeft (place_step expected t) ts → PlaceLeft expected (t ∷ ts)
  back places.Begins (tokens.Word n) ts b = (Location false n, ts, tt, refl, b)
  back places.Begins (tokens.Mark marks.OpenBracket) ts l =
      (Location true l.0, l.1, tt, more (tokens.Mark marks.OpenBracket) ts _ l.2, l.3)
  back places.Begins (tokens.Number false d) ts l =
      (Register d l.0, l.1, l.3, more (tokens.Number false d) ts _ l.2, l.4)
  back places.Begins t ts l = absurd l
  back places.WantsName (tokens.Word n) ts l = (n, l.0, more (tokens.Word n) ts _ l.1, l.2)
  back places.WantsName t ts l = absurd l
  back (places.WantsBracket n) (tokens.Mark marks.CloseBracket) ts b = (ts, refl, b)
  back (places.WantsBracket n) t ts l = absurd l
  back (places.WantsColon d) (tokens.Mark marks.Colon) ts l =
      (l.0, l.1, more (tokens.Mark marks.Colon) ts _ l.2, l.3, l.4)
  back (places.WantsColon d) t ts l = absurd l
  back (places.WantsRegister d) (tokens.Word w) ts l = known_register d w ts (register_of w) refl l
  back (places.WantsRegister d) t ts l = absurd l

  below : (a b : ℕ) → nat_lt a b ≡ true → a < b
  below a b h = grind (arith, nat_tests)

  first_draft : (t : Token) (ts : List Token) → has_thread threads t ≡ true
      → StepLeft (place_step places.Begins t) ts → Following (t ∷ ts)
  first_draft (tokens.Word n) ts e b =
      record {
        first = Location false n;
        others = b.others;
        closed = b.closed;
        is_place = tt;
        there = tt;
        fine = b.fine;
        whole = more (tokens.Word n) ts _ b.whole;
      }
  first_draft (tokens.Mark marks.OpenBracket) ts e l =
      let b = l.3 in
      record {
        first = Location true l.0;
        others = b.others;
        closed = b.closed;
        is_place = tt;
        there = tt;
        fine = b.fine;
        whole =
            more (tokens.Mark marks.OpenBracket) ts _ (l.2
            ∙ ap (λ (us : List Token). tokens.Word l.0 ∷ tokens.Mark marks.CloseBracket ∷ us)
            b.whole);
      }
  first_draft (tokens.Number false d) ts e l =
      let b = l.4 in
      record {
        first = Register d l.0;
        others = b.others;
        closed = b.closed;
        is_place = l.3;
        there = below (decimal d) threads e;
        fine = b.fine;
        whole =
            more (tokens.Number false d) ts _ (l.2
            ∙ ap (λ (us : List Token). tokens.Mark marks.Colon ∷ tokens.Word l.0 ∷ us)
            b.whole);
      }
  first_draft t ts e l = absurd l

  after_semicolon : (ts : List Token) → AfterSemicolon ts
      → Behind (tokens.Mark marks.Semicolon ∷ ts)
  after_semicolon ts (Closes e) =
      record {
        others = [];
        closed = true;
        fine = tt;
        whole = more (tokens.Mark marks.Semicolon) ts _ e;
      }
  after_semicolon ts (Another f) =
      record {
        others = f.first ∷ f.others;
        closed = f.closed;
        fine = (f.is_place, f.there, f.fine);
        whole = more (tokens.Mark marks.Semicolon) ts _ f.whole;
      }

  -- ---- what is taken to its end

  only_end : (ps : List TokenAt) (g : Stage) (h : Draft) (s : TextState)
      → run_parts (standing g text.Done h) ps ≡ Ok s → test_tokens_of ps ≡ []
  only_end [] g h s e = refl
  only_end (p ∷ ps) g h s e = absurd (not_both _ _ e)

  end_left : (ps : List TokenAt) (g : Stage) (h : Draft) (s : TextState)
      → run_parts (standing g text.WantsEnd h) ps ≡ Ok s → s.part ≡ text.Done
      → test_tokens_of ps ≡ tokens.End ∷ []
  end_left [] g h s e d = absurd (false≢true (ap done_in e ∙ ap is_done d))
  end_left (p ∷ ps) g h s e d = by_token p.token p.offset e
    where
      by_token : (t : Token) (n : ℕ)
          → run_parts (standing g text.WantsEnd h) (record { token = t; offset = n } ∷ ps) ≡ Ok s
          → t ∷ test_tokens_of ps ≡ tokens.End ∷ []
      by_token tokens.End n k =
          more tokens.End (test_tokens_of ps) [] (only_end ps (next_stage g tokens.End) h s k)
      by_token t n k = absurd (not_both _ _ k)

  -- with what is left behind the token
  module _ (ps : List TokenAt) (s : TextState) (d : s.part ≡ text.Done)
      (again : (expected : ItemExpectation) (g : Stage) (h : Draft)
      → run_parts (standing g (text.Item expected) h) ps ≡ Ok s → Left expected (test_tokens_of ps)) where
    went : (g : Stage) (h : Draft) (part : Part) (t : Token) (n : ℕ) (o : Option PlaceStep)
        → and_then (with_offset n (stepped (standing g part h) t (item_result h o))) (λ x. run_parts x ps)
        ≡ Ok s → StepLeft o (test_tokens_of ps)
    went g h part t n (Some (place_steps.Goes within)) k =
        again (items.InItem within) (next_stage g t) h k
    went g h part t n (Some (place_steps.Ends w)) k =
        again items.HasItem (next_stage g t) (with_place h (place_of w)) k
    went g h part t n None k = absurd (not_both _ _ k)

    start_left : (g : Stage) (h : Draft) (part : Part) (t : Token) (n : ℕ)
        → and_then (with_offset n (stepped (standing g part h) t (text.item_start threads h t)))
        (λ x. run_parts x ps) ≡ Ok s → Following (t ∷ test_tokens_of ps)
    start_left g h part t n k = choose (has_thread threads t) refl k
      where
        choose : (b : Bool) → has_thread threads t ≡ b
            → and_then
            (with_offset n (stepped (standing g part h) t (if b then item_result h
            (place_step places.Begins t)
            else None)))
            (λ x. run_parts x ps) ≡ Ok s → Following (t ∷ test_tokens_of ps)
        choose true e k =
            first_draft t (test_tokens_of ps) e (went g h part t n (place_step places.Begins t) k)
        choose false e k = absurd (not_both _ _ k)

    next_left : (g : Stage) (h : Draft) (t : Token) (n : ℕ)
        → run_parts (standing g (text.Item items.WantsNext) h) (record { token = t; offset = n } ∷ ps)
        ≡ Ok s → AfterSemicolon (t ∷ test_tokens_of ps)
    next_left g h (tokens.Mark marks.CloseBracket) n k =
        Closes (more (tokens.Mark marks.CloseBracket) (test_tokens_of ps) _
        (end_left ps (next_stage g (tokens.Mark marks.CloseBracket)) h s k d))
    next_left g h t n k = Another (start_left g h (text.Item items.WantsNext) t n k)

    ended_left : (g : Stage) (h : Draft) (t : Token) (n : ℕ)
        → run_parts (standing g (text.Item items.HasItem) h) (record { token = t; offset = n } ∷ ps)
        ≡ Ok s → Behind (t ∷ test_tokens_of ps)
    ended_left g h (tokens.Mark marks.Semicolon) n k =
        after_semicolon (test_tokens_of ps) (again items.WantsNext
        (next_stage g (tokens.Mark marks.Semicolon)) h k)
    ended_left g h (tokens.Mark marks.CloseBracket) n k =
        record {
          others = [];
          closed = false;
          fine = tt;
          whole =
              more (tokens.Mark marks.CloseBracket) (test_tokens_of ps) _
              (end_left ps (next_stage g (tokens.Mark marks.CloseBracket)) h s k d);
        }
    ended_left g h t n k = absurd (not_both _ _ k)

    by_expectation : (expected : ItemExpectation) (g : Stage) (h : Draft) (t : Token) (n : ℕ)
        → run_parts (standing g (text.Item expected) h) (record { token = t; offset = n } ∷ ps) ≡ Ok s
        → Left expected (t ∷ test_tokens_of ps)
    by_expectation items.WantsFirst g h t n k = start_left g h (text.Item items.WantsFirst) t n k
    by_expectation items.WantsNext g h t n k = next_left g h t n k
    by_expectation (items.InItem within) g h t n k =
        back within t (test_tokens_of ps) (went g h (text.Item (items.InItem within)) t n
        (place_step within t) k)
    by_expectation items.HasItem g h t n k = ended_left g h t n k

  left : (ps : List TokenAt) (expected : ItemExpectation) (g : Stage) (h : Draft) (s : TextState)
      → run_parts (standing g (text.Item expected) h) ps ≡ Ok s → s.part ≡ text.Done
      → Left expected (test_tokens_of ps)
  left [] expected g h s e d = absurd (false≢true (ap done_in e ∙ ap is_done d))
  left (p ∷ ps) expected g h s e d =
      by_expectation ps s d (λ o f i k. left ps o f i s k d) expected g h p.token p.offset e

  list_left : (ps : List TokenAt) (g : Stage) (h : Draft) (s : TextState)
      → run_parts (standing g text.WantsList h) ps ≡ Ok s → s.part ≡ text.Done
      → (rest : List Token) × (test_tokens_of ps ≡ tokens.Mark marks.OpenBracket ∷ rest) × Following rest
  list_left [] g h s e d = absurd (false≢true (ap done_in e ∙ ap is_done d))
  list_left (p ∷ ps) g h s e d = by_token p.token p.offset e
    where
      by_token : (t : Token) (n : ℕ)
          → run_parts (standing g text.WantsList h) (record { token = t; offset = n } ∷ ps) ≡ Ok s
          → (rest : List Token) × (t ∷ test_tokens_of ps ≡ tokens.Mark marks.OpenBracket ∷ rest)
          × Following rest
      by_token (tokens.Mark marks.OpenBracket) n k = (
        test_tokens_of ps,
        refl,
        left ps items.WantsFirst (next_stage g (tokens.Mark marks.OpenBracket)) h s k d,
      )
      by_token t n k = absurd (not_both _ _ k)

  of_list : (w : List ℕ) (ts : List Token) → w ≡ codes "locations"
      → (rest : List Token) × (ts ≡ tokens.Mark marks.OpenBracket ∷ rest) × Following rest
      → IsLocationsText threads (tokens.Word w ∷ ts)
  of_list w ts e l =
      let f = l.2 in
      record {
        items = Some (record { first = f.first; others = f.others; closed = f.closed });
        fine = (f.is_place, f.there, f.fine);
        whole =
            ap (λ (x : List ℕ). tokens.Word x ∷ ts) e
            ∙ more (tokens.Word (codes "locations")) ts _
            (l.1 ∙ more (tokens.Mark marks.OpenBracket) l.0 _ f.whole);
      }

  pub list_whole : (ps : List TokenAt) (g : Stage) (h : Draft) (s : TextState)
      → run_parts (standing g text.ListOrEnd h) ps ≡ Ok s → s.part ≡ text.Done
      → IsLocationsText threads (test_tokens_of ps)
  list_whole [] g h s e d = absurd (false≢true (ap done_in e ∙ ap is_done d))
  list_whole (p ∷ ps) g h s e d = by_token p.token p.offset e
    where
      by_word : (w : List ℕ) (n : ℕ) (b : Bool) → bytes_eq w (codes "locations") ≡ b
          → and_then
          (with_offset n (stepped (standing g text.ListOrEnd h) (tokens.Word w)
          (text.next_at h (if b then Some text.WantsList else None))))
          (λ x. run_parts x ps) ≡ Ok s → IsLocationsText threads (tokens.Word w ∷ test_tokens_of ps)
      by_word w n true q k =
          of_list w (test_tokens_of ps) ((bytes_eq-Decides w (codes "locations")).0 q)
          (list_left ps (next_stage g (tokens.Word w)) h s k d)
      by_word w n false q k = absurd (not_both _ _ k)

      by_token : (t : Token) (n : ℕ)
          → run_parts (standing g text.ListOrEnd h) (record { token = t; offset = n } ∷ ps) ≡ Ok s
          → IsLocationsText threads (t ∷ test_tokens_of ps)
      by_token (tokens.Word w) n k = by_word w n (bytes_eq w (codes "locations")) refl k
      by_token tokens.End n k =
          record {
            items = None;
            fine = tt;
            whole = more tokens.End (test_tokens_of ps) [] (only_end ps (next_stage g tokens.End) h s k);
          }
      by_token t n k = absurd (not_both _ _ k)
