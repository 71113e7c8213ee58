-- Each text of a list of places is taken, and what is taken begins one.
use Rattle.std.proofs.Common.{◌≡◌, ℕ, ◌<◌, Bool, true, false, List, [], ◌∷◌, ◌++◌, map, Option, Some, None, Ok, refl, sym, ap, ◌∙◌, subst, arith, append_assoc}
use Rattle.std.specs.Prelude.{codes, nat_lt, if◌then◌else◌}
use Rattle.std.proofs.lemmas.List.{append-nil}
use Rattle.std.proofs.lemmas.Bool.Decides.{nat_tests}
use Rattle.litmus_tokens.specs.declared.stage.Stage.{Stage}
use Rattle.litmus_tokens.specs.declared.stage.Stage.TheVariants.{Tail}
use Rattle.litmus_tokens.specs.declared.token.Token.{Token}
use Rattle.litmus_tokens.specs.declared.token.Token.TheVariants as tokens
use Rattle.litmus_tokens.specs.declared.token.Mark.TheVariants as marks
use Rattle.litmus_tokens.specs.Faults.{Begins, CanFollow, ruling, RulingSays}
use Rattle.litmus_tokens.specs.Stage.{next_stage}
use Rattle.litmus_tokens.specs.Texts.{TokenAt, test_tokens_of}
use Rattle.litmus_tokens.specs.Words.{decimal, register_of, is_known, or_zero}
use Rattle.text_values.specs.declared.test.Place.{Place}
use Rattle.litmus_tokens.specs.declared.place.PlaceExpectation.{PlaceExpectation}
use Rattle.litmus_tokens.specs.declared.place.PlaceExpectation.TheVariants as places
use Rattle.litmus_tokens.specs.declared.place.PlaceStep.{PlaceStep}
use Rattle.litmus_tokens.specs.declared.place.PlaceStep.TheVariants as place_steps
use Rattle.litmus_tokens.specs.declared.place.WrittenPlace.TheVariants as written
use Rattle.litmus_tokens.specs.Conditions.{PlaceTree, Location, Register, spelled_place, place_meaning, IsPlaceTree, HasThread}
use Rattle.litmus_tokens.specs.PlaceMachine.{place_step, place_of, register_ends, has_thread}
use Rattle.litmus_tokens.proofs.Places.{place_of_written}
use Rattle.litmus_grammar.specs.declared.parts.ItemExpectation.{ItemExpectation}
use Rattle.litmus_grammar.specs.declared.parts.ItemExpectation.TheVariants as items
use Rattle.litmus_grammar.specs.declared.parts.TextKind.TheVariants as kinds
use Rattle.litmus_grammar.specs.Grammar.{Listed, spelled_others, members, spelled_observed, ArePlaceTrees, IsLocationsText}
use Rattle.litmus_grammar.specs.TextMachine as text
use Rattle.litmus_grammar.specs.TextMachine.{Part, Draft, Next, TextState, with_offset, and_then, stepped, part_step, with_place, nothing, text_start, run_parts, text_rule_at, item_result}
use Rattle.litmus_grammar.proofs.Conditions.{tail_stays, tail_says}
use Rattle.litmus_grammar.proofs.Lists.{closing, list_whole}
use Rattle.litmus_grammar.proofs.Outcomes.{Reading}
use Rattle.litmus_grammar.proofs.Runs.{anywhere, tokens_of-append, tokens_of-anywhere, follows}

record Uncons (ps : List TokenAt) (t : Token) (ts : List Token) : Type 0 where
  offset : ℕ
  behind : List TokenAt
  split : ps ≡ record { token = t; offset = offset } ∷ behind
  rest : test_tokens_of behind ≡ ts

uncons : (ps : List TokenAt) (t : Token) (ts : List Token) → test_tokens_of ps ≡ t ∷ ts → Uncons ps t ts
uncons [] t ts e = absurd cc
uncons (p ∷ ps) t ts e =
    let same : p.token ≡ t = cc in
    record { offset = p.offset; behind = ps; split = ap (λ (x : Token). record { token = x; offset = p.offset } ∷ ps) same; rest = cc }

module _ (threads : ℕ) (few : threads < 18446744073709551616) where
  abbrev standing : Stage → Part → Draft → TextState
  standing g p h =
      record { kind = kinds.Locations; threads = threads; stage = g; part = p; draft = h }

  -- ---- each text is taken

  -- the reader goes on from there, with this left
  record Leads (from : TextState) (ps : List TokenAt) (to : TextState) (ts : List Token) : Type 0 where
    behind : List TokenAt
    rest : test_tokens_of behind ≡ ts
    by : run_parts from ps ≡ run_parts to behind

  leads_on : (a b c : TextState) (ps : List TokenAt) (ts us : List Token) → Leads a ps b ts
      → ((qs : List TokenAt) → test_tokens_of qs ≡ ts → Leads b qs c us) → Leads a ps c us
  leads_on a b c ps ts us l f =
      let m = f l.behind l.rest in record { behind = m.behind; rest = m.rest; by = l.by ∙ m.by }

  -- a token that is taken
  one : (p q : Part) (h k : Draft) (t : Token) (ps : List TokenAt) (ts : List Token)
      → ((n : ℕ)
      → part_step kinds.Locations threads h p t n ≡ Some (record { part = q; draft = k }))
      → test_tokens_of ps ≡ t ∷ ts → Leads (standing Tail p h) ps (standing Tail q k) ts
  one p q h k t ps ts takes e =
      let u = uncons ps t ts e in
      record {
        behind = u.behind;
        rest = u.rest;
        by =
            ap (run_parts (standing Tail p h)) u.split
            ∙ ap
            (λ (o : Option Next). and_then
            (with_offset u.offset (stepped (standing Tail p h) t o)) (λ x. run_parts x u.behind))
            (takes u.offset);
      }

  abbrev wants : Bool → ItemExpectation
  wants false = items.WantsFirst
  wants true = items.WantsNext

  abbrev has : Place → Draft → TextState
  has p h = standing Tail (text.Item items.HasItem) (with_place h p)

  there : (a b : ℕ) → a < b → nat_lt a b ≡ true
  there a b h = grind (arith, nat_tests)

  word_first : (next : Bool) (n : List ℕ) (h : Draft) (offset : ℕ)
      → part_step kinds.Locations threads h (text.Item (wants next)) (tokens.Word n) offset
      ≡ text.at (with_place h (place_meaning (Location false n))) (text.Item items.HasItem)
  word_first false n h offset = refl
  word_first true n h offset = refl

  bracket_first : (next : Bool) (h : Draft) (offset : ℕ)
      → part_step kinds.Locations threads h (text.Item (wants next)) (tokens.Mark marks.OpenBracket)
      offset ≡ text.at h (text.Item (items.InItem places.WantsName))
  bracket_first false h offset = refl
  bracket_first true h offset = refl

  number_first : (next : Bool) (d : List ℕ) (h : Draft) (offset : ℕ) → decimal d < threads
      → part_step kinds.Locations threads h (text.Item (wants next)) (tokens.Number false d) offset
      ≡ text.at h (text.Item (items.InItem (places.WantsColon d)))
  number_first false d h offset lt =
      ap
      (λ (b : Bool).
      if b then item_result h (place_step places.Begins (tokens.Number false d)) else None)
      (there (decimal d) threads lt)
  number_first true d h offset lt =
      ap
      (λ (b : Bool).
      if b then item_result h (place_step places.Begins (tokens.Number false d)) else None)
      (there (decimal d) threads lt)

  register_last : (d w : List ℕ) (h : Draft) (offset : ℕ) (o : Option ℕ) → register_of w ≡ o
      → is_known o ≡ true
      → part_step kinds.Locations threads h (text.Item (items.InItem (places.WantsRegister d)))
      (tokens.Word w) offset
      ≡ text.at (with_place h (place_of (written.Register d (or_zero (register_of w)))))
      (text.Item items.HasItem)
  register_last d w h offset (Some r) e k =
      ap (λ (x : Option ℕ). item_result h (register_ends d x)) e
      ∙ ap
      (λ (x : Option ℕ). text.at (with_place h (place_of (written.Register d (or_zero x))))
      (text.Item items.HasItem))
      (sym e)
  register_last d w h offset None e k = absurd cc

  place_taken : (next : Bool) (p : PlaceTree) (h : Draft) (ps : List TokenAt) (ts : List Token)
      → IsPlaceTree p → HasThread threads p → test_tokens_of ps ≡ spelled_place p ts
      → Leads (standing Tail (text.Item (wants next)) h) ps (has (place_meaning p) h) ts
  place_taken next (Location false n) h ps ts i t e =
      one (text.Item (wants next)) (text.Item items.HasItem) h
      (with_place h (place_meaning (Location false n))) (tokens.Word n) ps ts (word_first next n h)
      e
  place_taken next (Location true n) h ps ts i t e =
      let named = tokens.Word n ∷ tokens.Mark marks.CloseBracket ∷ ts in
      leads_on _ (standing Tail (text.Item (items.InItem places.WantsName)) h) _ ps named ts
      (one (text.Item (wants next)) (text.Item (items.InItem places.WantsName)) h h
      (tokens.Mark marks.OpenBracket) ps named (bracket_first next h) e)
      (λ qs k. leads_on _ (standing Tail (text.Item (items.InItem (places.WantsBracket n))) h) _ qs
      (tokens.Mark marks.CloseBracket ∷ ts) ts
      (one (text.Item (items.InItem places.WantsName))
      (text.Item (items.InItem (places.WantsBracket n))) h h (tokens.Word n) qs
      (tokens.Mark marks.CloseBracket ∷ ts) (λ m. refl) k)
      (λ rs j. one (text.Item (items.InItem (places.WantsBracket n))) (text.Item items.HasItem) h
      (with_place h (place_meaning (Location true n))) (tokens.Mark marks.CloseBracket) rs
      ts (λ m. refl) j))
  place_taken next (Register d w) h ps ts i t e =
      let colon = tokens.Mark marks.Colon ∷ tokens.Word w ∷ ts in
      let last : (m : ℕ) → part_step kinds.Locations threads h (text.Item (items.InItem (places.WantsRegister d))) (tokens.Word w) m ≡ text.at (with_place h (place_meaning (Register d w))) (text.Item items.HasItem)
      =
      λ m. register_last d w h m (register_of w) refl i
      ∙ ap (λ (p : Place). text.at (with_place h p) (text.Item items.HasItem))
      (place_of_written threads (Register d w) few t) in
      leads_on _ (standing Tail (text.Item (items.InItem (places.WantsColon d))) h) _ ps colon ts
      (one (text.Item (wants next)) (text.Item (items.InItem (places.WantsColon d))) h h
      (tokens.Number false d) ps colon (λ m. number_first next d h m t) e)
      (λ qs k. leads_on _ (standing Tail (text.Item (items.InItem (places.WantsRegister d))) h) _ qs
      (tokens.Word w ∷ ts) ts
      (one (text.Item (items.InItem (places.WantsColon d)))
      (text.Item (items.InItem (places.WantsRegister d))) h h (tokens.Mark marks.Colon) qs
      (tokens.Word w ∷ ts) (λ m. refl) k)
      (λ rs j. one (text.Item (items.InItem (places.WantsRegister d))) (text.Item items.HasItem) h
      (with_place h (place_meaning (Register d w))) (tokens.Word w) rs ts last j))

  -- a list was read to its end
  record IsAccepted (from : TextState) (ps : List TokenAt) (found : List Place) : Type 0 where
    state : TextState
    by : run_parts from ps ≡ Ok state
    observed : state.draft.observed ≡ found

  taken_by : (a b : TextState) (ps : List TokenAt) (ts : List Token) (found : List Place)
      → Leads a ps b ts → ((qs : List TokenAt) → test_tokens_of qs ≡ ts → IsAccepted b qs found)
      → IsAccepted a ps found
  taken_by a b ps ts found l f =
      let r = f l.behind l.rest in
      record { state = r.state; by = l.by ∙ r.by; observed = r.observed }

  done_taken : (h : Draft) (ps : List TokenAt) → test_tokens_of ps ≡ []
      → IsAccepted (standing Tail text.Done h) ps h.observed
  done_taken h [] e = record { state = standing Tail text.Done h; by = refl; observed = refl }
  done_taken h (p ∷ ps) e = absurd cc

  end_taken : (h : Draft) (ps : List TokenAt) → test_tokens_of ps ≡ tokens.End ∷ []
      → IsAccepted (standing Tail text.WantsEnd h) ps h.observed
  end_taken h ps e =
      taken_by _ (standing Tail text.Done h) ps [] h.observed
      (one text.WantsEnd text.Done h h tokens.End ps [] (λ m. refl) e) (done_taken h)

  close_taken : (expected : ItemExpectation) (h : Draft) (ps : List TokenAt)
      → ((m : ℕ)
      → part_step kinds.Locations threads h (text.Item expected)
      (tokens.Mark marks.CloseBracket) m ≡ text.at h text.WantsEnd)
      → test_tokens_of ps ≡ closing → IsAccepted (standing Tail (text.Item expected) h) ps h.observed
  close_taken expected h ps takes e =
      taken_by _ (standing Tail text.WantsEnd h) ps (tokens.End ∷ []) h.observed
      (one (text.Item expected) text.WantsEnd h h (tokens.Mark marks.CloseBracket) ps
      (tokens.End ∷ []) takes e)
      (end_taken h)

  others_taken : (os : List PlaceTree) (closed : Bool) (h : Draft) (ps : List TokenAt)
      → ArePlaceTrees threads os → test_tokens_of ps ≡ spelled_others spelled_place closed os closing
      → IsAccepted (standing Tail (text.Item items.HasItem) h) ps
      (h.observed ++ map place_meaning os)
  others_taken [] false h ps fine e =
      subst (IsAccepted (standing Tail (text.Item items.HasItem) h) ps)
      (sym (append-nil h.observed)) (close_taken items.HasItem h ps (λ m. refl) e)
  others_taken [] true h ps fine e =
      subst (IsAccepted (standing Tail (text.Item items.HasItem) h) ps)
      (sym (append-nil h.observed))
      (taken_by _ (standing Tail (text.Item items.WantsNext) h) ps closing h.observed
      (one (text.Item items.HasItem) (text.Item items.WantsNext) h h
      (tokens.Mark marks.Semicolon) ps closing (λ m. refl) e)
      (λ qs k. close_taken items.WantsNext h qs (λ m. refl) k))
  others_taken (o ∷ os) closed h ps fine e =
      let left = spelled_others spelled_place closed os closing in
      subst (IsAccepted (standing Tail (text.Item items.HasItem) h) ps)
      (append_assoc h.observed (place_meaning o ∷ []) (map place_meaning os))
      (taken_by _ (standing Tail (text.Item items.WantsNext) h) ps (spelled_place o left) _
      (one (text.Item items.HasItem) (text.Item items.WantsNext) h h
      (tokens.Mark marks.Semicolon) ps (spelled_place o left) (λ m. refl) e)
      (λ qs k. taken_by _ (has (place_meaning o) h) qs left _
      (place_taken true o h qs left fine.0 fine.1 k) (λ rs j.
      others_taken os closed (with_place h (place_meaning o)) rs fine.2 j)))

  abbrev nothing_yet : Draft
  nothing_yet = nothing kinds.Locations

  text_taken : (l : Option (Listed PlaceTree)) (ps : List TokenAt) → ArePlaceTrees threads (members l)
      → test_tokens_of ps ≡ spelled_observed l (tokens.End ∷ [])
      → IsAccepted (text_start kinds.Locations threads) ps (map place_meaning (members l))
  text_taken None ps fine e =
      taken_by _ (standing Tail text.Done nothing_yet) ps [] []
      (one text.ListOrEnd text.Done nothing_yet nothing_yet tokens.End ps [] (λ m. refl) e)
      (done_taken nothing_yet)
  text_taken (Some l) ps fine e =
      let left = spelled_others spelled_place l.closed l.others closing in
      let opened = tokens.Mark marks.OpenBracket ∷ spelled_place l.first left in
      taken_by _ (standing Tail text.WantsList nothing_yet) ps opened _ (one text.ListOrEnd
      text.WantsList nothing_yet nothing_yet (tokens.Word (codes "locations")) ps opened
      (λ m. refl) e)
      (λ qs k. taken_by _ (standing Tail (text.Item items.WantsFirst) nothing_yet) qs
      (spelled_place l.first left) _ (one text.WantsList (text.Item items.WantsFirst)
      nothing_yet nothing_yet (tokens.Mark marks.OpenBracket) qs
      (spelled_place l.first left) (λ m. refl) k)
      (λ rs j. taken_by _ (has (place_meaning l.first) nothing_yet) rs left _
      (place_taken false l.first nothing_yet rs left fine.0 fine.1 j) (λ us i. others_taken
      l.others l.closed (with_place nothing_yet (place_meaning l.first)) us fine.2 i)))

  pub list_taken : (ps : List TokenAt) (x : IsLocationsText threads (test_tokens_of ps))
      → (s : TextState) × (run_parts (text_start kinds.Locations threads) ps ≡ Ok s)
      × (s.draft.observed ≡ map place_meaning (members x.items))
  list_taken ps x = let r = text_taken x.items ps x.fine x.whole in (r.state, r.by, r.observed)

  -- ---- what is taken can be gone on with to the end

  abbrev IsOfList : Part → Type 0
  IsOfList text.ListOrEnd = Unit {0}
  IsOfList text.WantsList = Unit {0}
  IsOfList (text.Item expected) = Unit {0}
  IsOfList text.WantsEnd = Unit {0}
  IsOfList text.Done = Unit {0}
  IsOfList p = ⊥

  abbrev LeadsToList : Option Next → Type 0
  LeadsToList None = Unit {0}
  LeadsToList (Some n) = IsOfList n.part

  result_stays : (h : Draft) (o : Option PlaceStep) → LeadsToList (item_result h o)
  result_stays h (Some (place_steps.Goes expected)) = tt
  result_stays h (Some (place_steps.Ends w)) = tt
  result_stays h None = tt

  start_stays : (h : Draft) (t : Token) → LeadsToList (text.item_start threads h t)
  start_stays h t = choose (has_thread threads t)
    where
      choose : (b : Bool)
          → LeadsToList (if b then item_result h (place_step places.Begins t) else None)
      choose true = result_stays h (place_step places.Begins t)
      choose false = tt

  next_stays : (h : Draft) (t : Token) → LeadsToList (text.next_item kinds.Locations threads h t)
  next_stays h (tokens.Mark marks.CloseBracket) = tt
  next_stays h t = start_stays h t

  ended_stays : (h : Draft) (t : Token)
      → LeadsToList (text.next_at h (text.item_ended kinds.Locations t))
  ended_stays h (tokens.Mark marks.Semicolon) = tt
  ended_stays h (tokens.Mark marks.CloseBracket) = tt
  ended_stays h t = tt

  opened_stays : (h : Draft) (t : Token) → LeadsToList (text.next_at h (text.list_opened t))
  opened_stays h (tokens.Mark marks.OpenBracket) = tt
  opened_stays h t = tt

  end_stays : (h : Draft) (t : Token) → LeadsToList (text.next_at h (text.end_read t))
  end_stays h tokens.End = tt
  end_stays h t = tt

  list_stays : (h : Draft) (t : Token) → LeadsToList (text.next_at h (text.list_start t))
  list_stays h t = choose (text.is_list_word t)
    where
      choose : (b : Bool)
          → LeadsToList (text.next_at h (if b then Some text.WantsList else text.end_read t))
      choose true = tt
      choose false = end_stays h t

  stays : (h : Draft) (p : Part) (t : Token) (n : ℕ) → IsOfList p
      → LeadsToList (part_step kinds.Locations threads h p t n)
  stays h text.ListOrEnd t n o = list_stays h t
  stays h text.WantsList t n o = opened_stays h t
  stays h (text.Item items.WantsFirst) t n o = start_stays h t
  stays h (text.Item items.WantsNext) t n o = next_stays h t
  stays h (text.Item (items.InItem expected)) t n o = result_stays h (place_step expected t)
  stays h (text.Item items.HasItem) t n o = ended_stays h t
  stays h text.WantsEnd t n o = end_stays h t
  stays h text.Done t n o = tt
  stays h p t n o = absurd o

  record Finished (from : TextState) (ps : List TokenAt) : Type 0 where
    rest : List Token
    state : TextState
    by : run_parts from (ps ++ anywhere rest) ≡ Ok state
    done : state.part ≡ text.Done

  abbrev known_register : List ℕ
  known_register = 114 ∷ 49 ∷ []

  abbrev place_rest : PlaceExpectation → List Token → List Token
  place_rest places.Begins ts = tokens.Word [] ∷ ts
  place_rest places.WantsName ts = tokens.Word [] ∷ tokens.Mark marks.CloseBracket ∷ ts
  place_rest (places.WantsBracket n) ts = tokens.Mark marks.CloseBracket ∷ ts
  place_rest (places.WantsColon d) ts = tokens.Mark marks.Colon ∷ tokens.Word known_register ∷ ts
  place_rest (places.WantsRegister d) ts = tokens.Word known_register ∷ ts

  within_finished : (g : Stage) (h : Draft) (expected : PlaceExpectation)
      → Finished (standing g (text.Item (items.InItem expected)) h) []
  within_finished g h places.Begins =
      record { rest = place_rest places.Begins closing; state = _; by = refl; done = refl }
  within_finished g h places.WantsName =
      record { rest = place_rest places.WantsName closing; state = _; by = refl; done = refl }
  within_finished g h (places.WantsBracket n) =
      record {
        rest = place_rest (places.WantsBracket n) closing;
        state = _;
        by = refl;
        done = refl;
      }
  within_finished g h (places.WantsColon d) =
      record { rest = place_rest (places.WantsColon d) closing; state = _; by = refl; done = refl }
  within_finished g h (places.WantsRegister d) =
      record {
        rest = place_rest (places.WantsRegister d) closing;
        state = _;
        by = refl;
        done = refl;
      }

  finished : (g : Stage) (p : Part) (h : Draft) → IsOfList p → Finished (standing g p h) []
  finished g text.ListOrEnd h o =
      record { rest = tokens.End ∷ []; state = _; by = refl; done = refl }
  finished g text.WantsList h o =
      record {
        rest = tokens.Mark marks.OpenBracket ∷ tokens.Word [] ∷ closing;
        state = _;
        by = refl;
        done = refl;
      }
  finished g (text.Item items.WantsFirst) h o =
      record { rest = tokens.Word [] ∷ closing; state = _; by = refl; done = refl }
  finished g (text.Item items.WantsNext) h o =
      record { rest = closing; state = _; by = refl; done = refl }
  finished g (text.Item (items.InItem expected)) h o = within_finished g h expected
  finished g (text.Item items.HasItem) h o =
      record { rest = closing; state = _; by = refl; done = refl }
  finished g text.WantsEnd h o =
      record { rest = tokens.End ∷ []; state = _; by = refl; done = refl }
  finished g text.Done h o = record { rest = []; state = _; by = refl; done = refl }
  finished g p h o = absurd o

  goes_on : (ps : List TokenAt) (g : Stage) (p : Part) (h : Draft) (s : TextState) → IsOfList p
      → run_parts (standing g p h) ps ≡ Ok s → Finished (standing g p h) ps
  goes_on [] g p h s o e = finished g p h o
  goes_on (q ∷ ps) g p h s o e =
      let r = by_next (part_step kinds.Locations threads h p q.token q.offset) (stays h p q.token q.offset o) e (λ n i k. goes_on ps (next_stage g q.token) n.part n.draft s i k) in
      record { rest = r.0; state = r.1; by = r.2; done = r.3 }
    where
      by_next : (m : Option Next) → LeadsToList m
          → and_then (with_offset q.offset (stepped (standing g p h) q.token m)) (λ x. run_parts x ps)
          ≡ Ok s
          → ((n : Next) → IsOfList n.part
          → run_parts (standing (next_stage g q.token) n.part n.draft) ps ≡ Ok s
          → Finished (standing (next_stage g q.token) n.part n.draft) ps)
          → (rest : List Token) × (x : TextState)
          × (and_then (with_offset q.offset (stepped (standing g p h) q.token m))
          (λ y. run_parts y (ps ++ anywhere rest)) ≡ Ok x) × (x.part ≡ text.Done)
      by_next (Some n) i k later = let f = later n i k in (f.rest, f.state, f.by, f.done)
      by_next None i k later = absurd cc

  begins_by : (ps : List TokenAt) (s : TextState) → run_parts (text_start kinds.Locations threads) ps ≡ Ok s
      → Begins (IsLocationsText threads) (test_tokens_of ps)
  begins_by ps s e =
      let f = goes_on ps Tail text.ListOrEnd nothing_yet s tt e in
      record { rest = f.rest; text = subst (IsLocationsText threads) (tokens_of-append ps (anywhere f.rest) ∙ ap (λ (ts : List Token). test_tokens_of ps ++ ts) (tokens_of-anywhere f.rest)) (list_whole threads (ps ++ anywhere f.rest) Tail nothing_yet f.state f.by f.done) }

  pub list_reading : Reading (IsLocationsText threads) kinds.Locations threads
  list_reading = record {
    begins = begins_by;
    takes = λ ps x. let r = list_taken ps x in (r.0, r.1);
    says = λ ps s t offset e none.
        let f = follows (text_start kinds.Locations threads) s ps e in
        let stage : s.stage ≡ Tail = f.stage ∙ tail_stays (test_tokens_of ps) in
        let C = CanFollow (IsLocationsText threads) (test_tokens_of ps) in
        subst (λ (g : Stage). RulingSays C g (ruling g t) (text_rule_at s.kind s.draft.table s.stage t))
        (sym (tail_stays (test_tokens_of ps))) (subst
        (λ (g : Stage). RulingSays C Tail (ruling Tail t) (text_rule_at s.kind s.draft.table g t))
        (sym stage) (tail_says C s.kind s.draft.table t));
  }
