-- What stands behind the table of a test.
use Rattle.std.proofs.Common.{◌≡◌, ℕ, ◌<◌, ◌⊎◌, inl, inr, Bool, true, false, true≢false, List, [], ◌∷◌, ◌++◌, map, length, append_assoc, append-nil, Option, Some, None, Ok, refl, sym, ap, ◌∙◌, subst}
use Rattle.std.specs.Prelude.{codes, ◌&&◌, if◌then◌else◌}
use Rattle.std.specs.Str.{bytes_eq}
use Rattle.std.proofs.lemmas.Slice.Eq.{bytes_eq-Decides}
use Rattle.std.proofs.lemmas.Bool.{false≢true}
use Rattle.litmus_tokens.specs.declared.stage.Stage.{Stage}
use Rattle.litmus_tokens.specs.declared.stage.Stage.TheVariants as stages
use Rattle.litmus_tokens.specs.declared.token.Token.{Token}
use Rattle.litmus_tokens.specs.declared.token.Token.TheVariants as tokens
use Rattle.litmus_tokens.specs.declared.token.Mark.TheVariants as marks
use Rattle.litmus_tokens.specs.Stage.{next_stage}
use Rattle.litmus_tokens.specs.Texts.{TokenAt, test_tokens_of, stage_after, begins_tail}
use Rattle.litmus_tokens.specs.Faults.{Begins}
use Rattle.text_values.specs.declared.test.Place.{Place}
use Rattle.text_values.specs.declared.test.Quantifier.{Quantifier}
use Rattle.text_values.specs.declared.test.Quantifier.TheVariants.{Exists, NotExists, Forall}
use Rattle.text_values.specs.TestValue.{Formula, Constant}
use Rattle.litmus_tokens.specs.declared.place.PlaceExpectation.TheVariants as places
use Rattle.litmus_tokens.specs.declared.place.PlaceStep.{PlaceStep}
use Rattle.litmus_tokens.specs.declared.place.PlaceStep.TheVariants as place_steps
use Rattle.litmus_tokens.specs.PlaceMachine.{place_step, has_thread}
use Rattle.litmus_tokens.specs.ConditionMachine as condition
use Rattle.litmus_tokens.specs.Conditions.{condition_limits, PlaceTree, FormulaTree, place_meaning, tree_formula, spelled, spelled_quantifier, IsFormulaTree, IsConditionText}
use Rattle.litmus_words.specs.Machine as table
use Rattle.litmus_grammar.specs.declared.parts.ItemExpectation.TheVariants as items
use Rattle.litmus_grammar.specs.declared.parts.TextKind.{TextKind}
use Rattle.litmus_grammar.specs.declared.parts.TextKind.TheVariants as kinds
use Rattle.litmus_grammar.specs.Grammar.{Listed, members, spelled_items, spelled_observed, spelled_condition, ArePlaceTrees}
use Rattle.litmus_grammar.specs.InitMachine as init
use Rattle.litmus_grammar.specs.TextMachine as text
use Rattle.litmus_grammar.specs.TextMachine.{Part, Draft, Next, TextState, TextResult, with_offset, and_then, stepped, part_step, nothing, text_start, run_parts}
use Rattle.litmus_grammar.proofs.Conditions.{condition_taken, condition_reading}
use Rattle.litmus_grammar.proofs.Ends.{ends_done}
use Rattle.litmus_grammar.proofs.Equations.{no_first, same_first}
use Rattle.litmus_grammar.proofs.InitLeft.{is_done}
use Rattle.litmus_grammar.proofs.Lists.{list_whole}
use Rattle.litmus_grammar.proofs.Listed.{list_taken, list_reading}
use Rattle.litmus_grammar.proofs.Outcomes.{not_both}
use Rattle.litmus_grammar.proofs.Passing.{test_at, text_at, Alike, Stays, Leaves, passes, ends}
use Rattle.litmus_grammar.proofs.Runs.{tokens_of-append, run-append, same_state}
use Rattle.litmus_grammar.proofs.Spelled.{items-append, condition-append}
use Rattle.litmus_grammar.proofs.Splits.{split, single, unsnoc, Rest, Nothing, More, rest_of, unsnoc_placed}

abbrev pub last_at : ℕ → TokenAt
last_at n = record { token = tokens.End; offset = n }

-- the draft of a test before its condition
abbrev pub early : List ℕ → init.Block → table.TableState → List Place → Draft
early name block t o =
    record {
      name = name;
      init = block;
      table = t;
      observed = o;
      quantifier = Exists;
      formula = Constant true;
    }

abbrev pub with_all : List ℕ → init.Block → table.TableState → List Place → Quantifier → Formula → Draft
with_all name block t o q a =
    record { name = name; init = block; table = t; observed = o; quantifier = q; formula = a }

-- the texts that stand behind the table of a test of so many threads
pub record IsTail (threads : ℕ) (ts : List Token) : Type 0 where
  pub observed : Option (Listed PlaceTree)
  pub quantifier : Quantifier
  pub condition : FormulaTree
  pub are_items : ArePlaceTrees threads (members observed)
  pub fine : IsFormulaTree condition_limits threads condition
  pub whole : ts ≡ spelled_observed observed (spelled_condition quantifier condition)

pub done_behind : (kind : TextKind) (n : ℕ) (g : Stage) (h : Draft) (ps : List TokenAt) (s : TextState)
    → run_parts (text_at kind n g text.Done h) ps ≡ Ok s → (ps ≡ []) × (s ≡ text_at kind n g text.Done h)
done_behind kind n g h [] s e =
    let same : text_at kind n g text.Done h ≡ s = same_state _ _ e in
    (refl, sym same)
done_behind kind n g h (p ∷ ps) s e = absurd (not_both _ _ e)

-- behind the part of a text alone stands the end
pub end_behind : (kind : TextKind) (n : ℕ) (g : Stage) (h : Draft) (ps : List TokenAt) (s : TextState)
    → run_parts (text_at kind n g text.WantsEnd h) ps ≡ Ok s → s.part ≡ text.Done
    → (m : ℕ) × (ps ≡ last_at m ∷ []) × (s.draft ≡ h)
end_behind kind n g h [] s e d =
    let same : text_at kind n g text.WantsEnd h ≡ s = same_state _ _ e in
    absurd (false≢true (ap (λ (x : TextState). is_done x.part) same ∙ ap is_done d))
end_behind kind n g h (p ∷ ps) s e d = by_token p.token p.offset e
  where
    by_token : (t : Token) (m : ℕ)
        → run_parts (text_at kind n g text.WantsEnd h) (record { token = t; offset = m } ∷ ps) ≡ Ok s
        → (k : ℕ) × (record { token = t; offset = m } ∷ ps ≡ last_at k ∷ []) × (s.draft ≡ h)
    by_token tokens.End m k =
        let r = done_behind kind n (next_stage g tokens.End) h ps s k in
        (m, ap (λ (l : List TokenAt). last_at m ∷ l) r.0, ap (λ (x : TextState). x.draft) r.1)
    by_token t m k = absurd (not_both _ _ k)

module _ (name : List ℕ) (block : init.Block) (t : table.TableState)
    (few : length t.threads < 18446744073709551616) where
  abbrev threads : ℕ
  threads = length t.threads

  -- ---- the condition

  abbrev with_condition : List Place → Draft → Draft
  with_condition o h = with_all name block t o h.quantifier h.formula

  abbrev in_condition : Part → Bool
  in_condition text.WantsQuantifier = true
  in_condition text.AfterTilde = true
  in_condition (text.Proposition q fs used expected) = true
  in_condition p = false

  abbrev IsInCondition : Option Part → Type 0
  IsInCondition None = Unit {0}
  IsInCondition (Some p) = in_condition p ≡ true

  abbrev AlikeCondition : List Place → Option Next → Option Next → Type 0
  AlikeCondition o a b = Alike (with_condition o) text.Done text.Done in_condition a b

  leads_alike : (o : List Place) (h : Draft) (p : Option Part) → IsInCondition p
      → AlikeCondition o (text.next_at h p) (text.next_at (with_condition o h) p)
  leads_alike o h None i = tt
  leads_alike o h (Some p) i = (refl, inl (i, refl))

  word_in : (w : List ℕ) → IsInCondition (text.word_quantifier w)
  word_in w = choose (bytes_eq w (codes "exists")) (bytes_eq w (codes "forall"))
    where
      choose : (a b : Bool)
          → IsInCondition (if a then Some (text.proposition_part Exists)
          else (if b then Some (text.proposition_part Forall) else None))
      choose true b = refl
      choose false true = refl
      choose false false = tt

  quantifier_in : (x : Token) → IsInCondition (text.quantifier_read x)
  quantifier_in (tokens.Mark marks.Tilde) = refl
  quantifier_in (tokens.Word w) = word_in w
  quantifier_in x = tt

  exists_in : (x : Token) → IsInCondition (text.exists_read x)
  exists_in (tokens.Word w) = choose (bytes_eq w (codes "exists"))
    where
      choose : (a : Bool) → IsInCondition (if a then Some (text.proposition_part NotExists) else None)
      choose true = refl
      choose false = tt
  exists_in x = tt

  proposition_alike : (o : List Place) (h : Draft) (q : Quantifier) (f : condition.ConditionStepResult)
      → AlikeCondition o (text.proposition_result h q f)
      (text.proposition_result (with_condition o h) q f)
  proposition_alike o h q (condition.Goes fs used expected) = (refl, inl (refl, refl))
  proposition_alike o h q (condition.Ends a) = (refl, inr (refl, refl))
  proposition_alike o h q condition.Refuses = tt

  condition_alike : (o : List Place) (p : Part) (h : Draft) (x : Token) (offset : ℕ)
      → in_condition p ≡ true
      → AlikeCondition o (part_step kinds.Condition threads h p x offset)
      (part_step kinds.Test 0 (with_condition o h) p x offset)
  condition_alike o text.WantsQuantifier h x offset i =
      leads_alike o h (text.quantifier_read x) (quantifier_in x)
  condition_alike o text.AfterTilde h x offset i =
      leads_alike o h (text.exists_read x) (exists_in x)
  condition_alike o (text.Proposition q fs used expected) h x offset i =
      proposition_alike o h q (condition.proposition_step condition_limits threads fs used expected x)
  condition_alike o p h x offset i = absurd (false≢true i)

  abbrev IsCondition : List Token → Type 0
  IsCondition = IsConditionText condition_limits threads

  pub condition_begins : (o : List Place) (ps : List TokenAt) (g : Stage) (s : TextState)
      → run_parts (test_at g text.WantsQuantifier (early name block t o)) ps ≡ Ok s
      → Begins IsCondition (test_tokens_of ps)
  condition_begins o ps g s e =
      by_pass (passes kinds.Condition threads (with_condition o) text.Done text.Done in_condition
      (condition_alike o) ps stages.Tail g text.WantsQuantifier (nothing kinds.Condition) s refl
      e)
    where
      by_pass : Stays kinds.Condition threads (with_condition o) text.Done text.Done in_condition
          (condition_alike o) stages.Tail g text.WantsQuantifier (nothing kinds.Condition) ps s
          ⊎ Leaves kinds.Condition threads (with_condition o) text.Done text.Done in_condition
          (condition_alike o) stages.Tail g text.WantsQuantifier (nothing kinds.Condition)
          ps s → Begins IsCondition (test_tokens_of ps)
      by_pass (inl r) = (condition_reading threads few).begins ps _ r.by
      by_pass (inr r) =
          let d = done_behind kinds.Test 0 (stage_after g (test_tokens_of r.before)) (with_condition o r.draft) r.behind s r.on in
          let same : ps ≡ r.before = r.whole ∙ ap (λ (l : List TokenAt). r.before ++ l) d.0 ∙ append-nil r.before in
          subst (λ (l : List TokenAt). Begins IsCondition (test_tokens_of l)) (sym same)
          ((condition_reading threads few).begins r.before _ r.by)

  -- a whole condition is taken
  pub record TakesCondition (o : List Place) (ps : List TokenAt) (q : Quantifier) (a : Formula)
      (g : Stage) : Type 0 where
    pub stage : Stage
    pub by : run_parts (test_at g text.WantsQuantifier (early name block t o)) ps
        ≡ Ok (test_at stage text.Done (with_all name block t o q a))

  pub condition_led : (o : List Place) (ps : List TokenAt) (g : Stage)
      (x : IsCondition (test_tokens_of ps))
      → TakesCondition o ps x.quantifier (tree_formula x.condition) g
  condition_led o ps g x =
      let r = condition_taken threads few ps x in
      let cut = split ps (spelled_quantifier x.quantifier (spelled x.condition [])) (tokens.End ∷ []) (x.whole ∙ sym (condition-append x.quantifier x.condition)) in
      let end = single cut.behind tokens.End cut.are_behind in
      let split_so : ps ≡ cut.before ++ last_at end.0 ∷ [] = cut.whole ∙ ap (λ (l : List TokenAt). cut.before ++ l) end.1 in
      let d = ends_done (text_start kinds.Condition threads) r.0 cut.before end.0 (ap (run_parts (text_start kinds.Condition threads)) (sym split_so) ∙ r.1) in
      let out : in_condition r.0.part ≡ false = ap in_condition d in
      let m = ends kinds.Condition threads (with_condition o) text.Done text.Done in_condition (condition_alike o) ps stages.Tail text.WantsQuantifier (nothing kinds.Condition) r.0 refl r.1 out in
      let b = done_behind kinds.Condition threads (stage_after stages.Tail (test_tokens_of m.before)) m.draft m.behind r.0 m.by in
      let same : ps ≡ m.before = m.whole ∙ ap (λ (l : List TokenAt). m.before ++ l) b.0 ∙ append-nil m.before in
      let draft : r.0.draft ≡ m.draft = ap (λ (y : TextState). y.draft) b.1 in
      let q : m.draft.quantifier ≡ x.quantifier = ap (λ (y : Draft). y.quantifier) (sym draft) ∙ r.2 in
      let a : m.draft.formula ≡ tree_formula x.condition = ap (λ (y : Draft). y.formula) (sym draft) ∙ r.3 in
      record {
        stage = stage_after g (test_tokens_of m.before);
        by =
            ap (run_parts (test_at g text.WantsQuantifier (early name block t o))) same ∙ m.led g
            ∙ ap
            (λ (y : Quantifier). Ok (test_at (stage_after g (test_tokens_of m.before)) text.Done
            (with_all name block t o y m.draft.formula))) q
            ∙ ap
            (λ (y : Formula). Ok (test_at (stage_after g (test_tokens_of m.before)) text.Done
            (with_all name block t o x.quantifier y))) a;
      }

  -- ---- `locations`

  abbrev with_places : Draft → Draft
  with_places h = early name block t h.observed

  abbrev in_list : Part → Bool
  in_list text.WantsList = true
  in_list (text.Item expected) = true
  in_list p = false

  abbrev AlikeList : Option Next → Option Next → Type 0
  AlikeList a b = Alike with_places text.WantsEnd text.WantsQuantifier in_list a b

  opened_alike : (h : Draft) (x : Token)
      → AlikeList (text.next_at h (text.list_opened x))
      (text.next_at (with_places h) (text.list_opened x))
  opened_alike h (tokens.Mark marks.OpenBracket) = (refl, inl (refl, refl))
  opened_alike h x = tt

  item_result_alike : (h : Draft) (p : Option PlaceStep)
      → AlikeList (text.item_result h p) (text.item_result (with_places h) p)
  item_result_alike h (Some (place_steps.Goes expected)) = (refl, inl (refl, refl))
  item_result_alike h (Some (place_steps.Ends w)) = (refl, inl (refl, refl))
  item_result_alike h None = tt

  start_alike : (h : Draft) (x : Token)
      → AlikeList (text.item_start threads h x) (text.item_start threads (with_places h) x)
  start_alike h x = choose (has_thread threads x)
    where
      choose : (b : Bool)
          → AlikeList (if b then text.item_result h (place_step places.Begins x) else None)
          (if b then text.item_result (with_places h) (place_step places.Begins x) else None)
      choose true = item_result_alike h (place_step places.Begins x)
      choose false = tt

  next_alike : (h : Draft) (x : Token)
      → AlikeList (text.next_item kinds.Locations threads h x)
      (text.next_item kinds.Test threads (with_places h) x)
  next_alike h (tokens.Mark marks.CloseBracket) = (refl, inr (refl, refl))
  next_alike h x = start_alike h x

  ended_alike : (h : Draft) (x : Token)
      → AlikeList (text.next_at h (text.item_ended kinds.Locations x))
      (text.next_at (with_places h) (text.item_ended kinds.Test x))
  ended_alike h (tokens.Mark marks.Semicolon) = (refl, inl (refl, refl))
  ended_alike h (tokens.Mark marks.CloseBracket) = (refl, inr (refl, refl))
  ended_alike h x = tt

  list_alike : (p : Part) (h : Draft) (x : Token) (offset : ℕ) → in_list p ≡ true
      → AlikeList (part_step kinds.Locations threads h p x offset)
      (part_step kinds.Test 0 (with_places h) p x offset)
  list_alike text.WantsList h x offset i = opened_alike h x
  list_alike (text.Item items.WantsFirst) h x offset i = start_alike h x
  list_alike (text.Item items.WantsNext) h x offset i = next_alike h x
  list_alike (text.Item (items.InItem expected)) h x offset i =
      item_result_alike h (place_step expected x)
  list_alike (text.Item items.HasItem) h x offset i = ended_alike h x
  list_alike p h x offset i = absurd (false≢true i)

  abbrev first_draft : Draft
  first_draft = nothing kinds.Locations

  abbrev word_at : ℕ → TokenAt
  word_at n = record { token = tokens.Word (codes "locations"); offset = n }

  -- some condition
  any_condition : Begins IsCondition []
  any_condition = (condition_reading threads few).begins [] _ refl

  tail_of : (ts : List Token) (l : Listed PlaceTree) (c : List Token)
      → ArePlaceTrees threads (members (Some l)) → ts ≡ spelled_items l [] → IsCondition c
      → IsTail threads (ts ++ c)
  tail_of ts l c fine e x =
      record {
        observed = Some l;
        quantifier = x.quantifier;
        condition = x.condition;
        are_items = fine;
        fine = x.fine;
        whole =
            ap (λ (y : List Token). y ++ c) e ∙ items-append l [] c ∙ ap (spelled_items l) x.whole;
      }

  -- a list that is read to its end
  list_text : (ps : List TokenAt) (n : ℕ) (f : Stage) (h : Draft)
      → run_parts
      (text_at kinds.Locations threads (next_stage stages.Tail (tokens.Word (codes "locations")))
      text.WantsList first_draft) ps
      ≡ Ok (text_at kinds.Locations threads f text.WantsEnd h)
      → (l : Listed PlaceTree) × ArePlaceTrees threads (members (Some l))
      × (test_tokens_of (word_at n ∷ ps) ≡ spelled_items l [])
  list_text ps n f h e =
      let all = word_at n ∷ (ps ++ last_at 0 ∷ []) in
      let done : run_parts (text_start kinds.Locations threads) all ≡ Ok (text_at kinds.Locations threads (next_stage f tokens.End) text.Done h) = run-append (text_at kinds.Locations threads (next_stage stages.Tail (tokens.Word (codes "locations"))) text.WantsList first_draft) (text_at kinds.Locations threads f text.WantsEnd h) ps (last_at 0 ∷ []) e in
      let x = list_whole threads all stages.Tail first_draft _ done refl in
      by_items x.items x.fine (sym (ap (λ (l : List Token). tokens.Word (codes "locations") ∷ l)
      (tokens_of-append ps (last_at 0 ∷ []))) ∙ x.whole)
    where
      by_items : (o : Option (Listed PlaceTree)) → ArePlaceTrees threads (members o)
          → test_tokens_of (word_at n ∷ ps) ++ tokens.End ∷ [] ≡ spelled_observed o (tokens.End ∷ [])
          → (l : Listed PlaceTree) × ArePlaceTrees threads (members (Some l))
          × (test_tokens_of (word_at n ∷ ps) ≡ spelled_items l [])
      by_items None fine k = absurd (true≢false (ap text.is_word_token (same_first k)))
      by_items (Some l) fine k = (
        l,
        fine,
        unsnoc (test_tokens_of (word_at n ∷ ps)) (spelled_items l []) tokens.End tokens.End
            (k ∙ sym (items-append l [] (tokens.End ∷ []))),
      )

  list_begins : (ps : List TokenAt) (n : ℕ) (g : Stage) (s : TextState)
      → run_parts (test_at g text.WantsList (early name block t [])) ps ≡ Ok s
      → Begins (IsTail threads) (test_tokens_of (word_at n ∷ ps))
  list_begins ps n g s e =
      by_pass (passes kinds.Locations threads with_places text.WantsEnd text.WantsQuantifier in_list
      list_alike ps (next_stage stages.Tail (tokens.Word (codes "locations"))) g text.WantsList
      first_draft s refl e)
    where
      ts : List Token
      ts = test_tokens_of (word_at n ∷ ps)

      c : List Token
      c = any_condition.rest

      by_rest : (h : Draft) (p : Part) (f : Stage) → in_list p ≡ true
          → run_parts (text_start kinds.Locations threads) (word_at n ∷ ps)
          ≡ Ok (text_at kinds.Locations threads f p h) → (l : Listed PlaceTree)
          → ArePlaceTrees threads (members (Some l)) → (rest : List Token)
          → Rest ts rest (spelled_items l []) tokens.End → Begins (IsTail threads) ts
      by_rest h p f i r l fine rest (Nothing k) =
          let cut = split (word_at n ∷ ps) (spelled_items l []) (tokens.End ∷ []) k in
          let end = single cut.behind tokens.End cut.are_behind in
          let d = ends_done (text_start kinds.Locations threads) (text_at kinds.Locations threads f p h) cut.before end.0 (ap (run_parts (text_start kinds.Locations threads)) (sym (cut.whole ∙ ap (λ (l : List TokenAt). cut.before ++ l) end.1)) ∙ r) in
          absurd (true≢false (sym i ∙ ap in_list d))
      by_rest h p f i r l fine rest (More more k m) =
          record {
            rest = more ++ c;
            text =
                subst (IsTail threads) (append_assoc ts more c)
                (tail_of (ts ++ more) l c fine m any_condition.text);
          }

      by_items : (h : Draft) (p : Part) (f : Stage) → in_list p ≡ true
          → run_parts (text_start kinds.Locations threads) (word_at n ∷ ps)
          ≡ Ok (text_at kinds.Locations threads f p h) → (o : Option (Listed PlaceTree))
          → ArePlaceTrees threads (members o) → (rest : List Token)
          → ts ++ rest ≡ spelled_observed o (tokens.End ∷ []) → Begins (IsTail threads) ts
      by_items h p f i r None fine rest k = absurd (true≢false (ap text.is_word_token (same_first k)))
      by_items h p f i r (Some l) fine rest k =
          by_rest h p f i r l fine rest (rest_of ts rest (spelled_items l []) tokens.End
          (k ∙ sym (items-append l [] (tokens.End ∷ []))))

      by_pass : Stays kinds.Locations threads with_places text.WantsEnd text.WantsQuantifier in_list
          list_alike (next_stage stages.Tail (tokens.Word (codes "locations"))) g text.WantsList
          first_draft ps s
          ⊎ Leaves kinds.Locations threads with_places text.WantsEnd text.WantsQuantifier in_list
          list_alike (next_stage stages.Tail (tokens.Word (codes "locations"))) g text.WantsList
          first_draft ps s → Begins (IsTail threads) (test_tokens_of (word_at n ∷ ps))
      by_pass (inl r) =
          let b = (list_reading threads few).begins (word_at n ∷ ps) _ r.by in
          by_items r.draft r.part _ r.inside r.by b.text.items b.text.fine b.rest b.text.whole
      by_pass (inr r) =
          let l = list_text r.before n _ r.draft r.by in
          let b = condition_begins r.draft.observed r.behind _ s r.on in
          let us = test_tokens_of (word_at n ∷ r.before) in
          let same : ts ≡ us ++ test_tokens_of r.behind = ap (λ (y : List TokenAt). test_tokens_of (word_at n ∷ y)) r.whole ∙ ap (λ (y : List Token). tokens.Word (codes "locations") ∷ y) (tokens_of-append r.before r.behind) in
          record {
            rest = b.rest;
            text =
                subst (IsTail threads)
                (sym (append_assoc us (test_tokens_of r.behind) b.rest)
                ∙ ap (λ (y : List Token). y ++ b.rest) (sym same))
                (tail_of us l.0 (test_tokens_of r.behind ++ b.rest) l.1 l.2 b.text);
          }

  -- ---- all that stands there

  abbrev there : Draft
  there = early name block t []

  abbrev first_step : Stage → Part → TokenAt → List TokenAt → Option Next → TextResult
  first_step g p q ps o =
      and_then (with_offset q.offset (stepped (test_at g p there) q.token o)) (λ x. run_parts x ps)

  same_step : (g : Stage) (a b : Part) (q : TokenAt) (ps : List TokenAt) (o : Option Next)
      (s : TextState) → first_step g a q ps o ≡ Ok s → first_step g b q ps o ≡ Ok s
  same_step g a b q ps None s e = absurd (not_both _ _ e)
  same_step g a b q ps (Some n) s e = e

  same_step_back : (g : Stage) (a b : Part) (q : TokenAt) (ps : List TokenAt) (n : Next)
      → first_step g a q ps (Some n) ≡ first_step g b q ps (Some n)
  same_step_back g a b q ps n = refl

  of_condition : (ts : List Token) → Begins IsCondition ts → Begins (IsTail threads) ts
  of_condition ts b =
      record {
        rest = b.rest;
        text =
            record {
              observed = None;
              quantifier = b.text.quantifier;
              condition = b.text.condition;
              are_items = tt;
              fine = b.text.fine;
              whole = b.text.whole;
            };
      }

  pub any_tail : Begins (IsTail threads) []
  any_tail = of_condition [] any_condition

  pub tail_begins : (q : TokenAt) (ps : List TokenAt) (g : Stage) (s : TextState)
      → first_step g text.Rows q ps (text.next_at there (text.tail_start q.token)) ≡ Ok s
      → Begins (IsTail threads) (test_tokens_of (q ∷ ps))
  tail_begins q ps g s e = by_token q.token q.offset e
    where
      by_word : (w : List ℕ) (n : ℕ) (b : Bool) → bytes_eq w (codes "locations") ≡ b
          → first_step g text.Rows (record { token = tokens.Word w; offset = n }) ps
          (text.next_at there (if b then Some text.WantsList
          else text.quantifier_read (tokens.Word w))) ≡ Ok s
          → Begins (IsTail threads) (tokens.Word w ∷ test_tokens_of ps)
      by_word w n true c k =
          let same : codes "locations" ≡ w = sym ((bytes_eq-Decides w (codes "locations")).0 c) in
          subst (λ (x : List ℕ). Begins (IsTail threads) (tokens.Word x ∷ test_tokens_of ps)) same
          (list_begins ps n (next_stage g (tokens.Word w)) s k)
      by_word w n false c k =
          let p : TokenAt = record { token = tokens.Word w; offset = n } in
          of_condition (test_tokens_of (p ∷ ps)) (condition_begins [] (p ∷ ps) g s (same_step g text.Rows
          text.WantsQuantifier p ps
          (text.next_at there (text.quantifier_read (tokens.Word w))) s k))

      by_token : (x : Token) (n : ℕ)
          → first_step g text.Rows (record { token = x; offset = n }) ps
          (text.next_at there (text.tail_start x)) ≡ Ok s
          → Begins (IsTail threads) (x ∷ test_tokens_of ps)
      by_token (tokens.Word w) n k = by_word w n (bytes_eq w (codes "locations")) refl k
      by_token (tokens.Mark marks.Tilde) n k =
          let p : TokenAt = record { token = tokens.Mark marks.Tilde; offset = n } in
          of_condition (test_tokens_of (p ∷ ps)) (condition_begins [] (p ∷ ps) g s k)
      by_token x n k = absurd (not_both _ _ k)

  -- ---- each tail is taken

  -- the list led to its condition
  pub record TakesList (ps : List TokenAt) (o : List Place) (g : Stage) : Type 0 where
    pub stage : Stage
    pub by : run_parts (test_at g text.WantsList there) ps
        ≡ Ok (test_at stage text.WantsQuantifier (early name block t o))

  list_led : (l : Listed PlaceTree) (n : ℕ) (ps : List TokenAt) (g : Stage)
      → ArePlaceTrees threads (members (Some l)) → test_tokens_of (word_at n ∷ ps) ≡ spelled_items l []
      → TakesList ps (map place_meaning (members (Some l))) g
  list_led l n ps g fine e =
      let all = word_at n ∷ (ps ++ last_at 0 ∷ []) in
      let whole : test_tokens_of all ≡ spelled_observed (Some l) (tokens.End ∷ []) =
      ap (λ (y : List Token). tokens.Word (codes "locations") ∷ y)
      (tokens_of-append ps (last_at 0 ∷ []))
      ∙ ap (λ (y : List Token). y ++ tokens.End ∷ []) e ∙ items-append l [] (tokens.End ∷ []) in
      let r = list_taken threads few all (record { items = Some l; fine = fine; whole = whole }) in
      let d = ends_done (text_start kinds.Locations threads) r.0 (word_at n ∷ ps) 0 r.1 in
      let m = ends kinds.Locations threads with_places text.WantsEnd text.WantsQuantifier in_list list_alike (ps ++ last_at 0 ∷ []) (next_stage stages.Tail (tokens.Word (codes "locations"))) text.WantsList first_draft r.0 refl r.1 (ap in_list d) in
      let b = end_behind kinds.Locations threads (stage_after (next_stage stages.Tail (tokens.Word (codes "locations"))) (test_tokens_of m.before)) m.draft m.behind r.0 m.by d in
      let same : ps ≡ m.before = unsnoc_placed ps m.before (last_at 0) (last_at b.0) (m.whole ∙ ap (λ (y : List TokenAt). m.before ++ y) b.1) in
      let o : m.draft.observed ≡ map place_meaning (members (Some l)) = ap (λ (y : Draft). y.observed) (sym b.2) ∙ r.2 in
      record {
        stage = stage_after g (test_tokens_of m.before);
        by =
            ap (run_parts (test_at g text.WantsList there)) same ∙ m.led g
            ∙ ap
            (λ (y : List Place). Ok (test_at (stage_after g (test_tokens_of m.before))
            text.WantsQuantifier (early name block t y))) o;
      }

  module _ (row : table.is_row_start t ≡ true) where
    row_first : (q : TokenAt) (ps : List TokenAt) (g : Stage) → begins_tail q.token ≡ true
        → run_parts (test_at g text.Rows there) (q ∷ ps)
        ≡ first_step g text.Rows q ps (text.next_at there (text.tail_start q.token))
    row_first q ps g e =
        ap
        (λ (b : Bool). first_step g text.Rows q ps (if b && begins_tail q.token then text.next_at
        there (text.tail_start q.token)
        else text.table_result there text.Rows (table.table_step t q.token q.offset))) row
        ∙ ap
        (λ (b : Bool). first_step g text.Rows q ps (if b then text.next_at there
        (text.tail_start q.token)
        else text.table_result there text.Rows (table.table_step t q.token q.offset))) e

    first_token : (x : Token) (n : ℕ) (ps : List TokenAt) (g : Stage) (p : Part)
        → begins_tail x ≡ true → text.tail_start x ≡ Some p → text.quantifier_read x ≡ Some p
        → run_parts (test_at g text.Rows there) (record { token = x; offset = n } ∷ ps)
        ≡ run_parts (test_at g text.WantsQuantifier there) (record { token = x; offset = n } ∷ ps)
    first_token x n ps g p e k m =
        let q : TokenAt = record { token = x; offset = n } in
        row_first q ps g e
        ∙ ap (λ (o : Option Part). first_step g text.Rows q ps (text.next_at there o)) k
        ∙ same_step_back g text.Rows text.WantsQuantifier q ps
        (record { part = p; draft = there })
        ∙ ap (λ (o : Option Part). first_step g text.WantsQuantifier q ps (text.next_at there o))
        (sym m)

    quantifier_first : (q : Quantifier) (ps : List TokenAt) (ts : List Token) (g : Stage)
        → test_tokens_of ps ≡ spelled_quantifier q ts
        → run_parts (test_at g text.Rows there) ps ≡ run_parts (test_at g text.WantsQuantifier there) ps
    quantifier_first Exists [] ts g e = absurd (no_first e)
    quantifier_first NotExists [] ts g e = absurd (no_first e)
    quantifier_first Forall [] ts g e = absurd (no_first e)
    quantifier_first Exists (p ∷ ps) ts g e =
        let x : tokens.Word (codes "exists") ≡ p.token = sym (same_first e) in
        subst
        (λ (y : Token). run_parts (test_at g text.Rows there)
        (record { token = y; offset = p.offset } ∷ ps)
        ≡ run_parts (test_at g text.WantsQuantifier there)
        (record { token = y; offset = p.offset } ∷ ps)) x
        (first_token (tokens.Word (codes "exists")) p.offset ps g (text.proposition_part Exists) refl
        refl refl)
    quantifier_first Forall (p ∷ ps) ts g e =
        let x : tokens.Word (codes "forall") ≡ p.token = sym (same_first e) in
        subst
        (λ (y : Token). run_parts (test_at g text.Rows there)
        (record { token = y; offset = p.offset } ∷ ps)
        ≡ run_parts (test_at g text.WantsQuantifier there)
        (record { token = y; offset = p.offset } ∷ ps)) x
        (first_token (tokens.Word (codes "forall")) p.offset ps g (text.proposition_part Forall) refl
        refl refl)
    quantifier_first NotExists (p ∷ ps) ts g e =
        let x : tokens.Mark marks.Tilde ≡ p.token = sym (same_first e) in
        subst
        (λ (y : Token). run_parts (test_at g text.Rows there)
        (record { token = y; offset = p.offset } ∷ ps)
        ≡ run_parts (test_at g text.WantsQuantifier there)
        (record { token = y; offset = p.offset } ∷ ps)) x
        (first_token (tokens.Mark marks.Tilde) p.offset ps g text.AfterTilde refl refl refl)

    pub record TakesTail (ps : List TokenAt) (o : Option (Listed PlaceTree)) (q : Quantifier)
        (a : Formula) (g : Stage) : Type 0 where
      pub stage : Stage
      pub by : run_parts (test_at g text.Rows there) ps
          ≡ Ok (test_at stage text.Done (with_all name block t (map place_meaning (members o)) q a))

    list_first : (l : Listed PlaceTree) (before behind : List TokenAt) (g : Stage) (q : Quantifier)
        (a : FormulaTree) → ArePlaceTrees threads (members (Some l)) → IsFormulaTree condition_limits threads a
        → test_tokens_of before ≡ spelled_items l [] → test_tokens_of behind ≡ spelled_condition q a
        → TakesTail (before ++ behind) (Some l) q (tree_formula a) g
    list_first l [] behind g q a fine f e k = absurd (no_first e)
    list_first l (p ∷ before) behind g q a fine f e k =
        let x : tokens.Word (codes "locations") ≡ p.token = sym (same_first e) in
        let same : word_at p.offset ≡ p = ap (λ (y : Token). record { token = y; offset = p.offset }) x in
        let g' = next_stage g (tokens.Word (codes "locations")) in
        let r = list_led l p.offset before g' fine (ap (λ (y : TokenAt). test_tokens_of (y ∷ before)) same ∙ e) in
        let c = condition_led (map place_meaning (members (Some l))) behind r.stage (record { quantifier = q; condition = a; fine = f; whole = k }) in
        record {
          stage = c.stage;
          by =
              ap (λ (y : TokenAt). run_parts (test_at g text.Rows there) (y ∷ (before ++ behind)))
              (sym same)
              ∙ row_first (word_at p.offset) (before ++ behind) g refl
              ∙ run-append (test_at g' text.WantsList there)
              (test_at r.stage text.WantsQuantifier
              (early name block t (map place_meaning (members (Some l))))) before behind
              r.by
              ∙ c.by;
        }

    pub tail_led : (ps : List TokenAt) (g : Stage) (o : Option (Listed PlaceTree)) (q : Quantifier)
        (a : FormulaTree) → ArePlaceTrees threads (members o) → IsFormulaTree condition_limits threads a
        → test_tokens_of ps ≡ spelled_observed o (spelled_condition q a) → TakesTail ps o q (tree_formula a) g
    tail_led ps g None q a fine f e =
        let c = condition_led [] ps g (record { quantifier = q; condition = a; fine = f; whole = e }) in
        record { stage = c.stage; by = quantifier_first q ps (spelled a (tokens.End ∷ [])) g e ∙ c.by }
    tail_led ps g (Some l) q a fine f e =
        let cut = split ps (spelled_items l []) (spelled_condition q a) (e ∙ sym (items-append l [] (spelled_condition q a))) in
        let r = list_first l cut.before cut.behind g q a fine f cut.are_before cut.are_behind in
        record { stage = r.stage; by = ap (run_parts (test_at g text.Rows there)) cut.whole ∙ r.by }
