-- What is known of the items of models, and what they say.
use Rattle.std.proofs.Common.{ℕ, zero, suc, ◌+◌, ◌<◌, ◌≤◌, ◌≡◌, ◌≢◌, ◌==◌, inl, inr, List, [], ◌∷◌, ◌++◌, length, map, get_or, drop, add-one, drop-cons, Option, Some, None, slice_get, if◌then◌else◌, refl, sym, ap, subst, ◌∙◌, ne_eqb, arith}
use Rattle.std.specs.List.{AllZip, AllByRecursion as Each, range_with_len}
use Rattle.std.specs.Option.{option_or}
use Rattle.std.proofs.lemmas.Bool.Decides.{eqb_tells}
use Rattle.std.proofs.lemmas.List.{drop_all}
use Rattle.std.proofs.lemmas.List.FromFn.{fill_by_all}
use Rattle.text_values.specs.declared.test.Test.{Test}
use Rattle.text_values.specs.declared.model.Item.{Item}
use Rattle.text_values.specs.ModelValues.{clause_of}
use Rattle.binding_graph.specs.declared.resolved.ResolvedItem.{ResolvedItem}
use Rattle.memo_core.specs.Step.{Has}
use Rattle.bench_items.specs.declared.items.SharedItem.{SharedItem}
use Rattle.bench_texts.specs.declared.model.NamedModel.{NamedModel}
use Rattle.bench_nodes.specs.declared.table.ItemRow.{ItemRow}
use Rattle.bench_nodes.specs.declared.table.ModelRow.{ModelRow}
use Rattle.bench_nodes.specs.Nodes.{item_stamp}
use Rattle.bench_slots.proofs.Lists.{has_append, has_behind}
use Rattle.bench_parts.specs.declared.parts.Parts.{Parts}
use Rattle.bench_parts.specs.Built.{IsItemRow}
use Rattle.bench_parts.specs.Contents.{PartContent, OfText}
use Rattle.bench_parts.specs.Items.{ItemFact, text_part, fact_at, item_facts, fact_text}
use Rattle.bench_parts.specs.ItemLaws.{HasFactText}
use Rattle.bench_parts.specs.ItemLaws as items
use Rattle.bench_parts.specs.Written.{text_in, item_text}
use Rattle.bench_edits.specs.Owed.{ArePartsOf, item_numbers}
use Rattle.bench_text_laws.specs.Orderly.{AreApart}
use Rattle.bench_edits.specs.Readings.{resolved_in, written_models, named_text, facts_in, all_facts}

-- ---- the numbers of items

facts_numbers : (numbers : List ℕ) (is : List Item) (read : Option (List ResolvedItem))
    → map (λ f. f.number) (item_facts numbers is read) ≡ numbers
facts_numbers numbers is read =
    mapped (range_with_len 0 (length numbers))
    ∙ sym (fill_by_all (λ (k : ℕ). get_or numbers k 0) numbers (length numbers) 0 refl
    (λ k lt. refl))
  where
    mapped : (ks : List ℕ)
        → map (λ f. f.number) (map (fact_at numbers is read) ks) ≡ map (λ k. get_or numbers k 0) ks
    mapped [] = refl
    mapped (k ∷ ks) = ap (λ (l : List ℕ). get_or numbers k 0 ∷ l) (mapped ks)

pub all_numbers : (ms : List NamedModel) → map (λ f. f.number) (all_facts ms) ≡ item_numbers ms
all_numbers [] = refl
all_numbers (m ∷ ms) =
    both (facts_in m) (all_facts ms)
    ∙ ap (λ (l : List ℕ). l ++ map (λ (f : ItemFact). f.number) (all_facts ms))
    (facts_numbers m.numbers.items m.text.items.items (resolved_in m.reading))
    ∙ ap (λ (l : List ℕ). m.numbers.items ++ l) (all_numbers ms)
  where
    both : (fs gs : List ItemFact)
        → map (λ f. f.number) (fs ++ gs) ≡ map (λ f. f.number) fs ++ map (λ f. f.number) gs
    both [] gs = refl
    both (f ∷ fs) gs = ap (λ (l : List ℕ). f.number ∷ l) (both fs gs)

none_of : (n : ℕ) (fs : List ItemFact) → (Has (map (λ f. f.number) fs) n → ⊥)
    → Each (λ g. n ≢ g.number) fs
none_of n [] gone = tt
none_of n (f ∷ fs) gone = ((λ e. gone (inl (sym e))), none_of n fs (λ has. gone (inr has)))

facts_apart : (fs : List ItemFact) → AreApart (map (λ f. f.number) fs) → items.AreFactsApart fs
facts_apart [] h = tt
facts_apart (f ∷ fs) h = (none_of f.number fs h.0, facts_apart fs h.1)

pub all_apart : (ms : List NamedModel) → AreApart (item_numbers ms) → items.AreFactsApart (all_facts ms)
all_apart ms h =
    facts_apart (all_facts ms) (subst (λ (l : List ℕ). AreApart l) (sym (all_numbers ms)) h)

-- ---- what items say

pub each_item_has_number : (m : NamedModel) → length m.numbers.items ≡ length m.text.items.items
each_item_has_number m = omega (arith, m.paired, m.numbers.ok.0, m.text.items.ok.0)

-- an item stands at each index
stands : (xs : List Item) (k : ℕ) → k < length xs
    → (x : Item) × (slice_get xs k ≡ Some x) × (drop k xs ≡ x ∷ drop (suc k) xs)
stands [] k lt = absurd (omega arith)
stands (x ∷ xs) zero lt = (x, refl, refl)
stands (x ∷ xs) (suc k) lt = stands xs k (omega arith)

both_texts : (fs gs : List ItemFact) → Each HasFactText fs → Each HasFactText gs → Each HasFactText (fs ++ gs)
both_texts [] gs h g = g
both_texts (f ∷ fs) gs h g = (h.0, both_texts fs gs h.1 g)

module _ (ns : List ℕ) (xs : List Item) (read : Option (List ResolvedItem))
    (len : length ns ≡ length xs) where
  abbrev facts_from : ℕ → ℕ → List ItemFact
  facts_from k n = map (fact_at ns xs read) (range_with_len k n)

  written_from : (k n : ℕ) → k + n ≤ length xs → Each HasFactText (facts_from k n)
  written_from k zero le = tt
  written_from k (suc n) le =
      let at = stands xs k (omega (arith, le)) in
      ((OfText (clause_of at.0), ap text_part at.1), written_from (k + 1) n (omega (arith, le)))

  one_said : (n of : ℕ) (item : Option Item) (x : Item) (ms : List ℕ) (ys : List Item)
      (left : Option PartContent) → item ≡ Some x → left ≡ text_in ms ys of
      → (if n == of then text_part item else left) ≡ text_in (n ∷ ms) (x ∷ ys) of
  one_said n of item x ms ys left e f = elim (eqb_tells n of) [
    | inl same ↦ rw same.0 (ap text_part e)
    | inr other ↦ rw other.0 f
  ]

  said_from : (of k n : ℕ) → k + n ≡ length xs
      → fact_text (facts_from k n) of ≡ text_in (drop k ns) (drop k xs) of
  said_from of k zero e =
      sym (ap (λ (l : List ℕ). text_in l (drop k xs) of) (drop_all k ns (omega (arith, e, len))))
  said_from of k (suc n) e =
      let at = stands xs k (omega (arith, e)) in
      let rest : fact_text (facts_from (k + 1) n) of ≡ text_in (drop (suc k) ns) (drop (suc k) xs) of = subst (λ (j : ℕ). fact_text (facts_from (k + 1) n) of ≡ text_in (drop j ns) (drop j xs) of) (add-one k) (said_from of (k + 1) n (omega (arith, e))) in
      one_said (get_or ns k 0) of (slice_get xs k) at.0 (drop (suc k) ns) (drop (suc k) xs)
      (fact_text (facts_from (k + 1) n) of) at.1 rest
      ∙ sym (ap (λ (l : List ℕ). text_in l (drop k xs) of)
      (drop-cons ns k 0 (omega (arith, e, len)))
      ∙ ap (λ (l : List Item). text_in (get_or ns k 0 ∷ drop (suc k) ns) l of) at.2)

  pub facts_written : Each HasFactText (item_facts ns xs read)
  facts_written = written_from 0 (length ns) (omega (arith, len))

  pub facts_said : (of : ℕ) → fact_text (item_facts ns xs read) of ≡ text_in ns xs of
  facts_said of = said_from of 0 (length ns) (omega (arith, len))

-- each item says something
pub all_written : (ms : List NamedModel) → Each HasFactText (all_facts ms)
all_written [] = tt
all_written (m ∷ ms) =
    both_texts (facts_in m) (all_facts ms)
    (facts_written m.numbers.items m.text.items.items (resolved_in m.reading)
    (each_item_has_number m))
    (all_written ms)

-- and says what is known of it
pub all_said : (ms : List NamedModel) (of : ℕ) → fact_text (all_facts ms) of ≡ named_text ms of
all_said [] of = refl
all_said (m ∷ ms) of =
    both_said (facts_in m) (all_facts ms) (facts_written m.numbers.items m.text.items.items
    (resolved_in m.reading) (each_item_has_number m))
    ∙ ap (λ (o : Option PartContent). option_or o (fact_text (all_facts ms) of))
    (facts_said m.numbers.items m.text.items.items (resolved_in m.reading)
    (each_item_has_number m) of)
    ∙ ap (λ (o : Option PartContent). option_or (text_in m.numbers.items m.text.items.items of) o)
    (all_said ms of)
  where
    both_said : (fs gs : List ItemFact) → Each HasFactText fs
        → fact_text (fs ++ gs) of ≡ option_or (fact_text fs of) (fact_text gs of)
    both_said [] gs h = refl
    both_said (f ∷ fs) gs h = elim (eqb_tells f.number of) [
      | inl same ↦ rw same.0 (h.0.1
          ∙ sym (ap (λ (o : Option PartContent). option_or o (fact_text gs of)) h.0.1))
      | inr other ↦ rw other.0 (both_said fs gs h.1)
    ]

-- the models as they are written say it too
pub texts_are : (rows : List ModelRow) (ms : List NamedModel) (of : ℕ) → length rows ≡ length ms
    → item_text (written_models rows ms) of ≡ named_text ms of
texts_are [] [] of e = refl
texts_are [] (m ∷ ms) of e = absurd (omega arith)
texts_are (r ∷ rows) [] of e = absurd (omega arith)
texts_are (r ∷ rows) (m ∷ ms) of e =
    let len : length rows ≡ length ms = omega arith in
    ap (λ (o : Option PartContent). option_or (text_in m.numbers.items m.text.items.items of) o)
    (texts_are rows ms of len)

-- ---- what is not there

not_in : (ns : List ℕ) (xs : List Item) (of : ℕ) → (Has ns of → ⊥) → text_in ns xs of ≡ None
not_in [] xs of gone = refl
not_in (n ∷ ns) [] of gone = refl
not_in (n ∷ ns) (x ∷ xs) of gone =
    rw (ne_eqb n of (λ e. gone (inl e))) (not_in ns xs of (λ has. gone (inr has)))

not_named : (ms : List NamedModel) (of : ℕ) → (Has (item_numbers ms) of → ⊥)
    → named_text ms of ≡ None
not_named [] of gone = refl
not_named (m ∷ ms) of gone =
    ap (λ (o : Option PartContent). option_or o (named_text ms of)) (not_in m.numbers.items
    m.text.items.items of (λ has.
    gone (has_append m.numbers.items (item_numbers ms) of has)))
    ∙ not_named ms of (λ has. gone (has_behind m.numbers.items (item_numbers ms) of has))

-- an item that is there has a stamp
no_row : (last : ℕ) (rows : List ItemRow) (roles : List (Option SharedItem)) (of : ℕ)
    → AllZip (IsItemRow last) rows roles → item_stamp rows of ≡ 0
    → Has (map (λ i. i.number) rows) of → ⊥
no_row last [] roles of h none has = has
no_row last (i ∷ is) [] of h none has = absurd h
no_row last (i ∷ is) (r ∷ rs) of h none has = elim (eqb_tells i.number of) [
  | inl same ↦ (let low = h.0.0 in
      let zero_is : i.stamp ≡ 0 = rw same.0 at none in absurd (omega (arith, low, zero_is)))
  | inr other ↦ elim has [
    | inl e ↦ absurd (other.1 e)
    | inr later ↦ no_row last is rs of h.1
        (rw other.0 at none) later
  ]
]

-- so what has no stamp is none of the items of the models
pub unstamped_gone : (p : Parts) (tests : List Test) (ms : List NamedModel) (of : ℕ)
    → ArePartsOf p tests ms → item_stamp p.table.items.items of ≡ 0 → named_text ms of ≡ None
unstamped_gone p tests ms of owed none =
    not_named ms of (λ has. no_row p.last p.table.items.items p.roles.items of owed.built.items none
    (subst (λ (l : List ℕ). Has l of) (sym owed.each_item) has))
