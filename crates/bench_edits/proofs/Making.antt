-- Lists that are made one after another.
use Rattle.std.proofs.Common.{ℕ, zero, suc, ◌+◌, ◌-◌, ◌==◌, ◌<◌, ◌≤◌, ◌≡◌, min, Bool, true, false, not, cond, if◌then◌else◌, inl, inr, List, [], ◌∷◌, ◌++◌, length, map, get_or, take, drop, append_assoc, add-one, Option, Some, None, Bor, slice_get, refl, sym, ap, subst, ◌∙◌, arith}
use Rattle.std.specs.Option.{option_or}
use Rattle.std.specs.List.{flat_map, position_or_len, remove}
use Rattle.std.proofs.lemmas.Bool.{cases_lt}
use Rattle.std.proofs.lemmas.List.{append-nil, drop_all, map-append, take_more}
use Rattle.text_values.specs.declared.model.Item.{Item}
use Rattle.text_values.specs.ModelValues.{clause_of}
use Rattle.binding_kinds.specs.declared.fault.ModelFault.{ModelFault}
use Rattle.bench_texts.specs.BenchTexts.{put_at}
use Rattle.bench_texts.specs.declared.model.NamedModel.{NamedModel}
use Rattle.bench_texts.proofs.Lists.{map-put_at, set-put_at, map-remove}
use Rattle.bench_nodes.specs.declared.table.ItemRow.{ItemRow}
use Rattle.bench_nodes.specs.declared.table.ModelRow.{ModelRow}
use Rattle.bench_nodes.specs.Guesses.{left_of, item_spot, are_first, are_items_guessed}
use Rattle.bench_items.specs.Naming.{SeenName}
use Rattle.bench_slots.specs.Slots.{PlainSlot}
use Rattle.bench_slots.specs.Tables.{ModelReading, slots_in}
use Rattle.bench_parts.specs.declared.model_rows.HeldModel.{HeldModel}
use Rattle.bench_parts.specs.Contents.{PartContent, OfText}
use Rattle.bench_parts.specs.Items.{ItemFact, text_part, raised_item}
use Rattle.bench_parts.specs.Written.{text_in}
use Rattle.bench_edits.specs.Edited.{held_models, model_before, rest_of, IsModelMade, AreModelsMade}
use Rattle.bench_edits.specs.Readings.{readings_of, named_text, facts_in, all_facts}

-- ---- lists with an element changed

pub push_past : {A : Type 0} (xs : List A) (i : ℕ) (y : A) → length xs ≤ i
    → xs ++ y ∷ [] ≡ put_at i y xs
push_past [] zero y le = refl
push_past [] (suc i) y le = refl
push_past (x ∷ xs) zero y le = absurd (omega arith)
push_past {A} (x ∷ xs) (suc i) y le = ap (λ (r : List A). x ∷ r) (push_past xs i y (omega arith))

pub remove_past : {A : Type 0} (xs : List A) (i : ℕ) → length xs ≤ i → xs ≡ remove xs i
remove_past [] zero le = refl
remove_past [] (suc i) le = refl
remove_past (x ∷ xs) zero le = absurd (omega arith)
remove_past {A} (x ∷ xs) (suc i) le = ap (λ (r : List A). x ∷ r) (remove_past xs i (omega arith))

pub map-push_past : {A B : Type 0} (f : A → B) (xs : List A) (i : ℕ) (y : A) → length xs ≤ i
    → map f (xs ++ y ∷ []) ≡ put_at i (f y) (map f xs)
map-push_past {A} {B} f xs i y le = ap (map f) (push_past xs i y le) ∙ put_mapped f xs i y
  where
    put_mapped : {A B : Type 0} (f : A → B) (xs : List A) (i : ℕ) (y : A)
        → map f (put_at i y xs) ≡ put_at i (f y) (map f xs)
    put_mapped f [] zero y = refl
    put_mapped f [] (suc i) y = refl
    put_mapped f (x ∷ xs) zero y = refl
    put_mapped {A} {B} f (x ∷ xs) (suc i) y = ap (λ (r : List B). f x ∷ r) (put_mapped f xs i y)

pub ruleset edited_lists =
    (set-put_at, push_past, remove_past, map-put_at, map-push_past, map-remove)

-- ---- models

pub before_there : (hs : List (Option HeldModel)) (k : ℕ) (d : Option HeldModel) → k < length hs
    → get_or hs k d ≡ model_before hs k
before_there [] k d lt = absurd (omega arith)
before_there (x ∷ hs) zero d lt = refl
before_there (x ∷ hs) (suc k) d lt = before_there hs k d (omega arith)

pub before_past : (hs : List (Option HeldModel)) (k : ℕ) → length hs ≤ k → None ≡ model_before hs k
before_past [] k le = refl
before_past (x ∷ hs) zero le = absurd (omega arith)
before_past (x ∷ hs) (suc k) le = before_past hs k (omega arith)

rest_before : (hs : List (Option HeldModel)) (k : ℕ)
    → model_before hs (suc k) ≡ model_before (rest_of hs) k
rest_before [] k = refl
rest_before (h ∷ hs) k = refl

pub models_more : (fresh : ℕ) (hs : List (Option HeldModel)) (ms : List NamedModel)
    (rs : List ModelRow) (k : ℕ) (m : NamedModel) (r : ModelRow) → AreModelsMade fresh hs ms rs
    → length ms ≡ k → IsModelMade fresh (model_before hs k) m r
    → AreModelsMade fresh hs (ms ++ m ∷ []) (rs ++ r ∷ [])
models_more fresh hs [] [] zero m r h e one = (one, tt)
models_more fresh hs [] [] (suc k) m r h e one = absurd (omega arith)
models_more fresh hs [] (s ∷ rs) k m r h e one = absurd h
models_more fresh hs (n ∷ ms) [] k m r h e one = absurd h
models_more fresh hs (n ∷ ms) (s ∷ rs) zero m r h e one = absurd (omega arith)
models_more fresh hs (n ∷ ms) (s ∷ rs) (suc k) m r h e one = (
  h.0,
  models_more fresh (rest_of hs) ms rs k m r h.1 (omega arith)
      (subst (λ (o : Option HeldModel). IsModelMade fresh o m r) (rest_before hs k) one),
)

abbrev now : Bor NamedModel → NamedModel
now m = m.now

-- the rows of so many models, and one more
pub rows_more : (fresh : ℕ) (hs : List (Option HeldModel)) (ms : List (Bor NamedModel))
    (rs : List ModelRow) (k : ℕ) (m : Bor NamedModel) (r : ModelRow)
    → AreModelsMade fresh hs (map now (take k ms)) rs → k < length ms → m ≡ get_or ms k m
    → IsModelMade fresh (model_before hs k) m.now r
    → AreModelsMade fresh hs (map now (take (k + 1) ms)) (rs ++ r ∷ [])
rows_more fresh hs ms rs k m r h lt is one =
    subst (λ (l : List NamedModel). AreModelsMade fresh hs l (rs ++ r ∷ []))
    (sym (taken_more ms k m lt is)) (models_more fresh hs (map now (take k ms)) rs k m.now r h
    (length_taken ms k lt) one)
  where
    taken_more : (ms : List (Bor NamedModel)) (k : ℕ) (m : Bor NamedModel) → k < length ms
        → m ≡ get_or ms k m → map now (take (k + 1) ms) ≡ map now (take k ms) ++ m.now ∷ []
    taken_more ms k m lt is =
        ap (λ (l : List (Bor NamedModel)). map now l) (take_more ms k m lt
        ∙ ap (λ (w : Bor NamedModel). take k ms ++ w ∷ []) (sym is))
        ∙ map-append now (take k ms) (m ∷ [])

    length_taken : (ms : List (Bor NamedModel)) (k : ℕ) → k < length ms
        → length (map now (take k ms)) ≡ k
    length_taken [] k lt = absurd (omega arith)
    length_taken (m ∷ ms) zero lt = refl
    length_taken (m ∷ ms) (suc k) lt = ap suc (length_taken ms k (omega arith))

pub no_models : (rs : List ModelRow) (fs : List (Option ModelFault)) (i : ℕ)
    → min (length rs) (length fs) ≤ i → held_models (drop i rs) (drop i fs) ≡ []
no_models rs fs i past = elim (cases_lt i (length rs)) [
  | inl long ↦ none (drop i rs) (drop i fs) (drop_all i fs (omega (arith, past, long)))
  | inr short ↦ ap (λ (l : List ModelRow). held_models l (drop i fs)) (drop_all i rs short)
]
  where
    none : (rs : List ModelRow) (fs : List (Option ModelFault)) → fs ≡ [] → held_models rs fs ≡ []
    none [] fs e = refl
    none (r ∷ rs) fs e = ap (λ (l : List (Option ModelFault)). held_models (r ∷ rs) l) e

-- none are left where a list is at its end
pub all_held : (held : List (Option HeldModel)) (rs : List ModelRow) (fs : List (Option ModelFault))
    (i : ℕ) → min (length rs) (length fs) ≤ i
    → held ++ held_models (drop i rs) (drop i fs) ≡ held
all_held held rs fs i past =
    ap (λ (l : List (Option HeldModel)). held ++ l) (no_models rs fs i past) ∙ append-nil held

-- all models are taken
pub taken_all : (ms : List (Bor NamedModel)) (i : ℕ) → length ms ≤ i
    → map now (take i ms) ≡ map now ms
taken_all [] zero le = refl
taken_all [] (suc i) le = refl
taken_all (m ∷ ms) zero le = absurd (omega arith)
taken_all (m ∷ ms) (suc i) le =
    ap (λ (l : List NamedModel). m.now ∷ l) (taken_all ms i (omega arith))

-- ---- readings

pub no_readings : (rs : List ModelRow) (ms : List (Bor NamedModel)) (i : ℕ)
    → min (length rs) (length ms) ≤ i → readings_of (drop i rs) (map now (drop i ms)) ≡ []
no_readings rs ms i past = elim (cases_lt i (length rs)) [
  | inl long ↦ none (drop i rs) (drop i ms) (drop_all i ms (omega (arith, past, long)))
  | inr short ↦ ap (λ (l : List ModelRow). readings_of l (map now (drop i ms)))
      (drop_all i rs short)
]
  where
    none : (rs : List ModelRow) (ms : List (Bor NamedModel)) → ms ≡ []
        → readings_of rs (map now ms) ≡ []
    none [] ms e = refl
    none (r ∷ rs) ms e = ap (λ (l : List (Bor NamedModel)). readings_of (r ∷ rs) (map now l)) e

pub all_read : (histories : ℕ → List SeenName) (slots : List PlainSlot) (rs : List ModelRow)
    (ms : List (Bor NamedModel)) (i : ℕ) → min (length rs) (length ms) ≤ i
    → slots ++ flat_map (slots_in histories) (readings_of (drop i rs) (map now (drop i ms))) ≡ slots
all_read histories slots rs ms i past =
    ap (λ (l : List ModelReading). slots ++ flat_map (slots_in histories) l)
    (no_readings rs ms i past) ∙ append-nil slots

-- ---- facts

pub facts_more : (ms : List (Bor NamedModel)) (i : ℕ) (m : Bor NamedModel) → i < length ms
    → m ≡ get_or ms i m
    → all_facts (map now (take (i + 1) ms)) ≡ all_facts (map now (take i ms)) ++ facts_in m.now
facts_more ms i m lt is =
    ap (λ (l : List (Bor NamedModel)). all_facts (map now l)) (take_more ms i m lt
    ∙ ap (λ (w : Bor NamedModel). take i ms ++ w ∷ []) (sym is)) ∙ behind (take i ms) m
  where
    behind : (ms : List (Bor NamedModel)) (m : Bor NamedModel)
        → all_facts (map now (ms ++ m ∷ [])) ≡ all_facts (map now ms) ++ facts_in m.now
    behind [] m = append-nil (facts_in m.now)
    behind (n ∷ ms) m =
        ap (λ (l : List ItemFact). facts_in n.now ++ l) (behind ms m)
        ∙ sym (append_assoc (facts_in n.now) (all_facts (map now ms)) (facts_in m.now))

-- ---- texts

none_behind : (o : Option PartContent) → option_or o None ≡ o
none_behind None = refl
none_behind (Some c) = refl

or_assoc : (a b c : Option PartContent) → option_or (option_or a b) c ≡ option_or a (option_or b c)
or_assoc None b c = refl
or_assoc (Some x) b c = refl

texts_behind : (ns ms : List ℕ) (xs ys : List Item) (n : ℕ) → length ns ≡ length xs
    → text_in (ns ++ ms) (xs ++ ys) n ≡ option_or (text_in ns xs n) (text_in ms ys n)
texts_behind [] ms [] ys n e = refl
texts_behind [] ms (x ∷ xs) ys n e = absurd (omega (arith, e))
texts_behind (k ∷ ns) ms [] ys n e = absurd (omega (arith, e))
texts_behind (k ∷ ns) ms (x ∷ xs) ys n e =
    by_test (k == n) (texts_behind ns ms xs ys n (omega (arith, e)))
  where
    by_test : (b : Bool)
        → text_in (ns ++ ms) (xs ++ ys) n ≡ option_or (text_in ns xs n) (text_in ms ys n)
        → (if b then Some (OfText (clause_of x)) else text_in (ns ++ ms) (xs ++ ys) n)
        ≡ option_or (if b then Some (OfText (clause_of x)) else text_in ns xs n) (text_in ms ys n)
    by_test true later = refl
    by_test false later = later

-- the text beside the first row of a number
pub text_at : (rows : List ItemRow) (xs : List Item) (n i : ℕ) (x : Item)
    → position_or_len (λ r. r.number == n) rows ≡ i → i < length rows → slice_get xs i ≡ Some x
    → text_in (map (λ r. r.number) rows) xs n ≡ Some (OfText (clause_of x))
text_at [] xs n i x p lt at = absurd (omega (arith, lt))
text_at (r ∷ rows) [] n i x p lt at = absurd (let e : None ≡ Some x = at in cc)
text_at (r ∷ rows) (y ∷ ys) n zero x p lt at = by_test (r.number == n) p
  where
    by_test : (b : Bool) → cond (not b) (1 + position_or_len (λ r. r.number == n) rows) 0 ≡ 0
        → (if b then Some (OfText (clause_of y)) else text_in (map (λ r. r.number) rows) ys n)
        ≡ Some (OfText (clause_of x))
    by_test true p = ap (λ (o : Option Item). text_part o) at
    by_test false p = absurd (omega (arith, p))
text_at (r ∷ rows) (y ∷ ys) n (suc i) x p lt at =
    by_test (r.number == n) p (λ q. text_at rows ys n i x q (omega (arith, lt)) at)
  where
    by_test : (b : Bool) → cond (not b) (1 + position_or_len (λ r. r.number == n) rows) 0 ≡ suc i
        → (position_or_len (λ r. r.number == n) rows ≡ i
        → text_in (map (λ r. r.number) rows) ys n ≡ Some (OfText (clause_of x)))
        → (if b then Some (OfText (clause_of y)) else text_in (map (λ r. r.number) rows) ys n)
        ≡ Some (OfText (clause_of x))
    by_test true p later = absurd (omega (arith, p))
    by_test false p later = later (omega (arith, p))

-- there is no such row, or nothing is beside it
pub no_text : (rows : List ItemRow) (xs : List Item) (n i : ℕ)
    → position_or_len (λ r. r.number == n) rows ≡ i → min (length rows) (length xs) ≤ i
    → text_in (map (λ r. r.number) rows) xs n ≡ None
no_text [] xs n i p past = refl
no_text (r ∷ rows) [] n i p past = refl
no_text (r ∷ rows) (y ∷ ys) n i p past =
    by_test (r.number == n) p (λ q l. no_text rows ys n (i - 1) q l)
  where
    by_test : (b : Bool) → cond (not b) (1 + position_or_len (λ r. r.number == n) rows) 0 ≡ i
        → (position_or_len (λ r. r.number == n) rows ≡ i - 1
        → min (length rows) (length ys) ≤ i - 1
        → text_in (map (λ r. r.number) rows) ys n ≡ None)
        → (if b then Some (OfText (clause_of y)) else text_in (map (λ r. r.number) rows) ys n) ≡ None
    by_test true p later = absurd (omega (arith, p, past))
    by_test false p later = later (omega (arith, p)) (omega (arith, p, past))

-- the texts of one model more
pub texts_left : (ms : List NamedModel) (number i : ℕ) (m : NamedModel) → i < length ms
    → m ≡ get_or ms i m
    → named_text (drop i ms) number
    ≡ option_or (text_in m.numbers.items m.text.items.items number)
    (named_text (drop (i + 1) ms) number)
texts_left ms number i m lt is = rw (add-one i) (behind ms i lt is)
  where
    behind : (ms : List NamedModel) (i : ℕ) → i < length ms → m ≡ get_or ms i m
        → named_text (drop i ms) number
        ≡ option_or (text_in m.numbers.items m.text.items.items number)
        (named_text (drop (suc i) ms) number)
    behind [] i lt is = absurd (omega arith)
    behind (n ∷ ms) zero lt is =
        ap
        (λ (w : NamedModel).
        option_or (text_in w.numbers.items w.text.items.items number) (named_text ms number))
        (sym is)
    behind (n ∷ ms) (suc i) lt is = behind ms i (omega arith) is

-- the texts of so many models, and of one more
pub texts_next : (ns : List ℕ) (xs : List Item) (ms : List NamedModel) (i number : ℕ)
    (m : NamedModel) → i < length ms → m ≡ get_or ms i m → length ns ≡ length xs
    → option_or (text_in ns xs number) (named_text (drop i ms) number) ≡ named_text ms number
    → option_or (text_in (ns ++ m.numbers.items) (xs ++ m.text.items.items) number)
    (named_text (drop (i + 1) ms) number) ≡ named_text ms number
texts_next ns xs ms i number m lt is even before =
    ap (λ (o : Option PartContent). option_or o (named_text (drop (i + 1) ms) number))
    (texts_behind ns m.numbers.items xs m.text.items.items number even)
    ∙ or_assoc (text_in ns xs number) (text_in m.numbers.items m.text.items.items number)
    (named_text (drop (i + 1) ms) number)
    ∙ ap (option_or (text_in ns xs number)) (sym (texts_left ms number i m lt is)) ∙ before

pub texts_whole : (ns : List ℕ) (xs : List Item) (ms : List NamedModel) (i number : ℕ)
    → length ms ≤ i
    → option_or (text_in ns xs number) (named_text (drop i ms) number) ≡ named_text ms number
    → text_in ns xs number ≡ named_text ms number
texts_whole ns xs ms i number past before =
    sym (none_behind (text_in ns xs number))
    ∙ ap (λ (l : List NamedModel). option_or (text_in ns xs number) (named_text l number))
    (sym (drop_all i ms past))
    ∙ before

-- ---- items under the number of an edit

pub raised_guessed : (last number : ℕ) (gs : List ℕ) (rows : List ItemRow)
    → are_items_guessed gs rows ≡ true → are_items_guessed gs (map (raised_item last number) rows) ≡ true
raised_guessed last number gs rows h = ap (are_first gs 0) (same rows) ∙ h
  where
    same : (rows : List ItemRow)
        → map (item_spot (length gs)) (map (raised_item last number) rows)
        ≡ map (item_spot (length gs)) rows
    same [] = refl
    same (r ∷ rows) = ap (λ (l : List ℕ). left_of r.number (length gs) ∷ l) (same rows)
