-- Orderly parts are kept as the laws of cells ask for it.
use Rattle.std.proofs.Common.{◌≡◌, ℕ, zero, suc, ◌+◌, ◌<◌, ◌||◌, ◌==◌, Bool, eq-eqb, inl, inr, List, [], ◌∷◌, ◌++◌, length, map, true, get_or, Some, slice_get, slice_index_or, All, refl, sym, ap, subst, ◌∙◌, add-zero, zero-add, arith}
use Rattle.std.specs.Arc.{arc_value}
use Rattle.std.specs.List.{AllPairs, AllByRecursion as Each, range_with_len}
use Rattle.std.proofs.lemmas.List.Kept.{AllPairs-cons}
use Rattle.std.proofs.lemmas.List.Elements.{All-cons}
use Rattle.std.proofs.lemmas.Bool.{or_right}
use Rattle.text_values.specs.declared.test.Test.{Test}
use Rattle.text_values.specs.declared.model.Item.{Item}
use Rattle.binding_kinds.specs.Value.{bare_item}
use Rattle.binding_graph.specs.declared.resolved.ResolvedItem.{ResolvedItem}
use Rattle.binding_graph.specs.declared.resolved.Role.{Role}
use Rattle.binding_graph.specs.declared.resolved.Role.TheVariants as roles
use Rattle.memo_core.specs.Step.{Has}
use Rattle.memo_core.specs.declared.keys.Kind.{Kind}
use Rattle.memo_core.specs.declared.keys.Kind.TheVariants as kinds
use Rattle.bench_nodes.specs.declared.table.ModelRow.{ModelRow}
use Rattle.bench_nodes.specs.Nodes.{used}
use Rattle.bench_nodes.proofs.Laws.{used_test, used_slot}
use Rattle.bench_texts.specs.declared.model.NamedModel.{NamedModel}
use Rattle.bench_texts.specs.declared.reading.Reading.{Reading}
use Rattle.bench_texts.specs.declared.reading.Reading.TheVariants as readings
use Rattle.bench_texts.specs.Held as held
use Rattle.bench_texts.specs.Readings.{IsModelReading}
use Rattle.binding_kinds.specs.Outermost.{outermost_names}
use Rattle.bench_slots.specs.Slots.{number_at}
use Rattle.bench_slots.specs.Tables.{ModelReading, Sound, Faulty}
use Rattle.bench_parts.specs.declared.parts.Parts.{Parts}
use Rattle.bench_parts.specs.Contents.{histories, parts_state}
use Rattle.bench_parts.specs.States.{has_kind, has_model, has_own}
use Rattle.bench_parts.specs.Items.{ItemFact, fact_at, kind_at}
use Rattle.bench_parts.specs.ItemLaws.{IsOfItsKind, role_kind}
use Rattle.bench_parts.proofs.ItemKinds.{kinds_of_roles}
use Rattle.bench_edits.specs.Owed.{ArePartsOf, item_numbers}
use Rattle.bench_text_laws.specs.Orderly.{AreApart}
use Rattle.bench_edits.specs.Readings.{reading_by, reading_of, readings_of, resolved_in, facts_in, all_facts}
use Rattle.bench_edits.specs.Kept.{IsReadingOfText, id_in, numbers_in, AreOther, IsKeptState}
use Rattle.bench_edits.proofs.Facts.{each_item_has_number}
use Rattle.bench_edits.proofs.Origin.{HasKind, Origin, IsOfItem, IsOfVerdict, origin, index_within}
use Rattle.bench_edits.specs.Left.{AreOrderlyParts, ArePartsKept}
use Rattle.bench_edits.proofs.Lists.{has_map, apart_left, apart_right, apart_cross}

-- ---- lists without equal elements

pub has_left : {A : Type 0} (xs ys : List A) (a : A) → Has xs a → Has (xs ++ ys) a
has_left [] ys a h = absurd h
has_left (x ∷ xs) ys a (inl e) = inl e
has_left (x ∷ xs) ys a (inr h) = inr (has_left xs ys a h)

pub has_right : {A : Type 0} (xs ys : List A) (a : A) → Has ys a → Has (xs ++ ys) a
has_right [] ys a h = h
has_right (x ∷ xs) ys a h = inr (has_right xs ys a h)

element_there : {A K : Type 0} (f : A → K) (xs : List A) (k : ℕ) (d : A) → k < length xs
    → Has (map f xs) (f (slice_index_or xs k d))
element_there f [] k d lt = absurd (omega (arith, lt))
element_there f (x ∷ xs) zero d lt = inl refl
element_there f (x ∷ xs) (suc k) d lt = inr (element_there f xs k d (omega arith))

pub pairs_apart : {A K : Type 0} (f : A → K) (xs : List A) → AreApart (map f xs)
    → AllPairs (λ a b. f a ≡ f b → ⊥) xs
pairs_apart f [] h = λ i j d a b. absurd (omega (arith, b))
pairs_apart {A} {K} f (x ∷ xs) h =
    AllPairs-cons (λ a b. f a ≡ f b → ⊥) x xs
    (λ k d lt e. h.0 (subst (λ (y : K). Has (map f xs) y) (sym e) (element_there f xs k d lt)))
    (pairs_apart f xs h.1)

map-same : (ns : List ℕ) → map (λ n. n) ns ≡ ns
map-same [] = refl
map-same (n ∷ ns) = ap (λ (ms : List ℕ). n ∷ ms) (map-same ns)

-- ---- models as they are read

pub id_of : (id : ℕ) (ns : List ℕ) (r : Reading) → id_in (reading_by id ns r) ≡ id
id_of id ns (readings.Sound resolved used) = refl
id_of id ns (readings.Faulty fault) = refl

numbers_among : (id : ℕ) (ns : List ℕ) (r : Reading) (k : ℕ)
    → Has (numbers_in (reading_by id ns r)) k → Has ns k
numbers_among id ns (readings.Sound resolved used) k h = h
numbers_among id ns (readings.Faulty fault) k h = absurd h

one_read : (id : ℕ) (ns : List ℕ) (items : List Item) (r : Reading) → IsModelReading items r
    → length ns ≡ length items → AreApart ns → IsReadingOfText (reading_by id ns r)
one_read id ns items (readings.Sound resolved used) h paired apart = (
  map bare_item items,
  record {
    no_fault = (h.0).no_fault;
    resolved = (h.0).as_resolved;
    reached = h.1;
    numbered = paired ∙ sym (h.0).whole;
    apart = pairs_apart (λ n. n) ns (subst (λ (l : List ℕ). AreApart l) (sym (map-same ns)) apart);
  },
)
one_read id ns items (readings.Faulty fault) h paired apart = tt

each_read : (rs : List ModelRow) (ms : List NamedModel) → All held.IsModelRead ms
    → AreApart (item_numbers ms) → Each IsReadingOfText (readings_of rs ms)
each_read [] ms h apart = tt
each_read (r ∷ rs) [] h apart = tt
each_read (r ∷ rs) (m ∷ ms) h apart = (
  one_read r.id m.numbers.items m.text.items.items m.reading (h 0 m (omega arith))
      (each_item_has_number m) (apart_left m.numbers.items (item_numbers ms) apart),
  each_read rs ms (λ k d lt. h (suc k) d (omega arith))
      (apart_right m.numbers.items (item_numbers ms) apart),
)

others : (r : ModelRow) (m : NamedModel) (rs : List ModelRow) (ms : List NamedModel)
    → (Has (map (λ q. q.id) rs) r.id → ⊥)
    → ((k : ℕ) → Has m.numbers.items k → Has (item_numbers ms) k → ⊥)
    → All (AreOther (reading_of r m)) (readings_of rs ms)
others r m [] ms free cross = λ k d lt. absurd (omega (arith, lt))
others r m (s ∷ rs) [] free cross = λ k d lt. absurd (omega (arith, lt))
others r m (s ∷ rs) (n ∷ ms) free cross =
    All-cons (AreOther (reading_of r m)) (reading_of s n) (readings_of rs ms)
    (record {
      ids =
          λ e. free (inl (sym (sym (id_of r.id m.numbers.items m.reading) ∙ e
          ∙ id_of s.id n.numbers.items n.reading)));
      numbers =
          λ k a b. cross k (numbers_among r.id m.numbers.items m.reading k a) (has_left
          n.numbers.items (item_numbers ms) k
          (numbers_among s.id n.numbers.items n.reading k b));
    })
    (others r m rs ms (λ h. free (inr h)) (λ k a b.
    cross k a (has_right n.numbers.items (item_numbers ms) k b)))

all_other : (rs : List ModelRow) (ms : List NamedModel) → AreApart (map (λ q. q.id) rs)
    → AreApart (item_numbers ms) → AllPairs AreOther (readings_of rs ms)
all_other [] ms h apart = λ i j d a b. absurd (omega (arith, b))
all_other (r ∷ rs) [] h apart = λ i j d a b. absurd (omega (arith, b))
all_other (r ∷ rs) (m ∷ ms) h apart = AllPairs-cons AreOther (reading_of r m) (readings_of rs ms)
    (others r m rs ms h.0 (λ k a b. apart_cross m.numbers.items (item_numbers ms) k apart a b))
    (all_other rs ms h.1 (apart_right m.numbers.items (item_numbers ms) apart))

-- ---- rows

row_there : (rs : List ModelRow) (id : ℕ) → Has (map (λ m. m.id) rs) id → has_model rs id ≡ true
row_there [] id h = absurd h
row_there (m ∷ rs) id (inl e) = ap (λ (b : Bool). b || has_model rs id) (eq-eqb id m.id (sym e))
row_there (m ∷ rs) id (inr h) = or_right (id == m.id) (has_model rs id) (row_there rs id h)

-- ---- the model of a reading

-- a reading among those of models is that of a model
pub record IsModelOf (rs : List ModelRow) (ms : List NamedModel) (m : ModelReading) : Type 0 where
  pub row : ModelRow
  pub model : NamedModel
  pub row_there : Has rs row
  pub model_there : Has ms model
  pub is : reading_of row model ≡ m

pub model_of : (rs : List ModelRow) (ms : List NamedModel) (m : ModelReading)
    → Has (readings_of rs ms) m → IsModelOf rs ms m
model_of [] ms m h = absurd h
model_of (r ∷ rs) [] m h = absurd h
model_of (r ∷ rs) (n ∷ ms) m (inl e) =
    record { row = r; model = n; row_there = inl refl; model_there = inl refl; is = e }
model_of (r ∷ rs) (n ∷ ms) m (inr h) =
    let k = model_of rs ms m h in
    record { row = k.row; model = k.model; row_there = inr k.row_there; model_there = inr k.model_there; is = k.is }

read_there : (ms : List NamedModel) (m : NamedModel) → All held.IsModelRead ms → Has ms m → held.IsModelRead m
read_there [] m h there = absurd there
read_there (n ∷ ms) m h (inl e) = subst held.IsModelRead e (h 0 n (omega arith))
read_there (n ∷ ms) m h (inr there) = read_there ms m (λ k d lt. h (suc k) d (omega arith)) there

-- ---- kinds of items

split_each : (P : ItemFact → Type 0) (fs gs : List ItemFact) → Each P (fs ++ gs)
    → Each P fs × Each P gs
split_each P [] gs h = (tt, h)
split_each P (f ∷ fs) gs h = let rest = split_each P fs gs h.1 in ((h.0, rest.0), rest.1)

facts_there : (P : ItemFact → Type 0) (ms : List NamedModel) (m : NamedModel)
    → Each P (all_facts ms) → Has ms m → Each P (facts_in m)
facts_there P [] m h there = absurd there
facts_there P (n ∷ ms) m h (inl e) =
    subst (λ (x : NamedModel). Each P (facts_in x)) e (split_each P (facts_in n) (all_facts ms) h).0
facts_there P (n ∷ ms) m h (inr there) =
    facts_there P ms m (split_each P (facts_in n) (all_facts ms) h).1 there

each_at : (P : ItemFact → Type 0) (fact : ℕ → ItemFact) (from count index : ℕ) → index < count
    → Each P (map fact (range_with_len from count)) → P (fact (from + index))
each_at P fact from zero index lt h = absurd (omega arith)
each_at P fact from (suc count) zero lt h = subst (λ (k : ℕ). P (fact k)) (sym (add-zero from)) h.0
each_at P fact from (suc count) (suc index) lt h =
    let e : (from + 1) + index ≡ from + suc index = omega arith in
    subst (λ (k : ℕ). P (fact k)) e (each_at P fact (from + 1) count index (omega (arith, lt)) h.1)

sound_parts : (a b : ℕ) (c d : List ℕ) (e f : List ResolvedItem) (g h : List ℕ)
    → Sound a c e g ≡ Sound b d f h → (a ≡ b) × (c ≡ d) × (e ≡ f) × (g ≡ h)
sound_parts a b c d e f g h p = (cc, cc, cc, cc)

not_sound : (a b : ℕ) (f : _) (d : List ℕ) (e : List ResolvedItem) (g : List ℕ)
    → Faulty a f ≡ Sound b d e g → ⊥
not_sound a b f d e g p = cc

kind_of : (role : Role) (kind : Kind) → HasKind role kind → role_kind role ≡ Some kind
kind_of (roles.Group recursive bodies) kind e = ap Some (sym e)
kind_of (roles.Check check) kind e = ap Some (sym e)
kind_of roles.Silent kind e = absurd e

pub parts_are_kept : (p : Parts) (tests : List Test) (models : List NamedModel)
    → ArePartsOf p tests models → All held.IsModelRead models → AreApart (item_numbers models)
    → IsKeptState (parts_state p tests) (readings_of p.table.models.items models)
parts_are_kept p tests models parts read apart = record {
  built = parts.built;
  read = each_read p.table.models.items models read apart;
  models_apart = all_other p.table.models.items models (parts.numbered).models_apart apart;
  tests_apart = pairs_apart (λ r. r.id) p.table.tests.items (parts.numbered).tests_apart;
  locations = parts.locations;
}

module _ (p : Parts) (tests : List Test) (models : List NamedModel)
    (o : AreOrderlyParts p tests models) where
  abbrev here : List ModelReading
  here = readings_of p.table.models.items models

  kept : IsKeptState (parts_state p tests) here
  kept = parts_are_kept p tests models o.parts_are o.read o.items_apart

  item_kind_by : (id : ℕ) (ns : List ℕ) (items : List Item) (rd : Reading) (numbers : List ℕ)
      (resolved : List ResolvedItem) (used : List ℕ)
      → reading_by id ns rd ≡ Sound id numbers resolved used → IsModelReading items rd
      → (index : ℕ) (r : ResolvedItem) (kind : Kind)
      → slice_get resolved index ≡ Some r → role_kind r.role ≡ Some kind
      → (ns ≡ numbers) × (kind_at items index ≡ Some kind)
  item_kind_by id ns items (readings.Sound rs us) numbers resolved used e read index r kind found k
      =
      let same = sound_parts id id ns numbers (arc_value rs).items.items resolved us.items used e in (
        same.1,
        kinds_of_roles [] [] outermost_names 0 items (arc_value rs).items.items
            (read.0).as_resolved index r kind
            (ap (λ (l : List ResolvedItem). slice_get l index) same.2 ∙ found) k,
      )
  item_kind_by id ns items (readings.Faulty f) numbers resolved used e read index r kind found k =
      absurd (not_sound id id f numbers resolved used e)

  item_kind : (m : NamedModel) (numbers : List ℕ) (index : ℕ) (kind : Kind) → Has models m
      → m.numbers.items ≡ numbers → index < length numbers
      → kind_at m.text.items.items index ≡ Some kind
      → has_kind p.table.items.items p.kinds.items kind (number_at numbers index) ≡ true
  item_kind m numbers index kind there e lt k =
      let facts = facts_there (IsOfItsKind p.table.items.items p.kinds.items) models m o.kinds there in
      let one = each_at (IsOfItsKind p.table.items.items p.kinds.items) (fact_at m.numbers.items m.text.items.items (resolved_in m.reading)) 0 (length m.numbers.items) index (subst (λ (l : List ℕ). index < length l) (sym e) lt) facts in
      let is = subst (λ (i : ℕ). IsOfItsKind p.table.items.items p.kinds.items (fact_at m.numbers.items m.text.items.items (resolved_in m.reading) i)) (zero-add index) one kind k in
      subst
      (λ (l : List ℕ). has_kind p.table.items.items p.kinds.items kind (get_or l index 0)
      ≡ true) e is

  owned_item : (kind : Kind) (of : ℕ) → IsOfItem here (kept.models_apart) (kept.read) kind of
      → has_kind p.table.items.items p.kinds.items kind of ≡ true
  owned_item kind of i =
      let m = model_of p.table.models.items models (Sound i.id i.numbers i.items i.used) i.there in
      let same_id : m.row.id ≡ i.id = sym (id_of m.row.id m.model.numbers.items m.model.reading) ∙ ap id_in m.is in
      let by = item_kind_by i.id m.model.numbers.items m.model.text.items.items m.model.reading i.numbers i.items i.used
      (ap (λ (n : ℕ). reading_by n m.model.numbers.items m.model.reading) (sym same_id) ∙ m.is)
      (read_there models m.model o.read m.model_there) i.index i.item kind i.found
      (kind_of i.item.role kind i.has_kind) in
      subst (λ (n : ℕ). has_kind p.table.items.items p.kinds.items kind n ≡ true) i.number
      (item_kind m.model i.numbers i.index kind m.model_there by.0
      (index_within here (kept.models_apart) (kept.read) i.id i.numbers i.items i.used
      i.there i.index i.inside) by.1)

  owned_verdict : (of : ℕ) → IsOfVerdict here (kept.models_apart) (kept.read) of
      → has_model p.table.models.items of ≡ true
  owned_verdict of v =
      let m = model_of p.table.models.items models v.model v.there in
      let is : m.row.id ≡ of = sym (id_of m.row.id m.model.numbers.items m.model.reading) ∙ ap id_in m.is ∙ v.number in
      row_there p.table.models.items of (subst
      (λ (n : ℕ). Has (map (λ (x : ModelRow). x.id) p.table.models.items) n) is
      (has_map (λ (x : ModelRow). x.id) p.table.models.items m.row m.row_there))

  owned : (kind : Kind) (of : ℕ) → Origin here (kept.models_apart) (kept.read) kind of
      → has_own p kind of ≡ true
  owned kinds.Space of h = refl
  owned kinds.Group of h = owned_item kinds.Group of h
  owned kinds.Check of h = owned_item kinds.Check of h
  owned kinds.Verdict of h = owned_verdict of h

  pub parts_kept : ArePartsKept p tests models
  parts_kept = record {
    kept = kept;
    may_keep =
        λ n h. rw (used_test p.table n h) (owned n.kind n.of (origin here (kept.models_apart)
        (kept.read) (histories (parts_state p tests)) p.table.slots.items (kept.built).slots
        n.kind n.of (used_slot p.table n h)));
  }
