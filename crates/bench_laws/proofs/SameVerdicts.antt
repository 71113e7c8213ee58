-- Where the same nodes are used for the same tests and models, each cell has the same verdict.
use Rattle.std.proofs.Common.{◌≡◌, ℕ, Bool, true, false, List, [], ◌∷◌, ◌++◌, length, map, if◌then◌else◌, Vec, Option, Some, None, option_map, slice_get, refl, sym, ap, ◌∙◌, arith}
use Rattle.std.specs.declared.alloc.Global.{Global}
use Rattle.std.specs.List.{flat_map}
use Rattle.std.proofs.lemmas.List.{length-map}
use Rattle.std.proofs.lemmas.Option.{slice_get-map}
use Rattle.text_values.specs.declared.test.Test.{Test}
use Rattle.memo_core.specs.declared.keys.Kind.{Kind}
use Rattle.memo_core.specs.declared.keys.Kind.TheVariants as kinds
use Rattle.memo_core.specs.declared.keys.Node.{Node}
use Rattle.binding_graph.specs.declared.resolved.ResolvedItem.{ResolvedItem}
use Rattle.binding_graph.specs.declared.resolved.Role.{Role}
use Rattle.binding_graph.specs.declared.resolved.Role.TheVariants as roles
use Rattle.bench_items.specs.Naming.{SeenName}
use Rattle.bench_nodes.specs.declared.table.ModelRow.{ModelRow}
use Rattle.bench_nodes.specs.declared.table.Slot.{Slot}
use Rattle.bench_nodes.specs.declared.table.SlotKey.{SlotKey}
use Rattle.bench_nodes.specs.declared.table.TestRow.{TestRow}
use Rattle.bench_nodes.specs.Nodes.{nodes_at, used_in, used}
use Rattle.bench_slots.specs.Slots.{PlainSlot, plain, number_at, slots_of, item_slots, used_slots}
use Rattle.bench_slots.specs.Tables.{ModelReading, Sound, Faulty, space_slots, slots_in, all_slots}
use Rattle.bench_texts.specs.declared.model.NamedModel.{NamedModel}
use Rattle.bench_texts.specs.declared.reading.Reading.{Reading}
use Rattle.bench_texts.specs.declared.reading.Reading.TheVariants as readings
use Rattle.bench_texts.specs.BenchTexts.{BenchTexts, test_index, model_index}
use Rattle.bench_texts.specs.Held.{texts_of}
use Rattle.bench_parts.specs.Built.{AreTestRows}
use Rattle.bench_parts.specs.Contents.{histories}
use Rattle.bench_edits.specs.Readings.{reading_by, readings_of}
use Rattle.bench_instance.specs.declared.stamped_texts.StampedTexts.{StampedTexts}
use Rattle.bench_instance.specs.StampedTexts.{AreSoundTexts, HasTextsOf, stamped_state, verdict_by, verdict_of}

-- ---- the verdicts among slots

abbrev is_verdict : Kind → Bool
is_verdict kinds.Space = false
is_verdict kinds.Group = false
is_verdict kinds.Check = false
is_verdict kinds.Verdict = true

-- the models whose verdicts these slots are
abbrev models_of : List PlainSlot → List ℕ
models_of [] = []
models_of (s ∷ ss) = if is_verdict s.kind then s.of ∷ models_of ss else models_of ss

models_both : (ss more : List PlainSlot) → models_of (ss ++ more) ≡ models_of ss ++ models_of more
models_both [] more = refl
models_both (s ∷ ss) more = one (is_verdict s.kind) (models_both ss more)
  where
    one : (b : Bool) → models_of (ss ++ more) ≡ models_of ss ++ models_of more
        → (if b then s.of ∷ models_of (ss ++ more) else models_of (ss ++ more))
        ≡ (if b then s.of ∷ models_of ss else models_of ss) ++ models_of more
    one true rest = ap (λ (is : List ℕ). s.of ∷ is) rest
    one false rest = rest

role_models : (role : Role) (own : ℕ) (keys : List SlotKey)
    → models_of (slots_of role own keys) ≡ []
role_models (roles.Group recursive bodies) own keys = refl
role_models (roles.Check check) own keys = refl
role_models roles.Silent own keys = refl

item_models : (past : ℕ → List SeenName) (numbers : List ℕ) (items : List ResolvedItem) (own : ℕ)
    (r : Option ResolvedItem) → models_of (item_slots past numbers items own r) ≡ []
item_models past numbers items own None = refl
item_models past numbers items own (Some r) = role_models r.role own _

used_models : (past : ℕ → List SeenName) (numbers : List ℕ) (items : List ResolvedItem)
    (is : List ℕ) → models_of (used_slots past numbers items is) ≡ []
used_models past numbers items [] = refl
used_models past numbers items (i ∷ is) =
    models_both (item_slots past numbers items (number_at numbers i) (slice_get items i))
    (used_slots past numbers items is)
    ∙ ap (λ (ms : List ℕ). ms ++ models_of (used_slots past numbers items is))
    (item_models past numbers items (number_at numbers i) (slice_get items i))
    ∙ used_models past numbers items is

abbrev id_of : ModelReading → ℕ
id_of (Sound id numbers items used) = id
id_of (Faulty id fault) = id

model_models : (past : ℕ → List SeenName) (m : ModelReading)
    → models_of (slots_in past m) ≡ id_of m ∷ []
model_models past (Sound id numbers items used) =
    models_both (used_slots past numbers items used) _ ∙ ap (λ (ms : List ℕ). ms ++ id ∷ [])
    (used_models past numbers items used)
model_models past (Faulty id fault) = refl

each_model : (past : ℕ → List SeenName) (ms : List ModelReading)
    → models_of (flat_map (slots_in past) ms) ≡ map id_of ms
each_model past [] = refl
each_model past (m ∷ ms) =
    models_both (slots_in past m) (flat_map (slots_in past) ms)
    ∙ ap (λ (is : List ℕ). is ++ models_of (flat_map (slots_in past) ms)) (model_models past m)
    ∙ ap (λ (is : List ℕ). id_of m ∷ is) (each_model past ms)

space_models : (ms : List ModelReading) → models_of (space_slots ms) ≡ []
space_models [] = refl
space_models (Sound id numbers items used ∷ ms) = refl
space_models (Faulty id fault ∷ ms) = space_models ms

all_models : (past : ℕ → List SeenName) (ms : List ModelReading)
    → models_of (all_slots past ms) ≡ map id_of ms
all_models past ms =
    models_both (space_slots ms) (flat_map (slots_in past) ms)
    ∙ ap (λ (is : List ℕ). is ++ models_of (flat_map (slots_in past) ms)) (space_models ms)
    ∙ each_model past ms

-- the numbers of models, as they are read
abbrev model_ids : List ModelRow → List ℕ
model_ids rs = map (λ r. r.id) rs

id_read : (id : ℕ) (numbers : List ℕ) (reading : Reading)
    → id_of (reading_by id numbers reading) ≡ id
id_read id numbers (readings.Sound resolved used) = refl
id_read id numbers (readings.Faulty fault) = refl

ids_read : (rs : List ModelRow) (ms : List NamedModel) → length rs ≡ length ms
    → map id_of (readings_of rs ms) ≡ model_ids rs
ids_read [] ms l = refl
ids_read (r ∷ rs) [] l = absurd (omega (arith, l))
ids_read (r ∷ rs) (m ∷ ms) l =
    ap (λ (i : ℕ). i ∷ map id_of (readings_of rs ms)) (id_read r.id m.numbers.items m.reading)
    ∙ ap (λ (is : List ℕ). r.id ∷ is) (ids_read rs ms (omega (arith, l)))

-- ---- the verdicts among nodes

abbrev verdicts : List Node → List Node
verdicts [] = []
verdicts (n ∷ ns) = if is_verdict n.kind then n ∷ verdicts ns else verdicts ns

verdicts_both : (ns more : List Node) → verdicts (ns ++ more) ≡ verdicts ns ++ verdicts more
verdicts_both [] more = refl
verdicts_both (n ∷ ns) more = one (is_verdict n.kind) (verdicts_both ns more)
  where
    one : (b : Bool) → verdicts (ns ++ more) ≡ verdicts ns ++ verdicts more
        → (if b then n ∷ verdicts (ns ++ more) else verdicts (ns ++ more))
        ≡ (if b then n ∷ verdicts ns else verdicts ns) ++ verdicts more
    one true rest = ap (λ (ms : List Node). n ∷ ms) rest
    one false rest = rest

abbrev verdict : ℕ → ℕ → Node
verdict test model = record { kind = kinds.Verdict; test = test; of = model }

one_verdict : (k : Kind) (test of : ℕ) (ns : List Node) (is : List ℕ) → ns ≡ map (verdict test) is
    → (if is_verdict k then record { kind = k; test = test; of = of } ∷ ns else ns)
    ≡ map (verdict test) (if is_verdict k then of ∷ is else is)
one_verdict kinds.Space test of ns is e = e
one_verdict kinds.Group test of ns is e = e
one_verdict kinds.Check test of ns is e = e
one_verdict kinds.Verdict test of ns is e = ap (λ (ms : List Node). verdict test of ∷ ms) e

test_verdicts : (ss : List Slot) (test : ℕ)
    → verdicts (nodes_at ss test) ≡ map (verdict test) (models_of (map plain ss))
test_verdicts [] test = refl
test_verdicts (s ∷ ss) test =
    one_verdict s.kind test s.of (verdicts (nodes_at ss test)) (models_of (map plain ss))
    (test_verdicts ss test)

-- a row of verdicts for each test
abbrev all_verdicts : List TestRow → List ℕ → List Node
all_verdicts [] is = []
all_verdicts (r ∷ rs) is = map (verdict r.id) is ++ all_verdicts rs is

used_verdicts : (ss : List Slot) (rs : List TestRow)
    → verdicts (used_in ss rs) ≡ all_verdicts rs (models_of (map plain ss))
used_verdicts ss [] = refl
used_verdicts ss (r ∷ rs) =
    verdicts_both (nodes_at ss r.id) (used_in ss rs)
    ∙ ap (λ (ns : List Node). ns ++ verdicts (used_in ss rs)) (test_verdicts ss r.id)
    ∙ ap (λ (ns : List Node). map (verdict r.id) (models_of (map plain ss)) ++ ns)
    (used_verdicts ss rs)

-- ---- equal lists have equal rows

heads : {X : Type 0} {x y : X} {xs ys : List X} → x ∷ xs ≡ y ∷ ys → x ≡ y
heads e = cc

tails : {X : Type 0} {x y : X} {xs ys : List X} → x ∷ xs ≡ y ∷ ys → xs ≡ ys
tails e = cc

split : {X : Type 0} (xs ys zs ws : List X) → length xs ≡ length zs → xs ++ ys ≡ zs ++ ws
    → (xs ≡ zs) × (ys ≡ ws)
split [] ys [] ws l e = (refl, e)
split [] ys (z ∷ zs) ws l e = absurd (omega (arith, l))
split (x ∷ xs) ys [] ws l e = absurd (omega (arith, l))
split {X} (x ∷ xs) ys (z ∷ zs) ws l e =
    let rest = split xs ys zs ws (omega (arith, l)) (tails e) in
    (ap (λ (h : X). h ∷ xs) (heads e) ∙ ap (λ (t : List X). z ∷ t) rest.0, rest.1)

abbrev rows : List TestRow → List ℕ → List (List Node)
rows rs is = map (λ r. map (verdict r.id) is) rs

same_rows : (is js : List ℕ) (rs qs : List TestRow) → length is ≡ length js → length rs ≡ length qs
    → all_verdicts rs is ≡ all_verdicts qs js → rows rs is ≡ rows qs js
same_rows is js [] [] l m e = refl
same_rows is js [] (q ∷ qs) l m e = absurd (omega (arith, m))
same_rows is js (r ∷ rs) [] l m e = absurd (omega (arith, m))
same_rows is js (r ∷ rs) (q ∷ qs) l m e =
    let one = length-map is (verdict r.id) in
    let other = length-map js (verdict q.id) in
    let parts = split (map (verdict r.id) is) (all_verdicts rs is) (map (verdict q.id) js) (all_verdicts qs js) (omega (arith, l, one, other)) e in
    ap (λ (ns : List Node). ns ∷ rows rs is) parts.0
    ∙ ap (λ (nss : List (List Node)). map (verdict q.id) js ∷ nss)
    (same_rows is js rs qs l (omega (arith, m)) parts.1)

-- ---- the verdict of a test and a model

abbrev at_both : Option (List Node) → ℕ → Option Node
at_both None j = None
at_both (Some ns) j = slice_get ns j

by_row : (r : TestRow) (m : Option ModelRow)
    → verdict_by (Some r) m ≡ option_map (verdict r.id) (option_map (λ (m : ModelRow). m.id) m)
by_row r None = refl
by_row r (Some m) = refl

by_rows : (r : Option TestRow) (ms : List ModelRow) (j : ℕ)
    → verdict_by r (slice_get ms j)
    ≡ at_both (option_map (λ (r : TestRow). map (verdict r.id) (model_ids ms)) r) j
by_rows None ms j = refl
by_rows (Some r) ms j =
    by_row r (slice_get ms j)
    ∙ ap (option_map (verdict r.id)) (sym (slice_get-map (λ (m : ModelRow). m.id) ms j))
    ∙ sym (slice_get-map (verdict r.id) (model_ids ms) j)

verdict_at : (rs : List TestRow) (ms : List ModelRow) (i j : ℕ)
    → verdict_by (slice_get rs i) (slice_get ms j)
    ≡ at_both (slice_get (rows rs (model_ids ms)) i) j
verdict_at rs ms i j =
    by_rows (slice_get rs i) ms j
    ∙ ap (λ (o : Option (List Node)). at_both o j) (sym (slice_get-map
    (λ (r : TestRow). map (verdict r.id) (model_ids ms)) rs i))

-- ---- texts

row_count : (last : ℕ) (rs : List TestRow) (ts : List Test) (ls : List (Vec (List ℕ) Global))
    → AreTestRows last rs ts ls → length rs ≡ length ts
row_count last [] [] [] all = refl
row_count last [] [] (l ∷ ls) all = absurd all
row_count last [] (t ∷ ts) [] all = absurd all
row_count last [] (t ∷ ts) (l ∷ ls) all = absurd all
row_count last (r ∷ rs) [] [] all = absurd all
row_count last (r ∷ rs) [] (l ∷ ls) all = absurd all
row_count last (r ∷ rs) (t ∷ ts) [] all = absurd all
row_count last (r ∷ rs) (t ∷ ts) (l ∷ ls) all =
    let more = row_count last rs ts ls all.1 in omega (arith, more)

verdicts_of : (t : StampedTexts) → AreSoundTexts t
    → verdicts (used t.parts.table)
    ≡ all_verdicts t.parts.table.tests.items (model_ids t.parts.table.models.items)
verdicts_of t sound =
    let parts = sound.parts_are in
    let table = t.parts.table in
    let read = readings_of table.models.items t.texts.models.items in
    used_verdicts table.slots.items table.tests.items
    ∙ ap (λ (is : List ℕ). all_verdicts table.tests.items is)
    (ap models_of (parts.built).slots ∙ all_models (histories (stamped_state t)) read ∙ ids_read
    table.models.items t.texts.models.items parts.each_model)

pub same_verdicts : (t u : StampedTexts) → AreSoundTexts t → AreSoundTexts u → HasTextsOf t u
    → used u.parts.table ≡ used t.parts.table → (test model : List ℕ)
    → verdict_of u test model ≡ verdict_of t test model
same_verdicts t u sound later same nodes test model =
    let rs = t.parts.table.tests.items in
    let ms = t.parts.table.models.items in
    let qs = u.parts.table.tests.items in
    let ns = u.parts.table.models.items in
    let few = row_count t.parts.last rs t.texts.tests.items t.parts.locations.items ((sound.parts_are).built).tests in
    let more = row_count u.parts.last qs u.texts.tests.items u.parts.locations.items ((later.parts_are).built).tests in
    let tests : length qs ≡ length rs = more ∙ ap length same.tests ∙ sym few in
    let models : length ns ≡ length ms = (later.parts_are).each_model ∙ ap length same.models ∙ sym (sound.parts_are).each_model in
    let here = length-map ns (λ (m : ModelRow). m.id) in
    let there = length-map ms (λ (m : ModelRow). m.id) in
    let all = sym (verdicts_of u later) ∙ ap verdicts nodes ∙ verdicts_of t sound in
    let alike = same_rows (model_ids ns) (model_ids ms) qs rs (here ∙ models ∙ sym there) tests all in
    let i : ℕ = test_index test (texts_of t.texts).tests in
    let j : ℕ = model_index model (texts_of t.texts).models in
    ap
    (λ (b : BenchTexts). verdict_by (slice_get qs (test_index test b.tests))
    (slice_get ns (model_index model b.models))) same.texts
    ∙ verdict_at qs ns i j
    ∙ ap (λ (nss : List (List Node)). at_both (slice_get nss i) j) alike
    ∙ sym (verdict_at rs ms i j)
