-- Lemmas on relations at spans of a list of words.
use Rattle.std.proofs.Common.{ℕ, map, ◌≡◌, ◌+◌, ◌<◌, ◌≤◌, ◌↔◌, List, [], ◌∷◌, ◌++◌, length, get_or, sym, ap, ◌∙◌, arith}
use Rattle.std.proofs.lemmas.List.{length-map, get_or-map, map-append}
use Rattle.bit_relations.specs.Packing.{ArePacked, packed}
use Rattle.bit_rows.specs.Relation.{Relation, IsRegular, IsRelation, no_slot}
use Rattle.bit_rows.specs.Rows.{StoredPairs, AreStored}
use Rattle.bit_relations.proofs.Packing.{as_many, few_there, high_room, kept, low_room, one_more, read_again, same_there, told}
use Rattle.bit_relations.proofs.Packing.{count_there as relation_count}
use Rattle.relation_columns.specs.declared.spans.Span.{Span}
use Rattle.relation_columns.specs.declared.runs.Run.{Run}
use Rattle.relation_columns.specs.Storage.{AreRelationsAt, relations_at, run_values}
use Rattle.relation_columns.proofs.Expanding.{as_many_values, value_there, values_more}

abbrev counts : List (Run Span) → List ℕ
counts runs = map (λ p. p.count) (run_values runs)

abbrev starts : List (Run Span) → List ℕ
starts runs = map (λ p. p.start) (run_values runs)

-- the span of a run
count_there : (runs : List (Run Span)) (k : ℕ) (d : Run Span) → k < length runs
    → get_or (counts runs) k 0 ≡ (get_or runs k d).value.count
count_there runs k d lt =
    get_or-map (λ (p : Span). p.count) (run_values runs) k d.value 0
    (omega (arith, lt, as_many_values runs))
    ∙ ap (λ p. p.count) (sym (value_there runs k d d.value lt))

start_there : (runs : List (Run Span)) (k : ℕ) (d : Run Span) → k < length runs
    → get_or (starts runs) k 0 ≡ (get_or runs k d).value.start
start_there runs k d lt =
    get_or-map (λ (p : Span). p.start) (run_values runs) k d.value 0
    (omega (arith, lt, as_many_values runs))
    ∙ ap (λ p. p.start) (sym (value_there runs k d d.value lt))

pub inside : (runs : List (Run Span)) (ws : List ℕ) (k : ℕ) → AreRelationsAt (run_values runs) ws
    → k < length runs → k < length (relations_at (run_values runs) ws)
inside runs ws k h lt =
    omega (
      arith,
      lt,
      as_many h,
      length-map (run_values runs) (λ (p : Span). p.count),
      as_many_values runs,
    )

-- its words stand in the list
pub few_events : (runs : List (Run Span)) (ws : List ℕ) (k : ℕ) (d : Run Span)
    → AreRelationsAt (run_values runs) ws → k < length runs → (get_or runs k d).value.count ≤ 128
few_events runs ws k d h lt =
    rw (← count_there runs k d lt) (few_there k no_slot h (inside runs ws k h lt))

pub low_words : (runs : List (Run Span)) (ws : List ℕ) (k : ℕ) (d : Run Span)
    → AreRelationsAt (run_values runs) ws → k < length runs
    → (get_or runs k d).value.start + (get_or runs k d).value.count ≤ length ws
low_words runs ws k d h lt =
    rw (← count_there runs k d lt, ← start_there runs k d lt)
    (low_room k no_slot h (inside runs ws k h lt))

pub high_words : (runs : List (Run Span)) (ws : List ℕ) (k : ℕ) (d : Run Span)
    → AreRelationsAt (run_values runs) ws → k < length runs → 64 < (get_or runs k d).value.count
    → (get_or runs k d).value.start + (get_or runs k d).value.count + (get_or runs k d).value.count
    ≤ length ws
high_words runs ws k d h lt =
    rw (← count_there runs k d lt, ← start_there runs k d lt)
    (high_room k no_slot h (inside runs ws k h lt))

-- what they say
pub value_read : (runs : List (Run Span)) (ws : List ℕ) (k : ℕ) (d : Run Span) (v : Relation)
    → AreRelationsAt (run_values runs) ws → k < length runs
    → IsRelation v (get_or runs k d).value.count (StoredPairs ws (get_or runs k d).value.start
    (get_or runs k d).value.count) → v ≡ get_or (relations_at (run_values runs) ws) k no_slot
value_read runs ws k d v h lt =
    rw (← count_there runs k d lt, ← start_there runs k d lt)
    (read_again k no_slot v h (inside runs ws k h lt))

pub is_there : (runs : List (Run Span)) (ws : List ℕ) (k : ℕ) (d : Run Span) (r : Relation)
    → AreRelationsAt (run_values runs) ws → k < length runs → (get_or runs k d).value.count ≡ r.count
    → IsRegular r
    → AreStored ws (get_or runs k d).value.start r
    ↔ (get_or (relations_at (run_values runs) ws) k no_slot ≡ r)
is_there runs ws k d r h lt count g =
    rw (← start_there runs k d lt) (same_there k r h (inside runs ws k h lt)
    (count_there runs k d lt ∙ count) g)

pub other_count : (runs : List (Run Span)) (ws : List ℕ) (k : ℕ) (d : Run Span) (r : Relation)
    → AreRelationsAt (run_values runs) ws → k < length runs
    → get_or (relations_at (run_values runs) ws) k no_slot ≡ r
    → (get_or runs k d).value.count ≡ r.count
other_count runs ws k d r h lt e =
    sym (count_there runs k d lt)
    ∙ (relation_count k no_slot h (inside runs ws k h lt) ∙ ap (λ (x : Relation). x.count) e)

-- one more
placed : (ps : List Span) (p : Span) (ws : List ℕ) (r : Relation) → AreRelationsAt ps ws → IsRegular r
    → p.start ≡ length ws → p.count ≡ r.count
    → ArePacked (map (λ q. q.count) (ps ++ p ∷ [])) (map (λ q. q.start) (ps ++ p ∷ []))
    (ws ++ packed r) (relations_at ps ws ++ r ∷ [])
placed ps p ws r h g start count =
    rw (
      map-append (λ (q : Span). q.count) ps (p ∷ []),
      map-append (λ (q : Span). q.start) ps (p ∷ []),
      start,
      count,
    )
    (one_more r h g)

pub pushed : (runs runs1 runs2 : List (Run Span)) (ws ws2 : List ℕ) (r : Relation)
    (run : Run Span) → AreRelationsAt (run_values runs) ws → IsRegular r → run.value.start ≡ length ws
    → run.value.count ≡ r.count → runs1 ≡ runs → runs2 ≡ runs1 ++ run ∷ [] → ws2 ≡ ws ++ packed r
    → AreRelationsAt (run_values runs2) ws2
    × (relations_at (run_values runs2) ws2 ≡ relations_at (run_values runs) ws ++ r ∷ [])
pushed runs runs1 runs2 ws ws2 r run h g start count same more words =
    let values : run_values runs2 ≡ run_values runs ++ run.value ∷ [] = values_more runs1 runs2 run more ∙ ap (λ rs. run_values rs ++ run.value ∷ []) same in
    let all = placed (run_values runs) run.value ws r h g start count in
    rw (values, words) (kept all, told all)
