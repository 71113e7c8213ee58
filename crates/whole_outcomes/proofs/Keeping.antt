-- Where a candidate stays, names stand for the same over all as over the fewer, and have the values
-- that they have there.
use Rattle.std.proofs.Common.{ℕ, ◌≡◌, ◌<◌, zero, suc, List, [], ◌∷◌, length, get_or, Bool, true, false, Option, Some, Bor, refl, ap, ◌∙◌, sym, subst}
use Rattle.std.specs.Prelude.{slice_get}
use Rattle.std.proofs.Math.Path.{fun_ext}
use Rattle.bit_rows.specs.Relation.{Relation, Events, no_slot}
use Rattle.base_names.specs.Known.{EventsFound}
use Rattle.binding_graph.specs.declared.resolved.Body.{Body}
use Rattle.binding_graph.specs.declared.resolved.Source.{Source}
use Rattle.binding_graph.specs.declared.resolved.Source.TheVariants as sources
use Rattle.candidate_spaces.specs.Space.{Candidate}
use Rattle.cat_machine.specs.declared.column.Column.{Column}
use Rattle.cat_machine.specs.declared.column.Column.TheVariants as columns
use Rattle.cat_machine.specs.Columns.{HasColumnValue, HaveValues}
use Rattle.cat_machine.specs.Executions.{events_of, EventsAt, PairsAt}
use Rattle.cat_machine.specs.Named.{ColumnEvents, ColumnPairs, InputEvents, InputPairs, PairsFound}
use Rattle.order_growth.proofs.KeptNames.{HaveSameNames, count_kept, events_kept, pairs_kept}
use Rattle.whole_outcomes.specs.Whole.{AreAlike, HaveSameValue, AreInputsKept}

-- ---- what a column has

events_same : (c d : Column) (k j n : ℕ) → HaveSameValue c k d j
    → ColumnEvents c k n ≡ ColumnEvents d j n
events_same (columns.Sets xs) (columns.Sets ys) k j n h =
    ap (λ (o : Option Events). EventsFound o n) h
events_same (columns.Sets xs) (columns.Relations ys) k j n h = absurd h
events_same (columns.Relations xs) (columns.Sets ys) k j n h = absurd h
events_same (columns.Relations xs) (columns.Relations ys) k j n h = refl

pairs_same : (c d : Column) (k j n : ℕ) → HaveSameValue c k d j
    → ColumnPairs c k n ≡ ColumnPairs d j n
pairs_same (columns.Sets xs) (columns.Sets ys) k j n h = refl
pairs_same (columns.Sets xs) (columns.Relations ys) k j n h = absurd h
pairs_same (columns.Relations xs) (columns.Sets ys) k j n h = absurd h
pairs_same (columns.Relations xs) (columns.Relations ys) k j n h =
    ap (λ (o : Option Relation). PairsFound o n) h

value_kept : (c d : Column) (k j : ℕ) (s : Events) (r : Relation) → HaveSameValue c k d j
    → HasColumnValue d j s r → HasColumnValue c k s r
value_kept (columns.Sets xs) (columns.Sets ys) k j s r h has = h ∙ has
value_kept (columns.Sets xs) (columns.Relations ys) k j s r h has = absurd h
value_kept (columns.Relations xs) (columns.Sets ys) k j s r h has = absurd h
value_kept (columns.Relations xs) (columns.Relations ys) k j s r h has = h ∙ has

-- ---- the names of a group

pub values_kept : (recursive : Bool) (bodies : List Body) (n : ℕ) (sets : Source → ℕ → Type 0)
    (outer : Source → ℕ → ℕ → Type 0) (k j : ℕ) (cs ds : List Column)
    → ((p : ℕ) → p < length bodies → (c d : Column)
    → HaveSameValue (get_or cs p c) k (get_or ds p d) j)
    → HaveValues recursive bodies n sets outer j ds → HaveValues recursive bodies n sets outer k cs
values_kept false bodies n sets outer k j cs ds same h = λ p lt c b.
    let x = h p lt c b in (
      x.0,
      x.1,
      value_kept (get_or cs p c) (get_or ds p c) k j x.0 x.1 (same p lt c c) x.2,
      x.3,
    )
values_kept true bodies n sets outer k j cs ds same h = λ trees codes rises.
    let x = h trees codes rises in (
      x.0,
      x.1,
      λ p lt c.
          let y = x.2 p lt c in (
            y.0,
            value_kept (get_or cs p c) (get_or ds p c) k j y.0 (get_or x.0 p no_slot) (same p lt c c) y.1,
          ),
    )

-- ---- the names that an item uses

module _ (indexes : List (Option ℕ)) (k j : ℕ) (stays : slice_get indexes k ≡ Some (Some j)) where
  input_events : (inputs others : List (Bor Column)) → AreInputsKept indexes inputs others
      → (n index : ℕ)
      → InputEvents (slice_get inputs index) k n ≡ InputEvents (slice_get others index) j n
  input_events [] [] h n index = refl
  input_events [] (d ∷ ds) h n index = absurd h
  input_events (c ∷ cs) [] h n index = absurd h
  input_events (c ∷ cs) (d ∷ ds) h n zero = events_same c.now d.now k j n (h.0 k j stays)
  input_events (c ∷ cs) (d ∷ ds) h n (suc index) = input_events cs ds h.1 n index

  input_pairs : (inputs others : List (Bor Column)) → AreInputsKept indexes inputs others
      → (n index : ℕ)
      → InputPairs (slice_get inputs index) k n ≡ InputPairs (slice_get others index) j n
  input_pairs [] [] h n index = refl
  input_pairs [] (d ∷ ds) h n index = absurd h
  input_pairs (c ∷ cs) [] h n index = absurd h
  input_pairs (c ∷ cs) (d ∷ ds) h n zero = pairs_same c.now d.now k j n (h.0 k j stays)
  input_pairs (c ∷ cs) (d ∷ ds) h n (suc index) = input_pairs cs ds h.1 n index

  module _ (inputs others : List (Bor Column)) (kept : AreInputsKept indexes inputs others)
      (one two : Candidate) (alike : AreAlike one two) where
    back : HaveSameNames two one
    back = record {
      facts = record { events = sym alike.events; dependencies = sym alike.dependencies };
      reads = sym alike.reads;
      coherence = sym alike.coherence;
    }

    input_names : (n : ℕ) → EventsAt n one others j ≡ EventsAt n one inputs k
    input_names n = fun_ext at_source
      where
        at_source : (source : Source)
            → EventsAt n one others j source ≡ EventsAt n one inputs k source
        at_source (sources.Predefined name) = refl
        at_source (sources.Input index) = sym (input_events inputs others kept n index)
        at_source (sources.Own position) = refl

    input_relations : (n : ℕ) → PairsAt n one others j ≡ PairsAt n one inputs k
    input_relations n = fun_ext at_source
      where
        at_source : (source : Source) → PairsAt n one others j source ≡ PairsAt n one inputs k source
        at_source (sources.Predefined name) = refl
        at_source (sources.Input index) = sym (input_pairs inputs others kept n index)
        at_source (sources.Own position) = refl

    named_events : (n : ℕ) → EventsAt n two others j ≡ EventsAt n one inputs k
    named_events n = events_kept two one back others others refl j n ∙ input_names n

    named_pairs : (n : ℕ) → PairsAt n two others j ≡ PairsAt n one inputs k
    named_pairs n = pairs_kept two one back others others refl j n ∙ input_relations n

    -- what holds where the names stand for what they do over the fewer
    pub holds_over_all : (P : ℕ → (Source → ℕ → Type 0) → (Source → ℕ → ℕ → Type 0) → Type 0)
        → P (events_of two) (EventsAt (events_of two) two others j)
        (PairsAt (events_of two) two others j)
        → P (events_of one) (EventsAt (events_of one) one inputs k)
        (PairsAt (events_of one) one inputs k)
    holds_over_all P h =
        let n = events_of one in
        let counted : P n (EventsAt n two others j) (PairsAt n two others j) =
        subst (λ (m : ℕ). P m (EventsAt m two others j) (PairsAt m two others j))
        (count_kept two one back others others refl j) h in
        let named : P n (EventsAt n one inputs k) (PairsAt n two others j) =
        subst (λ (S : Source → ℕ → Type 0). P n S (PairsAt n two others j)) (named_events n) counted in
        subst (λ (R : Source → ℕ → ℕ → Type 0). P n (EventsAt n one inputs k) R) (named_pairs n) named
