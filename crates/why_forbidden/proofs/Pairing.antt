-- The lines of a drawing: the pairs of relations, and those that are drawn.
use Rattle.std.proofs.Common.{ℕ, zero, suc, ◌≡◌, ◌<◌, ◌+◌, ◌↔◌, ◌∙◌, List, [], ◌∷◌, ◌++◌, get_or, length, take, sym, ap, subst, arith}
use Rattle.std.proofs.lemmas.List.{take_more}
use Rattle.binding_graph.proofs.Labels.{zip_push}
use Rattle.std.specs.List.{AllZip}
use Rattle.bit_rows.specs.Pairs.{Restriction}
use Rattle.bit_rows.specs.Relation.{Events, IsRelation, Relation}
use Rattle.binding_kinds.specs.declared.kinds.Kind.TheVariants as kinds
use Rattle.binding_graph.specs.declared.resolved.Source.TheVariants as sources
use Rattle.binding_graph.specs.Trees.{RelName}
use Rattle.candidate_spaces.specs.declared.candidate.Space.{Space}
use Rattle.candidate_spaces.specs.Space.{Candidate}
use Rattle.cat_machine.specs.Columns.{HasColumnValue}
use Rattle.cat_machine.specs.Executions.{events_of, EventsAt, PairsAt}
use Rattle.cat_machine.specs.Values.{IsFor, IsMeaning}
use Rattle.predefined_names.specs.declared.predefined.Predefined.{Predefined}
use Rattle.draw_graph.specs.declared.drawing.Edges.{Edges}
use Rattle.draw_graph.specs.declared.drawing.Ink.{Ink}
use Rattle.draw_graph.specs.Drawn.{AreEdges, Drawn, DrawnAmong, IsStrictOrder}
use Rattle.why_witness.specs.Pairs.{HasPair}
use Rattle.draw_relations.specs.declared.values.ShownValues.{ShownValues}
use Rattle.why_labels.specs.declared.label.PredefinedValue.{PredefinedValue}
use Rattle.why_forbidden.specs.declared.lines.DrawnRelation.{DrawnRelation}
use Rattle.why_forbidden.specs.Drawable.{AreValuesOf}
use Rattle.why_forbidden.specs.Drawings.{AreAllLines, AreLines, AreShownLines, IsCandidateAt, PairsOfName, Subject, relations}
use Rattle.why_forbidden.specs.Language.{IsOfLanguage}

-- ---- the same pairs are drawn alike

order_as : (R Q : ℕ → ℕ → Type 0) → ((a b : ℕ) → R a b ↔ Q a b) → IsStrictOrder R → IsStrictOrder Q
order_as R Q same ordered = let (irreflexive, transitive) = ordered in (
  (λ a q. irreflexive a ((same a a).1 q)),
  (λ a b q.
      let (c, l, r) = q in
      (same a b).0 (transitive a b (c, (same a c).1 l, (same c b).1 r))),
)

drawn_as : (R Q : ℕ → ℕ → Type 0) → ((a b : ℕ) → R a b ↔ Q a b) → (a b : ℕ) → Drawn R a b
    → Drawn Q a b
drawn_as R Q same a b drawn = let (r, alone) = drawn in (
  (same a b).0 r,
  (λ ordered between.
      let (c, l, s) = between in
      alone (order_as Q R (λ x y. ((same x y).1, (same x y).0)) ordered)
      (c, (same a c).1 l, (same c b).1 s)),
)

among_as : (S T : ℕ → Type 0) (R Q : ℕ → ℕ → Type 0) → ((a : ℕ) → S a ↔ T a)
    → ((a b : ℕ) → R a b ↔ Q a b) → (a b : ℕ) → Restriction R S a b ↔ Restriction Q T a b
among_as S T R Q events pairs a b = (
  (λ x. let (r, s, t) = x in ((pairs a b).0 r, (events a).0 s, (events b).0 t)),
  (λ x. let (r, s, t) = x in ((pairs a b).1 r, (events a).1 s, (events b).1 t)),
)

pub edges_as : (S T : ℕ → Type 0) (R Q : ℕ → ℕ → Type 0) → ((a : ℕ) → S a ↔ T a)
    → ((a b : ℕ) → R a b ↔ Q a b) → (edges : List (ℕ × ℕ)) → AreEdges (DrawnAmong S R) edges
    → AreEdges (DrawnAmong T Q) edges
edges_as S T R Q events pairs edges old = record {
  rising = old.rising;
  exact =
      λ p. (
        (λ here. forth p.0 p.1 ((old.exact p).0 here)),
        (λ drawn. (old.exact p).1 (back p.0 p.1 drawn)),
      );
}
  where
    forth : (a b : ℕ) → DrawnAmong S R a b → DrawnAmong T Q a b
    forth = drawn_as (Restriction R S) (Restriction Q T) (among_as S T R Q events pairs)

    back : (a b : ℕ) → DrawnAmong T Q a b → DrawnAmong S R a b
    back =
        drawn_as (Restriction Q T) (Restriction R S) (λ a b.
        let both = among_as S T R Q events pairs a b in (both.1, both.0))

-- ---- the value of a name of the language

pub named_pairs : (space : Space) (v : PredefinedValue) (k : ℕ) (one : Candidate) (found : Relation)
    → IsOfLanguage space v → IsCandidateAt space k one
    → ((s : Events) (r : Relation) → IsFor kinds.OfRelation v.column → HasColumnValue v.column k s r
    → found ≡ r) → IsRelation found (events_of one) (PairsOfName one v.name)
named_pairs space v k one found of is read =
    let (s, r, has, meant) = of.values.values k one is in
    let suited : IsFor kinds.OfRelation v.column = rw of.kind at of.values.suited in
    let n = events_of one in
    let as_relation : IsMeaning kinds.OfRelation of.code.steps.items n (EventsAt n one [] k) (PairsAt n one [] k) s r = rw of.kind at meant in
    subst (λ (x : Relation). IsRelation x n (PairsOfName one v.name)) (sym (read s r suited has))
    (as_relation (RelName (sources.Predefined v.name)) of.steps)

-- ---- the lines of a relation

pub lines_with : (one : Candidate) (S : ℕ → Type 0) (r : DrawnRelation)
    (relation : Predefined × Ink) (space : Space) (e : Edges) → AreValuesOf space relation r
    → AreLines one S (r.value.name, r.ink) e → AreLines one S relation e
lines_with one S r relation space e are lines =
    subst (λ (x : Predefined × Ink). AreLines one S x e)
    (ap (λ (n : Predefined). (n, r.ink)) are.name ∙ ap (λ (i : Ink). (relation.0, i)) are.ink) lines

pub lines_as : (one : Candidate) (S T : ℕ → Type 0) → ((a : ℕ) → S a ↔ T a)
    → (relation : Predefined × Ink) (e : Edges) → AreLines one S relation e
    → AreLines one T relation e
lines_as one S T events relation e lines = record {
  name = lines.name;
  ink = lines.ink;
  pairs =
      edges_as S T (PairsOfName one relation.0) (PairsOfName one relation.0) events
      (λ a b. ((λ x. x), (λ x. x))) e.pairs.items lines.pairs;
}

all_lines_as : (one : Candidate) (S T : ℕ → Type 0) → ((a : ℕ) → S a ↔ T a)
    → (relations : List (Predefined × Ink)) (edges : List Edges)
    → AllZip (AreLines one S) relations edges → AllZip (AreLines one T) relations edges
all_lines_as one S T events [] [] lines = lines
all_lines_as one S T events [] (e ∷ es) lines = lines
all_lines_as one S T events (r ∷ rs) [] lines = lines
all_lines_as one S T events (r ∷ rs) (e ∷ es) lines =
    (lines_as one S T events r e lines.0, all_lines_as one S T events rs es lines.1)

shown_as : (k : ℕ) (S T : ℕ → Type 0) → ((a : ℕ) → S a ↔ T a) → (v : ShownValues) (e : Edges)
    → AreShownLines k S v e → AreShownLines k T v e
shown_as k S T events v e lines = record {
  name = lines.name;
  ink = lines.ink;
  pairs =
      edges_as S T (HasPair v.values k) (HasPair v.values k) events (λ a b. ((λ x. x), (λ x. x)))
      e.pairs.items lines.pairs;
}

all_shown_as : (k : ℕ) (S T : ℕ → Type 0) → ((a : ℕ) → S a ↔ T a)
    → (vs : List ShownValues) (es : List Edges) → AllZip (AreShownLines k S) vs es
    → AllZip (AreShownLines k T) vs es
all_shown_as k S T events [] [] lines = lines
all_shown_as k S T events [] (e ∷ es) lines = lines
all_shown_as k S T events (v ∷ vs) [] lines = lines
all_shown_as k S T events (v ∷ vs) (e ∷ es) lines =
    (shown_as k S T events v e lines.0, all_shown_as k S T events vs es lines.1)

pub edges_as_drawn : (s : Subject) (k : ℕ) (one : Candidate) (S T : ℕ → Type 0)
    → ((a : ℕ) → S a ↔ T a) → (es : List Edges) → AreAllLines s k one S es
    → AreAllLines s k one T es
edges_as_drawn s k one S T events es lines = record {
  known = lines.known;
  shown = lines.shown;
  both = lines.both;
  of_language = all_lines_as one S T events relations lines.known lines.of_language;
  of_model = all_shown_as k S T events s.shown lines.shown lines.of_model;
}

-- ---- lists side by side

pub zip_at : {A B : Type 0} (R : A → B → Type 0) (xs : List A) (ys : List B) (i : ℕ) (d : A) (y : B)
    → AllZip R xs ys → i < length ys → y ≡ get_or ys i y → R (get_or xs i d) y
zip_at R [] [] i d y h lt is = absurd (omega (arith, lt))
zip_at R [] (z ∷ zs) i d y h lt is = absurd h
zip_at R (x ∷ xs) [] i d y h lt is = absurd h
zip_at R (x ∷ xs) (z ∷ zs) zero d y h lt is = subst (λ w. R x w) (sym is) h.0
zip_at R (x ∷ xs) (z ∷ zs) (suc i) d y h lt is = zip_at R xs zs i d y h.1 (omega (arith, lt)) is

pub zip_more : {A B : Type 0} (R : A → B → Type 0) (xs : List A) (i : ℕ) (d : A) (ys : List B)
    (y : B) → i < length xs → AllZip R (take i xs) ys → R (get_or xs i d) y
    → AllZip R (take (i + 1) xs) (ys ++ y ∷ [])
zip_more R xs i d ys y lt h one =
    subst (λ ts. AllZip R ts (ys ++ y ∷ [])) (sym (take_more xs i d lt))
    (zip_push R (take i xs) ys (get_or xs i d) y h one)
