-- What an expression relates is joined by a walk through its factors.
use Rattle.std.proofs.Common.{ℕ, zero, suc, ◌≡◌, ◌<◌, ◌↔◌, ◌++◌, ◌∙◌, inl, inr, List, [], ◌∷◌, length, get_or, map, refl, sym, ap, subst, arith}
use Rattle.std.specs.Prelude.{slice_get, Some}
use Rattle.std.specs.List.{All}
use Rattle.std.proofs.lemmas.List.Elements.{All-cons, All-tail}
use denote.Ref.{Bor}
use Rattle.bit_rows.specs.Pairs.{Path, Plus}
use Rattle.bit_rows.specs.Relation.{Relation, Events, Has, IsRelation}
use Rattle.binding_kinds.specs.declared.kinds.Kind.{Kind}
use Rattle.binding_kinds.specs.declared.kinds.Kind.TheVariants as kinds
use Rattle.binding_graph.specs.declared.resolved.Code.{Code}
use Rattle.binding_graph.specs.declared.resolved.Source.{Source}
use Rattle.binding_graph.specs.Trees.{RelTree, RelName, NoPair, BlendRelations, SequenceRelations, ProductOfSets, IdentityOn, Close, ComplementRelation, rel_code}
use Rattle.candidate_spaces.specs.declared.candidate.Space.{Space}
use Rattle.candidate_spaces.specs.Space.{candidates_in, Candidate}
use Rattle.cat_machine.specs.declared.column.Column.{Column}
use Rattle.cat_machine.specs.declared.column.Column.TheVariants as columns
use Rattle.cat_machine.specs.Columns.{HasColumnValue}
use Rattle.cat_machine.specs.Executions.{events_of, EventsAt, PairsAt}
use Rattle.cat_machine.specs.Meaning.{MeansRelation}
use Rattle.cat_machine.specs.Named.{WithOwn, OwnPairs}
use Rattle.cat_machine.specs.Values.{IsFor, IsMeaning}
use Rattle.why_witness.specs.Pairs.{HasPair}
use Rattle.text_values.specs.declared.model.Postfix.TheVariants as postfix
use Rattle.relation_cycles.specs.Cycles.{IsPathFrom}
use Rattle.why_walks.specs.declared.run.Link.{Link}
use Rattle.why_walks.specs.declared.value.FactorValues.{FactorValues}
use Rattle.why_walks.specs.Factors.{FactorSteps, factors_of, repeated, repeats_of, tree_part}
use Rattle.why_walks.specs.Found.{HasWalks, IsWalked}
use Rattle.why_walks.specs.Values.{AreFactorValues, AreLinksAt, IsLinkAt, IsOn, HasFactorColumn, value_part}
use Rattle.why_walks.specs.Walks.{IsFactorRun}

-- ---- an expression is its factors in turn

module _ (n : ℕ) (sets : Source → ℕ → Type 0) (rels : Source → ℕ → ℕ → Type 0) where
  abbrev pub InTurn : List RelTree → ℕ → ℕ → Type 0
  InTurn [] a b = a ≡ b
  InTurn (t ∷ ts) a b = (c : ℕ) × MeansRelation n sets rels t a c × InTurn ts c b

  turns_both : (ts us : List RelTree) (a c b : ℕ) → InTurn ts a c → InTurn us c b
      → InTurn (ts ++ us) a b
  turns_both [] us a c b p q = subst (λ (x : ℕ). InTurn us x b) (sym p) q
  turns_both (t ∷ ts) us a c b p q = (p.0, p.1, turns_both ts us p.0 c b p.2 q)

  in_turn : (t : RelTree) (a b : ℕ) → MeansRelation n sets rels t a b → InTurn (factors_of t) a b
  in_turn (RelName source) a b m = (b, m, refl)
  in_turn NoPair a b m = (b, m, refl)
  in_turn (BlendRelations how e f) a b m = (b, m, refl)
  in_turn (SequenceRelations e f) a b m =
      turns_both (factors_of e) (factors_of f) a m.0 b (in_turn e a m.0 m.1) (in_turn f m.0 b m.2)
  in_turn (ProductOfSets s t) a b m = (b, m, refl)
  in_turn (IdentityOn s) a b m = (b, m, refl)
  in_turn (Close how e) a b m = (b, m, refl)
  in_turn (ComplementRelation e) a b m = (b, m, refl)

  -- ---- one factor

  module _ (r : Relation) where
    path : (R : ℕ → ℕ → Type 0) → ((a b : ℕ) → R a b → Has r a b) → (a b : ℕ) → Plus R a b
        → (events : List ℕ) × IsPathFrom (Has r) a b events
    path R to a b p = (a ∷ p.0, (refl, go a p.0 p.1))
      where
        go : (x : ℕ) (xs : List ℕ) → Path R x xs b → Path (Has r) x xs b
        go x [] h = to x b h
        go x (c ∷ cs) h = (to x c h.0, go c cs h.1)

    run : (t : RelTree) → ((a b : ℕ) → MeansRelation n sets rels (repeated t) a b → Has r a b) → (a b : ℕ)
        → MeansRelation n sets rels t a b → (events : List ℕ) × IsFactorRun (repeats_of t) (Has r) a events b
    run (RelName source) to a b m = (a ∷ [], (refl, to a b m))
    run NoPair to a b m = (a ∷ [], (refl, to a b m))
    run (BlendRelations how e f) to a b m = (a ∷ [], (refl, to a b m))
    run (SequenceRelations e f) to a b m = (a ∷ [], (refl, to a b m))
    run (ProductOfSets s t) to a b m = (a ∷ [], (refl, to a b m))
    run (IdentityOn s) to a b m = (a ∷ [], (refl, to a b m))
    run (Close postfix.Transitive e) to a b m = path (MeansRelation n sets rels e) to a b m
    run (Close postfix.Reflexive e) to a b (inl same) = ([], inl (refl, same.1))
    run (Close postfix.Reflexive e) to a b (inr m) = (a ∷ [], inr (refl, to a b m))
    run (Close postfix.Inverse e) to a b m = (a ∷ [], (refl, to a b m))
    run (Close postfix.Closure e) to a b (inl same) = ([], inl (refl, same.1))
    run (Close postfix.Closure e) to a b (inr m) =
        let p = path (MeansRelation n sets rels e) to a b m in (p.0, inr p.1)
    run (ComplementRelation e) to a b m = (a ∷ [], (refl, to a b m))

-- ---- the values of a factor

some_same : {X : Type 0} {x y : X} → Some x ≡ Some y → x ≡ y
some_same e = cc

-- the value in the candidate of number k has the pairs, and their number of events
record IsIts (c : Column) (k : ℕ) (r : Relation) : Type 0 where
  pairs : (a b : ℕ) → Has r a b ↔ HasPair c k a b
  count : (n : ℕ) → IsOn k n c → r.count ≡ n

is_its : (c : Column) (k : ℕ) (s : Events) (r : Relation) → IsFor kinds.OfRelation c
    → HasColumnValue c k s r → IsIts c k r
is_its (columns.Sets values) k s r suits has = absurd suits
is_its (columns.Relations values) k s r suits has = record {
  pairs =
      λ a b. (
        (λ h. (r, has, h)),
        (λ h. subst (λ (q : Relation). Has q a b) (some_same (sym h.1 ∙ has)) h.2),
      );
  count = λ n on. ap (λ (q : Relation). q.count) (some_same (sym has ∙ on.1)) ∙ on.2;
}

is_on : (c : Column) (k n : ℕ) (s : Events) (r : Relation) → IsFor kinds.OfRelation c
    → HasColumnValue c k s r → r.count ≡ n → IsOn k n c
is_on (columns.Sets values) k n s r suits has count = absurd suits
is_on (columns.Relations values) k n s r suits has count = (r, has, count)

module _ (inputs : List (Bor Column)) (space : Space) (k : ℕ) (one : Candidate)
    (at : slice_get (candidates_in space.combinations.items) k ≡ Some one) where
  abbrev its_events : Source → ℕ → Type 0
  its_events = EventsAt (events_of one) one inputs k

  abbrev its_pairs : Source → ℕ → ℕ → Type 0
  its_pairs = WithOwn (PairsAt (events_of one) one inputs k) (OwnPairs (events_of one) [])

  record IsLinked (t : RelTree) (f : FactorValues) : Type 0 where
    link : Link
    is : IsLinkAt k f link
    repeats : link.repeats ≡ repeats_of t
    pairs : (a b : ℕ) → MeansRelation (events_of one) its_events its_pairs (repeated t) a b
        → Has link.relation a b
    on : IsOn k (events_of one) f.values

  linked : (t : RelTree) (f : FactorValues) → value_part f ≡ tree_part t → HasFactorColumn inputs space f
      → IsLinked t f
  linked t f part valued =
      let (s, r, has, meant) = valued.values.values k one at in
      let suits : IsFor kinds.OfRelation f.values = subst (λ (a : Kind). IsFor a f.values) valued.kind valued.values.suited in
      let its : IsIts f.values k r = is_its f.values k s r suits has in
      let means : IsMeaning kinds.OfRelation f.code.steps.items (events_of one) its_events (PairsAt (events_of one) one inputs k) s r =
      subst
      (λ (a : Kind). IsMeaning a f.code.steps.items (events_of one) its_events
      (PairsAt (events_of one) one inputs k) s r) valued.kind meant in
      let are : IsRelation r (events_of one) (MeansRelation (events_of one) its_events its_pairs (repeated t)) = means (repeated t) (ap (λ (p : FactorSteps). p.steps) part) in
      record {
        link = record { repeats = f.repeats; relation = r };
        is = record { repeats = refl; pairs = its.pairs; regular = are.regular; count = its.count };
        repeats = ap (λ (p : FactorSteps). p.repeats) part;
        pairs = λ a b m. (are.pairs a b).1 m;
        on = is_on f.values k (events_of one) s r suits has are.count;
      }

  heads : {X : Type 0} {x y : X} {xs ys : List X} → x ∷ xs ≡ y ∷ ys → x ≡ y
  heads e = cc

  tails : {X : Type 0} {x y : X} {xs ys : List X} → x ∷ xs ≡ y ∷ ys → xs ≡ ys
  tails e = cc

  links_more : (f : FactorValues) (fs : List FactorValues) (l : Link) (ls : List Link)
      → IsLinkAt k f l → AreLinksAt k fs ls → AreLinksAt k (f ∷ fs) (l ∷ ls)
  links_more f fs l ls first rest =
      record { as_many = ap (λ (i : ℕ). suc i) rest.as_many; each = each }
    where
      each : (j : ℕ) → j < length (f ∷ fs) → (g : FactorValues) (m : Link)
          → IsLinkAt k (get_or (f ∷ fs) j g) (get_or (l ∷ ls) j m)
      each zero lt g m = first
      each (suc j) lt g m = rest.each j (omega (arith, lt)) g m

  walked : (ts : List RelTree) (fs : List FactorValues) → map value_part fs ≡ map tree_part ts
      → All (HasFactorColumn inputs space) fs → (a b : ℕ)
      → InTurn (events_of one) its_events its_pairs ts a b → IsWalked k fs a b
  walked [] [] same all a b p =
      ([], [], record { as_many = refl; each = λ j lt. absurd (omega (arith, lt)) }, p)
  walked [] (f ∷ fs) same all a b p = absurd cc
  walked (t ∷ ts) [] same all a b p = absurd cc
  walked (t ∷ ts) (f ∷ fs) same all a b p =
      let l : IsLinked t f = linked t f (heads same) (all 0 f (omega arith)) in
      let step = run (events_of one) its_events its_pairs l.link.relation t l.pairs a p.0 p.1 in
      let (links, runs, are, walk) = walked ts fs (tails same) (All-tail (HasFactorColumn inputs space) f fs all) p.0 b p.2 in
      let first : IsFactorRun l.link.repeats (Has l.link.relation) a step.0 p.0 = rw l.repeats step.1 in
      (l.link ∷ links, step.0 ∷ runs, links_more f fs l.link links l.is are, (p.0, first, walk))

  all_on : (ts : List RelTree) (fs : List FactorValues) → map value_part fs ≡ map tree_part ts
      → All (HasFactorColumn inputs space) fs → All (λ f. IsOn k (events_of one) f.values) fs
  all_on [] [] same all = λ j d lt. absurd (omega (arith, lt))
  all_on [] (f ∷ fs) same all = absurd cc
  all_on (t ∷ ts) [] same all = absurd cc
  all_on (t ∷ ts) (f ∷ fs) same all =
      All-cons (λ g. IsOn k (events_of one) g.values) f fs
      (linked t f (heads same) (all 0 f (omega arith))).on (all_on ts fs (tails same)
      (All-tail (HasFactorColumn inputs space) f fs all))

-- the relations of the factors are on the events of the candidate
pub factors_on : (code : Code) (inputs : List (Bor Column)) (space : Space)
    (factors : List FactorValues) → AreFactorValues code inputs space factors → (t : RelTree)
    → code.steps.items ≡ rel_code t []
    → (k : ℕ) (one : Candidate) → slice_get (candidates_in space.combinations.items) k ≡ Some one
    → All (λ f. IsOn k (events_of one) f.values) factors
factors_on code inputs space factors values t is k one at =
    all_on inputs space k one at (factors_of t) factors (values.parts t is) values.values

pub has_walks : (code : Code) (space : Space) (factors : List FactorValues)
    → HasWalks code space factors
has_walks code space factors inputs values t is k one at a b m =
    walked inputs space k one at (factors_of t) factors (values.parts t is) values.values a b
    (in_turn (events_of one) (EventsAt (events_of one) one inputs k)
    (WithOwn (PairsAt (events_of one) one inputs k) (OwnPairs (events_of one) [])) t a b m)
