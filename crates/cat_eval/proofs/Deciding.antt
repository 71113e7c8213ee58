-- A check is decidable in each candidate: membership in a bit row is, so each operator is, and
-- closures by induction on the events allowed in between.
use Rattle.std.proofs.Common.{ℕ, ◌≡◌, ◌<◌, ◌≤◌, ◌+◌, ◌^◌, ◌↔◌, ◌⊎◌, inl, inr, zero, suc, List, [], ◌∷◌, Bool, true, false, IsTrue, refl, subst, arith}
use Rattle.std.specs.Prelude.{Option, Some, None, slice_get, slice_index}
use Rattle.std.proofs.lemmas.Bool.{cases_lt, cases_eq, false≢true}
use Rattle.std.proofs.lemmas.Nat.Bits.{bit_at_above}
use Rattle.std.proofs.lemmas.Nat.{pow_pos}
use Rattle.std.proofs.Math.Pow.{pow-lt}
use denote.Ref.{Bor}
use Rattle.bit_rows.specs.Pairs.{Union, Complement, Composite, Product, On, Plus, PlusBelow, Identity}
use Rattle.bit_rows.specs.Relation.{Bit, Relation, Events, Has, IsMember}
use Rattle.bit_rows.proofs.Bits.{Bit-zero, Bit_cases}
use Rattle.bit_rows.proofs.Closing.{Plus-within}
use Rattle.bit_rows.proofs.Paths.{PlusBelow-suc, PlusBelow-zero, PlusBelow-all}
use Rattle.base_names.specs.Known.{EventsFound}
use Rattle.text_values.specs.declared.model.CheckWord.{CheckWord}
use Rattle.text_values.specs.declared.model.CheckWord.TheVariants as words
use Rattle.text_values.specs.declared.model.Postfix.{Postfix}
use Rattle.text_values.specs.declared.model.Postfix.TheVariants as postfix
use Rattle.predefined_names.specs.declared.predefined.Predefined.{Predefined}
use Rattle.binding_kinds.specs.declared.kinds.Kind.{Kind}
use Rattle.binding_kinds.specs.declared.kinds.Kind.TheVariants as kinds
use Rattle.binding_graph.specs.declared.resolved.Blend.{Blend}
use Rattle.binding_graph.specs.declared.resolved.Blend.TheVariants as blends
use Rattle.binding_graph.specs.declared.resolved.CheckCode.{CheckCode}
use Rattle.binding_graph.specs.declared.resolved.Source.{Source}
use Rattle.binding_graph.specs.declared.resolved.Source.TheVariants as sources
use Rattle.binding_graph.specs.declared.resolved.Step.{Step}
use Rattle.binding_graph.specs.Trees.{SetTree, SetName, AllEvents, NoEvent, BlendSets, ComplementSet, RelTree, RelName, NoPair, BlendRelations, SequenceRelations, ProductOfSets, IdentityOn, Close, ComplementRelation, set_code, rel_code}
use Rattle.cat_machine.specs.declared.column.Column.{Column}
use Rattle.cat_machine.specs.declared.column.Column.TheVariants as columns
use Rattle.cat_machine.specs.Checks.{Holds, IsEmptySet}
use Rattle.cat_machine.specs.Meaning.{MeansSet, MeansRelation, BlendedSets, Blended, Closed, Others}
use Rattle.cat_machine.specs.Named.{ColumnEvents, ColumnPairs, InputEvents, InputPairs, EventsIn, PairsOutside, WithOwn, OwnPairs}
use Rattle.cat_eval.specs.OverNames.{IsAnswerOver}
use Rattle.cat_machine.specs.Running.{BuildsTrees, sets_after, rels_after}
use Rattle.cat_machine.specs.Seen.{NamedValues, NamedValue, PairsFound, EventsAmong, PairsAmong}
use Rattle.cat_machine.specs.Values.{Unless}
use Rattle.cat_machine.proofs.Codes.{code_leads, set_code_leads}
use mathlib.Core.List.{nil≢cons, head-eq_of_cons-eq}
use Rattle.cat_machine.proofs.Naming.{same_name}

-- it can be told whether the fact holds
abbrev pub Told : Type 0 → Type 0
Told P = P ⊎ (P → ⊥)

told_both : (P Q : Type 0) → Told P → Told Q → Told (P × Q)
told_both P Q (inl p) (inl q) = inl (p, q)
told_both P Q (inl p) (inr never) = inr (λ h. never h.1)
told_both P Q (inr never) q = inr (λ h. never h.0)

told_either : (P Q : Type 0) → Told P → Told Q → Told (P ⊎ Q)
told_either P Q (inl p) q = inl (inl p)
told_either P Q (inr never) (inl q) = inl (inr q)
told_either P Q (inr never) (inr nor) = inr (λ h. elim h [ inl p ↦ never p | inr q ↦ nor q ])

told_not : (P : Type 0) → Told P → Told (P → ⊥)
told_not P (inl p) = inr (λ never. never p)
told_not P (inr never) = inl never

told_same : (P Q : Type 0) → P ↔ Q → Told P → Told Q
told_same P Q same (inl p) = inl (same.0 p)
told_same P Q same (inr never) = inr (λ q. never (same.1 q))

told_less : (a n : ℕ) → Told (a < n)
told_less a n = elim (cases_lt a n) [ inl lt ↦ inl lt | inr ge ↦ inr (λ lt. omega arith) ]

-- one of the first numbers
abbrev Below : (ℕ → Type 0) → ℕ → Type 0
Below P n = (a : ℕ) × (a < n) × P a

told_below : (P : ℕ → Type 0) → ((a : ℕ) → Told (P a)) → (n : ℕ) → Told (Below P n)
told_below P told zero = inr (λ h. omega (arith, h.1))
told_below P told (suc n) = elim (told n) [
  | inl p ↦ inl (n, omega arith, p)
  | inr never ↦ elim (told_below P told n) [
    | inl h ↦ inl (h.0, omega (arith, h.1), h.2)
    | inr none ↦ inr (λ h. elim (cases_lt h.0 n) [
      | inl lt ↦ none (h.0, lt, h.2)
      | inr ge ↦ let same : h.0 ≡ n = omega (arith, h.1) in never (subst P same h.2)
    ])
  ]
]

-- ---- sets and relations of which it can be told what is in them, and beyond which number nothing
-- is

pub record IsToldSet (S : ℕ → Type 0) : Type 0 where
  pub end : ℕ
  pub within : (a : ℕ) → S a → a < end
  pub told : (a : ℕ) → Told (S a)

pub record IsTold (R : ℕ → ℕ → Type 0) : Type 0 where
  pub end : ℕ
  pub within : (a b : ℕ) → R a b → (a < end) × (b < end)
  pub told : (a b : ℕ) → Told (R a b)

no_events : IsToldSet (λ a. ⊥)
no_events = record { end = 0; within = λ a h. absurd h; told = λ a. inr (λ h. h) }

no_pairs : IsTold (λ a b. ⊥)
no_pairs = record { end = 0; within = λ a b h. absurd h; told = λ a b. inr (λ h. h) }

first_events : (n : ℕ) → IsToldSet (λ a. a < n)
first_events n = record { end = n; within = λ a h. h; told = λ a. told_less a n }

blended_sets : (how : Blend) (S T : ℕ → Type 0) → IsToldSet S → IsToldSet T
    → IsToldSet (BlendedSets how S T)
blended_sets blends.Union S T s t = record {
  end = s.end + t.end;
  within =
      λ a h. elim h [ inl x ↦ omega (arith, s.within a x) | inr y ↦ omega (arith, t.within a y) ];
  told = λ a. told_either (S a) (T a) (s.told a) (t.told a);
}
blended_sets blends.Intersection S T s t = record {
  end = s.end;
  within = λ a h. s.within a h.0;
  told = λ a. told_both (S a) (T a) (s.told a) (t.told a);
}
blended_sets blends.Difference S T s t = record {
  end = s.end;
  within = λ a h. s.within a h.0;
  told = λ a. told_both (S a) (T a → ⊥) (s.told a) (told_not (T a) (t.told a));
}

other_events : (n : ℕ) (S : ℕ → Type 0) → IsToldSet S → IsToldSet (Others n S)
other_events n S s = record {
  end = n;
  within = λ a h. h.0;
  told = λ a. told_both (a < n) (S a → ⊥) (told_less a n) (told_not (S a) (s.told a));
}

either_of : (R S : ℕ → ℕ → Type 0) → IsTold R → IsTold S → IsTold (Union R S)
either_of R S r s = record {
  end = r.end + s.end;
  within = λ a b h. elim h [
    | inl x ↦ let w = r.within a b x in (omega (arith, w.0), omega (arith, w.1))
    | inr y ↦ let w = s.within a b y in (omega (arith, w.0), omega (arith, w.1))
  ];
  told = λ a b. told_either (R a b) (S a b) (r.told a b) (s.told a b);
}

blended : (how : Blend) (R S : ℕ → ℕ → Type 0) → IsTold R → IsTold S → IsTold (Blended how R S)
blended blends.Union R S r s = either_of R S r s
blended blends.Intersection R S r s = record {
  end = r.end;
  within = λ a b h. r.within a b h.0;
  told = λ a b. told_both (R a b) (S a b) (r.told a b) (s.told a b);
}
blended blends.Difference R S r s = record {
  end = r.end;
  within = λ a b h. r.within a b h.0;
  told = λ a b. told_both (R a b) (S a b → ⊥) (r.told a b) (told_not (S a b) (s.told a b));
}

composed : (R S : ℕ → ℕ → Type 0) → IsTold R → IsTold S → IsTold (Composite R S)
composed R S r s = record {
  end = r.end + s.end;
  within = λ a b h. (omega (arith, (r.within a h.0 h.1).0), omega (arith, (s.within h.0 b h.2).1));
  told = λ a b. told_same (Below (λ c. R a c × S c b) r.end) (Composite R S a b)
      ((λ h. (h.0, h.2.0, h.2.1)), (λ h. (h.0, (r.within a h.0 h.1).1, (h.1, h.2))))
      (told_below (λ c. R a c × S c b) (λ c. told_both (R a c) (S c b) (r.told a c) (s.told c b))
      r.end);
}

products : (S T : ℕ → Type 0) → IsToldSet S → IsToldSet T → IsTold (Product S T)
products S T s t = record {
  end = s.end + t.end;
  within = λ a b h. (omega (arith, s.within a h.0), omega (arith, t.within b h.1));
  told = λ a b. told_both (S a) (T b) (s.told a) (t.told b);
}

on_set : (S : ℕ → Type 0) → IsToldSet S → IsTold (On S)
on_set S s = record {
  end = s.end;
  within = λ a b h. (s.within a h.0, omega (arith, s.within a h.0, h.1));
  told = λ a b. told_both (S a) (a ≡ b) (s.told a) (cases_eq a b);
}

others : (n : ℕ) (R : ℕ → ℕ → Type 0) → IsTold R → IsTold (Complement n R)
others n R r = record {
  end = n;
  within = λ a b h. (h.0, h.1);
  told =
      λ a b. told_same ((a < n) × ((b < n) × (R a b → ⊥))) (Complement n R a b)
      ((λ h. (h.0, h.1.0, h.1.1)), (λ h. (h.0, (h.1, h.2))))
      (told_both (a < n) ((b < n) × (R a b → ⊥)) (told_less a n) (told_both (b < n) (R a b → ⊥)
      (told_less b n) (told_not (R a b) (r.told a b))));
}

identity : (n : ℕ) → IsTold (Identity n)
identity n = record {
  end = n;
  within = λ a b h. (h.0, omega (arith, h.0, h.1));
  told = λ a b. told_both (a < n) (a ≡ b) (told_less a n) (cases_eq a b);
}

paths_below : (R : ℕ → ℕ → Type 0) → IsTold R → (k a b : ℕ) → Told (PlusBelow R k a b)
paths_below R r zero a b = told_same (R a b) (PlusBelow R 0 a b) (PlusBelow-zero R a b) (r.told a b)
paths_below R r (suc k) a b =
    let more : Told (PlusBelow R (k + 1) a b) =
    told_same (PlusBelow R k a b ⊎ (PlusBelow R k a k × PlusBelow R k k b))
    (PlusBelow R (k + 1) a b) ((PlusBelow-suc R k a b).1, (PlusBelow-suc R k a b).0)
    (told_either (PlusBelow R k a b) (PlusBelow R k a k × PlusBelow R k k b) (paths_below R r k a b)
    (told_both (PlusBelow R k a k) (PlusBelow R k k b) (paths_below R r k a k)
    (paths_below R r k k b))) in
    subst (λ (n : ℕ). Told (PlusBelow R n a b)) (omega arith) more

plus : (R : ℕ → ℕ → Type 0) → IsTold R → IsTold (Plus R)
plus R r = record {
  end = r.end;
  within = Plus-within R r.end r.within;
  told =
      λ a b. told_same (PlusBelow R r.end a b) (Plus R a b) (PlusBelow-all R r.end a b r.within)
      (paths_below R r r.end a b);
}

closed : (how : Postfix) (n : ℕ) (R : ℕ → ℕ → Type 0) → IsTold R → IsTold (Closed how n R)
closed postfix.Transitive n R r = plus R r
closed postfix.Reflexive n R r = either_of (Identity n) R (identity n) r
closed postfix.Inverse n R r = record {
  end = r.end;
  within = λ a b h. let w = r.within b a h in (w.1, w.0);
  told = λ a b. r.told b a;
}
closed postfix.Closure n R r = either_of (Identity n) (Plus R) (identity n) (plus R r)

module _ (n : ℕ) (sets : Source → ℕ → Type 0) (rels : Source → ℕ → ℕ → Type 0)
    (told_sets : (source : Source) → IsToldSet (sets source))
    (told_rels : (source : Source) → IsTold (rels source)) where
  told_set : (t : SetTree) → IsToldSet (MeansSet n sets t)
  told_set (SetName source) = told_sets source
  told_set AllEvents = first_events n
  told_set NoEvent = no_events
  told_set (BlendSets how s t) = blended_sets how _ _ (told_set s) (told_set t)
  told_set (ComplementSet s) = other_events n _ (told_set s)

  told_relation : (e : RelTree) → IsTold (MeansRelation n sets rels e)
  told_relation (RelName source) = told_rels source
  told_relation NoPair = no_pairs
  told_relation (BlendRelations how e f) = blended how _ _ (told_relation e) (told_relation f)
  told_relation (SequenceRelations e f) = composed _ _ (told_relation e) (told_relation f)
  told_relation (ProductOfSets s t) = products _ _ (told_set s) (told_set t)
  told_relation (IdentityOn s) = on_set _ (told_set s)
  told_relation (Close how e) = closed how n _ (told_relation e)
  told_relation (ComplementRelation e) = others n _ (told_relation e)

-- ---- bit rows

bit_below : (w k : ℕ) → Bit w k → k < w
unfolding Bit
bit_below w k h = elim (cases_lt k w) [
  | inl lt ↦ lt
  | inr ge ↦ let z = bit_at_above w k k (small w k ge) (omega arith) in absurd (omega (arith, z, h))
]
  where
    small : (w k : ℕ) → w ≤ k → w < 2 ^ k
    small w k le = let p = above k in omega (arith, p)
      where
        above : (k : ℕ) → k < 2 ^ k
        above zero = pow_pos zero
        above (suc k) =
            let p = above k in
            let q : 2 ^ k < 2 ^ suc k = pow-lt {i = k} {j = suc k} (omega arith) in
            omega (arith, p, q)

member : (s : Events) → IsToldSet (IsMember s)
member s =
    record { end = s.word; within = λ a h. bit_below s.word a h; told = λ a. Bit_cases s.word a }

one_row : (w : ℕ) (ws : List ℕ) → IsTold (λ a b. Bit (slice_index ws a) b)
    → IsTold (λ a b. Bit (slice_index (w ∷ ws) a) b)
one_row w ws rest = record {
  end = suc (rest.end + w);
  within = λ a b h. within a b h;
  told = λ a b. Bit_cases (slice_index (w ∷ ws) a) b;
}
  where
    within : (a b : ℕ) → Bit (slice_index (w ∷ ws) a) b
        → (a < suc (rest.end + w)) × (b < suc (rest.end + w))
    within zero b h = (omega arith, omega (arith, bit_below w b h))
    within (suc a) b h = let t = rest.within a b h in (omega (arith, t.0), omega (arith, t.1))

rows : (ws : List ℕ) → IsTold (λ a b. Bit (slice_index ws a) b)
rows [] =
    record {
      end = 0;
      within = λ a b h. absurd (Bit-zero b h);
      told = λ a b. inr (λ h. Bit-zero b h);
    }
rows (w ∷ ws) = one_row w ws (rows ws)

events_found : (o : Option Events) (n : ℕ) → IsToldSet (EventsFound o n)
events_found None n = no_events
events_found (Some s) n = record {
  end = (member s).end;
  within = λ a h. (member s).within a h.1;
  told = λ a. told_both (s.count ≡ n) (IsMember s a) (cases_eq s.count n) ((member s).told a);
}

pairs_found : (o : Option Relation) (n : ℕ) → IsTold (PairsFound o n)
pairs_found None n = no_pairs
pairs_found (Some r) n = record {
  end = (rows r.rows).end;
  within = λ a b h. (rows r.rows).within a b h.1;
  told = λ a b. told_both (r.count ≡ n) (Has r a b) (cases_eq r.count n) ((rows r.rows).told a b);
}

-- ---- names

where_so : (P : Type 0) (S T : ℕ → Type 0) → Told P → IsToldSet S → IsToldSet T
    → IsToldSet (λ a. (P × S a) ⊎ ((P → ⊥) × T a))
where_so P S T p s t = record {
  end = s.end + t.end;
  within =
      λ a h.
      elim h [ inl x ↦ omega (arith, s.within a x.1) | inr y ↦ omega (arith, t.within a y.1) ];
  told =
      λ a. told_either (P × S a) ((P → ⊥) × T a) (told_both P (S a) p (s.told a))
      (told_both (P → ⊥) (T a) (told_not P p) (t.told a));
}

pairs_where_so : (P : Type 0) (R S : ℕ → ℕ → Type 0) → Told P → IsTold R → IsTold S
    → IsTold (λ a b. (P × R a b) ⊎ ((P → ⊥) × S a b))
pairs_where_so P R S p r s = record {
  end = r.end + s.end;
  within = λ a b h. elim h [
    | inl x ↦ let w = r.within a b x.1 in (omega (arith, w.0), omega (arith, w.1))
    | inr y ↦ let w = s.within a b y.1 in (omega (arith, w.0), omega (arith, w.1))
  ];
  told =
      λ a b. told_either (P × R a b) ((P → ⊥) × S a b) (told_both P (R a b) p (r.told a b))
      (told_both (P → ⊥) (S a b) (told_not P p) (s.told a b));
}

events_among : (xs : List NamedValue) (name : Predefined) (n : ℕ) → IsToldSet (EventsAmong xs name n)
events_among [] name n = no_events
events_among (x ∷ xs) name n =
    where_so (x.name ≡ name) (EventsFound x.events n) (EventsAmong xs name n)
    (same_name x.name name) (events_found x.events n) (events_among xs name n)

pairs_among : (xs : List NamedValue) (name : Predefined) (n : ℕ) → IsTold (PairsAmong xs name n)
pairs_among [] name n = no_pairs
pairs_among (x ∷ xs) name n =
    pairs_where_so (x.name ≡ name) (PairsFound x.pairs n) (PairsAmong xs name n)
    (same_name x.name name) (pairs_found x.pairs n) (pairs_among xs name n)

column_events : (c : Column) (k n : ℕ) → IsToldSet (ColumnEvents c k n)
column_events (columns.Sets values) k n = events_found (slice_get values k) n
column_events (columns.Relations values) k n = no_events

column_pairs : (c : Column) (k n : ℕ) → IsTold (ColumnPairs c k n)
column_pairs (columns.Sets values) k n = no_pairs
column_pairs (columns.Relations values) k n = pairs_found (slice_get values k) n

input_events : (o : Option (Bor Column)) (k n : ℕ) → IsToldSet (InputEvents o k n)
input_events None k n = no_events
input_events (Some column) k n = column_events column.now k n

input_pairs : (o : Option (Bor Column)) (k n : ℕ) → IsTold (InputPairs o k n)
input_pairs None k n = no_pairs
input_pairs (Some column) k n = column_pairs column.now k n

module _ (base : NamedValues) (inputs : List (Bor Column)) (k : ℕ) where
  events_in : (source : Source) → IsToldSet (EventsIn base inputs k source)
  events_in (sources.Predefined name) = events_among base.values name base.count
  events_in (sources.Input index) = input_events (slice_get inputs index) k base.count
  events_in (sources.Own position) = no_events

  pairs_in : (source : Source)
      → IsTold (WithOwn (PairsOutside base inputs k) (OwnPairs base.count []) source)
  pairs_in (sources.Predefined name) = pairs_among base.values name base.count
  pairs_in (sources.Input index) = input_pairs (slice_get inputs index) k base.count
  pairs_in (sources.Own position) = pairs_found (slice_get [] position) base.count

-- ---- the answer

empty_told : (S : ℕ → Type 0) → IsToldSet S → Told (IsEmptySet S)
empty_told S s = elim (told_below S s.told s.end) [
  | inl some ↦ inr (λ none. none some.0 some.2)
  | inr never ↦ inl (λ a h. never (a, s.within a h, h))
]

diagonal : (R : ℕ → ℕ → Type 0) → IsTold R → Told ((a : ℕ) → R a a → ⊥)
diagonal R r =
    empty_told (λ a. R a a) (record {
      end = r.end;
      within = λ a h. (r.within a a h).0;
      told = λ a. r.told a a;
    })

holds_told : (word : CheckWord) (R : ℕ → ℕ → Type 0) → IsTold R → Told (Holds word R)
holds_told words.Acyclic R r = diagonal (Plus R) (plus R r)
holds_told words.Irreflexive R r = diagonal R r
holds_told words.Empty R r =
    told_same (IsEmptySet (λ a. Below (R a) r.end)) (Holds words.Empty R)
    ((λ none a b h. none a (b, (r.within a b h).1, h)), (λ none a h. none a h.0 h.2))
    (empty_told (λ a. Below (R a) r.end) (record {
      end = r.end;
      within = λ a h. (r.within a h.0 h.2).0;
      told = λ a. told_below (R a) (r.told a) r.end;
    }))

turned : (negated : Bool) (P : Type 0) → Told P
    → (answer : Bool) × (IsTrue answer ↔ Unless negated P)
turned false P (inl p) = (true, ((λ _. p), (λ _. refl)))
turned false P (inr never) = (false, ((λ e. absurd (false≢true e)), (λ p. absurd (never p))))
turned true P (inl p) = (false, ((λ e. absurd (false≢true e)), (λ never. absurd (never p))))
turned true P (inr never) = (true, ((λ _. never), (λ _. refl)))

-- the stacks behind all steps
ends_of : List Step → List SetTree → List RelTree → List SetTree × List RelTree
ends_of [] ss rs = (ss, rs)
ends_of (x ∷ xs) ss rs = ends_of xs (sets_after x ss) (rels_after x ss rs)

ends_at : (xs : List Step) (ss : List SetTree) (rs : List RelTree) (s_end : List SetTree)
    (r_end : List RelTree) → BuildsTrees xs ss rs s_end r_end
    → (ends_of xs ss rs).0 ≡ s_end × (ends_of xs ss rs).1 ≡ r_end
unfolding ends_of
ends_at [] ss rs s_end r_end h = h
ends_at (x ∷ xs) ss rs s_end r_end h =
    ends_at xs (sets_after x ss) (rels_after x ss rs) s_end r_end h.1

set_answer : (P : SetTree → Type 0) (negated : Bool) (xs : List Step) (ss : List SetTree)
    → ((t : SetTree) → Told (P t)) → ((t : SetTree) → xs ≡ set_code t [] → ss ≡ t ∷ [])
    → (answer : Bool) × ((t : SetTree) → xs ≡ set_code t [] → IsTrue answer ↔ Unless negated (P t))
set_answer P negated xs [] told is = (true, λ t code. absurd (nil≢cons (is t code)))
set_answer P negated xs (s ∷ ss) told is =
    let (answer, same) = turned negated (P s) (told s) in (
      answer,
      λ t code.
          let e : s ≡ t = head-eq_of_cons-eq (is t code) in
          subst (λ (u : SetTree). IsTrue answer ↔ Unless negated (P u)) e same,
    )

rel_answer : (P : RelTree → Type 0) (negated : Bool) (xs : List Step) (rs : List RelTree)
    → ((t : RelTree) → Told (P t)) → ((t : RelTree) → xs ≡ rel_code t [] → rs ≡ t ∷ [])
    → (answer : Bool) × ((t : RelTree) → xs ≡ rel_code t [] → IsTrue answer ↔ Unless negated (P t))
rel_answer P negated xs [] told is = (true, λ t code. absurd (nil≢cons (is t code)))
rel_answer P negated xs (r ∷ rs) told is =
    let (answer, same) = turned negated (P r) (told r) in (
      answer,
      λ t code.
          let e : r ≡ t = head-eq_of_cons-eq (is t code) in
          subst (λ (u : RelTree). IsTrue answer ↔ Unless negated (P u)) e same,
    )

module _ (check : CheckCode) (inputs : List (Bor Column)) (base : NamedValues) (k : ℕ) where
  a_set : (answer : Bool) × IsAnswerOver check inputs base k kinds.OfSet answer
  a_set =
      set_answer (λ t. IsEmptySet (MeansSet base.count (EventsIn base inputs k) t)) check.negated
      check.code.steps.items (ends_of check.code.steps.items [] []).0
      (λ t. empty_told _ (told_set base.count (EventsIn base inputs k)
      (WithOwn (PairsOutside base inputs k) (OwnPairs base.count []))
      (events_in base inputs k) (pairs_in base inputs k) t))
      (λ t code. (ends_at check.code.steps.items [] [] (t ∷ []) [] (rw code (set_code_leads t))).0)

  a_relation : (answer : Bool) × IsAnswerOver check inputs base k kinds.OfRelation answer
  a_relation =
      rel_answer
      (λ t. Holds check.word (MeansRelation base.count (EventsIn base inputs k)
      (WithOwn (PairsOutside base inputs k) (OwnPairs base.count [])) t)) check.negated
      check.code.steps.items
      (ends_of check.code.steps.items [] []).1
      (λ t. holds_told check.word _ (told_relation base.count (EventsIn base inputs k)
      (WithOwn (PairsOutside base inputs k) (OwnPairs base.count []))
      (events_in base inputs k) (pairs_in base inputs k) t))
      (λ t code. (ends_at check.code.steps.items [] [] [] (t ∷ []) (rw code (code_leads t))).1)

  pub some_answer : (kind : Kind) → (answer : Bool) × IsAnswerOver check inputs base k kind answer
  some_answer kinds.OfSet = a_set
  some_answer kinds.OfRelation = a_relation
  some_answer kinds.OfAny = a_relation
