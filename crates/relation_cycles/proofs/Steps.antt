-- Paths of at most so many steps.
use Rattle.std.proofs.Common.{ℕ, zero, suc, ◌≡◌, ◌<◌, ◌≤◌, ◌+◌, ◌-◌, ◌⊎◌, List, [], ◌∷◌, ◌++◌, length, get_or, inl, inr, arith, subst, sym, ◌∙◌, ap, refl, append_assoc, length-append, below_more}
use Rattle.std.proofs.Math.Seq.{get_or-append_seam}
use Rattle.std.proofs.lemmas.Bool.{cases_lt}
use Rattle.std.proofs.lemmas.List.{get_or_read, get_or_append_left, append-nil}
use Rattle.bit_rows.specs.Pairs.{Path, Union, Composite}
use Rattle.bit_rows.specs.Relation.{Relation, Has, IsRegular, IsRelation, room_of, no_slot}
use Rattle.std.specs.List.{Contains}
use Rattle.bit_relations.proofs.Laws.{grows}
use Rattle.bit_rows.proofs.Paths.{Path-append}
use Rattle.relation_cycles.specs.Cycles.{IsPathFrom, IsShortestPath, IsCycle, IsCycleFrom, IsShortestCycle, IsShortestThrough, IsReachableIn, AreLevels, HasShortPaths, ComesNoLater, IsFirstUpTo, IsFirstReflexive}

pub IsReachableIn-more : (R : ℕ → ℕ → Type 0) (k a b : ℕ) → IsReachableIn R k a b
    → IsReachableIn R (k + 1) a b
IsReachableIn-more R k a b w =
    let lt : length w.through < k = w.short in
    record { through = w.through; short = omega arith; path = w.path }

-- a path of a step more is a step, or a step and a path
pub IsReachableIn-split : (R : ℕ → ℕ → Type 0) (k a b : ℕ) → IsReachableIn R (k + 1) a b
    → R a b ⊎ Composite R (IsReachableIn R k) a b
IsReachableIn-split R k a b w = go w.through w.short w.path
  where
    go : (xs : List ℕ) → length xs < k + 1 → Path R a xs b
        → R a b ⊎ Composite R (IsReachableIn R k) a b
    go [] lt p = inl p
    go (c ∷ cs) lt p = inr (c, p.0, record { through = cs; short = omega (arith, lt); path = p.1 })

pub IsReachableIn-join : (R : ℕ → ℕ → Type 0) (k a b : ℕ)
    → R a b ⊎ Composite R (IsReachableIn R k) a b → IsReachableIn R (k + 1) a b
IsReachableIn-join R k a b (inl r) = record { through = []; short = omega arith; path = r }
IsReachableIn-join R k a b (inr (c, r, w)) =
    let lt : length w.through < k = w.short in
    record { through = c ∷ w.through; short = omega arith; path = (r, w.path) }

-- where no pair is gained by a step more, none is by any number
pub whole : (R : ℕ → ℕ → Type 0) (k : ℕ)
    → ((a b : ℕ) → IsReachableIn R (k + 1) a b → IsReachableIn R k a b) → HasShortPaths R k
whole R k closed a b p = go a p.0 p.1
  where
    go : (a : ℕ) (xs : List ℕ) → Path R a xs b → IsReachableIn R k a b
    go a [] r = closed a b (IsReachableIn-join R k a b (inl r))
    go a (c ∷ cs) r = closed a b (IsReachableIn-join R k a b (inr (c, r.0, go c cs r.1)))

-- the levels so far, of which the last is the present one
pub record IsGrowing (r level : Relation) (levels : List Relation) : Type 0 where
  pub each : AreLevels (Has r) r.count levels
  pub some : 0 < length levels
  pub last : (k : ℕ) → k + 1 ≡ length levels → IsRelation level r.count (IsReachableIn (Has r) k)

-- an event in the middle is still to come, and there is none so far
pub record IsAhead (R S : ℕ → ℕ → Type 0) (a b n event : ℕ) : Type 0 where
  pub middle : ℕ
  pub inside : middle < n
  pub left : R a middle
  pub right : S middle b
  pub ahead : event ≤ middle
  pub none : (c : ℕ) → c < event → R a c → S c b → ⊥

-- ---- which list comes first

pub no_later_prefix : (xs ys : List ℕ) → ComesNoLater xs (xs ++ ys)
no_later_prefix [] ys = tt
no_later_prefix (x ∷ xs) ys = inr (refl, no_later_prefix xs ys)

-- a smaller event behind the same ones
smaller_behind : (xs : List ℕ) (a b : ℕ) (ys zs : List ℕ) → a < b
    → ComesNoLater (xs ++ a ∷ ys) (xs ++ b ∷ zs)
smaller_behind [] a b ys zs lt = inl lt
smaller_behind (x ∷ xs) a b ys zs lt = inr (refl, smaller_behind xs a b ys zs lt)

-- of two lists of one length each comes no later than the other
pub same_place : (xs ys : List ℕ) → length xs ≡ length ys → ComesNoLater xs ys → ComesNoLater ys xs
    → xs ≡ ys
same_place [] [] long p q = refl
same_place [] (y ∷ ys) long p q = absurd q
same_place (x ∷ xs) [] long p q = absurd p
same_place (x ∷ xs) (y ∷ ys) long (inl lt) (inl gt) = absurd (omega (arith, lt, gt))
same_place (x ∷ xs) (y ∷ ys) long (inl lt) (inr q) = absurd (omega (arith, lt, q.0))
same_place (x ∷ xs) (y ∷ ys) long (inr p) (inl gt) = absurd (omega (arith, gt, p.0))
same_place (x ∷ xs) (y ∷ ys) long (inr p) (inr q) =
    let rest : xs ≡ ys = same_place xs ys (omega (arith, long)) p.1 q.1 in
    ap (λ (z : ℕ). z ∷ xs) p.0 ∙ ap (λ (zs : List ℕ). y ∷ zs) rest

pub one_cycle : (R : ℕ → ℕ → Type 0) (xs ys : List ℕ) → IsShortestCycle R xs → IsShortestCycle R ys
    → xs ≡ ys
one_cycle R xs ys p q =
    let less : length xs ≤ length ys = p.least ys q.cycle in
    let more : length ys ≤ length xs = q.least xs p.cycle in
    same_place xs ys (omega arith) (p.first ys q.cycle (omega arith))
    (q.first xs p.cycle (omega arith))

-- however the events go on, they come before the others
abbrev pub ComesBefore : List ℕ → List ℕ → Type 0
ComesBefore events others = (more : List ℕ) → ComesNoLater (events ++ more) others

-- the others go on from these events, in less than so many steps
pub record GoesOn (R : ℕ → ℕ → Type 0) (events : List ℕ) (at left to : ℕ) (others : List ℕ)
    : Type 0 where
  pub rest : List ℕ
  pub parts : others ≡ events ++ rest
  pub short : length rest < left
  pub path : Path R at rest to

-- what stands in the list leads from the event to the present one, from which so many steps lead to
-- the other
pub record IsTraced (R : ℕ → ℕ → Type 0) (event to steps : ℕ) (events : List ℕ) (at left : ℕ)
    : Type 0 where
  pub ahead : IsReachableIn R left at to
  pub short : length events + left ≤ steps + 1
  pub tail : List ℕ
  pub begins : events ≡ event ∷ tail
  pub leads : (rest : List ℕ) → Path R at rest to → Path R event (tail ++ rest) to
  pub first : (others : List ℕ) → IsPathFrom R event to others → length others ≤ steps
      → ComesBefore events others ⊎ GoesOn R events at left to others

-- the event alone
pub begun : (R : ℕ → ℕ → Type 0) (event to steps : ℕ) → IsReachableIn R steps event to
    → IsTraced R event to steps (event ∷ []) event steps
begun R event to steps w =
    record {
      ahead = w;
      short = omega arith;
      tail = [];
      begins = refl;
      leads = λ rest p. p;
      first = λ others p lt. inr (started others p lt);
    }
  where
    started : (others : List ℕ) → IsPathFrom R event to others → length others ≤ steps
        → GoesOn R (event ∷ []) event steps to others
    started [] p lt = absurd p
    started (x ∷ xs) p lt =
        record {
          rest = xs;
          parts = ap (λ (y : ℕ). y ∷ xs) p.0;
          short = omega (arith, lt);
          path = subst (λ (y : ℕ). Path R y xs to) p.0 p.1;
        }

-- a level and the step after it
pub next_is : (r level product next : Relation)
    → IsRelation product r.count (Composite (Has r) (Has level))
    → IsRelation next product.count (Union (Has product) (Has r)) → (k : ℕ)
    → IsRelation level r.count (IsReachableIn (Has r) k)
    → IsRelation next r.count (IsReachableIn (Has r) (k + 1))
next_is r level product next composed joined k this = record {
  count = joined.count ∙ composed.count;
  regular = joined.regular;
  pairs =
      λ a b. (
        (λ h. IsReachableIn-join (Has r) k a b (to a b ((joined.pairs a b).0 h))),
        (λ w. (joined.pairs a b).1 (from a b (IsReachableIn-split (Has r) k a b w))),
      );
}
  where
    to : (a b : ℕ) → Union (Has product) (Has r) a b
        → Has r a b ⊎ Composite (Has r) (IsReachableIn (Has r) k) a b
    to a b (inr h) = inl h
    to a b (inl h) = let m = (composed.pairs a b).0 h in inr (m.0, m.1, (this.pairs m.0 b).0 m.2)

    from : (a b : ℕ) → Has r a b ⊎ Composite (Has r) (IsReachableIn (Has r) k) a b
        → Union (Has product) (Has r) a b
    from a b (inl h) = inr h
    from a b (inr (m, h, w)) = inl ((composed.pairs a b).1 (m, h, (this.pairs m b).1 w))

module _ (r level : Relation) (levels : List Relation) (g : IsGrowing r level levels) where
  pub level_count : level.count ≡ r.count
  level_count =
      let some : 0 < length levels = g.some in (g.last (length levels - 1) (omega arith)).count

  module _ (next : Relation)
      (step : (k : ℕ) → IsRelation level r.count (IsReachableIn (Has r) k)
      → IsRelation next r.count (IsReachableIn (Has r) (k + 1))) where
    pub all_there : next ≡ level → (k : ℕ) → k + 1 ≡ length levels → HasShortPaths (Has r) k
    all_there same k e =
        let this : IsRelation level r.count (IsReachableIn (Has r) k) = g.last k e in
        let that : IsRelation next r.count (IsReachableIn (Has r) (k + 1)) = step k this in
        whole (Has r) k (λ a b w. (this.pairs a b).0 (subst (λ (s : Relation). Has s a b) same
        ((that.pairs a b).1 w)))

    pub less_room : (next ≡ level → ⊥) → room_of next < room_of level
    less_room other =
        let some : 0 < length levels = g.some in
        let k : ℕ = length levels - 1 in
        let this : IsRelation level r.count (IsReachableIn (Has r) k) = g.last k (omega arith) in
        let that : IsRelation next r.count (IsReachableIn (Has r) (k + 1)) = step k this in
        elim
        (grows level next this.regular that.regular (this.count ∙ sym that.count)
        (λ a b h.
        (that.pairs a b).1 (IsReachableIn-more (Has r) k a b ((this.pairs a b).0 h)))) [
          | inl same ↦ absurd (other (sym same))
          | inr less ↦ less
        ]

    next_last : IsRelation next r.count (IsReachableIn (Has r) (length levels))
    next_last =
        let some : 0 < length levels = g.some in
        let k : ℕ = length levels - 1 in
        let e : k + 1 ≡ length levels = omega arith in
        subst (λ (n : ℕ). IsRelation next r.count (IsReachableIn (Has r) n)) e (step k (g.last k e))

    pub grown : IsGrowing r next (levels ++ next ∷ [])
    grown = record {
      each = record { each = each };
      some =
          let e : length (levels ++ next ∷ []) ≡ length levels + 1 =
          length-append levels (next ∷ []) in
          omega arith;
      last = last;
    }
      where
        each : (k : ℕ) → k < length (levels ++ next ∷ [])
            → IsRelation (get_or (levels ++ next ∷ []) k no_slot) r.count (IsReachableIn (Has r) k)
        each k lt = elim (cases_lt k (length levels)) [
          | inr le ↦
              let e : length levels ≡ k =
              let l : length (levels ++ next ∷ []) ≡ length levels + 1 =
              length-append levels (next ∷ []) in
              omega arith in
              subst
              (λ (n : ℕ). IsRelation (get_or (levels ++ next ∷ []) n no_slot) r.count
              (IsReachableIn (Has r) n)) e
              (rw (get_or-append_seam levels next [] no_slot) next_last)
          | inl gt ↦ rw (get_or_append_left levels (next ∷ []) no_slot k gt) (g.each.each k gt)
        ]

        last : (k : ℕ) → k + 1 ≡ length (levels ++ next ∷ [])
            → IsRelation next r.count (IsReachableIn (Has r) k)
        last k e =
            let l : length (levels ++ next ∷ []) ≡ length levels + 1 =
            length-append levels (next ∷ []) in
            let same : length levels ≡ k = omega arith in
            subst (λ (n : ℕ). IsRelation next r.count (IsReachableIn (Has r) n)) same next_last

-- a path begins at an event of the relation
pub begins_inside : (r : Relation) → IsRegular r → (k a b : ℕ) → IsReachableIn (Has r) k a b
    → a < r.count
begins_inside r regular k a b w = go w.through w.path
  where
    go : (xs : List ℕ) → Path (Has r) a xs b → a < r.count
    go [] h = (regular.within a b h).0
    go (c ∷ cs) h = (regular.within a c h.0).0

-- the level of a number of steps less
module _ (r : Relation) (levels : List Relation) (all : AreLevels (Has r) r.count levels)
    (level : Relation) (k : ℕ) (lt : k < length levels) (is : level ≡ get_or levels k level) where
  pub level_is : IsRelation level r.count (IsReachableIn (Has r) k)
  level_is =
      subst (λ (s : Relation). IsRelation s r.count (IsReachableIn (Has r) k))
      (sym (get_or_read levels k level lt is no_slot)) (all.each k lt)

  pub none_at : ((j : ℕ) → j < k → (a : ℕ) → IsReachableIn (Has r) j a a → ⊥)
      → ((a : ℕ) → Has level a a → ⊥) → (j : ℕ) → j < k + 1 → (a : ℕ) → IsReachableIn (Has r) j a a
      → ⊥
  none_at before here =
      below_more (λ (j : ℕ). (a : ℕ) → IsReachableIn (Has r) j a a → ⊥) k before
      (λ a w. here a ((level_is.pairs a a).1 w))

module _ (R : ℕ → ℕ → Type 0) (event to steps : ℕ) (events : List ℕ) (at left : ℕ)
    (t : IsTraced R event to steps events at left) where
  pub left_below : left ≤ steps
  left_below =
      let e : length events ≡ length (event ∷ t.tail) = ap length t.begins in
      let short : length events + left ≤ steps + 1 = t.short in
      omega arith

  pub left_some : 0 < left
  left_some = let short : length t.ahead.through < left = t.ahead.short in omega arith

  module _ (other : R at to → ⊥) where
    pub steps_on : Composite R (IsReachableIn R (left - 1)) at to
    steps_on =
        let some : 0 < left = left_some in
        let e : left ≡ (left - 1) + 1 = omega arith in
        elim
        (IsReachableIn-split R (left - 1) at to
        (subst (λ (n : ℕ). IsReachableIn R n at to) e t.ahead)) [
          | inl here ↦ absurd (other here)
          | inr on ↦ on
        ]

  module _ (other : R at to → ⊥) (next : ℕ)
      (none : (c : ℕ) → c < next → R at c → IsReachableIn R (left - 1) c to → ⊥) where
    -- those that go on by a greater event come later
    goes_on : (others : List ℕ) → GoesOn R events at left to others
        → ComesBefore (events ++ next ∷ []) others
        ⊎ GoesOn R (events ++ next ∷ []) next (left - 1) to others
    goes_on others on = go on.rest on.parts on.short on.path
      where
        go : (rest : List ℕ) → others ≡ events ++ rest → length rest < left → Path R at rest to
            → ComesBefore (events ++ next ∷ []) others
            ⊎ GoesOn R (events ++ next ∷ []) next (left - 1) to others
        go [] parts short path = absurd (other path)
        go (c ∷ cs) parts short path =
            let reach : IsReachableIn R (left - 1) c to = record { through = cs; short = omega (arith, short); path = path.1 } in
            elim (cases_lt c next) [
              | inl lt ↦ absurd (none c lt path.0 reach)
              | inr le ↦ elim (cases_lt next c) [
                | inl gt ↦ inl (λ more. subst
                    (λ (xs : List ℕ). ComesNoLater ((events ++ next ∷ []) ++ more) xs) (sym parts)
                    (rw append_assoc (smaller_behind events next c more cs gt)))
                | inr ge ↦ let same : c ≡ next = omega arith in
                    inr (record {
                      rest = cs;
                      parts =
                          parts ∙ ap (λ (y : ℕ). events ++ y ∷ cs) same
                          ∙ sym (append_assoc events (next ∷ []) cs);
                      short = omega (arith, short);
                      path = subst (λ (y : ℕ). Path R y cs to) same path.1;
                    })
              ]
            ]

  pub traced : (next : ℕ) → R at next → IsReachableIn R (left - 1) next to → (R at to → ⊥)
      → ((c : ℕ) → c < next → R at c → IsReachableIn R (left - 1) c to → ⊥)
      → IsTraced R event to steps (events ++ next ∷ []) next (left - 1)
  traced next r ahead other none = record {
    ahead = ahead;
    short =
        let e : length (events ++ next ∷ []) ≡ length events + 1 = length-append events (next ∷ []) in
        let some : 0 < left = left_some in
        let short : length events + left ≤ steps + 1 = t.short in
        omega arith;
    tail = t.tail ++ next ∷ [];
    begins = ap (λ (xs : List ℕ). xs ++ next ∷ []) t.begins;
    leads = λ rest p. rw append_assoc (t.leads (next ∷ rest) (r, p));
    first = λ others p lt. elim (t.first others p lt) [
      | inl before ↦ inl (λ more. rw append_assoc (before (next ∷ more)))
      | inr on ↦ goes_on other next none others on
    ];
  }

  pub closes : R at to → IsPathFrom R event to events
  closes r =
      rw t.begins (
        refl,
        subst (λ (xs : List ℕ). Path R event xs to) (append-nil t.tail) (t.leads [] r),
      )

  pub comes_first : IsFirstUpTo R event to steps events
  comes_first others p lt = elim (t.first others p lt) [
    | inl before ↦ subst (λ (xs : List ℕ). ComesNoLater xs others) (append-nil events) (before [])
    | inr on ↦ subst (λ (xs : List ℕ). ComesNoLater events xs) (sym on.parts)
        (no_later_prefix events on.rest)
  ]

-- a list with an event has a prefix and a back
record IsCut (xs : List ℕ) (a : ℕ) : Type 0 where
  prefix : List ℕ
  back : List ℕ
  parts : xs ≡ prefix ++ a ∷ back

cut : (xs : List ℕ) (k a : ℕ) → k < length xs → get_or xs k a ≡ a → IsCut xs a
cut [] k a lt e = absurd (omega (arith, lt))
cut (x ∷ xs) zero a lt e = record { prefix = []; back = xs; parts = ap (λ (y : ℕ). y ∷ xs) e }
cut (x ∷ xs) (suc k) a lt e =
    let rest : IsCut xs a = cut xs k a (omega (arith, lt)) e in
    record { prefix = x ∷ rest.prefix; back = rest.back; parts = ap (λ (ys : List ℕ). x ∷ ys) rest.parts }

Path-split : (R : ℕ → ℕ → Type 0) (a : ℕ) (xs : List ℕ) (c : ℕ) (ys : List ℕ) (b : ℕ)
    → Path R a (xs ++ c ∷ ys) b → Path R a xs c × Path R c ys b
Path-split R a [] c ys b p = p
Path-split R a (x ∷ xs) c ys b p =
    let rest = Path-split R x xs c ys b p.1 in ((p.0, rest.0), rest.1)

-- a cycle through an event can begin there
rotated : (R : ℕ → ℕ → Type 0) (prefix : List ℕ) (a : ℕ) (back : List ℕ)
    → IsCycle R (prefix ++ a ∷ back) → Path R a (back ++ prefix) a
rotated R [] a back p = rw append-nil p
rotated R (x ∷ xs) a back p =
    let parts = Path-split R x xs a back x p in Path-append R a back x xs a parts.1 parts.0

pub shortest_through : (R : ℕ → ℕ → Type 0) (event steps : ℕ) (events : List ℕ)
    → IsCycleFrom R event events → length events ≤ steps → IsFirstUpTo R event event steps events
    → ((k : ℕ) → k < steps → IsReachableIn R k event event → ⊥) → IsShortestThrough R event events
shortest_through R event steps events cycle short first none =
    record {
      cycle = cycle;
      least = least;
      first = λ others other same. first others other (omega (arith, same, short));
    }
  where
    least : (others : List ℕ) → IsCycle R others → Contains others event
        → length events ≤ length others
    least others other at =
        let parts : IsCut others event = cut others at.0 event at.1 at.2 in
        let same : length others ≡ length (parts.prefix ++ event ∷ parts.back) = ap length parts.parts in
        let long : length (parts.prefix ++ event ∷ parts.back) ≡ length parts.prefix + length (event ∷ parts.back) = length-append parts.prefix (event ∷ parts.back) in
        let round : length (parts.back ++ parts.prefix) ≡ length parts.back + length parts.prefix = length-append parts.back parts.prefix in
        elim (cases_lt (length others) (length events)) [
          | inr le ↦ le
          | inl gt ↦ absurd (none (length others) (omega arith) (record {
            through =
                parts.back ++ parts.prefix;
            short = omega arith;
            path =
                rotated R parts.prefix event parts.back
                (subst (λ (xs : List ℕ). IsCycle R xs) parts.parts other);
          }))
        ]

pub shortest_path : (R : ℕ → ℕ → Type 0) (from to steps : ℕ) (events : List ℕ)
    → IsPathFrom R from to events → length events ≤ steps → IsFirstUpTo R from to steps events
    → ((k : ℕ) → k < steps → IsReachableIn R k from to → ⊥) → IsShortestPath R from to events
shortest_path R from to steps events path short first none =
    record {
      path = path;
      least = least;
      first = λ others other same. first others other (omega (arith, same, short));
    }
  where
    least : (others : List ℕ) → IsPathFrom R from to others → length events ≤ length others
    least [] other = absurd other
    least (x ∷ xs) other = elim (cases_lt (length (x ∷ xs)) (length events)) [
      | inr le ↦ le
      | inl gt ↦ absurd (none (length (x ∷ xs)) (omega arith) (record {
        through = xs;
        short = omega arith;
        path = subst (λ (y : ℕ). Path R y xs to) other.0 other.1;
      }))
    ]

-- no cycle has fewer steps, and no smaller event lies on one of as many
pub record IsLeastStart (R : ℕ → ℕ → Type 0) (event steps : ℕ) : Type 0 where
  pub none : (k : ℕ) → k < steps → (a : ℕ) → IsReachableIn R k a a → ⊥
  pub before : (a : ℕ) → a < event → IsReachableIn R steps a a → ⊥

-- the least event that the level relates to itself
pub least_start : (R : ℕ → ℕ → Type 0) (n : ℕ) (level : Relation) (event steps : ℕ)
    → IsRelation level n (IsReachableIn R steps)
    → ((k : ℕ) → k < steps → (a : ℕ) → IsReachableIn R k a a → ⊥)
    → IsFirstReflexive (Has level) event → IsLeastStart R event steps
least_start R n level event steps are none first =
    record { none = none; before = λ a lt w. first.least a lt ((are.pairs a a).1 w) }

pub shortest : (R : ℕ → ℕ → Type 0) (event steps : ℕ) (events : List ℕ) → IsCycleFrom R event events
    → length events ≤ steps → IsFirstUpTo R event event steps events → IsLeastStart R event steps
    → IsShortestCycle R events
shortest R event steps events cycle short within start =
    record { cycle = is_cycle events cycle; least = least; first = first }
  where
    is_cycle : (xs : List ℕ) → IsCycleFrom R event xs → IsCycle R xs
    is_cycle [] c = c
    is_cycle (x ∷ xs) c = subst (λ (y : ℕ). Path R x xs y) (sym c.0) c.1

    least : (others : List ℕ) → IsCycle R others → length events ≤ length others
    least [] other = absurd other
    least (x ∷ xs) other = elim (cases_lt (length (x ∷ xs)) (length events)) [
      | inr le ↦ le
      | inl gt ↦ absurd (start.none (length (x ∷ xs)) (omega arith) x
          (record { through = xs; short = omega arith; path = other }))
    ]

    smaller : (xs : List ℕ) (y : ℕ) (ys : List ℕ) → IsCycleFrom R event xs → event < y
        → ComesNoLater xs (y ∷ ys)
    smaller [] y ys c lt = tt
    smaller (x ∷ xs) y ys c lt = inl (subst (λ (z : ℕ). z < y) (sym c.0) lt)

    first : (others : List ℕ) → IsCycle R others → length others ≡ length events
        → ComesNoLater events others
    first [] other same = absurd other
    first (x ∷ xs) other same = elim (cases_lt x event) [
      | inl lt ↦ absurd (start.before x lt (record {
        through = xs;
        short = omega (arith, same, short);
        path = other;
      }))
      | inr le ↦ elim (cases_lt event x) [
        | inl gt ↦ smaller events x xs cycle gt
        | inr ge ↦
            let e : x ≡ event = omega arith in
            within (x ∷ xs) (e, subst (λ (y : ℕ). Path R x xs y) e other)
            (omega (arith, same, short))
      ]
    ]
