-- Columns that get a value more.
use Rattle.std.proofs.Common.{ℕ, ◌≡◌, ◌<◌, ◌≤◌, ◌+◌, ◌-◌, ◌++◌, ◌∙◌, inl, inr, List, [], ◌∷◌, length, length-append, get_or, zero, suc, Bool, true, false, sym, ap, subst, refl, arith}
use Rattle.std.specs.Prelude.{Some, slice_get}
use Rattle.std.proofs.lemmas.Bool.{cases_eq, false≢true, true≢false}
use Rattle.std.proofs.lemmas.Option.{none-some}
use Rattle.std.proofs.lemmas.List.{get_or_append_left, get_or_read}
use Rattle.std.proofs.Math.Seq.{get_or-append_right}
use denote.Ref.{Bor}
use Rattle.bit_rows.specs.Relation.{Relation, IsRelation, Events, IsEvents, no_slot}
use Rattle.binding_graph.specs.declared.resolved.Body.{Body}
use Rattle.binding_kinds.specs.declared.kinds.Kind.{Kind}
use Rattle.binding_kinds.specs.declared.kinds.Kind.TheVariants as kinds
use Rattle.binding_graph.specs.declared.resolved.Role.{Role}
use Rattle.binding_graph.specs.declared.resolved.Role.TheVariants as roles
use Rattle.binding_graph.specs.declared.resolved.Step.{Step}
use Rattle.binding_graph.specs.Trees.{SetTree, RelTree, set_code, rel_code}
use Rattle.candidate_spaces.specs.declared.candidate.Space.{Space}
use Rattle.cat_machine.specs.Seen.{NamedValues}
use Rattle.cat_machine.specs.declared.column.Column.{Column}
use Rattle.cat_machine.specs.declared.column.Column.TheVariants as columns
use Rattle.cat_eval.specs.Candidates.{name_count}
use Rattle.cat_machine.specs.Columns.{HasColumnValue, ColumnsOf, HasOwn}
use Rattle.cat_eval.specs.OverNames.{HaveValuesOver, AreColumnsOver, IsMeaningOver}
use Rattle.cat_machine.specs.Least.{IsLeast, AreMonotone}
use Rattle.cat_machine.specs.Meaning.{MeansSet, MeansRelation}
use Rattle.cat_machine.specs.Named.{EventsIn, PairsOutside, WithOwn, OwnPairs}
use Rattle.cat_machine.specs.Values.{AddsValue, IsFor, column_len}
use Rattle.cat_machine.specs.Rising.{AreCodes}
use Rattle.cat_eval.proofs.Visits.{get_more, get_within}

-- a column without a value more, for the next body
pub one_column_more : (bodies : List Body) (cs : List Column) (i : ℕ) (body : Body)
    (column : Column) → length cs ≡ i → i < length bodies → body ≡ get_or bodies i body
    → IsFor body.code.kind column → column_len column ≡ 0
    → ((j : ℕ) → j < i → (b : Body) (c : Column)
    → IsFor (get_or bodies j b).code.kind (get_or cs j c)
    × (column_len (get_or cs j c) ≡ 0))
    → (j : ℕ) → j < i + 1 → (b : Body) (c : Column)
    → IsFor (get_or bodies j b).code.kind (get_or (cs ++ column ∷ []) j c)
    × (column_len (get_or (cs ++ column ∷ []) j c) ≡ 0)
one_column_more bodies cs i body column long lt here kind empty before j less b c =
    elim (cases_eq j i) [
      | inl same ↦
          let last : get_or (cs ++ column ∷ []) j c ≡ column = at_end j same in
          let read : body ≡ get_or bodies j b = rw same (get_or_read bodies i body lt here b) in
          (rw (last, ← read) kind, rw last empty)
      | inr other ↦
          let inside : j < length cs = omega (arith, less, other, long) in
          rw (get_or_append_left cs (column ∷ []) c j inside)
          (before j (omega (arith, less, other)) b c)
    ]
  where
    at_end : (j : ℕ) → j ≡ i → get_or (cs ++ column ∷ []) j c ≡ column
    at_end j same =
        let past : length cs ≤ j = omega (arith, same, long) in
        let none : j - length cs ≡ 0 = omega (arith, same, long) in
        get_or-append_right cs (column ∷ []) j c past
        ∙ ap (λ (n : ℕ). get_or (column ∷ []) n c) none

-- what was evaluated is what the code means
pub meant_is : (inputs : List (Bor Column)) (base : NamedValues) (k : ℕ) (steps : List Step) (s : Events)
    (r : Relation) (us : List Events) (vs : List Relation)
    → ((t : SetTree) → steps ≡ set_code t []
    → (v : Events) × (us ≡ v ∷ [])
    × IsEvents v base.count (MeansSet base.count (EventsIn base inputs k) t))
    → ((t : RelTree) → steps ≡ rel_code t []
    → (v : Relation) × (vs ≡ v ∷ [])
    × IsRelation v base.count (MeansRelation base.count (EventsIn base inputs k)
    (WithOwn (PairsOutside base inputs k) (OwnPairs base.count [])) t))
    → ((v : Events) (rest : List Events) → us ≡ v ∷ rest → s ≡ v)
    → ((v : Relation) (rest : List Relation) → vs ≡ v ∷ rest → r ≡ v)
    → (kind : Kind) → IsMeaningOver kind steps inputs base k s r
meant_is inputs base k steps s r us vs sets rels set_is rel_is kinds.OfSet = λ t code.
    let made = sets t code in
    subst (λ (v : Events). IsEvents v base.count (MeansSet base.count (EventsIn base inputs k) t))
    (sym (set_is made.0 [] made.1)) made.2
meant_is inputs base k steps s r us vs sets rels set_is rel_is kinds.OfRelation = λ t code.
    let made = rels t code in
    subst
    (λ (v : Relation). IsRelation v base.count (MeansRelation base.count (EventsIn base inputs k)
    (WithOwn (PairsOutside base inputs k) (OwnPairs base.count [])) t))
    (sym (rel_is made.0 [] made.1)) made.2
meant_is inputs base k steps s r us vs sets rels set_is rel_is kinds.OfAny = λ t code.
    let made = rels t code in
    subst
    (λ (v : Relation). IsRelation v base.count (MeansRelation base.count (EventsIn base inputs k)
    (WithOwn (PairsOutside base inputs k) (OwnPairs base.count [])) t))
    (sym (rel_is made.0 [] made.1)) made.2

pub get_kept : {X : Type 0} (xs ys : List X) (k : ℕ) (x : X) → slice_get xs k ≡ Some x
    → slice_get (xs ++ ys) k ≡ Some x
get_kept [] ys k x e = absurd (none-some x e)
get_kept (z ∷ zs) ys zero x e = e
get_kept (z ∷ zs) ys (suc k) x e = get_kept zs ys k x e

pub get_last : {X : Type 0} (xs : List X) (x : X) → slice_get (xs ++ x ∷ []) (length xs) ≡ Some x
get_last [] x = refl
get_last (z ∷ zs) x = get_last zs x

pub one_of : {X : Type 0} (xs : List X) (j : ℕ) → j < length xs → X
one_of [] j lt = absurd (omega (arith, lt))
one_of (x ∷ xs) j lt = x

-- a value more: the kind is the same
pub adds_for : (kind : Kind) (a b : Column) (s : Events) (r : Relation) → AddsValue a b s r
    → IsFor kind a → IsFor kind b
adds_for kinds.OfSet (columns.Sets xs) (columns.Sets ys) s r adds fits = tt
adds_for kinds.OfSet (columns.Sets xs) (columns.Relations ys) s r adds fits = absurd adds
adds_for kinds.OfSet (columns.Relations xs) b s r adds fits = absurd fits
adds_for kinds.OfRelation (columns.Sets xs) b s r adds fits = absurd fits
adds_for kinds.OfRelation (columns.Relations xs) (columns.Sets ys) s r adds fits = absurd adds
adds_for kinds.OfRelation (columns.Relations xs) (columns.Relations ys) s r adds fits = tt
adds_for kinds.OfAny (columns.Sets xs) b s r adds fits = absurd fits
adds_for kinds.OfAny (columns.Relations xs) (columns.Sets ys) s r adds fits = absurd adds
adds_for kinds.OfAny (columns.Relations xs) (columns.Relations ys) s r adds fits = tt

pub adds_long : (a b : Column) (s : Events) (r : Relation) → AddsValue a b s r
    → column_len b ≡ column_len a + 1
adds_long (columns.Sets xs) (columns.Sets ys) s r adds = ap length adds ∙ length-append xs (s ∷ [])
adds_long (columns.Sets xs) (columns.Relations ys) s r adds = absurd adds
adds_long (columns.Relations xs) (columns.Sets ys) s r adds = absurd adds
adds_long (columns.Relations xs) (columns.Relations ys) s r adds =
    ap length adds ∙ length-append xs (r ∷ [])

-- the values of the candidates before stay
pub adds_old : (a b : Column) (s : Events) (r : Relation) → AddsValue a b s r
    → (k : ℕ) (t : Events) (q : Relation) → HasColumnValue a k t q → HasColumnValue b k t q
adds_old (columns.Sets xs) (columns.Sets ys) s r adds k t q has =
    rw adds (get_kept xs (s ∷ []) k t has)
adds_old (columns.Sets xs) (columns.Relations ys) s r adds k t q has = absurd adds
adds_old (columns.Relations xs) (columns.Sets ys) s r adds k t q has = absurd adds
adds_old (columns.Relations xs) (columns.Relations ys) s r adds k t q has =
    rw adds (get_kept xs (r ∷ []) k q has)

-- the new value is that of the next candidate
pub adds_new : (a b : Column) (s : Events) (r : Relation) → AddsValue a b s r → (k : ℕ)
    → k ≡ column_len a → HasColumnValue b k s r
adds_new (columns.Sets xs) (columns.Sets ys) s r adds k at = rw (adds, at) (get_last xs s)
adds_new (columns.Sets xs) (columns.Relations ys) s r adds k at = absurd adds
adds_new (columns.Relations xs) (columns.Sets ys) s r adds k at = absurd adds
adds_new (columns.Relations xs) (columns.Relations ys) s r adds k at = rw (adds, at) (get_last xs r)

module _ (bodies : List Body) (inputs : List (Bor Column)) (olds news : List Column)
    (added : (j : ℕ) → j < length bodies → (c : Column)
    → (s : Events) × (r : Relation) × AddsValue (get_or olds j c) (get_or news j c) s r) where
  pub values_stay : (recursive : Bool) (base : NamedValues) (k : ℕ)
      → HaveValuesOver recursive bodies inputs base k olds
      → HaveValuesOver recursive bodies inputs base k news
  values_stay false base k have = λ j lt c b.
      let (s, r, has, meant) = have j lt c b in
      let (t, q, adds) = added j lt c in
      (s, r, adds_old (get_or olds j c) (get_or news j c) t q adds k s r has, meant)
  values_stay true base k have = λ trees codes fit.
      let (values, least, each) = have trees codes fit in (
        values,
        least,
        (λ j lt c.
            let (s, has) = each j lt c in
            let (t, q, adds) = added j lt c in (
              s,
              adds_old (get_or olds j c) (get_or news j c) t q adds k s
                  (get_or values j no_slot) has,
            )),
      )

  -- one candidate more
  pub columns_more : (recursive : Bool) (bases : List NamedValues) (base : NamedValues)
      → length news ≡ length olds → AreColumnsOver recursive bodies inputs bases olds
      → HaveValuesOver recursive bodies inputs base (length bases) news
      → AreColumnsOver recursive bodies inputs (bases ++ base ∷ []) news
  columns_more recursive bases base many before now = record {
    as_many = many ∙ before.as_many;
    suited = λ j lt b c.
        let (s, r, adds) = added j lt c in
        adds_for (get_or bodies j b).code.kind (get_or olds j c) (get_or news j c) s r adds
        (before.suited j lt b c);
    long = λ j lt c.
        let (s, r, adds) = added j lt c in
        adds_long (get_or olds j c) (get_or news j c) s r adds
        ∙ ap (λ (n : ℕ). n + 1) (before.long j lt c) ∙ sym (length-append bases (base ∷ []));
    values = λ k one at. elim (get_more bases base one k at) [
      | inl old ↦ values_stay recursive one k (before.values k one old)
      | inr t ↦ rw (t.0, ← t.1) now
    ];
  }

-- before the first candidate
pub columns_none : (recursive : Bool) (bodies : List Body) (inputs : List (Bor Column))
    (cs : List Column) → length cs ≡ length bodies
    → ((j : ℕ) → j < length bodies → (b : Body) (c : Column)
    → IsFor (get_or bodies j b).code.kind (get_or cs j c)
    × (column_len (get_or cs j c) ≡ 0))
    → AreColumnsOver recursive bodies inputs [] cs
columns_none recursive bodies inputs cs many fits = record {
  as_many = many;
  suited = λ j lt b c. (fits j lt b c).0;
  long = λ j lt c. (fits j lt (one_of bodies j lt) c).1;
  values = λ k base at. absurd (none k base at);
}
  where
    none : (k : ℕ) (base : NamedValues) → slice_get [] k ≡ Some base → ⊥
    none k base e = absurd (omega (arith, get_within [] base k e))

module _ (bodies : List Body) (inputs : List (Bor Column)) (bases : List NamedValues) (base : NamedValues)
    (olds news : List Column) (k : ℕ) (many : length news ≡ length olds) (at : k ≡ length bases)
  where
    -- each body was evaluated once
    pub evaluated_more : (recursive : Bool) → recursive ≡ false
        → AreColumnsOver recursive bodies inputs bases olds
        → ((j : ℕ) → j < length bodies → j < length olds → (c : Column)
        → (s : Events) × (r : Relation) × AddsValue (get_or olds j c) (get_or news j c) s r
        × ((b : Body)
        → IsMeaningOver (get_or bodies j b).code.kind
        (get_or bodies j b).code.steps.items inputs base k s r))
        → AreColumnsOver recursive bodies inputs (bases ++ base ∷ []) news
    evaluated_more true is before added = absurd (true≢false is)
    evaluated_more false is before added =
        columns_more bodies inputs olds news each false bases base many before now
      where
        inside : (j : ℕ) → j < length bodies → j < length olds
        inside j lt = rw before.as_many lt

        each : (j : ℕ) → j < length bodies → (c : Column)
            → (s : Events) × (r : Relation) × AddsValue (get_or olds j c) (get_or news j c) s r
        each j lt c =
            let (s, r, adds, meant) = added j lt (inside j lt) c in
            (s, r, adds)

        now : HaveValuesOver false bodies inputs base (length bases) news
        now j lt c b =
            let (s, r, adds, meant) = added j lt (inside j lt) c in (
              s,
              r,
              adds_new (get_or olds j c) (get_or news j c) s r adds (length bases)
                  (sym (before.long j lt c)),
              subst
                  (λ (n : ℕ). IsMeaningOver (get_or bodies j b).code.kind
                  (get_or bodies j b).code.steps.items inputs base n s r) at
                  (meant b),
            )

    -- the equations were solved
    pub solved_more : (recursive : Bool) (own values : List Relation) → recursive ≡ true
        → HasOwn recursive bodies own → AreColumnsOver recursive bodies inputs bases olds
        → ((j : ℕ) → j < length own → j < length olds → (c : Column)
        → (s : Events) × AddsValue (get_or olds j c) (get_or news j c) s (get_or values j no_slot))
        → (length own ≡ length bodies → (trees : List RelTree) → AreCodes trees bodies
        → AreMonotone trees
        → IsLeast base.count (EventsIn base inputs k) (PairsOutside base inputs k) trees
        values)
        → AreColumnsOver recursive bodies inputs (bases ++ base ∷ []) news
    solved_more false own values is held before added least = absurd (false≢true is)
    solved_more true own values is held before added least =
        columns_more bodies inputs olds news each true bases base many before now
      where
        gets : (j : ℕ) → j < length bodies → (c : Column)
            → (s : Events) × AddsValue (get_or olds j c) (get_or news j c) s (get_or values j no_slot)
        gets j lt c = added j (rw held lt) (rw before.as_many lt) c

        each : (j : ℕ) → j < length bodies → (c : Column)
            → (s : Events) × (r : Relation) × AddsValue (get_or olds j c) (get_or news j c) s r
        each j lt c =
            let (s, adds) = gets j lt c in
            (s, get_or values j no_slot, adds)

        here : (trees : List RelTree)
            → IsLeast base.count (EventsIn base inputs k) (PairsOutside base inputs k) trees values
            → IsLeast base.count (EventsIn base inputs (length bases))
            (PairsOutside base inputs (length bases)) trees values
        here trees h =
            subst
            (λ (n : ℕ).
            IsLeast base.count (EventsIn base inputs n) (PairsOutside base inputs n) trees values)
            at h

        now : HaveValuesOver true bodies inputs base (length bases) news
        now trees codes fit = (
          values,
          here trees (least held trees codes fit),
          (λ j lt c.
              let (s, adds) = gets j lt c in (
                s,
                adds_new (get_or olds j c) (get_or news j c) s (get_or values j no_slot) adds
                    (length bases) (sym (before.long j lt c)),
              )),
        )

-- the same group and inputs, by another name
pub columns_moved : (p q : Bool) (b d : Bor (List Body)) (x y : Bor (List (Bor Column))) → p ≡ q
    → b ≡ d → x ≡ y → (bases : List NamedValues) (cs : List Column)
    → AreColumnsOver p b.now x.now bases cs → AreColumnsOver q d.now y.now bases cs
columns_moved p q b d x y e f g bases cs h =
    subst (λ (r : Bool). AreColumnsOver r d.now y.now bases cs) e
    (subst (λ (z : Bor (List Body)). AreColumnsOver p z.now y.now bases cs) f
    (subst (λ (z : Bor (List (Bor Column))). AreColumnsOver p b.now z.now bases cs) g h))

pub own_moved : (p q : Bool) (b d : Bor (List Body)) → p ≡ q → b ≡ d → (own : List Relation)
    → HasOwn p b.now own → HasOwn q d.now own
own_moved p q b d e f own h =
    subst (λ (r : Bool). HasOwn r d.now own) e
    (subst (λ (z : Bor (List Body)). HasOwn p z.now own) f h)

pub own_long : (recursive : Bool) (bodies : List Body) (own new : List Relation) → recursive ≡ true
    → length new ≡ length own → HasOwn recursive bodies own → HasOwn recursive bodies new
own_long true bodies own new is long h = long ∙ h
own_long false bodies own new is long h = absurd (false≢true is)

pub own_none : (recursive : Bool) (bodies : List Body) (own : List Relation) → recursive ≡ false
    → HasOwn recursive bodies own → own ≡ []
own_none true bodies own is h = absurd (true≢false is)
own_none false bodies own is h = h

pub columns_named : (role : Role) (inputs : List (Bor Column)) (space : Space) (cs : List Column)
    → ColumnsOf role inputs space cs → length cs ≡ name_count role
columns_named (roles.Group recursive bodies) inputs space cs h = h.as_many
columns_named (roles.Check check) inputs space cs h = ap length h
columns_named roles.Silent inputs space cs h = ap length h
