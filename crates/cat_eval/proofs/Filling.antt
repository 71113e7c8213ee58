-- Columns of predefined names on their way through the candidates.
use Rattle.std.proofs.Common.{ℕ, ◌≡◌, ◌<◌, ◌+◌, ◌-◌, ◌↔◌, ◌++◌, ◌∙◌, inl, inr, zero, suc, List, [], ◌∷◌, length, length-append, get_or, Contains, Bool, true, false, sym, ap, subst, refl, arith}
use Rattle.std.specs.Prelude.{Some, slice_get}
use Rattle.std.proofs.lemmas.Bool.{false≢true}
use Rattle.std.proofs.lemmas.Option.{same_Some}
use Rattle.std.proofs.lemmas.List.Elements.{Contains-append_right}
use Rattle.bit_rows.specs.Relation.{Relation, Events, IsRelation, IsEvents}
use Rattle.predefined_names.specs.declared.predefined.Predefined.{Predefined}
use Rattle.predefined_names.specs.declared.predefined.Predefined.TheVariants as names
use Rattle.predefined_names.specs.PredefinedNames.{is_set}
use Rattle.store_orders.specs.declared.combination.Combination.{Combination}
use Rattle.base_names.specs.Candidate.{SetIn, RelationIn}
use Rattle.base_names.specs.Known.{Known, EventsFound, KnownEvents, KnownPairs}
use Rattle.candidate_spaces.specs.Space.{Candidate}
use Rattle.cat_machine.specs.declared.column.Column.{Column}
use Rattle.cat_machine.specs.declared.column.Column.TheVariants as columns
use Rattle.cat_eval.specs.declared.table.Entry.{Entry}
use Rattle.cat_machine.specs.Columns.{HasColumnValue}
use Rattle.cat_machine.specs.Executions.{events_of}
use Rattle.cat_eval.specs.Needs.{AreSuited}
use Rattle.cat_machine.specs.Seen.{PairsFound}
use Rattle.cat_eval.specs.Reordered.{HoldsSame}
use Rattle.cat_machine.specs.Steady.{HasAsLast, Repeats}
use Rattle.cat_eval.specs.Tables.{StandsFor, IsColumnOf, IsBlock, IsHeld, IsEntryFilled, AreFilled, entry_names, kind_for}
use Rattle.cat_machine.specs.Values.{AddsValue, IsFor, column_len}
use Rattle.cat_eval.specs.Worlds.{IsWorld, AreWorlds}
use Rattle.cat_eval.proofs.Columns.{get_last, adds_for, adds_long, adds_old, adds_new}
use Rattle.cat_machine.proofs.Same.{Same, SameSet}
use Rattle.cat_eval.proofs.Standing.{set_meant, relation_meant}
use Rattle.cat_eval.proofs.Visits.{get_more, get_within}

-- of the two the one of the kind
pub held_one : (b : Bool) (name : Predefined) (base : Known) (s : Events) (r : Relation)
    → IsEvents s base.count (KnownEvents base name) → IsRelation r base.count (KnownPairs base name)
    → IsHeld b name base s r
held_one true name base s r events pairs = events
held_one false name base s r events pairs = pairs

-- one value more
pub filled_more : (old new : Entry) (bases : List Known) (base : Known) (s : Events) (r : Relation)
    → new.name ≡ old.name → AddsValue old.column new.column s r
    → IsHeld (is_set old.name) old.name base s r → IsEntryFilled old bases
    → IsEntryFilled new (bases ++ base ∷ [])
filled_more old new bases base s r name adds held before = record {
  kind =
      subst (λ (p : Predefined). IsFor (kind_for (is_set p)) new.column) (sym name)
      (adds_for (kind_for (is_set old.name)) old.column new.column s r adds before.kind);
  long =
      adds_long old.column new.column s r adds ∙ ap (λ (n : ℕ). n + 1) before.long
      ∙ sym (length-append bases (base ∷ []));
  values =
      λ k one at. subst
      (λ (p : Predefined). (t : Events) × (q : Relation) × HasColumnValue new.column k t q
      × IsHeld (is_set p) p one t q)
      (sym name)
      (elim (get_more bases base one k at) [
        | inl there ↦
            let (t, q, has, old_held) = before.values k one there in
            (t, q, adds_old old.column new.column s r adds k t q has, old_held)
        | inr new_at ↦ (
          s,
          r,
          adds_new old.column new.column s r adds k (new_at.0 ∙ sym before.long),
          subst (λ (b : Known). IsHeld (is_set old.name) old.name b s r) new_at.1 held,
        )
      ]);
}

-- the last value once more, where it is that of the next base too
pub filled_again : (old new : Entry) (bases : List Known) (end base : Known) → new.name ≡ old.name
    → HasAsLast bases end → HoldsSame old.name end base → Repeats old.column new.column
    → IsEntryFilled old bases → IsEntryFilled new (bases ++ base ∷ [])
filled_again old new bases end base name ends same repeats before =
    let long : length bases ≡ length ends.0 + 1 = ap length ends.1 ∙ length-append ends.0 (end ∷ []) in
    let at : slice_get bases (length ends.0) ≡ Some end = rw ends.1 (get_last ends.0 end) in
    let (s, r, has, held) = before.values (length ends.0) end at in
    let last : column_len old.column - 1 ≡ length ends.0 = omega (arith, before.long, long) in
    filled_more old new bases base s r name
    (repeats s r (subst (λ (n : ℕ). HasColumnValue old.column n s r) (sym last) has)) (same s r held)
    before

-- before the first candidate
pub filled_none : (entry : Entry) → IsFor (kind_for (is_set entry.name)) entry.column
    → column_len entry.column ≡ 0 → IsEntryFilled entry []
filled_none entry kind empty = record {
  kind = kind;
  long = empty;
  values = λ k base at. absurd (none k base at);
}
  where
    none : (k : ℕ) (base : Known) → slice_get [] k ≡ Some base → ⊥
    none k base e = absurd (omega (arith, get_within [] base k e))

-- each candidate has its world, at the same index
world_at : (names : List Predefined) (reads orders : Bool) (bases : List Known)
    (cs : List Candidate) → AreWorlds names reads orders bases cs → (k : ℕ) (one : Candidate)
    → slice_get cs k ≡ Some one
    → (base : Known) × (slice_get bases k ≡ Some base) × IsWorld names reads orders base one
world_at names reads orders [] [] h k one at = absurd (omega (arith, get_within [] one k at))
world_at names reads orders [] (c ∷ cs) h k one at = absurd h
world_at names reads orders (b ∷ bs) [] h k one at = absurd h
world_at names reads orders (b ∷ bs) (c ∷ cs) h zero one at =
    let same : c ≡ one = same_Some c one at in
    (b, refl, subst (λ (x : Candidate). IsWorld names reads orders b x) same h.0)
world_at names reads orders (b ∷ bs) (c ∷ cs) h (suc k) one at =
    world_at names reads orders bs cs h.1 k one at

-- a set has no pairs, and a relation no events

no_pairs : (name : Predefined) → is_set name ≡ true
    → (n : ℕ) (c : Combination) (reads_from coherence : List ℕ) (a b : ℕ)
    → RelationIn name n c reads_from coherence a b → ⊥
no_pairs names.Loads is n c reads_from coherence a b h = h.2
no_pairs names.Stores is n c reads_from coherence a b h = h.2
no_pairs names.Accesses is n c reads_from coherence a b h = h.2
no_pairs names.Fences is n c reads_from coherence a b h = h.2
no_pairs names.InitialStores is n c reads_from coherence a b h = h.2
no_pairs names.SyncFences is n c reads_from coherence a b h = h.2
no_pairs names.LwsyncFences is n c reads_from coherence a b h = h.2
no_pairs names.EieioFences is n c reads_from coherence a b h = h.2
no_pairs names.IsyncFences is n c reads_from coherence a b h = h.2
no_pairs names.Identity is n c reads_from coherence a b h = absurd (false≢true is)
no_pairs names.ProgramOrder is n c reads_from coherence a b h = absurd (false≢true is)
no_pairs names.SameLocation is n c reads_from coherence a b h = absurd (false≢true is)
no_pairs names.ProgramOrderSameLocation is n c reads_from coherence a b h = absurd (false≢true is)
no_pairs names.Internal is n c reads_from coherence a b h = absurd (false≢true is)
no_pairs names.External is n c reads_from coherence a b h = absurd (false≢true is)
no_pairs names.ReadsFrom is n c reads_from coherence a b h = absurd (false≢true is)
no_pairs names.Coherence is n c reads_from coherence a b h = absurd (false≢true is)
no_pairs names.FromReads is n c reads_from coherence a b h = absurd (false≢true is)
no_pairs names.ReadsFromExternal is n c reads_from coherence a b h = absurd (false≢true is)
no_pairs names.ReadsFromInternal is n c reads_from coherence a b h = absurd (false≢true is)
no_pairs names.CoherenceExternal is n c reads_from coherence a b h = absurd (false≢true is)
no_pairs names.CoherenceInternal is n c reads_from coherence a b h = absurd (false≢true is)
no_pairs names.FromReadsExternal is n c reads_from coherence a b h = absurd (false≢true is)
no_pairs names.FromReadsInternal is n c reads_from coherence a b h = absurd (false≢true is)
no_pairs names.Communication is n c reads_from coherence a b h = absurd (false≢true is)
no_pairs names.AddressDependency is n c reads_from coherence a b h = absurd (false≢true is)
no_pairs names.DataDependency is n c reads_from coherence a b h = absurd (false≢true is)
no_pairs names.ControlDependency is n c reads_from coherence a b h = absurd (false≢true is)
no_pairs names.ControlIsyncDependency is n c reads_from coherence a b h = absurd (false≢true is)
no_pairs names.SyncOrder is n c reads_from coherence a b h = absurd (false≢true is)
no_pairs names.LwsyncOrder is n c reads_from coherence a b h = absurd (false≢true is)
no_pairs names.EieioOrder is n c reads_from coherence a b h = absurd (false≢true is)
no_pairs names.IsyncOrder is n c reads_from coherence a b h = absurd (false≢true is)

no_events : (name : Predefined) → is_set name ≡ false → (n : ℕ) (c : Combination) (a : ℕ)
    → SetIn c n name a → ⊥
no_events names.Loads is n c a h = absurd (false≢true (sym is))
no_events names.Stores is n c a h = absurd (false≢true (sym is))
no_events names.Accesses is n c a h = absurd (false≢true (sym is))
no_events names.Fences is n c a h = absurd (false≢true (sym is))
no_events names.InitialStores is n c a h = absurd (false≢true (sym is))
no_events names.SyncFences is n c a h = absurd (false≢true (sym is))
no_events names.LwsyncFences is n c a h = absurd (false≢true (sym is))
no_events names.EieioFences is n c a h = absurd (false≢true (sym is))
no_events names.IsyncFences is n c a h = absurd (false≢true (sym is))
no_events names.Identity is n c a h = h.1.2
no_events names.ProgramOrder is n c a h = h.1.2
no_events names.SameLocation is n c a h = h.1.2
no_events names.ProgramOrderSameLocation is n c a h = h.1.2
no_events names.Internal is n c a h = h.1.2
no_events names.External is n c a h = h.1.2
no_events names.ReadsFrom is n c a h = h.1.2
no_events names.Coherence is n c a h = h.1.2
no_events names.FromReads is n c a h = h.1.2
no_events names.ReadsFromExternal is n c a h = h.1.2
no_events names.ReadsFromInternal is n c a h = h.1.2
no_events names.CoherenceExternal is n c a h = h.1.2
no_events names.CoherenceInternal is n c a h = h.1.2
no_events names.FromReadsExternal is n c a h = h.1.2
no_events names.FromReadsInternal is n c a h = h.1.2
no_events names.Communication is n c a h = h.1.2
no_events names.AddressDependency is n c a h = h.1.2
no_events names.DataDependency is n c a h = h.1.2
no_events names.ControlDependency is n c a h = h.1.2
no_events names.ControlIsyncDependency is n c a h = h.1.2
no_events names.SyncOrder is n c a h = h.1.2
no_events names.LwsyncOrder is n c a h = h.1.2
no_events names.EieioOrder is n c a h = h.1.2
no_events names.IsyncOrder is n c a h = h.1.2

-- a value that is held under a name, over a base of the candidate
module _ (name : Predefined) (k : ℕ) (one : Candidate) (base : Known)
    (count : base.count ≡ events_of one)
    (sets : SameSet (KnownEvents base name) (SetIn one.0 base.count name))
    (pairs : Same (KnownPairs base name) (RelationIn name base.count one.0 one.1.0 one.1.1)) where
  set_stands : (values : List Events) (s : Events) → slice_get values k ≡ Some s
      → IsEvents s base.count (KnownEvents base name) → (a : ℕ)
      → EventsFound (slice_get values k) (events_of one) a ↔ SetIn one.0 (events_of one) name a
  set_stands values s has held a =
      subst (λ (n : ℕ). EventsFound (slice_get values k) n a ↔ SetIn one.0 n name a) count
      (rw has (
        (λ h. (sets a).0 ((held.members a).0 h.1)),
        (λ h. (held.count, (held.members a).1 ((sets a).1 h))),
      ))

  relation_stands : (values : List Relation) (r : Relation) → slice_get values k ≡ Some r
      → IsRelation r base.count (KnownPairs base name) → (a b : ℕ)
      → PairsFound (slice_get values k) (events_of one) a b
      ↔ RelationIn name (events_of one) one.0 one.1.0 one.1.1 a b
  relation_stands values r has held a b =
      subst
      (λ (n : ℕ). PairsFound (slice_get values k) n a b
      ↔ RelationIn name n one.0 one.1.0 one.1.1 a b) count
      (rw has (
        (λ h. (pairs a b).0 ((held.pairs a b).0 h.1)),
        (λ h. (held.count, (held.pairs a b).1 ((pairs a b).1 h))),
      ))

  stands_at : (b : Bool) (column : Column) → is_set name ≡ b → IsFor (kind_for b) column
      → (s : Events) (r : Relation) → HasColumnValue column k s r → IsHeld b name base s r
      → StandsFor column k name one
  stands_at true (columns.Sets values) is kind s r has held = record {
    events = set_stands values s has held;
    pairs =
        λ a b. (
          (λ h. absurd h),
          (λ h. absurd (no_pairs name is (events_of one) one.0 one.1.0 one.1.1 a b h)),
        );
  }
  stands_at true (columns.Relations values) is kind s r has held = absurd kind
  stands_at false (columns.Sets values) is kind s r has held = absurd kind
  stands_at false (columns.Relations values) is kind s r has held = record {
    events = λ a. ((λ h. absurd h), (λ h. absurd (no_events name is (events_of one) one.0 a h)));
    pairs = relation_stands values r has held;
  }

-- a name that is among the names is that of an entry
pub entry_at : (entries : List Entry) (name : Predefined) → Contains (entry_names entries) name
    → (k : ℕ) × (k < length entries) × ((d : Entry) → (get_or entries k d).name ≡ name)
entry_at [] name h = absurd (omega (arith, h.1))
entry_at (e ∷ es) name (zero, lt, is) = (0, omega arith, (λ d. is))
entry_at (e ∷ es) name (suc k, lt, is) =
    let (j, less, same) = entry_at es name (k, omega (arith, lt), is) in
    (suc j, omega (arith, less), (λ d. same d))

-- entries that have the same names one by one
pub names_same : (xs ys : List Entry) → length xs ≡ length ys
    → ((j : ℕ) (d : Entry) → (get_or xs j d).name ≡ (get_or ys j d).name)
    → entry_names xs ≡ entry_names ys
names_same [] [] long same = refl
names_same [] (y ∷ ys) long same = absurd (omega (arith, long))
names_same (x ∷ xs) [] long same = absurd (omega (arith, long))
names_same (x ∷ xs) (y ∷ ys) long same =
    let head : x.name ≡ y.name = same 0 x in
    let rest : entry_names xs ≡ entry_names ys = names_same xs ys (omega (arith, long)) (λ j d. same (suc j) d) in
    ap (λ (n : Predefined). n ∷ entry_names xs) head
    ∙ ap (λ (ns : List Predefined). y.name ∷ ns) rest

-- one entry more
pub filled_with : (entries : List Entry) (one : Entry) (bases : List Known)
    → AreFilled entries bases → IsEntryFilled one bases → (i : ℕ) → i < length (entries ++ one ∷ [])
    → (d : Entry) → IsEntryFilled (get_or (entries ++ one ∷ []) i d) bases
filled_with [] one bases filled now zero lt d = now
filled_with [] one bases filled now (suc i) lt d = absurd (omega (arith, lt))
filled_with (e ∷ es) one bases filled now zero lt d = filled 0 (omega arith) d
filled_with (e ∷ es) one bases filled now (suc i) lt d =
    filled_with es one bases (λ j less x. filled (suc j) (omega (arith, less)) x) now i
    (omega (arith, lt)) d

-- the name of an entry is among the names
pub entry_there : (entries : List Entry) (i : ℕ) → i < length entries → (d : Entry)
    → Contains (entry_names entries) (get_or entries i d).name
entry_there [] i lt d = absurd (omega (arith, lt))
entry_there (e ∷ es) zero lt d = (0, omega arith, refl)
entry_there (e ∷ es) (suc i) lt d =
    Contains-append_right (e.name ∷ []) (entry_names es) (get_or es i d).name
    (entry_there es i (omega (arith, lt)) d)

-- columns that are filled over the bases of the candidates
module _ (list : List Predefined) (reads orders : Bool) (suited : AreSuited list reads orders)
    (bases : List Known) (cs : List Candidate) (worlds : AreWorlds list reads orders bases cs) where
  filled_stands : (entry : Entry) → Contains list entry.name → IsEntryFilled entry bases
      → IsColumnOf entry.column entry.name cs
  filled_stands entry inside filled k one at =
      let (base, at_b, world) = world_at list reads orders bases cs worlds k one at in
      let (s, r, has, held) = filled.values k base at_b in
      stands_at entry.name k one base world.ready.entered.count
      (set_meant base one.0 world.ready.entered entry.name
      (world.ready.held.sets entry.name inside))
      (relation_meant base one.0 world.ready.entered world.ready.known one.1.0 one.1.1 entry.name
      (λ changes. world.reading (suited.read entry.name inside changes))
      (λ changes. world.ordered (suited.ordered entry.name inside changes))
      (world.ready.held.relations entry.name inside))
      (is_set entry.name) entry.column refl filled.kind s r has held

  pub block_right : (entries : List Entry) → entry_names entries ≡ list → AreFilled entries bases
      → IsBlock entries cs
  block_right entries same filled i lt d =
      filled_stands (get_or entries i d)
      (subst (λ (ns : List Predefined). Contains ns (get_or entries i d).name) same
      (entry_there entries i lt d))
      (filled i lt d)
