-- What is known of names stays so behind more names and more items.
use Rattle.std.proofs.Common.{ℕ, ◌≡◌, ◌<◌, ◌⊎◌, inl, inr, List, [], ◌∷◌, length, Bool, true, false, Some, refl, sym, ◌∙◌, subst, arith}
use Rattle.std.specs.Prelude.{nat_eq, if◌then◌else◌, slice_get}
use Rattle.std.proofs.lemmas.Bool.{eqb-true}
use Rattle.binding_kinds.specs.declared.kinds.Kind.{Kind}
use Rattle.binding_kinds.specs.declared.scope.Binder.{Binder}
use Rattle.binding_kinds.specs.declared.scope.Binder.TheVariants as binders
use Rattle.binding_kinds.specs.declared.scope.Found.{Found}
use Rattle.binding_kinds.specs.declared.scope.Used.{Used}
use Rattle.binding_kinds.specs.Value.{Naming}
use Rattle.binding_kinds.specs.Senses.{Sense}
use Rattle.binding_graph.specs.declared.resolved.ResolvedItem.{ResolvedItem}
use Rattle.binding_graph.specs.Usages.{Usage}
use Rattle.candidate_spaces.specs.declared.candidate.Space.{Space}
use Rattle.candidate_spaces.specs.Space.{Candidate}
use Rattle.cat_machine.specs.declared.column.Column.{Column}
use Rattle.cat_machine.specs.Executions.{events_of}
use Rattle.cat_machine.specs.Named.{ColumnEvents, ColumnPairs}
use Rattle.from_scratch.specs.Answers.{AreItemColumns}
use Rattle.meaning_items.specs.Alike.{IsAs}
use Rattle.meaning.specs.Names.{Name}
use Rattle.meaning.specs.Cat.{Meaning, Bound, Names, of_name}
use Rattle.meaning_items.specs.Bound.{value_at}
use Rattle.meaning_items.proofs.Slots.{names_more, older_values, latest_value}
use Rattle.meaning_items.specs.Slots.{naming_in, IsSlotMeant, AreSlotsMeant}
use Rattle.meaning_items.proofs.Naming.{naming_below, IsNamed, AreNamedSenses, AreUsedNames, AreNamedUsages}

-- ---- more names

-- each name stays in its slot
abbrev pub Grows : List Naming → List Naming → Type 0
Grows names more =
    (slot : ℕ) (n : Naming) → naming_in names slot ≡ Some n → naming_in more slot ≡ Some n

pub named_grown : (names more : List Naming) → Grows names more → (g : Found) → IsNamed names g
    → IsNamed more g
named_grown names more grow g h = record {
  naming = h.naming;
  there = grow g.slot h.naming h.there;
  kind = h.kind;
  binder = h.binder;
  value = h.value;
}

pub senses_grown : (names more : List Naming) → Grows names more → (ss : List Sense)
    → AreNamedSenses names ss → AreNamedSenses more ss
senses_grown names more grow ss h f s e =
    names_more (IsNamed names) (IsNamed more) (named_grown names more grow) s.formula (h f s e)

pub used_grown : (names more : List Naming) → Grows names more → (us : List Used)
    → AreUsedNames names us → AreUsedNames more us
used_grown names more grow [] h = tt
used_grown names more grow (u ∷ us) h =
    ((h.0.0, grow u.slot h.0.0 h.0.1, h.0.2), used_grown names more grow us h.1)

pub usages_grown : (names more : List Naming) → Grows names more → (us : List Usage)
    → AreNamedUsages names us → AreNamedUsages more us
usages_grown names more grow us h f u e = used_grown names more grow u.values (h f u e)

-- ---- more items

pub columns_below : (space : Space) (rs : List ResolvedItem) (i : ℕ) (cs : List Column)
    → AreItemColumns space rs i cs → i < length rs
columns_below space [] i cs h = absurd h
columns_below space (r ∷ rs) i cs (inl h) = let e = h.0 in omega (arith, e)
columns_below space (r ∷ rs) i cs (inr h) =
    let lt = columns_below space rs i cs h in omega (arith, lt)

pub slot_later : (space : Space) (r : ResolvedItem) (rs : List ResolvedItem) (k : ℕ)
    (one : Candidate) (kind : Kind) (m : Meaning ℕ) (b : Binder)
    → IsSlotMeant space rs k one kind m b → IsSlotMeant space (r ∷ rs) k one kind m b
slot_later space r rs k one kind m (binders.Predefined p) h = h
slot_later space r rs k one kind m (binders.Bound i) h =
    ((let lt = h.0 in omega (arith, lt)), λ cs c has there. at_item cs c has there)
  where
    at_item : (cs : List Column) (c : Column) → AreItemColumns space (r ∷ rs) i.item cs
        → slice_get cs i.position ≡ Some c
        → IsAs kind m (ColumnEvents c k (events_of one)) (ColumnPairs c k (events_of one))
    at_item cs c (inl new) there = absurd (let lt = h.0 in let e = new.0 in omega (arith, lt, e))
    at_item cs c (inr old) there = h.1 cs c old there
slot_later space r rs k one kind m (binders.Applicable f) h = tt

pub slots_later : (space : Space) (r : ResolvedItem) (rs : List ResolvedItem) (k : ℕ)
    (one : Candidate) (names : List Naming) (N : Names ℕ)
    → AreSlotsMeant space rs k one names N → AreSlotsMeant space (r ∷ rs) k one names N
slots_later space r rs k one names N h slot n there =
    slot_later space r rs k one n.kind (value_at N slot) n.binder (h slot n there)

-- one name more, with its value
pub slots_more : (space : Space) (rs : List ResolvedItem) (k : ℕ) (one : Candidate)
    (names : List Naming) (N : Names ℕ) → length names ≡ length N
    → AreSlotsMeant space rs k one names N → (n : Naming) (b : Name × Bound ℕ)
    → IsSlotMeant space rs k one n.kind (of_name b.1) n.binder
    → AreSlotsMeant space rs k one (n ∷ names) (b ∷ N)
slots_more space rs k one names N same h n b new slot m there =
    at_test (nat_eq slot (length names)) (eqb-true slot (length names)) there
  where
    at_test : (t : Bool) → (t ≡ true → slot ≡ length names)
        → (if t then Some n else naming_in names slot) ≡ Some m
        → IsSlotMeant space rs k one m.kind (value_at (b ∷ N) slot) m.binder
    at_test true is e =
        let here : n ≡ m = let f : Some n ≡ Some m = e in cc in
        subst (λ (q : Naming). IsSlotMeant space rs k one q.kind (value_at (b ∷ N) slot) q.binder)
        here
        (subst (λ (v : Meaning ℕ). IsSlotMeant space rs k one n.kind v n.binder)
        (sym (latest_value b N slot (is refl ∙ same))) new)
    at_test false is e =
        let lt = naming_below names slot m e in
        subst (λ (v : Meaning ℕ). IsSlotMeant space rs k one m.kind v m.binder)
        (older_values b N (length names) same slot lt) (h slot m e)
