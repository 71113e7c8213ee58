-- An item without fault leaves the names the same to the definitions and to the program.
use Rattle.std.proofs.Common.{ℕ, zero, suc, ◌≡◌, ◌<◌, ◌+◌, List, [], ◌∷◌, ◌++◌, length, reverse, map, Bool, true, false, Option, Some, None, refl, ap, sym, ◌∙◌}
use Rattle.std.specs.Prelude.{slice_get, if◌then◌else◌}
use Rattle.text_values.specs.declared.model.Binding as code_binding
use Rattle.text_values.specs.declared.model.Item.{Item}
use Rattle.text_values.specs.declared.model.Item.TheVariants as items
use Rattle.predefined_names.specs.declared.predefined.Predefined.{Predefined}
use Rattle.predefined_names.specs.declared.predefined.TheConstants.{PREDEFINED}
use Rattle.predefined_names.specs.PredefinedNames.{spelling, is_set}
use Rattle.text_values.specs.ModelValue.{Term}
use Rattle.text_values.specs.ModelValues.{term_of, binding_of, clause_of, clauses_of}
use Rattle.binding_kinds.specs.declared.fault.ModelFault.{ModelFault}
use Rattle.binding_kinds.specs.declared.kinds.Kind.TheVariants.{OfSet, OfRelation, OfAny}
use Rattle.binding_kinds.specs.declared.scope.Binder.TheVariants as binders
use Rattle.binding_kinds.specs.declared.scope.Found.{Found}
use Rattle.binding_kinds.specs.declared.scope.Binder.{Binder}
use Rattle.binding_kinds.specs.Value.{Naming, bound_value_of, bare_item}
use Rattle.binding_kinds.specs.Kinds.{found}
use Rattle.binding_kinds.specs.Outermost.{naming_of, outermost_names}
use Rattle.binding_kinds.specs.Senses.{Sense, kind_in}
use Rattle.binding_kinds.specs.Functions.{formula_in, sense_of_function}
use Rattle.binding_kinds.specs.Faults as program
use Rattle.binding_kinds.specs.Faults.{naming_at, with_own, with_all, senses_after, HasNoFault}
use Rattle.binding_kinds.specs.First.{first_of_body, first_of_item, first}
use Rattle.binding_kinds.specs.Verdict.{of_parameters}
use Rattle.binding_kinds.specs.Fits.{IsKnown, AreKnown, AreSoundSenses}
use Rattle.binding_kinds.proofs.FirstItem.{JudgesItems, judged_items}
use Rattle.binding_kinds.proofs.Fitted.{known_item, sound_item}
use Rattle.meaning.specs.Sets.{Set, Relation}
use Rattle.meaning.specs.Names.{Name}
use Rattle.meaning.specs.Cat as cat
use Rattle.meaning.specs.Cat.{Meaning, ARelation, Bound, ToMeaning, ToFunction, Names, Least, meaning_of, with_arguments, with_group, with_bodies}
use Rattle.meaning_items.specs.Bound.{value_at, IsBoundBy, IsBoundAs, AreSame}
use Rattle.meaning_items.specs.Behind.{senses_behind, namings_behind, senses_of, namings_of, bound_behind, outer_bound, bound_of_items}
use Rattle.meaning_items.proofs.Applying.{none_first, body_means, body_right}
use Rattle.meaning_items.proofs.Slots.{same_below, formula_below, older_values, latest_value, more_bound}

-- ---- the names of a group

-- one value more, in the latest slot
value_more : {E : Type 0} (all : Set E) (ss : List Sense) (names : List Naming) (N : Names E)
    → AreSame all ss names N → (item at : ℕ) (b : code_binding.Binding) (k : _) (m : Meaning E)
    → AreSame all ss (naming_at item at (bound_value_of b) k ∷ names) ((b.name, ToMeaning m) ∷ N)
value_more {E} all ss names N same item at b k m =
    more_bound all ss names N same (naming_at item at (bound_value_of b) k) (b.name, ToMeaning m) refl
    (ap (λ (o : Meaning E). ToMeaning o)
    (sym (latest_value (b.name, ToMeaning m) N (length names) same.0)))

-- the names of a group that stand for relations
pub group_same : {E : Type 0} (all : Set E) (ss : List Sense) (R : Name → Relation E)
    (item at : ℕ) (bs : List code_binding.Binding) (names : List Naming) (N : Names E)
    → AreSame all ss names N
    → AreSame all ss (with_own names item at (map bound_value_of bs)) (with_group R (map binding_of bs) N)
group_same all ss R item at [] names N same = same
group_same all ss R item at (b ∷ bs) names N same =
    group_same all ss R item (suc at) bs (naming_at item at (bound_value_of b) OfRelation ∷ names)
    ((b.name, ToMeaning (ARelation (R b.name))) ∷ N)
    (value_more all ss names N same item at b OfRelation (ARelation (R b.name)))

-- the names of another group
bodies_same : {E : Type 0} (all : Set E) (ss : List Sense) (outer : List Naming) (O : Names E)
    (item at : ℕ) (bs : List code_binding.Binding) (names : List Naming) (N : Names E)
    → AreSame all ss names N
    → AreSame all ss (with_all ss outer names item at (map bound_value_of bs))
    (with_bodies all O (map binding_of bs) N)
bodies_same all ss outer O item at [] names N same = same
bodies_same all ss outer O item at (b ∷ bs) names N same =
    bodies_same all ss outer O item (suc at) bs
    (naming_at item at (bound_value_of b) (kind_in ss outer (term_of b.body)) ∷ names)
    ((b.name, ToMeaning (meaning_of all O (term_of b.body))) ∷ N)
    (value_more all ss names N same item at b (kind_in ss outer (term_of b.body))
    (meaning_of all O (term_of b.body)))

-- ---- one function more

more_senses : (ss : List Sense) (s : Sense) (f : ℕ) (t : Sense) → slice_get ss f ≡ Some t
    → slice_get (ss ++ s ∷ []) f ≡ Some t
more_senses [] s f t e = absurd (let d : None ≡ Some t = e in cc)
more_senses (r ∷ ss) s zero t e = e
more_senses (r ∷ ss) s (suc f) t e = more_senses ss s f t e

last_sense : (ss : List Sense) (s : Sense) → slice_get (ss ++ s ∷ []) (length ss) ≡ Some s
last_sense [] s = refl
last_sense (r ∷ ss) s = last_sense ss s

binder_more : {E : Type 0} (all : Set E) (ss : List Sense) (s : Sense) (value : ℕ → Meaning E)
    (slot : ℕ) (c : Binder) (b : Bound E) → IsBoundBy all ss value slot c b
    → IsBoundBy all (ss ++ s ∷ []) value slot c b
binder_more all ss s value slot (binders.Predefined p) b h = h
binder_more all ss s value slot (binders.Bound i) b h = h
binder_more all ss s value slot (binders.Applicable f) b h =
    (h.0, more_senses ss s f h.0 h.1, h.2, h.3, h.4, h.5)

bound_more : {E : Type 0} (all : Set E) (ss : List Sense) (s : Sense) (value : ℕ → Meaning E)
    (o : Option Found) (b : Bound E) → IsBoundAs all ss value o b
    → IsBoundAs all (ss ++ s ∷ []) value o b
bound_more all ss s value None b h = h
bound_more all ss s value (Some f) b h = binder_more all ss s value f.slot f.binder b h

senses_more : {E : Type 0} (all : Set E) (ss : List Sense) (s : Sense) (names : List Naming)
    (N : Names E) → AreSame all ss names N → AreSame all (ss ++ s ∷ []) names N
senses_more all ss s names N same =
    (same.0, λ x. bound_more all ss s (value_at N) (found names x) (cat.bound_of N x) (same.1 x))

function_same : {E : Type 0} (all : Set E) (ss : List Sense) (names : List Naming) (N : Names E)
    → AreSame all ss names N → (f : Name) (ps : List Name) (body : Term)
    → first_of_body ss names ps body ≡ None
    → AreSame all (ss ++ sense_of_function ss names ps body ∷ [])
    (record { name = f; kind = OfAny; binder = binders.Applicable (length ss) } ∷ names)
    ((f, ToFunction (length ps) (λ ms. meaning_of all (with_arguments ps ms N) body)) ∷ N)
function_same {E} all ss names N same f ps body none =
    let s : Sense = sense_of_function ss names ps body in
    let b : Name × Bound E =
    (f, ToFunction (length ps) (λ ms. meaning_of all (with_arguments ps ms N) body)) in
    let below = formula_below all ss (value_at N) names N same.1 ps body in
    more_bound all (ss ++ s ∷ []) names N (senses_more all ss s names N same)
    (record { name = f; kind = OfAny; binder = binders.Applicable (length ss) }) b refl (
      s,
      last_sense ss s,
      below,
      λ ms. meaning_of all (with_arguments ps ms N) body,
      refl,
      λ ms long. body_means all ss names N (value_at N) ps ms same.1 long body
          (body_right ss names ps body none)
          ∙ same_below all (length names) (value_at N) (value_at (b ∷ N))
          (older_values b N (length names) same.0) ms (formula_in ss names ps body) below,
    )

-- ---- items

pub item_same : {E : Type 0} (all : Set E) (ss : List Sense) (names : List Naming) (N : Names E)
    → AreSame all ss names N → (item : ℕ) (i : Item)
    → first_of_item ss names item (bare_item i) ≡ None
    → AreSame all (senses_after ss names (bare_item i)) (program.names_after ss names item (bare_item i))
    (cat.names_after all N (clause_of i))
item_same all ss names N same item (items.Let true group) none =
    group_same all ss (Least all N (map binding_of group.items)) item 0 group.items names N same
item_same all ss names N same item (items.Let false group) none =
    bodies_same all ss names N item 0 group.items names N same
item_same all ss names N same item (items.Function f ps body) none =
    function_same all ss names N same f ps.items (term_of body)
    (none_first (of_parameters [] ps.items) (first_of_body ss names ps.items (term_of body)) none).1
item_same all ss names N same item (items.Check check label) none = same
item_same all ss names N same item (items.Flag check label) none = same
item_same all ss names N same item (items.Show hidden shown) none = same
item_same all ss names N same item (items.Include path) none = same

-- the names behind items, with what is known of their kinds
pub record AreSound {E : Type 0} (all : Set E) (ss : List Sense) (names : List Naming) (N : Names E)
    : Type 1 where
  pub same : AreSame all ss names N
  pub known : AreKnown names
  pub sound : AreSoundSenses ss

pub item_sound : {E : Type 0} (all : Set E) (ss : List Sense) (names : List Naming) (N : Names E)
    → AreSound all ss names N → (item : ℕ) (i : Item)
    → first_of_item ss names item (bare_item i) ≡ None
    → AreSound all (senses_after ss names (bare_item i))
    (program.names_after ss names item (bare_item i)) (cat.names_after all N (clause_of i))
item_sound all ss names N h item i none = record {
  same = item_same all ss names N h.same item i none;
  known = known_item ss names item (bare_item i) h.sound h.known none;
  sound = sound_item ss names item (bare_item i) h.sound h.known none;
}

pub items_sound : {E : Type 0} (all : Set E) (ss : List Sense) (names : List Naming) (N : Names E)
    → AreSound all ss names N → (item : ℕ) (is : List Item)
    → first ss names item (map bare_item is) ≡ None
    → AreSound all (senses_behind ss names item (map bare_item is))
    (namings_behind ss names item (map bare_item is)) (bound_behind all N (clauses_of is))
items_sound all ss names N h item [] none = h
items_sound all ss names N h item (i ∷ is) none =
    let both = none_first (first_of_item ss names item (bare_item i))
    (first (senses_after ss names (bare_item i)) (program.names_after ss names item (bare_item i))
    (item + 1) (map bare_item is)) none in
    items_sound all (senses_after ss names (bare_item i))
    (program.names_after ss names item (bare_item i)) (cat.names_after all N (clause_of i))
    (item_sound all ss names N h item i both.0) (item + 1) is both.1

-- ---- the names that the first item sees

predefined_same : {E : Type 0} (all : Set E) (value : Predefined → Meaning E)
    (ps : List Predefined)
    → AreSame all [] (map naming_of ps) (map (λ p. (spelling p, ToMeaning (value p))) ps)
predefined_same all value [] = (refl, λ x. tt)
predefined_same {E} all value (p ∷ ps) =
    let before = predefined_same all value ps in
    more_bound all [] (map naming_of ps) (map (λ p. (spelling p, ToMeaning (value p))) ps) before
    (naming_of p) (spelling p, ToMeaning (value p)) refl
    (ap (λ (o : Meaning E). ToMeaning o)
    (sym (latest_value (spelling p, ToMeaning (value p))
    (map (λ p. (spelling p, ToMeaning (value p))) ps) (length (map naming_of ps)) before.0)))

predefined_known : (ps : List Predefined) → AreKnown (map naming_of ps)
predefined_known [] = tt
predefined_known (p ∷ ps) = (at_test (is_set p), predefined_known ps)
  where
    at_test : (b : Bool) → IsKnown (if b then OfSet else OfRelation)
    at_test true = tt
    at_test false = tt

pub outer_sound : {E : Type 0} (all : Set E) (value : Predefined → Meaning E)
    → AreSound all [] outermost_names (outer_bound value)
outer_sound all value = record {
  same = predefined_same all value (reverse PREDEFINED);
  known = predefined_known (reverse PREDEFINED);
  sound = tt;
}

faultless : (ss : List Sense) (names : List Naming) (from : ℕ) (cs : _) (o : Option ModelFault)
    → JudgesItems ss names from cs o → HasNoFault ss names from cs → o ≡ None
faultless ss names from cs None h none = refl
faultless ss names from cs (Some k) h none = absurd (none h.item h.index k h.there)

pub no_first : (is : List Item) → HasNoFault [] outermost_names 0 (map bare_item is)
    → first [] outermost_names 0 (map bare_item is) ≡ None
no_first is none =
    faultless [] outermost_names 0 (map bare_item is)
    (first [] outermost_names 0 (map bare_item is))
    (judged_items [] outermost_names 0 (map bare_item is)) none

pub model_sound : {E : Type 0} (all : Set E) (value : Predefined → Meaning E) (is : List Item)
    → HasNoFault [] outermost_names 0 (map bare_item is)
    → AreSound all (senses_of is) (namings_of is) (bound_of_items all value is)
model_sound all value is none =
    items_sound all [] outermost_names (outer_bound value) (outer_sound all value) 0 is
    (no_first is none)
