-- What is known of one model before an item, and which of its items are still to come.
use Rattle.std.proofs.Common.{ℕ, ◌≡◌, ◌+◌, ◌<◌, ◌≤◌, ◌⊎◌, zero, suc, List, [], ◌∷◌, ◌++◌, length, map, true, false, Some, refl, sym, ap, ◌∙◌, subst, inl, inr, eqb-true, arith}
use Rattle.std.specs.Prelude.{◌==◌, nat_le, slice_get}
use Rattle.std.specs.List.{AllByRecursion as Each}
use Rattle.std.proofs.lemmas.Bool.{cases_Bool}
use Rattle.std.proofs.lemmas.Bool.Decides.{nat_tests}
use Rattle.std.proofs.lemmas.List.{map-append, append_assoc, length-map}
use Rattle.text_values.specs.declared.model.Item.{Item}
use Rattle.memo_core.specs.Step.{Has}
use Rattle.binding_kinds.specs.declared.scope.Binder.TheVariants as binders
use Rattle.binding_kinds.specs.declared.scope.Found.{Found}
use Rattle.binding_kinds.specs.declared.scope.Used.{Used}
use Rattle.binding_kinds.specs.Value.{Naming, Bound, BareItem, Group, Check, Mute, Defined, bare_item}
use Rattle.binding_kinds.specs.Kinds.{found}
use Rattle.binding_kinds.specs.Senses.{Sense}
use Rattle.binding_kinds.specs.Functions.{sense_of_function}
use Rattle.binding_kinds.specs.Faults.{with_own, with_all, names_after, senses_after, HasNoFault}
use Rattle.binding_graph.specs.declared.resolved.ResolvedItem.{ResolvedItem}
use Rattle.binding_graph.specs.Reach.{is_check}
use Rattle.binding_graph.specs.Resolved.{AreResolved, AreLabelledAs}
use Rattle.binding_graph.specs.Usages.{Usage, usage_of_function, usages_after, with_values}
use Rattle.binding_laws.specs.ItemLaws.{Scope, with_function}
use Rattle.bench_slots.proofs.Lists.{each_to, each_reverse}
use Rattle.bench_slots.proofs.Naming.{at_below, one_more, found_at}
use Rattle.bench_slots.proofs.Using.{IsBoundBy}
use Rattle.binding_laws.proofs.Named.{map_at}
use Rattle.binding_laws.proofs.Before.{next_counts}
use Rattle.evaluation_laws.proofs.Kept.{Reach, Grows, term_bound}
use Rattle.evaluation_laws.proofs.Common.{IsFront, front_append}
use Rattle.evaluation_laws.proofs.Stepping.{scope_behind}

-- a model: its items, what they are resolved to, and which of them are used
pub record Whole : Type 0 where
  pub items : List Item
  pub resolved : List ResolvedItem
  pub used : List ℕ
  pub functions : List ℕ

abbrev pub reach : Whole → Reach
reach w = record { items = w.used; functions = w.functions }

-- what an item that is used needs is used, and earlier
pub record IsWhole (w : Whole) : Type 0 where
  pub there : (b : ℕ) → Has w.used b → (r : ResolvedItem) × (slice_get w.resolved b ≡ Some r)
  pub names : (b : ℕ) (r : ResolvedItem) → Has w.used b → slice_get w.resolved b ≡ Some r
      → Grows (map (λ i. i.item) r.inputs.items) w.used
  pub functions : (b : ℕ) (r : ResolvedItem) → Has w.used b → slice_get w.resolved b ≡ Some r
      → Grows r.functions.items w.used
  pub earlier : (b : ℕ) (r : ResolvedItem) → slice_get w.resolved b ≡ Some r
      → Each (λ i. i.item < b) r.inputs.items
  pub checks : (b : ℕ) (r : ResolvedItem) → slice_get w.resolved b ≡ Some r → is_check r.role ≡ true
      → Has w.used b

abbrev pub functions_in : ℕ → List BareItem → List ℕ
functions_in at [] = []
functions_in at (c ∷ cs) = with_function at c (functions_in (at + 1) cs)

-- before the items that are left, of which the first has the number `at`
pub record IsSeen (w : Whole) (s : Scope) (at : ℕ) (xs : List Item) (rs : List ResolvedItem)
    : Type 0 where
  pub as_resolved : AreResolved s.senses s.usages s.names at (map bare_item xs) rs
  pub labelled : AreLabelledAs xs rs
  pub no_fault : HasNoFault s.senses s.names at (map bare_item xs)
  pub texts : (k : ℕ) → slice_get w.items (at + k) ≡ slice_get xs k
  pub items : (k : ℕ) → slice_get w.resolved (at + k) ≡ slice_get rs k
  pub counted : w.functions
      ≡ map (λ (u : Usage). u.item) s.usages ++ functions_in at (map bare_item xs)
  pub counts : map (λ (u : Usage). u.arity) s.usages ≡ map (λ (b : Sense). b.arity) s.senses
  pub values : (u : Usage) → Has s.usages u → Each (IsBoundBy s.names) u.values

-- ---- names that are kept as more are seen

bound_more : (n : Naming) (names : List Naming) (v : Used) → IsBoundBy names v
    → IsBoundBy (n ∷ names) v
bound_more n names v h =
    one_more n names v.slot (at_below names v.slot (binders.Bound v.input) h) ∙ h

own_keep : (P : List Naming → Type 0)
    → ((n : Naming) (names : List Naming) → P names → P (n ∷ names))
    → (bs : List Bound) (names : List Naming) (item at : ℕ) → P names
    → P (with_own names item at bs)
own_keep P more [] names item at h = h
own_keep P more (b ∷ bs) names item at h = own_keep P more bs _ item (suc at) (more _ names h)

all_keep : (P : List Naming → Type 0)
    → ((n : Naming) (names : List Naming) → P names → P (n ∷ names))
    → (ss : List Sense) (outer : List Naming) (bs : List Bound) (names : List Naming) (item at : ℕ)
    → P names → P (with_all ss outer names item at bs)
all_keep P more ss outer [] names item at h = h
all_keep P more ss outer (b ∷ bs) names item at h =
    all_keep P more ss outer bs _ item (suc at) (more _ names h)

extended_keep : (P : List Naming → Type 0)
    → ((n : Naming) (names : List Naming) → P names → P (n ∷ names))
    → (ss : List Sense) (names : List Naming) (at : ℕ) (c : BareItem) → P names
    → P (names_after ss names at c)
extended_keep P more ss names at (Group true bs) h = own_keep P more bs names at 0 h
extended_keep P more ss names at (Group false bs) h = all_keep P more ss names bs names at 0 h
extended_keep P more ss names at (Check w e) h = h
extended_keep P more ss names at Mute h = h
extended_keep P more ss names at (Defined n ps b) h = more _ names h

pub names_longer : (ss : List Sense) (names : List Naming) (at : ℕ) (c : BareItem)
    → length names ≤ length (names_after ss names at c)
names_longer ss names at c =
    extended_keep (λ ns. length names ≤ length ns) (λ n ns h. omega (arith, h)) ss names at c
    (omega arith)

pub senses_front : (s : Scope) (c : BareItem) → IsFront s.senses (senses_after s.senses s.names c)
senses_front s (Group r bs) n x e = e
senses_front s (Check w t) n x e = e
senses_front s Mute n x e = e
senses_front s (Defined f ps b) n x e =
    front_append s.senses (sense_of_function s.senses s.names ps b ∷ []) n x e

pub usages_front : (s : Scope) (at : ℕ) (c : BareItem)
    → IsFront s.usages (usages_after s.usages s.names at c)
usages_front s at (Group r bs) n x e = e
usages_front s at (Check w t) n x e = e
usages_front s at Mute n x e = e
usages_front s at (Defined f ps b) n x e =
    front_append s.usages (usage_of_function s.usages s.names at ps b ∷ []) n x e

-- ---- functions

pub many_functions : (s : Scope)
    → map (λ (u : Usage). u.arity) s.usages ≡ map (λ (b : Sense). b.arity) s.senses
    → length s.usages ≡ length s.senses
many_functions s e =
    sym (length-map s.usages (λ (u : Usage). u.arity))
    ∙ (ap (λ (l : List ℕ). length l) e ∙ length-map s.senses (λ (b : Sense). b.arity))

at_middle : (xs ys : List ℕ) (y n : ℕ) → n ≡ length xs → slice_get (xs ++ y ∷ ys) n ≡ Some y
at_middle [] ys y zero e = refl
at_middle [] ys y (suc n) e = absurd (omega (arith, e))
at_middle (x ∷ xs) ys y zero e = absurd (omega (arith, e))
at_middle (x ∷ xs) ys y (suc n) e = at_middle xs ys y n (omega (arith, e))

pub functions_numbered : (w : Whole) (s : Scope) (rest : List ℕ)
    → w.functions ≡ map (λ (u : Usage). u.item) s.usages ++ rest → (k : ℕ) (u : Usage)
    → slice_get s.usages k ≡ Some u → slice_get w.functions k ≡ Some u.item
functions_numbered w s rest e k u h =
    ap (λ (l : List ℕ). slice_get l k) e
    ∙ front_append (map (λ (v : Usage). v.item) s.usages) rest k u.item
    (map_at (λ (v : Usage). v.item) s.usages k u h)

pub next_function : (w : Whole) (s : Scope) (at : ℕ) (rest : List ℕ)
    → length s.usages ≡ length s.senses
    → w.functions ≡ map (λ (u : Usage). u.item) s.usages ++ at ∷ rest
    → slice_get w.functions (length s.senses) ≡ Some at
next_function w s at rest many e =
    ap (λ (l : List ℕ). slice_get l (length s.senses)) e
    ∙ at_middle (map (λ (u : Usage). u.item) s.usages) rest at (length s.senses)
    (sym many ∙ sym (length-map s.usages (λ (u : Usage). u.item)))

next_counted : (s : Scope) (at : ℕ) (c : BareItem) (all rest : List ℕ)
    → all ≡ map (λ (u : Usage). u.item) s.usages ++ with_function at c rest
    → all ≡ map (λ (u : Usage). u.item) (usages_after s.usages s.names at c) ++ rest
next_counted s at (Group r bs) all rest e = e
next_counted s at (Check w t) all rest e = e
next_counted s at Mute all rest e = e
next_counted s at (Defined n ps b) all rest e =
    let u = usage_of_function s.usages s.names at ps b in
    e
    ∙ sym (ap (λ (l : List ℕ). l ++ rest) (map-append (λ (v : Usage). v.item) s.usages (u ∷ []))
    ∙ append_assoc (map (λ (v : Usage). v.item) s.usages) (at ∷ []) rest)

no_outer : (names : List Naming) (x : List ℕ) (f : Found) → found names x ≡ Some f
    → nat_le (length names) f.slot ≡ true → ⊥
no_outer names x f e t =
    let lt = at_below names f.slot f.binder (found_at names x f e) in
    let low : nat_le (length names) f.slot ≡ false = grind (arith, nat_tests, lt) in
    let n : true ≡ false = sym t ∙ low in cc

bound_later : (s : Scope) (at : ℕ) (c : BareItem) (us : List Used) → Each (IsBoundBy s.names) us
    → Each (IsBoundBy (names_after s.senses s.names at c)) us
bound_later s at c us h =
    extended_keep (λ ns. Each (IsBoundBy ns) us)
    (λ n ns k. each_to (IsBoundBy ns) (IsBoundBy (n ∷ ns)) (bound_more n ns) us k) s.senses s.names
    at c h

one_end : (xs : List Usage) (y x : Usage) → Has (xs ++ y ∷ []) x → Has xs x ⊎ (y ≡ x)
one_end [] y x (inl e) = inr e
one_end [] y x (inr h) = absurd h
one_end (z ∷ xs) y x (inl e) = inl (inl e)
one_end (z ∷ xs) y x (inr h) = elim (one_end xs y x h) [
  | inl g ↦ inl (inr g)
  | inr e ↦ inr e
]

next_values : (w : Whole) (s : Scope) (at : ℕ) (c : BareItem) (rest : List ℕ)
    → w.functions ≡ map (λ (u : Usage). u.item) s.usages ++ rest
    → ((u : Usage) → Has s.usages u → Each (IsBoundBy s.names) u.values)
    → (u : Usage) → Has (usages_after s.usages s.names at c) u
    → Each (IsBoundBy (names_after s.senses s.names at c)) u.values
next_values w s at (Group r bs) rest e h u there =
    bound_later s at (Group r bs) u.values (h u there)
next_values w s at (Check o t) rest e h u there = h u there
next_values w s at Mute rest e h u there = h u there
next_values w s at (Defined n ps b) rest e h u there =
    let new = usage_of_function s.usages s.names at ps b in
    let noted = with_values s.usages s.names ps (length s.names) b [] in
    let bound : Each (IsBoundBy s.names) noted =
    term_bound s.names (reach w) s ps (length s.names) (λ x f is t. found_at s.names x f is)
    (λ x f is t. absurd (no_outer s.names x f is t)) h (functions_numbered w s rest e) b [] tt
    in
    elim (one_end s.usages new u there) [
      | inl g ↦ bound_later s at (Defined n ps b) u.values (h u g)
      | inr g ↦ bound_later s at (Defined n ps b) u.values (subst
          (λ (v : Usage). Each (IsBoundBy s.names) v.values) g
          (each_reverse (IsBoundBy s.names) noted bound))
    ]

-- ---- the next item

moved : {X : Type 0} (xs ys : List X) (y : X) (at : ℕ)
    → ((k : ℕ) → slice_get xs (at + k) ≡ slice_get (y ∷ ys) k) → (k : ℕ)
    → slice_get xs ((at + 1) + k) ≡ slice_get ys k
moved {X} xs ys y at h k =
    let e : at + suc k ≡ (at + 1) + k = omega arith in
    subst (λ (n : ℕ). slice_get xs n ≡ slice_get ys k) e (h (suc k))

pub seen_next : (w : Whole) (s : Scope) (at : ℕ) (x : Item) (xs : List Item) (r : ResolvedItem)
    (rs : List ResolvedItem) → IsSeen w s at (x ∷ xs) (r ∷ rs)
    → IsSeen w (scope_behind s at (bare_item x)) (at + 1) xs rs
seen_next w s at x xs r rs h = record {
  as_resolved = h.as_resolved.1;
  labelled = h.labelled.1;
  no_fault = λ i p k f. h.no_fault (1 + i) p k (inr (i, refl, f));
  texts = moved w.items xs x at h.texts;
  items = moved w.resolved rs r at h.items;
  counted =
      next_counted s at (bare_item x) w.functions (functions_in (at + 1) (map bare_item xs))
      h.counted;
  counts = next_counts s at (bare_item x) h.counts;
  values =
      next_values w s at (bare_item x) (functions_in at (map bare_item (x ∷ xs))) h.counted
      h.values;
}

pub here_at : {X : Type 0} (xs ys : List X) (y : X) (at : ℕ)
    → ((k : ℕ) → slice_get xs (at + k) ≡ slice_get (y ∷ ys) k) → slice_get xs at ≡ Some y
here_at {X} xs ys y at h =
    let e : at + 0 ≡ at = omega arith in subst (λ (n : ℕ). slice_get xs n ≡ Some y) e (h 0)

-- ---- items that are used

abbrev pub IsRising : ℕ → List ℕ → Type 0
IsRising at [] = Unit {0}
IsRising at (u ∷ us) = (at ≤ u) × IsRising (u + 1) us

-- of the items from this number on, these are used
pub record IsLeft (w : Whole) (at : ℕ) (us : List ℕ) : Type 0 where
  pub rising : IsRising at us
  pub within : (b : ℕ) → Has us b → Has w.used b
  pub all : (b : ℕ) → Has w.used b → at ≤ b → Has us b

pub record IsSkipped (w : Whole) (at : ℕ) (us : List ℕ) : Type 0 where
  pub unused : Has w.used at → ⊥
  pub left : IsLeft w (at + 1) us

pub record IsTaken (w : Whole) (at : ℕ) (us : List ℕ) : Type 0 where
  pub behind : List ℕ
  pub is : us ≡ at ∷ behind
  pub used : Has w.used at
  pub left : IsLeft w (at + 1) behind

rising_low : (us : List ℕ) (at b : ℕ) → IsRising at us → Has us b → at ≤ b
rising_low [] at b h g = absurd g
rising_low (u ∷ us) at b h (inl e) = omega (arith, h.0, e)
rising_low (u ∷ us) at b h (inr g) =
    let low = rising_low us (u + 1) b h.1 g in omega (arith, h.0, low)

taken_by : (w : Whole) (at : ℕ) (u : ℕ) (us : List ℕ) → u ≡ at → IsLeft w at (u ∷ us)
    → IsTaken w at (u ∷ us)
taken_by w at u us e h = record {
  behind = us;
  is = ap (λ (n : ℕ). n ∷ us) e;
  used = h.within at (inl e);
  left =
      record {
        rising = subst (λ (n : ℕ). IsRising (n + 1) us) e h.rising.1;
        within = λ b g. h.within b (inr g);
        all = λ b g lt. later b lt (h.all b g (omega (arith, lt)));
      };
}
  where
    later : (b : ℕ) → at + 1 ≤ b → Has (u ∷ us) b → Has us b
    later b lt (inl f) = absurd (omega (arith, lt, e, f))
    later b lt (inr g) = g

skipped_by : (w : Whole) (at : ℕ) (us : List ℕ) → IsRising (at + 1) us → IsLeft w at us
    → IsSkipped w at us
skipped_by w at us rising h = record {
  unused =
      λ g.
      let low = rising_low us (at + 1) at rising (h.all at g (omega arith)) in omega (arith, low);
  left =
      record { rising = rising; within = h.within; all = λ b g lt. h.all b g (omega (arith, lt)) };
}

pub turn : (w : Whole) (at : ℕ) (us : List ℕ) → IsLeft w at us → IsSkipped w at us ⊎ IsTaken w at us
turn w at [] h = inl (skipped_by w at [] tt h)
turn w at (u ∷ us) h = elim (cases_Bool (u == at)) [
  | inl e ↦ inr (taken_by w at u us (eqb-true u at e) h)
  | inr f ↦ (
      let unlike : u ≡ at → ⊥ =
      λ e. (let t : (u == at) ≡ true = grind (arith, nat_tests, e) in
      let n : true ≡ false = sym t ∙ f in cc) in
      let low = h.rising.0 in
      inl (skipped_by w at (u ∷ us) (omega (arith, low, unlike), h.rising.1) h))
]
