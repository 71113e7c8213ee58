-- On the way through the items of a model.
use Rattle.std.proofs.Common.{ℕ, ◌≡◌, ◌+◌, ◌<◌, ◌≤◌, ◌⊎◌, inl, inr, zero, suc, List, [], ◌∷◌, ◌++◌, length, map, reverse, take, get_or, Option, Some, None, Bool, true, false, Vec, Global, vec_len, slice_get, Contains, refl, sym, ap, ◌∙◌, subst, add-one, arith}
use Rattle.std.proofs.lemmas.List.{take_more, append-nil, map-append, reverse-append, length-reverse, length-take}
use Rattle.std.proofs.lemmas.Option.{slice_get_within, slice_get_read, slice_get_past, get_or_from_slice_get}
use Rattle.std.proofs.lemmas.Bool.{cases_order, cases_lt}
use Rattle.std.specs.Prelude.{option_map}
use Rattle.std.specs.Slice.{IsItemAt}
use Rattle.std.specs.List.{filter_map, cons_option, AllByRecursion}
use denote.Ref.{Bor}
use Rattle.binding_kinds.specs.declared.scope.Input.{Input}
use Rattle.binding_graph.specs.declared.resolved.ResolvedItem.{ResolvedItem}
use Rattle.binding_graph.specs.declared.resolved.Body.{Body}
use Rattle.binding_graph.specs.declared.resolved.CheckCode.{CheckCode}
use Rattle.binding_graph.specs.declared.resolved.Role.{Role}
use Rattle.binding_graph.specs.declared.resolved.Role.TheVariants as roles
use Rattle.candidate_spaces.specs.declared.candidate.Space.{Space}
use Rattle.cat_machine.specs.declared.column.Column.{Column}
use Rattle.from_scratch.specs.declared.cell.ItemAnswers.{ItemAnswers}
use Rattle.std.proofs.Common.{◌&&◌, slice_index_or}
use Rattle.std.proofs.Math.Bool.{and-true}
use Rattle.std.proofs.lemmas.List.{length-map}
use Rattle.std.proofs.lemmas.List.Folds.{list_all-append}
use Rattle.candidate_spaces.specs.Space.{candidates_in, Candidate, shown_in, shown_of}
use Rattle.cat_eval.specs.Kept.{AreWhere, KeptAnswersOf, is_kept_at}
use Rattle.outcome_states.specs.Kept.{holds_at, is_kept}
use Rattle.cat_machine.specs.Columns.{AreGroupColumns, ColumnsOf}
use Rattle.cat_machine.specs.Values.{AnswersOf}
use Rattle.cat_eval.specs.Candidates.{name_count}
use Rattle.binding_graph.specs.Reach.{is_check, IsCheckAt, ItemUses, IsReached, AreReached}
use Rattle.outcome_states.specs.Kept.{Flag}
use Rattle.from_scratch.specs.Answers.{IsNamed, AreNamed, HasAnswers, AreItemColumns, IsSaidAs, IsSaidBy, AreSaid, IsBound, AreOrdered, AreLeast, LeastOf, AreRisingBodies, IsRisingRole, AreSoundItems}
use Rattle.from_scratch.specs.Known.{column_in, column_of, AreFound, kept_of, flags_of, ColumnsAt, HasAllColumns, AreKeptIn, AreKeptAndFlagged, IsAnswered, AreKnown, AreKnownTo}
use Rattle.binding_graph.proofs.Reaching.{leads_more}
use Rattle.cat_eval.proofs.Columns.{columns_named}

-- ---- the first items, seen from the last of them

pub item_at : {X : Type 0} (xs : List X) (k : ℕ) → k < length xs
    → (x : X) × (slice_get xs k ≡ Some x)
item_at [] k lt = absurd (omega arith)
item_at (x ∷ xs) zero lt = (x, refl)
item_at (x ∷ xs) (suc k) lt = item_at xs k (omega arith)

take_whole : {X : Type 0} (xs : List X) → take (length xs) xs ≡ xs
take_whole [] = refl
take_whole (x ∷ xs) = ap (λ ys. x ∷ ys) (take_whole xs)

rev_suc : {X : Type 0} (xs : List X) (k : ℕ) (x : X) → slice_get xs k ≡ Some x
    → reverse (take (suc k) xs) ≡ x ∷ reverse (take k xs)
rev_suc xs k x e =
    let more : take (suc k) xs ≡ take k xs ++ get_or xs k x ∷ [] = ap (λ n. take n xs) (sym (add-one k)) ∙ take_more xs k x (slice_get_within xs k x e) in
    ap reverse more ∙ reverse-append (take k xs) (get_or xs k x ∷ [])
    ∙ ap (λ y. y ∷ reverse (take k xs)) (get_or_from_slice_get xs k x x e)

rev_count : {X : Type 0} (xs : List X) (k : ℕ) → k ≤ length xs → length (reverse (take k xs)) ≡ k
rev_count xs k le = rw length-reverse (omega (arith, length-take k xs))

-- ---- columns of earlier items

value_below : (space : Space) (rs : List ResolvedItem) (j : ℕ) (cs : List Column)
    → AreItemColumns space rs j cs → j < length rs
value_below space [] j cs h = absurd h
value_below space (r ∷ rs) j cs (inl h) = omega (arith, h.0)
value_below space (r ∷ rs) j cs (inr h) = omega (arith, value_below space rs j cs h)

long_at : (space : Space) (rs : List ResolvedItem) (j : ℕ) (s : ResolvedItem) (cs : List Column)
    → length rs ≡ j → AreItemColumns space (s ∷ rs) j cs → length cs ≡ name_count s.role
long_at space rs j s cs long (inl h) = columns_named s.role h.1.0 space cs h.1.2
long_at space rs j s cs long (inr h) = absurd (omega (arith, value_below space rs j cs h))

value_long : (space : Space) (items : List ResolvedItem) (j : ℕ) (s : ResolvedItem)
    (cs : List Column) → slice_get items j ≡ Some s
    → AreItemColumns space (reverse (take (suc j) items)) j cs → length cs ≡ name_count s.role
value_long space items j s cs e h =
    long_at space (reverse (take j items)) j s cs
    (rev_count items j (omega (arith, slice_get_within items j s e)))
    (rw (rev_suc items j s e) at h)

value_later_at : (space : Space) (items : List ResolvedItem) (j k : ℕ) (cs : List Column)
    → j < suc k → k < length items → AreItemColumns space (reverse (take (suc j) items)) j cs
    → (j < k → AreItemColumns space (reverse (take k items)) j cs) → (j ≡ k) ⊎ ((j < k) ⊎ (k < j))
    → AreItemColumns space (reverse (take (suc k) items)) j cs
value_later_at space items j k cs lt le h rest (inl e) =
    subst (λ m. AreItemColumns space (reverse (take (suc m) items)) j cs) e h
value_later_at space items j k cs lt le h rest (inr (inl less)) =
    let one = item_at items k le in rw (rev_suc items k one.0 one.1) (inr (rest less))
value_later_at space items j k cs lt le h rest (inr (inr more)) = absurd (omega arith)

value_later : (space : Space) (items : List ResolvedItem) (j n : ℕ) (cs : List Column) → j < n
    → n ≤ length items → AreItemColumns space (reverse (take (suc j) items)) j cs
    → AreItemColumns space (reverse (take n items)) j cs
value_later space items j zero cs lt le h = absurd (omega arith)
value_later space items j (suc k) cs lt le h =
    value_later_at space items j k cs lt (omega arith) h
    (λ less. value_later space items j k cs less (omega arith) h) (cases_order j k)

-- ---- names of earlier items

abbrev IsThere : List ResolvedItem → ℕ → Input → Type 0
IsThere items n name =
    (s : ResolvedItem) × (slice_get items name.item ≡ Some s) × (name.item < n)
    × (name.position < name_count s.role)

there_at : (items : List ResolvedItem) (k : ℕ) (name : Input) (r : ResolvedItem)
    → slice_get items k ≡ Some r → (IsBound (reverse (take k items)) name → IsThere items k name)
    → IsBound (r ∷ reverse (take k items)) name → IsThere items (suc k) name
there_at items k name r e rest (inl h) =
    let is : name.item ≡ k = h.0 ∙ rev_count items k (omega (arith, slice_get_within items k r e)) in
    (r, ap (λ m. slice_get items m) is ∙ e, omega arith, h.1)
there_at items k name r e rest (inr h) = let t = rest h in (t.0, t.1, omega (arith, t.2), t.3)

there : (items : List ResolvedItem) (n : ℕ) (name : Input) → n ≤ length items
    → IsBound (reverse (take n items)) name → IsThere items n name
there items zero name le h = absurd h
there items (suc k) name le h =
    let one = item_at items k (omega arith) in
    there_at items k name one.0 one.1 (λ b. there items k name (omega arith) b)
    (rw (rev_suc items k one.0 one.1) at h)

ordered_by : (items : List ResolvedItem) (k n : ℕ) → k < length items
    → AreOrdered (reverse (take (suc k) items))
    → (n < suc k → AreOrdered (reverse (take k items)) → AreOrdered (reverse (take n items)))
    → (n < suc k) ⊎ (suc k ≤ n) → n ≤ suc k → AreOrdered (reverse (take n items))
ordered_by items k n lt h rest (inl less) le =
    let one = item_at items k lt in rest less (rw (rev_suc items k one.0 one.1) at h).1
ordered_by items k n lt h rest (inr more) le =
    let e : suc k ≡ n = omega arith in subst (λ m. AreOrdered (reverse (take m items))) e h

ordered_front : (items : List ResolvedItem) (m n : ℕ) → m ≤ length items → n ≤ m
    → AreOrdered (reverse (take m items)) → AreOrdered (reverse (take n items))
ordered_front items zero n le below h =
    let e : zero ≡ n = omega arith in subst (λ k. AreOrdered (reverse (take k items))) e h
ordered_front items (suc k) n le below h =
    ordered_by items k n (omega arith) h
    (λ less rest. ordered_front items k n (omega arith) (omega arith) rest) (cases_lt n (suc k))
    below

ordered_at : (items : List ResolvedItem) (k : ℕ) (r : ResolvedItem) → slice_get items k ≡ Some r
    → AreOrdered (reverse items) → AllByRecursion (IsBound (reverse (take k items))) r.inputs.items
ordered_at items k r e h =
    let lt = slice_get_within items k r e in
    let all : AreOrdered (reverse (take (length items) items)) = rw (take_whole items) h in
    let front = ordered_front items (length items) (suc k) (omega arith) (omega arith) all in
    (rw (rev_suc items k r e) at front).0

-- ---- the columns of the names that an item uses

-- the column of this name is known, and it is the one that is wanted
abbrev IsOne : (ℕ → List Column → Type 0) → ItemAnswers → Input → Type 0
IsOne Values a name =
    (c : Column) × (column_of a.columns.items name ≡ Some c)
    × ((b : Bor Column) → b.now ≡ c → IsNamed Values name b)

none_between : (indexes : List ℕ) (n at j : ℕ) → ((k : ℕ) → n ≤ k → k < at → Contains indexes k → ⊥)
    → Contains indexes j → j < at → (j < n) ⊎ (n ≤ j) → j < n
none_between indexes n at j gap is lt (inl less) = less
none_between indexes n at j gap is lt (inr more) = absurd (gap j more lt is)

one_of : (Values : ℕ → List Column → Type 0) (a : ItemAnswers) (name : Input)
    (v : Vec Column Global) (c : Column) → slice_get a.columns.items name.item ≡ Some v
    → slice_get v.items name.position ≡ Some c → Values name.item v.items → IsOne Values a name
one_of Values a name v c at_item at_index value = (
  c,
  ap (λ o. column_in o name.position) at_item ∙ at_index,
  λ b same. (v.items, value, at_index ∙ ap Some (sym same)),
)

one_name : (space : Space) (items : List ResolvedItem) (indexes : List ℕ) (n at : ℕ)
    (a : ItemAnswers) (name : Input) → AreKnown space items indexes n a → at ≤ length items
    → ((k : ℕ) → n ≤ k → k < at → Contains indexes k → ⊥) → Contains indexes name.item
    → IsThere items at name → IsOne (AreItemColumns space (reverse (take at items))) a name
one_name space items indexes n at a name known le gap is t =
    let j = name.item in
    let less : j < n = none_between indexes n at j gap is t.2 (cases_lt j n) in
    let at_j = item_at a.columns.items j (omega (arith, known.count, slice_get_within items j t.0 t.1)) in
    let v = at_j.0 in
    let value : AreItemColumns space (reverse (take (suc j) items)) j v.items = subst (λ (w : Vec Column Global). AreItemColumns space (reverse (take (suc j) items)) j w.items) (get_or_from_slice_get a.columns.items j v v at_j.1) (known.values j less is v) in
    let c = item_at v.items name.position (omega (arith, t.3, value_long space items j t.0 v.items t.1 value)) in
    one_of (AreItemColumns space (reverse (take at items))) a name v c.0 at_j.1 c.1
    (value_later space items j at v.items t.2 le value)

all_names : (space : Space) (items : List ResolvedItem) (indexes : List ℕ) (n at : ℕ)
    (a : ItemAnswers) (names : List Input) → AreKnown space items indexes n a
    → at ≤ length items → ((k : ℕ) → n ≤ k → k < at → Contains indexes k → ⊥)
    → ((k : ℕ) → k < length items → Contains (map (λ i. i.item) names) k → Contains indexes k)
    → AllByRecursion (IsBound (reverse (take at items))) names
    → AllByRecursion (IsOne (AreItemColumns space (reverse (take at items))) a) names
all_names space items indexes n at a [] known le gap used h = tt
all_names space items indexes n at a (x ∷ xs) known le gap used h =
    let t = there items at x le h.0 in (
      one_name space items indexes n at a x known le gap
          (used x.item (slice_get_within items x.item t.0 t.1) (0, omega arith, refl)) t,
      all_names space items indexes n at a xs known le gap
          (λ k lt m. used k lt (suc m.0, omega (arith, m.1), m.2)) h.1,
    )

head_is : {X : Type 0} (x y : X) (xs ys : List X) → ◌≡◌ {A = List X} (x ∷ xs) (y ∷ ys) → x ≡ y
head_is x y xs ys e = cc

tail_is : {X : Type 0} (x y : X) (xs ys : List X) → ◌≡◌ {A = List X} (x ∷ xs) (y ∷ ys) → xs ≡ ys
tail_is x y xs ys e = cc

no_item : {X : Type 0} (x : X) (xs : List X) → ◌≡◌ {A = List X} [] (x ∷ xs) → ⊥
no_item x xs e = cc

named_all : (Values : ℕ → List Column → Type 0) (a : ItemAnswers) (names : List Input)
    (found : List (Bor Column)) → AllByRecursion (IsOne Values a) names
    → AreFound a.columns.items names found → AreNamed Values names found
named_all Values a [] [] h e = tt
named_all Values a [] (b ∷ bs) h e = absurd (no_item b.now (map (λ c. c.now) bs) (sym e))
named_all Values a (x ∷ xs) [] h e =
    let rest = filter_map (column_of a.columns.items) xs in
    absurd (no_item h.0.0 rest (e ∙ ap (λ o. cons_option o rest) h.0.1))
named_all Values a (x ∷ xs) (b ∷ bs) h e =
    let rest = filter_map (column_of a.columns.items) xs in
    let same = e ∙ ap (λ o. cons_option o rest) h.0.1 in (
      h.0.2 b (head_is b.now h.0.0 (map (λ c. c.now) bs) rest same),
      named_all Values a xs bs h.1 (tail_is b.now h.0.0 (map (λ c. c.now) bs) rest same),
    )

-- ---- what is said

said_as : (o : Option (List ℕ)) (A B : List Bool → Type 0)
    (P Q : List (List Bool) → List Flag → Type 0) (cs : List (List Bool)) (fs : List Flag)
    → ((x : List Bool) → A x → B x) → ((x : List (List Bool)) (y : List Flag) → P x y → Q x y)
    → IsSaidAs o A P cs fs → IsSaidAs o B Q cs fs
said_as None A B P Q cs fs ab pq h = (h.0, h.1, h.2, ab h.1 h.3, pq h.0 fs h.4)
said_as (Some name) A B P Q cs fs ab pq h = (h.0, h.1, h.2, ab h.1 h.3, pq cs h.0 h.4)

said_by : (role : Role) (A B : List Bool → Type 0) (P Q : List (List Bool) → List Flag → Type 0)
    (cs : List (List Bool)) (fs : List Flag) → ((x : List Bool) → A x → B x)
    → ((x : List (List Bool)) (y : List Flag) → P x y → Q x y) → IsSaidBy role A P cs fs
    → IsSaidBy role B Q cs fs
said_by (roles.Group r b) A B P Q cs fs ab pq h = pq cs fs h
said_by (roles.Check c) A B P Q cs fs ab pq h = said_as c.flag A B P Q cs fs ab pq h
said_by roles.Silent A B P Q cs fs ab pq h = pq cs fs h

no_check : (role : Role) (A : List Bool → Type 0) (P : List (List Bool) → List Flag → Type 0)
    (cs : List (List Bool)) (fs : List Flag) → (is_check role ≡ true → ⊥) → P cs fs
    → IsSaidBy role A P cs fs
no_check (roles.Group r b) A P cs fs off h = h
no_check (roles.Check c) A P cs fs off h = absurd (off refl)
no_check roles.Silent A P cs fs off h = h

said_later_at : (space : Space) (items : List ResolvedItem) (n k : ℕ) (cs : List (List Bool))
    (fs : List Flag) → k < length items → n ≤ suc k
    → ((j : ℕ) → n ≤ j → j < suc k → IsCheckAt items j → ⊥)
    → AreSaid space (reverse (take n items)) cs fs
    → (n ≤ k → AreSaid space (reverse (take k items)) cs fs) → (n < suc k) ⊎ (suc k ≤ n)
    → AreSaid space (reverse (take (suc k) items)) cs fs
said_later_at space items n k cs fs lt le gap h rest (inl less) =
    let one = item_at items k lt in
    rw (rev_suc items k one.0 one.1) (no_check one.0.role _ _ cs fs
    (λ c. gap k (omega arith) (omega arith) (one.0, one.1, c)) (rest (omega arith)))
said_later_at space items n k cs fs lt le gap h rest (inr more) =
    let e : n ≡ suc k = omega arith in subst (λ m. AreSaid space (reverse (take m items)) cs fs) e h

said_later : (space : Space) (items : List ResolvedItem) (n m : ℕ) (cs : List (List Bool))
    (fs : List Flag) → n ≤ m → m ≤ length items
    → ((j : ℕ) → n ≤ j → j < m → IsCheckAt items j → ⊥)
    → AreSaid space (reverse (take n items)) cs fs → AreSaid space (reverse (take m items)) cs fs
said_later space items n zero cs fs below le gap h =
    let e : n ≡ zero = omega arith in subst (λ m. AreSaid space (reverse (take m items)) cs fs) e h
said_later space items n (suc k) cs fs below le gap h =
    said_later_at space items n k cs fs (omega arith) below gap h
    (λ less. said_later space items n k cs fs less (omega arith)
    (λ j from to. gap j from (omega arith)) h)
    (cases_lt n (suc k))

-- ---- recursive groups

pub risen_at : (items : List ResolvedItem) (k : ℕ) (r : ResolvedItem) → slice_get items k ≡ Some r
    → AllByRecursion (λ s. IsRisingRole s.role) items → IsRisingRole r.role
risen_at [] k r e h = absurd (omega (arith, slice_get_within [] k r e))
risen_at (x ∷ xs) zero r e h =
    let f : Some x ≡ Some r = e in
    let same : x ≡ r = cc in subst (λ (s : ResolvedItem). IsRisingRole s.role) same h.0
risen_at (x ∷ xs) (suc k) r e h = risen_at xs k r e h.1

least_by : (recursive : Bool) (bodies : List Body) (inputs : List (Bor Column))
    (candidates : List Candidate) (cs : List Column) → AreRisingBodies recursive bodies
    → AreGroupColumns recursive bodies inputs candidates cs
    → AreLeast recursive bodies inputs candidates cs
least_by false bodies inputs candidates cs rising h = tt
least_by true bodies inputs candidates cs rising h =
    (rising.0, rising.1, λ k one e. h.values k one e rising.0 rising.1 rising.2)

pub least_of : (role : Role) (inputs : List (Bor Column)) (space : Space) (cs : List Column)
    → IsRisingRole role → ColumnsOf role inputs space cs → LeastOf role inputs space cs
least_of (roles.Group r b) inputs space cs rising h =
    least_by r b.items inputs (candidates_in space.combinations.items) cs rising h
least_of (roles.Check c) inputs space cs rising h = tt
least_of roles.Silent inputs space cs rising h = tt

-- ---- one item more

pub known_more : (space : Space) (items : List ResolvedItem) (indexes : List ℕ) (n at : ℕ)
    (r : ResolvedItem) (old new : ItemAnswers) → slice_get items at ≡ Some r → n ≤ at
    → ((k : ℕ) → n ≤ k → k < at → Contains indexes k → ⊥)
    → ((k : ℕ) → IsCheckAt items k → Contains indexes k)
    → ((k : ℕ) → k < length items → Contains (map (λ i. i.item) r.inputs.items) k
    → Contains indexes k)
    → AreSoundItems items → AreKnown space items indexes n old → IsAnswered space at r old new
    → AreKnown space items indexes (suc at) new
known_more space items indexes n at r old new e le gap checks used ordered known given =
    let lt = slice_get_within items at r e in
    let Before : ℕ → List Column → Type 0 = λ j ds. AreItemColumns space (reverse (take at items)) j ds in
    let named : AreNamed Before r.inputs.items given.inputs =
    named_all Before old r.inputs.items given.inputs
    (all_names space items indexes n at old r.inputs.items known (omega arith) gap used
    (ordered_at items at r e ordered.0)) given.found in
    let (found, were, keeps) = known.said in
    let said = said_later space items n at found (flags_of old) le (omega arith) (λ j from to c. gap j from to (checks j c)) were in
    let (more, kept, says) = given.said found keeps in
    let here : ColumnsAt new at (AreItemColumns space (reverse (take (suc at) items)) at) =
    λ d.
    let columns = given.here (omega (arith, known.count)) (known.empty at le lt) d in
    let least = least_of r.role given.inputs space (get_or new.columns.items at d).items (risen_at items at r e ordered.1) columns in
    rw (rev_suc items at r e)
    (inl (sym (rev_count items at (omega arith)), (given.inputs, named, columns, least))) in
    record {
      count = given.count ∙ known.count;
      values = λ j less is. value_of j less is here (cases_lt j at);
      empty =
          λ j from to d. subst (λ (v : Vec Column Global). v.items ≡ [])
          (sym (given.others j (λ same. omega arith) d)) (known.empty j (omega arith) to d);
      said = (
        more,
        rw (rev_suc items at r e) (said_by r.role (AnswersOf r.role given.inputs space)
            (HasAnswers space Before r) (λ cs fs. (cs ≡ found) × (fs ≡ flags_of old))
            (AreSaid space (reverse (take at items))) more (flags_of new)
            (λ one h. (given.inputs, named, h)) (λ cs fs same. rw (same.0, same.1) said)
            says),
        kept,
      );
    }
  where
    value_of : (j : ℕ) → j < suc at → Contains indexes j
        → ColumnsAt new at (AreItemColumns space (reverse (take (suc at) items)) at) → (j < at) ⊎ (at ≤ j)
        → ColumnsAt new j (AreItemColumns space (reverse (take (suc j) items)) j)
    value_of j less is here (inl before) =
        λ d. subst
        (λ (v : Vec Column Global). AreItemColumns space (reverse (take (suc j) items)) j v.items)
        (sym (given.others j (λ same. omega arith) d)) (known.values j
        (none_between indexes n at j gap is before (cases_lt j n)) is d)
    value_of j less is here (inr after) =
        let same : at ≡ j = omega arith in
        subst (λ k. ColumnsAt new k (AreItemColumns space (reverse (take (suc k) items)) k)) same here

-- behind the last of them
pub known_all : (space : Space) (items : List ResolvedItem) (indexes : List ℕ) (n : ℕ)
    (a : ItemAnswers) → n ≤ length items
    → ((k : ℕ) → n ≤ k → k < length items → Contains indexes k → ⊥)
    → ((k : ℕ) → IsCheckAt items k → Contains indexes k) → AreKnown space items indexes n a
    → AreKeptAndFlagged space (reverse items) (kept_of a) (flags_of a)
known_all space items indexes n a le gap checks known =
    let (found, were, keeps) = known.said in
    let all = said_later space items n (length items) found (flags_of a) le (omega arith) (λ j from to c. gap j from to (checks j c)) were in
    (found, rw (take_whole items) at all, keeps)

-- ---- the items that are reached

reached_used : (items : List ResolvedItem) (indexes : List ℕ) → AreReached items indexes → (b c : ℕ)
    → Contains indexes b → ItemUses items b c → c < length items → Contains indexes c
reached_used items indexes all b c is uses lt =
    let r : IsReached items b = ((all.exact b).0 is).1 in
    (all.exact c).1 (
      lt,
      record {
        from = r.from;
        is_check = r.is_check;
        through = r.through ++ c ∷ [];
        leads = leads_more items r.from r.through b c r.leads uses;
      },
    )

reached_check : (items : List ResolvedItem) (indexes : List ℕ) → AreReached items indexes → (k : ℕ)
    → IsCheckAt items k → Contains indexes k
reached_check items indexes all k is =
    (all.exact k).1 (
      slice_get_within items k is.0 is.1,
      record { from = k; is_check = is; through = []; leads = refl },
    )

pub same_at : (xs : List ℕ) (i a b : ℕ) → i < length xs → get_or xs i a ≡ get_or xs i b
same_at [] i a b lt = absurd (omega arith)
same_at (x ∷ xs) zero a b lt = refl
same_at (x ∷ xs) (suc i) a b lt = same_at xs i a b (omega arith)

-- ---- along the places

pub known_start : (space : Space) (items : List ResolvedItem) (indexes : List ℕ) (n : ℕ)
    (a : ItemAnswers) → n ≡ length items → vec_len a.columns ≡ n
    → ((j : ℕ) → j < n → ColumnsAt a j (λ cs. cs ≡ [])) → AreKeptIn space [] (kept_of a)
    → flags_of a ≡ [] → AreKnownTo space items indexes 0 a
known_start space items indexes n a long count empty kept flags = record {
  number = 0;
  within = omega arith;
  below = λ q d lt. absurd (omega arith);
  above = λ q d from to. omega arith;
  known = record {
    count = count ∙ long;
    values = λ j lt is. absurd (omega arith);
    empty = λ j from to. empty j (omega arith);
    said = ([], (refl, flags), kept);
  };
}

-- no place lies between
gap_at : (items : List ResolvedItem) (indexes : List ℕ) (n p at : ℕ) → AreReached items indexes
    → p < length indexes → ((d : ℕ) → at ≡ get_or indexes p d)
    → ((q d : ℕ) → q < p → get_or indexes q d < n) → (k : ℕ) → n ≤ k → k < at → Contains indexes k
    → ⊥
gap_at items indexes n p at all lt is below k from to m = by_order (cases_order m.0 p)
  where
    by_order : (m.0 ≡ p) ⊎ ((m.0 < p) ⊎ (p < m.0)) → ⊥
    by_order (inl e) =
        let same : get_or indexes m.0 k ≡ get_or indexes p k = ap (λ q. get_or indexes q k) e in
        omega (arith, same, is k, m.2)
    by_order (inr (inl less)) = omega (arith, below m.0 k less, m.2)
    by_order (inr (inr more)) = omega (arith, all.rising p m.0 k more m.1, is k, m.2)

pub known_next : (space : Space) (items : List ResolvedItem) (indexes : List ℕ) (p at : ℕ)
    (r : ResolvedItem) (old new : ItemAnswers) → AreReached items indexes → AreSoundItems items
    → p < length indexes → ((d : ℕ) → at ≡ get_or indexes p d) → slice_get items at ≡ Some r
    → AreKnownTo space items indexes p old → IsAnswered space at r old new
    → AreKnownTo space items indexes (p + 1) new
known_next space items indexes p at r old new all ordered lt is e to given =
    let le : to.number ≤ at = omega (arith, to.above p 0 (omega arith) lt, is 0) in
    let here : Contains indexes at = (p, lt, sym (is at)) in
    record {
      number = suc at;
      within = omega (arith, slice_get_within items at r e);
      below = λ q d less. below_at q d less (cases_lt q p);
      above = λ q d from within. omega (arith, all.rising p q d (omega arith) within, is d);
      known =
          known_more space items indexes to.number at r old new e le
          (gap_at items indexes to.number p at all lt is to.below) (reached_check items indexes all)
          (λ k less m. reached_used items indexes all at k here (r, e, inl m) less) ordered to.known
          given;
    }
  where
    below_at : (q d : ℕ) → q < p + 1 → (q < p) ⊎ (p ≤ q) → get_or indexes q d < suc at
    below_at q d less (inl before) =
        omega (arith, to.below q d before, to.above p 0 (omega arith) lt, is 0)
    below_at q d less (inr after) =
        let same : get_or indexes q d ≡ get_or indexes p d =
        (let e : q ≡ p = omega arith in ap (λ k. get_or indexes k d) e) in
        omega (arith, same, is d)

pub known_end : (space : Space) (items : List ResolvedItem) (indexes : List ℕ) (p : ℕ)
    (a : ItemAnswers) → AreReached items indexes → length indexes ≤ p
    → AreKnownTo space items indexes p a → AreKeptAndFlagged space (reverse items) (kept_of a) (flags_of a)
known_end space items indexes p a all le to =
    known_all space items indexes to.number a to.within
    (λ k from less m. omega (arith, to.below m.0 k (omega (arith, m.1)), m.2))
    (reached_check items indexes all) to.known

-- those of an item that is reached are known
pub columns_end : (space : Space) (items : List ResolvedItem) (indexes : List ℕ) (p : ℕ)
    (a : ItemAnswers) → AreReached items indexes → length indexes ≤ p
    → AreKnownTo space items indexes p a → HasAllColumns space items a
columns_end space items indexes p a all le to j lt reached d =
    let m : Contains indexes j = (all.exact j).1 (lt, reached) in
    let before : j < to.number = omega (arith, to.below m.0 j (omega (arith, m.1)), m.2) in
    rw (← take_whole items) (value_later space items j (length items) _ lt (omega arith)
    (to.known.values j before m d))

-- ---- the columns that are found, one by one

found_push : (columns : List (Vec Column Global)) (names : List Input) (name : Input)
    → filter_map (column_of columns) (names ++ name ∷ [])
    ≡ filter_map (column_of columns) names ++ cons_option (column_of columns name) []
found_push columns [] name = refl
found_push columns (x ∷ xs) name = front (column_of columns x) (found_push columns xs name)
  where
    front : (o : Option Column)
        → filter_map (column_of columns) (xs ++ name ∷ [])
        ≡ filter_map (column_of columns) xs ++ cons_option (column_of columns name) []
        → cons_option o (filter_map (column_of columns) (xs ++ name ∷ []))
        ≡ cons_option o (filter_map (column_of columns) xs)
        ++ cons_option (column_of columns name) []
    front None e = e
    front (Some c) e = ap (λ ys. c ∷ ys) e

pub found_more : (columns : List (Vec Column Global)) (names : List Input) (i : ℕ) (d : Input)
    (found all : List (Bor Column)) → i < length names → AreFound columns (take i names) found
    → (one : Option Column) → one ≡ column_of columns (get_or names i d)
    → map (λ c. c.now) all ≡ map (λ c. c.now) found ++ cons_option one []
    → AreFound columns (take (i + 1) names) all
found_more columns names i d found all lt h one is grown =
    rw (take_more names i d lt) (grown ∙ ap (λ o. map (λ c. c.now) found ++ cons_option o []) is
    ∙ ap (λ ys. ys ++ cons_option (column_of columns (get_or names i d)) []) h
    ∙ sym (found_push columns (take i names) (get_or names i d)))

-- ---- what one item adds

-- references to these columns
refs : (cs : List Column) → (bs : List (Bor Column)) × (map (λ c. c.now) bs ≡ cs)
refs [] = ([], refl)
refs (c ∷ cs) =
    let rest = refs cs in (record { ref_ptr = (0, 0); now = c } ∷ rest.0, ap (λ xs. c ∷ xs) rest.1)

said_silent : (role : Role) (A : List Bool → Type 0) (P : List (List Bool) → List Flag → Type 0)
    (cs : List (List Bool)) (fs : List Flag) → role ≡ roles.Silent → P cs fs
    → IsSaidBy role A P cs fs
said_silent role A P cs fs e h = rw e h

silent_given : (role : Role) (inputs : List (Bor Column)) (space : Space) (cs : List Column)
    → role ≡ roles.Silent → cs ≡ [] → ColumnsOf role inputs space cs
silent_given role inputs space cs e h = rw e h

pub answered_silent : (space : Space) (index : ℕ) (r : ResolvedItem) (a : ItemAnswers)
    → r.role ≡ roles.Silent → IsAnswered space index r a a
answered_silent space index r a role =
    let found = refs (filter_map (column_of a.columns.items) r.inputs.items) in
    record {
      inputs = found.0;
      found = found.1;
      count = refl;
      others = λ j other d. refl;
      here =
          λ lt empty d.
          silent_given r.role found.0 space (get_or a.columns.items index d).items role (empty d);
      said = λ checks kept. (checks, kept, said_silent r.role _ _ _ _ role (refl, refl));
    }

-- the candidates that are kept by one check more
kept_more : (space : Space) (checks : List (List Bool)) (old new all : List Bool)
    → AreKeptIn space checks old → length all ≡ length (candidates_in space.combinations.items)
    → AreWhere (is_kept_at old) all new → AreKeptIn space (checks ++ all ∷ []) new
kept_more space checks old new all kept long given = record {
  long =
      given.long ∙ long
      ∙ sym (length-map (candidates_in space.combinations.items) (shown_of space.registers.items));
  each =
      λ k lt. given.each k ∙ ap (λ (b : Bool). b && holds_at k all) (kept.each k lt) ∙ sym (both k);
}
  where
    both : (k : ℕ) → is_kept (checks ++ all ∷ []) k ≡ (is_kept checks k && holds_at k all)
    both k =
        list_all-append (λ answers. holds_at k answers) checks (all ∷ [])
        ∙ ap (λ (b : Bool). is_kept checks k && b) (and-true (holds_at k all))

kept_said : (role : Role) (check : CheckCode) (inputs : List (Bor Column)) (space : Space)
    (old new : List Bool) (before after : List Flag) → role ≡ roles.Check check
    → check.flag ≡ None → KeptAnswersOf old role inputs space new → after ≡ before
    → (checks : List (List Bool)) → AreKeptIn space checks old
    → (more : List (List Bool)) × AreKeptIn space more new
    × IsSaidBy role (AnswersOf role inputs space) (λ cs fs. (cs ≡ checks) × (fs ≡ before)) more
    after
kept_said role check inputs space old new before after is none h flags checks keeps =
    let (all, are, given) = rw is at h in (
      checks ++ all ∷ [],
      kept_more space checks old new all keeps are.0 given,
      rw (is, none) (checks, all, refl, are, (refl, flags)),
    )

-- a check
pub answered_kept : (space : Space) (index : ℕ) (r : ResolvedItem) (check : CheckCode)
    (old new : ItemAnswers) (inputs : List (Bor Column)) → r.role ≡ roles.Check check
    → check.flag ≡ None → AreFound old.columns.items r.inputs.items inputs
    → KeptAnswersOf (kept_of old) r.role inputs space (kept_of new) → new.columns ≡ old.columns
    → flags_of new ≡ flags_of old → IsAnswered space index r old new
answered_kept space index r check old new inputs role none found given columns flags = record {
  inputs = inputs;
  found = found;
  count = ap (λ (v : Vec (Vec Column Global) Global). vec_len v) columns;
  others =
      λ j other d. ap (λ (v : Vec (Vec Column Global) Global). slice_index_or v.items j d) columns;
  here = λ lt empty d. rw (role, columns) (empty d);
  said =
      kept_said r.role check inputs space (kept_of old) (kept_of new) (flags_of old) (flags_of new)
      role none given flags;
}

-- one check of these answers keeps them
pub kept_alone : (space : Space) (kept : List Bool) → length kept ≡ length (shown_in space)
    → AreKeptIn space (kept ∷ []) kept
kept_alone space kept long = record { long = long; each = λ k lt. sym (and-true (holds_at k kept)) }

-- there is still one answer for each candidate
pub answered_long : (space : Space) (index : ℕ) (r : ResolvedItem) (old new : ItemAnswers)
    → IsAnswered space index r old new → length (kept_of old) ≡ length (shown_in space)
    → length (kept_of new) ≡ length (shown_in space)
answered_long space index r old new given long =
    let (more, kept, says) = given.said (kept_of old ∷ []) (kept_alone space (kept_of old) long) in
    kept.long

found_as : (columns : List (Vec Column Global)) (names used_names : List Input) (i : ℕ) (d : Input)
    (found all : List (Bor Column)) (one : Option Column) → used_names ≡ names
    → i < length used_names → AreFound columns (take i names) found
    → one ≡ column_of columns (get_or used_names i d)
    → map (λ c. c.now) all ≡ map (λ c. c.now) found ++ cons_option one []
    → AreFound columns (take (i + 1) names) all
found_as columns names used_names i d found all one same lt h is grown =
    found_more columns names i d found all (subst (λ (xs : List Input). i < length xs) same lt) h
    one (is ∙ ap (λ (xs : List Input). column_of columns (get_or xs i d)) same) grown

pub found_some : (columns : List (Vec Column Global)) (names used_names : List Input) (i : ℕ)
    (d : Input) (found all : List (Bor Column)) (c : Bor Column) → used_names ≡ names
    → i < length used_names → AreFound columns (take i names) found
    → Some c.now ≡ column_of columns (get_or used_names i d) → all ≡ found ++ c ∷ []
    → AreFound columns (take (i + 1) names) all
found_some columns names used_names i d found all c same lt h is grown =
    found_as columns names used_names i d found all (Some c.now) same lt h is (ap
    (map (λ (b : Bor Column). b.now)) grown
    ∙ map-append (λ (b : Bor Column). b.now) found (c ∷ []))

pub found_none : (columns : List (Vec Column Global)) (names used_names : List Input) (i : ℕ)
    (d : Input) (found all : List (Bor Column)) → used_names ≡ names → i < length used_names
    → AreFound columns (take i names) found → None ≡ column_of columns (get_or used_names i d)
    → all ≡ found → AreFound columns (take (i + 1) names) all
found_none columns names used_names i d found all same lt h is stays =
    found_as columns names used_names i d found all None same lt h is (ap
    (map (λ (b : Bor Column). b.now)) stays
    ∙ sym (append-nil (map (λ (b : Bor Column). b.now) found)))

-- one column, read
index_read : (xs : List Column) (i : ℕ) (r : Option (Bor Column)) → IsItemAt xs i r
    → option_map (λ (b : Bor Column). b.now) r ≡ slice_get xs i
index_read xs i None h = sym (slice_get_past xs i h.3)
index_read xs i (Some x) h = sym (slice_get_read xs (length xs) i x.now refl h.3.0 h.1)

pub column_read : (columns : List (Vec Column Global)) (name : Input) (names : Vec Column Global)
    (xs : List Column) (r : Option (Bor Column)) → slice_get columns name.item ≡ Some names
    → xs ≡ names.items → IsItemAt xs name.position r
    → option_map (λ (b : Bor Column). b.now) r ≡ column_of columns name
column_read columns name names xs r e same h =
    index_read xs name.position r h ∙ ap (λ (ys : List Column). slice_get ys name.position) same
    ∙ ap (λ (o : Option (Vec Column Global)). column_in o name.position) (sym e)

pub no_column : (columns : List (Vec Column Global)) (name : Input) → length columns ≤ name.item
    → None ≡ column_of columns name
no_column columns name le =
    ap (λ (o : Option (Vec Column Global)). column_in o name.position)
    (sym (slice_get_past columns name.item le))
