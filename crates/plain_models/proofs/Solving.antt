-- Rounds of a recursive group, and the least solution that they end in.
use Rattle.std.proofs.Common.{◌≡◌, ◌↔◌, ◌⊎◌, inl, inr, ℕ, ◌+◌, ◌-◌, ◌<◌, ◌≤◌, ◌^◌, zero, suc, List, [], ◌∷◌, ◌++◌, length, map, bytes_eq, Bool, true, false, ◌&&◌, ◌||◌, Contains, IsTrue, refl, sym, ap, subst, ◌∙◌, arith}
use Rattle.std.specs.Prelude.{if◌then◌else◌}
use Rattle.std.proofs.Math.Dec.{eqb}
use Rattle.std.proofs.lemmas.Bool.{cases_lt}
use Rattle.std.proofs.lemmas.List.{append-nil, length-append}
use Rattle.std.proofs.lemmas.Slice.Eq.{bytes_eq-Decides}
use Rattle.text_values.specs.ModelValue.{Term}
use Rattle.meaning.specs.Sets.{Set, Relation}
use Rattle.meaning.specs.Names.{Name}
use Rattle.meaning.specs.Cat.{Meaning, ARelation, ToMeaning, Names, meaning_of, with_arguments, HasPair, with_group, Choice, IsChosen, IsClosed, Least}
use Rattle.meaning_plain.specs.Lists.{RelationOf}
use Rattle.meaning_plain.proofs.Growing.{pair_decides, nothing_there}
use Rattle.plain_models.specs.declared.value.Value.{Value}
use Rattle.plain_models.specs.declared.value.Value.TheVariants as values
use Rattle.meaning_laws.specs.Inside.{IsAlike}
use Rattle.plain_models.specs.Values.{meaning_as, HaveValues}
use Rattle.plain_models.specs.Scopes.{meanings_as}
use Rattle.meaning_laws.proofs.Inside.{pair_inside}
use Rattle.meaning_laws.proofs.Alike.{AlikeNames, meanings, more, alike_meaning}
use Rattle.meaning_laws.specs.RisingLaws.{IsChoiceInside}
use Rattle.plain_models.specs.Groups.{AreRelations, AreApart, DoesGrow, pairs_of, IsOfPairs, Extends, DoExtend, HasGrown}

-- ---- pairs

-- what a value relates are its pairs
pub pair_listed : (v : Value) (x y : ℕ) → HasPair (meaning_as v) x y → Contains (pairs_of v) (x, y)
pair_listed (values.Set events) x y h = absurd h
pair_listed (values.Relation pairs) x y h = h
pair_listed values.Nothing x y h = absurd h

has_test : List (ℕ × ℕ) → ℕ → ℕ → Bool
has_test [] x y = false
has_test (p ∷ ps) x y = (eqb p.0 x && eqb p.1 y) || has_test ps x y

or_true : (a b : Bool) → (a || b) ≡ true → (a ≡ true) ⊎ (b ≡ true)
or_true true b e = inl refl
or_true false b e = inr e

or_left : (a b : Bool) → a ≡ true → (a || b) ≡ true
or_left true b e = refl
or_left false b e = absurd (let wrong : ⊥ = cc in wrong)

or_right : (a b : Bool) → b ≡ true → (a || b) ≡ true
or_right true b e = refl
or_right false b e = e

has_there : (ps : List (ℕ × ℕ)) (x y : ℕ) → has_test ps x y ≡ true → Contains ps (x, y)
unfolding has_test
has_there [] x y e = absurd (let wrong : ⊥ = cc in wrong)
has_there (p ∷ ps) x y e =
    elim (or_true (eqb p.0 x && eqb p.1 y) (has_test ps x y) e) [
      | inl first ↦ (0, omega arith, (pair_decides p (x, y)).0 first)
      | inr later ↦ behind (has_there ps x y later)
    ]
  where
    behind : Contains ps (x, y) → Contains (p ∷ ps) (x, y)
    behind (k, lt, eq) = (suc k, omega arith, eq)

has_found : (ps : List (ℕ × ℕ)) (x y : ℕ) → Contains ps (x, y) → has_test ps x y ≡ true
unfolding has_test
has_found [] x y (k, lt, eq) = absurd (omega arith)
has_found (p ∷ ps) x y (zero, lt, eq) =
    or_left (eqb p.0 x && eqb p.1 y) (has_test ps x y) ((pair_decides p (x, y)).1 eq)
has_found (p ∷ ps) x y (suc k, lt, eq) =
    or_right (eqb p.0 x && eqb p.1 y) (has_test ps x y) (has_found ps x y (k, omega arith, eq))

-- ---- the choice that values make

pub chosen_by : List Name → List Value → Choice ℕ
chosen_by [] vs n x y = false
chosen_by (m ∷ ns) [] n x y = false
chosen_by (m ∷ ns) (v ∷ vs) n x y =
    if bytes_eq m n then has_test (pairs_of v) x y else chosen_by ns vs n x y

-- all are relations, as many as names
abbrev pub AreSlots : List Name → List Value → Type 0
AreSlots [] [] = Unit {0}
AreSlots (n ∷ ns) (v ∷ vs) = IsOfPairs v × AreSlots ns vs
AreSlots ns vs = ⊥

pub relations_slots : (R : Name → Relation ℕ) (ns : List Name) (vs : List Value)
    → AreRelations R ns vs → AreSlots ns vs
relations_slots R [] [] h = tt
relations_slots R [] (v ∷ vs) h = absurd h
relations_slots R (n ∷ ns) [] h = absurd h
relations_slots R (n ∷ ns) (values.Relation pairs ∷ vs) h = (tt, relations_slots R ns vs h.1)
relations_slots R (n ∷ ns) (values.Set events ∷ vs) h = absurd h.0.0
relations_slots R (n ∷ ns) (values.Nothing ∷ vs) h = absurd h.0.0

relation_is : (v : Value) → IsOfPairs v → meaning_as v ≡ ARelation (RelationOf (pairs_of v))
relation_is (values.Relation pairs) h = refl
relation_is (values.Set events) h = absurd h
relation_is values.Nothing h = absurd h

choose : (t : Bool) (a b : Bool) → t ≡ true → (if t then a else b) ≡ a
choose true a b e = refl
choose false a b e = absurd (let wrong : ⊥ = cc in wrong)

choose_not : (t : Bool) (a b : Bool) → (t ≡ true → ⊥) → (if t then a else b) ≡ b
choose_not true a b e = absurd (e refl)
choose_not false a b e = refl

-- the choice has just the pairs of the values
abbrev pub AgreesWith : Choice ℕ → List Name → List Value → Type 0
AgreesWith c [] [] = Unit {0}
AgreesWith c (n ∷ ns) (v ∷ vs) =
    ((x y : ℕ) → IsChosen c n x y ↔ Contains (pairs_of v) (x, y)) × AgreesWith c ns vs
AgreesWith c ns vs = ⊥

-- the choice has at least the pairs of the values
abbrev pub IsInChoice : Choice ℕ → List Name → List Value → Type 0
IsInChoice c [] [] = Unit {0}
IsInChoice c (n ∷ ns) (v ∷ vs) =
    ((x y : ℕ) → Contains (pairs_of v) (x, y) → IsChosen c n x y) × IsInChoice c ns vs
IsInChoice c ns vs = ⊥

-- the values, each by a test that agrees with its pairs
agreeing : (c : Choice ℕ) (ns : List Name) (vs : List Value) → AreSlots ns vs
    → AgreesWith c ns vs → AreRelations (IsChosen c) ns vs
agreeing c [] [] slots h = tt
agreeing c [] (v ∷ vs) slots h = absurd slots
agreeing c (n ∷ ns) [] slots h = absurd slots
agreeing c (n ∷ ns) (v ∷ vs) slots h = (
  subst (λ (m : Meaning ℕ). IsAlike m (ARelation (IsChosen c n))) (sym (relation_is v slots.0))
      ((λ x y there. (h.0 x y).1 there), (λ x y is. (h.0 x y).0 is)),
  agreeing c ns vs slots.1 h.1,
)

-- a name that is none of the others makes no difference to them
behind : (ws : List Name) (vs us : List Value) (n : Name) (v : Value) (ns : List Name)
    → ((m : Name) → Contains ns m → n ≡ m → ⊥) → AgreesWith (chosen_by ws vs) ns us
    → AgreesWith (chosen_by (n ∷ ws) (v ∷ vs)) ns us
unfolding chosen_by
behind ws vs [] n v [] other h = tt
behind ws vs (u ∷ us) n v [] other h = absurd h
behind ws vs [] n v (m ∷ ns) other h = absurd h
behind ws vs (u ∷ us) n v (m ∷ ns) other h = (
  (λ x y. let pick : (if bytes_eq n m then has_test (pairs_of v) x y else chosen_by ws vs m x y) ≡ chosen_by ws vs m x y = choose_not (bytes_eq n m) (has_test (pairs_of v) x y) (chosen_by ws vs m x y) (λ e. other m (0, omega arith, refl) ((bytes_eq-Decides n m).0 e)) in
      ((λ is. (h.0 x y).0 (sym pick ∙ is)), (λ there. pick ∙ (h.0 x y).1 there))),
  behind ws vs us n v ns (λ q there. other q (suc there.0, omega (arith, there.1), there.2)) h.1,
)

-- names that stand apart choose their own values
own_chosen : (ns : List Name) (vs : List Value) → AreSlots ns vs → AreApart ns
    → AgreesWith (chosen_by ns vs) ns vs
unfolding chosen_by
own_chosen [] [] slots apart = tt
own_chosen [] (v ∷ vs) slots apart = absurd slots
own_chosen (n ∷ ns) [] slots apart = absurd slots
own_chosen (n ∷ ns) (v ∷ vs) slots apart = (
  (λ x y. let pick : (if bytes_eq n n then has_test (pairs_of v) x y else chosen_by ns vs n x y) ≡ has_test (pairs_of v) x y = choose (bytes_eq n n) (has_test (pairs_of v) x y) (chosen_by ns vs n x y) ((bytes_eq-Decides n n).1 refl) in
      ((λ is. has_there (pairs_of v) x y (sym pick ∙ is)), (λ there. pick ∙ has_found (pairs_of v) x y there))),
  behind ns vs vs n v ns (λ m there same. apart.0 (subst (λ (q : Name). Contains ns q) (sym same) there))
      (own_chosen ns vs slots.1 apart.1),
)

-- what is chosen is a pair of the value of that name
chosen_first : (c : Choice ℕ) (m : Name) (ns : List Name) (v : Value) (vs : List Value)
    (n : Name) (x y : ℕ) (t : Bool) → bytes_eq m n ≡ t
    → ((x y : ℕ) → Contains (pairs_of v) (x, y) → IsChosen c m x y)
    → IsChoiceInside (chosen_by ns vs) c
    → IsTrue (if t then has_test (pairs_of v) x y else chosen_by ns vs n x y) → IsChosen c n x y
chosen_first c m ns v vs n x y true test own rest is =
    subst (λ (q : Name). IsChosen c q x y) ((bytes_eq-Decides m n).0 test)
    (own x y (has_there (pairs_of v) x y is))
chosen_first c m ns v vs n x y false test own rest is = rest n x y is

pub chosen_there : (c : Choice ℕ) (ns : List Name) (vs : List Value) → AreSlots ns vs
    → IsInChoice c ns vs → IsChoiceInside (chosen_by ns vs) c
unfolding chosen_by
chosen_there c [] [] slots h = λ n x y is. absurd (let wrong : false ≡ true = is in let never : ⊥ = cc in never)
chosen_there c [] (v ∷ vs) slots h = absurd slots
chosen_there c (m ∷ ns) [] slots h = absurd slots
chosen_there c (m ∷ ns) (v ∷ vs) slots h = λ n x y is.
    chosen_first c m ns v vs n x y (bytes_eq m n) refl h.0 (chosen_there c ns vs slots.1 h.1) is

-- ---- expressions under the values

pub slots_alike : (R : Name → Relation ℕ) (group : List (Name × Term)) (vs : List Value)
    (N K : Names ℕ) → AreRelations R (map (λ b. b.0) group) vs → AlikeNames N K
    → AlikeNames (with_arguments (map (λ b. b.0) group) (meanings_as vs) N) (with_group R group K)
slots_alike R [] [] N K h alike = alike
slots_alike R [] (v ∷ vs) N K h alike = absurd h
slots_alike R (b ∷ bs) [] N K h alike = absurd h
slots_alike R (b ∷ bs) (v ∷ vs) N K h alike =
    slots_alike R bs vs ((b.0, ToMeaning (meaning_as v)) ∷ N)
    ((b.0, ToMeaning (ARelation (R b.0))) ∷ K) h.1
    (more b.0 (ToMeaning (meaning_as v)) (ToMeaning (ARelation (R b.0))) N K
    (meanings (meaning_as v) (ARelation (R b.0)) h.0) alike)

-- ---- one round

-- each pair of the second values is one of the first
abbrev pub AreNoMore : List Value → List Value → Type 0
AreNoMore [] [] = Unit {0}
AreNoMore (v ∷ vs) (m ∷ ms) =
    ((p : ℕ × ℕ) → Contains (pairs_of m) p → Contains (pairs_of v) p) × AreNoMore vs ms
AreNoMore vs ms = ⊥

-- what the bodies give is in the choice
body_in : (all : Set ℕ) (M : Names ℕ) (c : Choice ℕ) (gs : List (Name × Term))
    (vs ms ws : List Value)
    → ((b : Name × Term) → Contains gs b → (x y : ℕ) → HasPair (meaning_of all M b.1) x y
    → IsChosen c b.0 x y)
    → HaveValues all M (map (λ b. b.1) gs) ms → IsInChoice c (map (λ b. b.0) gs) vs
    → DoExtend vs ms ws → IsInChoice c (map (λ b. b.0) gs) ws
body_in all M c [] [] [] [] gives meant inside extends = tt
body_in all M c [] (v ∷ vs) ms ws gives meant inside extends = absurd inside
body_in all M c [] [] (m ∷ ms) ws gives meant inside extends = absurd meant
body_in all M c [] [] [] (w ∷ ws) gives meant inside extends = absurd extends
body_in all M c (b ∷ bs) [] ms ws gives meant inside extends = absurd inside
body_in all M c (b ∷ bs) (v ∷ vs) [] ws gives meant inside extends = absurd meant
body_in all M c (b ∷ bs) (v ∷ vs) (m ∷ ms) [] gives meant inside extends = absurd extends
body_in all M c (b ∷ bs) (v ∷ vs) (m ∷ ms) (w ∷ ws) gives meant inside extends = (
  λ x y there. elim ((extends.1.exact (x, y)).0 there) [
    | inl old ↦ inside.0 x y old
    | inr new ↦ gives b (0, omega arith, refl) x y (pair_inside (meaning_as m) (meaning_of all M b.1) meant.0.0 x y (listed_pair m x y new))
  ],
  body_in all M c bs vs ms ws (λ d there. gives d (suc there.0, omega (arith, there.1), there.2))
      meant.1 inside.1 extends.2,
)
  where
    listed_pair : (v : Value) (x y : ℕ) → Contains (pairs_of v) (x, y) → HasPair (meaning_as v) x y
    listed_pair (values.Set events) x y h = absurd (nothing_there (x, y) h)
    listed_pair (values.Relation pairs) x y h = h
    listed_pair values.Nothing x y h = absurd (nothing_there (x, y) h)

-- where the bodies give no more, the choice of the values is closed
body_closed : (all : Set ℕ) (M : Names ℕ) (c : Choice ℕ) (gs : List (Name × Term))
    (vs ms : List Value) → HaveValues all M (map (λ b. b.1) gs) ms → AreNoMore vs ms
    → IsInChoice c (map (λ b. b.0) gs) vs → (b : Name × Term) → Contains gs b → (x y : ℕ)
    → HasPair (meaning_of all M b.1) x y → IsChosen c b.0 x y
body_closed all M c [] vs ms meant no_more inside b (k, lt, eq) x y h = absurd (omega arith)
body_closed all M c (d ∷ ds) [] ms meant no_more inside b there x y h = absurd inside
body_closed all M c (d ∷ ds) (v ∷ vs) [] meant no_more inside b there x y h = absurd meant
body_closed all M c (d ∷ ds) (v ∷ vs) (m ∷ ms) meant no_more inside b (zero, lt, eq) x y h =
    subst (λ (q : Name × Term). IsChosen c q.0 x y) eq
    (inside.0 x y (no_more.0 (x, y) (pair_listed m x y
    (pair_inside (meaning_of all M d.1) (meaning_as m) meant.0.1 x y
    (subst (λ (q : Name × Term). HasPair (meaning_of all M q.1) x y) (sym eq) h)))))
body_closed all M c (d ∷ ds) (v ∷ vs) (m ∷ ms) meant no_more inside b (suc k, lt, eq) x y h =
    body_closed all M c ds vs ms meant.1 no_more.1 inside.1 b (k, omega arith, eq) x y h

agreeing_in : (c : Choice ℕ) (ns : List Name) (vs : List Value) → AgreesWith c ns vs
    → IsInChoice c ns vs
agreeing_in c [] [] h = tt
agreeing_in c [] (v ∷ vs) h = absurd h
agreeing_in c (n ∷ ns) [] h = absurd h
agreeing_in c (n ∷ ns) (v ∷ vs) h = ((λ x y there. (h.0 x y).1 there), agreeing_in c ns vs h.1)

-- the values are in each closed choice
abbrev pub AreFound : Set ℕ → Names ℕ → List (Name × Term) → List Value → Type 0
AreFound all N group vs =
    (c : Choice ℕ) → IsClosed all N group c → IsInChoice c (map (λ b. b.0) group) vs

pub round_found : (all : Set ℕ) (N : Names ℕ) → AlikeNames N N → (group : List (Name × Term))
    (vs ms ws : List Value) → AreApart (map (λ b. b.0) group) → DoesGrow all N group
    → AreSlots (map (λ b. b.0) group) vs
    → HaveValues all (with_arguments (map (λ b. b.0) group) (meanings_as vs) N) (map (λ b. b.1) group) ms
    → DoExtend vs ms ws → AreFound all N group vs → AreFound all N group ws
round_found all N alike group vs ms ws apart grows slots meant extends found c closed =
    let ns : List Name = map (λ (b : Name × Term). b.0) group in
    let own : Choice ℕ = chosen_by ns vs in
    let M : Names ℕ = with_arguments ns (meanings_as vs) N in
    let same : AlikeNames M (with_group (IsChosen own) group N) = slots_alike (IsChosen own) group vs N N (agreeing own ns vs slots (own_chosen ns vs slots apart)) alike in
    body_in all M c group vs ms ws
    (λ b there x y h. closed b there x y
    (grows own c (chosen_there c ns vs slots (found c closed)) b there x y
    (pair_inside (meaning_of all M b.1) (meaning_of all (with_group (IsChosen own) group N) b.1)
    (alike_meaning all M (with_group (IsChosen own) group N) same b.1).0 x y h)))
    meant (found c closed) extends

least_relations : (all : Set ℕ) (N : Names ℕ) (group : List (Name × Term)) (own : Choice ℕ)
    → IsClosed all N group own → (ns : List Name) (vs : List Value) → AreSlots ns vs
    → AgreesWith own ns vs → ((c : Choice ℕ) → IsClosed all N group c → IsInChoice c ns vs)
    → AreRelations (Least all N group) ns vs
least_relations all N group own closed [] [] slots agree found = tt
least_relations all N group own closed [] (v ∷ vs) slots agree found = absurd slots
least_relations all N group own closed (n ∷ ns) [] slots agree found = absurd slots
least_relations all N group own closed (n ∷ ns) (v ∷ vs) slots agree found = (
  subst (λ (m : Meaning ℕ). IsAlike m (ARelation (Least all N group n))) (sym (relation_is v slots.0))
      ((λ x y there c is. (found c is).0 x y there), (λ x y least. (agree.0 x y).0 (least own closed))),
  least_relations all N group own closed ns vs slots.1 agree.1 (λ c is. (found c is).1),
)

pub rounds_end : (all : Set ℕ) (N : Names ℕ) → AlikeNames N N → (group : List (Name × Term))
    (vs ms : List Value) → AreApart (map (λ b. b.0) group)
    → AreSlots (map (λ b. b.0) group) vs
    → HaveValues all (with_arguments (map (λ b. b.0) group) (meanings_as vs) N) (map (λ b. b.1) group) ms
    → AreNoMore vs ms → AreFound all N group vs
    → AreRelations (Least all N group) (map (λ b. b.0) group) vs
rounds_end all N alike group vs ms apart slots meant no_more found =
    let ns : List Name = map (λ (b : Name × Term). b.0) group in
    let own : Choice ℕ = chosen_by ns vs in
    let agree : AgreesWith own ns vs = own_chosen ns vs slots apart in
    let M : Names ℕ = with_arguments ns (meanings_as vs) N in
    let same : AlikeNames M (with_group (IsChosen own) group N) = slots_alike (IsChosen own) group vs N N (agreeing own ns vs slots agree) alike in
    least_relations all N group own
    (λ b there x y h. body_closed all M own group vs ms meant no_more (agreeing_in own ns vs agree) b there x y
    (pair_inside (meaning_of all (with_group (IsChosen own) group N) b.1) (meaning_of all M b.1)
    (alike_meaning all M (with_group (IsChosen own) group N) same b.1).1 x y h))
    ns vs slots agree found

-- ---- how long it takes

-- so much room is left in memory
abbrev pub room : List Value → ℕ
room [] = 0
room (v ∷ vs) = (2 ^ 63 - length (pairs_of v)) + room vs

pub pairs_fit : (v : Value) → length (pairs_of v) < 2 ^ 63
pairs_fit (values.Set events) = omega arith
pairs_fit (values.Relation pairs) = omega (arith, pairs.ok.0, pairs.ok.1, pairs.small)
pairs_fit values.Nothing = omega arith

longer : (old others new : List (ℕ × ℕ)) → Extends old others new → length old ≤ length new
longer old others new h =
    omega (arith, ap (λ (l : List (ℕ × ℕ)). length l) h.behind.1, length-append old h.behind.0)

as_long : (old added : List (ℕ × ℕ)) → length (old ++ added) ≤ length old → old ++ added ≡ old
as_long old [] le = append-nil old
as_long old (a ∷ added) le = absurd (omega (arith, length-append old (a ∷ added)))

not_longer : (old others new : List (ℕ × ℕ)) → Extends old others new → length new ≤ length old
    → (p : ℕ × ℕ) → Contains others p → Contains old p
not_longer old others new h le p there =
    let is : new ≡ old ++ h.behind.0 = h.behind.1 in
    let same : old ++ h.behind.0 ≡ old = as_long old h.behind.0 (omega (arith, ap (λ (l : List (ℕ × ℕ)). length l) is)) in
    subst (λ (l : List (ℕ × ℕ)). Contains l p) (is ∙ same) ((h.exact p).1 (inr there))

pub no_growth : (vs ms ws : List Value) → DoExtend vs ms ws → (HasGrown vs ws → ⊥)
    → AreNoMore vs ms
no_growth [] [] [] extends none = tt
no_growth [] [] (w ∷ ws) extends none = absurd extends
no_growth [] (m ∷ ms) ws extends none = absurd extends
no_growth (v ∷ vs) [] ws extends none = absurd extends
no_growth (v ∷ vs) (m ∷ ms) [] extends none = absurd extends
no_growth (v ∷ vs) (m ∷ ms) (w ∷ ws) extends none =
    let short : length (pairs_of w) ≤ length (pairs_of v) = not_less (length (pairs_of v)) (length (pairs_of w)) (λ lt. none (inl lt)) in (
      not_longer (pairs_of v) (pairs_of m) (pairs_of w) extends.1 short,
      no_growth vs ms ws extends.2 (λ later. none (inr later)),
    )
  where
    not_less : (a b : ℕ) → (a < b → ⊥) → b ≤ a
    not_less a b h = elim (cases_lt a b) [ inl lt ↦ absurd (h lt) | inr le ↦ le ]

pub room_stays : (vs ms ws : List Value) → DoExtend vs ms ws → room ws ≤ room vs
room_stays [] [] [] extends = omega arith
room_stays [] [] (w ∷ ws) extends = absurd extends
room_stays [] (m ∷ ms) ws extends = absurd extends
room_stays (v ∷ vs) [] ws extends = absurd extends
room_stays (v ∷ vs) (m ∷ ms) [] extends = absurd extends
room_stays (v ∷ vs) (m ∷ ms) (w ∷ ws) extends =
    omega (arith, longer (pairs_of v) (pairs_of m) (pairs_of w) extends.1, room_stays vs ms ws extends.2)

-- a round that gives more leaves less room
pub room_falls : (vs ms ws : List Value) → DoExtend vs ms ws → HasGrown vs ws
    → room ws < room vs
room_falls [] [] [] extends grown = absurd grown
room_falls [] [] (w ∷ ws) extends grown = absurd extends
room_falls [] (m ∷ ms) ws extends grown = absurd extends
room_falls (v ∷ vs) [] ws extends grown = absurd extends
room_falls (v ∷ vs) (m ∷ ms) [] extends grown = absurd extends
room_falls (v ∷ vs) (m ∷ ms) (w ∷ ws) extends (inl lt) =
    omega (arith, pairs_fit w, room_stays vs ms ws extends.2)
room_falls (v ∷ vs) (m ∷ ms) (w ∷ ws) extends (inr later) =
    omega (arith, longer (pairs_of v) (pairs_of m) (pairs_of w) extends.1, room_falls vs ms ws extends.2 later)

pub extended_slots : (ns : List Name) (vs ms ws : List Value) → AreSlots ns vs → DoExtend vs ms ws
    → AreSlots ns ws
extended_slots [] [] [] [] slots extends = tt
extended_slots [] [] [] (w ∷ ws) slots extends = absurd extends
extended_slots [] [] (m ∷ ms) ws slots extends = absurd extends
extended_slots [] (v ∷ vs) ms ws slots extends = absurd slots
extended_slots (n ∷ ns) [] ms ws slots extends = absurd slots
extended_slots (n ∷ ns) (v ∷ vs) [] ws slots extends = absurd extends
extended_slots (n ∷ ns) (v ∷ vs) (m ∷ ms) [] slots extends = absurd extends
extended_slots (n ∷ ns) (v ∷ vs) (m ∷ ms) (w ∷ ws) slots extends =
    (extends.0, extended_slots ns vs ms ws slots.1 extends.2)

-- nothing is in each choice
pub nothing_found : (c : Choice ℕ) (ns : List Name) (vs : List Value)
    → AreRelations (λ n a b. ⊥) ns vs → IsInChoice c ns vs
nothing_found c [] [] h = tt
nothing_found c [] (v ∷ vs) h = absurd h
nothing_found c (n ∷ ns) [] h = absurd h
nothing_found c (n ∷ ns) (values.Relation pairs ∷ vs) h =
    ((λ x y there. absurd (h.0.0 x y there)), nothing_found c ns vs h.1)
nothing_found c (n ∷ ns) (values.Set events ∷ vs) h = absurd h.0.0
nothing_found c (n ∷ ns) (values.Nothing ∷ vs) h = absurd h.0.0
