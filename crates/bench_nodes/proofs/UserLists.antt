-- The users of slots, list by list: what one more user adds.
use Rattle.std.proofs.Common.{◌≡◌, inl, inr, ℕ, zero, suc, ◌<◌, ◌≤◌, Bool, true, false, not, ◌==◌, ◌&&◌, ◌||◌, if◌then◌else◌, List, [], ◌∷◌, ◌++◌, length, map, Some, option_map, slice_get, get_or, slice_set, Vec, refl, ap, sym, ◌∙◌, arith}
use Rattle.std.proofs.lemmas.Bool.{cases_Bool, not-true}
use Rattle.std.specs.declared.alloc.Global.{Global}
use Rattle.std.proofs.lemmas.Option.{same_Some}
use Rattle.memo_core.specs.declared.keys.Kind.{Kind}
use Rattle.memo_core.specs.Names.{kind_number}
use Rattle.memo_core.proofs.Tests.{and_true}
use Rattle.bench_nodes.specs.declared.places.SlotName.{SlotName}
use Rattle.bench_nodes.specs.declared.table.Slot.{Slot}
use Rattle.bench_nodes.specs.declared.table.SlotKey.{SlotKey}
use Rattle.bench_nodes.specs.declared.table.SlotKey.TheVariants as keys
use Rattle.bench_nodes.specs.Slots.{is_slot, has_slot, is_output_of, uses}
use Rattle.bench_nodes.specs.Places.{are_apart, slot_name, user_names, user_lists, put_at, with_user}
use Rattle.bench_nodes.proofs.Lookups.{slot_is, has_placed, turned}

-- ---- inputs

pub uses_more : (kind : Kind) (of : ℕ) (ks : List SlotKey) (k : SlotKey)
    → uses kind of (ks ++ k ∷ []) ≡ uses kind of ks || is_output_of kind of k
uses_more kind of [] k = or_none (is_output_of kind of k)
  where
    or_none : (b : Bool) → b || false ≡ b
    or_none true = refl
    or_none false = refl
uses_more kind of (j ∷ ks) k =
    ap (λ (b : Bool). is_output_of kind of j || b) (uses_more kind of ks k)
    ∙ grouped (is_output_of kind of j) (uses kind of ks) (is_output_of kind of k)
  where
    grouped : (a b c : Bool) → a || (b || c) ≡ (a || b) || c
    grouped true b c = refl
    grouped false b c = refl

-- a slot of another kind or number does not have that output
other_output : (kind : Kind) (of name : ℕ) (s : Slot) → is_slot kind of s ≡ false
    → is_output_of s.kind s.of (keys.Value kind of name) ≡ false
other_output kind of name s h =
    both (kind_number kind == kind_number s.kind) (of == s.of)
    (kind_number s.kind == kind_number kind) (s.of == of)
    (sym (turned (kind_number kind) (kind_number s.kind) (kind_number kind == kind_number s.kind)
    refl))
    (sym (turned of s.of (of == s.of) refl)) h
  where
    both : (a b c d : Bool) → a ≡ c → b ≡ d → a && b ≡ false → c && d ≡ false
    both a b c d e f h = rw (sym e, sym f) h

own_output : (kind : Kind) (of name : ℕ) → is_output_of kind of (keys.Value kind of name) ≡ true
own_output kind of name = rw (same (kind_number kind), same of) refl
  where
    same : (n : ℕ) → n == n ≡ true
    same n = grind arith

-- ---- lists that stay

pub same_users : (name : SlotName) (before after : List SlotKey) (ss : List Slot)
    (ls : List (List SlotName))
    → ((s : Slot) → uses s.kind s.of after ≡ uses s.kind s.of before)
    → with_user name after ss ls ≡ with_user name before ss ls
same_users name before after [] ls h = refl
same_users name before after (s ∷ ss) [] h = refl
same_users name before after (s ∷ ss) (l ∷ ls) h =
    rw (h s) (ap
    (λ (xs : List (List SlotName)). (if uses s.kind s.of before then l ++ name ∷ [] else l)
    ∷ xs)
    (same_users name before after ss ls h))

pub none_used : (name : SlotName) (ss : List Slot) (ls : List (List SlotName))
    → with_user name [] ss ls ≡ ls
none_used name [] ls = refl
none_used name (s ∷ ss) [] = refl
none_used name (s ∷ ss) (l ∷ ls) = ap (λ (xs : List (List SlotName)). l ∷ xs) (none_used name ss ls)

or_false : (a b : Bool) → b ≡ false → a || b ≡ a
or_false true b h = refl
or_false false b h = h

or_known : (a b : Bool) → a ≡ true → a || b ≡ a
or_known true b h = refl
or_known false b h = cc

-- an input that is no output adds no user
pub no_output : (name : SlotName) (ks : List SlotKey) (k : SlotKey) (ss : List Slot)
    (ls : List (List SlotName)) → ((kind : Kind) (of : ℕ) → is_output_of kind of k ≡ false)
    → with_user name (ks ++ k ∷ []) ss ls ≡ with_user name ks ss ls
no_output name ks k ss ls h =
    same_users name ks (ks ++ k ∷ []) ss ls (λ s. uses_more s.kind s.of ks k
    ∙ or_false (uses s.kind s.of ks) (is_output_of s.kind s.of k) (h s.kind s.of))

-- nor does an output of a node that is used already
pub known_output : (name : SlotName) (ks : List SlotKey) (kind : Kind) (of at : ℕ) (ss : List Slot)
    (ls : List (List SlotName)) → uses kind of ks ≡ true
    → with_user name (ks ++ keys.Value kind of at ∷ []) ss ls ≡ with_user name ks ss ls
known_output name ks kind of at ss ls h =
    same_users name ks (ks ++ keys.Value kind of at ∷ []) ss ls (λ s. uses_more s.kind s.of ks
    (keys.Value kind of at) ∙ one s)
  where
    one : (s : Slot)
        → uses s.kind s.of ks
        || is_output_of s.kind s.of (keys.Value kind of at) ≡ uses s.kind s.of ks
    one s = elim (cases_Bool (is_slot kind of s)) [
      | inl is ↦
          let same = slot_is kind of s is in
          or_known (uses s.kind s.of ks) (is_output_of s.kind s.of (keys.Value kind of at))
          (rw (sym same.0, sym same.1) h)
      | inr other ↦ or_false (uses s.kind s.of ks)
          (is_output_of s.kind s.of (keys.Value kind of at)) (other_output kind of at s other)
    ]

-- ---- a list that grows

used_before : (kind : Kind) (of name : ℕ) (ks : List SlotKey) (s : Slot) → is_slot kind of s ≡ false
    → uses s.kind s.of (ks ++ keys.Value kind of name ∷ []) ≡ uses s.kind s.of ks
used_before kind of name ks s other =
    uses_more s.kind s.of ks (keys.Value kind of name)
    ∙ or_false (uses s.kind s.of ks) (is_output_of s.kind s.of (keys.Value kind of name))
    (other_output kind of name s other)

none_is : (kind : Kind) (of : ℕ) (s : Slot) (ss : List Slot) → has_slot (s ∷ ss) kind of ≡ false
    → (is_slot kind of s ≡ false) × (has_slot ss kind of ≡ false)
none_is kind of s ss h = both (is_slot kind of s) (has_slot ss kind of) h
  where
    both : (a b : Bool) → a || b ≡ false → (a ≡ false) × (b ≡ false)
    both true b h = cc
    both false b h = (refl, h)

others_stay : (name : SlotName) (ks : List SlotKey) (kind : Kind) (of at : ℕ) (ss : List Slot)
    (ls : List (List SlotName)) → has_slot ss kind of ≡ false
    → with_user name (ks ++ keys.Value kind of at ∷ []) ss ls ≡ with_user name ks ss ls
others_stay name ks kind of at [] ls h = refl
others_stay name ks kind of at (s ∷ ss) [] h = refl
others_stay name ks kind of at (s ∷ ss) (l ∷ ls) h =
    let p = none_is kind of s ss h in
    rw (used_before kind of at ks s p.0) (ap
    (λ (xs : List (List SlotName)). (if uses s.kind s.of ks then l ++ name ∷ [] else l)
    ∷ xs)
    (others_stay name ks kind of at ss ls p.1))

-- an output of a node that is not used yet adds a user at the slot of that node
pub new_output : (name : SlotName) (ks : List SlotKey) (kind : Kind) (of output at : ℕ)
    (ss : List Slot) (ls : List (List SlotName)) → are_apart ss ≡ true → uses kind of ks ≡ false
    → option_map (is_slot kind of) (slice_get ss at) ≡ Some true
    → with_user name (ks ++ keys.Value kind of output ∷ []) ss ls
    ≡ put_at at name (with_user name ks ss ls)
new_output name ks kind of output at [] ls apart h there = cc
new_output name ks kind of output at (s ∷ ss) [] apart h there = refl
new_output name ks kind of output zero (s ∷ ss) (l ∷ ls) apart h there =
    let is : is_slot kind of s ≡ true = same_Some (is_slot kind of s) true there in
    let same = slot_is kind of s is in
    let p = and_true (not (has_slot ss s.kind s.of)) (are_apart ss) apart in
    let none : has_slot ss kind of ≡ false = rw (same.0, same.1) (not-true (has_slot ss s.kind s.of) p.0) in
    let before : uses s.kind s.of ks ≡ false = rw (sym same.0, sym same.1) h in
    let after : uses s.kind s.of (ks ++ keys.Value kind of output ∷ []) ≡ true = rw (sym same.0, sym same.1) (uses_more kind of ks (keys.Value kind of output) ∙ rw h (own_output kind of output)) in
    rw (before, after) (ap (λ (xs : List (List SlotName)). (l ++ name ∷ []) ∷ xs)
    (others_stay name ks kind of output ss ls none))
new_output name ks kind of output (suc at) (s ∷ ss) (l ∷ ls) apart h there =
    let p = and_true (not (has_slot ss s.kind s.of)) (are_apart ss) apart in
    elim (cases_Bool (is_slot kind of s)) [
      | inl is ↦ absurd (
          let same = slot_is kind of s is in
          let later : has_slot ss kind of ≡ true = sym (has_placed ss kind of at there) in
          let none : has_slot ss kind of ≡ false = rw (same.0, same.1) (not-true (has_slot ss s.kind s.of) p.0) in
          cc
          )
      | inr other ↦ rw (used_before kind of output ks s other) (ap
          (λ (xs : List (List SlotName)). (if uses s.kind s.of ks then l ++ name ∷ [] else l)
          ∷ xs)
          (new_output name ks kind of output at ss ls p.1 h there))
    ]

-- ---- one more user

names_more : (us : List Slot) (u : Slot) (kind : Kind) (of : ℕ)
    → (if uses kind of u.inputs.items then user_names us kind of ++ slot_name u ∷ []
    else user_names us kind of) ≡ user_names (us ++ u ∷ []) kind of
names_more [] u kind of = elim (cases_Bool (uses kind of u.inputs.items)) [
  | inl e ↦ rw e refl
  | inr f ↦ rw f refl
]
names_more (v ∷ us) u kind of = elim (cases_Bool (uses kind of v.inputs.items)) [
  | inl e ↦ rw e (moved (uses kind of u.inputs.items)
      ∙ ap (λ (ns : List SlotName). slot_name v ∷ ns) (names_more us u kind of))
  | inr f ↦ rw f (names_more us u kind of)
]
  where
    moved : (b : Bool)
        → (if b then slot_name v ∷ (user_names us kind of ++ slot_name u ∷ [])
        else slot_name v ∷ user_names us kind of)
        ≡ slot_name v
        ∷ (if b then user_names us kind of ++ slot_name u ∷ [] else user_names us kind of)
    moved true = refl
    moved false = refl

pub lists_more : (us ss : List Slot) (u : Slot)
    → with_user (slot_name u) u.inputs.items ss (user_lists us ss) ≡ user_lists (us ++ u ∷ []) ss
lists_more us [] u = refl
lists_more us (s ∷ ss) u =
    rw (names_more us u s.kind s.of) (ap
    (λ (xs : List (List SlotName)). user_names (us ++ u ∷ []) s.kind s.of ∷ xs)
    (lists_more us ss u))

-- ---- the list at an index

pub put_is : (f : Vec SlotName Global → List SlotName) (ls : List (Vec SlotName Global)) (at : ℕ)
    (name : SlotName) (v d : Vec SlotName Global) → at < length ls
    → f v ≡ f (get_or ls at d) ++ name ∷ [] → map f (slice_set ls at v) ≡ put_at at name (map f ls)
put_is f [] at name v d lt e = absurd (omega arith)
put_is f (l ∷ ls) zero name v d lt e = ap (λ (x : List SlotName). x ∷ map f ls) e
put_is f (l ∷ ls) (suc at) name v d lt e =
    ap (λ (xs : List (List SlotName)). f l ∷ xs) (put_is f ls at name v d (omega arith) e)

pub put_nowhere : (ls : List (List SlotName)) (at : ℕ) (name : SlotName) → length ls ≤ at
    → ls ≡ put_at at name ls
put_nowhere [] at name le = refl
put_nowhere (l ∷ ls) zero name le = absurd (omega arith)
put_nowhere (l ∷ ls) (suc at) name le =
    ap (λ (xs : List (List SlotName)). l ∷ xs) (put_nowhere ls at name (omega arith))
