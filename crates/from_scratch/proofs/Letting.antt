-- Columns that no later item uses are let go.
use Rattle.std.proofs.Common.{ℕ, ◌≡◌, ◌+◌, ◌<◌, ◌≤◌, ◌⊎◌, inl, inr, zero, suc, true, false, not, IsTrue, List, [], ◌∷◌, ◌++◌, length, take, get_or, set, Option, Some, None, Vec, Global, vec_len, slice_get, Contains, AllPairs, Bool, reverse, refl, sym, ap, ◌∙◌, subst, arith}
use Rattle.std.proofs.lemmas.List.{take_more, get_or-take, get_or_past, length-set, length-take, get_or-set_same, get_or-set_other}
use Rattle.std.proofs.lemmas.List.Elements.{Contains-append_cases}
use Rattle.std.proofs.lemmas.Option.{none-some, slice_get_within, slice_get_past, slice_get-get_or, get_or_from_slice_get}
use Rattle.std.proofs.lemmas.Bool.{cases_lt, cases_eq, not-false}
use Rattle.std.specs.List.{filter_map, cons_option}
use Rattle.std.specs.Vec.{with_item}
use Rattle.binding_kinds.specs.declared.scope.Input.{Input}
use denote.Ref.{Bor}
use Rattle.binding_graph.specs.declared.resolved.ResolvedItem.{ResolvedItem}
use Rattle.binding_graph.specs.declared.resolved.Role.{Role}
use Rattle.binding_graph.specs.declared.resolved.Role.TheVariants as roles
use Rattle.binding_graph.specs.Reach.{IsReached, AreReached}
use Rattle.candidate_spaces.specs.declared.candidate.Space.{Space}
use Rattle.cat_machine.specs.declared.column.Column.{Column}
use Rattle.cat_machine.specs.Columns.{ColumnsOf}
use Rattle.cat_machine.specs.Values.{AnswersOf}
use Rattle.cat_eval.specs.Wanted.{is_wanted, AreWantedColumns, WantedColumnsOf}
use Rattle.outcome_states.specs.Kept.{Flag}
use Rattle.from_scratch.specs.declared.cell.ItemAnswers.{ItemAnswers}
use Rattle.from_scratch.specs.declared.keeping.LastUsers.{LastUsers}
use Rattle.from_scratch.specs.Answers.{IsSaidBy, AreItemColumns, AreSoundItems}
use Rattle.from_scratch.specs.Known.{column_in, column_of, AreFound, kept_of, flags_of, IsGroup, HasAllColumns, IsReachedGroup, HasNoOtherColumns, AreKeptIn, AreKeptAndFlagged, IsAnswered, AreKnownTo}
use Rattle.from_scratch.specs.Keeping.{last_user, IsBelow, IsGone, KeepsAll, Notes, HasInput, AreLast, LetsGo, AreEnough, IsLeftOut, IsAnsweredBut, AreAlike, AreKeptTo}
use Rattle.from_scratch.proofs.Knowing.{item_at, same_at, known_next, known_end, columns_end}

-- ---- lists with one element changed

some_is : {X : Type 0} (x y : X) → ◌≡◌ {A = Option X} (Some x) (Some y) → x ≡ y
some_is x y e = cc

pub get_set_same : {X : Type 0} (xs : List X) (i : ℕ) (x : X) → i < length xs
    → slice_get (set xs i x) i ≡ Some x
get_set_same [] i x lt = absurd (omega (arith, lt))
get_set_same (y ∷ ys) zero x lt = refl
get_set_same (y ∷ ys) (suc i) x lt = get_set_same ys i x (omega (arith, lt))

pub get_set_other : {X : Type 0} (xs : List X) (i j : ℕ) (x : X) → (j ≡ i → ⊥)
    → slice_get (set xs i x) j ≡ slice_get xs j
get_set_other [] i j x other = refl
get_set_other (y ∷ ys) zero zero x other = absurd (other refl)
get_set_other (y ∷ ys) zero (suc j) x other = refl
get_set_other (y ∷ ys) (suc i) zero x other = refl
get_set_other (y ∷ ys) (suc i) (suc j) x other = get_set_other ys i j x (λ e. other (ap suc e))

-- one element more
taken_more : {X : Type 0} (xs : List X) (i : ℕ) (d x : X) → i < length xs
    → Contains (take (i + 1) xs) x → Contains (take i xs) x ⊎ (x ≡ get_or xs i d)
taken_more xs i d x lt m =
    of (Contains-append_cases (take i xs) (get_or xs i d ∷ []) x (rw (take_more xs i d lt) at m))
  where
    of : Contains (take i xs) x ⊎ Contains (get_or xs i d ∷ []) x
        → Contains (take i xs) x ⊎ (x ≡ get_or xs i d)
    of (inl m) = inl m
    of (inr (zero, lt, e)) = inr (sym e)
    of (inr (suc k, lt, e)) = absurd (omega (arith, lt))

-- ---- last users

pub notes_none : (user : ℕ) (names : List Input) (last : LastUsers)
    → Notes user (Contains (take 0 names)) last last
notes_none user names last = record {
  named = λ x l m h. absurd (omega (arith, m.1));
  others = λ x l h. inl h;
}

pub notes_more : (user : ℕ) (names : List Input) (i : ℕ) (d : Input) (old last new : LastUsers)
    → i < length names → Notes user (Contains (take i names)) old last
    → Notes user (λ other. other ≡ get_or names i d) last new
    → Notes user (Contains (take (i + 1) names)) old new
notes_more user names i d old last new lt before one = record {
  named = λ x l m h. by_name x l h (taken_more names i d x lt m);
  others = λ x l h. by_user x l (one.others x l h);
}
  where
    by_user : (x : Input) (l : ℕ) → (last_user last x ≡ Some l) ⊎ (l ≡ user)
        → (last_user old x ≡ Some l) ⊎ (l ≡ user)
    by_user x l (inl was) = before.others x l was
    by_user x l (inr is) = inr is

    by_last : (x : Input) (l : ℕ) → Contains (take i names) x
        → (last_user last x ≡ Some l) ⊎ (l ≡ user) → l ≡ user
    by_last x l m (inl was) = before.named x l m was
    by_last x l m (inr is) = is

    by_name : (x : Input) (l : ℕ) → last_user new x ≡ Some l
        → Contains (take i names) x ⊎ (x ≡ get_or names i d) → l ≡ user
    by_name x l h (inl m) = by_last x l m (one.others x l h)
    by_name x l h (inr same) = one.named x l same h

pub notes_item : (items : List ResolvedItem) (at : ℕ) (item : ResolvedItem) (old new : LastUsers)
    → slice_get items at ≡ Some item → Notes at (Contains item.inputs.items) old new
    → Notes at (HasInput items at) old new
notes_item items at item old new is h = record {
  named =
      λ name l (r, e, m) seen. h.named name l
      (subst (λ (s : ResolvedItem). Contains s.inputs.items name) (some_is r item (sym e ∙ is)) m)
      seen;
  others = h.others;
}

pub notes_no_item : (items : List ResolvedItem) (at : ℕ) (last : LastUsers) → length items ≤ at
    → Notes at (HasInput items at) last last
notes_no_item items at last past = record {
  named = λ name l (r, e, m) seen. absurd (omega (arith, slice_get_within items at r e, past));
  others = λ name l seen. inl seen;
}

pub last_none : (items : List ResolvedItem) (indexes : List ℕ) (last : LastUsers)
    → AreLast items (take 0 indexes) last
last_none items indexes last = λ k name l m has seen. absurd (omega (arith, m.1))

pub last_keeps : (items : List ResolvedItem) (indexes : List ℕ) (last : LastUsers) → KeepsAll last
    → AreLast items indexes last
last_keeps items indexes last all =
    λ k name l m has seen. absurd (none-some l (sym (all name) ∙ seen))

-- an index that is taken is below those behind
below_next : (indexes : List ℕ) (i k d : ℕ) → AllPairs (λ a b. a < b) indexes → i < length indexes
    → Contains (take i indexes) k → k < get_or indexes i d
below_next indexes i k d rising lt m =
    let first : m.0 < i = omega (arith, m.1, length-take i indexes) in
    let is : get_or indexes m.0 k ≡ k = sym (get_or-take i indexes m.0 k first) ∙ m.2 in
    omega (arith, rising m.0 i k first lt, is, same_at indexes i k d lt)

pub last_more : (items : List ResolvedItem) (indexes : List ℕ) (i d : ℕ) (last new : LastUsers)
    → AllPairs (λ a b. a < b) indexes → i < length indexes → AreLast items (take i indexes) last
    → Notes (get_or indexes i d) (HasInput items (get_or indexes i d)) last new
    → AreLast items (take (i + 1) indexes) new
last_more items indexes i d last new rising lt before one =
    λ k name l m has seen. by_index k name l has seen (taken_more indexes i d k lt m)
  where
    by_user : (k : ℕ) (name : Input) (l : ℕ) → HasInput items k name → Contains (take i indexes) k
        → (last_user last name ≡ Some l) ⊎ (l ≡ get_or indexes i d) → k ≤ l
    by_user k name l has m (inl was) = before k name l m has was
    by_user k name l has m (inr same) = omega (arith, below_next indexes i k d rising lt m, same)

    by_index : (k : ℕ) (name : Input) (l : ℕ) → HasInput items k name → last_user new name ≡ Some l
        → Contains (take i indexes) k ⊎ (k ≡ get_or indexes i d) → k ≤ l
    by_index k name l has seen (inl m) = by_user k name l has m (one.others name l seen)
    by_index k name l has seen (inr here) =
        let user : l ≡ get_or indexes i d = one.named name l (subst (λ n. HasInput items n name) here has) seen in
        omega (arith, user, here)

-- ---- columns that are let go

pub lets_none : (P : Input → Type 0) (columns : Vec (Vec Column Global) Global)
    → LetsGo P columns columns
lets_none P columns = record { count = refl; long = λ j d. refl; others = λ name stays. refl }

pub lets_more : (P : Input → Type 0) (old columns new : Vec (Vec Column Global) Global)
    → LetsGo P old columns → LetsGo P columns new → LetsGo P old new
lets_more P old columns new before after = record {
  count = after.count ∙ before.count;
  long = λ j d. after.long j d ∙ before.long j d;
  others = λ name stays. after.others name stays ∙ before.others name stays;
}

pub lets_weaker : (P Q : Input → Type 0) (old new : Vec (Vec Column Global) Global)
    → ((name : Input) → P name → Q name) → LetsGo P old new → LetsGo Q old new
lets_weaker P Q old new more h =
    record {
      count = h.count;
      long = h.long;
      others = λ name stays. h.others name (λ p. stays (more name p));
    }

-- ---- what would be known if nothing were let go

still_gone : (n m : ℕ) (o : Option ℕ) → n ≤ m → IsBelow n o → IsBelow m o
still_gone n m None le h = h
still_gone n m (Some user) le h = omega (arith, le, h)

-- the columns that an item uses
same_found : (xs ys : List (Vec Column Global)) (names : List Input)
    → ((name : Input) → Contains names name → column_of xs name ≡ column_of ys name)
    → filter_map (column_of xs) names ≡ filter_map (column_of ys) names
same_found xs ys [] same = refl
same_found xs ys (name ∷ names) same =
    ap (λ (o : Option Column). cons_option o (filter_map (column_of xs) names))
    (same name (0, omega arith, refl))
    ∙ ap (λ (cs : List Column). cons_option (column_of ys name) cs) (same_found xs ys names
    (λ other m. same other (suc m.0, omega (arith, m.1), m.2)))

not_gone : (n k : ℕ) (o : Option ℕ) → n ≤ k → ((l : ℕ) → o ≡ Some l → k ≤ l) → IsBelow n o → ⊥
not_gone n k None le users h = h
not_gone n k (Some user) le users h = omega (arith, le, users user refl, h)

no_column_left : (cs : List Column) → length cs ≡ 0 → cs ≡ []
no_column_left [] e = refl
no_column_left (c ∷ cs) e = absurd (omega (arith, e))

same_get : {X : Type 0} (xs ys : List X) (j : ℕ) → length xs ≡ length ys
    → ((d : X) → get_or xs j d ≡ get_or ys j d) → slice_get xs j ≡ slice_get ys j
same_get {X = X} xs ys j long same = of (cases_lt j (length xs))
  where
    of : (j < length xs) ⊎ (length xs ≤ j) → slice_get xs j ≡ slice_get ys j
    of (inl lt) =
        let (x, is) = item_at xs j lt in
        slice_get-get_or xs j x lt ∙ ap (λ (y : X). Some y) (same x)
        ∙ sym (slice_get-get_or ys j x (omega (arith, lt, long)))
    of (inr past) = slice_get_past xs j past ∙ sym (slice_get_past ys j (omega (arith, past, long)))

-- the second's columns at that index too, and its answers
abbrev with_columns : ItemAnswers → ℕ → Vec Column Global → ItemAnswers → ItemAnswers
with_columns whole at v new =
    record { columns = with_item whole.columns at v; kept = new.kept; flags = new.flags }

-- what the item gives there
whole_next : (last : LastUsers) (n at : ℕ) (space : Space) (r : ResolvedItem)
    (whole old new : ItemAnswers) → at < vec_len whole.columns → AreAlike last n whole old
    → ((name : Input) → Contains r.inputs.items name → IsGone last n name → ⊥)
    → IsAnswered space at r old new
    → (all : ItemAnswers) × IsAnswered space at r whole all × AreAlike last n all new
whole_next last n at space r whole old new lt alike needed given =
    (with_columns whole at here.0 new, answered, after)
  where
    within : at < length whole.columns.items
    within = omega (arith, lt)

    here : (v : Vec Column Global) × (slice_get new.columns.items at ≡ Some v)
    here = item_at new.columns.items at (omega (arith, lt, given.count, alike.columns.count))

    both_here : (d : Vec Column Global)
        → get_or new.columns.items at d ≡ get_or (set whole.columns.items at here.0) at d
    both_here d =
        get_or_from_slice_get new.columns.items at here.0 d here.1
        ∙ sym (get_or-set_same whole.columns.items at here.0 d within)

    answered : IsAnswered space at r whole (with_columns whole at here.0 new)
    answered = record {
      inputs = given.inputs;
      found =
          given.found
          ∙ same_found old.columns.items whole.columns.items r.inputs.items
          (λ name m. alike.columns.others name (needed name m));
      count = refl;
      others = λ j other d. get_or-set_other whole.columns.items at j here.0 d other;
      here =
          λ lt2 empty d. subst
          (λ (v : Vec Column Global). ColumnsOf r.role given.inputs space v.items) (both_here d)
          (given.here (omega (arith, lt, alike.columns.count))
          (λ e. no_column_left (get_or old.columns.items at e).items
          (alike.columns.long at e ∙ ap length (empty e))) d);
      said = λ checks keeps.
          let (more, kept, says) = given.said checks (subst (λ (k : List Bool). AreKeptIn space checks k) (sym alike.kept) keeps) in (
            more,
            kept,
            subst
                (λ (f : List Flag). IsSaidBy r.role (AnswersOf r.role given.inputs space)
                (λ cs fs. (cs ≡ checks) × (fs ≡ f)) more (flags_of new)) alike.flags
                says,
          );
    }

    long_by : (j : ℕ) (d : Vec Column Global) → (j ≡ at) ⊎ (j ≡ at → ⊥)
        → length (get_or new.columns.items j d).items
        ≡ length (get_or (set whole.columns.items at here.0) j d).items
    long_by j d (inl e) =
        ap (λ k. length (get_or new.columns.items k d).items) e
        ∙ ap (λ (v : Vec Column Global). length v.items) (both_here d)
        ∙ ap (λ k. length (get_or (set whole.columns.items at here.0) k d).items) (sym e)
    long_by j d (inr away) =
        ap (λ (v : Vec Column Global). length v.items) (given.others j away d)
        ∙ alike.columns.long j d
        ∙ ap (λ (v : Vec Column Global). length v.items) (sym
        (get_or-set_other whole.columns.items at j here.0 d away))

    other_by : (name : Input) → (IsGone last n name → ⊥) → (name.item ≡ at) ⊎ (name.item ≡ at → ⊥)
        → column_of new.columns.items name ≡ column_of (set whole.columns.items at here.0) name
    other_by name stays (inl e) =
        ap (λ (o : Option (Vec Column Global)). column_in o name.position) (ap
        (λ k. slice_get new.columns.items k) e ∙ here.1
        ∙ sym (get_set_same whole.columns.items at here.0 within)
        ∙ ap (λ k. slice_get (set whole.columns.items at here.0) k) (sym e))
    other_by name stays (inr away) =
        ap (λ (o : Option (Vec Column Global)). column_in o name.position) (same_get
        new.columns.items old.columns.items name.item (omega (arith, given.count))
        (given.others name.item away)) ∙ alike.columns.others name stays
        ∙ ap (λ (o : Option (Vec Column Global)). column_in o name.position)
        (sym (get_set_other whole.columns.items at name.item here.0 away))

    after : AreAlike last n (with_columns whole at here.0 new) new
    after = record {
      columns = record {
        count = given.count ∙ alike.columns.count;
        long = λ j d. long_by j d (cases_eq j at);
        others = λ name stays. other_by name stays (cases_eq name.item at);
      };
      kept = refl;
      flags = refl;
    }

-- ---- names that are wanted

pub enough_none : (last : LastUsers) (at : ℕ) → AreEnough last at []
enough_none last at position left = absurd cc

left_more : (P : ℕ → Type 0) (ws : List Bool) (w : Bool) → ((j : ℕ) → is_wanted ws j ≡ false → P j)
    → (w ≡ false → P (length ws)) → (j : ℕ) → is_wanted (ws ++ w ∷ []) j ≡ false → P j
left_more P [] w before now zero left = now left
left_more P [] w before now (suc j) left = absurd cc
left_more P (x ∷ ws) w before now zero left = before 0 left
left_more P (x ∷ ws) w before now (suc j) left =
    left_more (λ k. P (suc k)) ws w (λ k e. before (suc k) e) now j left

pub enough_more : (last : LastUsers) (at position : ℕ) (ws : List Bool) (gone : Bool)
    → length ws ≡ position → AreEnough last at ws
    → (IsTrue gone → IsGone last (at + 1) (record { item = at; position = position }))
    → AreEnough last at (ws ++ not gone ∷ [])
enough_more last at position ws gone long before now =
    left_more (λ j. IsGone last (at + 1) (record { item = at; position = j })) ws (not gone) before
    (λ e. subst (λ j. IsGone last (at + 1) (record { item = at; position = j })) (sym long)
    (now (not-false gone e)))

-- ---- what an item gives, but for some columns

pub answered_whole : (P : Input → Type 0) (space : Space) (at : ℕ) (r : ResolvedItem)
    (old new : ItemAnswers) → IsAnswered space at r old new → IsAnsweredBut P space at r old new
answered_whole P space at r old new given = (new, given, lets_none P new.columns, refl, refl)

pub answered_less : (last : LastUsers) (wanted : List Bool) (space : Space) (at : ℕ)
    (r : ResolvedItem) (old answered new : ItemAnswers) → AreEnough last at wanted
    → IsAnsweredBut (IsLeftOut wanted at) space at r old answered
    → LetsGo (IsGone last (at + 1)) answered.columns new.columns → kept_of new ≡ kept_of answered
    → flags_of new ≡ flags_of answered → IsAnsweredBut (IsGone last (at + 1)) space at r old new
answered_less last wanted space at r old answered new enough before gone kept flags =
    let (whole, given, lets, was_kept, had_flags) = before in (
      whole,
      given,
      lets_more (IsGone last (at + 1)) whole.columns answered.columns new.columns
          (lets_weaker (IsLeftOut wanted at) (IsGone last (at + 1)) whole.columns answered.columns
          (λ name out. subst
          (λ i. IsGone last (at + 1) (record { item = i; position = name.position }))
          (sym out.0) (enough name.position out.1)) lets) gone,
      kept ∙ was_kept,
      flags ∙ had_flags,
    )

-- a vector of these columns, which are as many as it has
abbrev with_list : (v : Vec Column Global) (cs : List Column) → length v.items ≡ length cs
    → Vec Column Global
with_list v cs same =
    record {
      ptr = v.ptr;
      len = v.len;
      cap = v.cap;
      alloc = v.alloc;
      items = cs;
      ok = (v.ok.0 ∙ same, v.ok.1);
      small = v.small;
    }

module _ (wanted : List Bool) (at : ℕ) (old new : Vec (Vec Column Global) Global)
    (found all : Vec Column Global) (shown : AreWantedColumns wanted all.items found.items)
    (count : vec_len new ≡ vec_len old)
    (others : (j : ℕ) → (j ≡ at → ⊥) → (d : Vec Column Global)
    → get_or new.items j d ≡ get_or old.items j d)
    (here : at < vec_len old → (d : Vec Column Global) → get_or new.items at d ≡ found) where
  long_at : (j : ℕ) (d : Vec Column Global) → (j ≡ at) ⊎ (j ≡ at → ⊥)
      → (j < length old.items) ⊎ (length old.items ≤ j)
      → length (get_or new.items j d).items ≡ length (get_or (set old.items at all) j d).items
  long_at j d (inr away) by =
      ap (λ (v : Vec Column Global). length v.items) (others j away d
      ∙ sym (get_or-set_other old.items at j all d away))
  long_at j d (inl e) (inl lt) =
      let inside : at < length old.items = omega (arith, lt, e) in
      rw e (ap (λ (v : Vec Column Global). length v.items) (here (omega (arith, inside)) d)
      ∙ shown.long
      ∙ ap (λ (v : Vec Column Global). length v.items)
      (sym (get_or-set_same old.items at all d inside)))
  long_at j d (inl e) (inr past) =
      ap (λ (v : Vec Column Global). length v.items) (get_or_past new.items j d
      (omega (arith, past, count))
      ∙ sym (get_or_past (set old.items at all) j d
      (omega (arith, past, length-set old.items at all))))

  wanted_or_not : (position : ℕ) (b : Bool) → is_wanted wanted position ≡ b
      → (is_wanted wanted position ≡ false → ⊥) → is_wanted wanted position ≡ true
  wanted_or_not position true e stays = e
  wanted_or_not position false e stays = absurd (stays e)

  column_at : (name : Input) → (IsLeftOut wanted at name → ⊥)
      → (name.item ≡ at) ⊎ (name.item ≡ at → ⊥)
      → (name.item < length old.items) ⊎ (length old.items ≤ name.item)
      → column_of new.items name ≡ column_of (set old.items at all) name
  column_at name stays (inr away) by =
      ap (λ (o : Option (Vec Column Global)). column_in o name.position)
      (same_get new.items old.items name.item (omega (arith, count)) (others name.item away)
      ∙ sym (get_set_other old.items at name.item all away))
  column_at name stays (inl e) (inr past) =
      ap (λ (o : Option (Vec Column Global)). column_in o name.position)
      (slice_get_past new.items name.item (omega (arith, past, count))
      ∙ sym (slice_get_past (set old.items at all) name.item
      (omega (arith, past, length-set old.items at all))))
  column_at name stays (inl e) (inl lt) =
      ap (λ (o : Option (Vec Column Global)). column_in o name.position) there
      ∙ same_column (cases_lt name.position (length found.items))
      ∙ ap (λ (o : Option (Vec Column Global)). column_in o name.position) (sym whole)
    where
      inside : at < length old.items
      inside = omega (arith, lt, e)

      there : slice_get new.items name.item ≡ Some found
      there =
          ap (λ k. slice_get new.items k) e
          ∙ slice_get-get_or new.items at found (omega (arith, inside, count))
          ∙ ap (λ (v : Vec Column Global). Some v) (here (omega (arith, inside)) found)

      whole : slice_get (set old.items at all) name.item ≡ Some all
      whole = ap (λ k. slice_get (set old.items at all) k) e ∙ get_set_same old.items at all inside

      is : is_wanted wanted name.position ≡ true
      is = wanted_or_not name.position (is_wanted wanted name.position) refl (λ out. stays (e, out))

      same_column : (name.position < length found.items) ⊎ (length found.items ≤ name.position)
          → slice_get found.items name.position ≡ slice_get all.items name.position
      same_column (inl less) =
          let c = item_at found.items name.position less in
          slice_get-get_or found.items name.position c.0 less
          ∙ ap (λ (x : Column). Some x) (shown.same name.position less is c.0)
          ∙ sym (slice_get-get_or all.items name.position c.0 (omega (arith, less, shown.long)))
      same_column (inr more) =
          slice_get_past found.items name.position more
          ∙ sym (slice_get_past all.items name.position (omega (arith, more, shown.long)))

  lets_left_out : LetsGo (IsLeftOut wanted at) (with_item old at all) new
  lets_left_out = record {
    count = count;
    long = λ j d. long_at j d (cases_eq j at) (cases_lt j (length old.items));
    others =
        λ name stays.
        column_at name stays (cases_eq name.item at) (cases_lt name.item (length old.items));
  }

said_group : (role : Role) (Answers : List Bool → Type 0)
    (Before : List (List Bool) → List Flag → Type 0) (checks : List (List Bool))
    (flags : List Flag) → IsGroup role → Before checks flags
    → IsSaidBy role Answers Before checks flags
said_group (roles.Group recursive bodies) Answers Before checks flags group before = before
said_group (roles.Check check) Answers Before checks flags group before = absurd group
said_group roles.Silent Answers Before checks flags group before = absurd group

answered_all : (space : Space) (at : ℕ) (r : ResolvedItem) (old : ItemAnswers)
    (inputs : List (Bor Column)) (all : Vec Column Global) → IsGroup r.role
    → AreFound old.columns.items r.inputs.items inputs → ColumnsOf r.role inputs space all.items
    → IsAnswered space at r old (with_columns old at all old)
answered_all space at r old inputs all group known given = record {
  inputs = inputs;
  found = known;
  count = refl;
  others = λ j other d. get_or-set_other old.columns.items at j all d other;
  here =
      λ lt empty d. subst (λ (v : Vec Column Global). ColumnsOf r.role inputs space v.items)
      (sym (get_or-set_same old.columns.items at all d (omega (arith, lt)))) given;
  said = λ checks keeps. (checks, keeps, said_group r.role _ _ _ _ group (refl, refl));
}

pub answered_group : (wanted : List Bool) (space : Space) (at : ℕ) (r : ResolvedItem)
    (old new : ItemAnswers) (inputs : List (Bor Column)) (found : Vec Column Global)
    → IsGroup r.role → AreFound old.columns.items r.inputs.items inputs
    → WantedColumnsOf wanted r.role inputs space found.items
    → vec_len new.columns ≡ vec_len old.columns
    → ((j : ℕ) → (j ≡ at → ⊥) → (d : Vec Column Global)
    → get_or new.columns.items j d ≡ get_or old.columns.items j d)
    → (at < vec_len old.columns → (d : Vec Column Global)
    → get_or new.columns.items at d ≡ found)
    → kept_of new ≡ kept_of old → flags_of new ≡ flags_of old
    → IsAnsweredBut (IsLeftOut wanted at) space at r old new
answered_group wanted space at r old new inputs found group known given count others here kept flags
    =
    let (cs, columns, shown) = given in
    let all : Vec Column Global = with_list found cs shown.long in (
      with_columns old at all old,
      answered_all space at r old inputs all group known columns,
      lets_left_out wanted at old.columns new.columns found all shown count others here,
      kept,
      flags,
    )

-- ---- along the items that are used

pub kept_start : (space : Space) (items : List ResolvedItem) (last : LastUsers) (indexes : List ℕ)
    (a : ItemAnswers) → AreKnownTo space items indexes 0 a
    → AreKeptTo space items last indexes 0 a
kept_start space items last indexes a known = record {
  whole = a;
  known = known;
  number = 0;
  above = λ q d from within. omega arith;
  alike = record { columns = lets_none (IsGone last 0) a.columns; kept = refl; flags = refl };
}

pub kept_next : (space : Space) (items : List ResolvedItem) (last : LastUsers) (indexes : List ℕ)
    (p at : ℕ) (r : ResolvedItem) (old answered new : ItemAnswers) → AreReached items indexes
    → AreLast items indexes last → AreSoundItems items → p < length indexes
    → ((d : ℕ) → at ≡ get_or indexes p d) → slice_get items at ≡ Some r
    → AreKeptTo space items last indexes p old → IsAnswered space at r old answered
    → LetsGo (IsGone last (at + 1)) answered.columns new.columns
    → kept_of new ≡ kept_of answered → flags_of new ≡ flags_of answered
    → AreKeptTo space items last indexes (p + 1) new
kept_next space items last indexes p at r old answered new all users ordered lt is e to given gone
    kept flags =
    let le : to.number ≤ at = omega (arith, to.above p 0 (omega arith) lt, is 0) in
    let within : at < vec_len to.whole.columns = omega (arith, slice_get_within items at r e, to.known.known.count) in
    let (whole, gives, alike) = whole_next last to.number at space r to.whole old answered within to.alike (λ name m. not_gone to.number at (last_user last name) le (λ l h. users at name l (p, lt, sym (is at)) (r, e, m) h)) given in
    record {
      whole = whole;
      known =
          known_next space items indexes p at r to.whole whole all ordered lt is e to.known gives;
      number = at + 1;
      above = λ q d from within. omega (arith, all.rising p q d (omega arith) within, is d);
      alike = record {
        columns =
            lets_more (IsGone last (at + 1)) whole.columns answered.columns new.columns
            (lets_weaker (IsGone last to.number) (IsGone last (at + 1)) whole.columns
            answered.columns
            (λ name was.
            still_gone to.number (at + 1) (last_user last name) (omega (arith, le)) was)
            alike.columns) gone;
        kept = kept ∙ alike.kept;
        flags = flags ∙ alike.flags;
      };
    }

pub kept_end : (space : Space) (items : List ResolvedItem) (last : LastUsers) (indexes : List ℕ)
    (p : ℕ) (a : ItemAnswers) → AreReached items indexes → length indexes ≤ p
    → AreKeptTo space items last indexes p a
    → AreKeptAndFlagged space (reverse items) (kept_of a) (flags_of a)
kept_end space items last indexes p a all le to =
    rw (to.alike.kept, to.alike.flags) (known_end space items indexes p to.whole all le to.known)

-- ---- items without columns

no_columns : (role : Role) (inputs : List (Bor Column)) (space : Space) (cs : List Column)
    → (IsGroup role → ⊥) → ColumnsOf role inputs space cs → cs ≡ []
no_columns (roles.Group recursive bodies) inputs space cs other h = absurd (other tt)
no_columns (roles.Check check) inputs space cs other h = h
no_columns roles.Silent inputs space cs other h = h

pub no_others_next : (P : Input → Type 0) (space : Space) (items : List ResolvedItem) (at : ℕ)
    (r : ResolvedItem) (old answered new : ItemAnswers) → IsReached items at → at < length items
    → slice_get items at ≡ Some r → vec_len old.columns ≡ length items
    → HasNoOtherColumns items old → IsAnswered space at r old answered
    → LetsGo P answered.columns new.columns → HasNoOtherColumns items new
no_others_next P space items at r old answered new reached within is count none given gone =
    λ j lt other d. no_column_left (get_or new.columns.items j d).items
    (gone.long j d ∙ ap length (before j lt other d (cases_eq j at)))
  where
    here : (IsReachedGroup items at → ⊥) → (d : Vec Column Global)
        → (get_or answered.columns.items at d).items ≡ []
    here other d =
        no_columns r.role given.inputs space (get_or answered.columns.items at d).items
        (λ group. other (r, is, group, reached)) (given.here (omega (arith, within, count))
        (λ e. none at within other e) d)

    before : (j : ℕ) → j < length items → (IsReachedGroup items j → ⊥) → (d : Vec Column Global)
        → (j ≡ at) ⊎ (j ≡ at → ⊥) → (get_or answered.columns.items j d).items ≡ []
    before j lt other d (inl e) =
        subst (λ k. (get_or answered.columns.items k d).items ≡ []) (sym e)
        (here (subst (λ k. IsReachedGroup items k → ⊥) e other) d)
    before j lt other d (inr away) =
        ap (λ (v : Vec Column Global). v.items) (given.others j away d) ∙ none j lt other d

-- where each name has users to the end
all_there : (xs ys : List Column) → length xs ≡ length ys
    → ((k : ℕ) → slice_get xs k ≡ slice_get ys k) → xs ≡ ys
all_there [] [] long same = refl
all_there [] (y ∷ ys) long same = absurd (omega (arith, long))
all_there (x ∷ xs) [] long same = absurd (omega (arith, long))
all_there (x ∷ xs) (y ∷ ys) long same =
    ap (λ (z : Column). z ∷ xs) (some_is x y (same 0))
    ∙ ap (λ (zs : List Column). y ∷ zs) (all_there xs ys (omega (arith, long)) (λ k. same (suc k)))

pub kept_columns : (space : Space) (items : List ResolvedItem) (last : LastUsers) (indexes : List ℕ)
    (p : ℕ) (a : ItemAnswers) → AreReached items indexes → length indexes ≤ p → KeepsAll last
    → AreKeptTo space items last indexes p a → HasAllColumns space items a
kept_columns space items last indexes p a all le keeps to j lt reached d =
    subst (AreItemColumns space (reverse items) j) (sym same) (columns_end space items indexes p to.whole
    all le to.known j lt reached d)
  where
    columns : LetsGo (IsGone last to.number) to.whole.columns a.columns
    columns = to.alike.columns

    inside : j < length a.columns.items
    inside = omega (arith, lt, to.known.known.count, columns.count)

    stays : (name : Input) → IsGone last to.number name → ⊥
    stays name gone = subst (IsBelow to.number) (keeps name) gone

    each : (k : ℕ)
        → slice_get (get_or a.columns.items j d).items k
        ≡ slice_get (get_or to.whole.columns.items j d).items k
    each k =
        ap (λ (o : Option (Vec Column Global)). column_in o k)
        (sym (slice_get-get_or a.columns.items j d inside))
        ∙ columns.others (record { item = j; position = k })
        (stays (record { item = j; position = k }))
        ∙ ap (λ (o : Option (Vec Column Global)). column_in o k) (slice_get-get_or
        to.whole.columns.items j d (omega (arith, inside, columns.count)))

    same : (get_or a.columns.items j d).items ≡ (get_or to.whole.columns.items j d).items
    same =
        all_there (get_or a.columns.items j d).items (get_or to.whole.columns.items j d).items
        (columns.long j d) each
