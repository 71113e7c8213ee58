-- The columns of the names that an item uses, where checks reach it: those that the items before it
-- give.
use Rattle.std.proofs.Common.{ℕ, zero, suc, ◌≡◌, ◌<◌, ◌≤◌, ◌+◌, ◌⊎◌, inl, inr, List, [], ◌∷◌, ◌++◌, length, map, reverse, take, drop, get_or, Bool, true, Contains, Option, Some, None, refl, ap, sym, ◌∙◌, subst, append_assoc, arith}
use Rattle.std.specs.Prelude.{slice_get, Vec}
use Rattle.std.specs.List.{AllByRecursion, filter_map, cons_option}
use Rattle.std.specs.declared.alloc.Global.{Global}
use Rattle.std.proofs.lemmas.Bool.{cases_lt}
use Rattle.std.proofs.lemmas.List.{reverse-append, length-reverse, length-take-le, get_or_past}
use Rattle.std.proofs.lemmas.Option.{same_Some, slice_get_within, slice_get-get_or}
use denote.Ref.{Bor}
use Rattle.binding_kinds.specs.declared.scope.Input.{Input}
use Rattle.binding_graph.specs.declared.resolved.ResolvedItem.{ResolvedItem}
use Rattle.binding_graph.specs.Reach.{ItemUses, ReachesBy, IsReached}
use Rattle.candidate_spaces.specs.declared.candidate.Space.{Space}
use Rattle.cat_machine.specs.declared.column.Column.{Column}
use Rattle.cat_eval.specs.Candidates.{name_count}
use Rattle.cat_eval.proofs.Columns.{columns_named}
use Rattle.from_scratch.specs.declared.cell.ItemAnswers.{ItemAnswers}
use Rattle.from_scratch.specs.Answers.{AreItemColumns, HasColumns, IsBound, AreOrdered, IsNamed, AreNamed}
use Rattle.from_scratch.specs.Known.{column_in, column_of, AreFound, HasAllColumns}
use Rattle.from_scratch.proofs.Knowing.{item_at}
use Rattle.meaning_items.proofs.Columns.{append_one}
use Rattle.meaning_items.proofs.Growing.{columns_below}

-- ---- items before another

parts_at : {X : Type 0} (xs : List X) (i : ℕ) (x : X) → slice_get xs i ≡ Some x
    → xs ≡ take i xs ++ x ∷ drop (suc i) xs
parts_at [] i x e = absurd (let f : None ≡ Some x = e in cc)
parts_at {X} (y ∷ xs) zero x e = ap (λ (z : X). z ∷ xs) (same_Some _ _ e)
parts_at {X} (y ∷ xs) (suc i) x e = ap (λ (zs : List X). y ∷ zs) (parts_at xs i x e)

pub reversed_at : {X : Type 0} (xs : List X) (i : ℕ) (x : X) → slice_get xs i ≡ Some x
    → reverse xs ≡ reverse (drop (suc i) xs) ++ x ∷ reverse (take i xs)
reversed_at {X} xs i x e =
    ap reverse (parts_at xs i x e) ∙ reverse-append (take i xs) (x ∷ drop (suc i) xs)
    ∙ ap (λ (ys : List X). ys ++ reverse (take i xs)) (reverse-append (x ∷ []) (drop (suc i) xs))
    ∙ append_one (reverse (drop (suc i) xs)) x (reverse (take i xs))

pub long_before : {X : Type 0} (xs : List X) (i : ℕ) → i ≤ length xs
    → length (reverse (take i xs)) ≡ i
long_before xs i le = length-reverse (take i xs) ∙ length-take-le i xs le

columns_front : (space : Space) (front rs : List ResolvedItem) (j : ℕ) (cs : List Column)
    → j < length rs → AreItemColumns space (front ++ rs) j cs → AreItemColumns space rs j cs
columns_front space [] rs j cs lt h = h
columns_front space (r ∷ front) rs j cs lt (inl h) =
    let e : j ≡ length (front ++ rs) = h.0 in
    absurd (omega (arith, lt, e, longer front))
  where
    longer : (xs : List ResolvedItem) → length rs ≤ length (xs ++ rs)
    longer [] = omega arith
    longer (x ∷ xs) = let le : length rs ≤ length (xs ++ rs) = longer xs in omega (arith, le)
columns_front space (r ∷ front) rs j cs lt (inr h) = columns_front space front rs j cs lt h

-- the columns of an item, from those of the items before it
pub columns_at : (space : Space) (items : List ResolvedItem) (i : ℕ) (r : ResolvedItem)
    → slice_get items i ≡ Some r → (cs : List Column) → AreItemColumns space (reverse items) i cs
    → AreItemColumns space (r ∷ reverse (take i items)) i cs
columns_at space items i r e cs h =
    let long : length (reverse (take i items)) ≡ i =
    long_before items i (let lt = slice_get_within items i r e in omega (arith, lt)) in
    columns_front space (reverse (drop (suc i) items)) (r ∷ reverse (take i items)) i cs
    (omega (arith, long))
    (subst (λ (xs : List ResolvedItem). AreItemColumns space xs i cs) (reversed_at items i r e) h)

columns_before : (space : Space) (items : List ResolvedItem) (i : ℕ) (r : ResolvedItem)
    → slice_get items i ≡ Some r → (j : ℕ) (cs : List Column) → j < i
    → AreItemColumns space (reverse items) j cs → AreItemColumns space (reverse (take i items)) j cs
columns_before space items i r e j cs lt h =
    let long : length (reverse (take i items)) ≡ i =
    long_before items i (let within = slice_get_within items i r e in omega (arith, within)) in
    columns_front space (r ∷ []) (reverse (take i items)) j cs (omega (arith, long, lt))
    (columns_front space (reverse (drop (suc i) items)) (r ∷ reverse (take i items)) j cs
    (omega (arith, long, lt))
    (subst (λ (xs : List ResolvedItem). AreItemColumns space xs j cs) (reversed_at items i r e) h))

-- ---- names that an item uses

bound_below : (rs : List ResolvedItem) (name : Input) → IsBound rs name → name.item < length rs
bound_below [] name h = absurd h
bound_below (r ∷ rs) name (inl h) = let e = h.0 in omega (arith, e)
bound_below (r ∷ rs) name (inr h) = let lt = bound_below rs name h in omega (arith, lt)

bound_long : (space : Space) (rs : List ResolvedItem) (name : Input) (cs : List Column)
    → IsBound rs name → AreItemColumns space rs name.item cs → name.position < length cs
bound_long space [] name cs b h = absurd b
bound_long space (r ∷ rs) name cs (inl b) (inl h) =
    let long : length cs ≡ name_count r.role = columns_named r.role h.1.0 space cs h.1.2 in
    let lt : name.position < name_count r.role = b.1 in omega (arith, long, lt)
bound_long space (r ∷ rs) name cs (inl b) (inr h) =
    let e : name.item ≡ length rs = b.0 in
    absurd (let lt = columns_below space rs name.item cs h in omega (arith, lt, e))
bound_long space (r ∷ rs) name cs (inr b) (inl h) =
    let e : name.item ≡ length rs = h.0 in
    absurd (let lt = bound_below rs name b in omega (arith, lt, e))
bound_long space (r ∷ rs) name cs (inr b) (inr h) = bound_long space rs name cs b h

ordered_front : (front rs : List ResolvedItem) (r : ResolvedItem) → AreOrdered (front ++ r ∷ rs)
    → AllByRecursion (IsBound rs) r.inputs.items
ordered_front [] rs r h = h.0
ordered_front (x ∷ front) rs r h = ordered_front front rs r h.1

pub ordered_at : (items : List ResolvedItem) (i : ℕ) (r : ResolvedItem) → slice_get items i ≡ Some r
    → AreOrdered (reverse items) → AllByRecursion (IsBound (reverse (take i items))) r.inputs.items
ordered_at items i r e h =
    ordered_front (reverse (drop (suc i) items)) (reverse (take i items)) r
    (subst AreOrdered (reversed_at items i r e) h)

-- no columns
abbrev no_columns : Vec (Vec Column Global) Global → Vec Column Global
no_columns v = record {
  ptr = v.ptr;
  len = 0;
  cap = 0;
  alloc = v.alloc;
  items = [];
  ok = (refl, omega arith);
  small = omega arith;
}

-- an item that is used by one that is reached is reached
pub reached_more : (items : List ResolvedItem) (a b : ℕ) → IsReached items a → ItemUses items a b
    → IsReached items b
reached_more items a b h uses = record {
  from = h.from;
  is_check = h.is_check;
  through = h.through ++ b ∷ [];
  leads = longer h.from h.through h.leads;
}
  where
    longer : (from : ℕ) (through : List ℕ) → ReachesBy items from through a
        → ReachesBy items from (through ++ b ∷ []) b
    longer from [] e = (subst (λ (c : ℕ). ItemUses items c b) (sym e) uses, refl)
    longer from (c ∷ through) e = (e.0, longer c through e.1)

module _ (space : Space) (items : List ResolvedItem) (a : ItemAnswers)
    (known : HasAllColumns space items a) (ordered : AreOrdered (reverse items)) where
  -- the columns of an item that is reached, which bind a name
  pub there_at : (j : ℕ) → j < length items → IsReached items j
      → ((cs : List Column) → AreItemColumns space (reverse items) j cs → 0 < length cs)
      → (v : Vec Column Global) × (slice_get a.columns.items j ≡ Some v)
      × AreItemColumns space (reverse items) j v.items
  there_at j lt reached some = by (cases_lt j (length a.columns.items))
    where
      by : (j < length a.columns.items) ⊎ (length a.columns.items ≤ j)
          → (v : Vec Column Global) × (slice_get a.columns.items j ≡ Some v)
          × AreItemColumns space (reverse items) j v.items
      by (inl less) =
          let v = item_at a.columns.items j less in (
            v.0,
            v.1,
            subst (λ (w : Vec Column Global). AreItemColumns space (reverse items) j w.items)
                (same_Some _ _ (sym (slice_get-get_or a.columns.items j v.0 less) ∙ v.1))
                (known j lt reached v.0),
          )
      by (inr past) =
          let empty : Vec Column Global = no_columns a.columns in
          let none : AreItemColumns space (reverse items) j [] =
          subst (λ (w : Vec Column Global). AreItemColumns space (reverse items) j w.items)
          (get_or_past a.columns.items j empty past) (known j lt reached empty) in
          absurd (let above = some [] none in omega (arith, above))

  module _ (i : ℕ) (r : ResolvedItem) (e : slice_get items i ≡ Some r) (reached : IsReached items i)
    where
      abbrev Before : ℕ → List Column → Type 0
      Before j cs = AreItemColumns space (reverse (take i items)) j cs

      IsOne : Input → Type 0
      IsOne name =
          (c : Column) × (column_of a.columns.items name ≡ Some c)
          × ((b : Bor Column) → b.now ≡ c → IsNamed Before name b)

      long : length (reverse (take i items)) ≡ i
      long = long_before items i (let lt = slice_get_within items i r e in omega (arith, lt))

      one_of : (name : Input) → IsBound (reverse (take i items)) name → ItemUses items i name.item
          → IsOne name
      unfolding IsOne
      one_of name bound uses =
          let less : name.item < i =
          (let lt = bound_below (reverse (take i items)) name bound in omega (arith, lt, long)) in
          let within : name.item < length items =
          (let lt = slice_get_within items i r e in omega (arith, lt, less)) in
          let before : (cs : List Column) → AreItemColumns space (reverse items) name.item cs → Before name.item cs =
          λ cs h. columns_before space items i r e name.item cs less h in
          let v = there_at name.item within (reached_more items i name.item reached uses)
          (λ cs h. let lt = bound_long space (reverse (take i items)) name cs bound (before cs h) in
          omega (arith, lt)) in
          let values : Before name.item v.0.items = before v.0.items v.2 in
          let c = item_at v.0.items name.position (bound_long space (reverse (take i items)) name v.0.items bound values) in (
            c.0,
            ap (λ (o : Option (Vec Column Global)). column_in o name.position) v.1 ∙ c.1,
            λ b same. (v.0.items, values, c.1 ∙ ap Some (sym same)),
          )

      all_of : (names : List Input) → AllByRecursion (IsBound (reverse (take i items))) names
          → ((name : Input) → Contains names name → ItemUses items i name.item)
          → AllByRecursion IsOne names
      all_of [] bound uses = tt
      all_of (x ∷ xs) bound uses = (
        one_of x bound.0 (uses x (0, omega arith, refl)),
        all_of xs bound.1 (λ name m. uses name (suc m.0, omega (arith, m.1), m.2)),
      )

      named_all : (names : List Input) (found : List (Bor Column)) → AllByRecursion IsOne names
          → AreFound a.columns.items names found → AreNamed Before names found
      unfolding IsOne
      named_all [] [] h same = tt
      named_all [] (b ∷ bs) h same =
          absurd (let f : b.now ∷ map (λ c. c.now) bs ≡ [] = same in cc)
      named_all (x ∷ xs) [] h same =
          let rest = filter_map (column_of a.columns.items) xs in
          absurd
          (let f : [] ≡ h.0.0 ∷ rest =
          same ∙ ap (λ (o : Option Column). cons_option o rest) h.0.1 in cc)
      named_all (x ∷ xs) (b ∷ bs) h same =
          let rest = filter_map (column_of a.columns.items) xs in
          let both : b.now ∷ map (λ c. c.now) bs ≡ h.0.0 ∷ rest =
          same ∙ ap (λ (o : Option Column). cons_option o rest) h.0.1 in (
            h.0.2 b (let f : b.now ≡ h.0.0 = cc in f),
            named_all xs bs h.1 (let f : map (λ c. c.now) bs ≡ rest = cc in f),
          )

      -- an input is used
      input_used : (name : Input) → Contains r.inputs.items name → ItemUses items i name.item
      input_used name m = (r, e, inl (used r.inputs.items name m))
        where
          used : (names : List Input) (x : Input) → Contains names x
              → Contains (map (λ n. n.item) names) x.item
          used [] x (q, lt, is) = absurd (omega (arith, lt))
          used (n ∷ names) x (zero, lt, is) = (0, omega arith, ap (λ (y : Input). y.item) is)
          used (n ∷ names) x (suc q, lt, is) =
              let rest = used names x (q, omega (arith, lt), is) in
              (suc rest.0, (let less = rest.1 in omega (arith, less)), rest.2)

      pub inputs_named : (inputs : List (Bor Column)) → AreFound a.columns.items r.inputs.items inputs
          → AreNamed Before r.inputs.items inputs
      inputs_named inputs found =
          named_all r.inputs.items inputs
          (all_of r.inputs.items (ordered_at items i r e ordered) input_used) found
