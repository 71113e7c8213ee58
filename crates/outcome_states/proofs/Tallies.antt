-- Laws of a list of counts.
use Rattle.std.proofs.Common.{ℕ, ◌<◌, ◌≤◌, ◌+◌, ◌-◌, ◌^◌, min, Bool, true, false, cond, ◌≡◌, List, [], ◌∷◌, Option, Some, None, Vec, Global, refl, sym, ap, subst, ◌∙◌, arith, zero-add}
use mathlib.Core.Path.{fun_ext}
use Rattle.std.specs.Option.{unwrap_or}
use Rattle.std.specs.Map.{lookup, set_value}
use Rattle.std.specs.BTreeMap.{insert_entry}
use Rattle.std.specs.Cmp.Lexicographic.{slice_cmp}
use Rattle.std.specs.Ordering.{is_eq, match_ordering}
use Rattle.std.specs.declared.cmp.Ordering.{Ordering}
use Rattle.std.specs.declared.cmp.Ordering.TheVariants.{Less, Equal, Greater}
use Rattle.std.proofs.lemmas.Cmp.{alike_right}
use Rattle.outcome_states.specs.Order.{value_cmp, state_cmp, is_state}
use Rattle.std.proofs.lemmas.List.Elements.{All-nil}
use Rattle.std.proofs.lemmas.Map.Views.{All-values-insert_entry, All-values-set_value}
use Rattle.outcome_states.specs.Counting.{tally, AreAbove, Counts, Raises}
use Rattle.outcome_states.specs.declared.answer.FinalValue.{FinalValue}
use Rattle.outcome_states.proofs.Orders.{value_orders, state_total}
use Rattle.outcome_states.specs.contracts.answer.FinalValueOrd.TheImpl as value_ord
use Rattle.ppc_lowering.proofs.Starting.{is_equal}

abbrev pub Entries : Type 0
Entries = List (Vec FinalValue Global × ℕ)

abbrev pub put : Entries → Vec FinalValue Global → ℕ → Entries
put es k w = insert_entry (λ x y. state_cmp x.items y.items) es k w

abbrev found : List FinalValue → Entries → Option ℕ
found v es = lookup (λ k. is_state v k.items) es

either : (b : Bool) (w : ℕ) (o : Option ℕ)
    → unwrap_or (cond b (Some w) o) 0 ≡ cond b w (unwrap_or o 0)
either true w o = refl
either false w o = refl

same_swap : (a b : Bool) (w u t : ℕ) → a ≡ b → cond b w t ≡ cond a w (cond b u t)
same_swap true true w u t h = refl
same_swap false false w u t h = refl
same_swap true false w u t h = cc
same_swap false true w u t h = cc

apart_swap : (a b : Bool) (w u t : ℕ) → (a ≡ true → b ≡ true → ⊥)
    → cond b u (cond a w t) ≡ cond a w (cond b u t)
apart_swap true true w u t h = absurd (h refl refl)
apart_swap true false w u t h = refl
apart_swap false true w u t h = refl
apart_swap false false w u t h = refl

put_at : (v : List FinalValue) (k : Vec FinalValue Global) (w : ℕ) (e : Vec FinalValue Global × ℕ)
    (es : Entries) (o : Ordering) → state_cmp k.items e.0.items ≡ o
    → unwrap_or (found v (put es k w)) 0 ≡ cond (is_state v k.items) w (unwrap_or (found v es) 0)
    → unwrap_or (found v (match_ordering o ((k, w) ∷ e ∷ es) ((e.0, w) ∷ es) (e ∷ put es k w))) 0
    ≡ cond (is_state v k.items) w (unwrap_or (found v (e ∷ es)) 0)
put_at v k w e es Less is more = either (is_state v k.items) w (found v (e ∷ es))
put_at v k w e es Equal is more =
    either (is_state v e.0.items) w (found v es)
    ∙ same_swap (is_state v k.items) (is_state v e.0.items) w e.1 (unwrap_or (found v es) 0)
    (ap is_eq (alike_right state_total k.items e.0.items v is))
    ∙ ap (cond (is_state v k.items) w) (sym (either (is_state v e.0.items) e.1 (found v es)))
put_at v k w e es Greater is more =
    either (is_state v e.0.items) e.1 (found v (put es k w))
    ∙ ap (cond (is_state v e.0.items) e.1) more
    ∙ apart_swap (is_state v k.items) (is_state v e.0.items) w e.1 (unwrap_or (found v es) 0) apart
    ∙ ap (cond (is_state v k.items) w) (sym (either (is_state v e.0.items) e.1 (found v es)))
  where
    apart : is_state v k.items ≡ true → is_state v e.0.items ≡ true → ⊥
    apart h g =
        let a : state_cmp v k.items ≡ Equal = is_equal (state_cmp v k.items) h in
        let b : state_cmp v e.0.items ≡ Equal = is_equal (state_cmp v e.0.items) g in
        let m : state_cmp v e.0.items ≡ state_cmp k.items e.0.items = state_total.congr v k.items e.0.items a in
        cc

put_found : (v : List FinalValue) (k : Vec FinalValue Global) (w : ℕ) (es : Entries)
    → unwrap_or (found v (put es k w)) 0 ≡ cond (is_state v k.items) w (unwrap_or (found v es) 0)
put_found v k w [] = either (is_state v k.items) w None
put_found v k w (e ∷ es) = put_at v k w e es (state_cmp k.items e.0.items) refl (put_found v k w es)

set_at : (v s : List FinalValue) (had w : ℕ) (e : Vec FinalValue Global × ℕ) (es : Entries)
    (b : Bool) → is_state s e.0.items ≡ b → cond b (Some e.1) (found s es) ≡ Some had
    → (found s es ≡ Some had
    → unwrap_or (found v (set_value (λ k. is_state s k.items) es w)) 0
    ≡ cond (is_state v s) w (unwrap_or (found v es) 0))
    → unwrap_or (found v (cond b ((e.0, w) ∷ es) (e ∷ set_value (λ k. is_state s k.items) es w))) 0
    ≡ cond (is_state v s) w (unwrap_or (found v (e ∷ es)) 0)
set_at v s had w e es true is there more =
    either (is_state v e.0.items) w (found v es)
    ∙ same_swap (is_state v s) (is_state v e.0.items) w e.1 (unwrap_or (found v es) 0)
    (ap is_eq (alike_right state_total s e.0.items v (is_equal (state_cmp s e.0.items) is)))
    ∙ ap (cond (is_state v s) w) (sym (either (is_state v e.0.items) e.1 (found v es)))
set_at v s had w e es false is there more =
    either (is_state v e.0.items) e.1 (found v (set_value (λ k. is_state s k.items) es w))
    ∙ ap (cond (is_state v e.0.items) e.1) (more there)
    ∙ apart_swap (is_state v s) (is_state v e.0.items) w e.1 (unwrap_or (found v es) 0) apart
    ∙ ap (cond (is_state v s) w) (sym (either (is_state v e.0.items) e.1 (found v es)))
  where
    apart : is_state v s ≡ true → is_state v e.0.items ≡ true → ⊥
    apart h g =
        let a : state_cmp v s ≡ Equal = is_equal (state_cmp v s) h in
        let m : is_state v e.0.items ≡ is_state s e.0.items = ap is_eq (state_total.congr v s e.0.items a) in
        cc

set_found : (v s : List FinalValue) (had w : ℕ) (es : Entries) → found s es ≡ Some had
    → unwrap_or (found v (set_value (λ k. is_state s k.items) es w)) 0
    ≡ cond (is_state v s) w (unwrap_or (found v es) 0)
set_found v s had w [] there = cc
set_found v s had w (e ∷ es) there =
    set_at v s had w e es (is_state s e.0.items) refl there (λ h. set_found v s had w es h)

alike_found : (v s : List FinalValue) (es : Entries) → is_state v s ≡ true → found s es ≡ found v es
alike_found v s es h =
    ap (λ (t : Vec FinalValue Global → Bool). lookup t es) (fun_ext (λ k.
    ap is_eq (sym (state_total.congr v s k.items (is_equal (state_cmp v s) h)))))

gained : (v s : List FinalValue) (es : Entries) (had more : ℕ) (b : Bool) → is_state v s ≡ b
    → had ≡ unwrap_or (found s es) 0
    → cond b (min (had + more) (2 ^ 64 - 1)) (unwrap_or (found v es) 0)
    ≡ cond b (min (unwrap_or (found v es) 0 + more) (2 ^ 64 - 1)) (unwrap_or (found v es) 0)
gained v s es had more true h e =
    ap (λ (n : ℕ). min (n + more) (2 ^ 64 - 1)) (e
    ∙ ap (λ (o : Option ℕ). unwrap_or o 0) (alike_found v s es h))
gained v s es had more false h e = refl

above_put : (cmp : Vec FinalValue Global → Vec FinalValue Global → Ordering) (old new : Entries)
    (s : Vec FinalValue Global) (more : ℕ) → new ≡ insert_entry cmp old s more → 0 < more
    → AreAbove old → AreAbove new
above_put cmp old new s more is some above =
    subst (λ (es : Entries). AreAbove es) (sym is) (All-values-insert_entry cmp s more (λ n. 0 < n)
    old above some)

above_set : (test : Vec FinalValue Global → Bool) (old new : Entries) (had more w : ℕ)
    → w ≡ min (had + more) (2 ^ 64 - 1) → new ≡ set_value test old w → 0 < more → AreAbove old
    → AreAbove new
above_set test old new had more w sum is some above =
    subst (λ (es : Entries). AreAbove es) (sym is) (All-values-set_value test (λ n. 0 < n) old w
    above (omega (arith, sum, some)))

-- a state that had no count gets one
Begins : (FinalValue → FinalValue → Ordering) → Type 0
Begins R =
    (old new : Entries) (s : Vec FinalValue Global) (more : ℕ) → tally old s.items ≡ 0
    → more ≤ 2 ^ 64 - 1 → new ≡ insert_entry (λ x y. slice_cmp R x.items y.items) old s more
    → (v : List FinalValue)
    → tally new v ≡ cond (is_state v s.items) (min (tally old v + more) (2 ^ 64 - 1)) (tally old v)

from_none : (more : ℕ) → more ≤ 2 ^ 64 - 1 → more ≡ min (0 + more) (2 ^ 64 - 1)
from_none more fits = omega (arith, fits)

begins_by_states : Begins value_cmp
unfolding tally Begins
begins_by_states old new s more none fits is v =
    ap (λ (es : Entries). unwrap_or (found v es) 0) (is ∙ ap (put old s) (from_none more fits))
    ∙ put_found v s (min (0 + more) (2 ^ 64 - 1)) old
    ∙ gained v s.items old 0 more (is_state v s.items) refl (sym none)

-- a state that had a count gets a greater one
Grows : (FinalValue → FinalValue → Ordering) → Type 0
Grows R =
    (old new : Entries) (s : List FinalValue) (had more w : ℕ)
    → lookup (λ k. is_eq (slice_cmp R s k.items)) old ≡ Some had → w ≡ min (had + more) (2 ^ 64 - 1)
    → new ≡ set_value (λ k. is_eq (slice_cmp R s k.items)) old w → (v : List FinalValue)
    → tally new v ≡ cond (is_state v s) (min (tally old v + more) (2 ^ 64 - 1)) (tally old v)

grows_by_states : Grows value_cmp
unfolding tally Grows
grows_by_states old new s had more w there sum is v =
    ap (λ (es : Entries). unwrap_or (found v es) 0)
    (is ∙ ap (set_value (λ k. is_state s k.items) old) sum)
    ∙ set_found v s had (min (had + more) (2 ^ 64 - 1)) old there
    ∙ gained v s old had more (is_state v s) refl (sym (ap (λ (o : Option ℕ). unwrap_or o 0) there))

None_there : (FinalValue → FinalValue → Ordering) → Type 0
None_there R =
    (old : Entries) (s : List FinalValue) → lookup (λ k. is_eq (slice_cmp R s k.items)) old ≡ None
    → tally old s ≡ 0

none_by_states : None_there value_cmp
unfolding tally None_there
none_by_states old s none = ap (λ (o : Option ℕ). unwrap_or o 0) none

begins_there : Begins ((value_ord.ghosts).cmp)
begins_there = subst Begins (sym value_orders) begins_by_states

grows_there : Grows ((value_ord.ghosts).cmp)
grows_there = subst Grows (sym value_orders) grows_by_states

nothing_there : None_there ((value_ord.ghosts).cmp)
nothing_there = subst None_there (sym value_orders) none_by_states

pub no_count : (old : Entries) (s : List FinalValue)
    → lookup (λ k. is_eq (slice_cmp ((value_ord.ghosts).cmp) s k.items)) old ≡ None
    → tally old s ≡ 0
unfolding None_there
no_count = nothing_there

pub begun : (old new : Entries) (s : Vec FinalValue Global) (more : ℕ) → tally old s.items ≡ 0
    → more ≤ 2 ^ 64 - 1
    → new ≡ insert_entry (λ x y. slice_cmp ((value_ord.ghosts).cmp) x.items y.items) old s more
    → Raises old new s.items more
unfolding Begins
begun old new s more none fits is = (
  above_put (λ x y. slice_cmp ((value_ord.ghosts).cmp) x.items y.items) old new s more is,
  begins_there old new s more none fits is,
)

pub grown : (old new : Entries) (s : List FinalValue) (had more w : ℕ)
    → lookup (λ k. is_eq (slice_cmp ((value_ord.ghosts).cmp) s k.items)) old ≡ Some had
    → w ≡ min (had + more) (2 ^ 64 - 1)
    → new ≡ set_value (λ k. is_eq (slice_cmp ((value_ord.ghosts).cmp) s k.items)) old w
    → Raises old new s more
unfolding Grows
grown old new s had more w there sum is = (
  above_set (λ k. is_eq (slice_cmp ((value_ord.ghosts).cmp) s k.items)) old new had more w sum
      is,
  grows_there old new s had more w there sum is,
)

add_found : (new old before found : ℕ) (b : Bool)
    → new ≡ cond b (min (old + found) (2 ^ 64 - 1)) old → old ≡ min before (2 ^ 64 - 1)
    → new ≡ min (before + cond b found 0) (2 ^ 64 - 1)
add_found new old before found true e h = omega arith
add_found new old before found false e h = omega arith

add_none : (old before : ℕ) (b : Bool) → old ≡ min before (2 ^ 64 - 1)
    → old ≡ min (before + cond b 0 0) (2 ^ 64 - 1)
add_none old before true h = omega arith
add_none old before false h = omega arith

-- some are found that end in one state
pub some_found : (old new : Entries) (s state : List FinalValue) (more : ℕ) → s ≡ state → 0 < more
    → Raises old new s more → Counts old new (λ v. cond (is_state v state) more 0)
unfolding Counts
some_found old new s state more is some h = (
  h.0 some,
  λ before start v. add_found (tally new v) (tally old v) (before v) more (is_state v state)
      (subst
      (λ (t : List FinalValue). tally new v
      ≡ cond (is_state v t) (min (tally old v + more) (2 ^ 64 - 1)) (tally old v)) is
      (h.1 v))
      (start v),
)

pub none_counted : (old : Entries) (state : List FinalValue) (more : ℕ) → more ≡ 0
    → Counts old old (λ v. cond (is_state v state) more 0)
unfolding Counts
none_counted old state more none = (
  λ above. above,
  λ before start v. add_none (tally old v) (before v) (is_state v state) (start v)
      ∙ ap (λ (n : ℕ). min (before v + cond (is_state v state) n 0) (2 ^ 64 - 1)) (sym none),
)

-- nothing more
pub no_more_counted : (old : Entries) (more : List FinalValue → ℕ)
    → ((v : List FinalValue) → more v ≡ 0) → Counts old old more
unfolding Counts
no_more_counted old more none = (
  λ above. above,
  λ before start v.
      let n : before v ≡ before v + more v = omega (arith, none v) in
      start v ∙ ap (λ (m : ℕ). min m (2 ^ 64 - 1)) n,
)

-- one after another
pub counted_twice : (old mid new : Entries) (first second both : List FinalValue → ℕ)
    → Counts old mid first → Counts mid new second
    → ((v : List FinalValue) → both v ≡ first v + second v) → Counts old new both
unfolding Counts
counted_twice old mid new first second both h k sum = (
  λ above. k.0 (h.0 above),
  λ before start v.
      let e : (before v + first v) + second v ≡ before v + both v = omega (arith, sum v) in
      k.1 (λ w. before w + first w) (h.1 before start) v ∙ ap (λ (n : ℕ). min n (2 ^ 64 - 1)) e,
)

pub same_counts : (old new : Entries) (first both : List FinalValue → ℕ) → Counts old new first
    → ((v : List FinalValue) → both v ≡ first v) → Counts old new both
unfolding Counts
same_counts old new first both h same = (
  h.0,
  λ before start v. h.1 before start v
      ∙ ap (λ (n : ℕ). min (before v + n) (2 ^ 64 - 1)) (sym (same v)),
)

pub from_nothing : (new : Entries) (more : List FinalValue → ℕ) → Counts [] new more
    → (v : List FinalValue) → tally new v ≡ min (more v) (2 ^ 64 - 1)
unfolding Counts tally
from_nothing new more h v =
    h.1 (λ w. 0) (λ w. refl) v ∙ ap (λ (n : ℕ). min n (2 ^ 64 - 1)) (zero-add (more v))

pub above_from_nothing : (new : Entries) (more : List FinalValue → ℕ) → Counts [] new more
    → AreAbove new
unfolding Counts
above_from_nothing new more h = h.0 (All-nil (λ n. 0 < n))
