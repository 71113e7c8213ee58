-- What a check behind items refuses in a candidate, it refuses in each that this lies within.
use Rattle.std.proofs.Common.{ℕ, ◌≡◌, ◌<◌, ◌↔◌, zero, suc, inl, inr, List, [], ◌∷◌, length, get_or, Bool, true, false, Some, Bor, refl, sym, ap, ◌∙◌, subst, arith}
use Rattle.std.specs.Prelude.{slice_get, slice_index_or, nat_eq, if◌then◌else◌}
use Rattle.std.proofs.lemmas.Bool.Decides.{nat_tests}
use Rattle.std.proofs.lemmas.Option.{slice_get_within, get_or_from_slice_get}
use Rattle.binding_kinds.specs.declared.scope.Input.{Input}
use Rattle.binding_graph.specs.declared.resolved.ResolvedItem.{ResolvedItem}
use Rattle.binding_graph.specs.declared.resolved.Role.{Role}
use Rattle.binding_graph.specs.declared.resolved.Role.TheVariants as roles
use Rattle.candidate_spaces.specs.declared.candidate.Space.{Space}
use Rattle.candidate_spaces.specs.Space.{Candidate, candidates_in}
use Rattle.cat_machine.specs.declared.column.Column.{Column}
use Rattle.cat_machine.specs.Columns.{ColumnsOf}
use Rattle.cat_machine.specs.Executions.{events_of}
use Rattle.cat_machine.specs.Named.{InputEvents, InputPairs}
use Rattle.cat_machine.specs.Values.{AnswersOf}
use Rattle.from_scratch.specs.Answers.{AreNamed, AreItemColumns}
use Rattle.order_growth.specs.declared.growth.Growth.{Growth}
use Rattle.order_growth.specs.declared.growth.Growth.TheVariants.{Unknown}
use Rattle.order_growth.specs.Within.{IsWithin, IsGrowthBetween, IsColumnGrown, AreInputsGrown}
use Rattle.order_growth.proofs.Valued as values
use Rattle.order_growth.proofs.Refused as checks
use Rattle.order_growth.specs.Growths.{growth_in, input_growths, AreItemGrowths, AreAllGrowths, HasExpressions, HaveExpressions}
use Rattle.order_growth.specs.CutLaws.{RefusalsAreKept}

-- the number of an item is below that of those behind it
number_below : (s : Space) (rs : List ResolvedItem) (i : ℕ) (cs : List Column)
    → AreItemColumns s rs i cs → i < length rs
number_below s [] i cs h = absurd h
number_below s (r ∷ rs) i cs (inl h) = omega (arith, h.0)
number_below s (r ∷ rs) i cs (inr h) = let lt = number_below s rs i cs h in omega (arith, lt)

no_column : (cs : List Column) (p : ℕ) (c : Column) → cs ≡ [] → slice_get cs p ≡ Some c → ⊥
no_column cs p c none at = let lt = slice_get_within cs p c at in let e : length cs ≡ 0 = ap (λ (xs : List Column). length xs) none in omega (arith, lt, e)

-- ---- growths by numbers

growths_long : (gs : List (List Growth)) (rs : List ResolvedItem) → AreAllGrowths gs rs
    → length gs ≡ length rs
growths_long [] [] h = refl
growths_long [] (r ∷ rs) h = absurd h
growths_long (names ∷ gs) [] h = absurd h
growths_long (names ∷ gs) (r ∷ rs) h = ap suc (growths_long gs rs h.1)

choice : {X : Type 0} (m n : ℕ) (x y : X) → m ≡ n → (if nat_eq m n then x else y) ≡ x
choice m n x y e = at_test (nat_eq m n) refl
  where
    at_test : (b : Bool) → nat_eq m n ≡ b → (if b then x else y) ≡ x
    at_test true is = refl
    at_test false is = absurd (grind (arith, nat_tests, e, is))

other_choice : {X : Type 0} (m n : ℕ) (x y : X) → (m ≡ n → ⊥) → (if nat_eq m n then x else y) ≡ y
other_choice m n x y none = at_test (nat_eq m n) refl
  where
    at_test : (b : Bool) → nat_eq m n ≡ b → (if b then x else y) ≡ y
    at_test true is = absurd (none (let e : m ≡ n = grind (arith, nat_tests, is) in e))
    at_test false is = refl

here_in : (names : List Growth) (gs : List (List Growth)) (i p : ℕ) → i ≡ length gs
    → growth_in (names ∷ gs) (record { item = i; position = p }) ≡ slice_index_or names p Unknown
here_in names gs i p e =
    choice i (length gs) (slice_index_or names p Unknown)
    (growth_in gs (record { item = i; position = p })) e

past_it : (names : List Growth) (gs : List (List Growth)) (i p : ℕ) → (i ≡ length gs → ⊥)
    → growth_in (names ∷ gs) (record { item = i; position = p })
    ≡ growth_in gs (record { item = i; position = p })
past_it names gs i p none =
    other_choice i (length gs) (slice_index_or names p Unknown)
    (growth_in gs (record { item = i; position = p })) none

module _ (probes space : Space) (k l : ℕ) (one more : Candidate)
    (here : slice_get (candidates_in probes.combinations.items) k ≡ Some one)
    (there : slice_get (candidates_in space.combinations.items) l ≡ Some more)
    (inside : IsWithin one more) where
  -- from the column of a name in the one candidate to that in the other
  abbrev IsGrownTo : Growth → Column → Column → Type 0
  IsGrownTo g c d = IsColumnGrown g (events_of one) c k d l

  -- ---- the inputs of an item

  module _ (gs : List (List Growth)) (V W : ℕ → List Column → Type 0)
      (earlier : (i : ℕ) (cs ds : List Column) → V i cs → W i ds → (p : ℕ) (c d : Column)
      → slice_get cs p ≡ Some c → slice_get ds p ≡ Some d
      → IsGrownTo (growth_in gs (record { item = i; position = p })) c d) where
    input_at : (names : List Input) (inputs others : List (Bor Column)) → AreNamed V names inputs
        → AreNamed W names others → (index : ℕ)
        → ((a : ℕ)
        → InputEvents (slice_get inputs index) k (events_of one) a
        ↔ InputEvents (slice_get others index) l (events_of one) a)
        × IsGrowthBetween (slice_index_or (input_growths gs names) index Unknown)
        (InputPairs (slice_get inputs index) k (events_of one))
        (InputPairs (slice_get others index) l (events_of one))
    input_at [] [] [] h g zero = ((λ a. ((λ x. x), (λ x. x))), tt)
    input_at [] [] [] h g (suc index) = ((λ a. ((λ x. x), (λ x. x))), tt)
    input_at [] [] (d ∷ ds) h g index = absurd g
    input_at [] (c ∷ cs) others h g index = absurd h
    input_at (x ∷ xs) [] others h g index = absurd h
    input_at (x ∷ xs) (c ∷ cs) [] h g index = absurd g
    input_at (x ∷ xs) (c ∷ cs) (d ∷ ds) h g zero =
        let grown : IsGrownTo (growth_in gs x) c.now d.now = earlier x.item h.0.0 g.0.0 h.0.1 g.0.1 x.position c.now d.now h.0.2 g.0.2 in
        (grown.events, grown.pairs)
    input_at (x ∷ xs) (c ∷ cs) (d ∷ ds) h g (suc index) = input_at xs cs ds h.1 g.1 index

    inputs_grown : (names : List Input) (inputs others : List (Bor Column)) → AreNamed V names inputs
        → AreNamed W names others
        → AreInputsGrown (input_growths gs names) (events_of one) inputs k others l
    inputs_grown names inputs others h g = record {
      events = λ index. (input_at names inputs others h g index).0;
      pairs = λ index. (input_at names inputs others h g index).1;
    }

  -- ---- the columns of an item

  role_grown : (gs : List (List Growth)) (role : Role) (names : List Growth) (used : List Input)
      (inputs others : List (Bor Column)) (cs ds : List Column) → AreItemGrowths gs used role names
      → HasExpressions role
      → AreInputsGrown (input_growths gs used) (events_of one) inputs k others l
      → ColumnsOf role inputs probes cs → ColumnsOf role others space ds → (p : ℕ) (c d : Column)
      → slice_get cs p ≡ Some c → slice_get ds p ≡ Some d
      → IsGrownTo (slice_index_or names p Unknown) c d
  role_grown gs (roles.Group recursive bodies) names used inputs others cs ds g es grown are were p c d at is =
      let lt : p < length bodies.items = let w = slice_get_within cs p c at in omega (arith, w, are.as_many) in
      let found : IsGrownTo (slice_index_or names p Unknown) (get_or cs p c) (get_or ds p c) =
      values.columns_grown recursive bodies.items (input_growths gs used) names inputs others
      (candidates_in probes.combinations.items) (candidates_in space.combinations.items) cs ds k l one more
      es g are were here there inside grown p lt c in
      subst (λ (x : Column). IsGrownTo (slice_index_or names p Unknown) c x)
      (get_or_from_slice_get ds p d c is)
      (subst (λ (x : Column). IsGrownTo (slice_index_or names p Unknown) x (get_or ds p c))
      (get_or_from_slice_get cs p c c at) found)
  role_grown gs (roles.Check check) names used inputs others cs ds g es grown are were p c d at is =
      absurd (no_column cs p c are at)
  role_grown gs roles.Silent names used inputs others cs ds g es grown are were p c d at is =
      absurd (no_column cs p c are at)

  columns_grown : (gs : List (List Growth)) (rs : List ResolvedItem) → AreAllGrowths gs rs
      → HaveExpressions rs → (i : ℕ) (cs ds : List Column) → AreItemColumns probes rs i cs
      → AreItemColumns space rs i ds → (p : ℕ) (c d : Column) → slice_get cs p ≡ Some c
      → slice_get ds p ≡ Some d → IsGrownTo (growth_in gs (record { item = i; position = p })) c d
  columns_grown gs [] g es i cs ds x y p c d at is = absurd x
  columns_grown [] (r ∷ rs) g es i cs ds x y p c d at is = absurd g
  columns_grown (names ∷ gs) (r ∷ rs) g es i cs ds (inl x) (inl y) p c d at is =
      subst (λ (h : Growth). IsGrownTo h c d)
      (sym (here_in names gs i p (x.0 ∙ sym (growths_long gs rs g.1))))
      (role_grown gs r.role names r.inputs.items x.1.0 y.1.0 cs ds g.0 es.0
      (inputs_grown gs (λ j ts. AreItemColumns probes rs j ts) (λ j ts. AreItemColumns space rs j ts)
      (columns_grown gs rs g.1 es.1) r.inputs.items x.1.0 y.1.0 x.1.1 y.1.1) x.1.2 y.1.2 p c d at is)
  columns_grown (names ∷ gs) (r ∷ rs) g es i cs ds (inl x) (inr y) p c d at is =
      let lt = number_below space rs i ds y in absurd (omega (arith, lt, x.0))
  columns_grown (names ∷ gs) (r ∷ rs) g es i cs ds (inr x) (inl y) p c d at is =
      let lt = number_below probes rs i cs x in absurd (omega (arith, lt, y.0))
  columns_grown (names ∷ gs) (r ∷ rs) g es i cs ds (inr x) (inr y) p c d at is =
      let lt = number_below probes rs i cs x in
      let long = growths_long gs rs g.1 in
      subst (λ (h : Growth). IsGrownTo h c d)
      (sym (past_it names gs i p (λ e. omega (arith, lt, long, e))))
      (columns_grown gs rs g.1 es.1 i cs ds x y p c d at is)

-- ---- the check

pub refusals_kept : RefusalsAreKept
refusals_kept gs rs r check e probes space k l one more answers after grown es refuses code x y here
    there inside refused =
    let are = subst (λ (role : Role). AnswersOf role x.0 probes answers) refuses.role x.2 in
    let were = subst (λ (role : Role). AnswersOf role y.0 space after) refuses.role y.2 in
    checks.refusals_kept check (input_growths gs r.inputs.items) x.0 y.0
    (candidates_in probes.combinations.items) (candidates_in space.combinations.items) answers after
    k l one more e refuses.plain refuses.relation code (refuses.known e code) are were
    here there inside
    (inputs_grown probes space k l one more here there inside gs
    (λ j cs. AreItemColumns probes rs j cs) (λ j cs. AreItemColumns space rs j cs)
    (columns_grown probes space k l one more here there inside gs rs grown es) r.inputs.items x.0 y.0
    x.1 y.1) refused
