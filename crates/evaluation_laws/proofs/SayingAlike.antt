-- Models whose items are aligned say the same of a test.
use Rattle.std.proofs.Common.{ℕ, ◌≡◌, ◌<◌, ◌⊎◌, suc, List, [], ◌∷◌, length, map, Bool, true, false, Option, Some, None, Contains, Bor, get_or, refl, sym, ap, ◌∙◌, subst, inl, inr, arith}
use Rattle.std.specs.Prelude.{slice_get}
use Rattle.std.specs.List.{AllZip, AllByRecursion as Each}
use Rattle.binding_kinds.specs.declared.scope.Input.{Input}
use Rattle.binding_graph.specs.declared.resolved.ResolvedItem.{ResolvedItem}
use Rattle.binding_graph.specs.declared.resolved.Role.{Role}
use Rattle.binding_graph.specs.declared.resolved.Role.TheVariants as roles
use Rattle.binding_graph.specs.Reach.{is_check}
use Rattle.candidate_spaces.specs.declared.candidate.Space.{Space}
use Rattle.cat_machine.specs.declared.column.Column.{Column}
use Rattle.order_growth.specs.Items.{ItemContent, RoleContent, Group, Check, Silent, role_content, item_content}
use Rattle.order_growth.proofs.Keeping.{columns_kept, answers_kept, later}
use Rattle.outcome_states.specs.Kept.{Flag}
use Rattle.from_scratch.specs.Answers.{AreNamed, HasColumns, HasAnswers, AreItemColumns, IsSaidAs, IsSaidBy, AreSaid, IsRisingRole}
use Rattle.from_scratch.proofs.Knowing.{least_of}
use Rattle.evaluation_laws.specs.Alignment.{Move, First, Second, Both, pairs_of, IsPaired, AreAligned}
use Rattle.binding_laws.proofs.Lists.{IsSamePair, contains_one_of}

-- ---- an item

module _ (space : Space) (V W : ℕ → List Column → Type 0) (R : Input → Input → Type 0)
    (moved : (i j : Input) → R i j
    → (i.position ≡ j.position) × ((cs : List Column) → V i.item cs → W j.item cs)) where
  named_moved : (is js : List Input) (inputs : List (Bor Column)) → AllZip R is js
      → AreNamed V is inputs → AreNamed W js inputs
  named_moved [] [] [] h g = tt
  named_moved [] [] (c ∷ cs) h g = absurd g
  named_moved [] (j ∷ js) inputs h g = absurd h
  named_moved (i ∷ is) [] inputs h g = absurd h
  named_moved (i ∷ is) (j ∷ js) [] h g = absurd g
  named_moved (i ∷ is) (j ∷ js) (c ∷ cs) h g =
      let both = moved i j h.0 in (
        (g.0.0, both.1 g.0.0 g.0.1, ap (slice_get g.0.0) (sym both.0) ∙ g.0.2),
        named_moved is js cs h.1 g.1,
      )

  module _ (r q : ResolvedItem) (same : role_content r.role ≡ role_content q.role)
      (inputs : AllZip R r.inputs.items q.inputs.items) where
    pub columns_moved : IsRisingRole q.role → (cs : List Column) → HasColumns space V r cs
        → HasColumns space W q cs
    columns_moved rising cs h =
        let columns = columns_kept r.role q.role space space h.0 h.0 cs (record { roles = same; candidates = refl; values = refl }) h.2 in (
          h.0,
          named_moved r.inputs.items q.inputs.items h.0 inputs h.1,
          columns,
          least_of q.role h.0 space cs rising columns,
        )

    pub answers_moved : (answers : List Bool) → HasAnswers space V r answers
        → HasAnswers space W q answers
    answers_moved answers h = (
      h.0,
      named_moved r.inputs.items q.inputs.items h.0 inputs h.1,
      answers_kept r.role q.role space space h.0 h.0 answers
          (record { roles = same; candidates = refl; values = refl }) h.2,
    )

abbrev flag_in : RoleContent → Option (List ℕ)
flag_in (Group recursive bodies) = None
flag_in (Check negated word code flag) = flag
flag_in Silent = None

module _ (A B : List Bool → Type 0) (one : (xs : List Bool) → A xs → B xs)
    (P Q : List (List Bool) → List Flag → Type 0)
    (before : (cs : List (List Bool)) (fs : List Flag) → P cs fs → Q cs fs) where
  said_as : (o : Option (List ℕ)) (cs : List (List Bool)) (fs : List Flag) → IsSaidAs o A P cs fs
      → IsSaidAs o B Q cs fs
  said_as None cs fs h = (h.0, h.1, h.2, one h.1 h.3, before h.0 fs h.4)
  said_as (Some name) cs fs h = (h.0, h.1, h.2, one h.1 h.3, before cs h.0 h.4)

  said_by : (role other : Role) → role_content role ≡ role_content other
      → (cs : List (List Bool)) (fs : List Flag) → IsSaidBy role A P cs fs
      → IsSaidBy other B Q cs fs
  said_by (roles.Group r bs) (roles.Group q ds) e cs fs h = before cs fs h
  said_by (roles.Group r bs) (roles.Check c) e cs fs h =
      absurd (let n : role_content (roles.Group r bs) ≡ role_content (roles.Check c) = e in cc)
  said_by (roles.Group r bs) roles.Silent e cs fs h = before cs fs h
  said_by (roles.Check c) (roles.Group q ds) e cs fs h =
      absurd (let n : role_content (roles.Check c) ≡ role_content (roles.Group q ds) = e in cc)
  said_by (roles.Check c) (roles.Check d) e cs fs h =
      subst (λ (o : Option (List ℕ)). IsSaidAs o B Q cs fs) (ap flag_in e) (said_as c.flag cs fs h)
  said_by (roles.Check c) roles.Silent e cs fs h =
      absurd (let n : role_content (roles.Check c) ≡ Silent = e in cc)
  said_by roles.Silent (roles.Group q ds) e cs fs h = before cs fs h
  said_by roles.Silent (roles.Check d) e cs fs h =
      absurd (let n : Silent ≡ role_content (roles.Check d) = e in cc)
  said_by roles.Silent roles.Silent e cs fs h = before cs fs h

-- what is no check says nothing
unsaid : (role : Role) (A : List Bool → Type 0) (P : List (List Bool) → List Flag → Type 0)
    (cs : List (List Bool)) (fs : List Flag) → is_check role ≡ false → IsSaidBy role A P cs fs
    → P cs fs
unsaid (roles.Group r bs) A P cs fs e h = h
unsaid (roles.Check c) A P cs fs e h = absurd (let n : true ≡ false = e in cc)
unsaid roles.Silent A P cs fs e h = h

says_nothing : (role : Role) (A : List Bool → Type 0) (P : List (List Bool) → List Flag → Type 0)
    (cs : List (List Bool)) (fs : List Flag) → is_check role ≡ false → P cs fs
    → IsSaidBy role A P cs fs
says_nothing (roles.Group r bs) A P cs fs e h = h
says_nothing (roles.Check c) A P cs fs e h = absurd (let n : true ≡ false = e in cc)
says_nothing roles.Silent A P cs fs e h = h

-- ---- aligned items

pair_low : (ms : List Move) (rs qs : List ResolvedItem) (i j : ℕ) → AreAligned ms rs qs
    → Contains (pairs_of ms rs qs) (i, j) → i < length rs
pair_low [] [] [] i j a c = absurd (omega (arith, c.1))
pair_low [] [] (q ∷ qs) i j a c = absurd a
pair_low [] (r ∷ rs) qs i j a c = absurd a
pair_low (First ∷ ms) [] qs i j a c = absurd a
pair_low (First ∷ ms) (r ∷ rs) qs i j a c =
    let low = pair_low ms rs qs i j a.1 c in omega (arith, low)
pair_low (Second ∷ ms) rs [] i j a c = absurd a
pair_low (Second ∷ ms) rs (q ∷ qs) i j a c = pair_low ms rs qs i j a.1 c
pair_low (Both ∷ ms) [] qs i j a c = absurd a
pair_low (Both ∷ ms) (r ∷ rs) [] i j a c = absurd a
pair_low (Both ∷ ms) (r ∷ rs) (q ∷ qs) i j a c =
    at_one (λ g. pair_low ms rs qs i j a.2 g) (contains_one_of (length rs, length qs)
    (pairs_of ms rs qs) (i, j) c)
  where
    at_one : (Contains (pairs_of ms rs qs) (i, j) → i < length rs)
        → IsSamePair (length rs, length qs) (i, j) ⊎ Contains (pairs_of ms rs qs) (i, j)
        → i < suc (length rs)
    at_one rest (inl e) = let is : length rs ≡ i = ap (λ (x : ℕ × ℕ). x.0) e in omega (arith, is)
    at_one rest (inr g) = let low = rest g in omega (arith, low)

module _ (space : Space) where
  valued_below : (rs : List ResolvedItem) (i : ℕ) (cs : List Column) → AreItemColumns space rs i cs
      → i < length rs
  valued_below [] i cs h = absurd h
  valued_below (r ∷ rs) i cs (inl h) = omega (arith, h.0)
  valued_below (r ∷ rs) i cs (inr h) = let lt = valued_below rs i cs h in omega (arith, lt)

  valued_lower : (r : ResolvedItem) (rs : List ResolvedItem) (i : ℕ) (cs : List Column)
      → i < length rs → AreItemColumns space (r ∷ rs) i cs → AreItemColumns space rs i cs
  valued_lower r rs i cs lt (inl h) = absurd (omega (arith, h.0, lt))
  valued_lower r rs i cs lt (inr h) = h

  valued_aligned : (ms : List Move) (rs qs : List ResolvedItem) → AreAligned ms rs qs
      → Each (λ q. IsRisingRole q.role) qs → (i j : ℕ) (cs : List Column)
      → Contains (pairs_of ms rs qs) (i, j) → AreItemColumns space rs i cs → AreItemColumns space qs j cs
  valued_aligned [] [] [] a rising i j cs c h = absurd h
  valued_aligned [] [] (q ∷ qs) a rising i j cs c h = absurd a
  valued_aligned [] (r ∷ rs) qs a rising i j cs c h = absurd a
  valued_aligned (First ∷ ms) [] qs a rising i j cs c h = absurd a
  valued_aligned (First ∷ ms) (r ∷ rs) qs a rising i j cs c h =
      valued_aligned ms rs qs a.1 rising i j cs c
      (valued_lower r rs i cs (pair_low ms rs qs i j a.1 c) h)
  valued_aligned (Second ∷ ms) rs [] a rising i j cs c h = absurd a
  valued_aligned (Second ∷ ms) rs (q ∷ qs) a rising i j cs c h =
      inr (valued_aligned ms rs qs a.1 rising.1 i j cs c h)
  valued_aligned (Both ∷ ms) [] qs a rising i j cs c h = absurd a
  valued_aligned (Both ∷ ms) (r ∷ rs) [] a rising i j cs c h = absurd a
  valued_aligned (Both ∷ ms) (r ∷ rs) (q ∷ qs) a rising i j cs c h =
      at_one (λ k l ds d g. valued_aligned ms rs qs a.2 rising.1 k l ds d g)
      (contains_one_of (length rs, length qs) (pairs_of ms rs qs) (i, j) c) h
    where
      at_one : ((k l : ℕ) (ds : List Column) → Contains (pairs_of ms rs qs) (k, l)
          → AreItemColumns space rs k ds → AreItemColumns space qs l ds)
          → IsSamePair (length rs, length qs) (i, j) ⊎ Contains (pairs_of ms rs qs) (i, j)
          → AreItemColumns space (r ∷ rs) i cs → AreItemColumns space (q ∷ qs) j cs
      at_one rest (inl e) (inl g) =
          let is : length qs ≡ j = ap (λ (x : ℕ × ℕ). x.1) e in
          inl (
            sym is,
            columns_moved space (λ k ds. AreItemColumns space rs k ds)
                (λ k ds. AreItemColumns space qs k ds) (IsPaired (pairs_of ms rs qs))
                (λ k l p. (p.1, λ ds. rest k.item l.item ds p.0)) r q a.0 a.1 rising.0 cs g.1,
          )
      at_one rest (inl e) (inr g) =
          let is : length rs ≡ i = ap (λ (x : ℕ × ℕ). x.0) e in
          let lt = valued_below rs i cs g in
          absurd (omega (arith, is, lt))
      at_one rest (inr d) g =
          inr (rest i j cs d (valued_lower r rs i cs (pair_low ms rs qs i j a.2 d) g))

  pub said_aligned : (ms : List Move) (rs qs : List ResolvedItem) → AreAligned ms rs qs
      → Each (λ q. IsRisingRole q.role) qs → (cs : List (List Bool)) (fs : List Flag)
      → AreSaid space rs cs fs → AreSaid space qs cs fs
  said_aligned [] [] [] a rising cs fs h = h
  said_aligned [] [] (q ∷ qs) a rising cs fs h = absurd a
  said_aligned [] (r ∷ rs) qs a rising cs fs h = absurd a
  said_aligned (First ∷ ms) [] qs a rising cs fs h = absurd a
  said_aligned (First ∷ ms) (r ∷ rs) qs a rising cs fs h =
      said_aligned ms rs qs a.1 rising cs fs (unsaid r.role
      (HasAnswers space (λ j ds. AreItemColumns space rs j ds) r) (λ xs ys. AreSaid space rs xs ys) cs
      fs a.0 h)
  said_aligned (Second ∷ ms) rs [] a rising cs fs h = absurd a
  said_aligned (Second ∷ ms) rs (q ∷ qs) a rising cs fs h =
      says_nothing q.role (HasAnswers space (λ j ds. AreItemColumns space qs j ds) q)
      (λ xs ys. AreSaid space qs xs ys) cs fs a.0 (said_aligned ms rs qs a.1 rising.1 cs fs h)
  said_aligned (Both ∷ ms) [] qs a rising cs fs h = absurd a
  said_aligned (Both ∷ ms) (r ∷ rs) [] a rising cs fs h = absurd a
  said_aligned (Both ∷ ms) (r ∷ rs) (q ∷ qs) a rising cs fs h =
      said_by (HasAnswers space (λ j ds. AreItemColumns space rs j ds) r)
      (HasAnswers space (λ j ds. AreItemColumns space qs j ds) q)
      (answers_moved space (λ k ds. AreItemColumns space rs k ds) (λ k ds. AreItemColumns space qs k ds)
      (IsPaired (pairs_of ms rs qs))
      (λ k l p. (p.1, λ ds. valued_aligned ms rs qs a.2 rising.1 k.item l.item ds p.0)) r q
      a.0 a.1)
      (λ xs ys. AreSaid space rs xs ys) (λ xs ys. AreSaid space qs xs ys)
      (λ xs ys. said_aligned ms rs qs a.2 rising.1 xs ys) r.role q.role a.0 cs fs h

  -- ---- items of one content

  same_first : (r q : ResolvedItem) (rs qs : List ResolvedItem)
      → item_content r ∷ map item_content rs ≡ item_content q ∷ map item_content qs
      → item_content r ≡ item_content q
  same_first r q rs qs e = ap (λ (l : List ItemContent). get_or l 0 (item_content r)) e

  same_length : (rs qs : List ResolvedItem) → map item_content rs ≡ map item_content qs
      → length rs ≡ length qs
  same_length [] [] e = refl
  same_length [] (q ∷ qs) e = absurd (let n : [] ≡ item_content q ∷ map item_content qs = e in cc)
  same_length (r ∷ rs) [] e = absurd (let n : item_content r ∷ map item_content rs ≡ [] = e in cc)
  same_length (r ∷ rs) (q ∷ qs) e = ap (λ (n : ℕ). suc n) (same_length rs qs (ap later e))

  same_zip : (is : List Input) → AllZip (λ i j. i ≡ j) is is
  same_zip [] = tt
  same_zip (i ∷ is) = (refl, same_zip is)

  inputs_zip : (r q : ResolvedItem) → item_content r ≡ item_content q
      → AllZip (λ i j. i ≡ j) r.inputs.items q.inputs.items
  inputs_zip r q e =
      subst (λ (is : List Input). AllZip (λ i j. i ≡ j) r.inputs.items is)
      (ap (λ (x : ItemContent). x.inputs) e) (same_zip r.inputs.items)

  same_moved : (V W : ℕ → List Column → Type 0) → ((k : ℕ) (cs : List Column) → V k cs → W k cs)
      → (i j : Input) → i ≡ j
      → (i.position ≡ j.position) × ((cs : List Column) → V i.item cs → W j.item cs)
  same_moved V W h i j e = (
    ap (λ (x : Input). x.position) e,
    λ cs v. subst (λ (x : Input). W x.item cs) e (h i.item cs v),
  )

  valued_same : (rs qs : List ResolvedItem) → map item_content rs ≡ map item_content qs
      → Each (λ q. IsRisingRole q.role) qs → (i : ℕ) (cs : List Column) → AreItemColumns space rs i cs
      → AreItemColumns space qs i cs
  valued_same [] qs e rising i cs h = absurd h
  valued_same (r ∷ rs) [] e rising i cs h =
      absurd (let n : item_content r ∷ map item_content rs ≡ [] = e in cc)
  valued_same (r ∷ rs) (q ∷ qs) e rising i cs (inl h) =
      let first = same_first r q rs qs e in
      inl (
        h.0 ∙ same_length rs qs (ap later e),
        columns_moved space (λ k ds. AreItemColumns space rs k ds) (λ k ds. AreItemColumns space qs k ds)
            (λ i j. i ≡ j)
            (same_moved (λ k ds. AreItemColumns space rs k ds) (λ k ds. AreItemColumns space qs k ds)
            (λ k ds. valued_same rs qs (ap later e) rising.1 k ds)) r q
            (ap (λ (x : ItemContent). x.role) first)
            (inputs_zip r q first) rising.0 cs h.1,
      )
  valued_same (r ∷ rs) (q ∷ qs) e rising i cs (inr h) =
      inr (valued_same rs qs (ap later e) rising.1 i cs h)

  pub said_same : (rs qs : List ResolvedItem) → map item_content rs ≡ map item_content qs
      → Each (λ q. IsRisingRole q.role) qs → (cs : List (List Bool)) (fs : List Flag)
      → AreSaid space rs cs fs → AreSaid space qs cs fs
  said_same [] [] e rising cs fs h = h
  said_same [] (q ∷ qs) e rising cs fs h =
      absurd (let n : [] ≡ item_content q ∷ map item_content qs = e in cc)
  said_same (r ∷ rs) [] e rising cs fs h =
      absurd (let n : item_content r ∷ map item_content rs ≡ [] = e in cc)
  said_same (r ∷ rs) (q ∷ qs) e rising cs fs h =
      let first = same_first r q rs qs e in
      let role = ap (λ (x : ItemContent). x.role) first in
      said_by (HasAnswers space (λ j ds. AreItemColumns space rs j ds) r)
      (HasAnswers space (λ j ds. AreItemColumns space qs j ds) q)
      (answers_moved space (λ k ds. AreItemColumns space rs k ds) (λ k ds. AreItemColumns space qs k ds)
      (λ i j. i ≡ j)
      (same_moved (λ k ds. AreItemColumns space rs k ds) (λ k ds. AreItemColumns space qs k ds)
      (λ k ds. valued_same rs qs (ap later e) rising.1 k ds)) r q role
      (inputs_zip r q first))
      (λ xs ys. AreSaid space rs xs ys) (λ xs ys. AreSaid space qs xs ys)
      (λ xs ys. said_same rs qs (ap later e) rising.1 xs ys) r.role q.role role cs fs h
