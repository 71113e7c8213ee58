-- The names of a group have values in each candidate.
use Rattle.std.proofs.Common.{ℕ, ◌≡◌, ◌<◌, ◌≤◌, ◌∙◌, zero, suc, List, [], ◌∷◌, length, get_or, Bool, true, false, Bor, refl, sym, ap, subst, arith}
use Rattle.std.specs.List.{AllByRecursion}
use mathlib.Core.List.{head-eq_of_cons-eq}
use Rattle.bit_rows.specs.Relation.{Relation, Events, IsRelation, IsEvents, no_slot}
use Rattle.binding_kinds.specs.declared.kinds.Kind.{Kind}
use Rattle.binding_kinds.specs.declared.kinds.Kind.TheVariants as kinds
use Rattle.binding_graph.specs.declared.resolved.Body.{Body}
use Rattle.binding_graph.specs.declared.resolved.Source.{Source}
use Rattle.binding_graph.specs.declared.resolved.Step.{Step}
use Rattle.binding_graph.specs.Trees.{SetTree, RelTree, set_code, rel_code}
use Rattle.candidate_spaces.specs.Space.{Candidate}
use Rattle.cat_machine.specs.declared.column.Column.{Column}
use Rattle.cat_machine.specs.Executions.{events_of, EventsAt, PairsAt}
use Rattle.cat_machine.specs.Least.{IsLeast, AreMonotone}
use Rattle.cat_machine.specs.Meaning.{MeansSet, MeansRelation}
use Rattle.cat_machine.specs.Named.{OwnPairs, WithOwn}
use Rattle.cat_machine.specs.Rising.{AreCodes}
use Rattle.cat_machine.specs.Running.{BuildsTrees, sets_after, rels_after}
use Rattle.cat_machine.specs.Values.{IsMeaning}
use Rattle.cat_machine.proofs.Codes.{code_leads, set_code_leads}
use Rattle.order_growth.specs.Within.{HasExpression, AreBodyExpressions}
use Rattle.whole_outcomes.specs.Values.{no_set, AreGroupValues, AreInputsBelow}
use Rattle.whole_outcomes.specs.ValueLaws.{ValuesExist}
use Rattle.whole_outcomes.proofs.Trees.{IsToldSet, IsTold, told_set, told_relation, some_set, some_relation}
use Rattle.whole_outcomes.proofs.Named.{own_told, sets_told, pairs_told}
use Rattle.whole_outcomes.proofs.Least.{least_found}

-- ---- steps are those of one expression

one_end : (xs : List Step) (ss s_end s_last : List SetTree) (rs r_end r_last : List RelTree)
    → BuildsTrees xs ss rs s_end r_end → BuildsTrees xs ss rs s_last r_last
    → (s_end ≡ s_last) × (r_end ≡ r_last)
one_end [] ss s_end s_last rs r_end r_last h g = (sym h.0 ∙ g.0, sym h.1 ∙ g.1)
one_end (x ∷ xs) ss s_end s_last rs r_end r_last h g =
    one_end xs (sets_after x ss) s_end s_last (rels_after x ss rs) r_end r_last h.1 g.1

pub one_set : (t u : SetTree) → set_code t [] ≡ set_code u [] → t ≡ u
one_set t u e =
    head-eq_of_cons-eq (one_end (set_code t []) [] (t ∷ []) (u ∷ []) [] [] [] (set_code_leads t)
    (subst (λ (xs : List Step). BuildsTrees xs [] [] (u ∷ []) []) (sym e) (set_code_leads u))).0

pub one_relation : (t u : RelTree) → rel_code t [] ≡ rel_code u [] → t ≡ u
one_relation t u e =
    head-eq_of_cons-eq (one_end (rel_code t []) [] [] [] [] (t ∷ []) (u ∷ []) (code_leads t)
    (subst (λ (xs : List Step). BuildsTrees xs [] [] [] (u ∷ [])) (sym e) (code_leads u))).1

same_codes : (ts us : List RelTree) (bodies : List Body) → AreCodes ts bodies → AreCodes us bodies
    → ts ≡ us
same_codes [] [] [] h g = refl
same_codes [] (u ∷ us) [] h g = absurd g
same_codes [] us (b ∷ bs) h g = absurd h
same_codes (t ∷ ts) us [] h g = absurd h
same_codes (t ∷ ts) [] (b ∷ bs) h g = absurd g
same_codes (t ∷ ts) (u ∷ us) (b ∷ bs) h g =
    ap (λ (x : RelTree). x ∷ ts) (one_relation t u (sym h.0 ∙ g.0))
    ∙ ap (λ (xs : List RelTree). u ∷ xs) (same_codes ts us bs h.1 g.1)

module _ (n : ℕ) (few : n ≤ 128) (sets : Source → ℕ → Type 0) (outer : Source → ℕ → ℕ → Type 0)
    (told_sets : (source : Source) → IsToldSet n (sets source))
    (told_rels : (own : ℕ → ℕ → ℕ → Type 0) → ((x : ℕ) → IsTold n (own x)) → (source : Source)
    → IsTold n (WithOwn outer own source)) where
  -- ---- a body that is evaluated

  pub outer_told : (source : Source) → IsTold n (WithOwn outer (OwnPairs n []) source)
  outer_told = told_rels (OwnPairs n []) (own_told n [] (λ x lt. absurd (omega (arith, lt))))

  a_relation : (steps : List Step) (e : RelTree) → steps ≡ rel_code e []
      → (r : Relation) × ((t : RelTree) → steps ≡ rel_code t []
      → IsRelation r n (MeansRelation n sets (WithOwn outer (OwnPairs n [])) t))
  a_relation steps e code =
      let (r, is) = some_relation n few (MeansRelation n sets (WithOwn outer (OwnPairs n [])) e)
      (told_relation n sets (WithOwn outer (OwnPairs n [])) told_sets outer_told e) in (
        r,
        λ t other. subst
            (λ (x : RelTree). IsRelation r n (MeansRelation n sets (WithOwn outer (OwnPairs n [])) x))
            (one_relation e t (sym code ∙ other)) is,
      )

  one_body : (kind : Kind) (steps : List Step) → HasExpression kind steps
      → (s : Events) × (r : Relation) × IsMeaning kind steps n sets outer s r
  one_body kinds.OfSet steps tree =
      let (s, is) = some_set n (MeansSet n sets tree.0)
      (told_set n sets (WithOwn outer (OwnPairs n [])) told_sets outer_told tree.0) in (
        s,
        no_slot,
        λ t other. subst (λ (x : SetTree). IsEvents s n (MeansSet n sets x))
            (one_set tree.0 t (sym tree.1 ∙ other)) is,
      )
  one_body kinds.OfRelation steps tree =
      let (r, is) = a_relation steps tree.0 tree.1 in (no_set, r, is)
  one_body kinds.OfAny steps tree = let (r, is) = a_relation steps tree.0 tree.1 in (no_set, r, is)

  abbrev Means : List Body → List Events → List Relation → ℕ → Type 0
  Means bodies ss rs j =
      (b : Body) → IsMeaning (get_or bodies j b).code.kind (get_or bodies j b).code.steps.items n
      sets outer (get_or ss j no_set) (get_or rs j no_slot)

  means_more : (d : Body) (ds : List Body) (s : Events) (ss : List Events) (r : Relation)
      (rs : List Relation) → IsMeaning d.code.kind d.code.steps.items n sets outer s r
      → ((j : ℕ) → j < length ds → Means ds ss rs j) → (j : ℕ) → j < length (d ∷ ds)
      → Means (d ∷ ds) (s ∷ ss) (r ∷ rs) j
  means_more d ds s ss r rs first rest zero lt b = first
  means_more d ds s ss r rs first rest (suc j) lt b = rest j (omega (arith, lt)) b

  all_bodies : (bodies : List Body)
      → AllByRecursion (λ b. HasExpression b.code.kind b.code.steps.items) bodies
      → (ss : List Events) × (rs : List Relation)
      × ((j : ℕ) → j < length bodies → Means bodies ss rs j)
  all_bodies [] h = ([], [], λ j lt. absurd (omega (arith, lt)))
  all_bodies (d ∷ ds) h =
      let (s, r, first) = one_body d.code.kind d.code.steps.items h.0 in
      let (ss, rs, rest) = all_bodies ds h.1 in
      (s ∷ ss, r ∷ rs, means_more d ds s ss r rs first rest)

  -- ---- a recursive group

  group : (bodies : List Body)
      → ((trees : List RelTree) × AreCodes trees bodies × AreMonotone trees)
      → (rs : List Relation) × ((trees : List RelTree) → AreCodes trees bodies → AreMonotone trees
      → IsLeast n sets outer trees rs)
  group bodies (trees, codes, rises) =
      let (rs, least) = least_found n few sets outer told_sets told_rels trees rises in (
        rs,
        λ others are up. subst (λ (ts : List RelTree). IsLeast n sets outer ts rs)
            (same_codes trees others bodies codes are) least,
      )

pub values_found : (recursive : Bool) (bodies : List Body) → ValuesExist recursive bodies
values_found false bodies one inputs k expressions below =
    all_bodies (events_of one) one.0.few (EventsAt (events_of one) one inputs k)
    (PairsAt (events_of one) one inputs k) (sets_told one (events_of one) inputs k below)
    (pairs_told one (events_of one) inputs k below) bodies expressions
values_found true bodies one inputs k expressions below =
    let (rs, least) = group (events_of one) one.0.few (EventsAt (events_of one) one inputs k)
    (PairsAt (events_of one) one inputs k) (sets_told one (events_of one) inputs k below)
    (pairs_told one (events_of one) inputs k below) bodies expressions.0 in
    ([], rs, least)
