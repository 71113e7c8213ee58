-- A test has one outcome under a model.
use Rattle.std.proofs.Common.{ℕ, ◌≡◌, ◌<◌, inl, inr, suc, List, [], ◌∷◌, ◌++◌, length, map, reverse, Bool, Option, Some, None, Bor, get_or, refl, sym, ap, ◌∙◌, subst, arith}
use Rattle.std.specs.Prelude.{slice_get, unwrap_or}
use Rattle.std.specs.List.{AllByRecursion}
use Rattle.std.proofs.lemmas.List.{reverse-append, map-append}
use Rattle.text_values.specs.declared.test.Test.{Test}
use Rattle.text_values.specs.TestValue.{formula_of}
use Rattle.litmus_printing.specs.Printing.{condition_text}
use Rattle.text_values.specs.declared.model.ModelText.{ModelText}
use Rattle.binding_kinds.specs.declared.scope.Input.{Input}
use Rattle.binding_graph.specs.declared.resolved.ResolvedItem.{ResolvedItem}
use Rattle.binding_graph.specs.declared.resolved.Role.{Role}
use Rattle.binding_graph.specs.declared.resolved.Role.TheVariants as roles
use Rattle.candidate_spaces.specs.declared.candidate.Space.{Space}
use Rattle.candidate_spaces.specs.Space.{shown_in, Shown}
use Rattle.cat_machine.specs.declared.column.Column.{Column}
use Rattle.candidates.proofs.OneOutcome as executions
use Rattle.candidates.proofs.Outcomes.{shown_alike}
use Rattle.outcome_states.specs.declared.answer.Evaluation.{Evaluation}
use Rattle.outcome_states.specs.declared.answer.Outcome.{Outcome}
use Rattle.outcome_states.specs.declared.answer.OutcomeResult.{OutcomeResult}
use Rattle.outcome_states.specs.declared.answer.OutcomeResult.TheVariants.{Refused, Evaluated}
use Rattle.outcome_states.specs.declared.answer.Refusal.TheVariants as refusals
use Rattle.verdict.specs.Evaluated.{IsEvaluation}
use Rattle.outcome_states.specs.Kept.{Flag}
use Rattle.verdict.proofs.Uniqueness as verdicts
use Rattle.from_scratch.specs.Answers.{AreNamed, HasColumns, HasAnswers, AreItemColumns, IsSaidAs, IsSaidBy, AreSaid}
use Rattle.from_scratch.specs.FromScratch.{IsFaultless, IsEvaluationOf, IsResultOf}
use Rattle.from_scratch.proofs.Sole.{one_fault, fault_or_none}
use Rattle.order_growth.specs.Items.{ItemContent, RoleContent, Group, Check, Silent, role_content, item_content}
use Rattle.order_growth.specs.KeptLaws.{AreSameItems}
use Rattle.order_growth.proofs.Keeping.{columns_kept, answers_kept, later}
use Rattle.evaluation_laws.specs.Laws.{IsCoded, HasOneOutcomeFromScratch}
use Rattle.evaluation_laws.proofs.Sole.{one_columns, one_answers}
use Rattle.order_growth.proofs.Coding.{coded_items}
use Rattle.evaluation_laws.proofs.Resolving.{one_resolution}
use Rattle.from_scratch.proofs.Ordered.{all_reverse}

-- ---- lists

same_first : (r q : ResolvedItem) (rs qs : List ResolvedItem)
    → item_content r ∷ map item_content rs ≡ item_content q ∷ map item_content qs
    → item_content r ≡ item_content q
same_first r q rs qs e = ap (λ (l : List ItemContent). get_or l 0 (item_content r)) e

same_length : (rs qs : List ResolvedItem) → map item_content rs ≡ map item_content qs
    → length rs ≡ length qs
same_length [] [] e = refl
same_length [] (q ∷ qs) e = absurd (let n : [] ≡ item_content q ∷ map item_content qs = e in cc)
same_length (r ∷ rs) [] e = absurd (let n : item_content r ∷ map item_content rs ≡ [] = e in cc)
same_length (r ∷ rs) (q ∷ qs) e = ap (λ (n : ℕ). suc n) (same_length rs qs (ap later e))

-- ---- columns

-- the columns of the names of other items have the same values
named_one : (Values Others : ℕ → List Column → Type 0)
    → ((j : ℕ) (cs ds : List Column) → Values j cs → Others j ds → cs ≡ ds)
    → (names : List Input) (ins outs : List (Bor Column)) → AreNamed Values names ins
    → AreNamed Others names outs → map (λ c. c.now) ins ≡ map (λ c. c.now) outs
named_one Values Others one [] [] [] h g = refl
named_one Values Others one [] [] (d ∷ ds) h g = absurd g
named_one Values Others one [] (c ∷ cs) ds h g = absurd h
named_one Values Others one (n ∷ ns) [] ds h g = absurd h
named_one Values Others one (n ∷ ns) (c ∷ cs) [] h g = absurd g
named_one Values Others one (n ∷ ns) (c ∷ cs) (d ∷ ds) h g =
    let same = one n.item h.0.0 g.0.0 h.0.1 g.0.1 in
    let found : Some c.now ≡ Some d.now = sym h.0.2 ∙ (ap (λ (l : List Column). slice_get l n.position) same ∙ g.0.2) in
    let first : c.now ≡ d.now = ap (λ (o : Option Column). unwrap_or o c.now) found in
    let rest = named_one Values Others one ns cs ds h.1 g.1 in
    λ i. first i ∷ rest i

module _ (space another : Space) (shown : shown_in space ≡ shown_in another) where
  module _ (Values Others : ℕ → List Column → Type 0)
      (one : (j : ℕ) (cs ds : List Column) → Values j cs → Others j ds → cs ≡ ds)
      (r q : ResolvedItem) (e : item_content r ≡ item_content q) (coded : IsCoded r.role) where
    inputs_one : (ins outs : List (Bor Column)) → AreNamed Values r.inputs.items ins
        → AreNamed Others q.inputs.items outs → AreSameItems q.role r.role another space outs ins
    inputs_one ins outs h g =
        let as_named : AreNamed Others r.inputs.items outs = subst (λ (ns : List Input). AreNamed Others ns outs) (ap (λ (x : ItemContent). x.inputs) (sym e)) g in
        record {
          roles = ap (λ (x : ItemContent). x.role) (sym e);
          candidates = sym shown;
          values = sym (named_one Values Others one r.inputs.items ins outs h as_named);
        }

    columns_one : (cs ds : List Column) → HasColumns space Values r cs
        → HasColumns another Others q ds → cs ≡ ds
    columns_one cs ds h g =
        one_columns r.role space h.0 cs ds coded h.2 (columns_kept q.role r.role another space g.0
        h.0 ds (inputs_one h.0 g.0 h.1 g.1) g.2)

    answers_one : (xs ys : List Bool) → HasAnswers space Values r xs
        → HasAnswers another Others q ys → xs ≡ ys
    answers_one xs ys h g =
        one_answers r.role space h.0 xs ys coded h.2 (answers_kept q.role r.role another space g.0
        h.0 ys (inputs_one h.0 g.0 h.1 g.1) g.2)

  valued_below : (over : Space) (rs : List ResolvedItem) (i : ℕ) (cs : List Column)
      → AreItemColumns over rs i cs → i < length rs
  valued_below over [] i cs h = absurd h
  valued_below over (r ∷ rs) i cs (inl h) = omega (arith, h.0)
  valued_below over (r ∷ rs) i cs (inr h) =
      let lt = valued_below over rs i cs h in omega (arith, lt)

  valued_one : (rs qs : List ResolvedItem) → map item_content rs ≡ map item_content qs
      → AllByRecursion (λ r. IsCoded r.role) rs → (i : ℕ) (cs ds : List Column)
      → AreItemColumns space rs i cs → AreItemColumns another qs i ds → cs ≡ ds
  valued_one [] qs e coded i cs ds h g = absurd h
  valued_one (r ∷ rs) [] e coded i cs ds h g = absurd g
  valued_one (r ∷ rs) (q ∷ qs) e coded i cs ds (inl h) (inl g) =
      columns_one (λ j xs. AreItemColumns space rs j xs) (λ j ys. AreItemColumns another qs j ys)
      (λ j xs ys. valued_one rs qs (ap later e) coded.1 j xs ys) r q (same_first r q rs qs e)
      coded.0 cs ds h.1 g.1
  valued_one (r ∷ rs) (q ∷ qs) e coded i cs ds (inl h) (inr g) =
      let lt : i < length qs = valued_below another qs i ds g in
      let long : length rs ≡ length qs = same_length rs qs (ap later e) in
      absurd (omega (arith, h.0, lt, long))
  valued_one (r ∷ rs) (q ∷ qs) e coded i cs ds (inr h) (inl g) =
      let lt : i < length rs = valued_below space rs i cs h in
      let long : length rs ≡ length qs = same_length rs qs (ap later e) in
      absurd (omega (arith, g.0, lt, long))
  valued_one (r ∷ rs) (q ∷ qs) e coded i cs ds (inr h) (inr g) =
      valued_one rs qs (ap later e) coded.1 i cs ds h g

-- ---- what checks and flags say

abbrev flag_in : RoleContent → Option (List ℕ)
flag_in (Group recursive bodies) = None
flag_in (Check negated word code flag) = flag
flag_in Silent = None

module _ (A B : List Bool → Type 0) (one : (xs ys : List Bool) → A xs → B ys → xs ≡ ys)
    (P Q : List (List Bool) → List Flag → Type 0)
    (before : (cs ds : List (List Bool)) (fs gs : List Flag) → P cs fs → Q ds gs
    → (cs ≡ ds) × (fs ≡ gs)) where
  said_as_one : (o : Option (List ℕ)) (cs ds : List (List Bool)) (fs gs : List Flag)
      → IsSaidAs o A P cs fs → IsSaidAs o B Q ds gs → (cs ≡ ds) × (fs ≡ gs)
  said_as_one None cs ds fs gs h g =
      let p = before h.0 g.0 fs gs h.4 g.4 in
      let last : h.1 ≡ g.1 = one h.1 g.1 h.3 g.3 in
      let all : h.0 ++ h.1 ∷ [] ≡ g.0 ++ g.1 ∷ [] = λ i. p.0 i ++ last i ∷ [] in
      (h.2 ∙ (all ∙ sym g.2), p.1)
  said_as_one (Some name) cs ds fs gs h g =
      let p = before cs ds h.0 g.0 h.4 g.4 in
      let last : h.1 ≡ g.1 = one h.1 g.1 h.3 g.3 in
      let all : h.0 ++ (name, h.1) ∷ [] ≡ g.0 ++ (name, g.1) ∷ [] = λ i. p.1 i ++ (name, last i) ∷ [] in
      (p.0, h.2 ∙ (all ∙ sym g.2))

  said_by_one : (role other : Role) → role_content role ≡ role_content other
      → (cs ds : List (List Bool)) (fs gs : List Flag) → IsSaidBy role A P cs fs
      → IsSaidBy other B Q ds gs → (cs ≡ ds) × (fs ≡ gs)
  said_by_one (roles.Group r bs) (roles.Group q ds') e cs ds fs gs h g = before cs ds fs gs h g
  said_by_one (roles.Group r bs) (roles.Check c) e cs ds fs gs h g =
      absurd (let n : role_content (roles.Group r bs) ≡ role_content (roles.Check c) = e in cc)
  said_by_one (roles.Group r bs) roles.Silent e cs ds fs gs h g = before cs ds fs gs h g
  said_by_one (roles.Check c) (roles.Group q ds') e cs ds fs gs h g =
      absurd (let n : role_content (roles.Check c) ≡ role_content (roles.Group q ds') = e in cc)
  said_by_one (roles.Check c) (roles.Check d) e cs ds fs gs h g =
      said_as_one c.flag cs ds fs gs h (subst (λ (o : Option (List ℕ)). IsSaidAs o B Q ds gs)
      (ap flag_in (sym e)) g)
  said_by_one (roles.Check c) roles.Silent e cs ds fs gs h g =
      absurd (let n : role_content (roles.Check c) ≡ Silent = e in cc)
  said_by_one roles.Silent (roles.Group q ds') e cs ds fs gs h g = before cs ds fs gs h g
  said_by_one roles.Silent (roles.Check d) e cs ds fs gs h g =
      absurd (let n : Silent ≡ role_content (roles.Check d) = e in cc)
  said_by_one roles.Silent roles.Silent e cs ds fs gs h g = before cs ds fs gs h g

said_one : (space another : Space) → shown_in space ≡ shown_in another → (rs qs : List ResolvedItem)
    → map item_content rs ≡ map item_content qs → AllByRecursion (λ r. IsCoded r.role) rs
    → (cs ds : List (List Bool)) (fs gs : List Flag) → AreSaid space rs cs fs
    → AreSaid another qs ds gs → (cs ≡ ds) × (fs ≡ gs)
said_one space another shown [] [] e coded cs ds fs gs h g = (h.0 ∙ sym g.0, h.1 ∙ sym g.1)
said_one space another shown [] (q ∷ qs) e coded cs ds fs gs h g =
    absurd (let n : [] ≡ item_content q ∷ map item_content qs = e in cc)
said_one space another shown (r ∷ rs) [] e coded cs ds fs gs h g =
    absurd (let n : item_content r ∷ map item_content rs ≡ [] = e in cc)
said_one space another shown (r ∷ rs) (q ∷ qs) e coded cs ds fs gs h g =
    let first = same_first r q rs qs e in
    said_by_one (HasAnswers space (λ j xs. AreItemColumns space rs j xs) r)
    (HasAnswers another (λ j ys. AreItemColumns another qs j ys) q)
    (answers_one space another shown (λ j xs. AreItemColumns space rs j xs)
    (λ j ys. AreItemColumns another qs j ys)
    (valued_one space another shown rs qs (ap later e) coded.1) r q first coded.0)
    (λ xs ys. AreSaid space rs xs ys) (λ xs ys. AreSaid another qs xs ys)
    (said_one space another shown rs qs (ap later e) coded.1)
    r.role q.role (ap (λ (x : ItemContent). x.role) first) cs ds fs gs h g

-- ---- the outcome

map_reverse : {X Y : Type 0} (f : X → Y) (xs : List X) → map f (reverse xs) ≡ reverse (map f xs)
map_reverse f [] = refl
map_reverse f (x ∷ xs) =
    ap (λ (l : List _). map f l) (reverse-append (x ∷ []) xs)
    ∙ (map-append f (reverse xs) (x ∷ [])
    ∙ (ap (λ (l : List _). l ++ f x ∷ []) (map_reverse f xs)
    ∙ sym (reverse-append (f x ∷ []) (map f xs))))

evaluation_moved : (test : Test) (space another : Space) (checks others : List (List Bool))
    (flags marks : List Flag) (e : Evaluation) → another.locations.items ≡ space.locations.items
    → shown_in another ≡ shown_in space → others ≡ checks → marks ≡ flags
    → IsEvaluation another.locations.items (shown_in another) test.condition.quantifier
    (formula_of test.condition.proposition) test.observed.items others marks e
    → IsEvaluation space.locations.items (shown_in space) test.condition.quantifier
    (formula_of test.condition.proposition) test.observed.items checks flags e
evaluation_moved test space another checks others flags marks e locations shown c f h =
    let Moved : List (List ℕ) → List Shown → List (List Bool) → List Flag → Type 0 = λ ls xs cs fs. IsEvaluation ls xs test.condition.quantifier (formula_of test.condition.proposition) test.observed.items cs fs e in
    let one : Moved space.locations.items (shown_in another) others marks = subst (λ (ls : List (List ℕ)). Moved ls (shown_in another) others marks) locations h in
    let two : Moved space.locations.items (shown_in space) others marks = subst (λ (xs : List Shown). Moved space.locations.items xs others marks) shown one in
    let three : Moved space.locations.items (shown_in space) checks marks = subst (λ (cs : List (List Bool)). Moved space.locations.items (shown_in space) cs marks) c two in
    subst (λ (fs : List Flag). Moved space.locations.items (shown_in space) checks fs) f three

evaluation_one : (test : Test) (model : ModelText) (d e : Evaluation) → IsFaultless model
    → IsEvaluationOf test model d → IsEvaluationOf test model e → Evaluated d ≡ Evaluated e
evaluation_one test model d e none h g =
    let items : map item_content h.0 ≡ map item_content g.0 = one_resolution model h.0 g.0 h.1 g.1 in
    let turned : map item_content (reverse h.0) ≡ map item_content (reverse g.0) = map_reverse item_content h.0 ∙ (ap (λ (l : List ItemContent). reverse l) items ∙ sym (map_reverse item_content g.0)) in
    let coded = all_reverse (λ r. IsCoded r.role) h.0 (coded_items model h.0 none h.1) in
    let same = shown_alike test h.2 g.2 h.3 g.3 in
    let said = said_one h.2 g.2 same.1 (reverse h.0) (reverse g.0) turned coded h.4.0 g.4.0 h.4.1 g.4.1 h.4.2 g.4.2 in
    let kind = test.condition.quantifier in
    let proposition = formula_of test.condition.proposition in
    let first : Outcome = record { kind = kind; condition = condition_text kind proposition; result = Evaluated d } in
    let second : Outcome = record { kind = kind; condition = condition_text kind proposition; result = Evaluated e } in
    let one : first ≡ second = verdicts.one_outcome h.2.locations.items (shown_in h.2) kind proposition test.observed.items h.4.0 h.4.1 first second
    (record { kind_is = refl; text = refl; result = h.4.3 })
    (record {
      kind_is = refl;
      text = refl;
      result =
          evaluation_moved test h.2 g.2 h.4.0 g.4.0 h.4.1 g.4.1 e (sym same.0)
          (sym same.1) (sym said.0) (sym said.1) g.4.3;
    }) in
    ap (λ (o : Outcome). o.result) one

result_one : (test : Test) (model : ModelText) (q r : OutcomeResult) → IsResultOf test model q
    → IsResultOf test model r → q ≡ r
result_one test model (Refused (refusals.Model k)) (Refused (refusals.Model l)) h g =
    λ i. Refused (refusals.Model (one_fault _ _ _ _ k l h g i))
result_one test model (Refused (refusals.Model k)) (Refused (refusals.Space s)) h g =
    absurd (fault_or_none _ _ _ _ k h g.0)
result_one test model (Refused (refusals.Model k)) (Evaluated e) h g =
    absurd (fault_or_none _ _ _ _ k h g.0)
result_one test model (Refused (refusals.Space r)) (Refused (refusals.Model l)) h g =
    absurd (fault_or_none _ _ _ _ l g h.0)
result_one test model (Refused (refusals.Space r)) (Refused (refusals.Space s)) h g =
    λ i. Refused (refusals.Space ((executions.one_outcome test).one_refusal r s h.1 g.1 i))
result_one test model (Refused (refusals.Space r)) (Evaluated e) h g =
    absurd ((executions.one_outcome test).listed_or_refused g.1.2 r g.1.3 h.1)
result_one test model (Evaluated d) (Refused (refusals.Model l)) h g =
    absurd (fault_or_none _ _ _ _ l g h.0)
result_one test model (Evaluated d) (Refused (refusals.Space s)) h g =
    absurd ((executions.one_outcome test).listed_or_refused h.1.2 s h.1.3 g.1)
result_one test model (Evaluated d) (Evaluated e) h g = evaluation_one test model d e h.0 h.1 g.1

pub one_outcome : (test : Test) (model : ModelText) → HasOneOutcomeFromScratch test model
one_outcome test model o p h g =
    let kind : o.kind ≡ p.kind = h.kind ∙ sym g.kind in
    let condition : o.condition ≡ p.condition = h.condition ∙ sym g.condition in
    let result : o.result ≡ p.result = result_one test model o.result p.result h.result g.result in
    λ i. record { kind = kind i; condition = condition i; result = result i }
