-- Columns and answers are kept where an item says the same, over candidates that show the same.
use Rattle.std.proofs.Common.{ℕ, ◌≡◌, ◌<◌, ◌↔◌, zero, suc, List, [], ◌∷◌, length, map, Bool, true, false, IsTrue, Option, Some, None, Bor, get_or, refl, sym, ap, ◌∙◌, subst, arith}
use Rattle.std.specs.Prelude.{slice_get, slice_index_or, unwrap_or}
use Rattle.std.proofs.Math.ListN.{get_or-map}
use Rattle.std.proofs.lemmas.List.{length-map}
use Rattle.text_values.specs.declared.model.CheckWord.{CheckWord}
use Rattle.binding_kinds.specs.declared.kinds.Kind.{Kind}
use Rattle.binding_kinds.specs.declared.kinds.Kind.TheVariants as kinds
use Rattle.binding_graph.specs.declared.resolved.Body.{Body}
use Rattle.binding_graph.specs.declared.resolved.CheckCode.{CheckCode}
use Rattle.binding_graph.specs.declared.resolved.Role.{Role}
use Rattle.binding_graph.specs.declared.resolved.Role.TheVariants as roles
use Rattle.binding_graph.specs.declared.resolved.Source.{Source}
use Rattle.binding_graph.specs.Trees.{RelTree}
use Rattle.candidate_spaces.specs.declared.candidate.Space.{Space}
use Rattle.candidate_spaces.specs.Space.{candidates_in, shown_in, shown_of, Candidate, Shown}
use Rattle.cat_machine.specs.declared.column.Column.{Column}
use Rattle.cat_machine.specs.Columns.{HaveValues, AreGroupColumns}
use Rattle.cat_machine.specs.Executions.{events_of, EventsAt, PairsAt}
use Rattle.cat_machine.specs.Rising.{AreCodes}
use Rattle.cat_machine.specs.Values.{IsCheckAnswer, AreAnswers, IsFor, IsMeaning, Unless}
use Rattle.cat_machine.specs.Checks.{Holds, IsEmptySet}
use Rattle.cat_machine.specs.Meaning.{MeansSet, MeansRelation}
use Rattle.cat_machine.specs.Named.{WithOwn, OwnPairs}
use Rattle.order_growth.specs.Items.{CodeContent, BodyContent, RoleContent, Group, Check, Silent, code_content, body_content, role_content}
use Rattle.order_growth.specs.KeptLaws.{AreSameItems, KeepsColumns, KeepsAnswers}
use Rattle.order_growth.proofs.KeptNames.{HaveSameNames, count_kept, events_kept, pairs_kept}

-- ---- lists

abbrev pub later : {X : Type 0} → List X → List X
later [] = []
later (x ∷ xs) = xs

-- of two lists with equal images, an element of the second and the one of the first at its index
at_index : {X Y Z : Type 0} (f : X → Z) (g : Y → Z) (xs : List X) (ys : List Y)
    → map f xs ≡ map g ys → (k : ℕ) (y : Y) → slice_get ys k ≡ Some y
    → (x : X) × (slice_get xs k ≡ Some x) × (f x ≡ g y)
at_index f g xs [] e k y is = absurd (let n : None ≡ Some y = is in cc)
at_index f g [] (y ∷ ys) e k z is = absurd (let n : [] ≡ g y ∷ map g ys = e in cc)
at_index f g (x ∷ xs) (y ∷ ys) e zero z is =
    let same : y ≡ z = ap (λ (o : Option _). unwrap_or o y) is in
    (x, refl, ap (λ (l : List _). get_or l 0 (f x)) e ∙ ap g same)
at_index f g (x ∷ xs) (y ∷ ys) e (suc k) z is = at_index f g xs ys (ap later e) k z is

same_length : {X Y Z : Type 0} (f : X → Z) (g : Y → Z) (xs : List X) (ys : List Y)
    → map f xs ≡ map g ys → length xs ≡ length ys
same_length f g xs ys e =
    sym (length-map xs f) ∙ (ap (λ (l : List _). length l) e ∙ length-map ys g)

-- ---- the bodies of a group

module _ (bs ds : List Body) (e : map body_content bs ≡ map body_content ds) where
  body_at : (j : ℕ) (b : Body)
      → body_content (slice_index_or bs j b) ≡ body_content (slice_index_or ds j b)
  body_at j b =
      sym (get_or-map body_content bs j b)
      ∙ (ap (λ (l : List BodyContent). get_or l j (body_content b)) e
      ∙ get_or-map body_content ds j b)

  below : (j : ℕ) → j < length ds → j < length bs
  below j lt = omega (arith, lt, same_length body_content body_content bs ds e)

codes_kept : (trees : List RelTree) (bs ds : List Body) → map body_content bs ≡ map body_content ds
    → AreCodes trees bs → AreCodes trees ds
codes_kept [] [] [] e h = tt
codes_kept [] [] (d ∷ ds) e h = absurd (let n : [] ≡ body_content d ∷ map body_content ds = e in cc)
codes_kept [] (b ∷ bs) ds e h = absurd h
codes_kept (t ∷ ts) [] ds e h = absurd h
codes_kept (t ∷ ts) (b ∷ bs) [] e h =
    absurd (let n : body_content b ∷ map body_content bs ≡ [] = e in cc)
codes_kept (t ∷ ts) (b ∷ bs) (d ∷ ds) e h = (
  ap (λ (l : List BodyContent). (get_or l 0 (body_content d)).code.steps) (sym e) ∙ h.0,
  codes_kept ts bs ds (ap later e) h.1,
)

values_kept : (recursive : Bool) (bs ds : List Body) → map body_content bs ≡ map body_content ds
    → (n : ℕ) (sets : Source → ℕ → Type 0) (outer : Source → ℕ → ℕ → Type 0) (k : ℕ)
    (cs : List Column) → HaveValues recursive bs n sets outer k cs
    → HaveValues recursive ds n sets outer k cs
values_kept false bs ds e n sets outer k cs h = λ j lt c b.
    let x = h j (below bs ds e j lt) c b in (
      x.0,
      x.1,
      x.2,
      subst (λ (p : BodyContent). IsMeaning p.code.kind p.code.steps n sets outer x.0 x.1)
          (body_at bs ds e j b) x.3,
    )
values_kept true bs ds e n sets outer k cs h = λ trees codes rises.
    let x = h trees (codes_kept trees ds bs (sym e) codes) rises in
    (x.0, x.1, λ j lt c. x.2 j (below bs ds e j lt) c)

-- ---- what holds in a candidate

in_candidate : (P : ℕ → (Source → ℕ → Type 0) → (Source → ℕ → ℕ → Type 0) → Type 0)
    (one two : Candidate) → HaveSameNames one two → (inputs others : List (Bor Column))
    → map (λ c. c.now) inputs ≡ map (λ c. c.now) others → (k : ℕ)
    → P (events_of one) (EventsAt (events_of one) one inputs k)
    (PairsAt (events_of one) one inputs k)
    → P (events_of two) (EventsAt (events_of two) two others k)
    (PairsAt (events_of two) two others k)
in_candidate P one two e inputs others f k h =
    let n = events_of two in
    let counted : P n (EventsAt n one inputs k) (PairsAt n one inputs k) = subst (λ (m : ℕ). P m (EventsAt m one inputs k) (PairsAt m one inputs k)) (count_kept one two e inputs others f k) h in
    let named : P n (EventsAt n two others k) (PairsAt n one inputs k) = subst (λ (S : Source → ℕ → Type 0). P n S (PairsAt n one inputs k)) (events_kept one two e inputs others f k n) counted in
    subst (λ (R : Source → ℕ → ℕ → Type 0). P n (EventsAt n two others k) R)
    (pairs_kept one two e inputs others f k n) named

same_names : (space another : Space) (one two : Candidate)
    → shown_of space.registers.items one ≡ shown_of another.registers.items two
    → HaveSameNames one two
same_names space another one two e = record {
  facts = record {
    events = ap (λ (s : Shown). s.events) e;
    dependencies = ap (λ (s : Shown). s.dependencies) e;
  };
  reads = ap (λ (s : Shown). s.reads_from) e;
  coherence = ap (λ (s : Shown). s.coherence) e;
}

-- ---- columns

abbrev is_recursive : RoleContent → Bool
is_recursive (Group recursive bodies) = recursive
is_recursive (Check negated word code flag) = false
is_recursive Silent = false

abbrev bodies_in : RoleContent → List BodyContent
bodies_in (Group recursive bodies) = bodies
bodies_in (Check negated word code flag) = []
bodies_in Silent = []

group_kept : (r q : Bool) (bs ds : List Body) (space another : Space)
    (inputs others : List (Bor Column)) (cs : List Column) → r ≡ q
    → map body_content bs ≡ map body_content ds → shown_in space ≡ shown_in another
    → map (λ c. c.now) inputs ≡ map (λ c. c.now) others
    → AreGroupColumns r bs inputs (candidates_in space.combinations.items) cs
    → AreGroupColumns q ds others (candidates_in another.combinations.items) cs
group_kept r q bs ds space another inputs others cs kind e shown f h =
    let xs = candidates_in space.combinations.items in
    let ys = candidates_in another.combinations.items in
    let left = shown_of space.registers.items in
    let right = shown_of another.registers.items in
    record {
      as_many = h.as_many ∙ same_length body_content body_content bs ds e;
      suited =
          λ j lt b c. subst (λ (p : BodyContent). IsFor p.code.kind (slice_index_or cs j c))
          (body_at bs ds e j b) (h.suited j (below bs ds e j lt) b c);
      long = λ j lt c. h.long j (below bs ds e j lt) c ∙ same_length left right xs ys shown;
      values = λ k two is.
          let x = at_index left right xs ys shown k two is in
          let here = subst (λ (b : Bool). HaveValues b bs (events_of x.0) (EventsAt (events_of x.0) x.0 inputs k) (PairsAt (events_of x.0) x.0 inputs k) k cs) kind (h.values k x.0 x.1) in
          in_candidate (λ n sets outer. HaveValues q ds n sets outer k cs) x.0 two
          (same_names space another x.0 two x.2) inputs others f k
          (values_kept q bs ds e (events_of x.0) (EventsAt (events_of x.0) x.0 inputs k)
          (PairsAt (events_of x.0) x.0 inputs k) k cs here);
    }

pub columns_kept : (role other : Role) (space another : Space)
    → KeepsColumns role other space another
columns_kept (roles.Group r bs) (roles.Group q ds) space another inputs others cs e h =
    group_kept r q bs.items ds.items space another inputs others cs (ap is_recursive e.roles)
    (ap bodies_in e.roles) e.candidates e.values h
columns_kept (roles.Group r bs) (roles.Check c) space another inputs others cs e h =
    absurd (let n : role_content (roles.Group r bs) ≡ role_content (roles.Check c) = e.roles in cc)
columns_kept (roles.Group r bs) roles.Silent space another inputs others cs e h =
    absurd (let n : role_content (roles.Group r bs) ≡ Silent = e.roles in cc)
columns_kept (roles.Check c) (roles.Group q ds) space another inputs others cs e h =
    absurd (let n : role_content (roles.Check c) ≡ role_content (roles.Group q ds) = e.roles in cc)
columns_kept (roles.Check c) (roles.Check d) space another inputs others cs e h = h
columns_kept (roles.Check c) roles.Silent space another inputs others cs e h = h
columns_kept roles.Silent (roles.Group q ds) space another inputs others cs e h =
    absurd (let n : Silent ≡ role_content (roles.Group q ds) = e.roles in cc)
columns_kept roles.Silent (roles.Check d) space another inputs others cs e h = h
columns_kept roles.Silent roles.Silent space another inputs others cs e h = h

-- ---- answers

abbrev is_negated : RoleContent → Bool
is_negated (Group recursive bodies) = false
is_negated (Check negated word code flag) = negated
is_negated Silent = false

abbrev word_in : CheckWord → RoleContent → CheckWord
word_in w (Group recursive bodies) = w
word_in w (Check negated word code flag) = word
word_in w Silent = w

abbrev code_in : CodeContent → RoleContent → CodeContent
code_in c (Group recursive bodies) = c
code_in c (Check negated word code flag) = code
code_in c Silent = c

asked_kept : (c d : CheckCode) → c.negated ≡ d.negated → c.word ≡ d.word
    → (R : ℕ → ℕ → Type 0) (a : Bool) → IsTrue a ↔ Unless c.negated (Holds c.word R)
    → IsTrue a ↔ Unless d.negated (Holds d.word R)
asked_kept c d negated word R a h =
    subst (λ (w : CheckWord). IsTrue a ↔ Unless d.negated (Holds w R)) word
    (subst (λ (b : Bool). IsTrue a ↔ Unless b (Holds c.word R)) negated h)

answer_kept : (c d : CheckCode) → c.negated ≡ d.negated → c.word ≡ d.word
    → c.code.steps.items ≡ d.code.steps.items
    → (n : ℕ) (sets : Source → ℕ → Type 0) (outer : Source → ℕ → ℕ → Type 0) (kind : Kind)
    (a : Bool) → IsCheckAnswer c n sets outer kind a → IsCheckAnswer d n sets outer kind a
answer_kept c d negated word steps n sets outer kinds.OfSet a h =
    λ t is. subst (λ (b : Bool). IsTrue a ↔ Unless b (IsEmptySet (MeansSet n sets t))) negated
    (h t (steps ∙ is))
answer_kept c d negated word steps n sets outer kinds.OfRelation a h =
    λ t is.
    asked_kept c d negated word (MeansRelation n sets (WithOwn outer (OwnPairs n [])) t) a (h t (steps ∙ is))
answer_kept c d negated word steps n sets outer kinds.OfAny a h =
    λ t is.
    asked_kept c d negated word (MeansRelation n sets (WithOwn outer (OwnPairs n [])) t) a (h t (steps ∙ is))

-- the answers of a check
check_kept : (c d : CheckCode) (space another : Space) (inputs others : List (Bor Column))
    (answers : List Bool) → AreSameItems (roles.Check c) (roles.Check d) space another inputs others
    → AreAnswers c inputs (candidates_in space.combinations.items) answers
    → AreAnswers d others (candidates_in another.combinations.items) answers
check_kept c d space another inputs others answers e h =
    let xs = candidates_in space.combinations.items in
    let ys = candidates_in another.combinations.items in
    let left = shown_of space.registers.items in
    let right = shown_of another.registers.items in
    let code : code_content c.code ≡ code_content d.code = ap (code_in (code_content c.code)) e.roles in (
      h.0 ∙ same_length left right xs ys e.candidates,
      λ k two a is answer.
          let x = at_index left right xs ys e.candidates k two is in
          let here = answer_kept c d (ap is_negated e.roles) (ap (word_in c.word) e.roles) (ap (λ (p : CodeContent). p.steps) code) (events_of x.0) (EventsAt (events_of x.0) x.0 inputs k) (PairsAt (events_of x.0) x.0 inputs k) c.code.kind a (h.1 k x.0 a x.1 answer) in
          in_candidate (λ n sets outer. IsCheckAnswer d n sets outer d.code.kind a) x.0 two
          (same_names space another x.0 two x.2) inputs others e.values k
          (subst
          (λ (p : CodeContent). IsCheckAnswer d (events_of x.0)
          (EventsAt (events_of x.0) x.0 inputs k) (PairsAt (events_of x.0) x.0 inputs k)
          p.kind a) code here),
    )

pub answers_kept : (role other : Role) (space another : Space)
    → KeepsAnswers role other space another
answers_kept (roles.Group r bs) (roles.Group q ds) space another inputs others answers e h = h
answers_kept (roles.Group r bs) (roles.Check c) space another inputs others answers e h =
    absurd (let n : role_content (roles.Group r bs) ≡ role_content (roles.Check c) = e.roles in cc)
answers_kept (roles.Group r bs) roles.Silent space another inputs others answers e h = h
answers_kept (roles.Check c) (roles.Group q ds) space another inputs others answers e h =
    absurd (let n : role_content (roles.Check c) ≡ role_content (roles.Group q ds) = e.roles in cc)
answers_kept (roles.Check c) (roles.Check d) space another inputs others answers e h =
    check_kept c d space another inputs others answers e h
answers_kept (roles.Check c) roles.Silent space another inputs others answers e h =
    absurd (let n : role_content (roles.Check c) ≡ Silent = e.roles in cc)
answers_kept roles.Silent (roles.Group q ds) space another inputs others answers e h = h
answers_kept roles.Silent (roles.Check d) space another inputs others answers e h =
    absurd (let n : Silent ≡ role_content (roles.Check d) = e.roles in cc)
answers_kept roles.Silent roles.Silent space another inputs others answers e h = h
