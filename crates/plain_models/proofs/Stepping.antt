-- Loops over a group, one step further.
use Rattle.std.proofs.Common.{◌≡◌, ◌↔◌, ◌⊎◌, inl, inr, ℕ, ◌+◌, ◌<◌, ◌≤◌, zero, suc, List, [], ◌∷◌, ◌++◌, length, take, drop, get_or, map, Contains, Vec, Global, refl, sym, ap, subst, ◌∙◌, append_assoc, arith}
use Rattle.std.proofs.lemmas.List.{take_more, take_all, append-nil, map_push, at_drop_more, at_drop_all}
use Rattle.std.proofs.lemmas.List.Elements.{Contains-push, Contains-push_cases, Contains-append_left}
use Rattle.text_values.specs.declared.model.Binding as code_binding
use Rattle.text_values.specs.ModelValue.{Term}
use Rattle.text_values.specs.ModelValues.{term_of, binding_of}
use Rattle.meaning.specs.Sets.{Set, Relation}
use Rattle.meaning.specs.Names.{Name}
use Rattle.meaning.specs.Cat.{ARelation, Names, meaning_of}
use Rattle.meaning_plain.proofs.Growing.{nothing_there}
use Rattle.plain_models.specs.declared.value.Value.{Value}
use Rattle.plain_models.specs.declared.value.Value.TheVariants as values
use Rattle.plain_models.specs.Values.{IsEvaluatedTo, HaveValues}
use Rattle.plain_models.proofs.Joining.{meant_more}
use Rattle.plain_models.specs.Groups.{name_of, body_of, AreRelations, pairs_of, IsOfPairs, Extends, DoExtend, HasGrown}

-- the names and bodies of a group, as the definitions have it
pub group_names : (gs : List code_binding.Binding) → map (λ b. b.0) (map binding_of gs) ≡ map name_of gs
group_names [] = refl
group_names (g ∷ gs) = ap (λ (l : List Name). g.name ∷ l) (group_names gs)

pub group_bodies : (gs : List code_binding.Binding) → map (λ b. b.1) (map binding_of gs) ≡ map body_of gs
group_bodies [] = refl
group_bodies (g ∷ gs) = ap (λ (l : List Term). term_of g.body ∷ l) (group_bodies gs)

-- ---- what the bodies mean

pub body_next : (all : Set ℕ) (N : Names ℕ) (gs : List code_binding.Binding) (i : ℕ)
    (d : code_binding.Binding) (vs ws : List Value) (v : Value) → i < length gs
    → HaveValues all N (map body_of (take i gs)) vs
    → IsEvaluatedTo (meaning_of all N (term_of (get_or gs i d).body)) v → ws ≡ vs ++ v ∷ []
    → HaveValues all N (map body_of (take (i + 1) gs)) ws
body_next all N gs i d vs ws v lt before h e =
    let terms : map body_of (take (i + 1) gs) ≡ map body_of (take i gs) ++ body_of (get_or gs i d) ∷ [] = ap (map body_of) (take_more gs i d lt) ∙ map_push body_of (take i gs) (get_or gs i d) in
    subst (λ (l : List Value). HaveValues all N (map body_of (take (i + 1) gs)) l) (sym e)
    (subst (λ (l : List Term). HaveValues all N l (vs ++ v ∷ [])) (sym terms)
    (meant_more all N (map body_of (take i gs)) vs (term_of (get_or gs i d).body) v before h))

pub bodies_whole : (all : Set ℕ) (N : Names ℕ) (gs : List code_binding.Binding) (i : ℕ)
    (vs : List Value) → length gs ≤ i → HaveValues all N (map body_of (take i gs)) vs
    → HaveValues all N (map body_of gs) vs
bodies_whole all N gs i vs le h =
    subst (λ (l : List code_binding.Binding). HaveValues all N (map body_of l) vs) (take_all i gs le) h

-- ---- the names of a group

pub names_next : (gs : List code_binding.Binding) (i : ℕ) (d : code_binding.Binding)
    (ns ms : List Name) (n : Name) → i < length gs → ns ≡ map name_of (take i gs)
    → n ≡ (get_or gs i d).name → ms ≡ ns ++ n ∷ [] → ms ≡ map name_of (take (i + 1) gs)
names_next gs i d ns ms n lt before here e =
    e ∙ (ap (λ (l : List Name). l ++ n ∷ []) before
    ∙ (ap (λ (m : Name). map name_of (take i gs) ++ m ∷ []) here
    ∙ (sym (map_push name_of (take i gs) (get_or gs i d))
    ∙ ap (map name_of) (sym (take_more gs i d lt)))))

relations_more : (R : Name → Relation ℕ) (ns : List Name) (vs : List Value) (n : Name) (v : Value)
    → AreRelations R ns vs → IsEvaluatedTo (ARelation (R n)) v → AreRelations R (ns ++ n ∷ []) (vs ++ v ∷ [])
relations_more R [] [] n v before h = (h, tt)
relations_more R [] (w ∷ vs) n v before h = absurd before
relations_more R (m ∷ ns) [] n v before h = absurd before
relations_more R (m ∷ ns) (w ∷ vs) n v before h = (before.0, relations_more R ns vs n v before.1 h)

pub relations_next : (R : Name → Relation ℕ) (ns : List Name) (i : ℕ) (vs ws : List Value)
    (v : Value) → i < length ns → AreRelations R (take i ns) vs
    → IsEvaluatedTo (ARelation (R (get_or ns i []))) v → ws ≡ vs ++ v ∷ []
    → AreRelations R (take (i + 1) ns) ws
relations_next R ns i vs ws v lt before h e =
    subst (λ (l : List Value). AreRelations R (take (i + 1) ns) l) (sym e)
    (subst (λ (l : List Name). AreRelations R l (vs ++ v ∷ [])) (sym (take_more ns i [] lt))
    (relations_more R (take i ns) vs (get_or ns i []) v before h))

pub relations_whole : (R : Name → Relation ℕ) (ns : List Name) (i : ℕ) (vs : List Value)
    → length ns ≤ i → AreRelations R (take i ns) vs → AreRelations R ns vs
relations_whole R ns i vs le h =
    subst (λ (l : List Name). AreRelations R l vs) (take_all i ns le) h

pub empty_meant : (v : Vec (ℕ × ℕ) Global) → v.items ≡ []
    → IsEvaluatedTo (ARelation (λ a b. ⊥)) (values.Relation v)
empty_meant v e =
    ((λ x y there. nothing_there (x, y) (subst (λ (l : List (ℕ × ℕ)). Contains l (x, y)) e there)), (λ x y h. absurd h))

-- ---- pairs that are put behind others

pub extends_none : (old new : List (ℕ × ℕ)) → new ≡ old → Extends old [] new
extends_none old new e = record {
  behind = ([], e ∙ sym (append-nil old));
  exact = λ p. (
    (λ there. inl (subst (λ (l : List (ℕ × ℕ)). Contains l p) e there)),
    (λ h. elim h [
      | inl there ↦ subst (λ (l : List (ℕ × ℕ)). Contains l p) (sym e) there
      | inr more ↦ absurd (nothing_there p more)
    ]),
  );
}

single : (p q : ℕ × ℕ) → Contains (p ∷ []) q → p ≡ q
single p q (zero, lt, eq) = eq
single p q (suc k, lt, eq) = absurd (omega arith)

pub extends_there : (old : List (ℕ × ℕ)) (p : ℕ × ℕ) → Contains old p → Extends old (p ∷ []) old
extends_there old p there = record {
  behind = ([], sym (append-nil old));
  exact = λ q. (
    (λ h. inl h),
    (λ h. elim h [
      | inl old_one ↦ old_one
      | inr one ↦ subst (λ (r : ℕ × ℕ). Contains old r) (single p q one) there
    ]),
  );
}

pub extends_push : (old new : List (ℕ × ℕ)) (p : ℕ × ℕ) → new ≡ old ++ p ∷ []
    → Extends old (p ∷ []) new
extends_push old new p e = record {
  behind = (p ∷ [], e);
  exact = λ q. (
    (λ h. elim (Contains-push_cases old p q (subst (λ (l : List (ℕ × ℕ)). Contains l q) e h)) [
      | inl there ↦ inl there
      | inr same ↦ inr (0, omega arith, same)
    ]),
    (λ h. subst (λ (l : List (ℕ × ℕ)). Contains l q) (sym e) (elim h [
      | inl there ↦ Contains-append_left old (p ∷ []) q there
      | inr one ↦ subst (λ (r : ℕ × ℕ). Contains (old ++ p ∷ []) r) (single p q one) (Contains-push old p)
    ])),
  );
}

pub extends_next : (old mid new more : List (ℕ × ℕ)) (i : ℕ) (d : ℕ × ℕ) → i < length more
    → Extends old (take i more) mid → Extends mid (get_or more i d ∷ []) new
    → Extends old (take (i + 1) more) new
extends_next old mid new more i d lt first second =
    subst (λ (l : List (ℕ × ℕ)). Extends old l new) (sym (take_more more i d lt))
    (record {
      behind = (
        first.behind.0 ++ second.behind.0,
        second.behind.1 ∙ (ap (λ (l : List (ℕ × ℕ)). l ++ second.behind.0) first.behind.1
            ∙ append_assoc old first.behind.0 second.behind.0),
      );
      exact = λ q. (
        (λ h. elim ((second.exact q).0 h) [
          | inl there ↦ from_mid q there
          | inr one ↦ inr (subst (λ (r : ℕ × ℕ). Contains (take i more ++ get_or more i d ∷ []) r) (single (get_or more i d) q one) (Contains-push (take i more) (get_or more i d)))
        ]),
        (λ h. elim h [
          | inl there ↦ (second.exact q).1 (inl ((first.exact q).1 (inl there)))
          | inr one ↦ from_more q (Contains-push_cases (take i more) (get_or more i d) q one)
        ]),
      );
    })
  where
    from_mid : (q : ℕ × ℕ) → Contains mid q
        → Contains old q ⊎ Contains (take i more ++ get_or more i d ∷ []) q
    from_mid q there = elim ((first.exact q).0 there) [
      | inl was ↦ inl was
      | inr one ↦ inr (Contains-append_left (take i more) (get_or more i d ∷ []) q one)
    ]

    from_more : (q : ℕ × ℕ) → Contains (take i more) q ⊎ (get_or more i d ≡ q) → Contains new q
    from_more q (inl one) = (second.exact q).1 (inl ((first.exact q).1 (inr one)))
    from_more q (inr same) = (second.exact q).1 (inr (0, omega arith, same))

pub extends_whole : (old new more : List (ℕ × ℕ)) (i : ℕ) → length more ≤ i
    → Extends old (take i more) new → Extends old more new
extends_whole old new more i le h =
    subst (λ (l : List (ℕ × ℕ)). Extends old l new) (take_all i more le) h

-- ---- values that are extended one by one

extend_more : (vs ms ws : List Value) (v m w : Value) → DoExtend vs ms ws → IsOfPairs w
    → Extends (pairs_of v) (pairs_of m) (pairs_of w)
    → DoExtend (vs ++ v ∷ []) (ms ++ m ∷ []) (ws ++ w ∷ [])
extend_more [] [] [] v m w before is h = (is, h, tt)
extend_more [] [] (x ∷ ws) v m w before is h = absurd before
extend_more [] (y ∷ ms) ws v m w before is h = absurd before
extend_more (z ∷ vs) [] ws v m w before is h = absurd before
extend_more (z ∷ vs) (y ∷ ms) [] v m w before is h = absurd before
extend_more (z ∷ vs) (y ∷ ms) (x ∷ ws) v m w before is h =
    (before.0, before.1, extend_more vs ms ws v m w before.2 is h)

pub extend_next : (vs ms old new : List Value) (i : ℕ) (v m w : Value) → i < length vs
    → i < length ms → DoExtend (take i vs) (take i ms) old → v ≡ get_or vs i v → m ≡ get_or ms i m
    → IsOfPairs w × Extends (pairs_of v) (pairs_of m) (pairs_of w) → new ≡ old ++ w ∷ []
    → DoExtend (take (i + 1) vs) (take (i + 1) ms) new
extend_next vs ms old new i v m w lt lt_more before here there h e =
    let first : take (i + 1) vs ≡ take i vs ++ v ∷ [] = take_more vs i v lt ∙ ap (λ (x : Value). take i vs ++ x ∷ []) (sym here) in
    let second : take (i + 1) ms ≡ take i ms ++ m ∷ [] = take_more ms i m lt_more ∙ ap (λ (x : Value). take i ms ++ x ∷ []) (sym there) in
    subst (λ (l : List Value). DoExtend l (take (i + 1) ms) new) (sym first)
    (subst (λ (l : List Value). DoExtend (take i vs ++ v ∷ []) l new) (sym second)
    (subst (λ (l : List Value). DoExtend (take i vs ++ v ∷ []) (take i ms ++ m ∷ []) l) (sym e)
    (extend_more (take i vs) (take i ms) old v m w before h.0 h.1)))

pub extend_whole : (vs ms ws : List Value) (i : ℕ) → length vs ≤ i → length ms ≤ i
    → DoExtend (take i vs) (take i ms) ws → DoExtend vs ms ws
extend_whole vs ms ws i le le_more h =
    subst (λ (l : List Value). DoExtend l ms ws) (take_all i vs le)
    (subst (λ (l : List Value). DoExtend (take i vs) l ws) (take_all i ms le_more) h)

-- ---- whether some value has more pairs

pub grown_next : (vs ws : List Value) (i : ℕ) (v w : Value) → i < length vs → i < length ws
    → v ≡ get_or vs i v → w ≡ get_or ws i w
    → HasGrown (drop i vs) (drop i ws)
    ↔ ((length (pairs_of v) < length (pairs_of w)) ⊎ HasGrown (drop (i + 1) vs) (drop (i + 1) ws))
grown_next vs ws i v w lt lt_more here there =
    let first : drop i vs ≡ v ∷ drop (i + 1) vs = at_drop_more (λ (l : List Value). l) vs i v lt ∙ ap (λ (x : Value). x ∷ drop (i + 1) vs) (sym here) in
    let second : drop i ws ≡ w ∷ drop (i + 1) ws = at_drop_more (λ (l : List Value). l) ws i w lt_more ∙ ap (λ (x : Value). x ∷ drop (i + 1) ws) (sym there) in (
      (λ h. subst (λ (l : List Value). HasGrown (v ∷ drop (i + 1) vs) l) second
          (subst (λ (l : List Value). HasGrown l (drop i ws)) first h)),
      (λ h. subst (λ (l : List Value). HasGrown l (drop i ws)) (sym first)
          (subst (λ (l : List Value). HasGrown (v ∷ drop (i + 1) vs) l) (sym second) h)),
    )

pub none_grown : (vs ws : List Value) (i : ℕ) → length vs ≤ i → HasGrown (drop i vs) (drop i ws) → ⊥
none_grown vs ws i le h =
    subst (λ (l : List Value). HasGrown l (drop i ws)) (at_drop_all (λ (l : List Value). l) vs i le) h

-- ---- lengths

pub meant_length : (all : Set ℕ) (N : Names ℕ) (ts : List Term) (vs : List Value)
    → HaveValues all N ts vs → length ts ≡ length vs
meant_length all N [] [] h = refl
meant_length all N [] (v ∷ vs) h = absurd h
meant_length all N (t ∷ ts) [] h = absurd h
meant_length all N (t ∷ ts) (v ∷ vs) h = ap suc (meant_length all N ts vs h.1)

pub relations_length : (R : Name → Relation ℕ) (ns : List Name) (vs : List Value)
    → AreRelations R ns vs → length ns ≡ length vs
relations_length R [] [] h = refl
relations_length R [] (v ∷ vs) h = absurd h
relations_length R (n ∷ ns) [] h = absurd h
relations_length R (n ∷ ns) (v ∷ vs) h = ap suc (relations_length R ns vs h.1)

pub extend_length : (vs ms ws : List Value) → DoExtend vs ms ws → length vs ≡ length ws
extend_length [] [] [] h = refl
extend_length [] [] (w ∷ ws) h = absurd h
extend_length [] (m ∷ ms) ws h = absurd h
extend_length (v ∷ vs) [] ws h = absurd h
extend_length (v ∷ vs) (m ∷ ms) [] h = absurd h
extend_length (v ∷ vs) (m ∷ ms) (w ∷ ws) h = ap suc (extend_length vs ms ws h.2)
