-- Values that operators make, and what they mean.
use Rattle.std.proofs.Common.{◌≡◌, ℕ, ◌+◌, ◌<◌, ◌≤◌, List, [], ◌∷◌, ◌++◌, length, take, get_or, map, Contains, Vec, Global, sym, ap, subst, ◌∙◌}
use Rattle.std.proofs.lemmas.List.{take_more, take_all, map_push}
use Rattle.text_values.specs.declared.model.Infix.{Infix}
use Rattle.text_values.specs.declared.model.Postfix.{Postfix}
use Rattle.text_values.specs.declared.model.Expression.{Expression}
use Rattle.text_values.specs.ModelValue.{Term, Join, Mark, Not, On}
use Rattle.text_values.specs.ModelValues.{term_of}
use Rattle.meaning.specs.Sets.{Set, Relation}
use Rattle.meaning.specs.Cat.{Meaning, ASet, ARelation, Names, of_infix, of_postfix, of_complement, of_identity, meaning_of}
use Rattle.meaning_plain.specs.Lists.{SetOf, RelationOf, HasMembers, HasPairs}
use Rattle.meaning_plain.proofs.Growing.{nothing_there}
use Rattle.plain_models.specs.declared.value.Value.{Value}
use Rattle.plain_models.specs.declared.value.Value.TheVariants as values
use Rattle.plain_models.specs.Values.{meaning_as, IsEvaluatedTo, HaveValues}
use Rattle.meaning_laws.proofs.Inside.{alike_through, infix_alike, postfix_inside, complement_inside, identity_inside}

-- ---- lists

pub members_meant : (S : Set ℕ) (v : Vec ℕ Global) → HasMembers S v.items
    → IsEvaluatedTo (ASet S) (values.Set v)
members_meant S v h = ((λ a. (h a).0), (λ a. (h a).1))

pub pairs_meant : (R : Relation ℕ) (v : Vec (ℕ × ℕ) Global) → HasPairs R v.items
    → IsEvaluatedTo (ARelation R) (values.Relation v)
pairs_meant R v h = ((λ a b. (h a b).0), (λ a b. (h a b).1))

pub set_as : (v : Value) (a : Vec ℕ Global) (xs : List ℕ) → v ≡ values.Set a → xs ≡ a.items
    → ASet (SetOf xs) ≡ meaning_as v
set_as v a xs is e = ap (λ (l : List ℕ). ASet (SetOf l)) e ∙ sym (ap meaning_as is)

pub relation_as : (v : Value) (a : Vec (ℕ × ℕ) Global) (xs : List (ℕ × ℕ))
    → v ≡ values.Relation a → xs ≡ a.items → ARelation (RelationOf xs) ≡ meaning_as v
relation_as v a xs is e = ap (λ (l : List (ℕ × ℕ)). ARelation (RelationOf l)) e ∙ sym (ap meaning_as is)

-- a value with the same list
pub set_copied : (v : Value) (a c : Vec ℕ Global) (xs : List ℕ) → v ≡ values.Set a → xs ≡ a.items
    → c.items ≡ xs → IsEvaluatedTo (meaning_as v) (values.Set c)
set_copied v a c xs is e copy =
    subst (λ (m : Meaning ℕ). IsEvaluatedTo m (values.Set c)) (set_as v a c.items is (copy ∙ e))
    ((λ x h. h), (λ x h. h))

pub relation_copied : (v : Value) (a c : Vec (ℕ × ℕ) Global) (xs : List (ℕ × ℕ))
    → v ≡ values.Relation a → xs ≡ a.items → c.items ≡ xs
    → IsEvaluatedTo (meaning_as v) (values.Relation c)
relation_copied v a c xs is e copy =
    subst (λ (m : Meaning ℕ). IsEvaluatedTo m (values.Relation c)) (relation_as v a c.items is (copy ∙ e))
    ((λ x y h. h), (λ x y h. h))

pub nothing_copied : (v : Value) → v ≡ values.Nothing → IsEvaluatedTo (meaning_as v) values.Nothing
nothing_copied v is =
    subst (λ (w : Value). IsEvaluatedTo (meaning_as w) values.Nothing) (sym is) (tt, tt)

pub set_listed : (xs : List ℕ) (v : Vec ℕ Global) → v.items ≡ xs
    → IsEvaluatedTo (ASet (SetOf xs)) (values.Set v)
set_listed xs v e =
    subst (λ (l : List ℕ). IsEvaluatedTo (ASet (SetOf l)) (values.Set v)) e ((λ x h. h), (λ x h. h))

pub empty_set : (v : Vec ℕ Global) → v.items ≡ [] → IsEvaluatedTo (ASet (λ a. ⊥)) (values.Set v)
empty_set v e =
    ((λ x h. nothing_there x (subst (λ (l : List ℕ). Contains l x) e h)), (λ x h. absurd h))

pub empty_relation : (v : Vec (ℕ × ℕ) Global) → v.items ≡ []
    → IsEvaluatedTo (ARelation (λ a b. ⊥)) (values.Relation v)
empty_relation v e =
    ((λ x y h. nothing_there (x, y) (subst (λ (l : List (ℕ × ℕ)). Contains l (x, y)) e h)), (λ x y h. absurd h))

-- what is made of one operand, or of two, where these are known otherwise
pub made_of_one : (M : Meaning ℕ → Meaning ℕ) (m k : Meaning ℕ) (v : Value) → m ≡ k
    → IsEvaluatedTo (M m) v → IsEvaluatedTo (M k) v
made_of_one M m k v e h = subst (λ (n : Meaning ℕ). IsEvaluatedTo (M n) v) e h

pub made_of_two : (M : Meaning ℕ → Meaning ℕ → Meaning ℕ) (m k n l : Meaning ℕ) (v : Value)
    → m ≡ k → n ≡ l → IsEvaluatedTo (M m n) v → IsEvaluatedTo (M k l) v
made_of_two M m k n l v e f h =
    subst (λ (p : Meaning ℕ). IsEvaluatedTo (M k p) v) f (subst (λ (p : Meaning ℕ). IsEvaluatedTo (M p n) v) e h)

-- what an operator makes, where the operator is known otherwise
pub made_by : {A : Type 0} (M : A → Meaning ℕ) (o p : A) (v : Value) → o ≡ p → IsEvaluatedTo (M p) v
    → IsEvaluatedTo (M o) v
made_by {A} M o p v e h = subst (λ (q : A). IsEvaluatedTo (M q) v) (sym e) h

-- ---- expressions, whose operands have values

pub join_meant : (all : Set ℕ) (N : Names ℕ) (op : Infix) (a b : Term) (x y v : Value)
    → IsEvaluatedTo (meaning_of all N a) x → IsEvaluatedTo (meaning_of all N b) y
    → IsEvaluatedTo (of_infix op (meaning_as x) (meaning_as y)) v
    → IsEvaluatedTo (meaning_of all N (Join op a b)) v
join_meant all N op a b x y v first second h =
    alike_through (meaning_as v) (of_infix op (meaning_as x) (meaning_as y))
    (of_infix op (meaning_of all N a) (meaning_of all N b)) h
    (infix_alike op (meaning_as x) (meaning_of all N a) (meaning_as y) (meaning_of all N b)
    first second)

pub mark_meant : (all : Set ℕ) (N : Names ℕ) (op : Postfix) (a : Term) (x v : Value)
    → IsEvaluatedTo (meaning_of all N a) x → IsEvaluatedTo (of_postfix all op (meaning_as x)) v
    → IsEvaluatedTo (meaning_of all N (Mark op a)) v
mark_meant all N op a x v first h =
    alike_through (meaning_as v) (of_postfix all op (meaning_as x))
    (of_postfix all op (meaning_of all N a)) h (
      postfix_inside all op (meaning_as x) (meaning_of all N a) first.0,
      postfix_inside all op (meaning_of all N a) (meaning_as x) first.1,
    )

pub not_meant : (all : Set ℕ) (N : Names ℕ) (a : Term) (x v : Value)
    → IsEvaluatedTo (meaning_of all N a) x → IsEvaluatedTo (of_complement all (meaning_as x)) v
    → IsEvaluatedTo (meaning_of all N (Not a)) v
not_meant all N a x v first h =
    alike_through (meaning_as v) (of_complement all (meaning_as x))
    (of_complement all (meaning_of all N a)) h (
      complement_inside all (meaning_of all N a) (meaning_as x) first.1,
      complement_inside all (meaning_as x) (meaning_of all N a) first.0,
    )

pub on_meant : (all : Set ℕ) (N : Names ℕ) (a : Term) (x v : Value)
    → IsEvaluatedTo (meaning_of all N a) x → IsEvaluatedTo (of_identity (meaning_as x)) v
    → IsEvaluatedTo (meaning_of all N (On a)) v
on_meant all N a x v first h =
    alike_through (meaning_as v) (of_identity (meaning_as x))
    (of_identity (meaning_of all N a)) h (
      identity_inside (meaning_as x) (meaning_of all N a) first.0,
      identity_inside (meaning_of all N a) (meaning_as x) first.1,
    )

-- an expression that stands for the term
pub read_as : (all : Set ℕ) (N : Names ℕ) (s t : Term) (v : Value) → s ≡ t
    → IsEvaluatedTo (meaning_of all N t) v → IsEvaluatedTo (meaning_of all N s) v
read_as all N s t v e h = subst (λ (u : Term). IsEvaluatedTo (meaning_of all N u) v) (sym e) h

-- ---- arguments, one by one

pub meant_more : (all : Set ℕ) (N : Names ℕ) (ts : List Term) (vs : List Value) (t : Term)
    (v : Value) → HaveValues all N ts vs → IsEvaluatedTo (meaning_of all N t) v
    → HaveValues all N (ts ++ t ∷ []) (vs ++ v ∷ [])
meant_more all N [] [] t v before h = (h, tt)
meant_more all N [] (w ∷ vs) t v before h = absurd before
meant_more all N (s ∷ ts) [] t v before h = absurd before
meant_more all N (s ∷ ts) (w ∷ vs) t v before h =
    (before.0, meant_more all N ts vs t v before.1 h)

pub meant_next : (all : Set ℕ) (N : Names ℕ) (es : List Expression) (i : ℕ) (d : Expression)
    (vs ws : List Value) (v : Value) → i < length es
    → HaveValues all N (map term_of (take i es)) vs
    → IsEvaluatedTo (meaning_of all N (term_of (get_or es i d))) v → ws ≡ vs ++ v ∷ []
    → HaveValues all N (map term_of (take (i + 1) es)) ws
meant_next all N es i d vs ws v lt before h e =
    let terms : map term_of (take (i + 1) es) ≡ map term_of (take i es) ++ term_of (get_or es i d) ∷ [] = ap (map term_of) (take_more es i d lt) ∙ map_push term_of (take i es) (get_or es i d) in
    subst (λ (l : List Value). HaveValues all N (map term_of (take (i + 1) es)) l) (sym e)
    (subst (λ (l : List Term). HaveValues all N l (vs ++ v ∷ [])) (sym terms)
    (meant_more all N (map term_of (take i es)) vs (term_of (get_or es i d)) v before h))

pub meant_whole : (all : Set ℕ) (N : Names ℕ) (es : List Expression) (i : ℕ) (vs : List Value)
    → length es ≤ i → HaveValues all N (map term_of (take i es)) vs
    → HaveValues all N (map term_of es) vs
meant_whole all N es i vs le h =
    subst (λ (l : List Expression). HaveValues all N (map term_of l) vs) (take_all i es le) h
