-- Faults that are looked for one after another.
use Rattle.std.proofs.Common.{ℕ, suc, ◌≡◌, ◌<◌, ◌≤◌, ◌+◌, ◌||◌, List, ◌∷◌, length, map, drop, take, reverse, get_or, Bool, false, Option, Some, None, Result, Vec, Global, refl, sym, ap, ◌∙◌, add-one}
use Rattle.std.specs.Prelude.{min}
use Rattle.std.proofs.lemmas.List.{drop_all}
use Rattle.std.proofs.Math.Seq.{drop-cons}
use Rattle.text_values.specs.declared.model.Binding.{Binding}
use Rattle.text_values.specs.declared.model.Expression.{Expression}
use Rattle.text_values.specs.declared.model.Expression.TheVariants as expressions
use Rattle.text_values.specs.ModelValue.{Terms, Apply, gathered}
use Rattle.text_values.specs.ModelValues.{term_of}
use Rattle.text_values.proofs.Arguments.{applied_term}
use Rattle.binding_kinds.specs.declared.fault.ModelFault.{ModelFault}
use Rattle.binding_kinds.specs.GroupNames.{let_names}
use Rattle.binding_kinds.specs.Kinds.{found}
use Rattle.binding_kinds.specs.Meanings.{parameter_of}
use Rattle.binding_kinds.specs.Value.{Naming, Bound, bound_value_of}
use Rattle.binding_kinds.specs.Verdict.{of_parameter}
use Rattle.binding_kinds.specs.First.{let_fault, apply_fault}
use Rattle.binding_kinds.specs.Senses.{Sense, IsSameSize, sense_of, size_in, sizes_in, size_applied, kinds_in, under_of, fault_applied}
use Rattle.binding_kinds.proofs.Applications.{next, count_arguments}
use Rattle.binding_kinds.proofs.Scopes.{rev_more, rev_next}
use Rattle.fault_texts.specs.Search.{SignedFault, signed_fault, or_later, first_fault_in, first_fault_among, first_fault_in_group, first_fault_in_parameters, first_fault_in_body, first_fault_in_bodies}

pub later_assoc : (a b c : Option SignedFault)
    → or_later (or_later a b) c ≡ or_later a (or_later b c)
later_assoc None b c = refl
later_assoc (Some f) b c = refl

pub later_none : (a : Option SignedFault) → or_later a None ≡ a
later_none None = refl
later_none (Some f) = refl

-- ---- arguments

-- an application, in the parts that are looked at
module _ (ss : List Sense) (names : List Naming) (e : Expression) (n : List ℕ)
    (args : Vec Expression Global) (is : e ≡ expressions.Applied n args) where
  abbrev all_terms : List Expression → Terms
  all_terms l = gathered (map term_of l)

  abbrev sense : List Expression → Result Sense ModelFault
  sense l = sense_of ss (length l) (found names n)

  opened : term_of e ≡ Apply n (all_terms args.items)
  opened = ap term_of is ∙ applied_term n args

  pub size_is : (size : ℕ) (xs : List Expression) → xs ≡ args.items
      → IsSameSize size (size_in ss names (term_of e))
      → IsSameSize size (size_applied (sense xs) (sizes_in ss names (all_terms xs)))
  size_is size xs same h =
      h ∙ ap (λ (k : ℕ). min k 4097) (
      ap (size_in ss names) opened
      ∙ ap
      (λ (k : ℕ). size_applied (sense_of ss k (found names n))
      (sizes_in ss names (all_terms args.items)))
      (count_arguments args.items)
      ∙ ap (λ (l : List Expression). size_applied (sense l) (sizes_in ss names (all_terms l)))
      (sym same)
      )

  abbrev own_fault : List Expression → Option ModelFault
  own_fault l =
      fault_applied (sense l) (sizes_in ss names (all_terms l)) (kinds_in ss names (all_terms l))
      None

  pub application : (from : ℕ) (under : Bool) (xs ys : List Expression) (own : Option ModelFault)
      (all : Option SignedFault) → xs ≡ args.items → ys ≡ args.items → own ≡ own_fault ys
      → all ≡ signed_fault own n
      → or_later all (first_fault_among ss names from under (under_of (sense xs)) 0 (all_terms xs))
      ≡ first_fault_in ss names from under (term_of e)
  application from under xs ys own all same same_y own_is all_is =
      let among : List Expression → Option SignedFault = λ l. first_fault_among ss names from under (under_of (sense l)) 0 (all_terms l) in
      let whole : ℕ → Option SignedFault = λ k. let f = sense_of ss k (found names n) in let ts = all_terms args.items in or_later (signed_fault (fault_applied f (sizes_in ss names ts) (kinds_in ss names ts) None) n) (first_fault_among ss names from under (under_of f) 0 ts) in
      ap (λ (o : Option SignedFault). or_later o (among xs)) (all_is
      ∙ ap (λ (o : Option ModelFault). signed_fault o n) own_is)
      ∙ ap (λ (l : List Expression). or_later (signed_fault (own_fault l) n) (among xs)) same_y
      ∙ ap (λ (l : List Expression). or_later (signed_fault (own_fault args.items) n) (among l))
      same
      ∙ ap whole (sym (count_arguments args.items))
      ∙ sym (ap (first_fault_in ss names from under) opened)

-- one more argument
pub next_argument : (ss : List Sense) (names : List Naming) (from : ℕ) (under : Bool)
    (under_at : ℕ → Bool) (xs : List Expression) (i : ℕ) (e : Expression)
    (before after one : Option SignedFault) (under_here inner : Bool)
    (total : Option SignedFault) → i < length xs → e ≡ get_or xs i e
    → under_here ≡ under_at i → inner ≡ (under || under_here)
    → one ≡ first_fault_in ss names from inner (term_of e) → after ≡ or_later before one
    → or_later before (first_fault_among ss names from under under_at i
    (gathered (map term_of (drop i xs)))) ≡ total
    → or_later after (first_fault_among ss names from under under_at (i + 1)
    (gathered (map term_of (drop (i + 1) xs)))) ≡ total
next_argument ss names from under under_at xs i e before after one under_here inner total lt is
    under_is inner_is one_is after_is inv =
    let rest = gathered (map term_of (drop (i + 1) xs)) in
    let open_inv : or_later before (or_later (first_fault_in ss names from (under || under_at i) (term_of e)) (first_fault_among ss names from under under_at (suc i) rest)) ≡ total =
    sym (ap (λ (t : Terms). or_later before (first_fault_among ss names from under under_at i t))
    (next xs i e lt is)) ∙ inv in
    let one_is_so : one ≡ first_fault_in ss names from (under || under_at i) (term_of e) = one_is ∙ ap (λ (b : Bool). first_fault_in ss names from b (term_of e)) (inner_is ∙ ap (λ (b : Bool). under || b) under_is) in
    ap (λ (n : ℕ). or_later after (first_fault_among ss names from under under_at n rest))
    (add-one i)
    ∙ ap
    (λ (o : Option SignedFault).
    or_later o (first_fault_among ss names from under under_at (suc i) rest))
    (after_is ∙ ap (λ (o : Option SignedFault). or_later before o) one_is_so)
    ∙ later_assoc before _ (first_fault_among ss names from under under_at (suc i) rest)
    ∙ open_inv

-- all arguments
pub all_arguments : (ss : List Sense) (names : List Naming) (from : ℕ) (under : Bool)
    (under_at : ℕ → Bool) (xs : List Expression) (i : ℕ) (now total : Option SignedFault)
    → length xs ≤ i
    → or_later now (first_fault_among ss names from under under_at i
    (gathered (map term_of (drop i xs)))) ≡ total → now ≡ total
all_arguments ss names from under under_at xs i now total past e =
    sym (later_none now)
    ∙ sym (ap
    (λ (l : List Expression). or_later now (first_fault_among ss names from under
    under_at i (gathered (map term_of l))))
    (drop_all i xs past)) ∙ e

-- ---- arguments in a body

pub body_application : (ss : List Sense) (names : List Naming) (ps : List (List ℕ)) (e : Expression)
    (n : List ℕ) (args : Vec Expression Global) (xs : List Expression) (m : ℕ)
    (own : Option ModelFault) (all : Option SignedFault) → e ≡ expressions.Applied n args
    → xs ≡ args.items → m ≡ length args.items
    → own ≡ apply_fault (parameter_of (reverse ps) n) (sense_of ss m (found names n))
    → all ≡ signed_fault own n
    → or_later all (first_fault_in_bodies ss names ps (gathered (map term_of xs)))
    ≡ first_fault_in_body ss names ps (term_of e)
body_application ss names ps e n args xs m own all is same long own_is all_is =
    let ts = gathered (map term_of args.items) in
    let t : term_of e ≡ Apply n ts = ap term_of is ∙ applied_term n args in
    ap
    (λ (l : List Expression).
    or_later all (first_fault_in_bodies ss names ps (gathered (map term_of l)))) same
    ∙ ap (λ (q : Option SignedFault). or_later q (first_fault_in_bodies ss names ps ts))
    (all_is ∙ ap (λ (o : Option ModelFault). signed_fault o n) own_is)
    ∙ ap
    (λ (k : ℕ). or_later
    (signed_fault (apply_fault (parameter_of (reverse ps) n) (sense_of ss k (found names n)))
    n)
    (first_fault_in_bodies ss names ps ts))
    (long ∙ sym (count_arguments args.items))
    ∙ sym (ap (first_fault_in_body ss names ps) t)

pub next_body : (ss : List Sense) (names : List Naming) (ps : List (List ℕ)) (xs : List Expression)
    (i : ℕ) (e : Expression) (before after one total : Option SignedFault) → i < length xs
    → e ≡ get_or xs i e
    → one ≡ first_fault_in_body ss names ps (term_of e) → after ≡ or_later before one
    → or_later before (first_fault_in_bodies ss names ps (gathered (map term_of (drop i xs))))
    ≡ total
    → or_later after (first_fault_in_bodies ss names ps (gathered (map term_of (drop (i + 1) xs))))
    ≡ total
next_body ss names ps xs i e before after one total lt is one_is after_is inv =
    let rest = first_fault_in_bodies ss names ps (gathered (map term_of (drop (i + 1) xs))) in
    ap (λ (o : Option SignedFault). or_later o rest) (after_is
    ∙ ap (λ (o : Option SignedFault). or_later before o) one_is)
    ∙ later_assoc before _ rest
    ∙ sym (ap (λ (t : Terms). or_later before (first_fault_in_bodies ss names ps t))
    (next xs i e lt is)) ∙ inv

pub all_bodies : (ss : List Sense) (names : List Naming) (ps : List (List ℕ)) (xs : List Expression)
    (i : ℕ) (now total : Option SignedFault) → length xs ≤ i
    → or_later now (first_fault_in_bodies ss names ps (gathered (map term_of (drop i xs)))) ≡ total
    → now ≡ total
all_bodies ss names ps xs i now total past e =
    sym (later_none now)
    ∙ sym (ap
    (λ (l : List Expression).
    or_later now (first_fault_in_bodies ss names ps (gathered (map term_of l))))
    (drop_all i xs past)) ∙ e

-- ---- bindings and parameters

pub next_binding : (ss : List Sense) (names : List Naming) (from : ℕ) (r : Bool) (g : List Binding)
    (i : ℕ) (b : Binding) (own : Option ModelFault)
    (before after body here total : Option SignedFault) → i < length g → b ≡ get_or g i b
    → own ≡ let_fault ss names r (let_names (take i g)) (bound_value_of b)
    → body ≡ first_fault_in ss names from false (term_of b.body)
    → here ≡ or_later (signed_fault own b.name) body → after ≡ or_later before here
    → or_later before (first_fault_in_group ss names from r (let_names (take i g))
    (map bound_value_of (drop i g))) ≡ total
    → or_later after (first_fault_in_group ss names from r (let_names (take (i + 1) g))
    (map bound_value_of (drop (i + 1) g))) ≡ total
next_binding ss names from r g i b own before after body here total lt is own_is body_is here_is
    after_is inv =
    let rest = first_fault_in_group ss names from r (b.name ∷ let_names (take i g)) (map bound_value_of (drop (i + 1) g)) in
    let ns : let_names (take (i + 1) g) ≡ b.name ∷ let_names (take i g) = rev_more (λ (x : Binding). x.name) g i b lt ∙ ap (λ (x : Binding). x.name ∷ let_names (take i g)) (sym is) in
    let bs : map bound_value_of (drop i g) ≡ bound_value_of b ∷ map bound_value_of (drop (i + 1) g) =
    ap (map bound_value_of) (drop-cons g i b lt)
    ∙ ap (λ (x : Binding). bound_value_of x ∷ map bound_value_of (drop (suc i) g)) (sym is)
    ∙ ap (λ (n : ℕ). bound_value_of b ∷ map bound_value_of (drop n g)) (sym (add-one i)) in
    ap
    (λ (l : List (List ℕ)).
    or_later after (first_fault_in_group ss names from r l (map bound_value_of (drop (i + 1) g))))
    ns
    ∙ ap (λ (o : Option SignedFault). or_later o rest) (after_is
    ∙ ap (λ (o : Option SignedFault). or_later before o) (here_is
    ∙ ap (λ (o : Option ModelFault). or_later (signed_fault o b.name) body) own_is
    ∙ ap
    (λ (o : Option SignedFault). or_later
    (signed_fault (let_fault ss names r (let_names (take i g)) (bound_value_of b))
    b.name) o) body_is))
    ∙ later_assoc before _ rest
    ∙ ap (λ (o : Option SignedFault). or_later before o) (later_assoc _ _ rest)
    ∙ sym (ap
    (λ (l : List Bound).
    or_later before (first_fault_in_group ss names from r (let_names (take i g)) l))
    bs) ∙ inv

pub all_bindings : (ss : List Sense) (names : List Naming) (from : ℕ) (r : Bool)
    (earlier : List (List ℕ)) (g : List Binding) (i : ℕ) (now total : Option SignedFault)
    → length g ≤ i
    → or_later now (first_fault_in_group ss names from r earlier (map bound_value_of (drop i g))) ≡ total
    → now ≡ total
all_bindings ss names from r earlier g i now total past e =
    sym (later_none now)
    ∙ sym (ap
    (λ (l : List Binding).
    or_later now (first_fault_in_group ss names from r earlier (map bound_value_of l)))
    (drop_all i g past)) ∙ e

pub next_parameter : (ps : List (List ℕ)) (i : ℕ) (p : List ℕ) (own : Option ModelFault)
    (before after here total : Option SignedFault) → i < length ps → p ≡ get_or ps i p
    → own ≡ of_parameter (reverse (take i ps)) p → here ≡ signed_fault own p
    → after ≡ or_later before here
    → or_later before (first_fault_in_parameters (reverse (take i ps)) (drop i ps)) ≡ total
    → or_later after (first_fault_in_parameters (reverse (take (i + 1) ps)) (drop (i + 1) ps))
    ≡ total
next_parameter ps i p own before after here total lt is own_is here_is after_is inv =
    let rest = first_fault_in_parameters (p ∷ reverse (take i ps)) (drop (i + 1) ps) in
    let ns : reverse (take (i + 1) ps) ≡ p ∷ reverse (take i ps) = rev_next ps i p lt ∙ ap (λ (x : List ℕ). x ∷ reverse (take i ps)) (sym is) in
    let qs : drop i ps ≡ p ∷ drop (i + 1) ps = drop-cons ps i p lt ∙ ap (λ (x : List ℕ). x ∷ drop (suc i) ps) (sym is) ∙ ap (λ (n : ℕ). p ∷ drop n ps) (sym (add-one i)) in
    ap (λ (l : List (List ℕ)). or_later after (first_fault_in_parameters l (drop (i + 1) ps))) ns
    ∙ ap (λ (o : Option SignedFault). or_later o rest) (after_is
    ∙ ap (λ (o : Option SignedFault). or_later before o) (here_is
    ∙ ap (λ (o : Option ModelFault). signed_fault o p) own_is))
    ∙ later_assoc before _ rest
    ∙ sym (ap
    (λ (l : List (List ℕ)).
    or_later before (first_fault_in_parameters (reverse (take i ps)) l)) qs) ∙ inv

pub all_parameters : (earlier ps : List (List ℕ)) (i : ℕ) (now total : Option SignedFault)
    → length ps ≤ i → or_later now (first_fault_in_parameters earlier (drop i ps)) ≡ total
    → now ≡ total
all_parameters earlier ps i now total past e =
    sym (later_none now)
    ∙ sym (ap (λ (l : List (List ℕ)). or_later now (first_fault_in_parameters earlier l))
    (drop_all i ps past)) ∙ e
