-- The first fault of items, and the names that are seen behind them, are the same to both.
use Rattle.std.proofs.Common.{ℕ, suc, ◌≡◌, ◌<◌, ◌≤◌, ◌+◌, inl, inr, List, [], ◌∷◌, ◌++◌, length, map, Bool, true, false, ◌&&◌, ◌||◌, Option, Some, None, refl, ap, sym, ◌∙◌, arith, bytes_eq}
use Rattle.std.specs.Prelude.{nat_le, nat_lt, not, if◌then◌else◌, filter}
use Rattle.std.proofs.lemmas.Bool.{leb-true, le-leb, ltb-true, lt-ltb, cases_lt}
use Rattle.text_values.specs.ModelValue.{Term, Clause, Binding, Function, Checking, Flagging, Showing, Including}
use Rattle.binding_kinds.specs.declared.fault.ModelFault as program
use Rattle.binding_kinds.specs.declared.fault.ModelFault.TheVariants as program_faults
use Rattle.binding_kinds.specs.declared.kinds.Kind.TheVariants as kinds
use Rattle.binding_kinds.specs.Value.{Naming, Bound, BareItem, Group, Check, Mute, Defined}
use Rattle.binding_kinds.specs.Kinds as of_program
use Rattle.binding_kinds.specs.Verdict.{or_else, unless, is_seen, of_parameter, of_parameters, is_of_set}
use Rattle.binding_kinds.specs.Senses.{Sense, kind_in, term_fault}
use Rattle.binding_kinds.specs.Functions.{sense_of_function}
use Rattle.binding_kinds.specs.Faults as of_items
use Rattle.binding_kinds.specs.Faults.{naming_at, with_own, with_all, senses_after}
use Rattle.binding_kinds.specs.First.{let_fault, first_in, first_of_body, first_of_item, first}
use Rattle.meaning.specs.Names.{Name}
use Rattle.meaning.specs.Faults as meant
use Rattle.meaning.specs.Faults.{KindOf, OfSet, OfRelation, OfAny, ModelFault, Kind, Duplicate, SetInRec, TooLarge, Scope, is_relation, takes_body, fault_if, in_term, in_body, is_body_fault, is_among, faults_of_parameters, faults_of_group, with_group, scope_with_bodies, faults_of_check, faults_of_item, faults_from}
use Rattle.meaning_faults.specs.Laws.{head_of}
use Rattle.meaning_faults.proofs.Likeness.{kind_to, body_same, head_append, or_parts}
use Rattle.meaning_faults.proofs.Scopes.{AreTied, not_before, tied_again, tied_more, last_sense}
use Rattle.meaning_faults.proofs.Clashes.{none_first, fault_inside_body}
use Rattle.meaning_faults.proofs.Falling.{function_same}
use Rattle.meaning_faults.proofs.Terms.{kind_same, fault_same, head_parts, unless_same}

-- ---- items, as the program has them

abbrev pub bound_from : Name × Term → Bound
bound_from b = record { name = b.0; body = b.1 }

abbrev pub bare_of : Clause → BareItem
bare_of (Binding recursive group) = Group recursive (map bound_from group)
bare_of (Function n ps body) = Defined n ps body
bare_of (Checking check label) = Check check.word check.body
bare_of (Flagging check label) = Check check.word check.body
bare_of (Showing hidden shown) = Mute
bare_of (Including path) = Mute

-- ---- names that stand twice

seen_same : (ns : List Name) (x : Name) → is_among ns x ≡ is_seen ns x
seen_same [] x = refl
seen_same (n ∷ ns) x = ap (λ (b : Bool). bytes_eq n x || b) (seen_same ns x)

few_same : (n : ℕ) → nat_lt n 8 ≡ not (nat_le 8 n)
few_same n = at_tests (nat_lt n 8) (nat_le 8 n) (ltb-true n 8) (lt-ltb n 8) (leb-true 8 n) (le-leb 8 n)
  where
    at_tests : (b c : Bool) → (b ≡ true → n < 8) → (n < 8 → b ≡ true) → (c ≡ true → 8 ≤ n)
        → (8 ≤ n → c ≡ true) → b ≡ not c
    at_tests true true lt is le so =
        let l = lt refl in let m = le refl in absurd (omega (arith, l, m))
    at_tests true false lt is le so = refl
    at_tests false true lt is le so = refl
    at_tests false false lt is le so = elim (cases_lt n 8) [
      | inl less ↦ let e : false ≡ true = is less in absurd (let f : false ≡ true = e in cc)
      | inr more ↦ let e : false ≡ true = so more in absurd (let f : false ≡ true = e in cc)
    ]

parameter_parts : (b c : Bool) (ks : List ModelFault)
    → head_of (fault_if b Duplicate ++ (fault_if c TooLarge ++ ks))
    ≡ or_else (if b then Some program_faults.Duplicate
    else unless (not c) program_faults.TooLarge) (head_of ks)
parameter_parts true c ks = refl
parameter_parts false true ks = refl
parameter_parts false false ks = refl

parameters_same : (earlier ps : List Name)
    → head_of (faults_of_parameters earlier ps) ≡ of_parameters earlier ps
parameters_same earlier [] = refl
parameters_same earlier (p ∷ ps) =
    parameter_parts (is_among earlier p) (nat_le 8 (length earlier))
    (faults_of_parameters (p ∷ earlier) ps)
    ∙ or_parts _ _ (of_parameter earlier p) (of_parameters (p ∷ earlier) ps)
    (rw (seen_same earlier p, few_same (length earlier)) refl) (parameters_same (p ∷ earlier) ps)

-- ---- groups

set_kind : (k : KindOf) → not (is_relation k) ≡ is_of_set (kind_to k)
set_kind OfSet = refl
set_kind OfRelation = refl
set_kind OfAny = refl

binding_parts : (b c : Bool) (ks : List ModelFault)
    → head_of (fault_if b Duplicate ++ (fault_if c SetInRec ++ ks))
    ≡ or_else (if b then Some program_faults.Duplicate
    else if c then Some program_faults.SetInRec else None) (head_of ks)
binding_parts true c ks = refl
binding_parts false true ks = refl
binding_parts false false ks = refl

let_same : (b c d e : Bool) → b ≡ d → c ≡ e
    → (if b then Some program_faults.Duplicate
    else if c then Some program_faults.SetInRec else None)
    ≡ (if d then Some program_faults.Duplicate
    else if e then Some program_faults.SetInRec else None)
let_same b c d e f g = rw (f, g) refl

group_same : (ss : List Sense) (from : ℕ) (names : List Naming) (S : Scope)
    → AreTied ss from names S → (recursive : Bool) (earlier : List Name)
    (bs : List (Name × Term))
    → head_of (faults_of_group S recursive earlier bs)
    ≡ first_in ss names from recursive earlier (map bound_from bs)
group_same ss from names S tied recursive earlier [] = refl
group_same ss from names S tied recursive earlier (b ∷ bs) =
    binding_parts (is_among earlier b.0)
    (recursive && not (is_relation (in_term false S false b.1).kind))
    ((in_term false S false b.1).faults ++ faults_of_group S recursive (b.0 ∷ earlier) bs)
    ∙ or_parts _ _ (let_fault ss names recursive earlier (bound_from b))
    (or_else (term_fault ss names from false b.1)
    (first_in ss names from recursive (b.0 ∷ earlier) (map bound_from bs)))
    (let_same (is_among earlier b.0)
    (recursive && not (is_relation (in_term false S false b.1).kind)) (is_seen earlier b.0)
    (recursive && is_of_set (kind_in ss names b.1)) (seen_same earlier b.0)
    (ap (λ (c : Bool). recursive && c)
    (set_kind (in_term false S false b.1).kind
    ∙ ap is_of_set (sym (kind_same ss from names S tied false b.1)))))
    (head_parts (in_term false S false b.1).faults _ _ _
    (fault_same ss from names S tied false b.1)
    (group_same ss from names S tied recursive (b.0 ∷ earlier) bs))

-- the names of a recursive group, seen in the group itself
own_inside : (ss : List Sense) (from : ℕ) (names : List Naming) (S : Scope) (item at : ℕ)
    (bs : List (Name × Term)) → AreTied ss from names S → from ≤ length names
    → AreTied ss from (with_own names item at (map bound_from bs)) (with_group true bs S)
own_inside ss from names S item at [] tied le = tied
own_inside ss from names S item at (b ∷ bs) tied le =
    own_inside ss from (naming_at item at (bound_from b) kinds.OfRelation ∷ names)
    ((b.0, meant.AsValue (meant.value_with OfRelation 1 true)) ∷ S) item (suc at) bs (
      refl,
      record { kind = refl; size = refl; recursive = sym (le-leb from (length names) le) },
      tied,
    ) (omega (arith, le))

-- and behind it
own_behind : (ss : List Sense) (from : ℕ) (names : List Naming) (S : Scope) (item at : ℕ)
    (bs : List (Name × Term)) → AreTied ss from names S → length names + length bs ≤ from
    → AreTied ss from (with_own names item at (map bound_from bs)) (with_group false bs S)
own_behind ss from names S item at [] tied le = tied
own_behind ss from names S item at (b ∷ bs) tied le =
    own_behind ss from (naming_at item at (bound_from b) kinds.OfRelation ∷ names)
    ((b.0, meant.AsValue (meant.value_with OfRelation 1 false)) ∷ S) item (suc at) bs (
      refl,
      record {
        kind = refl;
        size = refl;
        recursive = sym (not_before from (length names) (omega (arith, le)));
      },
      tied,
    ) (omega (arith, le))

long_own : (names : List Naming) (item at : ℕ) (bs : List (Name × Term))
    → length (with_own names item at (map bound_from bs)) ≡ length names + length bs
long_own names item at [] = omega arith
long_own names item at (b ∷ bs) =
    let e =
    long_own (naming_at item at (bound_from b) kinds.OfRelation ∷ names) item (suc at) bs in
    omega (arith, e)

-- the names of another group
all_behind : (ss : List Sense) (base : ℕ) (outer : List Naming) (O : Scope)
    → AreTied ss base outer O → (from : ℕ) (names : List Naming) (S : Scope) (item at : ℕ)
    (bs : List (Name × Term)) → AreTied ss from names S → length names + length bs ≤ from
    → AreTied ss from (with_all ss outer names item at (map bound_from bs)) (scope_with_bodies O bs S)
all_behind ss base outer O around from names S item at [] tied le = tied
all_behind ss base outer O around from names S item at (b ∷ bs) tied le =
    all_behind ss base outer O around from
    (naming_at item at (bound_from b) (kind_in ss outer b.1) ∷ names)
    ((b.0, meant.AsValue (meant.value_with (in_term false O false b.1).kind 1 false)) ∷ S) item
    (suc at) bs (
      refl,
      record {
        kind = kind_same ss base outer O around false b.1;
        size = refl;
        recursive = sym (not_before from (length names) (omega (arith, le)));
      },
      tied,
    ) (omega (arith, le))

long_all : (ss : List Sense) (outer names : List Naming) (item at : ℕ)
    (bs : List (Name × Term))
    → length (with_all ss outer names item at (map bound_from bs)) ≡ length names + length bs
long_all ss outer names item at [] = omega arith
long_all ss outer names item at (b ∷ bs) =
    let e =
    long_all ss outer (naming_at item at (bound_from b) (kind_in ss outer b.1) ∷ names) item
    (suc at) bs in
    omega (arith, e)

-- ---- items

check_same : (ss : List Sense) (names : List Naming) (S : Scope)
    → AreTied ss (length names) names S → (item : ℕ) (check : _)
    → head_of (faults_of_check S check)
    ≡ first_of_item ss names item (Check check.word check.body)
check_same ss names S tied item check =
    head_parts _ (in_term false S false check.body).faults _ _
    (unless_same (of_program.takes_body check.word (kind_in ss names check.body))
    (takes_body check.word (in_term false S false check.body).kind)
    (ap (of_program.takes_body check.word)
    (kind_same ss (length names) names S tied false check.body)
    ∙ body_same check.word (in_term false S false check.body).kind))
    (fault_same ss (length names) names S tied false check.body)

pub item_same : (ss : List Sense) (names : List Naming) (S : Scope)
    → AreTied ss (length names) names S → (item : ℕ) (c : Clause)
    → head_of (faults_of_item S c) ≡ first_of_item ss names item (bare_of c)
item_same ss names S tied item (Binding true group) =
    group_same ss (length names) (with_own names item 0 (map bound_from group))
    (with_group true group S)
    (own_inside ss (length names) names S item 0 group tied (omega arith)) true [] group
item_same ss names S tied item (Binding false group) =
    group_same ss (length names) names S tied false [] group
item_same ss names S tied item (Function n ps body) =
    head_parts (faults_of_parameters [] ps) (filter is_body_fault (in_body S ps body []).faults)
    _ _ (parameters_same [] ps)
    (fault_inside_body ss (length names) names ps [] S tied false body)
item_same ss names S tied item (Checking check label) = check_same ss names S tied item check
item_same ss names S tied item (Flagging check label) = check_same ss names S tied item check
item_same ss names S tied item (Showing hidden shown) = refl
item_same ss names S tied item (Including path) = refl

-- An item without fault leaves the names the same to both.
pub names_same : (ss : List Sense) (names : List Naming) (S : Scope)
    → AreTied ss (length names) names S → (item : ℕ) (c : Clause)
    → first_of_item ss names item (bare_of c) ≡ None
    → AreTied (senses_after ss names (bare_of c))
    (length (of_items.names_after ss names item (bare_of c)))
    (of_items.names_after ss names item (bare_of c)) (meant.known_after S c)
names_same ss names S tied item (Binding true group) none =
    let long = long_own names item 0 group in
    own_behind ss (length (with_own names item 0 (map bound_from group))) names S item 0 group
    (tied_again ss (length names) (length (with_own names item 0 (map bound_from group))) names S
    tied (omega arith) (omega (arith, long))) (omega (arith, long))
names_same ss names S tied item (Binding false group) none =
    let long = long_all ss names names item 0 group in
    all_behind ss (length names) names S tied
    (length (with_all ss names names item 0 (map bound_from group))) names S item 0 group
    (tied_again ss (length names) (length (with_all ss names names item 0 (map bound_from group)))
    names S tied (omega arith) (omega (arith, long))) (omega (arith, long))
names_same ss names S tied item (Function n ps body) none =
    let split = none_first (of_parameters [] ps) (first_of_body ss names ps body) none in
    let s : Sense = sense_of_function ss names ps body in (
      refl,
      record {
        kind = refl;
        sense = sense_of_function ss names ps body;
        there = last_sense ss (sense_of_function ss names ps body);
        same = function_same ss (length names) names S ps body tied (omega arith) split.1;
      },
      tied_more ss (sense_of_function ss names ps body) (suc (length names)) names S
          (tied_again ss (length names) (suc (length names)) names S tied (omega arith)
          (omega arith)),
    )
names_same ss names S tied item (Checking check label) none = tied
names_same ss names S tied item (Flagging check label) none = tied
names_same ss names S tied item (Showing hidden shown) none = tied
names_same ss names S tied item (Including path) none = tied

-- ---- models

pub items_same : (ss : List Sense) (names : List Naming) (S : Scope)
    → AreTied ss (length names) names S → (item : ℕ) (cs : List Clause)
    → head_of (faults_from S cs) ≡ first ss names item (map bare_of cs)
items_same ss names S tied item [] = refl
items_same ss names S tied item (c ∷ cs) =
    head_append (faults_of_item S c) (faults_from (meant.known_after S c) cs)
    ∙ (ap (λ (o : Option program.ModelFault). or_else o
    (head_of (faults_from (meant.known_after S c) cs))) (item_same ss names S tied item c)
    ∙ at_fault (first_of_item ss names item (bare_of c)) (λ none.
    items_same (senses_after ss names (bare_of c))
    (of_items.names_after ss names item (bare_of c)) (meant.known_after S c)
    (names_same ss names S tied item c none) (item + 1) cs))
  where
    at_fault : (o : Option program.ModelFault)
        → (o ≡ None → head_of (faults_from (meant.known_after S c) cs)
        ≡ first (senses_after ss names (bare_of c))
        (of_items.names_after ss names item (bare_of c)) (item + 1) (map bare_of cs))
        → or_else o (head_of (faults_from (meant.known_after S c) cs))
        ≡ or_else o (first (senses_after ss names (bare_of c))
        (of_items.names_after ss names item (bare_of c)) (item + 1) (map bare_of cs))
    at_fault None rest = rest refl
    at_fault (Some k) rest = refl
