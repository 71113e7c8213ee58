-- What is found of an expression in the body of a function from what is found of its parts.
use Rattle.std.proofs.Common.{ℕ, suc, ◌≡◌, ◌<◌, ◌≤◌, ◌+◌, List, [], ◌∷◌, ◌++◌, length, reverse, get_or, Bool, true, false, ◌||◌, ◌&&◌, Option, Some, None, refl, sym, ap, ◌∙◌, arith}
use Rattle.std.specs.Prelude.{is_some, nat_eq}
use Rattle.std.proofs.Math.Bool.{or_assoc}
use Rattle.text_values.specs.declared.model.Expression.{Expression}
use Rattle.text_values.specs.declared.model.Infix.{Infix}
use Rattle.text_values.specs.ModelValues.{term_of}
use Rattle.text_values.specs.ModelValue.{Term, Atom, Join, Apply}
use Rattle.binding_kinds.specs.declared.fault.ModelFault.{ModelFault}
use Rattle.binding_kinds.specs.declared.function.Function.{Function}
use Rattle.binding_kinds.specs.declared.kinds.Kind.{Kind}
use Rattle.binding_kinds.specs.declared.kinds.Kind.TheVariants.{OfAny}
use Rattle.binding_kinds.specs.Value.{Naming}
use Rattle.binding_kinds.specs.Kinds.{found, kind_found, is_turned}
use Rattle.binding_kinds.specs.Combinations.{unknown}
use Rattle.binding_kinds.specs.Meanings.{parameter_of}
use Rattle.binding_kinds.specs.Verdict.{or_else, of_name}
use Rattle.binding_kinds.specs.Senses.{Sense, HasSense, sense_of, count_of}
use Rattle.binding_kinds.specs.Functions.{sense_seen, is_at, under_at, is_under_in, is_under_among}
use Rattle.binding_kinds.specs.First.{fault_inside, apply_fault, first_of_bodies, first_of_body}
use Rattle.binding_kinds.specs.Columns.{IsFilled, plain, none_gathered, infix_signature, of_applied as applied_to, with_one, signature_in, gathered_in}
use Rattle.binding_kinds.proofs.Applications.{count_arguments}
use Rattle.binding_kinds.proofs.Tables.{filled_as, parameter_below, parameter_kind, other_kind, gathered_more, applied_signature, refused_signature}
use Rattle.binding_functions.specs.declared.part.BodyPart.{BodyPart}
use Rattle.binding_functions.specs.declared.part.BodyArguments.{BodyArguments}
use Rattle.binding_functions.specs.Parts.{IsBodyPart, AreBodyParts}
use Rattle.binding_functions.proofs.Applied.{terms_in}

-- ---- names and operators

pub parameter_part : (ss : List Sense) (names : List Naming) (ps : List (List ℕ)) (rows : ℕ)
    (under : Bool) (x : List ℕ) (i : ℕ) (p : BodyPart) → parameter_of (reverse ps) x ≡ Some i
    → p.fault ≡ None
    → ((index : ℕ) → index < 8 → get_or p.under index false ≡ (under && nat_eq i index))
    → (length ps ≤ 8 → i < length ps
    → IsFilled unknown (length ps) rows (λ kinds. plain (get_or kinds i OfAny))
    p.column.items) → IsBodyPart ss names ps rows under (Atom x) p
parameter_part ss names ps rows under x i p is fault marks column = record {
  fault = fault ∙ sym (ap (λ (o : Option ℕ). fault_inside o (found names x)) is);
  marks = λ index lt. marks index lt ∙ sym (ap (λ (o : Option ℕ). under && is_at index o) is);
  column =
      λ few. filled_as unknown (length ps) rows _ _ p.column.items
      (λ ks long. ap plain (parameter_kind ps ks names x i long (sym is)))
      (column few (parameter_below ps x i (sym is)));
}

and_false : (b : Bool) → false ≡ (b && false)
and_false true = refl
and_false false = refl

pub other_part : (ss : List Sense) (names : List Naming) (ps : List (List ℕ)) (rows : ℕ)
    (under : Bool) (x : List ℕ) (kind : Kind) (p : BodyPart)
    → parameter_of (reverse ps) x ≡ None → p.fault ≡ of_name 0 false (found names x)
    → ((index : ℕ) → index < 8 → get_or p.under index false ≡ false)
    → kind ≡ kind_found (found names x)
    → IsFilled unknown (length ps) rows (λ kinds. plain kind) p.column.items
    → IsBodyPart ss names ps rows under (Atom x) p
other_part ss names ps rows under x kind p is fault marks kind_is column = record {
  fault = fault ∙ sym (ap (λ (o : Option ℕ). fault_inside o (found names x)) is);
  marks =
      λ index lt. marks index lt
      ∙ (and_false under ∙ sym (ap (λ (o : Option ℕ). under && is_at index o) is));
  column =
      λ few. filled_as unknown (length ps) rows _ _ p.column.items
      (λ ks long. ap plain (kind_is ∙ other_kind ps ks names x long (sym is))) column;
}

pub joined_part : (ss : List Sense) (names : List Naming) (ps : List (List ℕ)) (rows : ℕ)
    (under : Bool) (op : Infix) (a b : Term) (x y z : BodyPart)
    → IsBodyPart ss names ps rows under a x → IsBodyPart ss names ps rows (is_turned op under) b y
    → z.fault ≡ or_else x.fault y.fault
    → ((index : ℕ) → index < 8
    → get_or z.under index false
    ≡ (get_or x.under index false || get_or y.under index false))
    → (length ps ≤ 8
    → IsFilled unknown (length ps) rows
    (λ kinds. infix_signature op (signature_in ss names ps a kinds)
    (signature_in ss names ps b kinds)) z.column.items)
    → IsBodyPart ss names ps rows under (Join op a b) z
joined_part ss names ps rows under op a b x y z left right fault marks column = record {
  fault = rw (← left.fault, ← right.fault) fault;
  marks = λ index lt. rw (← left.marks index lt, ← right.marks index lt) (marks index lt);
  column = column;
}

-- ---- arguments

or_else_assoc : (a b c : Option ModelFault) → or_else a (or_else b c) ≡ or_else (or_else a b) c
or_else_assoc None b c = refl
or_else_assoc (Some k) b c = refl

or_else_none : (a : Option ModelFault) → or_else a None ≡ a
or_else_none None = refl
or_else_none (Some k) = refl

or_false : (b : Bool) → (b || false) ≡ b
or_false true = refl
or_false false = refl

first_last : (ss : List Sense) (names : List Naming) (ps : List (List ℕ)) (xs : List Expression)
    (e : Expression)
    → first_of_bodies ss names ps (terms_in (xs ++ e ∷ []))
    ≡ or_else (first_of_bodies ss names ps (terms_in xs))
    (first_of_body ss names ps (term_of e))
first_last ss names ps [] e = or_else_none (first_of_body ss names ps (term_of e))
first_last ss names ps (x ∷ xs) e =
    ap (or_else (first_of_body ss names ps (term_of x))) (first_last ss names ps xs e)
    ∙ or_else_assoc (first_of_body ss names ps (term_of x))
    (first_of_bodies ss names ps (terms_in xs)) (first_of_body ss names ps (term_of e))

under_last : (ss : List Sense) (names : List Naming) (ps : List (List ℕ)) (index : ℕ) (under : Bool)
    (turned : ℕ → Bool) (i n : ℕ) (xs : List Expression) (e : Expression) → n ≡ i + length xs
    → is_under_among ss names ps index under turned i (terms_in (xs ++ e ∷ [])) ≡ (is_under_among ss
    names ps index under turned i (terms_in xs)
    || is_under_in ss names ps index (under || turned n) (term_of e))
under_last ss names ps index under turned i n [] e is =
    let same : n ≡ i = omega (arith, is) in
    or_false (is_under_in ss names ps index (under || turned i) (term_of e))
    ∙ sym (ap (λ (k : ℕ). is_under_in ss names ps index (under || turned k) (term_of e)) same)
under_last ss names ps index under turned i n (x ∷ xs) e is =
    let one = is_under_in ss names ps index (under || turned i) (term_of x) in
    ap (λ (b : Bool). one || b) (under_last ss names ps index under turned (suc i) n xs e
    (omega (arith, is)))
    ∙ sym (or_assoc one (is_under_among ss names ps index under turned (suc i) (terms_in xs))
    (is_under_in ss names ps index (under || turned n) (term_of e)))

pub more_parts : (ss : List Sense) (names : List Naming) (ps : List (List ℕ)) (rows : ℕ)
    (under : Bool) (turned : ℕ → Bool) (xs : List Expression) (e : Expression) (i : ℕ)
    (before after : BodyArguments) (one : BodyPart) → length xs ≡ i
    → IsBodyPart ss names ps rows (under || turned i) (term_of e) one
    → AreBodyParts ss names ps rows under turned xs before
    → after.fault ≡ or_else before.fault one.fault
    → ((index : ℕ) → index < 8
    → get_or after.under index false
    ≡ (get_or before.under index false || get_or one.under index false))
    → (length ps ≤ 8
    → IsFilled none_gathered (length ps) rows
    (λ kinds. with_one i (gathered_in ss names ps (terms_in xs) kinds)
    (signature_in ss names ps (term_of e) kinds)) after.known.items)
    → AreBodyParts ss names ps rows under turned (xs ++ e ∷ []) after
more_parts ss names ps rows under turned xs e i before after one long part all fault marks known =
    record {
      fault =
          fault
          ∙ (ap (λ (o : Option ModelFault). or_else o one.fault) all.fault
          ∙ (ap (or_else (first_of_bodies ss names ps (terms_in xs))) part.fault
          ∙ sym (first_last ss names ps xs e)));
      marks =
          λ index lt. marks index lt
          ∙ (ap (λ (b : Bool). b || get_or one.under index false) (all.marks index lt)
          ∙ (ap (λ (b : Bool). is_under_among ss names ps index under turned 0 (terms_in xs) || b)
          (part.marks index lt)
          ∙ sym (under_last ss names ps index under turned 0 i xs e (omega (arith, long)))));
      known =
          λ few. filled_as none_gathered (length ps) rows _ _ after.known.items
          (λ ks same. gathered_more ss names ps xs i e ks long) (known few);
    }

-- ---- applications

pub applied_part : (ss : List Sense) (names : List Naming) (ps : List (List ℕ)) (rows : ℕ)
    (under : Bool) (x : List ℕ) (xs : List Expression) (f : Function) (s : Sense)
    (a : BodyArguments) (p : BodyPart) → HasSense f s → length xs ≡ s.arity
    → sense_seen ss names ps (length xs) x ≡ Some s
    → apply_fault (parameter_of (reverse ps) x) (sense_of ss (length xs) (found names x)) ≡ None
    → AreBodyParts ss names ps rows under s.is_under xs a → p.fault ≡ a.fault
    → p.under ≡ a.under
    → (length ps ≤ 8
    → IsFilled unknown (length ps) rows
    (λ kinds. applied_to f (gathered_in ss names ps (terms_in xs) kinds))
    p.column.items) → IsBodyPart ss names ps rows under (Apply x (terms_in xs)) p
applied_part ss names ps rows under x xs f s a p kept long seen faultless all fault marks column =
    let ts = terms_in xs in
    let count = count_arguments xs in
    let is : sense_seen ss names ps (count_of ts) x ≡ Some s = ap (λ (m : ℕ). sense_seen ss names ps m x) count ∙ seen in
    let none : apply_fault (parameter_of (reverse ps) x) (sense_of ss (count_of ts) (found names x)) ≡ None = ap (λ (m : ℕ). apply_fault (parameter_of (reverse ps) x) (sense_of ss m (found names x))) count ∙ faultless in record {
      fault =
          fault
          ∙ (all.fault
          ∙ sym (ap (λ (o : Option ModelFault). or_else o (first_of_bodies ss names ps ts))
          none));
      marks =
          λ index lt. ap (λ (l : List Bool). get_or l index false) marks
          ∙ (all.marks index lt
          ∙ sym (ap
          (λ (o : Option Sense). is_some o
          && is_under_among ss names ps index under (under_at o) 0 ts) is));
      column =
          λ few. filled_as unknown (length ps) rows _ _ p.column.items
          (λ ks same. applied_signature ss names ps x xs f s ks kept seen long) (column few);
    }

pub refused_part : (ss : List Sense) (names : List Naming) (ps : List (List ℕ)) (rows : ℕ)
    (under : Bool) (x : List ℕ) (xs : List Expression) (k : ModelFault) (p : BodyPart)
    → sense_seen ss names ps (length xs) x ≡ None
    → apply_fault (parameter_of (reverse ps) x) (sense_of ss (length xs) (found names x)) ≡ Some k
    → p.fault ≡ Some k → ((index : ℕ) → index < 8 → get_or p.under index false ≡ false)
    → IsFilled unknown (length ps) rows (λ kinds. plain OfAny) p.column.items
    → IsBodyPart ss names ps rows under (Apply x (terms_in xs)) p
refused_part ss names ps rows under x xs k p seen faulty fault marks column =
    let ts = terms_in xs in
    let count = count_arguments xs in
    let is : sense_seen ss names ps (count_of ts) x ≡ None = ap (λ (m : ℕ). sense_seen ss names ps m x) count ∙ seen in
    let own : apply_fault (parameter_of (reverse ps) x) (sense_of ss (count_of ts) (found names x)) ≡ Some k = ap (λ (m : ℕ). apply_fault (parameter_of (reverse ps) x) (sense_of ss m (found names x))) count ∙ faulty in record {
      fault =
          fault
          ∙ sym (ap (λ (o : Option ModelFault). or_else o (first_of_bodies ss names ps ts)) own);
      marks =
          λ index lt. marks index lt
          ∙ sym (ap
          (λ (o : Option Sense). is_some o
          && is_under_among ss names ps index under (under_at o) 0 ts) is);
      column =
          λ few. filled_as unknown (length ps) rows _ _ p.column.items
          (λ ks same. refused_signature ss names ps x xs ks seen) column;
    }
