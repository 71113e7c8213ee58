-- The machine takes the expression that a tree spells.
use Rattle.std.proofs.Common.{◌≡◌, ℕ, ◌+◌, ◌<◌, ◌≤◌, Bool, true, false, List, [], ◌∷◌, ◌++◌, Option, None, Result, Ok, Err, length, refl, sym, ap, ◌∙◌, arith}
use Rattle.std.specs.Prelude.{if◌then◌else◌}
use Rattle.std.proofs.lemmas.Bool.{le-leb, lt-leb, lt-ltb}
use Rattle.cat_tokens.specs.declared.rule.CatRule.{CatRule}
use Rattle.cat_tokens.specs.declared.rule.CatRule.TheVariants as rules
use Rattle.text_values.specs.declared.model.CheckWord.{CheckWord}
use Rattle.cat_grammar.specs.declared.form.Form.{Form}
use Rattle.cat_tokens.specs.declared.token.Sign.TheVariants.{Bar, Semicolon, Backslash, Ampersand}
use Rattle.cat_tokens.specs.declared.token.Mark.TheVariants.{Plus, Question, Inverse}
use Rattle.cat_tokens.specs.declared.token.Token.{Token}
use Rattle.cat_tokens.specs.declared.token.Token.TheVariants as tokens
use Rattle.text_values.specs.declared.model.Infix.{Infix}
use Rattle.text_values.specs.declared.model.Infix.TheVariants.{Union, Sequence, Difference, Intersection, Product}
use Rattle.text_values.specs.declared.model.Postfix.{Postfix}
use Rattle.text_values.specs.declared.model.Postfix.TheVariants as postfix
use Rattle.text_values.specs.ModelValue.{Term, Terms, Clause, Atom, AllEvents, EmptyRelation, EmptySet, Join, Mark, Not, On, Apply, OneMore, NoTerm, gathered}
use Rattle.cat_grammar.specs.Grammar.{Tree, Word, Underscore, Zero, Braces, Pair, Post, Prefix, Group, Square, Application, Trees, Last, More, infix_token, postfix_token, spelled, spelled_arguments, meaning, meanings, infix_level, left_level, right_level, tightness, IsGrouped, AreGrouped, depth, depths, operators, operators_of, Limits}
use Rattle.cat_grammar.specs.Machine.{TermFrame, InGroup, InSquare, InPrefix, LeftOf, InArguments, TermExpectation, Wants, HasName, Has, HasStar, HasStarTilde, TermStep, Goes, Ends, EndsTilde, Refuses, open_count, fold_to, is_outermost, term_opened, left_frames, infix_at, term_ended, term_closed, square_closed, comma_read, star_tilde}
use Rattle.cat_grammar.specs.ItemMachine.{Head, Body, AfterTilde, Fault, ItemState, begin_check, excess, unless, unless_before, item_or_end, finished, at, added, goes_on}
use Rattle.cat_grammar.proofs.Runs.{◌>>=◌, run_over}
use Rattle.cat_grammar.proofs.Branches.{right_level-le, IsOutermost, is_outermost-true}

-- what stands open, and the operand, once a tree is read
abbrev pub pending : Tree → List TermFrame → List TermFrame × Term
pending (Word n) fs = (fs, Atom n)
pending Underscore fs = (fs, AllEvents)
pending Zero fs = (fs, EmptyRelation)
pending Braces fs = (fs, EmptySet)
pending (Pair op a b) fs = pending b (LeftOf op (meaning a) ∷ fs)
pending (Post op a) fs = (fs, Mark op (meaning a))
pending (Prefix a) fs = pending a (InPrefix ∷ fs)
pending (Group a) fs = (fs, meaning a)
pending (Square a) fs = (fs, On (meaning a))
pending (Application n arguments) fs = (fs, Apply n (meanings arguments))

abbrev pub wanted : List TermFrame → ℕ
wanted [] = 0
wanted (InGroup ∷ fs) = 0
wanted (InSquare ∷ fs) = 0
wanted (InArguments n args ∷ fs) = 0
wanted (InPrefix ∷ fs) = 6
wanted (LeftOf op a ∷ fs) = right_level op

pub level-le : (op : Infix) → infix_level op ≤ 5
level-le Union = omega arith
level-le Sequence = omega arith
level-le Difference = omega arith
level-le Intersection = omega arith
level-le Product = omega arith

level-le-right : (op : Infix) → infix_level op ≤ right_level op
level-le-right Union = omega arith
level-le-right Sequence = omega arith
level-le-right Difference = omega arith
level-le-right Intersection = omega arith
level-le-right Product = omega arith

pub level-le-left : (op : Infix) → infix_level op ≤ left_level op
level-le-left Union = omega arith
level-le-left Sequence = omega arith
level-le-left Difference = omega arith
level-le-left Intersection = omega arith
level-le-left Product = omega arith

wanted-le : (fs : List TermFrame) → wanted fs ≤ 6
wanted-le [] = omega arith
wanted-le (InGroup ∷ fs) = omega arith
wanted-le (InSquare ∷ fs) = omega arith
wanted-le (InArguments n args ∷ fs) = omega arith
wanted-le (InPrefix ∷ fs) = omega arith
wanted-le (LeftOf op a ∷ fs) = let h = right_level-le op in omega arith

-- an operator that takes this one as its right operand is looser
stays : (o p : Infix) → right_level p ≤ infix_level o → infix_level p < left_level o
stays Union Union h = omega arith
stays Union Sequence h = omega arith
stays Union Difference h = omega arith
stays Union Intersection h = omega arith
stays Union Product h = omega arith
stays Sequence Union h = omega arith
stays Sequence Sequence h = omega arith
stays Sequence Difference h = omega arith
stays Sequence Intersection h = omega arith
stays Sequence Product h = omega arith
stays Difference Union h = omega arith
stays Difference Sequence h = omega arith
stays Difference Difference h = omega arith
stays Difference Intersection h = omega arith
stays Difference Product h = omega arith
stays Intersection Union h = omega arith
stays Intersection Sequence h = omega arith
stays Intersection Difference h = omega arith
stays Intersection Intersection h = omega arith
stays Intersection Product h = omega arith
stays Product Union h = omega arith
stays Product Sequence h = omega arith
stays Product Difference h = omega arith
stays Product Intersection h = omega arith
stays Product Product h = omega arith

pub fold_pending : (t : Tree) (fs : List TermFrame) (l : ℕ) → IsGrouped t → l ≤ tightness t
    → fold_to l (pending t fs).0 (pending t fs).1 ≡ fold_to l fs (meaning t)
fold_pending (Word n) fs l g h = refl
fold_pending Underscore fs l g h = refl
fold_pending Zero fs l g h = refl
fold_pending Braces fs l g h = refl
fold_pending (Square a) fs l g h = refl
fold_pending (Application n arguments) fs l g h = refl
fold_pending (Pair op a b) fs l g h =
    let r = level-le-right op in
    let e = le-leb l (infix_level op) h in
    fold_pending b (LeftOf op (meaning a) ∷ fs) l g.3 (omega (arith, g.1))
    ∙ ap
    (λ (x : Bool). if x then fold_to l fs (Join op (meaning a) (meaning b))
    else (LeftOf op (meaning a) ∷ fs, meaning b)) e
fold_pending (Post op a) fs l g h = refl
fold_pending (Prefix a) fs l g h = fold_pending a (InPrefix ∷ fs) l g.1 (omega (arith, g.0))
fold_pending (Group a) fs l g h = refl

tight_pending : (t : Tree) (fs : List TermFrame) → 7 ≤ tightness t → pending t fs ≡ (fs, meaning t)
tight_pending (Word n) fs h = refl
tight_pending Underscore fs h = refl
tight_pending Zero fs h = refl
tight_pending Braces fs h = refl
tight_pending (Square a) fs h = refl
tight_pending (Application n arguments) fs h = refl
tight_pending (Pair op a b) fs h = let e = level-le op in absurd (omega arith)
tight_pending (Post op a) fs h = refl
tight_pending (Prefix a) fs h = absurd (omega arith)
tight_pending (Group a) fs h = refl

-- an infix operator joins nothing where it may stand
fold_stays : (op : Infix) (fs : List TermFrame) (v : Term) → wanted fs ≤ infix_level op
    → fold_to (left_level op) fs v ≡ (fs, v)
fold_stays op [] v h = refl
fold_stays op (InGroup ∷ fs) v h = refl
fold_stays op (InSquare ∷ fs) v h = refl
fold_stays op (InArguments n args ∷ fs) v h = refl
fold_stays op (InPrefix ∷ fs) v h = let e = level-le op in absurd (omega arith)
fold_stays op (LeftOf o a ∷ fs) v h =
    ap (λ (x : Bool). if x then fold_to (left_level op) fs (Join o a v) else (LeftOf o a ∷ fs, v))
    (lt-leb (left_level op) (infix_level o) (stays op o h))

infix_pending : (op : Infix) (a : Tree) (fs : List TermFrame) → IsGrouped a
    → left_level op ≤ tightness a → wanted fs ≤ infix_level op
    → infix_at op (pending a fs).0 (pending a fs).1 ≡ LeftOf op (meaning a) ∷ fs
infix_pending op a fs g h w =
    ap (left_frames op) (fold_pending a fs (left_level op) g h ∙ fold_stays op fs (meaning a) w)

outer : (fs : List TermFrame) (v : Term) → IsOutermost fs → (x : Term) × (fold_to 0 fs v ≡ ([], x))
outer [] v h = (v, refl)
outer (InGroup ∷ fs) v h = absurd h
outer (InSquare ∷ fs) v h = absurd h
outer (InArguments n args ∷ fs) v h = absurd h
outer (InPrefix ∷ fs) v h = outer fs (Not v) h
outer (LeftOf op a ∷ fs) v h =
    let r = outer fs (Join op a v) h in
    let e = le-leb 0 (infix_level op) (omega arith) in (
      r.0,
      ap (λ (x : Bool). if x then fold_to 0 fs (Join op a v) else (LeftOf op a ∷ fs, v)) e
          ∙ r.1,
    )

abbrev pub BeginsWithCheck : List Token → Type 0
BeginsWithCheck (tokens.Check w ∷ ts) = Unit {0}
BeginsWithCheck _ = ⊥

-- what may follow an expression
abbrev pub CanFollow : Type 0 → List Token → Type 0
CanFollow outermost [] = ⊥
CanFollow outermost (tokens.Name n ∷ ts) = ⊥
CanFollow outermost (tokens.Open ∷ ts) = ⊥
CanFollow outermost (tokens.OpenSquare ∷ ts) = ⊥
CanFollow outermost (tokens.OpenBrace ∷ ts) = ⊥
CanFollow outermost (tokens.Underscore ∷ ts) = ⊥
CanFollow outermost (tokens.Zero ∷ ts) = ⊥
CanFollow outermost (tokens.Tilde ∷ ts) = outermost × BeginsWithCheck ts
CanFollow outermost (_ ∷ ts) = Unit {0}

infix_follows : (outermost : Type 0) (op : Infix) (ts : List Token)
    → CanFollow outermost (infix_token op ∷ ts)
infix_follows outermost Union ts = tt
infix_follows outermost Sequence ts = tt
infix_follows outermost Difference ts = tt
infix_follows outermost Intersection ts = tt
infix_follows outermost Product ts = tt

postfix_follows : (outermost : Type 0) (op : Postfix) (ts : List Token)
    → CanFollow outermost (postfix_token op ∷ ts)
postfix_follows outermost postfix.Transitive ts = tt
postfix_follows outermost postfix.Reflexive ts = tt
postfix_follows outermost postfix.Inverse ts = tt
postfix_follows outermost postfix.Closure ts = tt

-- arguments that were read, and the others
abbrev pub appended : List Term → Terms → Terms
appended [] others = others
appended (d ∷ ds) others = OneMore d (appended ds others)

gathered-push : (ds : List Term) (v : Term)
    → gathered (ds ++ v ∷ []) ≡ appended ds (OneMore v NoTerm)
gathered-push [] v = refl
gathered-push (d ∷ ds) v = ap (OneMore d) (gathered-push ds v)

appended-push : (ds : List Term) (v : Term) (others : Terms)
    → appended (ds ++ v ∷ []) others ≡ appended ds (OneMore v others)
appended-push [] v others = refl
appended-push (d ∷ ds) v others = ap (OneMore d) (appended-push ds v others)

module _ (most : Limits) (form : Form) (cs : List Clause) (h : Head) where
  abbrev pub body : List TermFrame → ℕ → TermExpectation → ItemState
  body fs used expected = record { items = cs; part = Body h fs used expected }

  abbrev pub from : TermStep → Token → List Token → Result ItemState Fault
  from x t ts = goes_on most form cs h t x >>= λ s. run_over most form s ts

  -- no bracket is open, and one more item may begin
  abbrev pub MayEnd : List TermFrame → Type 0
  MayEnd fs = IsOutermost fs × (excess most form (length cs + 1) ≡ None)

  -- an item that ends before a tilde, by one token or by two
  by_tilde : (r : Result Clause Fault) (w : CheckWord) (ts : List Token)
      → excess most form (length cs + 1) ≡ None
      → (added cs r (λ n. item_or_end most form n tokens.Tilde) >>= λ s. run_over most form s
      (tokens.Check w ∷ ts)) ≡ (added cs r
      (λ n. unless_before (excess most form n) (begin_check false true w)) >>= λ s. run_over
      most form s ts)
  by_tilde (Err d) w ts e = refl
  by_tilde (Ok c) w ts e =
      ap
      (λ (o : Option CatRule). at (cs ++ c ∷ []) (unless o (Ok (AfterTilde false))) >>= λ s.
      run_over most form s (tokens.Check w ∷ ts)) e
      ∙ sym (ap
      (λ (o : Option CatRule). at (cs ++ c ∷ [])
      (unless_before o (begin_check false true w)) >>= λ s. run_over most form s ts) e)

  -- a star before what can follow is postfix
  star_drop : (fs : List TermFrame) (used : ℕ) (v : Term) (ts : List Token) → CanFollow (MayEnd fs) ts
      → run_over most form (body fs used (HasStar v)) ts
      ≡ run_over most form (body fs used (Has (Mark postfix.Closure v))) ts
  star_drop fs used v (tokens.Tilde ∷ tokens.Check w ∷ ts) c =
      let b = outer fs (Mark postfix.Closure v) c.0.0 in
      let left : run_over most form (body fs used (HasStar v)) (tokens.Tilde ∷ tokens.Check w ∷ ts) ≡ from (EndsTilde ((fold_to 0 fs (Mark postfix.Closure v)).1)) (tokens.Check w) ts
      =
      ap (λ (x : Bool). from (star_tilde most fs used v x) tokens.Tilde (tokens.Check w ∷ ts))
      (is_outermost-true fs c.0.0) in
      let right : run_over most form (body fs used (Has (Mark postfix.Closure v))) (tokens.Tilde ∷ tokens.Check w ∷ ts) ≡ from (Ends b.0) tokens.Tilde (tokens.Check w ∷ ts)
      =
      ap
      (λ (p : List TermFrame × Term).
      from (term_ended tokens.Tilde p) tokens.Tilde (tokens.Check w ∷ ts)) b.1 in
      left ∙ ap (λ (p : List TermFrame × Term). from (EndsTilde p.1) (tokens.Check w) ts) b.1
      ∙ sym (right ∙ by_tilde (finished h b.0 rules.Syntax) w ts c.0.1)
  star_drop fs used v (tokens.Tilde ∷ ts) c = absurd c.1
  star_drop fs used v [] c = absurd c
  star_drop fs used v (tokens.Name n ∷ ts) c = absurd c
  star_drop fs used v (tokens.Open ∷ ts) c = absurd c
  star_drop fs used v (tokens.OpenSquare ∷ ts) c = absurd c
  star_drop fs used v (tokens.OpenBrace ∷ ts) c = absurd c
  star_drop fs used v (tokens.Underscore ∷ ts) c = absurd c
  star_drop fs used v (tokens.Zero ∷ ts) c = absurd c
  star_drop fs used v (_ ∷ ts) c = refl

  -- a name before what can follow is no function's
  name_drop : (fs : List TermFrame) (used : ℕ) (n : List ℕ) (ts : List Token) → CanFollow (MayEnd fs) ts
      → run_over most form (body fs used (HasName n)) ts
      ≡ run_over most form (body fs used (Has (Atom n))) ts
  name_drop fs used n [] c = absurd c
  name_drop fs used n (tokens.Open ∷ ts) c = absurd c
  name_drop fs used n (_ ∷ ts) c = refl

  opened_run : (f : TermFrame) (t : Token) (fs : List TermFrame) (used : ℕ) (ts : List Token)
      → open_count fs < most.nesting
      → from (term_opened most fs used f) t ts ≡ run_over most form (body (f ∷ fs) used Wants) ts
  opened_run f t fs used ts lt =
      ap (λ (x : Bool). from (if x then Goes (f ∷ fs) used Wants else Refuses rules.TooDeep) t ts)
      (lt-ltb _ _ lt)

  -- a tilde after a star, before an operand
  tilde_operand : (fs : List TermFrame) (used : ℕ) (v : Term) (b : Tree) (rest : List Token)
      → run_over most form (body fs used (HasStarTilde v)) (spelled b rest)
      ≡ run_over most form (body (InPrefix ∷ infix_at Product fs v) used Wants) (spelled b rest)
  tilde_operand fs used v (Word n) rest = refl
  tilde_operand fs used v Underscore rest = refl
  tilde_operand fs used v Zero rest = refl
  tilde_operand fs used v Braces rest = refl
  tilde_operand fs used v (Pair op a b) rest =
      tilde_operand fs used v a (infix_token op ∷ spelled b rest)
  tilde_operand fs used v (Post op a) rest = tilde_operand fs used v a (postfix_token op ∷ rest)
  tilde_operand fs used v (Prefix a) rest = refl
  tilde_operand fs used v (Group a) rest = refl
  tilde_operand fs used v (Square a) rest = refl
  tilde_operand fs used v (Application n arguments) rest = refl

  -- a star before an operand is infix
  star_operand : (fs : List TermFrame) (used : ℕ) (v : Term) (b : Tree) (rest : List Token)
      → open_count (infix_at Product fs v) + depth b ≤ most.nesting
      → run_over most form (body fs used (HasStar v)) (spelled b rest)
      ≡ run_over most form (body (infix_at Product fs v) used Wants) (spelled b rest)
  star_operand fs used v (Word n) rest d = refl
  star_operand fs used v Underscore rest d = refl
  star_operand fs used v Zero rest d = refl
  star_operand fs used v Braces rest d = refl
  star_operand fs used v (Pair op a b) rest d =
      star_operand fs used v a (infix_token op ∷ spelled b rest) (omega arith)
  star_operand fs used v (Post op a) rest d = star_operand fs used v a (postfix_token op ∷ rest) d
  star_operand fs used v (Prefix a) rest d = choose (is_outermost fs)
    where
      choose : (x : Bool)
          → from (star_tilde most fs used v x) tokens.Tilde (spelled a rest)
          ≡ from (term_opened most (infix_at Product fs v) used InPrefix) tokens.Tilde
          (spelled a rest)
      choose true =
          tilde_operand fs used v a rest
          ∙ sym (opened_run InPrefix tokens.Tilde (infix_at Product fs v) used (spelled a rest)
          (omega arith))
      choose false = refl
  star_operand fs used v (Group a) rest d = refl
  star_operand fs used v (Square a) rest d = refl
  star_operand fs used v (Application n arguments) rest d = refl

  -- an infix operator after an operand
  infix_run : (op : Infix) (fs : List TermFrame) (used : ℕ) (v : Term) (b : Tree) (rest : List Token)
      → used < most.operators → open_count (infix_at op fs v) + depth b ≤ most.nesting
      → run_over most form (body fs used (Has v)) (infix_token op ∷ spelled b rest)
      ≡ run_over most form (body (infix_at op fs v) (used + 1) Wants) (spelled b rest)
  infix_run Union fs used v b rest lt d =
      ap
      (λ (x : Bool). from
      (if x then Goes (infix_at Union fs v) (used + 1) Wants else Refuses rules.TooDeep)
      (tokens.Sign Bar) (spelled b rest))
      (lt-ltb _ _ lt)
  infix_run Sequence fs used v b rest lt d =
      ap
      (λ (x : Bool). from
      (if x then Goes (infix_at Sequence fs v) (used + 1) Wants else Refuses rules.TooDeep)
      (tokens.Sign Semicolon) (spelled b rest))
      (lt-ltb _ _ lt)
  infix_run Difference fs used v b rest lt d =
      ap
      (λ (x : Bool). from
      (if x then Goes (infix_at Difference fs v) (used + 1) Wants else Refuses rules.TooDeep)
      (tokens.Sign Backslash) (spelled b rest))
      (lt-ltb _ _ lt)
  infix_run Intersection fs used v b rest lt d =
      ap
      (λ (x : Bool). from
      (if x then Goes (infix_at Intersection fs v) (used + 1) Wants else Refuses rules.TooDeep)
      (tokens.Sign Ampersand) (spelled b rest))
      (lt-ltb _ _ lt)
  infix_run Product fs used v b rest lt d =
      ap
      (λ (x : Bool). from
      (if x then Goes fs (used + 1) (HasStar v) else Refuses rules.TooDeep) tokens.Star
      (spelled b rest))
      (lt-ltb _ _ lt) ∙ star_operand fs (used + 1) v b rest d

  -- a postfix operator after an operand
  postfix_run : (op : Postfix) (fs : List TermFrame) (used : ℕ) (v : Term) (rest : List Token)
      → used < most.operators → CanFollow (MayEnd fs) rest
      → run_over most form (body fs used (Has v)) (postfix_token op ∷ rest)
      ≡ run_over most form (body fs (used + 1) (Has (Mark op v))) rest
  postfix_run postfix.Transitive fs used v rest lt c =
      ap
      (λ (x : Bool). from
      (if x then Goes fs (used + 1) (Has (Mark postfix.Transitive v))
      else Refuses rules.TooDeep)
      (tokens.Mark Plus) rest)
      (lt-ltb _ _ lt)
  postfix_run postfix.Reflexive fs used v rest lt c =
      ap
      (λ (x : Bool). from
      (if x then Goes fs (used + 1) (Has (Mark postfix.Reflexive v)) else Refuses rules.TooDeep)
      (tokens.Mark Question) rest)
      (lt-ltb _ _ lt)
  postfix_run postfix.Inverse fs used v rest lt c =
      ap
      (λ (x : Bool). from
      (if x then Goes fs (used + 1) (Has (Mark postfix.Inverse v)) else Refuses rules.TooDeep)
      (tokens.Mark Inverse) rest)
      (lt-ltb _ _ lt)
  postfix_run postfix.Closure fs used v rest lt c =
      ap
      (λ (x : Bool). from
      (if x then Goes fs (used + 1) (HasStar v) else Refuses rules.TooDeep) tokens.Star
      rest)
      (lt-ltb _ _ lt) ∙ star_drop fs (used + 1) v rest c

  mutual
    pub tree_run : (t : Tree) (fs : List TermFrame) (used all : ℕ) (rest : List Token) → IsGrouped t
        → wanted fs ≤ tightness t → open_count fs + depth t ≤ most.nesting
        → used + operators t ≡ all → all ≤ most.operators → CanFollow (MayEnd fs) rest
        → run_over most form (body fs used Wants) (spelled t rest)
        ≡ run_over most form (body (pending t fs).0 all (Has (pending t fs).1)) rest
    tree_run (Word n) fs used all rest g w d u m c =
        let e : used ≡ all = omega arith in
        name_drop fs used n rest c
        ∙ ap (λ (k : ℕ). run_over most form (body fs k (Has (Atom n))) rest) e
    tree_run Underscore fs used all rest g w d u m c =
        let e : used ≡ all = omega arith in
        ap (λ (k : ℕ). run_over most form (body fs k (Has AllEvents)) rest) e
    tree_run Zero fs used all rest g w d u m c =
        let e : used ≡ all = omega arith in
        ap (λ (k : ℕ). run_over most form (body fs k (Has EmptyRelation)) rest) e
    tree_run Braces fs used all rest g w d u m c =
        let e : used ≡ all = omega arith in
        ap (λ (k : ℕ). run_over most form (body fs k (Has EmptySet)) rest) e
    tree_run (Pair op a b) fs used all rest g w d u m c =
        let left = level-le-left op in
        let p = pending a fs in
        tree_run a fs used (used + operators a) (infix_token op ∷ spelled b rest) g.2
        (omega (arith, g.0)) (omega arith) refl (omega arith)
        (infix_follows (MayEnd fs) op (spelled b rest))
        ∙ infix_run op p.0 (used + operators a) p.1 b rest (omega arith)
        (rw (infix_pending op a fs g.2 g.0 w) (omega arith))
        ∙ ap
        (λ (gs : List TermFrame).
        run_over most form (body gs (used + operators a + 1) Wants) (spelled b rest))
        (infix_pending op a fs g.2 g.0 w)
        ∙ tree_run b (LeftOf op (meaning a) ∷ fs) (used + operators a + 1) all rest g.3 g.1
        (omega arith) (omega arith) m c
    tree_run (Post op a) fs used all rest g w d u m c =
        let low = wanted-le fs in
        let e : used + operators a + 1 ≡ all = omega arith in
        tree_run a fs used (used + operators a) (postfix_token op ∷ rest) g.1 (omega (arith, g.0)) d
        refl (omega arith) (postfix_follows (MayEnd fs) op rest)
        ∙ ap
        (λ (p : List TermFrame × Term). run_over most form (body p.0 (used + operators a) (Has p.1))
        (postfix_token op ∷ rest))
        (tight_pending a fs g.0)
        ∙ postfix_run op fs (used + operators a) (meaning a) rest (omega arith) c
        ∙ ap (λ (k : ℕ). run_over most form (body fs k (Has (Mark op (meaning a)))) rest) e
    tree_run (Prefix a) fs used all rest g w d u m c =
        opened_run InPrefix tokens.Tilde fs used (spelled a rest) (omega arith)
        ∙ tree_run a (InPrefix ∷ fs) used all rest g.1 g.0 (omega arith) u m c
    tree_run (Group a) fs used all rest g w d u m c =
        opened_run InGroup tokens.Open fs used (spelled a (tokens.Close ∷ rest)) (omega arith)
        ∙ tree_run a (InGroup ∷ fs) used all (tokens.Close ∷ rest) g (omega arith) (omega arith) u m
        tt
        ∙ ap (λ (p : List TermFrame × Term). from (term_closed all p) tokens.Close rest)
        (fold_pending a (InGroup ∷ fs) 0 g (omega arith))
    tree_run (Square a) fs used all rest g w d u m c =
        opened_run InSquare tokens.OpenSquare fs used (spelled a (tokens.CloseSquare ∷ rest))
        (omega arith)
        ∙ tree_run a (InSquare ∷ fs) used all (tokens.CloseSquare ∷ rest) g (omega arith)
        (omega arith) u m tt
        ∙ ap (λ (p : List TermFrame × Term). from (square_closed all p) tokens.CloseSquare rest)
        (fold_pending a (InSquare ∷ fs) 0 g (omega arith))
    tree_run (Application n arguments) fs used all rest g w d u m c =
        opened_run (InArguments n []) tokens.Open fs used (spelled_arguments arguments rest)
        (omega arith)
        ∙ arguments_run arguments n [] fs used all rest g (omega arith) u m

    arguments_run : (args : Trees) (n : List ℕ) (ds : List Term) (fs : List TermFrame) (used all : ℕ)
        (rest : List Token) → AreGrouped args → open_count fs + 1 + depths args ≤ most.nesting
        → used + operators_of args ≡ all → all ≤ most.operators
        → run_over most form (body (InArguments n ds ∷ fs) used Wants) (spelled_arguments args rest)
        ≡ run_over most form (body fs all (Has (Apply n (appended ds (meanings args))))) rest
    arguments_run (Last a) n ds fs used all rest g d u m =
        tree_run a (InArguments n ds ∷ fs) used all (tokens.Close ∷ rest) g (omega arith)
        (omega arith) u m tt
        ∙ ap (λ (p : List TermFrame × Term). from (term_closed all p) tokens.Close rest)
        (fold_pending a (InArguments n ds ∷ fs) 0 g (omega arith))
        ∙ ap (λ (x : Terms). run_over most form (body fs all (Has (Apply n x))) rest)
        (gathered-push ds (meaning a))
    arguments_run (More a others) n ds fs used all rest g d u m =
        tree_run a (InArguments n ds ∷ fs) used (used + operators a)
        (tokens.Comma ∷ spelled_arguments others rest) g.0 (omega arith) (omega arith) refl
        (omega arith) tt
        ∙ ap
        (λ (p : List TermFrame × Term). from (comma_read (used + operators a) p) tokens.Comma
        (spelled_arguments others rest))
        (fold_pending a (InArguments n ds ∷ fs) 0 g.0 (omega arith))
        ∙ arguments_run others n (ds ++ meaning a ∷ []) fs (used + operators a) all rest g.1
        (omega arith) (omega arith) m
        ∙ ap (λ (x : Terms). run_over most form (body fs all (Has (Apply n x))) rest)
        (appended-push ds (meaning a) (meanings others))
