-- Tokens that the machine takes within an expression are spelled by a tree.
use Rattle.std.proofs.Common.{◌≡◌, ℕ, ◌+◌, ◌<◌, ◌≤◌, Bool, true, false, List, [], ◌∷◌, ◌++◌, refl, sym, ap, ◌∙◌, subst, arith}
use Rattle.std.specs.Prelude.{nat_le, nat_lt, if◌then◌else◌}
use Rattle.std.proofs.lemmas.Bool.Decides.{nat_tests}
use Rattle.std.proofs.lemmas.Bool.{ltb-true}
use Rattle.cat_tokens.specs.declared.rule.CatRule.TheVariants as rules
use Rattle.cat_tokens.specs.declared.token.Sign.{Sign}
use Rattle.cat_tokens.specs.declared.token.Sign.TheVariants.{Bar, Semicolon, Backslash, Ampersand}
use Rattle.cat_tokens.specs.declared.token.Mark as mark
use Rattle.cat_tokens.specs.declared.token.Mark.TheVariants.{Plus, Question, Inverse}
use Rattle.cat_tokens.specs.declared.token.Token.{Token}
use Rattle.cat_tokens.specs.declared.token.Token.TheVariants as tokens
use Rattle.text_values.specs.declared.model.Infix.{Infix}
use Rattle.text_values.specs.declared.model.Infix.TheVariants.{Product}
use Rattle.text_values.specs.declared.model.Postfix.{Postfix}
use Rattle.text_values.specs.declared.model.Postfix.TheVariants as postfix
use Rattle.text_values.specs.ModelValue.{Term, Atom, EmptySet, Join, Mark, Not, Apply}
use Rattle.cat_grammar.specs.Grammar.{Tree, Word, Underscore, Zero, Braces, Post, Group, Square, Application, infix_token, postfix_token, spelled, meaning, infix_level, left_level, tightness, IsGrouped, depth, operators, Limits, IsExpressionTree}
use Rattle.cat_grammar.specs.Machine.{TermFrame, InGroup, InSquare, InPrefix, LeftOf, InArguments, TermExpectation, Wants, HasBrace, HasName, Has, HasStar, HasStarTilde, TermStep, Goes, Ends, EndsTilde, Refuses, open_count, fold_to, is_outermost, term_opened, operand, after_brace, left_frames, infix_at, counted, term_ended, term_closed, square_closed, comma_read, operand_after, after_name, star_tilde, star_then, after_star, after_star_tilde, expression_step}
use Rattle.cat_tokens.specs.Tokens.{begins_operand, infix_of, postfix_of}
use Rattle.cat_grammar.proofs.Branches.{Branch, BGroup, BSquare, BPrefix, BLeft, BArguments, frame, frames, before, need, opens, count, Fine, Stops, open_count-frames, right_level-le, left_level-le, need-le, opens-le, meets, Folded, folded, IsOutermost, outermost, arguments_of, spelled-arguments_of, meanings-arguments_of, grouped-arguments_of, depths-arguments_of, operators-arguments_of, before_arguments-push, values-push, sum_operators-push, arguments_fine-push}
use Rattle.cat_grammar.proofs.Complete.{level-le}

-- an operand is wanted here
pub record Open (most : Limits) (whole rest : List Token) (fs : List TermFrame) (used : ℕ)
    : Type 0 where
  pub bs : List Branch
  pub is : frames bs ≡ fs
  pub fine : Fine most bs
  pub counted : count bs ≡ used
  pub short : used ≤ most.operators
  pub whole_is : whole ≡ before bs rest

-- an operand was read
pub record Full (most : Limits) (whole rest : List Token) (fs : List TermFrame) (used : ℕ) (v : Term)
    : Type 0 where
  pub bs : List Branch
  pub t : Tree
  pub is : frames bs ≡ fs
  pub means : meaning t ≡ v
  pub fine : Fine most bs
  pub grouped : IsGrouped t
  pub tight : 7 ≤ tightness t
  pub shallow : opens bs + depth t ≤ most.nesting
  pub counted : count bs + operators t ≡ used
  pub short : used ≤ most.operators
  pub whole_is : whole ≡ before bs (spelled t rest)

-- an operand and a star were read
pub record Starred (most : Limits) (whole rest : List Token) (fs : List TermFrame) (used : ℕ) (v : Term)
    : Type 0 where
  pub less : ℕ
  pub one_more : less + 1 ≡ used
  pub short : used ≤ most.operators
  pub full : Full most whole (tokens.Star ∷ rest) fs less v

abbrev pub Stands : Limits → List Token → List Token → List TermFrame → ℕ → TermExpectation → Type 0
Stands most whole rest fs used Wants = Open most whole rest fs used
Stands most whole rest fs used HasBrace = Open most whole (tokens.OpenBrace ∷ rest) fs used
Stands most whole rest fs used (HasName n) = Open most whole (tokens.Name n ∷ rest) fs used
Stands most whole rest fs used (Has v) = Full most whole rest fs used v
Stands most whole rest fs used (HasStar v) = Starred most whole rest fs used v
Stands most whole rest fs used (HasStarTilde v) =
    Starred most whole (tokens.Tilde ∷ rest) fs used v × IsOutermost fs

-- an expression was read
pub record Ended (most : Limits) (whole rest : List Token) (v : Term) : Type 0 where
  pub t : Tree
  pub is : IsExpressionTree most t
  pub means : meaning t ≡ v
  pub whole_is : whole ≡ spelled t rest

abbrev pub ExpressionStands : Limits → List Token → Token → List Token → TermStep → Type 0
ExpressionStands most whole t rest (Goes fs used expected) = Stands most whole rest fs used expected
ExpressionStands most whole t rest (Ends v) = Ended most whole (t ∷ rest) v
ExpressionStands most whole t rest (EndsTilde v) = Ended most whole (tokens.Tilde ∷ t ∷ rest) v
ExpressionStands most whole t rest (Refuses k) = Unit {0}

infix_token-of : (s : Sign) → infix_token (infix_of s) ≡ tokens.Sign s
infix_token-of Bar = refl
infix_token-of Semicolon = refl
infix_token-of Backslash = refl
infix_token-of Ampersand = refl

postfix_token-of : (m : mark.Mark) → postfix_token (postfix_of m) ≡ tokens.Mark m
postfix_token-of Plus = refl
postfix_token-of Question = refl
postfix_token-of Inverse = refl

-- the operand of an infix operator fits where the operator stands
new_need : (op : Infix) (bs : List Branch) → Stops (left_level op) bs → need bs ≤ infix_level op
new_need op [] h = omega arith
new_need op (BGroup ∷ bs) h = omega arith
new_need op (BSquare ∷ bs) h = omega arith
new_need op (BArguments n args ∷ bs) h = omega arith
new_need op (BPrefix ∷ bs) h = absurd h
new_need op (BLeft o a ∷ bs) h = meets op o h

le_zero : (n : ℕ) → nat_le 0 n ≡ true
le_zero n = grind (arith, nat_tests)

all_folded : (fs : List TermFrame) (v : Term) → IsOutermost fs → (fold_to 0 fs v).0 ≡ []
all_folded [] v h = refl
all_folded (InGroup ∷ fs) v h = absurd h
all_folded (InSquare ∷ fs) v h = absurd h
all_folded (InArguments n args ∷ fs) v h = absurd h
all_folded (InPrefix ∷ fs) v h = all_folded fs (Not v) h
all_folded (LeftOf op a ∷ fs) v h =
    subst (λ (x : Bool). (if x then fold_to 0 fs (Join op a v) else (LeftOf op a ∷ fs, v)).0 ≡ [])
    (sym (le_zero (infix_level op))) (all_folded fs (Join op a v) h)

fold_outermost : (l : ℕ) (fs : List TermFrame) (v : Term) → IsOutermost fs
    → IsOutermost (fold_to l fs v).0
fold_outermost l [] v h = tt
fold_outermost l (InGroup ∷ fs) v h = h
fold_outermost l (InSquare ∷ fs) v h = h
fold_outermost l (InArguments n args ∷ fs) v h = h
fold_outermost l (InPrefix ∷ fs) v h = fold_outermost l fs (Not v) h
fold_outermost l (LeftOf op a ∷ fs) v h =
    choose (nat_le l (infix_level op)) (fold_outermost l fs (Join op a v) h)
  where
    choose : (x : Bool) → IsOutermost (fold_to l fs (Join op a v)).0
        → IsOutermost (if x then fold_to l fs (Join op a v) else (LeftOf op a ∷ fs, v)).0
    choose true k = k
    choose false k = h

infix_outermost : (op : Infix) (fs : List TermFrame) (v : Term) → IsOutermost fs
    → IsOutermost (infix_at op fs v)
infix_outermost op fs v h = fold_outermost (left_level op) fs v h

-- no prefix is open to the left of an infix operator
none_open : (most : Limits) (bs : List Branch) → Fine most bs → IsOutermost (frames bs)
    → need bs ≤ 5 → opens bs ≡ 0
none_open most [] f o n = refl
none_open most (BGroup ∷ bs) f o n = absurd o
none_open most (BSquare ∷ bs) f o n = absurd o
none_open most (BArguments m args ∷ bs) f o n = absurd o
none_open most (BPrefix ∷ bs) f o n = absurd (omega arith)
none_open most (BLeft op a ∷ bs) f o n =
    let l = level-le op in none_open most bs f.4 o (omega (arith, f.2))

module _ (most : Limits) (whole : List Token) (some : 0 < most.nesting) where
  opened_stands : (t : Token) (rest : List Token) (used : ℕ) (bs : List Branch) (f : TermFrame)
      (b : Branch) → frame b ≡ f → Fine most bs → count (b ∷ bs) ≡ used → used ≤ most.operators
      → (opens bs < most.nesting → Fine most (b ∷ bs)) → whole ≡ before (b ∷ bs) rest
      → ExpressionStands most whole t rest (term_opened most (frames bs) used f)
  opened_stands t rest used bs f b e fine counted short grown is =
      choose (nat_lt (open_count (frames bs)) most.nesting) refl
    where
      choose : (x : Bool) → nat_lt (open_count (frames bs)) most.nesting ≡ x
          → ExpressionStands most whole t rest (if x then Goes (f ∷ frames bs) used Wants
          else Refuses rules.TooDeep)
      choose true h =
          let lt = ltb-true _ _ h in
          let few : opens bs < most.nesting = rw (open_count-frames bs) at lt in
          record { bs = b ∷ bs; is = ap (λ (g : TermFrame). g ∷ frames bs) e; fine = grown few; counted = counted; short = short; whole_is = is }
      choose false h = tt

  -- an operand of one piece
  atom_full : (t : Tree) (rest : List Token) (used : ℕ) (bs : List Branch) → IsGrouped t
      → 7 ≤ tightness t → depth t ≡ 0 → operators t ≡ 0 → Fine most bs → count bs ≡ used
      → used ≤ most.operators → whole ≡ before bs (spelled t rest)
      → Full most whole rest (frames bs) used (meaning t)
  atom_full t rest used bs grouped tight shallow few fine counted short is =
      let deep = opens-le most bs fine in
      record { bs = bs; t = t; is = refl; means = refl; fine = fine; grouped = grouped; tight = tight; shallow = omega arith; counted = omega arith; short = short; whole_is = is }

  operand_at : (t : Token) (rest : List Token) (used : ℕ) (bs : List Branch) → Fine most bs
      → count bs ≡ used → used ≤ most.operators → whole ≡ before bs (t ∷ rest)
      → ExpressionStands most whole t rest (operand most (frames bs) used t)
  operand_at (tokens.Name n) rest used bs fine counted short is =
      record { bs = bs; is = refl; fine = fine; counted = counted; short = short; whole_is = is }
  operand_at tokens.OpenBrace rest used bs fine counted short is =
      record { bs = bs; is = refl; fine = fine; counted = counted; short = short; whole_is = is }
  operand_at tokens.Underscore rest used bs fine counted short is =
      atom_full Underscore rest used bs tt (omega arith) refl refl fine counted short is
  operand_at tokens.Zero rest used bs fine counted short is =
      atom_full Zero rest used bs tt (omega arith) refl refl fine counted short is
  operand_at tokens.Tilde rest used bs fine counted short is =
      opened_stands tokens.Tilde rest used bs InPrefix BPrefix refl fine counted short
      (λ h. (h, fine)) is
  operand_at tokens.Open rest used bs fine counted short is =
      opened_stands tokens.Open rest used bs InGroup BGroup refl fine counted short (λ h. (h, fine))
      is
  operand_at tokens.OpenSquare rest used bs fine counted short is =
      opened_stands tokens.OpenSquare rest used bs InSquare BSquare refl fine counted short
      (λ h. (h, fine)) is
  operand_at _ rest used bs fine counted short is = tt

  after_brace_stands : (t : Token) (rest : List Token) (fs : List TermFrame) (used : ℕ)
      → Open most whole (tokens.OpenBrace ∷ t ∷ rest) fs used
      → ExpressionStands most whole t rest (after_brace fs used t)
  after_brace_stands tokens.CloseBrace rest fs used o =
      subst (λ (g : List TermFrame). Full most whole rest g used EmptySet) o.is (atom_full Braces rest
      used o.bs tt (omega arith) refl refl o.fine o.counted o.short o.whole_is)
  after_brace_stands _ rest fs used o = tt

  -- a name that is no function's
  named_full : (n : List ℕ) (rest : List Token) (fs : List TermFrame) (used : ℕ)
      → Open most whole (tokens.Name n ∷ rest) fs used → Full most whole rest fs used (Atom n)
  named_full n rest fs used o =
      subst (λ (g : List TermFrame). Full most whole rest g used (Atom n)) o.is (atom_full (Word n) rest
      used o.bs tt (omega arith) refl refl o.fine o.counted o.short o.whole_is)

  pub operand_stands : (t : Token) (rest : List Token) (fs : List TermFrame) (used : ℕ)
      → Open most whole (t ∷ rest) fs used
      → ExpressionStands most whole t rest (operand most fs used t)
  operand_stands t rest fs used o =
      subst (λ (g : List TermFrame). ExpressionStands most whole t rest (operand most g used t)) o.is
      (operand_at t rest used o.bs o.fine o.counted o.short o.whole_is)

  -- what is open once everything that binds this tightly is joined
  folded_full : (l : ℕ) (rest : List Token) (fs : List TermFrame) (used : ℕ) (v : Term) → l ≤ 6
      → Full most whole rest fs used v → Folded most l whole rest (fold_to l fs v) used
  folded_full l rest fs used v low f =
      let at_tree = folded most l whole rest used f.bs f.t low (let h = f.tight in omega arith) f.fine f.grouped (let h = f.tight in let n = need-le f.bs in omega arith) f.shallow f.counted f.whole_is in
      subst (λ (g : List TermFrame). Folded most l whole rest (fold_to l g v) used) f.is
      (subst (λ (w : Term). Folded most l whole rest (fold_to l (frames f.bs) w) used) f.means
      at_tree)

  -- an infix operator was read
  infix_open : (op : Infix) (rest : List Token) (fs : List TermFrame) (used : ℕ) (v : Term)
      → used + 1 ≤ most.operators → Full most whole (infix_token op ∷ rest) fs used v
      → Open most whole rest (infix_at op fs v) (used + 1)
  infix_open op rest fs used v short f =
      let d = folded_full (left_level op) (infix_token op ∷ rest) fs used v (left_level-le op) f in
      let e = ap (left_frames op) d.is in
      record { bs = BLeft op d.t ∷ d.bs; is = sym e; fine = (d.grouped, d.tight, new_need op d.bs d.stops, d.shallow, d.fine); counted = (let h = d.counted in omega arith); short = short; whole_is = d.whole_is }

  ended_is : (rest : List Token) (used : ℕ) (v : Term) (t : Tree) → IsGrouped t
      → depth t ≤ most.nesting → operators t ≡ used → used ≤ most.operators → meaning t ≡ v
      → whole ≡ spelled t rest → Ended most whole rest v
  ended_is rest used v t grouped shallow counted short means is =
      record { t = t; is = record { grouped = grouped; shallow = shallow; short = omega arith }; means = means; whole_is = is }

  ended_at : (t : Token) (rest : List Token) (used : ℕ) (p : List TermFrame × Term)
      → used ≤ most.operators → Folded most 0 whole (t ∷ rest) p used
      → ExpressionStands most whole t rest (term_ended t p)
  ended_at t rest used p short d =
      subst (λ (q : List TermFrame × Term). ExpressionStands most whole t rest (term_ended t q)) (sym d.is)
      (by_branches d.bs d.shallow d.counted d.whole_is)
    where
      by_branches : (bs : List Branch) → opens bs + depth d.t ≤ most.nesting
          → count bs + operators d.t ≡ used → whole ≡ before bs (spelled d.t (t ∷ rest))
          → ExpressionStands most whole t rest (term_ended t (frames bs, meaning d.t))
      by_branches [] shallow counted is =
          ended_is (t ∷ rest) used (meaning d.t) d.t d.grouped (omega arith) (omega arith) short
          refl is
      by_branches (b ∷ bs) shallow counted is = tt

  closed_at : (rest : List Token) (used : ℕ) (p : List TermFrame × Term) → used ≤ most.operators
      → Folded most 0 whole (tokens.Close ∷ rest) p used
      → ExpressionStands most whole tokens.Close rest (term_closed used p)
  closed_at rest used p short d =
      subst
      (λ (q : List TermFrame × Term). ExpressionStands most whole tokens.Close rest (term_closed used q))
      (sym d.is) (by_branches d.bs d.fine d.shallow d.counted d.whole_is)
    where
      by_branches : (bs : List Branch) → Fine most bs → opens bs + depth d.t ≤ most.nesting
          → count bs + operators d.t ≡ used → whole ≡ before bs (spelled d.t (tokens.Close ∷ rest))
          → ExpressionStands most whole tokens.Close rest (term_closed used (frames bs, meaning d.t))
      by_branches [] fine shallow counted is =
          ended_is (tokens.Close ∷ rest) used (meaning d.t) d.t d.grouped (omega arith)
          (omega arith) short refl is
      by_branches (BGroup ∷ bs) fine shallow counted is =
          record { bs = bs; t = Group d.t; is = refl; means = refl; fine = fine.1; grouped = d.grouped; tight = omega arith; shallow = omega arith; counted = counted; short = short; whole_is = is }
      by_branches (BArguments n args ∷ bs) fine shallow counted is =
          let deep = depths-arguments_of most (opens bs + 1) args d.t fine.1 shallow in
          let few = operators-arguments_of args d.t in
          record {
            bs = bs;
            t = Application n (arguments_of args d.t);
            is = refl;
            means = ap (Apply n) (meanings-arguments_of args d.t);
            fine = fine.2;
            grouped = grouped-arguments_of most (opens bs + 1) args d.t fine.1 d.grouped;
            tight = omega arith;
            shallow = omega arith;
            counted = omega arith;
            short = short;
            whole_is =
                is
                ∙ ap (λ (ts : List Token). before bs (tokens.Name n ∷ tokens.Open ∷ ts))
                (sym (spelled-arguments_of args d.t rest));
          }
      by_branches (BSquare ∷ bs) fine shallow counted is = tt
      by_branches (BPrefix ∷ bs) fine shallow counted is = tt
      by_branches (BLeft op a ∷ bs) fine shallow counted is = tt

  square_closed_at : (rest : List Token) (used : ℕ) (p : List TermFrame × Term) → used ≤ most.operators
      → Folded most 0 whole (tokens.CloseSquare ∷ rest) p used
      → ExpressionStands most whole tokens.CloseSquare rest (square_closed used p)
  square_closed_at rest used p short d =
      subst
      (λ (q : List TermFrame × Term).
      ExpressionStands most whole tokens.CloseSquare rest (square_closed used q))
      (sym d.is)
      (by_branches d.bs d.fine d.shallow d.counted d.whole_is)
    where
      by_branches : (bs : List Branch) → Fine most bs → opens bs + depth d.t ≤ most.nesting
          → count bs + operators d.t ≡ used
          → whole ≡ before bs (spelled d.t (tokens.CloseSquare ∷ rest))
          → ExpressionStands most whole tokens.CloseSquare rest
          (square_closed used (frames bs, meaning d.t))
      by_branches [] fine shallow counted is =
          ended_is (tokens.CloseSquare ∷ rest) used (meaning d.t) d.t d.grouped (omega arith)
          (omega arith) short refl is
      by_branches (BSquare ∷ bs) fine shallow counted is =
          record { bs = bs; t = Square d.t; is = refl; means = refl; fine = fine.1; grouped = d.grouped; tight = omega arith; shallow = omega arith; counted = counted; short = short; whole_is = is }
      by_branches (BGroup ∷ bs) fine shallow counted is = tt
      by_branches (BArguments n args ∷ bs) fine shallow counted is = tt
      by_branches (BPrefix ∷ bs) fine shallow counted is = tt
      by_branches (BLeft op a ∷ bs) fine shallow counted is = tt

  comma_at : (rest : List Token) (used : ℕ) (p : List TermFrame × Term) → used ≤ most.operators
      → Folded most 0 whole (tokens.Comma ∷ rest) p used
      → ExpressionStands most whole tokens.Comma rest (comma_read used p)
  comma_at rest used p short d =
      subst
      (λ (q : List TermFrame × Term).
      ExpressionStands most whole tokens.Comma rest (comma_read used q))
      (sym d.is)
      (by_branches d.bs d.fine d.shallow d.counted d.whole_is)
    where
      by_branches : (bs : List Branch) → Fine most bs → opens bs + depth d.t ≤ most.nesting
          → count bs + operators d.t ≡ used → whole ≡ before bs (spelled d.t (tokens.Comma ∷ rest))
          → ExpressionStands most whole tokens.Comma rest (comma_read used (frames bs, meaning d.t))
      by_branches [] fine shallow counted is =
          ended_is (tokens.Comma ∷ rest) used (meaning d.t) d.t d.grouped (omega arith)
          (omega arith) short refl is
      by_branches (BArguments n args ∷ bs) fine shallow counted is =
          let few = sum_operators-push args d.t in
          record {
            bs = BArguments n (args ++ d.t ∷ []) ∷ bs;
            is = ap (λ (vs : List Term). InArguments n vs ∷ frames bs) (values-push args d.t);
            fine = (
              fine.0,
              arguments_fine-push most (opens bs + 1) args d.t fine.1 d.grouped shallow,
              fine.2,
            );
            counted = omega arith;
            short = short;
            whole_is =
                is
                ∙ ap (λ (ts : List Token). before bs (tokens.Name n ∷ tokens.Open ∷ ts))
                (sym (before_arguments-push args d.t rest));
          }
      by_branches (BSquare ∷ bs) fine shallow counted is = tt
      by_branches (BGroup ∷ bs) fine shallow counted is = tt
      by_branches (BPrefix ∷ bs) fine shallow counted is = tt
      by_branches (BLeft op a ∷ bs) fine shallow counted is = tt

  -- a counted operator
  counted_at : (t : Token) (rest : List Token) (used : ℕ) (next : TermStep)
      → (used < most.operators → ExpressionStands most whole t rest next)
      → ExpressionStands most whole t rest (counted most used next)
  counted_at t rest used next h = choose (nat_lt used most.operators) refl
    where
      choose : (x : Bool) → nat_lt used most.operators ≡ x
          → ExpressionStands most whole t rest (if x then next else Refuses rules.TooDeep)
      choose true e = h (ltb-true _ _ e)
      choose false e = tt

  -- a postfix operator was read
  marked : (op : Postfix) (rest : List Token) (fs : List TermFrame) (used : ℕ) (v : Term)
      → used + 1 ≤ most.operators → Full most whole (postfix_token op ∷ rest) fs used v
      → Full most whole rest fs (used + 1) (Mark op v)
  marked op rest fs used v short f =
      record { bs = f.bs; t = Post op f.t; is = f.is; means = ap (Mark op) f.means; fine = f.fine; grouped = (f.tight, f.grouped); tight = omega arith; shallow = f.shallow; counted = (let h = f.counted in omega arith); short = short; whole_is = f.whole_is }

  after_stands : (t : Token) (rest : List Token) (fs : List TermFrame) (used : ℕ) (v : Term)
      → Full most whole (t ∷ rest) fs used v
      → ExpressionStands most whole t rest (operand_after most fs used v t)
  after_stands (tokens.Sign s) rest fs used v f =
      counted_at (tokens.Sign s) rest used _ (λ h. infix_open (infix_of s) rest fs used v
      (omega arith) (subst (λ (x : Token). Full most whole (x ∷ rest) fs used v)
      (sym (infix_token-of s)) f))
  after_stands (tokens.Mark m) rest fs used v f =
      counted_at (tokens.Mark m) rest used _ (λ h. marked (postfix_of m) rest fs used v
      (omega arith) (subst (λ (x : Token). Full most whole (x ∷ rest) fs used v)
      (sym (postfix_token-of m)) f))
  after_stands tokens.Star rest fs used v f =
      counted_at tokens.Star rest used _ (λ h.
      record { less = used; one_more = refl; short = omega arith; full = f })
  after_stands tokens.Close rest fs used v f =
      closed_at rest used (fold_to 0 fs v) f.short (folded_full 0 (tokens.Close ∷ rest) fs used v
      (omega arith) f)
  after_stands tokens.CloseSquare rest fs used v f =
      square_closed_at rest used (fold_to 0 fs v) f.short (folded_full 0 (tokens.CloseSquare ∷ rest)
      fs used v (omega arith) f)
  after_stands tokens.Comma rest fs used v f =
      comma_at rest used (fold_to 0 fs v) f.short (folded_full 0 (tokens.Comma ∷ rest) fs used v
      (omega arith) f)
  after_stands t rest fs used v f =
      ended_at t rest used (fold_to 0 fs v) f.short
      (folded_full 0 (t ∷ rest) fs used v (omega arith) f)

  after_name_stands : (n : List ℕ) (t : Token) (rest : List Token) (fs : List TermFrame) (used : ℕ)
      → Open most whole (tokens.Name n ∷ t ∷ rest) fs used
      → ExpressionStands most whole t rest (after_name most fs used n t)
  after_name_stands n tokens.Open rest fs used o =
      subst
      (λ (g : List TermFrame).
      ExpressionStands most whole tokens.Open rest (term_opened most g used (InArguments n [])))
      o.is
      (opened_stands tokens.Open rest used o.bs (InArguments n []) (BArguments n []) refl o.fine
      (let c = o.counted in omega arith) o.short (λ h. (h, tt, o.fine)) o.whole_is)
  after_name_stands n t rest fs used o =
      after_stands t rest fs used (Atom n) (named_full n (t ∷ rest) fs used o)

  -- an operand after a star
  product_open : (rest : List Token) (fs : List TermFrame) (used : ℕ) (v : Term)
      → Starred most whole rest fs used v → Open most whole rest (infix_at Product fs v) used
  product_open rest fs used v f =
      let e = f.one_more in
      subst (λ (n : ℕ). Open most whole rest (infix_at Product fs v) n) e
      (infix_open Product rest fs f.less v (let h = f.short in omega arith) f.full)

  closure_full : (rest : List Token) (fs : List TermFrame) (used : ℕ) (v : Term)
      → Starred most whole rest fs used v → Full most whole rest fs used (Mark postfix.Closure v)
  closure_full rest fs used v f =
      let e = f.one_more in
      subst (λ (n : ℕ). Full most whole rest fs n (Mark postfix.Closure v)) e
      (marked postfix.Closure rest fs f.less v (let h = f.short in omega arith) f.full)

  star_tilde_at : (rest : List Token) (fs : List TermFrame) (used : ℕ) (v : Term)
      → Starred most whole (tokens.Tilde ∷ rest) fs used v → (x : Bool) → is_outermost fs ≡ x
      → ExpressionStands most whole tokens.Tilde rest (star_tilde most fs used v x)
  star_tilde_at rest fs used v f true e = (f, outermost fs e)
  star_tilde_at rest fs used v f false e =
      operand_stands tokens.Tilde rest (infix_at Product fs v) used
      (product_open (tokens.Tilde ∷ rest) fs used v f)

  star_then_at : (t : Token) (rest : List Token) (fs : List TermFrame) (used : ℕ) (v : Term)
      → Starred most whole (t ∷ rest) fs used v → (x : Bool)
      → ExpressionStands most whole t rest (star_then most fs used v t x)
  star_then_at t rest fs used v f true =
      operand_stands t rest (infix_at Product fs v) used (product_open (t ∷ rest) fs used v f)
  star_then_at t rest fs used v f false =
      after_stands t rest fs used (Mark postfix.Closure v) (closure_full (t ∷ rest) fs used v f)

  after_star_stands : (t : Token) (rest : List Token) (fs : List TermFrame) (used : ℕ) (v : Term)
      → Starred most whole (t ∷ rest) fs used v
      → ExpressionStands most whole t rest (after_star most fs used v t)
  after_star_stands tokens.Tilde rest fs used v f =
      star_tilde_at rest fs used v f (is_outermost fs) refl
  after_star_stands t rest fs used v f = star_then_at t rest fs used v f (begins_operand t)

  -- what folds to nothing ends here
  no_frames : (bs : List Branch) → frames bs ≡ [] → bs ≡ []
  no_frames [] e = refl
  no_frames (b ∷ bs) e = absurd cc

  ended_tilde : (rest : List Token) (used : ℕ) (p : List TermFrame × Term) → used ≤ most.operators
      → p.0 ≡ [] → Folded most 0 whole rest p used → Ended most whole rest p.1
  ended_tilde rest used p short none d =
      let e : d.bs ≡ [] = no_frames d.bs (sym (ap (λ (q : List TermFrame × Term). q.0) d.is) ∙ none) in
      let counted : count [] + operators d.t ≡ used = subst (λ (bs : List Branch). count bs + operators d.t ≡ used) e d.counted in
      let shallow : opens [] + depth d.t ≤ most.nesting = subst (λ (bs : List Branch). opens bs + depth d.t ≤ most.nesting) e d.shallow in
      ended_is rest used p.1 d.t d.grouped (omega arith) (omega arith) short
      (sym (ap (λ (q : List TermFrame × Term). q.1) d.is)) (subst
      (λ (bs : List Branch). whole ≡ before bs (spelled d.t rest)) e d.whole_is)

  after_star_tilde_stands : (t : Token) (rest : List Token) (fs : List TermFrame) (used : ℕ) (v : Term)
      → Starred most whole (tokens.Tilde ∷ t ∷ rest) fs used v → IsOutermost fs
      → ExpressionStands most whole t rest (after_star_tilde most fs used v t)
  after_star_tilde_stands (tokens.Check w) rest fs used v f out =
      let c = closure_full (tokens.Tilde ∷ tokens.Check w ∷ rest) fs used v f in
      ended_tilde (tokens.Tilde ∷ tokens.Check w ∷ rest) used
      (fold_to 0 fs (Mark postfix.Closure v)) f.short
      (all_folded fs (Mark postfix.Closure v) out) (folded_full 0
      (tokens.Tilde ∷ tokens.Check w ∷ rest) fs used (Mark postfix.Closure v) (omega arith)
      c)
  after_star_tilde_stands t rest fs used v f out =
      let o = product_open (tokens.Tilde ∷ t ∷ rest) fs used v f in
      let none : opens o.bs ≡ 0 = none_open most o.bs o.fine (subst IsOutermost (sym o.is) (infix_outermost Product fs v out)) (right_need o.bs o.is) in
      operand_stands t rest (InPrefix ∷ infix_at Product fs v) used (record {
        bs = BPrefix ∷ o.bs;
        is = ap (λ (g : List TermFrame). InPrefix ∷ g) o.is;
        fine = (omega arith, o.fine);
        counted = o.counted;
        short = o.short;
        whole_is = o.whole_is;
      })
    where
      right_need : (bs : List Branch) → frames bs ≡ infix_at Product fs v → need bs ≤ 5
      right_need [] e = omega arith
      right_need (BGroup ∷ bs) e = omega arith
      right_need (BSquare ∷ bs) e = omega arith
      right_need (BArguments n args ∷ bs) e = omega arith
      right_need (BPrefix ∷ bs) e = absurd cc
      right_need (BLeft op a ∷ bs) e = right_level-le op

  pub step_stands : (t : Token) (rest : List Token) (fs : List TermFrame) (used : ℕ)
      (expected : TermExpectation) → Stands most whole (t ∷ rest) fs used expected
      → ExpressionStands most whole t rest (expression_step most fs used expected t)
  step_stands t rest fs used Wants h = operand_stands t rest fs used h
  step_stands t rest fs used HasBrace h = after_brace_stands t rest fs used h
  step_stands t rest fs used (HasName n) h = after_name_stands n t rest fs used h
  step_stands t rest fs used (Has v) h = after_stands t rest fs used v h
  step_stands t rest fs used (HasStar v) h = after_star_stands t rest fs used v h
  step_stands t rest fs used (HasStarTilde v) h = after_star_tilde_stands t rest fs used v h.0 h.1
