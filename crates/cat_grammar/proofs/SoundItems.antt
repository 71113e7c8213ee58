-- Tokens that the machine takes to its end are a text.
use Rattle.std.proofs.Common.{◌≡◌, ℕ, ◌+◌, ◌<◌, ◌≤◌, Bool, true, false, List, [], ◌∷◌, ◌++◌, Option, Some, None, Result, Ok, Err, length, refl, sym, ap, ◌∙◌, subst, arith}
use Rattle.std.specs.Prelude.{nat_lt, ◌==◌, if◌then◌else◌}
use Rattle.std.proofs.lemmas.Bool.Decides.{nat_tests}
use Rattle.std.proofs.lemmas.Bool.{ltb-true}
use Rattle.cat_tokens.specs.declared.rule.CatRule.{CatRule}
use Rattle.cat_tokens.specs.declared.rule.CatRule.TheVariants as rules
use Rattle.text_values.specs.declared.model.CheckWord.{CheckWord}
use Rattle.cat_grammar.specs.declared.form.Form.{Form}
use Rattle.cat_grammar.specs.declared.form.Form.TheVariants as forms
use Rattle.cat_grammar.specs.declared.form.CheckHead.{CheckHead}
use Rattle.cat_tokens.specs.declared.token.Token.{Token}
use Rattle.cat_tokens.specs.declared.token.Token.TheVariants as tokens
use Rattle.text_values.specs.ModelValue.{Term, Clause, Binding, Function, Checking, Flagging, Showing, Including}
use Rattle.cat_grammar.specs.Grammar as grammar
use Rattle.cat_grammar.specs.Grammar.{Tree, spelled, meaning, Limits, BindingTree, CheckTree, ShowTree, ItemTree, spelled_rec, spelled_tilde, show_token, spelled_parameters, spelled_shown, spelled_item, group_meaning, shown_meaning, item_meaning, items_meaning, AreBindingTrees, AreShowTrees, has_no_effect, IsItemTree, AreItemTrees, Title, NoTitle, NameTitle, StringTitle, spelled_title, spelled_items, IsFormText, Means}
use Rattle.cat_grammar.specs.Machine.{TermFrame, TermExpectation, TermStep, Goes, Ends, EndsTilde, Refuses, expression_step}
use Rattle.cat_tokens.specs.Tokens.{rule_of}
use Rattle.cat_grammar.specs.ItemMachine as items
use Rattle.cat_grammar.specs.ItemMachine.{LetPart, Keyword, Named, And, Parameter, AfterParameter, Parameters, Head, BoundHead, FunctionHead, CheckedHead, ShownHead, Part, InLet, AfterFlag, AfterTilde, Body, Label, ShowLabel, AfterShowLabel, AfterInclude, Done, Fault, Here, ItemState, begin_body, begin_check, begin_item, excess, unless, end_of, item_or_end, after_title, after_tilde, after_flag, fresh, extended, after_keyword, bound_name, parameter_read, after_parameter, after_let_name, after_bound, after_parameters, after_let, checked, shown_also, shown_clause, finished, at, added, unless_before, item_ended_by_tilde, and_read, label_start, shown_on, after_body, after_as, after_show_as, after_show_label, after_include, goes_on, step_part, clause_step, clause_start}
use Rattle.cat_grammar.proofs.Runs.{◌>>=◌, run_over}
use Rattle.cat_grammar.proofs.Groups.{before_group, before_parameters, before_shown, spelled_group-push, before_group-push, group_meaning-push, length-group_meaning, AreBound-push, spelled_parameters-push, spelled_parameters-comma, spelled_shown-push, spelled_shown-comma, shown_meaning-push, AreShown-push, length-push, spelled_items-push, items_meaning-push, length-items_meaning, AreItems-push}
use Rattle.cat_grammar.proofs.Sound.{Stands, Ended, ExpressionStands, step_stands}

abbrev pub spelled_flag : Bool → List Token → List Token
spelled_flag true rest = tokens.Flag ∷ rest
spelled_flag false rest = rest

-- the item whose expression is read, with the trees that were written
pub data HeadTree : Type 0 where
  BoundTree : (recursive : Bool) (group : List BindingTree) (name : List ℕ) → HeadTree
  FunctionTree : (name : List ℕ) (parameters : List (List ℕ)) → HeadTree
  CheckedTree : (head : CheckHead) → HeadTree
  ShownTree : (hidden : Bool) (shown : List ShowTree) → HeadTree

abbrev pub head_of : HeadTree → Head
head_of (BoundTree recursive bs n) =
    BoundHead (record { recursive = recursive; bindings = group_meaning bs }) n
head_of (FunctionTree n ps) = FunctionHead n ps
head_of (CheckedTree h) = CheckedHead h
head_of (ShownTree hidden ss) = ShownHead (record { hidden = hidden; terms = shown_meaning ss })

abbrev pub spelled_head : HeadTree → List Token → List Token
spelled_head (BoundTree recursive bs n) w =
    tokens.Let ∷ spelled_rec recursive (before_group bs (tokens.Name n ∷ tokens.Equals ∷ w))
spelled_head (FunctionTree n ps) w =
    tokens.Let ∷ tokens.Name n ∷ tokens.Open
    ∷ spelled_parameters ps (tokens.Close ∷ tokens.Equals ∷ w)
spelled_head (CheckedTree h) w =
    spelled_flag h.flagged (spelled_tilde h.negated (tokens.Check h.word ∷ w))
spelled_head (ShownTree hidden ss) w = show_token hidden ∷ before_shown ss w

abbrev pub HeadFine : Limits → HeadTree → Type 0
HeadFine most (BoundTree recursive bs n) = (length bs < most.names) × AreBindingTrees most bs
HeadFine most (FunctionTree n ps) = (0 < length ps) × (length ps ≤ most.parameters)
HeadFine most (CheckedTree h) = Unit {0}
HeadFine most (ShownTree hidden ss) = AreShowTrees most ss

-- the tokens of a title and of items, and then rest
abbrev pub text : Title → List ItemTree → List Token → List Token
text title is rest = spelled_title title (spelled_items is rest)

-- so many items may stand
abbrev pub Fits : Form → Limits → ℕ → Type 0
Fits forms.Model most n = n ≤ most.items
Fits forms.Item most n = n ≤ 1

abbrev pub TitleFits : Form → Title → Type 0
TitleFits forms.Model title = Unit {0}
TitleFits forms.Item title = title ≡ NoTitle

-- a group that is read
pub record InGroup (most : Limits) (whole rest : List Token) (title : Title) (is : List ItemTree)
    (g : items.Group) : Type 0 where
  pub bs : List BindingTree
  pub bindings_are : group_meaning bs ≡ g.bindings
  pub few : length bs ≤ most.names
  pub each : AreBindingTrees most bs
  pub whole_is : whole ≡ text title is (tokens.Let ∷ spelled_rec g.recursive (before_group bs rest))

-- an item whose expression is read
pub record InBody (most : Limits) (whole rest : List Token) (title : Title) (is : List ItemTree)
    (h : Head) (fs : List TermFrame) (used : ℕ) (expected : TermExpectation) : Type 0 where
  pub tree : HeadTree
  pub head_is : head_of tree ≡ h
  pub fine : HeadFine most tree
  pub own : List Token
  pub whole_is : whole ≡ text title is (spelled_head tree own)
  pub stands : Stands most own rest fs used expected

-- a check whose label is read
pub record InLabel (most : Limits) (whole rest : List Token) (title : Title) (is : List ItemTree)
    (h : CheckHead) (v : Term) : Type 0 where
  pub own : List Token
  pub whole_is : whole ≡ text title is (spelled_head (CheckedTree h) own)
  pub ended : Ended most own (tokens.As ∷ rest) v

-- a shown expression whose label is read
pub record InShowLabel (most : Limits) (whole rest : List Token) (title : Title)
    (is : List ItemTree) (s : items.ShownPart) (v : Term) : Type 0 where
  pub ss : List ShowTree
  pub terms_are : shown_meaning ss ≡ s.terms
  pub each : AreShowTrees most ss
  pub own : List Token
  pub whole_is : whole ≡ text title is (show_token s.hidden ∷ before_shown ss own)
  pub ended : Ended most own (tokens.As ∷ rest) v

-- a show that may end here
pub record InShow (most : Limits) (whole rest : List Token) (title : Title) (is : List ItemTree)
    (s : items.ShownPart) : Type 0 where
  pub ss : List ShowTree
  pub terms_are : shown_meaning ss ≡ s.terms
  pub some : 0 < length ss
  pub each : AreShowTrees most ss
  pub whole_is : whole ≡ text title is (show_token s.hidden ∷ spelled_shown ss rest)

abbrev pub LetStands : Limits → List Token → List Token → Title → List ItemTree → LetPart → Type 0
LetStands most whole rest title is Keyword = whole ≡ text title is (tokens.Let ∷ rest)
LetStands most whole rest title is (Named n) =
    whole ≡ text title is (tokens.Let ∷ tokens.Name n ∷ rest)
LetStands most whole rest title is (And g) = InGroup most whole rest title is g
LetStands most whole rest title is (items.Bound g n) =
    (length g.bindings < most.names) × InGroup most whole (tokens.Name n ∷ rest) title is g
LetStands most whole rest title is (Parameter n ps) =
    (length ps ≤ most.parameters)
    × (whole ≡ text title is (tokens.Let ∷ tokens.Name n ∷ tokens.Open ∷ before_parameters ps rest))
LetStands most whole rest title is (AfterParameter n ps) =
    (0 < length ps) × (length ps ≤ most.parameters)
    × (whole
    ≡ text title is (tokens.Let ∷ tokens.Name n ∷ tokens.Open
    ∷ spelled_parameters ps rest))
LetStands most whole rest title is (Parameters n ps) =
    (0 < length ps) × (length ps ≤ most.parameters)
    × (whole
    ≡ text title is (tokens.Let ∷ tokens.Name n ∷ tokens.Open
    ∷ spelled_parameters ps (tokens.Close ∷ rest)))

-- the part that is read, after n items
abbrev pub PartStands : Limits → Form → List Token → List Token → Title → List ItemTree → ℕ → Part
    → Type 0
PartStands most form whole rest title is n items.Title =
    (form ≡ forms.Model) × (is ≡ []) × (whole ≡ rest)
PartStands most form whole rest title is n items.Start =
    Fits form most n × (whole ≡ text title is rest)
PartStands most form whole rest title is n (InLet p) =
    Fits form most (n + 1) × LetStands most whole rest title is p
PartStands most form whole rest title is n AfterFlag =
    Fits form most (n + 1) × (whole ≡ text title is (tokens.Flag ∷ rest))
PartStands most form whole rest title is n (AfterTilde flagged) =
    Fits form most (n + 1) × (whole ≡ text title is (spelled_flag flagged (tokens.Tilde ∷ rest)))
PartStands most form whole rest title is n (Body h fs used expected) =
    Fits form most (n + 1) × InBody most whole rest title is h fs used expected
PartStands most form whole rest title is n (Label h v) =
    Fits form most (n + 1) × InLabel most whole rest title is h v
PartStands most form whole rest title is n (ShowLabel s v) =
    Fits form most (n + 1) × InShowLabel most whole rest title is s v
PartStands most form whole rest title is n (AfterShowLabel s) =
    Fits form most (n + 1) × InShow most whole rest title is s
PartStands most form whole rest title is n AfterInclude =
    Fits form most (n + 1) × (whole ≡ text title is (tokens.Include ∷ rest))
PartStands most form whole rest title is n Done =
    IsFormText form most title is × (whole ≡ text title is (tokens.End ∷ rest))

pub record StateStands (most : Limits) (form : Form) (whole rest : List Token) (s : ItemState)
    : Type 0 where
  pub title : Title
  pub is : List ItemTree
  pub title_is : TitleFits form title
  pub each : AreItemTrees most is
  pub meant : items_meaning is ≡ s.items
  pub part : PartStands most form whole rest title is (length s.items) s.part

abbrev pub ResultStands : Limits → Form → List Token → List Token → Result ItemState Fault → Type 0
ResultStands most form whole rest (Ok s) = StateStands most form whole rest s
ResultStands most form whole rest (Err e) = Unit {0}

is_one : (n : ℕ) → n ≤ 1 → (n == 0) ≡ false → n ≡ 1
is_one n h e = grind (arith, nat_tests)

module _ (most : Limits) (form : Form) (whole : List Token) (some : 0 < most.nesting) where
  -- items that were read, and then rest
  record Read (cs : List Clause) (rest : List Token) : Type 0 where
    title : Title
    is : List ItemTree
    title_is : TitleFits form title
    each : AreItemTrees most is
    meant : items_meaning is ≡ cs
    whole_is : whole ≡ text title is rest

  abbrev Result' : List Token → Result ItemState Fault → Type 0
  Result' rest r = ResultStands most form whole rest r

  pushed : (cs : List Clause) (title : Title) (is : List ItemTree) (i : ItemTree) (c : Clause)
      (rest : List Token) → TitleFits form title → AreItemTrees most is → items_meaning is ≡ cs
      → IsItemTree most i → item_meaning i ≡ c → whole ≡ text title is (spelled_item i rest)
      → Read (cs ++ c ∷ []) rest
  pushed cs title is i c rest fits each meant h e whole_is =
      record {
        title = title;
        is = is ++ i ∷ [];
        title_is = fits;
        each = AreItems-push most is i each h;
        meant =
            items_meaning-push is i ∙ ap (λ (x : Clause). items_meaning is ++ x ∷ []) e
            ∙ ap (λ (x : List Clause). x ++ c ∷ []) meant;
        whole_is = whole_is ∙ ap (spelled_title title) (sym (spelled_items-push is i rest));
      }

  -- a state after the items that were read
  stands : (cs : List Clause) (rest w : List Token) (p : Part) → (r : Read cs w)
      → PartStands most form whole rest r.title r.is (length cs) p
      → StateStands most form whole rest (record { items = cs; part = p })
  stands cs rest w p r h =
      record {
        title = r.title;
        is = r.is;
        title_is = r.title_is;
        each = r.each;
        meant = r.meant;
        part = h;
      }

  body_start : (cs : List Clause) (tree : HeadTree) (rest : List Token)
      → Fits form most (length cs + 1) → HeadFine most tree → Read cs (spelled_head tree rest)
      → StateStands most form whole rest (record { items = cs; part = begin_body (head_of tree) })
  body_start cs tree rest fits fine r =
      stands cs rest (spelled_head tree rest) (begin_body (head_of tree)) r (
        fits,
        record {
          tree = tree;
          head_is = refl;
          fine = fine;
          own = rest;
          whole_is = r.whole_is;
          stands =
              record {
                bs = [];
                is = refl;
                fine = tt;
                counted = refl;
                short = omega arith;
                whole_is = refl;
              };
        },
      )

  check_start : (cs : List Clause) (flagged negated : Bool) (w : CheckWord) (rest : List Token)
      → Fits form most (length cs + 1)
      → Read cs (spelled_flag flagged (spelled_tilde negated (tokens.Check w ∷ rest)))
      → StateStands most form whole rest (record {
        items = cs;
        part = begin_check flagged negated w;
      })
  check_start cs flagged negated w rest fits r =
      body_start cs (CheckedTree (record { flagged = flagged; negated = negated; word = w })) rest
      fits tt r

  begin_item_stands : (cs : List Clause) (t : Token) (rest : List Token) → Read cs (t ∷ rest)
      → Fits form most (length cs + 1) → Result' rest (at cs (begin_item t))
  begin_item_stands cs tokens.Let rest r fits =
      stands cs rest (tokens.Let ∷ rest) (InLet Keyword) r (fits, r.whole_is)
  begin_item_stands cs tokens.Flag rest r fits =
      stands cs rest (tokens.Flag ∷ rest) AfterFlag r (fits, r.whole_is)
  begin_item_stands cs tokens.Tilde rest r fits =
      stands cs rest (tokens.Tilde ∷ rest) (AfterTilde false) r (fits, r.whole_is)
  begin_item_stands cs (tokens.Check w) rest r fits = check_start cs false false w rest fits r
  begin_item_stands cs tokens.Show rest r fits = body_start cs (ShownTree false []) rest fits tt r
  begin_item_stands cs tokens.Unshow rest r fits = body_start cs (ShownTree true []) rest fits tt r
  begin_item_stands cs tokens.Include rest r fits =
      stands cs rest (tokens.Include ∷ rest) AfterInclude r (fits, r.whole_is)
  begin_item_stands cs _ rest r fits = tt

  -- one more item may stand, or it is refused
  room : (n : ℕ) (A : Type 0) → (Fits form most (n + 1) → excess most form n ≡ None → A)
      → ((r : CatRule) → excess most form n ≡ Some r → A) → A
  room n A holds fails = by_form form holds fails
    where
      by_form : (f : Form) → (Fits f most (n + 1) → excess most f n ≡ None → A)
          → ((r : CatRule) → excess most f n ≡ Some r → A) → A
      by_form forms.Model holds fails = choose (nat_lt n most.items) refl
        where
          choose : (b : Bool) → nat_lt n most.items ≡ b → A
          choose true e =
              let h = ltb-true n most.items e in
              holds (omega arith) (ap (λ (x : Bool). if x then None else Some rules.TooMany) e)
          choose false e =
              fails rules.TooMany (ap (λ (x : Bool). if x then None else Some rules.TooMany) e)
      by_form forms.Item holds fails = choose (nat_lt n 1) refl
        where
          choose : (b : Bool) → nat_lt n 1 ≡ b → A
          choose true e =
              let h = ltb-true n 1 e in
              holds (omega arith) (ap (λ (x : Bool). if x then None else Some rules.Syntax) e)
          choose false e =
              fails rules.Syntax (ap (λ (x : Bool). if x then None else Some rules.Syntax) e)

  unless_stands : (cs : List Clause) (rest : List Token) (n : ℕ) (x : Result Part Fault)
      → (Fits form most (n + 1) → Result' rest (at cs x))
      → Result' rest (at cs (unless (excess most form n) x))
  unless_stands cs rest n x h =
      room n (Result' rest (at cs (unless (excess most form n) x)))
      (λ fits e.
      subst (λ (o : Option CatRule). Result' rest (at cs (unless o x))) (sym e) (h fits))
      (λ r e. subst (λ (o : Option CatRule). Result' rest (at cs (unless o x))) (sym e)
      (refused r x))
    where
      refused : (r : CatRule) (x : Result Part Fault) → Result' rest (at cs (unless (Some r) x))
      refused r (Ok p) = tt
      refused r (Err d) = tt

  end_stands : (cs : List Clause) (rest : List Token) → Read cs (tokens.End ∷ rest)
      → Fits form most (length cs) → Result' rest (at cs (end_of form (length cs)))
  end_stands cs rest r fits = by_form form refl r.title_is fits
    where
      many : length r.is ≡ length cs
      many = sym (length-items_meaning r.is) ∙ ap length r.meant

      by_form : (f : Form) → form ≡ f → TitleFits f r.title → Fits f most (length cs)
          → Result' rest (at cs (end_of f (length cs)))
      by_form forms.Model e title_is fits =
          stands cs rest (tokens.End ∷ rest) Done r (
            subst
                (λ (g : Form). IsFormText g most r.title r.is) (sym e) (let m = many in omega arith),
            r.whole_is,
          )
      by_form forms.Item e title_is fits = choose (length cs == 0) refl
        where
          choose : (b : Bool) → (length cs == 0) ≡ b
              → Result' rest (at cs (if b then Err (Here rules.Syntax) else Ok Done))
          choose true q = tt
          choose false q =
              stands cs rest (tokens.End ∷ rest) Done r (
                subst
                    (λ (g : Form). IsFormText g most r.title r.is) (sym e)
                    (title_is, many ∙ is_one (length cs) fits q),
                r.whole_is,
              )

  item_or_end_stands : (cs : List Clause) (t : Token) (rest : List Token) → Read cs (t ∷ rest)
      → Fits form most (length cs) → Result' rest (at cs (item_or_end most form (length cs) t))
  item_or_end_stands cs tokens.End rest r fits = end_stands cs rest r fits
  item_or_end_stands cs t rest r fits =
      unless_stands cs rest (length cs) (begin_item t) (λ more. begin_item_stands cs t rest r more)

  -- the count of the items that were read
  item_or_end_at : (cs : List Clause) (c : Clause) (t : Token) (rest : List Token)
      → Read (cs ++ c ∷ []) (t ∷ rest) → Fits form most (length cs + 1)
      → Result' rest (at (cs ++ c ∷ []) (item_or_end most form (length cs + 1) t))
  item_or_end_at cs c t rest r fits =
      subst (λ (n : ℕ). Result' rest (at (cs ++ c ∷ []) (item_or_end most form n t)))
      (length-push cs c)
      (item_or_end_stands (cs ++ c ∷ []) t rest r
      (subst (Fits form most) (sym (length-push cs c)) fits))

  after_title_stands : (t : Token) (rest : List Token) → form ≡ forms.Model → whole ≡ t ∷ rest
      → Result' rest (at [] (after_title most form 0 t))
  after_title_stands t rest e whole_is = by_token t whole_is
    where
      title_fits : (title : Title) → TitleFits form title
      title_fits title = subst (λ (f : Form). TitleFits f title) (sym e) tt

      none_fit : Fits form most 0
      none_fit = subst (λ (f : Form). Fits f most 0) (sym e) (omega arith)

      by_token : (t : Token) → whole ≡ t ∷ rest → Result' rest (at [] (after_title most form 0 t))
      by_token (tokens.Name n) w =
          record {
            title = NameTitle n;
            is = [];
            title_is = title_fits (NameTitle n);
            each = tt;
            meant = refl;
            part = (none_fit, w);
          }
      by_token (tokens.Quoted n) w =
          record {
            title = StringTitle n;
            is = [];
            title_is = title_fits (StringTitle n);
            each = tt;
            meant = refl;
            part = (none_fit, w);
          }
      by_token t w =
          item_or_end_stands [] t rest
          (record {
            title = NoTitle;
            is = [];
            title_is = title_fits NoTitle;
            each = tt;
            meant = refl;
            whole_is = w;
          }) none_fit

  after_tilde_stands : (cs : List Clause) (flagged : Bool) (t : Token) (rest : List Token)
      → Read cs (spelled_flag flagged (tokens.Tilde ∷ t ∷ rest)) → Fits form most (length cs + 1)
      → Result' rest (at cs (after_tilde flagged t))
  after_tilde_stands cs flagged (tokens.Check w) rest r fits =
      check_start cs flagged true w rest fits r
  after_tilde_stands cs flagged _ rest r fits = tt

  after_flag_stands : (cs : List Clause) (t : Token) (rest : List Token)
      → Read cs (tokens.Flag ∷ t ∷ rest) → Fits form most (length cs + 1)
      → Result' rest (at cs (after_flag t))
  after_flag_stands cs tokens.Tilde rest r fits =
      stands cs rest (tokens.Flag ∷ tokens.Tilde ∷ rest) (AfterTilde true) r (fits, r.whole_is)
  after_flag_stands cs (tokens.Check w) rest r fits = check_start cs true false w rest fits r
  after_flag_stands cs _ rest r fits = tt

  -- ---- let

  module _ (cs : List Clause) (title : Title) (is : List ItemTree) (title_is : TitleFits form title)
      (each : AreItemTrees most is) (meant : items_meaning is ≡ cs)
      (fits : Fits form most (length cs + 1)) where
    read : (w : List Token) → whole ≡ text title is w → Read cs w
    read w e =
        record {
          title = title;
          is = is;
          title_is = title_is;
          each = each;
          meant = meant;
          whole_is = e;
        }

    in_let : (rest : List Token) (p : LetPart) → LetStands most whole rest title is p
        → StateStands most form whole rest (record { items = cs; part = InLet p })
    in_let rest p h =
        record {
          title = title;
          is = is;
          title_is = title_is;
          each = each;
          meant = meant;
          part = (fits, h);
        }

    bound_name_stands : (g : items.Group) (t : Token) (rest : List Token)
        → InGroup most whole (t ∷ rest) title is g → Result' rest (at cs (bound_name most g t))
    bound_name_stands g (tokens.Name n) rest h = choose (nat_lt (length g.bindings) most.names) refl
      where
        choose : (b : Bool) → nat_lt (length g.bindings) most.names ≡ b
            → Result' rest (at cs (if b then Ok (InLet (items.Bound g n))
            else Err (Here rules.TooMany)))
        choose true e = in_let rest (items.Bound g n) (ltb-true _ _ e, h)
        choose false e = tt
    bound_name_stands g _ rest h = tt

    parameter_stands : (n : List ℕ) (ps : List (List ℕ)) (t : Token) (rest : List Token)
        → whole
        ≡ text title is (tokens.Let ∷ tokens.Name n ∷ tokens.Open
        ∷ before_parameters ps (t ∷ rest))
        → Result' rest (at cs (parameter_read most n ps t))
    parameter_stands n ps (tokens.Name p) rest h = choose (nat_lt (length ps) most.parameters) refl
      where
        choose : (b : Bool) → nat_lt (length ps) most.parameters ≡ b
            → Result' rest (at cs (if b then Ok (InLet (AfterParameter n (ps ++ p ∷ [])))
            else Err (Here rules.TooMany)))
        choose true e =
            let lt = ltb-true _ _ e in
            let l = length-push ps p in
            in_let rest (AfterParameter n (ps ++ p ∷ [])) (
              omega arith,
              omega arith,
              h
                  ∙ ap
                  (λ (ts : List Token).
                  text title is (tokens.Let ∷ tokens.Name n ∷ tokens.Open ∷ ts))
                  (sym (spelled_parameters-push ps p rest)),
            )
        choose false e = tt
    parameter_stands n ps _ rest h = tt

    after_parameter_stands : (n : List ℕ) (ps : List (List ℕ)) (t : Token) (rest : List Token)
        → 0 < length ps → length ps ≤ most.parameters
        → whole
        ≡ text title is (tokens.Let ∷ tokens.Name n ∷ tokens.Open
        ∷ spelled_parameters ps (t ∷ rest))
        → Result' rest (at cs (after_parameter n ps t))
    after_parameter_stands n ps tokens.Comma rest one few h =
        in_let rest (Parameter n ps) (
          few,
          h
              ∙ ap
              (λ (ts : List Token).
              text title is (tokens.Let ∷ tokens.Name n ∷ tokens.Open ∷ ts))
              (spelled_parameters-comma ps rest one),
        )
    after_parameter_stands n ps tokens.Close rest one few h =
        in_let rest (Parameters n ps) (one, few, h)
    after_parameter_stands n ps _ rest one few h = tt

    after_parameters_stands : (n : List ℕ) (ps : List (List ℕ)) (t : Token) (rest : List Token)
        → 0 < length ps → length ps ≤ most.parameters
        → whole
        ≡ text title is (tokens.Let ∷ tokens.Name n ∷ tokens.Open
        ∷ spelled_parameters ps (tokens.Close ∷ t ∷ rest))
        → Result' rest (at cs (after_parameters n ps t))
    after_parameters_stands n ps tokens.Equals rest one few h =
        body_start cs (FunctionTree n ps) rest fits (one, few)
        (read (spelled_head (FunctionTree n ps) rest) h)
    after_parameters_stands n ps _ rest one few h = tt

    after_keyword_stands : (t : Token) (rest : List Token)
        → whole ≡ text title is (tokens.Let ∷ t ∷ rest) → Result' rest (at cs (after_keyword t))
    after_keyword_stands tokens.Rec rest h =
        in_let rest (And (fresh true)) (record {
          bs = [];
          bindings_are = refl;
          few = omega arith;
          each = tt;
          whole_is = h;
        })
    after_keyword_stands (tokens.Name n) rest h = in_let rest (Named n) h
    after_keyword_stands _ rest h = tt

    after_let_name_stands : 0 < most.names → (n : List ℕ) (t : Token) (rest : List Token)
        → whole ≡ text title is (tokens.Let ∷ tokens.Name n ∷ t ∷ rest)
        → Result' rest (at cs (after_let_name n t))
    after_let_name_stands one n tokens.Equals rest h =
        body_start cs (BoundTree false [] n) rest fits (one, tt)
        (read (spelled_head (BoundTree false [] n) rest) h)
    after_let_name_stands one n tokens.Open rest h = in_let rest (Parameter n []) (omega arith, h)
    after_let_name_stands one n _ rest h = tt

    -- the tree of a group whose next expression is read
    bound_head : (g : items.Group) (n : List ℕ) (rest : List Token) → length g.bindings < most.names
        → InGroup most whole (tokens.Name n ∷ tokens.Equals ∷ rest) title is g
        → StateStands most form whole rest
        (record { items = cs; part = begin_body (BoundHead g n) })
    bound_head g n rest lt h =
        let few : length h.bs < most.names = (let l = length-group_meaning h.bs in let e = ap length h.bindings_are in omega arith) in
        let s = body_start cs (BoundTree g.recursive h.bs n) rest fits (few, h.each) (read (spelled_head (BoundTree g.recursive h.bs n) rest) h.whole_is) in
        subst
        (λ (bindings : List (List ℕ × Term)). StateStands most form whole rest
        (record {
          items = cs;
          part =
              begin_body (BoundHead
              (record { recursive = g.recursive; bindings = bindings }) n);
        }))
        h.bindings_are s

    after_bound_stands : (g : items.Group) (n : List ℕ) (t : Token) (rest : List Token)
        → length g.bindings < most.names → InGroup most whole (tokens.Name n ∷ t ∷ rest) title is g
        → Result' rest (at cs (after_bound g n t))
    after_bound_stands g n tokens.Equals rest lt h = bound_head g n rest lt h
    after_bound_stands g n tokens.Open rest lt h = tt
    after_bound_stands g n _ rest lt h = tt

    after_let_stands : 0 < most.names → (p : LetPart) (t : Token) (rest : List Token)
        → LetStands most whole (t ∷ rest) title is p → Result' rest (at cs (after_let most p t))
    after_let_stands one Keyword t rest h = after_keyword_stands t rest h
    after_let_stands one (Named n) t rest h = after_let_name_stands one n t rest h
    after_let_stands one (And g) t rest h = bound_name_stands g t rest h
    after_let_stands one (items.Bound g n) t rest h = after_bound_stands g n t rest h.0 h.1
    after_let_stands one (Parameter n ps) t rest h = parameter_stands n ps t rest h.1
    after_let_stands one (AfterParameter n ps) t rest h =
        after_parameter_stands n ps t rest h.0 h.1 h.2
    after_let_stands one (Parameters n ps) t rest h =
        after_parameters_stands n ps t rest h.0 h.1 h.2

    -- ---- after an item's expression

    -- the item that ends with an expression
    added_stands : (tree : HeadTree) (v : Term) (r : CatRule) (rest after own : List Token)
        (next : ℕ → Result Part Fault) → HeadFine most tree
        → whole ≡ text title is (spelled_head tree own) → Ended most own rest v
        → ((c : Clause) → Read (cs ++ c ∷ []) rest
        → Result' after (at (cs ++ c ∷ []) (next (length cs + 1))))
        → Result' after (added cs (finished (head_of tree) v r) next)
    added_stands (BoundTree recursive bs n) v r rest after own next fine e x k =
        let b : BindingTree = record { name = n; body = x.t } in
        let l = length-push bs b in
        k (Binding recursive (group_meaning bs ++ (n, v) ∷ []))
        (pushed cs title is (grammar.Let recursive (bs ++ b ∷ []))
        (Binding recursive (group_meaning bs ++ (n, v) ∷ [])) rest title_is each meant
        (omega arith, (let f = fine.0 in omega arith), AreBound-push most bs b fine.1 x.is)
        (ap (Binding recursive) (group_meaning-push bs b
        ∙ ap (λ (w : Term). group_meaning bs ++ (n, w) ∷ []) x.means))
        (e
        ∙ ap (λ (w : List Token). text title is (spelled_head (BoundTree recursive bs n) w))
        x.whole_is
        ∙ ap (λ (w : List Token). text title is (tokens.Let ∷ spelled_rec recursive w))
        (sym (spelled_group-push bs b rest))))
    added_stands (FunctionTree n ps) v r rest after own next fine e x k =
        k (Function n ps v)
        (pushed cs title is (grammar.Function n ps x.t) (Function n ps v) rest title_is each meant
        (fine.0, fine.1, x.is) (ap (Function n ps) x.means) (e
        ∙ ap (λ (w : List Token). text title is (spelled_head (FunctionTree n ps) w))
        x.whole_is))
    added_stands (CheckedTree h) v r rest after own next fine e x k = choose h.flagged e
      where
        choose : (b : Bool)
            → whole
            ≡ text title is (spelled_flag b
            (spelled_tilde h.negated (tokens.Check h.word ∷ own)))
            → Result' after (added cs (if b then Err (Here r) else Ok (Checking (checked h v) None))
            next)
        choose true q = tt
        choose false q =
            k (Checking (checked h v) None)
            (pushed cs title is
            (grammar.Check (record { negated = h.negated; word = h.word; body = x.t }) None)
            (Checking (checked h v) None) rest title_is each meant x.is
            (ap (λ (w : Term). Checking (checked h w) None) x.means) (q
            ∙ ap
            (λ (w : List Token).
            text title is (spelled_tilde h.negated (tokens.Check h.word ∷ w)))
            x.whole_is))
    added_stands (ShownTree hidden ss) v r rest after own next fine e x k =
        let s : ShowTree = record { body = x.t; label = None } in
        let l = length-push ss s in
        k (Showing hidden (shown_meaning ss ++ (v, None) ∷ []))
        (pushed cs title is (grammar.Show hidden (ss ++ s ∷ []))
        (Showing hidden (shown_meaning ss ++ (v, None) ∷ [])) rest title_is each meant
        (omega arith, AreShown-push most ss s fine x.is)
        (ap (Showing hidden) (shown_meaning-push ss s
        ∙ ap (λ (w : Term). shown_meaning ss ++ (w, None) ∷ []) x.means))
        (e
        ∙ ap (λ (w : List Token). text title is (spelled_head (ShownTree hidden ss) w))
        x.whole_is
        ∙ ap (λ (w : List Token). text title is (show_token hidden ∷ w))
        (sym (spelled_shown-push ss s rest))))

    and_read_stands : (tree : HeadTree) (v : Term) (rest own : List Token) → HeadFine most tree
        → whole ≡ text title is (spelled_head tree own) → Ended most own (tokens.And ∷ rest) v
        → Result' rest (at cs (and_read (head_of tree) v))
    and_read_stands (BoundTree recursive bs n) v rest own fine e x =
        let b : BindingTree = record { name = n; body = x.t } in
        let l = length-push bs b in
        in_let rest (And (extended (record { recursive = recursive; bindings = group_meaning bs }) n
        v))
        (record {
          bs = bs ++ b ∷ [];
          bindings_are =
              group_meaning-push bs b ∙ ap (λ (w : Term). group_meaning bs ++ (n, w) ∷ []) x.means;
          few = (let f = fine.0 in omega arith);
          each = AreBound-push most bs b fine.1 x.is;
          whole_is =
              e
              ∙ ap (λ (w : List Token). text title is (spelled_head (BoundTree recursive bs n) w))
              x.whole_is
              ∙ ap (λ (w : List Token). text title is (tokens.Let ∷ spelled_rec recursive w))
              (sym (before_group-push bs b rest));
        })
    and_read_stands (FunctionTree n ps) v rest own fine e x = tt
    and_read_stands (CheckedTree h) v rest own fine e x = tt
    and_read_stands (ShownTree hidden ss) v rest own fine e x = tt

    in_part : (rest : List Token) (p : Part)
        → PartStands most form whole rest title is (length cs) p
        → StateStands most form whole rest (record { items = cs; part = p })
    in_part rest p h =
        record { title = title; is = is; title_is = title_is; each = each; meant = meant; part = h }

    label_stands : (tree : HeadTree) (v : Term) (rest own : List Token) → HeadFine most tree
        → whole ≡ text title is (spelled_head tree own) → Ended most own (tokens.As ∷ rest) v
        → Result' rest (at cs (label_start (head_of tree) v))
    label_stands (BoundTree recursive bs n) v rest own fine e x = tt
    label_stands (FunctionTree n ps) v rest own fine e x = tt
    label_stands (CheckedTree h) v rest own fine e x =
        in_part rest (Label h v) (fits, record { own = own; whole_is = e; ended = x })
    label_stands (ShownTree hidden ss) v rest own fine e x =
        in_part rest (ShowLabel (record { hidden = hidden; terms = shown_meaning ss }) v) (
          fits,
          record {
            ss = ss;
            terms_are = refl;
            each = fine;
            own = own;
            whole_is = e;
            ended = x;
          },
        )

    -- the next expression of a show
    show_start : (hidden : Bool) (ss : List ShowTree) (terms : List (Term × Option (List ℕ)))
        (rest : List Token) → shown_meaning ss ≡ terms → AreShowTrees most ss
        → whole ≡ text title is (show_token hidden ∷ before_shown ss rest)
        → StateStands most form whole rest (record {
          items = cs;
          part = begin_body (ShownHead (record { hidden = hidden; terms = terms }));
        })
    show_start hidden ss terms rest e fine w =
        subst
        (λ (x : List (Term × Option (List ℕ))). StateStands most form whole rest
        (record {
          items = cs;
          part = begin_body (ShownHead (record { hidden = hidden; terms = x }));
        })) e
        (body_start cs (ShownTree hidden ss) rest fits fine
        (read (spelled_head (ShownTree hidden ss) rest) w))

    shown_on_stands : (tree : HeadTree) (v : Term) (rest own : List Token) → HeadFine most tree
        → whole ≡ text title is (spelled_head tree own) → Ended most own (tokens.Comma ∷ rest) v
        → Result' rest (at cs (shown_on (head_of tree) v))
    shown_on_stands (BoundTree recursive bs n) v rest own fine e x = tt
    shown_on_stands (FunctionTree n ps) v rest own fine e x = tt
    shown_on_stands (CheckedTree h) v rest own fine e x = tt
    shown_on_stands (ShownTree hidden ss) v rest own fine e x =
        let s : ShowTree = record { body = x.t; label = None } in
        let l = length-push ss s in
        show_start hidden (ss ++ s ∷ []) (shown_meaning ss ++ (v, None) ∷ []) rest
        (shown_meaning-push ss s
        ∙ ap (λ (w : Term). shown_meaning ss ++ (w, None) ∷ []) x.means)
        (AreShown-push most ss s fine x.is)
        (e
        ∙ ap (λ (w : List Token). text title is (spelled_head (ShownTree hidden ss) w))
        x.whole_is
        ∙ ap (λ (w : List Token). text title is (show_token hidden ∷ w))
        (sym (spelled_shown-push ss s (tokens.Comma ∷ rest))
        ∙ spelled_shown-comma (ss ++ s ∷ []) rest (omega arith)))

    after_body_stands : (tree : HeadTree) (v : Term) (t : Token) (rest own : List Token)
        → HeadFine most tree → whole ≡ text title is (spelled_head tree own)
        → Ended most own (t ∷ rest) v → Result' rest (after_body most form cs (head_of tree) v t)
    after_body_stands tree v tokens.And rest own fine e x = and_read_stands tree v rest own fine e x
    after_body_stands tree v tokens.As rest own fine e x = label_stands tree v rest own fine e x
    after_body_stands tree v tokens.Comma rest own fine e x =
        shown_on_stands tree v rest own fine e x
    after_body_stands tree v t rest own fine e x =
        added_stands tree v (rule_of t) (t ∷ rest) rest own (λ n. item_or_end most form n t) fine e
        x (λ c r. item_or_end_at cs c t rest r fits)

    abbrev before_made : Clause → CheckWord → Option CatRule → Result ItemState Fault
    before_made c w o = at (cs ++ c ∷ []) (unless_before o (begin_check false true w))

    before_refused : (c : Clause) (w : CheckWord) (rest : List Token) (k : CatRule)
        → Result' rest (before_made c w (Some k))
    before_refused c w rest rules.TooMany = tt
    before_refused c w rest _ = tt

    unless_before_stands : (c : Clause) (rest : List Token) (w : CheckWord)
        → Read (cs ++ c ∷ []) (tokens.Tilde ∷ tokens.Check w ∷ rest)
        → Result' rest (at (cs ++ c ∷ []) (unless_before (excess most form (length cs + 1))
        (begin_check false true w)))
    unless_before_stands c rest w r =
        room (length cs + 1) (Result' rest (before_made c w (excess most form (length cs + 1))))
        (λ more e. subst (λ (o : Option CatRule). Result' rest (before_made c w o)) (sym e)
        (check_start (cs ++ c ∷ []) false true w rest
        (subst (λ (n : ℕ). Fits form most (n + 1)) (sym (length-push cs c)) more) r))
        (λ k e. subst (λ (o : Option CatRule). Result' rest (before_made c w o)) (sym e)
        (before_refused c w rest k))

    tilde_stands : (tree : HeadTree) (v : Term) (w : CheckWord) (rest own : List Token)
        → HeadFine most tree → whole ≡ text title is (spelled_head tree own)
        → Ended most own (tokens.Tilde ∷ tokens.Check w ∷ rest) v
        → Result' rest (item_ended_by_tilde most form cs (head_of tree) v w)
    tilde_stands tree v w rest own fine e x =
        added_stands tree v rules.Syntax (tokens.Tilde ∷ tokens.Check w ∷ rest) rest own
        (λ n. unless_before (excess most form n) (begin_check false true w)) fine e x
        (λ c r. unless_before_stands c rest w r)

    goes_on_stands : (tree : HeadTree) (t : Token) (x : TermStep) (rest own : List Token)
        → HeadFine most tree → whole ≡ text title is (spelled_head tree own)
        → ExpressionStands most own t rest x
        → Result' rest (goes_on most form cs (head_of tree) t x)
    goes_on_stands tree t (Goes fs used expected) rest own fine e s =
        in_part rest (Body (head_of tree) fs used expected) (
          fits,
          record {
            tree = tree;
            head_is = refl;
            fine = fine;
            own = own;
            whole_is = e;
            stands = s;
          },
        )
    goes_on_stands tree t (Ends v) rest own fine e s = after_body_stands tree v t rest own fine e s
    goes_on_stands tree (tokens.Check w) (EndsTilde v) rest own fine e s =
        tilde_stands tree v w rest own fine e s
    goes_on_stands tree _ (EndsTilde v) rest own fine e s = tt
    goes_on_stands tree t (Refuses k) rest own fine e s = tt

    body_stands : (h : Head) (fs : List TermFrame) (used : ℕ) (expected : TermExpectation) (t : Token)
        (rest : List Token) → InBody most whole (t ∷ rest) title is h fs used expected
        → Result' rest (goes_on most form cs h t (expression_step most fs used expected t))
    body_stands h fs used expected t rest b =
        subst
        (λ (k : Head).
        Result' rest (goes_on most form cs k t (expression_step most fs used expected t)))
        b.head_is
        (goes_on_stands b.tree t (expression_step most fs used expected t) rest b.own b.fine
        b.whole_is (step_stands most b.own some t rest fs used expected b.stands))

    ended_item : (i : ItemTree) (c : Clause) (rest : List Token) → IsItemTree most i
        → item_meaning i ≡ c → whole ≡ text title is (spelled_item i rest)
        → StateStands most form whole rest (record { items = cs ++ c ∷ []; part = items.Start })
    ended_item i c rest h e w =
        let r = pushed cs title is i c rest title_is each meant h e w in
        stands (cs ++ c ∷ []) rest rest items.Start r (
          subst (Fits form most)
              (sym (length-push cs c)) fits,
          r.whole_is,
        )

    abbrev check_tree : CheckHead → Tree → CheckTree
    check_tree h t = record { negated = h.negated; word = h.word; body = t }

    after_as_stands : (h : CheckHead) (v : Term) (t : Token) (rest : List Token)
        → InLabel most whole (t ∷ rest) title is h v → Result' rest (after_as cs h v t)
    after_as_stands h v (tokens.Name n) rest b =
        choose h.flagged (b.whole_is
        ∙ ap (λ (w : List Token). text title is (spelled_head (CheckedTree h) w))
        b.ended.whole_is)
      where
        choose : (x : Bool)
            → whole
            ≡ text title is (spelled_flag x (spelled_tilde h.negated (tokens.Check h.word
            ∷ spelled b.ended.t (tokens.As ∷ tokens.Name n ∷ rest))))
            → StateStands most form whole rest (record {
              items =
                  cs
                  ++ (if x then Flagging (checked h v) n
                  else Checking (checked h v) (Some n)) ∷ [];
              part = items.Start;
            })
        choose true w =
            ended_item (grammar.Flag (check_tree h b.ended.t) n) (Flagging (checked h v) n) rest
            b.ended.is (ap (λ (x : Term). Flagging (checked h x) n) b.ended.means) w
        choose false w =
            ended_item (grammar.Check (check_tree h b.ended.t) (Some n))
            (Checking (checked h v) (Some n)) rest b.ended.is
            (ap (λ (x : Term). Checking (checked h x) (Some n)) b.ended.means) w
    after_as_stands h v _ rest b = tt

    after_show_as_stands : (s : items.ShownPart) (v : Term) (t : Token) (rest : List Token)
        → InShowLabel most whole (t ∷ rest) title is s v
        → Result' rest (at cs (after_show_as s v t))
    after_show_as_stands s v (tokens.Name n) rest b =
        let u : ShowTree = record { body = b.ended.t; label = Some n } in
        let l = length-push b.ss u in
        in_part rest (AfterShowLabel (shown_also s v (Some n))) (
          fits,
          record {
            ss = b.ss ++ u ∷ [];
            terms_are =
                shown_meaning-push b.ss u
                ∙ ap (λ (x : List (Term × Option (List ℕ))). x ++ (meaning b.ended.t, Some n) ∷ [])
                b.terms_are ∙ ap (λ (x : Term). s.terms ++ (x, Some n) ∷ []) b.ended.means;
            some = omega arith;
            each = AreShown-push most b.ss u b.each b.ended.is;
            whole_is =
                b.whole_is
                ∙ ap (λ (w : List Token). text title is (show_token s.hidden ∷ before_shown b.ss w))
                b.ended.whole_is
                ∙ ap (λ (w : List Token). text title is (show_token s.hidden ∷ w))
                (sym (spelled_shown-push b.ss u rest));
          },
        )
    after_show_as_stands s v _ rest b = tt

    after_show_label_stands : (s : items.ShownPart) (t : Token) (rest : List Token)
        → InShow most whole (t ∷ rest) title is s → Result' rest (after_show_label most form cs s t)
    after_show_label_stands s tokens.Comma rest b =
        show_start s.hidden b.ss s.terms rest b.terms_are b.each (b.whole_is
        ∙ ap (λ (w : List Token). text title is (show_token s.hidden ∷ w))
        (spelled_shown-comma b.ss rest b.some))
    after_show_label_stands s t rest b =
        item_or_end_at cs (shown_clause s) t rest
        (pushed cs title is (grammar.Show s.hidden b.ss) (shown_clause s) (t ∷ rest) title_is
        each meant (b.some, b.each) (ap (Showing s.hidden) b.terms_are) b.whole_is) fits

    after_include_stands : (t : Token) (rest : List Token)
        → whole ≡ text title is (tokens.Include ∷ t ∷ rest) → Result' rest (after_include cs t)
    after_include_stands (tokens.Quoted path) rest w = choose (has_no_effect path) refl
      where
        choose : (x : Bool) → has_no_effect path ≡ x
            → Result' rest (if x then Ok (record {
              items = cs ++ Including path ∷ [];
              part = items.Start;
            })
            else Err (Here rules.Include))
        choose true e = ended_item (grammar.Include path) (Including path) rest e refl w
        choose false e = tt
    after_include_stands _ rest w = tt

  step_part_stands : 0 < most.names
      → (cs : List Clause) (p : Part) (t : Token) (rest : List Token) (title : Title)
      (is : List ItemTree) → TitleFits form title → AreItemTrees most is → items_meaning is ≡ cs
      → PartStands most form whole (t ∷ rest) title is (length cs) p
      → Result' rest (step_part most form cs p t)
  step_part_stands one cs items.Title t rest title is title_is each meant h =
      let none : [] ≡ cs = sym (ap items_meaning h.1) ∙ meant in
      subst (λ (x : List Clause). Result' rest (at x (after_title most form (length x) t))) none
      (after_title_stands t rest h.0 h.2)
  step_part_stands one cs items.Start t rest title is title_is each meant h =
      item_or_end_stands cs t rest
      (record {
        title = title;
        is = is;
        title_is = title_is;
        each = each;
        meant = meant;
        whole_is = h.1;
      }) h.0
  step_part_stands one cs (InLet p) t rest title is title_is each meant h =
      after_let_stands cs title is title_is each meant h.0 one p t rest h.1
  step_part_stands one cs AfterFlag t rest title is title_is each meant h =
      after_flag_stands cs t rest
      (record {
        title = title;
        is = is;
        title_is = title_is;
        each = each;
        meant = meant;
        whole_is = h.1;
      }) h.0
  step_part_stands one cs (AfterTilde flagged) t rest title is title_is each meant h =
      after_tilde_stands cs flagged t rest
      (record {
        title = title;
        is = is;
        title_is = title_is;
        each = each;
        meant = meant;
        whole_is = h.1;
      }) h.0
  step_part_stands one cs (Body k fs used expected) t rest title is title_is each meant h =
      body_stands cs title is title_is each meant h.0 k fs used expected t rest h.1
  step_part_stands one cs (Label k v) t rest title is title_is each meant h =
      after_as_stands cs title is title_is each meant h.0 k v t rest h.1
  step_part_stands one cs (ShowLabel s v) t rest title is title_is each meant h =
      after_show_as_stands cs title is title_is each meant h.0 s v t rest h.1
  step_part_stands one cs (AfterShowLabel s) t rest title is title_is each meant h =
      after_show_label_stands cs title is title_is each meant h.0 s t rest h.1
  step_part_stands one cs AfterInclude t rest title is title_is each meant h =
      after_include_stands cs title is title_is each meant h.0 t rest h.1
  step_part_stands one cs Done t rest title is title_is each meant h = tt

  pub run_stands : 0 < most.names → (s : ItemState) (ts : List Token) → StateStands most form whole ts s
      → Result' [] (run_over most form s ts)
  run_stands one s [] h = h
  run_stands one s (t ∷ ts) h =
      then_run (clause_step most form s t)
      (step_part_stands one s.items s.part t ts h.title h.is h.title_is h.each h.meant h.part)
      (λ s'. run_stands one s' ts)
    where
      then_run : (r : Result ItemState Fault) → Result' ts r
          → ((s' : ItemState) → StateStands most form whole ts s'
          → Result' [] (run_over most form s' ts))
          → Result' [] (r >>= λ s'. run_over most form s' ts)
      then_run (Ok s') x k = k s' x
      then_run (Err e) x k = tt

  pub start_stands : StateStands most form whole whole (clause_start form)
  start_stands = by_form form refl
    where
      by_form : (f : Form) → form ≡ f → StateStands most form whole whole (clause_start f)
      by_form forms.Model e =
          record {
            title = NoTitle;
            is = [];
            title_is = subst (λ (g : Form). TitleFits g NoTitle) (sym e) tt;
            each = tt;
            meant = refl;
            part = (e, refl, refl);
          }
      by_form forms.Item e =
          record {
            title = NoTitle;
            is = [];
            title_is = subst (λ (g : Form). TitleFits g NoTitle) (sym e) refl;
            each = tt;
            meant = refl;
            part = (subst (λ (g : Form). Fits g most 0) (sym e) (omega arith), refl);
          }

-- what the machine takes to its end is a text that means the items
pub sound : (most : Limits) (form : Form) (ts : List Token) (cs : List Clause) → 0 < most.nesting
    → 0 < most.names → run_over most form (clause_start form) ts ≡ Ok (record { items = cs; part = Done })
    → Means most form ts cs
sound most form ts cs some one e =
    let h : StateStands most form ts [] (record { items = cs; part = Done }) = subst (λ (r : Result ItemState Fault). ResultStands most form ts [] r) e (run_stands most form ts some one (clause_start form) ts (start_stands most form ts some)) in
    record { title = h.title; items = h.is; form_is = h.part.0; each = h.each; whole = h.part.1; meant = h.meant }
