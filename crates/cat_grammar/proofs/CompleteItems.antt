-- The machine takes each text, and gives what it means.
use Rattle.std.proofs.Common.{◌≡◌, ℕ, ◌+◌, ◌<◌, ◌≤◌, Bool, true, false, List, [], ◌∷◌, ◌++◌, Option, Some, None, Result, Ok, Err, length, refl, sym, ap, ◌∙◌, subst, arith, append_assoc}
use Rattle.std.proofs.lemmas.List.{append-nil}
use Rattle.std.specs.Prelude.{if◌then◌else◌}
use Rattle.std.proofs.lemmas.Bool.{lt-ltb}
use Rattle.cat_tokens.specs.declared.rule.CatRule.{CatRule}
use Rattle.cat_tokens.specs.declared.rule.CatRule.TheVariants as rules
use Rattle.text_values.specs.declared.model.CheckWord.{CheckWord}
use Rattle.cat_grammar.specs.declared.form.Form.{Form}
use Rattle.cat_grammar.specs.declared.form.Form.TheVariants as forms
use Rattle.cat_tokens.specs.declared.token.Token.{Token}
use Rattle.cat_tokens.specs.declared.token.Token.TheVariants as tokens
use Rattle.text_values.specs.ModelValue.{Term, Clause, Binding, Function, Checking, Flagging, Showing, Including}
use Rattle.cat_grammar.specs.Grammar as grammar
use Rattle.cat_grammar.specs.Grammar.{Tree, spelled, meaning, operators, Limits, IsExpressionTree, BindingTree, CheckTree, ShowTree, ItemTree, spelled_rec, spelled_tilde, show_token, spelled_label, spelled_bound, spelled_group, spelled_parameters, spelled_check, spelled_shown, spelled_item, group_meaning, check_meaning, shown_meaning, item_meaning, items_meaning, AreBindingTrees, AreShowTrees, has_no_effect, IsItemTree, AreItemTrees, Title, NoTitle, NameTitle, StringTitle, spelled_title, spelled_items, IsFormText, Means}
use Rattle.cat_grammar.specs.Machine.{TermFrame, Has, Ends, fold_to, term_ended, comma_read}
use Rattle.cat_tokens.specs.Tokens.{rule_of}
use Rattle.cat_grammar.specs.ItemMachine as items
use Rattle.cat_grammar.specs.ItemMachine.{Group, Keyword, And, Parameter, AfterParameter, Parameters, Head, BoundHead, FunctionHead, CheckedHead, ShownHead, Part, Start, InLet, AfterFlag, AfterTilde, AfterShowLabel, AfterInclude, Done, Fault, Here, ItemState, begin_body, begin_check, begin_show, excess, unless, end_of, item_or_end, fresh, extended, group_clause, shown_clause, shown_also, finished, at, added, clause_start}
use Rattle.cat_grammar.proofs.Runs.{◌>>=◌, run_over}
use Rattle.cat_grammar.proofs.Groups.{length-push}
use Rattle.cat_grammar.proofs.Complete.{pending, BeginsWithCheck, CanFollow, body, from, MayEnd, fold_pending, tree_run}

-- what may follow an item: what begins another, for which there is room, or the end
abbrev pub EndsItem : Type 0 → List Token → Type 0
EndsItem room (tokens.Let ∷ ts) = Unit {0}
EndsItem room (tokens.Flag ∷ ts) = Unit {0}
EndsItem room (tokens.Check w ∷ ts) = Unit {0}
EndsItem room (tokens.Show ∷ ts) = Unit {0}
EndsItem room (tokens.Unshow ∷ ts) = Unit {0}
EndsItem room (tokens.Include ∷ ts) = Unit {0}
EndsItem room (tokens.End ∷ ts) = Unit {0}
EndsItem room (tokens.Tilde ∷ ts) = room × BeginsWithCheck ts
EndsItem room _ = ⊥

module _ (most : Limits) (form : Form) where
  abbrev pub ready : List Clause → ItemState
  ready cs = record { items = cs; part = Start }

  abbrev pub Room : ℕ → Type 0
  Room n = excess most form n ≡ None

  abbrev run_from : List Token → ItemState → Result ItemState Fault
  run_from ts s = run_over most form s ts

  can_follow : (n : ℕ) (ts : List Token) → EndsItem (Room (n + 1)) ts
      → CanFollow (Unit {0} × Room (n + 1)) ts
  can_follow n (tokens.Let ∷ ts) h = tt
  can_follow n (tokens.Flag ∷ ts) h = tt
  can_follow n (tokens.Check w ∷ ts) h = tt
  can_follow n (tokens.Show ∷ ts) h = tt
  can_follow n (tokens.Unshow ∷ ts) h = tt
  can_follow n (tokens.Include ∷ ts) h = tt
  can_follow n (tokens.End ∷ ts) h = tt
  can_follow n (tokens.Tilde ∷ ts) h = ((tt, h.0), h.1)
  can_follow n [] h = absurd h
  can_follow n (_ ∷ ts) h = absurd h

  -- one more item was read
  one_more : (cs : List Clause) (c : Clause) (t : Token) (ts : List Token)
      → (at (cs ++ c ∷ []) (item_or_end most form (length cs + 1) t) >>= run_from ts)
      ≡ (at (cs ++ c ∷ []) (item_or_end most form (length (cs ++ c ∷ [])) t) >>= run_from ts)
  one_more cs c t ts =
      ap (λ (n : ℕ). at (cs ++ c ∷ []) (item_or_end most form n t) >>= run_from ts)
      (sym (length-push cs c))

  done_at : (cs : List Clause) (h : Head) (x : Term) (c : Clause) (t : Token) (ts : List Token)
      → ((r : CatRule) → finished h x r ≡ Ok c)
      → (added cs (finished h x (rule_of t)) (λ n. item_or_end most form n t) >>= run_from ts)
      ≡ (at (cs ++ c ∷ []) (item_or_end most form (length (cs ++ c ∷ [])) t) >>= run_from ts)
  done_at cs h x c t ts f =
      ap (λ (r : Result Clause Fault). added cs r (λ n. item_or_end most form n t) >>= run_from ts)
      (f (rule_of t)) ∙ one_more cs c t ts

  item_ended : (cs : List Clause) (h : Head) (fs : List TermFrame) (used : ℕ) (v x : Term) (c : Clause)
      (ts : List Token) → EndsItem (Room (length cs + 1)) ts → fold_to 0 fs v ≡ ([], x)
      → ((r : CatRule) → finished h x r ≡ Ok c)
      → run_over most form (body most form cs h fs used (Has v)) ts
      ≡ run_over most form (ready (cs ++ c ∷ [])) ts
  item_ended cs h fs used v x c (tokens.Let ∷ ts) e q f =
      ap (λ (p : List TermFrame × Term). from most form cs h (term_ended tokens.Let p) tokens.Let ts) q
      ∙ done_at cs h x c tokens.Let ts f
  item_ended cs h fs used v x c (tokens.Flag ∷ ts) e q f =
      ap (λ (p : List TermFrame × Term). from most form cs h (term_ended tokens.Flag p) tokens.Flag ts) q
      ∙ done_at cs h x c tokens.Flag ts f
  item_ended cs h fs used v x c (tokens.Check w ∷ ts) e q f =
      ap
      (λ (p : List TermFrame × Term).
      from most form cs h (term_ended (tokens.Check w) p) (tokens.Check w) ts) q
      ∙ done_at cs h x c (tokens.Check w) ts f
  item_ended cs h fs used v x c (tokens.Show ∷ ts) e q f =
      ap (λ (p : List TermFrame × Term). from most form cs h (term_ended tokens.Show p) tokens.Show ts) q
      ∙ done_at cs h x c tokens.Show ts f
  item_ended cs h fs used v x c (tokens.Unshow ∷ ts) e q f =
      ap (λ (p : List TermFrame × Term). from most form cs h (term_ended tokens.Unshow p) tokens.Unshow ts) q
      ∙ done_at cs h x c tokens.Unshow ts f
  item_ended cs h fs used v x c (tokens.Include ∷ ts) e q f =
      ap (λ (p : List TermFrame × Term). from most form cs h (term_ended tokens.Include p) tokens.Include ts)
      q ∙ done_at cs h x c tokens.Include ts f
  item_ended cs h fs used v x c (tokens.End ∷ ts) e q f =
      ap (λ (p : List TermFrame × Term). from most form cs h (term_ended tokens.End p) tokens.End ts) q
      ∙ done_at cs h x c tokens.End ts f
  item_ended cs h fs used v x c (tokens.Tilde ∷ ts) e q f =
      ap (λ (p : List TermFrame × Term). from most form cs h (term_ended tokens.Tilde p) tokens.Tilde ts) q
      ∙ done_at cs h x c tokens.Tilde ts f
  item_ended cs h fs used v x c [] e q f = absurd e
  item_ended cs h fs used v x c (_ ∷ ts) e q f = absurd e

  abbrev body_at : List Clause → Head → ItemState
  body_at cs h = record { items = cs; part = begin_body h }

  -- an item's expression, up to what follows it
  body_run : (cs : List Clause) (h : Head) (t : Tree) (rest : List Token) → IsExpressionTree most t
      → CanFollow (MayEnd most form cs h []) rest
      → run_over most form (body_at cs h) (spelled t rest)
      ≡ run_over most form
      (body most form cs h (pending t []).0 (operators t) (Has (pending t []).1)) rest
  body_run cs h t rest i c =
      tree_run most form cs h t [] 0 (operators t) rest i.grouped (omega arith)
      (let d = i.shallow in omega arith) (omega arith) i.short c

  -- up to a token that asks for more
  up_to_and : (cs : List Clause) (h : Head) (t : Tree) (rest : List Token) → IsExpressionTree most t
      → run_over most form (body_at cs h) (spelled t (tokens.And ∷ rest))
      ≡ from most form cs h (Ends (meaning t)) tokens.And rest
  up_to_and cs h t rest i =
      body_run cs h t (tokens.And ∷ rest) i tt
      ∙ ap (λ (p : List TermFrame × Term). from most form cs h (term_ended tokens.And p) tokens.And rest)
      (fold_pending t [] 0 i.grouped (omega arith))

  up_to_as : (cs : List Clause) (h : Head) (t : Tree) (rest : List Token) → IsExpressionTree most t
      → run_over most form (body_at cs h) (spelled t (tokens.As ∷ rest))
      ≡ from most form cs h (Ends (meaning t)) tokens.As rest
  up_to_as cs h t rest i =
      body_run cs h t (tokens.As ∷ rest) i tt
      ∙ ap (λ (p : List TermFrame × Term). from most form cs h (term_ended tokens.As p) tokens.As rest)
      (fold_pending t [] 0 i.grouped (omega arith))

  up_to_comma : (cs : List Clause) (h : Head) (t : Tree) (rest : List Token) → IsExpressionTree most t
      → run_over most form (body_at cs h) (spelled t (tokens.Comma ∷ rest))
      ≡ from most form cs h (Ends (meaning t)) tokens.Comma rest
  up_to_comma cs h t rest i =
      body_run cs h t (tokens.Comma ∷ rest) i tt
      ∙ ap
      (λ (p : List TermFrame × Term).
      from most form cs h (comma_read (operators t) p) tokens.Comma rest)
      (fold_pending t [] 0 i.grouped (omega arith))

  whole_body : (cs : List Clause) (h : Head) (t : Tree) (c : Clause) (rest : List Token)
      → IsExpressionTree most t → EndsItem (Room (length cs + 1)) rest
      → ((r : CatRule) → finished h (meaning t) r ≡ Ok c)
      → run_over most form (body_at cs h) (spelled t rest)
      ≡ run_over most form (ready (cs ++ c ∷ [])) rest
  whole_body cs h t c rest i e f =
      body_run cs h t rest i (can_follow (length cs) rest e)
      ∙ item_ended cs h (pending t []).0 (operators t) (pending t []).1 (meaning t) c rest e
      (fold_pending t [] 0 i.grouped (omega arith)) f

  -- ---- let

  abbrev in_group : List Clause → Group → ItemState
  in_group cs g = record { items = cs; part = InLet (And g) }

  -- what follows the expression of a binding
  abbrev after_group : List BindingTree → List Token → List Token
  after_group [] rest = rest
  after_group (c ∷ bs) rest = tokens.And ∷ spelled_group (c ∷ bs) rest

  group_is : (b : BindingTree) (bs : List BindingTree) (rest : List Token)
      → spelled_group (b ∷ bs) rest ≡ spelled_bound b (after_group bs rest)
  group_is b [] rest = refl
  group_is b (c ∷ bs) rest = refl

  -- the next name of a group
  named : (cs : List Clause) (g : Group) (b : BindingTree) (bs : List BindingTree) (rest : List Token)
      → length g.bindings < most.names
      → run_over most form (in_group cs g) (spelled_group (b ∷ bs) rest)
      ≡ run_over most form (body_at cs (BoundHead g b.name))
      (spelled b.body (after_group bs rest))
  named cs g b bs rest lt =
      ap (run_over most form (in_group cs g)) (group_is b bs rest)
      ∙ ap
      (λ (x : Bool). at cs
      (if x then Ok (InLet (items.Bound g b.name)) else Err (Here rules.TooMany)) >>=
      run_from (tokens.Equals ∷ spelled b.body (after_group bs rest)))
      (lt-ltb _ _ lt)

  -- a group, from the expression of one of its names on
  group_run : (cs : List Clause) (g : Group) (b : BindingTree) (bs : List BindingTree) (rest : List Token)
      → length g.bindings + length (b ∷ bs) ≤ most.names → AreBindingTrees most (b ∷ bs)
      → EndsItem (Room (length cs + 1)) rest
      → run_over most form (body_at cs (BoundHead g b.name)) (spelled b.body (after_group bs rest))
      ≡ run_over most form
      (ready (cs ++ Binding g.recursive (g.bindings ++ group_meaning (b ∷ bs)) ∷ [])) rest
  group_run cs g b [] rest few each e =
      whole_body cs (BoundHead g b.name) b.body (group_clause (extended g b.name (meaning b.body)))
      rest each.0 e (λ r. refl)
  group_run cs g b (c ∷ bs) rest few each e =
      let l = length-push g.bindings (b.name, meaning b.body) in
      up_to_and cs (BoundHead g b.name) b.body (spelled_group (c ∷ bs) rest) each.0
      ∙ named cs (extended g b.name (meaning b.body)) c bs rest (omega arith)
      ∙ group_run cs (extended g b.name (meaning b.body)) c bs rest (omega arith) each.1 e
      ∙ ap
      (λ (x : List (List ℕ × Term)).
      run_over most form (ready (cs ++ Binding g.recursive x ∷ [])) rest)
      (append_assoc g.bindings ((b.name, meaning b.body) ∷ []) (group_meaning (c ∷ bs)))

  let_run : (cs : List Clause) (recursive : Bool) (group : List BindingTree) (rest : List Token)
      → 0 < length group → length group ≤ most.names → AreBindingTrees most group
      → EndsItem (Room (length cs + 1)) rest
      → run_over most form (record { items = cs; part = InLet Keyword })
      (spelled_rec recursive (spelled_group group rest))
      ≡ run_over most form (ready (cs ++ Binding recursive (group_meaning group) ∷ [])) rest
  let_run cs recursive [] rest some few each e = absurd (omega arith)
  let_run cs true (b ∷ bs) rest some few each e =
      named cs (fresh true) b bs rest (omega arith)
      ∙ group_run cs (fresh true) b bs rest (omega arith) each e
  let_run cs false (b ∷ bs) rest some few each e =
      ap (run_over most form (record { items = cs; part = InLet Keyword })) (group_is b bs rest)
      ∙ group_run cs (fresh false) b bs rest (omega arith) each e

  parameter : (cs : List Clause) (n : List ℕ) (ds : List (List ℕ)) (p : List ℕ) (ts : List Token)
      → length ds < most.parameters
      → run_over most form (record { items = cs; part = InLet (Parameter n ds) })
      (tokens.Name p ∷ ts)
      ≡ run_over most form
      (record { items = cs; part = InLet (AfterParameter n (ds ++ p ∷ [])) }) ts
  parameter cs n ds p ts lt =
      ap
      (λ (x : Bool). at cs
      (if x then Ok (InLet (AfterParameter n (ds ++ p ∷ []))) else Err (Here rules.TooMany)) >>=
      run_from ts)
      (lt-ltb _ _ lt)

  parameters_run : (cs : List Clause) (n : List ℕ) (ds ps : List (List ℕ)) (rest : List Token)
      → 0 < length ps → length ds + length ps ≤ most.parameters
      → run_over most form (record { items = cs; part = InLet (Parameter n ds) })
      (spelled_parameters ps (tokens.Close ∷ rest))
      ≡ run_over most form (record { items = cs; part = InLet (Parameters n (ds ++ ps)) }) rest
  parameters_run cs n ds [] rest some few = absurd (omega arith)
  parameters_run cs n ds (p ∷ []) rest some few =
      parameter cs n ds p (tokens.Close ∷ rest) (omega arith)
  parameters_run cs n ds (p ∷ q ∷ ps) rest some few =
      let l = length-push ds p in
      parameter cs n ds p (tokens.Comma ∷ spelled_parameters (q ∷ ps) (tokens.Close ∷ rest))
      (omega arith)
      ∙ parameters_run cs n (ds ++ p ∷ []) (q ∷ ps) rest (omega arith) (omega arith)
      ∙ ap
      (λ (x : List (List ℕ)).
      run_over most form (record { items = cs; part = InLet (Parameters n x) }) rest)
      (append_assoc ds (p ∷ []) (q ∷ ps))

  -- ---- show

  -- a label after which the show may end
  label_ended : (cs : List Clause) (s : items.ShownPart) (ts : List Token)
      → EndsItem (Room (length cs + 1)) ts
      → run_over most form (record { items = cs; part = AfterShowLabel s }) ts
      ≡ run_over most form (ready (cs ++ shown_clause s ∷ [])) ts
  label_ended cs s (tokens.Let ∷ ts) e = one_more cs (shown_clause s) tokens.Let ts
  label_ended cs s (tokens.Flag ∷ ts) e = one_more cs (shown_clause s) tokens.Flag ts
  label_ended cs s (tokens.Check w ∷ ts) e = one_more cs (shown_clause s) (tokens.Check w) ts
  label_ended cs s (tokens.Show ∷ ts) e = one_more cs (shown_clause s) tokens.Show ts
  label_ended cs s (tokens.Unshow ∷ ts) e = one_more cs (shown_clause s) tokens.Unshow ts
  label_ended cs s (tokens.Include ∷ ts) e = one_more cs (shown_clause s) tokens.Include ts
  label_ended cs s (tokens.End ∷ ts) e = one_more cs (shown_clause s) tokens.End ts
  label_ended cs s (tokens.Tilde ∷ ts) e = one_more cs (shown_clause s) tokens.Tilde ts
  label_ended cs s [] e = absurd e
  label_ended cs s (_ ∷ ts) e = absurd e

  -- the last expression of a show
  last_run : (cs : List Clause) (s : items.ShownPart) (t : Tree) (label : Option (List ℕ))
      (rest : List Token) → IsExpressionTree most t → EndsItem (Room (length cs + 1)) rest
      → run_over most form (body_at cs (ShownHead s)) (spelled t (spelled_label label rest))
      ≡ run_over most form (ready (cs ++ shown_clause (shown_also s (meaning t) label) ∷ []))
      rest
  last_run cs s t None rest i e =
      whole_body cs (ShownHead s) t (shown_clause (shown_also s (meaning t) None)) rest i e
      (λ r. refl)
  last_run cs s t (Some n) rest i e =
      up_to_as cs (ShownHead s) t (tokens.Name n ∷ rest) i
      ∙ label_ended cs (shown_also s (meaning t) (Some n)) rest e

  -- an expression of a show before another
  next_run : (cs : List Clause) (s : items.ShownPart) (t : Tree) (label : Option (List ℕ))
      (rest : List Token) → IsExpressionTree most t
      → run_over most form (body_at cs (ShownHead s))
      (spelled t (spelled_label label (tokens.Comma ∷ rest)))
      ≡ run_over most form (body_at cs (ShownHead (shown_also s (meaning t) label))) rest
  next_run cs s t None rest i = up_to_comma cs (ShownHead s) t rest i
  next_run cs s t (Some n) rest i =
      up_to_as cs (ShownHead s) t (tokens.Name n ∷ tokens.Comma ∷ rest) i

  shown_run : (cs : List Clause) (s : items.ShownPart) (u : ShowTree) (us : List ShowTree) (rest : List Token)
      → AreShowTrees most (u ∷ us) → EndsItem (Room (length cs + 1)) rest
      → run_over most form (body_at cs (ShownHead s)) (spelled_shown (u ∷ us) rest)
      ≡ run_over most form
      (ready (cs ++ Showing s.hidden (s.terms ++ shown_meaning (u ∷ us)) ∷ [])) rest
  shown_run cs s u [] rest each e = last_run cs s u.body u.label rest each.0 e
  shown_run cs s u (w ∷ us) rest each e =
      next_run cs s u.body u.label (spelled_shown (w ∷ us) rest) each.0
      ∙ shown_run cs (shown_also s (meaning u.body) u.label) w us rest each.1 e
      ∙ ap
      (λ (x : List (Term × Option (List ℕ))).
      run_over most form (ready (cs ++ Showing s.hidden x ∷ [])) rest)
      (append_assoc s.terms ((meaning u.body, u.label) ∷ []) (shown_meaning (w ∷ us)))

  -- ---- items

  label_run : (cs : List Clause) (c : CheckTree) (label : Option (List ℕ)) (rest : List Token)
      → IsExpressionTree most c.body → EndsItem (Room (length cs + 1)) rest
      → run_over most form (record { items = cs; part = begin_check false c.negated c.word })
      (spelled c.body (spelled_label label rest))
      ≡ run_over most form (ready (cs ++ Checking (check_meaning c) label ∷ [])) rest
  label_run cs c None rest i e =
      whole_body cs (CheckedHead (record { flagged = false; negated = c.negated; word = c.word }))
      c.body (Checking (check_meaning c) None) rest i e (λ r. refl)
  label_run cs c (Some n) rest i e =
      up_to_as cs (CheckedHead (record { flagged = false; negated = c.negated; word = c.word }))
      c.body (tokens.Name n ∷ rest) i

  flag_run : (cs : List Clause) (c : CheckTree) (n : List ℕ) (rest : List Token)
      → IsExpressionTree most c.body
      → run_over most form (record { items = cs; part = begin_check true c.negated c.word })
      (spelled c.body (tokens.As ∷ tokens.Name n ∷ rest))
      ≡ run_over most form (ready (cs ++ Flagging (check_meaning c) n ∷ [])) rest
  flag_run cs c n rest i =
      up_to_as cs (CheckedHead (record { flagged = true; negated = c.negated; word = c.word }))
      c.body (tokens.Name n ∷ rest) i

  -- the first token of an item for which there is room
  keyword_read : (cs : List Clause) (x : Result Part Fault) (ts : List Token) → Room (length cs)
      → (at cs (unless (excess most form (length cs)) x) >>= run_from ts)
      ≡ (at cs x >>= run_from ts)
  keyword_read cs x ts e = ap (λ (o : Option CatRule). at cs (unless o x) >>= run_from ts) e

  check_start : (cs : List Clause) (negated : Bool) (w : CheckWord) (ts : List Token)
      → Room (length cs)
      → run_over most form (ready cs) (spelled_tilde negated (tokens.Check w ∷ ts))
      ≡ run_over most form (record { items = cs; part = begin_check false negated w }) ts
  check_start cs true w ts e = keyword_read cs (Ok (AfterTilde false)) (tokens.Check w ∷ ts) e
  check_start cs false w ts e = keyword_read cs (Ok (begin_check false false w)) ts e

  flag_start : (cs : List Clause) (negated : Bool) (w : CheckWord) (ts : List Token)
      → run_over most form (record { items = cs; part = AfterFlag })
      (spelled_tilde negated (tokens.Check w ∷ ts))
      ≡ run_over most form (record { items = cs; part = begin_check true negated w }) ts
  flag_start cs true w ts = refl
  flag_start cs false w ts = refl

  show_start : (cs : List Clause) (hidden : Bool) (ts : List Token) → Room (length cs)
      → run_over most form (ready cs) (show_token hidden ∷ ts)
      ≡ run_over most form (record { items = cs; part = begin_show hidden }) ts
  show_start cs true ts e = keyword_read cs (Ok (begin_show true)) ts e
  show_start cs false ts e = keyword_read cs (Ok (begin_show false)) ts e

  abbrev effect : List Clause → List ℕ → Bool → Result ItemState Fault
  effect cs path b =
      if b then Ok (record { items = cs ++ Including path ∷ []; part = Start })
      else Err (Here rules.Include)

  included : (cs : List Clause) (path : List ℕ) (rest : List Token) → has_no_effect path ≡ true
      → run_over most form (record { items = cs; part = AfterInclude }) (tokens.Quoted path ∷ rest)
      ≡ run_over most form (ready (cs ++ Including path ∷ [])) rest
  included cs path rest e = ap (λ (b : Bool). effect cs path b >>= run_from rest) e

  item_run : (cs : List Clause) (i : ItemTree) (rest : List Token) → IsItemTree most i
      → Room (length cs) → EndsItem (Room (length cs + 1)) rest
      → run_over most form (ready cs) (spelled_item i rest)
      ≡ run_over most form (ready (cs ++ item_meaning i ∷ [])) rest
  item_run cs (grammar.Let recursive group) rest i r e =
      keyword_read cs (Ok (InLet Keyword)) (spelled_rec recursive (spelled_group group rest)) r
      ∙ let_run cs recursive group rest i.0 i.1 i.2 e
  item_run cs (grammar.Function n ps b) rest i r e =
      keyword_read cs (Ok (InLet Keyword))
      (tokens.Name n ∷ tokens.Open
      ∷ spelled_parameters ps (tokens.Close ∷ tokens.Equals ∷ spelled b rest)) r
      ∙ parameters_run cs n [] ps (tokens.Equals ∷ spelled b rest) i.0 (omega (arith, i.1))
      ∙ whole_body cs (FunctionHead n ps) b (Function n ps (meaning b)) rest i.2 e (λ r. refl)
  item_run cs (grammar.Check c label) rest i r e =
      check_start cs c.negated c.word (spelled c.body (spelled_label label rest)) r
      ∙ label_run cs c label rest i e
  item_run cs (grammar.Flag c n) rest i r e =
      keyword_read cs (Ok AfterFlag) (spelled_check c (tokens.As ∷ tokens.Name n ∷ rest)) r
      ∙ flag_start cs c.negated c.word (spelled c.body (tokens.As ∷ tokens.Name n ∷ rest))
      ∙ flag_run cs c n rest i
  item_run cs (grammar.Show hidden []) rest i r e = absurd (omega (arith, i.0))
  item_run cs (grammar.Show hidden (u ∷ us)) rest i r e =
      show_start cs hidden (spelled_shown (u ∷ us) rest) r
      ∙ shown_run cs (record { hidden = hidden; terms = [] }) u us rest i.1 e
  item_run cs (grammar.Include path) rest i r e =
      keyword_read cs (Ok AfterInclude) (tokens.Quoted path ∷ rest) r ∙ included cs path rest i

  -- ---- texts

  tilde_ends : (room : Type 0) (negated : Bool) (w : CheckWord) (ts : List Token) → room
      → EndsItem room (spelled_tilde negated (tokens.Check w ∷ ts))
  tilde_ends room true w ts r = (r, tt)
  tilde_ends room false w ts r = tt

  show_ends : (room : Type 0) (hidden : Bool) (ts : List Token)
      → EndsItem room (show_token hidden ∷ ts)
  show_ends room true ts = tt
  show_ends room false ts = tt

  item_begins : (room : Type 0) (i : ItemTree) (ts : List Token) → room
      → EndsItem room (spelled_item i ts)
  item_begins room (grammar.Let recursive group) ts r = tt
  item_begins room (grammar.Function n ps b) ts r = tt
  item_begins room (grammar.Check c label) ts r =
      tilde_ends room c.negated c.word (spelled c.body (spelled_label label ts)) r
  item_begins room (grammar.Flag c n) ts r = tt
  item_begins room (grammar.Show hidden ss) ts r = show_ends room hidden (spelled_shown ss ts)
  item_begins room (grammar.Include path) ts r = tt

  -- there is room for each of these items after n
  abbrev AllRoom : ℕ → List ItemTree → Type 0
  AllRoom n is = (k : ℕ) → n ≤ k → k < n + length is → Room k

  items_end : (n : ℕ) (is : List ItemTree) → AllRoom n is
      → EndsItem (Room n) (spelled_items is (tokens.End ∷ []))
  items_end n [] r = tt
  items_end n (i ∷ is) r =
      item_begins (Room n) i (spelled_items is (tokens.End ∷ [])) (r n (omega arith) (omega arith))

  abbrev done : List Clause → Result ItemState Fault
  done cs = Ok (record { items = cs; part = Done })

  items_run : (cs : List Clause) (is : List ItemTree) → AreItemTrees most is → AllRoom (length cs) is
      → ((n : ℕ) → n ≡ length cs + length is → end_of form n ≡ Ok Done)
      → run_over most form (ready cs) (spelled_items is (tokens.End ∷ []))
      ≡ done (cs ++ items_meaning is)
  items_run cs [] each r d =
      ap (λ (x : Result Part Fault). at cs x >>= run_from []) (d (length cs) (omega arith))
      ∙ ap done (sym (append-nil cs))
  items_run cs (i ∷ is) each r d =
      let l = length-push cs (item_meaning i) in
      item_run cs i (spelled_items is (tokens.End ∷ [])) each.0
      (r (length cs) (omega arith) (omega arith)) (items_end (length cs + 1) is
      (λ k low high. r k (omega arith) (omega arith)))
      ∙ items_run (cs ++ item_meaning i ∷ []) is each.1
      (λ k low high. r k (omega arith) (omega arith)) (λ n e. d n (omega arith))
      ∙ ap done (append_assoc cs (item_meaning i ∷ []) (items_meaning is))

  titled : (title : Title) (ts : List Token) → EndsItem (Room 0) ts
      → run_over most form (record { items = []; part = items.Title }) (spelled_title title ts)
      ≡ run_over most form (ready []) ts
  titled (NameTitle n) ts e = refl
  titled (StringTitle n) ts e = refl
  titled NoTitle (tokens.Let ∷ ts) e = refl
  titled NoTitle (tokens.Flag ∷ ts) e = refl
  titled NoTitle (tokens.Check w ∷ ts) e = refl
  titled NoTitle (tokens.Show ∷ ts) e = refl
  titled NoTitle (tokens.Unshow ∷ ts) e = refl
  titled NoTitle (tokens.Include ∷ ts) e = refl
  titled NoTitle (tokens.End ∷ ts) e = refl
  titled NoTitle (tokens.Tilde ∷ ts) e = refl
  titled NoTitle [] e = absurd e
  titled NoTitle (_ ∷ ts) e = absurd e

text_run : (most : Limits) (form : Form) (title : Title) (is : List ItemTree)
    → IsFormText form most title is → AreItemTrees most is
    → run_over most form (clause_start form) (spelled_title title (spelled_items is (tokens.End ∷ [])))
    ≡ Ok (record { items = items_meaning is; part = Done })
text_run most forms.Model title is h each =
    titled most forms.Model title (spelled_items is (tokens.End ∷ []))
    (items_end most forms.Model 0 is room)
    ∙ items_run most forms.Model [] is each room (λ n e. refl)
  where
    room : (k : ℕ) → 0 ≤ k → k < 0 + length is → excess most forms.Model k ≡ None
    room k low high =
        ap (λ (b : Bool). if b then None else Some rules.TooMany)
        (lt-ltb k most.items (omega arith))
text_run most forms.Item title is h each =
    ap
    (λ (x : Title). run_over most forms.Item (clause_start forms.Item)
    (spelled_title x (spelled_items is (tokens.End ∷ [])))) h.0
    ∙ items_run most forms.Item [] is each room ends
  where
    room : (k : ℕ) → 0 ≤ k → k < 0 + length is → excess most forms.Item k ≡ None
    room k low high =
        ap (λ (b : Bool). if b then None else Some rules.Syntax) (lt-ltb k 1 (omega (arith, h.1)))

    ends : (n : ℕ) → n ≡ 0 + length is → end_of forms.Item n ≡ Ok Done
    ends n e =
        let one : n ≡ 1 = omega (arith, h.1) in
        subst (λ (m : ℕ). end_of forms.Item m ≡ Ok Done) (sym one) refl

-- the machine takes each text, and gives what it means
pub complete : (most : Limits) (form : Form) (ts : List Token) (v : List Clause)
    → Means most form ts v
    → run_over most form (clause_start form) ts ≡ Ok (record { items = v; part = Done })
complete most form ts v m =
    ap (run_over most form (clause_start form)) m.whole
    ∙ text_run most form m.title m.items m.form_is m.each
    ∙ ap (λ (xs : List Clause). Ok (record { items = xs; part = Done })) m.meant
