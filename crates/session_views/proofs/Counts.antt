-- Edits among operations, and the texts after them.
use Rattle.std.proofs.Common.{◌≡◌, ℕ, suc, ◌+◌, ◌-◌, ◌≤◌, ◌<◌, ◌^◌, min, ◌⊎◌, inl, inr, List, [], ◌∷◌, ◌++◌, refl, sym, ap, ◌∙◌, subst, arith, append_assoc}
use Rattle.std.specs.Prelude.{fold, false}
use Rattle.std.proofs.lemmas.Bool.{cases_lt}
use Rattle.std.proofs.lemmas.List.{append-nil}
use mathlib.Core.List.{IsPrefix}
use Rattle.bench_texts.specs.BenchTexts.{BenchTexts, no_texts}
use Rattle.bench_texts.specs.Edits as edits
use Rattle.bench_texts.specs.Edits.{edit_of}
use Rattle.bench_texts.specs.declared.edit.Edit as code
use Rattle.board.specs.declared.operation.BoardEdit.{BoardEdit}
use Rattle.board.specs.declared.operation.BoardOp.{BoardOp}
use Rattle.board.specs.declared.operation.BoardOp.TheVariants.{Edit, Settle}
use Rattle.board.specs.Operations.{board_after}
use Rattle.board.specs.Legal.{TestsAndModels, no_tests_or_models, tests_and_models_after, LegalFrom, IsLegal}
use Rattle.board.specs.Histories.{contents_with, contents_after, IsEditOf}
use Rattle.board.specs.Edits.{counted_with, edits_in, edit_count}
use Rattle.bench_text_laws.specs.Laws.{HasOneEditResult}
use Rattle.session_views.specs.Knowing.{KnowsOwn, HasOwnEdit}
use Rattle.session_views.specs.Shown.{ShowsTexts}

-- ---- numbers

none_more : (n : ℕ) → n ≡ 0 + n
none_more n = omega arith

one_more : (n a b : ℕ) → n ≡ a + b → suc n ≡ suc a + b
one_more n a b e = omega (arith, e)

not_none : (n : ℕ) → suc n ≡ 0 → ⊥
not_none n e = omega (arith, e)

counted_up : (n a b c : ℕ) → n ≡ a + b → b ≡ suc c → n ≡ a + suc c
counted_up n a b c e f = omega (arith, e, f)

at_least_one_more : (n a b least : ℕ) → n ≡ a + suc b → least ≤ a → least + 1 ≤ n
at_least_one_more n a b least e le = omega (arith, e, le)

front_alone : (n a b least : ℕ) → n ≡ a + suc b → least ≤ a → n ≡ least + 1 → a ≡ least
front_alone n a b least e le same = omega (arith, e, le, same)

back_alone : (n a b least : ℕ) → n ≡ a + suc b → least ≤ a → n ≡ least + 1 → b ≡ 0
back_alone n a b least e le same = omega (arith, e, le, same)

zero_least : (n : ℕ) → 0 ≤ n
zero_least n = omega arith

-- a count that stops at the greatest number is right below it
capped : (n made : ℕ) → (2 ^ 64 - 1 < n) ⊎ (n ≤ 2 ^ 64 - 1) → min n (2 ^ 64 - 1) ≡ made
    → made < 2 ^ 64 - 1 → n ≡ made
capped n made (inl more) e lt = absurd (omega (arith, more, e, lt))
capped n made (inr few) e lt = omega (arith, few, e, lt)

-- ---- lists

edits_joined : (a b : List BoardOp) → edits_in (a ++ b) ≡ edits_in a + edits_in b
edits_joined [] b = none_more (edits_in b)
edits_joined (Edit edit ∷ a) b =
    one_more (edits_in (a ++ b)) (edits_in a) (edits_in b) (edits_joined a b)
edits_joined (Settle at outcome ∷ a) b = edits_joined a b

fold_joined : {A : Type 0} (f : A → BoardOp → A) (t : A) (a b : List BoardOp)
    → fold f t (a ++ b) ≡ fold f (fold f t a) b
fold_joined f t [] b = refl
fold_joined f t (op ∷ a) b = fold_joined f (f t op) a b

-- without an edit the texts stay the same
none_made : (ops : List BoardOp) (t : BenchTexts) → edits_in ops ≡ 0 → fold contents_with t ops ≡ t
none_made [] t e = refl
none_made (Edit edit ∷ ops) t e = absurd (not_none (edits_in ops) e)
none_made (Settle at outcome ∷ ops) t e = none_made ops t e

pub knows_nothing : KnowsOwn [] 0 no_texts
knows_nothing =
    record {
      all = λ more. zero_least (edits_in more);
      alone = λ more e. none_made more no_texts e;
    }

knows_more : (seen more : List BoardOp) (made : ℕ) (t : BenchTexts) → KnowsOwn seen made t
    → KnowsOwn (seen ++ more) made t
knows_more seen more made t k = record {
  all =
      λ others. subst (λ (l : List BoardOp). made ≤ edits_in l)
      (sym (append_assoc seen more others)) (k.all (more ++ others));
  alone = λ others e.
      ap contents_after (append_assoc seen more others)
      ∙ k.alone (more ++ others) (ap edits_in (sym (append_assoc seen more others)) ∙ e);
}

pub knows_later : (seen later : List BoardOp) (made : ℕ) (t : BenchTexts) → IsPrefix seen later
    → KnowsOwn seen made t → KnowsOwn later made t
knows_later seen later made t p k =
    subst (λ (l : List BoardOp). KnowsOwn l made t) p.1 (knows_more seen p.0 made t k)

-- ---- one own edit more

is_counted : (t : BenchTexts) (op : BoardOp) (e : edits.Edit) (number n : ℕ)
    → IsEditOf t op e number → counted_with op n ≡ suc n
is_counted t (Edit edit) e number n h = refl
is_counted t (Settle at outcome) e number n h = absurd h

is_made : (t new : BenchTexts) (op : BoardOp) (e : edits.Edit) (number : ℕ) → HasOneEditResult t e
    → edits.Applies t false e new → IsEditOf t op e number → contents_with t op ≡ new
is_made t new (Edit edit) e number one applies h =
    one (contents_with t (Edit edit)) new h.1.applies applies
is_made t new (Settle at outcome) e number one applies h = absurd h

regrouped : (a : List BoardOp) (op : BoardOp) (b more : List BoardOp)
    → ((a ++ op ∷ []) ++ b) ++ more ≡ a ++ op ∷ (b ++ more)
regrouped a op b more = append_assoc (a ++ op ∷ []) b more ∙ append_assoc a (op ∷ []) (b ++ more)

module _ (seen between settles : List BoardOp) (op : BoardOp) (made number : ℕ) (t new : BenchTexts)
    (e : edits.Edit) (k : KnowsOwn seen made t)
    (is : IsEditOf (contents_after (seen ++ between)) op e number) (one : HasOneEditResult t e)
    (applies : edits.Applies t false e new) where
  abbrev front : List BoardOp
  front = seen ++ between

  abbrev whole : List BoardOp → List BoardOp
  whole more = front ++ op ∷ (settles ++ more)

  count_whole : (more : List BoardOp)
      → edits_in (whole more) ≡ edits_in front + suc (edits_in (settles ++ more))
  count_whole more =
      counted_up (edits_in (whole more)) (edits_in front)
      (counted_with op (edits_in (settles ++ more))) (edits_in (settles ++ more))
      (edits_joined front (op ∷ (settles ++ more)))
      (is_counted (contents_after front) op e number (edits_in (settles ++ more)) is)

  all_whole : (more : List BoardOp) → made + 1 ≤ edits_in (whole more)
  all_whole more =
      at_least_one_more (edits_in (whole more)) (edits_in front) (edits_in (settles ++ more)) made
      (count_whole more) (k.all between)

  alone_whole : (more : List BoardOp) → edits_in (whole more) ≡ made + 1
      → contents_after (whole more) ≡ new
  alone_whole more same =
      let before : edits_in front ≡ made = front_alone (edits_in (whole more)) (edits_in front) (edits_in (settles ++ more)) made (count_whole more) (k.all between) same in
      let behind : edits_in (settles ++ more) ≡ 0 = back_alone (edits_in (whole more)) (edits_in front) (edits_in (settles ++ more)) made (count_whole more) (k.all between) same in
      let there : contents_after front ≡ t = k.alone between before in
      let is_there : IsEditOf t op e number = subst (λ (x : BenchTexts). IsEditOf x op e number) there is in
      fold_joined contents_with no_texts front (op ∷ (settles ++ more))
      ∙ none_made (settles ++ more) (contents_with (contents_after front) op) behind
      ∙ ap (λ (x : BenchTexts). contents_with x op) there
      ∙ is_made t new op e number one applies is_there

  pub knows_edit : KnowsOwn ((front ++ op ∷ []) ++ settles) (made + 1) new
  knows_edit = record {
    all =
        λ more. subst (λ (l : List BoardOp). made + 1 ≤ edits_in l)
        (sym (regrouped front op settles more)) (all_whole more);
    alone = λ more same.
        ap contents_after (regrouped front op settles more)
        ∙ alone_whole more (ap edits_in (sym (regrouped front op settles more)) ∙ same);
  }

pub knows_own_edit : (e : code.Edit) (number : ℕ) (seen later : List BoardOp) (made : ℕ)
    (t new : BenchTexts)
    → KnowsOwn seen made t → HasOwnEdit e number seen later → HasOneEditResult t (edit_of e)
    → edits.Applies t false (edit_of e) new → KnowsOwn later (made + 1) new
knows_own_edit e number seen later made t new k h one applies =
    subst (λ (l : List BoardOp). KnowsOwn l (made + 1) new) (sym h.list)
    (knows_edit seen h.between h.settles h.op made number t new (edit_of e) k h.is one applies)

-- numbers of edits rise, so the number of an edit is above the count of those before it
numbered_above : (h : TestsAndModels) (last : ℕ) (ops rest : List BoardOp) (edit : BoardEdit)
    → LegalFrom h last (ops ++ Edit edit ∷ rest) → edits_in ops + last < edit.number
numbered_above h last [] rest edit legal =
    let here : last < edit.number = legal.0.0 in omega (arith, here)
numbered_above h last (Edit first ∷ ops) rest edit legal =
    let above = numbered_above (tests_and_models_after h (Edit first)) first.number ops rest edit legal.1 in
    let here : last < first.number = legal.0.0 in
    omega (arith, above, here)
numbered_above h last (Settle at outcome ∷ ops) rest edit legal =
    numbered_above h last ops rest edit legal.1

numbered_so : (t : BenchTexts) (ops rest : List BoardOp) (op : BoardOp) (e : edits.Edit) (number : ℕ)
    → IsEditOf t op e number → IsLegal (ops ++ op ∷ rest) → edits_in ops < number
numbered_so t ops rest (Edit edit) e number is legal =
    let above = numbered_above no_tests_or_models 0 ops rest edit legal in
    let same : edit.number ≡ number = is.0 in
    omega (arith, above, same)
numbered_so t ops rest (Settle at outcome) e number is legal = absurd is

pub few_before : (e : code.Edit) (number : ℕ) (seen later : List BoardOp) (made : ℕ) (t : BenchTexts)
    → KnowsOwn seen made t → HasOwnEdit e number seen later → made < number
few_before e number seen later made t k h =
    let front : List BoardOp = seen ++ h.between in
    let legal : IsLegal (front ++ h.op ∷ h.settles) = subst IsLegal (h.list ∙ append_assoc front (h.op ∷ []) h.settles) (h.legal).0 in
    let below = numbered_so (contents_after front) front h.settles h.op (edit_of e) number h.is legal in
    let least = k.all h.between in
    omega (arith, below, least)

-- ---- a board

pub shows_own : (ops : List BoardOp) (made : ℕ) (t : BenchTexts)
    → KnowsOwn ops made t → IsLegal ops → made < 2 ^ 64 - 1 → edit_count ops ≡ made
    → ShowsTexts t (board_after ops)
shows_own ops made t k legal lt e =
    let same : ops ++ [] ≡ ops = append-nil ops in
    let count : edits_in ops ≡ made = capped (edits_in ops) made (cases_lt (2 ^ 64 - 1) (edits_in ops)) e lt in
    record { ops = ops; legal = legal; board = refl; texts = ap contents_after (sym same) ∙ k.alone [] (ap edits_in same ∙ count) }
