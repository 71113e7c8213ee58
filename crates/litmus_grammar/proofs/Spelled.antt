-- What a tree spells before some tokens is what it spells alone, and these.
use Rattle.std.proofs.Common.{◌≡◌, ℕ, zero, suc, ◌+◌, Bool, true, false, List, [], ◌∷◌, ◌++◌, Option, Some, None, refl, ap, ◌∙◌}
use Rattle.std.specs.Prelude.{codes}
use Rattle.litmus_tokens.specs.declared.token.Token.{Token}
use Rattle.litmus_tokens.specs.declared.token.Token.TheVariants as tokens
use Rattle.litmus_tokens.specs.declared.token.Mark.TheVariants as marks
use Rattle.litmus_tokens.specs.Words.{column_name}
use Rattle.text_values.specs.declared.test.Quantifier.{Quantifier}
use Rattle.text_values.specs.declared.test.Quantifier.TheVariants.{Exists, NotExists, Forall}
use Rattle.litmus_tokens.specs.Conditions.{PlaceTree, Location, Register, ValueTree, Number, Address, FormulaTree, Word, Atom, Prefix, Pair, Group, spelled_place, spelled_value, prefix_token, connective_token, spelled, spelled_quantifier}
use Rattle.litmus_table.specs.Grammar.{CellTree, RowTree, ThreadTree, spelled_cell, spelled_cells, spelled_rows, spelled_steps, spelled_thread, spelled_names}
use Rattle.litmus_grammar.specs.Grammar.{Listed, EntryTree, spelled_entry, spelled_end, spelled_others, spelled_listed, spelled_init, spelled_items, spelled_condition}
use Rattle.litmus_table.proofs.Complete.{cell-append, cells-append}

pub rows-append : (rs : List RowTree) (xs ys : List Token)
    → spelled_rows rs xs ++ ys ≡ spelled_rows rs (xs ++ ys)
rows-append [] xs ys = refl
rows-append (r ∷ rs) xs ys =
    cell-append r.first (spelled_cells r.others (spelled_rows rs xs)) ys
    ∙ ap (spelled_cell r.first) (cells-append r.others (spelled_rows rs xs) ys
    ∙ ap (spelled_cells r.others) (rows-append rs xs ys))

steps-append : (cs : List CellTree) (xs ys : List Token)
    → spelled_steps cs xs ++ ys ≡ spelled_steps cs (xs ++ ys)
steps-append [] xs ys = refl
steps-append (c ∷ cs) xs ys =
    ap (λ (l : List Token). tokens.Mark marks.Semicolon ∷ l) (cell-append c (spelled_steps cs xs) ys
    ∙ ap (spelled_cell c) (steps-append cs xs ys))

pub thread-append : (t : ThreadTree) (xs ys : List Token)
    → spelled_thread t xs ++ ys ≡ spelled_thread t (xs ++ ys)
thread-append t xs ys =
    cell-append t.first (spelled_steps t.others xs) ys
    ∙ ap (spelled_cell t.first) (steps-append t.others xs ys)

-- ---- places, lists, entries and propositions

offset-append : (p : PlaceTree) (xs ys : List Token)
    → spelled_place p xs ++ ys ≡ spelled_place p (xs ++ ys)
offset-append (Location false n) xs ys = refl
offset-append (Location true n) xs ys = refl
offset-append (Register t r) xs ys = refl

value-append : (v : ValueTree) (xs ys : List Token)
    → spelled_value v xs ++ ys ≡ spelled_value v (xs ++ ys)
value-append (Number negative ds) xs ys = refl
value-append (Address n) xs ys = refl

pub entry-append : (e : EntryTree) (xs ys : List Token)
    → spelled_entry e xs ++ ys ≡ spelled_entry e (xs ++ ys)
entry-append e xs ys =
    offset-append e.place (tokens.Mark marks.Equals ∷ spelled_value e.value xs) ys
    ∙ ap (λ (l : List Token). spelled_place e.place (tokens.Mark marks.Equals ∷ l))
    (value-append e.value xs ys)

end-append : (closed : Bool) (xs ys : List Token)
    → spelled_end closed xs ++ ys ≡ spelled_end closed (xs ++ ys)
end-append true xs ys = refl
end-append false xs ys = refl

others-append : {A : Type 0} (f : A → List Token → List Token)
    → ((x : A) (xs ys : List Token) → f x xs ++ ys ≡ f x (xs ++ ys))
    → (closed : Bool) (os : List A) (xs ys : List Token)
    → spelled_others f closed os xs ++ ys ≡ spelled_others f closed os (xs ++ ys)
others-append f g closed [] xs ys = end-append closed xs ys
others-append f g closed (o ∷ os) xs ys =
    ap (λ (l : List Token). tokens.Mark marks.Semicolon ∷ l) (g o (spelled_others f closed os xs) ys
    ∙ ap (f o) (others-append f g closed os xs ys))

listed-append : {A : Type 0} (f : A → List Token → List Token)
    → ((x : A) (xs ys : List Token) → f x xs ++ ys ≡ f x (xs ++ ys))
    → (l : Option (Listed A)) (xs ys : List Token)
    → spelled_listed f l xs ++ ys ≡ spelled_listed f l (xs ++ ys)
listed-append f g None xs ys = refl
listed-append f g (Some l) xs ys =
    g l.first (spelled_others f l.closed l.others xs) ys
    ∙ ap (f l.first) (others-append f g l.closed l.others xs ys)

pub init-append : (es : Option (Listed EntryTree)) (xs ys : List Token)
    → spelled_init es xs ++ ys ≡ spelled_init es (xs ++ ys)
init-append es xs ys =
    ap (λ (l : List Token). tokens.Mark marks.OpenBrace ∷ l) (listed-append spelled_entry
    entry-append es (tokens.Mark marks.CloseBrace ∷ xs) ys)

pub items-append : (l : Listed PlaceTree) (xs ys : List Token)
    → spelled_items l xs ++ ys ≡ spelled_items l (xs ++ ys)
items-append l xs ys =
    ap (λ (ts : List Token). tokens.Word (codes "locations") ∷ tokens.Mark marks.OpenBracket ∷ ts)
    (offset-append l.first
    (spelled_others spelled_place l.closed l.others (tokens.Mark marks.CloseBracket ∷ xs)) ys
    ∙ ap (spelled_place l.first) (others-append spelled_place offset-append l.closed l.others
    (tokens.Mark marks.CloseBracket ∷ xs) ys))

formula-append : (a : FormulaTree) (xs ys : List Token) → spelled a xs ++ ys ≡ spelled a (xs ++ ys)
formula-append (Word b) xs ys = refl
formula-append (Atom p v) xs ys =
    offset-append p (tokens.Mark marks.Equals ∷ spelled_value v xs) ys
    ∙ ap (λ (l : List Token). spelled_place p (tokens.Mark marks.Equals ∷ l)) (value-append v xs ys)
formula-append (Prefix tilde a) xs ys =
    ap (λ (l : List Token). prefix_token tilde ∷ l) (formula-append a xs ys)
formula-append (Pair op a b) xs ys =
    formula-append a (connective_token op ∷ spelled b xs) ys
    ∙ ap (λ (l : List Token). spelled a (connective_token op ∷ l)) (formula-append b xs ys)
formula-append (Group a) xs ys =
    ap (λ (l : List Token). tokens.Mark marks.Open ∷ l)
    (formula-append a (tokens.Mark marks.Close ∷ xs) ys)

quantifier-append : (q : Quantifier) (xs ys : List Token)
    → spelled_quantifier q xs ++ ys ≡ spelled_quantifier q (xs ++ ys)
quantifier-append Exists xs ys = refl
quantifier-append NotExists xs ys = refl
quantifier-append Forall xs ys = refl

-- a condition ends with the text
pub condition-append : (q : Quantifier) (a : FormulaTree)
    → spelled_quantifier q (spelled a []) ++ tokens.End ∷ [] ≡ spelled_condition q a
condition-append q a =
    quantifier-append q (spelled a []) (tokens.End ∷ [])
    ∙ ap (spelled_quantifier q) (formula-append a [] (tokens.End ∷ []))

pub names-append : (k n : ℕ) (xs ys : List Token)
    → spelled_names k n xs ++ ys ≡ spelled_names k n (xs ++ ys)
names-append k zero xs ys = refl
names-append k (suc n) xs ys =
    ap (λ (l : List Token). tokens.Mark marks.Bar ∷ tokens.Word (column_name k) ∷ l)
    (names-append (k + 1) n xs ys)
