use Rattle.std.proofs.Common.{ℕ, ◌≡◌, ◌<◌, ◌+◌, ◌++◌, ◌∙◌, ◌⊎◌, inl, inr, Bool, true, List, [], ◌∷◌, Vec, Global, vec_len, length, take, set, refl, sym, ap, arith, rules}
use Rattle.std.specs.Prelude.{◌==◌, OnErr, Ok, Err, Result}
use Rattle.std.proofs.lemmas.List.{append-nil, take_more_set, nil_from_length}
use Rattle.std.proofs.lemmas.Bool.Decides.{Decides-eqb}
use Rattle.cat_machine.proofs.few.Few.push.Goals as goal

-- the list where it has elements, and where memory is out
whatever : {V E P : Type 0} (r : Result V E) → P → OnErr r P
whatever (Ok v) p = tt
whatever (Err e) p = p

module _ {X : Type 0} (room many whole : List X) (count : ℕ) (is : take count room ++ many ≡ whole)
  where
    -- an element more among the few
    few_more : (x : X) → count < length room → many ≡ []
        → take (count + 1) (set room count x) ++ many ≡ whole ++ x ∷ []
    few_more x fits none =
        ap (λ (ys : List X). take (count + 1) (set room count x) ++ ys) none
        ∙ append-nil (take (count + 1) (set room count x))
        ∙ take_more_set room count x fits
        ∙ ap (λ (ys : List X). ys ++ x ∷ []) (sym (append-nil (take count room))
        ∙ ap (λ (ys : List X). take count room ++ ys) (sym none) ∙ is)

    -- the many are as they were
    still : (same : List X) → same ≡ many → take count room ++ same ≡ whole
    still same e = ap (λ (ys : List X). take count room ++ ys) e ∙ is

    -- the few stand behind the many, where only one of the two has elements
    moved : (all : List X) → (count ≡ 0) ⊎ (many ≡ []) → all ≡ many ++ take count room → all ≡ whole
    moved all one e = e ∙ behind one ∙ is
      where
        behind : (count ≡ 0) ⊎ (many ≡ []) → many ++ take count room ≡ take count room ++ many
        behind (inl none) = rw none (append-nil many)
        behind (inr none) = rw none (sym (append-nil (take count room)))

unchanged : {X : Type 0} (new all whole : List X) → new ≡ all → all ≡ whole → new ≡ whole
unchanged new all whole e is = e ∙ is

pushed : {X : Type 0} (new all whole : List X) (x : X) → new ≡ all ++ x ∷ [] → all ≡ whole
    → new ≡ whole ++ x ∷ []
pushed new all whole x e is = e ∙ ap (λ (ys : List _). ys ++ x ∷ []) is

none_of : {X : Type 0} (many : Vec X Global) (answer : Bool) → answer ≡ (vec_len many == 0)
    → answer ≡ true → many.items ≡ []
none_of many answer is holds =
    nil_from_length many.items (omega (
      arith,
      (Decides-eqb (vec_len many) 0).0 (sym is ∙ holds),
      many.ok.0,
    ))

pub invariant_of-self : goal.invariant_of-self
invariant_of-self g c = (
  omega (arith, c.if-self-lt-FEW.true),
  inr (none_of c.self.inside.many c.is_empty.result c.is_empty.ensures
      c.if-is_empty.true),
)

pub returns-then-self-lt-FEW-clause-added : goal.returns-then-self-lt-FEW-clause-added
returns-then-self-lt-FEW-clause-added g c =
    let inside = c.self.inside in
    let eight : length inside.room ≡ 8 = search (rules, c.self.ranges) in
    few_more inside.room inside.many.items c.args.self.now inside.count c.self.view_is c.args.value
    (omega (arith, eight, c.if-self-lt-FEW.true)) (none_of inside.many c.is_empty.result
    c.is_empty.ensures c.if-is_empty.true)

pub invariant_of-self-in_err-extend_from_slice : goal.invariant_of-self-in_err-extend_from_slice
invariant_of-self-in_err-extend_from_slice g c = (
  c.self.invariant.0,
  elim c.self.invariant.1 [
    | inl none ↦ inl none
    | inr none ↦ inr
        (c.in_err-extend_from_slice.ensures.items ∙ none)
  ],
)

pub returns-in_err-extend_from_slice-clause-kept : goal.returns-in_err-extend_from_slice-clause-kept
returns-in_err-extend_from_slice-clause-kept g c =
    let inside = c.self.inside in
    whatever c.from_residual.result (still inside.room inside.many.items c.args.self.now
    inside.count c.self.view_is c.extend_from_slice.new.self.items
    c.in_err-extend_from_slice.ensures.items)

pub invariant_of-self-in_err-push : goal.invariant_of-self-in_err-push
invariant_of-self-in_err-push g c = (omega arith, inl refl)

pub returns-in_err-push-clause-kept : goal.returns-in_err-push-clause-kept
returns-in_err-push-clause-kept g c =
    let inside = c.self.inside in
    whatever c.from_residual-in_err-push.result
    (unchanged c.push.new.self.items c.extend_from_slice.new.self.items c.args.self.now
    c.in_err-push.ensures.items
    (moved inside.room inside.many.items c.args.self.now inside.count c.self.view_is
    c.extend_from_slice.new.self.items c.self.invariant.1
    c.in_ok-extend_from_slice.ensures.items))

pub invariant_of-self-2 : goal.invariant_of-self-2
invariant_of-self-2 g c = (omega arith, inl refl)

pub returns-clause-added : goal.returns-clause-added
returns-clause-added g c =
    let inside = c.self.inside in
    pushed c.push.new.self.items c.extend_from_slice.new.self.items c.args.self.now c.args.value
    c.in_ok-push.ensures.items
    (moved inside.room inside.many.items c.args.self.now inside.count c.self.view_is
    c.extend_from_slice.new.self.items c.self.invariant.1
    c.in_ok-extend_from_slice.ensures.items)
