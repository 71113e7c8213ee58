-- Laws of lists of names.
use Rattle.std.proofs.Common.{ℕ, Bool, true, false, not, ◌≡◌, ◌||◌, cond, List, [], ◌∷◌, ◌++◌, filter, refl, sym, ap, ◌∙◌, subst, take, length, get_or, map, ◌+◌, ◌<◌}
use Rattle.std.proofs.lemmas.Bool.{true≢false}
use Rattle.std.proofs.lemmas.List.{append-nil, map-append, take_more}
use Rattle.std.specs.List.{list_any}
use Rattle.std.specs.Bool.{Decides}
use Rattle.std.proofs.lemmas.Slice.Eq.{bytes_eq-Decides}
use Rattle.outcome_states.specs.Names.{is_name}
use Rattle.outcome_states.specs.Kept.{each_once, Flag, of_raised, names_of_flags}
use Rattle.outcome_states.specs.declared.raised.Raised.{Raised}

-- the test of names says that they are the same
pub is_name-Decides : (m n : List ℕ) → Decides (is_name m n) (m ≡ n)
is_name-Decides = bytes_eq-Decides

-- a list of which a test takes some out, and one more
filter_at_end : {X : Type 0} (p : X → Bool) (ns : List X) (n : X)
    → filter p (ns ++ n ∷ []) ≡ filter p ns ++ cond (p n) (n ∷ []) []
filter_at_end p [] n = refl
filter_at_end {X} p (m ∷ ms) n =
    elim (p m) as
    (λ v. cond v (m ∷ filter p (ms ++ n ∷ [])) (filter p (ms ++ n ∷ []))
    ≡ cond v (m ∷ filter p ms) (filter p ms) ++ cond (p n) (n ∷ []) []) [
      | true ↦ ap (λ (l : List X). m ∷ l) (filter_at_end p ms n)
      | false ↦ filter_at_end p ms n
    ]

is_name_back : (m n : List ℕ) → is_name n m ≡ false → is_name m n ≡ false
is_name_back m n h = by_test (is_name m n) refl
  where
    by_test : (b : Bool) → is_name m n ≡ b → is_name m n ≡ false
    by_test false e = e
    by_test true e =
        absurd (true≢false (sym ((is_name-Decides n m).1 (sym ((is_name-Decides m n).0 e))) ∙ h))

any_kept_at : (m n x : List ℕ) (xs : List (List ℕ)) (b : Bool) → is_name n m ≡ false
    → is_name m x ≡ b
    → list_any (is_name n) (filter (λ y. not (is_name m y)) xs) ≡ list_any (is_name n) xs
    → list_any (is_name n) (cond (not b) (x ∷ filter (λ y. not (is_name m y)) xs)
    (filter (λ y. not (is_name m y)) xs)) ≡ (is_name n x || list_any (is_name n) xs)
any_kept_at m n x xs true h e more =
    let other : is_name n x ≡ false = subst (λ (y : List ℕ). is_name n y ≡ false) ((is_name-Decides m x).0 e) h in
    more ∙ ap (λ (v : Bool). v || list_any (is_name n) xs) (sym other)
any_kept_at m n x xs false h e more = ap (λ (v : Bool). is_name n x || v) more

-- to take one name out leaves another among the list, or not
any_kept : (m n : List ℕ) (xs : List (List ℕ)) → is_name n m ≡ false
    → list_any (is_name n) (filter (λ y. not (is_name m y)) xs) ≡ list_any (is_name n) xs
any_kept m n [] h = refl
any_kept m n (x ∷ xs) h = any_kept_at m n x xs (is_name m x) h refl (any_kept m n xs h)

once_more : (m n : List ℕ) (ns : List (List ℕ)) (same there : Bool) → is_name n m ≡ same
    → list_any (is_name n) ns ≡ there
    → filter (λ y. not (is_name m y)) (ns ++ cond there [] (n ∷ []))
    ≡ filter (λ y. not (is_name m y)) ns
    ++ cond (same || list_any (is_name n) (filter (λ y. not (is_name m y)) ns)) [] (n ∷ [])
once_more m n ns true true e f =
    ap (λ (l : List (List ℕ)). filter (λ y. not (is_name m y)) l) (append-nil ns)
    ∙ sym (append-nil (filter (λ y. not (is_name m y)) ns))
once_more m n ns true false e f =
    let known : is_name m n ≡ true = (is_name-Decides m n).1 (sym ((is_name-Decides n m).0 e)) in
    filter_at_end (λ y. not (is_name m y)) ns n
    ∙ ap (λ (v : Bool). filter (λ y. not (is_name m y)) ns ++ cond (not v) (n ∷ []) []) known
once_more m n ns false true e f =
    ap (λ (l : List (List ℕ)). filter (λ y. not (is_name m y)) l) (append-nil ns)
    ∙ sym (append-nil (filter (λ y. not (is_name m y)) ns))
    ∙ ap (λ (v : Bool). filter (λ y. not (is_name m y)) ns ++ cond v [] (n ∷ []))
    (sym (any_kept m n ns e ∙ f))
once_more m n ns false false e f =
    filter_at_end (λ y. not (is_name m y)) ns n
    ∙ ap (λ (v : Bool). filter (λ y. not (is_name m y)) ns ++ cond (not v) (n ∷ []) [])
    (is_name_back m n e)
    ∙ ap (λ (v : Bool). filter (λ y. not (is_name m y)) ns ++ cond v [] (n ∷ []))
    (sym (any_kept m n ns e ∙ f))

-- a name that is new stands once more, at the end
pub each_once_push : (ns : List (List ℕ)) (n : List ℕ)
    → each_once (ns ++ n ∷ [])
    ≡ each_once ns ++ cond (list_any (is_name n) (each_once ns)) [] (n ∷ [])
each_once_push [] n = refl
each_once_push (m ∷ ms) n =
    ap (λ (l : List (List ℕ)). m ∷ filter (λ y. not (is_name m y)) l) (each_once_push ms n)
    ∙ ap (λ (l : List (List ℕ)). m ∷ l) (once_more m n (each_once ms) (is_name n m)
    (list_any (is_name n) (each_once ms)) refl refl)

flag_push : (test : Flag → Bool) (fs : List Flag) (f : Flag) (passes : Bool) → test f ≡ passes
    → names_of_flags test (fs ++ f ∷ [])
    ≡ names_of_flags test fs
    ++ cond passes (cond (list_any (is_name f.0) (names_of_flags test fs)) [] (f.0 ∷ [])) []
unfolding names_of_flags
flag_push test fs f true e =
    rw (filter_at_end test fs f, e, map-append)
    (each_once_push (map (λ g. g.0) (filter test fs)) f.0)
flag_push test fs f false e = rw (filter_at_end test fs f, e, append-nil, append-nil) refl

-- one more flag
pub one_flag_more : (test : Flag → Bool) (fs : List Raised) (i : ℕ) (f : Raised) → i < length fs
    → f ≡ get_or fs i f
    → names_of_flags test (of_raised (take (i + 1) fs))
    ≡ names_of_flags test (of_raised (take i fs))
    ++ cond (test (f.name.now, f.holds.now))
    (cond (list_any (is_name f.name.now) (names_of_flags test (of_raised (take i fs)))) []
    (f.name.now ∷ [])) []
one_flag_more test fs i f lt is =
    ap (λ (gs : List Raised). names_of_flags test (of_raised gs)) (take_more fs i f lt
    ∙ ap (λ (g : Raised). take i fs ++ g ∷ []) (sym is))
    ∙ ap (names_of_flags test) (map-append (λ (g : Raised). (g.name.now, g.holds.now)) (take i fs)
    (f ∷ []))
    ∙ flag_push test (of_raised (take i fs)) (f.name.now, f.holds.now)
    (test (f.name.now, f.holds.now)) refl
