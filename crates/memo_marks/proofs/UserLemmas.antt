-- The users of a node are found among those that are listed, one after another.
use Rattle.std.proofs.Common.{◌≡◌, ◌⊎◌, inl, inr, ◌&&◌, Bool, true, false, not, List, [], ◌∷◌, ◌++◌, Option, Some, None, Vec, if◌then◌else◌, IsSome, refl, sym, subst, ◌∙◌}
use Rattle.std.specs.Map.{lookup}
use Rattle.std.specs.declared.alloc.Global.{Global}
use Rattle.std.specs.List.{AllByRecursion as Each}
use Rattle.std.proofs.lemmas.Bool.{cases_Bool}
use Rattle.std.proofs.lemmas.Option.{same_Some}
use Rattle.indexmap.specs.IndexMap.{insert_entry}
use Rattle.memo_core.specs.declared.keys.Node.{Node}
use Rattle.memo_core.specs.Names.{same_node}
use Rattle.memo_core.specs.Graph.{Net, input_nodes}
use Rattle.memo_core.specs.Laws.{AreUsers}
use Rattle.memo_core.specs.Step.{Has}
use Rattle.memo_core.specs.Tests.{has_node}
use Rattle.memo_core.specs.Lemmas.Equality.{same_node_exact, same_node_refl}
use Rattle.memo_core.proofs.JudgeLemmas.{has_yes, has_is, true_false}
use Rattle.memo_marks.specs.Users.{AreEachOnce, AreUsersOf, HoldsUsers, is_new_user}

has_last : (ns : List Node) (n : Node) → Has (ns ++ n ∷ []) n
has_last [] n = inl refl
has_last (m ∷ ns) n = inr (has_last ns n)

has_more : (ns : List Node) (n u : Node) → Has ns u → Has (ns ++ n ∷ []) u
has_more [] n u h = absurd h
has_more (m ∷ ns) n u h = elim h [ inl e ↦ inl e | inr r ↦ inr (has_more ns n u r) ]

one_of : (ns : List Node) (n u : Node) → Has (ns ++ n ∷ []) u → Has ns u ⊎ (n ≡ u)
one_of [] n u h = elim h [ inl e ↦ inr e | inr r ↦ absurd r ]
one_of (m ∷ ns) n u h = elim h [
  | inl e ↦ inl (inl e)
  | inr r ↦ elim (one_of ns n u r) [ inl t ↦ inl (inr t) | inr e ↦ inr e ]
]

once_more : (ns : List Node) (n : Node) → (Has ns n → ⊥) → AreEachOnce ns → AreEachOnce (ns ++ n ∷ [])
once_more [] n none once = (λ h. h, tt)
once_more (m ∷ ns) n none once = (
  λ h. elim (one_of ns n m h) [ inl t ↦ once.0 t | inr e ↦ none (inl (sym e)) ],
  once_more ns n (λ h. none (inr h)) once.1,
)

-- the users that were found, where these are still to be looked at
pub record AreUsersFound {G : Type 0} (net : Net G) (n : Node) (found rest : List Node)
    : Type 0 where
  pub sound : (u : Node) → Has found u → Has net.used u × Has (input_nodes (net.inputs u)) n
  pub whole : (u : Node) → Has net.used u → Has (input_nodes (net.inputs u)) n
      → Has found u ⊎ Has rest u
  pub once : AreEachOnce found

module _ {G : Type 0} (net : Net G) (n : Node) where
  pub none_found : (users : Node → List Node) → AreUsers net users
      → AreUsersFound net n [] (users n)
  none_found users are = record {
    sound = λ u h. absurd h;
    whole = λ u has reads. inr (are.listed n u has reads);
    once = tt;
  }

  pub all_found : (found : List Node) → AreUsersFound net n found [] → AreUsersOf net n found
  all_found found f = record {
    exact = λ u. (
      f.sound u,
      λ h. elim (f.whole u h.0 h.1) [ inl t ↦ t | inr r ↦ absurd r ],
    );
    once = f.once;
  }

  new_parts : (a b c : Bool) → (a && (b && not c)) ≡ true → (a ≡ true) × (b ≡ true) × (c ≡ false)
  new_parts true true false h = (refl, refl, refl)
  new_parts true true true h = cc
  new_parts true false c h = cc
  new_parts false b c h = cc

  pub one_found : (found rest : List Node) (u : Node) → is_new_user net n found u ≡ true
      → AreUsersFound net n found (u ∷ rest) → AreUsersFound net n (found ++ u ∷ []) rest
  one_found found rest u new f =
      let p = new_parts (has_node u net.used) (has_node n (input_nodes (net.inputs u))) (has_node u found) new in
      record {
        sound = λ w h. elim (one_of found u w h) [
          | inl t ↦ f.sound w t
          | inr e ↦ subst (λ (x : Node). Has net.used x × Has (input_nodes (net.inputs x)) n) e
              (has_yes u net.used p.0, has_yes n (input_nodes (net.inputs u)) p.1)
        ];
        whole = λ w has reads. elim (f.whole w has reads) [
          | inl t ↦ inl (has_more found u w t)
          | inr r ↦ elim r [
            | inl e ↦ inl (subst (Has (found ++ u ∷ [])) e (has_last found u))
            | inr later ↦ inr later
          ]
        ];
        once = once_more found u (λ h. true_false _ (has_is u found h) p.2) f.once;
      }

  old_parts : (a b c : Bool) → (a && (b && not c)) ≡ false → a ≡ true → b ≡ true → c ≡ true
  old_parts true true true h p q = refl
  old_parts true true false h p q = cc
  old_parts true false c h p q = cc
  old_parts false b c h p q = cc

  pub none_new : (found rest : List Node) (u : Node) → is_new_user net n found u ≡ false
      → AreUsersFound net n found (u ∷ rest) → AreUsersFound net n found rest
  none_new found rest u old f = record {
    sound = f.sound;
    whole = λ w has reads. elim (f.whole w has reads) [
      | inl t ↦ inl t
      | inr r ↦ elim r [
        | inl e ↦ inl (subst (Has found) e (has_yes u found (old_parts (has_node u net.used)
            (has_node n (input_nodes (net.inputs u))) (has_node u found) old
            (has_is u net.used (subst (Has net.used) (sym e) has))
            (has_is n (input_nodes (net.inputs u))
            (subst (λ (x : Node). Has (input_nodes (net.inputs x)) n) (sym e) reads)))))
        | inr later ↦ inr later
      ]
    ];
    once = f.once;
  }

-- what is found once an entry is put
lookup_inserted : {X : Type 0} (n : Node) (x : X) (es : List (Node × X)) (m : Node)
    → lookup (same_node m) (insert_entry same_node es n x)
    ≡ (if same_node m n then Some x else lookup (same_node m) es)
lookup_inserted {X} n x [] m =
    elim (cases_Bool (same_node m n)) [ inl t ↦ rw t refl | inr f ↦ rw f refl ]
lookup_inserted {X} n x (e ∷ es) m = elim (cases_Bool (same_node n e.0)) [
  | inl t ↦ (let is = same_node_exact n e.0 t in
      rw t (elim (cases_Bool (same_node m n)) [
        | inl s ↦ rw s (rw (subst (λ (k : Node). same_node m k ≡ true) is s) refl)
        | inr f ↦ rw f (rw (subst (λ (k : Node). same_node m k ≡ false) is f) refl)
      ]))
  | inr f ↦ rw f (elim (cases_Bool (same_node m e.0)) [
    | inl s ↦ rw s (rw (apart (same_node_exact m e.0 s) f) refl)
    | inr g ↦ rw g (lookup_inserted n x es m)
  ])
]
  where
    apart : m ≡ e.0 → same_node n e.0 ≡ false → same_node m n ≡ false
    apart is f = elim (cases_Bool (same_node m n)) [
      | inl t ↦ absurd (true_false _ (same_node_refl n)
          (subst (λ (k : Node). same_node n k ≡ false) (sym is ∙ same_node_exact m n t) f))
      | inr g ↦ g
    ]

module _ {G : Type 0} (net : Net G) where
  pub no_users : HoldsUsers net [] net.used
  no_users = record { are = λ n v h. absurd (none v h); whole = λ n has. inr has }
    where
      none : (v : Vec Node Global) → None ≡ Some v → ⊥
      none v h = cc

  pub users_put : (es : List (Node × Vec Node Global)) (rest : List Node) (n : Node)
      (v : Vec Node Global)
      → AreUsersOf net n v.items → HoldsUsers net es (n ∷ rest)
      → HoldsUsers net (insert_entry same_node es n v) rest
  users_put es rest n v users h = record {
    are = λ m w found. elim (cases_Bool (same_node m n)) [
      | inl t ↦ (let is = same_node_exact m n t in
          let same : Some v ≡ Some w = rw t at (sym (lookup_inserted n v es m) ∙ found) in
          subst (λ (x : Vec Node Global). AreUsersOf net m x.items) (same_Some v w same)
          (subst (λ (k : Node). AreUsersOf net k v.items) (sym is) users))
      | inr f ↦ h.are m w (rw f at (sym (lookup_inserted n v es m) ∙ found))
    ];
    whole = λ m has. rw (lookup_inserted n v es m) (elim (cases_Bool (same_node m n)) [
      | inl t ↦ rw t (inl refl)
      | inr f ↦ rw f (elim (h.whole m has) [
        | inl s ↦ inl s
        | inr r ↦ elim r [
          | inl e ↦ absurd (true_false _ (same_node_refl m)
              (subst (λ (k : Node). same_node m k ≡ false) e f))
          | inr later ↦ inr later
        ]
      ])
    ]);
  }

  -- a node without an entry has no user
  pub none_held : (es : List (Node × Vec Node Global)) (n : Node)
      → ((u : Node) → Has net.used u → Each (Has net.used) (input_nodes (net.inputs u)))
      → HoldsUsers net es [] → None ≡ lookup (same_node n) es → AreUsersOf net n []
  none_held es n closed h none = record {
    exact = λ u. (
      λ has. absurd has,
      λ p. elim (h.whole n (each_has (input_nodes (net.inputs u)) n
          (closed u p.0) p.1)) [
            | inl s ↦ absurd (is_none (lookup (same_node n) es) none s)
            | inr r ↦ absurd r
          ],
    );
    once = tt;
  }
    where
      each_has : (ns : List Node) (m : Node) → Each (Has net.used) ns → Has ns m → Has net.used m
      each_has [] m all has = absurd has
      each_has (k ∷ ns) m all has = elim has [
        | inl e ↦ subst (Has net.used) e all.0
        | inr r ↦ each_has ns m all.1 r
      ]

      is_none : (o : Option (Vec Node Global)) → None ≡ o → IsSome o → ⊥
      is_none None e s = cc
      is_none (Some v) e s = cc
