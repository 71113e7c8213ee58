-- A walk goes on, and is found.
use Rattle.std.proofs.Common.{ℕ, suc, ◌≡◌, ◌<◌, ◌≤◌, ◌+◌, ◌-◌, ◌++◌, ◌∙◌, inl, inr, List, [], ◌∷◌, append_assoc, drop, get_or, length, refl, sym, ap, subst, arith}
use Rattle.std.specs.List.{All}
use Rattle.std.proofs.Math.Numerals.{add-one}
use Rattle.std.proofs.Math.Seq.{drop-cons, get_or-append_seam}
use Rattle.std.proofs.lemmas.Bool.{cases_lt}
use Rattle.std.proofs.lemmas.List.{append-nil, drop_all, get_or_append_left, get_or_read, length-append}
use Rattle.std.proofs.lemmas.List.Elements.{All-drop, All-tail}
use Rattle.bit_rows.specs.Pairs.{Composite, Identity, Path, Plus}
use Rattle.bit_rows.specs.Relation.{Relation, Has, IsRegular, IsRelation, no_slot}
use Rattle.bit_rows.proofs.Closing.{Plus-within}
use Rattle.relation_cycles.specs.Cycles.{IsPathFrom}
use Rattle.why_walks.specs.declared.factor.Repeats.{Repeats}
use Rattle.why_walks.specs.declared.factor.Repeats.TheVariants as repeats
use Rattle.why_walks.specs.declared.run.Link.{Link}
use Rattle.why_walks.specs.declared.value.FactorValues.{FactorValues}
use Rattle.why_walks.specs.Values.{AreLinksAt, IsLinkAt, IsOn}
use Rattle.why_walks.specs.Walks.{AreLinksOn, AreRests, IsFirstRun, IsFirstWalk, IsLeastNext, IsLinkOn, IsFactorRun, IsRunInto, IsNoWalk, IsWalk, LeadsThrough, LinkPairs, Repeated}

pub walk_on : (ls : List Link) (l : Link) (a : ℕ) (runs : List (List ℕ)) (b : ℕ) (run : List ℕ)
    (c : ℕ) → IsWalk ls a runs b → IsFactorRun l.repeats (Has l.relation) b run c
    → IsWalk (ls ++ l ∷ []) a (runs ++ run ∷ []) c
walk_on [] l a [] b run c w r =
    (c, subst (λ (x : ℕ). IsFactorRun l.repeats (Has l.relation) x run c) (sym w) r, refl)
walk_on [] l a (x ∷ xs) b run c w r = absurd w
walk_on (k ∷ ks) l a [] b run c w r = absurd w
walk_on (k ∷ ks) l a (x ∷ xs) b run c w r = (w.0, w.1, walk_on ks l w.0 xs b run c w.2 r)

-- the first run is a run
pub run_of_first : (how : Repeats) (R : ℕ → ℕ → Type 0) (a : ℕ) (events : List ℕ) (b : ℕ)
    → IsFirstRun how R a events b → IsFactorRun how R a events b
run_of_first repeats.Once R a events b run = run
run_of_first repeats.AtMostOnce R a events b (inl stay) = inl stay
run_of_first repeats.AtMostOnce R a events b (inr step) = inr step.1
run_of_first repeats.OnceOrMore R a events b run = run.path
run_of_first repeats.AnyNumber R a events b (inl stay) = inl stay
run_of_first repeats.AnyNumber R a events b (inr path) = inr path.1.path

-- ---- no path

pub path_plus : (R : ℕ → ℕ → Type 0) (a b : ℕ) (events : List ℕ) → IsPathFrom R a b events
    → Plus R a b
path_plus R a b [] p = absurd p
path_plus R a b (x ∷ xs) p = (xs, subst (λ (y : ℕ). Path R y xs b) p.0 p.1)

pub path_same : (R S : ℕ → ℕ → Type 0) → ((a b : ℕ) → R a b → S a b) → (a b : ℕ) (events : List ℕ)
    → IsPathFrom R a b events → IsPathFrom S a b events
path_same R S to a b [] p = absurd p
path_same R S to a b (x ∷ xs) p = (p.0, go x xs p.1)
  where
    go : (y : ℕ) (ys : List ℕ) → Path R y ys b → Path S y ys b
    go y [] r = to y b r
    go y (z ∷ zs) r = (to y z r.0, go z zs r.1)

-- a path stays among the events of the relation
pub path_inside : (r : Relation) → IsRegular r → (a b : ℕ) → Plus (Has r) a b
    → (a < r.count) × (b < r.count)
path_inside r regular a b p = Plus-within (Has r) r.count regular.within a b p

-- ---- where a walk leads

-- a run of a factor leads to where its pairs do, and stays among the events
run_leads : (how : Repeats) (r : Relation) → IsRegular r → (a b : ℕ) (events : List ℕ) → a < r.count
    → IsFactorRun how (Has r) a events b → Repeated how r.count (Has r) a b × (b < r.count)
run_leads repeats.Once r regular a b events lt run = (run.1, (regular.within a b run.1).1)
run_leads repeats.AtMostOnce r regular a b events lt (inl stay) =
    (inl (lt, stay.1), subst (λ (x : ℕ). x < r.count) stay.1 lt)
run_leads repeats.AtMostOnce r regular a b events lt (inr step) =
    (inr step.1, (regular.within a b step.1).1)
run_leads repeats.OnceOrMore r regular a b events lt run =
    let p = path_plus (Has r) a b events run in (p, (path_inside r regular a b p).1)
run_leads repeats.AnyNumber r regular a b events lt (inl stay) =
    (inl (lt, stay.1), subst (λ (x : ℕ). x < r.count) stay.1 lt)
run_leads repeats.AnyNumber r regular a b events lt (inr path) =
    let p = path_plus (Has r) a b events path in (inr p, (path_inside r regular a b p).1)

first_on : (n : ℕ) (l : Link) (ls : List Link) → AreLinksOn n (l ∷ ls) → IsLinkOn n l
first_on n l ls all = all 0 l (omega arith)

pub walk_leads : (n : ℕ) (ls : List Link) → AreLinksOn n ls → (a b : ℕ) (runs : List (List ℕ))
    → a < n → IsWalk ls a runs b → LeadsThrough n ls a b
walk_leads n [] all a b [] lt w = (lt, w)
walk_leads n [] all a b (run ∷ runs) lt w = absurd w
walk_leads n (l ∷ ls) all a b [] lt w = absurd w
walk_leads n (l ∷ ls) all a b (run ∷ runs) lt w =
    let on : IsLinkOn n l = first_on n l ls all in
    let step = run_leads l.repeats l.relation on.regular a w.0 run (subst (λ (k : ℕ). a < k) (sym on.count) lt) w.1 in (
      w.0,
      step.0,
      walk_leads n ls (All-tail (IsLinkOn n) l ls all) w.0 b runs
          (subst (λ (k : ℕ). w.0 < k) on.count step.1) w.2,
    )

-- ---- the rests

pub record IsRestsSoFar (n : ℕ) (links : List Link) (rests : List Relation) (rest : Relation)
    (left : ℕ) : Type 0 where
  pub behind : IsRelation rest n (LeadsThrough n (drop left links))
  pub each : AreRests n links rests

pub rests_begin : (n : ℕ) (links : List Link) (rest : Relation) → IsRelation rest n (Identity n)
    → IsRestsSoFar n links [] rest (length links)
rests_begin n links rest is = record {
  behind =
      subst (λ (ls : List Link). IsRelation rest n (LeadsThrough n ls))
      (sym (drop_all (length links) links (omega arith))) is;
  each = λ j lt. absurd (omega (arith, lt));
}

module _ (n : ℕ) (links : List Link) (rests : List Relation) (rest : Relation) (left : ℕ) (l : Link)
    (lt : left < length links) (is : l ≡ get_or links left l) where
  pub drop_link : drop left links ≡ l ∷ drop (left + 1) links
  drop_link =
      drop-cons links left l lt ∙ ap (λ (k : Link). k ∷ drop (suc left) links) (sym is)
      ∙ ap (λ (i : ℕ). l ∷ drop i links) (sym (add-one left))

  pub link_on : AreLinksOn n links → IsLinkOn n l
  link_on all = subst (λ (k : Link). IsLinkOn n k) (sym is) (all left l lt)

  -- the link, and what is behind it
  pub composed_rest : (pairs next : Relation) → AreLinksOn n links
      → IsRelation pairs l.relation.count (LinkPairs l)
      → (rest.count ≡ pairs.count → IsRelation next pairs.count (Composite (Has pairs) (Has rest)))
      → IsRelation rest n (LeadsThrough n (drop (left + 1) links))
      → IsRelation next n (LeadsThrough n (drop left links))
  composed_rest pairs next all are composed behind =
      let on : IsLinkOn n l = link_on all in
      let size : pairs.count ≡ n = are.count ∙ on.count in
      let made : IsRelation next pairs.count (Composite (Has pairs) (Has rest)) = composed (behind.count ∙ sym size) in
      subst (λ (ls : List Link). IsRelation next n (LeadsThrough n ls)) (sym drop_link) (record {
        count = made.count ∙ size;
        regular = made.regular;
        pairs = λ a b. (
          (λ h.
              let m = (made.pairs a b).0 h in
              (m.0, (are.pairs a m.0).0 m.1, (behind.pairs m.0 b).0 m.2)),
          (λ w. (made.pairs a b).1 (w.0, (are.pairs a w.0).1 w.1, (behind.pairs w.0 b).1 w.2)),
        );
      })

pub rests_more : (n : ℕ) (links : List Link) (rests : List Relation) (rest next : Relation)
    (left : ℕ) → length rests + left ≡ length links → IsRestsSoFar n links rests rest left
    → IsRelation next n (LeadsThrough n (drop (left - 1) links))
    → IsRestsSoFar n links (rests ++ rest ∷ []) next (left - 1)
rests_more n links rests rest next left whole old behind = record { behind = behind; each = each }
  where
    each : AreRests n links (rests ++ rest ∷ [])
    each j lt = elim (cases_lt j (length rests)) [
      | inl gt ↦ rw (get_or_append_left rests (rest ∷ []) no_slot j gt) (old.each j gt)
      | inr le ↦
          let more : length (rests ++ rest ∷ []) ≡ length rests + 1 = length-append rests (rest ∷ []) in
          let e : length rests ≡ j = omega arith in
          let l : left ≡ length links - length rests = omega arith in
          subst
          (λ (i : ℕ). IsRelation (get_or (rests ++ rest ∷ []) i no_slot) n
          (LeadsThrough n (drop (length links - i) links))) e
          (rw (get_or-append_seam rests rest [] no_slot) (subst
          (λ (i : ℕ). IsRelation rest n (LeadsThrough n (drop i links))) l old.behind))
    ]

pub rests_step : (n : ℕ) (links : List Link) (rests : List Relation) (rest : Relation) (left : ℕ)
    (l : Link) (pairs next : Relation) → 0 < left → length rests + left ≡ length links
    → l ≡ get_or links (left - 1) l
    → IsRelation pairs l.relation.count (LinkPairs l)
    → (rest.count ≡ pairs.count → IsRelation next pairs.count (Composite (Has pairs) (Has rest)))
    → (AreLinksOn n links → IsRestsSoFar n links rests rest left) → AreLinksOn n links
    → IsRestsSoFar n links (rests ++ rest ∷ []) next (left - 1)
rests_step n links rests rest left l pairs next some whole is are composed old all =
    let so_far : IsRestsSoFar n links rests rest left = old all in
    let back : left ≡ (left - 1) + 1 = omega (arith, some) in
    let behind : IsRelation rest n (LeadsThrough n (drop ((left - 1) + 1) links)) = subst (λ (i : ℕ). IsRelation rest n (LeadsThrough n (drop i links))) back so_far.behind in
    rests_more n links rests rest next left whole so_far
    (composed_rest n links rests rest (left - 1) l (omega (arith, some, whole)) is pairs next all
    are composed behind)

-- ---- the walk

-- wherever there is a walk, the links from an index on lead from the present event on
abbrev pub StillLeads : ℕ → List Link → ℕ → ℕ → ℕ → ℕ → Type 0
StillLeads n links from to index at =
    AreLinksOn n links → from < n → (runs : List (List ℕ)) → IsWalk links from runs to
    → LeadsThrough n (drop index links) at to

pub leads_first : (n : ℕ) (links : List Link) (from to : ℕ) → StillLeads n links from to 0 from
leads_first n links from to all lt runs w = walk_leads n links all from to runs lt w

module _ (n : ℕ) (links : List Link) (rests : List Relation) (index : ℕ) (l : Link)
    (rest : Relation) (lt : index < length links) (is : l ≡ get_or links index l)
    (many : length rests ≡ length links)
    (there : rest ≡ get_or rests (length links - 1 - index) rest) where
  rest_is : AreRests n links rests → IsRelation rest n (LeadsThrough n (drop (index + 1) links))
  rest_is are =
      let inside : length links - 1 - index < length rests = omega (arith, lt, many) in
      let e : length links - (length links - 1 - index) ≡ index + 1 = omega (arith, lt) in
      subst (λ (i : ℕ). IsRelation rest n (LeadsThrough n (drop i links))) e (subst
      (λ (r : Relation).
      IsRelation r n (LeadsThrough n (drop (length links - (length links - 1 - index)) links)))
      (sym (get_or_read rests (length links - 1 - index) rest inside there no_slot))
      (are (length links - 1 - index) inside))

  pub leads_on : (from to next : ℕ) → (AreLinksOn n links → AreRests n links rests)
      → Has rest next to → StillLeads n links from to (index + 1) next
  leads_on from to next are has all begins runs w = ((rest_is (are all)).pairs next to).0 has

  pub leads_nowhere : (from to at : ℕ) → (AreLinksOn n links → AreRests n links rests)
      → StillLeads n links from to index at → (Composite (LinkPairs l) (Has rest) at to → ⊥)
      → AreLinksOn n links → from < n → IsNoWalk links from to
  leads_nowhere from to at are leads none all begins runs w =
      let on : LeadsThrough n (l ∷ drop (index + 1) links) at to = subst (λ (ls : List Link). LeadsThrough n ls at to) (drop_link n links [] rest index l lt is) (leads all begins runs w) in
      none (on.0, on.1, ((rest_is (are all)).pairs on.0 to).1 on.2)

-- ---- the first walk

-- the runs so far are those of the first walk, however the first walk goes on from the present
-- event
abbrev pub StillFirst : ℕ → List Link → ℕ → ℕ → ℕ → ℕ → List (List ℕ) → Type 0
StillFirst n links from to index at runs =
    AreLinksOn n links → from < n
    → (at < n) × ((more : List (List ℕ)) → IsFirstWalk (drop index links) at more to
    → IsFirstWalk links from (runs ++ more) to)

pub first_begins : (n : ℕ) (links : List Link) (from to : ℕ) → StillFirst n links from to 0 from []
first_begins n links from to all lt = (lt, λ more w. w)

pub first_ends : (n : ℕ) (links : List Link) (from to index : ℕ) (runs : List (List ℕ))
    → length links ≤ index → StillFirst n links from to index to runs → AreLinksOn n links
    → from < n → IsFirstWalk links from runs to
first_ends n links from to index runs le old all lt =
    let none : drop index links ≡ [] = drop_all index links le in
    let last : IsFirstWalk (drop index links) to [] to = subst (λ (ls : List Link). IsFirstWalk ls to [] to) (sym none) refl in
    subst (λ (rs : List (List ℕ)). IsFirstWalk links from rs to) (append-nil runs)
    ((old all lt).1 [] last)

module _ (n : ℕ) (links : List Link) (rests : List Relation) (index : ℕ) (l : Link)
    (rest : Relation) (lt : index < length links) (is : l ≡ get_or links index l)
    (many : length rests ≡ length links)
    (there : rest ≡ get_or rests (length links - 1 - index) rest) where
  pub first_more : (from to at next : ℕ) (runs : List (List ℕ)) (run : List ℕ)
      → (AreLinksOn n links → AreRests n links rests)
      → StillFirst n links from to index at runs → IsRunInto l rest at run next to
      → StillFirst n links from to (index + 1) next (runs ++ run ∷ [])
  first_more from to at next runs run are old into all begins =
      let behind : List Link = drop (index + 1) links in
      let on : IsLinkOn n l = link_on n links [] rest index l lt is all in
      let whole : AreLinksOn n behind = All-drop (IsLinkOn n) (index + 1) links all in
      let rest_on : IsRelation rest n (LeadsThrough n behind) = rest_is n links rests index l rest lt is many there (are all) in
      let inside : at < l.relation.count = subst (λ (k : ℕ). at < k) (sym on.count) (old all begins).0 in
      let step = run_leads l.repeats l.relation on.regular at next run inside (run_of_first l.repeats (Has l.relation) at run next into.run) in
      let least : IsLeastNext l behind at next to = λ d less r w others v.
      let leads = run_leads l.repeats l.relation on.regular at d r inside w in
      into.least d less leads.0 ((rest_on.pairs d to).1
      (walk_leads n behind whole d to others
      (subst (λ (k : ℕ). d < k) on.count leads.1) v)) in (
        subst (λ (k : ℕ). next < k) on.count step.1,
        λ more w. subst (λ (rs : List (List ℕ)). IsFirstWalk links from rs to)
            (sym (append_assoc runs (run ∷ []) more))
            ((old all begins).1 (run ∷ more)
            (subst (λ (ls : List Link). IsFirstWalk ls at (run ∷ more) to)
            (sym (drop_link n links [] rest index l lt is))
            (next, into.run, least, w))),
      )

-- ---- walks through the same factors

pub links_tail : (k : ℕ) (f : FactorValues) (fs : List FactorValues) (l : Link) (ls : List Link)
    → AreLinksAt k (f ∷ fs) (l ∷ ls) → AreLinksAt k fs ls
links_tail k f fs l ls h =
    record {
      as_many = omega (arith, h.as_many);
      each = λ j lt g m. h.each (suc j) (omega (arith, lt)) g m;
    }

pub links_head : (k : ℕ) (f : FactorValues) (fs : List FactorValues) (l : Link) (ls : List Link)
    → AreLinksAt k (f ∷ fs) (l ∷ ls) → IsLinkAt k f l
links_head k f fs l ls h = h.each 0 (omega arith) f l

-- the relations of factors on n events are on n events
pub links_on : (k n : ℕ) (fs : List FactorValues) (ls : List Link) → AreLinksAt k fs ls
    → All (λ f. IsOn k n f.values) fs → AreLinksOn n ls
links_on k n fs ls h all j l lt =
    let inside : j < length fs = omega (arith, lt, h.as_many) in
    on fs inside (λ f. h.each j inside f l) (λ f. all j f inside)
  where
    on : (fs : List FactorValues) → j < length fs
        → ((f : FactorValues) → IsLinkAt k (get_or fs j f) (get_or ls j l))
        → ((f : FactorValues) → IsOn k n (get_or fs j f).values) → IsLinkOn n (get_or ls j l)
    on [] inside at is = absurd (omega (arith, inside))
    on (f ∷ fs) inside at is = record { count = (at f).count n (is f); regular = (at f).regular }

pub run_same : (how : Repeats) (R S : ℕ → ℕ → Type 0) → ((a b : ℕ) → R a b → S a b)
    → (a b : ℕ) (events : List ℕ) → IsFactorRun how R a events b → IsFactorRun how S a events b
run_same repeats.Once R S to a b events run = (run.0, to a b run.1)
run_same repeats.AtMostOnce R S to a b events (inl stay) = inl stay
run_same repeats.AtMostOnce R S to a b events (inr step) = inr (step.0, to a b step.1)
run_same repeats.OnceOrMore R S to a b events run = path_same R S to a b events run
run_same repeats.AnyNumber R S to a b events (inl stay) = inl stay
run_same repeats.AnyNumber R S to a b events (inr path) = inr (path_same R S to a b events path)

pub walk_same : (k : ℕ) (fs : List FactorValues) (ls ms : List Link) → AreLinksAt k fs ls
    → AreLinksAt k fs ms → (a b : ℕ) (runs : List (List ℕ)) → IsWalk ls a runs b
    → IsWalk ms a runs b
walk_same k fs [] [] h g a b runs w = w
walk_same k fs [] (m ∷ ms) h g a b runs w = absurd (omega (arith, h.as_many, g.as_many))
walk_same k fs (l ∷ ls) [] h g a b runs w = absurd (omega (arith, h.as_many, g.as_many))
walk_same k [] (l ∷ ls) (m ∷ ms) h g a b runs w = absurd (omega (arith, h.as_many))
walk_same k (f ∷ fs) (l ∷ ls) (m ∷ ms) h g a b [] w = absurd w
walk_same k (f ∷ fs) (l ∷ ls) (m ∷ ms) h g a b (run ∷ runs) w =
    let p : IsLinkAt k f l = links_head k f fs l ls h in
    let q : IsLinkAt k f m = links_head k f fs m ms g in
    let how : l.repeats ≡ m.repeats = p.repeats ∙ sym q.repeats in
    let first = run_same l.repeats (Has l.relation) (Has m.relation) (λ x y r. (q.pairs x y).1 ((p.pairs x y).0 r)) a w.0 run w.1 in (
      w.0,
      subst (λ (r : Repeats). IsFactorRun r (Has m.relation) a run w.0) how first,
      walk_same k fs ls ms (links_tail k f fs l ls h) (links_tail k f fs m ms g) w.0 b runs
          w.2,
    )
