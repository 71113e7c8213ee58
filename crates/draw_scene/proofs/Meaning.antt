-- What each line is, and where the boxes stand.
use Rattle.std.proofs.Common.{◌≡◌, ◌∙◌, ◌⊎◌, ℕ, zero, suc, ◌+◌, ◌-◌, ◌<◌, ◌≤◌, Bool, true, false, inl, inr, List, [], ◌∷◌, ◌++◌, length, refl, sym, ap, subst, arith}
use Rattle.std.specs.Prelude.{◌==◌, ◌&&◌, Option, Some, None, slice_get, nat_lt}
use Rattle.std.specs.List.{Contains, flat_map, list_any}
use Rattle.std.proofs.lemmas.Bool.{and_parts, cond_both, eqb-true}
use Rattle.std.proofs.lemmas.List.Elements.{Contains-append_cases, Contains-append_right, Contains-push_cases}
use Rattle.std.proofs.lemmas.Option.{same_Some}
use Rattle.draw_graph.specs.declared.drawing.Cluster.{Cluster}
use Rattle.draw_graph.specs.declared.drawing.Drawing.{Drawing}
use Rattle.draw_graph.specs.declared.drawing.Edges.{Edges}
use Rattle.draw_graph.specs.declared.drawing.Ink.{Ink}
use Rattle.draw_layout.specs.declared.picture.Ink as line_ink
use Rattle.draw_layout.specs.declared.picture.Ink.TheVariants as line_inks
use Rattle.draw_layout.specs.declared.picture.Position.{Position}
use Rattle.draw_scene.specs.declared.links.Link.{Link}
use Rattle.draw_scene.specs.Laws.{IsBoxIn, IsDrawnLine, IsLineOfPair, IsLineOfStep, IsEventOfNumber, LeadsFromTo}
use Rattle.draw_scene.specs.Lines.{Seen, above, below, edge_by, edge_line, edge_lines, goes_by, index_of, is_edge, is_link_by, joining_lines, label_of, line_between, line_ink_of, drawing_lines, links_of, or_else, place_in, place_of, position, step_line}
use Rattle.why_text.specs.declared.event.ToldEvent.{ToldEvent}

-- ---- lists

none_in : {X : Type 0} (x : X) → Contains [] x → ⊥
none_in x h = absurd (omega (arith, h.1))

one_in : {X : Type 0} (a x : X) → Contains (a ∷ []) x → a ≡ x
one_in a x h = elim (Contains-push_cases [] a x h) [
  | inl absent ↦ absurd (none_in x absent)
  | inr is ↦ is
]

in_flat : {X Y : Type 0} (f : X → List Y) (xs : List X) (y : Y) → Contains (flat_map f xs) y
    → (x : X) × Contains xs x × Contains (f x) y
in_flat f [] y h = absurd (none_in y h)
in_flat f (x ∷ xs) y h = elim (Contains-append_cases (f x) (flat_map f xs) y h) [
  | inl here ↦ (x, (0, omega arith, refl), here)
  | inr later ↦
      let (z, inside, has) = in_flat f xs y later in
      (z, Contains-append_right (x ∷ []) xs z inside, has)
]

-- ---- lines

pub record IsJoined (a b : Option Position) (name : List ℕ) (thick : Bool) (l : Seen) : Type 0 where
  pub from : a ≡ Some l.from
  pub to : b ≡ Some l.to
  pub named : l.name ≡ name
  pub kind : l.is_thick ≡ thick

joined_is : (a b : Option Position) (name : List ℕ) (ink : line_ink.Ink) (thick : Bool) (l : Seen)
    → Contains (joining_lines a b name ink thick) l → IsJoined a b name thick l
joined_is None b name ink thick l h = absurd (none_in l h)
joined_is (Some f) None name ink thick l h = absurd (none_in l h)
joined_is (Some f) (Some t) name ink thick l h =
    cond_both ((f.row == 0) && (t.row == 0)) _ _
    (λ ls. Contains ls l → IsJoined (Some f) (Some t) name thick l)
    (λ both none. absurd (none_in l none))
    (λ apart one.
    let is = one_in _ l one in
    record {
      from = ap (λ (s : Seen). Some s.from) is;
      to = ap (λ (s : Seen). Some s.to) is;
      named = sym (ap (λ (s : Seen). s.name) is);
      kind = sym (ap (λ (s : Seen). s.is_thick) is);
    }) h

between_is : (d : Drawing) (a b : ℕ) (name : List ℕ) (ink : line_ink.Ink) (thick : Bool) (l : Seen)
    → Contains (line_between d a b name ink thick) l
    → IsJoined (place_of d a) (place_of d b) name thick l
unfolding line_between
between_is d a b name ink thick l h = joined_is (place_of d a) (place_of d b) name ink thick l h

-- the step whose label it is
label_found : (links : List Link) (name : List ℕ) (ink : Ink) (p : ℕ × ℕ) (label : List ℕ)
    → label_of links name ink p ≡ Some label
    → (link : Link) × Contains links link × (link.from ≡ p.0) × (link.to ≡ p.1)
    × (link.label ≡ label)
label_found [] name ink p label is = absurd cc
label_found (link ∷ links) name ink p label is =
    cond_both (is_link_by name ink p link) _ _
    (λ (found : Option (List ℕ)). found ≡ Some label
    → (other : Link) × Contains (link ∷ links) other × (other.from ≡ p.0) × (other.to ≡ p.1)
    × (other.label ≡ label))
    (λ goes here.
    let parts = and_parts _ _ goes in
    let ends = and_parts _ _ parts.0 in (
      link,
      (0, omega arith, refl),
      eqb-true link.from p.0 ends.0,
      eqb-true link.to p.1 ends.1,
      same_Some _ _ here,
    ))
    (λ other later.
    let (found, inside, from, to, same) = label_found links name ink p label later in
    (found, Contains-append_right (link ∷ []) links found inside, from, to, same)) is

line_by : (d : Drawing) (links : List Link) (e : Edges) (p : ℕ × ℕ) (l : Seen)
    (label : Option (List ℕ)) → label_of links e.name.items e.ink p ≡ label
    → links ≡ links_of d.first d.steps.items → Contains d.edges.items e → Contains e.pairs.items p
    → Contains (edge_by label d e.name.items e.ink p) l → IsDrawnLine l.is_thick d l
line_by d links e p l None is all relation related h =
    let found = between_is d p.0 p.1 e.name.items (line_ink_of e.ink) false l h in
    subst (λ (b : Bool). IsDrawnLine b d l) (sym found.kind) record {
      edges = e;
      relation = relation;
      pair = p;
      related = related;
      leads = (found.from, found.to);
      name = found.named;
    }
line_by d links e p l (Some label) is all relation related h =
    let found = between_is d p.0 p.1 label (line_ink_of e.ink) true l h in
    let (link, inside, from, to, same) = label_found links e.name.items e.ink p label is in
    subst (λ (b : Bool). IsDrawnLine b d l) (sym found.kind) record {
      link = link;
      step = subst (λ (ls : List Link). Contains ls link) all inside;
      leads = (ap (place_of d) from ∙ found.from, ap (place_of d) to ∙ found.to);
      name = found.named ∙ sym same;
    }

line_of_step : (d : Drawing) (link : Link) (l : Seen) → Contains (links_of d.first d.steps.items) link
    → Contains (step_line d link) l → IsDrawnLine l.is_thick d l
line_of_step d link l inside h =
    cond_both (list_any (is_edge link) d.edges.items) _ _
    (λ ls. Contains ls l → IsDrawnLine l.is_thick d l) (λ edge none. absurd (none_in l none))
    (λ own one.
    let found = between_is d link.from link.to link.label line_inks.Step true l one in
    subst (λ (b : Bool). IsDrawnLine b d l) (sym found.kind) record {
      link = link;
      step = inside;
      leads = (found.from, found.to);
      name = found.named;
    }) h

pub each_line_is : (d : Drawing) (l : Seen) → Contains (drawing_lines d) l → IsDrawnLine l.is_thick d l
each_line_is d l h =
    let links = links_of d.first d.steps.items in
    elim (Contains-append_cases (flat_map (edge_lines d links) d.edges.items)
    (flat_map (step_line d) links) l h) [
      | inl edge ↦
          let (e, relation, in_edges) = in_flat (edge_lines d links) d.edges.items l edge in
          let (p, related, in_pair) = in_flat (edge_line d links e.name.items e.ink) e.pairs.items l in_edges in
          line_by d links e p l (label_of links e.name.items e.ink p) refl refl relation related in_pair
      | inr step ↦
          let (link, inside, in_step) = in_flat (step_line d) links l step in
          line_of_step d link l inside in_step
    ]

-- ---- boxes

-- counted from the index of the first
index_is : (n index : ℕ) (events : List ToldEvent) (j : ℕ) → index_of n index events ≡ Some j
    → (index ≤ j) × IsEventOfNumber n (slice_get events (j - index))
index_is n index [] j is = absurd cc
index_is n index (e ∷ events) j is =
    cond_both (e.number == n) _ _
    (λ (found : Option ℕ). found ≡ Some j
    → (index ≤ j) × IsEventOfNumber n (slice_get (e ∷ events) (j - index)))
    (λ same here.
    let at : index ≡ j = same_Some _ _ here in
    let zeroth : 0 ≡ j - index = omega (arith, at) in (
      omega (arith, at),
      subst (λ k. IsEventOfNumber n (slice_get (e ∷ events) k)) zeroth (e, refl, eqb-true e.number n same),
    ))
    (λ other later.
    let (le, has) = index_is n (index + 1) events j later in
    let next : suc (j - (index + 1)) ≡ j - index = omega (arith, le) in (
      omega (arith, le),
      subst (λ k. IsEventOfNumber n (slice_get (e ∷ events) k)) next has,
    )) is

position_is : (column row : ℕ) (p : Position) → position column row ≡ Some p
    → (p.column ≡ column) × (p.row ≡ row)
position_is column row p is =
    cond_both (nat_lt column 255 && nat_lt row 255) _ _
    (λ (found : Option Position). found ≡ Some p → (p.column ≡ column) × (p.row ≡ row))
    (λ fits here.
    let same = same_Some _ _ here in
    (sym (ap (λ (q : Position). q.column) same), sym (ap (λ (q : Position). q.row) same)))
    (λ large none. absurd cc) is

above_is : (d : Drawing) (n : ℕ) (found : Option ℕ) (p : Position)
    → index_of n 0 d.initial.items ≡ found → above found ≡ Some p → IsBoxIn d n p.column p.row
above_is d n None p index is = absurd cc
above_is d n (Some k) p index is =
    let (column, row) = position_is k 0 p is in
    let has = (index_is n 0 d.initial.items k index).1 in
    let whole : k - 0 ≡ k = omega arith in
    let here : IsBoxIn d n k 0 = subst (λ (j : ℕ). IsEventOfNumber n (slice_get d.initial.items j)) whole has in
    subst (λ (c : ℕ). IsBoxIn d n c p.row) (sym column)
    (subst (λ (r : ℕ). IsBoxIn d n k r) (sym row) here)

-- the first of these clusters is that of thread t
pub record AreFrom (d : Drawing) (t : ℕ) (clusters : List Cluster) : Type 0 where
  pub at : (k : ℕ) → slice_get clusters k ≡ slice_get d.clusters.items (t + k)

below_is : (d : Drawing) (n t : ℕ) (c : Cluster) (found : Option ℕ) (p : Position)
    → slice_get d.clusters.items t ≡ Some c → index_of n 0 c.events.items ≡ found
    → below t found ≡ Some p → IsBoxIn d n p.column p.row
below_is d n t c None p at index is = absurd cc
below_is d n t c (Some r) p at index is =
    let (column, row) = position_is t (r + 1) p is in
    let has = (index_is n 0 c.events.items r index).1 in
    let whole : r - 0 ≡ r = omega arith in
    let numbered = subst (λ (j : ℕ). IsEventOfNumber n (slice_get c.events.items j)) whole has in
    let one : r + 1 ≡ suc r = omega arith in
    let here : IsBoxIn d n t (suc r) = (c, at, numbered) in
    subst (λ (k : ℕ). IsBoxIn d n k p.row) (sym column)
    (subst (λ (k : ℕ). IsBoxIn d n t k) (sym (row ∙ one)) here)

or_else_is : (first second : Option Position) (p : Position) → or_else first second ≡ Some p
    → (first ≡ Some p) ⊎ (second ≡ Some p)
or_else_is None second p is = inr is
or_else_is (Some q) second p is = inl is

in_clusters : (d : Drawing) (n t : ℕ) (clusters : List Cluster) (p : Position)
    → AreFrom d t clusters → place_in n t clusters ≡ Some p → IsBoxIn d n p.column p.row
in_clusters d n t [] p from is = absurd cc
in_clusters d n t (c ∷ clusters) p from is =
    let zeroth : t + 0 ≡ t = omega arith in
    let at : slice_get d.clusters.items t ≡ Some c = ap (λ k. slice_get d.clusters.items k) (sym zeroth) ∙ sym (from.at 0) in
    elim (or_else_is (below t (index_of n 0 c.events.items)) (place_in n (t + 1) clusters) p is) [
      | inl here ↦ below_is d n t c (index_of n 0 c.events.items) p at refl here
      | inr later ↦ in_clusters d n (t + 1) clusters p record {
        at = λ k.
            let next : t + suc k ≡ (t + 1) + k = omega arith in
            from.at (suc k) ∙ ap (λ j. slice_get d.clusters.items j) next;
      } later
    ]

pub place_is : (d : Drawing) (n : ℕ) (p : Position) → place_of d n ≡ Some p
    → IsBoxIn d n p.column p.row
unfolding place_of
place_is d n p is =
    elim (or_else_is (above (index_of n 0 d.initial.items)) (place_in n 0 d.clusters.items) p is) [
      | inl store ↦ above_is d n (index_of n 0 d.initial.items) p refl store
      | inr event ↦
          in_clusters d n 0 d.clusters.items p record {
            at = λ k.
                let same : k ≡ 0 + k = omega arith in
                ap (λ j. slice_get d.clusters.items j) same;
          } event
    ]
