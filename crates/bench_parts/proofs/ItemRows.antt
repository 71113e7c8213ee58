-- Laws of the rows of items after an edit.
use Rattle.std.proofs.Common.{ℕ, zero, suc, ◌+◌, ◌<◌, ◌≤◌, ◌≡◌, ◌≢◌, inl, inr, List, [], ◌∷◌, length, map, Option, Some, None, option_map, refl, sym, ap, subst, ◌∙◌, ne_eqb, eq-eqb, eqb, true, add-zero, zero-add, arith}
use Rattle.std.specs.List.{AllZip, AllByRecursion as Each, range_with_len}
use Rattle.std.proofs.lemmas.Option.{none-some, slice_get_within}
use Rattle.text_values.specs.declared.model.Item.{Item}
use Rattle.binding_graph.specs.declared.resolved.ResolvedItem.{ResolvedItem}
use Rattle.std.proofs.lemmas.Bool.Decides.{eqb_tells}
use Rattle.memo_core.specs.declared.keys.Kind.{Kind}
use Rattle.bench_items.specs.declared.items.SharedItem.{SharedItem}
use Rattle.bench_items.specs.Items.{RoleContent, role_content}
use Rattle.bench_items.specs.Naming.{with_role_names}
use Rattle.bench_nodes.specs.declared.table.ItemRow.{ItemRow}
use Rattle.bench_nodes.specs.Nodes.{item_stamp}
use Rattle.bench_parts.specs.Built.{IsStamp, IsItemRow}
use Rattle.bench_parts.specs.Contents.{PartContent, role_part, item_content, part_history}
use Rattle.bench_parts.specs.Stamps.{IsLaterNumber, IsPartNow, next_number, raised, IsStampOf}
use Rattle.bench_parts.proofs.Stamping.{raised_low, part_now, stamp_now}
use Rattle.bench_parts.specs.Items.{ItemFact, fact_at, item_facts, fact_text, part_after, IsItemMade, AreItemsMade, raised_item}
use Rattle.bench_parts.specs.ItemLaws.{HasFactText, AreItemsAfter, AreFactsApart, HoldsRole, DoesWhatIsRead, AreItemsHeld}

-- ---- the rows before

all_low : (last : ℕ) (rows : List ItemRow) (roles : List (Option SharedItem))
    → AllZip (IsItemRow last) rows roles → (of : ℕ) → item_stamp rows of ≤ last
all_low last [] [] h of = omega arith
all_low last [] (r ∷ roles) h of = absurd h
all_low last (row ∷ rows) [] h of = absurd h
all_low last (row ∷ rows) (r ∷ roles) h of = elim (eqb_tells row.number of) [
  | inl same ↦ rw same.0 h.0.1
  | inr other ↦ rw other.0 (all_low last rows roles h.1 of)
]

-- ---- the rows after

module _ (last number : ℕ) (rows : List ItemRow) (roles : List (Option SharedItem))
    (later : IsLaterNumber last number) (texts : ℕ → Option PartContent)
    (was : AllZip (IsItemRow last) rows roles) where
  one_now : (f : ItemFact) (row : ItemRow) (role : Option SharedItem)
      → IsItemMade (next_number last) rows roles texts f row role
      → IsPartNow (texts f.number) (item_stamp rows f.number) number f.text
      (raised last number row.stamp)
  one_now f row role h =
      part_now last number (item_stamp rows f.number) row.stamp (texts f.number) f.text later
      (all_low last rows roles was f.number) h.stamp

  pub items_now : (facts : List ItemFact) (before : List ItemRow) (does : List (Option SharedItem))
      (kinds : List (Option Kind))
      → AreItemsMade (next_number last) rows roles texts facts before does kinds
      → (of : ℕ)
      → IsPartNow (texts of) (item_stamp rows of) number (fact_text facts of)
      (item_stamp (map (raised_item last number) before) of)
  items_now [] [] [] [] h of = inr (inr refl)
  items_now [] [] [] (k ∷ ks) h of = absurd h
  items_now [] [] (r ∷ rs) ks h of = absurd h
  items_now [] (i ∷ is) rs ks h of = absurd h
  items_now (f ∷ fs) [] rs ks h of = absurd h
  items_now (f ∷ fs) (i ∷ is) [] ks h of = absurd h
  items_now (f ∷ fs) (i ∷ is) (r ∷ rs) [] h of = absurd h
  items_now (f ∷ fs) (i ∷ is) (r ∷ rs) (k ∷ ks) h of = elim (eqb_tells i.number of) [
    | inl same ↦ (
        let own : f.number ≡ of = sym h.0.number_is ∙ same.1 in
        rw (same.0, eq-eqb f.number of own) (subst
        (λ (n : ℕ). IsPartNow (texts n) (item_stamp rows n) number f.text
        (raised last number i.stamp)) own
        (one_now f i r h.0)))
    | inr other ↦ rw (other.0, ne_eqb f.number of (λ e. other.1 (h.0.number_is ∙ e)))
        (items_now fs is rs ks h.2 of)
  ]

  one_kept : (fresh : ℕ) (before : Option PartContent) (was_stamp : ℕ) (now : Option PartContent)
      (stamp : ℕ) (c : PartContent) → IsStampOf fresh before was_stamp now stamp
      → before ≡ Some c → now ≡ Some c → stamp ≡ was_stamp
  one_kept fresh before was_stamp None stamp c h e f = absurd (let g : None ≡ Some c = f in cc)
  one_kept fresh before was_stamp (Some n) stamp c h e f = elim h [
    | inl same ↦ same.1
    | inr other ↦ absurd (other.0 (e ∙ sym f))
  ]

  pub items_kept : (facts : List ItemFact) (before : List ItemRow) (does : List (Option SharedItem))
      (kinds : List (Option Kind))
      → AreItemsMade (next_number last) rows roles texts facts before does kinds
      → (of : ℕ) (c : PartContent) → texts of ≡ Some c → fact_text facts of ≡ Some c
      → item_stamp (map (raised_item last number) before) of ≡ item_stamp rows of
  items_kept [] [] [] [] h of c e f = absurd (let g : None ≡ Some c = f in cc)
  items_kept [] [] [] (k ∷ ks) h of c e f = absurd h
  items_kept [] [] (r ∷ rs) ks h of c e f = absurd h
  items_kept [] (i ∷ is) rs ks h of c e f = absurd h
  items_kept (g ∷ fs) [] rs ks h of c e f = absurd h
  items_kept (g ∷ fs) (i ∷ is) [] ks h of c e f = absurd h
  items_kept (g ∷ fs) (i ∷ is) (r ∷ rs) [] h of c e f = absurd h
  items_kept (g ∷ fs) (i ∷ is) (r ∷ rs) (k ∷ ks) h of c e f = elim (eqb_tells i.number of) [
    | inl same ↦ here same.0 (sym h.0.number_is ∙ same.1)
    | inr other ↦ rw other.0 (items_kept fs is rs ks h.2 of c e (rw
        (ne_eqb g.number of (λ own. other.1 (h.0.number_is ∙ own))) at f))
  ]
    where
      here : eqb i.number of ≡ true → g.number ≡ of
          → item_stamp (map (raised_item last number) (i ∷ is)) of ≡ item_stamp rows of
      here same at =
          let now : g.text ≡ Some c = rw (eq-eqb g.number of at) at f in
          let before_so : texts g.number ≡ Some c = subst (λ (n : ℕ). texts n ≡ Some c) (sym at) e in
          let kept : i.stamp ≡ item_stamp rows g.number = one_kept (next_number last) (texts g.number) (item_stamp rows g.number) g.text i.stamp c h.0.stamp before_so now in
          rw same (ap (raised last number) kept
          ∙ (raised_low last number (item_stamp rows g.number)
          (all_low last rows roles was g.number) ∙ ap (item_stamp rows) at))

  -- a row that is there has the stamp of an edit
  stamp_there : (is : List ItemRow) (rs : List (Option SharedItem)) → AllZip (IsItemRow last) is rs
      → (of : ℕ) → (item_stamp is of ≡ 0 → ⊥) → IsStamp last (item_stamp is of)
  stamp_there [] [] h of none = absurd (none refl)
  stamp_there [] (r ∷ rs) h of none = absurd h
  stamp_there (i ∷ is) [] h of none = absurd h
  stamp_there (i ∷ is) (r ∷ rs) h of none = elim (eqb_tells i.number of) [
    | inl same ↦ rw same.0 h.0
    | inr other ↦ rw other.0 (stamp_there is rs h.1 of (rw other.0 at none))
  ]

  row_now : ((of : ℕ) → item_stamp rows of ≡ 0 → texts of ≡ None)
      → (f : ItemFact) (row : ItemRow) (role : Option SharedItem) → HasFactText f
      → IsItemMade (next_number last) rows roles texts f row role
      → IsItemRow number (raised_item last number row) role
  row_now gone f row role has h =
      stamp_now last number (item_stamp rows f.number) row.stamp (texts f.number) has.0 later
      (λ same. stamp_there rows roles was f.number
      (λ none. none-some has.0 (sym (gone f.number none) ∙ same)))
      (subst
      (λ (o : Option PartContent). IsStampOf (next_number last) (texts f.number)
      (item_stamp rows f.number) o row.stamp) has.1 h.stamp)

  pub rows_now : ((of : ℕ) → item_stamp rows of ≡ 0 → texts of ≡ None)
      → (facts : List ItemFact) (before : List ItemRow) (does : List (Option SharedItem))
      (kinds : List (Option Kind)) → Each HasFactText facts
      → AreItemsMade (next_number last) rows roles texts facts before does kinds
      → AllZip (IsItemRow number) (map (raised_item last number) before) does
  rows_now gone [] [] [] [] all h = tt
  rows_now gone [] [] [] (k ∷ ks) all h = absurd h
  rows_now gone [] [] (r ∷ rs) ks all h = absurd h
  rows_now gone [] (i ∷ is) rs ks all h = absurd h
  rows_now gone (f ∷ fs) [] rs ks all h = absurd h
  rows_now gone (f ∷ fs) (i ∷ is) [] ks all h = absurd h
  rows_now gone (f ∷ fs) (i ∷ is) (r ∷ rs) [] all h = absurd h
  rows_now gone (f ∷ fs) (i ∷ is) (r ∷ rs) (k ∷ ks) all h =
      (row_now gone f i r all.0 h.0, rows_now gone fs is rs ks all.1 h.2)

-- an item without a stamp is none of the facts
none_of : (last number fresh : ℕ) (rows : List ItemRow) (roles : List (Option SharedItem))
    (texts : ℕ → Option PartContent) (facts : List ItemFact) (before : List ItemRow)
    (does : List (Option SharedItem)) (kinds : List (Option Kind))
    → AreItemsMade fresh rows roles texts facts before does kinds
    → AllZip (IsItemRow number) (map (raised_item last number) before) does → (of : ℕ)
    → item_stamp (map (raised_item last number) before) of ≡ 0 → fact_text facts of ≡ None
none_of last number fresh rows roles texts [] before does kinds h now of e = refl
none_of last number fresh rows roles texts (f ∷ fs) [] rs ks h now of e = absurd h
none_of last number fresh rows roles texts (f ∷ fs) (i ∷ is) [] ks h now of e = absurd h
none_of last number fresh rows roles texts (f ∷ fs) (i ∷ is) (r ∷ rs) [] h now of e = absurd h
none_of last number fresh rows roles texts (f ∷ fs) (i ∷ is) (r ∷ rs) (k ∷ ks) h now of e =
    elim (eqb_tells i.number of) [
      | inl same ↦ absurd (let low = now.0.0 in
          let zero_is = rw same.0 at e in omega (arith, low, zero_is))
      | inr other ↦ rw (ne_eqb f.number of (λ own. other.1 (h.0.number_is ∙ own)))
          (none_of last number fresh rows roles texts fs is rs ks h.2 now.1 of (rw other.0 at e))
    ]

pub items_keep_stamps : (last number : ℕ) (rows new : List ItemRow)
    (roles does : List (Option SharedItem)) (texts : ℕ → Option PartContent)
    (kinds : List (Option Kind)) (facts : List ItemFact)
    → AreItemsAfter last number rows roles texts facts new does kinds
    → (of : ℕ) (held : PartContent) → texts of ≡ Some held → fact_text facts of ≡ Some held
    → item_stamp new of ≡ item_stamp rows of
items_keep_stamps last number rows new roles does texts kinds facts a of held was_so is_so =
    subst (λ (n : List ItemRow). item_stamp n of ≡ item_stamp rows of) (sym a.raised)
    (items_kept last number rows roles a.later texts a.was facts a.before does kinds a.made of
    held was_so is_so)

pub parts_go_on : (last number : ℕ) (rows new : List ItemRow)
    (roles does : List (Option SharedItem)) (texts : ℕ → Option PartContent)
    (kinds : List (Option Kind)) (facts : List ItemFact)
    → AreItemsAfter last number rows roles texts facts new does kinds
    → (of : ℕ)
    → IsPartNow (texts of) (item_stamp rows of) number (fact_text facts of) (item_stamp new of)
parts_go_on last number rows new roles does texts kinds facts a of =
    subst
    (λ (n : List ItemRow).
    IsPartNow (texts of) (item_stamp rows of) number (fact_text facts of) (item_stamp n of))
    (sym a.raised)
    (items_now last number rows roles a.later texts a.was facts a.before does kinds a.made of)

pub items_are_stamped : (last number : ℕ) (rows new : List ItemRow)
    (roles does : List (Option SharedItem)) (texts : ℕ → Option PartContent)
    (kinds : List (Option Kind)) (facts : List ItemFact)
    → AreItemsAfter last number rows roles texts facts new does kinds
    → AllZip (IsItemRow number) new does
items_are_stamped last number rows new roles does texts kinds facts a =
    subst (λ (n : List ItemRow). AllZip (IsItemRow number) n does) (sym a.raised)
    (rows_now last number rows roles a.later texts a.was a.gone facts a.before does kinds
    a.written a.made)

pub items_gone : (last number : ℕ) (rows new : List ItemRow) (roles does : List (Option SharedItem))
    (texts : ℕ → Option PartContent) (kinds : List (Option Kind)) (facts : List ItemFact)
    → AreItemsAfter last number rows roles texts facts new does kinds
    → (of : ℕ) → item_stamp new of ≡ 0 → fact_text facts of ≡ None
items_gone last number rows new roles does texts kinds facts a of e =
    none_of last number (next_number last) rows roles texts facts a.before does kinds a.made
    (rows_now last number rows roles a.later texts a.was a.gone facts a.before does kinds
    a.written a.made) of
    (sym (ap (λ (n : List ItemRow). item_stamp n of) a.raised) ∙ e)

-- ---- what items do

does_read : (fresh : ℕ) (rows : List ItemRow) (roles : List (Option SharedItem))
    (texts : ℕ → Option PartContent) (f : ItemFact) (row : ItemRow) (role : Option SharedItem)
    (c : RoleContent) → IsItemMade fresh rows roles texts f row role → f.role ≡ Some c
    → HoldsRole (role_part role) c
does_read fresh rows roles texts f row role c h e = (
  with_role_names (part_history (item_content rows roles f.number)) c,
  h.role_is
      ∙ ap (λ (o : Option RoleContent). part_after o (item_content rows roles f.number))
      e,
)

-- an item of another number stands in front
behind : (row : ItemRow) (role : Option SharedItem) (rows : List ItemRow)
    (roles : List (Option SharedItem)) (fs : List ItemFact)
    → Each (λ g. row.number ≢ g.number) fs → Each (DoesWhatIsRead rows roles) fs
    → Each (DoesWhatIsRead (row ∷ rows) (role ∷ roles)) fs
behind row role rows roles [] apart h = tt
behind row role rows roles (f ∷ fs) apart h = (
  (λ c e. rw (ne_eqb row.number f.number apart.0) (h.0 c e)),
  behind row role rows roles fs apart.1 h.1,
)

apart_by : (m n : ℕ) (fs : List ItemFact) → m ≡ n → Each (λ g. m ≢ g.number) fs
    → Each (λ g. n ≢ g.number) fs
apart_by m n fs e h = subst (λ (k : ℕ). Each (λ (g : ItemFact). k ≢ g.number) fs) e h

all_read : (last number fresh : ℕ) (rows : List ItemRow) (roles : List (Option SharedItem))
    (texts : ℕ → Option PartContent) (facts : List ItemFact) (before : List ItemRow)
    (does : List (Option SharedItem)) (kinds : List (Option Kind))
    → AreItemsMade fresh rows roles texts facts before does kinds
    → AreFactsApart facts → Each (DoesWhatIsRead (map (raised_item last number) before) does) facts
all_read last number fresh rows roles texts [] before does kinds h apart = tt
all_read last number fresh rows roles texts (f ∷ fs) [] rs ks h apart = absurd h
all_read last number fresh rows roles texts (f ∷ fs) (i ∷ is) [] ks h apart = absurd h
all_read last number fresh rows roles texts (f ∷ fs) (i ∷ is) (r ∷ rs) [] h apart = absurd h
all_read last number fresh rows roles texts (f ∷ fs) (i ∷ is) (r ∷ rs) (k ∷ ks) h apart = (
  (λ c e. rw (eq-eqb i.number f.number h.0.number_is)
      (does_read fresh rows roles texts f i r c h.0 e)),
  behind (raised_item last number i) r (map (raised_item last number) is) rs fs
      (apart_by f.number i.number fs (sym h.0.number_is) apart.0) (all_read last number fresh rows
      roles texts fs is rs ks h.2 apart.1),
)

pub items_do : (last number : ℕ) (rows new : List ItemRow) (roles does : List (Option SharedItem))
    (texts : ℕ → Option PartContent) (kinds : List (Option Kind)) (facts : List ItemFact)
    → AreItemsAfter last number rows roles texts facts new does kinds
    → AreFactsApart facts → Each (DoesWhatIsRead new does) facts
items_do last number rows new roles does texts kinds facts a apart =
    subst (λ (n : List ItemRow). Each (DoesWhatIsRead n does) facts) (sym a.raised)
    (all_read last number (next_number last) rows roles texts facts a.before does kinds a.made
    apart)

-- ---- the order of items

in_order : (last number fresh : ℕ) (rows : List ItemRow) (roles : List (Option SharedItem))
    (texts : ℕ → Option PartContent) (facts : List ItemFact) (before : List ItemRow)
    (does : List (Option SharedItem)) (kinds : List (Option Kind))
    → AreItemsMade fresh rows roles texts facts before does kinds
    → (map (λ r. r.number) (map (raised_item last number) before) ≡ map (λ f. f.number) facts)
    × (kinds ≡ map (λ f. f.kind) facts)
in_order last number fresh rows roles texts [] [] [] [] h = (refl, refl)
in_order last number fresh rows roles texts [] [] [] (k ∷ ks) h = absurd h
in_order last number fresh rows roles texts [] [] (r ∷ rs) ks h = absurd h
in_order last number fresh rows roles texts [] (i ∷ is) rs ks h = absurd h
in_order last number fresh rows roles texts (f ∷ fs) [] rs ks h = absurd h
in_order last number fresh rows roles texts (f ∷ fs) (i ∷ is) [] ks h = absurd h
in_order last number fresh rows roles texts (f ∷ fs) (i ∷ is) (r ∷ rs) [] h = absurd h
in_order last number fresh rows roles texts (f ∷ fs) (i ∷ is) (r ∷ rs) (k ∷ ks) h =
    let later = in_order last number fresh rows roles texts fs is rs ks h.2 in (
      ap (λ (n : ℕ). n ∷ map (λ (j : ItemRow). j.number) (map (raised_item last number) is))
          h.0.number_is ∙ ap (λ (ns : List ℕ). f.number ∷ ns) later.0,
      ap (λ (l : Option Kind). l ∷ ks) h.1 ∙ ap (λ (ls : List (Option Kind)). f.kind ∷ ls) later.1,
    )

pub items_in_order : (last number : ℕ) (rows new : List ItemRow)
    (roles does : List (Option SharedItem)) (texts : ℕ → Option PartContent)
    (kinds : List (Option Kind)) (facts : List ItemFact)
    → AreItemsAfter last number rows roles texts facts new does kinds
    → (map (λ r. r.number) new ≡ map (λ f. f.number) facts) × (kinds ≡ map (λ f. f.kind) facts)
items_in_order last number rows new roles does texts kinds facts a =
    let h = in_order last number (next_number last) rows roles texts facts a.before does kinds a.made in
    (ap (λ (l : List ItemRow). map (λ (r : ItemRow). r.number) l) a.raised ∙ h.0, h.1)

-- ---- the items of a model without fault

each_at : (P : ItemFact → Type 0) (fact : ℕ → ItemFact) (from count index : ℕ) → index < count
    → Each P (map fact (range_with_len from count)) → P (fact (from + index))
each_at P fact from zero index lt h = absurd (omega arith)
each_at P fact from (suc count) zero lt h = subst (λ (k : ℕ). P (fact k)) (sym (add-zero from)) h.0
each_at P fact from (suc count) (suc index) lt h =
    let e : (from + 1) + index ≡ from + suc index = omega arith in
    subst (λ (k : ℕ). P (fact k)) e (each_at P fact (from + 1) count index (omega (arith, lt)) h.1)

pub items_held : (rows : List ItemRow) (roles : List (Option SharedItem)) (numbers : List ℕ)
    (items : List Item) (resolved : List ResolvedItem) → length resolved ≤ length numbers
    → Each (DoesWhatIsRead rows roles) (item_facts numbers items (Some resolved))
    → AreItemsHeld rows roles numbers resolved
items_held rows roles numbers items resolved few h index r at =
    let lt : index < length resolved = slice_get_within resolved index r at in
    let does = each_at (DoesWhatIsRead rows roles) (fact_at numbers items (Some resolved)) 0 (length numbers) index (omega arith) h in
    subst (λ (k : ℕ). DoesWhatIsRead rows roles (fact_at numbers items (Some resolved) k))
    (zero-add index) does
    (role_content r.role) (ap (option_map (λ (q : ResolvedItem). role_content q.role)) at)
