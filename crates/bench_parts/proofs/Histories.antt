-- What an item does goes on with its history.
use Rattle.std.proofs.Common.{ℕ, ◌≡◌, inl, inr, List, [], ◌∷◌, map, Option, Some, None, refl, sym, ap, subst, ◌∙◌}
use Rattle.std.proofs.lemmas.Bool.Decides.{eqb_tells}
use Rattle.std.proofs.lemmas.List.{append-nil}
use Rattle.std.proofs.lemmas.Option.{none-some}
use Rattle.memo_core.specs.declared.keys.Kind.{Kind}
use Rattle.bench_items.specs.declared.items.SharedItem.{SharedItem}
use Rattle.bench_items.specs.Items.{RoleContent, shared_role, shared_history, held_history}
use Rattle.bench_items.specs.Naming.{SeenName, AreInHistory, with_role_names}
use Rattle.bench_items.proofs.Naming.{all_named, grown_begins, grown_stays}
use Rattle.bench_nodes.specs.declared.table.ItemRow.{ItemRow}
use Rattle.bench_parts.specs.Contents.{PartContent, OfRole, role_part, item_content, part_history}
use Rattle.bench_parts.specs.Stamps.{next_number}
use Rattle.bench_parts.specs.Items.{ItemFact, part_after, AreItemsMade, raised_item}
use Rattle.bench_parts.specs.ItemLaws.{AreItemsAfter, GoesOn}

-- ---- what items do

pub same_role : {a b : RoleContent} {h g : List SeenName} → Some (OfRole a h) ≡ Some (OfRole b g)
    → a ≡ b
same_role e = cc

pub same_history : {a b : RoleContent} {h g : List SeenName} → Some (OfRole a h) ≡ Some (OfRole b g)
    → h ≡ g
same_history e = cc

-- the names of what an item does are in its history
part_named : (item : Option SharedItem) (role : RoleContent) (history : List SeenName)
    → role_part item ≡ Some (OfRole role history) → AreInHistory history role
part_named None role history e = absurd (none-some (OfRole role history) e)
part_named (Some s) role history e =
    let named = all_named (shared_history s) (shared_history s) (shared_role s) (sym s.named) in
    subst (λ (h : List SeenName). AreInHistory h role) (same_history e) (subst
    (λ (r : RoleContent). AreInHistory (shared_history s) r) (same_role e) named)

pub content_named : (rows : List ItemRow) (items : List (Option SharedItem)) (of : ℕ)
    (role : RoleContent) (history : List SeenName)
    → item_content rows items of ≡ Some (OfRole role history) → AreInHistory history role
content_named [] items of role history e = absurd (none-some (OfRole role history) e)
content_named (i ∷ is) [] of role history e = absurd (none-some (OfRole role history) e)
content_named (i ∷ is) (s ∷ ss) of role history e = elim (eqb_tells i.number of) [
  | inl same ↦ part_named s role history (rw same.0 at e)
  | inr other ↦ content_named is ss of role history (rw other.0 at e)
]

history_held : (before : Option SharedItem) → held_history before ≡ part_history (role_part before)
history_held None = refl
history_held (Some b) = refl

-- an item that is made of what is read of it, over what it was
pub new_held : (s : SharedItem) (before : Option SharedItem) (role : RoleContent)
    (read : Option RoleContent) → shared_role s ≡ role
    → shared_history s ≡ with_role_names (held_history before) role → read ≡ Some role
    → role_part (Some s) ≡ part_after read (role_part before)
new_held s before role read does named is =
    ap (λ (r : RoleContent). Some (OfRole r (shared_history s))) does
    ∙ ap (λ (h : List SeenName). Some (OfRole role h)) (named
    ∙ ap (λ (h : List SeenName). with_role_names h role) (history_held before))
    ∙ sym (ap (λ (o : Option RoleContent). part_after o (role_part before)) is)

-- ---- what they do after an edit

abbrev AllNamed : Option PartContent → Type 0
AllNamed before =
    (role : RoleContent) (history : List SeenName) → before ≡ Some (OfRole role history)
    → AreInHistory history role

none_goes_on : (before now : Option PartContent) → now ≡ None → GoesOn before now
none_goes_on before now e = record {
  grows = λ role other history names was is. absurd (none-some (OfRole other names) (sym e ∙ is));
  same = λ role history names was is. absurd (none-some (OfRole role names) (sym e ∙ is));
}

held_goes_on : (before now : Option PartContent) → now ≡ before → GoesOn before now
held_goes_on before now e = record {
  grows =
      λ role other history names was is.
      ([], sym (same_history (sym was ∙ sym e ∙ is)) ∙ sym (append-nil history));
  same = λ role history names was is. sym (same_history (sym was ∙ sym e ∙ is));
}

read_goes_on : (read : RoleContent) (before now : Option PartContent) → AllNamed before
    → now ≡ Some (OfRole read (with_role_names (part_history before) read)) → GoesOn before now
read_goes_on read before now named e = record {
  grows = λ role other history names was is.
      (let begins = grown_begins history read in
      let now_is : with_role_names (part_history before) read ≡ names = same_history (sym e ∙ is) in (
        begins.0,
        sym now_is ∙ ap (λ (h : List SeenName). with_role_names h read) (ap part_history was)
            ∙ begins.1,
      ));
  same = λ role history names was is.
      (let now_is : with_role_names (part_history before) read ≡ names =
      same_history (sym e ∙ is) in
      let does : read ≡ role = same_role (sym e ∙ is) in
      sym now_is ∙ ap (λ (h : List SeenName). with_role_names h read) (ap part_history was)
      ∙ ap (with_role_names history) does ∙ grown_stays history role (named role history was));
}

goes_on : (read : Option RoleContent) (before now : Option PartContent) → AllNamed before
    → now ≡ part_after read before → GoesOn before now
goes_on None before now named e = held_goes_on before now e
goes_on (Some read) before now named e = read_goes_on read before now named e

-- ---- the rows after an edit

items_go_on : (last number fresh : ℕ) (rows : List ItemRow) (items : List (Option SharedItem))
    (texts : ℕ → Option PartContent) (facts : List ItemFact) (before : List ItemRow)
    (does : List (Option SharedItem)) (kinds : List (Option Kind))
    → AreItemsMade fresh rows items texts facts before does kinds
    → (of : ℕ)
    → GoesOn (item_content rows items of) (item_content (map (raised_item last number) before)
    does of)
items_go_on last number fresh rows items texts [] [] [] [] h of =
    none_goes_on (item_content rows items of) None refl
items_go_on last number fresh rows items texts [] [] [] (k ∷ ks) h of = absurd h
items_go_on last number fresh rows items texts [] [] (r ∷ rs) ks h of = absurd h
items_go_on last number fresh rows items texts [] (i ∷ is) rs ks h of = absurd h
items_go_on last number fresh rows items texts (f ∷ fs) [] rs ks h of = absurd h
items_go_on last number fresh rows items texts (f ∷ fs) (i ∷ is) [] ks h of = absurd h
items_go_on last number fresh rows items texts (f ∷ fs) (i ∷ is) (r ∷ rs) [] h of = absurd h
items_go_on last number fresh rows items texts (f ∷ fs) (i ∷ is) (r ∷ rs) (k ∷ ks) h of =
    elim (eqb_tells i.number of) [
      | inl same ↦ rw same.0 (subst (λ (n : ℕ). GoesOn (item_content rows items n) (role_part r))
          (sym h.0.number_is ∙ same.1)
          (goes_on f.role (item_content rows items f.number) (role_part r)
          (content_named rows items f.number) h.0.role_is))
      | inr other ↦ rw other.0 (items_go_on last number fresh rows items texts fs is rs ks h.2 of)
    ]

pub histories_go_on : (last number : ℕ) (rows new : List ItemRow)
    (items does : List (Option SharedItem)) (texts : ℕ → Option PartContent)
    (kinds : List (Option Kind)) (facts : List ItemFact)
    → AreItemsAfter last number rows items texts facts new does kinds
    → (of : ℕ) → GoesOn (item_content rows items of) (item_content new does of)
histories_go_on last number rows new items does texts kinds facts a of =
    subst (λ (n : List ItemRow). GoesOn (item_content rows items of) (item_content n does of))
    (sym a.raised) (items_go_on last number (next_number last) rows items texts facts a.before
    does kinds a.made of)
