-- States that are the same, wherever they lie in memory.
use Rattle.std.proofs.Common.{ℕ, ◌≡◌, Bool, if◌then◌else◌, List, [], ◌∷◌, map, Option, None, refl, ap, sym, subst, ◌∙◌}
use Rattle.std.proofs.Math.Path.{fun_ext}
use Rattle.std.specs.List.{AllZip, AllByRecursion as Each}
use Rattle.binding_graph.specs.declared.resolved.ResolvedItem.{ResolvedItem}
use Rattle.memo_core.specs.declared.keys.Kind.{Kind}
use Rattle.memo_core.specs.declared.keys.Kind.TheVariants.{Space, Group, Check, Verdict}
use Rattle.memo_core.specs.declared.keys.Key.{Key}
use Rattle.memo_core.specs.declared.keys.Key.TheVariants.{Part, Output}
use Rattle.memo_core.specs.declared.keys.Node.{Node}
use Rattle.memo_core.specs.Graph.{Net}
use Rattle.bench_values.specs.Givens.{GivenContent}
use Rattle.bench_items.specs.declared.items.SharedItem.{SharedItem}
use Rattle.bench_items.specs.Naming.{SeenName}
use Rattle.bench_nodes.specs.declared.table.ItemRow.{ItemRow}
use Rattle.bench_nodes.specs.Nodes.{part_stamp, used, node_inputs, inputs}
use Rattle.bench_slots.specs.Slots.{plain, number_at, item_history}
use Rattle.bench_slots.specs.Tables.{ModelReading, Sound, Faulty, all_slots}
use Rattle.bench_parts.specs.Built.{AreRolesKnown, IsModelIn, IsItemRow, IsModelRow, AreTestRows, IsBuilt}
use Rattle.bench_parts.specs.Contents.{PartContent, PartsState, histories, content}
use Rattle.bench_parts.specs.States.{contents, is_read, flag_name, flag_read, is_answer, flags_read, given_space, given_item, given_verdict, given_by, given_to_node, is_given, net_in, IsSamePartsState}

module _ (s t : PartsState) (same : IsSamePartsState s t) where
  pub content_is : (part of : ℕ) → content t part of ≡ content s part of
  content_is part of = cc

  pub stamp_is : (part of : ℕ) → part_stamp t.parts.table part of ≡ part_stamp s.parts.table part of
  stamp_is part of = cc

  used_is : used t.parts.table ≡ used s.parts.table
  used_is = cc

  inputs_by : (kind : Kind) (test of : ℕ)
      → node_inputs t.parts.table kind test of ≡ node_inputs s.parts.table kind test of
  inputs_by Space test of = cc
  inputs_by Group test of = cc
  inputs_by Check test of = cc
  inputs_by Verdict test of = cc

  inputs_are : (n : Node) → inputs t.parts.table n ≡ inputs s.parts.table n
  inputs_are n = inputs_by n.kind n.test n.of

  contents_are : (ks : List Key) → contents t ks ≡ contents s ks
  contents_are [] = refl
  contents_are (Part part of ∷ ks) =
      ap (λ (c : Option PartContent). c ∷ contents t ks) (content_is part of)
      ∙ ap (λ (cs : List (Option PartContent)). content s part of ∷ cs) (contents_are ks)
  contents_are (Output n x ∷ ks) = contents_are ks

  flag_is : (keys : List Key) (item : ℕ) → flag_read t keys item ≡ flag_read s keys item
  flag_is keys item =
      ap (λ (c : Option PartContent). if is_read keys item then flag_name c else None)
      (content_is 0 item)

  flags_are : (keys ks : List Key) → flags_read t keys ks ≡ flags_read s keys ks
  flags_are keys [] = refl
  flags_are keys (Part part of ∷ ks) = flags_are keys ks
  flags_are keys (Output n x ∷ ks) =
      ap
      (λ (o : Option (List ℕ)). if is_answer n.kind then o ∷ flags_read t keys ks
      else flags_read t keys ks)
      (flag_is keys n.of)
      ∙ ap
      (λ (l : List (Option (List ℕ))). if is_answer n.kind then flag_read s keys n.of ∷ l
      else l)
      (flags_are keys ks)

  given_from : (kind : Kind) (ks : List Key) → given_by t kind ks ≡ given_by s kind ks
  given_from Space ks = ap given_space (contents_are ks)
  given_from Group ks = ap given_item (contents_are ks)
  given_from Check ks = ap given_item (contents_are ks)
  given_from Verdict ks =
      ap (λ (cs : List (Option PartContent)). given_verdict cs (flags_read t ks ks))
      (contents_are ks) ∙ ap (given_verdict (contents s ks)) (flags_are ks ks)

  given_is : (n : Node) → given_to_node t n ≡ given_to_node s n
  given_is n = given_from n.kind (inputs t.parts.table n) ∙ ap (given_by s n.kind) (inputs_are n)

  pub net_is : net_in t ≡ net_in s
  net_is =
      let stamps : part_stamp t.parts.table ≡ part_stamp s.parts.table = fun_ext (λ part. fun_ext (λ of. stamp_is part of)) in
      let keys : inputs t.parts.table ≡ inputs s.parts.table = fun_ext inputs_are in
      let gives_t : Node → GivenContent → Bool = λ n g. is_given (given_to_node t n) g in
      let gives_s : Node → GivenContent → Bool = λ n g. is_given (given_to_node s n) g in
      let gives : gives_t ≡ gives_s = fun_ext (λ n. fun_ext (λ g. ap (λ (o : Option GivenContent). is_given o g) (given_is n))) in
      ap
      (λ (p : ℕ → ℕ → ℕ).
      let m : Net GivenContent =
      record {
        part = p;
        inputs = inputs t.parts.table;
        used = used t.parts.table;
        gives = gives_t;
      } in
      m) stamps
      ∙ ap
      (λ (k : Node → List Key).
      let m : Net GivenContent =
      record {
        part = part_stamp s.parts.table;
        inputs = k;
        used = used t.parts.table;
        gives = gives_t;
      } in
      m) keys
      ∙ ap
      (λ (u : List Node).
      let m : Net GivenContent =
      record {
        part = part_stamp s.parts.table;
        inputs = inputs s.parts.table;
        used = u;
        gives = gives_t;
      } in
      m) used_is
      ∙ ap
      (λ (f : Node → GivenContent → Bool).
      let m : Net GivenContent =
      record {
        part = part_stamp s.parts.table;
        inputs = inputs s.parts.table;
        used = used s.parts.table;
        gives = f;
      } in
      m) gives

  -- ---- the same holds of both

  held_is : (numbers : List ℕ) (items : List ResolvedItem) → AreRolesKnown s numbers items
      → AreRolesKnown t numbers items
  held_is numbers items h =
      λ index r e. ((h index r e).0, content_is 0 (number_at numbers index) ∙ (h index r e).1)

  model_is : (m : ModelReading) → IsModelIn s m → IsModelIn t m
  model_is (Sound id numbers items used) h = (h.0, held_is numbers items h.1)
  model_is (Faulty id fault) h = content_is 1 id ∙ h

  models_are : (ms : List ModelReading) → Each (IsModelIn s) ms → Each (IsModelIn t) ms
  models_are [] h = tt
  models_are (m ∷ ms) h = (model_is m h.0, models_are ms h.1)

  pub histories_are : histories t ≡ histories s
  histories_are =
      ap (λ (rows : List ItemRow). item_history rows t.parts.roles.items) same.item_rows
      ∙ ap (λ (roles : List (Option SharedItem)). item_history s.parts.table.items.items roles)
      same.roles

  pub built_is : (models : List ModelReading) → IsBuilt s models → IsBuilt t models
  built_is models built = record {
    slots =
        ap (map plain) same.slots ∙ built.slots
        ∙ ap (λ (hs : ℕ → List SeenName). all_slots hs models) (sym histories_are);
    models_in = models_are models built.models_in;
    items =
        subst (λ l. AllZip (IsItemRow l) t.parts.table.items.items t.parts.roles.items)
        (sym same.last) (subst (λ rows. AllZip (IsItemRow s.parts.last) rows t.parts.roles.items)
        (sym same.item_rows) (subst
        (λ roles. AllZip (IsItemRow s.parts.last) s.parts.table.items.items roles)
        (sym same.roles) built.items));
    faults =
        subst (λ l. AllZip (IsModelRow l) t.parts.table.models.items t.parts.faults.items)
        (sym same.last) (subst (λ rows. AllZip (IsModelRow s.parts.last) rows t.parts.faults.items)
        (sym same.model_rows) (subst
        (λ faults. AllZip (IsModelRow s.parts.last) s.parts.table.models.items faults)
        (sym same.faults) built.faults));
    tests =
        subst (λ l. AreTestRows l t.parts.table.tests.items t.tests t.parts.locations.items)
        (sym same.last) (subst
        (λ rows. AreTestRows s.parts.last rows t.tests t.parts.locations.items)
        (sym same.test_rows) (subst
        (λ tests. AreTestRows s.parts.last s.parts.table.tests.items tests
        t.parts.locations.items)
        (sym same.tests)
        (subst (λ ls. AreTestRows s.parts.last s.parts.table.tests.items s.tests ls)
        (sym same.locations) built.tests)));
  }
