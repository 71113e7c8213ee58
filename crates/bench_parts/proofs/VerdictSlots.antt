-- What the job of a verdict is given stays as long as its keys and their parts do.
use Rattle.std.proofs.Common.{ℕ, zero, suc, ◌≡◌, ◌==◌, ◌&&◌, ◌⊎◌, inl, inr, Bool, true, false, List, [], ◌∷◌, ◌++◌, Option, Some, None, slice_get, if◌then◌else◌, refl, sym, ap, subst, ◌∙◌, eqb-true, arith}
use Rattle.std.specs.Prelude.{option_and_then}
use Rattle.std.specs.List.{AllByRecursion as Each}
use Rattle.std.proofs.lemmas.Bool.{cases_Bool}
use Rattle.std.proofs.lemmas.Option.{none-some, same_Some, get_or_from_slice_get}
use Rattle.text_values.specs.declared.model.Item.{Item}
use Rattle.text_values.specs.declared.model.Item.TheVariants as items
use Rattle.predefined_names.specs.declared.predefined.TheConstants.{PREDEFINED}
use Rattle.text_values.specs.declared.test.Quantifier.{Quantifier}
use Rattle.text_values.specs.TestValue.{Formula}
use Rattle.text_values.specs.ModelValue.{Clause, Binding, Function, Checking, Flagging, Showing, Including}
use Rattle.text_values.specs.ModelValues.{clause_of}
use Rattle.memo_core.specs.declared.keys.Kind.TheVariants as kinds
use Rattle.memo_core.specs.declared.keys.Key.{Key}
use Rattle.memo_core.specs.declared.keys.Key.TheVariants.{Part, Output}
use Rattle.memo_core.specs.Right.{IsSamePart}
use Rattle.memo_core.specs.Step.{Has}
use Rattle.binding_graph.specs.declared.resolved.ResolvedItem.{ResolvedItem}
use Rattle.binding_graph.specs.declared.resolved.Role.{Role}
use Rattle.binding_graph.specs.declared.resolved.Role.TheVariants as roles
use Rattle.binding_graph.specs.Resolved.{IsLabelled, IsLabelledAs, AreLabelledAs}
use Rattle.binding_laws.specs.Reread as reread
use Rattle.binding_laws.specs.Reread.{outer_namings}
use Rattle.binding_laws.proofs.Seen.{beside}
use Rattle.bench_nodes.specs.declared.table.SlotKey.{SlotKey}
use Rattle.bench_nodes.specs.declared.table.SlotKey.TheVariants as slots
use Rattle.bench_nodes.specs.Nodes.{part_stamp, keys_at}
use Rattle.bench_items.specs.Items.{role_content}
use Rattle.bench_items.specs.Naming.{SeenName}
use Rattle.bench_slots.specs.Kinds.{node_kind}
use Rattle.bench_slots.specs.Slots.{number_at, space_key, flag_key, answer_key, key_by, keys_by, verdict_keys}
use Rattle.bench_slots.proofs.Lists.{each_append, each_has}
use Rattle.bench_parts.specs.Built.{AreRolesKnown}
use Rattle.bench_parts.specs.Contents.{PartContent, OfText, OfRole, OfFault, OfCondition, OfObserved, OfLocations, OfInit, OfThread, content}
use Rattle.bench_parts.specs.ItemLaws.{role_kind}
use Rattle.bench_parts.specs.States.{contents, is_read, flag_name, flag_read, is_answer, flags_read, verdict_given, given_verdict, net_in}
use Rattle.bench_parts.specs.Written.{WrittenModel, WrittenState, read_model, IsWholeState, IsStateSince, item_text}
use Rattle.bench_parts.proofs.Equality.{first_of, second_of}
use Rattle.bench_parts.proofs.ItemKinds.{kinds_of_roles}
use Rattle.bench_parts.proofs.ItemSlots.{IsOfSound, IsOfFaulty}
use Rattle.bench_parts.proofs.Saying.{text_known}

-- ---- flags by their texts

abbrev flag_by : Clause → Option (List ℕ)
flag_by (Binding recursive group) = None
flag_by (Function name parameters body) = None
flag_by (Checking check label) = None
flag_by (Flagging check label) = Some label
flag_by (Showing hidden shown) = None
flag_by (Including path) = None

labelled_flag : (negated : Bool) (flag : Option (List ℕ)) (role : Role) (h : List SeenName)
    → IsLabelled negated flag role → flag_name (Some (OfRole (role_content role) h)) ≡ flag
labelled_flag negated flag (roles.Group recursive bodies) h is = absurd is
labelled_flag negated flag (roles.Check c) h is = is.1
labelled_flag negated flag roles.Silent h is = absurd is

other_kind : {P : Type 0} → Some kinds.Group ≡ Some kinds.Check → P
other_kind e = absurd cc

flag_told : (x : Item) (r : ResolvedItem) (h : List SeenName) → IsLabelledAs x r
    → node_kind (clause_of x) ≡ Some kinds.Check
    → flag_name (Some (OfRole (role_content r.role) h)) ≡ flag_by (clause_of x)
flag_told (items.Let recursive group) r h is kind = other_kind kind
flag_told (items.Function name parameters body) r h is kind = absurd (none-some kinds.Check kind)
flag_told (items.Check c l) r h is kind = labelled_flag c.negated None r.role h is
flag_told (items.Flag c l) r h is kind = labelled_flag c.negated (Some l) r.role h is
flag_told (items.Show hidden shown) r h is kind = absurd (none-some kinds.Check kind)
flag_told (items.Include path) r h is kind = absurd (none-some kinds.Check kind)

labelled_at : (xs : List Item) (rs : List ResolvedItem) (k : ℕ) (x : Item) (r : ResolvedItem)
    → AreLabelledAs xs rs → slice_get xs k ≡ Some x → slice_get rs k ≡ Some r → IsLabelledAs x r
labelled_at [] rs k x r h text at = absurd (none-some x text)
labelled_at (y ∷ ys) [] k x r h text at = absurd h
labelled_at (y ∷ ys) (q ∷ qs) zero x r h text at =
    subst (λ (z : Item). IsLabelledAs z r) (same_Some _ _ text)
    (subst (IsLabelledAs y) (same_Some _ _ at) h.0)
labelled_at (y ∷ ys) (q ∷ qs) (suc k) x r h text at = labelled_at ys qs k x r h.1 text at

-- ---- checks and flags among keys

-- the item of that number is a check or a flag
record IsAnswer (w : WrittenState) (of : ℕ) : Type 0 where
  pub model : WrittenModel
  pub there : Has w.models model
  pub items : List ResolvedItem
  pub sound : reread.IsReadModel (outer_namings PREDEFINED) (read_model model items)
  pub held : AreRolesKnown w.state model.numbers items
  pub index : ℕ
  pub item : ResolvedItem
  pub item_at : slice_get items index ≡ Some item
  pub number_is : number_at model.numbers index ≡ of
  pub is_check : role_kind item.role ≡ Some kinds.Check

-- its flag is that of its text
record IsFlagKnown (w : WrittenState) (of : ℕ) : Type 0 where
  pub clause : Clause
  pub text : item_text w.models of ≡ Some (OfText clause)
  pub flag : flag_name (content w.state 0 of) ≡ flag_by clause

flag_known : (w : WrittenState) → IsWholeState w → (of : ℕ) → IsAnswer w of → IsFlagKnown w of
flag_known w whole of a =
    let text = beside a.items a.model.items a.index a.item (sym (a.sound).whole) a.item_at in
    let number = beside a.items a.model.numbers a.index a.item ((a.sound).numbered ∙ sym (a.sound).whole) a.item_at in
    let same : number.0 ≡ of = sym (get_or_from_slice_get a.model.numbers a.index number.0 0 number.1) ∙ a.number_is in
    let stands : slice_get a.model.numbers a.index ≡ Some of = number.1 ∙ ap (λ (n : ℕ). Some n) same in
    let h = a.held a.index a.item a.item_at in
    let here : content w.state 0 of ≡ Some (OfRole (role_content a.item.role) h.0) = subst (λ (n : ℕ). content w.state 0 n ≡ Some (OfRole (role_content a.item.role) h.0)) a.number_is h.1 in
    let kind : node_kind (clause_of text.0) ≡ Some kinds.Check = text_kind text.0 text.1 in
    record {
      clause = clause_of text.0;
      text = text_known w whole a.model a.index of text.0 a.there stands text.1;
      flag =
          ap flag_name here
          ∙ flag_told text.0 a.item h.0
          (labelled_at a.model.items a.items a.index text.0 a.item (a.sound).labelled text.1
          a.item_at) kind;
    }
  where
    text_kind : (x : Item) → slice_get a.model.items a.index ≡ Some x
        → node_kind (clause_of x) ≡ Some kinds.Check
    text_kind x e =
        sym (ap (λ (o : Option Item). option_and_then (λ i. node_kind (clause_of i)) o) e)
        ∙ (kinds_of_roles [] [] (outer_namings PREDEFINED) 0 a.model.items a.items (a.sound).as_resolved
        a.index a.item kinds.Check a.item_at a.is_check)

same_flag : (w v : WrittenState) (of : ℕ) → IsFlagKnown w of → IsFlagKnown v of
    → item_text v.models of ≡ item_text w.models of
    → flag_name (content v.state 0 of) ≡ flag_name (content w.state 0 of)
same_flag w v of a b e = b.flag ∙ ap flag_by (one_clause (sym b.text ∙ e ∙ a.text)) ∙ sym a.flag
  where
    one_clause : {c d : Clause} → Some (OfText c) ≡ Some (OfText d) → c ≡ d
    one_clause e = cc

read_has : (ks : List Key) (item : ℕ) → is_read ks item ≡ true → Has ks (Part 0 item)
read_has [] item r = absurd (let e : false ≡ true = r in cc)
read_has (Part part of ∷ ks) item r = elim (cases_Bool ((part == 0) && (of == item))) [
  | inl e ↦ (
      let zero_is : part ≡ 0 = eqb-true part 0 (first_of (part == 0) (of == item) e) in
      let same : of ≡ item = eqb-true of item (second_of (part == 0) (of == item) e) in
      inl (ap (λ (p : ℕ). Part p of) zero_is ∙ ap (λ (n : ℕ). Part 0 n) same))
  | inr e ↦ inr (read_has ks item (rw e at r))
]
read_has (Output n x ∷ ks) item r = inr (read_has ks item r)

abbrev SlotAnswers : WrittenState → SlotKey → Type 0
SlotAnswers w (slots.Test part) = Unit {0}
SlotAnswers w (slots.Item number) = Unit {0}
SlotAnswers w (slots.Fault id) = Unit {0}
SlotAnswers w (slots.Value kind of name) = is_answer kind ≡ true → IsAnswer w of

abbrev KeyAnswers : WrittenState → Key → Type 0
KeyAnswers w (Part part of) = Unit {0}
KeyAnswers w (Output n x) = is_answer n.kind ≡ true → IsAnswer w n.of

each_key : (w : WrittenState) (test : ℕ) (ks : List SlotKey) → Each (SlotAnswers w) ks
    → Each (KeyAnswers w) (keys_at test ks)
each_key w test [] h = tt
each_key w test (slots.Test part ∷ ks) h = (tt, each_key w test ks h.1)
each_key w test (slots.Item number ∷ ks) h = (tt, each_key w test ks h.1)
each_key w test (slots.Fault id ∷ ks) h = (tt, each_key w test ks h.1)
each_key w test (slots.Value kind of name ∷ ks) h = (h.0, each_key w test ks h.1)

module _ (w : WrittenState) (m : WrittenModel) (there : Has w.models m) (items : List ResolvedItem)
    (sound : reread.IsReadModel (outer_namings PREDEFINED) (read_model m items))
    (held : AreRolesKnown w.state m.numbers items) where
  flag_answers : (own : ℕ) (role : Role) → Each (SlotAnswers w) (flag_key role own)
  flag_answers own (roles.Group recursive bodies) = tt
  flag_answers own (roles.Check check) = by_flag check.flag refl
    where
      by_flag : (flag : Option (List ℕ)) → check.flag ≡ flag
          → Each (SlotAnswers w) (flag_key (roles.Check check) own)
      by_flag None e = rw e tt
      by_flag (Some name) e = rw e (tt, tt)
  flag_answers own roles.Silent = tt

  flag_at : (own : ℕ) (o : Option ResolvedItem) → Each (SlotAnswers w) (key_by flag_key own o)
  flag_at own None = tt
  flag_at own (Some r) = flag_answers own r.role

  flags_answer : (is : List ℕ) → Each (SlotAnswers w) (keys_by flag_key m.numbers items is)
  flags_answer [] = tt
  flags_answer (i ∷ is) =
      each_append (SlotAnswers w) (key_by flag_key (number_at m.numbers i) (slice_get items i))
      (keys_by flag_key m.numbers items is)
      (flag_at (number_at m.numbers i) (slice_get items i)) (flags_answer is)

  answer_at : (i : ℕ) (o : Option ResolvedItem) → slice_get items i ≡ o
      → Each (SlotAnswers w) (key_by answer_key (number_at m.numbers i) o)
  answer_at i None e = tt
  answer_at i (Some r) e = by_role r.role refl
    where
      by_role : (role : Role) → r.role ≡ role
          → Each (SlotAnswers w) (answer_key role (number_at m.numbers i))
      by_role (roles.Group recursive bodies) is = tt
      by_role (roles.Check check) is = (
        (λ _. record {
          model = m;
          there = there;
          items = items;
          sound = sound;
          held = held;
          index = i;
          item = r;
          item_at = e;
          number_is = refl;
          is_check = ap role_kind is;
        }),
        tt,
      )
      by_role roles.Silent is = tt

  answers : (is : List ℕ) → Each (SlotAnswers w) (keys_by answer_key m.numbers items is)
  answers [] = tt
  answers (i ∷ is) =
      each_append (SlotAnswers w) (key_by answer_key (number_at m.numbers i) (slice_get items i))
      (keys_by answer_key m.numbers items is) (answer_at i (slice_get items i) refl)
      (answers is)

  verdict_answers : (used : List ℕ) → Each (SlotAnswers w) (verdict_keys m.numbers items used)
  verdict_answers used =
      each_append (SlotAnswers w)
      (slots.Test 2 ∷ slots.Test 3 ∷ keys_by flag_key m.numbers items used)
      (space_key ∷ keys_by answer_key m.numbers items used)
      (tt, (tt, flags_answer used)) ((λ e. absurd (let f : false ≡ true = e in cc)), answers used)

sound_answers : (w : WrittenState) (test : ℕ) (keys : List SlotKey) → IsOfSound w keys
    → Each (KeyAnswers w) (keys_at test keys)
sound_answers w test keys a =
    subst (λ (ks : List SlotKey). Each (KeyAnswers w) (keys_at test ks)) (sym a.keys_are)
    (each_key w test (verdict_keys a.model.numbers a.items a.used)
    (verdict_answers w a.model a.there a.items a.sound a.held a.used))

-- ---- what is given depends on the first two parts, and on the flags

given_rest : (kind : Quantifier) (proposition : Formula) (d : Option PartContent)
    (cs ds : List (Option PartContent)) (flags : List (Option (List ℕ)))
    → verdict_given kind proposition (d ∷ cs) flags ≡ verdict_given kind proposition (d ∷ ds) flags
given_rest kind proposition None cs ds flags = refl
given_rest kind proposition (Some (OfText c)) cs ds flags = refl
given_rest kind proposition (Some (OfRole r h)) cs ds flags = refl
given_rest kind proposition (Some (OfFault f)) cs ds flags = refl
given_rest kind proposition (Some (OfCondition q p)) cs ds flags = refl
given_rest kind proposition (Some (OfObserved o)) cs ds flags = refl
given_rest kind proposition (Some (OfLocations l)) cs ds flags = refl
given_rest kind proposition (Some (OfInit i)) cs ds flags = refl
given_rest kind proposition (Some (OfThread s)) cs ds flags = refl

given_first : (c d : Option PartContent) (cs ds : List (Option PartContent))
    (flags : List (Option (List ℕ)))
    → given_verdict (c ∷ d ∷ cs) flags ≡ given_verdict (c ∷ d ∷ ds) flags
given_first None d cs ds flags = refl
given_first (Some (OfText c)) d cs ds flags = refl
given_first (Some (OfRole r h)) d cs ds flags = refl
given_first (Some (OfFault f)) d cs ds flags = refl
given_first (Some (OfCondition q p)) d cs ds flags = given_rest q p d cs ds flags
given_first (Some (OfObserved o)) d cs ds flags = refl
given_first (Some (OfLocations l)) d cs ds flags = refl
given_first (Some (OfInit i)) d cs ds flags = refl
given_first (Some (OfThread s)) d cs ds flags = refl

abbrev second_part : List Key → ℕ
second_part [] = 0
second_part (k ∷ []) = 0
second_part (k ∷ Part part of ∷ ks) = part
second_part (k ∷ Output n x ∷ ks) = 0

-- ---- what was given stays

module _ (w v : WrittenState) (since : IsStateSince w v) (test : ℕ) (keys : List Key)
    (parts : Each (IsSamePart (net_in w.state) (net_in v.state)) keys) where
  flag_stays : (of : ℕ) → IsAnswer w of → IsAnswer v of
      → flag_read v.state keys of ≡ flag_read w.state keys of
  flag_stays of a b = elim (cases_Bool (is_read keys of)) [
    | inl e ↦ (
        let stamp : part_stamp v.state.parts.table 0 of ≡ part_stamp w.state.parts.table 0 of = each_has (IsSamePart (net_in w.state) (net_in v.state)) keys parts (Part 0 of) (read_has keys of e) in
        rw e (same_flag w v of (flag_known w since.whole of a) (flag_known v since.still_whole of b)
        (since.same 0 of stamp)))
    | inr e ↦ rw e refl
  ]

  flags_stay : (ks : List Key) → Each (KeyAnswers w) ks → Each (KeyAnswers v) ks
      → flags_read v.state keys ks ≡ flags_read w.state keys ks
  flags_stay [] a b = refl
  flags_stay (Part part of ∷ ks) a b = flags_stay ks a.1 b.1
  flags_stay (Output n x ∷ ks) a b = by_kind (is_answer n.kind) a.0 b.0 (flags_stay ks a.1 b.1)
    where
      by_kind : (answer : Bool) → (answer ≡ true → IsAnswer w n.of)
          → (answer ≡ true → IsAnswer v n.of)
          → flags_read v.state keys ks ≡ flags_read w.state keys ks
          → (if answer then flag_read v.state keys n.of ∷ flags_read v.state keys ks
          else flags_read v.state keys ks) ≡ (if answer then flag_read w.state keys n.of
          ∷ flags_read w.state keys ks
          else flags_read w.state keys ks)
      by_kind true a b rest =
          let one : flag_read v.state keys n.of ≡ flag_read w.state keys n.of = flag_stays n.of (a refl) (b refl) in
          λ i. one i ∷ rest i
      by_kind false a b rest = rest

  sound_stays : (rest : List Key) → keys ≡ Part 2 test ∷ Part 3 test ∷ rest
      → Each (KeyAnswers w) keys → Each (KeyAnswers v) keys
      → given_verdict (contents v.state keys) (flags_read v.state keys keys)
      ≡ given_verdict (contents w.state keys) (flags_read w.state keys keys)
  sound_stays rest form a b =
      let flags = flags_read w.state keys keys in
      let h = subst (Each (IsSamePart (net_in w.state) (net_in v.state))) form parts in
      let condition : content v.state 2 test ≡ content w.state 2 test = since.same 2 test h.0 in
      let observed : content v.state 3 test ≡ content w.state 3 test = since.same 3 test h.1.0 in
      let heads : given_verdict (content v.state 2 test ∷ content v.state 3 test ∷ contents v.state rest) flags ≡ given_verdict (content w.state 2 test ∷ content w.state 3 test ∷ contents w.state rest) flags =
      ap
      (λ (c : Option PartContent).
      given_verdict (c ∷ content v.state 3 test ∷ contents v.state rest) flags) condition
      ∙ ap
      (λ (c : Option PartContent).
      given_verdict (content w.state 2 test ∷ c ∷ contents v.state rest) flags) observed
      ∙ given_first (content w.state 2 test) (content w.state 3 test) (contents v.state rest)
      (contents w.state rest) flags in
      ap (given_verdict (contents v.state keys)) (flags_stay keys a b)
      ∙ ap (λ (ks : List Key). given_verdict (contents v.state ks) flags) form ∙ heads
      ∙ sym (ap (λ (ks : List Key). given_verdict (contents w.state ks) flags) form)

  faulty_stays : (id : ℕ) → keys ≡ Part 2 test ∷ Part 1 id ∷ []
      → given_verdict (contents v.state keys) (flags_read v.state keys keys)
      ≡ given_verdict (contents w.state keys) (flags_read w.state keys keys)
  faulty_stays id form =
      let h = subst (Each (IsSamePart (net_in w.state) (net_in v.state))) form parts in
      let condition : content v.state 2 test ≡ content w.state 2 test = since.same 2 test h.0 in
      let fault : content v.state 1 id ≡ content w.state 1 id = since.same 1 id h.1.0 in
      ap (λ (ks : List Key). given_verdict (contents v.state ks) (flags_read v.state ks ks)) form
      ∙ ap (λ (c : Option PartContent). given_verdict (c ∷ content v.state 1 id ∷ []) []) condition
      ∙ ap (λ (c : Option PartContent). given_verdict (content w.state 2 test ∷ c ∷ []) []) fault
      ∙ sym (ap (λ (ks : List Key). given_verdict (contents w.state ks) (flags_read w.state ks ks))
      form)

  pub verdict_stays : (old new : List SlotKey) → keys_at test new ≡ keys → keys_at test old ≡ keys
      → (IsOfSound w old ⊎ IsOfFaulty old) → (IsOfSound v new ⊎ IsOfFaulty new)
      → given_verdict (contents v.state keys) (flags_read v.state keys keys)
      ≡ given_verdict (contents w.state keys) (flags_read w.state keys keys)
  verdict_stays old new is was (inl a) (inl b) =
      sound_stays
      (keys_at test (keys_by flag_key b.model.numbers b.items b.used
      ++ space_key ∷ keys_by answer_key b.model.numbers b.items b.used))
      (sym is ∙ ap (keys_at test) b.keys_are)
      (subst (Each (KeyAnswers w)) was (sound_answers w test old a))
      (subst (Each (KeyAnswers v)) is (sound_answers v test new b))
  verdict_stays old new is was (inl a) (inr b) =
      absurd (
      let e : 3 ≡ 1 =
      ap second_part (sym (ap (keys_at test) a.keys_are) ∙ was ∙ sym is
      ∙ ap (keys_at test) b.1) in
      omega (arith, e))
  verdict_stays old new is was (inr a) (inl b) =
      absurd (
      let e : 1 ≡ 3 =
      ap second_part (sym (ap (keys_at test) a.1) ∙ was ∙ sym is
      ∙ ap (keys_at test) b.keys_are) in
      omega (arith, e))
  verdict_stays old new is was (inr a) (inr b) = faulty_stays b.0 (sym is ∙ ap (keys_at test) b.1)
