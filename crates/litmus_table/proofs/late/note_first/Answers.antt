use Rattle.std.proofs.Common.{◌≡◌, ℕ, true, false, cond, List, [], ◌∷◌, ◌++◌, Option, Some, nat_cmp, sym, ap, ◌∙◌}
use Rattle.std.specs.Option.{is_some}
use Rattle.std.specs.Str.{bytes_eq}
use Rattle.std.specs.BTreeMap.{get_by}
use Rattle.std.specs.Cmp.Lexicographic.{slice_cmp}
use Rattle.std.proofs.lemmas.Map.Text.{btree_map_updates_str}
use Rattle.text_values.specs.declared.test.Step.{Step}
use Rattle.litmus_table.specs.Checks.{first_from}
use Rattle.litmus_table.proofs.First.{push_instruction, push_known, push_new}
use Rattle.litmus_table.proofs.late.note_first.Goals as goal

pub returns-then-contains_key : goal.returns-then-contains_key
returns-then-contains_key c = λ before size h w.
    let v = c.in-Label.name in
    let known : is_some (get_by (λ k. slice_cmp nat_cmp v k.now) c.args.first.now) ≡ true
    =
    ap (λ (x : List ℕ). is_some (get_by (λ k. slice_cmp nat_cmp x k.now) c.args.first.now))
    (sym c.as_bytes.ensures) ∙ sym c.contains_key.ensures ∙ c.if-contains_key.true in
    h w
    ∙ sym (push_known w v before (ap is_some (sym (h v)) ∙ known))
    ∙ ap (λ (s : Step). first_from w 0 (before ++ s ∷ [])) (sym c.in-Label.is)

pub returns-in_ok-insert-in-Label : goal.returns-in_ok-insert-in-Label
returns-in_ok-insert-in-Label c = λ before size h w.
    let v = c.in-Label.name in
    let m = c.args.first.now in
    let unknown : is_some (get_by (λ k. slice_cmp nat_cmp v k.now) m) ≡ false
    =
    ap (λ (x : List ℕ). is_some (get_by (λ k. slice_cmp nat_cmp x k.now) m))
    (sym c.as_bytes.ensures) ∙ sym c.contains_key.ensures ∙ c.if-contains_key.false in
    let new : get_by (λ k. slice_cmp nat_cmp w k.now) c.insert.new.self ≡ cond (bytes_eq c.as_bytes-in-Label.result.now w) (Some c.args.number) (get_by (λ k. slice_cmp nat_cmp w k.now) m)
    =
    btree_map_updates_str c.as_bytes-in-Label.result.now m c.insert.new.self
    (Some c.args.number) c.in_ok-insert-in-Label.ensures.updates w in
    new
    ∙ ap
    (λ (x : List ℕ).
    cond (bytes_eq x w) (Some c.args.number) (get_by (λ k. slice_cmp nat_cmp w k.now) m))
    c.as_bytes-in-Label.ensures
    ∙ ap (λ (o : Option ℕ). cond (bytes_eq v w) (Some c.args.number) o) (h w)
    ∙ ap (λ (n : ℕ). cond (bytes_eq v w) (Some n) (first_from w 0 before)) (sym size)
    ∙ sym (push_new w v before (ap is_some (sym (h v)) ∙ unknown))
    ∙ ap (λ (s : Step). first_from w 0 (before ++ s ∷ [])) (sym c.in-Label.is)

pub returns-in-Instruction : goal.returns-in-Instruction
returns-in-Instruction c =
    λ before size h w. h w ∙ sym (push_instruction w c.in-Instruction.field-0 0 before)
    ∙ ap (λ (s : Step). first_from w 0 (before ++ s ∷ [])) (sym c.in-Instruction.is)
