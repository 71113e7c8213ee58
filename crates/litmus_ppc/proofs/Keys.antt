-- The keys of a set of lists of bytes.
use Rattle.std.proofs.Common.{◌≡◌, ℕ, List, [], ◌∷◌, map, Bool, true, false, Some, None, Vec, Global, refl, sym, ap, ◌∙◌}
use Rattle.std.specs.Prelude.{◌||◌, not, if◌then◌else◌}
use Rattle.std.specs.declared.cmp.Ordering.{Ordering}
use Rattle.std.specs.declared.cmp.Ordering.TheVariants.{Less, Equal, Greater}
use Rattle.std.specs.Ordering.{match_ordering, nat_cmp}
use Rattle.std.specs.Cmp.Lexicographic.{slice_cmp}
use Rattle.std.specs.List.{list_any}
use Rattle.std.specs.BTreeMap.{is_at}
use Rattle.std.specs.BTreeSet.{insert_key}
use Rattle.text_values.specs.declared.test.InitEntry.{InitEntry}
use Rattle.litmus_grammar.specs.InitMachine.{Block, has_key, with_key, added}
use Rattle.litmus_ppc.specs.InitReading.{bytes_of}

abbrev pub order : Vec ℕ Global → Vec ℕ Global → Ordering
order x y = slice_cmp nat_cmp x.items y.items

pub inserted : (ks : List (Vec ℕ Global)) (k : Vec ℕ Global)
    → map bytes_of (insert_key order ks k)
    ≡ insert_key (slice_cmp nat_cmp) (map bytes_of ks) (bytes_of k)
inserted [] k = refl
inserted (x ∷ xs) k = by_order (order k x) (inserted xs k)
  where
    by_order : (o : Ordering)
        → map bytes_of (insert_key order xs k)
        ≡ insert_key (slice_cmp nat_cmp) (map bytes_of xs) (bytes_of k)
        → map bytes_of (match_ordering o (k ∷ x ∷ xs) (x ∷ xs) (x ∷ insert_key order xs k))
        ≡ match_ordering o (bytes_of k ∷ bytes_of x ∷ map bytes_of xs)
        (bytes_of x ∷ map bytes_of xs) (bytes_of x
        ∷ insert_key (slice_cmp nat_cmp) (map bytes_of xs) (bytes_of k))
    by_order Less e = refl
    by_order Equal e = refl
    by_order Greater e = ap (λ l. bytes_of x ∷ l) e

pub found : (ks : List (Vec ℕ Global)) (k : Vec ℕ Global)
    → list_any (is_at (order k)) ks ≡ has_key (map bytes_of ks) (bytes_of k)
found [] k = refl
found (x ∷ xs) k = ap (λ b. is_at (order k) x || b) (found xs k)

abbrev block : List InitEntry → List ℕ → List (List ℕ) → Block
block es ss ns = record { entries = es; starts = ss; named = ns }

was_new : (d x : Bool) → d ≡ not x → d ≡ true → x ≡ false
was_new d true e f = cc
was_new d false e f = refl

was_there : (d x : Bool) → d ≡ not x → d ≡ false → x ≡ true
was_there d true e f = refl
was_there d false e f = cc

module _ (es : List InitEntry) (ss : List ℕ) (ks : List (Vec ℕ Global)) (k : Vec ℕ Global)
    (d : Bool) (says : d ≡ not (list_any (is_at (order k)) ks)) where
  pub adds : (ks' : List (Vec ℕ Global)) → d ≡ true → ks' ≡ insert_key order ks k
      → added (block es ss (map bytes_of ks)) (bytes_of k) ≡ Some (block es ss (map bytes_of ks'))
  adds ks' new e =
      ap (λ b. if b then None else Some (with_key (block es ss (map bytes_of ks)) (bytes_of k)))
      (sym (found ks k) ∙ was_new d _ says new)
      ∙ ap (λ ns. Some (block es ss ns)) (sym (inserted ks k) ∙ ap (map bytes_of) (sym e))

  pub repeats : d ≡ false → added (block es ss (map bytes_of ks)) (bytes_of k) ≡ None
  repeats there =
      ap (λ b. if b then None else Some (with_key (block es ss (map bytes_of ks)) (bytes_of k)))
      (sym (found ks k) ∙ was_there d _ says there)
