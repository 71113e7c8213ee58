use Rattle.std.proofs.Common.{◌≡◌, ◌≢◌, ◌<◌, ◌≤◌, ◌==◌, ℕ, ◌+◌, Bool, true, false, ◌&&◌, if◌then◌else◌, List, [], ◌∷◌, map, length, drop, get_or, refl, ap, ◌∙◌, eq-eqb, ne_eqb}
use Rattle.std.proofs.lemmas.List.{at_drop_more, drop_all}
use Rattle.value_store.specs.Tokens.{TokenShown}
use Rattle.memo_core.specs.declared.keys.Node.{Node}
use Rattle.memo_core.specs.declared.keys.Key.{Key}
use Rattle.memo_core.specs.declared.keys.Key.TheVariants.{Output}
use Rattle.memo_core.specs.declared.keys.Input.{Input}
use Rattle.memo_core.specs.Names.{same_key}
use Rattle.memo_core.specs.Graph.{Memo, Net, present_inputs, stamp_at}
use Rattle.memo_core.specs.Step.{stale_stamp}
use Rattle.memo_core.specs.Tests.{all_hold, holds_value, same_inputs, same_keys}
use Rattle.memo_core.proofs.Inputs.{same_inputs_exact}
use Rattle.memo_core.specs.Views.{shown_values}
use Rattle.memo_engine.proofs.PushLemmas.{item_next}
use Rattle.std.specs.Prelude.{Option}

-- keys and the keys of inputs, from an index on
pub keys_from : (ks : List Key) (is : List Input) (i : ℕ) (d : Key) (e : Input) → i < length ks
    → i < length is → (same : Bool) → same ≡ same_key (get_or ks i d) (get_or is i e).key
    → same_keys (drop i ks) (map (λ i. i.key) (drop i is))
    ≡ (same && same_keys (drop (i + 1) ks) (map (λ i. i.key) (drop (i + 1) is)))
keys_from ks is i d e k l same h =
    rw (at_drop_more (λ xs. xs) ks i d k, at_drop_more (λ xs. xs) is i e l, h) refl

-- inputs that are the present ones of some keys have these keys
pub keys_present : {V G : Type 0} (net : Net G) (ms : List (Memo V)) (ks : List Key)
    → map (λ i. i.key) (present_inputs net ms ks) ≡ ks
keys_present net ms [] = refl
keys_present net ms (k ∷ ks) = ap (λ (r : List Key). k ∷ r) (keys_present net ms ks)

pub keys_claimed : {V G : Type 0} (net : Net G) (ms : List (Memo V)) (ks : List Key)
    (is : List Input) → same_inputs is (present_inputs net ms ks) ≡ true → map (λ i. i.key) is ≡ ks
keys_claimed net ms ks is h =
    ap (λ (is : List Input). map (λ (i : Input). i.key) is) (same_inputs_exact is _ h)
    ∙ keys_present net ms ks

-- the present stamp where present inputs and claimed ones are unlike, from an index on
module _ {V G : Type 0} (net : Net G) (ms : List (Memo V)) (ks : List Key) (is : List Input)
    (i last : ℕ) (k : Key) (stamp : ℕ) (rest : drop i ks ≡ k ∷ drop (i + 1) ks)
    (now : stamp ≡ stamp_at net ms k) where
  pub stale_short : length is ≤ i
      → stale_stamp last (present_inputs net ms (drop i ks)) (drop i is) ≡ stamp
  stale_short l = rw (rest, drop_all i is l, now) refl

  module _ (d : Input) (in_range : i < length is) (same : Bool)
      (same_is : same ≡ same_key k (get_or is i d).key) where
    stale_from : stale_stamp last (present_inputs net ms (drop i ks)) (drop i is) ≡ (if same
        && (stamp == (get_or is i d).stamp) then stale_stamp stamp
        (present_inputs net ms (drop (i + 1) ks)) (drop (i + 1) is)
        else stamp)
    stale_from = rw (rest, at_drop_more (λ xs. xs) is i d in_range, same_is, now) refl

    pub stale_key : same ≡ false
        → stale_stamp last (present_inputs net ms (drop i ks)) (drop i is) ≡ stamp
    stale_key f = rw f at stale_from

    pub stale_now : same ≡ true → stamp ≢ (get_or is i d).stamp
        → stale_stamp last (present_inputs net ms (drop i ks)) (drop i is) ≡ stamp
    stale_now t n = rw (t, ne_eqb stamp (get_or is i d).stamp n) at stale_from

    pub stale_next : same ≡ true → stamp ≡ (get_or is i d).stamp
        → stale_stamp last (present_inputs net ms (drop i ks)) (drop i is)
        ≡ stale_stamp stamp (present_inputs net ms (drop (i + 1) ks)) (drop (i + 1) is)
    stale_next t e = rw (t, eq-eqb stamp (get_or is i d).stamp e) at stale_from

-- the values of the outputs among keys, from an index on
module _ {V : Type 0} (same : V → V → Bool) (now : Key → Option (ℕ × V)) (ks : List Key)
    (ts : List (TokenShown V)) (i j : ℕ) (d : Key) (n : Node) (x : ℕ) (in_range : i < length ks)
    (is : get_or ks i d ≡ Output n x) where
  pub hold_short : length ts ≤ j → all_hold same now (drop i ks) (shown_values (drop j ts)) ≡ false
  hold_short l = rw (at_drop_more (λ xs. xs) ks i d in_range, is, drop_all j ts l) refl

  pub hold_from : (t : TokenShown V) → j < length ts → t ≡ get_or ts j t → (held : Bool)
      → held ≡ holds_value same (now (Output n x)) t.value
      → all_hold same now (drop i ks) (shown_values (drop j ts))
      ≡ (held && all_hold same now (drop (i + 1) ks) (shown_values (drop (j + 1) ts)))
  hold_from t l e held h =
      rw (at_drop_more (λ xs. xs) ks i d in_range, is, item_next ts j t l e, h) refl
