-- How the reader goes from token to token through the init block. The grammar does not rest on it.
use Rattle.std.specs.Prelude.{ℕ, List, [], ◌∷◌, ◌++◌, Bool, false, Option, Some, None, nat_le, if◌then◌else◌}
use Rattle.std.specs.Cmp.Lexicographic.{slice_cmp}
use Rattle.std.specs.List.{list_any}
use Rattle.std.specs.Ordering.{nat_cmp}
use Rattle.std.specs.BTreeMap.{is_at}
use Rattle.std.specs.BTreeSet.{insert_key}
use Rattle.litmus_tokens.specs.declared.token.Token.{Token}
use Rattle.litmus_tokens.specs.declared.token.Token.TheVariants as tokens
use Rattle.litmus_tokens.specs.declared.token.Mark.TheVariants as marks
use Rattle.litmus_tokens.specs.Words.{register_of}
use Rattle.text_values.specs.declared.test.Place.{Place}
use Rattle.text_values.specs.declared.test.Place.TheVariants as whole_places
use Rattle.text_values.specs.declared.test.Value as declared_value
use Rattle.text_values.specs.declared.test.InitEntry.{InitEntry}
use Rattle.litmus_tokens.specs.declared.place.PlaceExpectation.{PlaceExpectation}
use Rattle.litmus_tokens.specs.declared.place.PlaceExpectation.TheVariants as places
use Rattle.litmus_tokens.specs.declared.place.PlaceStep.{PlaceStep}
use Rattle.litmus_tokens.specs.declared.place.PlaceStep.TheVariants as place_steps
use Rattle.litmus_tokens.specs.PlaceMachine.{place_step, place_of, value_read}
use Rattle.litmus_grammar.specs.declared.parts.InitExpectation.{InitExpectation}
use Rattle.litmus_grammar.specs.declared.parts.InitExpectation.TheVariants as expectations
use Rattle.litmus_grammar.specs.declared.parts.InitStep.{InitStep}
use Rattle.litmus_grammar.specs.declared.parts.InitStep.TheVariants as steps

-- the entries so far, the byte that each begins at, and the keys of the places that were named, in
-- their order
pub record Block : Type 0 where
  pub entries : List InitEntry
  pub starts : List ℕ
  pub named : List (List ℕ)

abbrev pub init_start : Block
init_start = record { entries = []; starts = []; named = [] }

-- ---- the places that were named

abbrev pub location_key : List ℕ → List ℕ
location_key n = 0 ∷ n

-- the digits of a thread's number, and a register
abbrev pub register_key : List ℕ → ℕ → List ℕ
register_key t r = 1 ∷ r ∷ t

abbrev pub known_key : List ℕ → Option ℕ → Option (List ℕ)
known_key t (Some r) = Some (register_key t r)
known_key t None = None

-- the key of the place that a word names
abbrev pub word_key : PlaceExpectation → List ℕ → Option (List ℕ)
word_key places.Begins w = Some (location_key w)
word_key places.WantsName w = Some (location_key w)
word_key (places.WantsBracket n) w = None
word_key (places.WantsColon t) w = None
word_key (places.WantsRegister t) w = known_key t (register_of w)

abbrev pub token_key : PlaceExpectation → Token → Option (List ℕ)
token_key h (tokens.Word w) = word_key h w
token_key h t = None

abbrev pub has_key : List (List ℕ) → List ℕ → Bool
has_key ks k = list_any (is_at (slice_cmp nat_cmp k)) ks

abbrev pub with_key : Block → List ℕ → Block
with_key b k =
    record {
      entries = b.entries;
      starts = b.starts;
      named = insert_key (slice_cmp nat_cmp) b.named k;
    }

-- a place that was not named before
abbrev pub added : Block → List ℕ → Option Block
added b k = if has_key b.named k then None else Some (with_key b k)

abbrev pub added_if : Block → Option (List ℕ) → Option Block
added_if b None = Some b
added_if b (Some k) = added b k

-- ---- what a token does

-- where the reader stands then, and what it holds
pub record Did : Type 0 where
  pub step : InitStep
  pub block : Block

abbrev pub goes : Block → InitExpectation → Option Did
goes b h = Some (record { step = steps.Goes h; block = b })

abbrev pub ends : Block → Option Did
ends b = Some (record { step = steps.Ends; block = b })

abbrev pub place_result : Block → Option PlaceStep → Option Did
place_result b (Some (place_steps.Goes h)) = goes b (expectations.InPlace h)
place_result b (Some (place_steps.Ends w)) = goes b (expectations.WantsEquals (place_of w))
place_result b None = None

abbrev pub and_place : Option Block → Option PlaceStep → Option Did
and_place (Some b) s = place_result b s
and_place None s = None

-- a token of a place that no entry before has
abbrev pub place_read : Block → PlaceExpectation → Token → Option Did
place_read b h t = and_place (added_if b (token_key h t)) (place_step h t)

abbrev pub with_start : Block → ℕ → Block
with_start b offset =
    record { entries = b.entries; starts = b.starts ++ offset ∷ []; named = b.named }

abbrev pub open_read : Block → Token → Option Did
open_read b (tokens.Mark marks.OpenBrace) = goes b expectations.WantsEntry
open_read b t = None

-- where an entry may begin
abbrev pub entry_read : Block → Token → ℕ → Option Did
entry_read b (tokens.Mark marks.CloseBrace) offset = ends b
entry_read b t offset = place_read (with_start b offset) places.Begins t

abbrev pub equals_read : Block → Place → Token → Option Did
equals_read b p (tokens.Mark marks.Equals) = goes b (expectations.WantsValue p)
equals_read b p t = None

abbrev pub with_entry : Block → Place → declared_value.Value → Block
with_entry b p v =
    record {
      entries = b.entries ++ record { place = p; value = v } ∷ [];
      starts = b.starts;
      named = b.named;
    }

abbrev pub valued : Block → Place → Option declared_value.Value → Option Did
valued b p (Some v) = goes (with_entry b p v) expectations.HasEntry
valued b p None = None

-- behind an entry
abbrev pub entry_behind : Block → Token → Option Did
entry_behind b (tokens.Mark marks.Semicolon) = goes b expectations.WantsEntry
entry_behind b (tokens.Mark marks.CloseBrace) = ends b
entry_behind b t = None

-- a token that stands at this byte
abbrev pub init_step : Block → InitExpectation → Token → ℕ → Option Did
init_step b expectations.WantsOpen t offset = open_read b t
init_step b expectations.WantsEntry t offset = entry_read b t offset
init_step b (expectations.InPlace h) t offset = place_read b h t
init_step b (expectations.WantsEquals p) t offset = equals_read b p t
init_step b (expectations.WantsValue p) t offset = valued b p (value_read t)
init_step b expectations.HasEntry t offset = entry_behind b t

-- ---- the check that is made once the whole text is read

-- whether the place is a register of a thread that is not one of so many
abbrev pub lacks_thread : ℕ → Place → Bool
lacks_thread threads (whole_places.Location n) = false
lacks_thread threads (whole_places.Register t r) = nat_le threads t

-- the byte that the first entry begins at whose thread is not there
abbrev pub missing : ℕ → List InitEntry → List ℕ → Option ℕ
missing threads [] ss = None
missing threads (e ∷ es) [] = None
missing threads (e ∷ es) (s ∷ ss) =
    if lacks_thread threads e.place then Some s else missing threads es ss
