use Rattle.std.proofs.Common.{ℕ, ◌+◌, Bool, List, [], ◌∷◌, ◌++◌, sym, subst}
use Rattle.std.specs.Prelude.{Result, Ok, Err}
use Rattle.std.specs.List.{AllZip}
use Rattle.memo_core.specs.Run.{Bench, TextsMeaning}
use Rattle.cells.specs.declared.events.Event.{Event}
use Rattle.cells.specs.declared.events.Event.TheVariants.{Edit, Claim, Return, Lose, Renew}
use Rattle.cells.specs.declared.events.Reply.{Reply}
use Rattle.cells.specs.declared.events.Reply.TheVariants.{Edited, Claimed, Returned, Lost, Renewed}
use Rattle.cells.specs.Views.{Task}
use Rattle.cells.specs.Events.{Refusing, IsEdited, IsEventAnswered, AreEventsAnswered, IsSameEvent}

-- one copy more
pub zip_last : {A B : Type 0} (R : A → B → Type 0) (xs : List A) (ys : List B) (x : A) (y : B)
    → AllZip R xs ys → R x y → AllZip R (xs ++ x ∷ []) (ys ++ y ∷ [])
zip_last R [] [] x y z r = (r, tt)
zip_last R [] (b ∷ ys) x y z r = absurd z
zip_last R (a ∷ xs) [] x y z r = absurd z
zip_last R (a ∷ xs) (b ∷ ys) x y z r = (z.0, zip_last R xs ys x y z.1 r)

-- what is said of copies of events is said of the events
module _ {T E V G F : Type 0} (means : TextsMeaning T E V G) (refuses : Refusing T E F) (last : T → ℕ)
    (same : E → E → Type 0)
    (edited_same : (t u : T) (e f : E) (number : ℕ) → same e f → means.edited t e number u
    → means.edited t f number u)
    (refused_same : (t : T) (e f : E) (spent : Bool) (fault : F) → same e f
    → refuses t e spent fault → refuses t f spent fault) where
  edit_same : (old new : Bench T V) (e f : E) (r : Result ℕ F) → same e f
      → IsEdited means refuses last old e r new → IsEdited means refuses last old f r new
  edit_same old new e f (Ok number) s h =
      (h.0, h.1, (edited_same old.texts new.texts e f (old.taken + 1) s (h.2).0, (h.2).1))
  edit_same old new e f (Err fault) s h = (refused_same old.texts e f _ fault s h.0, h.1, h.2)

  one_same : (old new : Bench T V) (given after : List (Task V G)) (e f : Event E) (r : Reply F)
      → IsSameEvent same e f → IsEventAnswered means refuses last old given e r new after
      → IsEventAnswered means refuses last old given f r new after
  one_same old new given after (Edit e) (Edit f) (Edited r) s h =
      (edit_same old new e f r s h.0, h.1)
  one_same old new given after (Edit e) (Edit f) (Claimed r) s h = absurd h
  one_same old new given after (Edit e) (Edit f) (Returned r) s h = absurd h
  one_same old new given after (Edit e) (Edit f) (Lost r) s h = absurd h
  one_same old new given after (Edit e) (Edit f) Renewed s h = absurd h
  one_same old new given after (Edit e) Claim r s h = absurd s
  one_same old new given after (Edit e) (Return claim) r s h = absurd s
  one_same old new given after (Edit e) (Lose claim) r s h = absurd s
  one_same old new given after (Edit e) Renew r s h = absurd s
  one_same old new given after Claim f r s h =
      subst (λ (x : Event E). IsEventAnswered means refuses last old given x r new after) (sym s) h
  one_same old new given after (Return claim) f r s h =
      subst (λ (x : Event E). IsEventAnswered means refuses last old given x r new after) (sym s) h
  one_same old new given after (Lose claim) f r s h =
      subst (λ (x : Event E). IsEventAnswered means refuses last old given x r new after) (sym s) h
  one_same old new given after Renew f r s h =
      subst (λ (x : Event E). IsEventAnswered means refuses last old given x r new after) (sym s) h

  pub answered_same : (old new : Bench T V) (given after : List (Task V G)) (es fs : List (Event E))
      (rs : List (Reply F)) → AllZip (IsSameEvent same) es fs
      → AreEventsAnswered means refuses last old given es rs new after
      → AreEventsAnswered means refuses last old given fs rs new after
  answered_same old new given after [] [] rs z h = h
  answered_same old new given after [] (f ∷ fs) rs z h = absurd z
  answered_same old new given after (e ∷ es) [] rs z h = absurd z
  answered_same old new given after (e ∷ es) (f ∷ fs) [] z h = absurd h
  answered_same old new given after (e ∷ es) (f ∷ fs) (r ∷ rs) z h = (
    h.0,
    h.1,
    one_same old h.0 given h.1 e f r z.0 h.2,
    answered_same h.0 new h.1 after es fs rs z.1 h.3,
  )
