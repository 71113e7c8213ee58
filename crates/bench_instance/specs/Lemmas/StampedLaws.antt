-- What texts with stamps owe to the memo core.
use Rattle.std.proofs.Common.{ℕ, refl, arith}
use Rattle.std.specs.List.{AllByRecursion as Each}
use Rattle.memo_core.specs.Right.{PartsGoOn}
use Rattle.memo_core.specs.Laws.{GivenStays, IsUsedClosed, AreUsers, Falls}
use Rattle.memo_core.specs.Right as core
use Rattle.bench_nodes.specs.Nodes.{used, users, rank}
use Rattle.bench_nodes.proofs.Laws as nodes
use Rattle.bench_parts.specs.States as states
use Rattle.bench_parts.specs.States.{given_to_node, is_given, makes}
use Rattle.bench_parts.specs.Written.{IsWholeState}
use Rattle.bench_parts.proofs.Built.{built_valid}
use Rattle.bench_parts.proofs.Keeping as keeping
use Rattle.bench_parts.proofs.Since as later
use Rattle.bench_instance.specs.declared.stamped_texts.StampedTexts.{StampedTexts}
use Rattle.bench_edits.specs.Readings.{readings_of}
use Rattle.bench_edits.proofs.Wholes.{parts_whole}
use Rattle.bench_instance.specs.StampedTexts.{stamped_state, written_of, AreSoundTexts, AreTextsSince, stamped_net, IsNodeThere}
use Rattle.bench_instance.specs.Lemmas.Commits.{are_written}
use Rattle.bench_instance.specs.Edited.{IsEdited}
use Rattle.bench_texts.specs.declared.edit.Edit.{Edit}

pub valid_of : (t : StampedTexts) → AreSoundTexts t → states.IsValidState (stamped_state t)
valid_of t sound =
    built_valid (stamped_state t) (readings_of t.parts.table.models.items t.texts.models.items)
    (sound.parts_are).built

pub texts_are_sound : (t : StampedTexts) → AreSoundTexts t → core.IsSoundNet makes (stamped_net t) (IsNodeThere t)
texts_are_sound t sound = keeping.states_are_sound (stamped_state t) (valid_of t sound)

whole_of : (t : StampedTexts) → AreSoundTexts t → IsWholeState (written_of t)
whole_of t sound =
    parts_whole t.parts t.texts.tests.items t.texts.models.items t.texts.next sound.parts_are
    (are_written t sound)

pub since_itself : (t : StampedTexts) → AreSoundTexts t → AreTextsSince t t
since_itself t sound = record {
  sound = sound;
  since = later.since_itself (written_of t) (whole_of t sound);
  same = λ e. record { texts = refl; tests = refl; models = refl };
  same_rows = λ e. record { tests = refl; models = refl };
}

pub given_stays : GivenStays AreSoundTexts AreTextsSince stamped_net
given_stays t u n g sound since same parts gives =
    later.given_is_kept (written_of t) (written_of u) n g since.since same parts gives

pub used_there : (t : StampedTexts) → AreSoundTexts t → Each (IsNodeThere t) (used t.parts.table)
used_there t sound = keeping.used_are_there (stamped_state t) (valid_of t sound)

pub used_closed : (t : StampedTexts) → AreSoundTexts t → IsUsedClosed (stamped_net t)
used_closed t sound =
    nodes.used_is_closed t.parts.table (λ n g. is_given (given_to_node (stamped_state t) n) g)
    (valid_of t sound).ordered

pub users_listed : (t : StampedTexts) → AreUsers (stamped_net t) (users t.parts.table)
users_listed t = nodes.users_are_among t.parts.table (λ n g. is_given (given_to_node (stamped_state t) n) g)

pub ranks_fall : (t : StampedTexts) → AreSoundTexts t → Falls (stamped_net t) (rank t.parts.table)
ranks_fall t sound =
    nodes.ranks_fall t.parts.table (λ n g. is_given (given_to_node (stamped_state t) n) g)
    (valid_of t sound).ordered

-- ---- edits

pub since_edited : (t u w : StampedTexts) (e : Edit) (number : ℕ) → AreTextsSince t u
    → IsEdited u e number w → AreTextsSince t w
since_edited t u w e number since after =
    let stamped = after.stamped since.sound in
    record {
      sound = after.sound since.sound;
      since =
          later.since_stamped (written_of t) (written_of u) (written_of w) number since.since
          stamped;
      same = λ e. absurd (omega (arith, e, stamped.last, stamped.above, since.since.later));
      same_rows = λ e. absurd (omega (arith, e, stamped.last, stamped.above, since.since.later));
    }

pub valid_edited : (t u : StampedTexts) (e : Edit) (number : ℕ) → AreSoundTexts t → IsEdited t e number u
    → AreSoundTexts u
valid_edited t u e number sound after = after.sound sound

pub goes_on : (t u : StampedTexts) (e : Edit) (number : ℕ) → AreSoundTexts t → IsEdited t e number u
    → PartsGoOn (stamped_net t) number (stamped_net u)
goes_on t u e number sound after =
    later.parts_go_on (written_of t) (written_of u) number (after.stamped sound)
