-- A script that is answered command by command.
use Rattle.std.proofs.Common.{◌≡◌, ◌≢◌, ℕ, ◌+◌, ◌≤◌, List, [], ◌∷◌, ◌++◌, length, take, Bool, false, ◌||◌, inl, inr, Option, Some, None, Err, IfSome, refl, sym, ap, ◌∙◌, subst, append_assoc, arith}
use Rattle.std.proofs.lemmas.List.{append-nil}
use Rattle.std.specs.Io.KnownBytes.{prepend_known, Keeps, Appends}
use Rattle.session_script.specs.declared.command.Command.{Command}
use Rattle.session_script.specs.Commands.{commands_of}
use Rattle.session_script.specs.Calls.{AreTurnsCalled}
use Rattle.session_script.specs.Reading.{IsNextCommand, IsPaid}
use Rattle.bench_texts.specs.BenchTexts.{BenchTexts, no_texts}
use Rattle.session_answers.specs.Sessions.{IsOutput, Nothing, OneMore}
use Rattle.command_line.specs.declared.fault.SessionFault.{SessionFault}
use Rattle.command_line.specs.declared.fault.SessionFault.TheVariants as faults
use Rattle.session_edits.specs.Answer.{SessionAnswer}
use Rattle.session_run.specs.Sessions.{IsWholeSession, IsSessionPrefix, IsSession, IsReplied, IsReplyStopped, IsTurnFault}
use Rattle.command_answers.specs.Answer.{IsReadFault}
use Rattle.session_script.proofs.Calls.{called_none, called_to_end}
use Rattle.session_script.proofs.Joined.{appends_joined}

-- of the bytes that were left at first these commands are read, and those bytes are left now
abbrev pub AreRead : Option (List ℕ) → List Command → Option (List ℕ) → Type 0
AreRead None first now = Unit {0}
AreRead (Some script) first None = ⊥
AreRead (Some script) first (Some rest) = commands_of script ≡ first ++ commands_of rest

-- the commands so far are answered, over these texts the next one is
pub record IsUnderWay (left now old new : Option (List ℕ)) (texts : BenchTexts) (refused : Bool)
    : Type 0 where
  pub first : List Command
  pub text : List ℕ
  pub output : IsOutput first text refused texts
  pub read : AreRead left first now
  pub written : Appends old new text

nothing_written : (old : Option (List ℕ)) → Appends old old []
nothing_written None = tt
nothing_written (Some bytes) = sym (append-nil bytes)

nothing_read : (left : Option (List ℕ)) → AreRead left [] (prepend_known [] left)
nothing_read None = tt
nothing_read (Some script) = refl

pub begins : (left old : Option (List ℕ)) (waiting : List ℕ) (texts : BenchTexts) → waiting ≡ []
    → texts ≡ no_texts → IsUnderWay left (prepend_known waiting left) old old texts false
begins left old waiting texts w t = record {
  first = [];
  text = [];
  output = subst (λ (x : BenchTexts). IsOutput [] [] false x) (sym t) Nothing;
  read = subst (λ (l : List ℕ). AreRead left [] (prepend_known l left)) (sym w) (nothing_read left);
  written = nothing_written old;
}

-- ---- the commands that are left

abbrev others_in : Option (List ℕ) → List Command
others_in None = []
others_in (Some rest) = commands_of rest

all_read : (left now : Option (List ℕ)) (first : List Command) → AreRead left first now
    → IfSome left (λ script. commands_of script ≡ first ++ others_in now)
all_read None now first h = tt
all_read (Some script) None first h = absurd h
all_read (Some script) (Some rest) first h = h

-- no command is left
none_left : (left now next : Option (List ℕ)) (first : List Command) → AreRead left first now
    → IsNextCommand now next None → IfSome left (λ script. commands_of script ≡ first ++ [])
none_left None now next first h read = tt
none_left (Some script) None next first h read = absurd h
none_left (Some script) (Some rest) None first h read = absurd read
none_left (Some script) (Some rest) (Some end) first h read =
    h ∙ ap (λ (cs : List Command). first ++ cs) read.0

-- one is left, and the others
one_left : (left now next : Option (List ℕ)) (first : List Command) (command : Command)
    → AreRead left first now → IsNextCommand now next (Some command)
    → IfSome left (λ script. commands_of script ≡ first ++ command ∷ others_in next)
one_left None now next first command h read = tt
one_left (Some script) None next first command h read = absurd h
one_left (Some script) (Some rest) None first command h read = absurd read
one_left (Some script) (Some rest) (Some end) first command h read =
    h ∙ ap (λ (cs : List Command). first ++ cs) read

one_read : (left now next : Option (List ℕ)) (first : List Command) (command : Command)
    → AreRead left first now → IsNextCommand now next (Some command)
    → AreRead left (first ++ command ∷ []) next
one_read None now next first command h read = tt
one_read (Some script) None next first command h read = absurd h
one_read (Some script) (Some rest) None first command h read = absurd read
one_read (Some script) (Some rest) (Some end) first command h read =
    h ∙ ap (λ (cs : List Command). first ++ cs) read
    ∙ sym (append_assoc first (command ∷ []) (commands_of end))

still_written : (old mid new : Option (List ℕ)) (text : List ℕ) → Appends old mid text
    → Keeps mid new → Appends old new text
still_written None mid new text h k = tt
still_written (Some xs) None new text h k = absurd h
still_written (Some xs) (Some ys) None text h k = absurd k
still_written (Some xs) (Some ys) (Some zs) text h k = k ∙ h

-- ---- where a session ends

pub ended : (left now next old new : Option (List ℕ)) (texts : BenchTexts) (refused : Bool)
    → IsUnderWay left now old new texts refused → IsNextCommand now next None
    → IsWholeSession left old new refused
ended left now next old new texts refused h read = record {
  text = h.text;
  texts = texts;
  begun =
      record {
        first = h.first;
        commands = none_left left now next h.first h.read read;
        output = h.output;
      };
  written = h.written;
}

stands : (left now old new : Option (List ℕ)) (texts : BenchTexts) (refused : Bool)
    → IsUnderWay left now old new texts refused → IsSessionPrefix left old new
stands left now old new texts refused h = record {
  others = others_in now;
  text = h.text;
  refused = refused;
  texts = texts;
  begun =
      record { first = h.first; commands = all_read left now h.first h.read; output = h.output };
  written = h.written;
}

-- before the first command
pub not_begun : (left old : Option (List ℕ)) → IsSession left old old (Err faults.Memory)
not_begun left old =
    stands left (prepend_known [] left) old old no_texts false
    (begins left old [] no_texts refl refl)

-- after a fault of reading
pub read_fails : (left now old new : Option (List ℕ)) (texts : BenchTexts) (refused : Bool)
    (fault : SessionFault) → fault ≢ faults.Write → fault ≢ faults.Shared
    → IsUnderWay left now old new texts refused → IsSession left old new (Err fault)
read_fails left now old new texts refused faults.Read other unshared h =
    stands left now old new texts refused h
read_fails left now old new texts refused faults.Memory other unshared h =
    stands left now old new texts refused h
read_fails left now old new texts refused faults.Shared other unshared h = absurd (unshared refl)
read_fails left now old new texts refused faults.Write other unshared h = absurd (other refl)

-- the next command is not answered
unanswered : (left now next old mid new : Option (List ℕ)) (texts : BenchTexts) (refused : Bool)
    (command : Command)
    → IsUnderWay left now old mid texts refused → IsNextCommand now next (Some command) → Keeps mid new
    → IsSessionPrefix left old new
unanswered left now next old mid new texts refused command h read kept = record {
  others = command ∷ others_in next;
  text = h.text;
  refused = refused;
  texts = texts;
  begun =
      record {
        first = h.first;
        commands = one_left left now next h.first command h.read read;
        output = h.output;
      };
  written = still_written old mid new h.text h.written kept;
}

-- after a fault of an answer
pub reply_fails : (left now next old mid new : Option (List ℕ)) (texts : BenchTexts)
    (refused : Bool) (command : Command) (fault : SessionFault)
    → IsUnderWay left now old mid texts refused → IsNextCommand now next (Some command)
    → IsReplyStopped texts command mid new fault → IsSession left old new (Err fault)
reply_fails left now next old mid new texts refused command faults.Read h read reply = absurd reply
reply_fails left now next old mid new texts refused command faults.Memory h read reply =
    unanswered left now next old mid new texts refused command h read reply
reply_fails left now next old mid new texts refused command faults.Shared h read reply = record {
  command = command;
  others = others_in next;
  text = h.text;
  refused = refused;
  texts = texts;
  begun =
      record {
        first = h.first;
        commands = one_left left now next h.first command h.read read;
        output = h.output;
      };
  needed = reply.0;
  written = still_written old mid new h.text h.written reply.1;
}
reply_fails left now next old mid new texts refused command faults.Write h read
    (after, said, answer, front) = record {
      command = command;
      others = others_in next;
      text = h.text;
      refused = refused;
      texts = texts;
      begun =
          record {
            first = h.first;
            commands = one_left left now next h.first command h.read read;
            output = h.output;
          };
      said = said;
      after = after;
      answer = answer;
      count = front.0;
      within = front.1;
      written = appends_joined old mid new h.text (take front.0 said.text) h.written front.2;
    }

-- one command more is answered
pub goes_on : (left now next old mid new : Option (List ℕ)) (texts after : BenchTexts)
    (before both : Bool) (command : Command) (said : SessionAnswer)
    → IsUnderWay left now old mid texts before → IsNextCommand now next (Some command)
    → IsReplied texts after command mid new said → both ≡ (before || said.refused)
    → IsUnderWay left next old new after both
goes_on left now next old mid new texts after before both command said h read (answer, whole) e =
    record {
      first = h.first ++ command ∷ [];
      text = h.text ++ said.text;
      output =
          subst (λ (b : Bool). IsOutput (h.first ++ command ∷ []) (h.text ++ said.text) b after)
          (sym e)
          (OneMore h.first h.text before texts command said after h.output answer);
      read = one_read left now next h.first command h.read read;
      written = appends_joined old mid new h.text said.text h.written whole;
    }

-- ---- turns

pub starts_paid : (turns : ℕ) (left : Option (List ℕ)) → turns ≡ 16777216
    → IsPaid 16777216 turns left left
starts_paid turns None e = tt
starts_paid turns (Some bytes) e = omega arith

pub paid_on : (turns mid now : ℕ) (first between last : Option (List ℕ))
    → IsPaid turns mid first between → IsPaid mid now between last → IsPaid turns now first last
paid_on turns mid now None between last h k = tt
paid_on turns mid now (Some first) None last h k = absurd h
paid_on turns mid now (Some first) (Some between) None h k = absurd k
paid_on turns mid now (Some first) (Some between) (Some last) h k = omega arith

paid_to_end : (turns mid : ℕ) (first between : Option (List ℕ)) → IsPaid turns mid first between
    → IfSome between (λ all. mid ≤ length all) → IfSome first (λ all. turns ≤ length all)
paid_to_end turns mid None between h k = tt
paid_to_end turns mid (Some first) None h k = absurd h
paid_to_end turns mid (Some first) (Some between) h k = omega arith

-- no turn was taken yet
pub starts_called : (turns calls : ℕ) → turns ≡ 16777216 → AreTurnsCalled 16777216 turns calls calls
starts_called turns calls e =
    subst (λ (n : ℕ). AreTurnsCalled 16777216 n calls calls) (sym e) (called_none 16777216 calls)

-- no read failed before, and each turn that was taken was a call that gave a byte
pub read_refused : (mid first now new calls between_calls last : ℕ)
    (left between : Option (List ℕ)) → IsPaid 16777216 mid left between
    → AreTurnsCalled 16777216 mid calls between_calls → now ≡ first
    → IsTurnFault mid now new between_calls last between → IsReadFault first new calls last left
read_refused mid first now new calls between_calls last left between paid called e (inl failed) =
    inl (failed ∙ ap (λ (n : ℕ). n + 1) e)
read_refused mid first now new calls between_calls last left between paid called e (inr h) =
    inr (
      h.0 ∙ e,
      called_to_end 16777216 mid calls between_calls last called h.1,
      paid_to_end 16777216 mid left between paid h.2,
    )
