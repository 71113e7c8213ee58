-- Lines and commands, read one after another.
use Rattle.std.proofs.Common.{◌≡◌, ℕ, zero, suc, ◌+◌, ◌-◌, ◌<◌, ◌≤◌, List, [], ◌∷◌, ◌++◌, length, take, drop, Bool, true, false, Option, Some, None, Result, Ok, Err, IfOk, IfSome, refl, sym, ap, ◌∙◌, subst, arith, append_assoc}
use Rattle.std.specs.Prelude.{option_map}
use Rattle.std.specs.declared.alloc.Global.{Global}
use Rattle.std.specs.declared.vec.Vec.{Vec}
use Rattle.std.specs.Io.KnownBytes.{prepend_known, Consumes, IsAtEnd}
use Rattle.std.specs.List.{position_or_len}
use Rattle.std.proofs.lemmas.List.{take_all, length-drop, drop-drop, append-nil}
use Rattle.text_values.specs.Layout.{is_line_end}
use Rattle.session_script.specs.Lines.{lines_of, IsUnbroken, without_return}
use Rattle.session_script.specs.Reading.{IsPart, IsPaid, IsNextLine, HasText, IsCommandOfWords, IsNextCommand}
use Rattle.session_script.specs.Commands.{commands_from, commands_of, Between, ReadingText, is_dot, skips, is_skipped, kept_text, said_by, stage_behind}
use Rattle.session_script.specs.Requests.{has_text, request_of}
use Rattle.session_script.specs.Words.{words_of}
use Rattle.session_script.specs.declared.command.Command.{Command}
use Rattle.session_script.specs.declared.command.Command.TheVariants.{Asked, Refused}
use Rattle.session_script.specs.declared.command.ScriptRule.TheVariants.{NoCommand, NoTextEnd}
use Rattle.session_script.specs.declared.request.Request.{Request}
use Rattle.session_script.specs.declared.source.ReadFault.{ReadFault}
use Rattle.session_script.proofs.Broken.{ended_line, last_line, unbroken_joined, unbroken_line, cut_at_end}
use Rattle.session_script.proofs.Prefixes.{prefix_of_prefix}

-- ---- parts of a line

rest : (bs : List ℕ) (i : ℕ) → take (length bs - i) (drop i bs) ≡ drop i bs
rest bs i = take_all (length bs - i) (drop i bs) (let l = length-drop i bs in omega arith)

pub part_ends : (items its more before line : List ℕ) (start n : ℕ) → its ≡ items
    → n ≡ position_or_len is_line_end (take (length its - start) (drop start its))
    → n < length (take (length its - start) (drop start its))
    → more ≡ take n (take (length its - start) (drop start its)) → line ≡ before ++ more
    → IsPart true (drop start items) (drop (start + n + 1) items) before line
part_ends items its more before line start n same at inside prefix put =
    let part = take (length its - start) (drop start its) in
    let whole : part ≡ drop start items = rest its start ∙ ap (λ (l : List ℕ). drop start l) same in
    let cut : part ≡ take n part ++ 10 ∷ drop (suc n) part = cut_at_end part n at inside in
    let next : start + suc n ≡ start + n + 1 = omega arith in
    let behind : drop (suc n) part ≡ drop (start + n + 1) items =
    ap (λ (l : List ℕ). drop (suc n) l) whole ∙ drop-drop (suc n) start items
    ∙ ap (λ (k : ℕ). drop k items) next in (
      more,
      subst IsUnbroken (sym prefix) (unbroken_line part n at),
      put,
      sym whole ∙ cut ∙ ap (λ (l : List ℕ). l ++ 10 ∷ drop (suc n) part) (sym prefix)
          ∙ ap (λ (l : List ℕ). more ++ 10 ∷ l) behind,
    )

nothing : (bs : List ℕ) (n : ℕ) → length bs ≤ n → drop n bs ≡ []
nothing [] zero h = refl
nothing [] (suc n) h = refl
nothing (b ∷ bs) zero h = absurd (omega arith)
nothing (b ∷ bs) (suc n) h = nothing bs n (omega arith)

pub part_goes_on : (items its more before line : List ℕ) (start n : ℕ) → start ≤ length items
    → its ≡ items → n ≡ position_or_len is_line_end (take (length its - start) (drop start its))
    → length (take (length its - start) (drop start its)) ≤ n
    → more ≡ take n (take (length its - start) (drop start its)) → line ≡ before ++ more
    → IsPart false (drop start items) (drop (start + n) items) before line
part_goes_on items its more before line start n within same at all_of prefix put =
    let part = take (length its - start) (drop start its) in
    let whole : part ≡ drop start items = rest its start ∙ ap (λ (l : List ℕ). drop start l) same in
    let size : length part ≡ length items - start = ap (λ (l : List ℕ). length l) whole ∙ length-drop start items in
    let all_taken : take n part ≡ part = take_all n part all_of in (
      more,
      subst IsUnbroken (sym prefix) (unbroken_line part n at),
      put,
      sym whole ∙ sym all_taken ∙ sym prefix,
      nothing items (start + n) (omega arith),
    )

-- ---- whole lines

-- the line's end is found
pub line_ended : (first source : Option (List ℕ)) (old new before line ended : List ℕ)
    → Consumes first (prepend_known old source) before → IsUnbroken before
    → IsPart true old new before line → ended ≡ without_return line
    → IsNextLine first (prepend_known new source) (Some ended)
line_ended None source old new before line ended h unbroken part e = tt
line_ended (Some whole) None old new before line ended h unbroken part e = absurd h
line_ended (Some whole) (Some left) old new before line ended h unbroken (more, clear, put, cut) e =
    let joined : whole ≡ line ++ 10 ∷ (new ++ left) =
    h ∙ ap (λ (l : List ℕ). before ++ (l ++ left)) cut
    ∙ ap (λ (l : List ℕ). before ++ l) (append_assoc more (10 ∷ new) left)
    ∙ sym (append_assoc before more (10 ∷ (new ++ left)))
    ∙ ap (λ (l : List ℕ). l ++ 10 ∷ (new ++ left)) (sym put) in
    let clean : IsUnbroken line = subst IsUnbroken (sym put) (unbroken_joined before more unbroken clear) in
    ap (λ (l : List ℕ). lines_of l) joined ∙ ended_line line (new ++ left) clean
    ∙ ap (λ (l : List ℕ). l ∷ lines_of (new ++ left)) (sym e)

pub line_ended_if : (first source : Option (List ℕ)) (old new before line ended : List ℕ) (b : Bool)
    → b ≡ true → Consumes first (prepend_known old source) before → IsUnbroken before
    → IsPart b old new before line → ended ≡ without_return line
    → IsNextLine first (prepend_known new source) (Some ended)
line_ended_if first source old new before line ended true e h unbroken part is =
    line_ended first source old new before line ended h unbroken part is
line_ended_if first source old new before line ended false e h unbroken part is = absurd (cc)

pub part_is_open : (old new before line : List ℕ) (b : Bool) → b ≡ false
    → IsPart b old new before line → IsPart false old new before line
part_is_open old new before line false e part = part
part_is_open old new before line true e part = absurd (cc)

-- the line goes on with what is read next
pub line_goes_on : (first source after : Option (List ℕ)) (old new before line filled : List ℕ)
    → Consumes first (prepend_known old source) before → IsPart false old new before line
    → Consumes source after filled → Consumes first (prepend_known filled after) line
line_goes_on None source after old new before line filled h part read = tt
line_goes_on (Some whole) None after old new before line filled h part read = absurd h
line_goes_on (Some whole) (Some left) None old new before line filled h part read = absurd read
line_goes_on (Some whole) (Some left) (Some last) old new before line filled h
    (more, clear, put, all_of, none) read =
    h ∙ ap (λ (l : List ℕ). before ++ (l ++ left)) all_of ∙ sym (append_assoc before more left)
    ∙ ap (λ (l : List ℕ). l ++ left) (sym put) ∙ ap (λ (l : List ℕ). line ++ l) read

pub line_is_unbroken : (old new before line : List ℕ) → IsUnbroken before
    → IsPart false old new before line → IsUnbroken line
line_is_unbroken old new before line unbroken (more, clear, put, all_of, none) =
    subst IsUnbroken (sym put) (unbroken_joined before more unbroken clear)

-- the bytes end
whole_line : (line : List ℕ) → 0 < length line → IsUnbroken line → lines_of line ≡ line ∷ []
whole_line [] some h = absurd (omega arith)
whole_line (b ∷ bs) some h = last_line b bs h

pub line_is_last : (first left : Option (List ℕ)) (line : List ℕ) → Consumes first left line
    → IsAtEnd left → IsUnbroken line → 0 < length line → IsNextLine first left (Some line)
line_is_last None left line h end unbroken some = tt
line_is_last (Some whole) None line h end unbroken some = absurd h
line_is_last (Some whole) (Some left) line h end unbroken some =
    let all_of : whole ≡ line = h ∙ ap (λ (l : List ℕ). line ++ l) end ∙ append-nil line in
    ap (λ (l : List ℕ). lines_of l) all_of ∙ whole_line line some unbroken
    ∙ ap (λ (l : List ℕ). line ∷ lines_of l) (sym end)

pub at_end : (waiting : List ℕ) (source : Option (List ℕ)) → waiting ≡ [] → IsAtEnd source
    → IsAtEnd (prepend_known waiting source)
at_end waiting None e h = tt
at_end waiting (Some left) e h = ap (λ (l : List ℕ). l ++ left) e ∙ h

pub nothing_read : (left : Option (List ℕ)) (line : List ℕ) → line ≡ [] → Consumes left left line
nothing_read None line e = tt
nothing_read (Some bytes) line e = ap (λ (l : List ℕ). l ++ bytes) (sym e)

abbrev items_of : Option (Vec ℕ Global) → Option (List ℕ)
items_of read = option_map (λ l. l.items) read

pub read_nothing : (first left : Option (List ℕ)) (read : Option (Vec ℕ Global)) → read ≡ None
    → IsNextLine first left (option_map (λ l. l.items) read) → IsNextLine first left None
read_nothing first left read e h =
    subst (λ (o : Option (Vec ℕ Global)). IsNextLine first left (items_of o)) e h

pub read_one : (first left : Option (List ℕ)) (read : Option (Vec ℕ Global)) (line : Vec ℕ Global)
    → read ≡ Some line → IsNextLine first left (option_map (λ l. l.items) read)
    → IsNextLine first left (Some line.items)
read_one first left read line e h =
    subst (λ (o : Option (Vec ℕ Global)). IsNextLine first left (items_of o)) e h

-- ---- texts

-- behind these lines of the text of a request, so much of the text is kept
abbrev pub InText : Option (List ℕ) → Option (List ℕ) → Request → List ℕ → Type 0
InText None now r kept = Unit {0}
InText (Some first) None r kept = ⊥
InText (Some first) (Some now) r kept =
    (text : List ℕ) × (kept ≡ kept_text text)
    × (commands_from (ReadingText r []) (lines_of first)
    ≡ commands_from (ReadingText r text) (lines_of now))

none_kept : (kept : List ℕ) → kept ≡ [] → kept ≡ kept_text []
unfolding kept_text
none_kept kept e = e

pub text_begins : (left : Option (List ℕ)) (r : Request) (kept : List ℕ) → kept ≡ []
    → InText left left r kept
text_begins None r kept e = tt
text_begins (Some bytes) r kept e = ([], none_kept kept e, refl)

text_line : (r : Request) (text line : List ℕ) (lines : List (List ℕ)) → is_dot line ≡ false
    → commands_from (ReadingText r text) (line ∷ lines)
    ≡ commands_from (ReadingText r (text ++ line ++ 10 ∷ [])) lines
text_line r text line lines e = rw e refl

dot_line : (r : Request) (text line : List ℕ) (lines : List (List ℕ)) → is_dot line ≡ true
    → commands_from (ReadingText r text) (line ∷ lines)
    ≡ Asked r (kept_text text) ∷ commands_from Between lines
dot_line r text line lines e = rw e refl

kept_at : (most : ℕ) (text line : List ℕ)
    → take most (take most text ++ line ++ 10 ∷ []) ≡ take most (text ++ line ++ 10 ∷ [])
kept_at most text line =
    ap (λ (l : List ℕ). take most l) (append_assoc (take most text) line (10 ∷ []))
    ∙ prefix_of_prefix most text (line ++ 10 ∷ [])
    ∙ ap (λ (l : List ℕ). take most l) (sym (append_assoc text line (10 ∷ [])))

kept_on : (kept text more line : List ℕ) → kept ≡ kept_text text
    → more ≡ take 65537 (kept ++ line ++ 10 ∷ []) → more ≡ kept_text (text ++ line ++ 10 ∷ [])
unfolding kept_text
kept_on kept text more line is put =
    put ∙ ap (λ (l : List ℕ). take 65537 (l ++ line ++ 10 ∷ [])) is ∙ kept_at 65537 text line

pub text_goes_on : (first now next : Option (List ℕ)) (r : Request) (kept more line : List ℕ)
    → InText first now r kept → IsNextLine now next (Some line) → is_dot line ≡ false
    → more ≡ take 65537 (kept ++ line ++ 10 ∷ []) → InText first next r more
text_goes_on None now next r kept more line h read e put = tt
text_goes_on (Some first) None next r kept more line h read e put = absurd h
text_goes_on (Some first) (Some now) None r kept more line h read e put = absurd read
text_goes_on (Some first) (Some now) (Some next) r kept more line (text, is, same) read e put = (
  text ++ line ++ 10 ∷ [],
  kept_on kept text more line is put,
  same ∙ ap (λ (ls : List (List ℕ)). commands_from (ReadingText r text) ls) read
      ∙ text_line r text line (lines_of next) e,
)

pub text_ends : (first now next : Option (List ℕ)) (r : Request) (kept line : List ℕ)
    → InText first now r kept → IsNextLine now next (Some line) → is_dot line ≡ true
    → HasText first next r (Asked r kept)
text_ends None now next r kept line h read e = tt
text_ends (Some first) None next r kept line h read e = absurd h
text_ends (Some first) (Some now) None r kept line h read e = absurd read
text_ends (Some first) (Some now) (Some next) r kept line (text, is, same) read e =
    same ∙ ap (λ (ls : List (List ℕ)). commands_from (ReadingText r text) ls) read
    ∙ dot_line r text line (lines_of next) e
    ∙ ap (λ (l : List ℕ). Asked r l ∷ commands_of next) (sym is)

pub text_given : (first now next : Option (List ℕ)) (r : Request) (kept line given : List ℕ)
    → InText first now r kept → IsNextLine now next (Some line) → is_dot line ≡ true → given ≡ kept
    → HasText first next r (Asked r given)
text_given first now next r kept line given h read e is =
    subst (λ (l : List ℕ). HasText first next r (Asked r l)) (sym is)
    (text_ends first now next r kept line h read e)

pub text_is_cut_off : (first now next : Option (List ℕ)) (r : Request) (kept : List ℕ)
    → InText first now r kept → IsNextLine now next None → HasText first next r (Refused NoTextEnd)
text_is_cut_off None now next r kept h read = tt
text_is_cut_off (Some first) None next r kept h read = absurd h
text_is_cut_off (Some first) (Some now) None r kept h read = absurd read
text_is_cut_off (Some first) (Some now) (Some next) r kept (text, is, same) read =
    same ∙ ap (λ (ls : List (List ℕ)). commands_from (ReadingText r text) ls) read.0
    ∙ ap (λ (ls : List (List ℕ)). Refused NoTextEnd ∷ commands_from Between ls) (sym read.1)

-- ---- commands

pub no_command : (left : Option (List ℕ)) (words : List (List ℕ)) → None ≡ request_of words
    → IsCommandOfWords left left words (Refused NoCommand)
no_command None words e = tt
no_command (Some bytes) words e =
    ap (λ (o : Option Request). said_by o ++ commands_from (stage_behind o) (lines_of bytes))
    (sym e)

text_said : (r : Request) (bytes : List ℕ) → has_text r ≡ true
    → said_by (Some r) ++ commands_from (stage_behind (Some r)) (lines_of bytes)
    ≡ commands_from (ReadingText r []) (lines_of bytes)
text_said r bytes e = rw e refl

behind_words : (old new : Option (List ℕ)) (words : List (List ℕ)) (r : Request) (c : Command)
    → Some r ≡ request_of words → has_text r ≡ true → HasText old new r c → IsCommandOfWords old new words c
behind_words None new words r c e f h = tt
behind_words (Some old) None words r c e f h = absurd h
behind_words (Some old) (Some new) words r c e f h =
    ap (λ (o : Option Request). said_by o ++ commands_from (stage_behind o) (lines_of old)) (sym e)
    ∙ text_said r old f ∙ h

pub text_answered : (old new : Option (List ℕ)) (words : List (List ℕ)) (r : Request)
    (result : Result Command ReadFault) → Some r ≡ request_of words → has_text r ≡ true
    → IfOk result (HasText old new r) → IfOk result (IsCommandOfWords old new words)
text_answered old new words r (Ok command) e f h = behind_words old new words r command e f h
text_answered old new words r (Err fault) e f h = tt

-- the commands that are left are those that were left at first
abbrev pub AreSame : Option (List ℕ) → Option (List ℕ) → Type 0
AreSame None now = Unit {0}
AreSame (Some first) None = ⊥
AreSame (Some first) (Some now) = commands_of first ≡ commands_of now

line_said : (line : List ℕ) (lines : List (List ℕ)) → is_skipped line ≡ false
    → commands_from Between (line ∷ lines)
    ≡ said_by (request_of (words_of line))
    ++ commands_from (stage_behind (request_of (words_of line))) lines
line_said line lines e = rw e refl

pub line_answered : (first now next last : Option (List ℕ)) (line : List ℕ) (words : List (List ℕ))
    (c : Command) → AreSame first now → IsNextLine now next (Some line) → words ≡ words_of line
    → skips line words ≡ false → IsCommandOfWords next last words c → IsNextCommand first last (Some c)
line_answered None now next last line words c h read w e said = tt
line_answered (Some first) None next last line words c h read w e said = absurd h
line_answered (Some first) (Some now) None last line words c h read w e said = absurd read
line_answered (Some first) (Some now) (Some next) None line words c h read w e said = absurd said
line_answered (Some first) (Some now) (Some next) (Some last) line words c h read w e said =
    h ∙ ap (λ (ls : List (List ℕ)). commands_from Between ls) read
    ∙ line_said line (lines_of next) (ap (λ (ws : List (List ℕ)). skips line ws) (sym w) ∙ e)
    ∙ ap
    (λ (ws : List (List ℕ)). said_by (request_of ws)
    ++ commands_from (stage_behind (request_of ws)) (lines_of next))
    (sym w) ∙ said

-- ---- turns

pub paid_none : (turns : ℕ) (left : Option (List ℕ)) → IsPaid turns turns left left
paid_none turns None = tt
paid_none turns (Some bytes) = omega arith

pub paid_on : (turns mid now : ℕ) (first between last : Option (List ℕ))
    → IsPaid turns mid first between → IsPaid mid now between last → IsPaid turns now first last
paid_on turns mid now None between last h k = tt
paid_on turns mid now (Some first) None last h k = absurd h
paid_on turns mid now (Some first) (Some between) None h k = absurd k
paid_on turns mid now (Some first) (Some between) (Some last) h k = omega arith

pub paid_after : (turns before mid now : ℕ) (first between last : Option (List ℕ))
    → IsPaid turns before first between → mid ≡ before → IsPaid mid now between last
    → IsPaid turns now first last
paid_after turns before mid now first between last h e k =
    paid_on turns before now first between last h (subst (λ (n : ℕ). IsPaid n now between last) e k)

pub paid_to_end : (turns mid : ℕ) (first between : Option (List ℕ)) → IsPaid turns mid first between
    → IfSome between (λ all. mid ≤ length all) → IfSome first (λ all. turns ≤ length all)
paid_to_end turns mid None between h k = tt
paid_to_end turns mid (Some first) None h k = absurd h
paid_to_end turns mid (Some first) (Some between) h k = omega arith

-- no turn is left
pub no_turn : (turns : ℕ) (left : Option (List ℕ)) → turns ≡ 0
    → IfSome left (λ all. turns ≤ length all)
no_turn turns None e = tt
no_turn turns (Some all) e = omega arith
