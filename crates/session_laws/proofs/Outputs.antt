-- Commands have one output.
use Rattle.std.proofs.Common.{◌≡◌, ℕ, List, [], ◌∷◌, ◌++◌, Bool, false, ◌||◌, refl, sym, ap, ◌∙◌, subst}
use Rattle.std.proofs.lemmas.List.{append_assoc, append-nil}
use Rattle.session_script.specs.declared.command.Command.{Command}
use Rattle.session_script.specs.declared.command.Command.TheVariants as commands
use Rattle.bench_texts.specs.BenchTexts.{BenchTexts, no_texts}
use Rattle.bench_texts.specs.Edits.{Edit}
use Rattle.bench_texts.specs.declared.fault.EditFault.{EditFault}
use Rattle.session_edits.specs.Answer.{SessionAnswer, refusal_answer}
use Rattle.session_edits.specs.Faults.{fault_line}
use Rattle.session_edits.specs.Edits.{IsEditAnswer, IsAccepted, IsRefused}
use Rattle.session_edits.specs.Requests.{RequestAsked, Editing, Asking, request_meaning}
use Rattle.session_answers.specs.Sessions.{IsRequestAnswer, IsCommandAnswer, IsOutput, Nothing, OneMore}
use Rattle.session_laws.specs.Laws.{HasOneOutput, BeginsAlike}
use Rattle.session_laws.specs.Laws.{AreFew}
use Rattle.session_laws.proofs.Edits.{few_made, one_made}
use Rattle.session_laws.proofs.Lists.{not_empty, last_one}
use Rattle.session_laws.proofs.Refusals.{one_refusal, not_both}
use Rattle.session_laws.proofs.Replies.{one_reply}

-- ---- one command

-- the same answer, and the same texts after it
record AreOne (a b : SessionAnswer) (after later : BenchTexts) : Type 0 where
  answer : a ≡ b
  texts : after ≡ later

one_edited : (t : BenchTexts) (e : Edit) (a b : SessionAnswer) (after later : BenchTexts) → AreFew t.tests
    → IsEditAnswer t e a after → IsEditAnswer t e b later → AreOne a b after later
one_edited t e a b after later few (IsAccepted h x) (IsAccepted k y) =
    record { answer = x ∙ sym y; texts = one_made t e after later few h.makes k.makes }
one_edited t e a b after later few (IsAccepted h x) (IsRefused fault is k y z) =
    absurd (not_both t few e after fault is h k)
one_edited t e a b after later few (IsRefused fault is k y z) (IsAccepted h x) =
    absurd (not_both t few e later fault is h k)
one_edited t e a b after later few (IsRefused fault is h x w) (IsRefused other so k y z) =
    record { answer = x ∙ ap (λ (f : EditFault). refusal_answer (fault_line f)) (one_refusal t few e fault other is so h k) ∙ sym y; texts = w ∙ sym z }

one_asked : (t : BenchTexts) (q : RequestAsked) (a b : SessionAnswer) (after later : BenchTexts) → AreFew t.tests
    → IsRequestAnswer t q a after → IsRequestAnswer t q b later → AreOne a b after later
one_asked t (Editing e) a b after later few h k = one_edited t e a b after later few h k
one_asked t (Asking q) a b after later few h k =
    record { answer = one_reply t q a b h.0 k.0; texts = h.1 ∙ sym k.1 }

one_answered : (t : BenchTexts) (c : Command) (a b : SessionAnswer) (after later : BenchTexts)
    → AreFew t.tests → IsCommandAnswer t c a after → IsCommandAnswer t c b later → AreOne a b after later
one_answered t (commands.Refused rule) a b after later few h k =
    record { answer = h.0 ∙ sym k.0; texts = h.1 ∙ sym k.1 }
one_answered t (commands.Asked request text) a b after later few h k =
    one_asked t (request_meaning request text) a b after later few h k

few_edited : (t : BenchTexts) (e : Edit) (a : SessionAnswer) (after : BenchTexts) → AreFew t.tests
    → IsEditAnswer t e a after → AreFew after.tests
few_edited t e a after few (IsAccepted h x) = few_made t e after h.all_there few h.makes
few_edited t e a after few (IsRefused fault is k y z) =
    subst (λ (u : BenchTexts). AreFew u.tests) (sym z) few

few_asked : (t : BenchTexts) (q : RequestAsked) (a : SessionAnswer) (after : BenchTexts) → AreFew t.tests
    → IsRequestAnswer t q a after → AreFew after.tests
few_asked t (Editing e) a after few h = few_edited t e a after few h
few_asked t (Asking q) a after few h = subst (λ (u : BenchTexts). AreFew u.tests) (sym h.1) few

few_answered : (t : BenchTexts) (c : Command) (a : SessionAnswer) (after : BenchTexts) → AreFew t.tests
    → IsCommandAnswer t c a after → AreFew after.tests
few_answered t (commands.Refused rule) a after few h =
    subst (λ (u : BenchTexts). AreFew u.tests) (sym h.1) few
few_answered t (commands.Asked request text) a after few h =
    few_asked t (request_meaning request text) a after few h

few_output : (cs : List Command) (text : List ℕ) (r : Bool) (t : BenchTexts) → IsOutput cs text r t
    → AreFew t.tests
few_output cs text r t Nothing = tt
few_output cs text r t (OneMore prefix before refused texts c said after h answer) =
    few_answered texts c said after (few_output prefix before refused texts h) answer

-- ---- outputs

record IsOne (a b : List ℕ) (p q : Bool) (t u : BenchTexts) : Type 0 where
  text : a ≡ b
  refused : p ≡ q
  texts : t ≡ u

one_more : (c d : Command) (a b : List ℕ) (p q : Bool) (t u : BenchTexts) (s z : SessionAnswer)
    (after later : BenchTexts) → c ≡ d → AreFew t.tests → IsOne a b p q t u
    → IsCommandAnswer t c s after → IsCommandAnswer u d z later
    → IsOne (a ++ s.text) (b ++ z.text) (p || s.refused) (q || z.refused) after later
one_more c d a b p q t u s z after later ends few same h k =
    let moved : IsCommandAnswer t c z later = subst (λ (e : Command). IsCommandAnswer t e z later) (sym ends) (subst (λ (v : BenchTexts). IsCommandAnswer v d z later) (sym same.texts) k) in
    let one = one_answered t c s z after later few h moved in
    record {
      text = ap (λ (l : List ℕ). l ++ s.text) same.text ∙ ap (λ (x : SessionAnswer). b ++ x.text) one.answer;
      refused =
          ap (λ (r : Bool). r || s.refused) same.refused ∙ ap (λ (x : SessionAnswer). q || x.refused)
          one.answer;
      texts = one.texts;
    }

one_output : (cs : List Command) (a : List ℕ) (p : Bool) (t : BenchTexts) → IsOutput cs a p t
    → (ds : List Command) (b : List ℕ) (q : Bool) (u : BenchTexts) → IsOutput ds b q u → cs ≡ ds
    → IsOne a b p q t u
one_output cs a p t Nothing ds b q u Nothing e =
    record { text = refl; refused = refl; texts = refl }
one_output cs a p t Nothing ds b q u (OneMore other text2 refused2 texts2 d said2 later h2 answer2)
    e = absurd (not_empty other d e)
one_output cs a p t (OneMore prefix text1 refused1 texts1 c said1 after h1 answer1) ds b q u Nothing
    e = absurd (not_empty prefix c (sym e))
one_output cs a p t (OneMore prefix text1 refused1 texts1 c said1 after h1 answer1) ds b q u
    (OneMore other text2 refused2 texts2 d said2 later h2 answer2) e =
    let l = last_one prefix other c d e in
    let same = one_output prefix text1 refused1 texts1 h1 other text2 refused2 texts2 h2 l.prefixes in
    one_more c d text1 text2 refused1 refused2 texts1 texts2 said1 said2 after later l.ends
    (few_output prefix text1 refused1 texts1 h1) same answer1 answer2

pub one_output_said : (cs : List Command) → HasOneOutput cs
one_output_said cs a b p q t u h g =
    let r = one_output cs a p t h cs b q u g refl in (r.text, r.refused, r.texts)

-- ---- first commands

-- the output of the first commands, in front of that of all
record IsPrefixOf (first : List Command) (whole : List ℕ) : Type 0 where
  text : List ℕ
  refused : Bool
  texts : BenchTexts
  output : IsOutput first text refused texts
  rest : List ℕ
  split : whole ≡ text ++ rest

cut_last : (first others prefix : List Command) (c x : Command)
    → (first ++ x ∷ others) ≡ (prefix ++ c ∷ []) → (ys : List Command) × (prefix ≡ first ++ ys)
cut_last [] others prefix c x e = (prefix, refl)
cut_last (f ∷ first) others [] c x e =
    absurd (some_command first others x (let h : [] ≡ (first ++ x ∷ others) = cc in h))
  where
    some_command : (cs ds : List Command) (y : Command) → [] ≡ (cs ++ y ∷ ds) → ⊥
    some_command [] ds y k = absurd cc
    some_command (z ∷ cs) ds y k = absurd cc
cut_last (f ∷ first) others (g ∷ prefix) c x e =
    let heads : g ≡ f = cc in
    let rest : (first ++ x ∷ others) ≡ (prefix ++ c ∷ []) = cc in
    let r = cut_last first others prefix c x rest in
    (r.0, λ i. heads i ∷ r.1 i)

prefix_output : (cs : List Command) (whole : List ℕ) (p : Bool) (t : BenchTexts)
    → IsOutput cs whole p t → (first others : List Command) → cs ≡ first ++ others
    → IsPrefixOf first whole
prefix_output cs whole p t Nothing [] others e =
    record {
      text = [];
      refused = false;
      texts = no_texts;
      output = Nothing;
      rest = [];
      split = refl;
    }
prefix_output cs whole p t Nothing (x ∷ first) others e =
    absurd (let h : [] ≡ x ∷ (first ++ others) = e in cc)
prefix_output cs whole p t (OneMore prefix text refused texts c said after h answer) first [] e =
    record {
      text = text ++ said.text;
      refused = refused || said.refused;
      texts = after;
      output =
          subst (λ (l : List Command).
          IsOutput l (text ++ said.text) (refused || said.refused) after)
          (e ∙ append-nil first) (OneMore prefix text refused texts c said after h answer);
      rest = [];
      split = sym (append-nil (text ++ said.text));
    }
prefix_output cs whole p t (OneMore prefix text refused texts c said after h answer) first
    (x ∷ others) e =
    let cut = cut_last first others prefix c x (sym e) in
    let r = prefix_output prefix text refused texts h first cut.0 cut.1 in
    record { text = r.text; refused = r.refused; texts = r.texts; output = r.output; rest = r.rest ++ said.text; split = ap (λ (l : List ℕ). l ++ said.text) r.split ∙ append_assoc r.text r.rest said.text }

pub begins_alike : (first others : List Command) → BeginsAlike first others
begins_alike first others text whole refused also t u h g =
    let r = prefix_output (first ++ others) whole also u g first others refl in
    let same = one_output first text refused t h first r.text r.refused r.texts r.output refl in
    (r.rest, r.split ∙ ap (λ (l : List ℕ). l ++ r.rest) (sym same.text))
