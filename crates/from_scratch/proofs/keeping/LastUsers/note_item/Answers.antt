use Rattle.std.proofs.Common.{List, length, Contains, refl, subst}
use Rattle.std.proofs.lemmas.Option.{slice_get_read}
use Rattle.binding_kinds.specs.declared.scope.Input.{Input}
use Rattle.from_scratch.specs.Keeping.{Notes}
use Rattle.from_scratch.proofs.Letting.{notes_item, notes_no_item}
use Rattle.from_scratch.proofs.keeping.LastUsers.note_item.Goals as goal

pub returns-in-Some : goal.returns-in-Some
returns-in-Some c =
    let items = c.args.items.now in
    notes_item items c.args.at c.in-Some.item.now c.args.self.now c.note_all.new.self
    (slice_get_read items (length items) c.args.at c.in-Some.item.now refl
    c.in-Some.ensures.lookup.3.0 c.in-Some.ensures.lookup.1)
    (subst
    (λ (names : List Input).
    Notes c.args.at (Contains names) c.args.self.now c.note_all.new.self)
    c.deref.ensures.value c.note_all.ensures)

pub returns-in-None : goal.returns-in-None
returns-in-None c =
    notes_no_item c.args.items.now c.args.at c.args.self.now c.in-None.ensures.lookup.3
