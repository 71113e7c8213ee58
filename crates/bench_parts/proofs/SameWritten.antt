-- States that are the same, with the same models, wherever they lie in memory.
use Rattle.std.proofs.Common.{ℕ, ◌<◌, ◌≤◌, ◌≡◌, ◌==◌, List, map, Option, ap, sym, subst, ◌∙◌, if◌then◌else◌}
use Rattle.std.specs.List.{AllByRecursion as Each}
use Rattle.memo_core.specs.Step.{Has}
use Rattle.bench_items.specs.Naming.{SeenName}
use Rattle.bench_parts.specs.Built.{IsBuilt}
use Rattle.bench_parts.specs.Contents.{PartContent, content}
use Rattle.bench_parts.specs.Written.{WrittenModel, WrittenState, IsHere, Precedes, IsReadAs, IsPaired, IsWholeState, WrittenItemsGoOn, IsStateSince, IsSameWritten, part_content, item_text}
use Rattle.bench_parts.proofs.Same.{content_is, stamp_is, built_is, histories_are}

module _ (w v : WrittenState) (same : IsSameWritten w v) where
  part_is : (part of : ℕ) → part_content v part of ≡ part_content w part of
  part_is part of =
      ap (λ (o : Option PartContent). if part == 0 then o else content v.state part of)
      (ap (λ (ms : List WrittenModel). item_text ms of) same.models)
      ∙ ap (λ (o : Option PartContent). if part == 0 then item_text w.models of else o)
      (content_is w.state v.state same.state part of)

  here_was : (number : ℕ) → IsHere v number → IsHere w number
  here_was number h =
      record {
        model = h.model;
        index = h.index;
        there = subst (λ (ms : List WrittenModel). Has ms h.model) same.models h.there;
        stands = h.stands;
      }

  precedes_is : (first second : ℕ) → Precedes w first second → Precedes v first second
  precedes_is first second p = record {
    model = p.model;
    from = p.from;
    to = p.to;
    there = subst (λ (ms : List WrittenModel). Has ms p.model) (sym same.models) p.there;
    first_at = p.first_at;
    second_at = p.second_at;
    before = p.before;
  }

  whole_is : IsWholeState w → IsWholeState v
  whole_is whole = record {
    built =
        subst (λ (ms : List WrittenModel). IsBuilt v.state (map (λ m. m.reading) ms))
        (sym same.models) (built_is w.state v.state same.state (map (λ m. m.reading) w.models)
        whole.built);
    read =
        subst (λ (ms : List WrittenModel). Each (λ m. IsReadAs m m.reading) ms) (sym same.models)
        whole.read;
    paired = subst (λ (ms : List WrittenModel). Each IsPaired ms) (sym same.models) whole.paired;
    apart =
        λ m n a b number hm hn sa sb. whole.apart m n a b number
        (subst (λ (ms : List WrittenModel). Has ms m) same.models hm)
        (subst (λ (ms : List WrittenModel). Has ms n) same.models hn) sa sb;
    low =
        λ number here.
        subst (λ (k : ℕ). number < k) (sym same.next) (whole.low number (here_was number here));
    gone =
        λ part of e. part_is part of
        ∙ whole.gone part of (sym (stamp_is w.state v.state same.state part of) ∙ e);
  }

  items_are : (r : WrittenState) → WrittenItemsGoOn r w → WrittenItemsGoOn r v
  items_are r items = record {
    order =
        λ a b before x y. precedes_is a b (items.order a b before (here_was a x) (here_was b y));
    numbers = λ number here. items.numbers number (here_was number here);
    next = subst (λ (k : ℕ). r.next ≤ k) (sym same.next) items.next;
    grown =
        λ number old new. (let g = items.grown number old (here_was number new) in (
          g.0,
          ap (λ (h : ℕ → List SeenName). h number) (histories_are w.state v.state same.state)
              ∙ g.1,
        ));
  }

  pub since_is : (r : WrittenState) → IsStateSince r w → IsStateSince r v
  since_is r since = record {
    whole = since.whole;
    still_whole = whole_is since.still_whole;
    later = subst (λ l. r.state.parts.last ≤ l) (sym (same.state).last) since.later;
    same =
        λ part of e. part_is part of
        ∙ since.same part of (sym (stamp_is w.state v.state same.state part of) ∙ e);
    items = items_are r since.items;
  }
