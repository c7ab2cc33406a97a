use Rattle.std.proofs.Common.{◌∙◌, ◌&&◌, ℕ, Bool, Option, cond, is_some, take, get_or, ap, sym}
use Rattle.std.specs.List.{find}
use Rattle.std.specs.Option.{option_map}
use Rattle.uds_chapters.specs.Chapters.{location_of}
use Rattle.uds_index.proofs.RoomLaws.{same_read}
use Rattle.sparse_index.specs.Finds.{newer_of}
use Rattle.sparse_index.specs.Orders.{is_among}
use Rattle.sparse_index.proofs.NewestLaws.{newest_next, newest_start, newest_end}
use Rattle.sparse_index.proofs.lookup.newest_among.Goals as goal
use Rattle.sparse_index.proofs.lookup.newest_among.Goals.{then-is_some, else-is_some}

pub returns : goal.returns
returns c = c.loop-number.invariant ∙ newest_end c.args.name.now c.args.numbers.now c.loop-number.number-index c.args.chapters.now c.loop-number-test.false

pub loop-number-init : goal.loop-number-init
loop-number-init c = newest_start c.args.name.now c.args.numbers.now c.args.chapters.now

pub loop-number-preserved : goal.loop-number-preserved
loop-number-preserved c =
    let k = c.loop-number.number-index in
    let numbers = c.args.numbers.now in
    let n = get_or numbers k 0 in
    let so_far : Option ℕ = option_map (λ chapter. chapter.number) (find (λ chapter. is_among (take k numbers) chapter && is_some (location_of c.args.name.now chapter.records)) c.args.chapters.now) in
    let next = newest_next c.args.name.now numbers k n c.args.chapters.now c.requires c.loop-number-test.true (same_read numbers k 0 n c.loop-number-test.true) in
    let has = ap is_some (sym c.location_by.ensures) ∙ sym c.is_some.ensures in
    elim c.if-is_some.branch [
      | then-is_some w ↦ w.newest-is ∙ w.newer-newest.ensures ∙ ap (λ (o : Option ℕ). newer_of o n) c.loop-number.invariant
          ∙ ap (λ (b : Bool). cond b (newer_of so_far n) so_far) (sym (has ∙ w.if-is_some.true)) ∙ sym next
      | else-is_some w ↦ w.newest-is ∙ c.loop-number.invariant
          ∙ ap (λ (b : Bool). cond b (newer_of so_far n) so_far) (sym (has ∙ w.if-is_some.false)) ∙ sym next
    ]
