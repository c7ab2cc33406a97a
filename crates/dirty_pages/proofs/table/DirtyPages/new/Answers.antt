use Rattle.std.proofs.Common.{◌∙◌, sym, ap, map, replicate, List}
use Rattle.dirty_pages.specs.declared.dirty_points.DirtyPoints.{DirtyPoints}
use Rattle.dirty_pages.specs.DirtyPoints.{due_of, unwritten_of}
use Rattle.dirty_pages.proofs.DirtyPointLaws.{map-replicate}
use Rattle.dirty_pages.proofs.table.DirtyPages.new.Goals as goal

pub invariant_of-result : goal.invariant_of-result
invariant_of-result c = record {
  due = c.in_ok-new.ensures ∙ sym (ap (λ (pages : List DirtyPoints). map due_of pages) c.in_ok-repeated.ensures ∙ map-replicate due_of c.clean.result c.args.pages ∙ ap (λ (m : DirtyPoints). replicate c.args.pages (due_of m)) c.clean.ensures);
  unwritten = c.in_ok-new-2.ensures ∙ sym (ap (λ (pages : List DirtyPoints). map unwritten_of pages) c.in_ok-repeated.ensures ∙ map-replicate unwritten_of c.clean.result c.args.pages ∙ ap (λ (m : DirtyPoints). replicate c.args.pages (unwritten_of m)) c.clean.ensures);
}
