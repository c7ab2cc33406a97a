use Rattle.std.proofs.Common.{ℕ, ◌∙◌, ap, sym, set, List, Option}
use Rattle.std.proofs.lemmas.List.{map-set}
use Rattle.dirty_pages.specs.DirtyPoints.{due_of, unwritten_of}
use Rattle.dirty_pages.proofs.table.DirtyPages.set.Goals as goal

pub invariant_of-self : goal.invariant_of-self
invariant_of-self c =
    let pages = c.self.inside.dirty_points.items in
    record {
      due = c.set.ensures ∙ ap (λ (n : Option ℕ). set c.self.inside.due c.args.page n) c.due.ensures
          ∙ ap (λ (keys : List (Option ℕ)). set keys c.args.page (due_of c.args.dirty_points)) c.self.invariant.due ∙ sym (map-set due_of pages c.args.page c.args.dirty_points);
      unwritten = c.set-2.ensures ∙ ap (λ (n : Option ℕ). set c.self.inside.unwritten c.args.page n) c.unwritten.ensures
          ∙ ap (λ (keys : List (Option ℕ)). set keys c.args.page (unwritten_of c.args.dirty_points)) c.self.invariant.unwritten ∙ sym (map-set unwritten_of pages c.args.page c.args.dirty_points);
    }
