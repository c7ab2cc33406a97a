use Rattle.std.proofs.Common.{◌∙◌, ℕ, List, filter, ap, not, rules}
use Rattle.std.proofs.lemmas.Fn.{filter_same}
use Rattle.index_advice.specs.Books.{is_same_place}
use Rattle.sparse_index.specs.Lookups.{Recents}
use Rattle.sparse_index.proofs.recent.Recent.leave_out.Goals as goal

pub returns : goal.returns
returns c =
    ap (λ (ns : List ℕ). record { room = c.self.inside.room; numbers = ns })
    (filter_same _ (λ (other : ℕ). not (is_same_place c.args.places other c.args.number)) _ (λ x b f' k. search rules) _ _ c.retain.ensures.filtered)
    ∙ ap (λ (r : Recents). record r { numbers = filter (λ (other : ℕ). not (is_same_place c.args.places other c.args.number)) r.numbers }) c.self.view_is
