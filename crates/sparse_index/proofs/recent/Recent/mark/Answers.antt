use Rattle.std.proofs.Common.{◌≡◌, ◌∙◌, ◌-◌, ◌∷◌, ℕ, List, Some, filter, take, nat_eq, ap, not, rules}
use Rattle.std.proofs.lemmas.Fn.{filter_same}
use Rattle.sparse_index.specs.Lookups.{Recents, with_used}
use Rattle.uds_index.proofs.BookLaws.{insert_first}
use Rattle.sparse_index.proofs.ListLaws.{take_first}
use Rattle.sparse_index.proofs.recent.Recent.mark.Goals as goal

pub returns : goal.returns
returns c =
    let numbers = c.self.inside.numbers.items in
    let left : c.retain.new.self.items ≡ filter (λ (other : ℕ). not (nat_eq other c.args.number)) numbers =
    filter_same _ (λ (other : ℕ). not (nat_eq other c.args.number)) _ (λ x b f' k. search rules) _ _ c.retain.ensures.filtered in
    ap (λ (ns : List ℕ). record { room = c.self.inside.room; numbers = ns })
    (c.in-Ok.ensures.items ∙ insert_first _ c.args.number
    ∙ ap (λ (ns : List ℕ). c.args.number ∷ ns) (c.truncate.ensures.items ∙ ap (take (c.self.inside.room - 1)) left)
    ∙ take_first c.self.inside.room c.args.number (filter (λ (other : ℕ). not (nat_eq other c.args.number)) numbers) c.self.invariant.some)
    ∙ ap (λ (r : Recents). record r { numbers = with_used r.room r.numbers (Some c.args.number) }) c.self.view_is
