use Rattle.std.proofs.Common.{ℕ, suc, ◌≡◌, ◌==◌, ◌∙◌, if◌then◌else◌, true, false, reverse, sym, ap}
use Rattle.blk_base.specs.Sectors.{sector}
use Rattle.disk_model.specs.Log.{IsWritten}
use Rattle.disk_model.specs.Numbers.{state_after}
use Rattle.disk_model.specs.Picks.{choice, pending}
use Rattle.disk_model.proofs.RecentLaws.{as_before, none_pending}
use Rattle.disk_model.proofs.picks.pick_written.Goals as goal

pub returns-else-is_marked-clause-sectors : goal.returns-else-is_marked-clause-sectors
returns-else-is_marked-clause-sectors c i below =
    let log = reverse c.args.calls.now in
    let unwritten : IsWritten log c.args.at → ⊥ = λ written. let both : true ≡ false = sym (c.requires written) ∙ c.if-is_marked.false in cc in
    ap (sector i) (sym (as_before c.args.block.now log c.args.at (choice c.args.number (pending log c.args.at) (state_after c.args.state.now (suc i))) unwritten))

pub returns-else-is_marked-clause-state : goal.returns-else-is_marked-clause-state
returns-else-is_marked-clause-state c =
    let log = reverse c.args.calls.now in
    let unwritten : IsWritten log c.args.at → ⊥ = λ written. let both : true ≡ false = sym (c.requires written) ∙ c.if-is_marked.false in cc in
    ap (λ (writes : ℕ). if writes == 0 then c.args.state.now else state_after c.args.state.now 8) (sym (none_pending log c.args.at unwritten))
