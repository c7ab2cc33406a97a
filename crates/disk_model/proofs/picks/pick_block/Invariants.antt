use Rattle.std.proofs.Common.{ℕ, ◌≡◌, ◌<◌, suc, length, reverse}
use Rattle.blk_base.specs.Sectors.{sector}
use Rattle.disk_model.specs.Numbers.{state_after}
use Rattle.disk_model.specs.Picks.{choice, content_of, pending}
use Rattle.disk_model.proofs.picks.pick_block.Given as goal

abbrev pub invariant-loop-i : goal.invariant-loop-i
invariant-loop-i l = record {
  state : l.state ≡ state_after l.fn.state l.i;
  size : length l.block ≡ 4096;
  sectors : (k : ℕ) → k < l.i → sector k l.block
      ≡ sector k (content_of l.before (reverse l.calls) l.at (choice l.number (pending (reverse l.calls) l.at) (state_after l.fn.state (suc k))));
}
