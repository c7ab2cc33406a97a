-- What an honest device in memory gives in a read.
use Rattle.std.proofs.Common.{◌≡◌, ℕ, ◌<◌, List, [], ◌∷◌, length, ap, inl, inr}
use Rattle.blk_base.specs.Sectors.{sector}
use Rattle.disk_model.specs.declared.call.Call.{Call}
use Rattle.disk_model.specs.Images.{OneOf, IsMixOf}
use Rattle.disk_model.specs.Log.{Blocks, block_at, settled}
use Rattle.disk_model.specs.Memory.{HoldsSettled}

-- A block that is one of the contents is a mix of them.
mix_of_one : (options : List (List ℕ)) (block : List ℕ) → OneOf (λ content. block ≡ content) options → IsMixOf options block
mix_of_one [] block one i below = one
mix_of_one (content ∷ others) block (inl same) i below = inl (ap (sector i) same)
mix_of_one (content ∷ others) block (inr later) i below = inr (mix_of_one others block later i below)

-- The block that stands is a mix of what a read may give.
pub given : (opening blocks : Blocks) (log : List Call) (at : ℕ) (block : List ℕ) → HoldsSettled opening log blocks → at < length blocks
    → block ≡ block_at blocks at → IsMixOf (settled opening log at) block
given opening blocks log at block h here same = rw same (mix_of_one (settled opening log at) (block_at blocks at) (h.honest at here))
