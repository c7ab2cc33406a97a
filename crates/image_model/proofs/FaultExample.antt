-- Blocks with a fault, for rows.
use Rattle.std.proofs.Common.{ℕ, ◌≡◌, List, [], get_or, refl, ap, inl, arith}
use Rattle.blk_base.specs.Sectors.{zero_block}
use Rattle.page_codec.specs.Grammar.{HasHead}
use Rattle.page_codec.specs.PageBytes.{head_bytes}
use Rattle.page_codec.specs.declared.fault.PageFault.TheVariants.{Header}
use Rattle.image_model.specs.Faults.{HasFault}
use Rattle.image_model.specs.Maps.{Image, head_of}
use Rattle.image_model.proofs.Example.{small}
use Rattle.image_model.proofs.MapExample.{with_root}
use Rattle.blk_base.specs.Forms.{pbn}
use Rattle.blk_base.proofs.Example.{root}

-- zeros are no page
pub zeros_unheaded : HasHead (head_of (with_root zero_block []) root (pbn 9)) zero_block → ⊥
unfolding zero_block head_bytes
zeros_unheaded same = let first : 0 ≡ 86 = ap (λ (bytes : List ℕ). get_or bytes 0 0) same in omega (arith, first)

pub header_is : HasFault (with_root zero_block []) root (pbn 9) Header
header_is = record { slot = 0; inside = omega arith; before = λ i below. absurd (omega (arith, below)); own = inl refl; of_slot = zeros_unheaded }

-- The first page of the walk that has a fault: of an image of zeros that is the root of tree 0.
abbrev pub nothing : Image
nothing = record { geometry = small; blocks = []; window = [] }
