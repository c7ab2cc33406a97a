-- The journals of two images are the same where their blocks are.
use Rattle.std.proofs.Common.{ℕ, ◌≡◌, ◌+◌, ◌-◌, ◌<◌, min, length, drop, sym, ◌∙◌, ap, arith, length-drop, length-take}
use Rattle.std.proofs.lemmas.List.{get_or-take, get_or-drop, ext_get_or}
use Rattle.blk_base.specs.Sectors.{zero_block}
use Rattle.blk_base.specs.declared.geometry.Geometry.{Geometry}
use Rattle.disk_model.specs.Log.{Blocks, block_at}
use Rattle.image_layout.specs.Values.{journal_of}

pub journals_alike : (g : Geometry) (blocks blocks' : Blocks) → length blocks' ≡ length blocks
    → ((slot : ℕ) → slot < g.journal → block_at blocks' (1 + slot) ≡ block_at blocks (1 + slot)) → journal_of g blocks' ≡ journal_of g blocks
journals_alike g blocks blocks' size same =
    let long = length-take g.journal (drop 1 blocks') in
    let long_too = length-take g.journal (drop 1 blocks) in
    let front = length-drop 1 blocks' in
    let front_too = length-drop 1 blocks in
    ext_get_or zero_block (journal_of g blocks') (journal_of g blocks)
    (long ∙ ap (min g.journal) (front ∙ ap (λ (n : ℕ). n - 1) size ∙ sym front_too) ∙ sym long_too)
    (λ i below.
    let slot : i < g.journal = omega (arith, below, long) in
    get_or-take g.journal (drop 1 blocks') i zero_block slot ∙ get_or-drop 1 blocks' i zero_block
    ∙ same i slot ∙ sym (get_or-take g.journal (drop 1 blocks) i zero_block slot ∙ get_or-drop 1 blocks i zero_block))
