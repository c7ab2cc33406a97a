use Rattle.std.proofs.Common.{List, ℕ, ◌≡◌, [], ◌∷◌, arith}
use Rattle.std.proofs.lemmas.Result.{IfOk-weaker}
use Rattle.blk_base.proofs.RegionLaws.{data_block_inside}
use Rattle.blk_base.specs.Regions.{IsDataBlock}
use Rattle.disk_model.specs.Log.{block_at}
use Rattle.disk_model.specs.Since.{WereRead}
use Rattle.crash_images.specs.Maps.{OfMap}
use Rattle.crash_images.proofs.ValueLaws.{block_right}
use Rattle.crash_images.proofs.values.read_mapped.Goals as goal

pub read_block-requires : goal.read_block-requires
read_block-requires g c =
    let data_is : IsDataBlock c.args.found.now.head.geometry c.in-At.block.0 = rw c.in-At.is at c.requires.data in
    let inside = data_block_inside c.args.found.now.head.geometry c.in-At.block.0 data_is in
    let room = c.requires.room in
    omega (arith, inside, room)

pub returns-in-At-clause-value : goal.returns-in-At-clause-value
returns-in-At-clause-value g c =
    let disk = g.D.Disk in
    let found = c.args.found.now in
    let before = disk.seen c.args.device.now in
    let now = disk.seen c.read_block.new.device in
    let data_is : IsDataBlock found.head.geometry c.in-At.block.0 = rw c.in-At.is at c.requires.data in
    rw c.in-At.is
    (IfOk-weaker c.read_block.result (λ (block : List ℕ). WereRead disk.trust c.in-At.block.0 before now (block ∷ []))
    (λ (block : List ℕ). OfMap disk.trust before found (λ image. block ≡ block_at image.blocks c.in-At.block.0))
    (λ block read. block_right disk.trust before now found c.requires.room c.in-At.block.0 block data_is read) c.read_block.ensures.read)
