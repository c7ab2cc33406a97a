use Rattle.std.proofs.Common.{ℕ, None, Some, [], ◌∷◌, refl, subst}
use Rattle.disk_model.specs.Since.{NextFailed, WereRead}
use Rattle.uds_index.proofs.LoadLaws.{page_read}
use Rattle.uds_index.proofs.loader.load_page.Goals as goal

pub returns-in-Ok-clause-read : goal.returns-in-Ok-clause-read
returns-in-Ok-clause-read g c =
    let disk = g.D.Disk in (
      Some c.in-Ok.block,
      subst (λ (at : ℕ). WereRead disk.trust at (disk.seen c.args.device.now) (disk.seen c.read_block.new.device) (c.in-Ok.block ∷ [])) c.index_block.ensures.block c.in-Ok.ensures.read,
      page_read c.args.layout.now.geometry c.args.number c.in-Ok.block c.held_page.result c.held_page.ensures.some c.held_page.ensures.none,
    )

pub returns-in-Err-clause-read : goal.returns-in-Err-clause-read
returns-in-Err-clause-read g c =
    let disk = g.D.Disk in (
      None,
      subst (λ (at : ℕ). NextFailed disk.trust at (disk.seen c.args.device.now) (disk.seen c.read_block.new.device) []) c.index_block.ensures.block c.in-Err.ensures.failed,
      refl,
    )
