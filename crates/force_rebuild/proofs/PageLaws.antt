-- The pages of an image that can be rebuilt may be written.
use Rattle.std.proofs.Common.{Bool, refl}
use Rattle.disk_model.specs.Log.{Blocks, settled}
use Rattle.disk_model.specs.Seen.{Seen}
use Rattle.disk_model.specs.Trust.{Trust}
use Rattle.disk_model.proofs.ImageLaws.{all_weaker}
use Rattle.image_model.proofs.LookedLaws.{looked_in_place}
use Rattle.image_model.specs.Looked.{looked_in}
use Rattle.rebuild.proofs.PageLaws.{settled_of_one}
use Rattle.rebuild.specs.Acts.{IsPageStart}
use Rattle.recovery_laws.proofs.PageIdLaws.{one_page}
use Rattle.recovery_laws.specs.Written.{IsPartPage}
use Rattle.force_rebuild.proofs.PutLaws.{IsPartBlock, old_is_part}
use Rattle.force_rebuild.proofs.SoundLaws.{known, sizes}
use Rattle.force_rebuild.proofs.StopLaws.{page_inside, page_looked_at}
use Rattle.force_rebuild.specs.Starts.{IsStart, image_at}

pub pages_start : (trust : Trust) (first : Seen) (blocks : Blocks) (start : IsStart trust first blocks) → IsPageStart trust.honest first (image_at blocks start)
pages_start trust first blocks start = record {
  fair = start.fair;
  sizes = sizes blocks blocks start.is;
  window = λ k d below. (known blocks blocks start.is k d below).of_image;
  one = one_page (image_at blocks start) start.is.pages start.is.last (known blocks blocks start.is) (sizes blocks blocks start.is) start.named;
  parts = λ page at there.
      all_weaker (IsPartBlock blocks start.is start.named at.0) (IsPartPage (image_at blocks start) page at) (settled first.opening first.log at.0) (λ content is. is.page page at there refl)
      (settled_of_one (IsPartBlock blocks start.is start.named at.0) (looked_in blocks) first.opening first.log blocks at.0 start.one (page_inside blocks start.is page at there)
      (looked_in_place blocks start.is.head start.is.accepted at.0 (page_looked_at blocks start.is page at there)) (old_is_part blocks start.is start.named at.0));
}
