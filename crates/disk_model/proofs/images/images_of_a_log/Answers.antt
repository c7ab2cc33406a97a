use Rattle.disk_model.proofs.ImageLaws.{contents-write, contents-write_other, contents-read, contents-failed_flush, contents-flush, settled-write, settled-failed_write, settled-write_other, block_of_image}
use Rattle.disk_model.proofs.OneImageLaws.{one_image-unique, one_image-is_image, one_image-later}
use Rattle.disk_model.proofs.images.images_of_a_log.Goals as goal

pub returns : goal.returns
returns c = record {
  write = contents-write;
  write_elsewhere = contents-write_other;
  read = contents-read;
  failed_flush = contents-failed_flush;
  flush = contents-flush;
  settled = settled-write;
  unsettled = settled-failed_write;
  settled_elsewhere = settled-write_other;
  agreed = block_of_image;
  one_image = one_image-unique;
  is_image = one_image-is_image;
  later = one_image-later;
}
