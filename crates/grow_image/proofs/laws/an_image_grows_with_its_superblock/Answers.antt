use Rattle.grow_image.proofs.WholeLaws.{failures_of, fresh_zeros, grown_of, stops_of}
use Rattle.grow_image.proofs.laws.an_image_grows_with_its_superblock.Goals as goal

pub returns : goal.returns
returns c = record {
  stops = λ base sound logical slabs to opening first front calls one parts. stops_of base sound logical slabs to opening first front calls one parts;
  failures = λ base sound logical slabs to opening first front done call one parts. failures_of base sound logical slabs to opening first front done call one parts;
  grown = λ base sound logical slabs to opening first one. grown_of base sound logical slabs to opening first one;
  fresh = λ base now sound logical slabs grown none address behind below. fresh_zeros base now sound logical slabs grown none address behind below;
}
