use Rattle.crash_images.proofs.CutLaws.{fuse_cut, fuse_left}
use Rattle.crash_images.proofs.laws.a_cut_off_device_keeps_its_calls.Goals as goal

pub returns : goal.returns
returns c = record { cut = fuse_cut; uncut = fuse_left }
