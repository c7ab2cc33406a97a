use Rattle.file_disk.proofs.FileLaws.{contents_map, image_of_file, read_of_file, settled_map}
use Rattle.file_disk.proofs.laws.files_as_devices.Goals as goal

pub returns : goal.returns
returns c = record {
  settled = λ opening log blocks b i whole below few. settled_map opening blocks b i below few log whole;
  contents = λ opening log blocks b i whole below few. contents_map opening blocks b i below few log whole;
  images = λ opening log blocks image. image_of_file opening log blocks image;
  reads = λ opening log blocks b bytes. read_of_file opening log blocks b bytes;
}
