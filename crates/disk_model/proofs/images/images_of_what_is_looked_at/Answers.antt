use Rattle.disk_model.proofs.LookedLaws.{image_in-all, one_in-all, one_in-aside, one_in-every, one_in-unique, one_in-later}
use Rattle.disk_model.proofs.images.images_of_what_is_looked_at.Goals as goal

pub returns : goal.returns
returns c = record { all = one_in-all; every = one_in-every; part = image_in-all; aside = one_in-aside; alike = one_in-unique; later = one_in-later }
