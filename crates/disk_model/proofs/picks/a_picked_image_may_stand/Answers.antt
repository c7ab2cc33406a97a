use Rattle.disk_model.proofs.PickImageLaws.{picked_may_stand}
use Rattle.disk_model.proofs.picks.a_picked_image_may_stand.Goals as goal

pub returns : goal.returns
returns c = picked_may_stand
