use Rattle.image_model.proofs.EmptyLaws.{has_nothing, is_sound, is_unused}
use Rattle.image_model.proofs.laws.an_empty_image_is_sound.Goals as goal

pub returns : goal.returns
returns c = record { sound = is_sound; nothing = has_nothing; unused = is_unused }
