use Rattle.image_model.proofs.FaultLaws.{no_fault}
use Rattle.image_model.proofs.laws.a_sound_image_has_no_fault.Goals as goal

pub returns : goal.returns
returns c = λ blocks fault sound is. no_fault blocks sound fault is
