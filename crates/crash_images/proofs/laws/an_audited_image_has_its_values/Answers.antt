use Rattle.crash_images.proofs.AuditedValues.{closed_values, sound_values, values_refused}
use Rattle.crash_images.proofs.laws.an_audited_image_has_its_values.Goals as goal

pub returns : goal.returns
returns c = record { sound = sound_values; closed = closed_values; refused = values_refused }
