use Rattle.crash_images.proofs.SoundAudits.{audit_refused, no_difference}
use Rattle.crash_images.proofs.laws.a_sound_image_passes_its_audit.Goals as goal

pub returns : goal.returns
returns c = record {
  clean = λ trust before now blocks report told sound audited. no_difference trust before blocks told sound now report audited;
  refused = λ trust before now blocks why told sound size fails. audit_refused trust before blocks told sound now why size fails;
}
