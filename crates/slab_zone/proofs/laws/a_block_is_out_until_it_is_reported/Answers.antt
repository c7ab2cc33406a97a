use Rattle.slab_zone.proofs.OutLaws.{handed_in, out_kept_in}
use Rattle.slab_zone.proofs.laws.a_block_is_out_until_it_is_reported.Goals as goal

pub returns-clause-handed : goal.returns-clause-handed
returns-clause-handed c = handed_in

pub returns-clause-kept : goal.returns-clause-kept
returns-clause-kept c = out_kept_in
