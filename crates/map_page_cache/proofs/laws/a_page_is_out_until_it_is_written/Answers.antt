use Rattle.map_page_cache.proofs.RunLaws.{still_out, not_out_before}
use Rattle.map_page_cache.proofs.laws.a_page_is_out_until_it_is_written.Goals as goal

pub returns-clause-kept : goal.returns-clause-kept
returns-clause-kept c = still_out

pub returns-clause-idle : goal.returns-clause-idle
returns-clause-idle c = not_out_before
