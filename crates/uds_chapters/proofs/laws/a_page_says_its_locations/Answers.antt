use Rattle.uds_chapters.proofs.FindLaws.{finds_location}
use Rattle.uds_chapters.proofs.laws.a_page_says_its_locations.Goals as goal

pub returns : goal.returns
returns c = finds_location
