use Rattle.std.specs.Prelude.{refl}
use Rattle.page_codec.specs.Grammar.{IsSlot}
use Rattle.image_model.proofs.EmptyLaws.{sizes_of_image}
use Rattle.recovery_laws.proofs.SoundLaws.{known}
use Rattle.recovery_laws.specs.Kept.{image_in}
use Rattle.count_laws.proofs.StepLaws.{in_turn_rooted}
use Rattle.session_stops.proofs.NewPages.{older_in_turn, turns_made, turns_new}
use Rattle.session_stops.proofs.PageHeads.{page_written}
use Rattle.session_stops.proofs.PageSteps.{begins, contents_of_page, grows, less, page_of_contents, pages_missed, pages_stay_so, rises}
use Rattle.session_stops.proofs.SurelyLaws as surely
use Rattle.session_stops.proofs.pages.what_keeps_pages_standing.Goals as goal

pub returns-clause-slot_missed : goal.returns-clause-slot_missed
returns-clause-slot_missed c = λ opening log head slot mapping call misses stands. surely.missed (λ content. IsSlot head content slot mapping) opening log head.at.0 call misses stands

pub returns-clause-slot_written : goal.returns-clause-slot_written
returns-clause-slot_written c = λ opening log head slot mapping bytes ok is stands. surely.written (λ content. IsSlot head content slot mapping) opening log head.at.0 head.at bytes ok refl is stands

pub returns-clause-slot_settles : goal.returns-clause-slot_settles
returns-clause-slot_settles c = λ opening log head slot mapping bytes is. surely.settles (λ content. IsSlot head content slot mapping) opening log head.at.0 head.at bytes refl is

pub returns-clause-slot_flushed : goal.returns-clause-slot_flushed
returns-clause-slot_flushed c = λ opening log head slot mapping settles. settles

pub returns-clause-contents : goal.returns-clause-contents
returns-clause-contents c = contents_of_page

pub returns-clause-page : goal.returns-clause-page
returns-clause-page c = page_of_contents

pub returns-clause-missed : goal.returns-clause-missed
returns-clause-missed c = pages_missed

pub returns-clause-goes_on : goal.returns-clause-goes_on
returns-clause-goes_on c = pages_stay_so

pub returns-clause-written : goal.returns-clause-written
returns-clause-written c = λ base sound entries turns named opening log window stand page at bytes ok linked says.
    page_written (image_in base sound) (sizes_of_image base sound.head sound.opens.accepted) named sound.pages sound.last (known base base sound) entries
    (turns_made (image_in base sound) entries turns) opening log window stand page at bytes ok linked says

pub returns-clause-less : goal.returns-clause-less
returns-clause-less c = less

pub returns-clause-rises : goal.returns-clause-rises
returns-clause-rises c = rises

pub returns-clause-begins : goal.returns-clause-begins
returns-clause-begins c = begins

pub returns-clause-grows : goal.returns-clause-grows
returns-clause-grows c = λ opening log opened newer older window turns made stand.
    grows opening log opened newer older window (in_turn_rooted opened older (older_in_turn opened newer older turns)) (turns_new opened newer older turns) made stand
