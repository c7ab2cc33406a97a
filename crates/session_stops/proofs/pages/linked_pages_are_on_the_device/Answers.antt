use Rattle.image_model.proofs.EmptyLaws.{sizes_of_image}
use Rattle.recovery_laws.proofs.SoundLaws.{known}
use Rattle.recovery_laws.specs.Kept.{image_in}
use Rattle.session_stops.proofs.NewPages.{turns_made}
use Rattle.session_stops.proofs.PageHeads.{one_page}
use Rattle.session_stops.proofs.PagePlaces.{pages_on_it}
use Rattle.session_stops.proofs.pages.linked_pages_are_on_the_device.Goals as goal

pub returns-clause-on_it : goal.returns-clause-on_it
returns-clause-on_it c = λ base sound entries turns size enough.
    pages_on_it (image_in base sound) sound.pages sound.last (known base base sound) entries (turns_made (image_in base sound) entries turns) size enough

pub returns-clause-apart : goal.returns-clause-apart
returns-clause-apart c = λ base sound entries turns named opening log window stand page other at at' linked linked' same.
    one_page (image_in base sound) (sizes_of_image base sound.head sound.opens.accepted) named sound.pages sound.last (known base base sound) entries
    (turns_made (image_in base sound) entries turns) opening log window stand page other at at' linked linked' same
