use Rattle.session_stops.proofs.BeginLaws.{begins_with, beginning_goes_on, head_is_read, head_of_image, head_stands, image_is_as_opened}
use Rattle.session_stops.proofs.beginnings.a_session_begins_on_a_sound_image.Goals as goal

pub returns-clause-begins : goal.returns-clause-begins
returns-clause-begins c = begins_with

pub returns-clause-goes_on : goal.returns-clause-goes_on
returns-clause-goes_on c = beginning_goes_on

pub returns-clause-image : goal.returns-clause-image
returns-clause-image c = image_is_as_opened

pub returns-clause-read : goal.returns-clause-read
returns-clause-read c = head_is_read

pub returns-clause-stands : goal.returns-clause-stands
returns-clause-stands c = λ base to opening log. head_stands base to opening log

pub returns-clause-head : goal.returns-clause-head
returns-clause-head c = head_of_image
