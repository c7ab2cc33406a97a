-- How long each list of the desk gets.
use Rattle.std.specs.Prelude.{◌+◌, ◌*◌, ◌<◌, ◌≤◌, length}
use Rattle.core_model.specs.DeskData.{Desk}
use Rattle.core_model.specs.DeskLines.{AreBegunFirst, is_answer, is_begin, is_bytes}
use Rattle.plain_laws.specs.Sums.{total}
use Rattle.core_model.specs.SessionLimits.{IsShort, most_notices, most_under_way_in, reads_in, requests_in}

-- The lists of the desk, by the requests of its script: a request is begun once and answered once, and bytes are given to reads
-- alone.
pub record IsDeskWithin (desk : Desk) : Type 0 where
  pub log : length desk.log ≤ 2 * requests_in desk.requests
  pub bytes : total is_bytes desk.log ≤ reads_in desk.requests
  pub marks : length desk.marks ≤ requests_in desk.requests
  pub receipts : length desk.receipts ≤ requests_in desk.requests
  pub parked : IsShort desk.parked
  pub notices : desk.notices ≤ most_notices

-- There is room for the lines of one more request, and fewer are under way than may be of the streams of the script.
pub record HasRoomToBegin (desk : Desk) : Type 0 where
  pub lines : length desk.log + 2 ≤ 2 * requests_in desk.requests
  pub answered : AreBegunFirst desk.log
  pub fewer : total is_begin desk.log < most_under_way_in desk.requests + total is_answer desk.log
