-- What the calls of a function do to an image whose blocks it writes.
use Rattle.std.specs.Prelude.{◌≡◌, ◌⊎◌, ℕ, Bool, IsTrue, true, false, All, List, ◌++◌, length, Result, Ok, Err, OnErr, Some}
use Rattle.std.specs.List.{AllByRecursion}
use Rattle.blk_base.specs.Limits.{IsGeometry}
use Rattle.blk_base.specs.declared.place.PageId.{PageId}
use Rattle.blk_base.specs.declared.place.Pbn.{Pbn}
use Rattle.disk_model.specs.declared.call.Call.{Call}
use Rattle.disk_model.specs.declared.call.Call.TheVariants.{Read, Write, Flush}
use Rattle.disk_model.specs.declared.call.Failed.{Failed}
use Rattle.disk_model.specs.Log.{Blocks, settled}
use Rattle.disk_model.specs.Seen.{Seen, Stays, Later}
use Rattle.disk_model.specs.Trust.{Trust}
use Rattle.disk_model.specs.LogSteps.{FailedInLog}
use Rattle.image_format.specs.Formats.{LastFailed}
use Rattle.image_format.specs.Runs.{as_failed}
use Rattle.image_model.specs.Maps.{Image, page_at}
use Rattle.image_model.specs.Windows.{IsOfImage}
use Rattle.recovery_laws.specs.Calls.{IsPagePut, IsPut}
use Rattle.recovery_laws.specs.Recoverable.{HasRecoverable, recoverable_image}
use Rattle.recovery_laws.specs.Written.{IsPartPage}

-- the log of a device that tells has these calls more, and what was in it before
abbrev pub Grows : Bool → Seen → Seen → Type 0
Grows tells before now = IsTrue tells → (calls : List Call) × (now.log ≡ calls ++ before.log)

-- What is written to an image: where that may start, on a device that tells, and which image that is; of which kind each
-- call is, with reads among them; and what else may fail behind them.
pub record Writing : Type 1 where
  pub From : Seen → Type 0
  pub image : (first : Seen) → From first → Image
  pub Kind : Image → Call → Type 0
  pub reads : (image : Image) (at : Pbn) (bytes : List ℕ) (ok : Bool) → Kind image (Read at bytes ok)
  pub Behind : Call → Type 0

-- since then these calls were made, each of this kind
pub record AreMade (Kind : Call → Type 0) (first now : Seen) (calls : List Call) : Type 0 where
  pub stays : Stays first now
  pub logged : now.log ≡ calls ++ first.log
  pub each : AllByRecursion Kind calls

-- since then such calls were made, and one more failed
pub record HasStopped (Kind Behind : Call → Type 0) (first now : Seen) : Type 0 where
  pub calls : List Call
  pub each : AllByRecursion Kind calls
  pub call : Call
  pub kind : Kind call ⊎ Behind call
  pub logged : FailedInLog (calls ++ first.log) now.log (as_failed call) (Unit {0})

-- From each start on, after such calls, and where the image has what is needed: more such calls were made, and this is done.
abbrev pub Went : Bool → Writing → Seen → Seen → (Image → Type 0) → (Image → List Call → Type 0) → Type 0
Went tells w before now Needs Done =
    IsTrue tells → (first : Seen) (from : w.From first) (calls : List Call) → AreMade (w.Kind (w.image first from)) first before calls → Needs (w.image first from)
    → (more : List Call) × AreMade (w.Kind (w.image first from)) first now (more ++ calls) × Done (w.image first from) (more ++ calls)

-- or one of them failed
abbrev pub Stopped : Bool → Writing → Seen → Seen → (Image → Type 0) → Type 0
Stopped tells w before now Needs =
    IsTrue tells → (first : Seen) (from : w.From first) (calls : List Call) → AreMade (w.Kind (w.image first from)) first before calls → Needs (w.image first from)
    → HasStopped (w.Kind (w.image first from)) w.Behind first now

abbrev pub Writes : Bool → Writing → Seen → Seen → (Image → Type 0) → (Image → List Call → Type 0) → Result (Unit {0}) Failed → Type 0
Writes tells w before now Needs Done (Ok _) = Went tells w before now Needs Done
Writes tells w before now Needs Done (Err _) = Stopped tells w before now Needs

-- what a function that makes such calls answers, and what it does to any device: where it fails, its last call failed
pub record Acts (tells : Bool) (w : Writing) (before now : Seen) (Needs : Image → Type 0) (Done : Image → List Call → Type 0) (result : Result (Unit {0}) Failed) : Type 0 where
  pub stays : Stays before now
  pub later : Later before now
  pub grows : Grows tells before now
  pub failed : OnErr result (LastFailed tells before now)
  pub writes : Writes tells w before now Needs Done result

-- Recovery.

-- a device that tells and is honest, and that has an image to recover at this moment, sound or not
pub record IsStart (trust : Trust) (first : Seen) (blocks : Blocks) : Type 0 where
  pub told : IsTrue trust.tells
  pub fair : IsTrue trust.honest
  pub to : HasRecoverable first.opening first.log blocks

abbrev pub IsFlush : Call → Type 0
IsFlush call = call ≡ Flush true

-- from there on each call is a read or one of its writes, and one that fails may be a flush too
abbrev pub recovery : Trust → Writing
recovery trust = record {
  From = λ first. (blocks : Blocks) × IsStart trust first blocks;
  image = λ first from. recoverable_image from.0 from.1.to.is;
  Kind = IsPut;
  reads = λ image at bytes ok. tt;
  Behind = IsFlush;
}

-- Pages.

-- a write of a whole page that says by itself what it says with the window, or a read
abbrev pub IsPageCall : Image → Call → Type 0
IsPageCall image (Write at bytes true) = (length bytes ≡ 4096) × IsPagePut image at bytes
IsPageCall image (Write at bytes false) = ⊥
IsPageCall image (Read _ _ _) = Unit {0}
IsPageCall image (Flush _) = ⊥

-- A device that is honest, and an image of which no two pages stand at one block: each may be read with what it says with the
-- window there, whatever that puts into it.
pub record IsPageStart (honest : Bool) (first : Seen) (image : Image) : Type 0 where
  pub fair : IsTrue honest
  pub sizes : IsGeometry image.geometry
  pub window : All (λ committed. IsOfImage image.geometry committed.entry) image.window
  pub one : (page other : PageId) (at : Pbn) → page_at image page ≡ Some at → page_at image other ≡ Some at → page ≡ other
  pub parts : (page : PageId) (at : Pbn) → page_at image page ≡ Some at → AllByRecursion (IsPartPage image page at) (settled first.opening first.log at.0)

-- from there on each call is of that kind, and nothing else is called
abbrev pub page_writing : Bool → Writing
page_writing honest = record {
  From = λ first. (image : Image) × IsPageStart honest first image;
  image = λ first from. from.0;
  Kind = IsPageCall;
  reads = λ image at bytes ok. tt;
  Behind = λ call. ⊥;
}
