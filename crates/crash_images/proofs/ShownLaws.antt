-- What an image shows, step by step.
use Rattle.std.proofs.Common.{ℕ, ◌≡◌, List, true, Result, Ok, Err, IfOk, IfErr, IsErrAnd}
use Rattle.blk_base.specs.declared.place.Lba.{Lba}
use Rattle.disk_model.specs.Log.{Blocks}
use Rattle.disk_model.specs.Memory.{Memory, fresh, seen_of}
use Rattle.disk_model.specs.Seen.{Seen}
use Rattle.disk_model.specs.Trust.{trust_of}
use Rattle.image_model.specs.declared.fault.ImageFault.{ImageFault}
use Rattle.image_model.specs.declared.fault.ImageFault.TheVariants as image
use Rattle.crash_images.specs.Shows.{IsNoPage, IsPickOf, PickFails, ShowsNothing, ValueFails, image_fault_of, pick_fault_of}
use Rattle.crash_images.specs.Values.{AreRefused, IsNoDamage}
use Rattle.crash_images.specs.declared.fault.ValueFault.{ValueFault}
use Rattle.crash_images.specs.declared.fault.ValueFault.TheVariants.{Device, Page, Memory as NoMemory}
use Rattle.crash_images.specs.declared.maps.ImageMap.{ImageMap}

-- what holds of a fault holds of it where it is passed on
pub handed_on : {T E : Type 0} (result : Result T E) (Is : E → Type 0) (why : E) → IsErrAnd result (λ e. e ≡ why) → Is why → IfErr result Is
handed_on (Ok x) Is why is has = tt
handed_on (Err e) Is why is has = rw is has

-- what follows from two facts of a result
pub of_both : {T E : Type 0} (result : Result T E) (P Q R : T → Type 0) → ((x : T) → P x → Q x → R x) → IfOk result P → IfOk result Q → IfOk result R
of_both (Ok x) P Q R so p q = so x p q
of_both (Err e) P Q R so p q = tt

pub of_both_faults : {T E : Type 0} (result : Result T E) (P Q R : E → Type 0) → ((e : E) → P e → Q e → R e) → IfErr result P → IfErr result Q → IfErr result R
of_both_faults (Ok x) P Q R so p q = tt
of_both_faults (Err e) P Q R so p q = so e p q

-- why a value wasn't read, as a fault of the image
pub value_fails : (found : ImageMap) (addresses : List Lba) (before now : Seen) (why : ValueFault) → AreRefused found addresses before now why → ValueFails found before now (image_fault_of why)
value_fails found addresses before now Device refused = refused
value_fails found addresses before now (Page at fault) (address, has, leads) = (address.0, leads)
value_fails found addresses before now NoMemory refused = tt

-- no page is damaged then either
pub no_page_of : (why : ValueFault) → IsNoDamage why → IsNoPage (image_fault_of why)
no_page_of Device none = tt
no_page_of (Page at fault) none = absurd none
no_page_of NoMemory none = tt

-- a picked image that is refused
pub pick_refused : (disk : Memory) (number : ℕ) (picked : Blocks) (now : Seen) (why : ImageFault) → IsPickOf disk number picked → ShowsNothing (trust_of true true) (seen_of (fresh picked)) now why
    → PickFails disk number (pick_fault_of why)
pick_refused disk number picked now image.Memory is nothing = tt
pick_refused disk number picked now image.Device is nothing = tt
pick_refused disk number picked now (image.Super fault) is nothing = record { picked = picked; is = is; now = now; cause = nothing }
pick_refused disk number picked now (image.Window sequence) is nothing = record { picked = picked; is = is; now = now; cause = nothing }
pick_refused disk number picked now (image.Page at fault) is nothing = record { picked = picked; is = is; now = now; cause = nothing }
pick_refused disk number picked now (image.Counter at point) is nothing = record { picked = picked; is = is; now = now; cause = nothing }
pick_refused disk number picked now (image.SharedPage at) is nothing = record { picked = picked; is = is; now = now; cause = nothing }
pick_refused disk number picked now (image.Counts at stored mapped) is nothing = record { picked = picked; is = is; now = now; cause = nothing }
pick_refused disk number picked now image.Unclean is nothing = record { picked = picked; is = is; now = now; cause = nothing }
