-- Which tools are a zone's, and what becomes of a device: each clause as it is so, and as it isn't.
use Rattle.std.proofs.Common.{inl, inr, ◌⊎◌}
use denote.Ref.{MutBor}
use Rattle.core_model.specs.declared.zones.DeviceZone.{DeviceZone}
use Rattle.core_model.specs.declared.zones.PhysicalZone.{PhysicalZone}
use Rattle.core_model.specs.declared.zones.ZoneData.TheVariants as at
use Rattle.disk_model.specs.Seen.{Seen}
use Rattle.vdo_core.specs.StepTools.{AreToolsOf, OnDevice, Uses}
use Rattle.vdo_core.specs.declared.tools.Tools.TheVariants.{Device, Other}

-- AreToolsOf: the device is its own zone's, and no other zone's
module _ (d : DeviceZone) (p : PhysicalZone) (disk : MutBor Seen) where
  tools-device_of_its_own : AreToolsOf (at.Device d) (Device disk)
  tools-device_of_its_own = tt

  tools-not_without_it : AreToolsOf {D = Seen} (at.Device d) Other → ⊥
  tools-not_without_it none = none tt

  tools-none_of_another : AreToolsOf {D = Seen} (at.Physical p) Other
  tools-none_of_another = λ calls. calls

  tools-not_of_another : AreToolsOf (at.Physical p) (Device disk) → ⊥
  tools-not_of_another calls = calls

-- OnDevice: of the device that is there, as it is now
module _ (disk : MutBor Seen) (P : Seen → Type 0) where
  on_device-so : P disk.now → OnDevice P (Device disk)
  on_device-so so = so

  on_device-not_so : (P disk.now → ⊥) → OnDevice P (Device disk) → ⊥
  on_device-not_so none so = none so

-- Uses: of the device before and after; without one, of each that stays as it is
module _ (disk left : MutBor Seen) (at : Seen) (P : Seen → Seen → Type 0) (gone : Unit {0} ⊎ ⊥) where
  uses-so : P disk.now left.now → Uses (λ (seen : Seen). seen) P (Device disk) (inl (left, tt))
  uses-so so = so

  uses-not_so : (P disk.now left.now → ⊥) → Uses (λ (seen : Seen). seen) P (Device disk) (inl (left, tt)) → ⊥
  uses-not_so none so = none so

  uses-not_lost : Uses (λ (seen : Seen). seen) P (Device disk) (inr gone) → ⊥
  uses-not_lost lost = lost

  uses-none : ((seen : Seen) → P seen seen) → Uses (λ (seen : Seen). seen) P Other (inr gone)
  uses-none all = all

  uses-not_at_one : (P at at → ⊥) → Uses (λ (seen : Seen). seen) P Other (inr gone) → ⊥
  uses-not_at_one none all = none (all at)
