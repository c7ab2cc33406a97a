-- What a step works with, and what becomes of it.
use Rattle.std.proofs.Common.{◌⊎◌, inl, inr}
use denote.Ref.{MutBor}
use Rattle.disk_model.specs.Seen.{Seen}
use Rattle.core_model.specs.declared.zones.ZoneData.{ZoneData}
use Rattle.core_model.specs.Steps.{CallsDevice}
use Rattle.vdo_core.specs.declared.tools.Tools.{Tools}
use Rattle.vdo_core.specs.declared.tools.Tools.TheVariants.{Device, Other}

-- the tools are the zone's: the device is its own zone's, and no other zone has a tool
abbrev pub AreToolsOf : {D : Type 0} → ZoneData → Tools D → Type 0
AreToolsOf keeps (Device disk) = CallsDevice keeps
AreToolsOf keeps Other = CallsDevice keeps → ⊥

-- this is so of the device, where there is one
abbrev pub OnDevice : {D : Type 0} → (D → Type 0) → Tools D → Type 0
OnDevice P (Device disk) = P disk.now
OnDevice P Other = Unit {0}

-- This is so of the device as it was before and as it is afterwards. Where there is none, it is so of each that nothing
-- happens to.
abbrev pub Uses : {D : Type 0} → (D → Seen) → (Seen → Seen → Type 0) → Tools D → (MutBor D × Unit {0}) ⊎ (Unit {0} ⊎ ⊥) → Type 0
Uses seen P (Device disk) (inl left) = P (seen disk.now) (seen left.0.now)
Uses seen P (Device disk) (inr none) = ⊥
Uses seen P Other left = (at : Seen) → P at at
