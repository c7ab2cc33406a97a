-- How many calls the device zone makes.
use Rattle.std.specs.Prelude.{ℕ, ◌≤◌}
use Rattle.core_model.specs.declared.zones.DeviceZone.{DeviceZone}

-- The device's zone makes one call a step at most.
abbrev pub IsDeviceWithin : ℕ → DeviceZone → Type 0
IsDeviceWithin steps d = d.calls ≤ steps
