-- What is done to an image before a session: it is recovered where its last session wasn't closed, and then opened.
use Rattle.std.specs.Prelude.{ℕ, ◌≡◌, ◌⊎◌, ◌+◌, ◌≤◌, ◌^◌, Option, Some, None, Ok, Err}
use Rattle.blk_base.specs.declared.opened.Opened.{Opened}
use Rattle.disk_model.specs.Log.{Blocks}
use Rattle.disk_model.specs.Seen.{Seen}
use Rattle.disk_model.specs.Trust.{Trust}
use Rattle.image_model.specs.Sound.{IsSound}
use Rattle.image_model.specs.declared.fault.ImageFault.{ImageFault}
use Rattle.rebuild.specs.Openings.{IsOpening}
use Rattle.rebuild.specs.Recoveries.{IsRecovery, IsTold}
use Rattle.rebuild.specs.declared.forms.Recovered.{Recovered}
use Rattle.rebuild.specs.declared.forms.Recovered.TheVariants.{Clean, Entries}
use Rattle.core_stops.specs.Sequences.{next_start}

-- how many entries of the journal were used, where there was a recovery
abbrev pub recovered_of : Recovered → Option ℕ
recovered_of Clean = None
recovered_of (Entries count) = Some count

-- An image was recovered, or had nothing to recover, and then it was opened: this is what a session starts with.
pub record IsReady (trust : Trust) (before now : Seen) (found : Recovered) (start : Opened) : Type 0 where
  pub middle : Seen
  pub recovery : IsRecovery trust before middle (Ok found)
  pub opening : IsOpening trust middle now (Ok start)

-- so it is now, whatever it was before
pub record IsReadyNow (trust : Trust) (now : Seen) (found : Recovered) (start : Opened) : Type 0 where
  pub before : Seen
  pub is : IsReady trust before now found start

-- it wasn't recovered, for this reason
pub record IsNotRecovered (trust : Trust) (before now : Seen) (recovered : Option ℕ) (why : ImageFault) : Type 0 where
  pub none : recovered ≡ None
  pub recovery : IsRecovery trust before now (Err why)

-- it was, or had nothing to recover, and wasn't opened
pub record IsNotOpened (trust : Trust) (before now : Seen) (recovered : Option ℕ) (why : ImageFault) : Type 0 where
  pub found : Recovered
  pub recovered_is : recovered ≡ recovered_of found
  pub middle : Seen
  pub recovery : IsRecovery trust before middle (Ok found)
  pub opening : IsOpening trust middle now (Err why)

-- why there is nothing to start with
abbrev pub IsUnready : Trust → Seen → Seen → Option ℕ → ImageFault → Type 0
IsUnready trust before now recovered why = IsNotRecovered trust before now recovered why ⊎ IsNotOpened trust before now recovered why

-- something is said of an honest device whose one image, the index aside, is sound
abbrev pub OfSound : Trust → Seen → ((image : Blocks) → IsSound image → Type 0) → Type 0
OfSound trust before Says = (image : Blocks) → IsTold trust before image → (sound : IsSound image) → Says image sound

-- so many sequences are left to the next session, and to those behind it
abbrev pub HasSequencesLeft : (image : Blocks) → IsSound image → Type 0
HasSequencesLeft image sound = next_start image sound + 2 ^ 20 ≤ 2 ^ 54
