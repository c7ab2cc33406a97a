-- For each definition of what an image shows whose parts other crates promise: that it is these parts, and no less.
use Rattle.std.proofs.Common.{ℕ, ◌≡◌, ◌≢◌, ◌+◌, false, true, List, [], ◌∷◌, Ok, Err, inl, inr, refl, arith}
use Rattle.audit.specs.Audits.{AuditFails, IsAudited}
use Rattle.audit.specs.declared.forms.Report.{Report}
use Rattle.blk_base.specs.declared.geometry.Super.{Super}
use Rattle.blk_base.specs.declared.journal_entry.CommittedEntry.{CommittedEntry}
use Rattle.blk_base.specs.declared.place.Lba.{Lba}
use Rattle.blk_base.specs.declared.place.Pbn.{Pbn}
use Rattle.command_text.specs.declared.crashes.AddressValue.{AddressValue}
use Rattle.disk_model.specs.Log.{Blocks}
use Rattle.disk_model.specs.Seen.{Seen}
use Rattle.disk_model.specs.Trust.{trust_of}
use Rattle.disk_model.specs.Since.{IsUntouched}
use Rattle.image_layout.specs.Opened.{super_of_image}
use Rattle.image_layout.specs.declared.fault.SuperFault.TheVariants.{NotAnImage}
use Rattle.image_model.proofs.CountLaws.{is_first, none_in_nothing}
use Rattle.image_model.specs.Maps.{ArePagesGood}
use Rattle.image_model.specs.Sound.{Opens, image_of}
use Rattle.image_model.specs.declared.fault.ImageFault.{ImageFault}
use Rattle.image_model.specs.declared.fault.ImageFault.TheVariants as image
use Rattle.page_codec.specs.declared.fault.PageFault.TheVariants.{Header}
use Rattle.rebuild.specs.Recoveries.{IsRecovery, IsTold}
use Rattle.rebuild.specs.declared.forms.Recovered.{Recovered}
use Rattle.vdo_model.specs.Scripts.{Script}
use Rattle.crash_images.specs.Addresses.{AreAddresses, IsNamed}
use Rattle.crash_images.specs.Maps.{HasNoMap, ShowsMap}
use Rattle.crash_images.specs.Shows.{AreValues, HasNoValue, HasNoValues, HasValues, IsNotAudited, IsShown, ValuesFail}
use Rattle.crash_images.specs.Values.{value_in}
use Rattle.crash_images.specs.declared.maps.ImageMap.{ImageMap}
use Rattle.crash_images.specs.declared.shown.Shown.{Shown}

-- no map was read so
abbrev IsNotRead : Seen → Type 0
IsNotRead before = (found : ImageMap) (behind : Seen) → ShowsMap (trust_of true true) before behind found → ⊥

-- HasValues: those of an image that can be opened
module _ (blocks : Blocks) (head : Super) (last : ℕ) (window : List CommittedEntry) (opens : Opens blocks head last window) where
  none_of_it : ArePagesGood (image_of head blocks window) → HasValues blocks head []
  none_of_it pages = record { last = last; window = window; opens = opens; pages = pages; right = refl }

  one_of_it : (at : Lba) → ArePagesGood (image_of head blocks window) → HasValues blocks head (value_in (image_of head blocks window) at ∷ [])
  one_of_it at pages = record { last = last; window = window; opens = opens; pages = pages; right = refl }

module _ (blocks : Blocks) (head : Super) (value : AddressValue) where
  -- opens
  values_not_of_no_image : super_of_image blocks ≡ Err NotAnImage → HasValues blocks head [] → ⊥
  values_not_of_no_image none has = absurd (let own = has.opens.accepted in cc (none, own))

  -- pages
  values_not_of_a_bad_page : ((window : List CommittedEntry) → ArePagesGood (image_of head blocks window) → ⊥) → HasValues blocks head [] → ⊥
  values_not_of_a_bad_page never has = never has.window has.pages

  -- right
  values_not_of_other_blocks : ((window : List CommittedEntry) → value ≢ value_in (image_of head blocks window) value.at) → HasValues blocks head (value ∷ []) → ⊥
  values_not_of_other_blocks never has = never has.window (let right = has.right in cc right)

-- AreValues: an empty script names no address, of which there is no value
pub no_addresses : (logical : ℕ) → AreAddresses [] logical []
no_addresses logical = record {
  rising = λ i j d less inside. absurd (omega (arith, less, inside));
  each = λ at. ((λ has. absurd (none_in_nothing at has)), (λ named. absurd (none_in_nothing named.0 named.2)));
}

of_no_script : (found : ImageMap) (before behind : Seen) → ShowsMap (trust_of false true) before behind found → AreValues (trust_of false true) [] before []
of_no_script found before behind read = record {
  found = found;
  behind = behind;
  read = read;
  named = no_addresses found.head.geometry.logical;
  says = λ blocks is. absurd (let told = is.told in cc told);
}

-- read
values_not_unread : (before : Seen) → IsNotRead before → AreValues (trust_of true true) [] before [] → ⊥
values_not_unread before never are = never are.found are.behind are.read

-- named: neither one more, nor one less, whichever blocks differ
values_not_of_another : (before : Seen) (value : AddressValue) → AreValues (trust_of true true) [] before (value ∷ []) → ⊥
values_not_of_another before value are = let named = (are.named.each value.at).0 (is_first value.at []) in none_in_nothing named.0 named.2

values_not_left_out : (before : Seen) (script : Script) (at : Lba) → ((found : ImageMap) → IsNamed script found.head.geometry.logical at.0) → AreValues (trust_of true true) script before [] → ⊥
values_not_left_out before script at named are = none_in_nothing at ((are.named.each at).1 (named are.found))

-- says: of an honest device on whose image the address has something else
module _ (before : Seen) (script : Script) (value : AddressValue) (blocks : Blocks) (told : IsTold (trust_of true true) before blocks)
    (differs : (head : Super) (window : List CommittedEntry) → value ≢ value_in (image_of head blocks window) value.at) where
  values_not_of_another_image : AreValues (trust_of true true) script before (value ∷ []) → ⊥
  values_not_of_another_image are = let has = are.says blocks told in differs are.found.head has.window (let right = has.right in cc right)

-- HasNoValue: the map was read, and a read failed
no_value : (found : ImageMap) (before behind : Seen) → ShowsMap (trust_of true true) before behind found → HasNoValue (trust_of true true) before (record behind { faults = behind.faults + 1 }) image.Device
no_value found before behind read = record {
  found = found;
  behind = behind;
  read = read;
  cause = omega arith;
  undamaged = λ blocks told. tt;
}

-- read
no_value_not_unread : (before now : Seen) → IsNotRead before → HasNoValue (trust_of true true) before now image.Memory → ⊥
no_value_not_unread before now never is = never is.found is.behind is.read

-- cause
no_value_not_of_a_count : (before now : Seen) (at : Pbn) → HasNoValue (trust_of true true) before now (image.SharedPage at) → ⊥
no_value_not_of_a_count before now at is = is.cause

-- undamaged
no_value_not_of_an_honest_page : (before now : Seen) (at : Pbn) (blocks : Blocks) → IsTold (trust_of true true) before blocks → HasNoValue (trust_of true true) before now (image.Page at Header) → ⊥
no_value_not_of_an_honest_page before now at blocks told is = is.undamaged blocks told

-- ValuesFail: there is no map, or a value wasn't read; never for a wrong count
module _ (before now : Seen) where
  without_a_map : (why : ImageFault) → HasNoMap (trust_of true true) before now why → ValuesFail (trust_of true true) before now why
  without_a_map why none = inl none

  never_for_a_count : (at : Pbn) → ValuesFail (trust_of true true) before now (image.Counts at 2 1) → ⊥
  never_for_a_count at (inl (inl none)) = none
  never_for_a_count at (inl (inr (head, middle, read, inl none))) = none
  never_for_a_count at (inl (inr (head, middle, read, inr (second, window, window_read, none)))) = none
  never_for_a_count at (inr lacks) = lacks.cause

-- IsShown
module _ (script : Script) (before : Seen) (shown : Shown) where
  is_shown : (middle behind : Seen) → IsRecovery (trust_of true true) before middle (Ok shown.recovery) → IsAudited (trust_of true true) middle behind shown.audit
      → IsUntouched true middle behind → AreValues (trust_of true true) script behind shown.values.items → IsShown (trust_of true true) script before shown
  is_shown middle behind recovery audited untouched values = record {
    middle = middle;
    recovery = recovery;
    behind = behind;
    audited = audited;
    untouched = untouched;
    values = values;
  }

  -- recovery
  shown_not_unrecovered : ((middle : Seen) → IsRecovery (trust_of true true) before middle (Ok shown.recovery) → ⊥) → IsShown (trust_of true true) script before shown → ⊥
  shown_not_unrecovered never is = never is.middle is.recovery

  -- audited
  shown_not_unaudited : ((middle behind : Seen) → IsAudited (trust_of true true) middle behind shown.audit → ⊥) → IsShown (trust_of true true) script before shown → ⊥
  shown_not_unaudited never is = never is.middle is.behind is.audited

  -- untouched
  shown_not_written : ((middle behind : Seen) → IsUntouched true middle behind → ⊥) → IsShown (trust_of true true) script before shown → ⊥
  shown_not_written never is = never is.middle is.behind is.untouched

  -- values
  shown_not_without_values : ((behind : Seen) → AreValues (trust_of true true) script behind shown.values.items → ⊥) → IsShown (trust_of true true) script before shown → ⊥
  shown_not_without_values never is = never is.behind is.values

-- IsNotAudited
module _ (before now : Seen) (why : ImageFault) where
  is_not_audited : (found : Recovered) (middle : Seen) → IsRecovery (trust_of true true) before middle (Ok found) → AuditFails (trust_of true true) middle now why
      → IsNotAudited (trust_of true true) before now why
  is_not_audited found middle recovery cause = record { found = found; middle = middle; recovery = recovery; cause = cause }

  -- recovery
  audit_not_unrecovered : ((found : Recovered) (middle : Seen) → IsRecovery (trust_of true true) before middle (Ok found) → ⊥) → IsNotAudited (trust_of true true) before now why → ⊥
  audit_not_unrecovered never is = never is.found is.middle is.recovery

  -- cause
  audit_not_without_a_cause : ((middle : Seen) → AuditFails (trust_of true true) middle now why → ⊥) → IsNotAudited (trust_of true true) before now why → ⊥
  audit_not_without_a_cause never is = never is.middle is.cause

  -- HasNoValues
  has_no_values : (found : Recovered) (middle : Seen) (report : Report) (behind : Seen) → IsRecovery (trust_of true true) before middle (Ok found)
      → IsAudited (trust_of true true) middle behind report → IsUntouched true middle behind → ValuesFail (trust_of true true) behind now why → HasNoValues (trust_of true true) before now why
  has_no_values found middle report behind recovery audited untouched cause = record {
    found = found;
    middle = middle;
    recovery = recovery;
    report = report;
    behind = behind;
    audited = audited;
    untouched = untouched;
    cause = cause;
  }

  -- recovery
  none_not_unrecovered : ((found : Recovered) (middle : Seen) → IsRecovery (trust_of true true) before middle (Ok found) → ⊥) → HasNoValues (trust_of true true) before now why → ⊥
  none_not_unrecovered never is = never is.found is.middle is.recovery

  -- audited
  none_not_unaudited : ((middle behind : Seen) (report : Report) → IsAudited (trust_of true true) middle behind report → ⊥) → HasNoValues (trust_of true true) before now why → ⊥
  none_not_unaudited never is = never is.middle is.behind is.report is.audited

  -- untouched
  none_not_written : ((middle behind : Seen) → IsUntouched true middle behind → ⊥) → HasNoValues (trust_of true true) before now why → ⊥
  none_not_written never is = never is.middle is.behind is.untouched

  -- cause
  none_not_without_a_cause : ((behind : Seen) → ValuesFail (trust_of true true) behind now why → ⊥) → HasNoValues (trust_of true true) before now why → ⊥
  none_not_without_a_cause never is = never is.behind is.cause
