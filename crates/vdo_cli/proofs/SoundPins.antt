-- Rows that pin what a crash of a sound image shows (`ShowsSound`): one that it accepts, and for each part one that breaks it.
use Rattle.std.proofs.Common.{◌≡◌, ◌≢◌, List, [], ◌∷◌, ◌++◌, map, refl, sym, ◌∙◌}
use Rattle.blk_base.specs.declared.geometry.Geometry.{Geometry}
use Rattle.blk_base.specs.declared.place.Lba.{Lba}
use Rattle.command_text.specs.declared.crashes.AddressValue.{AddressValue}
use Rattle.crash_images.proofs.PartRows.{no_addresses}
use Rattle.crash_images.specs.Addresses.{AreAddresses}
use Rattle.crash_images.specs.Values.{value_in}
use Rattle.crash_images.specs.declared.shown.Shown.{Shown}
use Rattle.disk_model.specs.Images.{IsImage}
use Rattle.disk_model.specs.Log.{Blocks}
use Rattle.disk_model.specs.Memory.{Memory}
use Rattle.disk_model.specs.declared.call.Call.{Call}
use Rattle.image_model.proofs.CountLaws.{is_first, none_in_nothing}
use Rattle.image_model.specs.Sound.{IsSound}
use Rattle.recovery_laws.specs.Kept.{image_in}
use Rattle.vdo_model.specs.Scripts.{Script}
use Rattle.vdo_cli.specs.Crashes.{ShowsSound}

nothing_older : (newer older : List Call) → [] ≡ newer ++ older → older ≡ []
nothing_older [] older parts = sym parts
nothing_older (call ∷ newer) older parts = absurd (cc parts)

module _ (g : Geometry) (copy : Memory) (picked : Blocks) (shown : Shown) where
  -- of an empty script there are no values
  of_no_script : IsImage copy.opening copy.log picked → (sound : IsSound picked) → sound.head.geometry ≡ g → shown.values.items ≡ []
      → shown.audit.differs.items ≡ [] → ShowsSound g [] copy picked shown
  of_no_script may_stand sound sizes no_values none = record {
    newer = [];
    older = copy.log;
    parts = refl;
    may_stand = may_stand;
    sound = sound;
    sizes = sizes;
    addresses = [];
    named = no_addresses g.logical;
    values = no_values;
    none = none;
  }

  -- named, values: nor is there one
  no_value_of_no_script : (value : AddressValue) (sound : IsSound picked) (addresses : List Lba) → AreAddresses [] g.logical addresses
      → value ∷ [] ≡ map (value_in (image_in picked sound)) addresses → ⊥
  no_value_of_no_script value sound [] named values = absurd (cc values)
  no_value_of_no_script value sound (at ∷ rest) named values = let is = (named.each at).0 (is_first at rest) in none_in_nothing is.0 is.2

  not_with_a_value : (value : AddressValue) → shown.values.items ≡ value ∷ [] → ShowsSound g [] copy picked shown → ⊥
  not_with_a_value value one shows = no_value_of_no_script value shows.sound shows.addresses shows.named (sym one ∙ shows.values)

  module _ (script : Script) where
    -- parts, may_stand: a copy that wasn't called leaves what it began with
    not_of_later_calls : copy.log ≡ [] → (IsImage copy.opening [] picked → ⊥) → ShowsSound g script copy picked shown → ⊥
    not_of_later_calls none never shows =
        let older : shows.older ≡ [] = nothing_older shows.newer shows.older (sym none ∙ shows.parts) in never (rw older at shows.may_stand)

    -- sound
    not_of_an_unsound_image : (IsSound picked → ⊥) → ShowsSound g script copy picked shown → ⊥
    not_of_an_unsound_image never shows = never shows.sound

    -- sizes
    not_of_other_sizes : ((sound : IsSound picked) → sound.head.geometry ≢ g) → ShowsSound g script copy picked shown → ⊥
    not_of_other_sizes others shows = others shows.sound shows.sizes

    -- none
    not_where_blocks_differ : shown.audit.differs.items ≢ [] → ShowsSound g script copy picked shown → ⊥
    not_where_blocks_differ some shows = some shows.none
