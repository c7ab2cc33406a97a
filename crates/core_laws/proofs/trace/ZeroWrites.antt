-- Addresses that are mapped to no block have zeros.
use Rattle.std.proofs.Common.{◌≡◌, ◌≢◌, ◌∙◌, ℕ, Option, None, Some, List, ap, refl, subst}
use Rattle.core_laws.proofs.Common.{AllByRecursion, Asks, IsWrite, Lba, Remapping, Mapping, MapsTo, Pbn, Session, Trace, asked, bytes_of, newest, of_address, value_from, value_written, mapped_or, opened_at}
use Rattle.blk_base.specs.Sectors.{zero_block}
use Rattle.blk_base.specs.declared.place.Mapping.TheVariants.{Unmapped, Zero, At}
use Rattle.data_vio.specs.declared.items.Asks.TheVariants.{Read, Write, Discard, Flush}
use Rattle.core_laws.proofs.trace.DeskOfTrace.{each_of_address}
use Rattle.core_laws.proofs.lists.CoreLists.{newest_has}
use Rattle.image_model.specs.Maps.{value_with}

-- what an entry maps to no block gives its address zeros
maps_zero : (q : Asks) (bytes : List ℕ) (m : Mapping) (place : Lba) → ((x : Pbn) → m ≢ At x) → MapsTo q bytes m → value_written (Some (asked q place bytes)) ≡ zero_block
maps_zero Write bytes Zero place off maps = maps
maps_zero Write bytes (At x) place off maps = absurd (off x refl)
maps_zero Write bytes Unmapped place off maps = absurd maps
maps_zero Discard bytes m place off maps = refl
maps_zero Read bytes m place off maps = absurd maps
maps_zero Flush bytes m place off maps = absurd maps

zero_written : (s : Session) (t : Trace) (e : Remapping) → IsWrite s t e → (m : Mapping) → e.new ≡ m → ((x : Pbn) → m ≢ At x) → bytes_of s e ≡ zero_block
zero_written s t e write m is off = ap value_written write.asked ∙ maps_zero write.asks write.bytes m e.at off (subst (MapsTo write.asks write.bytes) is write.maps)

-- the value of an address that its newest write, or the opened image, maps to no block
pub zeros_by : (s : Session) (t : Trace) (es : List Remapping) (a : ℕ) (o : Option Remapping) (m : Mapping) → ((x : Pbn) → m ≢ At x) → value_with s.image m ≡ zero_block → newest (of_address a es) ≡ o → AllByRecursion (IsWrite s t) es
    → mapped_or o (opened_at s a) ≡ m → value_from s a o ≡ zero_block
zeros_by s t es a None m off zero is writes maps = ap (value_with s.image) maps ∙ zero
zeros_by s t es a (Some e) m off zero is writes maps = zero_written s t e (newest_has (IsWrite s t) (of_address a es) e is (each_of_address (IsWrite s t) a es writes)) m maps off
