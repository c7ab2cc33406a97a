-- A number above the range of an option is none of its values.
use Rattle.std.specs.Prelude.{ℕ, ◌≡◌, ◌<◌, ◌≤◌, ◌&&◌, Bool, true, false, nat_le, List, Some, None, if◌then◌else◌, refl}
use Rattle.std.specs.Str.Parse.{digits_value}
use Rattle.std.proofs.Common.{arith}
use Rattle.std.proofs.lemmas.Bool.Decides.{nat_tests}
use Rattle.vdo_words.specs.Options.{greatest, least, is_decimal, number_of}
use Rattle.vdo_words.specs.declared.option_names.OptionName.{OptionName}
use Rattle.vdo_words.specs.declared.option_names.OptionName.TheVariants.{LogicalZones, PhysicalZones, HashZones, Depth, Streams, Cache, Requests, Nonce, Schedule, Seed, After, Image, Logical, Slabs, SlabBlocks, Journal, Index, SlabJournal, Height, Threads}

-- every range ends within 64 bits
pub greatest-fits : (name : OptionName) → greatest name ≤ 18446744073709551615
greatest-fits Logical = omega arith
greatest-fits Slabs = omega arith
greatest-fits SlabBlocks = omega arith
greatest-fits Journal = omega arith
greatest-fits Index = omega arith
greatest-fits SlabJournal = omega arith
greatest-fits Height = omega arith
greatest-fits Nonce = omega arith
greatest-fits Schedule = omega arith
greatest-fits Threads = omega arith
greatest-fits Depth = omega arith
greatest-fits LogicalZones = omega arith
greatest-fits PhysicalZones = omega arith
greatest-fits HashZones = omega arith
greatest-fits Cache = omega arith
greatest-fits After = omega arith
greatest-fits Image = omega arith
greatest-fits Seed = omega arith
greatest-fits Requests = omega arith
greatest-fits Streams = omega arith

refused : (decimal above : Bool) (value : ℕ) → None ≡ (if decimal && above && false then Some value else None)
refused true true value = refl
refused true false value = refl
refused false above value = refl

pub number-above : (name : OptionName) (text : List ℕ) → greatest name < digits_value 10 text → None ≡ number_of name text
number-above name text above =
    let past : nat_le (digits_value 10 text) (greatest name) ≡ false = grind (arith, nat_tests) in
    rw past (refused (is_decimal text) (nat_le (least name) (digits_value 10 text)) (digits_value 10 text))
