-- Rows that pin the form of options, their values and ranges: what each clause takes, and what it alone refuses.
use Rattle.std.specs.Prelude.{◌≡◌, true, false, [], ◌∷◌, codes, Some, None, refl}
use Rattle.vdo_words.specs.Given.{awaits, cut, given}
use Rattle.vdo_words.specs.Options.{accepts, are_right, is_given, is_right, number_of, number_or}
use Rattle.vdo_words.specs.declared.option_names.OptionName.TheVariants.{Nonce, Height, Threads, Depth, LogicalZones, PhysicalZones, HashZones, Cache, Requests, Streams, Schedule}

-- a value behind the first equals sign
value-behind : cut (codes "--depth=2") ≡ (codes "--depth", Some (codes "2"))
value-behind = refl

first-sign : cut (codes "--depth=2=3") ≡ (codes "--depth", Some (codes "2=3"))
first-sign = refl

no-sign : cut (codes "--depth") ≡ (codes "--depth", None)
no-sign = refl

-- the next word is the value, but not that of the flag
option-awaits : awaits (cut (codes "--depth")) ≡ true
option-awaits = refl

flag-stands-alone : awaits (cut (codes "--threads")) ≡ false
flag-stands-alone = refl

value-is-there : awaits (cut (codes "--depth=")) ≡ false
value-is-there = refl

next-word : given (codes "--depth" ∷ codes "2" ∷ codes "--threads" ∷ []) ≡ (codes "--depth", Some (codes "2")) ∷ (codes "--threads", None) ∷ []
next-word = refl

no-next-word : given (codes "--depth" ∷ []) ≡ (codes "--depth", None) ∷ []
no-next-word = refl

-- 1 to 20 digits
one-digit : number_of Height (codes "0") ≡ Some 0
one-digit = refl

twenty-digits : number_of Height (codes "00000000000000000007") ≡ Some 7
twenty-digits = refl

no-digit : number_of Height (codes "") ≡ None
no-digit = refl

too-many-digits : number_of Height (codes "000000000000000000007") ≡ None
too-many-digits = refl

a-sign : number_of Height (codes "+7") ≡ None
a-sign = refl

a-letter : number_of Height (codes "0x7") ≡ None
a-letter = refl

-- each range at both ends
wide-last : number_of Nonce (codes "18446744073709551615") ≡ Some 18446744073709551615
wide-last = refl

wide-past : number_of Nonce (codes "18446744073709551616") ≡ None
wide-past = refl

height-last : number_of Height (codes "4294967295") ≡ Some 4294967295
height-last = refl

height-past : number_of Height (codes "4294967296") ≡ None
height-past = refl

depth-ends : number_of Depth (codes "1") ≡ Some 1 × number_of Depth (codes "16") ≡ Some 16
depth-ends = (refl, refl)

depth-past : number_of Depth (codes "0") ≡ None × number_of Depth (codes "17") ≡ None
depth-past = (refl, refl)

logical-ends : number_of LogicalZones (codes "1") ≡ Some 1 × number_of LogicalZones (codes "4") ≡ Some 4
logical-ends = (refl, refl)

logical-past : number_of LogicalZones (codes "0") ≡ None × number_of LogicalZones (codes "5") ≡ None
logical-past = (refl, refl)

physical-ends : number_of PhysicalZones (codes "1") ≡ Some 1 × number_of PhysicalZones (codes "4") ≡ Some 4
physical-ends = (refl, refl)

physical-past : number_of PhysicalZones (codes "0") ≡ None × number_of PhysicalZones (codes "5") ≡ None
physical-past = (refl, refl)

hash-ends : number_of HashZones (codes "1") ≡ Some 1 × number_of HashZones (codes "4") ≡ Some 4
hash-ends = (refl, refl)

hash-past : number_of HashZones (codes "0") ≡ None × number_of HashZones (codes "5") ≡ None
hash-past = (refl, refl)

cache-ends : number_of Cache (codes "4") ≡ Some 4 × number_of Cache (codes "4096") ≡ Some 4096
cache-ends = (refl, refl)

cache-past : number_of Cache (codes "3") ≡ None × number_of Cache (codes "4097") ≡ None
cache-past = (refl, refl)

requests-ends : number_of Requests (codes "1") ≡ Some 1 × number_of Requests (codes "65536") ≡ Some 65536
requests-ends = (refl, refl)

requests-past : number_of Requests (codes "0") ≡ None × number_of Requests (codes "65537") ≡ None
requests-past = (refl, refl)

streams-ends : number_of Streams (codes "1") ≡ Some 1 × number_of Streams (codes "16") ≡ Some 16
streams-ends = (refl, refl)

streams-past : number_of Streams (codes "0") ≡ None × number_of Streams (codes "17") ≡ None
streams-past = (refl, refl)

-- a value exactly where one belongs
flag-alone : accepts Threads None ≡ true
flag-alone = refl

flag-with-value : accepts Threads (Some (codes "1")) ≡ false
flag-with-value = refl

with-value : accepts Depth (Some (codes "1")) ≡ true
with-value = refl

without-value : accepts Depth None ≡ false
without-value = refl

-- an option of the command, whole and in its own letters
own-option : is_right (Depth ∷ Cache ∷ []) (cut (codes "--cache=4")) ≡ true
own-option = refl

other-option : is_right (Depth ∷ Cache ∷ []) (cut (codes "--nonce=4")) ≡ false
other-option = refl

part-of-a-name : is_right (Depth ∷ Cache ∷ []) (cut (codes "--cach=4")) ≡ false
part-of-a-name = refl

one-hyphen : is_right (Depth ∷ Cache ∷ []) (cut (codes "-cache=4")) ≡ false
one-hyphen = refl

-- each at most once, in any order
either-order : are_right (Depth ∷ Cache ∷ []) (given (codes "--cache=4" ∷ codes "--depth" ∷ codes "1" ∷ [])) ≡ true
either-order = refl

twice : are_right (Depth ∷ Cache ∷ []) (given (codes "--depth=1" ∷ codes "--cache=4" ∷ codes "--depth=1" ∷ [])) ≡ false
twice = refl

-- the default where the option isn't there
its-value : number_or 16 Cache (given (codes "--depth=1" ∷ codes "--cache=4" ∷ [])) ≡ 4
its-value = refl

its-default : number_or 16 Cache (given (codes "--depth=1" ∷ [])) ≡ 16
its-default = refl

there : is_given Schedule (given (codes "--depth=1" ∷ codes "--schedule=0" ∷ [])) ≡ true
there = refl

not-there : is_given Schedule (given (codes "--depth=1" ∷ codes "--threads" ∷ [])) ≡ false
not-there = refl
