-- The lines of blocks that are no image, computed: of each fault one.
use Rattle.std.specs.Prelude.{◌≡◌, codes, refl}
use Rattle.image_layout.specs.declared.fault.Field.TheVariants.{Journal}
use Rattle.image_layout.specs.declared.fault.SuperFault.TheVariants.{NotAnImage, Version, BadField}
use Rattle.image_model.specs.declared.fault.ImageFault.TheVariants.{Super, Window, Page, Counter, SharedPage, Counts, Device, Unclean, Memory}
use Rattle.page_codec.specs.declared.fault.PageFault.TheVariants.{Header, Compressed, OutOfRange}
use Rattle.command_text.proofs.Numerals.{numerals}
use Rattle.command_text.specs.Faults.{image_fault_line}

no_image : image_fault_line (Super NotAnImage) ≡ codes "bad image: not an image\n"
no_image = refl

version : image_fault_line (Super (Version 7)) ≡ codes "bad image: version 7\n"
version = simp numerals refl

field : image_fault_line (Super (BadField Journal)) ≡ codes "bad image: field journal\n"
field = refl

window : image_fault_line (Window 10) ≡ codes "bad image: window 10\n"
window = simp numerals refl

header : image_fault_line (Page (record { 0 = 85 }) Header) ≡ codes "bad image: page 85 header\n"
header = simp numerals refl

compressed : image_fault_line (Page (record { 0 = 85 }) (Compressed 5)) ≡ codes "bad image: page 85 slot 5 compressed\n"
compressed = simp numerals refl

out_of_range : image_fault_line (Page (record { 0 = 85 }) (OutOfRange 5)) ≡ codes "bad image: page 85 slot 5 out of range\n"
out_of_range = simp numerals refl

-- the point isn't told
counter : image_fault_line (Counter (record { 0 = 86 }) (record { 0 = 1547 })) ≡ codes "bad image: counter 86\n"
counter = simp numerals refl

shared : image_fault_line (SharedPage (record { 0 = 85 })) ≡ codes "bad image: shared page 85\n"
shared = simp numerals refl

-- the stored count stands first
counts : image_fault_line (Counts (record { 0 = 86 }) 2 1) ≡ codes "bad image: block 86 stored 2 mapped 1\n"
counts = simp numerals refl

unclean : image_fault_line Unclean ≡ codes "bad image: unclean\n"
unclean = refl

-- no word of an image
device : image_fault_line Device ≡ codes "device fault\n"
device = refl

memory : image_fault_line Memory ≡ codes "no memory\n"
memory = refl
