-- Entries of small windows, for rows.
use Rattle.std.proofs.Common.{[], All, refl, arith}
use Rattle.std.proofs.lemmas.List.Elements.{All-cons, All-nil}
use Rattle.blk_base.specs.Regions.{IsDataBlock}
use Rattle.blk_base.proofs.Example.{maps}
use Rattle.image_model.specs.Windows.{IsOfImage}
use Rattle.image_model.proofs.Example.{small, one}

-- An entry is of the image: its address, its blocks, its page.
pub data_86 : IsDataBlock small 86
data_86 = record { slab = 0; offset = 1; inside = (omega arith, omega arith); stands = refl }

pub each_is : All (IsOfImage small) one
each_is = All-cons (IsOfImage small) (maps 86) [] (omega arith, tt, data_86) (All-nil (IsOfImage small))
