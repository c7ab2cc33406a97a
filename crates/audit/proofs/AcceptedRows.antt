-- Audits that are accepted: the report of an image that has nothing, the numbers of blocks that no list has, and a device
-- without a superblock.
use Rattle.std.proofs.Common.{ℕ, ◌≡◌, Bool, List, [], replicate, slice_index, Contains, Ok, refl, sym, ◌∙◌, ap, subst, inl, inr, arith}
use Rattle.std.proofs.lemmas.List.{get_or-replicate, length-replicate}
use Rattle.blk_base.specs.Regions.{DataBlock, block_of}
use Rattle.blk_base.specs.declared.layout.DataPlace.{DataPlace}
use Rattle.blk_base.specs.declared.place.Pbn.{Pbn}
use Rattle.count_updates.specs.Numbers.{block_number}
use Rattle.disk_model.specs.Log.{Blocks}
use Rattle.disk_model.specs.Seen.{Seen}
use Rattle.disk_model.specs.Trust.{Trust}
use Rattle.image_layout.specs.declared.fault.SuperFault.TheVariants.{NotAnImage}
use Rattle.image_model.proofs.CountLaws.{none_in_nothing, one_number, one_stored}
use Rattle.image_model.proofs.EmptyLaws.{the_image}
use Rattle.image_model.proofs.Example.{small}
use Rattle.image_model.specs.Counts.{Stores}
use Rattle.image_model.specs.Empty.{HasNothing}
use Rattle.image_model.specs.Maps.{ArePagesGood, Image}
use Rattle.image_model.specs.Sound.{IsDataPlace}
use Rattle.image_model.specs.declared.fault.ImageFault.TheVariants.{Counts, Super}
use Rattle.audit.specs.Audits.{AuditFails}
use Rattle.audit.specs.Reports.{AreUsed, Differs, HasNoFault, IsReport}
use Rattle.audit.specs.Tallies.{AreNumbers, AreTallied, Tallies, used_in}
use Rattle.audit.specs.declared.forms.Difference.{Difference}
use Rattle.audit.specs.declared.forms.Report.{Report}

-- a number for each data block of the small image
abbrev zeros : List ℕ
zeros = replicate 64 0

zero_of : (place : DataPlace) → IsDataPlace small place → slice_index zeros (block_number small place) ≡ 0
zero_of place inside =
    let slab = inside.0 in
    let offset = inside.1 in
    get_or-replicate 64 (block_number small place) 0 0 (omega (arith, slab, offset))

-- AreNumbers, AreTallied: of no page and no address each block has none
none_are_numbered : AreNumbers small [] [] (slice_index zeros)
none_are_numbered = λ place inside. none place inside
  where
    none : (place : DataPlace) → IsDataPlace small place → Tallies [] [] (record { 0 = block_of small (DataBlock place.slab place.offset) }) (slice_index zeros (block_number small place))
    none place inside = record { pages = 0; one_page = inr (refl, λ (link, has, at). none_in_nothing link has); sum = zero_of place inside }

none_are_tallied : AreTallied small [] [] zeros
none_are_tallied = record { size = length-replicate {A = ℕ} 64 0; each = none_are_numbered }

-- IsReport: of an image that has nothing no block differs, none is used, and there are 64
module _ (blocks : Blocks) (nothing : HasNothing (the_image small blocks)) (good : ArePagesGood (the_image small blocks)) where
  abbrev image : Image
  image = the_image small blocks

  no_fault : HasNoFault image
  no_fault = record {
    pages = good;
    stored = λ place inside. (0, nothing.stored place inside);
    unshared = λ at address page mapped. let none = nothing.unmapped address in absurd (cc (none, mapped));
  }

  none_differs : (difference : Difference) → Differs image difference → ⊥
  none_differs difference is =
      let stored = one_stored image is.place (Ok difference.stored) (Ok 0) is.stores (nothing.stored is.place is.inside) in
      let mapped = one_number image difference.at difference.mapped 0 is.maps (nothing.mapped difference.at) in
      let none : difference.stored ≡ 0 = cc stored in
      is.apart (none ∙ sym mapped)

  none_used : AreUsed image 0
  none_used = record {
    counts = zeros;
    size = length-replicate {A = ℕ} 64 0;
    stored = λ place inside. subst (λ (count : ℕ). Stores image place (Ok count)) (sym (zero_of place inside)) (nothing.stored place inside);
    sum = refl;
  }

  pub its_report : (report : Report) → report.differs.items ≡ [] → report.used ≡ 0 → report.total ≡ 64 → IsReport image report
  its_report report none used total = record {
    right = no_fault;
    each = λ difference. (
      λ has. absurd (none_in_nothing difference (subst (λ (ds : List Difference). Contains ds difference) none has)),
      λ differs. absurd (none_differs difference differs),
    );
    rising = rw none tt;
    used = rw used none_used;
    all = total;
  }

  -- used: another number
  one_used : (report : Report) → report.used ≡ 1 → (is : IsReport image report) → is.used.counts ≡ zeros → ⊥
  one_used report used is same = let sum = is.used.sum in let none = ap (λ (counts : List ℕ). used_in counts) same in omega (arith, sum, used, none)

-- AuditFails: a device without blocks has no superblock; and no fault of the counts is an audit's
no_superblock : (trust : Trust) (seen : Seen) → seen.size ≡ 0 → AuditFails trust seen seen (Super NotAnImage)
no_superblock trust seen none = inl (inl (record { none = none; fault_is = refl; same = refl }))

never_of_counts : (trust : Trust) (before now : Seen) (at : Pbn) (stored mapped : ℕ) → AuditFails trust before now (Counts at stored mapped) → ⊥
never_of_counts trust before now at stored mapped (inl fails) = fails
never_of_counts trust before now at stored mapped (inr (inl (head, middle, read, fails))) = fails
never_of_counts trust before now at stored mapped (inr (inr (head, window, middle, opened, fails))) = fails
