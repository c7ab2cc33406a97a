-- What the checks of a plan say.
use Rattle.std.specs.Prelude.{◌≡◌, ◌%◌, ◌==◌, Bool, true, false, if◌then◌else◌, Result, Ok, Err, refl}
use Rattle.std.proofs.lemmas.Bool.{leb-true, eqb-true}
use Rattle.blk_base.specs.declared.geometry.Geometry.{Geometry}
use Rattle.blk_base.specs.Limits.{IsGeometry, logical_limit}
use Rattle.image_layout.specs.PossibleSizes.{each_size, first_failing, fits_trees}
use Rattle.image_layout.specs.Superblock.{is_within}
use Rattle.image_layout.specs.declared.fault.LayoutFault.{LayoutFault}
use Rattle.image_layout.proofs.CheckLaws.{both, within-right}

-- a check that passed, and the checks behind it
pub passes : (p : Bool) (fault : LayoutFault) (rest : Result (Unit {0}) LayoutFault) → (if p then rest else Err fault) ≡ Ok tt → (p ≡ true) × (rest ≡ Ok tt)
passes true fault rest h = (refl, h)
passes false fault rest h = absurd cc

-- sizes that pass are within their limits
pub planned_right : (g : Geometry) → first_failing (each_size g) ≡ Ok tt → first_failing (fits_trees g) ≡ Ok tt → IsGeometry g
planned_right g h trees =
    let height = passes _ _ _ h in
    let nonce = passes _ _ _ height.1 in
    let logical = passes _ _ _ nonce.1 in
    let slabs = passes _ _ _ logical.1 in
    let slab_blocks = passes _ _ _ slabs.1 in
    let journal = passes _ _ _ slab_blocks.1 in
    let index = passes _ _ _ journal.1 in
    let slab_journal = passes _ _ _ index.1 in
    let index_parts = both (is_within 4 1024 g.index) (g.index % 4 == 0) index.0 in
    let index_range = within-right 4 1024 g.index index_parts.0 in
    let below = passes _ _ _ trees in
    record {
      height = within-right 2 3 g.height height.0;
      nonce = leb-true 1 g.nonce nonce.0;
      logical = (leb-true 1 g.logical logical.0, leb-true g.logical (logical_limit g.height) below.0);
      slabs = within-right 1 1024 g.slabs slabs.0;
      slab_blocks = within-right 16 32768 g.slab_blocks slab_blocks.0;
      journal = within-right 8 1024 g.journal journal.0;
      index = (index_range.0, index_range.1, eqb-true (g.index % 4) 0 index_parts.1);
      slab_journal = within-right 2 64 g.slab_journal slab_journal.0;
    }
