-- While a sound image is recovered, and afterwards, it is sound and says the same.
use Rattle.std.proofs.Common.{ℕ, ◌≡◌, ◌+◌, ◌*◌, ◌<◌, ◌≤◌, Bool, false, IsTrue, List, [], length, All, Ok, refl, sym, ap, subst, inl, inr, arith}
use Rattle.std.proofs.lemmas.Bool.{cases_lt}
use Rattle.blk_base.specs.Counters.{sectors_per_slab}
use Rattle.blk_base.specs.Points.{point_of}
use Rattle.blk_base.specs.Regions.{needed_blocks, references_of}
use Rattle.blk_base.specs.declared.geometry.Geometry.{Geometry}
use Rattle.blk_base.specs.declared.point.Half.TheVariants.{Increment}
use Rattle.byte_fields.specs.Fields.{number_at}
use Rattle.disk_model.specs.Log.{Blocks}
use Rattle.image_layout.specs.Opened.{super_of_image}
use Rattle.image_model.specs.Counts.{IsKept, block_of_data, commit_of, reference_sector_at}
use Rattle.image_model.specs.Maps.{Image}
use Rattle.image_model.specs.Sound.{IsClosed, IsOfItsTime, IsSound, image_of}
use Rattle.replay_counts.specs.Recovered.{IsInSector}
use Rattle.slab_codec.specs.declared.forms.SlabEntry.{SlabEntry}
use Rattle.recovery_laws.specs.Kept.{AreKept, IsRecovered, recovered_super}
use Rattle.recovery_laws.specs.Recoverable.{IsRecoverable, sound_recoverable}
use Rattle.recovery_laws.specs.Written.{AreFull, AreOthersKept, AreUnderway, IsFullSector}
use Rattle.recovery_laws.proofs.CountsKept.{full_none}
use Rattle.recovery_laws.proofs.RecoverableLaws.{before, full_closed, known as known_of, room as room_of, sector_full, sectors_early, underway_still}
use Rattle.recovery_laws.proofs.SayLaws.{true_alike}
use Rattle.recovery_laws.proofs.StillLaws.{kept_before}
use Rattle.recovery_laws.proofs.WindowFacts.{IsKnown, update_early}

module _ (blocks blocks' : Blocks) (sound : IsSound blocks) where
  abbrev pub here : Image
  here = image_of sound.head blocks sound.window

  abbrev g : Geometry
  g = sound.head.geometry

  abbrev able : IsRecoverable blocks
  able = sound_recoverable blocks sound

  pub known : All (IsKnown g sound.last) sound.window
  known = known_of blocks blocks' able

  pub room : needed_blocks g ≤ length blocks
  room = room_of blocks blocks' able

  -- a point that was applied to a sector is of no later time
  applied_early : (slab n point : ℕ) → slab < g.slabs → IsInSector here slab n point → point < point_of (sound.last + 1) 0 Increment
  applied_early slab n point is (offset, below, sector_is, inl kept) = sound.timely.updates slab _ is kept
  applied_early slab n point is (offset, below, sector_is, inr (committed, has, updates)) =
      update_early g sound.last sound.window committed (block_of_data g (record { slab = slab; offset = offset })) point known has updates

  full_early : (slab n : ℕ) (bytes : List ℕ) → slab < g.slabs → n < 8 * references_of g → IsFullSector here slab n bytes → number_at 8 0 bytes < point_of (sound.last + 1) 0 Increment
  full_early slab n bytes is below full = elim full.commit.reached [
    | inl same ↦ let early = sound.timely.commits slab n is below in omega (arith, same, early)
    | inr (raised, reached) ↦ applied_early slab n (number_at 8 0 bytes) is reached
  ]

  updates_early : (size : length blocks' ≡ length blocks) → AreOthersKept here blocks' → (slab : ℕ) (entry : SlabEntry) → slab < g.slabs → IsKept g blocks' slab entry → entry.point.0 < point_of (sound.last + 1) 0 Increment
  updates_early size others slab entry is kept = sound.timely.updates slab entry is (kept_before here blocks' sound.pages sound.last known room size others slab entry is kept)

  -- While it is recovered.
  module _ (unclean : sound.head.clean ≡ false) (underway : AreUnderway here blocks') where
    part_timely : IsOfItsTime g blocks' sound.last
    part_timely = record {
      commits = λ slab n is below. elim (underway.counters slab n is below) [
        | inl same ↦ let commit = ap (number_at 8 0) same in let early = sound.timely.commits slab n is below in omega (arith, commit, early)
        | inr full ↦ full_early slab n (reference_sector_at g blocks' slab n) is below full
      ];
      updates = updates_early underway.size underway.others;
      sectors = sectors_early blocks blocks' able underway.size underway.others;
    }

    pub underway_is_kept : AreKept here blocks'
    unfolding underway_still
    underway_is_kept =
        let still = underway_still blocks blocks' able underway in record {
          sound = record {
            head = sound.head;
            last = sound.last;
            window = sound.window;
            opens = still.is.opens;
            pages = still.is.pages;
            stored = still.is.stored;
            unshared = still.is.unshared;
            counts = true_alike here (image_of sound.head blocks' sound.window) still.same sound.counts;
            timely = part_timely;
            closed = λ clean. absurd (subst (λ (b : Bool). IsTrue b → ⊥) (sym unclean) (λ is. absurd (cc is)) clean);
          };
          same = still.same;
          others = still.others;
          rest = still.rest;
        }

  -- Once its superblock is written.
  module _ (full : AreFull here blocks') (accepted : super_of_image blocks' ≡ Ok (recovered_super g sound.last)) where
    abbrev after : Image
    after = image_of (recovered_super g sound.last) blocks' []

    after_timely : IsOfItsTime g blocks' (sound.last + 1)
    after_timely = record {
      commits = λ slab n is below. elim (cases_lt n (sectors_per_slab g)) [
        | inl inside ↦ let early = full_early slab n (reference_sector_at g blocks' slab n) is below (full.counters slab n is inside) in omega (arith, early)
        | inr past ↦
            let commit = ap (number_at 8 0) (full.past slab n is past below) in
            let early = sound.timely.commits slab n is below in
            omega (arith, commit, early)
      ];
      updates = λ slab entry is kept. let early = updates_early full.size full.others slab entry is kept in omega (arith, early);
      sectors = λ slot number sequence head entries inside below is.
          let early = sectors_early blocks blocks' able full.size full.others slot number sequence head entries inside below is in omega (arith, early);
    }

    after_closed : IsClosed after (sound.last + 2) (sound.last + 1)
    after_closed = record {
      next = omega arith;
      window = refl;
      updates = λ place point inside is. elim (cases_lt (commit_of after place) point) [
        | inl above ↦ absurd (full_none g blocks blocks' sound.window [] (before blocks blocks' able full accepted) place inside (sector_full blocks blocks' able full accepted place inside) point above is)
        | inr most ↦ most
      ];
      sectors = sectors_early blocks blocks' able full.size full.others;
    }

    pub full_is_recovered : IsRecovered here sound.last blocks'
    unfolding full_closed
    full_is_recovered =
        let still = (full_closed blocks blocks' able full accepted).still in record {
          kept = record {
            sound = record {
              head = recovered_super g sound.last;
              last = sound.last + 1;
              window = [];
              opens = still.is.opens;
              pages = still.is.pages;
              stored = still.is.stored;
              unshared = still.is.unshared;
              counts = true_alike here after still.same sound.counts;
              timely = after_timely;
              closed = λ clean. after_closed;
            };
            same = still.same;
            others = still.others;
            rest = still.rest;
          };
          closed = refl;
        }
