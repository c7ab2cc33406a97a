-- For each clause on reference blocks a case that it accepts, and one that breaks it alone.
use Rattle.std.specs.Prelude.{ℕ, zero, suc, ◌≡◌, ◌≢◌, ◌<◌, ◌≤◌, List, [], ◌∷◌, ◌++◌, map, replicate, Option, None, Some}
use Rattle.std.proofs.Common.{ap, arith, refl}
use Rattle.std.proofs.lemmas.List.Elements.{All-nil}
use Rattle.blk_base.specs.declared.geometry.Geometry.{Geometry}
use Rattle.blk_base.specs.declared.point.Point.{Point}
use Rattle.blk_base.specs.Forms.{point as p}
use Rattle.blk_base.proofs.Example.{number_of_point}
use Rattle.dirty_pages.specs.DirtyPoints.{clean, dirty_points_at, IsDue}
use Rattle.slab_codec.specs.Reference.{reference_bytes}
use Rattle.slab_codec.specs.declared.forms.ReferenceSector.{ReferenceSector}
use Rattle.slab_codec.specs.Updates.{slab_entry as entry}
use Rattle.reference_blocks.specs.References.{References, HandsOutBlock, IsKept, NoneDirty, opening, point_at, points_of, sectors_of, updated, with_sectors, written}
use Rattle.reference_blocks.specs.Updates.{Updated, Written, AreRising, Does, LeadTo, counters_after, newest_of, up_to, updates_of}

-- a slab of 1000 data blocks: two sectors of counters, in one block
abbrev sizes : Geometry
sizes = record { logical = 1000; slabs = 1; slab_blocks = 1000; journal = 8; index = 16; slab_journal = 4; height = 2; nonce = 1 }

abbrev some : References
some = record { geometry = sizes; applied = p 5 ∷ p 7 ∷ []; handed = p 5 ∷ p 7 ∷ []; blocks = clean ∷ [] }

-- point_at
second_point : point_at some.applied 1 ≡ p 7
second_point = refl

nothing_past_the_last : point_at some.applied 2 ≡ p 0
nothing_past_the_last = refl

-- updated: the sector has the point, and its block is dirty from it on
second_sector : (updated some 600 (p 1024)).applied ≡ p 5 ∷ p 1024 ∷ []
second_sector = refl

now_dirty : (updated some 600 (p 1024)).blocks ≡ record { dirty = Some (p 1024); writing = None } ∷ []
now_dirty = refl

dirty_from_the_first : (updated (updated some 600 (p 1024)) 3 (p 1026)).blocks ≡ record { dirty = Some (p 1024); writing = None } ∷ []
dirty_from_the_first = refl

-- with_sectors: the eight of the block, and no other
eight_of_nine : with_sectors (replicate 9 (p 1)) 0 (replicate 9 (p 2)) ≡ replicate 8 (p 1) ++ p 2 ∷ []
eight_of_nine = refl

the_ninth : with_sectors (replicate 9 (p 1)) 1 (replicate 9 (p 2)) ≡ replicate 8 (p 2) ++ p 1 ∷ []
the_ninth = refl

-- NoneDirty
one_is_dirty : ¬ NoneDirty (updated some 600 (p 1024))
one_is_dirty = λ none. none 0 (p 1024) (omega arith) (record { idle = refl; dirty = refl })

written_is_not_due : ¬ IsDue (record { dirty = Some (p 1024); writing = Some (p 900) }) (p 1024)
written_is_not_due = λ due. let no : ◌≡◌ {A = Option Point} (Some (p 900)) None = due.idle in cc

-- written
durable : written (record some { blocks = record { dirty = None; writing = Some (p 1024) } ∷ [] }) 0 ≡ some
durable = refl

dirtied_since : (written (record some { blocks = record { dirty = Some (p 1030); writing = Some (p 1024) } ∷ [] }) 0).blocks ≡ record { dirty = Some (p 1030); writing = None } ∷ []
dirtied_since = refl

-- updates_of, counters_after: an increment of the first block, then a decrement of the second
two_updates : updates_of (Updated (entry 1025 1) ∷ Written 0 ∷ Updated (entry 1024 0) ∷ []) ≡ entry 1025 1 ∷ entry 1024 0 ∷ []
two_updates = refl

up_and_down : counters_after (0 ∷ 1 ∷ []) (entry 1025 1 ∷ entry 1024 0 ∷ []) ≡ 1 ∷ 0 ∷ []
up_and_down = refl

-- newest_of: of the sector alone, and the newest
newest_of_second : newest_of sizes 1 (entry 1030 3 ∷ entry 1024 600 ∷ entry 900 700 ∷ []) (p 7) ≡ p 1024
newest_of_second = refl

none_of_second : newest_of sizes 1 (entry 1030 3 ∷ []) (p 7) ≡ p 7
none_of_second = refl

-- AreRising: above all older ones, and above the sector's opening point
rising : AreRising sizes some.applied (entry 1024 600 ∷ [])
rising = (All-nil (λ older. older.point.0 < 1024), omega arith, tt)

falling : ¬ AreRising sizes some.applied (entry 900 600 ∷ entry 1024 3 ∷ [])
falling = λ are. omega (arith, are.0 0 (entry 0 0) (omega arith))

below_the_opening : ¬ AreRising sizes (p 5 ∷ p 2000 ∷ []) (entry 1024 600 ∷ [])
below_the_opening = λ are. omega (arith, are.1)

-- up_to
older_alone : up_to sizes (p 5 ∷ p 1000 ∷ []) (entry 1024 600 ∷ entry 900 700 ∷ []) ≡ entry 900 700 ∷ []
older_alone = refl

the_point_itself : up_to sizes (p 5 ∷ p 1024 ∷ []) (entry 1024 600 ∷ []) ≡ entry 1024 600 ∷ []
the_point_itself = refl

-- points_of: those of the slab, of two slabs with two sectors each
points_of_first : points_of (record sizes { slabs = 2 }) 0 (p 1 ∷ p 2 ∷ p 3 ∷ p 4 ∷ []) ≡ p 1 ∷ p 2 ∷ []
points_of_first = refl

points_of_second : points_of (record sizes { slabs = 2 }) 1 (p 1 ∷ p 2 ∷ p 3 ∷ p 4 ∷ []) ≡ p 3 ∷ p 4 ∷ []
points_of_second = refl

-- opening: clean, with the points of the image
opened_clean : opening sizes (p 5 ∷ p 7 ∷ []) ≡ some
opened_clean = refl

-- sectors_of: the eight of the block, in their order; past the last sector nothing is said
commits_of_first : map (λ (s : ReferenceSector). s.commit) (sectors_of sizes (p 3 ∷ replicate 8 (p 4)) [] 0) ≡ p 3 ∷ replicate 7 (p 4)
commits_of_first = refl

commits_of_second : map (λ (s : ReferenceSector). s.commit) (sectors_of sizes (replicate 8 (p 4) ++ p 3 ∷ []) [] 1) ≡ p 3 ∷ replicate 7 (p 0)
commits_of_second = refl

-- HandsOutBlock
abbrev dirtied : References
dirtied = updated some 600 (p 1024)

abbrev out : References
out = record dirtied { handed = p 5 ∷ p 1024 ∷ []; blocks = record { dirty = None; writing = Some (p 1024) } ∷ [] }

abbrev said : List ℕ
said = reference_bytes (sectors_of sizes dirtied.applied [] 0)

its_point : (n : ℕ) (first : Point) → IsDue (dirty_points_at dirtied.blocks n) first → 1024 ≤ first.0
its_point zero first due = let same : 1024 ≡ first.0 = ap (λ (o : Option Point). number_of_point o) due.dirty in omega (arith, same)
its_point (suc n) first due = let no : ◌≡◌ {A = Option Point} None (Some first) = due.dirty in cc

handed_out_now : HandsOutBlock dirtied out [] said 0
handed_out_now = record {
  first = record { first = p 1024; due = record { idle = refl; dirty = refl }; reached = omega arith; least = its_point; lowest = λ other due. omega arith; after = refl };
  says = refl;
  keeps = refl;
  same = refl;
}

clean_is_not_handed_out : (counters bytes : List ℕ) (new : References) → ¬ HandsOutBlock some new counters bytes 0
clean_is_not_handed_out counters bytes new = λ did. let no : ◌≡◌ {A = Option Point} None (Some did.first.first) = did.first.due.dirty in cc

another_point_kept : ¬ HandsOutBlock dirtied (record out { handed = p 5 ∷ p 7 ∷ [] }) [] said 0
another_point_kept = λ did. let no : ◌≡◌ {A = ℕ} 7 1024 = ap (λ (ps : List Point). (point_at ps 1).0) did.keeps in omega (arith, no)

another_says_so : ¬ HandsOutBlock dirtied (record out { applied = p 5 ∷ p 7 ∷ [] }) [] said 0
another_says_so = λ did. let no : ◌≡◌ {A = ℕ} 7 1024 = ap (λ (r : References). (point_at r.applied 1).0) did.same in omega (arith, no)

other_bytes : (bytes : List ℕ) → bytes ≢ said → ¬ HandsOutBlock dirtied out [] bytes 0
other_bytes bytes other = λ did. other did.says

-- IsKept
kept : IsKept some
kept = record { sectors = refl; handed = refl; blocks = refl }

a_point_too_few : ¬ IsKept (record some { applied = p 5 ∷ [] })
a_point_too_few = λ is. omega (arith, is.sectors)

a_handed_point_too_few : ¬ IsKept (record some { handed = p 5 ∷ [] })
a_handed_point_too_few = λ is. omega (arith, is.handed)

a_block_too_many : ¬ IsKept (record some { blocks = clean ∷ clean ∷ [] })
a_block_too_many = λ is. omega (arith, is.blocks)

-- Does, LeadTo
one_update : LeadTo some (Updated (entry 1024 600) ∷ []) dirtied
one_update = (some, refl, (omega arith, refl))

past_the_slab : (new : References) → ¬ Does (Updated (entry 1024 1000)) some new
past_the_slab new = λ did. omega (arith, did.0)

not_in_a_write : (new : References) → ¬ Does (Written 0) dirtied new
not_in_a_write new = λ did. let no : ◌≡◌ {A = Option Point} None (Some did.0.first) = did.0.is in cc

nothing_done : ¬ LeadTo some [] dirtied
nothing_done = λ is. let no : ◌≡◌ {A = ℕ} 1024 7 = ap (λ (r : References). (point_at r.applied 1).0) is in omega (arith, no)
