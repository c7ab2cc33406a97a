-- Over every list of calls an update is durable, or waits in the sealed block or in the one being filled.
use Rattle.std.specs.Prelude.{ℕ, ◌≡◌, ◌+◌, ◌*◌, ◌/◌, ◌%◌, ◌<◌, ◌≤◌, ◌⊎◌, List, [], ◌∷◌, ◌++◌, length, replicate, Contains}
use Rattle.std.proofs.Common.{arith, sym, subst, ap, ◌∙◌, refl, inl, inr, get_or, set, get_or-set_same, get_or-set_other}
use Rattle.std.proofs.lemmas.Bool.{cases_eq, cases_lt}
use Rattle.std.proofs.lemmas.Nat.{mod_below}
use Rattle.std.proofs.lemmas.List.{length-set, length-replicate, get_or-replicate, get_or_past}
use Rattle.std.proofs.lemmas.List.Elements.{All-contains, Contains-append_left, Contains-push}
use Rattle.blk_base.specs.Counters.{sectors_per_slab, sector_of_offset}
use Rattle.blk_base.specs.Limits.{IsGeometry}
use Rattle.blk_base.specs.Regions.{references_of}
use Rattle.blk_base.specs.declared.geometry.Geometry.{Geometry}
use Rattle.blk_base.specs.declared.point.Point.{Point}
use Rattle.dirty_pages.specs.declared.dirty_points.DirtyPoints.{DirtyPoints}
use Rattle.dirty_pages.specs.DirtyPoints.{clean}
use Rattle.reference_blocks.specs.References.{References, opening as opening_blocks, points_of, point_at, updated, with_sectors, end_of}
use Rattle.reference_blocks.specs.Updates.{AreRising}
use Rattle.slab_codec.specs.declared.forms.SlabEntry.{SlabEntry}
use Rattle.slab_codec.specs.declared.forms.SlabJournalBlock.{SlabJournalBlock}
use Rattle.slab_journal.specs.Slab.{Slab, next_slot, IsCovered, IsWriting}
use Rattle.slab_journal.specs.Unsettled.{sealed_block, IsWaiting, IsUnsettled, IsLowPoint, NoneUnsettled}
use Rattle.slab_journal.specs.Slab as journals
use Rattle.slab_writes.specs.Writes.{Writes, opening, Raises}
use Rattle.slab_writes.specs.Operations.{Operation, Taken, JournalOut, ReferenceOut, JournalDurable, ReferenceDurable, LeadTo, IsInJournal, IsInReference, IsDurable, updates_of}
use Rattle.slab_writes.proofs.SectorLaws.{due_inside, own_sector, other_sector, same_length}
use Rattle.slab_writes.proofs.OperationLaws.{more, newest, split}

abbrev zero_point : Point
zero_point = record { 0 = 0 }

-- the point isn't above all at which the slab was opened or that were taken
abbrev pub IsBounded : List Point → List SlabEntry → ℕ → Point → Type 0
IsBounded points us n p = (p.0 ≤ (point_at points n).0) ⊎ ((f : SlabEntry) × Contains us f × (p.0 ≤ f.point.0))

bounded_more : (points : List Point) (e : SlabEntry) (us : List SlabEntry) (n : ℕ) (p : Point) → IsBounded points us n p → IsBounded points (e ∷ us) n p
bounded_more points e us n p (inl low) = inl low
bounded_more points e us n p (inr taken) = inr (taken.0, more e us taken.0 taken.1, taken.2)

lower : (points : List Point) (us : List SlabEntry) (n : ℕ) (p q : Point) → q.0 ≤ p.0 → IsBounded points us n p → IsBounded points us n q
lower points us n p q least (inl low) = inl (omega (arith, least, low))
lower points us n p q least (inr taken) = inr (taken.0, taken.1, omega (arith, least, taken.2))

-- so the next update is above it
pub below_next : (g : Geometry) (points : List Point) (e : SlabEntry) (us : List SlabEntry) (p : Point) → AreRising g points (e ∷ us) → IsBounded points us (sector_of_offset g e.offset) p → p.0 < e.point.0
below_next g points e us p rising (inl low) = omega (arith, low, rising.1)
below_next g points e us p rising (inr taken) =
    let older = All-contains (λ (f : SlabEntry). f.point.0 < e.point.0) us taken.0 rising.0 taken.1 in omega (arith, taken.2, older)

-- what is known of the journal after these calls
pub record IsJournal (g : Geometry) (points : List Point) (calls : List Operation) (log : Slab) : Type 0 where
  pub geometry : log.geometry ≡ g
  pub ring : length log.slots ≡ g.slab_journal
  pub within : (log.durable ≤ log.sequence) × (log.sequence ≤ log.durable + 1)
  pub sealed : (x : SlabEntry) → IsWriting log → Contains (sealed_block log) x → IsInJournal calls log.durable x
  pub stays : (x : SlabEntry) → Contains (updates_of calls) x → IsDurable g calls x ⊎ IsWaiting log x
  pub covered : (x : SlabEntry) → Contains (updates_of calls) x → IsCovered g log.commits x → IsDurable g calls x
  pub bounded : (n : ℕ) → IsBounded points (updates_of calls) n (point_at log.commits n)

-- and of the reference blocks
pub record AreReferences (g : Geometry) (points : List Point) (calls : List Operation) (r : References) : Type 0 where
  pub geometry : r.geometry ≡ g
  pub applied : length r.applied ≡ sectors_per_slab g
  pub handed : length r.handed ≡ sectors_per_slab g
  pub dirty_points : length r.blocks ≡ references_of g
  pub given : (x : SlabEntry) → Contains (updates_of calls) x → x.point.0 ≤ (point_at r.handed (sector_of_offset g x.offset)).0 → IsInReference calls (sector_of_offset g x.offset / 8) x
  pub applied_bounded : (n : ℕ) → IsBounded points (updates_of calls) n (point_at r.applied n)
  pub handed_bounded : (n : ℕ) → IsBounded points (updates_of calls) n (point_at r.handed n)

pub record IsKnown (g : Geometry) (points : List Point) (calls : List Operation) (w : Writes) : Type 0 where
  pub journal : IsJournal g points calls w.journal
  pub blocks : AreReferences g points calls w.blocks

module _ (g : Geometry) (points : List Point) (sizes : IsGeometry g) where
  -- an update is taken
  journal_taken : (calls : List Operation) (e : SlabEntry) (log : Slab) → AreRising g points (updates_of (Taken e ∷ calls)) → IsJournal g points calls log
      → IsJournal g points (Taken e ∷ calls) (record log { filling = log.filling ++ e ∷ []; last = e.point })
  journal_taken calls e log rising old = record {
    geometry = old.geometry;
    ring = old.ring;
    within = old.within;
    sealed = old.sealed;
    stays = λ x there. elim (split e (updates_of calls) x there) [
      | inl same ↦ inr (inr (subst (λ (f : SlabEntry). Contains (log.filling ++ e ∷ []) f) same (Contains-push log.filling e)))
      | inr before ↦ elim (old.stays x before) [
        | inl durable ↦ inl durable
        | inr waits ↦ inr (elim waits [ inl sealed ↦ inl sealed | inr filling ↦ inr (Contains-append_left log.filling (e ∷ []) x filling) ])
      ]
    ];
    covered = λ x there is. elim (split e (updates_of calls) x there) [
      | inl same ↦
          let above = below_next g points e (updates_of calls) (point_at log.commits (sector_of_offset g e.offset)) rising (old.bounded (sector_of_offset g e.offset)) in
          let here = subst (λ (f : SlabEntry). IsCovered g log.commits f) (sym same) is in
          absurd (omega (arith, above, here))
      | inr before ↦ old.covered x before is
    ];
    bounded = λ n. bounded_more points e (updates_of calls) n (point_at log.commits n) (old.bounded n);
  }

  references_taken : (calls : List Operation) (e : SlabEntry) (r : References) → e.offset < r.geometry.slab_blocks → AreRising g points (updates_of (Taken e ∷ calls)) → AreReferences g points calls r
      → AreReferences g points (Taken e ∷ calls) (updated r e.offset e.point)
  references_taken calls e r inside rising old =
      let us = updates_of calls in
      let k = sector_of_offset r.geometry e.offset in
      let below : k < length r.applied = omega (arith, inside, old.applied, ap (λ (h : Geometry). h.slab_blocks) old.geometry) in
      record {
        geometry = old.geometry;
        applied = length-set r.applied k e.point ∙ old.applied;
        handed = old.handed;
        dirty_points = length-set r.blocks _ _ ∙ old.dirty_points;
        given = λ x there low. elim (split e us x there) [
          | inl same ↦
              let above = below_next g points e us (point_at r.handed (sector_of_offset g e.offset)) rising (old.handed_bounded (sector_of_offset g e.offset)) in
              let here = subst (λ (f : SlabEntry). f.point.0 ≤ (point_at r.handed (sector_of_offset g f.offset)).0) (sym same) low in
              absurd (omega (arith, above, here))
          | inr before ↦ old.given x before low
        ];
        applied_bounded = λ n. elim (cases_eq n k) [
          | inl same ↦
              let now : point_at (set r.applied k e.point) n ≡ e.point = ap (λ (j : ℕ). point_at (set r.applied k e.point) j) same ∙ get_or-set_same r.applied k e.point zero_point below in
              inr (e, newest e us e refl, omega (arith, ap (λ (p : Point). p.0) now))
          | inr other ↦
              subst (λ (p : Point). IsBounded points (e ∷ us) n p) (sym (get_or-set_other r.applied k n e.point zero_point other))
              (bounded_more points e us n (point_at r.applied n) (old.applied_bounded n))
        ];
        handed_bounded = λ n. bounded_more points e us n (point_at r.handed n) (old.handed_bounded n);
      }

  -- a journal block is sealed
  journal_sealed : (calls : List Operation) (block : SlabJournalBlock) (log : Slab) → log.durable ≡ log.sequence → block.sequence ≡ log.sequence → block.entries ≡ log.filling → IsJournal g points calls log
      → IsJournal g points (JournalOut block ∷ calls) (record log { sequence = log.sequence + 1; filling = []; slots = set log.slots (next_slot log) log.filling })
  journal_sealed calls block log idle number says old =
      let some = sizes.slab_journal in
      let same = ap (λ (h : Geometry). h.slab_journal) old.geometry in
      let inside : next_slot log < length log.slots = omega (arith, mod_below log.sequence log.geometry.slab_journal (omega (arith, some.0, same)), old.ring, same) in
      let slots = set log.slots (next_slot log) log.filling in
      let stands : get_or slots (log.durable % log.geometry.slab_journal) [] ≡ log.filling
      = ap (λ (n : ℕ). get_or slots (n % log.geometry.slab_journal) []) idle ∙ get_or-set_same log.slots (next_slot log) log.filling [] inside in
      record {
        geometry = old.geometry;
        ring = length-set log.slots (next_slot log) log.filling ∙ old.ring;
        within = (omega (arith, old.within.0), omega (arith, idle));
        sealed = λ x writing there. inl (number ∙ sym idle, subst (λ (es : List SlabEntry). Contains es x) (stands ∙ sym says) there);
        stays = λ x there. elim (old.stays x there) [
          | inl durable ↦ inl durable
          | inr waits ↦ elim waits [
            | inl sealed ↦ absurd (omega (arith, sealed.0, idle))
            | inr filling ↦ inr (inl (omega (arith, idle), subst (λ (es : List SlabEntry). Contains es x) (sym stands) filling))
          ]
        ];
        covered = old.covered;
        bounded = old.bounded;
      }

  -- its write is durable
  journal_durable : (calls : List Operation) (sequence : ℕ) (log : Slab) → IsWriting log → sequence ≡ log.durable → IsJournal g points calls log
      → IsJournal g points (JournalDurable sequence ∷ calls) (record log { durable = sequence + 1 })
  journal_durable calls sequence log writing is old = record {
    geometry = old.geometry;
    ring = old.ring;
    within = (omega (arith, writing, is), omega (arith, old.within.1, is));
    sealed = λ x still there. absurd (omega (arith, still, old.within.1, is));
    stays = λ x there. elim (old.stays x there) [
      | inl durable ↦ inl (inr durable)
      | inr waits ↦ elim waits [
        | inl sealed ↦ inl (inl (subst (λ (n : ℕ). IsInJournal calls n x) (sym is) (old.sealed x sealed.0 sealed.1)))
        | inr filling ↦ inr (inr filling)
      ]
    ];
    covered = λ x there low. inr (old.covered x there low);
    bounded = old.bounded;
  }

  -- a reference block is handed out
  references_out : (calls : List Operation) (counters bytes : List ℕ) (block : ℕ) (r new : References) → new.geometry ≡ r.geometry → new.applied ≡ r.applied → new.handed ≡ with_sectors r.applied block r.handed
      → length new.blocks ≡ length r.blocks → 8 * block ≤ length r.applied → AreReferences g points calls r → AreReferences g points (ReferenceOut counters bytes block ∷ calls) new
  references_out calls counters bytes block r new same still keeps many inside old =
      let us = updates_of calls in
      let alike : length r.applied ≡ length r.handed = old.applied ∙ sym old.handed in
      let own : (n : ℕ) → 8 * block ≤ n → n < end_of r.applied block → point_at new.handed n ≡ point_at r.applied n
      = λ n low high. ap (λ (ps : List Point). point_at ps n) keeps ∙ own_sector r.applied r.handed block n alike inside low high in
      let other : (n : ℕ) → (n < 8 * block) ⊎ (end_of r.applied block ≤ n) → point_at new.handed n ≡ point_at r.handed n
      = λ n out. ap (λ (ps : List Point). point_at ps n) keeps ∙ other_sector r.applied r.handed block n alike inside out in
      record {
        geometry = same ∙ old.geometry;
        applied = ap (λ (ps : List Point). length ps) still ∙ old.applied;
        handed = ap (λ (ps : List Point). length ps) keeps ∙ same_length r.applied r.handed block 0 alike inside ∙ old.handed;
        dirty_points = many ∙ old.dirty_points;
        given = λ x there low.
            let n = sector_of_offset g x.offset in
            elim (cases_eq (n / 8) block) [
              | inl is ↦ inl (sym is, there)
              | inr differs ↦
                  let out : (n < 8 * block) ⊎ (end_of r.applied block ≤ n) = elim (cases_lt n (8 * block)) [ inl less ↦ inl less | inr no_less ↦ inr (omega (arith, no_less, differs)) ] in
                  inr (old.given x there (omega (arith, low, ap (λ (p : Point). p.0) (other n out))))
            ];
        applied_bounded = λ n. subst (λ (ps : List Point). IsBounded points us n (point_at ps n)) (sym still) (old.applied_bounded n);
        handed_bounded = λ n. elim (cases_lt n (8 * block)) [
          | inl less ↦ subst (λ (p : Point). IsBounded points us n p) (sym (other n (inl less))) (old.handed_bounded n)
          | inr no_less ↦ elim (cases_lt n (end_of r.applied block)) [
            | inl inside ↦ subst (λ (p : Point). IsBounded points us n p) (sym (own n no_less inside)) (old.applied_bounded n)
            | inr past ↦ subst (λ (p : Point). IsBounded points us n p) (sym (other n (inr past))) (old.handed_bounded n)
          ]
        ];
      }

  -- and its write is durable
  references_same : (call : Operation) (calls : List Operation) (r new : References) → updates_of (call ∷ calls) ≡ updates_of calls
      → ((block : ℕ) (x : SlabEntry) → IsInReference calls block x → IsInReference (call ∷ calls) block x) → new.geometry ≡ r.geometry → new.applied ≡ r.applied → new.handed ≡ r.handed → length new.blocks ≡ length r.blocks
      → AreReferences g points calls r → AreReferences g points (call ∷ calls) new
  references_same call calls r new none passes same still kept many old = record {
    geometry = same ∙ old.geometry;
    applied = ap (λ (ps : List Point). length ps) still ∙ old.applied;
    handed = ap (λ (ps : List Point). length ps) kept ∙ old.handed;
    dirty_points = many ∙ old.dirty_points;
    given = λ x there low.
        let n = sector_of_offset g x.offset in
        passes (n / 8) x (old.given x (subst (λ (us : List SlabEntry). Contains us x) none there) (omega (arith, low, ap (λ (ps : List Point). (point_at ps n).0) kept)));
    applied_bounded = λ n. subst (λ (us : List SlabEntry). IsBounded points us n (point_at new.applied n)) (sym none)
        (subst (λ (ps : List Point). IsBounded points (updates_of calls) n (point_at ps n)) (sym still) (old.applied_bounded n));
    handed_bounded = λ n. subst (λ (us : List SlabEntry). IsBounded points us n (point_at new.handed n)) (sym none)
        (subst (λ (ps : List Point). IsBounded points (updates_of calls) n (point_at ps n)) (sym kept) (old.handed_bounded n));
  }

  journal_raised : (calls : List Operation) (block : ℕ) (log new : Slab) (r : References) → Raises r.handed log.commits (8 * block) (8 * block + 8) new.commits → new ≡ record log { commits = new.commits }
      → ((x : SlabEntry) → Contains (updates_of calls) x → 0 < x.point.0) → AreReferences g points calls r → IsJournal g points calls log → IsJournal g points (ReferenceDurable block ∷ calls) new
  journal_raised calls block log new r raises same above blocks old =
      let us = updates_of calls in
      subst (λ (l : Slab). IsJournal g points (ReferenceDurable block ∷ calls) l) (sym same) (record {
        geometry = old.geometry;
        ring = old.ring;
        within = old.within;
        sealed = old.sealed;
        stays = λ x there. elim (old.stays x there) [ inl durable ↦ inl (inr durable) | inr waits ↦ inr waits ];
        covered = λ x there low.
            let n = sector_of_offset g x.offset in
            elim (cases_eq (n / 8) block) [
              | inl own ↦ elim (cases_lt n (length log.commits)) [
                | inl inside ↦
                    let now = raises.inside n (omega (arith, own)) (omega (arith, own)) inside in
                    elim (cases_lt (point_at log.commits n).0 x.point.0) [
                      | inl higher ↦ inl (own, subst (λ (b : ℕ). IsInReference calls b x) own (blocks.given x there (omega (arith, low, now, higher))))
                      | inr before ↦ inr (old.covered x there before)
                    ]
                | inr past ↦
                    let none = ap (λ (p : Point). p.0) (get_or_past new.commits n zero_point (omega (arith, past, raises.size))) in
                    absurd (omega (arith, low, none, above x there))
              ]
              | inr differs ↦
                  let out : (n < 8 * block) ⊎ (8 * block + 8 ≤ n) = elim (cases_lt n (8 * block)) [ inl less ↦ inl less | inr no_less ↦ inr (omega (arith, no_less, differs)) ] in
                  inr (old.covered x there (omega (arith, low, ap (λ (p : Point). p.0) (raises.outside n out))))
            ];
        bounded = λ n. elim (cases_lt n (8 * block)) [
          | inl less ↦ subst (λ (p : Point). IsBounded points us n p) (sym (raises.outside n (inl less))) (old.bounded n)
          | inr no_less ↦ elim (cases_lt n (8 * block + 8)) [
            | inl less ↦ elim (cases_lt n (length log.commits)) [
              | inl inside ↦
                  let now = raises.inside n no_less less inside in
                  elim (cases_lt (point_at log.commits n).0 (point_at r.handed n).0) [
                    | inl higher ↦ lower points us n (point_at r.handed n) (point_at new.commits n) (omega (arith, now, higher)) (blocks.handed_bounded n)
                    | inr before ↦ lower points us n (point_at log.commits n) (point_at new.commits n) (omega (arith, now, before)) (old.bounded n)
                  ]
              | inr past ↦
                  let none = ap (λ (p : Point). p.0) (get_or_past new.commits n zero_point (omega (arith, past, raises.size))) in
                  inl (omega (arith, none))
            ]
            | inr past ↦ subst (λ (p : Point). IsBounded points us n p) (sym (raises.outside n (inr past))) (old.bounded n)
          ]
        ];
      })

-- opening
opened_at : (k n : ℕ) → (point_at (replicate k zero_point) n).0 ≡ 0
opened_at k n = elim (cases_lt n k) [
  | inl below ↦ ap (λ (p : Point). p.0) (get_or-replicate k n zero_point zero_point below)
  | inr past ↦ ap (λ (p : Point). p.0) (get_or_past (replicate k zero_point) n zero_point (omega (arith, past, length-replicate k zero_point)))
]

pub none_taken : {P : Type 0} (x : SlabEntry) → Contains [] x → P
none_taken x there = absurd (omega (arith, there.1))

known_opening : (g : Geometry) (slab : ℕ) (points : List Point) → length points ≡ sectors_per_slab g → IsKnown g points [] (record { journal = journals.opening g slab; blocks = opening_blocks g points })
known_opening g slab points size = record {
  journal = record {
    geometry = refl;
    ring = length-replicate {A = List SlabEntry} g.slab_journal [];
    within = (omega arith, omega arith);
    sealed = λ x writing there. absurd (omega (arith, writing));
    stays = λ x there. none_taken x there;
    covered = λ x there low. none_taken x there;
    bounded = λ n. inl (omega (arith, opened_at (sectors_per_slab g) n));
  };
  blocks = record {
    geometry = refl;
    applied = size;
    handed = size;
    dirty_points = length-replicate (references_of g) clean;
    given = λ x there low. none_taken x there;
    applied_bounded = λ n. inl (omega arith);
    handed_bounded = λ n. inl (omega arith);
  };
}

all_above : (g : Geometry) (points : List Point) (us : List SlabEntry) (x : SlabEntry) → AreRising g points us → Contains us x → 0 < x.point.0
all_above g points [] x rising there = none_taken x there
all_above g points (e ∷ us) x rising there = elim (split e us x there) [
  | inl same ↦ omega (arith, rising.1, ap (λ (f : SlabEntry). f.point.0) same)
  | inr before ↦ all_above g points us x rising.2 before
]

pub known : (g : Geometry) (slab : ℕ) (commits : List Point) (calls : List Operation) (w : Writes) → IsGeometry g → length (points_of g slab commits) ≡ sectors_per_slab g → LeadTo (opening g slab commits) calls w
    → AreRising g (points_of g slab commits) (updates_of calls) → IsKnown g (points_of g slab commits) calls w
known g slab commits [] w sizes size is rising = subst (λ (v : Writes). IsKnown g (points_of g slab commits) [] v) (sym is) (known_opening g slab (points_of g slab commits) size)
known g slab commits (Taken e ∷ calls) w sizes size (before, lead, did) rising =
    let points = points_of g slab commits in
    let old = known g slab commits calls before sizes size lead rising.2 in
    subst (λ (v : Writes). IsKnown g points (Taken e ∷ calls) v) (sym did.2) (record {
      journal = journal_taken g points sizes calls e before.journal rising old.journal;
      blocks = references_taken g points sizes calls e before.blocks did.1 rising old.blocks;
    })
known g slab commits (JournalOut block ∷ calls) w sizes size (before, lead, did) rising =
    let points = points_of g slab commits in
    let old = known g slab commits calls before sizes size lead rising in
    let says = did.0.records in
    record {
      journal = subst (λ (l : Slab). IsJournal g points (JournalOut block ∷ calls) l) (sym did.0.follows)
          (journal_sealed g points sizes calls block before.journal did.0.none_writing (ap (λ (b : SlabJournalBlock). b.sequence) says) (ap (λ (b : SlabJournalBlock). b.entries) says) old.journal);
      blocks = references_same g points sizes (JournalOut block) calls before.blocks w.blocks refl (λ b x there. there) (ap (λ (v : Writes). v.blocks.geometry) did.1) (ap (λ (v : Writes). v.blocks.applied) did.1)
          (ap (λ (v : Writes). v.blocks.handed) did.1) (ap (λ (v : Writes). length v.blocks.blocks) did.1) old.blocks;
    }
known g slab commits (ReferenceOut counters bytes block ∷ calls) w sizes size (before, lead, did) rising =
    let points = points_of g slab commits in
    let old = known g slab commits calls before sizes size lead rising in
    let out = did.0 in
    let there = due_inside before.blocks.blocks block out.first.first out.first.due in
    let few = sizes.slab_blocks in
    let j = old.journal in
    record {
      journal = subst (λ (l : Slab). IsJournal g points (ReferenceOut counters bytes block ∷ calls) l) (sym (ap (λ (v : Writes). v.journal) did.1))
          (record { geometry = j.geometry; ring = j.ring; within = j.within; sealed = j.sealed; stays = j.stays; covered = j.covered; bounded = j.bounded });
      blocks = references_out g points sizes calls counters bytes block before.blocks w.blocks (ap (λ (r : References). r.geometry) out.same) (ap (λ (r : References). r.applied) out.same) out.keeps
          (ap (λ (ms : List DirtyPoints). length ms) out.first.after ∙ length-set before.blocks.blocks block _)
          (omega (arith, there, old.blocks.dirty_points, old.blocks.applied)) old.blocks;
    }
known g slab commits (JournalDurable sequence ∷ calls) w sizes size (before, lead, did) rising =
    let points = points_of g slab commits in
    let old = known g slab commits calls before sizes size lead rising in
    record {
      journal = subst (λ (v : Writes). IsJournal g points (JournalDurable sequence ∷ calls) v.journal) (sym did.2) (journal_durable g points sizes calls sequence before.journal did.0 did.1 old.journal);
      blocks = references_same g points sizes (JournalDurable sequence) calls before.blocks w.blocks refl (λ b x there. there) (ap (λ (v : Writes). v.blocks.geometry) did.2) (ap (λ (v : Writes). v.blocks.applied) did.2)
          (ap (λ (v : Writes). v.blocks.handed) did.2) (ap (λ (v : Writes). length v.blocks.blocks) did.2) old.blocks;
    }
known g slab commits (ReferenceDurable block ∷ calls) w sizes size (before, lead, did) rising =
    let points = points_of g slab commits in
    let old = known g slab commits calls before sizes size lead rising in
    let settles = did.1 in
    record {
      journal = journal_raised g points sizes calls block before.journal w.journal before.blocks settles.raises settles.journal (λ x there. all_above g points (updates_of calls) x rising there) old.blocks old.journal;
      blocks = references_same g points sizes (ReferenceDurable block) calls before.blocks w.blocks refl (λ b x there. there) (ap (λ (r : References). r.geometry) settles.blocks) (ap (λ (r : References). r.applied) settles.blocks)
          (ap (λ (r : References). r.handed) settles.blocks) (ap (λ (r : References). length r.blocks) settles.blocks ∙ length-set before.blocks.blocks block _) old.blocks;
    }

-- an update that isn't durable is unsettled
durable_or_unsettled : (g : Geometry) (points : List Point) (calls : List Operation) (log : Slab) (x : SlabEntry) → IsJournal g points calls log → Contains (updates_of calls) x
    → (¬ IsCovered g log.commits x → IsWaiting log x → IsDurable g calls x) → IsDurable g calls x
durable_or_unsettled g points calls log x is taken unsettled = elim (is.stays x taken) [
  | inl durable ↦ durable
  | inr waits ↦ elim (cases_lt (point_at log.commits (sector_of_offset g x.offset)).0 x.point.0) [
    | inl above ↦ unsettled (λ covered. omega (arith, above, covered)) waits
    | inr covered ↦ is.covered x taken covered
  ]
]

-- an update that isn't unsettled is durable
pub settled_is_durable : (g : Geometry) (slab : ℕ) (commits : List Point) (calls : List Operation) (new : Writes) (x : SlabEntry) → IsGeometry g → length (points_of g slab commits) ≡ sectors_per_slab g
    → LeadTo (opening g slab commits) calls new → AreRising g (points_of g slab commits) (updates_of calls) → Contains (updates_of calls) x → ¬ IsUnsettled new.journal x → IsDurable g calls x
settled_is_durable g slab commits calls new x sizes size lead rising taken settled =
    let log = (known g slab commits calls new sizes size lead rising).journal in
    durable_or_unsettled g (points_of g slab commits) calls new.journal x log taken (λ uncovered waits.
    absurd (settled (waits, subst (λ (h : Geometry). ¬ IsCovered h new.journal.commits x) (sym log.geometry) uncovered)))

pub below_low : (g : Geometry) (slab : ℕ) (commits : List Point) (calls : List Operation) (new : Writes) (x : SlabEntry) (low : Point) → IsGeometry g → length (points_of g slab commits) ≡ sectors_per_slab g
    → LeadTo (opening g slab commits) calls new → AreRising g (points_of g slab commits) (updates_of calls) → Contains (updates_of calls) x → IsLowPoint new.journal low → x.point.0 < low.0 → IsDurable g calls x
below_low g slab commits calls new x low sizes size lead rising taken is below =
    settled_is_durable g slab commits calls new x sizes size lead rising taken (λ unsettled. omega (arith, below, is.least x unsettled))

pub none_left : (g : Geometry) (slab : ℕ) (commits : List Point) (calls : List Operation) (new : Writes) (x : SlabEntry) → IsGeometry g → length (points_of g slab commits) ≡ sectors_per_slab g
    → LeadTo (opening g slab commits) calls new → AreRising g (points_of g slab commits) (updates_of calls) → Contains (updates_of calls) x → NoneUnsettled new.journal → IsDurable g calls x
none_left g slab commits calls new x sizes size lead rising taken none = settled_is_durable g slab commits calls new x sizes size lead rising taken (none x)
