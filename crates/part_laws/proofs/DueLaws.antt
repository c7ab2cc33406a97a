-- What isn't durable is dirty or being written, and so due.
use Rattle.std.proofs.Common.{◌≡◌, ◌≢◌, ℕ, ◌+◌, ◌*◌, ◌/◌, ◌<◌, ◌≤◌, ◌^◌, max, ◌⊎◌, inl, inr, Option, None, Some, List, [], ◌∷◌, ◌++◌, length, length-set, replicate, refl, ap, sym, arith, ◌∙◌, subst, Contains, set, get_or}
use Rattle.std.proofs.lemmas.Bool.{cases_eq, cases_lt}
use Rattle.std.proofs.lemmas.List.{get_or-set_same, get_or-set_other, get_or-replicate, get_or_past, length-replicate, get_or_default}
use Rattle.std.proofs.lemmas.List.Elements.{All-contains}
use Rattle.std.proofs.lemmas.Option.{none-some, same_Some}
use Rattle.blk_base.specs.Counters.{sectors_per_slab, sector_of_offset}
use Rattle.blk_base.specs.Limits.{IsGeometry}
use Rattle.blk_base.specs.Regions.{references_of}
use Rattle.blk_base.specs.declared.geometry.Geometry.{Geometry}
use Rattle.blk_base.specs.declared.point.Point.{Point}
use Rattle.dirty_pages.specs.DirtyPoints.{HasPoint, IsBeingWritten, IsDue, NoneIsDue, changed_at, clean, handed_out, least_of, dirty_points_at, settled, with_dirty_points}
use Rattle.dirty_pages.specs.declared.dirty_points.DirtyPoints.{DirtyPoints}
use Rattle.reference_blocks.specs.References.{References, NoneDirty, end_of, opening as opening_blocks, point_at, points_of, updated, with_sectors, written}
use Rattle.reference_blocks.specs.Updates.{AreRising}
use Rattle.slab_codec.specs.declared.forms.SlabEntry.{SlabEntry}
use Rattle.slab_journal.specs.Slab.{Slab, IsCovered, IsWriting, MayOverwrite, next_block, next_slot}
use Rattle.slab_journal.specs.Slab as journals
use Rattle.slab_journal.specs.Unsettled.{IsUnsettled, NoneUnsettled}
use Rattle.slab_writes.specs.Operations.{Operation, Taken, JournalOut, ReferenceOut, JournalDurable, ReferenceDurable, LeadTo, updates_of}
use Rattle.slab_writes.specs.Due.{NoneDue}
use Rattle.slab_writes.specs.Writes.{Writes, Raises, opening}
use Rattle.slab_writes.specs.declared.forms.Need.TheVariants.{Full, Head}
use Rattle.slab_writes.proofs.OperationLaws.{filling_taken, more, newest, split}
use Rattle.slab_writes.proofs.SectorLaws.{due_inside, own_sector, other_sector, same_length}
use Rattle.slab_writes.proofs.DurableLaws.{none_taken}
use Rattle.part_laws.specs.Still.{AreSpelled, NoneOut, NonePageOut}

abbrev zero_point : Point
zero_point = record { 0 = 0 }

-- what isn't being written is idle
idle_of : (m : DirtyPoints) → (IsBeingWritten m → ⊥) → m.writing ≡ None
idle_of m out = by m.writing refl
  where
    by : (o : Option Point) → m.writing ≡ o → m.writing ≡ None
    by None is = is
    by (Some q) is = absurd (out (record { first = q; is = is }))

pub pages_still : (pages : List DirtyPoints) (point : Point) (number : ℕ) (low : Point) → NoneIsDue pages point → NonePageOut pages → HasPoint (dirty_points_at pages number) low
    → point.0 < low.0
pages_still pages point number low none out (inl dirty) = none number low (record { idle = idle_of (dirty_points_at pages number) (out number); dirty = dirty })
pages_still pages point number low none out (inr writing) = absurd (out number (record { first = low; is = writing }))

-- an update with this point is dirty in its block, or was handed out with it, or is durable
abbrev State : DirtyPoints → Point → Point → Point → Type 0
State m handed commit p = ((first : Point) × (m.dirty ≡ Some first)) ⊎ ((IsBeingWritten m × (p.0 ≤ handed.0)) ⊎ (p.0 ≤ commit.0))

state_moves : (m n : DirtyPoints) (h k c d p : Point) → n ≡ m → h.0 ≤ k.0 → c.0 ≤ d.0 → State m h c p → State n k d p
state_moves m n h k c d p same more later (inl dirty) = inl (dirty.0, ap (λ (l : DirtyPoints). l.dirty) same ∙ dirty.1)
state_moves m n h k c d p same more later (inr (inl out)) =
    inr (inl (record { first = out.0.first; is = ap (λ (l : DirtyPoints). l.writing) same ∙ out.0.is }, omega (arith, out.1, more)))
state_moves m n h k c d p same more later (inr (inr low)) = inr (inr (omega (arith, low, later)))

-- what is known after these calls
record IsCovering (g : Geometry) (calls : List Operation) (log : Slab) (r : References) : Type 0 where
  pub geometry : log.geometry ≡ g
  pub applied : length r.applied ≡ sectors_per_slab g
  pub handed : length r.handed ≡ sectors_per_slab g
  pub dirty_points : length r.blocks ≡ references_of g
  pub commits : length log.commits ≡ sectors_per_slab g
  pub size : r.geometry ≡ g
  pub inside : (x : SlabEntry) → Contains (updates_of calls) x → x.offset < g.slab_blocks
  pub latest : (x : SlabEntry) → Contains (updates_of calls) x → x.point.0 ≤ (point_at r.applied (sector_of_offset g x.offset)).0
  pub spelled : (b : ℕ) (first : Point) → (dirty_points_at r.blocks b).dirty ≡ Some first → first.0 < 2 ^ 64
  pub states : (x : SlabEntry) → Contains (updates_of calls) x
      → State (dirty_points_at r.blocks (sector_of_offset g x.offset / 8)) (point_at r.handed (sector_of_offset g x.offset)) (point_at log.commits (sector_of_offset g x.offset)) x.point

least_within : (o : Option Point) (p : Point) → (least_of o p).0 ≤ p.0
least_within None p = omega arith
least_within (Some first) p = omega arith

module _ (g : Geometry) (sizes : IsGeometry g) where
  -- an update is taken
  covering_taken : (calls : List Operation) (e : SlabEntry) (log : Slab) (r : References) → e.offset < r.geometry.slab_blocks → e.point.0 < 2 ^ 64
      → ((x : SlabEntry) → Contains (updates_of calls) x → x.point.0 < e.point.0) → IsCovering g calls log r
      → IsCovering g (Taken e ∷ calls) (record log { filling = log.filling ++ e ∷ []; last = e.point }) (updated r e.offset e.point)
  covering_taken calls e log r within few above old =
      let us = updates_of calls in
      let k = sector_of_offset g e.offset in
      let b = k / 8 in
      let own : e.offset < g.slab_blocks = omega (arith, within, ap (λ (h : Geometry). h.slab_blocks) old.size) in
      let low : k < length r.applied = omega (arith, own, old.applied) in
      let there : b < length r.blocks = omega (arith, own, old.dirty_points) in
      let now : dirty_points_at (with_dirty_points r.blocks b (changed_at e.point)) b ≡ changed_at e.point (dirty_points_at r.blocks b) = get_or-set_same r.blocks b (changed_at e.point (dirty_points_at r.blocks b)) clean there in
      let dirty : (n : ℕ) → n ≡ b → (first : Point) × ((dirty_points_at (with_dirty_points r.blocks b (changed_at e.point)) n).dirty ≡ Some first)
      = λ n same. (
        least_of (dirty_points_at r.blocks b).dirty e.point,
        ap (λ (j : ℕ). (dirty_points_at (with_dirty_points r.blocks b (changed_at e.point)) j).dirty) same ∙ ap (λ (m : DirtyPoints). m.dirty) now,
      ) in
      record {
        geometry = old.geometry;
        applied = length-set r.applied k e.point ∙ old.applied;
        handed = old.handed;
        dirty_points = length-set r.blocks b (changed_at e.point (dirty_points_at r.blocks b)) ∙ old.dirty_points;
        commits = old.commits;
        size = old.size;
        inside = λ x has. elim (split e us x has) [
          | inl same ↦ subst (λ (f : SlabEntry). f.offset < g.slab_blocks) same own
          | inr before ↦ old.inside x before
        ];
        latest = λ x has. elim (cases_eq (sector_of_offset g x.offset) k) [
          | inl same ↦
              let top : (point_at (updated r e.offset e.point).applied (sector_of_offset g x.offset)).0 ≡ e.point.0
              = ap (λ (p : Point). p.0) (ap (λ (j : ℕ). point_at (updated r e.offset e.point).applied j) same ∙ get_or-set_same r.applied k e.point zero_point low) in
              elim (split e us x has) [
                | inl this ↦ omega (arith, top, ap (λ (f : SlabEntry). f.point.0) this)
                | inr before ↦ omega (arith, top, above x before)
              ]
          | inr other ↦
              let still : (point_at (updated r e.offset e.point).applied (sector_of_offset g x.offset)).0 ≡ (point_at r.applied (sector_of_offset g x.offset)).0
              = ap (λ (p : Point). p.0) (get_or-set_other r.applied k (sector_of_offset g x.offset) e.point zero_point other) in
              elim (split e us x has) [
                | inl this ↦ absurd (other (ap (λ (f : SlabEntry). sector_of_offset g f.offset) (sym this)))
                | inr before ↦ omega (arith, still, old.latest x before)
              ]
        ];
        spelled = λ n first is. elim (cases_eq n b) [
          | inl same ↦
              let at = sym (dirty n same).1 ∙ is in
              let one : (least_of (dirty_points_at r.blocks b).dirty e.point).0 ≡ first.0 = ap (λ (p : Point). p.0) (same_Some _ _ at) in
              omega (arith, one, few, least_within (dirty_points_at r.blocks b).dirty e.point)
          | inr other ↦ old.spelled n first (ap (λ (m : DirtyPoints). m.dirty) (sym (get_or-set_other r.blocks b n (changed_at e.point (dirty_points_at r.blocks b)) clean other)) ∙ is)
        ];
        states = λ x has. elim (cases_eq (sector_of_offset g x.offset / 8) b) [
          | inl same ↦ inl (dirty (sector_of_offset g x.offset / 8) same)
          | inr other ↦ elim (split e us x has) [
            | inl this ↦ absurd (other (ap (λ (f : SlabEntry). sector_of_offset g f.offset / 8) (sym this)))
            | inr before ↦
                let n = sector_of_offset g x.offset in
                state_moves (dirty_points_at r.blocks (n / 8)) (dirty_points_at (with_dirty_points r.blocks b (changed_at e.point)) (n / 8)) (point_at r.handed n) (point_at r.handed n)
                (point_at log.commits n) (point_at log.commits n) x.point (get_or-set_other r.blocks b (n / 8) (changed_at e.point (dirty_points_at r.blocks b)) clean other)
                (omega arith) (omega arith) (old.states x before)
          ]
        ];
      }

  -- a call that leaves the reference blocks and the commit points
  covering_same : (call : Operation) (calls : List Operation) (log new : Slab) (r s : References) → updates_of (call ∷ calls) ≡ updates_of calls → s ≡ r
      → new.geometry ≡ log.geometry → new.commits ≡ log.commits → IsCovering g calls log r → IsCovering g (call ∷ calls) new s
  covering_same call calls log new r s none same sizes' still old =
      subst (λ (q : References). IsCovering g (call ∷ calls) new q) (sym same) (record {
        geometry = sizes' ∙ old.geometry;
        applied = old.applied;
        handed = old.handed;
        dirty_points = old.dirty_points;
        commits = ap (λ (ps : List Point). length ps) still ∙ old.commits;
        size = old.size;
        inside = λ x has. old.inside x (before x has);
        latest = λ x has. old.latest x (before x has);
        spelled = old.spelled;
        states = λ x has.
            let n = sector_of_offset g x.offset in
            subst (λ (ps : List Point). State (dirty_points_at r.blocks (n / 8)) (point_at r.handed n) (point_at ps n) x.point) (sym still) (old.states x (before x has));
      })
    where
      before : (x : SlabEntry) → Contains (updates_of (call ∷ calls)) x → Contains (updates_of calls) x
      before x has = subst (λ (us : List SlabEntry). Contains us x) none has

  -- a reference block is handed out
  covering_out : (calls : List Operation) (counters bytes : List ℕ) (block : ℕ) (log : Slab) (r new : References) (first : Point) → IsDue (dirty_points_at r.blocks block) first
      → new.blocks ≡ with_dirty_points r.blocks block handed_out → new.geometry ≡ r.geometry → new.applied ≡ r.applied → new.handed ≡ with_sectors r.applied block r.handed
      → IsCovering g calls log r → IsCovering g (ReferenceOut counters bytes block ∷ calls) log new
  covering_out calls counters bytes block log r new first due marked same still keeps old =
      let there = due_inside r.blocks block first due in
      let begins : 8 * block ≤ length r.applied = omega (arith, there, old.dirty_points, old.applied, sizes.slab_blocks) in
      let alike : length r.applied ≡ length r.handed = old.applied ∙ sym old.handed in
      let now : dirty_points_at new.blocks block ≡ handed_out (dirty_points_at r.blocks block)
      = ap (λ (ms : List DirtyPoints). dirty_points_at ms block) marked ∙ get_or-set_same r.blocks block (handed_out (dirty_points_at r.blocks block)) clean there in
      let others : (n : ℕ) → n ≢ block → dirty_points_at new.blocks n ≡ dirty_points_at r.blocks n
      = λ n other. ap (λ (ms : List DirtyPoints). dirty_points_at ms n) marked ∙ get_or-set_other r.blocks block n (handed_out (dirty_points_at r.blocks block)) clean other in
      let own : (n : ℕ) → 8 * block ≤ n → n < end_of r.applied block → point_at new.handed n ≡ point_at r.applied n
      = λ n low high. ap (λ (ps : List Point). point_at ps n) keeps ∙ own_sector r.applied r.handed block n alike begins low high in
      let apart : (n : ℕ) → (n < 8 * block) ⊎ (end_of r.applied block ≤ n) → point_at new.handed n ≡ point_at r.handed n
      = λ n out. ap (λ (ps : List Point). point_at ps n) keeps ∙ other_sector r.applied r.handed block n alike begins out in
      record {
        geometry = old.geometry;
        applied = ap (λ (ps : List Point). length ps) still ∙ old.applied;
        handed = ap (λ (ps : List Point). length ps) keeps ∙ same_length r.applied r.handed block 0 alike begins ∙ old.handed;
        dirty_points = ap (λ (ms : List DirtyPoints). length ms) marked ∙ length-set r.blocks block (handed_out (dirty_points_at r.blocks block)) ∙ old.dirty_points;
        commits = old.commits;
        size = same ∙ old.size;
        inside = old.inside;
        latest = λ x has. subst (λ (ps : List Point). x.point.0 ≤ (point_at ps (sector_of_offset g x.offset)).0) (sym still) (old.latest x has);
        spelled = λ n point is. elim (cases_eq n block) [
          | inl this ↦
              let none : None ≡ (dirty_points_at new.blocks n).dirty = sym (ap (λ (j : ℕ). (dirty_points_at new.blocks j).dirty) this ∙ ap (λ (m : DirtyPoints). m.dirty) now) in
              absurd (none-some point (none ∙ is))
          | inr other ↦ old.spelled n point (ap (λ (m : DirtyPoints). m.dirty) (sym (others n other)) ∙ is)
        ];
        states = λ x has.
            let n = sector_of_offset g x.offset in
            elim (cases_eq (n / 8) block) [
              | inl this ↦
                  let within = old.inside x has in
                  let high : n < end_of r.applied block = omega (arith, this, within, old.applied) in
                  let taken = ap (λ (p : Point). p.0) (own n (omega (arith, this)) high) in
                  let out : IsBeingWritten (dirty_points_at new.blocks (n / 8)) = record {
                    first = first;
                    is = ap (λ (j : ℕ). (dirty_points_at new.blocks j).writing) this ∙ ap (λ (m : DirtyPoints). m.writing) now ∙ due.dirty;
                  } in
                  inr (inl (out, omega (arith, taken, old.latest x has)))
              | inr other ↦
                  let out : (n < 8 * block) ⊎ (end_of r.applied block ≤ n) = elim (cases_lt n (8 * block)) [ inl less ↦ inl less | inr no_less ↦ inr (omega (arith, no_less, other)) ] in
                  state_moves (dirty_points_at r.blocks (n / 8)) (dirty_points_at new.blocks (n / 8)) (point_at r.handed n) (point_at new.handed n) (point_at log.commits n) (point_at log.commits n) x.point
                  (others (n / 8) other) (omega (arith, ap (λ (p : Point). p.0) (apart n out))) (omega arith) (old.states x has)
            ];
      }

  -- and its write is durable
  covering_durable : (calls : List Operation) (block : ℕ) (log new : Slab) (r s : References) → Raises r.handed log.commits (8 * block) (8 * block + 8) new.commits
      → new.geometry ≡ log.geometry → s ≡ written r block → IsCovering g calls log r → IsCovering g (ReferenceDurable block ∷ calls) new s
  covering_durable calls block log new r s raises same is old =
      subst (λ (q : References). IsCovering g (ReferenceDurable block ∷ calls) new q) (sym is) (record {
        geometry = same ∙ old.geometry;
        applied = old.applied;
        handed = old.handed;
        dirty_points = length-set r.blocks block (settled (dirty_points_at r.blocks block)) ∙ old.dirty_points;
        commits = raises.size ∙ old.commits;
        size = old.size;
        inside = old.inside;
        latest = old.latest;
        spelled = λ n first at. elim (cases_eq n block) [
          | inl this ↦ elim (cases_lt block (length r.blocks)) [
            | inl there ↦
                let now = ap (λ (j : ℕ). (dirty_points_at (written r block).blocks j).dirty) this
                ∙ ap (λ (m : DirtyPoints). m.dirty) (get_or-set_same r.blocks block (settled (dirty_points_at r.blocks block)) clean there) in
                old.spelled block first (sym now ∙ at)
            | inr past ↦
                let none = ap (λ (m : DirtyPoints). m.dirty) (get_or_past (written r block).blocks n clean (omega (arith, this, past, length-set r.blocks block (settled (dirty_points_at r.blocks block))))) in
                absurd (none-some first (sym none ∙ at))
          ]
          | inr other ↦ old.spelled n first (ap (λ (m : DirtyPoints). m.dirty) (sym (get_or-set_other r.blocks block n (settled (dirty_points_at r.blocks block)) clean other)) ∙ at)
        ];
        states = λ x has.
            let n = sector_of_offset g x.offset in
            let within = old.inside x has in
            elim (cases_eq (n / 8) block) [
              | inl this ↦
                  let there : block < length r.blocks = omega (arith, this, within, old.dirty_points) in
                  let now : (dirty_points_at (written r block).blocks (n / 8)).dirty ≡ (dirty_points_at r.blocks (n / 8)).dirty
                  = ap (λ (j : ℕ). (dirty_points_at (written r block).blocks j).dirty) this
                  ∙ ap (λ (m : DirtyPoints). m.dirty) (get_or-set_same r.blocks block (settled (dirty_points_at r.blocks block)) clean there)
                  ∙ ap (λ (j : ℕ). (dirty_points_at r.blocks j).dirty) (sym this) in
                  let raised = raises.inside n (omega (arith, this)) (omega (arith, this)) (omega (arith, within, old.commits)) in
                  own x n now raised (old.states x has)
              | inr other ↦
                  let out : (n < 8 * block) ⊎ (8 * block + 8 ≤ n) = elim (cases_lt n (8 * block)) [ inl less ↦ inl less | inr no_less ↦ inr (omega (arith, no_less, other)) ] in
                  state_moves (dirty_points_at r.blocks (n / 8)) (dirty_points_at (written r block).blocks (n / 8)) (point_at r.handed n) (point_at r.handed n) (point_at log.commits n) (point_at new.commits n) x.point
                  (get_or-set_other r.blocks block (n / 8) (settled (dirty_points_at r.blocks block)) clean other) (omega arith)
                  (omega (arith, ap (λ (p : Point). p.0) (raises.outside n out))) (old.states x has)
            ];
      })
    where
      own : (x : SlabEntry) (n : ℕ) → (dirty_points_at (written r block).blocks (n / 8)).dirty ≡ (dirty_points_at r.blocks (n / 8)).dirty
          → (point_at new.commits n).0 ≡ max (point_at log.commits n).0 (point_at r.handed n).0
          → State (dirty_points_at r.blocks (n / 8)) (point_at r.handed n) (point_at log.commits n) x.point
          → State (dirty_points_at (written r block).blocks (n / 8)) (point_at r.handed n) (point_at new.commits n) x.point
      own x n now raised (inl dirty) = inl (dirty.0, now ∙ dirty.1)
      own x n now raised (inr (inl out)) = inr (inr (omega (arith, out.1, raised)))
      own x n now raised (inr (inr low)) = inr (inr (omega (arith, low, raised)))

covering_opening : (g : Geometry) (slab : ℕ) (points : List Point) → length points ≡ sectors_per_slab g → IsCovering g [] (journals.opening g slab) (opening_blocks g points)
covering_opening g slab points size = record {
  geometry = refl;
  applied = size;
  handed = size;
  dirty_points = length-replicate (references_of g) clean;
  commits = length-replicate (sectors_per_slab g) zero_point;
  size = refl;
  inside = λ x there. none_taken x there;
  latest = λ x there. none_taken x there;
  spelled = λ b first is. absurd (none-some first (sym (none_dirty b) ∙ is));
  states = λ x there. none_taken x there;
}
  where
    none_dirty : (b : ℕ) → (dirty_points_at (replicate (references_of g) clean) b).dirty ≡ None
    none_dirty b = elim (cases_lt b (references_of g)) [
      | inl below ↦ ap (λ (m : DirtyPoints). m.dirty) (get_or-replicate (references_of g) b clean clean below)
      | inr past ↦ ap (λ (m : DirtyPoints). m.dirty) (get_or_past (replicate (references_of g) clean) b clean (omega (arith, past, length-replicate (references_of g) clean)))
    ]

covering : (g : Geometry) (slab : ℕ) (commits : List Point) (calls : List Operation) (w : Writes) → IsGeometry g → length (points_of g slab commits) ≡ sectors_per_slab g
    → LeadTo (opening g slab commits) calls w → AreRising g (points_of g slab commits) (updates_of calls) → AreSpelled (updates_of calls) → IsCovering g calls w.journal w.blocks
covering g slab commits [] w sizes size is rising spelled =
    subst (λ (v : Writes). IsCovering g [] v.journal v.blocks) (sym is) (covering_opening g slab (points_of g slab commits) size)
covering g slab commits (Taken e ∷ calls) w sizes size (before, lead, did) rising spelled =
    let old = covering g slab commits calls before sizes size lead rising.2 (λ x has. spelled x (more e (updates_of calls) x has)) in
    subst (λ (v : Writes). IsCovering g (Taken e ∷ calls) v.journal v.blocks) (sym did.2)
    (covering_taken g sizes calls e before.journal before.blocks did.1 (spelled e (newest e (updates_of calls) e refl))
    (λ x has. All-contains (λ (f : SlabEntry). f.point.0 < e.point.0) (updates_of calls) x rising.0 has) old)
covering g slab commits (JournalOut block ∷ calls) w sizes size (before, lead, did) rising spelled =
    let old = covering g slab commits calls before sizes size lead rising spelled in
    covering_same g sizes (JournalOut block) calls before.journal w.journal before.blocks w.blocks refl (ap (λ (v : Writes). v.blocks) did.1)
    (ap (λ (l : Slab). l.geometry) did.0.follows) (ap (λ (l : Slab). l.commits) did.0.follows) old
covering g slab commits (ReferenceOut counters bytes block ∷ calls) w sizes size (before, lead, did) rising spelled =
    let old = covering g slab commits calls before sizes size lead rising spelled in
    let out = did.0 in
    subst (λ (l : Slab). IsCovering g (ReferenceOut counters bytes block ∷ calls) l w.blocks) (sym (ap (λ (v : Writes). v.journal) did.1))
    (covering_out g sizes calls counters bytes block before.journal before.blocks w.blocks out.first.first out.first.due out.first.after
    (ap (λ (r : References). r.geometry) out.same) (ap (λ (r : References). r.applied) out.same) out.keeps old)
covering g slab commits (JournalDurable sequence ∷ calls) w sizes size (before, lead, did) rising spelled =
    let old = covering g slab commits calls before sizes size lead rising spelled in
    covering_same g sizes (JournalDurable sequence) calls before.journal w.journal before.blocks w.blocks refl (ap (λ (v : Writes). v.blocks) did.2)
    (ap (λ (v : Writes). v.journal.geometry) did.2) (ap (λ (v : Writes). v.journal.commits) did.2) old
covering g slab commits (ReferenceDurable block ∷ calls) w sizes size (before, lead, did) rising spelled =
    let old = covering g slab commits calls before sizes size lead rising spelled in
    covering_durable g sizes calls block before.journal w.journal before.blocks w.blocks did.1.raises (ap (λ (l : Slab). l.geometry) did.1.journal) did.1.blocks old

-- where none is dirty and none is being written, each is covered
all_covered : (g : Geometry) (calls : List Operation) (w : Writes) → IsCovering g calls w.journal w.blocks → NonePageOut w.blocks.blocks → NoneDirty w.blocks
    → (x : SlabEntry) → Contains (updates_of calls) x → IsCovered w.journal.geometry w.journal.commits x
all_covered g calls w known out none x has = by (known.states x has)
  where
    by : State (dirty_points_at w.blocks.blocks (sector_of_offset g x.offset / 8)) (point_at w.blocks.handed (sector_of_offset g x.offset)) (point_at w.journal.commits (sector_of_offset g x.offset)) x.point
        → IsCovered w.journal.geometry w.journal.commits x
    by (inl dirty) =
        let b = sector_of_offset g x.offset / 8 in
        absurd (none b dirty.0 (known.spelled b dirty.0 dirty.1) (record { idle = idle_of (dirty_points_at w.blocks.blocks b) (out b); dirty = dirty.1 }))
    by (inr (inl written)) = absurd (out (sector_of_offset g x.offset / 8) written.0)
    by (inr (inr low)) = low

some_filled : (x : SlabEntry) (xs : List SlabEntry) → Contains xs x → 0 < length xs
some_filled x xs has = omega (arith, has.1)

pub slab_still : (g : Geometry) (slab : ℕ) (commits : List Point) (calls : List Operation) (w : Writes) → IsGeometry g → length (points_of g slab commits) ≡ sectors_per_slab g
    → LeadTo (opening g slab commits) calls w → AreRising g (points_of g slab commits) (updates_of calls) → AreSpelled (updates_of calls) → NoneOut w → NoneDue Head w
    → NoneUnsettled w.journal
slab_still g slab commits calls w sizes size lead rising spelled out due = none_of
  where
    known : IsCovering g calls w.journal w.blocks
    known = covering g slab commits calls w sizes size lead rising spelled

    refused : (x : SlabEntry) → Contains w.journal.filling x → MayOverwrite w.journal → ⊥
    refused x has may = out.journal (due.journal (some_filled x w.journal.filling has, may))

    none_of : (x : SlabEntry) → IsUnsettled w.journal x → ⊥
    none_of x (inl sealed, uncovered) = out.journal sealed.0
    none_of x (inr filling, uncovered) =
        let none = due.reference (inr (some_filled x w.journal.filling filling, λ may. refused x filling may)) in
        uncovered (all_covered g calls w known out.references none x (filling_taken g slab commits calls w x lead filling))

contains_at : (xs : List SlabEntry) (k : ℕ) (d : SlabEntry) → k < length xs → Contains xs (get_or xs k d)
contains_at xs k d inside = (k, inside, get_or_default xs k (get_or xs k d) d inside)

-- what stands in the slots of the slab's journal was taken
abbrev no_entries : List SlabEntry
no_entries = []

empty_is : (count n : ℕ) → get_or (replicate count no_entries) n no_entries ≡ no_entries
empty_is count n = elim (cases_lt n count) [
  | inl below ↦ get_or-replicate count n no_entries no_entries below
  | inr past ↦ get_or_past (replicate count no_entries) n no_entries (omega (arith, past, length-replicate count no_entries))
]

empty_slot : (count n : ℕ) (x : SlabEntry) → Contains (get_or (replicate count no_entries) n no_entries) x → ⊥
empty_slot count n x has = none_taken x (subst (λ (es : List SlabEntry). Contains es x) (empty_is count n) has)

sealed_slot : (slots : List (List SlabEntry)) (place n : ℕ) (filling : List SlabEntry) (x : SlabEntry) → Contains (get_or (set slots place filling) n []) x
    → Contains filling x ⊎ Contains (get_or slots n []) x
sealed_slot slots place n filling x has = elim (cases_eq n place) [
  | inl same ↦ elim (cases_lt place (length slots)) [
    | inl inside ↦
        let here : get_or (set slots place filling) n [] ≡ filling = ap (λ (j : ℕ). get_or (set slots place filling) j []) same ∙ get_or-set_same slots place filling [] inside in
        inl (subst (λ (es : List SlabEntry). Contains es x) here has)
    | inr past ↦
        let none = get_or_past (set slots place filling) n [] (omega (arith, same, past, length-set slots place filling)) in
        absurd (none_taken x (subst (λ (es : List SlabEntry). Contains es x) none has))
  ]
  | inr other ↦ inr (subst (λ (es : List SlabEntry). Contains es x) (get_or-set_other slots place n filling [] other) has)
]

slots_taken : (g : Geometry) (slab : ℕ) (commits : List Point) (calls : List Operation) (w : Writes) (n : ℕ) (x : SlabEntry) → LeadTo (opening g slab commits) calls w
    → Contains (get_or w.journal.slots n []) x → Contains (updates_of calls) x
slots_taken g slab commits [] w n x is has =
    absurd (empty_slot g.slab_journal n x (subst (λ (v : Writes). Contains (get_or v.journal.slots n []) x) is has))
slots_taken g slab commits (Taken e ∷ calls) w n x (before, lead, did) has =
    more e (updates_of calls) x (slots_taken g slab commits calls before n x lead (subst (λ (v : Writes). Contains (get_or v.journal.slots n []) x) did.2 has))
slots_taken g slab commits (JournalOut block ∷ calls) w n x (before, lead, did) has =
    elim (sealed_slot before.journal.slots (next_slot before.journal) n before.journal.filling x (subst (λ (l : Slab). Contains (get_or l.slots n []) x) did.0.follows has)) [
      | inl filling ↦ filling_taken g slab commits calls before x lead filling
      | inr older ↦ slots_taken g slab commits calls before n x lead older
    ]
slots_taken g slab commits (ReferenceOut counters bytes block ∷ calls) w n x (before, lead, did) has =
    slots_taken g slab commits calls before n x lead (subst (λ (l : Slab). Contains (get_or l.slots n []) x) (ap (λ (v : Writes). v.journal) did.1) has)
slots_taken g slab commits (JournalDurable sequence ∷ calls) w n x (before, lead, did) has =
    slots_taken g slab commits calls before n x lead (subst (λ (v : Writes). Contains (get_or v.journal.slots n []) x) did.2 has)
slots_taken g slab commits (ReferenceDurable block ∷ calls) w n x (before, lead, did) has =
    slots_taken g slab commits calls before n x lead (subst (λ (l : Slab). Contains (get_or l.slots n []) x) did.1.journal has)

-- a full block isn't left
pub room_still : (g : Geometry) (slab : ℕ) (commits : List Point) (calls : List Operation) (w : Writes) → IsGeometry g → length (points_of g slab commits) ≡ sectors_per_slab g
    → LeadTo (opening g slab commits) calls w → AreRising g (points_of g slab commits) (updates_of calls) → AreSpelled (updates_of calls) → NoneOut w → NoneDue Full w
    → length w.journal.filling ≢ 320
room_still g slab commits calls w sizes size lead rising spelled out due = refused
  where
    known : IsCovering g calls w.journal w.blocks
    known = covering g slab commits calls w sizes size lead rising spelled

    refused : length w.journal.filling ≡ 320 → ⊥
    refused full =
        let not_may : MayOverwrite w.journal → ⊥ = λ may. out.journal (due.journal (full, may)) in
        let none = due.reference (inr (full, not_may)) in
        not_may (λ k d inside. all_covered g calls w known out.references none (get_or (next_block w.journal) k d)
        (slots_taken g slab commits calls w (next_slot w.journal) (get_or (next_block w.journal) k d) lead (contains_at (next_block w.journal) k d inside)))
