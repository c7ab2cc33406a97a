-- A commit point of the journal is 0, or that of a reference block that was reported durable; and none falls.
use Rattle.std.specs.Prelude.{ℕ, ◌≡◌, ◌≢◌, ◌+◌, ◌*◌, ◌/◌, ◌<◌, ◌≤◌, ◌⊎◌, List, [], ◌∷◌, length, replicate}
use Rattle.std.proofs.Common.{sym, ◌∙◌, ap, subst, arith, inl, inr, refl}
use Rattle.std.proofs.lemmas.Bool.{cases_eq, cases_lt}
use Rattle.std.proofs.lemmas.List.{length-set, length-replicate, get_or-replicate, get_or_past}
use Rattle.std.proofs.lemmas.Option.{none-some}
use Rattle.blk_base.specs.Counters.{sectors_per_slab, sector_of_offset}
use Rattle.blk_base.specs.Limits.{IsGeometry}
use Rattle.blk_base.specs.Regions.{references_of}
use Rattle.blk_base.specs.declared.geometry.Geometry.{Geometry}
use Rattle.blk_base.specs.declared.point.Point.{Point}
use Rattle.dirty_pages.specs.declared.dirty_points.DirtyPoints.{DirtyPoints}
use Rattle.dirty_pages.specs.DirtyPoints.{IsBeingWritten, changed_at, clean, handed_out, dirty_points_at, settled, with_dirty_points}
use Rattle.dirty_pages.proofs.DirtyPointLaws.{out_inside, changed_here, changed_elsewhere}
use Rattle.reference_blocks.specs.References.{References, HandsOutBlock, point_at, points_of, sectors_of, end_of}
use Rattle.slab_codec.specs.Reference.{reference_bytes}
use Rattle.slab_journal.specs.Slab.{Slab}
use Rattle.slab_writes.specs.Operations.{Operation, Taken, JournalOut, ReferenceOut, JournalDurable, ReferenceDurable, Does, LeadTo}
use Rattle.slab_writes.specs.Commits.{IsHandedOut, IsReported}
use Rattle.slab_writes.specs.Writes.{Writes, Raises, opening}
use Rattle.slab_writes.proofs.SectorLaws.{due_inside, own_sector, other_sector, same_length}

abbrev zero_point : Point
zero_point = record { 0 = 0 }

same_point : (p q : Point) → p.0 ≡ q.0 → p ≡ q
same_point p q same = ap (λ (n : ℕ). let point : Point = record { 0 = n } in point) same

-- a page that is being written was it before the change, or was handed out by it
was_writing : (pages : List DirtyPoints) (page : ℕ) (change : DirtyPoints → DirtyPoints) (other : ℕ) → ((m : DirtyPoints) → IsBeingWritten (change m) → IsBeingWritten m)
    → IsBeingWritten (dirty_points_at (with_dirty_points pages page change) other) → IsBeingWritten (dirty_points_at pages other)
was_writing pages page change other keeps is = elim (cases_eq other page) [
  | inl same ↦
      let here = subst (λ (n : ℕ). IsBeingWritten (dirty_points_at (with_dirty_points pages page change) n)) same is in
      let inside : page < length pages = omega (arith, out_inside (with_dirty_points pages page change) page here, length-set pages page (change (dirty_points_at pages page))) in
      let now = subst (λ (m : DirtyPoints). IsBeingWritten m) (changed_here pages page change inside) here in
      subst (λ (n : ℕ). IsBeingWritten (dirty_points_at pages n)) (sym same) (keeps (dirty_points_at pages page) now)
  | inr differs ↦ subst (λ (m : DirtyPoints). IsBeingWritten m) (changed_elsewhere pages page other change differs) is
]

was_changed : (point : Point) (m : DirtyPoints) → IsBeingWritten (changed_at point m) → IsBeingWritten m
was_changed point m out = record { first = out.first; is = out.is }

was_settled : (m : DirtyPoints) → IsBeingWritten (settled m) → IsBeingWritten m
was_settled m out = absurd (none-some out.first out.is)

-- what is known after these calls
record AreReported (g : Geometry) (calls : List Operation) (w : Writes) : Type 0 where
  pub geometry : w.blocks.geometry ≡ g
  pub applied : length w.blocks.applied ≡ sectors_per_slab g
  pub handed : length w.blocks.handed ≡ sectors_per_slab g
  pub dirty_points : length w.blocks.blocks ≡ references_of g
  pub many : length w.journal.commits ≡ sectors_per_slab g
  pub writing : (block sector : ℕ) → IsBeingWritten (dirty_points_at w.blocks.blocks block) → sector / 8 ≡ block → sector < sectors_per_slab g → IsHandedOut g calls sector (point_at w.blocks.handed sector)
  pub commits : (sector : ℕ) → (point_at w.journal.commits sector ≡ zero_point) ⊎ IsReported g calls sector (point_at w.journal.commits sector)

opened_zero : (k n : ℕ) → point_at (replicate k zero_point) n ≡ zero_point
opened_zero k n = elim (cases_lt n k) [
  | inl below ↦ get_or-replicate k n zero_point zero_point below
  | inr past ↦ get_or_past (replicate k zero_point) n zero_point (omega (arith, past, length-replicate k zero_point))
]

none_out : (k block : ℕ) → IsBeingWritten (dirty_points_at (replicate k clean) block) → ⊥
none_out k block out =
    let inside : block < k = omega (arith, out_inside (replicate k clean) block out, length-replicate k clean) in
    let is = ap (λ (m : DirtyPoints). m.writing) (get_or-replicate k block clean clean inside) in
    none-some out.first (sym is ∙ out.is)

module _ (g : Geometry) (sizes : IsGeometry g) where
  -- a block is handed out
  out_is : (calls : List Operation) (counters bytes : List ℕ) (block : ℕ) (before w : Writes) → HandsOutBlock before.blocks w.blocks counters bytes block → w ≡ record before { blocks = w.blocks } → AreReported g calls before
      → AreReported g (ReferenceOut counters bytes block ∷ calls) w
  out_is calls counters bytes block before w out same old =
      let r = before.blocks in
      let inside = due_inside r.blocks block out.first.first out.first.due in
      let alike : length r.applied ≡ length r.handed = old.applied ∙ sym old.handed in
      let starts : 8 * block ≤ length r.applied = omega (arith, inside, old.dirty_points, old.applied) in
      let journal : w.journal ≡ before.journal = ap (λ (v : Writes). v.journal) same in
      let keep : w.blocks.blocks ≡ with_dirty_points r.blocks block handed_out = out.first.after in
      record {
        geometry = ap (λ (s : References). s.geometry) out.same ∙ old.geometry;
        applied = ap (λ (s : References). length s.applied) out.same ∙ old.applied;
        handed = ap (λ (ps : List Point). length ps) out.keeps ∙ same_length r.applied r.handed block 0 alike starts ∙ old.handed;
        dirty_points = ap (λ (ms : List DirtyPoints). length ms) keep ∙ length-set r.blocks block _ ∙ old.dirty_points;
        many = ap (λ (j : Slab). length j.commits) journal ∙ old.many;
        writing = λ b sector is own below. elim (cases_eq block (sector / 8)) [
          | inl here ↦
              let low : 8 * block ≤ sector = omega (arith, here) in
              let high : sector < end_of r.applied block = omega (arith, here, below, old.applied) in
              let point : point_at r.applied sector ≡ point_at w.blocks.handed sector
              = sym (ap (λ (ps : List Point). point_at ps sector) out.keeps ∙ own_sector r.applied r.handed block sector alike starts low high) in
              let says : bytes ≡ reference_bytes (sectors_of g r.applied counters (sector / 8))
              = out.says ∙ ap (λ (h : Geometry). reference_bytes (sectors_of h r.applied counters block)) old.geometry ∙ ap (λ (n : ℕ). reference_bytes (sectors_of g r.applied counters n)) here in
              inl (here, record { points = r.applied; counters = counters; says = says; is = point })
          | inr other ↦
              let apart : b ≢ block = λ is'. other (omega (arith, is', own)) in
              let was = subst (λ (m : DirtyPoints). IsBeingWritten m) (changed_elsewhere r.blocks block b handed_out apart) (subst (λ (ms : List DirtyPoints). IsBeingWritten (dirty_points_at ms b)) keep is) in
              let outside : (sector < 8 * block) ⊎ (end_of r.applied block ≤ sector)
              = elim (cases_lt sector (8 * block)) [ inl less ↦ inl less | inr no_less ↦ inr (omega (arith, no_less, other)) ] in
              let point : point_at w.blocks.handed sector ≡ point_at r.handed sector
              = ap (λ (ps : List Point). point_at ps sector) out.keeps ∙ other_sector r.applied r.handed block sector alike starts outside in
              inr (other, subst (λ (p : Point). IsHandedOut g calls sector p) (sym point) (old.writing b sector was own below))
        ];
        commits = λ sector. subst (λ (j : Slab). (point_at j.commits sector ≡ zero_point) ⊎ IsReported g calls sector (point_at j.commits sector)) (sym journal) (old.commits sector);
      }

  -- its write is durable
  raised : (calls : List Operation) (block sector : ℕ) (before : Writes) (new : List Point) → IsBeingWritten (dirty_points_at before.blocks.blocks block) → Raises before.blocks.handed before.journal.commits (8 * block) (8 * block + 8) new
      → AreReported g calls before → (point_at new sector ≡ zero_point) ⊎ IsReported g (ReferenceDurable block ∷ calls) sector (point_at new sector)
  raised calls block sector before new out raises old =
      let stays : point_at new sector ≡ point_at before.journal.commits sector → (point_at new sector ≡ zero_point) ⊎ IsReported g (ReferenceDurable block ∷ calls) sector (point_at new sector)
      = λ same. subst (λ (p : Point). (p ≡ zero_point) ⊎ IsReported g (ReferenceDurable block ∷ calls) sector p) (sym same)
      (elim (old.commits sector) [ inl none ↦ inl none | inr told ↦ inr (inr told) ]) in
      elim (cases_lt sector (length before.journal.commits)) [
        | inr past ↦ inl (get_or_past new sector zero_point (omega (arith, past, raises.size)))
        | inl inside ↦ elim (cases_eq (sector / 8) block) [
          | inr other ↦
              let outside : (sector < 8 * block) ⊎ (8 * block + 8 ≤ sector)
              = elim (cases_lt sector (8 * block)) [ inl less ↦ inl less | inr no_less ↦ inr (omega (arith, no_less, other)) ] in
              stays (raises.outside sector outside)
          | inl own ↦
              let now = raises.inside sector (omega (arith, own)) (omega (arith, own)) inside in
              elim (cases_lt (point_at before.journal.commits sector).0 (point_at before.blocks.handed sector).0) [
                | inr low ↦ stays (same_point _ _ (omega (arith, now, low)))
                | inl higher ↦
                    let same : point_at new sector ≡ point_at before.blocks.handed sector = same_point _ _ (omega (arith, now, higher)) in
                    inr (inl (sym own, subst (λ (p : Point). IsHandedOut g calls sector p) (sym same) (old.writing block sector out own (omega (arith, inside, old.many)))))
              ]
        ]
      ]

  durable_is : (calls : List Operation) (block : ℕ) (before w : Writes) → Does (ReferenceDurable block) before w → AreReported g calls before → AreReported g (ReferenceDurable block ∷ calls) w
  durable_is calls block before w did old =
      let settles = did.1 in
      let dirty_points : w.blocks.blocks ≡ with_dirty_points before.blocks.blocks block settled = ap (λ (r : References). r.blocks) settles.blocks in
      let handed : w.blocks.handed ≡ before.blocks.handed = ap (λ (r : References). r.handed) settles.blocks in
      record {
        geometry = ap (λ (r : References). r.geometry) settles.blocks ∙ old.geometry;
        applied = ap (λ (r : References). length r.applied) settles.blocks ∙ old.applied;
        handed = ap (λ (ps : List Point). length ps) handed ∙ old.handed;
        dirty_points = ap (λ (ms : List DirtyPoints). length ms) dirty_points ∙ length-set before.blocks.blocks block _ ∙ old.dirty_points;
        many = settles.raises.size ∙ old.many;
        writing = λ b sector is own below.
            let was = was_writing before.blocks.blocks block settled b was_settled (subst (λ (ms : List DirtyPoints). IsBeingWritten (dirty_points_at ms b)) dirty_points is) in
            subst (λ (ps : List Point). IsHandedOut g calls sector (point_at ps sector)) (sym handed) (old.writing b sector was own below);
        commits = λ sector. raised calls block sector before w.journal.commits did.0 settles.raises old;
      }

  -- nothing of it changes
  still_is : (call : Operation) (calls : List Operation) (before w : Writes) → ((sector : ℕ) (p : Point) → IsHandedOut g calls sector p → IsHandedOut g (call ∷ calls) sector p)
      → ((sector : ℕ) (p : Point) → IsReported g calls sector p → IsReported g (call ∷ calls) sector p) → w.blocks ≡ before.blocks → w.journal.commits ≡ before.journal.commits → AreReported g calls before
      → AreReported g (call ∷ calls) w
  still_is call calls before w passes passes_too blocks commits old = record {
    geometry = ap (λ (r : References). r.geometry) blocks ∙ old.geometry;
    applied = ap (λ (r : References). length r.applied) blocks ∙ old.applied;
    handed = ap (λ (r : References). length r.handed) blocks ∙ old.handed;
    dirty_points = ap (λ (r : References). length r.blocks) blocks ∙ old.dirty_points;
    many = ap (λ (ps : List Point). length ps) commits ∙ old.many;
    writing = λ b sector is own below.
        passes sector (point_at w.blocks.handed sector)
        (subst (λ (r : References). IsHandedOut g calls sector (point_at r.handed sector)) (sym blocks) (old.writing b sector (subst (λ (r : References). IsBeingWritten (dirty_points_at r.blocks b)) blocks is) own below));
    commits = λ sector. elim (old.commits sector) [
      | inl none ↦ inl (ap (λ (ps : List Point). point_at ps sector) commits ∙ none)
      | inr told ↦ inr (passes_too sector (point_at w.journal.commits sector) (subst (λ (ps : List Point). IsReported g calls sector (point_at ps sector)) (sym commits) told))
    ];
  }

  reported : (slab : ℕ) (all : List Point) (calls : List Operation) (w : Writes) → length (points_of g slab all) ≡ sectors_per_slab g → LeadTo (opening g slab all) calls w → AreReported g calls w
  reported slab all [] w size is = subst (λ (v : Writes). AreReported g [] v) (sym is) (record {
    geometry = refl;
    applied = size;
    handed = size;
    dirty_points = length-replicate (references_of g) clean;
    many = length-replicate (sectors_per_slab g) zero_point;
    writing = λ b sector is own below. none_out (references_of g) b is;
    commits = λ sector. inl (opened_zero (sectors_per_slab g) sector);
  })
  reported slab all (Taken e ∷ calls) w size (before, lead, did) =
      let old = reported slab all calls before size lead in
      let r = before.blocks in
      let k = sector_of_offset r.geometry e.offset in
      subst (λ (v : Writes). AreReported g (Taken e ∷ calls) v) (sym did.2) (record {
        geometry = old.geometry;
        applied = length-set r.applied k e.point ∙ old.applied;
        handed = old.handed;
        dirty_points = length-set r.blocks (k / 8) (changed_at e.point (dirty_points_at r.blocks (k / 8))) ∙ old.dirty_points;
        many = old.many;
        writing = λ b sector is own below. old.writing b sector (was_writing r.blocks (k / 8) (changed_at e.point) b (was_changed e.point) is) own below;
        commits = old.commits;
      })
  reported slab all (JournalOut block ∷ calls) w size (before, lead, did) =
      still_is (JournalOut block) calls before w (λ n p there. there) (λ n p there. there) (ap (λ (v : Writes). v.blocks) did.1) (ap (λ (j : Slab). j.commits) did.0.follows) (reported slab all calls before size lead)
  reported slab all (ReferenceOut counters bytes block ∷ calls) w size (before, lead, did) = out_is calls counters bytes block before w did.0 did.1 (reported slab all calls before size lead)
  reported slab all (JournalDurable sequence ∷ calls) w size (before, lead, did) =
      still_is (JournalDurable sequence) calls before w (λ n p there. there) (λ n p there. there) (ap (λ (v : Writes). v.blocks) did.2) (ap (λ (v : Writes). v.journal.commits) did.2) (reported slab all calls before size lead)
  reported slab all (ReferenceDurable block ∷ calls) w size (before, lead, did) = durable_is calls block before w did (reported slab all calls before size lead)

  pub commit_reported : (slab : ℕ) (all : List Point) (calls : List Operation) (w : Writes) (sector : ℕ) → length (points_of g slab all) ≡ sectors_per_slab g → LeadTo (opening g slab all) calls w
      → (point_at w.journal.commits sector ≡ zero_point) ⊎ IsReported g calls sector (point_at w.journal.commits sector)
  commit_reported slab all calls w sector size lead = (reported slab all calls w size lead).commits sector

-- no commit point of the journal falls
same_commits : (old new : Slab) (sector : ℕ) → new.commits ≡ old.commits → (point_at old.commits sector).0 ≤ (point_at new.commits sector).0
same_commits old new sector same = omega (arith, ap (λ (ps : List Point). (point_at ps sector).0) same)

pub no_commit_falls : (call : Operation) (old new : Writes) (sector : ℕ) → Does call old new → (point_at old.journal.commits sector).0 ≤ (point_at new.journal.commits sector).0
no_commit_falls (Taken e) old new sector did = same_commits old.journal new.journal sector (ap (λ (v : Writes). v.journal.commits) did.2)
no_commit_falls (JournalOut block) old new sector did = same_commits old.journal new.journal sector (ap (λ (j : Slab). j.commits) did.0.follows)
no_commit_falls (ReferenceOut counters bytes block) old new sector did = same_commits old.journal new.journal sector (ap (λ (v : Writes). v.journal.commits) did.1)
no_commit_falls (JournalDurable sequence) old new sector did = same_commits old.journal new.journal sector (ap (λ (v : Writes). v.journal.commits) did.2)
no_commit_falls (ReferenceDurable block) old new sector did =
    let raises = did.1.raises in
    let stays : (sector < 8 * block) ⊎ (8 * block + 8 ≤ sector) → (point_at old.journal.commits sector).0 ≤ (point_at new.journal.commits sector).0
    = λ out. omega (arith, ap (λ (p : Point). p.0) (raises.outside sector out)) in
    elim (cases_lt sector (8 * block)) [
      | inl less ↦ stays (inl less)
      | inr low ↦ elim (cases_lt sector (8 * block + 8)) [
        | inr past ↦ stays (inr past)
        | inl high ↦ elim (cases_lt sector (length old.journal.commits)) [
          | inl inside ↦ omega (arith, raises.inside sector low high inside)
          | inr out ↦ omega (arith, ap (λ (p : Point). p.0) (get_or_past old.journal.commits sector zero_point out))
        ]
      ]
    ]
