-- An empty journal keeps what is true of a journal.
use Rattle.std.specs.Prelude.{ℕ, ◌≡◌, ◌<◌, ◌≤◌, ◌^◌, List, [], replicate}
use Rattle.std.proofs.Common.{arith, ap}
use Rattle.std.proofs.lemmas.List.{length-replicate}
use Rattle.std.proofs.lemmas.List.Elements.{All-nil, All-replicate}
use Rattle.blk_base.specs.Limits.{IsGeometry}
use Rattle.blk_base.specs.declared.geometry.Geometry.{Geometry}
use Rattle.blk_base.specs.declared.point.Point.{Point}
use Rattle.blk_base.specs.declared.journal_entry.Entry.{Entry}
use Rattle.blk_base.specs.declared.journal_entry.CommittedEntry.{CommittedEntry}
use Rattle.recovery_journal.specs.Log.{Log, IsNamed, IsNeeded, opening, point_at}
use Rattle.recovery_journal.specs.Kept.{AreBelow, IsKept}

pub kept_opening : (geometry : Geometry) (start zones : ℕ) → IsGeometry geometry → (1 ≤ start) × (start < 2 ^ 55) → 0 < zones → IsKept (opening geometry start zones)
kept_opening geometry start zones sizes early some =
    let first : Point = record { 0 = point_at start 0 } in
    record {
      zones = omega (arith, length-replicate zones first);
      size = omega (arith, sizes.journal);
      first = early.0;
      number = omega (arith, early.1);
      number_filling = λ waits. absurd (omega (arith, waits));
      rising = omega arith;
      named = All-nil IsNamed;
      handed = omega arith;
      committed = (omega arith, omega arith);
      ring = omega (arith, sizes.journal);
      ring_filling = λ waits. absurd (omega (arith, waits));
      watermarks = All-replicate (λ (watermark : Point). watermark.0 ≤ point_at start 0) zones first (omega arith);
      unhanded = All-nil (λ (entry : CommittedEntry). AreBelow (opening geometry start zones) entry.point.0);
      needed = All-nil (λ (entry : CommittedEntry). IsNeeded (replicate zones first) entry.point);
    }

-- the fields of a new journal, from what made them
pub is_opening : (geometry : Geometry) (start zones size : ℕ) (filling : List Entry) (entries : List CommittedEntry) (first : Point) (watermarks : List Point)
    → size ≡ geometry.journal → filling ≡ [] → entries ≡ [] → first.0 ≡ point_at start 0 → watermarks ≡ replicate zones first
    → ◌≡◌ {A = Log} (record {
      nonce = geometry.nonce;
      size = size;
      sequence = start;
      filling = filling;
      entries = entries;
      handed = 0;
      committed = start;
      watermarks = watermarks;
    }) (opening geometry start zones)
is_opening geometry start zones size filling entries first watermarks same none no_entries at all =
    let point : first ≡ record { 0 = point_at start 0 } = ap (λ (p : ℕ). record { 0 = p }) at in
    rw (same, none, no_entries, all, point)
