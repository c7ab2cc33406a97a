-- What learning a record leaves of the records of a table.
use Rattle.std.specs.Prelude.{ℕ, ◌≡◌, ◌<◌, ◌≤◌, List, length, slice_set, HoldsAt, refl}
use Rattle.std.proofs.Common.{sym, ◌∙◌, ap, subst}
use Rattle.std.specs.List.{insert}
use Rattle.std.specs.List.Sorted.{IsPartitionPoint}
use Rattle.std.proofs.lemmas.Bool.{lt-ltb, le-ltb}
use Rattle.uds_chapters.specs.declared.entry.Record.{Record}
use Rattle.uds_chapters.specs.Names.{AreRising}
use Rattle.uds_chapters.specs.Finds.{IsUnder, IsOver}
use Rattle.uds_chapters.proofs.RecordLaws.{with_record-place, with_record-gap, location-place, location-gap, rising-with_record}
use Rattle.index_advice.specs.Kept.{Tabled, kept_with}

abbrev pub tabled : ℕ → List Record → Tabled
tabled room records = record { room = room; records = records }

kept_found : (room : ℕ) (records : List Record) (one : Record) (place : ℕ) → AreRising records → place < length records
    → HoldsAt (λ e. e.name ≡ one.name) records place → tabled room (slice_set records place one) ≡ kept_with one (tabled room records)
kept_found room records one place rising inside at =
    let found = location-place one.name records place one rising inside at in
    rw found (ap (tabled room) (with_record-place one records place rising inside at))

kept_new : (room : ℕ) (records : List Record) (one : Record) (place : ℕ) → place ≤ length records
    → IsPartitionPoint (IsUnder one.name) (IsOver one.name) records place → length records < room
    → tabled room (insert records place one) ≡ kept_with one (tabled room records)
kept_new room records one place inside gap few =
    let none = location-gap one.name records place gap in
    let test = lt-ltb (length records) room few in
    rw (none, test) (ap (tabled room) (with_record-gap one records place inside gap))

kept_none : (room : ℕ) (records : List Record) (one : Record) (place : ℕ) → IsPartitionPoint (IsUnder one.name) (IsOver one.name) records place
    → room ≤ length records → tabled room records ≡ kept_with one (tabled room records)
kept_none room records one place gap full =
    let none = location-gap one.name records place gap in
    let test = le-ltb (length records) room full in
    rw (none, test) refl

-- the same of a table that is seen so
pub found_in : (room : ℕ) (records slice : List Record) (one : Record) (place : ℕ) (table : Tabled) → tabled room records ≡ table → slice ≡ records
    → AreRising records → place < length slice → HoldsAt (λ e. e.name ≡ one.name) slice place
    → tabled room (slice_set records place one) ≡ kept_with one table
found_in room records slice one place table is same rising inside at =
    kept_found room records one place rising (subst (λ (rs : List Record). place < length rs) same inside)
    (subst (λ (rs : List Record). HoldsAt (λ (e : Record). e.name ≡ one.name) rs place) same at) ∙ ap (kept_with one) is

pub new_in : (room : ℕ) (records slice : List Record) (one : Record) (place : ℕ) (table : Tabled) → tabled room records ≡ table → slice ≡ records
    → place ≤ length slice → IsPartitionPoint (IsUnder one.name) (IsOver one.name) slice place → length records < room
    → tabled room (insert records place one) ≡ kept_with one table
new_in room records slice one place table is same inside gap few =
    kept_new room records one place (subst (λ (rs : List Record). place ≤ length rs) same inside)
    (subst (λ (rs : List Record). IsPartitionPoint (IsUnder one.name) (IsOver one.name) rs place) same gap) few ∙ ap (kept_with one) is

pub none_in : (room : ℕ) (records slice : List Record) (one : Record) (place : ℕ) (table : Tabled) → tabled room records ≡ table → slice ≡ records
    → IsPartitionPoint (IsUnder one.name) (IsOver one.name) slice place → room ≤ length records → table ≡ kept_with one table
none_in room records slice one place table is same gap full =
    sym is ∙ kept_none room records one place (subst (λ (rs : List Record). IsPartitionPoint (IsUnder one.name) (IsOver one.name) rs place) same gap) full
    ∙ ap (kept_with one) is

pub rising_new : (records slice : List Record) (one : Record) (place : ℕ) → slice ≡ records → place ≤ length slice
    → IsPartitionPoint (IsUnder one.name) (IsOver one.name) slice place → AreRising records → AreRising (insert records place one)
rising_new records slice one place same inside gap rising =
    let few = subst (λ (rs : List Record). place ≤ length rs) same inside in
    let parted = subst (λ (rs : List Record). IsPartitionPoint (IsUnder one.name) (IsOver one.name) rs place) same gap in
    subst AreRising (sym (with_record-gap one records place few parted)) (rising-with_record one records rising)
