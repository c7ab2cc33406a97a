-- What is true of a journal stays true over each call, and what the calls say of it.
use Rattle.std.specs.Prelude.{ℕ, ◌≡◌, ◌+◌, ◌-◌, ◌*◌, ◌/◌, ◌<◌, ◌≤◌, ◌^◌, ◌⊎◌, Bool, true, false, List, [], ◌∷◌, ◌++◌, length, take, drop, max, nat_le, position, None, Some, All, Any, refl}
use Rattle.std.specs.List.{list_any}
use Rattle.std.proofs.Common.{arith, sym, subst, ap, ◌∙◌, inl, inr, get_or, length-append}
use Rattle.std.proofs.lemmas.Bool.{cases_lt, leb-true, le-leb}
use Rattle.std.proofs.lemmas.List.Folds.{Any-from_list_any, list_any_at}
use Rattle.std.proofs.lemmas.List.Quantifiers.{position-Some}
use Rattle.std.proofs.lemmas.List.{get_or_default, drop_more, drop-drop, drop-append-le, take-append-drop, length-take-le, get_or-take, get_or-drop, length-drop, length-set}
use Rattle.std.proofs.lemmas.List.Elements.{All-nil, All-cons, All-head, All-rest, All-drop, All-weaker, All-append, All-set, All-same}
use Rattle.plain_laws.proofs.FirstLaws.{find-nowhere, find-none}
use Rattle.blk_base.specs.Points.{raised}
use Rattle.blk_base.specs.declared.point.Point.{Point}
use Rattle.blk_base.specs.declared.journal_entry.Entry.{Entry}
use Rattle.blk_base.specs.declared.journal_entry.CommittedEntry.{CommittedEntry}
use Rattle.recovery_journal.specs.Log.{Log, IsNamed, point_at, first_sequence, head_of, placed, unhanded, IsNeeded, IsDurable, IsHead, HandsOut, NoneCommitted, IsBehind, Advances}
use Rattle.journal_codec.specs.Grammar.{HoldsEntry, HoldsBlock}
use Rattle.recovery_journal.specs.Kept.{rank, AreRising, AreBelow, IsKept}
use Rattle.recovery_journal.proofs.RisingLaws.{length-AreRising, AreRising-from, AreRising-append, AreRising-drop, AreRising-placed, points_above, points_from_first, few_entries, first_reached, first_rises}

-- adding an entry

pub kept_added : (log : Log) (e : Entry) → IsKept log → log.sequence < 2 ^ 55 → log.sequence + 2 ≤ head_of log + log.size
    → IsKept (record log { filling = log.filling ++ e ∷ [] })
kept_added log e kept number room =
    record {
      zones = kept.zones;
      size = kept.size;
      first = kept.first;
      number = kept.number;
      number_filling = λ some. number;
      rising = kept.rising;
      named = kept.named;
      handed = kept.handed;
      committed = kept.committed;
      ring = kept.ring;
      ring_filling = λ some. room;
      watermarks = kept.watermarks;
      unhanded = kept.unhanded;
      needed = kept.needed;
    }

-- the head is the least sequence that some zone needs

pub head_below : (log : Log) → IsKept log → head_of log ≤ first_sequence log.entries log.sequence
head_below log kept = omega arith

pub head_reached : (log : Log) → IsKept log → head_of log ≤ log.sequence
head_reached log kept = omega (arith, head_below log kept, first_reached log.entries log.sequence kept.rising)

first_least : (es : List CommittedEntry) (sequence : ℕ) → AreRising 0 es (sequence * 192) → All (λ e. point_at (first_sequence es sequence) 0 ≤ e.point.0) es
first_least [] sequence rising = All-nil (λ (e : CommittedEntry). point_at sequence 0 ≤ e.point.0)
first_least (e ∷ es) sequence rising =
    let P : CommittedEntry → Type 0 = λ f. point_at (e.point.0 / 512) 0 ≤ f.point.0 in
    points_from_first 0 (e ∷ es) (sequence * 192) (point_at (e.point.0 / 512) 0) rising (All-cons P e [] (omega arith) (All-nil P))

needed_first : (watermarks : List Point) (es : List CommittedEntry) (sequence : ℕ) → All (λ e. IsNeeded watermarks e.point) es
    → (first_sequence es sequence ≡ sequence) ⊎ Any (λ e. IsNeeded watermarks e.point × (e.point.0 / 512 ≡ first_sequence es sequence)) es
needed_first watermarks [] sequence needed = inl refl
needed_first watermarks (e ∷ es) sequence needed = inr (0, e, omega arith, refl, (All-head (λ (f : CommittedEntry). IsNeeded watermarks f.point) e es needed, refl))

pub is_head : (log : Log) → IsKept log → IsHead log (head_of log)
is_head log kept =
    record {
      reached = head_reached log kept;
      least = All-weaker (λ (e : CommittedEntry). point_at (first_sequence log.entries log.sequence) 0 ≤ e.point.0)
          (λ (e : CommittedEntry). IsNeeded log.watermarks e.point → point_at (head_of log) 0 ≤ e.point.0)
          (λ e above needed. omega (arith, head_below log kept, above)) log.entries (first_least log.entries log.sequence kept.rising);
      needed = needed_first log.watermarks log.entries log.sequence kept.needed;
    }

-- handing out

pub rest_is : (es : List CommittedEntry) (handed : ℕ) (e : CommittedEntry) → handed < length es → e ≡ get_or es handed e → drop handed es ≡ e ∷ drop (handed + 1) es
rest_is es handed e inside is = drop_more es handed e inside ∙ ap (λ (f : CommittedEntry). f ∷ drop (handed + 1) es) (sym is)

pub hands_out : (log : Log) (e : CommittedEntry) → IsKept log → log.handed < length log.entries → e ≡ get_or log.entries log.handed e
    → e.point.0 / 512 < log.committed → HandsOut log (record log { handed = log.handed + 1 }) e
hands_out log e kept inside is below =
    let next = rest_is log.entries log.handed e inside is in
    let rising = subst (λ (es : List CommittedEntry). AreRising 0 es (log.sequence * 192)) next (AreRising-drop log.handed 0 log.entries (log.sequence * 192) kept.rising) in
    record {
      next = next;
      committed = omega arith;
      handed = refl;
      order = points_above (rank e.point.0 + 1) (drop (log.handed + 1) log.entries) (log.sequence * 192) e.point.0 rising.0 (omega arith) rising.2;
    }

pub none_committed : (log : Log) (e : CommittedEntry) → IsKept log → log.handed < length log.entries → e ≡ get_or log.entries log.handed e
    → log.committed ≤ e.point.0 / 512 → NoneCommitted log
none_committed log e kept inside is above =
    let P : CommittedEntry → Type 0 = λ f. point_at log.committed 0 ≤ f.point.0 in
    let next = rest_is log.entries log.handed e inside is in
    points_from_first 0 (drop log.handed log.entries) (log.sequence * 192) (point_at log.committed 0) (AreRising-drop log.handed 0 log.entries (log.sequence * 192) kept.rising)
    (subst (λ (es : List CommittedEntry). All P (take 1 es)) (sym next) (All-cons P e [] (omega arith) (All-nil P)))

-- it is of a block that was sealed
pub none_left : (log : Log) (e : CommittedEntry) → IsKept log → log.handed < length log.entries → e ≡ get_or log.entries log.handed e → log.committed ≤ e.point.0 / 512 → log.committed ≡ log.sequence → ⊥
none_left log e kept inside is above all =
    let next = rest_is log.entries log.handed e inside is in
    let rising = subst (λ (es : List CommittedEntry). AreRising 0 es (log.sequence * 192)) next (AreRising-drop log.handed 0 log.entries (log.sequence * 192) kept.rising) in
    let below = length-AreRising (rank e.point.0 + 1) (drop (log.handed + 1) log.entries) (log.sequence * 192) rising.2 in
    omega (arith, below, rising.0, above, all)

pub kept_handed : (log : Log) (e : CommittedEntry) → IsKept log → log.handed < length log.entries → e ≡ get_or log.entries log.handed e
    → IsKept (record log { handed = log.handed + 1 })
kept_handed log e kept inside is =
    record {
      zones = kept.zones;
      size = kept.size;
      first = kept.first;
      number = kept.number;
      number_filling = kept.number_filling;
      rising = kept.rising;
      named = kept.named;
      handed = omega arith;
      committed = kept.committed;
      ring = kept.ring;
      ring_filling = kept.ring_filling;
      watermarks = kept.watermarks;
      unhanded = All-rest (λ (f : CommittedEntry). AreBelow log f.point.0) e (drop (log.handed + 1) log.entries) (drop log.handed log.entries)
          (rest_is log.entries log.handed e inside is) kept.unhanded;
      needed = kept.needed;
    }

-- every entry below the first that wasn't handed out was

pub behind_first : (log : Log) (e : CommittedEntry) → IsKept log → log.handed < length log.entries → e ≡ get_or log.entries log.handed e → IsBehind log e.point
behind_first log e kept inside is =
    let P : CommittedEntry → Type 0 = λ f. e.point.0 ≤ f.point.0 in
    let next = rest_is log.entries log.handed e inside is in
    let rising = AreRising-drop log.handed 0 log.entries (log.sequence * 192) kept.rising in
    let first = subst (λ (es : List CommittedEntry). AreRising 0 es (log.sequence * 192)) next rising in
    let above = length-AreRising (rank e.point.0 + 1) (drop (log.handed + 1) log.entries) (log.sequence * 192) first.2 in
    record {
      sealed = points_from_first 0 (drop log.handed log.entries) (log.sequence * 192) e.point.0 rising
          (subst (λ (es : List CommittedEntry). All P (take 1 es)) (sym next) (All-cons P e [] (omega arith) (All-nil P)));
      filling = omega (arith, first.0);
    }

-- sealing

pub room_to_seal : (log : Log) → IsKept log → 0 < length log.filling → length log.entries + 384 ≤ log.size * 192
room_to_seal log kept waits = omega (arith, few_entries log.entries log.sequence kept.rising, head_below log kept, kept.ring_filling waits)

pub first-sealed : (es : List CommittedEntry) (sequence : ℕ) (filling : List Entry) → 0 < length filling
    → first_sequence (es ++ placed sequence 0 filling) (sequence + 1) ≡ first_sequence es sequence
first-sealed (e ∷ es) sequence filling waits = refl
first-sealed [] sequence [] waits = absurd (omega arith)
first-sealed [] sequence (f ∷ fs) waits = omega arith

placed_from : (sequence number p : ℕ) (filling : List Entry) → p ≤ point_at sequence number → All (λ e. p ≤ e.point.0) (placed sequence number filling)
placed_from sequence number p [] below = All-nil (λ (e : CommittedEntry). p ≤ e.point.0)
placed_from sequence number p (f ∷ fs) below =
    All-cons (λ (e : CommittedEntry). p ≤ e.point.0) (record { entry = f; point = record { 0 = point_at sequence number } }) (placed sequence (number + 1) fs) below
    (placed_from sequence (number + 1) p fs (omega arith))

placed_named : (sequence number : ℕ) (filling : List Entry) → 1 ≤ sequence → All IsNamed (placed sequence number filling)
placed_named sequence number [] some = All-nil IsNamed
placed_named sequence number (f ∷ fs) some =
    All-cons IsNamed (record { entry = f; point = record { 0 = point_at sequence number } }) (placed sequence (number + 1) fs)
    (omega arith) (placed_named sequence (number + 1) fs some)

needed_by_first : (watermarks : List Point) (point : Point) → 0 < length watermarks → All (λ watermark. watermark.0 ≤ point.0) watermarks → IsNeeded watermarks point
needed_by_first [] point some below = absurd (omega arith)
needed_by_first (watermark ∷ watermarks) point some below = (0, watermark, omega arith, refl, below 0 watermark (omega arith))

pub kept_sealed : (log : Log) → IsKept log → 0 < length log.filling → length log.filling ≤ 192 → log.sequence ≤ log.committed
    → IsKept (record log { sequence = log.sequence + 1; filling = []; entries = log.entries ++ placed log.sequence 0 log.filling })
kept_sealed log kept waits few written =
    let new = placed log.sequence 0 log.filling in
    let head = first-sealed log.entries log.sequence log.filling waits in
    let from = placed_from log.sequence 0 (point_at log.sequence 0) log.filling (omega arith) in
    let behind : All (λ e. AreBelow log e.point.0) new
    = All-weaker (λ (e : CommittedEntry). point_at log.sequence 0 ≤ e.point.0) (λ (e : CommittedEntry). AreBelow log e.point.0)
    (λ e above. All-weaker (λ (watermark : Point). watermark.0 ≤ point_at log.sequence 0) (λ (watermark : Point). watermark.0 ≤ e.point.0) (λ watermark below. omega (arith, below, above)) log.watermarks kept.watermarks) new from in
    record {
      zones = kept.zones;
      size = kept.size;
      first = kept.first;
      number = omega (arith, kept.number_filling waits);
      number_filling = λ some. absurd (omega (arith, some));
      rising = AreRising-append 0 log.entries (log.sequence * 192) new ((log.sequence + 1) * 192) kept.rising
          (AreRising-from (log.sequence * 192 + 0) (log.sequence * 192) new ((log.sequence + 1) * 192) (omega arith) (AreRising-placed log.sequence 0 log.filling (omega arith)));
      named = All-append IsNamed log.entries new kept.named (placed_named log.sequence 0 log.filling (omega (arith, kept.first, kept.committed.0)));
      handed = omega (arith, length-append log.entries new, kept.handed);
      committed = (omega (arith, kept.committed.0), omega arith);
      ring = omega (arith, head, kept.ring_filling waits);
      ring_filling = λ some. absurd (omega (arith, some));
      watermarks = All-weaker (λ (watermark : Point). watermark.0 ≤ point_at log.sequence 0) (λ (watermark : Point). watermark.0 ≤ point_at (log.sequence + 1) 0) (λ watermark below. omega (arith, below)) log.watermarks kept.watermarks;
      unhanded = All-same (λ (e : CommittedEntry). AreBelow log e.point.0) (drop log.handed (log.entries ++ new)) (drop log.handed log.entries ++ new)
          (drop-append-le log.handed log.entries new kept.handed)
          (All-append (λ (e : CommittedEntry). AreBelow log e.point.0) (drop log.handed log.entries) new kept.unhanded behind);
      needed = All-append (λ (e : CommittedEntry). IsNeeded log.watermarks e.point) log.entries new kept.needed
          (All-weaker (λ (e : CommittedEntry). AreBelow log e.point.0) (λ (e : CommittedEntry). IsNeeded log.watermarks e.point)
          (λ e below. needed_by_first log.watermarks e.point kept.zones below) new behind);
    }

-- watermarks

watermarks_below : (watermarks : List Point) (zone p : ℕ) (point : Point) → zone < length watermarks → point.0 ≤ p → All (λ watermark. watermark.0 ≤ p) watermarks → All (λ watermark. watermark.0 ≤ p) (raised watermarks zone point)
watermarks_below watermarks zone p point inside below all =
    All-set (λ (watermark : Point). watermark.0 ≤ p) watermarks zone (record { 0 = max (get_or watermarks zone point).0 point.0 }) (omega (arith, all zone point inside)) all

-- what `watermark` finds: how many entries at the front are durable
pub record Found (log : Log) (zone : ℕ) (point : Point) (count : ℕ) : Type 0 where
  pub inside : zone < length log.watermarks
  pub behind : IsBehind log point
  pub few : count ≤ length log.entries
  pub durable : All (λ e. IsDurable (raised log.watermarks zone point) e.point) (take count log.entries)
  pub next : All (λ e. IsNeeded (raised log.watermarks zone point) e.point) (take 1 (drop count log.entries))

abbrev pub advanced : Log → ℕ → Point → ℕ → Log
advanced log zone point count = record log { entries = drop count log.entries; handed = log.handed - count; watermarks = raised log.watermarks zone point }

an_entry : (es : List CommittedEntry) → 0 < length es → CommittedEntry
an_entry [] some = absurd (omega arith)
an_entry (e ∷ es) some = e

needed_from_first : (watermarks : List Point) (es : List CommittedEntry) (high : ℕ) → AreRising 0 es high → All (λ e. IsNeeded watermarks e.point) (take 1 es) → All (λ e. IsNeeded watermarks e.point) es
needed_from_first watermarks [] high rising first = All-nil (λ (e : CommittedEntry). IsNeeded watermarks e.point)
needed_from_first watermarks (e ∷ es) high rising first =
    let needs = first 0 e (omega arith) in
    let P : CommittedEntry → Type 0 = λ f. needs.1.0 ≤ f.point.0 in
    All-weaker P (λ (f : CommittedEntry). IsNeeded watermarks f.point) (λ f above. (needs.0, needs.1, needs.2, needs.3, above)) (e ∷ es)
    (points_from_first 0 (e ∷ es) high needs.1.0 rising (All-cons P e [] needs.4 (All-nil P)))

module _ (log : Log) (zone : ℕ) (point : Point) (count : ℕ) (kept : IsKept log) (found : Found log zone point count) where
  unhanded_watermarks : All (λ e. All (λ watermark. watermark.0 ≤ e.point.0) (raised log.watermarks zone point)) (unhanded log)
  unhanded_watermarks = λ k d inside. watermarks_below log.watermarks zone (get_or (unhanded log) k d).point.0 point found.inside (found.behind.sealed k d inside) (kept.unhanded k d inside)

  some_watermarks : 0 < length (raised log.watermarks zone point)
  some_watermarks = omega (arith, length-set log.watermarks zone (record { 0 = max (get_or log.watermarks zone point).0 point.0 }), kept.zones)

  pub only_handed : count ≤ log.handed
  only_handed =
      elim (cases_lt log.handed count) [
        | inr behind ↦ behind
        | inl before ↦
            let few = found.few in
            let d : CommittedEntry = an_entry log.entries (omega arith) in
            let taken = get_or-take count log.entries log.handed d before in
            let dropped = get_or-drop log.handed log.entries 0 d in
            let size = length-drop log.handed log.entries in
            let inside : log.handed < length (take count log.entries) = omega (arith, length-take-le count log.entries few) in
            let low = found.durable log.handed d inside 0 point some_watermarks in
            let high = unhanded_watermarks 0 d (omega arith) 0 point some_watermarks in
            let place : log.handed + 0 ≡ log.handed = omega arith in
            absurd (omega (arith, low, high, ap (λ (e : CommittedEntry). e.point.0) taken, ap (λ (e : CommittedEntry). e.point.0) dropped, ap (λ (n : ℕ). (get_or log.entries n d).point.0) place))
      ]

  left_needed : All (λ e. IsNeeded (raised log.watermarks zone point) e.point) (drop count log.entries)
  left_needed =
      needed_from_first (raised log.watermarks zone point) (drop count log.entries) (log.sequence * 192) (AreRising-drop count 0 log.entries (log.sequence * 192) kept.rising) found.next

  pub head_rises : head_of log ≤ head_of (advanced log zone point count)
  head_rises = first_rises 0 count log.entries log.sequence kept.rising

  pub kept_advanced : IsKept (advanced log zone point count)
  kept_advanced =
      let handed = only_handed in
      let rises = head_rises in
      let place : count + (log.handed - count) ≡ log.handed = omega arith in
      record {
        zones = some_watermarks;
        size = kept.size;
        first = kept.first;
        number = kept.number;
        number_filling = kept.number_filling;
        named = All-drop IsNamed count log.entries kept.named;
        rising = AreRising-drop count 0 log.entries (log.sequence * 192) kept.rising;
        handed = omega (arith, length-drop count log.entries, kept.handed);
        committed = kept.committed;
        ring = omega (arith, kept.ring);
        ring_filling = λ some. omega (arith, kept.ring_filling some);
        watermarks = watermarks_below log.watermarks zone (point_at log.sequence 0) point found.inside found.behind.filling kept.watermarks;
        unhanded = All-same (λ (e : CommittedEntry). All (λ (watermark : Point). watermark.0 ≤ e.point.0) (raised log.watermarks zone point))
            (drop (log.handed - count) (drop count log.entries)) (drop log.handed log.entries)
            (drop-drop (log.handed - count) count log.entries ∙ ap (λ (n : ℕ). drop n log.entries) place) unhanded_watermarks;
        needed = left_needed;
      }

  pub advances : Advances log (advanced log zone point count) zone point
  advances =
      let handed = only_handed in
      record {
        durable = take count log.entries;
        watermarks = refl;
        parts = sym (take-append-drop count log.entries);
        done = found.durable;
        needed = left_needed;
        handed = omega (arith, length-take-le count log.entries found.few);
        rest = refl;
      }

-- the same, as the code comes to it

pub kept_sealed_as : (log : Log) (left seen : List Entry) (es : List CommittedEntry) → IsKept log → 0 < length log.filling → length log.filling ≤ 192 → log.sequence ≤ log.committed
    → left ≡ [] → seen ≡ log.filling → es ≡ log.entries ++ placed log.sequence 0 seen
    → IsKept (record log { sequence = log.sequence + 1; filling = left; entries = es })
kept_sealed_as log left seen es kept waits few written empty same added = rw (empty, added, same) (kept_sealed log kept waits few written)

pub found_as : (log now : Log) (zone : ℕ) (point : Point) (count : ℕ) (seen : List Point) → log ≡ now → seen ≡ raised log.watermarks zone point
    → zone < length now.watermarks → IsBehind now point → count ≤ length log.entries
    → All (λ e. IsDurable seen e.point) (take count log.entries) → All (λ e. IsNeeded seen e.point) (take 1 (drop count log.entries)) → Found log zone point count
found_as log now zone point count seen is risen inside behind few durable next =
    record {
      inside = subst (λ (l : Log). zone < length l.watermarks) (sym is) inside;
      behind = subst (λ (l : Log). IsBehind l point) (sym is) behind;
      few = few;
      durable = subst (λ (ms : List Point). All (λ e. IsDurable ms e.point) (take count log.entries)) risen durable;
      next = subst (λ (ms : List Point). All (λ e. IsNeeded ms e.point) (take 1 (drop count log.entries))) risen next;
    }

pub advanced_as : (log : Log) (zone : ℕ) (point : Point) (count : ℕ) (watermarks : List Point) (es : List CommittedEntry) → watermarks ≡ raised log.watermarks zone point → es ≡ drop count log.entries
    → record log { entries = es; handed = log.handed - count; watermarks = watermarks } ≡ advanced log zone point count
advanced_as log zone point count watermarks es risen left = rw (risen, left)

-- the entries before the first that some zone needs, as code finds it

abbrev pub needs : List Point → CommittedEntry → Bool
needs watermarks e = list_any (λ watermark. nat_le watermark.0 e.point.0) watermarks

needed_by : (watermarks : List Point) (e : CommittedEntry) → needs watermarks e ≡ true → IsNeeded watermarks e.point
needed_by watermarks e passes =
    let one = Any-from_list_any (λ (watermark : Point). nat_le watermark.0 e.point.0) watermarks passes in
    (one.0, one.1, one.2, one.3, leb-true one.1.0 e.point.0 one.4)

durable_by : (watermarks : List Point) (e : CommittedEntry) → needs watermarks e ≡ false → IsDurable watermarks e.point
durable_by watermarks e fails = λ k d inside.
    elim (cases_lt e.point.0 (get_or watermarks k d).0) [
      | inl below ↦ below
      | inr reached ↦
          let passes = list_any_at (λ (watermark : Point). nat_le watermark.0 e.point.0) watermarks k d inside (le-leb (get_or watermarks k d).0 e.point.0 reached) in
          absurd (cc (passes, fails))
    ]

pub all_durable : (watermarks : List Point) (es : List CommittedEntry) → position (needs watermarks) es ≡ None → All (λ e. IsDurable watermarks e.point) es
all_durable watermarks es none =
    All-weaker (λ e. needs watermarks e ≡ false) (λ (e : CommittedEntry). IsDurable watermarks e.point) (λ e fails. durable_by watermarks e fails) es
    (find-none (needs watermarks) es (find-nowhere (needs watermarks) es none))

pub needed_next : (watermarks : List Point) (es : List CommittedEntry) (first : ℕ) → position (needs watermarks) es ≡ Some first → All (λ e. IsNeeded watermarks e.point) (take 1 (drop first es))
needed_next watermarks es first found = λ k d inside.
    let at = position-Some (needs watermarks) es first d found in
    let e = get_or es first d in
    let next = rest_is es first e at.0 (get_or_default es first d e at.0) in
    let P : CommittedEntry → Type 0 = λ f. IsNeeded watermarks f.point in
    subst (λ (xs : List CommittedEntry). All P (take 1 xs)) (sym next) (All-cons P e [] (needed_by watermarks e at.1) (All-nil P)) k d inside

-- the block that is sealed is one that the format can hold
pub block_held : (log : Log) (head : ℕ) (entries : List Entry) → IsKept log → 0 < length log.filling → length log.filling ≤ 192 → head ≡ head_of log → entries ≡ log.filling
    → All HoldsEntry log.filling → HoldsBlock log.sequence head entries
block_held log head entries kept waits few head_is same held =
    rw same (record {
      named = (omega (arith, kept.first, kept.committed.0), kept.number_filling waits);
      head_below = omega (arith, head_is, head_reached log kept);
      few = few;
      each = held;
    })
