-- The counters of a slab are those with which it was opened, with the updates that were taken.
use Rattle.std.specs.Prelude.{ℕ, ◌≡◌, ◌-◌, ◌/◌, ◌%◌, ◌<◌, List, [], ◌∷◌, length, slice_index}
use Rattle.std.proofs.Common.{sym, ◌∙◌, ap, subst, arith, inl, inr, refl, set, get_or-set_same, get_or-set_other}
use Rattle.std.proofs.lemmas.Bool.{cases_eq, cases_lt}
use Rattle.std.proofs.lemmas.List.{length-set, get_or_past}
use Rattle.blk_base.specs.Points.{half_of}
use Rattle.blk_base.specs.Regions.{slab_start_of}
use Rattle.blk_base.specs.declared.geometry.Geometry.{Geometry}
use Rattle.blk_base.specs.declared.place.Pbn.{Pbn}
use Rattle.blk_base.specs.declared.point.Half.{Half}
use Rattle.blk_base.specs.declared.point.Half.TheVariants.{Increment, Decrement}
use Rattle.reference_blocks.specs.Updates.{counted, counters_after}
use Rattle.slab_codec.specs.declared.forms.SlabEntry.{SlabEntry}
use Rattle.slab_counts.specs.Counts.{Counts, Takes, offset_of, unclaimed}
use Rattle.slab_tickets.specs.Tickets.{Desk}
use Rattle.slab_writes.specs.Operations as writes
use Rattle.zone_counts.specs.Operations as counts
use Rattle.zone_counts.specs.Zone.{Zone, ClaimsLowest, Serves, nowhere, index_of, slab_at, slab_of, slab_number}
use Rattle.zone_counts.specs.declared.forms.Asked.TheVariants as asked
use Rattle.slab_zone.specs.Whole.{WholeZone, IsWhole}
use Rattle.slab_zone.specs.Operations.{Operation, Counted, Taken, Written, LeadTo, HandsOutWith, TakesNone, calls_of, entry_in, updates_in}
use Rattle.slab_zone.proofs.SizeLaws.{HasSizes, pick, sizes_after, slabs_of, is_of, place_is, stands_inside, number_again, other_place, calls_whole}

abbrev counters_at : List Counts → ℕ → List ℕ
counters_at slabs k = (slab_at slabs k).counters

-- a slab whose counters stay
set_counters : (slabs : List Counts) (p : ℕ) (c : Counts) → c.counters ≡ counters_at slabs p → (k : ℕ) → counters_at (set slabs p c) k ≡ counters_at slabs k
set_counters slabs p c same k = elim (cases_eq k p) [
  | inl here ↦ elim (cases_lt p (length slabs)) [
    | inl inside ↦
        ap (λ (j : ℕ). counters_at (set slabs p c) j) here ∙ ap (λ (x : Counts). x.counters) (get_or-set_same slabs p c nowhere inside) ∙ same ∙ ap (λ (j : ℕ). counters_at slabs j) (sym here)
    | inr past ↦
        let behind = get_or_past (set slabs p c) k nowhere (omega (arith, here, past, length-set slabs p c)) in
        ap (λ (x : Counts). x.counters) (behind ∙ sym (get_or_past slabs k nowhere (omega (arith, here, past))))
  ]
  | inr other ↦ ap (λ (x : Counts). x.counters) (get_or-set_other slabs p k c nowhere other)
]

claims_counters : (old new : List Counts) (at : Pbn) → ClaimsLowest old new at → (k : ℕ) → counters_at new k ≡ counters_at old k
claims_counters old new at did k =
    ap (λ (cs : List Counts). counters_at cs k) did.after ∙ set_counters old did.place did.slab (ap (λ (x : Counts). x.counters) did.claims.now_claimed) k

serves_counters : (old : List Counts) (desk : Desk) (new : List Counts) (desk' : Desk) → Serves old desk new desk' → (k : ℕ) → counters_at new k ≡ counters_at old k
serves_counters old desk new desk' (inl (quiet, same, same')) k = ap (λ (cs : List Counts). counters_at cs k) same
serves_counters old desk new desk' (inr serves) k = claims_counters old new serves.block serves.claims k

-- a call that takes no update
quiet_counters : (call : counts.Operation) (old new : Zone) → TakesNone call → counts.Does call old new → (k : ℕ) → counters_at new.slabs k ≡ counters_at old.slabs k
quiet_counters (counts.Begins free step) old new none did k = ap (λ (z : Zone). counters_at z.slabs k) did.1.after
quiet_counters (counts.Asks' writer (asked.Block at)) old new none did k = claims_counters old.slabs new.slabs at did.1.claims k
quiet_counters (counts.Asks' writer (asked.Ticket ticket)) old new none did k = ap (λ (z : Zone). counters_at z.slabs k) did.1.same
quiet_counters (counts.Withdraws' ticket result) old new none did k = ap (λ (z : Zone). counters_at z.slabs k) did.same
quiet_counters (counts.Shares' at) old new none did k =
    ap (λ (z : Zone). counters_at z.slabs k) did.after ∙ set_counters old.slabs (index_of old at) did.slab (ap (λ (x : Counts). x.counters) did.shares.now_claimed) k
quiet_counters (counts.Extends at) old new none did k = ap (λ (z : Zone). counters_at z.slabs k) did.2 ∙ set_counters old.slabs (index_of old at) _ refl k
quiet_counters (counts.Drops at) old new none did k =
    serves_counters _ old.desk new.slabs new.desk did.1.serves k ∙ set_counters old.slabs (index_of old at) (unclaimed (slab_of old at) at) refl k
quiet_counters (counts.SpendsPage at) old new none did k = ap (λ (z : Zone). counters_at z.slabs k) did.1 ∙ set_counters old.slabs (index_of old at) _ refl k
quiet_counters (counts.Applies half at slab) old new none did k = absurd none
quiet_counters counts.Refused old new none did k = ap (λ (z : Zone). counters_at z.slabs k) did

-- an update that is taken
takes_counters : (half : Half) (old new : Counts) (at : Pbn) → Takes half old new at → new.counters ≡ set old.counters (offset_of old at) (counted half (slice_index old.counters (offset_of old at)))
takes_counters Increment old new at did = ap (λ (c : Counts). c.counters) did.2
takes_counters Decrement old new at did = ap (λ (c : Counts). c.counters) did.1

-- a block that is handed out is no update
written_updates : (call : writes.Operation) (calls : List writes.Operation) (counters : List ℕ) → HandsOutWith counters call → writes.updates_of (call ∷ calls) ≡ writes.updates_of calls
written_updates (writes.Taken entry) calls counters none = absurd none
written_updates (writes.JournalOut block) calls counters none = refl
written_updates (writes.ReferenceOut given bytes block) calls counters none = refl
written_updates (writes.JournalDurable sequence) calls counters none = refl
written_updates (writes.ReferenceDurable block) calls counters none = refl

module _ (g : Geometry) (zone zones : ℕ) (first : WholeZone) (has : HasSizes g zone zones first.counts) (is : IsWhole first) (n : ℕ) (below : n < g.slabs) (own : n % zones ≡ zone) where
  abbrev opened : List ℕ
  opened = counters_at first.counts.slabs (n / zones)

  abbrev Are : List ℕ → List writes.Operation → Type 0
  Are counters calls = counters ≡ counters_after opened (writes.updates_of calls)

  pub counters_are : (z : WholeZone) (calls : List Operation) → LeadTo first calls z → counters_at z.counts.slabs (n / zones) ≡ counters_after (counters_at first.counts.slabs (n / zones)) (updates_in g n calls)
  counters_are z [] same = ap (λ (x : WholeZone). counters_at x.counts.slabs (n / zones)) same
  counters_are z (Counted call ∷ calls) (before, lead, did) = quiet_counters call before.counts z.counts did.0 did.1 (n / zones) ∙ counters_are before calls lead
  counters_are z (Taken update slab ∷ calls) (before, lead, did) =
      let sizes = sizes_after g zone zones first before calls has lead in
      let whole = calls_whole first before calls is lead in
      let mine = is_of g zone zones before sizes whole update.at did.0 in
      let k = index_of before.counts update.at in
      let place : k ≡ slab_number g update.at / zones = place_is g zone zones before sizes whole update.at in
      let half = half_of update.point.0 in
      let now : counters_at z.counts.slabs (n / zones) ≡ counters_at (set before.counts.slabs k slab) (n / zones)
      = serves_counters (set before.counts.slabs k slab) before.counts.desk z.counts.slabs z.counts.desk did.2.changes.serves (n / zones) in
      pick (λ (cs : List writes.Operation). Are (counters_at z.counts.slabs (n / zones)) cs) (slab_number g update.at) n (writes.Taken (entry_in g update) ∷ calls_of g n calls) (calls_of g n calls)
      (λ same.
      let here : k ≡ n / zones = place ∙ ap (λ (m : ℕ). m / zones) same in
      let there = stands_inside g zone zones before.counts.slabs n (slabs_of g zone zones before sizes whole) below own in
      let one = (slabs_of g zone zones before sizes whole).each (n / zones) there in
      let old = slab_at before.counts.slabs (n / zones) in
      let took = subst (λ (j : ℕ). Takes half (slab_at before.counts.slabs j) slab update.at) here did.2.takes in
      let start : slab_start_of old.geometry old.slab ≡ slab_start_of g (slab_number g update.at)
      = ap (λ (h : Geometry). slab_start_of h old.slab) one.1 ∙ ap (λ (m : ℕ). slab_start_of g m) (one.0 ∙ number_again n zone zones own ∙ sym same) in
      let offset : offset_of old update.at ≡ (entry_in g update).offset = ap (λ (s : ℕ). update.at.0 - s) start in
      now ∙ ap (λ (j : ℕ). counters_at (set before.counts.slabs j slab) (n / zones)) here
      ∙ ap (λ (x : Counts). x.counters) (get_or-set_same before.counts.slabs (n / zones) slab nowhere there)
      ∙ takes_counters half old slab update.at took
      ∙ ap (λ (o : ℕ). set old.counters o (counted half (slice_index old.counters o))) offset
      ∙ ap (λ (cs : List ℕ). set cs (entry_in g update).offset (counted half (slice_index cs (entry_in g update).offset))) (counters_are before calls lead))
      (λ other.
      let apart = other_place (slab_number g update.at) n zone zones mine.own own other in
      now ∙ ap (λ (x : Counts). x.counters) (get_or-set_other before.counts.slabs k (n / zones) slab nowhere (λ same. apart (same ∙ place))) ∙ counters_are before calls lead)
  counters_are z (Written m call ∷ calls) (before, lead, did) =
      let still : counters_at z.counts.slabs (n / zones) ≡ counters_at before.counts.slabs (n / zones)
      = ap (λ (x : WholeZone). counters_at x.counts.slabs (n / zones)) did.after in
      let old = still ∙ counters_are before calls lead in
      pick (λ (cs : List writes.Operation). Are (counters_at z.counts.slabs (n / zones)) cs) m n (call ∷ calls_of g n calls) (calls_of g n calls)
      (λ same. old ∙ ap (λ (es : List SlabEntry). counters_after opened es) (sym (written_updates call (calls_of g n calls) _ did.counters)))
      (λ other. old)
