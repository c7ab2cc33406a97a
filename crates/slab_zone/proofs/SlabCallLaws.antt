-- The calls of a zone as calls on what is to be written of one of its slabs.
use Rattle.std.specs.Prelude.{ℕ, ◌≡◌, ◌≢◌, ◌-◌, ◌/◌, ◌%◌, ◌<◌, List, [], ◌∷◌, ◌++◌, length}
use Rattle.std.proofs.Common.{sym, ◌∙◌, ap, subst, arith, set, get_or-set_same, get_or-set_other}
use Rattle.blk_base.specs.Regions.{slab_start_of}
use Rattle.blk_base.specs.declared.geometry.Geometry.{Geometry}
use Rattle.blk_base.specs.declared.journal_entry.Update.{Update}
use Rattle.reference_blocks.specs.References.{updated}
use Rattle.slab_codec.specs.declared.forms.SlabEntry.{SlabEntry}
use Rattle.slab_journal.specs.Slab.{entry_of}
use Rattle.slab_writes.specs.Operations as writes
use Rattle.slab_writes.specs.Writes.{Writes, taken}
use Rattle.zone_counts.specs.Zone.{IsOf, index_of, slab_number}
use Rattle.zone_counts.proofs.PlaceLaws.{number_is}
use Rattle.slab_zone.specs.Whole.{WholeZone, IsWhole, AreOfSlab, nothing, writes_at, writes_of}
use Rattle.slab_zone.specs.Operations.{Operation, Counted, Taken, Written, LeadTo, calls_of, entry_in}
use Rattle.slab_zone.proofs.SizeLaws.{HasSizes, pick, sizes_after, slabs_of, writes_are, is_of, place_is, stands_inside, number_again, other_place, calls_whole}

-- an update is taken by the slab with this number
entry_is : (g : Geometry) (n : ℕ) (w : Writes) (update : Update) → AreOfSlab g n w → slab_number g update.at ≡ n → entry_of w.journal update ≡ entry_in g update
entry_is g n w update are same =
    let start : slab_start_of w.journal.geometry w.journal.slab ≡ slab_start_of g (slab_number g update.at)
    = ap (λ (h : Geometry). slab_start_of h w.journal.slab) are.journal ∙ ap (λ (m : ℕ). slab_start_of g m) (are.slab ∙ sym same) in
    ap (λ (s : ℕ). let entry : SlabEntry = record { point = update.point; offset = update.at.0 - s } in entry) start

pub offset_below : (g : Geometry) (zone zones : ℕ) (update : Update) → IsOf g zone zones update.at → (entry_in g update).offset < g.slab_blocks
offset_below g zone zones update own =
    let b = own.data_block in
    let start = ap (λ (m : ℕ). slab_start_of g m) (number_is g b.slab b.offset update.at b.inside.1 b.stands) in
    omega (arith, start, b.stands, b.inside.1)

does_take : (g : Geometry) (zone zones n : ℕ) (w : Writes) (update : Update) → AreOfSlab g n w → slab_number g update.at ≡ n → IsOf g zone zones update.at → w.journal.last.0 < update.point.0
    → writes.Does (writes.Taken (entry_in g update)) w (taken w update)
does_take g zone zones n w update are same own rises =
    let entry = entry_is g n w update are same in (
      rises,
      omega (arith, offset_below g zone zones update own, ap (λ (h : Geometry). h.slab_blocks) are.blocks),
      ap (λ (e : SlabEntry).
          let made : Writes
          = record { journal = record w.journal { filling = w.journal.filling ++ e ∷ []; last = update.point }; blocks = updated w.blocks e.offset update.point } in made) entry,
    )

module _ (g : Geometry) (zone zones : ℕ) (first : WholeZone) (has : HasSizes g zone zones first.counts) (is : IsWhole first) (n : ℕ) (below : n < g.slabs) (own : n % zones ≡ zone) where
  abbrev opened : Writes
  opened = writes_at first.writes (n / zones)

  abbrev Leads : Writes → List writes.Operation → Type 0
  Leads w calls = writes.LeadTo opened calls w

  pub of_this : (z : WholeZone) (calls : List Operation) → LeadTo first calls z → AreOfSlab g n (writes_at z.writes (n / zones))
  of_this z calls lead =
      let sizes = sizes_after g zone zones first z calls has lead in
      let whole = calls_whole first z calls is lead in
      subst (λ (m : ℕ). AreOfSlab g m (writes_at z.writes (n / zones))) (number_again n zone zones own)
      ((writes_are g zone zones z sizes whole).each (n / zones) (stands_inside g zone zones z.counts.slabs n (slabs_of g zone zones z sizes whole) below own))

  pub stands : (z : WholeZone) (calls : List Operation) → LeadTo first calls z → n / zones < length z.writes
  stands z calls lead =
      let sizes = sizes_after g zone zones first z calls has lead in
      let whole = calls_whole first z calls is lead in
      omega (arith, stands_inside g zone zones z.counts.slabs n (slabs_of g zone zones z sizes whole) below own, whole.writes.many)

  -- a change of this slab, and of another one
  set_here : (writes : List Writes) (k : ℕ) (w : Writes) → k ≡ n / zones → n / zones < length writes → writes_at (set writes k w) (n / zones) ≡ w
  set_here writes k w same inside = ap (λ (j : ℕ). writes_at (set writes j w) (n / zones)) same ∙ get_or-set_same writes (n / zones) w nothing inside

  set_there : (writes : List Writes) (k : ℕ) (w : Writes) → n / zones ≢ k → writes_at (set writes k w) (n / zones) ≡ writes_at writes (n / zones)
  set_there writes k w other = get_or-set_other writes k (n / zones) w nothing other

  pub slab_lead : (z : WholeZone) (calls : List Operation) → LeadTo first calls z → writes.LeadTo (writes_at first.writes (n / zones)) (calls_of g n calls) (writes_at z.writes (n / zones))
  slab_lead z [] same = ap (λ (x : WholeZone). writes_at x.writes (n / zones)) same
  slab_lead z (Counted call ∷ calls) (before, lead, did) =
      subst (λ (ws : List Writes). Leads (writes_at ws (n / zones)) (calls_of g n calls)) (sym did.2) (slab_lead before calls lead)
  slab_lead z (Taken update slab ∷ calls) (before, lead, did) =
      let sizes = sizes_after g zone zones first before calls has lead in
      let whole = calls_whole first before calls is lead in
      let mine = is_of g zone zones before sizes whole update.at did.0 in
      let k = index_of before.counts update.at in
      let place : k ≡ slab_number g update.at / zones = place_is g zone zones before sizes whole update.at in
      let w = writes_of before update.at in
      let now : writes_at z.writes (n / zones) ≡ writes_at (set before.writes k (taken w update)) (n / zones)
      = ap (λ (ws : List Writes). writes_at ws (n / zones)) did.2.writes in
      pick (λ (cs : List writes.Operation). Leads (writes_at z.writes (n / zones)) cs) (slab_number g update.at) n (writes.Taken (entry_in g update) ∷ calls_of g n calls) (calls_of g n calls)
      (λ same.
      let here : k ≡ n / zones = place ∙ ap (λ (m : ℕ). m / zones) same in
      let read : w ≡ writes_at before.writes (n / zones) = ap (λ (j : ℕ). writes_at before.writes j) here in
      let made : writes_at z.writes (n / zones) ≡ taken (writes_at before.writes (n / zones)) update
      = now ∙ set_here before.writes k (taken w update) here (stands before calls lead) ∙ ap (λ (x : Writes). taken x update) read in (
        writes_at before.writes (n / zones),
        slab_lead before calls lead,
        subst (λ (x : Writes). writes.Does (writes.Taken (entry_in g update)) (writes_at before.writes (n / zones)) x) (sym made)
            (does_take g zone zones n (writes_at before.writes (n / zones)) update (of_this before calls lead) same mine (subst (λ (x : Writes). x.journal.last.0 < update.point.0) read did.1)),
      ))
      (λ other.
      let apart = other_place (slab_number g update.at) n zone zones mine.own own other in
      let still : writes_at z.writes (n / zones) ≡ writes_at before.writes (n / zones)
      = now ∙ set_there before.writes k (taken w update) (λ same. apart (same ∙ place)) in
      subst (λ (x : Writes). Leads x (calls_of g n calls)) (sym still) (slab_lead before calls lead))
  slab_lead z (Written m call ∷ calls) (before, lead, did) =
      let sizes = sizes_after g zone zones first before calls has lead in
      let of_m : m % zones ≡ zone = ap (λ (p : ℕ). m % p) (sym sizes.zones) ∙ did.own ∙ sizes.zone in
      let k = m / before.counts.zones in
      let place : k ≡ m / zones = ap (λ (p : ℕ). m / p) sizes.zones in
      let now : writes_at z.writes (n / zones) ≡ writes_at (set before.writes k did.slab) (n / zones)
      = ap (λ (x : WholeZone). writes_at x.writes (n / zones)) did.after in
      pick (λ (cs : List writes.Operation). Leads (writes_at z.writes (n / zones)) cs) m n (call ∷ calls_of g n calls) (calls_of g n calls)
      (λ same.
      let here : k ≡ n / zones = place ∙ ap (λ (p : ℕ). p / zones) same in (
        writes_at before.writes (n / zones),
        slab_lead before calls lead,
        subst (λ (x : Writes). writes.Does call (writes_at before.writes (n / zones)) x) (sym (now ∙ set_here before.writes k did.slab here (stands before calls lead)))
            (subst (λ (j : ℕ). writes.Does call (writes_at before.writes j) did.slab) here did.does),
      ))
      (λ other.
      let apart = other_place m n zone zones of_m own other in
      let still : writes_at z.writes (n / zones) ≡ writes_at before.writes (n / zones)
      = now ∙ set_there before.writes k did.slab (λ same. apart (same ∙ place)) in
      subst (λ (x : Writes). Leads x (calls_of g n calls)) (sym still) (slab_lead before calls lead))
