-- What the commit points of sectors say of the updates.
use Rattle.std.specs.Prelude.{ℕ, zero, suc, ◌≡◌, ◌<◌, ◌≤◌, Bool, true, cond, List, [], ◌∷◌, length, filter, nat_le}
use Rattle.std.proofs.Common.{sym, ◌∙◌, ap, subst, arith, refl, inl, inr, get_or, set, get_or-set_same, get_or-set_other}
use Rattle.std.proofs.lemmas.Bool.{eq-eqb, le-leb}
use Rattle.std.proofs.lemmas.Bool.Decides.{eqb_tells}
use Rattle.std.proofs.lemmas.List.{length-set}
use Rattle.blk_base.specs.Counters.{sectors_per_slab, sector_of_offset}
use Rattle.blk_base.specs.declared.geometry.Geometry.{Geometry}
use Rattle.blk_base.specs.declared.point.Point.{Point}
use Rattle.slab_codec.specs.Reference.{reference_bytes}
use Rattle.slab_codec.specs.declared.forms.SlabEntry.{SlabEntry}
use Rattle.reference_blocks.specs.References.{References, HandsOutBlock, opening, updated, point_at, sectors_of}
use Rattle.reference_blocks.specs.Updates.{Operation, Updated, HandedOut, Written, LeadTo, AreRising, updates_of, counters_after, newest_of, up_to}

abbrev zero_point : Point
zero_point = record { 0 = 0 }

-- what is known of the reference blocks after these updates
record Follows (g : Geometry) (points : List Point) (entries : List SlabEntry) (r : References) : Type 0 where
  pub geometry : r.geometry ≡ g
  pub size : length r.applied ≡ sectors_per_slab g
  pub newest : (n : ℕ) → point_at r.applied n ≡ newest_of g n entries (point_at points n)

-- the same where the commit points of the counters stay
follows_on : (g : Geometry) (points : List Point) (entries : List SlabEntry) (old new : References) → new.geometry ≡ old.geometry → new.applied ≡ old.applied → Follows g points entries old → Follows g points entries new
follows_on g points entries old new sizes same follows = record {
  geometry = sizes ∙ follows.geometry;
  size = ap (λ (ps : List Point). length ps) same ∙ follows.size;
  newest = λ n. ap (λ (ps : List Point). point_at ps n) same ∙ follows.newest n;
}

follows_more : (g : Geometry) (points : List Point) (entries : List SlabEntry) (old : References) (entry : SlabEntry) → entry.offset < g.slab_blocks → Follows g points entries old
    → Follows g points (entry ∷ entries) (updated old entry.offset entry.point)
follows_more g points entries old entry inside follows =
    let sector = sector_of_offset old.geometry entry.offset in
    let is : sector ≡ sector_of_offset g entry.offset = ap (λ (h : Geometry). sector_of_offset h entry.offset) follows.geometry in
    let there : sector < length old.applied = omega (arith, inside, follows.size) in
    record {
      geometry = follows.geometry;
      size = length-set old.applied sector entry.point ∙ follows.size;
      newest = λ n. elim (eqb_tells (sector_of_offset g entry.offset) n) [
        | inl same ↦
            rw same.0 (ap (λ (k : ℕ). point_at (set old.applied sector entry.point) k) (sym same.1 ∙ sym is) ∙ get_or-set_same old.applied sector entry.point zero_point there)
        | inr other ↦
            rw other.0 (get_or-set_other old.applied sector n entry.point zero_point (λ (e : n ≡ sector). other.1 (sym (e ∙ is))) ∙ follows.newest n)
      ];
    }

follows : (g : Geometry) (points : List Point) (calls : List Operation) (new : References) → length points ≡ sectors_per_slab g → LeadTo (opening g points) calls new → Follows g points (updates_of calls) new
follows g points [] new size is = follows_on g points [] (opening g points) new (ap (λ (r : References). r.geometry) is) (ap (λ (r : References). r.applied) is) (record { geometry = refl; size = size; newest = λ n. refl })
follows g points (Updated entry ∷ calls) new size (before, lead, did) =
    let old = follows g points calls before size lead in
    let inside : entry.offset < g.slab_blocks = subst (λ (h : Geometry). entry.offset < h.slab_blocks) old.geometry did.0 in
    subst (λ (r : References). Follows g points (entry ∷ updates_of calls) r) (sym did.1) (follows_more g points (updates_of calls) before entry inside old)
follows g points (HandedOut counters bytes block ∷ calls) new size (before, lead, did) =
    follows_on g points (updates_of calls) before new (ap (λ (r : References). r.geometry) did.same) (ap (λ (r : References). r.applied) did.same) (follows g points calls before size lead)
follows g points (Written block ∷ calls) new size (before, lead, did) =
    follows_on g points (updates_of calls) before new (ap (λ (r : References). r.geometry) did.1) (ap (λ (r : References). r.applied) did.1) (follows g points calls before size lead)

pub newest_is : (g : Geometry) (points : List Point) (calls : List Operation) (new : References) (sector : ℕ) → length points ≡ sectors_per_slab g → LeadTo (opening g points) calls new
    → point_at new.applied sector ≡ newest_of g sector (updates_of calls) (point_at points sector)
newest_is g points calls new sector size lead = (follows g points calls new size lead).newest sector

-- no update is above the newest of its sector
below_newest : (g : Geometry) (points : List Point) (entries : List SlabEntry) (i : ℕ) (d : SlabEntry) → AreRising g points entries → i < length entries
    → (get_or entries i d).point.0 ≤ (newest_of g (sector_of_offset g (get_or entries i d).offset) entries (point_at points (sector_of_offset g (get_or entries i d).offset))).0
below_newest g points [] i d rising inside = absurd (omega (arith, inside))
below_newest g points (entry ∷ entries) zero d rising inside =
    let own = eq-eqb (sector_of_offset g entry.offset) (sector_of_offset g entry.offset) refl in
    rw own (omega arith)
below_newest g points (entry ∷ entries) (suc i) d rising inside =
    let x = get_or entries i d in
    let here : i < length entries = omega (arith, inside) in
    let older = rising.0 i d here in
    let more = below_newest g points entries i d rising.2 here in
    elim (eqb_tells (sector_of_offset g entry.offset) (sector_of_offset g x.offset)) [
      | inl same ↦ rw same.0 (omega (arith, older))
      | inr other ↦ rw other.0 more
    ]

-- what passes a test at each place is kept whole
kept_whole : (test : SlabEntry → Bool) (xs : List SlabEntry) → ((i : ℕ) (d : SlabEntry) → i < length xs → test (get_or xs i d) ≡ true) → filter test xs ≡ xs
kept_whole test [] all = refl
kept_whole test (x ∷ xs) all =
    ap (λ (b : Bool). cond b (x ∷ filter test xs) (filter test xs)) (all 0 x (omega arith)) ∙ ap (λ (ys : List SlabEntry). x ∷ ys) (kept_whole test xs (λ i d below. all (suc i) d (omega (arith, below))))

all_counted : (g : Geometry) (points : List Point) (calls : List Operation) (old : References) → length points ≡ sectors_per_slab g → LeadTo (opening g points) calls old → AreRising g points (updates_of calls)
    → up_to g old.applied (updates_of calls) ≡ updates_of calls
all_counted g points calls old size lead rising =
    let es = updates_of calls in
    kept_whole (λ e. nat_le e.point.0 (point_at old.applied (sector_of_offset g e.offset)).0) es (λ i d inside.
    let x = get_or es i d in
    let below = below_newest g points es i d rising inside in
    let is = newest_is g points calls old (sector_of_offset g x.offset) size lead in
    le-leb _ _ (subst (λ (p : Point). x.point.0 ≤ p.0) (sym is) below))

pub says_exactly : (g : Geometry) (points : List Point) (first : List ℕ) (calls : List Operation) (old new : References) (bytes : List ℕ) (block : ℕ) → length points ≡ sectors_per_slab g
    → LeadTo (opening g points) calls old → AreRising g points (updates_of calls) → HandsOutBlock old new (counters_after first (updates_of calls)) bytes block
    → bytes ≡ reference_bytes (sectors_of g old.applied (counters_after first (up_to g old.applied (updates_of calls))) block)
says_exactly g points first calls old new bytes block size lead rising did =
    did.says ∙ ap (λ (h : Geometry). reference_bytes (sectors_of h old.applied (counters_after first (updates_of calls)) block)) (follows g points calls old size lead).geometry
    ∙ ap (λ (es : List SlabEntry). reference_bytes (sectors_of g old.applied (counters_after first es) block)) (sym (all_counted g points calls old size lead rising))
