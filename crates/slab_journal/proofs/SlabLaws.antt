-- What is true of a slab's journal stays true over each call, and no update that isn't covered is lost.
use Rattle.std.specs.Prelude.{ℕ, ◌≡◌, ◌+◌, ◌-◌, ◌%◌, ◌<◌, ◌≤◌, ◌^◌, List, [], ◌∷◌, ◌++◌, length, replicate, All, Contains, Bool, IsTrue, ◌↔◌}
use Rattle.std.proofs.Common.{arith, sym, subst, ap, ◌∙◌, inl, inr, get_or, set}
use Rattle.std.proofs.lemmas.Bool.{cases_eq}
use Rattle.std.proofs.lemmas.Nat.{mod_below}
use Rattle.std.proofs.lemmas.List.{length-set, length-replicate, get_or_default, get_or-set_same, get_or-set_other}
use Rattle.std.proofs.lemmas.List.Elements.{All-nil, All-head, All-tail, All-weaker, All-replicate, All-push, All-set, All-contains, Contains-append_left}
use Rattle.std.proofs.lemmas.List.Quantifiers.{any-set}
use Rattle.blk_base.specs.Regions.{slab_start_of}
use Rattle.blk_base.specs.Limits.{IsGeometry}
use Rattle.blk_base.specs.declared.geometry.Geometry.{Geometry}
use Rattle.blk_base.specs.declared.point.Point.{Point}
use Rattle.slab_codec.specs.Grammar.{HoldsEntry}
use Rattle.blk_base.specs.Counters.{sectors_per_slab}
use Rattle.slab_codec.specs.declared.forms.SlabEntry.{SlabEntry}
use Rattle.slab_journal.specs.Slab.{Slab, opening, IsOfSlab, IsCovered, Keeps, MayOverwrite, next_slot, next_block}
use Rattle.slab_journal.specs.Kept.{AreOfSlab, IsBefore, IsKept, first_of}
use Rattle.slab_journal.specs.Unsettled.{IsRising, sealed_block}

-- opening

pub kept_opening : (geometry : Geometry) (slab : ℕ) → IsGeometry geometry → slab < geometry.slabs → IsKept (opening geometry slab)
kept_opening geometry slab sizes inside =
    record {
      geometry = sizes;
      slab = inside;
      ring = length-replicate {A = List SlabEntry} geometry.slab_journal [];
      sectors = length-replicate {A = Point} (sectors_per_slab geometry) (record { 0 = 0 });
      last = omega arith;
      number = omega arith;
      number_filling = λ some. absurd (omega (arith, some));
      durable = (omega arith, omega arith);
      filling = All-nil (HoldsEntry geometry.slab_blocks);
      taken = All-nil (λ (e : SlabEntry). e.point.0 ≤ 511);
      rising = All-nil (λ (e : SlabEntry). 511 ≤ e.point.0);
      blocks = All-replicate (AreOfSlab (opening geometry slab)) geometry.slab_journal [] (All-nil (HoldsEntry geometry.slab_blocks));
      in_order = tt;
      sealed = λ writing. absurd (omega (arith, writing));
    }

-- the fields of a new journal, from what made them
pub is_opening : (geometry sizes : Geometry) (slab sectors : ℕ) (filling : List SlabEntry) (slots : List (List SlabEntry)) (commits : List Point)
    → sizes ≡ geometry → sectors ≡ sectors_per_slab sizes → filling ≡ [] → slots ≡ replicate geometry.slab_journal [] → commits ≡ replicate sectors (record { 0 = 0 })
    → ◌≡◌ {A = Slab} (record { geometry = sizes; slab = slab; sequence = 1; filling = filling; last = record { 0 = 511 }; slots = slots; durable = 1; commits = commits }) (opening geometry slab)
is_opening geometry sizes slab sectors filling slots commits same count none empty zero =
    let made : Geometry → List SlabEntry → List (List SlabEntry) → List Point → Slab
    = λ g fs ss cs. record (opening geometry slab) { geometry = g; filling = fs; slots = ss; commits = cs } in
    let none_durable : ℕ → List Point = λ n. replicate n (record { 0 = 0 }) in
    ap (λ (g : Geometry). made g filling slots commits) same
    ∙ ap (λ (fs : List SlabEntry). made geometry fs slots commits) none
    ∙ ap (λ (ss : List (List SlabEntry)). made geometry [] ss commits) empty
    ∙ ap (λ (cs : List Point). made geometry [] (replicate geometry.slab_journal []) cs) (zero ∙ ap none_durable (count ∙ ap sectors_per_slab same))

-- adding

rising_added : (es : List SlabEntry) (e : SlabEntry) (last : ℕ) → All (λ f. f.point.0 ≤ last) es → last < e.point.0 → All (λ f. first_of es last ≤ f.point.0) es
    → All (λ f. first_of (es ++ e ∷ []) e.point.0 ≤ f.point.0) (es ++ e ∷ [])
rising_added [] e last taken above rising = All-push (λ (f : SlabEntry). e.point.0 ≤ f.point.0) [] e (All-nil (λ (f : SlabEntry). e.point.0 ≤ f.point.0)) (omega arith)
rising_added (x ∷ xs) e last taken above rising =
    let first = All-head (λ (f : SlabEntry). f.point.0 ≤ last) x xs taken in
    All-push (λ (f : SlabEntry). x.point.0 ≤ f.point.0) (x ∷ xs) e rising (omega (arith, first, above))

in_order_added : (es : List SlabEntry) (e : SlabEntry) (last : ℕ) → All (λ f. f.point.0 ≤ last) es → last < e.point.0 → IsRising es → IsRising (es ++ e ∷ [])
in_order_added [] e last taken above rising = (All-nil (λ (f : SlabEntry). e.point.0 ≤ f.point.0), tt)
in_order_added (x ∷ xs) e last taken above rising =
    let first = All-head (λ (f : SlabEntry). f.point.0 ≤ last) x xs taken in
    let rest = All-tail (λ (f : SlabEntry). f.point.0 ≤ last) x xs taken in (
      All-push (λ (f : SlabEntry). x.point.0 ≤ f.point.0) xs e rising.0 (omega (arith, first, above)),
      in_order_added xs e last rest above rising.1,
    )

first_later : (es : List SlabEntry) (e : SlabEntry) (last : ℕ) → last < e.point.0 → first_of es last ≤ first_of (es ++ e ∷ []) e.point.0
first_later [] e last above = omega (arith, above)
first_later (x ∷ xs) e last above = omega arith

pub kept_added : (log : Slab) (e : SlabEntry) → IsKept log → HoldsEntry log.geometry.slab_blocks e → log.last.0 < e.point.0
    → IsKept (record log { filling = log.filling ++ e ∷ []; last = e.point })
kept_added log e kept held above =
    record {
      geometry = kept.geometry;
      slab = kept.slab;
      ring = kept.ring;
      sectors = kept.sectors;
      last = held.0;
      number = omega (arith, kept.number, above);
      number_filling = λ some. omega (arith, kept.number, above);
      durable = kept.durable;
      filling = All-push (HoldsEntry log.geometry.slab_blocks) log.filling e kept.filling held;
      taken = All-push (λ (f : SlabEntry). f.point.0 ≤ e.point.0) log.filling e
          (All-weaker (λ (f : SlabEntry). f.point.0 ≤ log.last.0) (λ (f : SlabEntry). f.point.0 ≤ e.point.0) (λ f below. omega (arith, below, above)) log.filling kept.taken) (omega arith);
      rising = rising_added log.filling e log.last.0 kept.taken above kept.rising;
      blocks = kept.blocks;
      in_order = in_order_added log.filling e log.last.0 kept.taken above kept.in_order;
      sealed = λ writing.
          let before = kept.sealed writing in
          let later = first_later log.filling e log.last.0 above in
          record {
            rising = before.rising;
            below = All-weaker (λ (f : SlabEntry). f.point.0 ≤ first_of log.filling log.last.0) (λ (f : SlabEntry). f.point.0 ≤ first_of (log.filling ++ e ∷ []) e.point.0)
                (λ f below. omega (arith, below, later)) (sealed_block log) before.below;
          };
    }

pub keeps_added : (log : Slab) (more : List SlabEntry) (last : Point) → Keeps log (record log { filling = log.filling ++ more; last = last })
keeps_added log more last entry held uncovered =
    elim held [
      | inl waits ↦ inl (Contains-append_left log.filling more entry waits)
      | inr stands ↦ inr stands
    ]

-- sealing

slot_inside : (log : Slab) → IsKept log → next_slot log < length log.slots
slot_inside log kept =
    let size = kept.geometry.slab_journal in
    let some : 0 < log.geometry.slab_journal = omega arith in
    omega (arith, mod_below log.sequence log.geometry.slab_journal some, kept.ring)

abbrev pub sealed : Slab → Slab
sealed log = record log { sequence = log.sequence + 1; filling = []; slots = set log.slots (next_slot log) log.filling }

pub kept_sealed : (log : Slab) → IsKept log → 0 < length log.filling → log.sequence ≤ log.durable → IsKept (sealed log)
kept_sealed log kept waits written =
    record {
      geometry = kept.geometry;
      slab = kept.slab;
      ring = length-set log.slots (next_slot log) log.filling ∙ kept.ring;
      sectors = kept.sectors;
      last = kept.last;
      number = omega (arith, kept.number_filling waits);
      number_filling = λ some. absurd (omega (arith, some));
      durable = (omega (arith, kept.durable.0), omega arith);
      filling = All-nil (HoldsEntry log.geometry.slab_blocks);
      taken = All-nil (λ (e : SlabEntry). e.point.0 ≤ log.last.0);
      rising = All-nil (λ (e : SlabEntry). log.last.0 ≤ e.point.0);
      blocks = All-set (AreOfSlab log) log.slots (next_slot log) log.filling kept.filling kept.blocks;
      in_order = tt;
      sealed = λ writing.
          let now : log.durable ≡ log.sequence = omega (arith, written, kept.durable.0) in
          let stands : sealed_block (sealed log) ≡ log.filling
          = ap (λ (n : ℕ). get_or (set log.slots (next_slot log) log.filling) (n % log.geometry.slab_journal) []) now
          ∙ get_or-set_same log.slots (next_slot log) log.filling [] (slot_inside log kept) in
          subst (λ (es : List SlabEntry). IsBefore (sealed log) es) (sym stands) (record { rising = kept.in_order; below = kept.taken });
    }

pub keeps_sealed : (log : Slab) → IsKept log → MayOverwrite log → Keeps log (sealed log)
keeps_sealed log kept covered entry held uncovered =
    let inside = slot_inside log kept in
    let P : List SlabEntry → Type 0 = λ block. Contains block entry in
    elim held [
      | inl waits ↦ inr (any-set P log.slots (next_slot log) log.filling inside waits)
      | inr stands ↦ elim (cases_eq stands.0 (next_slot log)) [
        | inl same ↦
            let block : stands.1 ≡ next_block log
            = sym stands.3 ∙ get_or_default log.slots stands.0 stands.1 [] stands.2 ∙ ap (λ (k : ℕ). get_or log.slots k []) same in
            absurd (uncovered (All-contains (IsCovered log.geometry log.commits) (next_block log) entry covered (subst P block stands.4)))
        | inr other ↦ inr (
          stands.0,
          stands.1,
          omega (arith, length-set log.slots (next_slot log) log.filling, stands.2),
          get_or-set_other log.slots (next_slot log) stands.0 log.filling stands.1 other ∙ stands.3,
          stands.4,
        )
      ]
    ]

-- the same, as the code comes to it

pub may_overwrite_as : (log now : Slab) (block entries : List SlabEntry) (commits : List Point) (size : ℕ) (result : Bool) → IsKept log → log ≡ now → commits ≡ log.commits → entries ≡ block
    → size ≡ log.geometry.slab_journal → block ≡ get_or log.slots (log.sequence % size) block → (IsTrue result ↔ All (IsCovered log.geometry commits) entries) → IsTrue result ↔ MayOverwrite now
may_overwrite_as log now block entries commits size result kept is same read number stands answer =
    let next : entries ≡ next_block log
    = read ∙ stands ∙ ap (λ (n : ℕ). get_or log.slots (log.sequence % n) block) number ∙ get_or_default log.slots (next_slot log) block [] (slot_inside log kept) in
    subst (λ (l : Slab). IsTrue result ↔ MayOverwrite l) is
    (subst (λ (es : List SlabEntry). IsTrue result ↔ All (IsCovered log.geometry log.commits) es) next
    (subst (λ (cs : List Point). IsTrue result ↔ All (IsCovered log.geometry cs) entries) same answer))

pub keeps_sealed_as : (log now : Slab) (left : List SlabEntry) (slots : List (List SlabEntry)) → log ≡ now → IsKept log → MayOverwrite log → left ≡ []
    → slots ≡ set log.slots (next_slot log) log.filling → Keeps now (record log { sequence = log.sequence + 1; filling = left; slots = slots })
keeps_sealed_as log now left slots is kept covered empty stands =
    subst (λ (l : Slab). Keeps l (record log { sequence = log.sequence + 1; filling = left; slots = slots })) is
    (subst (λ (es : List SlabEntry). Keeps log (record log { sequence = log.sequence + 1; filling = es; slots = slots })) (sym empty)
    (subst (λ (blocks : List (List SlabEntry)). Keeps log (record log { sequence = log.sequence + 1; filling = []; slots = blocks })) (sym stands) (keeps_sealed log kept covered)))

pub kept_sealed_as : (log : Slab) (left : List SlabEntry) (slots : List (List SlabEntry)) → IsKept log → 0 < length log.filling → log.sequence ≤ log.durable → left ≡ []
    → slots ≡ set log.slots (next_slot log) log.filling → IsKept (record log { sequence = log.sequence + 1; filling = left; slots = slots })
kept_sealed_as log left slots kept waits written empty stands =
    subst (λ (es : List SlabEntry). IsKept (record log { sequence = log.sequence + 1; filling = es; slots = slots })) (sym empty)
    (subst (λ (blocks : List (List SlabEntry)). IsKept (record log { sequence = log.sequence + 1; filling = []; slots = blocks })) (sym stands) (kept_sealed log kept waits written))

pub entry_held : (log now : Slab) (at first : ℕ) (point : Point) → log ≡ now → IsKept log → first ≡ slab_start_of log.geometry log.slab + 0 → IsOfSlab now (record { 0 = at }) → point.0 < 2 ^ 64
    → HoldsEntry log.geometry.slab_blocks (record { point = point; offset = at - first })
entry_held log now at first point is kept start inside fits =
    let here = subst (λ (l : Slab). IsOfSlab l (record { 0 = at })) (sym is) inside in
    let size = kept.geometry.slab_blocks in
    (fits, omega (arith, here.0, here.1, size.1), omega (arith, here.0, here.1))
