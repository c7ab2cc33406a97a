-- How the lists grow.
use Rattle.std.proofs.Common.{ℕ, suc, ◌≡◌, ◌⊎◌, ◌+◌, ◌-◌, ◌*◌, ◌/◌, ◌%◌, ◌<◌, ◌≤◌, ◌^◌, List, [], ◌∷◌, ◌++◌, length, get_or, take, Contains, refl, sym, ◌∙◌, ap, ap₂, subst, inl, inr, arith, append_assoc, length-append}
use Rattle.std.proofs.Math.ListN.{get_or-append}
use Rattle.std.proofs.Math.Seq.{get_or-append_right, take-suc}
use Rattle.std.proofs.lemmas.Bool.{cases_lt}
use Rattle.std.proofs.lemmas.List.{append-nil, get_or_default, get_or-take, length-take}
use Rattle.std.proofs.lemmas.List.Elements.{Contains-append_left, Contains-append_right, Contains-append_cases}
use Rattle.blk_base.specs.Counters.{sectors_per_slab}
use Rattle.blk_base.specs.Regions.{references_of}
use Rattle.blk_base.specs.Sectors.{sector, zero_block}
use Rattle.blk_base.specs.declared.geometry.Geometry.{Geometry}
use Rattle.blk_base.specs.declared.journal_entry.Update.{Update}
use Rattle.blk_base.specs.declared.point.Point.{Point}
use Rattle.byte_fields.specs.Fields.{number_at}
use Rattle.disk_model.specs.Log.{Blocks}
use Rattle.slab_codec.specs.Grammar.{IsSlabSector}
use Rattle.slab_codec.specs.Reference.{reference_sector_bytes}
use Rattle.slab_codec.specs.declared.forms.ReferenceSector.{ReferenceSector}
use Rattle.slab_codec.specs.declared.forms.SlabEntry.{SlabEntry}
use Rattle.slab_codec.proofs.ReadLaws.{one_reading}
use Rattle.image_model.specs.Counts.{block_of_data}
use Rattle.image_model.proofs.CountLaws.{is_first_or_behind, is_first, none_in_nothing}
use Rattle.slab_reading.specs.Found.{AddsCounters, AddsPoints}
use Rattle.slab_reading.specs.Slabs.{blocks_per_slab, point_in, SectorKeeps, BlockKeeps, SlabKeeps, Grew}
use Rattle.slab_reading.proofs.SectorLaws.{commit_said, counter_said, sector_here}
use Rattle.count_updates.proofs.PointLaws.{made}

-- Updates.

module _ (g : Geometry) (slab : ℕ) where
  pub grew_none : (Keeps : SlabEntry → Type 0) (old : List Update) → ((entry : SlabEntry) → Keeps entry → ⊥) → Grew g slab Keeps old old
  grew_none Keeps old none = record {
    more = [];
    is = sym (append-nil old);
    each = λ at point. ((λ has. absurd (none_in_nothing (made at point) has)), (λ is. absurd (none is.0 is.2)));
  }

  pub grew_on : (First Second Both : SlabEntry → Type 0) (old mid new : List Update) → Grew g slab First old mid → Grew g slab Second mid new
      → ((entry : SlabEntry) → Both entry → First entry ⊎ Second entry) → ((entry : SlabEntry) → First entry → Both entry) → ((entry : SlabEntry) → Second entry → Both entry)
      → Grew g slab Both old new
  grew_on First Second Both old mid new first second split left right = record {
    more = first.more ++ second.more;
    is = second.is ∙ ap (λ (us : List Update). us ++ second.more) first.is ∙ append_assoc old first.more second.more;
    each = λ at point. (
      (λ has. elim (Contains-append_cases first.more second.more (made at point) has) [
        | inl one ↦ let is = (first.each at point).0 one in (is.0, is.1, left is.0 is.2)
        | inr other ↦ let is = (second.each at point).0 other in (is.0, is.1, right is.0 is.2)
      ]),
      (λ is. elim (split is.0 is.2) [
        | inl one ↦ Contains-append_left first.more second.more (made at point) ((first.each at point).1 (is.0, is.1, one))
        | inr other ↦ Contains-append_right first.more second.more (made at point) ((second.each at point).1 (is.0, is.1, other))
      ]),
    );
  }

  pub grew_as : (First Both : SlabEntry → Type 0) (old new : List Update) → Grew g slab First old new
      → ((entry : SlabEntry) → Both entry → First entry) → ((entry : SlabEntry) → First entry → Both entry) → Grew g slab Both old new
  grew_as First Both old new grew to back = record {
    more = grew.more;
    is = grew.is;
    each = λ at point. (
      (λ has. let is = (grew.each at point).0 has in (is.0, is.1, back is.0 is.2)),
      (λ is. (grew.each at point).1 (is.0, is.1, to is.0 is.2)),
    );
  }

  grew_one : (entry : SlabEntry) (update : Update) (old : List Update) → update.at.0 ≡ (block_of_data g (record { slab = slab; offset = entry.offset })).0 → update.point ≡ entry.point
      → Grew g slab (λ other. entry ≡ other) old (old ++ (update ∷ []))
  grew_one entry update old block at_point = record {
    more = update ∷ [];
    is = refl;
    each = λ at point. (
      (λ has. elim (is_first_or_behind update [] (made at point) has) [
        | inl first ↦ (entry, (sym (ap (λ (u : Update). u.at.0) first) ∙ block, sym (ap (λ (u : Update). u.point.0) first) ∙ ap (λ (p : Point). p.0) at_point), refl)
        | inr behind ↦ absurd (none_in_nothing (made at point) behind)
      ]),
      (λ is.
          let here : made update.at.0 update.point.0 ≡ made at point = ap₂ (λ (a p : ℕ). made a p)
          (block ∙ ap (λ (e : SlabEntry). (block_of_data g (record { slab = slab; offset = e.offset })).0) is.2 ∙ sym is.1.0)
          (ap (λ (p : Point). p.0) at_point ∙ ap (λ (e : SlabEntry). e.point.0) is.2 ∙ sym is.1.1) in
          subst (λ (u : Update). Contains (update ∷ []) u) here (is_first update [])),
    );
  }

  -- one entry more of a list
  pub entry_more : (entries : List SlabEntry) (i : ℕ) (d : SlabEntry) (update : Update) (old now : List Update) → i < length entries
      → update.at.0 ≡ (block_of_data g (record { slab = slab; offset = (get_or entries i d).offset })).0 → update.point ≡ (get_or entries i d).point
      → Grew g slab (Contains (take i entries)) old now → Grew g slab (Contains (take (i + 1) entries)) old (now ++ (update ∷ []))
  entry_more entries i d update old now inside block point grew =
      let entry = get_or entries i d in
      let next : i + 1 ≡ suc i = omega arith in
      let is : take (i + 1) entries ≡ take i entries ++ (entry ∷ []) = rw next (take-suc entries i d inside) in
      grew_on (Contains (take i entries)) (λ other. entry ≡ other) (Contains (take (i + 1) entries)) old now (now ++ (update ∷ [])) grew (grew_one entry update now block point)
      (λ e has. elim (Contains-append_cases (take i entries) (entry ∷ []) e (subst (λ (es : List SlabEntry). Contains es e) is has)) [
        | inl old_one ↦ inl old_one
        | inr new_one ↦ elim (is_first_or_behind entry [] e new_one) [ inl same ↦ inr same | inr behind ↦ absurd (none_in_nothing e behind) ]
      ])
      (λ e has. subst (λ (es : List SlabEntry). Contains es e) (sym is) (Contains-append_left (take i entries) (entry ∷ []) e has))
      (λ e same. subst (λ (es : List SlabEntry). Contains es e) (sym is)
      (Contains-append_right (take i entries) (entry ∷ []) e (subst (λ (x : SlabEntry). Contains (entry ∷ []) x) same (is_first entry []))))

  -- a sector, valid or not
  pub sector_none : (block : List ℕ) (number : ℕ) (old : List Update)
      → ((sequence : ℕ) (entries : List SlabEntry) → IsSlabSector g.nonce slab g.slab_blocks number (sector number block) sequence entries → ⊥)
      → Grew g slab (SectorKeeps g slab block number) old old
  sector_none block number old none = grew_none (SectorKeeps g slab block number) old (λ entry keeps. none keeps.sequence keeps.entries keeps.valid)

  pub sector_some : (block : List ℕ) (number sequence : ℕ) (entries : List SlabEntry) (old new : List Update)
      → IsSlabSector g.nonce slab g.slab_blocks number (sector number block) sequence entries
      → Grew g slab (Contains entries) old new → Grew g slab (SectorKeeps g slab block number) old new
  sector_some block number sequence entries old new valid grew =
      grew_as (Contains entries) (SectorKeeps g slab block number) old new grew
      (λ entry keeps. subst (λ (es : List SlabEntry). Contains es entry)
      (one_reading g.nonce slab g.slab_blocks number (sector number block) keeps.sequence sequence keeps.entries entries keeps.valid valid).1 keeps.listed)
      (λ entry has. record { sequence = sequence; entries = entries; valid = valid; listed = has })

  -- one sector more of a block
  pub block_more : (block : List ℕ) (number : ℕ) (old now new : List Update) → Grew g slab (BlockKeeps g slab block number) old now
      → Grew g slab (SectorKeeps g slab block number) now new → Grew g slab (BlockKeeps g slab block (number + 1)) old new
  block_more block number old now new grew more =
      grew_on (BlockKeeps g slab block number) (SectorKeeps g slab block number) (BlockKeeps g slab block (number + 1)) old now new grew more
      (λ entry keeps. elim (cases_lt keeps.0 number) [
        | inl below ↦ inl (keeps.0, below, keeps.2)
        | inr most ↦ let here : keeps.0 ≡ number = let less = keeps.1 in omega (arith, less, most) in inr (subst (λ (n : ℕ). SectorKeeps g slab block n entry) here keeps.2)
      ])
      (λ entry keeps. (keeps.0, let less = keeps.1 in omega (arith, less), keeps.2))
      (λ entry keeps. (number, omega arith, keeps))

  -- one block more of the slab's journal
  pub slot_more : (read : Blocks) (slot index : ℕ) (block : List ℕ) (old now new : List Update) → index ≡ references_of g + slot → index < length read → block ≡ get_or read index block
      → Grew g slab (SlabKeeps g slab read slot) old now
      → Grew g slab (BlockKeeps g slab block 8) now new → Grew g slab (SlabKeeps g slab read (slot + 1)) old new
  slot_more read slot index block old now new place inside is grew more =
      let here : block ≡ get_or read (references_of g + slot) zero_block = is ∙ get_or_default read index block zero_block inside ∙ ap (λ (n : ℕ). get_or read n zero_block) place in
      grew_on (SlabKeeps g slab read slot) (BlockKeeps g slab block 8) (SlabKeeps g slab read (slot + 1)) old now new grew more
      (λ entry keeps. elim (cases_lt keeps.0 slot) [
        | inl below ↦ inl (keeps.0, below, keeps.2)
        | inr most ↦
            let same : keeps.0 ≡ slot = let less = keeps.1 in omega (arith, less, most) in
            inr (subst (λ (b : List ℕ). BlockKeeps g slab b 8 entry) (ap (λ (n : ℕ). get_or read (references_of g + n) zero_block) same ∙ sym here) keeps.2)
      ])
      (λ entry keeps. (keeps.0, let less = keeps.1 in omega (arith, less), keeps.2))
      (λ entry keeps. (slot, omega arith, subst (λ (b : List ℕ). BlockKeeps g slab b 8 entry) here keeps))

-- Commit points.

pub sector_read : (g : Geometry) (n size : ℕ) → n < sectors_per_slab g → size ≡ blocks_per_slab g → n / 8 < size
sector_read g n size below is = omega (arith, below, is)

pub no_points : (read : Blocks) (old : List Point) → AddsPoints read 0 old old
no_points read old = record { more = []; is = sym (append-nil old); size = refl; each = λ n below. absurd (omega (arith, below)) }

pub one_point : (read : Blocks) (n index number : ℕ) (block : List ℕ) (s : ReferenceSector) (old now : List Point) → index ≡ n / 8 → number ≡ n % 8 → index < length read → block ≡ get_or read index block
    → s.commit.0 < 2 ^ 64 → sector number block ≡ reference_sector_bytes s → AddsPoints read n old now → AddsPoints read (n + 1) old (now ++ (s.commit ∷ []))
one_point read n index number block s old now place part inside is fits says adds =
    let said : point_in read n ≡ s.commit.0 = sector_here (λ (bytes : List ℕ). number_at 8 0 bytes) read n index number block place part inside is ∙ commit_said (sector number block) s fits says in
    record {
      more = adds.more ++ (s.commit ∷ []);
      is = ap (λ (ps : List Point). ps ++ (s.commit ∷ [])) adds.is ∙ append_assoc old adds.more (s.commit ∷ []);
      size = let size = adds.size in omega (arith, size, length-append adds.more (s.commit ∷ []));
      each = λ k below. elim (cases_lt k n) [
        | inl less ↦ ap (λ (p : Point). p.0) (get_or-append adds.more (s.commit ∷ []) (record { 0 = 0 }) k (let size = adds.size in omega (arith, size, less))) ∙ adds.each k less
        | inr most ↦
            let here : k ≡ n = omega (arith, below, most) in
            let past : length adds.more ≤ k = let size = adds.size in omega (arith, size, most) in
            let none : k - length adds.more ≡ 0 = let size = adds.size in omega (arith, size, here) in
            ap (λ (p : Point). p.0) (get_or-append_right adds.more (s.commit ∷ []) k (record { 0 = 0 }) past ∙ ap (λ (i : ℕ). get_or (s.commit ∷ []) i (record { 0 = 0 })) none)
            ∙ sym said ∙ ap (point_in read) (sym here)
      ];
    }

-- Counters.

pub no_counters : (g : Geometry) (read : Blocks) (old : List ℕ) → AddsCounters g read 0 old old
no_counters g read old = record { more = []; is = sym (append-nil old); size = refl; each = λ n below. absurd (omega (arith, below)) }

part_of_sector : (n k : ℕ) → k < 504 → ((504 * n + k) / 504 ≡ n) × ((504 * n + k) % 504 ≡ k)
part_of_sector n k below = (omega (arith, below), omega (arith, below))

pub more_counters : (g : Geometry) (read : Blocks) (n index number count before after : ℕ) (block : List ℕ) (s : ReferenceSector) (old now : List ℕ)
    → index ≡ n / 8 → number ≡ n % 8 → index < length read → block ≡ get_or read index block → sector number block ≡ reference_sector_bytes s
    → count ≤ 504 → count ≤ length s.counters → before ≡ 504 * n → after ≡ before + count
    → AddsCounters g read before old now → AddsCounters g read after old (now ++ take count s.counters)
more_counters g read n index number count before after block s old now place part inside is says few fits from to adds =
    let taken = take count s.counters in
    let width : length taken ≡ count = omega (arith, length-take count s.counters, fits) in
    record {
      more = adds.more ++ taken;
      is = ap (λ (cs : List ℕ). cs ++ taken) adds.is ∙ append_assoc old adds.more taken;
      size = let size = adds.size in omega (arith, size, length-append adds.more taken, width, to);
      each = λ offset below. elim (cases_lt offset before) [
        | inl less ↦ get_or-append adds.more taken 0 offset (let size = adds.size in omega (arith, size, less)) ∙ adds.each offset less
        | inr most ↦
            let k = offset - before in
            let low : k < count = omega (arith, below, to, most) in
            let whole : 504 * n + k ≡ offset = omega (arith, from, most) in
            let parts = part_of_sector n k (omega (arith, low, few)) in
            let past : length adds.more ≤ offset = let size = adds.size in omega (arith, size, most) in
            let rest : offset - length adds.more ≡ k = let size = adds.size in omega (arith, size) in
            get_or-append_right adds.more taken offset 0 past ∙ ap (λ (i : ℕ). get_or taken i 0) rest ∙ get_or-take count s.counters k 0 low
            ∙ sym (counter_said (sector number block) s k says)
            ∙ sym (sector_here (λ (bytes : List ℕ). number_at 1 (8 + k) bytes) read n index number block place part inside is)
            ∙ ap₂ (λ (m i : ℕ). number_at 1 (8 + m) (sector (i % 8) (get_or read (i / 8) zero_block))) (sym parts.1 ∙ ap (λ (o : ℕ). o % 504) whole) (sym parts.0 ∙ ap (λ (o : ℕ). o / 504) whole)
      ];
    }
