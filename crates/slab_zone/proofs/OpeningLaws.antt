-- What is to be written of the slabs of a zone, as an image is opened.
use Rattle.std.specs.Prelude.{ℕ, ◌≡◌, ◌+◌, ◌*◌, List, [], ◌∷◌, ◌++◌, length}
use Rattle.std.proofs.Common.{sym, ◌∙◌, ap, arith, inl, inr, length-append}
use Rattle.std.proofs.lemmas.Bool.{cases_lt}
use Rattle.std.proofs.lemmas.List.{get_or_append_left}
use Rattle.std.proofs.Math.Seq.{get_or-append_seam}
use Rattle.blk_base.specs.declared.opened.Opened.{Opened}
use Rattle.slab_writes.specs.Writes.{Writes, opening}
use Rattle.zone_counts.specs.Zone.{IsZone, slabs_of_zone}
use Rattle.slab_zone.specs.Whole.{WholeZone, IsWhole, AreOpenedWrites, nothing, writes_at}

-- one more slab was opened
pub opened_more : (o : Opened) (zone zones count : ℕ) (writes : List Writes) (w : Writes) → AreOpenedWrites o zone zones count writes
    → w ≡ opening o.head.geometry (count * zones + zone) o.commits.items → AreOpenedWrites o zone zones (count + 1) (writes ++ w ∷ [])
opened_more o zone zones count writes w are is = record {
  many = omega (arith, are.many, length-append {A = Writes} writes (w ∷ []));
  each = λ k below. elim (cases_lt k count) [
    | inl early ↦
        let same : writes_at (writes ++ w ∷ []) k ≡ writes_at writes k = get_or_append_left writes (w ∷ []) nothing k (omega (arith, early, are.many)) in
        same ∙ are.each k early
    | inr past ↦
        let last : k ≡ count = omega (arith, below, past) in
        let place : count ≡ length writes = sym are.many in
        ap (λ (n : ℕ). writes_at (writes ++ w ∷ []) n) (last ∙ place) ∙ get_or-append_seam writes w [] nothing ∙ is ∙ ap (λ (n : ℕ). opening o.head.geometry (n * zones + zone) o.commits.items) (sym last)
  ];
}

pub opened_none : (o : Opened) (zone zones : ℕ) (writes : List Writes) → writes ≡ [] → AreOpenedWrites o zone zones 0 writes
opened_none o zone zones writes none = record { many = ap (λ (ws : List Writes). length ws) none; each = λ k below. absurd (omega (arith, below)) }

pub opened_whole : (o : Opened) (zone zones : ℕ) (z : WholeZone) → IsZone z.counts → z.counts.geometry ≡ o.head.geometry → z.counts.zone ≡ zone → z.counts.zones ≡ zones
    → length z.counts.slabs ≡ slabs_of_zone o.head.geometry zone zones → AreOpenedWrites o zone zones (slabs_of_zone o.head.geometry zone zones) z.writes → IsWhole z
opened_whole o zone zones z is same number many count opened = record {
  counts = is;
  writes = record {
    many = opened.many ∙ sym count;
    each = λ k below.
        let one = opened.each k (omega (arith, below, count)) in
        let here : k * zones + zone ≡ k * z.counts.zones + z.counts.zone
        = ap (λ (n : ℕ). k * n + zone) (sym many) ∙ ap (λ (n : ℕ). k * z.counts.zones + n) (sym number) in
        record {
          journal = ap (λ (w : Writes). w.journal.geometry) one ∙ sym same;
          slab = ap (λ (w : Writes). w.journal.slab) one ∙ here;
          blocks = ap (λ (w : Writes). w.blocks.geometry) one ∙ sym same;
        };
  };
}
