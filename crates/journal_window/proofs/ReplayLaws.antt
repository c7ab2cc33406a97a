-- The entries of the window's blocks, block by block.
use Rattle.std.proofs.Common.{ℕ, suc, ◌≡◌, ◌+◌, ◌<◌, ◌≤◌, List, [], ◌∷◌, ◌++◌, length, reverse, refl, sym, ◌∙◌, ap, subst, arith}
use Rattle.std.proofs.lemmas.List.{append_assoc, length-take, reverse-append, get_or_default}
use Rattle.std.specs.Prelude.{◌%◌, Bool, IsTrue, All, get_or, take}
use Rattle.blk_base.specs.Points.{point_of}
use Rattle.blk_base.specs.Sectors.{sector, zero_block}
use Rattle.blk_base.specs.declared.geometry.Geometry.{Geometry}
use Rattle.blk_base.specs.declared.journal_entry.CommittedEntry.{CommittedEntry}
use Rattle.blk_base.specs.declared.journal_entry.Entry.{Entry}
use Rattle.blk_base.specs.declared.point.Half.TheVariants.{Increment}
use Rattle.journal_codec.proofs.PrefixLaws.{one_prefix}
use Rattle.journal_codec.specs.Grammar.{IsSector, IsPrefix}
use Rattle.journal_codec.specs.BlockBytes.{entries_in}
use Rattle.image_model.proofs.WindowLaws.{each_replayable}
use Rattle.image_model.specs.Windows.{in_slot, IsOfImage, IsReplayable, with_points, entries_from}
use Rattle.image_model.specs.declared.fault.ImageFault.{ImageFault}
use Rattle.image_model.specs.declared.fault.ImageFault.TheVariants.{Super, Window, Page, Counter, SharedPage, Counts, Device, Unclean, Memory}
use Rattle.journal_window.specs.Newest.{AreReplayed}
use Rattle.journal_window.specs.Replays.{IsStopped, CantReplay}

-- no block yet
pub none_replayed : (g : Geometry) (journal : List (List ℕ)) (last first : ℕ) → AreReplayed g journal last first first []
none_replayed g journal last first = record { blocks = []; count = omega arith; replayable = tt; all = refl }

-- a block more
pub one_replayed : (g : Geometry) (journal : List (List ℕ)) (last first next : ℕ) (old new : List CommittedEntry) (es : List Entry) → AreReplayed g journal last first next (reverse old)
    → IsReplayable g journal last next es → new ≡ old ++ with_points next 0 es → AreReplayed g journal last first (next + 1) (reverse new)
one_replayed g journal last first next old new es were is grown =
    let count = were.count in
    let all = were.all in
    record {
      blocks = es ∷ were.blocks;
      count = omega (arith, count);
      replayable = (subst (λ (n : ℕ). IsReplayable g journal last n es) (sym count) is, were.replayable);
      all = ap reverse grown ∙ reverse-append old (with_points next 0 es) ∙ ap (λ (older : List CommittedEntry). reverse (with_points next 0 es) ++ older) all
          ∙ ap (λ (n : ℕ). reverse (with_points n 0 es) ++ entries_from first were.blocks) (sym count);
    }

-- the first block that can't be replayed
pub stopped : (g : Geometry) (journal : List (List ℕ)) (last first next : ℕ) (entries : List CommittedEntry) (why : ImageFault) → AreReplayed g journal last first next entries
    → first ≤ next → next ≤ last → CantReplay g journal last next why → IsStopped g journal last first why
stopped g journal last first next entries (Window sequence) were from below (named, bad) =
    let count = were.count in
    subst (λ (n : ℕ). IsStopped g journal last first (Window n)) (sym named)
    record {
      inside = (from, below);
      bad = bad;
      good = λ earlier later before. each_replayable g journal last first were.blocks were.replayable earlier later (omega (arith, before, count));
    }
stopped g journal last first next entries Memory were from below why = tt
stopped g journal last first next entries (Super fault) were from below why = absurd why
stopped g journal last first next entries (Page at fault) were from below why = absurd why
stopped g journal last first next entries (Counter at point) were from below why = absurd why
stopped g journal last first next entries (SharedPage at) were from below why = absurd why
stopped g journal last first next entries (Counts at stored mapped) were from below why = absurd why
stopped g journal last first next entries Device were from below why = absurd why
stopped g journal last first next entries Unclean were from below why = absurd why

-- the entries of a block with their points, one more
pub one_pointed : (sequence number : ℕ) (es : List Entry) (entry : Entry)
    → with_points sequence number (es ++ entry ∷ []) ≡ with_points sequence number es ++ record { entry = entry; point = record { 0 = point_of sequence (number + length es) Increment } } ∷ []
one_pointed sequence number [] entry =
    let here : number + 0 ≡ number = omega arith in
    ap (λ (n : ℕ). record { entry = entry; point = record { 0 = point_of sequence n Increment } } ∷ []) (sym here)
one_pointed sequence number (first ∷ es) entry =
    let here : suc number + length es ≡ number + suc (length es) = omega arith in
    ap (λ (others : List CommittedEntry). record { entry = first; point = record { 0 = point_of sequence number Increment } } ∷ others)
    (one_pointed sequence (suc number) es entry
    ∙ ap (λ (n : ℕ). with_points sequence (suc number) es ++ record { entry = entry; point = record { 0 = point_of sequence n Increment } } ∷ []) here)

pub pointed_more : (sequence number point : ℕ) (block : List Entry) (entry : Entry) (old now next : List CommittedEntry) → number ≤ length block
    → now ≡ old ++ with_points sequence 0 (take number block) → take (number + 1) block ≡ take number block ++ entry ∷ [] → point ≡ point_of sequence number Increment
    → next ≡ now ++ record { entry = entry; point = record { 0 = point } } ∷ [] → next ≡ old ++ with_points sequence 0 (take (number + 1) block)
pointed_more sequence number point block entry old now next inside was more here grown =
    let size : 0 + length (take number block) ≡ number = omega (arith, length-take number block, inside) in
    grown ∙ ap (λ (front : List CommittedEntry). front ++ record { entry = entry; point = record { 0 = point } } ∷ []) was
    ∙ append_assoc old (with_points sequence 0 (take number block)) (record { entry = entry; point = record { 0 = point } } ∷ [])
    ∙ ap (λ (n : ℕ). old ++ (with_points sequence 0 (take number block) ++ record { entry = entry; point = record { 0 = n } } ∷ []))
    (here ∙ ap (λ (n : ℕ). point_of sequence n Increment) (sym size))
    ∙ ap (λ (points : List CommittedEntry). old ++ points) (sym (one_pointed sequence 0 (take number block) entry))
    ∙ ap (λ (es : List Entry). old ++ with_points sequence 0 es) (sym more)

-- What stands in the slot of a sequence.

module _ (g : Geometry) (journal : List (List ℕ)) (last sequence : ℕ) (block : List ℕ) (inside : sequence % g.journal < length journal)
    (here : block ≡ get_or journal (sequence % g.journal) block) where
  in_place : block ≡ in_slot g journal sequence
  in_place = here ∙ get_or_default journal (sequence % g.journal) block zero_block inside

  -- its prefix is right
  pub replayable : (s h : ℕ) (es : List Entry) (whole : Bool) → IsPrefix g.nonce block s h es whole → s ≡ sequence → (sequence < last → IsTrue whole)
      → All (IsOfImage g) es → IsReplayable g journal last sequence es
  replayable s h es whole prefix same complete each = record {
    whole = whole;
    has = (h, subst (λ (n : ℕ). IsPrefix g.nonce (in_slot g journal sequence) n h es whole) same (subst (λ (b : List ℕ). IsPrefix g.nonce b s h es whole) in_place prefix));
    complete = complete;
    each = each;
  }

  -- its prefix isn't
  pub not_replayable : (s h : ℕ) (es : List Entry) (whole : Bool) → IsPrefix g.nonce block s h es whole
      → (s ≡ sequence → (sequence < last → IsTrue whole) → All (IsOfImage g) es → ⊥)
      → (entries : List Entry) → IsReplayable g journal last sequence entries → ⊥
  not_replayable s h es whole prefix wrong entries is =
      let same = one_prefix g.nonce (in_slot g journal sequence) s h sequence is.has.0 es entries whole is.whole
      (subst (λ (b : List ℕ). IsPrefix g.nonce b s h es whole) in_place prefix) is.has.1 in
      wrong same.0 (λ earlier. subst (λ (w : Bool). IsTrue w) (sym same.3) (is.complete earlier)) (subst (λ (e : List Entry). All (IsOfImage g) e) (sym same.2) is.each)

  -- it has none
  pub no_prefix : ((s h : ℕ) (es : List Entry) → IsSector g.nonce 0 (sector 0 block) s h es → ⊥) → (entries : List Entry) → IsReplayable g journal last sequence entries → ⊥
  no_prefix none entries is =
      let prefix = is.has.1 in
      let range = prefix.range.0 in
      none sequence is.has.0 (entries_in 0 entries)
      (subst (λ (b : List ℕ). IsSector g.nonce 0 (sector 0 b) sequence is.has.0 (entries_in 0 entries)) (sym in_place) (prefix.run.sectors 0 (omega (arith, range))))
