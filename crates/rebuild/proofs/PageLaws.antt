-- A page that was read, patched and written says by itself what it says with the window.
use Rattle.std.proofs.Common.{ℕ, ◌≡◌, ◌+◌, ◌<◌, ◌^◌, Bool, IsTrue, true, false, List, [], ◌∷◌, ◌++◌, Result, Ok, Err, length, Some, refl, sym, ◌∙◌, ap, subst, inl, inr, arith, append_assoc}
use Rattle.std.specs.List.{AllByRecursion}
use Rattle.std.proofs.lemmas.Bool.Decides.{eqb_tells}
use Rattle.blk_base.specs.declared.place.Mapping.{Mapping}
use Rattle.blk_base.specs.declared.place.PageId.{PageId}
use Rattle.blk_base.specs.declared.place.Pbn.{Pbn}
use Rattle.blk_base.specs.declared.sizes.TheConstants.{PAGE_SLOTS}
use Rattle.disk_model.specs.declared.call.Call.{Call}
use Rattle.disk_model.specs.declared.call.Call.TheVariants.{Read, Write, Flush}
use Rattle.disk_model.specs.declared.call.Failed.{Failed}
use Rattle.disk_model.specs.Images.{IsMixOf}
use Rattle.disk_model.specs.Log.{Blocks, block_at, contents, settled}
use Rattle.disk_model.specs.OneImages.{HasOneImageIn}
use Rattle.disk_model.specs.Seen.{Seen}
use Rattle.disk_model.specs.Trust.{Trust, trust_of}
use Rattle.disk_model.specs.Since.{WereRead}
use Rattle.disk_model.specs.LogSteps.{FailedInLog}
use Rattle.disk_model.proofs.ImageLaws.{all_weaker, settled_are_contents}
use Rattle.disk_model.proofs.SeenLaws.{stays_on}
use Rattle.image_format.proofs.StopLaws.{all_append}
use Rattle.image_format.specs.Calls.{put}
use Rattle.image_format.specs.Runs.{as_failed}
use Rattle.image_model.proofs.EmptyLaws.{sizes_of_image}
use Rattle.image_model.proofs.LookedLaws.{looked_in_place}
use Rattle.image_model.specs.Looked.{looked_in}
use Rattle.image_model.specs.Maps.{Image, page_at}
use Rattle.recovery_blocks.specs.Patches.{IsPatched}
use Rattle.recovery_laws.proofs.ContentLaws.{Puts}
use Rattle.recovery_laws.proofs.PageIdLaws.{one_page}
use Rattle.recovery_laws.proofs.PutLaws.{IsPartBlock, full_is_part, old_is_part, puts_full, puts_part}
use Rattle.recovery_laws.proofs.RecoverableLaws.{known}
use Rattle.recovery_laws.proofs.StopLaws.{page_inside, page_looked_at}
use Rattle.recovery_laws.specs.Calls.{IsPut}
use Rattle.recovery_laws.specs.Recoverable.{recoverable_image}
use Rattle.recovery_laws.specs.Written.{IsFullPage, IsPartPage}
use Rattle.replay_map.specs.Changes.{AreNewest}
use Rattle.replay_map.specs.declared.changes.SlotId.{SlotId}
use Rattle.rebuild.proofs.ActLaws.{none_made}
use Rattle.rebuild.proofs.WrittenLaws.{page_of_mix, page_of_patch}
use Rattle.rebuild.specs.Acts.{Acts, AreMade, IsPageCall, IsPageStart, IsStart, Writes, page_writing, recovery}

-- What a read may give of a block after more calls is what it might before, or was written by one of them.
pub settled_over : (P : ℕ → List ℕ → Type 0) (opening : Blocks) (log calls : List Call) (b : ℕ) → AllByRecursion (P b) (settled opening log b) → AllByRecursion (Puts P) calls
    → AllByRecursion (P b) (settled opening (calls ++ log) b)
settled_over P opening log [] b was puts = was
settled_over P opening log (Read at bytes ok ∷ calls) b was puts = settled_over P opening log calls b was puts.1
settled_over P opening log (Flush ok ∷ calls) b was puts = settled_over P opening log calls b was puts.1
settled_over P opening log (Write at bytes true ∷ calls) b was puts = elim (eqb_tells at.0 b) [
  | inl same ↦ rw (same.0) (subst (λ (n : ℕ). P n bytes) same.1 puts.0, tt)
  | inr other ↦ rw (other.0) (settled_over P opening log calls b was puts.1)
]
settled_over P opening log (Write at bytes false ∷ calls) b was puts = elim (eqb_tells at.0 b) [
  | inl same ↦ rw (same.0) (subst (λ (n : ℕ). P n bytes) same.1 puts.0, settled_over P opening log calls b was puts.1)
  | inr other ↦ rw (other.0) (settled_over P opening log calls b was puts.1)
]

-- Where nothing is pending it may give the block of the image.
pub settled_of_one : (P : List ℕ → Type 0) (looked : ℕ → Bool) (opening : Blocks) (log : List Call) (blocks : Blocks) (b : ℕ) → HasOneImageIn looked opening log blocks → b < length blocks
    → IsTrue (looked b) → P (block_at blocks b) → AllByRecursion P (settled opening log b)
settled_of_one P looked opening log blocks b one below here is =
    settled_are_contents P opening log b
    (all_weaker (λ (content : List ℕ). content ≡ block_at blocks b) P (contents opening log b) (λ content same. subst P (sym same) is)
    (one.only b (let size = one.size in omega (arith, size, below)) here))

module _ (honest : Bool) (first : Seen) (image : Image) (start : IsPageStart honest first image) where
  abbrev IsPartThere : PageId → Pbn → ℕ → List ℕ → Type 0
  IsPartThere page at b content = b ≡ at.0 → IsPartPage image page at content

  part_written : (page other : PageId) (at written_at : Pbn) (bytes : List ℕ) → page_at image page ≡ Some at → page_at image other ≡ Some written_at → IsFullPage image other written_at bytes
      → IsPartThere page at written_at.0 bytes
  part_written page other at written_at bytes there written_there full = λ same.
      let one_at : written_at ≡ at = ap (λ (k : ℕ). record { 0 = k }) same in
      let one : other ≡ page = start.one other page at (written_there ∙ ap Some one_at) there in
      full_is_part image page at bytes (subst (λ (a : Pbn). IsFullPage image page a bytes) one_at (subst (λ (p : PageId). IsFullPage image p written_at bytes) one full))

  parts_written : (page : PageId) (at : Pbn) (calls : List Call) → page_at image page ≡ Some at → AllByRecursion (IsPageCall image) calls → AllByRecursion (Puts (IsPartThere page at)) calls
  parts_written page at [] there each = tt
  parts_written page at (Write written_at bytes true ∷ calls) there each =
      (part_written page each.0.1.0 at written_at bytes there each.0.1.1 each.0.1.2, parts_written page at calls there each.1)
  parts_written page at (Write _ _ false ∷ calls) there each = absurd each.0
  parts_written page at (Read _ _ _ ∷ calls) there each = (tt, parts_written page at calls there each.1)
  parts_written page at (Flush _ ∷ calls) there each = absurd each.0

  module _ (tells : Bool) (before middle : Seen) (calls : List Call) (made : AreMade (IsPageCall image) first before calls) (at : Pbn) (given : List ℕ) (told : IsTrue tells)
      (read : WereRead (trust_of tells honest) at.0 before middle (given ∷ [])) where
    given_mix : IsMixOf (settled first.opening (calls ++ first.log) at.0) given
    given_mix =
        let place : at.0 + 0 ≡ at.0 = omega arith in
        let was = subst (λ (b : ℕ). IsMixOf (settled before.opening before.log b) given) place (read.given.1 told start.fair) in
        let logged = subst (λ (log : List Call). IsMixOf (settled before.opening log at.0) given) made.logged was in
        subst (λ (opening : Blocks). IsMixOf (settled opening (calls ++ first.log) at.0) given) made.stays.opening logged

    pub page_put : (page : PageId) (changes : List (SlotId × Mapping)) (bytes : List ℕ) → page_at image page ≡ Some at → page.level < 2 ^ 8 → AreNewest image.window changes
        → IsPatched changes page PAGE_SLOTS given bytes → IsPageCall image (put at.0 bytes)
    page_put page changes bytes there low newest patched =
        let was = all_weaker (IsPartPage image page at) (IsPartThere page at at.0) (settled first.opening first.log at.0) (λ content is. λ same. is) (start.parts page at there) in
        let parts = settled_over (IsPartThere page at) first.opening first.log calls at.0 was (parts_written page at calls there made.each) in
        let part = page_of_mix image page at (settled first.opening (calls ++ first.log) at.0) given read.given.0 given_mix
        (all_weaker (IsPartThere page at at.0) (IsPartPage image page at) (settled first.opening (calls ++ first.log) at.0) (λ content is. is refl) parts) in (
          patched.size ∙ read.given.0,
          (page, there, page_of_patch image page at changes given bytes start.sizes start.window low newest part patched),
        )

-- Pages of a recovery.

is_put : (image : Image) (call : Call) → IsPageCall image call → IsPut image call
is_put image (Write at bytes true) is = (is.0, inl is.1)
is_put image (Write _ _ false) is = is
is_put image (Read _ _ _) is = tt
is_put image (Flush _) is = is

are_puts : (image : Image) (calls : List Call) → AllByRecursion (IsPageCall image) calls → AllByRecursion (IsPut image) calls
are_puts image [] each = tt
are_puts image (call ∷ calls) each = (is_put image call each.0, are_puts image calls each.1)

module _ (trust : Trust) where
  -- They may be written behind calls of one.
  pages_start : (first before : Seen) (blocks : Blocks) (start : IsStart trust first blocks) (calls : List Call) → AreMade (IsPut (recoverable_image blocks start.to.is)) first before calls
      → IsPageStart trust.honest before (recoverable_image blocks start.to.is)
  pages_start first before blocks start calls made =
      let image = recoverable_image blocks start.to.is in
      let able = start.to.is in
      let sizes = sizes_of_image blocks able.head able.opens.accepted in
      record {
        fair = start.fair;
        sizes = sizes;
        window = λ k d below. (known blocks blocks able k d below).of_image;
        one = one_page image able.pages able.last (known blocks blocks able) sizes start.to.named;
        parts = λ page at there.
            let IsPart = IsPartBlock blocks able start.to.named in
            let was = settled_of_one (IsPart at.0) (looked_in blocks) first.opening first.log blocks at.0 start.to.one (page_inside blocks able start.to.named page at there)
            (looked_in_place blocks able.head able.opens.accepted at.0 (page_looked_at blocks able start.to.named page at there)) (old_is_part blocks able start.to.named at.0) in
            let all = settled_over IsPart first.opening first.log calls at.0 was
            (puts_part blocks able start.to.named calls (puts_full blocks able start.to.named calls made.each)) in
            let logged = subst (λ (log : List Call). AllByRecursion (IsPart at.0) (settled first.opening log at.0)) (sym made.logged) all in
            all_weaker (IsPart at.0) (IsPartPage image page at) (settled before.opening before.log at.0) (λ content is. is.page page at there refl)
            (subst (λ (opening : Blocks). AllByRecursion (IsPart at.0) (settled opening before.log at.0)) (sym made.stays.opening) logged);
      }

  module _ (before now : Seen) (N : Image → Type 0) (D : Image → List Call → Type 0) where
    pages_recover : (result : Result (Unit {0}) Failed) → Writes trust.tells (page_writing trust.honest) before now N D result
        → ((image : Image) (more calls : List Call) → D image more → D image (more ++ calls)) → Writes trust.tells (recovery trust) before now N D result
    pages_recover (Ok _) writes stay = λ told first from calls made has.
        let image = recoverable_image from.0 from.1.to.is in
        let went = writes told before (image, pages_start first before from.0 from.1 calls made) [] (none_made (IsPageCall image) before) has in
        let more = went.0 ++ [] in (
          more,
          record {
            stays = stays_on first before now made.stays went.1.stays;
            logged = went.1.logged ∙ ap (λ (log : List Call). more ++ log) made.logged ∙ sym (append_assoc more calls first.log);
            each = all_append (IsPut image) more calls (are_puts image more went.1.each) made.each;
          },
          stay image more calls went.2,
        )
    pages_recover (Err _) writes stay = λ told first from calls made has.
        let image = recoverable_image from.0 from.1.to.is in
        let stopped = writes told before (image, pages_start first before from.0 from.1 calls made) [] (none_made (IsPageCall image) before) has in
        let log : stopped.calls ++ before.log ≡ (stopped.calls ++ calls) ++ first.log =
        ap (λ (log : List Call). stopped.calls ++ log) made.logged ∙ sym (append_assoc stopped.calls calls first.log) in
        record {
          calls = stopped.calls ++ calls;
          each = all_append (IsPut image) stopped.calls calls (are_puts image stopped.calls stopped.each) made.each;
          call = stopped.call;
          kind = elim stopped.kind [ inl is ↦ inl (is_put image stopped.call is) | inr none ↦ absurd none ];
          logged = subst (λ (log : List Call). FailedInLog log now.log (as_failed stopped.call) (Unit {0})) log stopped.logged;
        }

    pub recovers_pages : (result : Result (Unit {0}) Failed) → Acts trust.tells (page_writing trust.honest) before now N D result
        → ((image : Image) (more calls : List Call) → D image more → D image (more ++ calls)) → Acts trust.tells (recovery trust) before now N D result
    recovers_pages result acts stay = record {
      stays = acts.stays;
      later = acts.later;
      grows = acts.grows;
      failed = acts.failed;
      writes = pages_recover result acts.writes stay;
    }
