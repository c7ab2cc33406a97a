-- The committed entries of a fair session map a block as often as they add to it, over the opened image, and take away.
use Rattle.std.proofs.Common.{ℕ, ◌+◌, ◌≡◌, ◌≢◌, ◌<◌, ◌==◌, true, false, Bool, Option, None, Some, List, [], ◌∷◌, refl, sym, ◌∙◌, ap, subst, inl, inr, arith, if◌then◌else◌, Contains}
use Rattle.blk_base.specs.declared.journal_entry.CommittedEntry.{CommittedEntry}
use Rattle.blk_base.specs.declared.place.Mapping.{Mapping}
use Rattle.blk_base.specs.declared.place.Mapping.TheVariants.{Unmapped, Zero, At}
use Rattle.blk_base.specs.declared.place.PageId.{PageId}
use Rattle.blk_base.specs.declared.place.Pbn.{Pbn}
use Rattle.core_laws.proofs.Common.{IsAsOpened, IsFair, IsSession, Logged, Makes, NewPage, OnBlock, Remaps, RightTrace, Session, Trace, bit, cases_Bool, durable, mapping_by, opened_image, remappings, total}
use Rattle.core_laws.proofs.kept.SoleWriter.{AreMapped}
use Rattle.core_laws.proofs.trace.DeskOfTrace.{durable_part}
use Rattle.core_laws.proofs.trace.EntriesInTurn.{AreOrdered, are_pointed, in_turn, older_ordered, ordered, pointed, pointed_said, unmade}
use Rattle.core_laws.proofs.trace.EntryMaps.{AreTurned, IsOfPath, at_block, made_in, made_turn, mapping_is, older_turned, pages_said, turned, up_linked}
use Rattle.core_model.proofs.TreeLinks.{page_is, page_itself}
use Rattle.core_model.specs.Sessions.{opened_uses}
use Rattle.core_model.specs.Tokens.{is_entry, is_old, leads_to}
use Rattle.count_laws.proofs.TurnLaws.{addresses_fit, opened_has, running_count}
use Rattle.count_laws.proofs.UnusedLaws.{none_is_unused}
use Rattle.count_laws.specs.Points.{adds_to, takes_from}
use Rattle.count_laws.specs.RunningCount.{RunningCount}
use Rattle.count_laws.specs.Turns.{HasMappingsAfter, IsUnusedAfter}
use Rattle.image_model.proofs.CountLaws.{is_first_or_behind, none_in_nothing}
use Rattle.image_model.specs.Counts.{leads_to as is_led}
use Rattle.image_model.specs.Pages.{is_page}
use Rattle.journal_stops.proofs.OpenedLaws.{all_new_page, all_old_page}
use Rattle.journal_stops.specs.Mapped.{mapping_after}

-- What entries weigh for a block is what they add and take away.

leads_same : (x : Pbn) (m : Mapping) → bit (is_led x m) ≡ leads_to x m
leads_same x Unmapped = refl
leads_same x Zero = refl
leads_same x (At y) = by (y.0 == x.0)
  where
    by : (b : Bool) → bit b ≡ (if b then 1 else 0)
    by true = refl
    by false = refl

pub adds_same : (x : Pbn) (es : List Logged) → total (λ (c : CommittedEntry). bit (adds_to c.entry x)) (pointed es) ≡ total (is_entry x) es
adds_same x [] = refl
adds_same x (Remaps e ∷ es) = let here = leads_same x e.new in let behind = adds_same x es in omega (arith, here, behind)
adds_same x (Makes p ∷ es) = let here = leads_same x (At p.at) in let behind = adds_same x es in omega (arith, here, behind)

pub takes_same : (x : Pbn) (es : List Logged) → total (λ (c : CommittedEntry). bit (takes_from c.entry x)) (pointed es) ≡ total (is_old x) (remappings es)
takes_same x [] = refl
takes_same x (Remaps e ∷ es) = let here = leads_same x e.old in let behind = takes_same x es in omega (arith, here, behind)
takes_same x (Makes p ∷ es) = let behind = takes_same x es in omega (arith, behind)

-- A page that entries make stands where they put it.

put_here : (b : Bool) (x : Pbn) (o : Option Pbn) → b ≡ true → (if b then Some x else o) ≡ Some x
put_here true x o is = refl
put_here false x o is = absurd cc

made_here : (s : Session) (es : List Logged) (p : NewPage) → AreOrdered s es → Contains es (Makes p) → made_in es p.page ≡ Some p.at
made_here s [] p ordered has = absurd (none_in_nothing (Makes p) has)
made_here s (Remaps e ∷ es) p ordered has = elim (is_first_or_behind (Remaps e) es (Makes p) has) [
  | inl same ↦ absurd cc
  | inr behind ↦ made_here s es p ordered.1 behind
]
made_here s (Makes q ∷ es) p ordered has = elim (is_first_or_behind (Makes q) es (Makes p) has) [
  | inl same ↦
      let one : q ≡ p = cc in
      subst (λ (r : NewPage). made_in (Makes q ∷ es) r.page ≡ Some r.at) one (put_here (is_page q.page q.page) q.at (made_in es q.page) (page_itself q.page))
  | inr behind ↦ elim (cases_Bool (is_page q.page p.page)) [
    | inl here ↦
        let before = made_here s es p ordered.1 behind in
        let gone : made_in es q.page ≡ None = (unmade s.links es q.page ordered.0.2).0 in
        let there : made_in es p.page ≡ None = subst (λ (page : PageId). made_in es page ≡ None) (page_is q.page p.page here) gone in
        absurd (let both : ◌≡◌ {A = Option Pbn} None (Some p.at) = sym there ∙ before in cc)
    | inr apart ↦ rw apart (made_here s es p ordered.1 behind)
  ]
]

-- and is of the path of an address
made_path : (s : Session) (es : List Logged) (p : NewPage) → AreTurned s es → Contains es (Makes p) → IsOfPath s p.page
made_path s [] p turns has = absurd (none_in_nothing (Makes p) has)
made_path s (Remaps e ∷ es) p turns has = elim (is_first_or_behind (Remaps e) es (Makes p) has) [
  | inl same ↦ absurd cc
  | inr behind ↦ made_path s es p turns.1 behind
]
made_path s (Makes q ∷ es) p turns has = elim (is_first_or_behind (Makes q) es (Makes p) has) [
  | inl same ↦ let one : q ≡ p = cc in subst (λ (r : NewPage). IsOfPath s r.page) one turns.0.1
  | inr behind ↦ made_path s es p turns.1 behind
]

module _ (s : Session) (session : IsSession s) (opened : IsAsOpened s) (es : List Logged) (turns : AreTurned s es) (are : AreOrdered s es) (x : Pbn) where
  abbrev entries : List CommittedEntry
  entries = pointed es

  pub running : RunningCount (opened_image s) entries x (opened_uses s x)
  running = running_count (opened_image s) 0 entries x (opened_uses s x) (addresses_fit s.sizes.geometry session.sizes)
      (in_turn s session opened es entries (pointed_said es) turns are) (are_pointed es) (opened_has (opened_image s) x (opened_uses s x) (opened.counts x))

  none_left : running.now ≡ 0 → IsUnusedAfter (opened_image s) entries x
  none_left none = none_is_unused (opened_image s) entries x (subst (HasMappingsAfter (opened_image s) entries x) none running.has)

  unmapped : running.now ≡ 0 → (a : ℕ) → OnBlock (λ y. x.0 ≢ y.0) (mapping_by s es a)
  unmapped none a = by (mapping_by s es a) (mapping_is s session opened es entries (pointed_said es) turns a)
    where
      by : (m : Mapping) → mapping_after (opened_image s) entries a ≡ m → OnBlock (λ y. x.0 ≢ y.0) m
      by (At y) is = λ same. (none_left none).unmapped a (is ∙ ap (λ (n : ℕ). At (record { 0 = n })) (sym same))
      by Unmapped is = tt
      by Zero is = tt

  -- a page of the opened image stands where it did
  no_page : running.now ≡ 0 → (page : PageId) (y : Pbn) → page.level + 1 < s.sizes.geometry.height → s.links page ≡ Some y → x.0 ≢ y.0
  no_page none page y low linked same = by (made_in es page) refl
    where
      by : (o : Option Pbn) → made_in es page ≡ o → ⊥
      by (Some z) made = absurd (let turn = made_turn s es page z turns made in let gone : ◌≡◌ {A = Option Pbn} None (Some y) = sym turn.2 ∙ linked in cc)
      by None gone =
          let stands = all_old_page (opened_image s) entries page (pages_said es entries page (pointed_said es) ∙ ap at_block gone) ∙ sym (opened.links page low) ∙ linked in
          (none_left none).no_page (page, low, stands ∙ ap (λ (n : ℕ). Some (record { 0 = n })) (sym same))

  -- and so does one that an entry makes
  no_new_page : running.now ≡ 0 → (p : NewPage) → Contains es (Makes p) → x.0 ≢ p.at.0
  no_new_page none p has same =
      let made = made_here s es p are has in
      let turn = made_turn s es p.page p.at turns made in
      let up = up_linked s session opened es entries (pointed_said es) turns p.page turn.1 (made_path s es p turns has) turn.0 in
      let stands = all_new_page (opened_image s) entries p.page up.0 p.at turn.1 up.1 (pages_said es entries p.page (pointed_said es) ∙ ap at_block made) in
      (none_left none).no_page (p.page, turn.1, stands ∙ ap (λ (n : ℕ). Some (record { 0 = n })) (sym same))

  pub are_mapped : AreMapped s x es
  are_mapped = record {
    left = running.now;
    sum = let sum = running.sum in let adds = adds_same x es in let takes = takes_same x es in omega (arith, sum, adds, takes);
    unmapped = unmapped;
    no_page = no_page;
    no_new_page = no_new_page;
  }

-- So the count law holds of the committed entries of a fair session.
pub durable_mapped : (s : Session) (t : Trace) (x : Pbn) → IsSession s → RightTrace s t → IsFair s t → AreMapped s x (durable t)
durable_mapped s t x session right fair =
    let (newer, parts) = durable_part s t right in
    are_mapped s session fair.opened (durable t) (older_turned s newer (durable t) (subst (AreTurned s) parts (turned s t right))) (older_ordered s newer (durable t) (subst (AreOrdered s) parts (ordered s t right fair))) x

-- and so does a running count
pub durable_running : (s : Session) (t : Trace) (x : Pbn) → IsSession s → RightTrace s t → IsFair s t → RunningCount (opened_image s) (pointed (durable t)) x (opened_uses s x)
durable_running s t x session right fair =
    let (newer, parts) = durable_part s t right in
    running s session fair.opened (durable t) (older_turned s newer (durable t) (subst (AreTurned s) parts (turned s t right))) (older_ordered s newer (durable t) (subst (AreOrdered s) parts (ordered s t right fair))) x
