-- The report of a decrement comes to a logical zone: it is kept, or the slot of the request that waits for it is set.
use Rattle.std.proofs.Common.{◌≡◌, ◌⊎◌, ℕ, ◌+◌, ◌<◌, Bool, true, false, if◌then◌else◌, Contains, None, Some, is_some, List, [], ◌∷◌, ◌++◌, refl, sym, ◌∙◌, ap, subst, inl, inr, arith}
use Rattle.std.specs.List.{find}
use Rattle.core_laws.proofs.Common.{AllBelow, AllByRecursion, DataOk, IsCommitted, IsEntered, KeptOk, LogicalZone, OnBlock, Post, Quiet, Remapping, Remaps, RightTrace, Session, Sets, Trace, Vio, Writer, done, ended, eqb_tells, every-append, fair_before, kept_by, logged, logical_number, remapping, same_self, same_tells, same_writer, some_is, total-append, zone_of}
use Rattle.blk_base.specs.Regions.{IsDataBlock}
use Rattle.blk_base.specs.declared.request.Answer.TheVariants as reply
use Rattle.data_vio.specs.declared.items.Item.TheVariants as item
use Rattle.data_vio.specs.declared.items.Phase.TheVariants as phase
use Rattle.core_model.specs.declared.zones.ZoneData.TheVariants as at
use Rattle.core_model.specs.DeskRules.{mark_of_vio}
use Rattle.core_model.specs.Facts.{CarriesFor}
use Rattle.core_model.specs.LogicalFacts.{AwaitsReport, IsReport, ReportOk}
use Rattle.core_model.specs.LogicalRules.{LogicalHears, is_reported, settled, settled_posts, settling_of, with_slot, without_settling}
use Rattle.core_model.specs.RightTraces.{IsLeafy, IsReported}
use Rattle.core_model.specs.Trace.{added}
use Rattle.core_laws.proofs.journal.LoggedEntries.{logged_own}
use Rattle.core_laws.proofs.kept.ActKept.{ActKept, Known, Reached, act_none, carries_at, carries_own, claim_at, in_line, line_of, plain_journal, shown_plain, vio_over}
use Rattle.core_laws.proofs.kept.Frame.{kept_each, reports_on}
use Rattle.core_laws.proofs.logical.PageFacts.{same_tree}
use Rattle.core_laws.proofs.kept.Keys.{Clears, Key, OfAddress, OfBlock, OfJournal, OfPage, OfRequest, Spares, holder_one, own_name, token_of}
use Rattle.core_laws.proofs.kept.Spared.{of_same, quiet_kept}
use Rattle.core_laws.proofs.kept.StandsOn.{on_any, on_each}
use Rattle.core_laws.proofs.logical.LogicalActs.{happens_with}
use Rattle.core_laws.proofs.logical.LogicalFacts.{done_earned}
use Rattle.core_laws.proofs.logical.Releases.{below_more, drawn_before, release_ok}
use Rattle.core_laws.proofs.logical.ReportFacts.{own_report}
use Rattle.core_laws.proofs.tokens.ActSums.{settling_has, settling_taken}
use Rattle.core_laws.proofs.tokens.Known.{Leased}
use Rattle.core_laws.proofs.trace.DeskOfTrace.{shown_of}

-- A report of another request is found nowhere by this one.

-- the one name is the other's, or it isn't
turned_name : (w u : Writer) → same_writer w u ≡ false → same_writer u w ≡ false
turned_name w u apart = elim (same_tells u w) [
  | inl same ↦ absurd (let own : same_writer w u ≡ true = subst (λ (x : Writer). same_writer x u ≡ true) same.1 (same_self u) in cc)
  | inr other ↦ other.0
]

one_more : (w : Writer) (reported : List Remapping) (e : Remapping) → same_writer e.request w ≡ false → is_reported w reported ≡ false → is_reported w (reported ++ e ∷ []) ≡ false
one_more w [] e apart none = rw apart refl
one_more w (f ∷ reported) e apart none = by (same_writer f.request w) none (one_more w reported e apart)
  where
    by : (b : Bool) → is_some (if b then Some f else find (λ x. same_writer x.request w) reported) ≡ false → (is_reported w reported ≡ false → is_reported w (reported ++ e ∷ []) ≡ false)
        → is_some (if b then Some f else find (λ x. same_writer x.request w) (reported ++ e ∷ [])) ≡ false
    by true none rest = absurd cc
    by false none rest = rest none

still_waiting : (zone : ℕ) (reported : List Remapping) (e : Remapping) (vs : List Vio) → settling_of e.request vs ≡ None → AllByRecursion (AwaitsReport zone reported) vs
    → AllByRecursion (AwaitsReport zone (reported ++ e ∷ [])) vs
still_waiting zone reported e [] none all = tt
still_waiting zone reported e (v ∷ vs) none all = elim (same_tells v.request e.request) [
  | inl same ↦ absurd (let found : Some v ≡ None = rw same.0 at none in cc)
  | inr other ↦ (
    record { at_home = all.0.at_home; own = all.0.own; replaces = all.0.replaces; none = one_more v.request reported e (turned_name v.request e.request other.0) all.0.none },
    still_waiting zone reported e vs (rw other.0 at none) all.1,
  )
]

-- what holds of all that wait holds of those that wait without one
others_have : (P : Vio → Type 0) (w : Writer) (vs : List Vio) → AllByRecursion P vs → AllByRecursion P (without_settling w vs)
others_have P w [] all = tt
others_have P w (v ∷ vs) all = elim (same_tells v.request w) [
  | inl same ↦ rw same.0 all.1
  | inr other ↦ rw other.0 (all.0, others_have P w vs all.1)
]

module _ {s : Session} {t : Trace} {n : ℕ} {l : LogicalZone} {e : Remapping} (known : Known s t n (at.Logical l) (item.Report e ∷ [])) where
  abbrev pub AfterReport : LogicalZone → Trace → List Post → Type 0
  AfterReport new made posts = ActKept s t n (at.Logical l) (item.Report e ∷ []) (at.Logical new) made posts

  report : IsReport s t e
  report = known.front_ok.0.0

  here : zone_of s.sizes.zones e.at.0 ≡ l.zone
  here = let to = known.front_ok.0.1 in let number = known.own.number_is in omega (arith, to, number)

  -- Nobody waits for it.
  keeps_kept : settling_of e.request l.settling ≡ None → AfterReport (record l { reported = l.reported ++ e ∷ [] }) [] []
  keeps_kept none =
      let k = known.own in
      act_none known (record {
        number_is = k.number_is;
        lists = record {
          places_is = k.lists.places_is;
          next_is = k.lists.next_is;
          slots_are = k.lists.slots_are;
          below = k.lists.below;
          tree_is = k.lists.tree_is;
          reports_are = every-append (ReportOk s t l.zone) l.reported (e ∷ []) k.lists.reports_are ((report, here), tt);
        };
        sound = record { among = k.sound.among; map = k.sound.map; locks = k.sound.locks; pages = k.sound.pages; reports = still_waiting l.zone l.reported e l.settling none k.sound.reports };
        kept = k.kept;
        answers = k.answers;
        told = k.told;
      }) tt

  -- A request waits for it: its slot is set.
  module _ (v : Vio) (found : settling_of e.request l.settling ≡ Some v) where
    waits : KeptOk s t phase.Settle v × (v.request ≡ e.request)
    waits = settling_has s.sizes (KeptOk s t phase.Settle) e.request l.settling v found known.own.kept.2

    awaits : AwaitsReport l.zone l.reported v
    awaits = (settling_has s.sizes (AwaitsReport l.zone l.reported) e.request l.settling v found known.own.sound.reports).0

    facts : IsEntered s t v × IsCommitted t (remapping v) × AllBelow t v.at.0 v.place × OnBlock (λ x. IsDataBlock s.sizes.geometry x.0 × Contains (added t) (Remaps (remapping v))) v.new × IsLeafy s t v.at.0
    facts = subst (CarriesFor s t v phase.Settle) awaits.own (carries_at s t v phase.Settle waits.0.2 waits.0.1)

    own : e ≡ remapping v
    own = own_report s t l.zone v e known.right facts.0 (report, here) (subst (λ (w : Writer). same_writer e.request w ≡ true) (sym waits.1) (same_self e.request))

    home : zone_of s.sizes.zones v.at.0 ≡ l.zone
    home = ap (λ (f : Remapping). zone_of s.sizes.zones f.at.0) (sym own) ∙ here

    leased : Leased l v
    leased = known.settling_leased l e refl refl v found

    drawn_here : v.place < l.next
    drawn_here = drawn_before s t n l known.session known.right known.own v leased home

    abbrev set : Remapping
    set = remapping v

    abbrev set_t : Trace
    set_t = Sets (Remaps set) ∷ t

    abbrev left : LogicalZone
    left = record l { settling = without_settling e.request l.settling }

    -- it weighs in the zone's line, and the others weigh nothing for its request and its address
    split : (k : Key) → line_of s k (kept_by (at.Logical l)) ≡ (token_of s.sizes k).item (item.Request v) + line_of s k (kept_by (at.Logical left))
    split k =
        let f : Vio → ℕ = λ u. (token_of s.sizes k).item (item.Request u) in
        let taken = settling_taken s.sizes e.request f l.settling v found in
        omega (arith, taken, total-append f l.waiting (l.lacking ++ l.settling), total-append f l.lacking l.settling, total-append f l.waiting (l.lacking ++ left.settling), total-append f l.lacking left.settling)

    holds_address : (token_of s.sizes (OfAddress v.at.0)).item (item.Request v) ≡ 1
    holds_address = holder_one v (rw (waits.0.2) refl)

    clears : Clears s n (Reached s t (at.Logical l) (item.Report e ∷ [])) (Sets (Remaps set)) t
    clears = record {
      zone = known.own.number_is ∙ ap logical_number (sym home);
      request = in_line (let one = own_name v in omega (arith, split (OfRequest v.request), one));
      address = in_line (omega (arith, split (OfAddress v.at.0), holds_address));
      page = tt;
      block = λ x. inr (λ inside. tt);
      journal = inr (plain_journal s t (Sets (Remaps set)) tt);
    }

    others_spared : (k : Key) → (line_of s k (kept_by (at.Logical left)) ≡ 0) ⊎ Spares s t (Sets (Remaps set)) k
    others_spared (OfRequest w) = elim (same_tells v.request w) [
      | inl same ↦ inl (subst (λ (x : Writer). line_of s (OfRequest x) (kept_by (at.Logical left)) ≡ 0) same.1 (let most = known.most (OfRequest v.request) in let one = own_name v in omega (arith, split (OfRequest v.request), one, most)))
      | inr other ↦ inr other.0
    ]
    others_spared (OfAddress a) = elim (eqb_tells v.at.0 a) [
      | inl same ↦ inl (subst (λ (b : ℕ). line_of s (OfAddress b) (kept_by (at.Logical left)) ≡ 0) same.1 (let most = known.most (OfAddress v.at.0) in omega (arith, split (OfAddress v.at.0), holds_address, most)))
      | inr other ↦ inr other.1
    ]
    others_spared (OfBlock x) = inr (λ inside. tt)
    others_spared (OfPage page) = inr tt
    others_spared OfJournal = inr (plain_journal s t (Sets (Remaps set)) tt)

    right_set : RightTrace s set_t
    right_set = (
      record {
        is_open = waits.0.0.is_open;
        is_committed = facts.1;
        below = facts.2;
        unaborted = facts.0.unaborted;
        leaf = facts.4;
        counted = on_each v.new (λ x to both. both.1) facts.3;
        reported = on_any v.old (λ x. subst (IsReported t) own report.reported);
      },
      shown_plain s t (Sets (Remaps set)) tt (shown_of s t known.right),
      known.right,
    )

    quiet_set : Quiet set_t v.at.0
    quiet_set = record { all_committed = facts.1.all_committed; all_done = facts.1.last ∙ sym (of_same set (done t)) }

    below_set : AllBelow set_t v.at.0 (v.place + 1)
    below_set =
        let more = below_more t v.at.0 v.place (v.place + 1) (omega arith) facts.2 in
        record { writes = ((λ same. omega arith), more.writes); reads = more.reads }

    slot_ok : DataOk s set_t n (at.Logical (with_slot left v))
    slot_ok =
        let k = known.own in
        record {
          number_is = k.number_is;
          lists = record {
            places_is = k.lists.places_is;
            next_is = k.lists.next_is;
            slots_are = λ a zone. rw (k.lists.slots_are a zone) refl;
            below = λ a zone. let old = k.lists.below a zone in record { writes = ((λ same. drawn_here), old.writes); reads = old.reads };
            tree_is = same_tree s l.zone l.tree t set_t (λ page. refl) k.lists.tree_is;
            reports_are = reports_on s (Sets (Remaps set)) t l.zone l.reported k.lists.reports_are;
          };
          sound = record { among = k.sound.among; map = (on_each v.new (λ x to both. both.0) facts.3, k.sound.map); locks = k.sound.locks; pages = k.sound.pages; reports = others_have (AwaitsReport l.zone l.reported) e.request l.settling k.sound.reports };
          kept = kept_each s (Sets (Remaps set)) t (at.Logical left) others_spared (k.kept.0, k.kept.1, others_have (KeptOk s t phase.Settle) e.request l.settling k.kept.2);
          answers = (
            λ a zone free alive. elim (eqb_tells v.at.0 a) [
              | inl same ↦ subst (λ (b : ℕ). Quiet set_t b) same.1 quiet_set
              | inr other ↦ quiet_kept (Sets (Remaps set)) t a other.1 (k.answers.0 a zone free alive)
            ],
            k.answers.1,
          );
          told = k.told;
        }

    settles_kept : AfterReport (settled left v) (Sets (Remaps set) ∷ []) (settled_posts l v)
    settles_kept =
        let both = release_ok s set_t n (with_slot left v) known.session right_set slot_ok v leased home quiet_set below_set in
        record {
          right = right_set;
          gives = λ f fair. f (fair_before s (Sets (Remaps set)) t fair);
          owns = (clears, tt);
          own = both.0;
          posts_ok = (
            (omega arith, (vio_over s (Sets (Remaps set)) t v refl waits.0.0, carries_own s set_t (ended phase.Reply reply.Ok v) phase.Reply awaits.own (done_earned s set_t (mark_of_vio v) v.asks v.at v.bytes facts.0.is_change (rw (same_self v.request) (some_is (Some set) set refl))), refl, claim_at s v phase.Settle waits.0.2 waits.0.3)),
            both.1,
          );
        }

  pub logical_hears : (new : LogicalZone) (made : Trace) (posts : List Post) → LogicalHears s.sizes l e new made posts → AfterReport new made posts
  logical_hears new made posts (LogicalHears.keeps none i m q) = rw (i, m, q) (keeps_kept none)
  logical_hears new made posts (LogicalHears.settles v found i m q) = rw (i, happens_with (λ x. Sets x) made (logged v) _ m (logged_own v (awaits v found).own), q) (settles_kept v found)
