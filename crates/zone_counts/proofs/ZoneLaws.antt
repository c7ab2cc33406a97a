-- What the calls of a zone keep.
use Rattle.std.specs.Prelude.{ℕ, ◌≡◌, ◌≢◌, ◌+◌, ◌*◌, ◌<◌, min, List, length, Option, None, Some, Bool, false, not, All, position, ◌==◌}
use Rattle.std.specs.List.{remove}
use Rattle.std.proofs.Common.{sym, ◌∙◌, ap, subst, arith, inl, inr, refl, get_or, set, get_or-set_same, get_or-set_other}
use Rattle.std.proofs.lemmas.Bool.{cases_eq, false≢true}
use Rattle.std.proofs.lemmas.List.Quantifiers.{position-Some}
use Rattle.std.proofs.lemmas.List.{length-set, get_or_default}
use Rattle.blk_base.specs.declared.geometry.Geometry.{Geometry}
use Rattle.blk_base.specs.declared.place.Pbn.{Pbn}
use Rattle.slab_counts.specs.Counts.{Counts, IsOfSlab, IsFree, HasNoFree, ClaimsFree}
use Rattle.slab_counts.specs.Kept.{IsWithin}
use Rattle.slab_counts.specs.Operations.{FreeClaimed}
use Rattle.plain_laws.proofs.FirstLaws.{find-nowhere, find-none, remove-position, All-but_first}
use Rattle.slab_counts.specs.declared.tickets.Ticket.{Ticket}
use Rattle.slab_tickets.specs.declared.forms.Waiting.{Waiting}
use Rattle.slab_tickets.specs.declared.forms.Withdrawn.{Withdrawn}
use Rattle.slab_tickets.specs.Tickets.{Desk, Withdraws, is_served}
use Rattle.zone_counts.specs.Zone.{Zone, IsZone, nowhere, slab_at, AreSlabs, NoneBefore, NoneFree, ClaimsLowest, Serves, IsSettled}
use Rattle.zone_counts.proofs.SlabLaws.{IsStill, IsBusier, still, none_left}

module _ (slabs : List Counts) (k : ℕ) (c : Counts) (inside : k < length slabs) where
  here : slab_at (set slabs k c) k ≡ c
  here = get_or-set_same slabs k c nowhere inside

  other : (j : ℕ) → j ≢ k → slab_at (set slabs k c) j ≡ slab_at slabs j
  other j differs = get_or-set_other slabs k j c nowhere differs

  pub slabs_set : (g : Geometry) (zone zones : ℕ) → AreSlabs g zone zones slabs → IsStill (slab_at slabs k) c → AreSlabs g zone zones (set slabs k c)
  slabs_set g zone zones are is = record {
    sizes = are.sizes;
    number = are.number;
    all = λ n below own. omega (arith, are.all n below own, length-set slabs k c);
    each = λ j below.
        let below' : j < length slabs = omega (arith, below, length-set slabs k c) in
        let old = are.each j below' in
        elim (cases_eq j k) [
          | inl same ↦
              let at_k = are.each k inside in
              let now : slab_at (set slabs k c) j ≡ c = ap (λ (n : ℕ). slab_at (set slabs k c) n) same ∙ here in (
                ap (λ (x : Counts). x.slab) now ∙ is.slab ∙ at_k.0 ∙ ap (λ (n : ℕ). n * zones + zone) (sym same),
                ap (λ (x : Counts). x.geometry) now ∙ is.geometry ∙ at_k.1,
                subst (λ (x : Counts). IsWithin x) (sym now) is.within,
              )
          | inr differs ↦
              let now = other j differs in
              (ap (λ (x : Counts). x.slab) now ∙ old.0, ap (λ (x : Counts). x.geometry) now ∙ old.1, subst (λ (x : Counts). IsWithin x) (sym now) old.2)
        ];
  }

  pub before_set : (cursor : ℕ) → NoneBefore slabs cursor → NoneBefore (set slabs k c) (min cursor k)
  before_set cursor none j below =
      let differs : j ≢ k = λ same. omega (arith, below, same) in
      subst (λ (x : Counts). HasNoFree x) (sym (other j differs)) (none j (omega (arith, below)))

  pub before_kept : (cursor : ℕ) → (HasNoFree (slab_at slabs k) → HasNoFree c) → NoneBefore slabs cursor → NoneBefore (set slabs k c) cursor
  before_kept cursor keeps none j below = elim (cases_eq j k) [
    | inl same ↦
        subst (λ (x : Counts). HasNoFree x) (sym (ap (λ (n : ℕ). slab_at (set slabs k c) n) same ∙ here))
        (keeps (subst (λ (n : ℕ). HasNoFree (slab_at slabs n)) same (none j below)))
    | inr differs ↦ subst (λ (x : Counts). HasNoFree x) (sym (other j differs)) (none j below)
  ]

  pub free_kept : (HasNoFree (slab_at slabs k) → HasNoFree c) → NoneFree slabs → NoneFree (set slabs k c)
  free_kept keeps none j below =
      let below' : j < length slabs = omega (arith, below, length-set slabs k c) in
      elim (cases_eq j k) [
        | inl same ↦
            subst (λ (x : Counts). HasNoFree x) (sym (ap (λ (n : ℕ). slab_at (set slabs k c) n) same ∙ here))
            (keeps (subst (λ (n : ℕ). HasNoFree (slab_at slabs n)) same (none j below')))
        | inr differs ↦ subst (λ (x : Counts). HasNoFree x) (sym (other j differs)) (none j below')
      ]

  pub settled_kept : (desk : Desk) → (HasNoFree (slab_at slabs k) → HasNoFree c) → IsSettled slabs desk → IsSettled (set slabs k c) desk
  settled_kept desk keeps settled = elim settled [ inl served ↦ inl served | inr none ↦ inr (free_kept keeps none) ]

  -- the slab's one free block goes to the oldest ticket that waits
  pub settled_again : (desk : Desk) (slabs' : List Counts) (desk' : Desk) (at : Pbn) → IsWithin c → (HasNoFree (slab_at slabs k) → (b : Pbn) → IsOfSlab c b → IsFree c b → b.0 ≡ at.0)
      → IsSettled slabs desk → Serves (set slabs k c) desk slabs' desk' → IsSettled slabs' desk'
  settled_again desk slabs' desk' at within only settled (inl (quiet, same, same')) = rw (same, same') quiet
  settled_again desk slabs' desk' at within only (inl served) (inr serves) = let is = serves.gives.oldest in cc
  settled_again desk slabs' desk' at within only (inr none) (inr serves) =
      let claims = serves.claims in
      let mid = set slabs k c in
      let p = claims.place in
      let inside_p : p < length slabs = omega (arith, claims.inside, length-set slabs k c) in
      let at_k : p ≡ k = elim (cases_eq p k) [
        | inl same ↦ same
        | inr differs ↦ absurd (subst (λ (x : Counts). HasNoFree x) (sym (other p differs)) (none p inside_p) serves.block claims.claims.of_slab claims.claims.free)
      ] in
      let found : ClaimsFree c claims.slab serves.block
      = subst (λ (x : Counts). ClaimsFree x claims.slab serves.block) (ap (λ (n : ℕ). slab_at mid n) at_k ∙ here) claims.claims in
      let left = none_left c claims.slab at serves.block within (only (none k inside)) found in
      inr (subst (λ (xs : List Counts). NoneFree xs) (sym claims.after) (λ j below.
      elim (cases_eq j p) [
        | inl same ↦
            subst (λ (x : Counts). HasNoFree x) (sym (ap (λ (n : ℕ). slab_at (set mid p claims.slab) n) same ∙ get_or-set_same mid p claims.slab nowhere claims.inside)) left
        | inr differs ↦
            let below' : j < length slabs = omega (arith, below, length-set mid p claims.slab, length-set slabs k c) in
            let not_k : j ≢ k = λ same. differs (omega (arith, same, at_k)) in
            subst (λ (x : Counts). HasNoFree x) (sym (get_or-set_other mid p j claims.slab nowhere differs ∙ other j not_k)) (none j below')
      ]))

pub slabs_claimed : (g : Geometry) (zone zones : ℕ) (slabs slabs' : List Counts) (at : Pbn) → AreSlabs g zone zones slabs → ClaimsLowest slabs slabs' at → AreSlabs g zone zones slabs'
slabs_claimed g zone zones slabs slabs' at are claims =
    subst (λ (xs : List Counts). AreSlabs g zone zones xs) (sym claims.after)
    (slabs_set slabs claims.place claims.slab claims.inside g zone zones are (still (FreeClaimed at) _ claims.slab (are.each claims.place claims.inside).2 claims.claims))

pub slabs_served : (g : Geometry) (zone zones : ℕ) (slabs : List Counts) (desk : Desk) (slabs' : List Counts) (desk' : Desk) → AreSlabs g zone zones slabs → Serves slabs desk slabs' desk' → AreSlabs g zone zones slabs'
slabs_served g zone zones slabs desk slabs' desk' are (inl (quiet, same, same')) = rw same are
slabs_served g zone zones slabs desk slabs' desk' are (inr serves) = slabs_claimed g zone zones slabs slabs' serves.block are serves.claims

pub desk_served : (slabs : List Counts) (desk : Desk) (slabs' : List Counts) (desk' : Desk) → Serves slabs desk slabs' desk' → desk'.zone ≡ desk.zone
desk_served slabs desk slabs' desk' (inl (quiet, same, same')) = ap (λ (d : Desk). d.zone) same'
desk_served slabs desk slabs' desk' (inr serves) = ap (λ (d : Desk). d.zone) serves.gives.after

-- what is kept of a zone where one slab got busier: the old slab is as it was read
module _ (z : Zone) (cursor k : ℕ) (s c : Counts) (is : IsZone z) (below : NoneBefore z.slabs cursor) (inside : k < length z.slabs) (read : s ≡ get_or z.slabs k s) where
  pub read_as : s ≡ slab_at z.slabs k
  read_as = read ∙ get_or_default z.slabs k s nowhere inside

  pub within_read : IsWithin s
  within_read = subst (λ (x : Counts). IsWithin x) (sym read_as) (is.slabs.each k inside).2

  pub busier : IsBusier s c → IsZone (record z { slabs = set z.slabs k c }) × NoneBefore (set z.slabs k c) cursor
  busier change =
      let change' : IsBusier (slab_at z.slabs k) c = subst (λ (x : Counts). IsBusier x c) read_as change in (
        record {
          slabs = slabs_set z.slabs k c inside z.geometry z.zone z.zones is.slabs change'.still;
          desk = is.desk;
          settled = settled_kept z.slabs k c inside z.desk change'.keeps is.settled;
        },
        before_kept z.slabs k c inside cursor change'.keeps below,
      )

  -- and where a block may have become free, and the oldest ticket was served
  pub served : (slabs' : List Counts) (desk' : Desk) (at : Pbn) → IsStill s c → (HasNoFree s → (b : Pbn) → IsOfSlab c b → IsFree c b → b.0 ≡ at.0)
      → Serves (set z.slabs k c) z.desk slabs' desk' → IsZone (record z { slabs = slabs'; desk = desk' })
  served slabs' desk' at change only serves = record {
    slabs = slabs_served z.geometry z.zone z.zones (set z.slabs k c) z.desk slabs' desk'
        (slabs_set z.slabs k c inside z.geometry z.zone z.zones is.slabs (subst (λ (x : Counts). IsStill x c) read_as change)) serves;
    desk = desk_served (set z.slabs k c) z.desk slabs' desk' serves ∙ is.desk;
    settled = settled_again z.slabs k c inside z.desk slabs' desk' at change.within
        (subst (λ (x : Counts). HasNoFree x → (b : Pbn) → IsOfSlab c b → IsFree c b → b.0 ≡ at.0) read_as only) is.settled serves;
  }

-- a block was claimed at once
pub settled_claimed : (slabs slabs' : List Counts) (desk : Desk) (at : Pbn) → IsSettled slabs desk → ClaimsLowest slabs slabs' at → IsSettled slabs' desk
settled_claimed slabs slabs' desk at (inl quiet) claims = inl quiet
settled_claimed slabs slabs' desk at (inr none) claims = absurd (none claims.place claims.inside at claims.claims.of_slab claims.claims.free)

pub zone_claimed : (z : Zone) (slabs' : List Counts) (at : Pbn) → IsZone z → ClaimsLowest z.slabs slabs' at → IsZone (record z { slabs = slabs' })
zone_claimed z slabs' at is claims = record {
  slabs = slabs_claimed z.geometry z.zone z.zones z.slabs slabs' at is.slabs claims;
  desk = is.desk;
  settled = settled_claimed z.slabs slabs' z.desk at is.settled claims;
}

-- a ticket was withdrawn
none_of : (ws : List Waiting) (o : Option ℕ) → All (λ w. not (is_served w) ≡ false) ws → position (λ w. not (is_served w)) ws ≡ o → o ≡ None
none_of ws None all is = refl
none_of ws (Some i) all is =
    let any : Waiting = record { number = 0; asked = 0; writer = record { stream = 0; number = 0 }; block = None } in
    let found = position-Some (λ (w : Waiting). not (is_served w)) ws i any is in
    absurd (false≢true (sym (all i any found.0) ∙ found.1))

none_from : (ws : List Waiting) → All (λ w. not (is_served w) ≡ false) ws → position (λ w. not (is_served w)) ws ≡ None
none_from ws all = none_of ws (position (λ w. not (is_served w)) ws) all refl

pub zone_withdrawn : (z : Zone) (desk' : Desk) (ticket : Ticket) (result : Withdrawn) → IsZone z → Withdraws z.desk desk' ticket result → IsZone (record z { desk = desk' })
zone_withdrawn z desk' ticket result is did = record {
  slabs = is.slabs;
  desk = ap (λ (d : Desk). d.zone) did.after ∙ is.desk;
  settled = elim is.settled [
    | inl quiet ↦
        let test : Waiting → Bool = λ w. not (is_served w) in
        let served = find-none test z.desk.out (find-nowhere test z.desk.out quiet) in
        let left = subst (λ (ws : List Waiting). All (λ w. not (is_served w) ≡ false) ws) (sym (remove-position (λ (w : Waiting). w.number == ticket.number) z.desk.out did.place did.here))
        (All-but_first (λ (w : Waiting). w.number == ticket.number) (λ w. not (is_served w) ≡ false) z.desk.out served) in
        inl (ap (λ (d : Desk). position (λ w. not (is_served w)) d.out) did.after ∙ none_from (remove z.desk.out did.place) left)
    | inr none ↦ inr none
  ];
}
