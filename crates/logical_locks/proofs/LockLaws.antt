-- What the code makes of the lists when an address is let go, and what each call keeps.
use Rattle.std.specs.Prelude.{ℕ, ◌≡◌, ◌==◌, Bool, List, [], ◌∷◌, ◌++◌, position, None, Some}
use Rattle.std.specs.List.{remove}
use Rattle.std.proofs.Common.{ap, ◌∙◌, sym, subst, get_or}
use Rattle.std.proofs.lemmas.Bool.{eqb-true}
use Rattle.plain_laws.proofs.FirstLaws.{find-position, find-nowhere, find-passes, remove-position}
use Rattle.blk_base.specs.declared.place.Lba.{Lba}
use Rattle.logical_locks.specs.Holders.{Holders, HoldsNext, Frees, without, lock_of}
use Rattle.logical_locks.specs.declared.lock.Lock.{Lock}
use Rattle.logical_locks.specs.declared.waiter.Waiter.{Waiter}

module _ {V : Type 0} where
  -- the test by which the code looks for a waiter
  abbrev pub waits_for : Lba → Waiter V → Bool
  waits_for at waiter = waiter.at.0 == at.0

  pub frees : (room next : ℕ) (held left : List Lock) (waiting seen : List (Waiter V)) (at : Lba) (locks : Holders V)
      → record { room = room; next = next; held = held; waiting = waiting } ≡ locks → left ≡ without at held
      → seen ≡ waiting → None ≡ position (waits_for at) seen
      → Frees locks (record { room = room; next = next; held = left; waiting = waiting }) at
  frees room next held left waiting seen at locks is less same none =
      subst (λ (known : Holders V). Frees known (record { room = room; next = next; held = left; waiting = waiting }) at) is
      (record {
        none_waits = find-nowhere (waits_for at) waiting (ap (λ (ws : List (Waiter V)). position (waits_for at) ws) (sym same) ∙ sym none);
        free = ap (λ (ls : List Lock). record { room = room; next = next; held = ls; waiting = waiting }) less;
      })

  pub holds_next : (room next : ℕ) (held less more : List Lock) (waiting seen left : List (Waiter V)) (place : ℕ) (at : Lba) (gone : Waiter V) (locks : Holders V)
      → record { room = room; next = next; held = held; waiting = waiting } ≡ locks → less ≡ without at held
      → seen ≡ waiting → Some place ≡ position (waits_for at) seen → gone ≡ get_or waiting place gone → left ≡ remove waiting place
      → more ≡ less ++ lock_of gone ∷ []
      → HoldsNext locks (record { room = room; next = next; held = more; waiting = left }) (record { at = at; place = gone.place; vio = gone.vio })
  holds_next room next held less more waiting seen left place at gone locks is fewer same found read cut added =
      let placed : position (waits_for at) waiting ≡ Some place = ap (λ (ws : List (Waiter V)). position (waits_for at) ws) (sym same) ∙ sym found in
      let first = find-position (waits_for at) waiting place gone placed read in
      let address : gone.at ≡ at = ap (λ (n : ℕ). record { 0 = n }) (eqb-true gone.at.0 at.0 (find-passes (waits_for at) waiting gone first)) in
      let whole : gone ≡ record { at = at; place = gone.place; vio = gone.vio } = ap (λ (a : Lba). record { at = a; place = gone.place; vio = gone.vio }) address in
      subst (λ (known : Holders V). HoldsNext known (record { room = room; next = next; held = more; waiting = left }) (record { at = at; place = gone.place; vio = gone.vio })) is
      (record {
        first = first ∙ ap (λ (w : Waiter V). Some w) whole;
        now_held = ap (λ (ls : List Lock). record { room = room; next = next; held = ls; waiting = left })
            (added ∙ ap (λ (ls : List Lock). ls ++ lock_of gone ∷ []) fewer ∙ ap (λ (w : Waiter V). without at held ++ lock_of w ∷ []) whole)
            ∙ ap (λ (ws : List (Waiter V)). record { room = room; next = next; held = without at held ++ record { at = at; place = gone.place } ∷ []; waiting = ws })
            (cut ∙ remove-position (waits_for at) waiting place placed);
      })
