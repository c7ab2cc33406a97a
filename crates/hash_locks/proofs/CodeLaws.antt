-- What the code makes of its lists is what a call does.
use Rattle.std.specs.Prelude.{ℕ, ◌≡◌, ◌<◌, Bool, true, false, List, [], ◌∷◌, ◌++◌, length, position, Option, None, Some, refl}
use Rattle.std.specs.List.{remove}
use Rattle.std.specs.Option.{option_map}
use Rattle.std.specs.Str.{bytes_eq}
use Rattle.std.proofs.Common.{ap, ◌∙◌, sym, subst, arith, get_or}
use Rattle.std.proofs.lemmas.Option.{same_Some}
use Rattle.plain_laws.proofs.FirstLaws.{find-position, find-nowhere, find-passes, All-find, remove-position, but_first-none}
use Rattle.hash_locks.specs.declared.role.Role.TheVariants.{Agent, Waits, Alone}
use Rattle.hash_locks.specs.declared.waiter.Waiter.{Waiter}
use Rattle.hash_locks.specs.LockedNames.{Sharing, Lock, lock_of, but_lock_of, first_for, lock_with, Arrives, Leaves, Frees, AreInOrder}
use Rattle.hash_locks.proofs.SharingLaws.{is_of, waits_for, same_bytes, differ, lock_of-less, IsMatched}

mapped : {X : Type 0} (o : Option X) (f : X → Bool) (b : Bool) → Some b ≡ option_map f o → (x : X) × (o ≡ Some x) × (f x ≡ b)
mapped None f b none = cc
mapped (Some x) f b some = (x, refl, sym (same_Some _ _ some))

unmapped : {X : Type 0} (o : Option X) (f : X → Bool) → None ≡ option_map f o → o ≡ None
unmapped None f none = refl
unmapped (Some x) f some = cc

-- what the code asks of a lock: whether it has these bytes
abbrev has : List ℕ → Lock → Bool
has bytes lock = bytes_eq lock.bytes bytes

pub none_found : {V : Type 0} (old known : Sharing V) → old ≡ known → (seen : List (Waiter V)) (name : List ℕ) → seen ≡ old.waiting
    → None ≡ position (waits_for name) seen → first_for name known.waiting ≡ None
none_found {V} old known is seen name same nowhere =
    find-nowhere (waits_for name) known.waiting
    (ap (λ (ws : List (Waiter V)). position (waits_for name) ws) (sym (same ∙ ap (λ (k : Sharing V). k.waiting) is)) ∙ sym nowhere)

module _ {V : Type 0} (bytes_of : V → List ℕ) where
  pub takes : (old known : Sharing V) → old ≡ known → (seen left : List Lock) (name shown bytes : List ℕ) (vio : V) → seen ≡ old.held → bytes ≡ bytes_of vio
      → None ≡ option_map (has shown) (lock_of name seen) → left ≡ old.held ++ record { name = name; bytes = bytes } ∷ []
      → Arrives bytes_of known (record old { held = left }) name vio (Agent vio)
  takes old known is seen left name shown bytes vio same own none added =
      rw (← is) (
        refl,
        ap (λ (ls : List Lock). lock_of name ls) (sym same) ∙ unmapped (lock_of name seen) (has shown) none,
        ap (λ (ls : List Lock). record old { held = ls }) (added ∙ ap (λ (b : List ℕ). old.held ++ record { name = name; bytes = b } ∷ []) own),
      )

  pub waits : (old known : Sharing V) → old ≡ known → (seen : List Lock) (left : List (Waiter V)) (name bytes : List ℕ) (vio : V) → seen ≡ old.held → bytes ≡ bytes_of vio
      → Some true ≡ option_map (has bytes) (lock_of name seen) → left ≡ old.waiting ++ record { name = name; vio = vio } ∷ []
      → Arrives bytes_of known (record old { waiting = left }) name vio Waits
  waits old known is seen left name bytes vio same own judged added =
      let (lock, found, alike) = mapped (lock_of name seen) (has bytes) true judged in
      let named : lock.name ≡ name = same_bytes lock.name name (find-passes (is_of name) seen lock found) in
      let whole : lock ≡ lock_with bytes_of name vio
      = ap (λ (n : List ℕ). record { name = n; bytes = lock.bytes }) named ∙ ap (λ (b : List ℕ). record { name = name; bytes = b }) (same_bytes lock.bytes bytes alike ∙ own) in
      rw (← is) (
        ap (λ (ls : List Lock). lock_of name ls) (sym same) ∙ found ∙ ap (λ (l : Lock). Some l) whole,
        ap (λ (ws : List (Waiter V)). record old { waiting = ws }) added,
      )

  pub goes_alone : (old known : Sharing V) → old ≡ known → (seen : List Lock) (name bytes : List ℕ) (vio : V) → seen ≡ old.held → bytes ≡ bytes_of vio
      → Some false ≡ option_map (has bytes) (lock_of name seen) → Arrives bytes_of known known name vio (Alone vio)
  goes_alone old known is seen name bytes vio same own judged =
      let (lock, found, apart) = mapped (lock_of name seen) (has bytes) false judged in
      rw (← is) (
        refl,
        (lock, ap (λ (ls : List Lock). lock_of name ls) (sym same) ∙ found, λ alike. differ lock.bytes bytes apart (alike ∙ sym own)),
        refl,
      )

  pub leaves : (old known : Sharing V) → old ≡ known → (seen left : List (Waiter V)) (place : ℕ) (name : List ℕ) (gone : Waiter V) → AreInOrder bytes_of old
      → seen ≡ old.waiting → Some place ≡ position (waits_for name) seen → gone ≡ get_or old.waiting place gone → left ≡ remove old.waiting place
      → Leaves bytes_of known (record old { waiting = left }) (record { name = name; vio = gone.vio })
  leaves old known is seen left place name gone order same found read cut =
      let placed : position (waits_for name) old.waiting ≡ Some place
      = ap (λ (ws : List (Waiter V)). position (waits_for name) ws) (sym same) ∙ sym found in
      let first = find-position (waits_for name) old.waiting place gone placed read in
      let named : gone.name ≡ name = same_bytes gone.name name (find-passes (waits_for name) old.waiting gone first) in
      subst (λ (k : Sharing V). Leaves bytes_of k (record old { waiting = left }) (record { name = name; vio = gone.vio })) is (record {
        first = first ∙ ap (λ (n : List ℕ). Some (record { name = n; vio = gone.vio })) named;
        left = ap (λ (ws : List (Waiter V)). record old { waiting = ws }) (cut ∙ remove-position (waits_for name) old.waiting place placed);
        bytes = subst (λ (n : List ℕ). lock_of n old.held ≡ Some (record { name = n; bytes = bytes_of gone.vio })) named
            (All-find (waits_for name) (IsMatched bytes_of old.held) old.waiting gone order.matched first);
      })

  pub oldest_leaves : (old : Sharing V) (left : List (Waiter V)) (gone : Waiter V) → 0 < length old.waiting → gone ≡ get_or old.waiting 0 gone
      → left ≡ remove old.waiting 0 → old ≡ record old { waiting = gone ∷ left }
  oldest_leaves old left gone some read cut = ap (λ (ws : List (Waiter V)). record old { waiting = ws }) (parts old.waiting left gone some read cut)
    where
      parts : (waiting left : List (Waiter V)) (gone : Waiter V) → 0 < length waiting → gone ≡ get_or waiting 0 gone → left ≡ remove waiting 0 → waiting ≡ gone ∷ left
      parts [] left gone some read cut = absurd (omega arith)
      parts (first ∷ rest) left gone some read cut = ap (λ (w : Waiter V). w ∷ rest) (sym read) ∙ ap (λ (ws : List (Waiter V)). gone ∷ ws) (sym cut)

  pub frees : (old known : Sharing V) → old ≡ known → (seen left : List Lock) (place : ℕ) (name : List ℕ) → AreInOrder bytes_of old
      → first_for name known.waiting ≡ None → seen ≡ old.held → Some place ≡ position (is_of name) seen → left ≡ remove old.held place
      → Frees known (record old { held = left }) name
  frees old known is seen left place name order none same found cut =
      let placed : position (is_of name) old.held ≡ Some place = ap (λ (ls : List Lock). position (is_of name) ls) (sym same) ∙ sym found in
      let less : left ≡ but_lock_of name old.held = cut ∙ remove-position (is_of name) old.held place placed in
      subst (λ (k : Sharing V). Frees k (record old { held = left }) name) is (record {
        none_waits = ap (λ (k : Sharing V). first_for name k.waiting) is ∙ none;
        less = ap (λ (ls : List Lock). record old { held = ls }) less;
        gone = ap (λ (ls : List Lock). lock_of name ls) less ∙ lock_of-less name old.held order.distinct;
      })

  pub frees_none : (old known : Sharing V) → old ≡ known → (seen : List Lock) (name : List ℕ) → first_for name known.waiting ≡ None → seen ≡ old.held
      → None ≡ position (is_of name) seen → Frees known known name
  frees_none old known is seen name none same nowhere =
      let gone : lock_of name old.held ≡ None = find-nowhere (is_of name) old.held (ap (λ (ls : List Lock). position (is_of name) ls) (sym same) ∙ sym nowhere) in
      subst (λ (k : Sharing V). Frees k k name) is (record {
        none_waits = ap (λ (k : Sharing V). first_for name k.waiting) is ∙ none;
        less = ap (λ (ls : List Lock). record old { held = ls }) (sym (but_first-none (is_of name) old.held gone));
        gone = gone;
      })
