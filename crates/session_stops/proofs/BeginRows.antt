-- The beginning of a session: for each clause a small case that it accepts, and one that it refuses. The image is an empty one
-- of the default sizes.
use Rattle.std.proofs.Common.{ℕ, ◌≡◌, ◌+◌, ◌<◌, ◌^◌, true, false, IsTrue, List, [], ◌∷◌, length, Result, Ok, refl, sym, ◌∙◌, ap, subst, inl, inr, arith}
use Rattle.blk_base.specs.declared.geometry.Super.{Super}
use Rattle.blk_base.specs.declared.journal_entry.CommittedEntry.{CommittedEntry}
use Rattle.blk_base.specs.Forms.{pbn}
use Rattle.disk_model.specs.declared.call.Call.{Call}
use Rattle.disk_model.specs.declared.call.Call.TheVariants.{Write, Flush}
use Rattle.disk_model.specs.Images.{HasOneImage}
use Rattle.disk_model.specs.Log.{Blocks, block_at}
use Rattle.disk_model.proofs.OneImageLaws.{one_image-is_image, one_image-opening}
use Rattle.disk_model.proofs.LookedLaws.{one_in-all}
use Rattle.image_layout.specs.Opened.{super_of_image}
use Rattle.image_layout.specs.Superblock.{super_block, super_of}
use Rattle.image_layout.specs.declared.fault.SuperFault.{SuperFault}
use Rattle.image_model.specs.Empty.{IsEmpty, empty_super}
use Rattle.image_model.specs.Maps.{value_of}
use Rattle.image_model.specs.Sound.{IsSound}
use Rattle.image_model.proofs.EmptyLaws.{is_sound}
use Rattle.image_model.proofs.Example.{small}
use Rattle.image_model.specs.Looked.{looked_in}
use Rattle.image_model.proofs.LookedLaws.{looked_low}
use Rattle.recovery_laws.proofs.SuperLaws.{first_of_image, room_of_image}
use Rattle.recovery_laws.specs.Kept.{image_in}
use Rattle.session_stops.specs.Beginnings.{HeadStands, IsAsOpened, IsBeginning, IsHeadOf, IsToServe, head_in, opened_in}
use Rattle.session_stops.proofs.BeginLaws.{begins_with, beginning_goes_on, head_is_read, image_is_as_opened}

module _ (blocks : Blocks) (empty : IsEmpty small blocks) (whole : (b : ℕ) → b < length blocks → length (block_at blocks b) ≡ 4096) where
  -- An image to serve.

  pub sound : IsSound blocks
  sound = is_sound small blocks empty

  pub head_is : sound.head ≡ empty_super small
  head_is = let said = sound.opens.accepted in let made = empty.accepted in cc (said, made)

  pub to_serve : IsToServe blocks
  to_serve = record {
    sound = sound;
    clean = subst (λ (head : Super). IsTrue head.clean) (sym head_is) refl;
    late = let start = ap (λ (head : Super). head.start) head_is in omega (arith, start);
    named = let nonce = ap (λ (head : Super). head.geometry.nonce) head_is in omega (arith, nonce);
  }

  pub head_of_serve : to_serve.sound.head ≡ empty_super small
  unfolding to_serve
  head_of_serve = head_is

  pub one : HasOneImage blocks [] blocks
  one = one_image-opening blocks whole

  some_blocks : 0 < length blocks
  some_blocks = let room = room_of_image blocks (empty_super small) empty.accepted in omega (arith, room)

  -- Bytes of its superblock: as it was opened, or as the session has it; not with another first sequence.

  opened_head : IsHeadOf blocks to_serve (block_at blocks 0)
  opened_head = inl (sym (first_of_image blocks some_blocks) ∙ to_serve.sound.opens.accepted)

  session_head : IsHeadOf blocks to_serve (super_block (head_in blocks to_serve))
  session_head = inr (head_is_read blocks to_serve)

  abbrev start : ℕ
  start = to_serve.sound.head.start

  starts : (one other : Super) → ◌≡◌ {A = Result Super SuperFault} (Ok one) (Ok other) → one.start ≡ other.start
  starts one other is = let same : one ≡ other = cc is in ap (λ (h : Super). h.start) same

  other_head : (content : List ℕ) (head : Super) → super_of content (length blocks) ≡ Ok head → head.start ≡ start + 1 → IsHeadOf blocks to_serve content → ⊥
  other_head content head is late (inl was) = let same = starts head to_serve.sound.head (sym is ∙ was) in omega (arith, same, late)
  other_head content head is late (inr now) = let same = starts head (head_in blocks to_serve) (sym is ∙ now) in omega (arith, same, late)

  -- It begins, and goes on with a write of the session's superblock that fails.

  beginning : IsBeginning blocks [] blocks to_serve
  beginning = begins_with blocks to_serve blocks [] (one_in-all (looked_in blocks) blocks [] blocks one)

  tried : IsBeginning blocks (Write (pbn 0) (super_block (head_in blocks to_serve)) false ∷ []) blocks to_serve
  tried = beginning_goes_on blocks to_serve blocks [] (Write (pbn 0) (super_block (head_in blocks to_serve)) false) (λ same. session_head) (λ b behind same. omega (arith, same, behind)) beginning

  -- not on a device of another size, not where another block was written to, and not with another superblock
  other_size : IsBeginning [] [] blocks to_serve → ⊥
  other_size is = let size = is.size in let some = some_blocks in omega (arith, size, some)

  other_block : IsBeginning blocks (Write (pbn 5) (7 ∷ []) false ∷ []) blocks to_serve → ⊥
  other_block is =
      let room = room_of_image blocks (empty_super small) empty.accepted in
      let here = whole 5 (omega (arith, room)) in
      let same = ap length (is.others 5 (omega arith) (omega (arith, room)) (looked_low to_serve.sound.head.geometry 5 (omega arith))).0 in omega (arith, same, here)

  other_super : (content : List ℕ) → (IsHeadOf blocks to_serve content → ⊥) → IsBeginning blocks (Write (pbn 0) content false ∷ []) blocks to_serve → ⊥
  other_super content other is = other is.super.0

  -- The session's superblock stands once it was written and flushed, and neither before that nor between.

  abbrev pub log_opened : List Call
  log_opened = Flush true ∷ Write (record { 0 = 0 }) (super_block (head_in blocks to_serve)) true ∷ []

  stands : HeadStands blocks log_opened blocks to_serve
  stands = (refl, tt)

  other_bytes : (to : IsToServe blocks) → block_at blocks 0 ≡ super_block (head_in blocks to) → ⊥
  other_bytes to same =
      let said : super_of_image blocks ≡ Ok (head_in blocks to) = first_of_image blocks some_blocks ∙ ap (λ (bytes : List ℕ). super_of bytes (length blocks)) same ∙ head_is_read blocks to in
      let made = empty.accepted in
      let same : empty_super small ≡ head_in blocks to = cc (said, made) in
      let open_yet : true ≡ false = ap (λ (head : Super). head.clean) same in absurd (cc open_yet)

  pub not_yet : (to : IsToServe blocks) → HeadStands blocks [] blocks to → ⊥
  not_yet to stands = other_bytes to stands.0

  not_flushed : HeadStands blocks (Write (record { 0 = 0 }) (super_block (head_in blocks to_serve)) true ∷ []) blocks to_serve → ⊥
  not_flushed stands = other_bytes to_serve stands.1.0

  -- What such an image is: as it was opened.

  as_opened : IsAsOpened blocks to_serve blocks
  as_opened = image_is_as_opened blocks to_serve blocks [] beginning blocks (one_image-is_image blocks [] blocks one)

  -- not with another superblock, last sequence or window, and not where an address has another value
  later_start : (now : Blocks) (is : IsAsOpened blocks to_serve now) → is.sound.head.start ≡ start + 1 → ⊥
  later_start now is late = elim is.head [
    | inl was ↦ (let same = ap (λ (h : Super). h.start) was in omega (arith, same, late))
    | inr yet ↦ (let same = ap (λ (h : Super). h.start) yet in omega (arith, same, late))
  ]

  later_last : (now : Blocks) (is : IsAsOpened blocks to_serve now) → is.sound.last ≡ to_serve.sound.last + 1 → ⊥
  later_last now is late = let same = is.last in omega (arith, same, late)

  with_entry : (now : Blocks) (is : IsAsOpened blocks to_serve now) (c : CommittedEntry) → is.sound.window ≡ c ∷ [] → ⊥
  with_entry now is c some = let none = sym some ∙ is.window ∙ (to_serve.sound.closed to_serve.clean).window in absurd (cc none)

  other_value : (now : Blocks) (is : IsAsOpened blocks to_serve now) (address : ℕ) → (value_of (image_in now is.sound) address ≡ value_of (opened_in blocks to_serve) address → ⊥) → ⊥
  other_value now is address differs = differs (is.same.values address)

-- An image that isn't to be served: one that wasn't closed, one whose sequences are used up, and one whose nonce is no number
-- of 64 bits.

unclosed : (blocks : Blocks) (head : Super) → super_of_image blocks ≡ Ok head → head.clean ≡ false → IsToServe blocks → ⊥
unclosed blocks head is open_yet to =
    let accepted = to.sound.opens.accepted in
    let same : to.sound.head ≡ head = cc (is, accepted) in
    let clean : to.sound.head.clean ≡ false = ap (λ (h : Super). h.clean) same ∙ open_yet in
    let closed = to.clean in
    let never : IsTrue false = subst IsTrue clean closed in absurd (cc never)

-- the last first sequence that leaves a session its sequences, and the greatest nonce
last_to_serve : (blocks : Blocks) (sound : IsSound blocks) → IsTrue sound.head.clean → sound.head.start + 2 ^ 19 ≡ 2 ^ 54 → sound.head.geometry.nonce + 1 ≡ 2 ^ 64 → IsToServe blocks
last_to_serve blocks sound clean start nonce = record { sound = sound; clean = clean; late = omega (arith, start); named = omega (arith, nonce) }

used_up : (blocks : Blocks) (to : IsToServe blocks) → to.sound.head.start + 2 ^ 19 ≡ 2 ^ 54 + 1 → ⊥
used_up blocks to late = let early = to.late in omega (arith, early, late)

not_named : (blocks : Blocks) (to : IsToServe blocks) → to.sound.head.geometry.nonce ≡ 2 ^ 64 → ⊥
not_named blocks to high = let low = to.named in omega (arith, low, high)

-- and one with a block that is too short doesn't begin
too_short : (opening : Blocks) (log : List Call) (base : Blocks) (to : IsToServe base) (b : ℕ) → b < length base → length (block_at base b) ≡ 512 → IsBeginning opening log base to → ⊥
too_short opening log base to b below short is = let long = is.whole b below in omega (arith, long, short)
