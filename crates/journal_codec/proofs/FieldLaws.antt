-- The fields of entries and heads, as they are read back.
use Rattle.std.specs.Prelude.{ℕ, ◌≡◌, ◌≢◌, ◌<◌, ◌^◌, List, [], ◌∷◌, ◌++◌, take, drop, refl}
use Rattle.std.proofs.Common.{sym, ◌∙◌, ap, arith, length-append, append_assoc}
use Rattle.std.proofs.lemmas.List.{drop_at, take_at}
use Rattle.blk_base.specs.declared.place.Mapping.{Mapping}
use Rattle.blk_base.specs.declared.place.Mapping.TheVariants.{Unmapped, At}
use Rattle.blk_base.specs.declared.journal_entry.Entry.{Entry}
use Rattle.blk_base.specs.declared.journal_entry.Entry.TheVariants.{Remap, NewPage}
use Rattle.byte_fields.specs.Fields.{le, number_at}
use Rattle.byte_fields.specs.Mappings.{state_of, target_of, mapping_bytes, HoldsMapping}
use Rattle.byte_fields.proofs.FieldLaws.{length-le, number_behind}
use Rattle.byte_fields.proofs.MappingLaws.{length-mapping, target_small, one_mapping}
use Rattle.journal_codec.specs.BlockBytes.{entry_form, entry_bytes, head_bytes}
use Rattle.journal_codec.specs.Grammar.{HoldsEntry}

-- entries

kind_read : (kind tree level number : ℕ) (old new : Mapping) → kind < 256 → number_at 1 0 (entry_form kind tree level number old new) ≡ kind
unfolding entry_form
kind_read kind tree level number old new fits =
    number_behind 1 kind 0 [] (le 1 tree ++ (le 1 level ++ (le 1 0 ++ (le 4 number ++ (mapping_bytes old ++ (mapping_bytes new ++ le 2 0))))))
    (entry_form kind tree level number old new) (simp append_assoc) refl fits

tree_read : (kind tree level number : ℕ) (old new : Mapping) → tree < 256 → number_at 1 1 (entry_form kind tree level number old new) ≡ tree
unfolding entry_form
tree_read kind tree level number old new fits =
    number_behind 1 tree 1 (le 1 kind) (le 1 level ++ (le 1 0 ++ (le 4 number ++ (mapping_bytes old ++ (mapping_bytes new ++ le 2 0)))))
    (entry_form kind tree level number old new) (simp append_assoc) (simp (length-append, length-le)) fits

level_read : (kind tree level number : ℕ) (old new : Mapping) → level < 256 → number_at 1 2 (entry_form kind tree level number old new) ≡ level
unfolding entry_form
level_read kind tree level number old new fits =
    number_behind 1 level 2 (le 1 kind ++ le 1 tree) (le 1 0 ++ (le 4 number ++ (mapping_bytes old ++ (mapping_bytes new ++ le 2 0))))
    (entry_form kind tree level number old new) (simp append_assoc) (simp (length-append, length-le)) fits

number_read : (kind tree level number : ℕ) (old new : Mapping) → number < 2 ^ 32 → number_at 4 4 (entry_form kind tree level number old new) ≡ number
unfolding entry_form
number_read kind tree level number old new fits =
    number_behind 4 number 4 (le 1 kind ++ (le 1 tree ++ (le 1 level ++ le 1 0))) (mapping_bytes old ++ (mapping_bytes new ++ le 2 0))
    (entry_form kind tree level number old new) (simp append_assoc) (simp (length-append, length-le)) fits

old_read : (kind tree level number : ℕ) (old new : Mapping) → take 5 (drop 8 (entry_form kind tree level number old new)) ≡ mapping_bytes old
unfolding entry_form
old_read kind tree level number old new =
    let front = le 1 kind ++ (le 1 tree ++ (le 1 level ++ (le 1 0 ++ le 4 number))) in
    let rest = mapping_bytes new ++ le 2 0 in
    let split : entry_form kind tree level number old new ≡ front ++ (mapping_bytes old ++ rest) = simp append_assoc in
    ap (λ b. take 5 (drop 8 b)) split
    ∙ ap (take 5) (drop_at front (mapping_bytes old ++ rest) 8 (simp (length-append, length-le)))
    ∙ take_at (mapping_bytes old) rest 5 (length-mapping old)

new_read : (kind tree level number : ℕ) (old new : Mapping) → take 5 (drop 13 (entry_form kind tree level number old new)) ≡ mapping_bytes new
unfolding entry_form
new_read kind tree level number old new =
    let front = le 1 kind ++ (le 1 tree ++ (le 1 level ++ (le 1 0 ++ (le 4 number ++ mapping_bytes old)))) in
    let split : entry_form kind tree level number old new ≡ front ++ (mapping_bytes new ++ le 2 0) = simp append_assoc in
    ap (λ b. take 5 (drop 13 b)) split
    ∙ ap (take 5) (drop_at front (mapping_bytes new ++ le 2 0) 13 (simp (length-append, length-le, length-mapping)))
    ∙ take_at (mapping_bytes new) (le 2 0) 5 (length-mapping new)

block_read : (kind tree level number : ℕ) (old new : Mapping) → HoldsMapping new → number_at 4 14 (entry_form kind tree level number old new) ≡ target_of new
unfolding entry_form mapping_bytes
block_read kind tree level number old new holds =
    let front = le 1 kind ++ (le 1 tree ++ (le 1 level ++ (le 1 0 ++ (le 4 number ++ (mapping_bytes old ++ le 1 (state_of new)))))) in
    number_behind 4 (target_of new) 14 front (le 2 0)
    (entry_form kind tree level number old new) (simp append_assoc) (simp (length-append, length-le)) (target_small new holds)

-- what reads its fields gives the entry
pub remap_is : (number : ℕ) (old new : Mapping) (bytes : List ℕ) (e : Entry) → HoldsEntry e → bytes ≡ entry_bytes e → number_at 1 0 bytes ≡ 0
    → number ≡ number_at 4 4 bytes → ((m : Mapping) → HoldsMapping m → take 5 (drop 8 bytes) ≡ mapping_bytes m → old ≡ m)
    → ((m : Mapping) → HoldsMapping m → take 5 (drop 13 bytes) ≡ mapping_bytes m → new ≡ m) → Remap (record { 0 = number }) old new ≡ e
remap_is number old new bytes (Remap at old' new') holds same kind number_is old_is new_is =
    let n = number_is ∙ ap (number_at 4 4) same ∙ number_read 0 0 0 at.0 old' new' holds.0 in
    let o = old_is old' holds.1 (ap (λ b. take 5 (drop 8 b)) same ∙ old_read 0 0 0 at.0 old' new') in
    let w = new_is new' holds.2 (ap (λ b. take 5 (drop 13 b)) same ∙ new_read 0 0 0 at.0 old' new') in
    ap (λ (k : ℕ). Remap (record { 0 = k }) old new) n ∙ ap (λ m. Remap at m new) o ∙ ap (λ m. Remap at old' m) w
remap_is number old new bytes (NewPage page at) holds same kind number_is old_is new_is =
    let one = sym kind ∙ ap (number_at 1 0) same ∙ kind_read 1 page.tree page.level page.index Unmapped (At at) (omega arith) in
    absurd (omega (arith, one))

pub page_is : (tree level index block : ℕ) (bytes : List ℕ) (e : Entry) → HoldsEntry e → bytes ≡ entry_bytes e → number_at 1 0 bytes ≢ 0
    → tree ≡ number_at 1 1 bytes → level ≡ number_at 1 2 bytes → index ≡ number_at 4 4 bytes → block ≡ number_at 4 14 bytes
    → NewPage (record { tree = tree; level = level; index = index }) (record { 0 = block }) ≡ e
page_is tree level index block bytes (Remap at old new) holds same kind tree_is level_is index_is block_is =
    absurd (kind (ap (number_at 1 0) same ∙ kind_read 0 0 0 at.0 old new (omega arith)))
page_is tree level index block bytes (NewPage page at) holds same kind tree_is level_is index_is block_is =
    let t = tree_is ∙ ap (number_at 1 1) same ∙ tree_read 1 page.tree page.level page.index Unmapped (At at) (omega arith) in
    let l = level_is ∙ ap (number_at 1 2) same ∙ level_read 1 page.tree page.level page.index Unmapped (At at) (omega arith) in
    let i = index_is ∙ ap (number_at 4 4) same ∙ number_read 1 page.tree page.level page.index Unmapped (At at) holds.2 in
    let b = block_is ∙ ap (number_at 4 14) same ∙ block_read 1 page.tree page.level page.index Unmapped (At at) holds.3 in
    ap (λ (n : ℕ). NewPage (record { tree = n; level = level; index = index }) (record { 0 = block })) t
    ∙ ap (λ (n : ℕ). NewPage (record { tree = page.tree; level = n; index = index }) (record { 0 = block })) l
    ∙ ap (λ (n : ℕ). NewPage (record { tree = page.tree; level = page.level; index = n }) (record { 0 = block })) i
    ∙ ap (λ (n : ℕ). NewPage page (record { 0 = n })) b

pub entry_injective : (e f : Entry) → HoldsEntry e → HoldsEntry f → entry_bytes e ≡ entry_bytes f → e ≡ f
entry_injective (Remap at old new) f holds holds' same =
    remap_is at.0 old new (entry_bytes (Remap at old new)) f holds' same (kind_read 0 0 0 at.0 old new (omega arith))
    (sym (number_read 0 0 0 at.0 old new holds.0))
    (λ m held spelled. one_mapping 8 (entry_bytes (Remap at old new)) old m holds.1 held (old_read 0 0 0 at.0 old new) spelled)
    (λ m held spelled. one_mapping 13 (entry_bytes (Remap at old new)) new m holds.2 held (new_read 0 0 0 at.0 old new) spelled)
entry_injective (NewPage page at) f holds holds' same =
    page_is page.tree page.level page.index at.0 (entry_bytes (NewPage page at)) f holds' same
    (λ none. absurd (omega (arith, none, kind_read 1 page.tree page.level page.index Unmapped (At at) (omega arith))))
    (sym (tree_read 1 page.tree page.level page.index Unmapped (At at) (omega arith)))
    (sym (level_read 1 page.tree page.level page.index Unmapped (At at) (omega arith)))
    (sym (number_read 1 page.tree page.level page.index Unmapped (At at) holds.2))
    (sym (block_read 1 page.tree page.level page.index Unmapped (At at) holds.3))

-- heads

pub sequence_read : (nonce sequence head number count : ℕ) → sequence < 256 ^ 8 → number_at 8 8 (head_bytes nonce sequence head number count) ≡ sequence
unfolding head_bytes
sequence_read nonce sequence head number count fits =
    number_behind 8 sequence 8 (le 8 nonce) (le 8 head ++ (le 2 number ++ (le 2 count ++ (86 ∷ 74 ∷ 83 ∷ 49 ∷ []))))
    (head_bytes nonce sequence head number count) (simp append_assoc) (length-le 8 nonce) fits

pub head_read : (nonce sequence head number count : ℕ) → head < 256 ^ 8 → number_at 8 16 (head_bytes nonce sequence head number count) ≡ head
unfolding head_bytes
head_read nonce sequence head number count fits =
    number_behind 8 head 16 (le 8 nonce ++ le 8 sequence) (le 2 number ++ (le 2 count ++ (86 ∷ 74 ∷ 83 ∷ 49 ∷ [])))
    (head_bytes nonce sequence head number count) (simp append_assoc) (simp (length-append, length-le)) fits

pub count_read : (nonce sequence head number count : ℕ) → count < 2 ^ 16 → number_at 2 26 (head_bytes nonce sequence head number count) ≡ count
unfolding head_bytes
count_read nonce sequence head number count fits =
    number_behind 2 count 26 (le 8 nonce ++ (le 8 sequence ++ (le 8 head ++ le 2 number))) (86 ∷ 74 ∷ 83 ∷ 49 ∷ [])
    (head_bytes nonce sequence head number count) (simp append_assoc) (simp (length-append, length-le)) (omega (arith, fits))
