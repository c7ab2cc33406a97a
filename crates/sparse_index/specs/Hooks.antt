-- Hooks: the names by which the sparse chapters are found.
use Rattle.std.specs.Prelude.{ℕ, ◌%◌, Bool, List, filter, nat_eq, slice_index}
use Rattle.uds_chapters.specs.Chapters.{Numbered}

-- one name in 32: its byte 8 is 0 modulo 32
abbrev pub is_hook : List ℕ → Bool
is_hook name = nat_eq (slice_index name 8 % 32) 0

-- the chapter with its hooks alone
abbrev pub hooks_of : Numbered → Numbered
hooks_of chapter = record chapter { records = filter (λ one. is_hook one.name) chapter.records }
