-- What a name's bytes are read as.
use Rattle.std.specs.Prelude.{ℕ, List, replicate}
use Rattle.byte_fields.specs.Fields.{number_at}

-- the number in its first four bytes, by which the index finds chapters
abbrev pub tag_of : List ℕ → ℕ
tag_of name = number_at 4 0 name

-- the number in the next four, by which a name goes to its zone
abbrev pub route_of : List ℕ → ℕ
route_of name = number_at 4 4 name

-- the name of every block where all names are equal
unfoldable pub one_name : List ℕ
one_name = replicate 16 0
