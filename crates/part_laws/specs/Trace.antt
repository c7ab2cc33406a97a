-- What happens between the journal and the zones that handle its entries' parts, in order; the newest stands first.
use Rattle.std.specs.Prelude.{ℕ, ◌≡◌, ◌+◌, ◌⊎◌, ◌==◌, max, Bool, true, false, if◌then◌else◌, List, [], ◌∷◌, ◌++◌}
use Rattle.part_laws.specs.Parts.{Logged, Told, Has, HasEntry, points_for, without}

pub data Happening : Type 0 where
  -- the block being filled is sealed with these entries
  Seals : List Logged → Happening
  -- the next committed entry is handed out, all its parts at once
  Hands : Logged → Happening
  -- a zone sets the slot, or takes the update, of the part with this point
  Sets : (zone point : ℕ) → Happening
  -- a zone begins to write what is dirty; and what it wrote is durable, with the changes of these points
  Writes : (zone : ℕ) → Happening
  Settles : (zone : ℕ) → (points : List ℕ) → Happening
  -- a zone tells the journal that a part is handled, and its low point; the journal hears it
  Tells : (zone : ℕ) → Told → Happening
  Hears : (zone : ℕ) → Told → Happening
  -- the head rises to this sequence
  Rises : (head : ℕ) → Happening
  -- the journal needs what is at or below a point durable, and posts this to each zone; a zone takes it
  Needs : (point : ℕ) → Happening
  Learns : (zone point : ℕ) → Happening

abbrev pub Trace : Type 0
Trace = List Happening

-- the sequence of the block being filled, of a session that begins with this one
abbrev pub sequence : ℕ → Trace → ℕ
sequence start [] = start
sequence start (Seals es ∷ t) = sequence start t + 1
sequence start (other ∷ t) = sequence start t

-- the entries of sealed blocks that weren't handed out, the oldest first
abbrev pub behind_first : List Logged → List Logged
behind_first [] = []
behind_first (e ∷ es) = es

abbrev pub unhanded : Trace → List Logged
unhanded [] = []
unhanded (Seals es ∷ t) = unhanded t ++ es
unhanded (Hands e ∷ t) = behind_first (unhanded t)
unhanded (other ∷ t) = unhanded t

-- the entry is one of a sealed block
abbrev pub IsSealed : Trace → Logged → Type 0
IsSealed [] e = ⊥
IsSealed (Seals es ∷ t) e = HasEntry e es ⊎ IsSealed t e
IsSealed (other ∷ t) e = IsSealed t e

-- a part with this point was handed out for a zone; the zone set it; it is durable there
abbrev pub IsHanded : Trace → ℕ → ℕ → Type 0
IsHanded [] z p = ⊥
IsHanded (Hands e ∷ t) z p = Has p (points_for z e.parts) ⊎ IsHanded t z p
IsHanded (other ∷ t) z p = IsHanded t z p

abbrev pub IsSet : Trace → ℕ → ℕ → Type 0
IsSet [] z p = ⊥
IsSet (Sets y q ∷ t) z p = ((y ≡ z) × (q ≡ p)) ⊎ IsSet t z p
IsSet (other ∷ t) z p = IsSet t z p

abbrev pub IsDurable : Trace → ℕ → ℕ → Type 0
IsDurable [] z p = ⊥
IsDurable (Settles y ps ∷ t) z p = ((y ≡ z) × Has p ps) ⊎ IsDurable t z p
IsDurable (other ∷ t) z p = IsDurable t z p

-- what a zone told, and what of it the journal heard, the newest first
abbrev pub told : ℕ → Trace → List Told
told z [] = []
told z (Tells y x ∷ t) = if y == z then x ∷ told z t else told z t
told z (other ∷ t) = told z t

abbrev pub heard : ℕ → Trace → List Told
heard z [] = []
heard z (Hears y x ∷ t) = if y == z then x ∷ heard z t else heard z t
heard z (other ∷ t) = heard z t

-- what the journal keeps of a zone: the points of the parts that were handed out for it and not heard
abbrev pub waiting : ℕ → Trace → List ℕ
waiting z [] = []
waiting z (Hands e ∷ t) = waiting z t ++ points_for z e.parts
waiting z (Hears y x ∷ t) = if y == z then without x.part (waiting z t) else waiting z t
waiting z (other ∷ t) = waiting z t

-- the head of the journal, which begins with its first sequence
abbrev pub risen : ℕ → Trace → ℕ
risen start [] = start
risen start (Rises head ∷ t) = head
risen start (other ∷ t) = risen start t

-- whether a zone is writing
abbrev pub is_writing : ℕ → Trace → Bool
is_writing z [] = false
is_writing z (Writes y ∷ t) = if y == z then true else is_writing z t
is_writing z (Settles y ps ∷ t) = if y == z then false else is_writing z t
is_writing z (other ∷ t) = is_writing z t

-- the greatest point that the journal needed, and the greatest that a zone took
abbrev pub needed : Trace → ℕ
needed [] = 0
needed (Needs p ∷ t) = max p (needed t)
needed (other ∷ t) = needed t

abbrev pub learned : ℕ → Trace → ℕ
learned z [] = 0
learned z (Learns y p ∷ t) = if y == z then max p (learned z t) else learned z t
learned z (other ∷ t) = learned z t
