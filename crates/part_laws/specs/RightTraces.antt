-- A right trace: each happening may follow those before it.
use Rattle.std.specs.Prelude.{ℕ, ◌≡◌, ◌+◌, ◌*◌, ◌%◌, ◌<◌, ◌≤◌, Option, None, Some, IfSome, List, [], ◌∷◌, ◌++◌}
use Rattle.part_laws.specs.Parts.{Logged, Told, Has, AreRising, last_low, points_for, points_of}
use Rattle.part_laws.specs.Trace.{Happening, Seals, Hands, Sets, Writes, Settles, Tells, Hears, Rises, Needs, Learns, Trace, sequence, unhanded, IsSealed, IsHanded, IsSet, IsDurable, told, heard, risen}
use Rattle.part_laws.specs.Watermarks.{Setup}

-- the point is below a low point; each is below none
abbrev pub IsBelow : ℕ → Option ℕ → Type 0
IsBelow p None = Unit {0}
IsBelow p (Some low) = p < low

-- each change of a zone below the low point is durable
abbrev pub IsLow : Trace → ℕ → Option ℕ → Type 0
IsLow t z low = (p : ℕ) → IsSet t z p → IsBelow p low → IsDurable t z p

-- the low point is that of a change that isn't durable
abbrev pub IsOfChange : Trace → ℕ → Option ℕ → Type 0
IsOfChange t z low = IfSome low (λ q. IsSet t z q × (IsDurable t z q → ⊥))

-- a block may be sealed: its entries rise and have its sequence
abbrev pub SealMayFollow : Setup → List Logged → Trace → Type 0
SealMayFollow s es t = AreRising s.zones (sequence s.start t * 512) es ((sequence s.start t + 1) * 512)

-- an entry may be handed out: it is the first that wasn't
abbrev pub HandMayFollow : Logged → Trace → Type 0
HandMayFollow e t = (rest : List Logged) × (unhanded t ≡ e ∷ rest)

-- a zone may tell this: the part is set, and the low point is true, and that of a change
pub record TellMayFollow (z : ℕ) (x : Told) (t : Trace) : Type 0 where
  pub is_set : IfSome x.part (λ p. IsSet t z p)
  pub is_low : IsLow t z x.low
  pub exact : IsOfChange t z x.low

-- the journal hears what a zone told in the order in which it was told
abbrev pub HearMayFollow : ℕ → Told → Trace → Type 0
HearMayFollow z x t = (rest : List Told) × (told z t ≡ rest ++ x ∷ heard z t)

-- each part of an entry is heard, and is below the low point that was heard last from its zone
abbrev pub IsHandled : Trace → Logged → Type 0
IsHandled t e = (z p : ℕ) → Has p (points_for z e.parts) → Has p (points_of (heard z t)) × IsBelow p (last_low (heard z t))

-- the head may rise past blocks of which each entry is handled
pub record RiseMayFollow (s : Setup) (head : ℕ) (t : Trace) : Type 0 where
  pub above : risen s.start t ≤ head
  pub within : head ≤ sequence s.start t
  pub handled : (e : Logged) → IsSealed t e → e.at < head * 512 → IsHandled t e

abbrev pub MayFollow : Setup → Happening → Trace → Type 0
MayFollow s (Seals es) t = SealMayFollow s es t
MayFollow s (Hands e) t = HandMayFollow e t
MayFollow s (Sets z p) t = IsHanded t z p
MayFollow s (Writes z) t = Unit {0}
MayFollow s (Settles z ps) t = (p : ℕ) → Has p ps → IsSet t z p
MayFollow s (Tells z x) t = TellMayFollow z x t
MayFollow s (Hears z x) t = HearMayFollow z x t
MayFollow s (Rises head) t = RiseMayFollow s head t
MayFollow s (Needs p) t = p % 2 ≡ 1
MayFollow s (Learns z p) t = Unit {0}

abbrev pub RightTrace : Setup → Trace → Type 0
RightTrace s [] = Unit {0}
RightTrace s (h ∷ t) = MayFollow s h t × RightTrace s t
