-- What is kept of the entries before one: the seals among them, and the datagrams that came last.
use Rattle.std.specs.Prelude.{◌≡◌, ◌==◌, ◌&&◌, ℕ, Bool, false, List, Option}
use Rattle.std.specs.List.{list_any}
use Rattle.std.specs.Option.{option_copied}
use Rattle.std.specs.Str.{bytes_eq}
use Rattle.std.specs.HashSet.{HashSet, contains}
use denote.Enum.Bare.{sameb}
use Rattle.media_model.specs.contracts.entry.Side as side
use Rattle.rtp_base.specs.contracts.kind.Kind as kind
use Rattle.media_model.specs.declared.entry.Side.{Side}
use Rattle.media_model.specs.declared.entry.Side.TheVariants.{A, B}
use Rattle.media_model.specs.declared.entry.Entry.{Entry}
use Rattle.media_model.specs.declared.entry.Entry.TheVariants.{Sealed}
use Rattle.media_model.specs.declared.genuine.Seal.{Seal}
use Rattle.media_model.specs.declared.genuine.Latest.{Latest}
use Rattle.media_model.specs.Entries.{last_got}
use Rattle.rtp_base.specs.Kind.{same_kind}
use Rattle.media_model.specs.Sides.{same_side}

-- two seals of one datagram
abbrev pub same_seal : Seal → Seal → Bool
same_seal a b =
    sameb side.the_type a.side b.side
    && (sameb kind.the_type a.kind b.kind && ((a.ssrc == b.ssrc) && ((a.index == b.index) && bytes_eq a.bytes.now b.bytes.now)))

-- the entry is this seal
abbrev pub is_seal : Seal → Entry → Bool
is_seal q (Sealed s) =
    same_side s.side q.side && (same_kind s.kind q.kind && (s.ssrc == q.ssrc && (s.index == q.index && bytes_eq s.bytes q.bytes.now)))
is_seal q _ = false

-- a set has the seals among these entries
abbrev pub HasSeals : {S : Type 0} → HashSet Seal S → List Entry → Type 0
HasSeals sealed before = (q : Seal) → contains same_seal sealed q ≡ list_any (is_seal q) before

abbrev pub latest_of : Side → Latest → Option (List ℕ)
latest_of A latest = option_copied latest.a
latest_of B latest = option_copied latest.b

-- what came last to each side among these entries
abbrev pub HasLatest : Latest → List Entry → Type 0
HasLatest latest before = (side : Side) → latest_of side latest ≡ last_got side before
