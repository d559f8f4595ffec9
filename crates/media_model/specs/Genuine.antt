-- Which runs are genuine: what a side opens, its peer sealed.
use Rattle.std.specs.Prelude.{◌≡◌, ℕ, Bool, true, false, ◌&&◌, ◌==◌, List, [], ◌∷◌, ◌++◌, Option, Some, None}
use Rattle.std.specs.List.{list_any}
use Rattle.std.specs.Str.{bytes_eq}
use Rattle.media_model.specs.declared.entry.Sealed.{Sealed as SealedEntry}
use Rattle.media_model.specs.declared.entry.Opened.{Opened as OpenedEntry}
use Rattle.media_model.specs.declared.entry.Entry.{Entry}
use Rattle.media_model.specs.declared.entry.Entry.TheVariants.{Sealed, Opened}
use Rattle.media_model.specs.Entries.{last_got}
use Rattle.rtp_base.specs.Kind.{same_kind}
use Rattle.media_model.specs.Sides.{peer_of, same_side}

-- among these entries the other side sealed, under the kind, SSRC and index of what was opened, the bytes that came
-- last to the side that opened it
pub record IsPeersSeal (before : List Entry) (opened : OpenedEntry) : Type 0 where
  pub seal : SealedEntry
  pub front : List Entry
  pub rest : List Entry
  pub sealed : before ≡ front ++ Sealed seal ∷ rest
  pub side : seal.side ≡ peer_of opened.side
  pub kind : seal.kind ≡ opened.kind
  pub ssrc : seal.ssrc ≡ opened.ssrc
  pub index : seal.index ≡ opened.index
  pub came : last_got opened.side before ≡ Some seal.bytes

-- each datagram that was opened had been sealed by the other side, under the same kind, SSRC and index, and is the one
-- that came last to the side that opened it
abbrev pub IsGenuine : List Entry → Type 0
IsGenuine entries =
    (before after : List Entry) (opened : OpenedEntry) → entries ≡ before ++ Opened opened ∷ after → IsPeersSeal before opened

-- the entry is a seal of these bytes by the other side, under the kind, SSRC and index of what was opened
abbrev pub seals : OpenedEntry → List ℕ → Entry → Bool
seals o bytes (Sealed s) =
    same_side s.side (peer_of o.side)
    && (same_kind s.kind o.kind && (s.ssrc == o.ssrc && (s.index == o.index && bytes_eq s.bytes bytes)))
seals o bytes _ = false

abbrev pub some_seals : List Entry → OpenedEntry → Option (List ℕ) → Bool
some_seals before opened None = false
some_seals before opened (Some bytes) = list_any (seals opened bytes) before

-- the same as a test of an entry with those before it
abbrev pub is_genuine_after : List Entry → Entry → Bool
is_genuine_after before (Opened opened) = some_seals before opened (last_got opened.side before)
is_genuine_after before _ = true

unfoldable pub genuine_from : List Entry → List Entry → Bool
genuine_from before [] = true
genuine_from before (entry ∷ entries) = is_genuine_after before entry && genuine_from (before ++ entry ∷ []) entries

abbrev pub is_genuine : List Entry → Bool
is_genuine entries = genuine_from [] entries
