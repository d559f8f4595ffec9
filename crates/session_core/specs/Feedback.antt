-- The feedback that a session sends: items wait in order and leave whole, in compounds (RFC 3550 section 6.1, RFC 5506).
use Rattle.std.specs.Prelude.{◌≤◌, ◌≢◌, ◌==◌, ◌&&◌, ℕ, ◌+◌, ◌-◌, ◌*◌, ◌/◌, Bool, true, false, if◌then◌else◌, List, [], ◌∷◌, length, take, drop, Option, Some, None}
use Rattle.std.specs.List.{flat_map, AllByRecursion}
use Rattle.std.specs.Option.{option_map}
use Rattle.rtp_base.specs.declared.kind.Kind.TheVariants.{Rtcp as rtcp}
use Rattle.rtcp_wire.specs.declared.packet.Rtcp.{Rtcp}
use Rattle.rtcp_wire.specs.Texts.{IsWritable, text_of, fitting}
use Rattle.srtp_core.specs.Cipher.{CipherMeaning}
use Rattle.srtp_core.specs.Contexts.{SrtpState}
use Rattle.srtp_core.specs.RtcpSeals.{sealed_rtcp, sender_of}
use Rattle.srtp_core.specs.declared.TheConstants.{SRTCP_OVERHEAD}
use Rattle.srtp_core.specs.declared.context.TheConstants.{SRTCP_INDEX_LIMIT}
use Rattle.srtp_core.specs.declared.srtcp.TheConstants.{HEADER_LEN}
use Rattle.session_core.specs.declared.config.TheConstants.{LEAST_TARGET}
use Rattle.session_core.specs.declared.feedback.TheConstants.{MAX_ITEM_LEN}
use Rattle.session_core.specs.declared.datagram.Datagram.{Datagram}
use Rattle.session_core.specs.SessionRecord.{SessionState}

-- the most bytes of a compound: what the target leaves to a sealed one, in whole words
abbrev pub room_of : ℕ → ℕ
room_of target = (target - SRTCP_OVERHEAD) / 4 * 4

-- how many waiting items leave next
abbrev pub leaving : ℕ → List Rtcp → ℕ
leaving target items = fitting (room_of target) items

-- the compound that leaves next, and what waits behind it
abbrev pub compound_of : ℕ → List Rtcp → List ℕ
compound_of target items = flat_map text_of (take (leaving target items) items)

abbrev pub items_after : ℕ → List Rtcp → List Rtcp
items_after target items = drop (leaving target items) items

-- an item that can be written, and fits a compound of its own under each target from the least on
pub record FitsAlone (x : Rtcp) : Type 0 where
  pub writable : IsWritable x
  pub long : HEADER_LEN ≤ length (text_of x)
  pub few : length (text_of x) ≤ MAX_ITEM_LEN

-- without memory the items wait as before, or without the compound that was to be sealed
pub data AreLeft (target : ℕ) (items : List Rtcp) : List Rtcp → Type 0 where
  items_kept : AreLeft target items items
  items_lost : AreLeft target items (items_after target items)

-- a compound, sealed under the index of the next SRTCP datagram
abbrev pub sealed_compound : CipherMeaning → List ℕ → SrtpState → Datagram
sealed_compound cipher plain state = record {
  kind = rtcp;
  ssrc = sender_of (take HEADER_LEN plain);
  index = state.srtcp_index;
  plain = plain;
  bytes = sealed_rtcp cipher state.profile state.keys true state.srtcp_index plain;
}

-- under whatever keys a compound of items that fit alone is sealed, it has at most as many bytes as the target
abbrev pub CompoundsKeepToTarget : CipherMeaning → Type 0
CompoundsKeepToTarget cipher =
    (target : ℕ) (items : List Rtcp) (state : SrtpState) → LEAST_TARGET ≤ target → items ≢ [] → AllByRecursion FitsAlone items
    → length (sealed_compound cipher (compound_of target items) state).bytes ≤ target

-- one more SRTCP datagram was sealed
abbrev pub counted : SrtpState → SrtpState
counted state = record state { srtcp_index = state.srtcp_index + 1 }

-- no further SRTCP datagram can be sealed under the keys
abbrev pub is_used_up : Option SrtpState → Bool
is_used_up None = false
is_used_up (Some state) = state.srtcp_index == SRTCP_INDEX_LIMIT

-- the feedback that is due: none at moment 0
abbrev pub due_of : ℕ → SessionState → List Rtcp
due_of now s = if now == 0 then [] else s.feedback

abbrev pub some_due : List Rtcp → Bool
some_due [] = false
some_due (x ∷ xs) = true

-- feedback is due, and no further SRTCP datagram can be sealed
abbrev pub exhausts : ℕ → SessionState → Bool
exhausts now s = some_due (due_of now s) && is_used_up s.sealing

-- the session without the compound that leaves next, and after that compound left
abbrev pub without_compound : SessionState → SessionState
without_compound s = record s { feedback = items_after s.target s.feedback }

abbrev pub after_compound : SessionState → SessionState
after_compound s = record s { feedback = items_after s.target s.feedback; sealing = option_map counted s.sealing }
