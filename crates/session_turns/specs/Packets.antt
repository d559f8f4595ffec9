-- The packets that leave at a tick, once no feedback waits.
use Rattle.std.specs.Prelude.{◌≡◌, ◌<◌, ◌^◌, ℕ, true, false, List, [], map, Some, None}
use Rattle.std.specs.List.{AllByRecursion, AllZip}
use Rattle.std.specs.Map.{keys_of}
use Rattle.srtp_core.specs.Cipher.{CipherMeaning}
use Rattle.srtp_core.specs.Contexts.{SrtpState}
use Rattle.session_core.specs.declared.datagram.Datagram.{Datagram}
use Rattle.session_core.specs.declared.error.RtcError.{RtcError}
use Rattle.session_core.specs.declared.error.RtcError.TheVariants.{RepairsExhausted}
use Rattle.session_core.specs.Draining.{IsDrainCut}
use Rattle.session_core.specs.Sending.{Drains}
use Rattle.session_core.specs.SessionRecord.{SessionRecord}
use Rattle.run_model.specs.Tables.{Table, lines, AreApart, begun_at, ServesAll, DrainsAll, IsUsedUpIn}
use Rattle.session_turns.specs.Reading.{types_in, sealing_of, events_of}
use Rattle.session_turns.specs.Mirrors.{TxMirrors, IsWide}
use Rattle.stream_core.specs.Repairing.{rtx_type_of}

-- the drain of the plain streams, and what is left of the session: its outgoing streams, the next transport number and what
-- streams send again change alone
pub record DrainsPackets (cipher : CipherMeaning) (r after : SessionRecord) (own : SrtpState) (now : ℕ) (xs : Table) (all : List Datagram) : Type 0 where
  pub streams : Table
  pub drains : DrainsAll (types_in r.state.types) (sealing_of cipher r.state.transport.exts own) now (map (begun_at now) xs) streams
      (events_of r.state.transport.exts all)
  pub same_lines : lines streams ≡ lines xs
  pub tx : AllZip (TxMirrors r.state.types r.state.medias now None after.repairs) after.state.tx streams
  pub keys : keys_of after.state.tx ≡ keys_of r.state.tx
  pub rest : after ≡ record r {
    state = record r.state { tx = after.state.tx; transport = after.state.transport; released = false };
    repairs = after.repairs;
  }
  pub exts : after.state.transport.exts ≡ r.state.transport.exts
  pub beginning : after.state.transport.beginning ≡ r.state.transport.beginning

-- a session on which nothing but packets waits, all of which may leave, is drained as its plain streams are
abbrev pub PacketsDrain : Type 0
PacketsDrain =
    (cipher : CipherMeaning) (r after : SessionRecord) (own : SrtpState) (now : ℕ) (xs : Table) (all : List Datagram)
    → 0 < now → r.state.feedback ≡ [] → r.state.released ≡ true → r.state.sealing ≡ Some own
    → AreApart (lines xs) → AllByRecursion IsWide (lines xs)
    → ((pt rtx : ℕ) → rtx_type_of r.state.types pt ≡ Some rtx → rtx < 2 ^ 7)
    → AllZip (TxMirrors r.state.types r.state.medias now (Some now) r.repairs) r.state.tx xs
    → Drains cipher now r after all
    → DrainsPackets cipher r after own now xs all

-- what left before an error, as polls of the plain streams, and these streams then
pub record CutsPackets (cipher : CipherMeaning) (r : SessionRecord) (own : SrtpState) (now : ℕ) (xs : Table) (error : RtcError) (sent : List Datagram) : Type 0 where
  pub streams : Table
  pub serves : ServesAll (types_in r.state.types) (sealing_of cipher r.state.transport.exts own) now (map (begun_at now) xs) streams
      (events_of r.state.transport.exts sent)
  pub used_up : (ssrc : ℕ) → error ≡ RepairsExhausted ssrc → IsUsedUpIn ssrc streams

-- where an error ends the drain of such a session, the packets before it left as polls of its plain streams
abbrev pub PacketsCut : Type 0
PacketsCut =
    (cipher : CipherMeaning) (r after : SessionRecord) (own : SrtpState) (now : ℕ) (xs : Table) (error : RtcError) (sent : List Datagram)
    → 0 < now → r.state.feedback ≡ [] → r.state.sealing ≡ Some own
    → AreApart (lines xs) → AllByRecursion IsWide (lines xs)
    → ((pt rtx : ℕ) → rtx_type_of r.state.types pt ≡ Some rtx → rtx < 2 ^ 7)
    → AllZip (TxMirrors r.state.types r.state.medias now (Some now) r.repairs) r.state.tx xs
    → IsDrainCut cipher now r error after sent
    → CutsPackets cipher r own now xs error sent
