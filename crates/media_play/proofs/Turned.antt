-- An end is ready again after a turn.
use Rattle.std.proofs.Common.{◌≡◌, ℕ, false, is_some, List, [], ◌++◌, sym, ap, ◌∙◌, subst}
use Rattle.std.specs.List.{AllByRecursion, AllZip}
use Rattle.srtp_core.specs.Cipher.{CipherMeaning}
use Rattle.stream_core.specs.declared.payload_types.TypeRow.{TypeRow}
use Rattle.stream_core.specs.Tables.{place_of}
use Rattle.session_core.specs.SessionRecord.{SessionRecord}
use Rattle.session_turns.specs.Laws.{TurnsTo}
use Rattle.media_model.specs.declared.entry.Side.{Side}
use Rattle.media_model.specs.declared.entry.Entry.{Entry}
use Rattle.media_model.specs.declared.setup.Setup.{Setup}
use Rattle.media_model.specs.Entries.{writes_on}
use Rattle.media_model.specs.Setup.{streams_of}
use Rattle.run_model.specs.Events.{Event}
use Rattle.run_model.specs.Runs.{on_side}
use Rattle.run_model.specs.Transcripts.{happenings}
use Rattle.run_model.specs.Whole.{Session}
use Rattle.media_laws.specs.Config.{config_of}
use Rattle.media_laws.specs.Keys.{sealing_of}
use Rattle.media_play.specs.declared.numbers.Numbers.{Numbers}
use Rattle.media_play.specs.Ends.{SessionStands}
use Rattle.media_play.specs.Knowing.{AreUsed, UsedAs, IsWrittenIn}
use Rattle.media_play.specs.Sessions.{EndState, Ready, TurnsOn}
use Rattle.media_play.proofs.Written.{writes_first, turn_same, carried, used_quiet, same_refl}

module _ {cipher : CipherMeaning} {setup : Setup} {side : Side} {end : EndState} {a : Session} {entries : List Entry} (ready : Ready cipher setup side end a entries) where
  pub turned : (new : EndState) (after : SessionRecord) (chunk : List Entry) (events : List Event) → happenings setup chunk ≡ on_side side events
      → SessionStands new.session after → AreUsed setup side (entries ++ chunk) new.written
      → (t : TurnsTo cipher (config_of (sealing_of cipher setup) setup) side ready.session a after events)
      → AllByRecursion (IsWrittenIn side (entries ++ chunk)) t.session.tx
      → TurnsOn cipher setup side a new entries chunk
  turned new after chunk events read stands used t written = record {
    session = t.session;
    events = events;
    read = read;
    turn = t.turn;
    ready = record {
      session = after;
      stands = stands;
      mirrors = t.mirrors;
      types = λ pt. ap (λ (rows : List (ℕ × TypeRow)). is_some (place_of pt rows)) t.types ∙ ready.types pt;
      exts = t.exts ∙ ready.exts;
      runs = t.runs ∙ ready.runs;
      used = used;
      wrote = written;
      fit = ready.fit;
    };
  }

  -- where no write is new
  pub turned_quiet : (new : EndState) (after : SessionRecord) (chunk : List Entry) (events : List Event) → happenings setup chunk ≡ on_side side events
      → ((r : ℕ) → writes_on side r chunk ≡ []) → writes_first events ≡ false
      → SessionStands new.session after → new.written ≡ end.written
      → TurnsTo cipher (config_of (sealing_of cipher setup) setup) side ready.session a after events
      → TurnsOn cipher setup side a new entries chunk
  turned_quiet new after chunk events read empty no_write stands same t =
      turned new after chunk events read stands
      (subst (λ (ns : List Numbers). AllZip (UsedAs side (entries ++ chunk)) (streams_of side setup) ns) (sym same) (used_quiet side entries chunk empty (streams_of side setup) end.written ready.used))
      t (carried side entries chunk empty a.tx t.session.tx (turn_same t.turn no_write) ready.wrote)

  -- what the other side does tells nothing of it
  pub ready_still : (chunk : List Entry) → ((r : ℕ) → writes_on side r chunk ≡ []) → Ready cipher setup side end a (entries ++ chunk)
  ready_still chunk empty = record {
    session = ready.session;
    stands = ready.stands;
    mirrors = ready.mirrors;
    types = ready.types;
    exts = ready.exts;
    runs = ready.runs;
    used = used_quiet side entries chunk empty (streams_of side setup) end.written ready.used;
    wrote = carried side entries chunk empty a.tx a.tx (same_refl a.tx) ready.wrote;
    fit = ready.fit;
  }
