-- The plain sessions of a setup.
use Rattle.std.specs.Prelude.{ℕ, Bool, ◌==◌, ◌||◌, Option}
use Rattle.media_units.specs.Wallclock.{ntp_nanos}
use Rattle.rtcp_items.specs.declared.extended.DlrrItem.{DlrrItem as Delay}
use Rattle.session_core.specs.Hearing.{trip_of}
use Rattle.run_model.specs.Transcripts.{reading, feedback_in, types_of, outgoing_of}
use Rattle.media_model.specs.declared.entry.Side.{Side}
use Rattle.media_model.specs.declared.setup.Setup.{Setup}
use Rattle.media_model.specs.Setup.{local_of, streams_of, extensions_of}
use Rattle.run_model.specs.Seals.{Sealing as SideSealing, Reporting}
use Rattle.run_model.specs.Whole.{Config}
use Rattle.media_laws.specs.Opening.{Sealing}
use Rattle.media_laws.specs.Rules.{has}

-- how a side seals RTP, and RTCP
abbrev pub rtp_sealing : Sealing → Setup → Side → SideSealing
rtp_sealing seal setup side = record { read = reading (extensions_of setup); seal = seal.rtp side }

abbrev pub reporting : Sealing → Side → Reporting
reporting seal side = record { seal = seal.rtcp side; encrypts = seal.encrypts; states = seal.states; items = feedback_in }

-- the SSRCs under which a side speaks: its own, and those of the streams that it sends
abbrev pub owns : Setup → Side → ℕ → Bool
owns setup side ssrc = (ssrc == (local_of side setup).ssrc) || has (streams_of side setup) ssrc

-- the round trip that an item tells at a moment of the setup
abbrev pub trip_at : Setup → ℕ → Delay → Option ℕ
trip_at setup now delay = trip_of (ntp_nanos setup.beginning.unix_secs now) delay

abbrev pub config_of : Sealing → Setup → Config
config_of seal setup = record {
  types = types_of setup;
  threshold = setup.pause_threshold;
  trip = trip_at setup;
  seals = rtp_sealing seal setup;
  reports = reporting seal;
  owns = owns setup;
  first_index = λ side. (local_of side setup).srtcp_index;
  outgoing = λ side. outgoing_of side setup;
}
