-- The bytes of the value of an extension, and the value as these bytes hold it.
use Rattle.std.specs.Prelude.{ℕ, ◌+◌, ◌*◌, ◌/◌, ◌%◌, ◌^◌, min, ℤ, pos, negsuc, Bool, Option, Some, None, List, [], ◌∷◌, if◌then◌else◌}
use Rattle.std.specs.Option.{option_map, option_and_then}
use Rattle.std.specs.Int.{w16, w64, to_be_bytes}
use Rattle.rtp_base.specs.declared.media_time.MediaTime.{MediaTime}
use Rattle.rtp_wire.specs.declared.abs_time.TheConstants.{SEND_TIME_LIMIT}
use Rattle.rtp_wire.specs.declared.extension.Extension.{Extension}
use Rattle.rtp_wire.specs.declared.extension.Extension.TheVariants.{AudioLevel, AbsoluteSendTime, TransportSequenceNumber, RtpMid, RtpStreamId, RepairedRtpStreamId, VideoOrientation, AbsoluteCaptureTime, PlayoutDelay}
use Rattle.rtp_wire.specs.declared.values.ExtensionValues.{ExtensionValues}
use Rattle.rtp_wire.specs.declared.values.TheConstants.{MAX_DELAY_STEPS, MAX_MINUS_LEVEL}
use Rattle.rtp_wire.specs.declared.values.VideoOrientation.{VideoOrientation as Turn}
use Rattle.rtp_wire.specs.declared.values.VideoOrientation.TheVariants.{Deg0, Deg90, Deg180, Deg270}
use Rattle.rtp_base.specs.Name.{name_of}
use Rattle.rtp_base.specs.Wire.{triple_bytes}
use Rattle.rtp_wire.specs.Reading.{level_of, hundredths}

-- minus a level, from 0 to 127: a level above 0 counts as 0, and one below -127 as -127
abbrev pub minus_level : ℤ → ℕ
minus_level (pos n) = 0
minus_level (negsuc n) = min (n + 1) MAX_MINUS_LEVEL

-- voice activity is the high bit, and the other seven are minus the level (RFC 6464 section 3)
abbrev pub level_byte : ℤ → Bool → ℕ
level_byte level voice = (if voice then 128 else 0) + minus_level level

-- quarter turns, counter-clockwise (3GPP TS 26.114 section 7.4.5)
abbrev pub quarter_turns : Turn → ℕ
quarter_turns Deg0 = 0
quarter_turns Deg270 = 1
quarter_turns Deg180 = 2
quarter_turns Deg90 = 3

-- a delay in steps of 10 ms, rounded down, and 4,095 at most
abbrev pub delay_steps : MediaTime → ℕ
delay_steps t = min (t.numer * 100 / t.frequency) MAX_DELAY_STEPS

-- what two values make, where both are there
abbrev pub both : {A B C : Type 0} → (A → B → C) → Option A → Option B → Option C
both f None b = None
both f (Some a) None = None
both f (Some a) (Some b) = Some (f a b)

abbrev pub bytes_or_none : Option (List ℕ) → List ℕ
bytes_or_none None = []
bytes_or_none (Some bytes) = bytes

-- the bytes of the value of an extension, if it is there
abbrev pub value_bytes : Extension → ExtensionValues → Option (List ℕ)
value_bytes AudioLevel v = both (λ level voice. level_byte level voice ∷ []) v.audio_level v.voice_activity
value_bytes AbsoluteSendTime v = option_map triple_bytes v.abs_send_time
value_bytes TransportSequenceNumber v = option_map (to_be_bytes w16) v.transport_cc
value_bytes RtpMid v = option_and_then name_of v.mid
value_bytes RtpStreamId v = option_and_then name_of v.rid
value_bytes RepairedRtpStreamId v = option_and_then name_of v.rid_repair
value_bytes VideoOrientation v = option_map (λ turn. quarter_turns turn ∷ []) v.video_orientation
value_bytes AbsoluteCaptureTime v = option_map (to_be_bytes w64) v.abs_capture_time
value_bytes PlayoutDelay v = both (λ least greatest. triple_bytes (delay_steps least * 4096 + delay_steps greatest)) v.play_delay_min v.play_delay_max

-- the values without that of an extension
abbrev pub without : Extension → ExtensionValues → ExtensionValues
without AudioLevel v = record v { audio_level = None; voice_activity = None }
without AbsoluteSendTime v = record v { abs_send_time = None }
without TransportSequenceNumber v = record v { transport_cc = None }
without RtpMid v = record v { mid = None }
without RtpStreamId v = record v { rid = None }
without RepairedRtpStreamId v = record v { rid_repair = None }
without VideoOrientation v = record v { video_orientation = None }
without AbsoluteCaptureTime v = record v { abs_capture_time = None }
without PlayoutDelay v = record v { play_delay_min = None; play_delay_max = None }

-- Each value as its wire form holds it. Level and voice activity, and the two delays, are held together. A level is
-- between -127 and 0, a delay is rounded down to 10 ms, at most 40,950 ms, and each number has the bits of its place.
abbrev pub wire_values : ExtensionValues → ExtensionValues
wire_values v = record {
  audio_level = both (λ level voice. level_of (minus_level level)) v.audio_level v.voice_activity;
  voice_activity = both (λ level voice. voice) v.audio_level v.voice_activity;
  video_orientation = v.video_orientation;
  abs_send_time = option_map (λ n. n % SEND_TIME_LIMIT) v.abs_send_time;
  transport_cc = option_map (λ n. n % 2 ^ 16) v.transport_cc;
  play_delay_min = both (λ least greatest. hundredths (delay_steps least)) v.play_delay_min v.play_delay_max;
  play_delay_max = both (λ least greatest. hundredths (delay_steps greatest)) v.play_delay_min v.play_delay_max;
  rid = option_and_then name_of v.rid;
  rid_repair = option_and_then name_of v.rid_repair;
  mid = option_and_then name_of v.mid;
  abs_capture_time = option_map (λ n. n % 2 ^ 64) v.abs_capture_time;
}
