-- What applications ask of the senders of streams.
use Rattle.std.specs.Prelude.{ℕ}
use Rattle.media_model.specs.declared.entry.Call.{Call}
use Rattle.media_model.specs.declared.entry.Call.TheVariants as call
use Rattle.media_model.specs.declared.step.Act.{Act}
use Rattle.media_model.specs.declared.step.Act.TheVariants as act
use Rattle.media_play.specs.declared.request.Request.{Request}
use Rattle.media_play.specs.declared.request.Request.TheVariants.{Keyframe, Rate}
use Rattle.stream_core.specs.declared.requests.RxRequests.{RxRequests}
use Rattle.stream_core.specs.Requests.{with_keyframe, with_bitrate}

-- the call that makes a request, and the act
abbrev pub call_for : Request → Call
call_for (Keyframe kind) = call.Ask
call_for (Rate rate) = call.Remb

abbrev pub act_for : ℕ → Request → Act
act_for ssrc (Keyframe kind) = act.Ask ssrc kind
act_for ssrc (Rate rate) = act.Rate ssrc rate

-- what the stream asks of its sender then
abbrev pub requested : Request → RxRequests → RxRequests
requested (Keyframe kind) q = with_keyframe kind q
requested (Rate rate) q = with_bitrate rate q
