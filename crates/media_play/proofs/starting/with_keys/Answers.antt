use Rattle.std.proofs.Common.{◌≡◌, ◌≤◌, ◌^◌, refl, sym, ap, subst, ◌∙◌}
use Rattle.session_core.specs.declared.config.SessionConfig.{SessionConfig}
use Rattle.media_model.specs.declared.setup.Local.{Local}
use Rattle.media_model.specs.Setup.{local_of}
use Rattle.session_core.specs.Calls.{fresh_session}
use Rattle.media_play.specs.Ends.{EndSession, SessionStands}
use Rattle.media_play.proofs.StartingSteps.{starts_keyed}
use Rattle.media_play.proofs.StartingSetup.{wide_mtu, types_made}
use Rattle.media_play.proofs.starting.with_keys.Goals as goal

pub returns-in-Ok : goal.returns-in-Ok
returns-in-Ok g c =
    let setup = c.args.setup.now in
    let same : c.local-2.result ≡ local_of c.args.side setup = c.local-2.ensures in
    let config : SessionConfig = record { id = c.identification.result; beginning = setup.beginning; mtu = record { target = setup.mtu.target; warn = setup.mtu.warn }; local_ssrc = c.local.result.ssrc; pause_threshold = setup.pause_threshold; intervals = record { audio = setup.intervals.audio; video = setup.intervals.video }; srtcp_index = c.get.result; exts = c.extension_map.result; codecs = c.in_ok-codecs.field-0 } in
    starts_keyed g.C.SrtpCipher.meaning setup c.args.side config c.deref_mut.result.now c.set_keying_material.new.self c.in_ok-material-2.material c.is_left.result
    refl (wide_mtu setup.mtu c.requires.mtu) refl refl (c.get.ensures.value ∙ ap (λ (l : Local). l.srtcp_index) same) (ap (λ (l : Local). l.ssrc) c.local.ensures) refl c.extension_map.ensures
    (types_made c.in_ok-codecs.field-0.params setup.types c.in_ok-codecs.ensures c.requires.types) (c.in_ok-material-2.ensures ∙ c.deref.ensures.value ∙ c.in_ok-material.ensures) c.is_left.ensures
    (subst (λ (l : Local). l.srtcp_index ≤ 2 ^ 31) same c.get.ensures.bounded) (subst (λ (v : EndSession). SessionStands v (fresh_session config)) (sym c.deref_mut.ensures.value) c.in_ok-session.ensures) c.in-Ok.ensures.ok
