use Rattle.media_laws.proofs.RepairedTranscript.{repairs_happen}
use Rattle.media_laws.proofs.Wire.{wire_laws}
use Rattle.media_laws.specs.Keys.{sealing_of}
use Rattle.media_laws.specs.RepairedRun.{setup}
use Rattle.media_laws.proofs.WireLaws.{WireLaws}
use Rattle.media_laws.proofs.laws.repairs_happen_in_runs.Goals as goal

pub returns : goal.returns
returns g c =
    let cipher = g.C.SrtpCipher.meaning in
    let wire : WireLaws (sealing_of cipher setup) setup =
    wire_laws cipher setup c.header_reads_own_bytes.ensures c.headers_are_as_long.ensures.few
    c.rtp_seals_apart.ensures c.rtp_seal_keeps_header.ensures in
    repairs_happen cipher wire c.rtcp_states.ensures
