use Rattle.media_laws.specs.Keys.{sealing_of}
use Rattle.media_laws.proofs.WireLaws.{WireLaws}
use Rattle.media_laws.proofs.Cuts.{holds_to_key}
use Rattle.media_laws.proofs.Fronts.{holds_of_front}
use Rattle.media_laws.proofs.Holding.{holds_of_run}
use Rattle.media_laws.proofs.Soundness.{sound_config}
use Rattle.media_laws.proofs.Wire.{wire_laws}
use Rattle.media_laws.proofs.laws.holds_of_run.Goals as goal

pub returns-clause-whole : goal.returns-clause-whole
returns-clause-whole g c setup steps entries fine played =
    let wire : WireLaws (sealing_of g.C.SrtpCipher.meaning setup) setup = wire_laws g.C.SrtpCipher.meaning setup c.header_reads_own_bytes.ensures c.headers_are_as_long.ensures.few c.rtp_seals_apart.ensures c.rtp_seal_keeps_header.ensures in
    holds_of_run wire fine played.plays

pub returns-clause-front : goal.returns-clause-front
returns-clause-front g c setup steps front rest fine played =
    let wire : WireLaws (sealing_of g.C.SrtpCipher.meaning setup) setup = wire_laws g.C.SrtpCipher.meaning setup c.header_reads_own_bytes.ensures c.headers_are_as_long.ensures.few c.rtp_seals_apart.ensures c.rtp_seal_keeps_header.ensures in
    holds_of_front front rest (sound_config wire fine) played.plays (holds_of_run wire fine played.plays)

pub returns-clause-exhausted : goal.returns-clause-exhausted
returns-clause-exhausted g c setup steps past step side counter told fine played e =
    let wire : WireLaws (sealing_of g.C.SrtpCipher.meaning setup) setup = wire_laws g.C.SrtpCipher.meaning setup c.header_reads_own_bytes.ensures c.headers_are_as_long.ensures.few c.rtp_seals_apart.ensures c.rtp_seal_keeps_header.ensures in
    holds_to_key wire fine steps past step side counter told played e
