-- A run of two sessions in which a packet is lost, asked for, repaired and yielded.
use Rattle.std.specs.Prelude.{◌≡◌, ℕ, List, [], ◌∷◌, None}
use Rattle.rtp_base.specs.declared.kind.Kind.TheVariants.{Rtp, Rtcp}
use Rattle.rtcp_wire.specs.declared.rtcp_fb.RtcpFb.TheVariants.{Nack}
use Rattle.media_model.specs.declared.entry.Side.TheVariants.{A, B}
use Rattle.media_model.specs.declared.entry.Opened.{Opened as OpenedEntry}
use Rattle.media_model.specs.declared.entry.Sealed.{Sealed as SealedEntry}
use Rattle.media_model.specs.declared.entry.Entry.{Entry}
use Rattle.media_model.specs.declared.entry.Entry.TheVariants.{Sealed, Opened, Yielded}
use Rattle.media_model.specs.declared.step.Step.{Step}
use Rattle.media_model.specs.Genuine.{IsGenuine}
use Rattle.run_model.specs.Listing.{IsIn}
use Rattle.run_model.specs.Transcripts.{feedback_in}
use Rattle.run_model.specs.Widening.{RunWidens}
use Rattle.setup_rules.specs.SetupRules.{setup_fault}
use Rattle.media_laws.specs.Opening.{Sealing}
use Rattle.media_laws.specs.Plain.{as_packet}
use Rattle.media_laws.specs.Play.{Played}
use Rattle.run_model.specs.Transcripts.{happenings}
use Rattle.media_laws.specs.Config.{config_of}
use Rattle.media_laws.specs.RepairedRun.{setup, request, write_numbered, IsRepairedRun}

-- A sealed an RTP datagram under an SSRC and an index
pub record Seals (entries : List Entry) (r n : ℕ) : Type 0 where
  pub entry : SealedEntry
  pub there : IsIn (Sealed entry) entries
  pub side : entry.side ≡ A
  pub kind : entry.kind ≡ Rtp
  pub ssrc : entry.ssrc ≡ r
  pub index : entry.index ≡ n

-- A opened RTCP whose feedback is a NACK that names number 2 alone
pub record HearsRequest (entries : List Entry) : Type 0 where
  pub entry : OpenedEntry
  pub there : IsIn (Opened entry) entries
  pub side : entry.side ≡ A
  pub kind : entry.kind ≡ Rtcp
  pub feedback : feedback_in entry.plain ≡ Nack 42 (request ∷ []) ∷ []

-- B opened an RTP datagram under an SSRC and an index
pub record IsOpened (r n : ℕ) (entry : OpenedEntry) : Type 0 where
  pub side : entry.side ≡ B
  pub kind : entry.kind ≡ Rtp
  pub ssrc : entry.ssrc ≡ r
  pub index : entry.index ≡ n

-- There is a genuine run of the setup, which breaks no rule, whose repairs widen. In it A seals
-- packet 2, B never opens that, A hears a NACK that names it alone and seals a repair, B opens that
-- and yields the packet. As it is read it meets the premises of the laws of plain sessions.
pub record RepairsHappenIn (seal : Sealing) : Type 0 where
  pub steps : List Step
  pub entries : List Entry
  pub fine : setup_fault setup ≡ None
  pub played : Played seal setup steps entries
  pub genuine : IsGenuine entries
  pub widens : RunWidens setup entries
  pub sent : Seals entries 42 2
  pub lost : (entry : OpenedEntry) → IsIn (Opened entry) entries → IsOpened 42 2 entry → ⊥
  pub asked : HearsRequest entries
  pub repaired : Seals entries 43 5
  pub repair : OpenedEntry
  pub opened : IsIn (Opened repair) entries
  pub is_repair : IsOpened 43 5 repair
  pub yielded : IsIn (Yielded B (as_packet (write_numbered 2))) entries
  pub plain : IsRepairedRun (config_of seal setup) (happenings setup entries)
